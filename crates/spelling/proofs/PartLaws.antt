-- The parts of which what is written is made: bytes that stand in the code, and what is written by another function, one law for each function of parts.rt.
use Rattle.std.specs.Prelude.{Option}
use Prim.Native.Nat.{ℕ}
use mathlib.Core.Path.{◌≡◌, sym, ap, subst}
use mathlib.Core.List.{List, [], ◌∷◌, ◌++◌, append_assoc, append-nil}
use lib.IntN.{ℤ}
use borrow.Author.Tests.{eq-eqb, ne_eqb}
use Rattle.text.specs.Literal.{ascii}
use Rattle.tokens.specs.Kind.{OPEN, CLOSE, COMMA, ASSIGN}
use Rattle.topics.specs.Ranges.{name_in}
use Rattle.model.specs.declared.InputRef.{InputRef}
use Rattle.model.specs.declared.Name.{Name}
use Rattle.model.specs.declared.Ref.{Ref}
use Rattle.model.specs.declared.Selector.{Selector}
use Rattle.model.specs.declared.SolarEvent.{SolarEvent}
use Rattle.model.specs.declared.TimeBound.{TimeBound}
use Rattle.writing.specs.Pieces.{Piece, spelled, spelled_sign, further}
use Rattle.writing.specs.Write.{offset_pieces, adapter_pieces, ref_pieces, device_pieces, instance_pieces, input_pieces, type_pieces, selector_pieces, name_pieces, bound_pieces, solar_word}
use Rattle.writing.proofs.FurtherLaws.{further-append}
use Rattle.spelling.proofs.PutLaws.{Made, joined}
use Rattle.spelling.proofs.FormLaws.{of_form, chained, made_of}

-- a name between words
pub named-bytes : (w : List ℕ) (bytes : Name → List ℕ) (n : Name) (ps : List Piece) →
    further (Piece.word w ∷ name_pieces bytes n ++ ps) ≡ (0x20 ∷ w) ++ (further (name_pieces bytes n) ++ further ps)
unfolding further spelled
named-bytes w bytes n ps = ap (λ (xs : List ℕ). 0x20 ∷ w ++ xs) (further-append (name_pieces bytes n) ps)

-- "with `adapter=` only where the adapter is not the primary"
pub adapter-same : (primary a : ℕ) → a ≡ primary → Made (further (adapter_pieces primary a)) ([] ∷ [])
unfolding further spelled adapter_pieces joined
adapter-same primary a e = record { parts_of = rw (eq-eqb a primary e) }

pub adapter-other : (primary a : ℕ) → (a ≡ primary → ⊥) →
    Made (further (adapter_pieces primary a)) ((ascii " , adapter =" ++ further (Piece.integer a ∷ [])) ∷ [])
unfolding further spelled spelled_sign adapter_pieces joined
adapter-other primary a e = record { parts_of = rw (ne_eqb a primary e) (sym (append-nil _)) }

pub argument-made : (before : List ℕ) (n : ℕ) → Made (before ++ further (Piece.integer n ∷ [])) (before ∷ (further (Piece.integer n ∷ [])) ∷ [])
unfolding joined
argument-made before n = record { parts_of = ap (λ (xs : List ℕ). before ++ xs) (sym (append-nil _)) }

pub close-made : (primary : ℕ) (adapter : ℕ) → Made (further (adapter_pieces primary adapter ++ Piece.sign CLOSE ∷ [])) ((further (adapter_pieces primary adapter)) ∷ (ascii " )") ∷ [])
unfolding chained further spelled spelled_sign
close-made primary adapter = made_of (adapter_pieces primary adapter ++ Piece.sign CLOSE ∷ []) ((adapter_pieces primary adapter) ∷ (Piece.sign CLOSE ∷ []) ∷ []) (simp (append_assoc, append-nil))

pub ref_made : (primary : ℕ) (r : Ref) → Made (further (ref_pieces primary r)) ((ascii " (" ++ further (Piece.integer r.number ∷ [])) ∷ (further (adapter_pieces primary r.adapter ++ Piece.sign CLOSE ∷ [])) ∷ [])
unfolding chained further spelled spelled_sign ref_pieces
ref_made primary r = made_of (ref_pieces primary r) ((Piece.sign OPEN ∷ Piece.integer r.number ∷ []) ∷ (adapter_pieces primary r.adapter ++ Piece.sign CLOSE ∷ []) ∷ []) (simp (append_assoc, append-nil))

pub reference-made : (before : List ℕ) (primary : ℕ) (r : Ref) → Made (before ++ further (ref_pieces primary r)) (before ∷ (further (ref_pieces primary r)) ∷ [])
unfolding joined
reference-made before primary r = record { parts_of = ap (λ (xs : List ℕ). before ++ xs) (sym (append-nil _)) }

pub device-made : (primary : ℕ) (r : Ref) → Made (further (device_pieces primary r)) ((ascii " ( dev =" ++ further (Piece.integer r.number ∷ [])) ∷ (further (adapter_pieces primary r.adapter ++ Piece.sign CLOSE ∷ [])) ∷ [])
unfolding chained further spelled spelled_sign device_pieces
device-made primary r = made_of (device_pieces primary r) ((Piece.sign OPEN ∷ Piece.word (ascii "dev") ∷ Piece.sign ASSIGN ∷ Piece.integer r.number ∷ []) ∷ (adapter_pieces primary r.adapter ++ Piece.sign CLOSE ∷ []) ∷ []) (simp (append_assoc, append-nil))

pub instance-made : (primary : ℕ) (r : Ref) (instance : ℕ) → Made (further (instance_pieces primary r instance)) ((ascii " ( dev =" ++ further (Piece.integer r.number ∷ [])) ∷ (ascii " , inst =" ++ further (Piece.integer instance ∷ [])) ∷ (further (adapter_pieces primary r.adapter ++ Piece.sign CLOSE ∷ [])) ∷ [])
unfolding chained further spelled spelled_sign instance_pieces
instance-made primary r instance = made_of (instance_pieces primary r instance) ((Piece.sign OPEN ∷ Piece.word (ascii "dev") ∷ Piece.sign ASSIGN ∷ Piece.integer r.number ∷ []) ∷ (Piece.sign COMMA ∷ Piece.word (ascii "inst") ∷ Piece.sign ASSIGN ∷ Piece.integer instance ∷ []) ∷ (adapter_pieces primary r.adapter ++ Piece.sign CLOSE ∷ []) ∷ []) (simp (append_assoc, append-nil))

pub instances-made : (primary : ℕ) (adapter : ℕ) (group : ℕ) (of : Option ℕ) → Made (further (selector_pieces primary (Selector.Group adapter group of))) ((ascii " ( group =" ++ further (Piece.integer group ∷ [])) ∷ (further (type_pieces of)) ∷ (further (adapter_pieces primary adapter ++ Piece.sign CLOSE ∷ [])) ∷ [])
unfolding chained further spelled spelled_sign selector_pieces
instances-made primary adapter group of = made_of (selector_pieces primary (Selector.Group adapter group of)) ((Piece.sign OPEN ∷ Piece.word (ascii "group") ∷ Piece.sign ASSIGN ∷ Piece.integer group ∷ []) ∷ (type_pieces of) ∷ (adapter_pieces primary adapter ++ Piece.sign CLOSE ∷ []) ∷ []) (simp (append_assoc, append-nil))

pub input-made : (primary : ℕ) (r : InputRef) → Made (further (input_pieces primary r)) ((ascii " input") ∷ (further (instance_pieces primary r.device r.instance)) ∷ [])
unfolding chained further spelled spelled_sign input_pieces
input-made primary r = made_of (input_pieces primary r) ((Piece.word (ascii "input") ∷ []) ∷ (instance_pieces primary r.device r.instance) ∷ []) (simp (append_assoc, append-nil))

pub name-made : (text : List ℕ) (name : Name) → Made (further (name_pieces (name_in text) name)) ((ascii " (") ∷ (further (Piece.string (name_in text name) ∷ [])) ∷ (ascii " )") ∷ [])
unfolding chained further spelled spelled_sign name_pieces
name-made text name = made_of (name_pieces (name_in text) name) ((Piece.sign OPEN ∷ []) ∷ (Piece.string (name_in text name) ∷ []) ∷ (Piece.sign CLOSE ∷ []) ∷ []) (simp (append_assoc, append-nil))

pub named-made : (before : List ℕ) (text : List ℕ) (name : Name) (behind : List ℕ) → Made (before ++ (further (name_pieces (name_in text) name) ++ behind)) (before ∷ (further (name_pieces (name_in text) name)) ∷ behind ∷ [])
unfolding joined
named-made before text name behind = record { parts_of = ap (λ (xs : List ℕ). before ++ (further (name_pieces (name_in text) name) ++ xs)) (sym (append-nil behind)) }

pub solar-made : (event : SolarEvent) (offset : ℤ) → Made (further (bound_pieces (TimeBound.Solar event offset))) ((further (Piece.word (solar_word event) ∷ [])) ∷ (further (offset_pieces offset)) ∷ [])
unfolding chained further spelled spelled_sign bound_pieces
solar-made event offset = made_of (bound_pieces (TimeBound.Solar event offset)) ((Piece.word (solar_word event) ∷ []) ∷ (offset_pieces offset) ∷ []) (simp (append_assoc, append-nil))

pub bound-held : {x : TimeBound} {event : SolarEvent} {offset held : ℤ} → x ≡ TimeBound.Solar event offset → held ≡ offset →
    Made (further (bound_pieces x)) (further (bound_pieces (TimeBound.Solar event held)) ∷ [])
bound-held {event = event} e h = of_form bound_pieces e (ap (λ (z : ℤ). further (bound_pieces (TimeBound.Solar event z))) (sym h))

-- the same with an offset as the machine held it
pub solar-held : (event : SolarEvent) (offset : ℤ) {held : ℤ} → held ≡ offset →
    Made (further (bound_pieces (TimeBound.Solar event offset))) (further (Piece.word (solar_word event) ∷ []) ∷ further (offset_pieces held) ∷ [])
solar-held event offset e =
    subst (λ (z : ℤ). Made (further (bound_pieces (TimeBound.Solar event offset))) (further (Piece.word (solar_word event) ∷ []) ∷ further (offset_pieces z) ∷ []))
    (sym e) (solar-made event offset)
