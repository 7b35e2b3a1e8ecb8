-- The parts of which what is written is made.
use Prim.Native.Nat.{ℕ}
use mathlib.Core.Path.{◌≡◌, refl, sym, ap, ◌∙◌}
use mathlib.Core.List.{List, [], ◌∷◌, ◌++◌, map, append_assoc, append-nil}
use Rattle.text.specs.Literal.{ascii}
use Rattle.writing.specs.Pieces.{Piece, spelled, further}
use Rattle.writing.proofs.FurtherLaws.{further-append}
use Rattle.spelling.proofs.PutLaws.{Made, joined}

pub string-made : {bytes part : List ℕ} → part ≡ bytes → Made (further (Piece.string bytes ∷ [])) (ascii " \"" ∷ part ∷ ascii "\"" ∷ [])
unfolding further spelled joined
string-made e = record { parts_of = rw e (simp (append_assoc, append-nil)) }

-- what is written of a value, where the value is known
pub of_form : {A : Type 0} {x y : A} {bytes : List ℕ} (f : A → List Piece) → x ≡ y → further (f y) ≡ bytes → Made (further (f x)) (bytes ∷ [])
unfolding joined
of_form f e h = record { parts_of = ap (λ x. further (f x)) e ∙ h ∙ sym (append-nil _) }

-- pieces one behind the other
unfoldable pub chained : List (List Piece) → List Piece
chained [] = []
chained (ps ∷ pss) = ps ++ chained pss

further-chained : (pss : List (List Piece)) → further (chained pss) ≡ joined (map further pss)
unfolding chained joined further
further-chained [] = refl
further-chained (ps ∷ pss) = further-append ps (chained pss) ∙ ap (λ (xs : List ℕ). further ps ++ xs) (further-chained pss)

pub made_of : (whole : List Piece) (pss : List (List Piece)) → whole ≡ chained pss → Made (further whole) (map further pss)
made_of whole pss e = record { parts_of = ap further e ∙ further-chained pss }
