-- The parts of a whole rule: its entries, each behind a word.
use Prim.Native.Nat.{ℕ, ◌+◌, ◌<◌, ◌≤◌}
use mathlib.Core.Path.{◌≡◌, refl, sym, ap, ◌∙◌}
use mathlib.Core.Bool.{true}
use mathlib.Core.List.{List, [], ◌∷◌, ◌++◌, map, append_assoc, append-nil}
use native.Mathlib.Numerals.{add-one}
use native.Mathlib.Omega.{arith}
use lib.Dec.{leb}
use lib.ListN.{length, get_or, take, drop, drop_of_length-le, length-take, length-map}
use lib.Seq.{drop-cons, get_or-take}
use borrow.Author.Tests.{eq-eqb, ne_eqb, leb-true}
use Rattle.text.specs.Choice.{within}
use Rattle.text.specs.Literal.{ascii}
use Rattle.text.proofs.Tests.{both}
use Rattle.topics.specs.Ranges.{name_in}
use Rattle.language.specs.Limits.{most_triggers, most_ands}
use Rattle.writing.specs.Pieces.{Piece, spelled, spaced, further}
use Rattle.writing.specs.Write.{trigger_pieces, condition_pieces}
use Rattle.writing.specs.Writing.{behind_each, if_pieces, rule_pieces, triggers_in, conditions_in, possible_counts, text_of, trigger_from_pieces, condition_from_pieces, list_pieces}
use Rattle.writing.specs.declared.TriggerFrom.{TriggerFrom}
use Rattle.writing.specs.declared.ConditionFrom.{ConditionFrom}
use Rattle.writing.specs.declared.Lists.{Lists}
use Rattle.writing.proofs.FurtherLaws.{further-append, spaced-further}
use Rattle.spelling.specs.Put.{Put, Fits}
use Rattle.spelling.proofs.PutLaws.{Made, joined, put-none, fits-2, put_1, put_2}
use Rattle.spelling.proofs.FormLaws.{of_form}

-- an entry, whose names stand in the first text or in the second
module _ (primary : ℕ) (first second : List ℕ) where
  in_first : {from : ℕ} → from ≡ 1 → text_of first second from ≡ first
  unfolding text_of
  in_first {from} e = rw (eq-eqb from 1 e)

  in_second : {from : ℕ} → (from ≡ 1 → ⊥) → text_of first second from ≡ second
  unfolding text_of
  in_second {from} n = rw (ne_eqb from 1 n)

  pub first_trigger_lem : (x : TriggerFrom) → x.from ≡ 1 →
      Made (further (trigger_from_pieces first second primary x)) (further (trigger_pieces primary (name_in first) x.trigger) ∷ [])
  first_trigger_lem x e = of_form (λ (text : List ℕ). trigger_pieces primary (name_in text) x.trigger) (in_first e) refl

  pub second-trigger : (x : TriggerFrom) → (x.from ≡ 1 → ⊥) →
      Made (further (trigger_from_pieces first second primary x)) (further (trigger_pieces primary (name_in second) x.trigger) ∷ [])
  second-trigger x n = of_form (λ (text : List ℕ). trigger_pieces primary (name_in text) x.trigger) (in_second n) refl

  pub first_condition_lem : (y : ConditionFrom) → y.from ≡ 1 →
      Made (further (condition_from_pieces first second primary y)) (further (condition_pieces primary (name_in first) y.condition) ∷ [])
  first_condition_lem y e = of_form (λ (text : List ℕ). condition_pieces primary (name_in text) y.condition) (in_first e) refl

  pub second-condition : (y : ConditionFrom) → (y.from ≡ 1 → ⊥) →
      Made (further (condition_from_pieces first second primary y)) (further (condition_pieces primary (name_in second) y.condition) ∷ [])
  second-condition y n = of_form (λ (text : List ℕ). condition_pieces primary (name_in text) y.condition) (in_second n) refl

-- an entry behind a word
pub behind-made : (w : List ℕ) (ps : List Piece) → Made (further (Piece.word w ∷ ps)) ((0x20 ∷ w) ∷ further ps ∷ [])
unfolding further spelled joined
behind-made w ps = record { parts_of = ap (λ (xs : List ℕ). 0x20 ∷ w ++ xs) (sym (append-nil (further ps))) }

-- entries of a list, each behind the same word
abbrev pub each_of : {A : Type 0} → (A → List Piece) → List ℕ → List A → List ℕ
each_of pieces w xs = further (behind_each w (map pieces xs))

-- The loop over the entries of a list of at most four, from the second on: part is written so far, and those from i on are to come.
pub record Going {A : Type 0} (pieces : A → List Piece) (w : List ℕ) (count : ℕ) (rows : List A) (before : List ℕ) (from : ℕ) (after : List ℕ)
    (to i : ℕ) : Type 0 where
  pub all : length rows ≡ most_triggers
  pub few : count ≤ most_triggers
  pub part : List ℕ
  pub made : Made (each_of pieces w (drop 1 (take count rows))) (part ∷ each_of pieces w (drop i (take count rows)) ∷ [])
  pub put : Put before from part after to

module _ {A : Type 0} (pieces : A → List Piece) (w : List ℕ) (count : ℕ) (rows : List A) where
  pub none_written : (b : List ℕ) (a : ℕ) → length rows ≡ most_triggers → count ≤ most_triggers → Going pieces w count rows b a b a 1
  unfolding joined
  none_written b a e h = record { all = e; few = h; part = []; made = record { parts_of = sym (append-nil _) }; put = put-none }

-- the entry at i, with those behind it
module _ {A : Type 0} (pieces : A → List Piece) (w : List ℕ) where
  each_from : (x : A) (xs : List A) →
      each_of pieces w (x ∷ xs) ≡ further (Piece.word w ∷ pieces x) ++ each_of pieces w xs
  unfolding behind_each further
  each_from x xs =
      ap (λ (l : List ℕ). 0x20 ∷ spelled (Piece.word w) ++ l) (further-append (pieces x) (behind_each w (map pieces xs)))
      ∙ ap (λ (l : List ℕ). 0x20 ∷ l) (sym (append_assoc (spelled (Piece.word w)) (further (pieces x)) (each_of pieces w xs)))

pub entry_at : {A : Type 0} (count : ℕ) (rows : List A) (i : ℕ) (unused : A) → length rows ≡ most_triggers → count ≤ most_triggers → i < count →
    drop i (take count rows) ≡ get_or rows i unused ∷ drop (i + 1) (take count rows)
entry_at count rows i unused all few here =
    let long : i < length (take count rows) = simp length-take (omega arith) in
    rw (drop-cons (take count rows) i unused long, get_or-take, add-one i)

module _ {A : Type 0} {pieces : A → List Piece} {w : List ℕ} {count : ℕ} {rows : List A} {b b₁ : List ℕ} {a a₁ i : ℕ}
    (g : Going pieces w count rows b a b₁ a₁ i) where
  pub all-written : count ≤ i → Put b a (each_of pieces w (drop 1 (take count rows))) b₁ a₁
  unfolding joined behind_each further
  all-written h =
      let all = g.all in
      let past : length (take count rows) ≤ i = simp length-take (omega arith) in
      put_1 (record { parts_of = g.made.parts_of ∙ rw (drop_of_length-le (take count rows) past) }) b b₁ a a₁ g.put

  -- a turn
  module _ (h : i < count) (unused : A) where
    parts : Made (each_of pieces w (drop 1 (take count rows)))
        (g.part ∷ further (Piece.word w ∷ pieces (get_or rows i unused)) ∷ each_of pieces w (drop (i + 1) (take count rows)) ∷ [])
    unfolding joined
    parts =
        record {
          parts_of =
              g.made.parts_of
              ∙ rw (entry_at count rows i unused g.all g.few h, each_from pieces w (get_or rows i unused) (drop (i + 1) (take count rows)))
              (simp append_assoc);
        }

    pub entry-fits : Fits b a (each_of pieces w (drop 1 (take count rows))) → Fits b₁ a₁ (further (Piece.word w ∷ pieces (get_or rows i unused)))
    entry-fits f = fits-2 parts b b₁ a a₁ f g.put

    pub entry_in : {b₂ : List ℕ} {a₂ : ℕ} → Put b₁ a₁ (further (Piece.word w ∷ pieces (get_or rows i unused))) b₂ a₂ →
        Going pieces w count rows b a b₂ a₂ (i + 1)
    unfolding joined
    entry_in {b₂} {a₂} p =
        record {
          all = g.all;
          few = g.few;
          part = g.part ++ further (Piece.word w ∷ pieces (get_or rows i unused));
          made = record { parts_of = parts.parts_of ∙ simp append_assoc };
          put = put_2 (record { parts_of = simp append-nil }) b b₁ b₂ a a₁ a₂ g.put p;
        }

-- ---- lists with their first entry

module _ {A : Type 0} (pieces : A → List Piece) (count : ℕ) (rows : List A) (all : length rows ≡ most_triggers) (few : count ≤ most_triggers) where
  -- the first entry, with those behind it
  entries : 1 ≤ count → (unused : A) → take count rows ≡ get_or rows 0 unused ∷ drop 1 (take count rows)
  entries h unused = entry_at count rows 0 unused all few (omega arith)

  pub triggers-made : 1 ≤ count → (w : List ℕ) (unused : A) →
      Made (spaced (behind_each w (map pieces (take count rows))))
      (w ∷ further (pieces (get_or rows 0 unused)) ∷ each_of pieces w (drop 1 (take count rows)) ∷ [])
  unfolding joined behind_each spelled
  triggers-made h w unused =
      record {
        parts_of =
            ap (λ (xs : List A). spaced (behind_each w (map pieces xs))) (entries h unused)
            ∙ spaced-further (Piece.word w) (pieces (get_or rows 0 unused) ++ behind_each w (map pieces (drop 1 (take count rows))))
            ∙ ap (λ (l : List ℕ). w ++ l)
            (further-append (pieces (get_or rows 0 unused)) (behind_each w (map pieces (drop 1 (take count rows)))) ∙ simp append-nil);
      }

  pub conditions-made : (count ≡ 0 → ⊥) → (unused : A) →
      Made (further (if_pieces (map pieces (take count rows))))
      (ascii " if" ∷ further (pieces (get_or rows 0 unused)) ∷ each_of pieces (ascii "and") (drop 1 (take count rows)) ∷ [])
  unfolding joined if_pieces further spelled
  conditions-made n unused =
      record {
        parts_of =
            ap (λ (xs : List A). further (if_pieces (map pieces xs))) (entries (omega (arith, n)) unused)
            ∙ ap (λ (l : List ℕ). ascii " if" ++ l)
            (further-append (pieces (get_or rows 0 unused)) (behind_each (ascii "and") (map pieces (drop 1 (take count rows)))) ∙ simp append-nil);
      }

pub no_conditions : {A : Type 0} (pieces : A → List Piece) (rows : List A) {count : ℕ} → count ≡ 0 →
    further (if_pieces (map pieces (take count rows))) ≡ []
unfolding if_pieces further
no_conditions pieces rows e = rw e

-- ---- a whole rule

spaced-append : (p : Piece) (ps qs : List Piece) → spaced (p ∷ ps ++ qs) ≡ spaced (p ∷ ps) ++ further qs
spaced-append p ps qs =
    spaced-further p (ps ++ qs)
    ∙ ap (λ (l : List ℕ). spelled p ++ l) (further-append ps qs)
    ∙ sym (append_assoc (spelled p) (further ps) (further qs))
    ∙ ap (λ (l : List ℕ). l ++ further qs) (sym (spaced-further p ps))

rule-spaced : (w : List ℕ) (triggers : List (List Piece)) (qs : List Piece) → 1 ≤ length triggers →
    spaced (behind_each w triggers ++ qs) ≡ spaced (behind_each w triggers) ++ further qs
unfolding behind_each
rule-spaced w [] qs h = absurd (omega arith)
rule-spaced w (ps ∷ pss) qs h = spaced-append (Piece.word w) (ps ++ behind_each w pss) qs

pub rule-made : (primary : ℕ) (first second : List ℕ) (l : Lists) → length l.triggers.rows ≡ most_triggers → 1 ≤ l.triggers.count →
    Made (spaced (list_pieces first second primary l))
    (spaced (behind_each (ascii "when") (map (trigger_from_pieces first second primary) (triggers_in l)))
    ∷ further (if_pieces (map (condition_from_pieces first second primary) (conditions_in l)))
    ∷ [])
unfolding joined list_pieces rule_pieces
rule-made primary first second l all some =
    let long : 1 ≤ length (map (trigger_from_pieces first second primary) (triggers_in l)) = simp (length-map, length-take) (omega arith) in
    record {
      parts_of =
          rule-spaced (ascii "when") (map (trigger_from_pieces first second primary) (triggers_in l))
          (if_pieces (map (condition_from_pieces first second primary) (conditions_in l))) long
          ∙ simp append-nil;
    }

pub some-triggers : (l : Lists) → possible_counts l ≡ true → 1 ≤ l.triggers.count
unfolding possible_counts
some-triggers l possible =
    let inside = (both (within 1 most_triggers l.triggers.count) {u = leb l.conditions.count (most_ands + 1)} possible).0 in
    leb-true 1 l.triggers.count (both (leb 1 l.triggers.count) inside).0
