-- Sets of days: what is written so far, and the days from one on.
use Prim.Native.Nat.{ℕ, zero, suc, ◌+◌, ◌-◌, ◌*◌, ◌/◌, ◌%◌, ◌^◌, ◌≤◌, ◌<◌}
use mathlib.Core.Path.{◌≡◌, refl, sym, ap, ◌∙◌}
use mathlib.Core.Bool.{Bool, true, false}
use mathlib.Core.List.{List, [], ◌∷◌, ◌++◌, append_assoc, append-nil}
use native.Mathlib.Omega.{arith}
use lib.Dec.{eqb}
use lib.Pow.{shr-shr}
use borrow.Author.Tests.{eq-eqb, ne_eqb}
use Rattle.text.specs.Bits.{bits_from}
use Rattle.text.specs.Choice.{pick}
use Rattle.text.specs.Literal.{ascii}
use Rattle.text.specs.Part.{part_of}
use Rattle.tokens.specs.Kind.{COMMA}
use Rattle.days.specs.Days.{has_day, days_of, every_day}
use Rattle.model.specs.declared.Days.{Days}
use Rattle.writing.specs.Pieces.{Piece, spelled, spelled_sign, further}
use Rattle.spelling.specs.Put.{Put, Fits, day_name, next_day}
use Rattle.writing.specs.Write.{day_if_in, commas, days_pieces, on_pieces}
use Rattle.spelling.proofs.PutLaws.{Made, joined, put-none, fits-2, put_1, put_2}

-- a day by itself, and behind others
pub day-made : {d : ℕ} {bytes : List ℕ} → d ≤ 6 → bytes ≡ part_of (ascii " mon tue wed thu fri sat sun") (d * 4) (d * 4 + 4) →
    Made (further (Piece.word (day_name d) ∷ [])) (bytes ∷ [])
unfolding further spelled day_name part_of joined
day-made {d = zero} h e = record { parts_of = rw e }
day-made {d = suc zero} h e = record { parts_of = rw e }
day-made {d = suc (suc zero)} h e = record { parts_of = rw e }
day-made {d = suc (suc (suc zero))} h e = record { parts_of = rw e }
day-made {d = suc (suc (suc (suc zero)))} h e = record { parts_of = rw e }
day-made {d = suc (suc (suc (suc (suc zero))))} h e = record { parts_of = rw e }
day-made {d = suc (suc (suc (suc (suc (suc zero)))))} h e = record { parts_of = rw e }
day-made {d = suc (suc (suc (suc (suc (suc (suc d))))))} h e = absurd (omega arith)

pub other-day : (d : ℕ) {some : Bool} → some ≡ true → Made (next_day some d) (ascii " ," ∷ further (Piece.word (day_name d) ∷ []) ∷ [])
unfolding next_day joined
other-day d e = record { parts_of = rw (e, append-nil) }

pub first-day : (d : ℕ) {some : Bool} → some ≡ false → Made (next_day some d) (further (Piece.word (day_name d) ∷ []) ∷ [])
unfolding next_day joined
first-day d e = record { parts_of = rw (e, append-nil) }

-- The bytes of the days from d on, as the loop writes them: their bits are those of left, the first the lowest.
unfoldable pub days_from : Bool → ℕ → ℕ → ℕ → List ℕ
days_from some left d zero = []
days_from some left d (suc count) =
    pick (eqb (left % 2) 1) (next_day some d ++ days_from true (left / 2) (d + 1) count) (days_from some (left / 2) (d + 1) count)

-- the same days as pieces
from_day : Days → ℕ → ℕ → List Piece
from_day days d zero = []
from_day days d (suc count) = day_if_in days d (day_name d) ++ from_day days (d + 1) count

-- pieces with a comma before each, or between them
commas_before : List Piece → List ℕ
commas_before [] = []
commas_before (p ∷ ps) = ascii " ," ++ further (p ∷ []) ++ commas_before ps

listed : Bool → List Piece → List ℕ
listed true ps = commas_before ps
listed false ps = further (commas ps)

commas-more : (p q : Piece) (ps : List Piece) → commas (p ∷ q ∷ ps) ≡ p ∷ Piece.sign COMMA ∷ commas (q ∷ ps)
unfolding commas
commas-more p q ps = refl

further-comma : (p : Piece) (ps : List Piece) → further (p ∷ Piece.sign COMMA ∷ ps) ≡ further (p ∷ []) ++ (ascii " ," ++ further ps)
unfolding further spelled spelled_sign
further-comma p ps = ap (λ (xs : List ℕ). 0x20 ∷ xs ++ (ascii " ," ++ further ps)) (sym (append-nil (spelled p)))

commas-behind : (p : Piece) (ps : List Piece) → further (commas (p ∷ ps)) ≡ further (p ∷ []) ++ commas_before ps
unfolding commas commas_before
commas-behind p [] = sym (append-nil (further (p ∷ [])))
commas-behind p (q ∷ ps) =
    ap further (commas-more p q ps)
    ∙ further-comma p (commas (q ∷ ps))
    ∙ ap (λ (xs : List ℕ). further (p ∷ []) ++ (ascii " ," ++ xs)) (commas-behind q ps)

listed-none : (some : Bool) → listed some [] ≡ []
unfolding further commas commas_before listed
listed-none true = refl
listed-none false = refl

-- one day more
module _ (d : ℕ) (ps : List Piece) where
  listed-day : (some t : Bool) →
      listed some (pick t (Piece.word (day_name d) ∷ []) [] ++ ps) ≡ pick t (next_day some d ++ listed true ps) (listed some ps)
  unfolding listed commas_before next_day
  listed-day true true = refl
  listed-day false true = commas-behind (Piece.word (day_name d)) ps
  listed-day some false = refl

listed-from : (days : Days) (some : Bool) (d count left : ℕ) → left ≡ days.sum / 2 ^ d →
    listed some (from_day days d count) ≡ days_from some left d count
unfolding from_day days_from day_if_in has_day
listed-from days some d zero left e = listed-none some
listed-from days some d (suc count) left e =
    let half : left / 2 ≡ days.sum / 2 ^ (d + 1) = ap (λ (n : ℕ). n / 2) e ∙ shr-shr days.sum d 1 in
    listed-day d (from_day days (d + 1) count) some (has_day days d)
    ∙ rw (← e, listed-from days true (d + 1) count (left / 2) half, listed-from days some (d + 1) count (left / 2) half)

pub days_from_lem : (days : Days) → further (days_pieces days) ≡ days_from false days.sum 0 7
unfolding days_pieces from_day listed day_name
days_from_lem days = simp (append_assoc, append-nil) refl ∙ listed-from days false 0 7 days.sum (omega arith)

-- The loop over the days: part is written so far, and those from d on are to come.
pub record Going (before : List ℕ) (from : ℕ) (days : Days) (after : List ℕ) (to : ℕ) (some : Bool) (left d : ℕ) : Type 0 where
  pub few : d ≤ 7
  pub part : List ℕ
  pub made : Made (further (days_pieces days)) (part ∷ days_from some left d (7 - d) ∷ [])
  pub put : Put before from part after to

pub none_written : (b : List ℕ) (a : ℕ) (days : Days) → Going b a days b a false days.sum 0
unfolding joined
none_written b a days =
    record { few = omega arith; part = []; made = record { parts_of = days_from_lem days ∙ sym (append-nil _) }; put = put-none }

module _ {b b₁ : List ℕ} {a a₁ : ℕ} {days : Days} {some : Bool} {left d : ℕ} (g : Going b a days b₁ a₁ some left d) where
  pub all-written : 7 ≤ d → Put b a (further (days_pieces days)) b₁ a₁
  unfolding joined days_from
  all-written h =
      let few = g.few in
      let last : d ≡ 7 = omega arith in
      let none : days_from some left d (7 - d) ≡ [] = rw last in
      put_1 (record { parts_of = g.made.parts_of ∙ rw none }) b b₁ a a₁ g.put

  -- a turn
  module _ (h : d < 7) where
    turn : days_from some left d (7 - d)
        ≡ pick (eqb (left % 2) 1) (next_day some d ++ days_from true (left / 2) (d + 1) (7 - (d + 1))) (days_from some (left / 2) (d + 1) (7 - (d + 1)))
    unfolding days_from
    turn = let e : 7 - d ≡ suc (7 - (d + 1)) = omega arith in ap (days_from some left d) e

    -- without this day
    pub day-out : (left % 2 ≡ 1 → ⊥) → Going b a days b₁ a₁ some (left / 2) (d + 1)
    day-out n =
        record {
          few = omega arith;
          part = g.part;
          made = record { parts_of = g.made.parts_of ∙ rw (turn, ne_eqb (left % 2) 1 n) };
          put = g.put;
        }

    -- with it
    module _ (e : left % 2 ≡ 1) where
      parts : Made (further (days_pieces days)) (g.part ∷ next_day some d ∷ days_from true (left / 2) (d + 1) (7 - (d + 1)) ∷ [])
      unfolding joined
      parts = record { parts_of = g.made.parts_of ∙ rw (turn, eq-eqb (left % 2) 1 e) (simp append_assoc) }

      pub day-fits : Fits b a (further (days_pieces days)) → Fits b₁ a₁ (next_day some d)
      day-fits f = fits-2 parts b b₁ a a₁ f g.put

      pub day_in : {b₂ : List ℕ} {a₂ : ℕ} → Put b₁ a₁ (next_day some d) b₂ a₂ → Going b a days b₂ a₂ true (left / 2) (d + 1)
      unfolding joined
      day_in {b₂} {a₂} p =
          record {
            few = omega arith;
            part = g.part ++ next_day some d;
            made = record { parts_of = parts.parts_of ∙ simp append_assoc };
            put = put_2 (record { parts_of = simp append-nil }) b b₁ b₂ a a₁ a₂ g.put p;
          }

-- "and `on` only if fewer than seven"
pub no_on : {days : Days} → days.sum ≡ 127 → further (on_pieces days) ≡ []
unfolding further on_pieces every_day days_of bits_from
no_on {days} e = rw (eq-eqb days.sum 127 e)

pub on-made : {days : Days} → (days.sum ≡ 127 → ⊥) → Made (further (on_pieces days)) (ascii " on" ∷ further (days_pieces days) ∷ [])
unfolding further spelled on_pieces every_day days_of bits_from joined
on-made {days} n = record { parts_of = rw (ne_eqb days.sum 127 n) (simp append-nil) }
