-- Laws on a line's CR, on its fields and on its numbers, and rules by which a search follows the code that reads a line.
-- What a callee answered stands beside its contract, as the code has it.
use mathlib.Core.Path.{◌≡◌, ◌∙◌, refl, sym}
use mathlib.Core.Bool.{Bool, true, false, not}
use mathlib.Core.List.{List, [], ◌∷◌}
use Prim.Native.Nat.{ℕ, ◌+◌, ◌-◌, ◌*◌, ◌<◌, ◌≤◌}
use native.Mathlib.Omega.{arith}
use native.Mathlib.Numerals.{add-one}
use native.Mathlib.Nat.{zero-add}
use lib.ListN.{length, take, drop, get_or, length-drop, drop_of_length-le}
use lib.Seq.{take_all, drop-cons}
use lib.Dec.{ltb, leb, eqb}
use borrow.Author.Tests.{lt-ltb, le-ltb, ltb-false, leb-true, eq-eqb, ne_eqb, not-true, not-false}
use Rattle.std.specs.Prelude.{Option, Some, None, option_and_then}
use Rattle.text.specs.Find.{index_of}
use Rattle.text.specs.Choice.{pick}
use Rattle.text.proofs.Tests.{picked, both, steps, eq_yes, eq_no, eq-told-yes, eq-told-no}
use Rattle.text.specs.Ascii.{is_digit}
use Rattle.text.specs.Find.{first_at}
use Rattle.model.specs.Limits.{last_group, last_short_address, last_adapter}
use Rattle.sheet.specs.Kind.{group_kind, most_of}
use Rattle.sheet.specs.Line.{without_return, field, rest, has_comma, digits_on, numeral}
use Rattle.text.proofs.FindLaws.{first-is}

-- a search of a whole line
pub find-all : (b : ℕ) (l : List ℕ) {r : ℕ} → r ≡ first_at b l 0 → r ≡ index_of b l
find-all b l e = e ∙ first-is b l 0 (omega arith) ∙ zero-add _

-- the first comma is at i: the bytes before it, those behind it, and whether it is there
module _ (l : List ℕ) {i : ℕ} (comma : i ≡ index_of 0x2C l) where
  pub field-slice : take i l ≡ field l
  unfolding field
  field-slice = rw comma

  pub rest-none : length l ≤ i → [] ≡ rest l
  unfolding rest
  rest-none h =
      let k : length l ≤ i + 1 = omega arith in
      rw (← comma, drop_of_length-le l k)

  pub rest-slice : take (length l - (i + 1)) (drop (i + 1) l) ≡ rest l
  unfolding rest
  rest-slice = rw (← comma) (take_all (length l - (i + 1)) (drop (i + 1) l) (simp length-drop (omega arith)))

  pub has-by : ltb i (length l) ≡ has_comma l
  unfolding has_comma
  has-by = rw comma

  pub comma-yes : {A : Type 0} (a b : A) {x : A} → i < length l → x ≡ a → x ≡ pick (has_comma l) a b
  comma-yes a b h e = rw (← has-by, lt-ltb i (length l) h) e

  pub comma-no : {A : Type 0} (a b : A) {x : A} → length l ≤ i → x ≡ b → x ≡ pick (has_comma l) a b
  comma-no a b h e = rw (← has-by, le-ltb i (length l) h) e

  pub comma-there : i < length l → has_comma l ≡ true
  comma-there h = rw (← has-by, lt-ltb i (length l) h)

  pub comma-none : length l ≤ i → has_comma l ≡ false
  comma-none h = rw (← has-by, le-ltb i (length l) h)

-- where there is no comma, nothing is behind it
pub rest-empty : (l : List ℕ) → has_comma l ≡ false → [] ≡ rest l
unfolding has_comma
rest-empty l h = rest-none l refl (ltb-false _ _ h)

-- a line that has no byte, one that ends with CR, and any other, without its CR
pub return_none : (l : List ℕ) → length l ≡ 0 → l ≡ without_return l
unfolding without_return
return_none [] e = refl
return_none (c ∷ l) e = absurd (omega arith)

module _ (l : List ℕ) where
  pub return_off : get_or l (length l - 1) 0 ≡ 0x0D → take (length l - 1) l ≡ without_return l
  unfolding without_return
  return_off h = eq_yes _ _ _ _ h refl

  pub return_not : (get_or l (length l - 1) 0 ≡ 0x0D → ⊥) → l ≡ without_return l
  unfolding without_return
  return_not h = eq_no _ _ _ _ h refl

-- no byte, a zero alone or ahead of others, or digits
pub numeral-none : (l : List ℕ) → length l ≡ 0 → None ≡ numeral l
unfolding numeral
numeral-none [] e = refl
numeral-none (c ∷ l) e = absurd (omega arith)

pub numeral-zero : (l : List ℕ) → get_or l 0 0 ≡ 0x30 → length l ≡ 1 → Some 0 ≡ numeral l
unfolding numeral
numeral-zero [] h e = absurd (omega arith)
numeral-zero (c ∷ l) h e =
    let k : length l ≡ 0 = omega arith in
    rw (eq-eqb c 0x30 h, eq-eqb (length l) 0 k)

pub numeral-more : (l : List ℕ) → get_or l 0 0 ≡ 0x30 → (length l ≡ 1 → ⊥) → None ≡ numeral l
unfolding numeral
numeral-more [] h e = refl
numeral-more (c ∷ l) h e = rw (eq-eqb c 0x30 h, ne_eqb (length l) 0 (λ k. e (omega arith)))

pub numeral_digits : (l : List ℕ) {x : Option ℕ} → (length l ≡ 0 → ⊥) → (get_or l 0 0 ≡ 0x30 → ⊥) → x ≡ digits_on 0 l → x ≡ numeral l
unfolding numeral
numeral_digits [] h k e = absurd (h refl)
numeral_digits (c ∷ l) h k e = rw (ne_eqb c 0x30 k) e

-- the digits from the offset at on, behind those that write v
pub digits_end : (l : List ℕ) (v at : ℕ) {start : Option ℕ} → digits_on v (drop at l) ≡ start → length l ≤ at → Some v ≡ start
unfolding digits_on
digits_end l v at e h = rw (drop_of_length-le l h) at e

-- a byte stands there, which is code for the callees
module _ (l : List ℕ) (v at : ℕ) {code : ℕ} {start : Option ℕ} {r : Bool} (on : digits_on v (drop at l) ≡ start) (inside : at < length l)
    (is : code ≡ get_or l at 0) (digit : r ≡ is_digit code) where
  here : drop at l ≡ code ∷ drop (at + 1) l
  here = rw (is, add-one, drop-cons l at 0)

  pub digits-bad : not r ≡ true → None ≡ start
  unfolding digits_on
  digits-bad h = rw (here, ← digit, not-true r h) at on

  module _ (yes : not r ≡ false) where
    pub digit-from : 0x30 ≤ get_or l at 0
    unfolding is_digit
    digit-from = rw is at (leb-true 0x30 code (both (leb 0x30 code) (sym digit ∙ not-false r yes)).0)

    module _ {d : ℕ} (worth : d ≡ get_or l at 0 - 0x30) where
      pub digits-over : 999 < v * 10 + d → None ≡ start
      unfolding digits_on
      digits-over k = rw (here, ← digit, not-false r yes, is, ← worth, lt-ltb _ _ k) at on

      pub digits_step : v * 10 + d ≤ 999 → digits_on (v * 10 + d) (drop (at + 1) l) ≡ start
      unfolding digits_on
      digits_step k = rw (here, ← digit, not-false r yes, is, ← worth, le-ltb _ _ k) at on

-- no kind has numbers above those of adapters
pub most-small : (kind : ℕ) → most_of kind ≤ last_adapter
unfolding most_of last_group last_short_address
most-small kind = picked (λ (n : ℕ). n ≤ last_adapter) (eqb kind group_kind) (λ _. omega arith) (λ _. omega arith)

-- what holds of no value, and of that which is read of each, holds of what is read of one that may be there
pub given : {A B : Type 0} (P : Option B → Type 0) (f : A → Option B) (x : Option A) → P None → ((a : A) → x ≡ Some a → P (f a)) →
    P (option_and_then f x)
given P f None n s = n
given P f (Some a) n s = s a refl

-- closes what is left of a function that reads a line
pub ruleset reading = (
  comma-yes,
  comma-no,
  steps,
  find-all,
  field-slice,
  rest-none,
  rest-slice,
  has-by,
  comma-there,
  comma-none,
  rest-empty,
  return_none,
  return_off,
  return_not,
  numeral-none,
  numeral-zero,
  numeral-more,
  numeral_digits,
  digits_end,
  digits-bad,
  digit-from,
  digits-over,
  digits_step,
)
