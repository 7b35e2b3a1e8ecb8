-- The digits of an adapter, read as the sheet reads a number, are the adapter; they have no comma and no LF.
use Prim.Native.Nat.{ℕ, ◌≤◌, ◌<◌}
use native.Mathlib.Omega.{arith}
use mathlib.Core.Path.{◌≡◌, ap}
use mathlib.Core.Bool.{Bool, false}
use mathlib.Core.List.{List}
use lib.ListN.{length}
use lib.Dec.{T, leb, eqb, eqb→eq}
use borrow.Author.Tests.{leb-true}
use Rattle.std.specs.Prelude.{Option, Some, None}
use Rattle.text.specs.Ascii.{is_digit}
use Rattle.text.proofs.Computed.{below}
use Rattle.text.proofs.Tests.{both}
use Rattle.tokens.specs.Rules.{All, Run, run, Without}
use Rattle.model.specs.Limits.{last_adapter}
use Rattle.sheet.specs.Line.{numeral, digits_on}
use Rattle.writing.specs.Pieces.{decimal, decimal_from}
use Rattle.rereading.proofs.SpelledDigits.{decimal-writes}

-- a test over all adapters
abbrev is_number : Option ℕ → ℕ → Bool
is_number None n = false
is_number (Some m) n = eqb m n

abbrev is_back : ℕ → Bool
is_back n = is_number (numeral (decimal n)) n

number_is : (x : Option ℕ) (n : ℕ) → T (is_number x n) → x ≡ Some n
number_is None n h = absurd h
number_is (Some m) n h = ap (λ (k : ℕ). Some k) (eqb→eq m n h)

pub numeral-decimal : (n : ℕ) → n ≤ last_adapter → numeral (decimal n) ≡ Some n
unfolding decimal decimal_from numeral digits_on is_digit
numeral-decimal n h = number_is _ n (below is_back 256 tt n (omega arith))

-- no digit is a byte below them
digits-without : {c : ℕ} {ds : List ℕ} → c < 0x30 → All is_digit ds → Without c ds
unfolding is_digit
digits-without h All.none = Without.none
digits-without {c} h (All.more {c = d} e all) =
    let low = leb-true 0x30 d (both (leb 0x30 d) e).0 in
    Without.more {d = d} (λ is. omega arith) (digits-without h all)

run-without : {c : ℕ} {ds : List ℕ} → c < 0x30 → Run is_digit ds → Without c ds
run-without h (run e all) = digits-without h (All.more e all)

run-some : {ds : List ℕ} → Run is_digit ds → 0 < length ds
run-some (run e all) = omega arith

module _ (n : ℕ) (known : n ≤ last_adapter) where
  pub decimal-without : (c : ℕ) → c < 0x30 → Without c (decimal n)
  decimal-without c h = run-without h (decimal-writes n (omega arith)).digits

  pub decimal-some : 0 < length (decimal n)
  decimal-some = run-some (decimal-writes n (omega arith)).digits
