-- What every number of the machine passes.
use Prim.Native.Nat.{ℕ, ◌<◌, ◌^◌}
use mathlib.Core.Path.{◌≡◌, refl, sym, ◌∙◌}
use mathlib.Core.Bool.{Bool, true, false}
use native.Mathlib.Omega.{arith}
use lib.Dec.{leb}
use lib.IntN.{ℤ, pos, negsuc}
use lib.Signed.{mag}
use borrow.Author.Tests.{lt-ltb, le-leb}
use Rattle.text.specs.Choice.{pick}
use Rattle.tokens.specs.Amount.{most_ms}
use Rattle.language.specs.Limits.{most_later, most_earlier}
use Rattle.writing.specs.Possible.{is_signed_up_to}

-- every duration in the machine is short enough
short : (ms : ℕ) → ms < 2 ^ 32 → leb ms most_ms ≡ true
short ms h = le-leb ms most_ms (omega arith)

itself : (t : Bool) → pick t true false ≡ t
itself true = refl
itself false = refl

pub then_short : (t : Bool) (ms : ℕ) {r : Bool} → ms < 2 ^ 32 → r ≡ t → r ≡ pick t (leb ms most_ms) false
then_short t ms h e = e ∙ rw (short ms h, itself t)

-- and so is every offset
pub offset_short : (z : ℤ) → mag z < 2 ^ 31 → true ≡ is_signed_up_to most_later most_earlier z
unfolding is_signed_up_to
offset_short (pos n) h = sym (le-leb n most_later (omega arith))
offset_short (negsuc n) h = sym (lt-ltb n most_earlier (omega arith))

pub short_then : (z : ℤ) (a b : Bool) {r : Bool} → mag z < 2 ^ 31 → r ≡ a → r ≡ pick (is_signed_up_to most_later most_earlier z) a b
short_then z a b h e = rw (← offset_short z h) e
