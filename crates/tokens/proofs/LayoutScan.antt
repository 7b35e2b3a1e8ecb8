-- Laws on classes of characters, and on a scan over one.
use mathlib.Core.Path.{◌≡◌, ◌∙◌, ap, sym}
use mathlib.Core.Bool.{Bool, true, false≢true}
use Prim.Native.Nat.{ℕ, ◌<◌}
use native.Mathlib.Omega.{arith}
use mathlib.Core.List.{List}
use lib.Dec.{leb}
use borrow.Author.Tests.{leb-true, lt-ltb}
use Rattle.text.specs.Choice.{within}
use Rattle.text.specs.Utf8.{is_ascii, chars}
use Rattle.text.specs.declared.place.Place.{Place}
use Rattle.text.proofs.Tests.{picked}
use Rattle.text.proofs.StepLaws.{Stepped}
use Rattle.text.specs.Ascii.{is_digit, is_alpha}
use Rattle.tokens.specs.Scan.{passed}
use Rattle.tokens.specs.Rules.{All}

-- a scan over a class goes on behind a character of the class
pub class-first : (class : ℕ → Bool) {s : List ℕ} {p n : Place} {c : ℕ} → Stepped s p c n → class c ≡ true →
    passed class p (chars s p.at) ≡ passed class n (chars s n.at)
unfolding passed
class-first class {s} {p} {n} h d =
    ap (passed class p) h.rest ∙ rw d (ap (λ (k : Place). passed class k (chars s n.at)) (sym h.is))

-- digits and letters are ASCII
within-below : (low high c : ℕ) → high < 0x80 → within low high c ≡ true → is_ascii c ≡ true
unfolding is_ascii
within-below low high c k =
    picked (λ (t : Bool). t ≡ true → is_ascii c ≡ true) (leb low c) (λ h e. lt-ltb c 0x80 (omega (arith, leb-true c high e)))
    (λ h e. absurd (false≢true e))

pub digit-ascii : (c : ℕ) → is_digit c ≡ true → is_ascii c ≡ true
unfolding is_digit
digit-ascii c = within-below 0x30 0x39 c (omega arith)

pub alpha_ascii : (c : ℕ) → is_alpha c ≡ true → is_ascii c ≡ true
unfolding is_alpha
alpha_ascii c =
    picked (λ (t : Bool). t ≡ true → is_ascii c ≡ true) (within 0x41 0x5A c) (λ h e. within-below 0x41 0x5A c (omega arith) h)
    (λ h. within-below 0x61 0x7A c (omega arith))

-- characters of a class are of a wider one
pub all_of : {f g : ℕ → Bool} → ((c : ℕ) → f c ≡ true → g c ≡ true) → {cs : List ℕ} → All f cs → All g cs
all_of h All.none = All.none
all_of h (All.more {c} a b) = All.more (h c a) (all_of h b)
