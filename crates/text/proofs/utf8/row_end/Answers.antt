use mathlib.Core.Path.{◌≡◌, ◌∙◌, refl, ap, sym}
use mathlib.Core.List.{List, []}
use Prim.Native.Nat.{ℕ, ◌+◌, ◌-◌, ◌<◌, ◌≤◌}
use native.Mathlib.Omega.{arith}
use lib.ListN.{length, get_or}
use borrow.Author.Rules.{rules}
use borrow.Author.Tests.{ltb-true}
use Rattle.text.specs.Utf8.{is_ascii, decode_at, chars, row_end}
use Rattle.text.specs.declared.utf8.Decoded.{Decoded}
use Rattle.text.specs.declared.utf8.Decoded.TheVariants.{Char, Bad, End}
use Rattle.text.proofs.Utf8Laws.{decode-end, decode-byte}
use Rattle.text.proofs.CharLaws.{char-inside, chars-char, chars-bad, chars-end}
use Rattle.text.specs.Block.{Row}
use Rattle.text.proofs.BlockLaws.{over-row}
use Rattle.text.proofs.utf8.row_end.Goals as goal

-- i: the row from here ends at e
module _ (s : List ℕ) (at : ℕ) {e : ℕ} (i : row_end at (chars s at) ≡ e) where
  -- it goes on behind a character, and ends where there is none
  row_on : (c n : ℕ) → decode_at s at ≡ Char c n → row_end n (chars s n) ≡ e
  unfolding row_end
  row_on c n d = sym (ap (row_end at) (chars-char s at c n d)) ∙ i

  row-stop : chars s at ≡ [] → at ≡ e
  unfolding row_end
  row-stop n = sym (ap (row_end at) n) ∙ i

  row-past : length s ≤ at → at ≡ e
  row-past h = row-stop (chars-end s at (sym (decode-end s at h)))

  row-byte : at < length s → get_or s at 0 < 0x80 → row_end (at + 1) (chars s (at + 1)) ≡ e
  row-byte h k = row_on (get_or s at 0) (at + 1) (decode-byte s at h k)

  -- where the answer of decode is no character there is none
  row-none : (d : Decoded) → decode_at s at ≡ d → ((code next : ℕ) → decode_at s at ≡ Char code next → ⊥) → at ≡ e
  row-none (Char code next) d n = absurd (n code next d)
  row-none Bad d n = row-stop (chars-bad s at d)
  row-none End d n = row-stop (chars-end s at d)

-- the row goes on behind bytes below 0x80
row-ascii : (s : List ℕ) (from at : ℕ) {e : ℕ} → Row is_ascii s from at → row_end from (chars s from) ≡ e → row_end at (chars s at) ≡ e
unfolding is_ascii
row-ascii s from at {e} =
    over-row is_ascii s (λ (n : ℕ). row_end n (chars s n) ≡ e) (λ n h k i. row-byte s n i h (ltb-true (get_or s n 0) 0x80 k)) from at

less-left : (s : List ℕ) (at : ℕ) {a : Decoded} {c n r : ℕ} → a ≡ decode_at s at → a ≡ Char c n → n ≤ r → length s - r < length s - at
less-left s at {c = c} {n = n} d m l =
    let h = char-inside s at c n (sym d ∙ m) in
    omega arith

pub loop-at-init : goal.loop-at-init
loop-at-init c = row-ascii _ _ _ c.ascii_blocks-at.ensures refl

pub loop-at-preserved-then-s-at-lt128 : goal.loop-at-preserved-then-s-at-lt128
loop-at-preserved-then-s-at-lt128 c = search (rules, row-byte)

pub loop-at-smaller : goal.loop-at-smaller
loop-at-smaller c = less-left _ _ c.decode.ensures.value c.in-Char.is (search rules)

pub loop-at-preserved : goal.loop-at-preserved
loop-at-preserved c =
    row-ascii _ _ _ c.ascii_blocks-at-in-Char.ensures (row_on _ _ c.loop-at.invariant _ _ (sym c.decode.ensures.value ∙ c.in-Char.is))

pub returns-in_default : goal.returns-in_default
returns-in_default c = row-none _ _ c.loop-at.invariant _ refl (λ code next e. c.in_default.not-Char _ _ (c.decode.ensures.value ∙ e))

pub returns : goal.returns
returns c = search (rules, row-past)
