-- Laws on decoding that the proofs of this crate and of those above it cite.
use mathlib.Core.Path.{◌≡◌, ◌∙◌, ap, sym}
use mathlib.Core.Bool.{Bool}
use Prim.Native.Nat.{ℕ, suc, ◌+◌, ◌-◌, ◌<◌, ◌≤◌}
use native.Mathlib.Omega.{arith}
use mathlib.Core.List.{List}
use lib.Count.{count_leading_zeros}
use lib.ListN.{length, get_or, drop, drop_of_length-le}
use lib.Seq.{get_or-drop, drop-cons}
use lib.Dec.{eqb, eqb→eq, ltb}
use borrow.Author.Tests.{lt-ltb}
use Rattle.text.specs.Choice.{pick}
use Rattle.text.specs.Utf8.{sequence_length, sized, front, decode_at}
use Rattle.text.specs.declared.utf8.Decoded.TheVariants.{Char, End}
use Rattle.text.proofs.Computed.{below}

-- a sequence's length, by the leading ones of its first byte
abbrev pub by_ones : ℕ → ℕ
by_ones n = pick (eqb n 0) 1 (pick (eqb n 1) 0 (pick (ltb n 5) n 0))

ones-test : ℕ → Bool
ones-test b = eqb (sequence_length b) (by_ones (count_leading_zeros 8 (255 - b)))

pub ones : (b : ℕ) → b < 256 → sequence_length b ≡ by_ones (count_leading_zeros 8 (255 - b))
unfolding ones-test sequence_length count_leading_zeros
ones b h = eqb→eq (sequence_length b) (by_ones (count_leading_zeros 8 (255 - b))) (below ones-test 256 tt b h)

-- past the end there is no character
pub decode-end : (s : List ℕ) (at : ℕ) → length s ≤ at → End ≡ decode_at s at
unfolding decode_at front
decode-end s at h = ap (front at) (sym (drop_of_length-le s h))

behind : (s : List ℕ) (at k n : ℕ) → suc at + k ≡ n → get_or (drop (suc at) s) k 0 ≡ get_or s n 0
behind s at k n e = get_or-drop (suc at) s k 0 ∙ ap (λ (i : ℕ). get_or s i 0) e

-- before the end the four bytes from there decide
pub decode-on : (s : List ℕ) (at : ℕ) → at < length s →
    decode_at s at
    ≡ sized (sequence_length (get_or s at 0)) at (get_or s at 0) (get_or s (at + 1) 0) (get_or s (at + 2) 0) (get_or s (at + 3) 0)
unfolding decode_at front
decode-on s at h =
    ap (front at) (drop-cons s at 0 h)
    ∙ rw (behind s at 0 (at + 1) (omega arith), behind s at 1 (at + 2) (omega arith), behind s at 2 (at + 3) (omega arith))

-- a byte below 0x80 is a character by itself
pub decode-byte : (s : List ℕ) (at : ℕ) → at < length s → get_or s at 0 < 0x80 → decode_at s at ≡ Char (get_or s at 0) (at + 1)
unfolding sized sequence_length
decode-byte s at h k = decode-on s at h ∙ rw (lt-ltb (get_or s at 0) 0x80 k)
