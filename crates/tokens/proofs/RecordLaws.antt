-- Laws on records in the lent words.
use mathlib.Core.Path.{◌≡◌}
use mathlib.Core.List.{List}
use Prim.Native.Nat.{ℕ, ◌+◌, ◌*◌, ◌/◌, ◌%◌, ◌<◌, ◌≤◌}
use native.Mathlib.Numerals.{towards_suc}
use native.Mathlib.Omega.{arith}
use lib.ListN.{length, set}
use lib.Dec.{ltb}
use mir.Syntax.{w32}
use mir.Val.{Fits}
use borrow.Author.Tests.{lt-ltb, ltb-true, ltb-false}
use Rattle.text.proofs.Tests.{picked}
use Rattle.tokens.specs.Record.{record_size, capacity, place_unit, half_word, place_word, words_of, written}
use Rattle.tokens.specs.declared.record.Record.{Record}

-- where there is room, a record is written word by word
pub five_stores : (words : List ℕ) (i : ℕ) (r : Record) {place : ℕ} → place ≡ place_word r.line r.column → i < length words / record_size →
    set (set (set (set (set words (i * record_size) r.kind) (i * record_size + 1) r.number) (i * record_size + 2) r.start) (i * record_size + 3) r.length) (i * record_size + 4) place
    ≡ written words i r
unfolding written capacity words_of
five_stores words i r e h = simp (lt-ltb _ _ h, towards_suc, e)

-- ---- the word of a place

-- half a word has a number below the unit, so that both fit into 32 bits
pub half-below : (n : ℕ) → half_word n < place_unit
unfolding half_word
half-below n = picked (λ (m : ℕ). m < place_unit) (ltb n place_unit) (λ h. ltb-true n place_unit h) (λ h. omega arith)

pub line-fits : (line : ℕ) {high : ℕ} → high ≡ half_word line → Fits w32 (high * place_unit)
line-fits line e = record { fits = omega (arith, half-below line) }

pub place_fits : (line column : ℕ) {high low : ℕ} → high ≡ half_word line → low ≡ half_word column → Fits w32 (high * place_unit + low)
place_fits line column e f = record { fits = omega (arith, half-below line, half-below column) }

-- half a word never has a number greater than its own, and any below the unit as it is
pub half-most : (n : ℕ) → half_word n ≤ n
unfolding half_word
half-most n = picked (λ (m : ℕ). m ≤ n) (ltb n place_unit) (λ h. omega arith) (λ h. omega (arith, ltb-false n place_unit h))

pub half-exact : (n : ℕ) → n < place_unit → half_word n ≡ n
unfolding half_word
half-exact n h = rw (lt-ltb n place_unit h)

-- the two halves of a place's word
pub line-half : (line column : ℕ) → place_word line column / place_unit ≡ half_word line
unfolding place_word
line-half line column = omega (arith, half-below column)

pub column-half : (line column : ℕ) → place_word line column % place_unit ≡ half_word column
unfolding place_word
column-half line column = omega (arith, half-below column)

-- "Keep both in one word, line × 65,536 + column": where both are below the unit the word is just that, and gives both back
pub place_kept : (line column : ℕ) → line < place_unit → column < place_unit →
    (place_word line column ≡ line * place_unit + column) × (place_word line column / place_unit ≡ line) × (place_word line column % place_unit ≡ column)
unfolding place_word
place_kept line column h k =
    let a = half-exact line h in
    let b = half-exact column k in
    (rw (a, b), omega (arith, a, line-half line column), omega (arith, b, column-half line column))
