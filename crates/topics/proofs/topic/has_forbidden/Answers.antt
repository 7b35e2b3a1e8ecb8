use mathlib.Core.Path.{◌≡◌, ◌∙◌, refl, sym}
use mathlib.Core.Bool.{Bool, true, false}
use mathlib.Core.List.{List, []}
use Prim.Native.Nat.{ℕ, ◌-◌, ◌<◌}
use native.Mathlib.Omega.{arith}
use lib.ListN.{length}
use borrow.Author.Rules.{rules}
use Rattle.text.specs.Utf8.{chars, decode_at}
use Rattle.text.specs.declared.utf8.Decoded.{Decoded}
use Rattle.text.specs.declared.utf8.Decoded.TheVariants.{Char, Bad, End}
use Rattle.text.proofs.CharLaws.{char-inside, chars-char, chars-bad, chars-end}
use Rattle.topics.specs.Topic.{is_forbidden, forbidden_among, forbidden}
use Rattle.topics.proofs.topic.has_forbidden.Goals as goal

-- of the characters from an offset one is forbidden if one of all is, which is start; a is what is decoded there
module _ (s : List ℕ) (at : ℕ) {start : Bool} {a : Decoded} (i : forbidden_among (chars s at) ≡ start) (d : a ≡ decode_at s at) where
  none : chars s at ≡ [] → false ≡ start
  unfolding forbidden_among
  none e = rw e at i

  module _ {code next : ℕ} (m : a ≡ Char code next) {r : Bool} (is : r ≡ is_forbidden code) where
    yes : r ≡ true → true ≡ start
    unfolding forbidden_among
    yes h = rw (chars-char s at code next (sym d ∙ m), ← is, h) at i

    on : r ≡ false → forbidden_among (chars s next) ≡ start
    unfolding forbidden_among
    on h = rw (chars-char s at code next (sym d ∙ m), ← is, h) at i

  less : {code next : ℕ} → a ≡ Char code next → length s - next < length s - at
  less {code} {next} m = let h = char-inside s at code next (sym d ∙ m) in omega arith

-- no character is there
past : (s : List ℕ) (at : ℕ) {start : Bool} → forbidden_among (chars s at) ≡ start → (a : Decoded) → a ≡ decode_at s at →
    ((code next : ℕ) → a ≡ Char code next → ⊥) → false ≡ start
past s at i Bad d f = none s at i d (chars-bad s at (sym d))
past s at i End d f = none s at i d (chars-end s at (sym d))
past s at i (Char code next) d f = absurd (f code next refl)

pub loop-code-init : goal.loop-code-init
unfolding forbidden
loop-code-init c = refl

pub returns-then-is_forbidden : goal.returns-then-is_forbidden
unfolding forbidden
returns-then-is_forbidden c = search (rules, yes)

pub loop-code-smaller : goal.loop-code-smaller
loop-code-smaller c = search (rules, less)

pub loop-code-preserved : goal.loop-code-preserved
unfolding forbidden
loop-code-preserved c = search (rules, on)

pub returns : goal.returns
unfolding forbidden
returns c = search (rules, past)
