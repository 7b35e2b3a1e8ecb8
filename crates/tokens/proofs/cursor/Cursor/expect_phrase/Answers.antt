use mathlib.Core.Path.{◌≡◌, ◌∙◌, refl, sym}
use mathlib.Core.Bool.{false}
use mathlib.Core.List.{List}
use Prim.Native.Nat.{ℕ, ◌+◌, ◌-◌, ◌<◌, ◌≤◌}
use native.Mathlib.Omega.{arith}
use lib.ListN.{length, drop}
use borrow.Author.Rules.{rules}
use Rattle.text.specs.Part.{part_of, same_bytes}
use Rattle.text.specs.Find.{first_at}
use Rattle.text.specs.Split.{split}
use Rattle.text.proofs.FindLaws.{first-from}
use Rattle.text.proofs.SplitLaws.{split-none, split-on}
use Rattle.tokens.specs.Record.{kind_at}
use Rattle.tokens.specs.Result.{Res, ok, no}
use Rattle.tokens.specs.Cursor.{Tok, tokens, is_word, take_word}
use Rattle.tokens.specs.Phrase.{words_in, behind_word, take_words, phrase_at}
use Rattle.tokens.specs.declared.cursor.Refusal.{Refusal}
use Rattle.tokens.proofs.Chain.{taken-ok, taken-no}
use Rattle.tokens.proofs.CursorLaws.{some-kind, word_none, word_same}
use Rattle.tokens.proofs.ListWordLaws.{is-this, is-another}
use Rattle.tokens.proofs.cursor.Cursor.expect_phrase.Goals as goal

-- a token that is there stands within the words
inside : (words : List ℕ) (i : ℕ) {k : ℕ} → k ≡ kind_at words i → k ≡ 1 → i < length words
inside words i d z = some-kind words i (λ e. omega arith)

-- behind a word less is left of the list
less : (list : List ℕ) (at : ℕ) (w : List ℕ) {r : ℕ} → r ≡ behind_word list at w → at < length list → (r ≡ 0 → ⊥) →
    length list - r < length list - at
less list at w a h n = omega (arith, (is-this list at w a h n).1, first-from 0x20 list at (omega arith))

-- the words of the list from an offset on come to y, as all of them do
module _ (text words list : List ℕ) (at i : ℕ) {y : Res ℕ} (inv : take_words (tokens text words) (split 0x20 (drop at list)) i ≡ y) where
  past : length list ≤ at → ok 0 i ≡ y
  unfolding take_words
  past h = rw (split-none 0x20 list at h) at inv

  module _ (h : at < length list) {k : ℕ} (d : k ≡ kind_at words i) where
    word : List ℕ
    word = part_of list at (first_at 0x20 list at)

    kind : k ≡ (tokens text words i).kind
    unfolding tokens
    kind = d

    stop : is_word (tokens text words) word i ≡ false → {s : Refusal} → s ≡ record { number = 20; token = i; detail = 0 } → no s ≡ y
    unfolding take_words take_word word
    stop e q = rw q (rw (split-on 0x20 list at h, e) at inv)

    no_word : (k ≡ 1 → ⊥) → {s : Refusal} → s ≡ record { number = 20; token = i; detail = 0 } → no s ≡ y
    no_word n q = stop (sym (word_none (tokens text words) word i kind n)) q

    module _ (z : k ≡ 1) {b : List ℕ} (e : b ≡ (tokens text words i).bytes) {r : ℕ} (a : r ≡ behind_word list at b) where
      test : same_bytes b word ≡ is_word (tokens text words) word i
      test = word_same (tokens text words) word i kind z e refl

      another : r ≡ 0 → {s : Refusal} → s ≡ record { number = 20; token = i; detail = 0 } → no s ≡ y
      unfolding word
      another n q = stop (sym test ∙ is-another list at b a h n) q

      on : (r ≡ 0 → ⊥) → take_words (tokens text words) (split 0x20 (drop r list)) (i + 1) ≡ y
      unfolding take_words take_word word
      on n =
          let w = is-this list at b a h n in
          rw w.1 (rw (split-on 0x20 list at h, sym test ∙ w.0) at inv)

begins : (t : ℕ → Tok) (list : List ℕ) (i : ℕ) → take_words t (split 0x20 list) i ≡ phrase_at t list i
unfolding phrase_at words_in
begins t list i = refl

pub loop-at-init : goal.loop-at-init
loop-at-init c = begins _ _ _

pub returns-then-kind-ne-WORD : goal.returns-then-kind-ne-WORD
returns-then-kind-ne-WORD c = search (rules, taken-no, no_word)

pub returns-then-at-eq0 : goal.returns-then-at-eq0
returns-then-at-eq0 c = search (rules, taken-no, another)

pub overflow_add-i : goal.overflow_add-i
overflow_add-i c = omega (arith, inside _ _ c.kind.ensures c.if-kind-ne-WORD.false)

pub loop-at-smaller : goal.loop-at-smaller
loop-at-smaller c = search (rules, less)

pub loop-at-preserved : goal.loop-at-preserved
loop-at-preserved c = on _ _ _ _ _
    c.loop-at.invariant
    c.loop-at-test.true
    c.kind.ensures
    c.if-kind-ne-WORD.false
    c.bytes.ensures
    c.behind_word-at.ensures
    c.if-at-eq0.false

pub returns : goal.returns
returns c = search (rules, taken-ok, past)
