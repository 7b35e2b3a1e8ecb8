-- The choice among words, word by word.
use mathlib.Core.Path.{◌≡◌, ◌∙◌, refl}
use mathlib.Core.Bool.{Bool, true, false}
use mathlib.Core.List.{List, [], ◌∷◌}
use Prim.Native.Nat.{ℕ, ◌+◌, ◌<◌, ◌≤◌}
use native.Mathlib.Omega.{arith}
use native.Mathlib.Nat.{add-zero, zero-add}
use native.Mathlib.Numerals.{add-one}
use lib.ListN.{length, get_or, drop}
use lib.Dec.{ltb}
use borrow.Author.Tests.{lt-ltb, le-ltb, ltb-true, ltb-false}
use Rattle.text.specs.Choice.{pick}
use Rattle.text.specs.Part.{same_bytes}
use Rattle.text.specs.Find.{first_at}
use Rattle.text.specs.Split.{split}
use Rattle.text.proofs.FindLaws.{first-from}
use Rattle.text.proofs.SplitLaws.{split-none, split-on}
use Rattle.tokens.specs.Result.{Res, ok, no, refuse}
use Rattle.tokens.specs.Phrase.{words_in, behind_word, position, choice_by}
use Rattle.tokens.specs.declared.cursor.Refusal.{Refusal}
use Rattle.tokens.proofs.ListWordLaws.{other-first, is-this, is-another}

pub less-on : (p l : ℕ) (b : Bool) → ltb p l ≡ b → ltb (p + 1) (l + 1) ≡ b
less-on p l true e = lt-ltb (p + 1) (l + 1) (omega (arith, ltb-true p l e))
less-on p l false e = le-ltb (p + 1) (l + 1) (omega (arith, ltb-false p l e))

module _ (number i j : ℕ) (w : List ℕ) where
  -- the choice, word by word; the first has the place n
  unfoldable pub choosing : ℕ → List (List ℕ) → Res ℕ
  choosing n [] = refuse number i
  choosing n (x ∷ ws) = pick (same_bytes w x) (pick (ltb n 4294967296) (ok n j) (refuse number i)) (choosing (n + 1) ws)

  pub chosen : ℕ → ℕ → ℕ → Res ℕ
  chosen n p l = pick (pick (ltb p l) (ltb (n + p) 4294967296) false) (ok (n + p) j) (refuse number i)

  pub one_on : (n p l : ℕ) → chosen (n + 1) p l ≡ chosen n (p + 1) (l + 1)
  unfolding chosen
  one_on n p l =
      let e : n + (p + 1) ≡ n + 1 + p = omega arith in
      rw (e, less-on p l (ltb p l) refl)

  pub by-test : (b : Bool) (n p l : ℕ) {y : Res ℕ} → y ≡ chosen (n + 1) p l →
      pick b (pick (ltb n 4294967296) (ok n j) (refuse number i)) y ≡ chosen n (pick b 0 (p + 1)) (l + 1)
  unfolding chosen
  by-test true n p l e = rw (add-zero n, lt-ltb 0 (l + 1) (omega arith))
  by-test false n p l e = e ∙ one_on n p l

  pub by_place : (n : ℕ) (ws : List (List ℕ)) → choosing n ws ≡ chosen n (position w ws) (length ws)
  unfolding choosing chosen position
  by_place n [] = refl
  by_place n (x ∷ ws) = rw (← (add-one (length ws))) (by-test (same_bytes w x) n (position w ws) (length ws) (by_place (n + 1) ws))

  pub whole : (list : List ℕ) → choosing 0 (split 0x20 list) ≡ choice_by list number i j w
  unfolding choice_by words_in chosen
  whole list = rw zero-add at (by_place 0 (split 0x20 list))

  -- the choice from an offset on comes to y, the whole one
  module _ (list : List ℕ) (n at : ℕ) {y : Res ℕ} (inv : choosing n (split 0x20 (drop at list)) ≡ y) where
    pub past : {s : Refusal} → s ≡ record { number = number; token = i; detail = 0 } → length list ≤ at → no s ≡ y
    unfolding choosing
    past d h = rw d (rw (split-none 0x20 list at h) at inv)

    module _ (h : at < length list) {r : ℕ} (a : r ≡ behind_word list at w) where
      pub here : (r ≡ 0 → ⊥) → n < 4294967296 → ok n j ≡ y
      unfolding choosing
      here k l = rw (split-on 0x20 list at h, (is-this list at w a h k).0, lt-ltb n 4294967296 l) at inv

      pub over : {s : Refusal} → s ≡ record { number = number; token = i; detail = 0 } → (r ≡ 0 → ⊥) → 4294967296 ≤ n → no s ≡ y
      unfolding choosing
      over d k l = rw d (rw (split-on 0x20 list at h, (is-this list at w a h k).0, le-ltb n 4294967296 l) at inv)

      pub on : r ≡ 0 → {end : ℕ} → end ≡ first_at 0x20 list at → choosing (n + 1) (split 0x20 (drop (end + 1) list)) ≡ y
      unfolding choosing
      on k e = rw e (rw (split-on 0x20 list at h, is-another list at w a h k) at inv)

    pub on-past : at < length list → {f : ℕ} → f ≡ get_or w 0 0x20 → (get_or list at 0 ≡ f → ⊥) → {end : ℕ} → end ≡ first_at 0x20 list at →
        choosing (n + 1) (split 0x20 (drop (end + 1) list)) ≡ y
    unfolding choosing
    on-past h d k e = rw e (rw (split-on 0x20 list at h, other-first list at w h d k) at inv)

pub counted-on : (list : List ℕ) (n at : ℕ) {end : ℕ} → end ≡ first_at 0x20 list at → at < length list → n ≤ at → n + 1 ≤ end + 1
counted-on list n at e h l = omega (arith, first-from 0x20 list at (omega arith))
