-- ARGS never runs out of its count of arguments: if that is at least as much as there are tokens, more of it changes nothing.
use Prim.Native.Nat.{ℕ, zero, suc, ◌+◌, ◌<◌, ◌≤◌}
use native.Mathlib.Omega.{arith}
use mathlib.Core.Path.{◌≡◌, refl, ap}
use Rattle.tokens.specs.Result.{bind}
use Rattle.tokens.specs.Kind.{OPEN, COMMA}
use Rattle.tokens.specs.Cursor.{Tok, is_kind, take_kind}
use Rattle.tokens.specs.Grammar.{Token, token}
use Rattle.tokens.proofs.Okay.{Okay, mapped, bind-alike, perhaps-alike, token-kind, stands-before, is_kind_lem, kind-sound}
use Rattle.sheet.specs.View.{View}
use Rattle.references.specs.Args.{put, no_args, arg_at, count_with, args_from, close_args, input_selector, one_instance, input_ref}
use Rattle.references.specs.declared.args.Args.{Args}
use Rattle.references.specs.declared.args.Item.{Item}
use Rattle.references.proofs.ArgSound.{arg-sound}
use Rattle.references.proofs.ArgComplete.{arg-complete}

token-is_one : {t : ℕ → Tok} {kind i n j : ℕ} → Token t kind i n j → j ≡ i + 1
token-is_one (token p) = refl

-- no token stands at n or behind it
module _ (t : ℕ → Tok) (view : View) {n : ℕ} (end : (k : ℕ) → n ≤ k → (t k).kind ≡ 0) where
  -- an argument takes a token, so that the tokens come to their end before the count does
  args_fuel : (m k : ℕ) (a : Args) (count i : ℕ) → i ≤ n → n < i + m → n < i + k →
      args_from t view m a count i ≡ args_from t view k a count i
  unfolding args_from
  args_fuel zero k a count i l p q = absurd (omega arith)
  args_fuel (suc m) zero a count i l p q = absurd (omega arith)
  args_fuel (suc m) (suc k) a count i l p q =
      let takes : Okay (λ (x : Item) j. i < j) (arg_at t view a count i) = mapped _ (arg_at t view a count i) (arg-sound t view a count i) (λ x j h. (arg-complete a h.1 h.0).2) in
      bind-alike (arg_at t view a count i) _ _ takes
      (λ x j next.
      perhaps-alike (is_kind t COMMA j) j _ _ _
      (λ e.
      let before : j < n = stands-before t end (λ z. omega arith) (token-kind (is_kind_lem t COMMA j e)) in
      args_fuel m k (put a x) (count_with t count i) (j + 1) (omega arith) (omega arith) (omega arith)))

  -- ARGS are answered alike with any count that is at least the number of tokens
  pub selector_fuel : {m k : ℕ} → n ≤ m → n ≤ k → (i : ℕ) → input_selector t view m i ≡ input_selector t view k i
  unfolding input_selector
  selector_fuel {m} {k} p q i =
      bind-alike (take_kind t OPEN i) _ _ (kind-sound t OPEN i)
      (λ a j h.
      let before : i < n = stands-before t end (λ z. omega arith) (token-kind h) in
      let next : j ≡ i + 1 = token-is_one h in
      ap (λ x. bind x (λ args l. close_args t view args l)) (args_fuel m k no_args 0 j (omega arith) (omega arith) (omega arith)))

  -- and so is one instance
  pub input_fuel : {m k : ℕ} → n ≤ m → n ≤ k → (i : ℕ) → input_ref t view m i ≡ input_ref t view k i
  unfolding input_ref
  input_fuel p q i = ap (λ x. bind x (λ s j. one_instance i j s)) (selector_fuel p q i)
