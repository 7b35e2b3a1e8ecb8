use mathlib.Core.Path.{◌≡◌, refl, ◌∙◌}
use mathlib.Core.List.{List}
use Prim.Native.Nat.{ℕ, ◌+◌, ◌-◌, ◌<◌, ◌≤◌}
use native.Mathlib.Omega.{arith}
use native.Mathlib.Nat.{add_assoc}
use lib.ListN.{length, get_or}
use borrow.Author.Rules.{rules}
use Rattle.text.specs.Find.{first_at}
use Rattle.text.proofs.FindLaws.{first_past, first-here, first_next}
use Rattle.text.proofs.find.find.Goals as goal

-- b is first found at r, looked for from i on, and eight more bytes are there
module _ (b : ℕ) (s : List ℕ) (i : ℕ) {r : ℕ} (inv : first_at b s i ≡ r) (room : 8 ≤ length s - i) where
  abbrev Here : ℕ → Type 0
  Here k = get_or s (i + k) 0 ≡ b

  here : (k : ℕ) → k < 8 → first_at b s (i + k) ≡ r → Here k → i + k ≡ r
  here k l f h = first-here b s (i + k) (omega arith) h ∙ f

  past : (k : ℕ) → k < 8 → first_at b s (i + k) ≡ r → (Here k → ⊥) → first_at b s (i + (k + 1)) ≡ r
  past k l f n = rw (← add_assoc) (first_next b s (i + k) (omega arith) n ∙ f)

  first : get_or s i 0 ≡ b → i ≡ r
  first h = first-here b s i (omega arith) h ∙ inv

  past-1 : (get_or s i 0 ≡ b → ⊥) → first_at b s (i + 1) ≡ r
  past-1 n = first_next b s i (omega arith) n ∙ inv

  second : (get_or s i 0 ≡ b → ⊥) → Here 1 → i + 1 ≡ r
  second a z = here 1 (omega arith) (past-1 a) z

  past-2 : (get_or s i 0 ≡ b → ⊥) → (Here 1 → ⊥) → first_at b s (i + 2) ≡ r
  past-2 a d = past 1 (omega arith) (past-1 a) d

  third : (get_or s i 0 ≡ b → ⊥) → (Here 1 → ⊥) → Here 2 → i + 2 ≡ r
  third a d z = here 2 (omega arith) (past-2 a d) z

  past-3 : (get_or s i 0 ≡ b → ⊥) → (Here 1 → ⊥) → (Here 2 → ⊥) → first_at b s (i + 3) ≡ r
  past-3 a d e = past 2 (omega arith) (past-2 a d) e

  fourth : (get_or s i 0 ≡ b → ⊥) → (Here 1 → ⊥) → (Here 2 → ⊥) → Here 3 → i + 3 ≡ r
  fourth a d e z = here 3 (omega arith) (past-3 a d e) z

  past-4 : (get_or s i 0 ≡ b → ⊥) → (Here 1 → ⊥) → (Here 2 → ⊥) → (Here 3 → ⊥) → first_at b s (i + 4) ≡ r
  past-4 a d e f = past 3 (omega arith) (past-3 a d e) f

  fifth : (get_or s i 0 ≡ b → ⊥) → (Here 1 → ⊥) → (Here 2 → ⊥) → (Here 3 → ⊥) → Here 4 → i + 4 ≡ r
  fifth a d e f z = here 4 (omega arith) (past-4 a d e f) z

  past-5 : (get_or s i 0 ≡ b → ⊥) → (Here 1 → ⊥) → (Here 2 → ⊥) → (Here 3 → ⊥) → (Here 4 → ⊥) → first_at b s (i + 5) ≡ r
  past-5 a d e f g = past 4 (omega arith) (past-4 a d e f) g

  sixth : (get_or s i 0 ≡ b → ⊥) → (Here 1 → ⊥) → (Here 2 → ⊥) → (Here 3 → ⊥) → (Here 4 → ⊥) → Here 5 → i + 5 ≡ r
  sixth a d e f g z = here 5 (omega arith) (past-5 a d e f g) z

  past-6 : (get_or s i 0 ≡ b → ⊥) → (Here 1 → ⊥) → (Here 2 → ⊥) → (Here 3 → ⊥) → (Here 4 → ⊥) → (Here 5 → ⊥) → first_at b s (i + 6) ≡ r
  past-6 a d e f g h = past 5 (omega arith) (past-5 a d e f g) h

  seventh : (get_or s i 0 ≡ b → ⊥) → (Here 1 → ⊥) → (Here 2 → ⊥) → (Here 3 → ⊥) → (Here 4 → ⊥) → (Here 5 → ⊥) → Here 6 → i + 6 ≡ r
  seventh a d e f g h z = here 6 (omega arith) (past-6 a d e f g h) z

  past-7 : (get_or s i 0 ≡ b → ⊥) → (Here 1 → ⊥) → (Here 2 → ⊥) → (Here 3 → ⊥) → (Here 4 → ⊥) → (Here 5 → ⊥) → (Here 6 → ⊥) → first_at b s (i + 7) ≡ r
  past-7 a d e f g h j = past 6 (omega arith) (past-6 a d e f g h) j

  eighth : (get_or s i 0 ≡ b → ⊥) → (Here 1 → ⊥) → (Here 2 → ⊥) → (Here 3 → ⊥) → (Here 4 → ⊥) → (Here 5 → ⊥) → (Here 6 → ⊥) → Here 7 → i + 7 ≡ r
  eighth a d e f g h j z = here 7 (omega arith) (past-7 a d e f g h j) z

  past-8 : (get_or s i 0 ≡ b → ⊥) → (Here 1 → ⊥) → (Here 2 → ⊥) → (Here 3 → ⊥) → (Here 4 → ⊥) → (Here 5 → ⊥) → (Here 6 → ⊥) → (Here 7 → ⊥) → first_at b s (i + 8) ≡ r
  past-8 a d e f g h j m = past 7 (omega arith) (past-7 a d e f g h j) m

pub returns-then-len-from : goal.returns-then-len-from
returns-then-len-from c = search (rules, first_past)

pub loop-i-init : goal.loop-i-init
loop-i-init c = (refl, search rules)

pub returns-then-s-i : goal.returns-then-s-i
returns-then-s-i c = search (rules, first)

pub returns-then-s-i-2 : goal.returns-then-s-i-2
returns-then-s-i-2 c = search (rules, second)

pub returns-then-s-i-3 : goal.returns-then-s-i-3
returns-then-s-i-3 c = search (rules, third)

pub returns-then-s-i-4 : goal.returns-then-s-i-4
returns-then-s-i-4 c = search (rules, fourth)

pub returns-then-s-i-5 : goal.returns-then-s-i-5
returns-then-s-i-5 c = search (rules, fifth)

pub returns-then-s-i-6 : goal.returns-then-s-i-6
returns-then-s-i-6 c = search (rules, sixth)

pub returns-then-s-i-7 : goal.returns-then-s-i-7
returns-then-s-i-7 c = search (rules, seventh)

pub returns-then-s-i-8 : goal.returns-then-s-i-8
returns-then-s-i-8 c = search (rules, eighth)

pub loop-i-preserved : goal.loop-i-preserved
loop-i-preserved c = (search (rules, past-8), search rules)

pub returns : goal.returns
returns c = c.find_each.ensures ∙ c.loop-i.invariant.0
