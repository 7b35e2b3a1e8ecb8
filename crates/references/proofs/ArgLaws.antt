-- The loop over the arguments of `input(`: one law for each way out and one for going round.
use Prim.Native.Nat.{ℕ, suc, ◌-◌}
use mathlib.Core.Path.{◌≡◌, ◌∙◌, ap, sym}
use native.Mathlib.Omega.{arith}
use Rattle.tokens.specs.Result.{Res, ok, bind, perhaps}
use Rattle.tokens.specs.Cursor.{Tok, is_kind, accepted, Taken, to_taken}
use Rattle.tokens.specs.declared.cursor.Cursor.{Cursor}
use Rattle.tokens.specs.declared.cursor.Refusal.{Refusal}
use Rattle.sheet.specs.View.{View}
use Rattle.references.specs.Args.{put, arg_at, count_with, args_from}
use Rattle.references.specs.declared.args.Item.{Item}
use Rattle.references.specs.declared.args.Args.{Args}
use Rattle.tokens.proofs.Chain.{taken-ok, taken-no, then-taken, stop_taken, perhaps-yes, perhaps-no}
use Rattle.std.specs.Prelude.{Option, Some, None, Ok, Err}

-- the arguments a are read, with left more allowed: what is left from i on gives the whole answer
pub record Going (t : ℕ → Tok) (view : View) (whole : Res Args) (left : ℕ) (a : Args) (count i : ℕ) : Type 0 where
  pub same : whole ≡ args_from t view left a count i

pub begin : (t : ℕ → Tok) (view : View) (n : ℕ) {left : ℕ} (none : Args) {a : Args} (i : ℕ) → left ≡ n → a ≡ none →
    Going t view (args_from t view n none 0 i) left a 0 i
begin t view n none i e h = record { same = rw (e, h) }

-- no more are allowed
pub at-limit : {t : ℕ → Tok} {view : View} {whole : Res Args} {left : ℕ} {a : Args} {count i : ℕ} {r : Refusal} →
    Going t view whole left a count i → left ≡ 0 → r ≡ record { number = 20; token = i; detail = 0 } → Err r ≡ to_taken whole
unfolding args_from
at-limit {whole = whole} g h e = taken-no whole (rw (g.same, h, e))

-- what follows an argument
abbrev after : (ℕ → Tok) → View → ℕ → Args → ℕ → ℕ → Item → ℕ → Res Args
after t view left a count i item j =
    perhaps (is_kind t 11 j) j (λ k. args_from t view left (put a item) (count_with t count i) k) (ok (put a item) j)

from_one : (t : ℕ → Tok) (view : View) (left : ℕ) (a : Args) (count i : ℕ) → (left ≡ 0 → ⊥) →
    args_from t view left a count i ≡ bind (arg_at t view a count i) (after t view (left - 1) a count i)
unfolding args_from
from_one t view left a count i h =
    let e : left ≡ suc (left - 1) = omega arith in
    ap (λ (n : ℕ). args_from t view n a count i) e

-- the loop's body: one is the argument at i, or its refusal
module _ {t : ℕ → Tok} {view : View} {whole : Res Args} {left : ℕ} {a : Args} {count i : ℕ} {one : Taken Item}
    (going : Going t view whole left a count i) (more : left ≡ 0 → ⊥) (read : one ≡ to_taken (arg_at t view a count i)) where
  turned : whole ≡ bind (arg_at t view a count i) (after t view (left - 1) a count i)
  turned = going.same ∙ from_one t view left a count i more

  pub no-arg : {r : Refusal} → one ≡ Err r → Err r ≡ to_taken whole
  no-arg m = taken-no whole (stop_taken (arg_at t view a count i) (after t view (left - 1) a count i) read m ∙ sym turned)

  -- comma is what stands behind the argument
  module _ {item : Item} {next : Cursor} {b : Args} {comma : Option Cursor} (was : one ≡ Ok (item, next)) (stored : b ≡ put a item)
      (asked : comma ≡ accepted (is_kind t 11 next.index) next.index) where
    then-after : {y : Res Args} → y ≡ after t view (left - 1) a count i item next.index → y ≡ whole
    then-after h = then-taken (arg_at t view a count i) (after t view (left - 1) a count i) read was h ∙ sym turned

    pub last-arg : comma ≡ None → Ok (b, next) ≡ to_taken whole
    last-arg m =
        taken-ok whole
        (then-after (perhaps-no (is_kind t 11 next.index) next.index _ _ asked m (ap (λ (x : Args). ok x next.index) stored)))

    pub go_on : {n : ℕ} {behind : Cursor} → n ≡ count_with t count i → comma ≡ Some behind →
        Going t view whole (left - 1) b n behind.index
    go_on counted m =
        record { same = sym (then-after (perhaps-yes (is_kind t 11 next.index) next.index _ _ asked m (rw (stored, counted)))) }
