-- The loop over the days and ranges of a day set: one law for each way out and one for going round.
use Prim.Native.Nat.{ℕ, suc, ◌-◌}
use mathlib.Core.Path.{◌≡◌, ◌∙◌, refl, ap, sym}
use native.Mathlib.Omega.{arith}
use Rattle.tokens.specs.Result.{Res, ok, bind, perhaps}
use Rattle.tokens.specs.Cursor.{Tok, is_kind, accepted, Taken, to_taken}
use Rattle.tokens.specs.Kind.{COMMA}
use Rattle.tokens.specs.declared.cursor.Cursor.{Cursor}
use Rattle.tokens.specs.declared.cursor.Refusal.{Refusal}
use Rattle.model.specs.declared.Days.{Days}
use Rattle.days.specs.Read.{range_at, ranges_from, no_day, day_set}
use Rattle.tokens.proofs.Chain.{taken-ok, taken-no, then-taken, stop_taken, perhaps-yes, perhaps-no}
use Rattle.std.specs.Prelude.{Option, Some, None, Ok, Err}

-- these days are read, with left more ranges allowed: what is left from i on gives the whole answer
pub record Going (t : ℕ → Tok) (whole : Res Days) (left : ℕ) (days : Days) (i : ℕ) : Type 0 where
  pub same : whole ≡ ranges_from t left days i

pub begin : (t : ℕ → Tok) (n : ℕ) {left : ℕ} {days : Days} (i : ℕ) → left ≡ n → days ≡ no_day → Going t (day_set t n i) left days i
unfolding day_set
begin t n i e h = record { same = rw (e, h) }

-- no more are allowed
pub at-limit : {t : ℕ → Tok} {whole : Res Days} {left : ℕ} {days : Days} {i : ℕ} {r : Refusal} → Going t whole left days i → left ≡ 0 →
    r ≡ record { number = 20; token = i; detail = 0 } → Err r ≡ to_taken whole
unfolding ranges_from
at-limit {whole = whole} g h e = taken-no whole (rw (g.same, h, e))

-- what follows a range
abbrev after : (ℕ → Tok) → ℕ → Days → ℕ → Res Days
after t left more j = perhaps (is_kind t COMMA j) j (λ k. ranges_from t left more k) (ok more j)

from_one : (t : ℕ → Tok) (left : ℕ) (days : Days) (i : ℕ) → (left ≡ 0 → ⊥) → ranges_from t left days i ≡ bind (range_at t days i) (after t (left - 1))
unfolding ranges_from
from_one t left days i h =
    let e : left ≡ suc (left - 1) = omega arith in
    ap (λ (n : ℕ). ranges_from t n days i) e

-- the loop's body: one is the range at i, or its refusal
module _ {t : ℕ → Tok} {whole : Res Days} {left : ℕ} {days : Days} {i : ℕ} {one : Taken Days} (going : Going t whole left days i)
    (some : left ≡ 0 → ⊥) (read : one ≡ to_taken (range_at t days i)) where
  turned : whole ≡ bind (range_at t days i) (after t (left - 1))
  turned = going.same ∙ from_one t left days i some

  pub no_range_lem : {r : Refusal} → one ≡ Err r → Err r ≡ to_taken whole
  no_range_lem m = taken-no whole (stop_taken (range_at t days i) (after t (left - 1)) read m ∙ sym turned)

  -- comma is what stands behind the range
  module _ {more : Days} {behind : Cursor} {comma : Option Cursor} (was : one ≡ Ok (more, behind))
      (asked : comma ≡ accepted (is_kind t COMMA behind.index) behind.index) where
    then-after : {y : Res Days} → y ≡ after t (left - 1) more behind.index → y ≡ whole
    then-after h = then-taken (range_at t days i) (after t (left - 1)) read was h ∙ sym turned

    pub last-range : comma ≡ None → Ok (more, behind) ≡ to_taken whole
    last-range m = taken-ok whole (then-after (perhaps-no (is_kind t COMMA behind.index) behind.index _ _ asked m refl))

    pub go_on : {next : Cursor} → comma ≡ Some next → Going t whole (left - 1) more next.index
    go_on m = record { same = sym (then-after (perhaps-yes (is_kind t COMMA behind.index) behind.index _ _ asked m refl)) }
