-- What a call that surveyed its sheet goes by is what it sees (specs/View.antt).
use Prim.Native.Nat.{ℕ, ◌≤◌}
use native.Mathlib.Omega.{arith}
use mathlib.Core.Path.{◌≡◌, ap, ◌∙◌}
use mathlib.Core.Bool.{Bool}
use mathlib.Core.List.{List}
use mir.Syntax.{w8}
use mir.Val.{Fits}
use Rattle.std.specs.Prelude.{Result, Ok, Err}
use Rattle.model.specs.Limits.{last_adapter}
use Rattle.sheet.specs.Sheet.{lines, lists, well_formed, bad_line_rule, sheet_check}
use Rattle.sheet.specs.Party.{owns}
use Rattle.sheet.specs.Adapters.{has, packed}
use Rattle.sheet.specs.Survey.{survey_of}
use Rattle.sheet.specs.View.{seen, own_primary, view_of, settings_of}
use Rattle.sheet.specs.declared.Call.{Call}
use Rattle.sheet.specs.declared.adapters.Adapters.{Adapters}
use Rattle.sheet.specs.declared.rows.BadLine.{BadLine}
use Rattle.sheet.specs.declared.rows.Said.{Said}
use Rattle.sheet.proofs.AdapterLaws.{has-packed}
use Rattle.sheet.proofs.SurveyLaws.{survey_bad, survey_well}
use Rattle.sheet.proofs.ViewLaws.{seen-settings}

-- a byte is an adapter
pub in_byte : {n : ℕ} → Fits w8 n → n ≤ last_adapter
in_byte h = let f = h.fits in omega arith

module _ (call : Call) (sheet : List ℕ) {survey : Result Said BadLine} (checked : survey ≡ survey_of call.party sheet) where
  pub sheet-bad : {bad : BadLine} → survey ≡ Err bad → sheet_check sheet ≡ bad_line_rule bad.line
  sheet-bad is = survey_bad call.party sheet (rw checked at is)

  module _ {said : Said} (good : survey ≡ Ok said) where
    kept : (sheet_check sheet ≡ well_formed)
        × (said.own ≡ packed (owns call.party (lines sheet)))
        × (said.listed ≡ packed (λ a. lists a (lines sheet)))
    kept = survey_well call.party sheet (rw checked at good)

    pub sheet-good : sheet_check sheet ≡ well_formed
    sheet-good = kept.0

    -- 53 is asked of the set that is kept
    pub own_is : Fits w8 call.primary → {own : Bool} → own ≡ has said.own call.primary → own ≡ own_primary call sheet
    unfolding own_primary
    own_is byte asked = asked ∙ ap (λ (set : Adapters). has set call.primary) kept.1 ∙ has-packed _ _ (in_byte byte)

    pub view-is : view_of (record { primary = call.primary; habit = call.habit; own = said.own; listed = said.listed }) sheet ≡ seen call sheet
    unfolding settings_of seen
    view-is = rw (kept.1, kept.2) (seen-settings call sheet)
