-- The rule in the records by the habit of the call: under the shop profile it is judged where it is accepted without, and in any other call there is
-- nothing to judge.
use Prim.Native.Nat.{ℕ}
use mathlib.Core.Path.{◌≡◌}
use mathlib.Core.Bool.{true}
use mathlib.Core.List.{List}
use lib.ListN.{length}
use Rattle.tokens.specs.Result.{Res}
use Rattle.sheet.specs.View.{may_repeat, any_form, view_of}
use Rattle.sheet.specs.declared.Habit.{Habit}
use Rattle.sheet.specs.declared.Settings.{Settings}
use Rattle.language.specs.Section.{Lists}
use Rattle.language.specs.Read.{rule_in, on_accepted, anywhere, rule_of, read_of, rule_call, shop_call}
use Rattle.language.specs.Profile.{Profiled}
use Rattle.language.proofs.HabitLaws.{accepted-same}
use Rattle.language.proofs.ProfileTheorem.{profiled}
use Rattle.model.specs.declared.Answer.{Answer}
use Rattle.reader.specs.Parts.{with_habit, to_rule}
use Rattle.reader.specs.declared.parts.Rule.{Rule}
use Rattle.tokens.specs.declared.cursor.Refusal.{Refusal}
use Rattle.std.specs.Prelude.{Result}

-- what is seen with a habit: nothing is lost where any form may stand, and the default call sees what the shop's sees, with any form anywhere
any_seen : (settings : Settings) (sheet : List ℕ) → any_form settings.habit ≡ true → anywhere (view_of settings sheet) ≡ view_of settings sheet
unfolding view_of
any_seen settings sheet h = rw (h)

shop-seen : (settings : Settings) (sheet : List ℕ) → settings.habit ≡ Habit.Shop → view_of (with_habit Habit.Shop settings) sheet ≡ view_of settings sheet
unfolding view_of with_habit
shop-seen settings sheet h = rw (h)

full-seen : (settings : Settings) (sheet : List ℕ) → settings.habit ≡ Habit.Shop →
    view_of (with_habit Habit.Rule settings) sheet ≡ anywhere (view_of settings sheet)
unfolding view_of with_habit may_repeat any_form
full-seen settings sheet h = rw (h)

module _ (settings : Settings) (text words sheet : List ℕ) (lent : List (List ℕ)) where
  -- the rule as it is read with another habit
  abbrev read_by : Habit → Res Lists
  read_by habit = rule_in text words (view_of (with_habit habit settings) sheet) lent

  -- in a call where any form may stand, both are the same
  module _ {rule : Result Rule Refusal} where
    any_form_lem : any_form settings.habit ≡ true → rule ≡ to_rule (rule_in text words (view_of settings sheet) lent) →
        rule ≡ to_rule (rule_of text words (view_of settings sheet) lent)
    unfolding rule_of
    any_form_lem h e = rw (any_seen settings sheet h, accepted-same (rule_in text words (view_of settings sheet) lent)) e

    pub rule_default : settings.habit ≡ Habit.Rule → rule ≡ to_rule (rule_in text words (view_of settings sheet) lent) →
        rule ≡ to_rule (rule_of text words (view_of settings sheet) lent)
    unfolding any_form
    rule_default h e = any_form_lem (rw h) e

    pub rule-archive : settings.habit ≡ Habit.Archive → rule ≡ to_rule (rule_in text words (view_of settings sheet) lent) →
        rule ≡ to_rule (rule_of text words (view_of settings sheet) lent)
    unfolding any_form
    rule-archive h e = any_form_lem (rw h) e

    pub rule-shop : settings.habit ≡ Habit.Shop → rule ≡ to_rule (on_accepted (read_by Habit.Rule) (read_by Habit.Shop)) →
        rule ≡ to_rule (rule_of text words (view_of settings sheet) lent)
    unfolding rule_of
    rule-shop h e = rw (← full-seen settings sheet h, ← shop-seen settings sheet h) e

-- what the shop's call promises of the forms that the profile leaves out, by its answer and the words at exit
pub profiled-by : (party primary : ℕ) (text sheet : List ℕ) (lent : List (List ℕ)) (words : List ℕ) {a : Answer} {exit : List ℕ} →
    a ≡ (read_of (shop_call party primary) text sheet lent words).answer → exit ≡ (read_of (shop_call party primary) text sheet lent words).buffer →
    Profiled party primary text sheet lent (length words) (read_of (rule_call party primary) text sheet lent words) (record { answer = a; buffer = exit })
profiled-by party primary text sheet lent words e f = rw (e, f) (profiled party primary text sheet lent words)
