-- What a call sees of its sheet and of its own settings. The definitions and the grammar above this layer look at nothing else.
use Rattle.std.specs.Prelude.{ℕ, List, Bool, true, false}
use Rattle.text.specs.Choice.{pick}
use Rattle.sheet.specs.Sheet.{lines, Entry, entries, lists}
use Rattle.sheet.specs.Party.{owns, entries_on}
use Rattle.sheet.specs.Adapters.{has, packed}
use Rattle.sheet.specs.declared.Habit.{Habit}
use Rattle.sheet.specs.declared.Call.{Call}
use Rattle.sheet.specs.declared.Settings.{Settings}

-- the primary adapter, which adapters are listed, the rows with names, whether an argument of `input(` may be repeated, and at which tokens, by
-- their index, the forms may stand that the shop profile leaves out: an id of a reference, `broadcast`, and the `event` of a reading
pub record View : Type 0 where
  pub primary : ℕ
  pub listed : ℕ → Bool
  pub rows : List Entry
  pub repeats : Bool
  pub allows : ℕ → Bool

-- document 02, §11: "By default a repeat is now turned away; the archive loader keeps a call with the old habit, unchanged."
unfoldable pub may_repeat : Habit → Bool
may_repeat Habit.Rule = false
may_repeat Habit.Archive = true
may_repeat Habit.Shop = false

-- document 02, §9: "Under the profile each lamp, group, device and input device in use is named, instance groups aside, there is no broadcast, and no
-- `event` reading." In a call without repeats every reference of a reading is in use.
unfoldable pub any_form : Habit → Bool
any_form Habit.Rule = true
any_form Habit.Archive = true
any_form Habit.Shop = false

-- document 02, §6: "A call names its party and its own primary adapter, which stands in for the sheet's." "Only rows on the party's adapters are
-- candidates, and another's adapter counts as not listed."
unfoldable pub seen : Call → List ℕ → View
seen call s =
    record {
      primary = call.primary;
      listed = λ a. pick (owns call.party (lines s) a) (lists a (lines s)) false;
      rows = entries_on (owns call.party (lines s)) (entries (lines s));
      repeats = may_repeat call.habit;
      allows = λ i. any_form call.habit;
    }

-- whether the call's primary adapter is its party's (53)
unfoldable pub own_primary : Call → List ℕ → Bool
own_primary call s = owns call.party (lines s) call.primary

-- The code's way to it: which adapters are the party's, and which are listed, is found once and kept. Nothing from here on need be believed:
-- `seen-settings` shows that it comes to the same.
unfoldable pub settings_of : Call → List ℕ → Settings
settings_of call s =
    record {
      primary = (seen call s).primary;
      habit = call.habit;
      own = packed (owns call.party (lines s));
      listed = packed (λ a. lists a (lines s));
    }

unfoldable pub view_of : Settings → List ℕ → View
view_of settings s =
    record {
      primary = settings.primary;
      listed = λ a. pick (has settings.own a) (has settings.listed a) false;
      rows = entries_on (has settings.own) (entries (lines s));
      repeats = may_repeat settings.habit;
      allows = λ i. any_form settings.habit;
    }
