-- The answers of the reader's parts.
use Rattle.std.specs.Prelude.{ℕ, ◌+◌, List, set, ltb, Result, Ok, Err}
use Rattle.text.specs.Choice.{pick}
use Rattle.text.specs.declared.place.IllFormed.{IllFormed}
use Rattle.tokens.specs.Result.{Res, ok, no}
use Rattle.tokens.specs.Record.{capacity, line_at, column_at}
use Rattle.tokens.specs.Cursor.{at, Taken}
use Rattle.tokens.specs.declared.cursor.Refusal.{Refusal}
use Rattle.sheet.specs.declared.Habit.{Habit}
use Rattle.sheet.specs.declared.Settings.{Settings}
use Rattle.language.specs.Section.{Lists}
use Rattle.model.specs.Lists.{triggers_of, conditions_of, accepted_with, refused_with}
use Rattle.model.specs.declared.Trigger.{Trigger}
use Rattle.model.specs.declared.Condition.{Condition}
use Rattle.model.specs.declared.Triggers.{Triggers}
use Rattle.model.specs.declared.Conditions.{Conditions}
use Rattle.model.specs.declared.Answer.{Answer}
use Rattle.reader.specs.declared.parts.Rule.{Rule}

-- a list with one more entry; a full one stays
unfoldable pub with_trigger : Triggers → Trigger → Triggers
with_trigger l x =
    pick (ltb l.count 4) (record { rows = set l.rows l.count (record { trigger = x }); count = l.count + 1 }) l

unfoldable pub with_condition : Conditions → Condition → Conditions
with_condition l y =
    pick (ltb l.count 4) (record { rows = set l.rows l.count (record { condition = y }); count = l.count + 1 }) l

-- the answers of the code: the lists as the model holds them
unfoldable pub to_whens : Res (List Trigger) → Taken Triggers
to_whens (ok xs i) = Ok (triggers_of xs, at i)
to_whens (no r) = Err r

unfoldable pub to_ifs : Res (List Condition) → Taken Conditions
to_ifs (ok ys i) = Ok (conditions_of ys, at i)
to_ifs (no r) = Err r

unfoldable pub to_rule : Res Lists → Result Rule Refusal
to_rule (ok l i) = Ok (record { triggers = triggers_of l.triggers; conditions = conditions_of l.conditions })
to_rule (no r) = Err r

-- the settings of the same call with another habit
unfoldable pub with_habit : Habit → Settings → Settings
with_habit habit settings =
    record { primary = settings.primary; habit = habit; own = settings.own; listed = settings.listed }

-- the place of a refusal's token in the records, or the end's
unfoldable pub placed : List ℕ → ℕ → ℕ → Refusal → Answer
placed words line column r =
    pick (ltb r.token (capacity words))
    (refused_with r.number (line_at words r.token) (column_at words r.token) r.detail)
    (refused_with r.number line column r.detail)

-- what the parser answers on these records; line and column are the end's
unfoldable pub answered : List ℕ → ℕ → ℕ → Res Lists → Answer
answered words line column (ok l i) = accepted_with l.triggers l.conditions
answered words line column (no r) = placed words line column r

-- a call whose primary adapter is not its party's: question 4, then 53
unfoldable pub not_own : Result Unit IllFormed → Answer
not_own (Ok _) = refused_with 53 0 0 0
not_own (Err at) = refused_with 4 at.line at.column 0
