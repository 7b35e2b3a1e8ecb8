-- A whole rule is answered alike with any count of arguments, or of days or ranges, that is at least the number of its tokens: neither ARGS nor a day
-- set runs out of it.
use Prim.Native.Nat.{ℕ, ◌≤◌}
use native.Mathlib.Omega.{arith}
use mathlib.Core.Path.{◌≡◌, fun_ext}
use mathlib.Core.List.{List}
use Rattle.tokens.specs.Record.{capacity}
use Rattle.tokens.specs.Cursor.{Tok, tokens}
use Rattle.sheet.specs.View.{View}
use Rattle.references.specs.Args.{input_selector, input_ref}
use Rattle.references.proofs.ArgComplete.{no_token_rule}
use Rattle.references.proofs.FuelLaws.{selector_fuel, input_fuel}
use Rattle.days.specs.Read.{day_set, on_days}
use Rattle.days.proofs.FuelLaws.{day_set_fuel, on_days_fuel}
use Rattle.model.specs.declared.Name.{Name}
use Rattle.model.specs.declared.Condition.{Condition}
use Rattle.tokens.specs.Result.{Res}
use Rattle.language.specs.Expr.{input_reading, reading_by, reading_at, read_value, value_at}
use Rattle.language.specs.Trigger.{at_bound, at_trigger, input_trigger, trigger_by, trigger_at}
use Rattle.language.specs.Condition.{day_condition, lamp_compared, lamp_point, lamp_state, lamp_condition, light_than, input_state, input_condition, operand_at, var_compared, var_condition, condition_by, condition_at}
use Rattle.language.specs.Section.{Topics, trigger_named, when_section, if_section, rule_at}
use Rattle.language.specs.Range.{range_of}
use Rattle.language.specs.Read.{topics_with, rule_in, on_accepted, anywhere, rule_of}
use Rattle.language.proofs.WordLaws.{End}

-- no token stands at n or behind it, and both counts are at least n
module _ (t : ℕ → Tok) (view : View) (range : ℕ → Name) {n m k : ℕ} (end : End t n) (p : n ≤ m) (q : n ≤ k) where
  selector : input_selector t view m ≡ input_selector t view k
  selector = fun_ext (λ i. selector_fuel t view end p q i)

  input : input_ref t view m ≡ input_ref t view k
  input = fun_ext (λ i. input_fuel t view end p q i)

  day_set_rule : day_set t m ≡ day_set t k
  day_set_rule = fun_ext (λ i. day_set_fuel t end p q i)

  on_days_lem : on_days t m ≡ on_days t k
  on_days_lem = fun_ext (λ i. on_days_fuel t end p q i)

  value : value_at t view range m ≡ value_at t view range k
  unfolding value_at read_value reading_at reading_by input_reading
  value = fun_ext (λ i. rw (input))

  trigger : trigger_at t view range m ≡ trigger_at t view range k
  unfolding trigger_at trigger_by at_trigger at_bound input_trigger
  trigger = fun_ext (λ i. rw (selector, on_days_lem))

  condition : condition_at t view range m ≡ condition_at t view range k
  unfolding condition_at condition_by var_condition var_compared operand_at input_condition input_state light_than lamp_condition lamp_state lamp_point lamp_compared day_condition
  condition = fun_ext (λ i. rw (input, value, day_set_rule))

  named : (topics : Topics) → trigger_named t view range topics m ≡ trigger_named t view range topics k
  unfolding trigger_named
  named topics = fun_ext (λ earlier. fun_ext (λ i. rw (trigger)))

  -- a whole rule
  pub rule_fuel : (topics : Topics) → rule_at t view range topics m ≡ rule_at t view range topics k
  unfolding rule_at when_section if_section
  rule_fuel topics =
      let conditions : ◌≡◌ {A = Unit {0} → ℕ → Res Condition} (λ s. condition_at t view range m) (λ s. condition_at t view range k) =
      fun_ext (λ s. condition) in
      rw (named topics, conditions, condition)

-- a call gives the number of its records as that count: no larger one would change its answer
rule_in_fuel : (text words : List ℕ) (view : View) (lent : List (List ℕ)) (k : ℕ) → capacity words ≤ k →
    rule_in text words view lent ≡ rule_at (tokens text words) view (range_of words) (topics_with text lent) k
rule_in_fuel text words view lent k h =
    rule_fuel (tokens text words) view (range_of words) (no_token_rule text words) (omega arith) h (topics_with text lent)

pub call_fuel : (text words : List ℕ) (view : View) (lent : List (List ℕ)) (k : ℕ) → capacity words ≤ k →
    rule_of text words view lent ≡
    on_accepted (rule_at (tokens text words) (anywhere view) (range_of words) (topics_with text lent) k)
    (rule_at (tokens text words) view (range_of words) (topics_with text lent) k)
unfolding rule_of
call_fuel text words view lent k h = rw (rule_in_fuel text words (anywhere view) lent k h, rule_in_fuel text words view lent k h)
