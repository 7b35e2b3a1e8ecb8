-- Every adapter in a reading with what a call sees is one that the call can name (writing/specs/Reached.antt): the primary, one that is listed, or
-- that of a row, if the rows are on such adapters.
use Prim.Native.Nat.{ℕ}
use mathlib.Core.Path.{◌≡◌, refl}
use mathlib.Core.Bool.{Bool, true}
use mathlib.Core.List.{List}
use lib.Dec.{eqb}
use borrow.Author.Tests.{eq-eqb}
use Rattle.text.proofs.Tests.{picked}
use Rattle.tokens.specs.Cursor.{Tok}
use Rattle.sheet.specs.Picks.{Picks}
use Rattle.sheet.specs.Sheet.{Entry}
use Rattle.sheet.specs.View.{View, seen}
use Rattle.sheet.specs.declared.Call.{Call}
use Rattle.sheet.specs.declared.resolve.Scope.{Scope}
use Rattle.references.specs.Grammar.{Adapter, Clause, Refers, Inside, R, InputDevice, Target, Arg, ArgList, Last, Scoped, OnAdapter, Selects, ArgsOf, OneInstance}
use Rattle.references.specs.declared.refs.NameOrId.{NameOrId}
use Rattle.references.specs.declared.args.Item.{Item}
use Rattle.model.specs.Ranges.{Free, Each}
use Rattle.model.specs.declared.Condition.{Condition}
use Rattle.model.specs.declared.InputRef.{InputRef}
use Rattle.model.specs.declared.LightTarget.{LightTarget}
use Rattle.model.specs.declared.Name.{Name}
use Rattle.model.specs.declared.Operand.{Operand}
use Rattle.model.specs.declared.Reading.{Reading}
use Rattle.model.specs.declared.Ref.{Ref}
use Rattle.model.specs.declared.Selector.{Selector}
use Rattle.model.specs.declared.Trigger.{Trigger}
use Rattle.model.specs.declared.Value.{Value}
use Rattle.language.specs.Demand.{HasReading}
use Rattle.language.specs.grammar.Expr.{ReadingOf, ValueOf}
use Rattle.language.specs.grammar.Trigger.{TriggerOf}
use Rattle.language.specs.grammar.Condition.{OperandOf, ConditionOf}
use Rattle.language.specs.grammar.Text.{ReadingWith}
use Rattle.language.proofs.RangeLaws.{each_in}
use Rattle.writing.specs.Reached.{is_reached, reached_selector, reached_target, reached_reading, reached_value, reached_operand, reached_trigger, reached_condition}
use Rattle.rereading.specs.Rereading.{RowsReached}
use Rattle.rereading.proofs.PossibleLaws.{holds}

-- ---- adapters that are written

pub listed-reached : (view : View) {a : ℕ} → view.listed a ≡ true → is_reached view a ≡ true
unfolding is_reached
listed-reached view {a} h = picked (λ (t : Bool). t ≡ true) (eqb a view.primary) (λ e. refl) (λ e. h)

pub primary-reached : (view : View) → is_reached view view.primary ≡ true
unfolding is_reached
primary-reached view = rw (eq-eqb view.primary view.primary refl)

abbrev ScopeReached : View → Scope → Type 0
ScopeReached view Scope.Any = Free
ScopeReached view (Scope.On a) = is_reached view a ≡ true

abbrev ItemReached : View → Item → Type 0
ItemReached view (Item.Device d) = Free
ItemReached view (Item.Instance n) = Free
ItemReached view (Item.Group n i) = Free
ItemReached view (Item.Type n) = Free
ItemReached view (Item.Adapter a) = is_reached view a ≡ true

module _ {t : ℕ → Tok} {view : View} where
  adapter_in : {i a j : ℕ} → Adapter t view i a j → is_reached view a ≡ true
  adapter_in (Adapter.adapter h l) = listed-reached view l

  clause_in : {i j : ℕ} {scope : Scope} → Clause t view i scope j → ScopeReached view scope
  clause_in Clause.no_clause = tt
  clause_in (Clause.clause a b c h) = adapter_in h

  arg_in : {m i n j : ℕ} {x : Item} → Arg t view m i x n j → ItemReached view x
  arg_in (Arg.dev w e h) = tt
  arg_in (Arg.inst w e h) = tt
  arg_in (Arg.group w e h) = tt
  arg_in (Arg.type w e h) = tt
  arg_in (Arg.adapter w e h) = adapter_in h
  arg_in (Arg.first h) = tt
  arg_in (Arg.second h) = tt

  items_in : {m i j : ℕ} {xs : List Item} → ArgList t view m i xs j → Each (ItemReached view) xs
  items_in (ArgList.one h) = Each.more (arg_in h) Each.none
  items_in (ArgList.more h c g) = Each.more (arg_in h) (items_in g)

last_in : (view : View) {k : ℕ} {xs : List Item} {x : Item} → Each (ItemReached view) xs → Last k xs x → ItemReached view x
last_in view Each.none l = elim l [ ]
last_in view (Each.more p e) (Last.last q w) = p
last_in view (Each.more p e) (Last.later l) = last_in view e l

scoped_in : (view : View) {xs : List Item} {scope : Scope} → Each (ItemReached view) xs → Scoped xs scope → ScopeReached view scope
scoped_in view e (Scoped.nowhere w) = tt
scoped_in view e (Scoped.somewhere l) = last_in view e l

on_adapter_in : {view : View} {scope : Scope} {a : ℕ} → ScopeReached view scope → OnAdapter view scope a → is_reached view a ≡ true
on_adapter_in {view} s OnAdapter.primary = primary-reached view
on_adapter_in s OnAdapter.given = s

-- the row that a name picks is one of the rows
picked_in : {P : Entry → Type 0} {kind : ℕ} {name : List ℕ} {scope : Scope} {es : List Entry} {e : Entry} → Each P es →
    Picks kind name scope es e → P e
picked_in Each.none p = elim p [ ]
picked_in (Each.more h hs) (Picks.past x p) = picked_in hs p
picked_in (Each.more h hs) (Picks.here s w) = h

-- ---- references

module _ {t : ℕ → Tok} {view : View} (rows : RowsReached view) where
  refers_in : {kind most : ℕ} {d : NameOrId} {scope : Scope} {r : Ref} → ScopeReached view scope → Refers t view kind most d scope r →
      is_reached view r.adapter ≡ true
  refers_in s (Refers.row p) = picked_in rows p
  refers_in s (Refers.on_primary l) = primary-reached view
  refers_in s (Refers.on_adapter_rule l) = s

  inside_in : {kind most i j : ℕ} {r : Ref} → Inside t view kind most i r j → is_reached view r.adapter ≡ true
  inside_in (Inside.inside d c b h) = refers_in (clause_in c) h

  r_in : {kind most i j : ℕ} {r : Ref} → R t view kind most i r j → is_reached view r.adapter ≡ true
  r_in (R.r a h) = inside_in h

  input-device_in : {i j : ℕ} {r : Ref} → InputDevice t view i r j → is_reached view r.adapter ≡ true
  input-device_in (InputDevice.plain a h) = inside_in h
  input-device_in (InputDevice.with_dev_rule a w e h) = inside_in h

  target_in : {i j : ℕ} {to : LightTarget} → Target t view i to j → reached_target view to ≡ true
  unfolding reached_target
  target_in (Target.lamp w h) = r_in h
  target_in (Target.group w h) = r_in h
  target_in (Target.broadcast w may) = eq-eqb view.primary view.primary refl

  selects_in : {xs : List Item} {s : Selector} → Each (ItemReached view) xs → Selects t view xs s → reached_selector view s ≡ true
  unfolding reached_selector
  selects_in e (Selects.instance w d n s h) = refers_in (scoped_in view e s) h
  selects_in e (Selects.instances g w v s a k) = on_adapter_in (scoped_in view e s) a

  args_in : {i j : ℕ} {s : Selector} → ArgsOf t view i s j → reached_selector view s ≡ true
  args_in (ArgsOf.args a h p b g) = selects_in (items_in h) g

  one_instance_in : {i j : ℕ} {r : InputRef} → OneInstance t view i r j → is_reached view r.device.adapter ≡ true
  unfolding reached_selector
  one_instance_in (OneInstance.one_instance_rule h) = args_in h

  -- ---- entries

  module _ {range : ℕ → Name} where
    reading_in : {i j : ℕ} {r : Reading} → ReadingOf t view range i r j → reached_reading view r ≡ true
    unfolding reached_reading
    reading_in (ReadingOf.of_lamp w r p h) = r_in r
    reading_in (ReadingOf.of_group w r p h) = r_in r
    reading_in (ReadingOf.of_input w r p h) = one_instance_in r
    reading_in (ReadingOf.of_time w p h) = refl
    reading_in (ReadingOf.of_sun w p h) = refl
    reading_in (ReadingOf.of_event w e p h) = refl
    reading_in (ReadingOf.of_var w q) = refl

    value_in : {i j : ℕ} {v : Value} → ValueOf t view range i v j → reached_value view v ≡ true
    unfolding reached_value
    value_in (ValueOf.number h) = refl
    value_in (ValueOf.signed_number h) = refl
    value_in (ValueOf.reading h) = reading_in h
    value_in (ValueOf.reading_with h d) = reading_in h

    operand_in : {i j : ℕ} {v : Operand} → OperandOf t view range i v j → reached_operand view v ≡ true
    unfolding reached_operand
    operand_in (OperandOf.text h few) = refl
    operand_in (OperandOf.value h) = value_in h

    pub trigger-reached : {i j : ℕ} {x : Trigger} → TriggerOf t view range i x j → reached_trigger view x ≡ true
    unfolding reached_trigger
    trigger-reached (TriggerOf.timer_fires w q p) = refl
    trigger-reached (TriggerOf.rule_fails w q p) = refl
    trigger-reached (TriggerOf.controller_starts w p) = refl
    trigger-reached (TriggerOf.controller_becomes_active w p) = refl
    trigger-reached (TriggerOf.http_trigger_rule w v) = refl
    trigger-reached (TriggerOf.mqtt_message w a topic) = refl
    trigger-reached (TriggerOf.every w d l) = refl
    trigger-reached (TriggerOf.at_time w b d) = refl
    trigger-reached (TriggerOf.at_solar w b d) = refl
    trigger-reached (TriggerOf.scene_recalled w a h c b v o) = on_adapter_in (clause_in c) o
    trigger-reached (TriggerOf.goes_offline w r p) = r_in r
    trigger-reached (TriggerOf.comes_online w r p) = r_in r
    trigger-reached (TriggerOf.group_becomes w r p c) = r_in r
    trigger-reached (TriggerOf.hcl_override w p c f h) = target_in h
    trigger-reached (TriggerOf.lamp_turns w r v c) = r_in r
    trigger-reached (TriggerOf.lamp_level_cross w r a p c h) = r_in r
    trigger-reached (TriggerOf.power_cycled w v r p) = input-device_in r
    trigger-reached (TriggerOf.manual_config_changed w v r p) = input-device_in r
    trigger-reached (TriggerOf.input_event_rule w s v e) = args_in s
    trigger-reached (TriggerOf.input_occupancy w r v c) = one_instance_in r
    trigger-reached (TriggerOf.input_light_cross w r a v p c h) = one_instance_in r
    trigger-reached (TriggerOf.input_position_change w r a v u) = one_instance_in r

    pub condition-reached : {i j : ℕ} {y : Condition} → ConditionOf t view range i y j → reached_condition view y ≡ true
    unfolding reached_condition
    condition-reached (ConditionOf.controller_active w p) = refl
    condition-reached (ConditionOf.timer_running w q p) = refl
    condition-reached (ConditionOf.rule_enabled w q p) = refl
    condition-reached (ConditionOf.last_fired w q p d) = refl
    condition-reached (ConditionOf.device_online w r p) = r_in r
    condition-reached (ConditionOf.sun_is w p c) = refl
    condition-reached (ConditionOf.time_in w v a p b) = refl
    condition-reached (ConditionOf.day_in w v h) = refl
    condition-reached (ConditionOf.group_state w r c) = r_in r
    condition-reached (ConditionOf.hcl_state w p c f h) = target_in h
    condition-reached (ConditionOf.lamp_is w r v c) = r_in r
    condition-reached (ConditionOf.lamp_compare w r a p c h) = holds (r_in r) (value_in h)
    condition-reached (ConditionOf.input_occupancy w r v c) = one_instance_in r
    condition-reached (ConditionOf.input_light w r a p c h) = holds (one_instance_in r) (value_in h)
    condition-reached (ConditionOf.var_compare w q c h) = operand_in h

    -- every reading with that view
    pub reading-reached : {xs : List Trigger} {ys : List Condition} → ReadingWith t view range xs ys →
        Each (λ (x : Trigger). reached_trigger view x ≡ true) xs × Each (λ (y : Condition). reached_condition view y ≡ true) ys
    reading-reached h = each_in (λ i j x g. trigger-reached g) (λ i j y g. condition-reached g) h

-- every reading of a text
pub has-reading-reached : (call : Call) (text sheet : List ℕ) (lent : List (List ℕ)) (size : ℕ) (xs : List Trigger) (ys : List Condition) →
    RowsReached (seen call sheet) → HasReading call text sheet lent size xs ys →
    Each (λ (x : Trigger). reached_trigger (seen call sheet) x ≡ true) xs × Each (λ (y : Condition). reached_condition (seen call sheet) y ≡ true) ys
has-reading-reached call text sheet lent size xs ys rows h = reading-reached rows h.reading
