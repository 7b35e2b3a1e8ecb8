-- A sheet on which every adapter is listed and is party 0's. With it a call of that party can name whatever is possible, if a broadcast is on its primary.
use Prim.Native.Nat.{ℕ, zero, suc, ◌≤◌, ◌<◌}
use native.Mathlib.Omega.{arith}
use mathlib.Core.Path.{◌≡◌, refl, sym}
use mathlib.Core.Bool.{Bool, true}
use mathlib.Core.List.{List, [], ◌∷◌, ◌++◌, map, head-eq_of_cons-eq, tail-eq_of_cons-eq, cons-ne-nil}
use lib.Dec.{leb, eqb}
use borrow.Author.Tests.{leb-true, eqb-false, eq-eqb}
use Rattle.std.specs.Prelude.{Option, Some}
use Rattle.text.specs.Find.{index_of, index_after}
use Rattle.text.specs.Ascii.{is_digit}
use Rattle.text.specs.Literal.{ascii}
use Rattle.text.specs.Part.{same_bytes}
use Rattle.text.specs.Split.{split}
use Rattle.text.proofs.Tests.{picked, both}
use Rattle.sheet.specs.Line.{without_return, field, rest, has_comma, digits_on, numeral, primary_of, adapter_of, line_by, bare_line, line_of}
use Rattle.sheet.specs.Party.{owner_of, owner_by, owns}
use Rattle.sheet.specs.Sheet.{lines, well_formed, following_check, may_follow, is_primary, lines_check, sheet_check, is_listing, lists}
use Rattle.sheet.specs.View.{View, seen, own_primary}
use Rattle.sheet.specs.declared.line.Line.{Line}
use Rattle.sheet.specs.declared.line.Line.TheVariants.{Primary, Adapter}
use Rattle.model.specs.Limits.{last_adapter, last_short_address, last_group}
use Rattle.model.specs.declared.Condition.{Condition}
use Rattle.model.specs.declared.InputRef.{InputRef}
use Rattle.model.specs.declared.LightTarget.{LightTarget}
use Rattle.model.specs.declared.Operand.{Operand}
use Rattle.model.specs.declared.Reading.{Reading}
use Rattle.model.specs.declared.Ref.{Ref}
use Rattle.model.specs.declared.Selector.{Selector}
use Rattle.model.specs.declared.Trigger.{Trigger}
use Rattle.model.specs.declared.Value.{Value}
use Rattle.language.specs.Read.{rule_call}
use Rattle.writing.specs.Pieces.{decimal, decimal_from}
use Rattle.writing.specs.Possible.{possible_ref, possible_input, possible_selector, possible_target, possible_name, possible_reading, possible_value, possible_operand, possible_trigger, possible_condition}
use Rattle.writing.specs.Reached.{is_reached, reached_selector, reached_target, reached_reading, reached_value, reached_operand, reached_trigger, reached_condition}
use Rattle.rereading.proofs.PossibleLaws.{holds}
use Rattle.rereading.proofs.ReadingReached.{listed-reached}
use Rattle.rereading.proofs.ReferenceReads.{adapter-few}

-- ---- the sheet

-- lines that list the adapters below n, the last first
listing : ℕ → List ℕ
listing zero = []
listing (suc n) = 0x0A ∷ ascii "adapter," ++ decimal n ++ listing n

pub every_adapter : List ℕ
every_adapter = ascii "primary,0" ++ listing 256

-- what they say
listed : ℕ → List (Option Line)
listed zero = []
listed (suc n) = Some (Adapter n) ∷ listed n

lines-say : map line_of (lines every_adapter) ≡ Some (Primary 0) ∷ listed 256
unfolding every_adapter listing listed decimal decimal_from split index_of index_after same_bytes is_digit without_return field rest has_comma digits_on numeral primary_of adapter_of line_by bare_line line_of
lines-say = refl

pub every-passes : sheet_check every_adapter ≡ well_formed
unfolding every_adapter listing decimal decimal_from split index_of index_after same_bytes is_digit without_return field rest has_comma digits_on numeral primary_of adapter_of line_by bare_line line_of following_check may_follow is_primary lines_check sheet_check
every-passes = refl

-- lines that say so list every adapter below n, and say of none whose it is
lists-below : (a n : ℕ) (ls : List (List ℕ)) → map line_of ls ≡ listed n → a < n → lists a ls ≡ true
unfolding lists is_listing listed
lists-below a zero ls e h = absurd (omega arith)
lists-below a (suc n) [] e h = absurd (cons-ne-nil _ _ (sym e))
lists-below a (suc n) (l ∷ ls) e h =
    rw (head-eq_of_cons-eq e)
    (picked (λ (t : Bool). t ≡ true) (eqb n a) (λ f. refl)
    (λ f. let other = eqb-false n a f in lists-below a n ls (tail-eq_of_cons-eq e) (omega arith)))

no-owner : (a n : ℕ) (ls : List (List ℕ)) → map line_of ls ≡ listed n → owner_of a ls ≡ 0
unfolding owner_of owner_by listed
no-owner a n [] e = refl
no-owner a zero (l ∷ ls) e = absurd (cons-ne-nil _ _ e)
no-owner a (suc n) (l ∷ ls) e = rw (head-eq_of_cons-eq e) (no-owner a n ls (tail-eq_of_cons-eq e))

first-lists : (a n : ℕ) (ls : List (List ℕ)) → map line_of ls ≡ Some (Primary 0) ∷ listed n → a < n → lists a ls ≡ true
unfolding lists is_listing
first-lists a n [] e h = absurd (cons-ne-nil _ _ (sym e))
first-lists a n (l ∷ ls) e h = rw (head-eq_of_cons-eq e) (lists-below a n ls (tail-eq_of_cons-eq e) h)

first-owner : (a n : ℕ) (ls : List (List ℕ)) → map line_of ls ≡ Some (Primary 0) ∷ listed n → owner_of a ls ≡ 0
unfolding owner_of owner_by
first-owner a n [] e = refl
first-owner a n (l ∷ ls) e = rw (head-eq_of_cons-eq e) (no-owner a n ls (tail-eq_of_cons-eq e))

-- ---- calls with it

abbrev pub view_on : ℕ → View
view_on primary = seen (rule_call 0 primary) every_adapter

every-owned : (a : ℕ) → owns 0 (lines every_adapter) a ≡ true
unfolding owns
every-owned a = eq-eqb _ _ (first-owner a 256 (lines every_adapter) lines-say)

pub every-own : (primary : ℕ) → own_primary (rule_call 0 primary) every_adapter ≡ true
unfolding own_primary
every-own primary = every-owned primary

every-reached : (primary a : ℕ) → a ≤ last_adapter → is_reached (view_on primary) a ≡ true
unfolding seen
every-reached primary a h =
    listed-reached (view_on primary) (holds (every-owned a) (first-lists a 256 (lines every_adapter) lines-say (omega arith)))

primary-only : (a : ℕ) → eqb a (view_on a).primary ≡ true
unfolding seen
primary-only a = eq-eqb a a refl

-- ---- possible entries can be named

-- with some primary adapter
pub record Nameable (test : View → Bool) : Type 0 where
  pub primary : ℕ
  pub in_range : primary ≤ last_adapter
  pub reached : test (view_on primary) ≡ true

-- with any: 0, say
any : {test : View → Bool} → ((primary : ℕ) → test (view_on primary) ≡ true) → Nameable test
any h = record { primary = 0; in_range = omega arith; reached = h 0 }

ref_named : (most : ℕ) (r : Ref) → possible_ref most r ≡ true → (primary : ℕ) → is_reached (view_on primary) r.adapter ≡ true
ref_named most r p primary = every-reached primary r.adapter (adapter-few most r p)

input-named : (r : InputRef) → possible_input r ≡ true → (primary : ℕ) → is_reached (view_on primary) r.device.adapter ≡ true
unfolding possible_input
input-named r p = ref_named last_short_address r.device (both (possible_ref last_short_address r.device) p).0

selector-named : (s : Selector) → possible_selector s ≡ true → (primary : ℕ) → reached_selector (view_on primary) s ≡ true
unfolding possible_selector reached_selector
selector-named (Selector.Instance r n) p = ref_named last_short_address r (both (possible_ref last_short_address r) p).0
selector-named (Selector.Group a g of) p = λ primary. every-reached primary a (leb-true _ _ (both (leb a last_adapter) p).0)

-- a broadcast is on the primary
target-named : (x : LightTarget) → possible_target x ≡ true → Nameable (λ view. reached_target view x)
unfolding possible_target reached_target
target-named (LightTarget.Lamp r) p = any (ref_named last_short_address r p)
target-named (LightTarget.Group r) p = any (ref_named last_group r p)
target-named (LightTarget.Broadcast a) p = record { primary = a; in_range = leb-true _ _ p; reached = primary-only a }

reading-named : (text : List ℕ) (r : Reading) → possible_reading text r ≡ true → (primary : ℕ) → reached_reading (view_on primary) r ≡ true
unfolding possible_reading reached_reading
reading-named text (Reading.Lamp r p) h = ref_named last_short_address r h
reading-named text (Reading.Group r p) h = ref_named last_group r h
reading-named text (Reading.Input r p) h = input-named r h
reading-named text (Reading.Time p) h = λ primary. refl
reading-named text (Reading.Sun p) h = λ primary. refl
reading-named text (Reading.Event p) h = λ primary. refl
reading-named text (Reading.Var n) h = λ primary. refl

value-named : (text : List ℕ) (v : Value) → possible_value text v ≡ true → (primary : ℕ) → reached_value (view_on primary) v ≡ true
unfolding possible_value reached_value
value-named text (Value.Literal z) h = λ primary. refl
value-named text (Value.Reads r delta) h = reading-named text r (both (possible_reading text r) h).0

operand-named : (text : List ℕ) (v : Operand) → possible_operand text v ≡ true → (primary : ℕ) → reached_operand (view_on primary) v ≡ true
unfolding possible_operand reached_operand
operand-named text (Operand.Text n) h = λ primary. refl
operand-named text (Operand.Number v) h = value-named text v h

pub trigger_named_lem : (text : List ℕ) (x : Trigger) → possible_trigger text x ≡ true → Nameable (λ view. reached_trigger view x)
unfolding possible_trigger reached_trigger
trigger_named_lem text (Trigger.InputEvent s e) p = any (selector-named s (both (possible_selector s) p).0)
trigger_named_lem text (Trigger.InputOccupancy r state) p = any (input-named r p)
trigger_named_lem text (Trigger.InputLightCross r way n) p = any (input-named r (both (possible_input r) p).0)
trigger_named_lem text (Trigger.InputPositionChange r) p = any (input-named r p)
trigger_named_lem text (Trigger.InputDevicePowerCycled r) p = any (ref_named last_short_address r p)
trigger_named_lem text (Trigger.InputDeviceManualConfigChanged r) p = any (ref_named last_short_address r p)
trigger_named_lem text (Trigger.AtTime m days) p = any (λ primary. refl)
trigger_named_lem text (Trigger.AtSolar event offset days) p = any (λ primary. refl)
trigger_named_lem text (Trigger.Every ms) p = any (λ primary. refl)
trigger_named_lem text (Trigger.LampTurns r to) p = any (ref_named last_short_address r p)
trigger_named_lem text (Trigger.LampLevelCross r way n) p = any (ref_named last_short_address r (both (possible_ref last_short_address r) p).0)
trigger_named_lem text (Trigger.GroupBecomes r state) p = any (ref_named last_group r p)
trigger_named_lem text (Trigger.SceneRecalled a scene) p = any (λ primary. every-reached primary a (leb-true _ _ (both (leb a last_adapter) p).0))
trigger_named_lem text (Trigger.DeviceOnline r change) p = any (ref_named last_short_address r p)
trigger_named_lem text (Trigger.HclOverride to change) p = target-named to p
trigger_named_lem text (Trigger.TimerFires n) p = any (λ primary. refl)
trigger_named_lem text Trigger.ControllerStarts p = any (λ primary. refl)
trigger_named_lem text Trigger.ControllerBecomesActive p = any (λ primary. refl)
trigger_named_lem text (Trigger.RuleFails n) p = any (λ primary. refl)
trigger_named_lem text Trigger.HttpTrigger p = any (λ primary. refl)
trigger_named_lem text (Trigger.MqttMessage topic) p = any (λ primary. refl)

pub condition-named : (text : List ℕ) (y : Condition) → possible_condition text y ≡ true → Nameable (λ view. reached_condition view y)
unfolding possible_condition reached_condition
condition-named text (Condition.TimeInRange from to) p = any (λ primary. refl)
condition-named text (Condition.SunIs state) p = any (λ primary. refl)
condition-named text (Condition.LampIs r state) p = any (ref_named last_short_address r p)
condition-named text (Condition.LampCompare r property c v) p =
    let (q, h) = both (possible_ref last_short_address r) p in any (λ primary. holds (ref_named last_short_address r q primary) (value-named text v h primary))
condition-named text (Condition.GroupState r state) p = any (ref_named last_group r p)
condition-named text (Condition.InputOccupancy r state) p = any (input-named r p)
condition-named text (Condition.InputLight r way v) p =
    let (q, h) = both (possible_input r) p in any (λ primary. holds (input-named r q primary) (value-named text v h primary))
condition-named text (Condition.HclState to state) p = target-named to p
condition-named text (Condition.DeviceOnline r) p = any (ref_named last_short_address r p)
condition-named text (Condition.RuleEnabled n) p = any (λ primary. refl)
condition-named text (Condition.LastFiredOlderThan n ms) p = any (λ primary. refl)
condition-named text (Condition.TimerRunning n) p = any (λ primary. refl)
condition-named text Condition.ControllerActive p = any (λ primary. refl)
condition-named text (Condition.VarCompare n c v) p = any (operand-named text v (both (possible_name text n) p).1)
condition-named text (Condition.DayIn days) p = any (λ primary. refl)
