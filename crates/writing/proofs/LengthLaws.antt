-- How many bytes are written at most: what is written for possible lists has room in the least buffer.
use Rattle.std.specs.Prelude.{Option, Some, None}
use Prim.Native.Nat.{ℕ, zero, suc, ◌+◌, ◌*◌, ◌/◌, ◌≤◌}
use native.Mathlib.Omega.{arith}
use mathlib.Core.Path.{◌≡◌, refl}
use mathlib.Core.Bool.{Bool, true}
use mathlib.Core.List.{List, [], ◌∷◌, ◌++◌, map}
use lib.ListN.{length, length-append, length-take}
use lib.IntN.{ℤ, pos, negsuc}
use lib.Dec.{ltb, leb, eqb}
use borrow.Author.Tests.{leb-true}
use Rattle.text.specs.Choice.{pick, within}
use Rattle.text.specs.Literal.{ascii}
use Rattle.text.specs.Part.{part_of}
use Rattle.text.specs.Split.{split}
use Rattle.text.proofs.Tests.{picked, both}
use Rattle.tokens.specs.Rules.{most_run}
use Rattle.topics.specs.Ranges.{name_in}
use Rattle.days.specs.Days.{has_day, every_day}
use Rattle.language.specs.Limits.{most_triggers, most_ands, most_text}
use Rattle.model.specs.Limits.{last_short_address, longest_name}
use Rattle.model.specs.Ranges.{Each}
use Rattle.model.specs.declared.Condition.{Condition}
use Rattle.model.specs.declared.Days.{Days}
use Rattle.model.specs.declared.Event.{Event}
use Rattle.model.specs.declared.LightTarget.{LightTarget}
use Rattle.model.specs.declared.Name.{Name}
use Rattle.model.specs.declared.Online.{Online}
use Rattle.model.specs.declared.Operand.{Operand}
use Rattle.model.specs.declared.Reading.{Reading}
use Rattle.model.specs.declared.Selector.{Selector}
use Rattle.model.specs.declared.TimeBound.{TimeBound}
use Rattle.model.specs.declared.Trigger.{Trigger}
use Rattle.model.specs.declared.Value.{Value}
use Rattle.writing.specs.Pieces.{Piece, decimal, decimal_from, two_digits, three_digits, spelled_time, spelled_duration, spelled_sign, spelled, spaced, further}
use Rattle.writing.specs.Write.{ref_pieces, device_pieces, instance_pieces, input_pieces, name_pieces, comparison_sign, event_pieces, day_if_in, commas, days_pieces, on_pieces, offset_pieces, adapter_pieces, type_pieces, selector_pieces, target_pieces, bound_pieces, literal_pieces, delta_pieces, reading_pieces, value_pieces, operand_pieces, trigger_pieces, condition_pieces}
use Rattle.writing.specs.Possible.{is_inside, is_string, possible_string, possible_topic, possible_ref, possible_input, possible_reading, possible_value, possible_operand, possible_trigger, possible_condition}
use Rattle.writing.specs.Writing.{behind_each, if_pieces, rule_pieces, triggers_in, conditions_in, possible_counts, is_text, text_of, possible_trigger_from, possible_condition_from, first_impossible, trigger_from_pieces, condition_from_pieces, list_pieces, least_bytes}
use Rattle.writing.specs.declared.Lists.{Lists}
use Rattle.writing.proofs.FurtherLaws.{spaced-further}
use Rattle.writing.proofs.FailingLaws.{none-failing}
use Rattle.writing.proofs.WordLaws.{power_word_lem, occupancy_word_lem, crossing_word_lem, aggregate_word_lem, override_word_lem, sun_word_lem, hcl_word_lem, solar_word_lem, property_word_lem, lamp_reading_word_lem, group_reading_word_lem, input_reading_word_lem, time_reading_word_lem, sun_reading_word_lem, event_reading_word_lem}

-- ---- one piece

digits-bytes : (most n : ℕ) → length (decimal_from most n) ≤ most
unfolding decimal_from
digits-bytes zero n = omega arith
digits-bytes (suc most) n =
    picked (λ (l : List ℕ). length l ≤ suc most) (ltb n 10) (λ h. omega arith)
    (λ h. simp length-append (omega (arith, digits-bytes most (n / 10))))

pub decimal-bytes : (n : ℕ) → length (decimal n) ≤ 10
unfolding decimal
decimal-bytes n = digits-bytes 10 n

pub time-bytes : (m : ℕ) → length (spelled_time m) ≡ 5
unfolding spelled_time two_digits
time-bytes m = refl

pub duration-bytes : (ms : ℕ) → length (spelled_duration ms) ≤ 15
unfolding spelled_duration three_digits two_digits
duration-bytes ms =
    picked (λ (l : List ℕ). length l ≤ 15) (ltb most_run ms)
    (λ h. simp length-append (omega (arith, decimal-bytes (ms / 1000))))
    (λ h. simp length-append (omega (arith, decimal-bytes ms)))

picked-bytes : (most : ℕ) (t : Bool) (a b : List ℕ) → length a ≤ most → length b ≤ most → length (pick t a b) ≤ most
picked-bytes most t a b h k = picked (λ (l : List ℕ). length l ≤ most) t (λ _. h) (λ _. k)

pub sign-bytes : (kind : ℕ) → length (spelled_sign kind) ≤ 2
unfolding spelled_sign
sign-bytes kind = search (picked-bytes, leb-true) depth 16

-- ---- pieces

-- the most bytes of a piece, and of pieces that stand each behind a space
abbrev most : Piece → ℕ
most (Piece.word bytes) = length bytes
most (Piece.string bytes) = length bytes + 2
most (Piece.integer n) = 10
most (Piece.time m) = 5
most (Piece.duration ms) = 15
most (Piece.sign kind) = length (spelled_sign kind)

abbrev pub room : List Piece → ℕ
room [] = 0
room (p ∷ ps) = suc (most p + room ps)

spelled-most : (p : Piece) → length (spelled p) ≤ most p
unfolding spelled
spelled-most (Piece.word bytes) = omega arith
spelled-most (Piece.string bytes) = simp length-append (omega arith)
spelled-most (Piece.integer n) = decimal-bytes n
spelled-most (Piece.time m) = omega (arith, time-bytes m)
spelled-most (Piece.duration ms) = duration-bytes ms
spelled-most (Piece.sign kind) = omega arith

further-room : (ps : List Piece) → length (further ps) ≤ room ps
unfolding further
further-room [] = omega arith
further-room (p ∷ ps) = simp length-append (omega (arith, spelled-most p, further-room ps))

pub room-append : (ps qs : List Piece) → room (ps ++ qs) ≡ room ps + room qs
room-append [] qs = omega arith
room-append (p ∷ ps) qs = omega (arith, room-append ps qs)

-- a name's bytes are at most as many as it says
name_bytes_lem : (text : List ℕ) (least limit : ℕ) (n : Name) → possible_string text least limit n ≡ true → length (name_in text n) ≤ limit
unfolding possible_string name_in part_of
name_bytes_lem text least limit n h =
    let k = both (within least limit n.length) {u = is_string (name_in text n)} (both (is_inside text n) h).1 in
    let m = leb-true n.length limit (both (leb least n.length) k.0).1 in
    simp length-take (omega arith)

event-room : (e : Event) → room (event_pieces e) ≤ 28
unfolding event_pieces split spelled_sign
event-room Event.Press = omega arith
event-room Event.Release = omega arith
event-room Event.ShortPress = omega arith
event-room Event.DoublePress = omega arith
event-room Event.LongPressStart = omega arith
event-room Event.LongPressRepeat = omega arith
event-room Event.LongPressStop = omega arith
event-room Event.ButtonFree = omega arith
event-room Event.ButtonStuck = omega arith
event-room Event.Movement = omega arith
event-room Event.NoMovement = omega arith
event-room Event.AnyEvent = omega arith
event-room (Event.Raw n) = omega arith

-- a comma is two bytes with its space
commas-room : (ps : List Piece) → room (commas ps) ≤ room ps + 2 * length ps
unfolding commas spelled_sign
commas-room [] = omega arith
commas-room (p ∷ []) = omega arith
commas-room (p ∷ q ∷ ps) = omega (arith, commas-room (q ∷ ps))

-- each day with a comma
day-room : (days : Days) (d : ℕ) (name : List ℕ) → length name ≤ 3 → room (day_if_in days d name) + 2 * length (day_if_in days d name) ≤ 6
unfolding day_if_in
day-room days d name h =
    picked (λ (ps : List Piece). room ps + 2 * length ps ≤ 6) (has_day days d) (λ e. omega arith) (λ e. omega arith)

days-room : (days : Days) → room (days_pieces days) ≤ 42
unfolding days_pieces
days-room days =
    omega (
      arith,
      simp (room-append, length-append) at (commas-room
          (day_if_in days 0 (ascii "mon") ++ day_if_in days 1 (ascii "tue") ++ day_if_in days 2 (ascii "wed") ++ day_if_in days 3 (ascii "thu")
          ++ day_if_in days 4 (ascii "fri") ++ day_if_in days 5 (ascii "sat") ++ day_if_in days 6 (ascii "sun"))),
      day-room days 0 (ascii "mon") (omega arith),
      day-room days 1 (ascii "tue") (omega arith),
      day-room days 2 (ascii "wed") (omega arith),
      day-room days 3 (ascii "thu") (omega arith),
      day-room days 4 (ascii "fri") (omega arith),
      day-room days 5 (ascii "sat") (omega arith),
      day-room days 6 (ascii "sun") (omega arith),
    )

on_room : (days : Days) → room (on_pieces days) ≤ 45
unfolding on_pieces
on_room days =
    picked (λ (ps : List Piece). room ps ≤ 45) (eqb days.sum every_day.sum) (λ e. omega arith) (λ e. omega (arith, days-room days))

offset-room : (z : ℤ) → room (offset_pieces z) ≤ 18
unfolding offset_pieces spelled_sign
offset-room (pos zero) = omega arith
offset-room (pos (suc n)) = omega arith
offset-room (negsuc n) = omega arith

bound-room : (b : TimeBound) → room (bound_pieces b) ≤ 26
unfolding bound_pieces
bound-room (TimeBound.Clock m) = omega arith
bound-room (TimeBound.Solar event offset) = omega (arith, (solar_word_lem event).short, offset-room offset)

literal_room : (z : ℤ) → room (literal_pieces z) ≤ 13
unfolding literal_pieces spelled_sign
literal_room (pos n) = omega arith
literal_room (negsuc n) = omega arith

delta-room : (d : Option ℤ) → room (delta_pieces d) ≤ 13
unfolding delta_pieces spelled_sign
delta-room None = omega arith
delta-room (Some (pos n)) = omega arith
delta-room (Some (negsuc n)) = omega arith

-- ---- entries

module _ (primary : ℕ) where
  adapter-room : (a : ℕ) → room (adapter_pieces primary a) ≤ 23
  unfolding adapter_pieces spelled_sign
  adapter-room a = picked (λ (ps : List Piece). room ps ≤ 23) (eqb a primary) (λ e. omega arith) (λ e. omega arith)

  selector-room : (s : Selector) → room (selector_pieces primary s) ≤ 66
  unfolding selector_pieces type_pieces instance_pieces spelled_sign
  selector-room (Selector.Instance r n) = simp room-append (omega (arith, adapter-room r.adapter))
  selector-room (Selector.Group a g None) = simp room-append (omega (arith, adapter-room a))
  selector-room (Selector.Group a g (Some n)) = simp room-append (omega (arith, adapter-room a))

  target_room : (t : LightTarget) → room (target_pieces primary t) ≤ 44
  unfolding target_pieces ref_pieces spelled_sign
  target_room (LightTarget.Lamp r) = simp room-append (omega (arith, adapter-room r.adapter))
  target_room (LightTarget.Group r) = simp room-append (omega (arith, adapter-room r.adapter))
  target_room (LightTarget.Broadcast a) = omega arith

module _ (primary : ℕ) (text : List ℕ) where
  reading-room : (r : Reading) → possible_reading text r ≡ true → room (reading_pieces primary (name_in text) r) ≤ 87
  unfolding reading_pieces ref_pieces input_pieces instance_pieces name_pieces possible_reading spelled_sign
  reading-room (Reading.Lamp r p) h = simp room-append (omega (arith, adapter-room primary r.adapter, (lamp_reading_word_lem p).short))
  reading-room (Reading.Group r p) h = simp room-append (omega (arith, adapter-room primary r.adapter, (group_reading_word_lem p).short))
  reading-room (Reading.Input r p) h = simp room-append (omega (arith, adapter-room primary r.device.adapter, (input_reading_word_lem p).short))
  reading-room (Reading.Time p) h = omega (arith, (time_reading_word_lem p).short)
  reading-room (Reading.Sun p) h = omega (arith, (sun_reading_word_lem p).short)
  reading-room (Reading.Event p) h = omega (arith, (event_reading_word_lem p).short)
  reading-room (Reading.Var n) h = omega (arith, name_bytes_lem text 1 longest_name n h)

  value_room : (v : Value) → possible_value text v ≡ true → room (value_pieces primary (name_in text) v) ≤ 100
  unfolding value_pieces possible_value
  value_room (Value.Literal z) h = omega (arith, literal_room z)
  value_room (Value.Reads r delta) h =
      simp room-append (omega (arith, reading-room r (both (possible_reading text r) h).0, delta-room delta))

  operand-room : (v : Operand) → possible_operand text v ≡ true → room (operand_pieces primary (name_in text) v) ≤ 100
  unfolding operand_pieces possible_operand
  operand-room (Operand.Text n) h = omega (arith, name_bytes_lem text 0 most_text n h)
  operand-room (Operand.Number v) h = value_room v h

  trigger-room : (x : Trigger) → possible_trigger text x ≡ true → room (trigger_pieces primary (name_in text) x) ≤ 103
  unfolding trigger_pieces ref_pieces device_pieces input_pieces instance_pieces name_pieces possible_trigger possible_topic split spelled_sign
  trigger-room (Trigger.InputEvent s e) h = simp room-append (omega (arith, selector-room primary s, event-room e))
  trigger-room (Trigger.InputOccupancy r state) h =
      simp room-append (omega (arith, adapter-room primary r.device.adapter, (occupancy_word_lem state).short))
  trigger-room (Trigger.InputLightCross r way n) h =
      simp room-append (omega (arith, adapter-room primary r.device.adapter, (crossing_word_lem way).short))
  trigger-room (Trigger.InputPositionChange r) h = simp room-append (omega (arith, adapter-room primary r.device.adapter))
  trigger-room (Trigger.InputDevicePowerCycled r) h = simp room-append (omega (arith, adapter-room primary r.adapter))
  trigger-room (Trigger.InputDeviceManualConfigChanged r) h = simp room-append (omega (arith, adapter-room primary r.adapter))
  trigger-room (Trigger.AtTime m days) h = omega (arith, on_room days)
  trigger-room (Trigger.AtSolar event offset days) h =
      simp room-append (omega (arith, bound-room (TimeBound.Solar event offset), on_room days))
  trigger-room (Trigger.Every ms) h = omega arith
  trigger-room (Trigger.LampTurns r to) h = simp room-append (omega (arith, adapter-room primary r.adapter, (power_word_lem to).short))
  trigger-room (Trigger.LampLevelCross r way n) h = simp room-append (omega (arith, adapter-room primary r.adapter, (crossing_word_lem way).short))
  trigger-room (Trigger.GroupBecomes r state) h = simp room-append (omega (arith, adapter-room primary r.adapter, (aggregate_word_lem state).short))
  trigger-room (Trigger.SceneRecalled a scene) h = simp room-append (omega (arith, adapter-room primary a))
  trigger-room (Trigger.DeviceOnline r Online.GoesOffline) h = simp room-append (omega (arith, adapter-room primary r.adapter))
  trigger-room (Trigger.DeviceOnline r Online.ComesOnline) h = simp room-append (omega (arith, adapter-room primary r.adapter))
  trigger-room (Trigger.HclOverride to change) h = omega (arith, target_room primary to, (override_word_lem change).short)
  trigger-room (Trigger.TimerFires n) h = omega (arith, name_bytes_lem text 1 longest_name n h)
  trigger-room Trigger.ControllerStarts h = omega arith
  trigger-room Trigger.ControllerBecomesActive h = omega arith
  trigger-room (Trigger.RuleFails n) h = omega (arith, name_bytes_lem text 1 longest_name n h)
  trigger-room Trigger.HttpTrigger h = omega arith
  trigger-room (Trigger.MqttMessage topic) h =
      omega (arith, name_bytes_lem text 1 longest_name topic (both (possible_string text 1 longest_name topic) h).0)

  condition-room : (y : Condition) → possible_condition text y ≡ true → room (condition_pieces primary (name_in text) y) ≤ 184
  unfolding condition_pieces ref_pieces input_pieces instance_pieces name_pieces possible_condition split spelled_sign
  condition-room (Condition.TimeInRange from to) h = simp room-append (omega (arith, bound-room from, bound-room to))
  condition-room (Condition.SunIs state) h = omega (arith, (sun_word_lem state).short)
  condition-room (Condition.LampIs r state) h = simp room-append (omega (arith, adapter-room primary r.adapter, (power_word_lem state).short))
  condition-room (Condition.LampCompare r p c v) h =
      let k = value_room v (both (possible_ref last_short_address r) h).1 in
      simp room-append (omega (arith, adapter-room primary r.adapter, (property_word_lem p).short, sign-bytes (comparison_sign c)))
  condition-room (Condition.GroupState r state) h = simp room-append (omega (arith, adapter-room primary r.adapter, (aggregate_word_lem state).short))
  condition-room (Condition.InputOccupancy r state) h =
      simp room-append (omega (arith, adapter-room primary r.device.adapter, (occupancy_word_lem state).short))
  condition-room (Condition.InputLight r way v) h =
      let k = value_room v (both (possible_input r) h).1 in
      simp room-append (omega (arith, adapter-room primary r.device.adapter, (crossing_word_lem way).short))
  condition-room (Condition.HclState to state) h = omega (arith, target_room primary to, (hcl_word_lem state).short)
  condition-room (Condition.DeviceOnline r) h = simp room-append (omega (arith, adapter-room primary r.adapter))
  condition-room (Condition.RuleEnabled n) h = omega (arith, name_bytes_lem text 1 longest_name n h)
  condition-room (Condition.LastFiredOlderThan n ms) h =
      omega (arith, name_bytes_lem text 1 longest_name n (both (possible_string text 1 longest_name n) h).0)
  condition-room (Condition.TimerRunning n) h = omega (arith, name_bytes_lem text 1 longest_name n h)
  condition-room Condition.ControllerActive h = omega arith
  condition-room (Condition.VarCompare n c v) h =
      let k = both (possible_string text 1 longest_name n) {u = possible_operand text v} h in
      omega (arith, name_bytes_lem text 1 longest_name n k.0, sign-bytes (comparison_sign c), operand-room v k.1)
  condition-room (Condition.DayIn days) h = omega (arith, days-room days)

  -- an entry, each of its tokens behind a space
  pub trigger-bytes : (x : Trigger) → possible_trigger text x ≡ true → length (further (trigger_pieces primary (name_in text) x)) ≤ 103
  trigger-bytes x h = omega (arith, further-room (trigger_pieces primary (name_in text) x), trigger-room x h)

  pub condition-bytes : (y : Condition) → possible_condition text y ≡ true → length (further (condition_pieces primary (name_in text) y)) ≤ 184
  condition-bytes y h = omega (arith, further-room (condition_pieces primary (name_in text) y), condition-room y h)

-- ---- the text

behind-room : {A : Type 0} {P : A → Type 0} (pieces : A → List Piece) (w : List ℕ) (limit : ℕ) → ((x : A) → P x → room (pieces x) ≤ limit) →
    {xs : List A} → Each P xs → room (behind_each w (map pieces xs)) ≤ length xs * suc (length w + limit)
unfolding behind_each
behind-room pieces w limit f Each.none = omega arith
behind-room pieces w limit f (Each.more {x} h e) = simp room-append (omega (arith, f x h, behind-room pieces w limit f e))

if_room : {A : Type 0} {P : A → Type 0} (pieces : A → List Piece) (limit : ℕ) → ((x : A) → P x → room (pieces x) ≤ limit) →
    {xs : List A} → Each P xs → room (if_pieces (map pieces xs)) ≤ length xs * (limit + 4)
unfolding if_pieces
if_room pieces limit f Each.none = omega arith
if_room pieces limit f (Each.more {x} h e) = simp room-append (omega (arith, f x h, behind-room pieces (ascii "and") limit f e))

pub spaced-room : (ps : List Piece) → length (spaced ps) ≤ room ps
unfolding spaced
spaced-room [] = omega arith
spaced-room (p ∷ ps) = rw (spaced-further, length-append) (omega (arith, spelled-most p, further-room ps))

counts_in : (l : Lists) → possible_counts l ≡ true → (length (triggers_in l) ≤ 4) × (length (conditions_in l) ≤ 4)
unfolding possible_counts
counts_in l h =
    let k = both (within 1 most_triggers l.triggers.count) h in
    let m = leb-true l.triggers.count most_triggers (both (leb 1 l.triggers.count) k.0).1 in
    let n = leb-true l.conditions.count (most_ands + 1) k.1 in
    simp length-take (omega arith)

module _ (first second : List ℕ) (primary : ℕ) (l : Lists) where
  -- four triggers and four conditions at most, each behind a word
  pub text-bytes : possible_counts l ≡ true → first_impossible first second l ≡ 0 → length (spaced (list_pieces first second primary l)) ≤ 1184
  unfolding first_impossible possible_trigger_from possible_condition_from list_pieces rule_pieces
  text-bytes c h =
      let k = counts_in l c in
      let e = none-failing (possible_trigger_from first second) (possible_condition_from first second) l h in
      let xs = map (trigger_from_pieces first second primary) (triggers_in l) in
      let ys = map (condition_from_pieces first second primary) (conditions_in l) in
      let p = behind-room (trigger_from_pieces first second primary) (ascii "when") 103
      (λ x i. trigger-room primary (text_of first second x.from) x.trigger (both (is_text x.from) i).1) e.triggers in
      let q = if_room (condition_from_pieces first second primary) 184
      (λ y i. condition-room primary (text_of first second y.from) y.condition (both (is_text y.from) i).1) e.conditions in
      omega (arith, spaced-room (list_pieces first second primary l), room-append (behind_each (ascii "when") xs) (if_pieces ys))

  pub text-fits : possible_counts l ≡ true → first_impossible first second l ≡ 0 → length (spaced (list_pieces first second primary l)) ≤ least_bytes
  text-fits c h = omega (arith, text-bytes c h)
