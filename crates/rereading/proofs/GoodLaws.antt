-- What is written for possible entries are pieces that are one token each. It is said as a test of the pieces, computed where they are fixed.
use Rattle.std.specs.Prelude.{Result, Option, Some, None}
use Prim.Native.Nat.{ℕ, zero, suc, ◌+◌, ◌≤◌, ◌<◌}
use native.Mathlib.Omega.{arith}
use native.Mathlib.Nat.{zero-add}
use mathlib.Core.Path.{◌≡◌, refl}
use mathlib.Core.Bool.{Bool, true, false, false≢true}
use mathlib.Core.List.{List, [], ◌∷◌, ◌++◌, map}
use lib.ListN.{length, get_or}
use lib.IntN.{ℤ, pos, negsuc}
use lib.Dec.{ltb, leb, eqb}
use borrow.Author.Tests.{leb-true, ltb-true, ltb-false, eqb-true, le-leb}
use Rattle.text.specs.Ascii.{is_word_start, is_word_part, is_alpha}
use Rattle.text.specs.Choice.{pick, within}
use Rattle.text.specs.Find.{first_at}
use Rattle.text.specs.Literal.{ascii}
use Rattle.text.specs.Place.{Judged}
use Rattle.text.specs.Rfc3629.{Utf8Octets}
use Rattle.text.specs.Split.{split}
use Rattle.text.specs.declared.place.IllFormed.{IllFormed}
use Rattle.text.proofs.FindLaws.{first-within, first-here, first-same}
use Rattle.text.proofs.PlaceRules.{judged}
use Rattle.text.proofs.Tests.{picked, both}
use Rattle.tokens.specs.Amount.{most_ms}
use Rattle.tokens.specs.Kind.{OPEN, CLOSE, COMMA, POINT, POINTS, ASSIGN, EQ, NE, GE, LE, GT, LT, PLUS, MINUS}
use Rattle.tokens.specs.Numbers.{day_minutes}
use Rattle.tokens.specs.Rules.{All, Without, Symbol, most_run}
use Rattle.days.specs.Days.{has_day, every_day}
use Rattle.language.specs.Limits.{least_period, most_later, most_earlier, most_text}
use Rattle.model.specs.Limits.{last_short_address, last_group, last_scene, last_level, last_instance, last_instance_group, last_instance_type, last_event_information, last_adapter, longest_name}
use Rattle.model.specs.Ranges.{Each}
use Rattle.model.specs.declared.Comparison.{Comparison}
use Rattle.model.specs.declared.Condition.{Condition}
use Rattle.model.specs.declared.Days.{Days}
use Rattle.model.specs.declared.Event.{Event}
use Rattle.model.specs.declared.InputRef.{InputRef}
use Rattle.model.specs.declared.LightTarget.{LightTarget}
use Rattle.model.specs.declared.Name.{Name}
use Rattle.model.specs.declared.Online.{Online}
use Rattle.model.specs.declared.Operand.{Operand}
use Rattle.model.specs.declared.Reading.{Reading}
use Rattle.model.specs.declared.Ref.{Ref}
use Rattle.model.specs.declared.Selector.{Selector}
use Rattle.model.specs.declared.TimeBound.{TimeBound}
use Rattle.model.specs.declared.Trigger.{Trigger}
use Rattle.model.specs.declared.Value.{Value}
use Rattle.topics.specs.Ranges.{name_in}
use Rattle.writing.specs.Pieces.{Piece, spelled_sign}
use Rattle.writing.specs.Possible.{is_inside, is_well_formed, has_byte, is_string, possible_string, possible_topic, possible_ref, possible_input, possible_type, possible_selector, possible_target, possible_event, possible_time, is_signed_up_to, possible_integer, possible_bound, possible_reading, possible_delta, possible_value, possible_operand, possible_trigger, possible_condition}
use Rattle.writing.specs.Write.{ref_pieces, device_pieces, instance_pieces, input_pieces, name_pieces, comparison_sign, event_pieces, day_if_in, commas, days_pieces, on_pieces, offset_pieces, adapter_pieces, type_pieces, selector_pieces, target_pieces, bound_pieces, literal_pieces, delta_pieces, reading_pieces, value_pieces, operand_pieces, trigger_pieces, condition_pieces}
use Rattle.writing.specs.Writing.{behind_each, if_pieces, rule_pieces, is_text, text_of, possible_trigger_from, possible_condition_from, first_impossible, trigger_from_pieces, condition_from_pieces, list_pieces}
use Rattle.writing.specs.declared.Lists.{Lists}
use Rattle.writing.proofs.FailingLaws.{none-failing}
use Rattle.writing.proofs.WordLaws.{is_letter, all_letters, is_written, power_word_lem, occupancy_word_lem, crossing_word_lem, aggregate_word_lem, override_word_lem, sun_word_lem, hcl_word_lem, solar_word_lem, property_word_lem, lamp_reading_word_lem, group_reading_word_lem, input_reading_word_lem, time_reading_word_lem, sun_reading_word_lem, event_reading_word_lem}
use Rattle.rereading.proofs.Stands.{Good}

-- ---- words

-- a word of letters a to z and `_` starts and goes on as a word
either-more : (t u v : Bool) → pick u true v ≡ true → pick (pick t true u) true v ≡ true
either-more true u v h = refl
either-more false u v h = h

letter-starts : (c : ℕ) → is_letter c ≡ true → is_word_start c ≡ true
unfolding is_word_start is_alpha
letter-starts c h = either-more (within 0x41 0x5A c) (within 0x61 0x7A c) (eqb c 0x5F) h

letters_part : (cs : List ℕ) → all_letters cs ≡ true → All is_word_part cs
unfolding is_word_part
letters_part [] h = All.none
letters_part (c ∷ cs) h =
    let k = both (is_letter c) h in
    All.more {c = c} (rw (letter-starts c k.0)) (letters_part cs k.1)

good-word : (bytes : List ℕ) → is_written bytes ≡ true → Good (Piece.word bytes)
good-word [] h = absurd (false≢true h)
good-word (c ∷ cs) h =
    let k = both (is_letter c) h in
    Good.word (letter-starts c k.0) (letters_part cs k.1)

-- ---- strings

well_formed : {s : List ℕ} {x : Result Unit IllFormed} → Judged s x → is_well_formed x ≡ true → (cs : List ℕ) × Utf8Octets s cs
unfolding is_well_formed
well_formed (Judged.well_formed {cs} h) e = (cs, h)
well_formed (Judged.ill_formed h b p n) e = absurd (false≢true e)

without : (b : ℕ) (s : List ℕ) → ((i : ℕ) → i < length s → get_or s i 0 ≡ b → ⊥) → Without b s
without b [] h = Without.none
without b (c ∷ s) h = Without.more (h 0 (omega arith)) (without b s (λ i l. h (suc i) (omega arith)))

pub has-none : (b : ℕ) (s : List ℕ) → has_byte b s ≡ false → Without b s
unfolding has_byte
has-none b s h =
    let k : first_at b s 0 ≡ length s = omega (arith, ltb-false (first_at b s 0) (length s) h, first-within b s 0) in
    without b s (λ i l e. omega (arith, rw zero-add at (first-same b s 0 i (omega arith)), first-here b s i l e))

neither : (t : Bool) {u : Bool} → pick t false u ≡ true → (t ≡ false) × (u ≡ true)
neither true h = absurd (false≢true h)
neither false h = (refl, h)

good-string : (bytes : List ℕ) → is_string bytes ≡ true → Good (Piece.string bytes)
unfolding is_string
good-string bytes h =
    let k = neither (has_byte 0x22 bytes) h in
    let m = neither (has_byte 0x0A bytes) k.1 in
    Good.string (well_formed (judged bytes) m.1).1 (has-none 0x22 bytes k.0) (has-none 0x0A bytes m.0)

-- ---- signs

-- the kinds of the signs that are written
abbrev is_sign : ℕ → Bool
is_sign kind =
    pick (eqb kind OPEN) true
    (pick (eqb kind CLOSE) true
    (pick (eqb kind COMMA) true
    (pick (eqb kind POINT) true
    (pick (eqb kind POINTS) true
    (pick (eqb kind ASSIGN) true
    (pick (eqb kind EQ) true
    (pick (eqb kind NE) true
    (pick (eqb kind GE) true
    (pick (eqb kind LE) true
    (pick (eqb kind GT) true (pick (eqb kind LT) true (pick (eqb kind PLUS) true (eqb kind MINUS)))))))))))))

module _ (kind : ℕ) where
  is : (k : ℕ) → Symbol (spelled_sign k) k → eqb kind k ≡ true → Good (Piece.sign kind)
  is k s e = rw (eqb-true kind k e) (Good.sign s)

  is-or : (k : ℕ) {u : Bool} → Symbol (spelled_sign k) k → (u ≡ true → Good (Piece.sign kind)) → pick (eqb kind k) true u ≡ true →
      Good (Piece.sign kind)
  is-or k {u} s f = picked (λ (t : Bool). t ≡ true → Good (Piece.sign kind)) (eqb kind k) (λ e h. is k s e) (λ e h. f h)

  good-sign : is_sign kind ≡ true → Good (Piece.sign kind)
  unfolding spelled_sign
  good-sign =
      is-or OPEN Symbol.open_paren (is-or CLOSE Symbol.close_paren (is-or COMMA Symbol.comma (is-or POINT Symbol.dot
      (is-or POINTS Symbol.dot_dot (is-or ASSIGN Symbol.assign (is-or EQ Symbol.equal (is-or NE Symbol.unequal
      (is-or GE Symbol.at_least (is-or LE Symbol.at_most (is-or GT Symbol.greater (is-or LT Symbol.less
      (is-or PLUS Symbol.plus (is MINUS Symbol.minus)))))))))))))

-- ---- pieces

-- a test that the pieces of a possible entry pass, and no piece that is not good
abbrev is_good : Piece → Bool
is_good (Piece.word bytes) = is_written bytes
is_good (Piece.string bytes) = is_string bytes
is_good (Piece.integer n) = leb n most_run
is_good (Piece.time m) = possible_time m
is_good (Piece.duration ms) = leb ms most_ms
is_good (Piece.sign kind) = is_sign kind

abbrev pub are_good : List Piece → Bool
are_good [] = true
are_good (p ∷ ps) = pick (is_good p) (are_good ps) false

good : (p : Piece) → is_good p ≡ true → Good p
unfolding possible_time
good (Piece.word bytes) h = good-word bytes h
good (Piece.string bytes) h = good-string bytes h
good (Piece.integer n) h = Good.integer (leb-true n most_run h)
good (Piece.time m) h = Good.time (ltb-true m day_minutes h)
good (Piece.duration ms) h = Good.duration (leb-true ms most_ms h)
good (Piece.sign kind) h = good-sign kind h

pub each-good : (ps : List Piece) → are_good ps ≡ true → Each Good ps
each-good [] h = Each.none
each-good (p ∷ ps) h =
    let k = both (is_good p) h in
    Each.more (good p k.0) (each-good ps k.1)

both-order : (t u v : Bool) → pick t (pick u v false) false ≡ pick (pick t u false) v false
both-order true u v = refl
both-order false u v = refl

pub good-append : (ps qs : List Piece) → are_good (ps ++ qs) ≡ pick (are_good ps) (are_good qs) false
good-append [] qs = refl
good-append (p ∷ ps) qs = rw (good-append ps qs) (both-order (is_good p) (are_good ps) (are_good qs))

-- ---- parts of entries

-- what keeps a limit keeps a higher one
below : (low high n : ℕ) → leb n low ≡ true → low ≤ high → leb n high ≡ true
below low high n h k = le-leb n high (omega (arith, leb-true n low h))

after : (low high n : ℕ) → ltb n low ≡ true → low ≤ high → leb (n + 1) high ≡ true
after low high n h k = le-leb (n + 1) high (omega (arith, ltb-true n low h))

information : (n : ℕ) → leb n last_event_information ≡ true → leb n most_run ≡ true
unfolding last_event_information
information n h = below last_event_information most_run n h (omega arith)

event-good : (e : Event) → possible_event e ≡ true → are_good (event_pieces e) ≡ true
unfolding event_pieces possible_event split
event-good Event.Press h = refl
event-good Event.Release h = refl
event-good Event.ShortPress h = refl
event-good Event.DoublePress h = refl
event-good Event.LongPressStart h = refl
event-good Event.LongPressRepeat h = refl
event-good Event.LongPressStop h = refl
event-good Event.ButtonFree h = refl
event-good Event.ButtonStuck h = refl
event-good Event.Movement h = refl
event-good Event.NoMovement h = refl
event-good Event.AnyEvent h = refl
event-good (Event.Raw n) h = rw (information n h)

commas-good : (ps : List Piece) → are_good (commas ps) ≡ are_good ps
unfolding commas
commas-good [] = refl
commas-good (p ∷ []) = refl
commas-good (p ∷ q ∷ ps) = rw (commas-good (q ∷ ps))

day-good : (days : Days) (d : ℕ) (name : List ℕ) → is_written name ≡ true → are_good (day_if_in days d name) ≡ true
unfolding day_if_in
day-good days d name h = picked (λ (ps : List Piece). are_good ps ≡ true) (has_day days d) (λ e. rw h) (λ e. refl)

days-good : (days : Days) → are_good (days_pieces days) ≡ true
unfolding days_pieces
days-good days = simp (commas-good, good-append, day-good)

on-good : (days : Days) → are_good (on_pieces days) ≡ true
unfolding on_pieces
on-good days = picked (λ (ps : List Piece). are_good ps ≡ true) (eqb days.sum every_day.sum) (λ e. refl) (λ e. days-good days)

offset-good : (z : ℤ) → is_signed_up_to most_later most_earlier z ≡ true → are_good (offset_pieces z) ≡ true
unfolding offset_pieces is_signed_up_to
offset-good (pos zero) h = refl
offset-good (pos (suc n)) h = rw (below most_later most_ms (suc n) h (omega arith))
offset-good (negsuc n) h = rw (after most_earlier most_ms n h (omega arith))

bound-good : (b : TimeBound) → possible_bound b ≡ true → are_good (bound_pieces b) ≡ true
unfolding bound_pieces possible_bound
bound-good (TimeBound.Clock m) h = rw h
bound-good (TimeBound.Solar event offset) h = simp ((solar_word_lem event).written, offset-good offset h)

literal_good : (z : ℤ) → possible_integer z ≡ true → are_good (literal_pieces z) ≡ true
unfolding literal_pieces is_signed_up_to
literal_good (pos n) h = rw h
literal_good (negsuc n) h = rw (after most_run most_run n h (omega arith))

delta-good : (d : Option ℤ) → possible_delta d ≡ true → are_good (delta_pieces d) ≡ true
unfolding delta_pieces possible_delta is_signed_up_to
delta-good None h = refl
delta-good (Some (pos n)) h = rw h
delta-good (Some (negsuc n)) h = rw (after most_run most_run n h (omega arith))

comparison-good : (c : Comparison) → is_sign (comparison_sign c) ≡ true
comparison-good Comparison.Eq = refl
comparison-good Comparison.Ne = refl
comparison-good Comparison.Ge = refl
comparison-good Comparison.Le = refl
comparison-good Comparison.Gt = refl
comparison-good Comparison.Lt = refl

-- ---- references

-- the numbers that are written for a reference
record Numbers (r : Ref) : Type 0 where
  number : leb r.number most_run ≡ true
  adapter : leb r.adapter most_run ≡ true

numbers : (most : ℕ) (r : Ref) → possible_ref most r ≡ true → most ≤ most_run → Numbers r
unfolding possible_ref
numbers most r h k =
    let m = both (leb r.adapter last_adapter) h in
    record { number = below most most_run r.number m.1 k; adapter = below last_adapter most_run r.adapter m.0 (omega arith) }

short-numbers : (r : Ref) → possible_ref last_short_address r ≡ true → Numbers r
unfolding last_short_address
short-numbers r h = numbers last_short_address r h (omega arith)

group-numbers : (r : Ref) → possible_ref last_group r ≡ true → Numbers r
unfolding last_group
group-numbers r h = numbers last_group r h (omega arith)

record InputNumbers (r : InputRef) : Type 0 where
  device : Numbers r.device
  instance : leb r.instance most_run ≡ true

input-numbers : (r : InputRef) → possible_input r ≡ true → InputNumbers r
unfolding possible_input last_instance
input-numbers r h =
    let m = both (possible_ref last_short_address r.device) h in
    record { device = short-numbers r.device m.0; instance = below last_instance most_run r.instance m.1 (omega arith) }

module _ (primary : ℕ) where
  adapter-good : (a : ℕ) → leb a most_run ≡ true → are_good (adapter_pieces primary a) ≡ true
  unfolding adapter_pieces
  adapter-good a h = picked (λ (ps : List Piece). are_good ps ≡ true) (eqb a primary) (λ e. refl) (λ e. rw h)

  type-good : (n : Option ℕ) → possible_type n ≡ true → are_good (type_pieces n) ≡ true
  unfolding type_pieces possible_type last_instance_type
  type-good None h = refl
  type-good (Some n) h = rw (below last_instance_type most_run n h (omega arith))

  selector-good : (s : Selector) → possible_selector s ≡ true → are_good (selector_pieces primary s) ≡ true
  unfolding selector_pieces instance_pieces possible_selector last_instance last_instance_group
  selector-good (Selector.Instance r n) h =
      let k = both (possible_ref last_short_address r) h in
      let m = short-numbers r k.0 in
      simp good-append (simp (adapter-good, m.number, m.adapter, below last_instance most_run n k.1 (omega arith)))
  selector-good (Selector.Group a g of) h =
      let k = both (leb a last_adapter) h in
      let m = both (leb g last_instance_group) k.1 in
      simp good-append (simp (
        adapter-good,
        below last_adapter most_run a k.0 (omega arith),
        below last_instance_group most_run g m.0 (omega arith),
        type-good of m.1,
      ))

  target-good : (t : LightTarget) → possible_target t ≡ true → are_good (target_pieces primary t) ≡ true
  unfolding target_pieces ref_pieces possible_target
  target-good (LightTarget.Lamp r) h =
      let m = short-numbers r h in
      simp good-append (simp (adapter-good, m.number, m.adapter))
  target-good (LightTarget.Group r) h =
      let m = group-numbers r h in
      simp good-append (simp (adapter-good, m.number, m.adapter))
  target-good (LightTarget.Broadcast a) h = refl

-- ---- entries

name-good : (text : List ℕ) (least most : ℕ) (n : Name) → possible_string text least most n ≡ true → is_string (name_in text n) ≡ true
unfolding possible_string
name-good text least most n h = (both (within least most n.length) (both (is_inside text n) h).1).1

module _ (primary : ℕ) (text : List ℕ) where
  reading-good : (r : Reading) → possible_reading text r ≡ true → are_good (reading_pieces primary (name_in text) r) ≡ true
  unfolding reading_pieces ref_pieces input_pieces instance_pieces name_pieces possible_reading
  reading-good (Reading.Lamp r p) h =
      let m = short-numbers r h in
      simp good-append (simp (adapter-good, m.number, m.adapter, (lamp_reading_word_lem p).written))
  reading-good (Reading.Group r p) h =
      let m = group-numbers r h in
      simp good-append (simp (adapter-good, m.number, m.adapter, (group_reading_word_lem p).written))
  reading-good (Reading.Input r p) h =
      let m = input-numbers r h in
      simp good-append (simp (adapter-good, m.device.number, m.device.adapter, m.instance, (input_reading_word_lem p).written))
  reading-good (Reading.Time p) h = rw (time_reading_word_lem p).written
  reading-good (Reading.Sun p) h = rw (sun_reading_word_lem p).written
  reading-good (Reading.Event p) h = rw (event_reading_word_lem p).written
  reading-good (Reading.Var n) h = rw (name-good text 1 longest_name n h)

  value-good : (v : Value) → possible_value text v ≡ true → are_good (value_pieces primary (name_in text) v) ≡ true
  unfolding value_pieces possible_value
  value-good (Value.Literal z) h = literal_good z h
  value-good (Value.Reads r delta) h =
      let k = both (possible_reading text r) h in
      simp (good-append, reading-good r k.0, delta-good delta k.1)

  operand-good : (v : Operand) → possible_operand text v ≡ true → are_good (operand_pieces primary (name_in text) v) ≡ true
  unfolding operand_pieces possible_operand
  operand-good (Operand.Text n) h = rw (name-good text 0 most_text n h)
  operand-good (Operand.Number v) h = value-good v h

  trigger-good : (x : Trigger) → possible_trigger text x ≡ true → are_good (trigger_pieces primary (name_in text) x) ≡ true
  unfolding trigger_pieces ref_pieces device_pieces input_pieces instance_pieces name_pieces possible_trigger possible_topic possible_bound split last_level last_scene
  trigger-good (Trigger.InputEvent s e) h =
      let k = both (possible_selector s) h in
      simp good-append (simp (selector-good primary s k.0, event-good e k.1))
  trigger-good (Trigger.InputOccupancy r state) h =
      let m = input-numbers r h in
      simp good-append (simp (adapter-good, m.device.number, m.device.adapter, m.instance, (occupancy_word_lem state).written))
  trigger-good (Trigger.InputLightCross r way n) h =
      let k = both (possible_input r) h in
      let m = input-numbers r k.0 in
      simp good-append
      (simp (adapter-good, m.device.number, m.device.adapter, m.instance, (crossing_word_lem way).written, information n k.1))
  trigger-good (Trigger.InputPositionChange r) h =
      let m = input-numbers r h in
      simp good-append (simp (adapter-good, m.device.number, m.device.adapter, m.instance))
  trigger-good (Trigger.InputDevicePowerCycled r) h =
      let m = short-numbers r h in
      simp good-append (simp (adapter-good, m.number, m.adapter))
  trigger-good (Trigger.InputDeviceManualConfigChanged r) h =
      let m = short-numbers r h in
      simp good-append (simp (adapter-good, m.number, m.adapter))
  trigger-good (Trigger.AtTime m days) h = simp ((both (possible_time m) h).0, on-good)
  trigger-good (Trigger.AtSolar event offset days) h =
      simp good-append (simp (bound-good (TimeBound.Solar event offset) (both (is_signed_up_to most_later most_earlier offset) h).0, on-good))
  trigger-good (Trigger.Every ms) h = rw (both (leb least_period ms) h).1
  trigger-good (Trigger.LampTurns r to) h =
      let m = short-numbers r h in
      simp good-append (simp (adapter-good, m.number, m.adapter, (power_word_lem to).written))
  trigger-good (Trigger.LampLevelCross r way n) h =
      let k = both (possible_ref last_short_address r) h in
      let m = short-numbers r k.0 in
      simp good-append
      (simp (adapter-good, m.number, m.adapter, (crossing_word_lem way).written, below last_level most_run n k.1 (omega arith)))
  trigger-good (Trigger.GroupBecomes r state) h =
      let m = group-numbers r h in
      simp good-append (simp (adapter-good, m.number, m.adapter, (aggregate_word_lem state).written))
  trigger-good (Trigger.SceneRecalled a scene) h =
      let k = both (leb a last_adapter) h in
      simp good-append
      (simp (adapter-good, below last_adapter most_run a k.0 (omega arith), below last_scene most_run scene k.1 (omega arith)))
  trigger-good (Trigger.DeviceOnline r Online.GoesOffline) h =
      let m = short-numbers r h in
      simp good-append (simp (adapter-good, m.number, m.adapter))
  trigger-good (Trigger.DeviceOnline r Online.ComesOnline) h =
      let m = short-numbers r h in
      simp good-append (simp (adapter-good, m.number, m.adapter))
  trigger-good (Trigger.HclOverride to change) h = simp ((override_word_lem change).written, target-good primary to h)
  trigger-good (Trigger.TimerFires n) h = rw (name-good text 1 longest_name n h)
  trigger-good Trigger.ControllerStarts h = refl
  trigger-good Trigger.ControllerBecomesActive h = refl
  trigger-good (Trigger.RuleFails n) h = rw (name-good text 1 longest_name n h)
  trigger-good Trigger.HttpTrigger h = refl
  trigger-good (Trigger.MqttMessage topic) h = rw (name-good text 1 longest_name topic (both (possible_string text 1 longest_name topic) h).0)

  condition-good : (y : Condition) → possible_condition text y ≡ true → are_good (condition_pieces primary (name_in text) y) ≡ true
  unfolding condition_pieces ref_pieces input_pieces instance_pieces name_pieces possible_condition split
  condition-good (Condition.TimeInRange from to) h =
      let k = both (possible_bound from) h in
      simp good-append (simp (bound-good from k.0, bound-good to k.1))
  condition-good (Condition.SunIs state) h = rw (sun_word_lem state).written
  condition-good (Condition.LampIs r state) h =
      let m = short-numbers r h in
      simp good-append (simp (adapter-good, m.number, m.adapter, (power_word_lem state).written))
  condition-good (Condition.LampCompare r p c v) h =
      let k = both (possible_ref last_short_address r) h in
      let m = short-numbers r k.0 in
      simp good-append
      (simp (adapter-good, m.number, m.adapter, (property_word_lem p).written, comparison-good c, value-good v k.1))
  condition-good (Condition.GroupState r state) h =
      let m = group-numbers r h in
      simp good-append (simp (adapter-good, m.number, m.adapter, (aggregate_word_lem state).written))
  condition-good (Condition.InputOccupancy r state) h =
      let m = input-numbers r h in
      simp good-append (simp (adapter-good, m.device.number, m.device.adapter, m.instance, (occupancy_word_lem state).written))
  condition-good (Condition.InputLight r way v) h =
      let k = both (possible_input r) h in
      let m = input-numbers r k.0 in
      simp good-append
      (simp (adapter-good, m.device.number, m.device.adapter, m.instance, (crossing_word_lem way).written, value-good v k.1))
  condition-good (Condition.HclState to state) h = simp ((hcl_word_lem state).written, target-good primary to h)
  condition-good (Condition.DeviceOnline r) h =
      let m = short-numbers r h in
      simp good-append (simp (adapter-good, m.number, m.adapter))
  condition-good (Condition.RuleEnabled n) h = rw (name-good text 1 longest_name n h)
  condition-good (Condition.LastFiredOlderThan n ms) h =
      let k = both (possible_string text 1 longest_name n) h in
      simp (name-good text 1 longest_name n k.0, k.1)
  condition-good (Condition.TimerRunning n) h = rw (name-good text 1 longest_name n h)
  condition-good Condition.ControllerActive h = refl
  condition-good (Condition.VarCompare n c v) h =
      let k = both (possible_string text 1 longest_name n) h in
      simp (name-good text 1 longest_name n k.0, comparison-good c, operand-good v k.1)
  condition-good (Condition.DayIn days) h = days-good days

  pub good-trigger : (x : Trigger) → possible_trigger text x ≡ true → Each Good (trigger_pieces primary (name_in text) x)
  good-trigger x h = each-good (trigger_pieces primary (name_in text) x) (trigger-good x h)

  pub good-condition : (y : Condition) → possible_condition text y ≡ true → Each Good (condition_pieces primary (name_in text) y)
  good-condition y h = each-good (condition_pieces primary (name_in text) y) (condition-good y h)

-- ---- the text

behind-good : {A : Type 0} {P : A → Type 0} (pieces : A → List Piece) (w : List ℕ) → is_written w ≡ true →
    ((x : A) → P x → are_good (pieces x) ≡ true) → {xs : List A} → Each P xs → are_good (behind_each w (map pieces xs)) ≡ true
unfolding behind_each
behind-good pieces w k f Each.none = refl
behind-good pieces w k f (Each.more {x} h e) = simp good-append (simp (k, f x h, behind-good pieces w k f e))

if_good : {A : Type 0} {P : A → Type 0} (pieces : A → List Piece) → ((x : A) → P x → are_good (pieces x) ≡ true) → {xs : List A} → Each P xs →
    are_good (if_pieces (map pieces xs)) ≡ true
unfolding if_pieces
if_good pieces f Each.none = refl
if_good pieces f (Each.more {x} h e) = simp good-append (simp (f x h, behind-good pieces (ascii "and") refl f e))

pub good-text : (first second : List ℕ) (primary : ℕ) (l : Lists) → first_impossible first second l ≡ 0 → Each Good (list_pieces first second primary l)
unfolding first_impossible possible_trigger_from possible_condition_from list_pieces rule_pieces
good-text first second primary l h =
    let e = none-failing (possible_trigger_from first second) (possible_condition_from first second) l h in
    let p = behind-good (trigger_from_pieces first second primary) (ascii "when") refl
    (λ x i. trigger-good primary (text_of first second x.from) x.trigger (both (is_text x.from) i).1) e.triggers in
    let q = if_good (condition_from_pieces first second primary)
    (λ y i. condition-good primary (text_of first second y.from) y.condition (both (is_text y.from) i).1) e.conditions in
    each-good (list_pieces first second primary l) (simp (good-append, p, q))
