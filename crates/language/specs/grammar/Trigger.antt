-- Triggers, in document 01's order; `on` and `mqtt` are document 02's.
use Rattle.std.specs.Prelude.{ℕ, ◌≤◌, ◌≡◌, false, List, length, ℤ}
use Rattle.text.specs.Literal.{ascii}
use Rattle.tokens.specs.Kind.{STRING, DURATION, OPEN, CLOSE, POINT, ASSIGN}
use Rattle.tokens.specs.Cursor.{Tok}
use Rattle.model.specs.Limits.{last_scene, last_level, last_event_information, longest_name}
use Rattle.sheet.specs.View.{View}
use Rattle.tokens.specs.Grammar.{Token, Word, UpTo, Phrase, EitherWord}
use Rattle.references.specs.Grammar.{Q, Clause, OnAdapter, Lamp, Group, Device, InputDevice, Target, ArgsOf, OneInstance}
use Rattle.sheet.specs.declared.resolve.Scope.{Scope}
use Rattle.model.specs.declared.Ref.{Ref}
use Rattle.model.specs.declared.LightTarget.{LightTarget}
use Rattle.model.specs.declared.InputRef.{InputRef}
use Rattle.model.specs.declared.Selector.{Selector}
use Rattle.topics.specs.Topic.{forbidden}
use Rattle.days.specs.Grammar.{OnDays}
use Rattle.language.specs.Limits.{least_period}
use Rattle.language.specs.grammar.Timeval.{Bound}
use Rattle.model.specs.declared.Name.{Name}
use Rattle.model.specs.declared.Days.{Days}
use Rattle.model.specs.declared.SolarEvent.{SolarEvent}
use Rattle.model.specs.declared.TimeBound.TheVariants.{Clock, Solar}
use Rattle.model.specs.declared.Event.{Event}
use Rattle.model.specs.declared.Event.TheVariants.{Press, Release, ShortPress, DoublePress, LongPressStart, LongPressRepeat, LongPressStop, ButtonFree, ButtonStuck, Movement, NoMovement, AnyEvent, Raw}
use Rattle.model.specs.declared.Occupancy.{Occupancy}
use Rattle.model.specs.declared.Occupancy.TheVariants.{Occupied, Vacant}
use Rattle.model.specs.declared.Crossing.{Crossing}
use Rattle.model.specs.declared.Crossing.TheVariants.{Above, Below}
use Rattle.model.specs.declared.Power.{Power}
use Rattle.model.specs.declared.Power.TheVariants.{On, Off}
use Rattle.model.specs.declared.Aggregate.{Aggregate}
use Rattle.model.specs.declared.Aggregate.TheVariants.{AnyOn, AllOff}
use Rattle.model.specs.declared.Online.TheVariants.{GoesOffline, ComesOnline}
use Rattle.model.specs.declared.Override.{Override}
use Rattle.model.specs.declared.Override.TheVariants.{Starts, Clears}
use Rattle.model.specs.declared.Trigger.{Trigger}
use Rattle.model.specs.declared.Trigger.TheVariants.{InputEvent, InputOccupancy, InputLightCross, InputPositionChange, InputDevicePowerCycled, InputDeviceManualConfigChanged, AtTime, AtSolar, Every, LampTurns, LampLevelCross, GroupBecomes, SceneRecalled, DeviceOnline, HclOverride, TimerFires, ControllerStarts, ControllerBecomesActive, RuleFails, HttpTrigger, MqttMessage}

abbrev pub OnOff : (ℕ → Tok) → ℕ → Power → ℕ → Type 0
OnOff t i power j = EitherWord t (ascii "on") On (ascii "off") Off i power j

abbrev pub AboveBelow : (ℕ → Tok) → ℕ → Crossing → ℕ → Type 0
AboveBelow t i way j = EitherWord t (ascii "above") Above (ascii "below") Below i way j

abbrev pub OccupiedVacant : (ℕ → Tok) → ℕ → Occupancy → ℕ → Type 0
OccupiedVacant t i state j = EitherWord t (ascii "occupied") Occupied (ascii "vacant") Vacant i state j

abbrev pub AnyOnAllOff : (ℕ → Tok) → ℕ → Aggregate → ℕ → Type 0
AnyOnAllOff t i state j = EitherWord t (ascii "any_on") AnyOn (ascii "all_off") AllOff i state j

abbrev pub StartsClears : (ℕ → Tok) → ℕ → Override → ℕ → Type 0
StartsClears t i change j = EitherWord t (ascii "starts") Starts (ascii "clears") Clears i change j

-- "EVENT: press, release, …, or event(data=0..1023)."
pub data EventOf (t : ℕ → Tok) : ℕ → Event → ℕ → Type 0 where
  press : {i j : ℕ} → Word t (ascii "press") i j → EventOf t i Press j
  release : {i j : ℕ} → Word t (ascii "release") i j → EventOf t i Release j
  short_press : {i j : ℕ} → Word t (ascii "short_press") i j → EventOf t i ShortPress j
  double_press : {i j : ℕ} → Word t (ascii "double_press") i j → EventOf t i DoublePress j
  long_press_start : {i j : ℕ} → Word t (ascii "long_press_start") i j → EventOf t i LongPressStart j
  long_press_repeat : {i j : ℕ} → Word t (ascii "long_press_repeat") i j → EventOf t i LongPressRepeat j
  long_press_stop : {i j : ℕ} → Word t (ascii "long_press_stop") i j → EventOf t i LongPressStop j
  button_free : {i j : ℕ} → Word t (ascii "button_free") i j → EventOf t i ButtonFree j
  button_stuck : {i j : ℕ} → Word t (ascii "button_stuck") i j → EventOf t i ButtonStuck j
  movement : {i j : ℕ} → Word t (ascii "movement") i j → EventOf t i Movement j
  no_movement : {i j : ℕ} → Word t (ascii "no_movement") i j → EventOf t i NoMovement j
  any_event : {i j : ℕ} → Word t (ascii "any_event") i j → EventOf t i AnyEvent j
  raw : {i j a k l b m n o c p : ℕ} → Word t (ascii "event") i j → Token t OPEN j a k → Word t (ascii "data") k l → Token t ASSIGN l b m →
      UpTo t last_event_information m n o → Token t CLOSE o c p → EventOf t i (Raw n) p

-- "A topic has 1 to 48 bytes and no `+`, `#`, control character or Unicode noncharacter."
pub record Topic (bytes : List ℕ) : Type 0 where
  pub some : 1 ≤ length bytes
  pub few : length bytes ≤ longest_name
  pub allowed : forbidden bytes ≡ false

pub data TriggerOf (t : ℕ → Tok) (view : View) (range : ℕ → Name) : ℕ → Trigger → ℕ → Type 0 where
  -- "timer Q fires; rule Q fails"
  timer_fires : {i j n k l : ℕ} → Word t (ascii "timer") i j → Q t j n k → Phrase t (ascii "fires") k l →
      TriggerOf t view range i (TimerFires (range n)) l
  rule_fails : {i j n k l : ℕ} → Word t (ascii "rule") i j → Q t j n k → Phrase t (ascii "fails") k l →
      TriggerOf t view range i (RuleFails (range n)) l
  -- "controller starts, or becomes active"
  controller_starts : {i j k : ℕ} → Word t (ascii "controller") i j → Phrase t (ascii "starts") j k →
      TriggerOf t view range i ControllerStarts k
  controller_becomes_active : {i j k : ℕ} → Word t (ascii "controller") i j → Phrase t (ascii "becomes active") j k →
      TriggerOf t view range i ControllerBecomesActive k
  -- "http trigger"
  http_trigger_rule : {i j k : ℕ} → Word t (ascii "http") i j → Word t (ascii "trigger") j k → TriggerOf t view range i HttpTrigger k
  -- "`mqtt` and a quoted topic"
  mqtt_message : {i j n k : ℕ} → Word t (ascii "mqtt") i j → Token t STRING j n k → Topic (t j).bytes →
      TriggerOf t view range i (MqttMessage (range j)) k
  -- "every DURATION", of at least 1,000 ms (35)
  every : {i j ms k : ℕ} → Word t (ascii "every") i j → Token t DURATION j ms k → least_period ≤ ms → TriggerOf t view range i (Every ms) k
  -- "at TIME or SOLAR"; document 02, §1: "After `at` and its TIME or SOLAR, `on` takes a day set"
  at_time : {i j m k l : ℕ} {days : Days} → Word t (ascii "at") i j → Bound t j (Clock m) k → OnDays t k days l →
      TriggerOf t view range i (AtTime m days) l
  at_solar : {i j k l : ℕ} {event : SolarEvent} {offset : ℤ} {days : Days} → Word t (ascii "at") i j → Bound t j (Solar event offset) k →
      OnDays t k days l → TriggerOf t view range i (AtSolar event offset days) l
  -- "scene (0..15 perhaps `, adapter = A`) recalled"
  scene_recalled : {i j a k scene l m b n o adapter : ℕ} {scope : Scope} → Word t (ascii "scene") i j → Token t OPEN j a k →
      UpTo t last_scene k scene l → Clause t view l scope m → Token t CLOSE m b n → Word t (ascii "recalled") n o →
      OnAdapter view scope adapter → TriggerOf t view range i (SceneRecalled adapter scene) o
  -- "device R goes offline, or comes online"
  goes_offline : {i j k l : ℕ} {r : Ref} → Word t (ascii "device") i j → Device t view j r k → Phrase t (ascii "goes offline") k l →
      TriggerOf t view range i (DeviceOnline r GoesOffline) l
  comes_online : {i j k l : ℕ} {r : Ref} → Word t (ascii "device") i j → Device t view j r k → Phrase t (ascii "comes online") k l →
      TriggerOf t view range i (DeviceOnline r ComesOnline) l
  -- "group R becomes any_on or all_off"
  group_becomes : {i j k l m : ℕ} {r : Ref} {state : Aggregate} → Word t (ascii "group") i j → Group t view j r k →
      Phrase t (ascii "becomes") k l → AnyOnAllOff t l state m → TriggerOf t view range i (GroupBecomes r state) m
  -- "hcl override starts or clears for TARGET"
  hcl_override : {i j k l m n : ℕ} {change : Override} {target : LightTarget} → Word t (ascii "hcl") i j → Phrase t (ascii "override") j k →
      StartsClears t k change l → Word t (ascii "for") l m → Target t view m target n →
      TriggerOf t view range i (HclOverride target change) n
  -- "lamp R turns on or off, or .level crosses above or below 0..254"
  lamp_turns : {i j k l m : ℕ} {r : Ref} {power : Power} → Word t (ascii "lamp") i j → Lamp t view j r k → Word t (ascii "turns") k l →
      OnOff t l power m → TriggerOf t view range i (LampTurns r power) m
  lamp_level_cross : {i j k a l m n level o : ℕ} {r : Ref} {way : Crossing} → Word t (ascii "lamp") i j → Lamp t view j r k →
      Token t POINT k a l → Phrase t (ascii "level crosses") l m → AboveBelow t m way n → UpTo t last_level n level o →
      TriggerOf t view range i (LampLevelCross r way level) o
  -- "input device ( perhaps `dev =` DEV, perhaps `, adapter = A` ) power cycled, or manual config changed"
  power_cycled : {i j k l m : ℕ} {r : Ref} → Word t (ascii "input") i j → Word t (ascii "device") j k → InputDevice t view k r l →
      Phrase t (ascii "power cycled") l m → TriggerOf t view range i (InputDevicePowerCycled r) m
  manual_config_changed : {i j k l m : ℕ} {r : Ref} → Word t (ascii "input") i j → Word t (ascii "device") j k →
      InputDevice t view k r l → Phrase t (ascii "manual config changed") l m →
      TriggerOf t view range i (InputDeviceManualConfigChanged r) m
  -- "input ARGS is EVENT"
  input_event_rule : {i j k l m : ℕ} {s : Selector} {event : Event} → Word t (ascii "input") i j → ArgsOf t view j s k →
      Word t (ascii "is") k l → EventOf t l event m → TriggerOf t view range i (InputEvent s event) m
  -- "With one instance: input ARGS becomes occupied or vacant, .light crosses above or below 0..1023, .position changes."
  input_occupancy : {i j k l m : ℕ} {r : InputRef} {state : Occupancy} → Word t (ascii "input") i j → OneInstance t view j r k →
      Word t (ascii "becomes") k l → OccupiedVacant t l state m → TriggerOf t view range i (InputOccupancy r state) m
  input_light_cross : {i j k a l m n o light p : ℕ} {r : InputRef} {way : Crossing} → Word t (ascii "input") i j →
      OneInstance t view j r k → Token t POINT k a l → Word t (ascii "light") l m → Phrase t (ascii "crosses") m n →
      AboveBelow t n way o → UpTo t last_event_information o light p → TriggerOf t view range i (InputLightCross r way light) p
  input_position_change : {i j k a l m n : ℕ} {r : InputRef} → Word t (ascii "input") i j → OneInstance t view j r k →
      Token t POINT k a l → Word t (ascii "position") l m → Word t (ascii "changes") m n →
      TriggerOf t view range i (InputPositionChange r) n
