-- Triggers: what is answered at the token behind `when` (document 01, "Grammar", and questions 20 to 40; `on` and `mqtt` by
-- document 02, §1 and §12).
use Rattle.std.specs.Prelude.{ℕ, List, ltb, eqb}
use Rattle.text.specs.Choice.{pick}
use Rattle.text.specs.Literal.{ascii}
use Rattle.tokens.specs.Result.{Res, ok, bind, perhaps, refuse}
use Rattle.tokens.specs.Kind.{STRING, DURATION, OPEN, CLOSE, POINT, ASSIGN}
use Rattle.tokens.specs.Cursor.{Tok, is_kind, is_word, take_kind, take_word, take_in}
use Rattle.tokens.specs.Phrase.{choice_at, either_at, phrase_choice, point_phrase}
use Rattle.sheet.specs.View.{View}
use Rattle.references.specs.Refs.{lamp_ref, group_ref, device_ref, input_device_ref, adapter_clause, scope_or_primary}
use Rattle.references.specs.Args.{input_selector, one_instance}
use Rattle.model.specs.Limits.{last_scene, last_level, last_event_information}
use Rattle.model.specs.declared.Name.{Name}
use Rattle.model.specs.declared.Ref.{Ref}
use Rattle.model.specs.declared.InputRef.{InputRef}
use Rattle.model.specs.declared.Selector.{Selector}
use Rattle.model.specs.declared.Days.{Days}
use Rattle.model.specs.declared.TimeBound.{TimeBound}
use Rattle.model.specs.declared.TimeBound.TheVariants.{Clock, Solar}
use Rattle.model.specs.declared.Event.{Event}
use Rattle.model.specs.declared.Event.TheVariants.{Press, Release, ShortPress, DoublePress, LongPressStart, LongPressRepeat, LongPressStop, ButtonFree, ButtonStuck, Movement, NoMovement, AnyEvent, Raw}
use Rattle.model.specs.declared.Occupancy.{Occupancy}
use Rattle.model.specs.declared.Occupancy.TheVariants.{Occupied, Vacant}
use Rattle.model.specs.declared.Crossing.{Crossing}
use Rattle.model.specs.declared.Crossing.TheVariants.{Above, Below}
use Rattle.model.specs.declared.Power.{Power}
use Rattle.model.specs.declared.Power.TheVariants.{On, Off}
use Rattle.model.specs.declared.Aggregate.{Aggregate}
use Rattle.model.specs.declared.Aggregate.TheVariants.{AnyOn, AllOff}
use Rattle.model.specs.declared.Online.{Online}
use Rattle.model.specs.declared.Online.TheVariants.{GoesOffline, ComesOnline}
use Rattle.model.specs.declared.Override.{Override}
use Rattle.model.specs.declared.Override.TheVariants.{Starts, Clears}
use Rattle.model.specs.declared.Trigger.{Trigger}
use Rattle.model.specs.declared.Trigger.TheVariants.{InputEvent, InputOccupancy, InputLightCross, InputPositionChange, InputDevicePowerCycled, InputDeviceManualConfigChanged, AtTime, AtSolar, Every, LampTurns, LampLevelCross, GroupBecomes, SceneRecalled, DeviceOnline, HclOverride, TimerFires, ControllerStarts, ControllerBecomesActive, RuleFails, HttpTrigger, MqttMessage}
use Rattle.topics.specs.Topic.{topic_number}
use Rattle.days.specs.Read.{on_days}
use Rattle.language.specs.Limits.{least_period}
use Rattle.language.specs.Words.{named_phrase, target_for}
use Rattle.language.specs.Timeval.{time_bound}

-- What a word of a pair stands for, by its place: 0 is the first.
unfoldable pub power_of : ℕ → Power
power_of n = pick (eqb n 0) On Off

unfoldable pub crossing_of : ℕ → Crossing
crossing_of n = pick (eqb n 0) Above Below

unfoldable pub occupancy_of : ℕ → Occupancy
occupancy_of n = pick (eqb n 0) Occupied Vacant

unfoldable pub aggregate_of : ℕ → Aggregate
aggregate_of n = pick (eqb n 0) AnyOn AllOff

unfoldable pub online_of : ℕ → Online
online_of n = pick (eqb n 0) GoesOffline ComesOnline

unfoldable pub override_of : ℕ → Override
override_of n = pick (eqb n 0) Starts Clears

-- "timer Q fires"
unfoldable pub timer_trigger : (ℕ → Tok) → (ℕ → Name) → ℕ → Res Trigger
timer_trigger t range i = bind (named_phrase t (ascii "fires") i) (λ n j. ok (TimerFires (range n)) j)

-- "rule Q fails"
unfoldable pub rule_trigger : (ℕ → Tok) → (ℕ → Name) → ℕ → Res Trigger
rule_trigger t range i = bind (named_phrase t (ascii "fails") i) (λ n j. ok (RuleFails (range n)) j)

-- "controller starts, or becomes active"
unfoldable pub controller_change : ℕ → Trigger
controller_change n = pick (eqb n 0) ControllerStarts ControllerBecomesActive

unfoldable pub controller_trigger : (ℕ → Tok) → ℕ → Res Trigger
controller_trigger t i = bind (either_at t (ascii "starts") (ascii "becomes active") i) (λ n j. ok (controller_change n) j)

-- "http trigger"
unfoldable pub http_trigger : (ℕ → Tok) → ℕ → Res Trigger
http_trigger t i = bind (take_word t (ascii "trigger") i) (λ a j. ok HttpTrigger j)

-- "an empty or forbidden topic with 64, then one over 48 bytes with 65, both at the string"; the value is the token's number, which no form uses
unfoldable pub topic_at : (ℕ → Tok) → ℕ → Res ℕ
topic_at t i =
    bind (take_kind t STRING i)
    (λ n j. let number = topic_number (t i).bytes in pick (eqb number 0) (ok n j) (refuse number i))

-- "`mqtt` and a quoted topic"; "a following `is` stays with 40, at that `is`"
unfoldable pub mqtt_trigger : (ℕ → Tok) → (ℕ → Name) → ℕ → Res Trigger
mqtt_trigger t range i =
    bind (topic_at t i) (λ n j. pick (is_word t (ascii "is") j) (refuse 40 j) (ok (MqttMessage (range i)) j))

-- "every DURATION"; "Every period at least 1,000 ms? 35", at the duration
unfoldable pub every_trigger : (ℕ → Tok) → ℕ → Res Trigger
every_trigger t i = bind (take_kind t DURATION i) (λ ms j. pick (ltb ms least_period) (refuse 35 i) (ok (Every ms) j))

-- "at TIME or SOLAR"; document 02, §1: "After `at` and its TIME or SOLAR, `on` takes a day set"
unfoldable pub at_on : TimeBound → Days → Trigger
at_on (Clock m) days = AtTime m days
at_on (Solar event offset) days = AtSolar event offset days

unfoldable pub at_bound : (ℕ → Tok) → ℕ → TimeBound → ℕ → Res Trigger
at_bound t fuel bound i = bind (on_days t fuel i) (λ days j. ok (at_on bound days) j)

unfoldable pub at_trigger : (ℕ → Tok) → ℕ → ℕ → Res Trigger
at_trigger t fuel i = bind (time_bound t i) (λ bound j. at_bound t fuel bound j)

-- "scene (0..15 perhaps `, adapter = A`) recalled"
unfoldable pub scene_closed : (ℕ → Tok) → View → ℕ → ℕ → Res Trigger
scene_closed t view scene i =
    bind (adapter_clause t view i)
    (λ scope j.
    bind (take_kind t CLOSE j)
    (λ a k. bind (take_word t (ascii "recalled") k) (λ b l. ok (SceneRecalled (scope_or_primary view scope) scene) l)))

unfoldable pub scene_trigger : (ℕ → Tok) → View → ℕ → Res Trigger
scene_trigger t view i =
    bind (take_kind t OPEN i) (λ a j. bind (take_in t 0 last_scene j) (λ scene k. scene_closed t view scene k))

-- "device R goes offline, or comes online"
unfoldable pub device_trigger : (ℕ → Tok) → View → ℕ → Res Trigger
device_trigger t view i =
    bind (device_ref t view i)
    (λ r j. bind (either_at t (ascii "goes offline") (ascii "comes online") j) (λ n k. ok (DeviceOnline r (online_of n)) k))

-- "group R becomes any_on or all_off"
unfoldable pub group_trigger : (ℕ → Tok) → View → ℕ → Res Trigger
group_trigger t view i =
    bind (group_ref t view i)
    (λ r j.
    bind (phrase_choice t (ascii "becomes") (ascii "any_on all_off") j) (λ n k. ok (GroupBecomes r (aggregate_of n)) k))

-- "hcl override starts or clears for TARGET"
unfoldable pub hcl_trigger : (ℕ → Tok) → View → ℕ → Res Trigger
hcl_trigger t view i =
    bind (phrase_choice t (ascii "override") (ascii "starts clears") i)
    (λ n j. bind (target_for t view j) (λ target k. ok (HclOverride target (override_of n)) k))

-- "lamp R turns on or off, or .level crosses above or below 0..254"
unfoldable pub level_cross : (ℕ → Tok) → Ref → ℕ → Res Trigger
level_cross t r i =
    bind (point_phrase t (ascii "level crosses") i)
    (λ a j.
    bind (choice_at t (ascii "above below") 21 j)
    (λ n k. bind (take_in t 0 last_level k) (λ level l. ok (LampLevelCross r (crossing_of n) level) l)))

unfoldable pub lamp_change : (ℕ → Tok) → Ref → ℕ → Res Trigger
lamp_change t r i =
    perhaps (is_word t (ascii "turns") i) i
    (λ j. bind (choice_at t (ascii "on off") 21 j) (λ n k. ok (LampTurns r (power_of n)) k)) (level_cross t r i)

unfoldable pub lamp_trigger : (ℕ → Tok) → View → ℕ → Res Trigger
lamp_trigger t view i = bind (lamp_ref t view i) (λ r j. lamp_change t r j)

-- "input device ( perhaps `dev =` DEV, perhaps `, adapter = A` ) power cycled, or manual config changed"
unfoldable pub input_device_change : Ref → ℕ → Trigger
input_device_change r n = pick (eqb n 0) (InputDevicePowerCycled r) (InputDeviceManualConfigChanged r)

unfoldable pub input_device_trigger : (ℕ → Tok) → View → ℕ → Res Trigger
input_device_trigger t view i =
    bind (input_device_ref t view i)
    (λ r j.
    bind (either_at t (ascii "power cycled") (ascii "manual config changed") j) (λ n k. ok (input_device_change r n) k))

-- "event(data=0..1023)"
unfoldable pub raw_data : (ℕ → Tok) → ℕ → Res Event
raw_data t i = bind (take_in t 0 last_event_information i) (λ n j. bind (take_kind t CLOSE j) (λ a k. ok (Raw n) k))

unfoldable pub raw_event : (ℕ → Tok) → ℕ → Res Event
raw_event t i =
    bind (take_kind t OPEN i)
    (λ a j. bind (take_word t (ascii "data") j) (λ b k. bind (take_kind t ASSIGN k) (λ c l. raw_data t l)))

-- EVENT, by the place of its word in the list
unfoldable pub event_of : ℕ → Event
event_of n =
    pick (eqb n 0) Press
    (pick (eqb n 1) Release
    (pick (eqb n 2) ShortPress
    (pick (eqb n 3) DoublePress
    (pick (eqb n 4) LongPressStart
    (pick (eqb n 5) LongPressRepeat
    (pick (eqb n 6) LongPressStop
    (pick (eqb n 7) ButtonFree
    (pick (eqb n 8) ButtonStuck (pick (eqb n 9) Movement (pick (eqb n 10) NoMovement AnyEvent))))))))))

-- the last word of the list is `event`, behind which its data stand
abbrev pub event_words : List ℕ
event_words =
    ascii "press release short_press double_press long_press_start long_press_repeat long_press_stop button_free button_stuck movement no_movement any_event event"

unfoldable pub event_at : (ℕ → Tok) → ℕ → Res Event
event_at t i = bind (choice_at t event_words 21 i) (λ n j. pick (eqb n 12) (raw_event t j) (ok (event_of n) j))

-- "input ARGS is EVENT"
unfoldable pub input_event : (ℕ → Tok) → Selector → ℕ → Res Trigger
input_event t s i = bind (event_at t i) (λ e j. ok (InputEvent s e) j)

-- "With one instance: input ARGS becomes occupied or vacant"; paren is the index of `(`, where 30 is refused
unfoldable pub input_becomes : (ℕ → Tok) → ℕ → Selector → ℕ → Res Trigger
input_becomes t paren s i =
    bind (one_instance paren i s)
    (λ r j. bind (choice_at t (ascii "occupied vacant") 21 j) (λ n k. ok (InputOccupancy r (occupancy_of n)) k))

-- ".light crosses above or below 0..1023, .position changes"
unfoldable pub light_cross : (ℕ → Tok) → InputRef → ℕ → Res Trigger
light_cross t r i =
    bind (phrase_choice t (ascii "crosses") (ascii "above below") i)
    (λ n j. bind (take_in t 0 last_event_information j) (λ light k. ok (InputLightCross r (crossing_of n) light) k))

unfoldable pub position_change : (ℕ → Tok) → InputRef → ℕ → Res Trigger
position_change t r i = bind (take_word t (ascii "changes") i) (λ a j. ok (InputPositionChange r) j)

unfoldable pub property_trigger : (ℕ → Tok) → InputRef → ℕ → ℕ → Res Trigger
property_trigger t r n i = pick (eqb n 0) (light_cross t r i) (position_change t r i)

unfoldable pub point_trigger : (ℕ → Tok) → ℕ → Selector → ℕ → Res Trigger
point_trigger t paren s i =
    bind (one_instance paren i s)
    (λ r j. bind (choice_at t (ascii "light position") 21 j) (λ n k. property_trigger t r n k))

-- "Number 30 is asked of a trigger after `becomes` or `.`"
unfoldable pub input_change : (ℕ → Tok) → ℕ → Selector → ℕ → Res Trigger
input_change t paren s i =
    perhaps (is_word t (ascii "is") i) i (λ j. input_event t s j)
    (perhaps (is_word t (ascii "becomes") i) i (λ j. input_becomes t paren s j)
    (perhaps (is_kind t POINT i) i (λ j. point_trigger t paren s j) (refuse 20 i)))

unfoldable pub input_trigger : (ℕ → Tok) → View → ℕ → ℕ → Res Trigger
input_trigger t view fuel i =
    perhaps (is_word t (ascii "device") i) i (λ j. input_device_trigger t view j)
    (bind (input_selector t view fuel i) (λ s j. input_change t i s j))

-- the first words, and the trigger with the n-th of them, whose next token is i
abbrev pub trigger_words : List ℕ
trigger_words = ascii "input at every lamp group scene device hcl timer controller rule http mqtt"

unfoldable pub trigger_by : (ℕ → Tok) → View → (ℕ → Name) → ℕ → ℕ → ℕ → Res Trigger
trigger_by t view range fuel n i =
    pick (eqb n 0) (input_trigger t view fuel i)
    (pick (eqb n 1) (at_trigger t fuel i)
    (pick (eqb n 2) (every_trigger t i)
    (pick (eqb n 3) (lamp_trigger t view i)
    (pick (eqb n 4) (group_trigger t view i)
    (pick (eqb n 5) (scene_trigger t view i)
    (pick (eqb n 6) (device_trigger t view i)
    (pick (eqb n 7) (hcl_trigger t view i)
    (pick (eqb n 8) (timer_trigger t range i)
    (pick (eqb n 9) (controller_trigger t i)
    (pick (eqb n 10) (rule_trigger t range i) (pick (eqb n 11) (http_trigger t i) (mqtt_trigger t range i))))))))))))

unfoldable pub trigger_at : (ℕ → Tok) → View → (ℕ → Name) → ℕ → ℕ → Res Trigger
trigger_at t view range fuel i = bind (choice_at t trigger_words 21 i) (λ n j. trigger_by t view range fuel n j)
