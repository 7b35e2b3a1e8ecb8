-- Conditions: what is answered at the token behind `if` or `and` (document 01, "Grammar", and questions 20 to 40; `day` by document 02, §1).
use Rattle.std.specs.Prelude.{ℕ, ◌+◌, List, ltb, eqb, length}
use Rattle.text.specs.Choice.{pick}
use Rattle.text.specs.Literal.{ascii}
use Rattle.tokens.specs.Result.{Res, ok, bind, perhaps, refuse}
use Rattle.tokens.specs.Kind.{STRING, DURATION, POINTS, EQ, NE, GE, LE, GT, LT}
use Rattle.tokens.specs.Cursor.{Tok, is_kind, is_word, take_kind, take_word}
use Rattle.tokens.specs.Phrase.{choice_at, phrase_at, phrase_choice, point_phrase}
use Rattle.sheet.specs.View.{View}
use Rattle.references.specs.Refs.{lamp_ref, group_ref, device_ref, quoted_name}
use Rattle.references.specs.Args.{input_ref}
use Rattle.model.specs.declared.Name.{Name}
use Rattle.model.specs.declared.Ref.{Ref}
use Rattle.model.specs.declared.InputRef.{InputRef}
use Rattle.model.specs.declared.TimeBound.{TimeBound}
use Rattle.model.specs.declared.Value.{Value}
use Rattle.model.specs.declared.Sun.{Sun}
use Rattle.model.specs.declared.Sun.TheVariants.{Up, Down}
use Rattle.model.specs.declared.Hcl.{Hcl}
use Rattle.model.specs.declared.Hcl.TheVariants.{Enabled, Overridden}
use Rattle.model.specs.declared.Comparison.{Comparison}
use Rattle.model.specs.declared.Comparison.TheVariants.{Eq, Ne, Ge, Le, Gt, Lt}
use Rattle.model.specs.declared.LampProperty.{LampProperty}
use Rattle.model.specs.declared.Operand.{Operand}
use Rattle.model.specs.declared.Condition.{Condition}
use Rattle.model.specs.declared.Condition.TheVariants.{TimeInRange, SunIs, LampIs, LampCompare, GroupState, InputOccupancy, InputLight, HclState, DeviceOnline, RuleEnabled, LastFiredOlderThan, TimerRunning, ControllerActive, VarCompare, DayIn}
use Rattle.days.specs.Read.{day_set}
use Rattle.language.specs.Limits.{most_text}
use Rattle.language.specs.Words.{named_phrase, target_for, property_word}
use Rattle.language.specs.Timeval.{time_bound}
use Rattle.language.specs.Expr.{value_at}
use Rattle.language.specs.Trigger.{power_of, crossing_of, occupancy_of, aggregate_of}

-- ==, !=, >=, <=, > or <
unfoldable pub comparison_by : ℕ → ℕ → Res Comparison
comparison_by i kind =
    pick (eqb kind EQ) (ok Eq (i + 1))
    (pick (eqb kind NE) (ok Ne (i + 1))
    (pick (eqb kind GE) (ok Ge (i + 1))
    (pick (eqb kind LE) (ok Le (i + 1))
    (pick (eqb kind GT) (ok Gt (i + 1)) (pick (eqb kind LT) (ok Lt (i + 1)) (refuse 20 i))))))

unfoldable pub comparison_at : (ℕ → Tok) → ℕ → Res Comparison
comparison_at t i = comparison_by i (t i).kind

-- "controller is active"
unfoldable pub controller_condition : (ℕ → Tok) → ℕ → Res Condition
controller_condition t i = bind (phrase_at t (ascii "is active") i) (λ a j. ok ControllerActive j)

-- "timer Q is running"
unfoldable pub timer_condition : (ℕ → Tok) → (ℕ → Name) → ℕ → Res Condition
timer_condition t range i = bind (named_phrase t (ascii "is running") i) (λ n j. ok (TimerRunning (range n)) j)

-- "rule Q is enabled"
unfoldable pub rule_condition : (ℕ → Tok) → (ℕ → Name) → ℕ → Res Condition
rule_condition t range i = bind (named_phrase t (ascii "is enabled") i) (λ n j. ok (RuleEnabled (range n)) j)

-- "last_fired Q older than DURATION"
unfoldable pub last_fired_condition : (ℕ → Tok) → (ℕ → Name) → ℕ → Res Condition
last_fired_condition t range i =
    bind (named_phrase t (ascii "older than") i)
    (λ n j. bind (take_kind t DURATION j) (λ ms k. ok (LastFiredOlderThan (range n) ms) k))

-- "device R is online"
unfoldable pub device_condition : (ℕ → Tok) → View → ℕ → Res Condition
device_condition t view i =
    bind (device_ref t view i) (λ r j. bind (phrase_at t (ascii "is online") j) (λ a k. ok (DeviceOnline r) k))

-- "sun is up or down"
unfoldable pub sun_of : ℕ → Sun
sun_of n = pick (eqb n 0) Up Down

unfoldable pub sun_condition : (ℕ → Tok) → ℕ → Res Condition
sun_condition t i = bind (phrase_choice t (ascii "is") (ascii "up down") i) (λ n j. ok (SunIs (sun_of n)) j)

-- "time in bound..bound"
unfoldable pub time_to : (ℕ → Tok) → TimeBound → ℕ → Res Condition
time_to t start i = bind (take_kind t POINTS i) (λ a j. bind (time_bound t j) (λ end k. ok (TimeInRange start end) k))

unfoldable pub time_condition : (ℕ → Tok) → ℕ → Res Condition
time_condition t i = bind (take_word t (ascii "in") i) (λ a j. bind (time_bound t j) (λ start k. time_to t start k))

-- document 02, §1: "`day in` takes one as a condition"
unfoldable pub day_condition : (ℕ → Tok) → ℕ → ℕ → Res Condition
day_condition t fuel i = bind (take_word t (ascii "in") i) (λ a j. bind (day_set t fuel j) (λ days k. ok (DayIn days) k))

-- "group R any_on or all_off"
unfoldable pub group_condition : (ℕ → Tok) → View → ℕ → Res Condition
group_condition t view i =
    bind (group_ref t view i)
    (λ r j. bind (choice_at t (ascii "any_on all_off") 21 j) (λ n k. ok (GroupState r (aggregate_of n)) k))

-- "hcl is enabled or overridden for TARGET"
unfoldable pub hcl_of : ℕ → Hcl
hcl_of n = pick (eqb n 0) Enabled Overridden

unfoldable pub hcl_condition : (ℕ → Tok) → View → ℕ → Res Condition
hcl_condition t view i =
    bind (phrase_choice t (ascii "is") (ascii "enabled overridden") i)
    (λ n j. bind (target_for t view j) (λ target k. ok (HclState target (hcl_of n)) k))

-- "lamp R is on or off, or .level or .cct compared with VALUE"; "a lamp property in a condition is judged after the comparison and the
-- value": the property's word stands at the token p
unfoldable pub lamp_property_of : ℕ → LampProperty
lamp_property_of n = pick (eqb n 0) LampProperty.Level LampProperty.Cct

unfoldable pub lamp_judged : (ℕ → Tok) → Ref → ℕ → Comparison → Value → ℕ → Res Condition
lamp_judged t r p c v i =
    bind (choice_at t (ascii "level cct") 21 p) (λ n j. ok (LampCompare r (lamp_property_of n) c v) i)

unfoldable pub lamp_compared : (ℕ → Tok) → View → (ℕ → Name) → ℕ → Ref → ℕ → ℕ → Res Condition
lamp_compared t view range fuel r p i =
    bind (comparison_at t i) (λ c j. bind (value_at t view range fuel j) (λ v k. lamp_judged t r p c v k))

unfoldable pub lamp_point : (ℕ → Tok) → View → (ℕ → Name) → ℕ → Ref → ℕ → Res Condition
lamp_point t view range fuel r i = bind (property_word t i) (λ p j. lamp_compared t view range fuel r p j)

unfoldable pub lamp_state : (ℕ → Tok) → View → (ℕ → Name) → ℕ → Ref → ℕ → Res Condition
lamp_state t view range fuel r i =
    perhaps (is_word t (ascii "is") i) i
    (λ j. bind (choice_at t (ascii "on off") 21 j) (λ n k. ok (LampIs r (power_of n)) k))
    (lamp_point t view range fuel r i)

unfoldable pub lamp_condition : (ℕ → Tok) → View → (ℕ → Name) → ℕ → ℕ → Res Condition
lamp_condition t view range fuel i = bind (lamp_ref t view i) (λ r j. lamp_state t view range fuel r j)

-- "input ARGS (one instance) is occupied or vacant, or .light above or below VALUE"
unfoldable pub light_than : (ℕ → Tok) → View → (ℕ → Name) → ℕ → InputRef → ℕ → Res Condition
light_than t view range fuel r i =
    bind (point_phrase t (ascii "light") i)
    (λ a j.
    bind (choice_at t (ascii "above below") 21 j)
    (λ n k. bind (value_at t view range fuel k) (λ v l. ok (InputLight r (crossing_of n) v) l)))

unfoldable pub input_state : (ℕ → Tok) → View → (ℕ → Name) → ℕ → InputRef → ℕ → Res Condition
input_state t view range fuel r i =
    perhaps (is_word t (ascii "is") i) i
    (λ j. bind (choice_at t (ascii "occupied vacant") 21 j) (λ n k. ok (InputOccupancy r (occupancy_of n)) k))
    (light_than t view range fuel r i)

unfoldable pub input_condition : (ℕ → Tok) → View → (ℕ → Name) → ℕ → ℕ → Res Condition
input_condition t view range fuel i = bind (input_ref t view fuel i) (λ r j. input_state t view range fuel r j)

-- "var Q compared with VALUE or a string, empty allowed"; "var text at most 16? 24"
unfoldable pub text_operand : (ℕ → Tok) → (ℕ → Name) → ℕ → Res Operand
text_operand t range i =
    bind (take_kind t STRING i)
    (λ n j. pick (ltb most_text (length (t i).bytes)) (refuse 24 i) (ok (Operand.Text (range i)) j))

unfoldable pub operand_at : (ℕ → Tok) → View → (ℕ → Name) → ℕ → ℕ → Res Operand
operand_at t view range fuel i =
    pick (is_kind t STRING i) (text_operand t range i) (bind (value_at t view range fuel i) (λ v j. ok (Operand.Number v) j))

unfoldable pub var_compared : (ℕ → Tok) → View → (ℕ → Name) → ℕ → Name → ℕ → Res Condition
var_compared t view range fuel name i =
    bind (comparison_at t i) (λ c j. bind (operand_at t view range fuel j) (λ v k. ok (VarCompare name c v) k))

unfoldable pub var_condition : (ℕ → Tok) → View → (ℕ → Name) → ℕ → ℕ → Res Condition
var_condition t view range fuel i = bind (quoted_name t i) (λ n j. var_compared t view range fuel (range n) j)

-- the first words, and the condition with the n-th of them, whose next token is i
abbrev pub condition_words : List ℕ
condition_words = ascii "time sun lamp group input hcl device rule last_fired timer controller var day"

unfoldable pub condition_by : (ℕ → Tok) → View → (ℕ → Name) → ℕ → ℕ → ℕ → Res Condition
condition_by t view range fuel n i =
    pick (eqb n 0) (time_condition t i)
    (pick (eqb n 1) (sun_condition t i)
    (pick (eqb n 2) (lamp_condition t view range fuel i)
    (pick (eqb n 3) (group_condition t view i)
    (pick (eqb n 4) (input_condition t view range fuel i)
    (pick (eqb n 5) (hcl_condition t view i)
    (pick (eqb n 6) (device_condition t view i)
    (pick (eqb n 7) (rule_condition t range i)
    (pick (eqb n 8) (last_fired_condition t range i)
    (pick (eqb n 9) (timer_condition t range i)
    (pick (eqb n 10) (controller_condition t i)
    (pick (eqb n 11) (var_condition t view range fuel i) (day_condition t fuel i))))))))))))

unfoldable pub condition_at : (ℕ → Tok) → View → (ℕ → Name) → ℕ → ℕ → Res Condition
condition_at t view range fuel i = bind (choice_at t condition_words 21 i) (λ n j. condition_by t view range fuel n j)
