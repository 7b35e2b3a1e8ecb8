-- Conditions, in document 01's order, and `day` of document 02.
use Rattle.std.specs.Prelude.{ℕ, ◌≤◌, length}
use Rattle.text.specs.Literal.{ascii}
use Rattle.tokens.specs.Kind.{STRING, DURATION, POINT, POINTS, EQ, NE, GE, LE, GT, LT}
use Rattle.tokens.specs.Cursor.{Tok}
use Rattle.sheet.specs.View.{View}
use Rattle.tokens.specs.Grammar.{Token, Word, Phrase, EitherWord}
use Rattle.references.specs.Grammar.{Q, Lamp, Group, Device, Target, OneInstance}
use Rattle.model.specs.declared.Ref.{Ref}
use Rattle.model.specs.declared.LightTarget.{LightTarget}
use Rattle.model.specs.declared.InputRef.{InputRef}
use Rattle.days.specs.Grammar.{DaySet}
use Rattle.language.specs.Limits.{most_text}
use Rattle.language.specs.grammar.Timeval.{Bound}
use Rattle.language.specs.grammar.Expr.{ValueOf}
use Rattle.language.specs.grammar.Trigger.{OnOff, AboveBelow, OccupiedVacant, AnyOnAllOff}
use Rattle.model.specs.declared.Name.{Name}
use Rattle.model.specs.declared.Value.{Value}
use Rattle.model.specs.declared.Days.{Days}
use Rattle.model.specs.declared.TimeBound.{TimeBound}
use Rattle.model.specs.declared.Occupancy.{Occupancy}
use Rattle.model.specs.declared.Crossing.{Crossing}
use Rattle.model.specs.declared.Power.{Power}
use Rattle.model.specs.declared.Aggregate.{Aggregate}
use Rattle.model.specs.declared.Sun.{Sun}
use Rattle.model.specs.declared.Sun.TheVariants.{Up, Down}
use Rattle.model.specs.declared.Hcl.{Hcl}
use Rattle.model.specs.declared.Hcl.TheVariants.{Enabled, Overridden}
use Rattle.model.specs.declared.Comparison.{Comparison}
use Rattle.model.specs.declared.Comparison.TheVariants.{Eq, Ne, Ge, Le, Gt, Lt}
use Rattle.model.specs.declared.LampProperty.{LampProperty}
use Rattle.model.specs.declared.Operand.{Operand}
use Rattle.model.specs.declared.Condition.{Condition}
use Rattle.model.specs.declared.Condition.TheVariants.{TimeInRange, SunIs, LampIs, LampCompare, GroupState, InputOccupancy, InputLight, HclState, DeviceOnline, RuleEnabled, LastFiredOlderThan, TimerRunning, ControllerActive, VarCompare, DayIn}

abbrev pub UpDown : (ℕ → Tok) → ℕ → Sun → ℕ → Type 0
UpDown t i sun j = EitherWord t (ascii "up") Up (ascii "down") Down i sun j

abbrev pub LevelCct : (ℕ → Tok) → ℕ → LampProperty → ℕ → Type 0
LevelCct t i p j = EitherWord t (ascii "level") LampProperty.Level (ascii "cct") LampProperty.Cct i p j

abbrev pub EnabledOverridden : (ℕ → Tok) → ℕ → Hcl → ℕ → Type 0
EnabledOverridden t i state j = EitherWord t (ascii "enabled") Enabled (ascii "overridden") Overridden i state j

-- "compared with": == != >= <= > <
pub data Compared (t : ℕ → Tok) : ℕ → Comparison → ℕ → Type 0 where
  eq : {i a j : ℕ} → Token t EQ i a j → Compared t i Eq j
  ne : {i a j : ℕ} → Token t NE i a j → Compared t i Ne j
  ge : {i a j : ℕ} → Token t GE i a j → Compared t i Ge j
  le : {i a j : ℕ} → Token t LE i a j → Compared t i Le j
  gt : {i a j : ℕ} → Token t GT i a j → Compared t i Gt j
  lt : {i a j : ℕ} → Token t LT i a j → Compared t i Lt j

-- "VALUE or a string, empty allowed", of at most 16 bytes (24)
pub data OperandOf (t : ℕ → Tok) (view : View) (range : ℕ → Name) : ℕ → Operand → ℕ → Type 0 where
  text : {i a j : ℕ} → Token t STRING i a j → length (t i).bytes ≤ most_text → OperandOf t view range i (Operand.Text (range i)) j
  value : {i j : ℕ} {v : Value} → ValueOf t view range i v j → OperandOf t view range i (Operand.Number v) j

pub data ConditionOf (t : ℕ → Tok) (view : View) (range : ℕ → Name) : ℕ → Condition → ℕ → Type 0 where
  -- "controller is active; timer Q is running; rule Q is enabled"
  controller_active : {i j k : ℕ} → Word t (ascii "controller") i j → Phrase t (ascii "is active") j k →
      ConditionOf t view range i ControllerActive k
  timer_running : {i j n k l : ℕ} → Word t (ascii "timer") i j → Q t j n k → Phrase t (ascii "is running") k l →
      ConditionOf t view range i (TimerRunning (range n)) l
  rule_enabled : {i j n k l : ℕ} → Word t (ascii "rule") i j → Q t j n k → Phrase t (ascii "is enabled") k l →
      ConditionOf t view range i (RuleEnabled (range n)) l
  -- "last_fired Q older than DURATION"
  last_fired : {i j n k l ms m : ℕ} → Word t (ascii "last_fired") i j → Q t j n k → Phrase t (ascii "older than") k l →
      Token t DURATION l ms m → ConditionOf t view range i (LastFiredOlderThan (range n) ms) m
  -- "device R is online"
  device_online : {i j k l : ℕ} {r : Ref} → Word t (ascii "device") i j → Device t view j r k → Phrase t (ascii "is online") k l →
      ConditionOf t view range i (DeviceOnline r) l
  -- "sun is up or down"
  sun_is : {i j k l : ℕ} {sun : Sun} → Word t (ascii "sun") i j → Phrase t (ascii "is") j k → UpDown t k sun l →
      ConditionOf t view range i (SunIs sun) l
  -- "time in bound..bound"
  time_in : {i j k l a m n : ℕ} {start end : TimeBound} → Word t (ascii "time") i j → Word t (ascii "in") j k → Bound t k start l →
      Token t POINTS l a m → Bound t m end n → ConditionOf t view range i (TimeInRange start end) n
  -- document 02, §1: "`day in` takes one as a condition"
  day_in : {i j k l : ℕ} {days : Days} → Word t (ascii "day") i j → Word t (ascii "in") j k → DaySet t k days l →
      ConditionOf t view range i (DayIn days) l
  -- "group R any_on or all_off"
  group_state : {i j k l : ℕ} {r : Ref} {state : Aggregate} → Word t (ascii "group") i j → Group t view j r k → AnyOnAllOff t k state l →
      ConditionOf t view range i (GroupState r state) l
  -- "hcl is enabled or overridden for TARGET"
  hcl_state : {i j k l m n : ℕ} {state : Hcl} {target : LightTarget} → Word t (ascii "hcl") i j → Phrase t (ascii "is") j k →
      EnabledOverridden t k state l → Word t (ascii "for") l m → Target t view m target n →
      ConditionOf t view range i (HclState target state) n
  -- "lamp R is on or off, or .level or .cct compared with VALUE"
  lamp_is : {i j k l m : ℕ} {r : Ref} {power : Power} → Word t (ascii "lamp") i j → Lamp t view j r k → Word t (ascii "is") k l →
      OnOff t l power m → ConditionOf t view range i (LampIs r power) m
  lamp_compare : {i j k a l m n o : ℕ} {r : Ref} {p : LampProperty} {c : Comparison} {v : Value} → Word t (ascii "lamp") i j →
      Lamp t view j r k → Token t POINT k a l → LevelCct t l p m → Compared t m c n → ValueOf t view range n v o →
      ConditionOf t view range i (LampCompare r p c v) o
  -- "input ARGS (one instance) is occupied or vacant, or .light above or below VALUE"
  input_occupancy : {i j k l m : ℕ} {r : InputRef} {state : Occupancy} → Word t (ascii "input") i j → OneInstance t view j r k →
      Word t (ascii "is") k l → OccupiedVacant t l state m → ConditionOf t view range i (InputOccupancy r state) m
  input_light : {i j k a l m n o : ℕ} {r : InputRef} {way : Crossing} {v : Value} → Word t (ascii "input") i j →
      OneInstance t view j r k → Token t POINT k a l → Phrase t (ascii "light") l m → AboveBelow t m way n →
      ValueOf t view range n v o → ConditionOf t view range i (InputLight r way v) o
  -- "var Q compared with VALUE or a string, empty allowed"
  var_compare : {i j n k l m : ℕ} {c : Comparison} {v : Operand} → Word t (ascii "var") i j → Q t j n k → Compared t k c l →
      OperandOf t view range l v m → ConditionOf t view range i (VarCompare (range n) c v) m
