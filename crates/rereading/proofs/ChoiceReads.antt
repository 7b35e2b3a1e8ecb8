-- Choices as they are written, by their words or signs, are read as themselves.
use Prim.Native.Nat.{ℕ}
use mathlib.Core.Path.{◌≡◌}
use mathlib.Core.Bool.{true}
use mathlib.Core.List.{[], ◌∷◌}
use borrow.Author.Tests.{leb-true}
use Rattle.text.specs.Split.{split}
use Rattle.tokens.specs.Cursor.{Tok}
use Rattle.tokens.specs.Grammar.{up_to, the_first, the_second}
use Rattle.model.specs.declared.Aggregate.{Aggregate}
use Rattle.model.specs.declared.Comparison.{Comparison}
use Rattle.model.specs.declared.Crossing.{Crossing}
use Rattle.model.specs.declared.Event.{Event}
use Rattle.model.specs.declared.Hcl.{Hcl}
use Rattle.model.specs.declared.LampProperty.{LampProperty}
use Rattle.model.specs.declared.Occupancy.{Occupancy}
use Rattle.model.specs.declared.Override.{Override}
use Rattle.model.specs.declared.Power.{Power}
use Rattle.model.specs.declared.Sun.{Sun}
use Rattle.language.specs.grammar.Trigger.{OnOff, AboveBelow, OccupiedVacant, AnyOnAllOff, StartsClears, EventOf, press, release, short_press, double_press, long_press_start, long_press_repeat, long_press_stop, button_free, button_stuck, movement, no_movement, any_event, raw}
use Rattle.language.specs.grammar.Condition.{UpDown, LevelCct, EnabledOverridden, Compared, eq, ne, ge, le, gt, lt}
use Rattle.writing.specs.Pieces.{Piece}
use Rattle.writing.specs.Write.{power_word, occupancy_word, crossing_word, aggregate_word, override_word, sun_word, hcl_word, property_word, comparison_sign, event_pieces}
use Rattle.writing.specs.Possible.{possible_event}
use Rattle.rereading.proofs.Stands.{token_of, Stands}
use Rattle.rereading.proofs.StandsLaws.{head, rest, token-read, word_read}

module _ {t : ℕ → Tok} where
  pub power-read : (x : Power) {i j : ℕ} → Stands t i (Piece.word (power_word x) ∷ []) j → OnOff t i x j
  power-read Power.On s = the_first (word_read s)
  power-read Power.Off s = the_second (word_read s)

  pub occupancy-read : (x : Occupancy) {i j : ℕ} → Stands t i (Piece.word (occupancy_word x) ∷ []) j → OccupiedVacant t i x j
  occupancy-read Occupancy.Occupied s = the_first (word_read s)
  occupancy-read Occupancy.Vacant s = the_second (word_read s)

  pub crossing-read : (x : Crossing) {i j : ℕ} → Stands t i (Piece.word (crossing_word x) ∷ []) j → AboveBelow t i x j
  crossing-read Crossing.Above s = the_first (word_read s)
  crossing-read Crossing.Below s = the_second (word_read s)

  pub aggregate-read : (x : Aggregate) {i j : ℕ} → Stands t i (Piece.word (aggregate_word x) ∷ []) j → AnyOnAllOff t i x j
  aggregate-read Aggregate.AnyOn s = the_first (word_read s)
  aggregate-read Aggregate.AllOff s = the_second (word_read s)

  pub override_read : (x : Override) {i j : ℕ} → Stands t i (Piece.word (override_word x) ∷ []) j → StartsClears t i x j
  override_read Override.Starts s = the_first (word_read s)
  override_read Override.Clears s = the_second (word_read s)

  pub sun-read : (x : Sun) {i j : ℕ} → Stands t i (Piece.word (sun_word x) ∷ []) j → UpDown t i x j
  sun-read Sun.Up s = the_first (word_read s)
  sun-read Sun.Down s = the_second (word_read s)

  pub hcl-read : (x : Hcl) {i j : ℕ} → Stands t i (Piece.word (hcl_word x) ∷ []) j → EnabledOverridden t i x j
  hcl-read Hcl.Enabled s = the_first (word_read s)
  hcl-read Hcl.Overridden s = the_second (word_read s)

  pub property-read : (x : LampProperty) {i j : ℕ} → Stands t i (Piece.word (property_word x) ∷ []) j → LevelCct t i x j
  property-read LampProperty.Level s = the_first (word_read s)
  property-read LampProperty.Cct s = the_second (word_read s)

  pub comparison-read : (x : Comparison) {i j : ℕ} → Stands t i (Piece.sign (comparison_sign x) ∷ []) j → Compared t i x j
  unfolding token_of
  comparison-read Comparison.Eq s = eq (token-read s)
  comparison-read Comparison.Ne s = ne (token-read s)
  comparison-read Comparison.Ge s = ge (token-read s)
  comparison-read Comparison.Le s = le (token-read s)
  comparison-read Comparison.Gt s = gt (token-read s)
  comparison-read Comparison.Lt s = lt (token-read s)

  pub event-read : (x : Event) {i j : ℕ} → possible_event x ≡ true → Stands t i (event_pieces x) j → EventOf t i x j
  unfolding possible_event event_pieces split token_of
  event-read Event.Press p s = press (word_read s)
  event-read Event.Release p s = release (word_read s)
  event-read Event.ShortPress p s = short_press (word_read s)
  event-read Event.DoublePress p s = double_press (word_read s)
  event-read Event.LongPressStart p s = long_press_start (word_read s)
  event-read Event.LongPressRepeat p s = long_press_repeat (word_read s)
  event-read Event.LongPressStop p s = long_press_stop (word_read s)
  event-read Event.ButtonFree p s = button_free (word_read s)
  event-read Event.ButtonStuck p s = button_stuck (word_read s)
  event-read Event.Movement p s = movement (word_read s)
  event-read Event.NoMovement p s = no_movement (word_read s)
  event-read Event.AnyEvent p s = any_event (word_read s)
  event-read (Event.Raw n) p s =
      let behind = rest (rest (rest s)) in
      raw (word_read (head s)) (token-read (head (rest s))) (word_read (head (rest (rest s)))) (token-read (head behind))
      (up_to (token-read (head (rest behind))) (leb-true _ _ p)) (token-read (rest (rest behind)))
