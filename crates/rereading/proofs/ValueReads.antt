-- Readings and values as they are written are read as themselves, names by bytes.
use Rattle.std.specs.Prelude.{Option, Some, None}
use Prim.Native.Nat.{ℕ, ◌+◌}
use mathlib.Core.Path.{◌≡◌, refl, subst}
use mathlib.Core.Bool.{true}
use mathlib.Core.List.{List, [], ◌∷◌}
use lib.IntN.{ℤ, pos, negsuc}
use Rattle.text.proofs.Tests.{both}
use Rattle.tokens.specs.Cursor.{Tok}
use Rattle.tokens.specs.Kind.{STRING, INTEGER, MINUS}
use Rattle.topics.specs.Ranges.{name_in}
use Rattle.sheet.specs.View.{View}
use Rattle.model.specs.declared.EventReading.{EventReading}
use Rattle.model.specs.declared.GroupReading.{GroupReading}
use Rattle.model.specs.declared.InputReading.{InputReading}
use Rattle.model.specs.declared.LampReading.{LampReading}
use Rattle.model.specs.declared.Name.{Name}
use Rattle.model.specs.declared.Operand.{Operand}
use Rattle.model.specs.declared.Reading.{Reading}
use Rattle.model.specs.declared.SunReading.{SunReading}
use Rattle.model.specs.declared.TimeReading.{TimeReading}
use Rattle.model.specs.declared.Value.{Value}
use Rattle.language.specs.Same.{no_name, reading_parts, value_parts, operand_parts}
use Rattle.language.specs.grammar.Words.{Signed, plus, minus}
use Rattle.language.specs.grammar.Expr.{LampPropertyOf, level, cct, is_on_rule, last_level_rule, GroupProperty, any_on, all_off, member_count, InputProperty, occupied, light, position, last_event_age, TimeProperty, now, hour, minute, weekday, SunProperty, rise, set, is_up, EventProperty, event_value, event_device, event_instance, event_option, ReadingOf, of_lamp, of_group, of_input, of_time, of_sun, of_event, of_var, ValueOf, number, signed_number, reading, reading_with}
use Rattle.language.specs.grammar.Condition.{OperandOf, value}
use Rattle.language.proofs.ReflowLaws.{shown_reading, shown_value, shown_operand, one_name, reads-shown, number-shown}
use Rattle.writing.specs.Pieces.{Piece}
use Rattle.writing.specs.Write.{ref_pieces, instance_pieces, input_pieces, lamp_reading_word, group_reading_word, input_reading_word, time_reading_word, sun_reading_word, event_reading_word, literal_pieces, delta_pieces, reading_pieces, value_pieces, operand_pieces}
use Rattle.writing.specs.Possible.{possible_reading, possible_value, possible_operand}
use Rattle.writing.specs.Reached.{reached_reading, reached_value, reached_operand}
use Rattle.rereading.proofs.Stands.{token_of, Stands}
use Rattle.rereading.proofs.Read.{Read, read_as}
use Rattle.rereading.proofs.StandsLaws.{head, rest, parted, token-read, word_read, bytes_read}
use Rattle.rereading.proofs.ReferenceReads.{ref_read}
use Rattle.rereading.proofs.InputReads.{input-read}
use Rattle.rereading.proofs.NameReads.{string-sized, string-same, name-read}
use Rattle.rereading.proofs.TimeReads.{below-zero}

module _ {t : ℕ → Tok} where
  -- ---- the properties by their words

  lamp_property-read : (p : LampReading) {i j : ℕ} → Stands t i (Piece.word (lamp_reading_word p) ∷ []) j → LampPropertyOf t i p j
  lamp_property-read LampReading.Level s = level (word_read s)
  lamp_property-read LampReading.Cct s = cct (word_read s)
  lamp_property-read LampReading.IsOn s = is_on_rule (word_read s)
  lamp_property-read LampReading.LastLevel s = last_level_rule (word_read s)

  group_property-read : (p : GroupReading) {i j : ℕ} → Stands t i (Piece.word (group_reading_word p) ∷ []) j → GroupProperty t i p j
  group_property-read GroupReading.AnyOn s = any_on (word_read s)
  group_property-read GroupReading.AllOff s = all_off (word_read s)
  group_property-read GroupReading.MemberCount s = member_count (word_read s)

  input_property-read : (p : InputReading) {i j : ℕ} → Stands t i (Piece.word (input_reading_word p) ∷ []) j → InputProperty t i p j
  input_property-read InputReading.Occupied s = occupied (word_read s)
  input_property-read InputReading.Light s = light (word_read s)
  input_property-read InputReading.Position s = position (word_read s)
  input_property-read InputReading.LastEventAge s = last_event_age (word_read s)

  time_property-read : (p : TimeReading) {i j : ℕ} → Stands t i (Piece.word (time_reading_word p) ∷ []) j → TimeProperty t i p j
  time_property-read TimeReading.Now s = now (word_read s)
  time_property-read TimeReading.Hour s = hour (word_read s)
  time_property-read TimeReading.Minute s = minute (word_read s)
  time_property-read TimeReading.Weekday s = weekday (word_read s)

  sun_property-read : (p : SunReading) {i j : ℕ} → Stands t i (Piece.word (sun_reading_word p) ∷ []) j → SunProperty t i p j
  sun_property-read SunReading.Rise s = rise (word_read s)
  sun_property-read SunReading.Set s = set (word_read s)
  sun_property-read SunReading.IsUp s = is_up (word_read s)

  event_property-read : (p : EventReading) {i j : ℕ} → Stands t i (Piece.word (event_reading_word p) ∷ []) j → EventProperty t i p j
  event_property-read EventReading.Value s = event_value (word_read s)
  event_property-read EventReading.Device s = event_device (word_read s)
  event_property-read EventReading.Instance s = event_instance (word_read s)
  event_property-read EventReading.Option s = event_option (word_read s)

  -- ---- integers

  minus-read : (n : ℕ) {i j : ℕ} → Stands t i (Piece.sign MINUS ∷ Piece.integer (n + 1) ∷ []) j → Signed t INTEGER i (negsuc n) j
  unfolding token_of
  minus-read n {i} {j} s = subst (λ (z : ℤ). Signed t INTEGER i z j) (below-zero n) (minus (token-read (head s)) (token-read (rest s)))

module _ (t : ℕ → Tok) (view : View) (range : ℕ → Name) (written : List ℕ)
    (names : (i : ℕ) → (t i).kind ≡ STRING → name_in written (range i) ≡ (t i).bytes) (any : (i : ℕ) → view.allows i ≡ true) (text : List ℕ) where
  abbrev ReadingRead : ℕ → Reading → ℕ → Type 0
  ReadingRead i x j = Read (ReadingOf t view range) (shown_reading written) i (shown_reading text x) j

  abbrev pub ValueRead : ℕ → Value → ℕ → Type 0
  ValueRead i x j = Read (ValueOf t view range) (shown_value written) i (shown_value text x) j

  abbrev pub OperandRead : ℕ → Operand → ℕ → Type 0
  OperandRead i x j = Read (OperandOf t view range) (shown_operand written) i (shown_operand text x) j

  reading-read : (x : Reading) {i j : ℕ} → possible_reading text x ≡ true → reached_reading view x ≡ true →
      Stands t i (reading_pieces view.primary (name_in text) x) j → ReadingRead i x j
  unfolding possible_reading reached_reading reading_pieces input_pieces reading_parts token_of
  reading-read (Reading.Lamp r p) e h s =
      let (k, ref, behind) = parted (ref_pieces view.primary r) _ (rest s) in
      read_as _ (of_lamp (word_read (head s)) (ref_read any _ _ r e h ref) (token-read (head behind)) (lamp_property-read p (rest behind))) refl
  reading-read (Reading.Group r p) e h s =
      let (k, ref, behind) = parted (ref_pieces view.primary r) _ (rest s) in
      read_as _ (of_group (word_read (head s)) (ref_read any _ _ r e h ref) (token-read (head behind)) (group_property-read p (rest behind))) refl
  reading-read (Reading.Input r p) e h s =
      let (k, input, behind) = parted (instance_pieces view.primary r.device r.instance) _ (rest s) in
      read_as _ (of_input (word_read (head s)) (input-read any r e h input) (token-read (head behind)) (input_property-read p (rest behind))) refl
  reading-read (Reading.Time p) e h s =
      read_as _ (of_time (word_read (head s)) (token-read (head (rest s))) (time_property-read p (rest (rest s)))) refl
  reading-read (Reading.Sun p) e h s =
      read_as _ (of_sun (word_read (head s)) (token-read (head (rest s))) (sun_property-read p (rest (rest s)))) refl
  reading-read (Reading.Event p) e h s =
      read_as _ (of_event (word_read (head s)) (any _) (token-read (head (rest s))) (event_property-read p (rest (rest s)))) refl
  reading-read (Reading.Var n) e h s =
      let q = name-read t range written names text n e (rest s) in
      read_as _ (of_var (word_read (head s)) q.reads) (one_name (Reading.Var no_name) q.same)

  pub value_read : (x : Value) {i j : ℕ} → possible_value text x ≡ true → reached_value view x ≡ true →
      Stands t i (value_pieces view.primary (name_in text) x) j → ValueRead i x j
  unfolding possible_value reached_value value_pieces literal_pieces delta_pieces value_parts token_of
  value_read (Value.Literal (pos n)) e h s = read_as _ (number (token-read s)) refl
  value_read (Value.Literal (negsuc n)) e h s = read_as _ (signed_number (minus-read n s)) refl
  value_read (Value.Reads r delta) e h s =
      let (possible, within) = both (possible_reading text r) e in
      let (k, front, behind) = parted (reading_pieces view.primary (name_in text) r) _ s in
      delta-read delta (reading-read r possible h front) behind
    where
      delta-read : (d : Option ℤ) {i k j : ℕ} → ReadingRead i r k → Stands t k (delta_pieces d) j → ValueRead i (Value.Reads r d) j
      delta-read None x Stands.none = read_as _ (reading x.reads) (reads-shown written text _ r None x.same)
      delta-read (Some (pos n)) x s =
          read_as _ (reading_with x.reads (plus (token-read (head s)) (token-read (rest s)))) (reads-shown written text _ r _ x.same)
      delta-read (Some (negsuc n)) x s = read_as _ (reading_with x.reads (minus-read n s)) (reads-shown written text _ r _ x.same)

  pub operand_read : (x : Operand) {i j : ℕ} → possible_operand text x ≡ true → reached_operand view x ≡ true →
      Stands t i (operand_pieces view.primary (name_in text) x) j → OperandRead i x j
  unfolding possible_operand reached_operand operand_pieces operand_parts token_of
  operand_read (Operand.Text n) e h s =
      let (some, few) = string-sized text 0 _ n e in
      let bytes = bytes_read s in
      read_as _ (OperandOf.text (token-read s) (rw bytes few)) (one_name (Operand.Text no_name) (string-same t range written names s))
  operand_read (Operand.Number v) e h s = let x = value_read v e h s in read_as _ (value x.reads) (number-shown written text _ v x.same)
