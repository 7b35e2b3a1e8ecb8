-- Conditions as they are written are read as the same conditions, names by bytes, form by form in the order of the model.
use Prim.Native.Nat.{ℕ}
use mathlib.Core.Path.{◌≡◌, refl}
use mathlib.Core.Bool.{true}
use mathlib.Core.List.{List}
use Rattle.text.specs.Literal.{ascii}
use Rattle.text.specs.Split.{split}
use Rattle.text.proofs.Tests.{both}
use Rattle.tokens.specs.Cursor.{Tok}
use Rattle.tokens.specs.Kind.{STRING}
use Rattle.topics.specs.Ranges.{name_in}
use Rattle.sheet.specs.View.{View}
use Rattle.model.specs.Limits.{last_short_address}
use Rattle.model.specs.declared.Condition.{Condition}
use Rattle.model.specs.declared.Name.{Name}
use Rattle.language.specs.Same.{no_name, Shown, shown_condition, condition_parts}
use Rattle.language.specs.grammar.Condition.{ConditionOf, controller_active, timer_running, rule_enabled, last_fired, device_online, sun_is, time_in, day_in, group_state, hcl_state, lamp_is, lamp_compare, input_occupancy, input_light, var_compare}
use Rattle.language.proofs.ReflowLaws.{one_name, lamp-shown, light-shown, var-shown}
use Rattle.writing.specs.Pieces.{words}
use Rattle.writing.specs.Write.{ref_pieces, instance_pieces, input_pieces, name_pieces, bound_pieces, condition_pieces}
use Rattle.writing.specs.Possible.{possible_ref, possible_input, possible_bound, possible_name, possible_condition}
use Rattle.writing.specs.Reached.{is_reached, reached_condition}
use Rattle.rereading.proofs.Stands.{token_of, Stands}
use Rattle.rereading.proofs.Read.{Read, read_as}
use Rattle.rereading.proofs.StandsLaws.{head, rest, parted, parted-first, token-read, word_read, phrase-read}
use Rattle.rereading.proofs.ReferenceReads.{ref_read, target-read}
use Rattle.rereading.proofs.InputReads.{input-read}
use Rattle.rereading.proofs.NameReads.{name-read}
use Rattle.rereading.proofs.ChoiceReads.{power-read, occupancy-read, crossing-read, aggregate-read, sun-read, hcl-read, property-read, comparison-read}
use Rattle.rereading.proofs.DayReads.{days-read}
use Rattle.rereading.proofs.TimeReads.{bound-read}
use Rattle.rereading.proofs.ValueReads.{value_read, operand_read}

-- a condition of the grammar that is shown so
abbrev pub ConditionRead : (ℕ → Tok) → View → (ℕ → Name) → List ℕ → ℕ → Shown Condition → ℕ → Type 0
ConditionRead t view range written i given j = Read (ConditionOf t view range) (shown_condition written) i given j

module _ (t : ℕ → Tok) (view : View) (range : ℕ → Name) (written : List ℕ)
    (names : (i : ℕ) → (t i).kind ≡ STRING → name_in written (range i) ≡ (t i).bytes) (any : (i : ℕ) → view.allows i ≡ true) where
  pub condition-read : (text : List ℕ) (x : Condition) {i j : ℕ} → possible_condition text x ≡ true → reached_condition view x ≡ true →
      Stands t i (condition_pieces view.primary (name_in text) x) j → ConditionRead t view range written i (shown_condition text x) j
  unfolding possible_condition reached_condition condition_pieces input_pieces shown_condition condition_parts split token_of
  condition-read text (Condition.TimeInRange from to) p h s =
      let (first, second) = both (possible_bound from) p in
      let (k, bound, after) = parted (bound_pieces from) _ (rest (rest s)) in
      read_as _
      (time_in (word_read (head s)) (word_read (head (rest s))) (bound-read from first bound) (token-read (head after))
      (bound-read to second (rest after)))
      refl
  condition-read text (Condition.SunIs state) p h s =
      read_as _ (sun_is (word_read (head s)) (phrase-read _ (head (rest s))) (sun-read state (rest (rest s)))) refl
  condition-read text (Condition.LampIs r state) p h s =
      let (k, ref, after) = parted (ref_pieces view.primary r) _ (rest s) in
      read_as _ (lamp_is (word_read (head s)) (ref_read any _ _ r p h ref) (word_read (head after)) (power-read state (rest after))) refl
  condition-read text (Condition.LampCompare r property c v) p h s =
      let (possible, value) = both (possible_ref last_short_address r) p in
      let (reached, inside) = both (is_reached view r.adapter) h in
      let (k, ref, after) = parted (ref_pieces view.primary r) _ (rest s) in
      let behind = rest (rest after) in
      let x = value_read t view range written names any text v value inside (rest behind) in
      read_as _
      (lamp_compare (word_read (head s)) (ref_read any _ _ r possible reached ref) (token-read (head after))
      (property-read property (head (rest after))) (comparison-read c (head behind)) x.reads)
      (lamp-shown written text r property c _ v x.same)
  condition-read text (Condition.GroupState r state) p h s =
      let (k, ref, after) = parted (ref_pieces view.primary r) _ (rest s) in
      read_as _ (group_state (word_read (head s)) (ref_read any _ _ r p h ref) (aggregate-read state after)) refl
  condition-read text (Condition.InputOccupancy r state) p h s =
      let (k, input, after) = parted (instance_pieces view.primary r.device r.instance) _ (rest s) in
      read_as _ (input_occupancy (word_read (head s)) (input-read any r p h input) (word_read (head after)) (occupancy-read state (rest after))) refl
  condition-read text (Condition.InputLight r way v) p h s =
      let (possible, value) = both (possible_input r) p in
      let (reached, inside) = both (is_reached view r.device.adapter) h in
      let (k, input, after) = parted (instance_pieces view.primary r.device r.instance) _ (rest s) in
      let behind = rest (rest after) in
      let x = value_read t view range written names any text v value inside (rest behind) in
      read_as _
      (input_light (word_read (head s)) (input-read any r possible reached input) (token-read (head after)) (phrase-read _ (head (rest after)))
      (crossing-read way (head behind)) x.reads)
      (light-shown written text r way _ v x.same)
  condition-read text (Condition.HclState to state) p h s =
      let behind = rest (rest s) in
      read_as _
      (hcl_state (word_read (head s)) (phrase-read _ (head (rest s))) (hcl-read state (head behind)) (word_read (head (rest behind)))
      (target-read any to p h (rest (rest behind))))
      refl
  condition-read text (Condition.DeviceOnline r) p h s =
      let (k, ref, after) = parted (ref_pieces view.primary r) _ (rest s) in
      read_as _ (device_online (word_read (head s)) (ref_read any _ _ r p h ref) (phrase-read _ after)) refl
  condition-read text (Condition.RuleEnabled n) p h s =
      let (k, name, after) = parted (name_pieces (name_in text) n) _ (rest s) in
      let q = name-read t range written names text n p name in
      read_as _ (rule_enabled (word_read (head s)) q.reads (phrase-read _ after)) (one_name (Condition.RuleEnabled no_name) q.same)
  condition-read text (Condition.LastFiredOlderThan n ms) p h s =
      let (possible, few) = both (possible_name text n) p in
      let (k, name, after) = parted-first (name_pieces (name_in text) n) _ _ (rest s) in
      let (l, phrase, last) = parted (words (ascii "older than")) _ after in
      let q = name-read t range written names text n possible name in
      read_as _ (last_fired (word_read (head s)) q.reads (phrase-read _ phrase) (token-read last))
      (one_name (Condition.LastFiredOlderThan no_name ms) q.same)
  condition-read text (Condition.TimerRunning n) p h s =
      let (k, name, after) = parted (name_pieces (name_in text) n) _ (rest s) in
      let q = name-read t range written names text n p name in
      read_as _ (timer_running (word_read (head s)) q.reads (phrase-read _ after)) (one_name (Condition.TimerRunning no_name) q.same)
  condition-read text Condition.ControllerActive p h s = read_as _ (controller_active (word_read (head s)) (phrase-read _ (rest s))) refl
  condition-read text (Condition.VarCompare n c v) p h s =
      let (possible, operand) = both (possible_name text n) p in
      let (k, name, after) = parted (name_pieces (name_in text) n) _ (rest s) in
      let q = name-read t range written names text n possible name in
      let x = operand_read t view range written names any text v operand h (rest after) in
      read_as _ (var_compare (word_read (head s)) q.reads (comparison-read c (head after)) x.reads)
      (var-shown written text _ n c _ v q.same x.same)
  condition-read text (Condition.DayIn days) p h s =
      read_as _ (day_in (word_read (head s)) (word_read (head (rest s))) (days-read days p (rest (rest s)))) refl
