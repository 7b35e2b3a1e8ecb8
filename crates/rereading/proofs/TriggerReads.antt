-- Triggers as they are written are read as the same triggers, names by bytes, form by form in the order of the model.
use Prim.Native.Nat.{ℕ}
use mathlib.Core.Path.{◌≡◌, refl}
use mathlib.Core.Bool.{true}
use mathlib.Core.List.{List}
use lib.Dec.{leb}
use borrow.Author.Tests.{leb-true, eqb-true}
use Rattle.text.specs.Literal.{ascii}
use Rattle.text.specs.Split.{split}
use Rattle.text.proofs.Tests.{both}
use Rattle.tokens.specs.Cursor.{Tok}
use Rattle.tokens.specs.Kind.{STRING}
use Rattle.tokens.specs.Grammar.{up_to}
use Rattle.topics.specs.Ranges.{name_in}
use Rattle.sheet.specs.View.{View}
use Rattle.model.specs.Limits.{last_adapter, last_short_address}
use Rattle.model.specs.declared.Name.{Name}
use Rattle.model.specs.declared.Online.{Online}
use Rattle.model.specs.declared.TimeBound.{TimeBound}
use Rattle.model.specs.declared.Trigger.{Trigger}
use Rattle.language.specs.Limits.{least_period, most_later, most_earlier}
use Rattle.language.specs.Same.{no_name, Shown, shown_trigger, trigger_parts}
use Rattle.language.specs.grammar.Timeval.{clock}
use Rattle.language.specs.grammar.Trigger.{TriggerOf, timer_fires, rule_fails, controller_starts, controller_becomes_active, http_trigger_rule, mqtt_message, every, at_time, at_solar, scene_recalled, goes_offline, comes_online, group_becomes, hcl_override, lamp_turns, lamp_level_cross, power_cycled, manual_config_changed, input_event_rule, input_occupancy, input_light_cross, input_position_change}
use Rattle.language.proofs.ReflowLaws.{one_name}
use Rattle.language.proofs.TopicLaws.{topic-sound}
use Rattle.writing.specs.Pieces.{words}
use Rattle.writing.specs.Write.{adapter_pieces, ref_pieces, device_pieces, instance_pieces, selector_pieces, input_pieces, name_pieces, bound_pieces, trigger_pieces}
use Rattle.writing.specs.Possible.{is_signed_up_to, possible_ref, possible_input, possible_selector, possible_time, possible_bound, possible_name, possible_topic, possible_trigger}
use Rattle.writing.specs.Reached.{reached_trigger}
use Rattle.rereading.proofs.Stands.{token_of, Stands}
use Rattle.rereading.proofs.Read.{Read, read_as}
use Rattle.rereading.proofs.StandsLaws.{head, rest, parted, parted-first, token-read, word_read, bytes_read, phrase-read}
use Rattle.rereading.proofs.ReferenceReads.{clause-read, ref_read, device-read, target-read}
use Rattle.rereading.proofs.InputReads.{selector-read, input-read}
use Rattle.rereading.proofs.NameReads.{string-same, name-read}
use Rattle.rereading.proofs.ChoiceReads.{power-read, occupancy-read, crossing-read, aggregate-read, override_read, event-read}
use Rattle.rereading.proofs.DayReads.{on_read}
use Rattle.rereading.proofs.TimeReads.{bound-read}

-- a trigger of the grammar that is shown so
abbrev pub TriggerRead : (ℕ → Tok) → View → (ℕ → Name) → List ℕ → ℕ → Shown Trigger → ℕ → Type 0
TriggerRead t view range written i given j = Read (TriggerOf t view range) (shown_trigger written) i given j

module _ (t : ℕ → Tok) (view : View) (range : ℕ → Name) (written : List ℕ)
    (names : (i : ℕ) → (t i).kind ≡ STRING → name_in written (range i) ≡ (t i).bytes) (any : (i : ℕ) → view.allows i ≡ true) where
  pub trigger-read : (text : List ℕ) (x : Trigger) {i j : ℕ} → possible_trigger text x ≡ true → reached_trigger view x ≡ true →
      Stands t i (trigger_pieces view.primary (name_in text) x) j → TriggerRead t view range written i (shown_trigger text x) j
  unfolding possible_trigger reached_trigger trigger_pieces input_pieces shown_trigger trigger_parts split token_of possible_bound possible_topic
  trigger-read text (Trigger.InputEvent x event) p h s =
      let (possible, e) = both (possible_selector x) p in
      let (k, input, after) = parted (selector_pieces view.primary x) _ (rest s) in
      read_as _
      (input_event_rule (word_read (head s)) (selector-read any x possible h input) (word_read (head after)) (event-read event e (rest after)))
      refl
  trigger-read text (Trigger.InputOccupancy r state) p h s =
      let (k, input, after) = parted-first (instance_pieces view.primary r.device r.instance) _ _ (rest s) in
      read_as _ (input_occupancy (word_read (head s)) (input-read any r p h input) (word_read (head after)) (occupancy-read state (rest after))) refl
  trigger-read text (Trigger.InputLightCross r way n) p h s =
      let (possible, few) = both (possible_input r) p in
      let (k, input, after) = parted-first (instance_pieces view.primary r.device r.instance) _ _ (rest s) in
      let behind = rest (rest after) in
      read_as _
      (input_light_cross (word_read (head s)) (input-read any r possible h input) (token-read (head after)) (word_read (head (rest after)))
      (phrase-read _ (head behind)) (crossing-read way (head (rest behind))) (up_to (token-read (rest (rest behind))) (leb-true _ _ few)))
      refl
  trigger-read text (Trigger.InputPositionChange r) p h s =
      let (k, input, after) = parted (instance_pieces view.primary r.device r.instance) _ (rest s) in
      read_as _
      (input_position_change (word_read (head s)) (input-read any r p h input) (token-read (head after)) (word_read (head (rest after)))
      (word_read (rest (rest after))))
      refl
  trigger-read text (Trigger.InputDevicePowerCycled r) p h s =
      let (k, device, after) = parted (device_pieces view.primary r) _ (rest (rest s)) in
      read_as _ (power_cycled (word_read (head s)) (word_read (head (rest s))) (device-read any r p h device) (phrase-read _ after)) refl
  trigger-read text (Trigger.InputDeviceManualConfigChanged r) p h s =
      let (k, device, after) = parted (device_pieces view.primary r) _ (rest (rest s)) in
      read_as _ (manual_config_changed (word_read (head s)) (word_read (head (rest s))) (device-read any r p h device) (phrase-read _ after)) refl
  trigger-read text (Trigger.AtTime m days) p h s =
      let (time, possible) = both (possible_time m) p in
      read_as _ (at_time (word_read (head s)) (clock (token-read (head (rest s)))) (on_read days possible (rest (rest s)))) refl
  trigger-read text (Trigger.AtSolar event offset days) p h s =
      let (in_range, possible) = both (is_signed_up_to most_later most_earlier offset) p in
      let (k, bound, after) = parted (bound_pieces (TimeBound.Solar event offset)) _ (rest s) in
      read_as _ (at_solar (word_read (head s)) (bound-read (TimeBound.Solar event offset) in_range bound) (on_read days possible after)) refl
  trigger-read text (Trigger.Every ms) p h s =
      let (least, most) = both (leb least_period ms) p in
      read_as _ (every (word_read (head s)) (token-read (rest s)) (leb-true _ _ least)) refl
  trigger-read text (Trigger.LampTurns r to) p h s =
      let (k, ref, after) = parted (ref_pieces view.primary r) _ (rest s) in
      read_as _ (lamp_turns (word_read (head s)) (ref_read any _ _ r p h ref) (word_read (head after)) (power-read to (rest after))) refl
  trigger-read text (Trigger.LampLevelCross r way n) p h s =
      let (possible, few) = both (possible_ref last_short_address r) p in
      let (k, ref, after) = parted-first (ref_pieces view.primary r) _ _ (rest s) in
      let (l, phrase, last) = parted (words (ascii "level crosses")) _ (rest after) in
      read_as _
      (lamp_level_cross (word_read (head s)) (ref_read any _ _ r possible h ref) (token-read (head after)) (phrase-read _ phrase)
      (crossing-read way (head last)) (up_to (token-read (rest last)) (leb-true _ _ few)))
      refl
  trigger-read text (Trigger.GroupBecomes r state) p h s =
      let (k, ref, after) = parted (ref_pieces view.primary r) _ (rest s) in
      read_as _
      (group_becomes (word_read (head s)) (ref_read any _ _ r p h ref) (phrase-read _ (head after)) (aggregate-read state (rest after)))
      refl
  trigger-read text (Trigger.SceneRecalled adapter scene) p h s =
      let (listed, few) = both (leb adapter last_adapter) p in
      let inside = rest (rest s) in
      let (k, behind, after) = parted (adapter_pieces view.primary adapter) _ (rest inside) in
      let scope = clause-read adapter (leb-true _ _ listed) h behind in
      read_as _
      (scene_recalled (word_read (head s)) (token-read (head (rest s))) (up_to (token-read (head inside)) (leb-true _ _ few)) scope.reads
      (token-read (head after)) (word_read (rest after)) scope.comes_to)
      refl
  trigger-read text (Trigger.DeviceOnline r Online.GoesOffline) p h s =
      let (k, ref, after) = parted (ref_pieces view.primary r) _ (rest s) in
      read_as _ (goes_offline (word_read (head s)) (ref_read any _ _ r p h ref) (phrase-read _ after)) refl
  trigger-read text (Trigger.DeviceOnline r Online.ComesOnline) p h s =
      let (k, ref, after) = parted (ref_pieces view.primary r) _ (rest s) in
      read_as _ (comes_online (word_read (head s)) (ref_read any _ _ r p h ref) (phrase-read _ after)) refl
  trigger-read text (Trigger.HclOverride to change) p h s =
      let behind = rest (rest s) in
      read_as _
      (hcl_override (word_read (head s)) (phrase-read _ (head (rest s))) (override_read change (head behind)) (word_read (head (rest behind)))
      (target-read any to p h (rest (rest behind))))
      refl
  trigger-read text (Trigger.TimerFires n) p h s =
      let (k, name, after) = parted (name_pieces (name_in text) n) _ (rest s) in
      let q = name-read t range written names text n p name in
      read_as _ (timer_fires (word_read (head s)) q.reads (phrase-read _ after)) (one_name (Trigger.TimerFires no_name) q.same)
  trigger-read text Trigger.ControllerStarts p h s = read_as _ (controller_starts (word_read (head s)) (phrase-read _ (rest s))) refl
  trigger-read text Trigger.ControllerBecomesActive p h s =
      read_as _ (controller_becomes_active (word_read (head s)) (phrase-read _ (rest s))) refl
  trigger-read text (Trigger.RuleFails n) p h s =
      let (k, name, after) = parted (name_pieces (name_in text) n) _ (rest s) in
      let q = name-read t range written names text n p name in
      read_as _ (rule_fails (word_read (head s)) q.reads (phrase-read _ after)) (one_name (Trigger.RuleFails no_name) q.same)
  trigger-read text Trigger.HttpTrigger p h s = read_as _ (http_trigger_rule (word_read (head s)) (word_read (rest s))) refl
  trigger-read text (Trigger.MqttMessage n) p h s =
      let (name, judged) = both (possible_name text n) p in
      let topic = topic-sound (name_in text n) (eqb-true _ 0 judged) in
      read_as _ (mqtt_message (word_read (head s)) (token-read (rest s)) (rw (bytes_read (rest s)) topic))
      (one_name (Trigger.MqttMessage no_name) (string-same t range written names (rest s)))
