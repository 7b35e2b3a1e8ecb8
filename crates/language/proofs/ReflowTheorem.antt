-- Document 02, §14, of the two sections, the whole rule and whole calls (specs/Reflow.antt): layout changes nothing.
use Rattle.std.specs.Prelude.{Option, None, Some}
use Prim.Native.Nat.{ℕ, zero, suc, ◌+◌, ◌≤◌}
use native.Mathlib.Omega.{arith}
use native.Mathlib.Decide.{dec_le}
use mathlib.Core.Path.{◌≡◌, ◌∙◌, refl, sym, ap, subst, fun_ext}
use mathlib.Core.Bool.{Bool, true, false}
use mathlib.Core.List.{List, [], ◌∷◌, ◌++◌, map}
use lib.ListN.{length}
use lib.Dec.{eqb, ltb}
use borrow.Author.Tests.{le-ltb}
use Rattle.text.specs.Choice.{pick}
use Rattle.text.specs.Literal.{ascii}
use Rattle.tokens.specs.Kind.{STRING}
use Rattle.tokens.specs.Record.{capacity, word_at, kind_at, number_at, bytes_at}
use Rattle.tokens.specs.Result.{Res, ok, no}
use Rattle.tokens.specs.Cursor.{Tok, bytes_of, tokens, is_word}
use Rattle.tokens.specs.Lexing.{most_bytes, least_words}
use Rattle.tokens.specs.Lex.{lex_text}
use Rattle.tokens.specs.Ended.{record_words}
use Rattle.tokens.proofs.BufferLaws.{records-count}
use Rattle.sheet.specs.Sheet.{Sheet, well_formed, bad_line_rule, sheet_check}
use Rattle.sheet.specs.View.{View, seen, own_primary}
use Rattle.sheet.specs.declared.Call.{Call}
use Rattle.topics.specs.Topics.{fits}
use Rattle.topics.specs.Ranges.{topic_by, name_in}
use Rattle.model.specs.Lists.{refused_with}
use Rattle.model.specs.declared.Name.{Name}
use Rattle.model.specs.declared.Trigger.{Trigger}
use Rattle.model.specs.declared.Trigger.TheVariants.{InputEvent, InputOccupancy, InputLightCross, InputPositionChange, InputDevicePowerCycled, InputDeviceManualConfigChanged, AtTime, AtSolar, Every, LampTurns, LampLevelCross, GroupBecomes, SceneRecalled, DeviceOnline, HclOverride, TimerFires, ControllerStarts, ControllerBecomesActive, RuleFails, HttpTrigger, MqttMessage}
use Rattle.model.specs.declared.Condition.{Condition}
use Rattle.language.specs.Limits.{most_triggers, most_ands}
use Rattle.language.specs.Range.{range_of}
use Rattle.language.specs.Topics.{topic_name, topic_of}
use Rattle.language.specs.Condition.{condition_at}
use Rattle.language.specs.Section.{repeated, trigger_named, when_section, if_section, Lists, at_end, rule_at}
use Rattle.language.specs.Read.{parsed, topics_with, rule_in, on_accepted, anywhere, rule_of, by_primary, by_text, by_sheet, read_of}
use Rattle.language.specs.Same.{trigger_parts, Shown, shown_trigger, shown_condition}
use Rattle.language.specs.Reflow.{SameTokens, SameAnswer, accepted, at_token, at_place, LayoutChangesNothing}
use Rattle.language.proofs.AskedLaws.{lexed-complete}
use Rattle.language.proofs.Theorem.{passes}
use Rattle.language.proofs.SameLaws.{Alike, alike-ok, alike-no, alike-bind, alike-pick, alike-perhaps}
use Rattle.language.proofs.ReflowLaws.{trigger-alike, condition-alike}

-- ---- topics: the bytes of a trigger's topic are among those of its names

abbrev by_topic : Option Name → List (List ℕ) → List (List ℕ)
by_topic None names = []
by_topic (Some name) names = names

abbrev topic_shown : Shown Trigger → List (List ℕ)
topic_shown p = by_topic (topic_name p.bare) p.names

topic_shown_lem : (text : List ℕ) (x : Trigger) → topic_of (name_in text) x ≡ topic_shown (shown_trigger text x)
unfolding topic_of topic_by topic_name shown_trigger trigger_parts
topic_shown_lem text (InputEvent s event) = refl
topic_shown_lem text (InputOccupancy r state) = refl
topic_shown_lem text (InputLightCross r way light) = refl
topic_shown_lem text (InputPositionChange r) = refl
topic_shown_lem text (InputDevicePowerCycled r) = refl
topic_shown_lem text (InputDeviceManualConfigChanged r) = refl
topic_shown_lem text (AtTime m days) = refl
topic_shown_lem text (AtSolar event offset days) = refl
topic_shown_lem text (Every ms) = refl
topic_shown_lem text (LampTurns r power) = refl
topic_shown_lem text (LampLevelCross r way level) = refl
topic_shown_lem text (GroupBecomes r state) = refl
topic_shown_lem text (SceneRecalled adapter scene) = refl
topic_shown_lem text (DeviceOnline r change) = refl
topic_shown_lem text (HclOverride target change) = refl
topic_shown_lem text (TimerFires n) = refl
topic_shown_lem text ControllerStarts = refl
topic_shown_lem text ControllerBecomesActive = refl
topic_shown_lem text (RuleFails n) = refl
topic_shown_lem text HttpTrigger = refl
topic_shown_lem text (MqttMessage n) = refl

-- triggers that are the same by bytes name the same topic
pub same-topic : (a b : List ℕ) (x y : Trigger) → shown_trigger a x ≡ shown_trigger b y → topic_of (name_in a) x ≡ topic_of (name_in b) y
same-topic a b x y e = topic_shown_lem a x ∙ ap topic_shown e ∙ sym (topic_shown_lem b y)

-- ---- a list of forms

cons_same : {A B C : Type 0} (f : A → C) (g : B → C) {x : A} {y : B} (xs : List A) (ys : List B) → f x ≡ g y → map f xs ≡ map g ys →
    f x ∷ map f xs ≡ g y ∷ map g ys
cons_same f g xs ys e d = rw (e, d)

module _ {S A B C : Type 0} (f : A → C) (g : B → C) (t : ℕ → Tok) (word : List ℕ) (number : ℕ) (p : S → ℕ → Res A) (q : S → ℕ → Res B) (after : S → A → S) (next : S → B → S)
    (form : (s : S) (i : ℕ) → Alike f g (p s i) (q s i)) (state : (s : S) (x : A) (y : B) → f x ≡ g y → after s x ≡ next s y) where
  repeated-alike : (most : ℕ) (s : S) (i : ℕ) →
      Alike (map f) (map g) (repeated t word number p after s most i) (repeated t word number q next s most i)
  unfolding repeated
  repeated-alike zero s i =
      alike-perhaps (map f) (map g) (is_word t word i) i _ _ _ _ (alike-no (map f) (map g) _) (alike-ok (map f) (map g) [] [] i refl)
  repeated-alike (suc most) s i =
      alike-perhaps (map f) (map g) (is_word t word i) i _ _ _ _
      (alike-bind f g (map f) (map g) _ _ _ _ (form s (i + 1))
      (λ x y k e.
      alike-bind (map f) (map g) (map f) (map g) _ _ _ _
      (subst (λ (z : S). Alike (map f) (map g) (repeated t word number p after (after s x) most k) (repeated t word number q next z most k)) (state s x y e)
      (repeated-alike most (after s x) k))
      (λ xs ys l d. alike-ok (map f) (map g) (x ∷ xs) (y ∷ ys) l (cons_same f g xs ys e d))))
      (alike-ok (map f) (map g) [] [] i refl)

-- ---- the rule

abbrev shown_lists : List ℕ → Lists → List (Shown Trigger) × List (Shown Condition)
shown_lists text lists = (map (shown_trigger text) lists.triggers, map (shown_condition text) lists.conditions)

pair_same : {A B : Type 0} {x y : A} {u v : B} → x ≡ y → u ≡ v → ◌≡◌ {A = A × B} (x, u) (y, v)
pair_same e f = rw (e, f)

module _ (t : ℕ → Tok) (view : View) (fuel : ℕ) (a b : List ℕ) (lent : List (List ℕ)) (r s : ℕ → Name)
    (strings : (n : ℕ) → (t n).kind ≡ STRING → name_in a (r n) ≡ name_in b (s n)) where
  named-alike : (named : List (List ℕ)) (i : ℕ) →
      Alike (shown_trigger a) (shown_trigger b) (trigger_named t view r (topics_with a lent) fuel named i) (trigger_named t view s (topics_with b lent) fuel named i)
  unfolding trigger_named
  named-alike named i =
      let f = shown_trigger a in
      let g = shown_trigger b in
      alike-bind f g f g _ _ _ _ (trigger-alike t view fuel a b r s strings i)
      (λ x y j e.
      rw (same-topic a b x y e)
      (alike-pick f g (fits lent named (topic_of (name_in b) y)) _ _ _ _ (alike-ok f g x y j e) (alike-no f g _)))

  when-alike : (i : ℕ) →
      Alike (map (shown_trigger a)) (map (shown_trigger b)) (when_section t view r (topics_with a lent) fuel i) (when_section t view s (topics_with b lent) fuel i)
  unfolding when_section
  when-alike i =
      let f = map (shown_trigger a) in
      let g = map (shown_trigger b) in
      alike-pick f g (is_word t (ascii "when") i) _ _ _ _
      (repeated-alike (shown_trigger a) (shown_trigger b) t (ascii "when") 37 _ _ _ _ named-alike
      (λ named x y e. ap (λ (z : List (List ℕ)). named ++ z) (same-topic a b x y e)) most_triggers [] i)
      (alike-no f g _)

  if_alike : (i : ℕ) → Alike (map (shown_condition a)) (map (shown_condition b)) (if_section t view r fuel i) (if_section t view s fuel i)
  unfolding if_section
  if_alike i =
      let f = shown_condition a in
      let g = shown_condition b in
      let form : (u : Unit {0}) (j : ℕ) → Alike f g (condition_at t view r fuel j) (condition_at t view s fuel j) =
      λ u j. condition-alike t view fuel a b r s strings j in
      alike-perhaps (map f) (map g) (is_word t (ascii "if") i) i _ _ _ _
      (alike-bind f g (map f) (map g) _ _ _ _ (condition-alike t view fuel a b r s strings (i + 1))
      (λ x y k e.
      alike-bind (map f) (map g) (map f) (map g) _ _ _ _
      (repeated-alike f g t (ascii "and") 39 (λ u. condition_at t view r fuel) (λ u. condition_at t view s fuel) (λ u z. u) (λ u z. u) form (λ u v w d. refl) most_ands tt k)
      (λ xs ys l d. alike-ok (map f) (map g) (x ∷ xs) (y ∷ ys) l (cons_same f g xs ys e d))))
      (alike-ok (map f) (map g) [] [] i refl)

  rule-alike : Alike (shown_lists a) (shown_lists b) (rule_at t view r (topics_with a lent) fuel) (rule_at t view s (topics_with b lent) fuel)
  unfolding rule_at at_end
  rule-alike =
      let f = shown_lists a in
      let g = shown_lists b in
      alike-bind (map (shown_trigger a)) (map (shown_trigger b)) f g _ _ _ _ (when-alike 0)
      (λ xs us i e.
      alike-bind (map (shown_condition a)) (map (shown_condition b)) f g _ _ _ _ (if_alike i)
      (λ ys vs j d.
      alike-pick f g (eqb (t j).kind 0) _ _ _ _
      (alike-ok f g (record { triggers = xs; conditions = ys }) (record { triggers = us; conditions = vs }) j (pair_same e d)) (alike-no f g _)))

-- judged on an accepted reading
accepted-alike : {C : Type 0} (f g : Lists → C) (m n : Res Lists) (p r : Res Lists) → Alike f g m p → Alike f g n r →
    Alike f g (on_accepted m n) (on_accepted p r)
unfolding on_accepted Alike
accepted-alike f g (ok x i) n (ok y j) r h k = k
accepted-alike f g (ok x i) n (no y) r h k = absurd h
accepted-alike f g (no x) n (ok y j) r h k = absurd h
accepted-alike f g (no x) n (no y) r h k = h

-- ---- whole calls

-- past the records there is nothing to see of a token
none_seen : (text words : List ℕ) (i : ℕ) → capacity words ≤ i → tokens text words i ≡ record { kind = 0; number = 0; bytes = [] }
unfolding tokens bytes_of kind_at number_at word_at
none_seen text words i h = rw (le-ltb i (capacity words) h)

-- a string's name has its bytes
pub string_bytes : (text words : List ℕ) (n : ℕ) → (tokens text words n).kind ≡ STRING → name_in text (range_of words n) ≡ (tokens text words n).bytes
unfolding tokens bytes_of name_in range_of bytes_at
string_bytes text words n e = rw e

module _ {a b : List ℕ} (same : SameTokens a b) where
  abbrev wa : List ℕ
  wa = record_words (lex_text a)

  abbrev wb : List ℕ
  wb = record_words (lex_text b)

  first_count : capacity wa ≡ same.count
  first_count = records-count same.first.finished

  second-count : capacity wb ≡ same.count
  second-count = records-count same.second.finished

  all_alike : tokens a wa ≡ tokens b wb
  all_alike = fun_ext (λ i. by i (dec_le same.count i))
    where
      by : (i : ℕ) → Dec (same.count ≤ i) → tokens a wa i ≡ tokens b wb i
      by i (yes h) = none_seen a wa i (rw first_count h) ∙ sym (none_seen b wb i (rw second-count h))
      by i (Dec.no h) = same.alike i (omega arith)

  strings-alike : (n : ℕ) → (tokens a wa n).kind ≡ STRING → name_in a (range_of wa n) ≡ name_in b (range_of wb n)
  strings-alike n e =
      let other = ap (λ (t : ℕ → Tok). t n) all_alike in
      string_bytes a wa n e ∙ ap (λ (x : Tok). x.bytes) other ∙ sym (string_bytes b wb n (sym (ap (λ (x : Tok). x.kind) other) ∙ e))

  rule_in-alike : (view : View) (lent : List (List ℕ)) → Alike (shown_lists a) (shown_lists b) (rule_in a wa view lent) (rule_in b wb view lent)
  rule_in-alike view lent =
      rw (← all_alike, second-count, ← first_count) (rule-alike (tokens a wa) view (capacity wa) a b lent (range_of wa) (range_of wb) strings-alike)

  rule_of-alike : (view : View) (lent : List (List ℕ)) → Alike (shown_lists a) (shown_lists b) (rule_of a wa view lent) (rule_of b wb view lent)
  unfolding rule_of
  rule_of-alike view lent = accepted-alike (shown_lists a) (shown_lists b) _ _ _ _ (rule_in-alike (anywhere view) lent) (rule_in-alike view lent)

  parsed-same : (m n : Res Lists) → Alike (shown_lists a) (shown_lists b) m n → SameAnswer a b (parsed (lex_text a) m) (parsed (lex_text b) n)
  unfolding parsed Alike
  parsed-same (ok x i) (ok y j) h = accepted _ _ _ _ (ap (λ p. p.0) h.0) (ap (λ p. p.1) h.0)
  parsed-same (ok x i) (no r) h = absurd h
  parsed-same (no r) (ok y j) h = absurd h
  parsed-same (no r) (no s) h =
      subst (λ z. SameAnswer a b (parsed (lex_text a) (no r)) (parsed (lex_text b) (no z))) h (at_token r.number r.token r.detail)

  module _ (call : Call) (sheet : List ℕ) (lent : List (List ℕ)) (v w : List ℕ) where
    own_same : (own : Bool) → SameAnswer a b (by_primary a (seen call sheet) lent v own).answer (by_primary b (seen call sheet) lent w own).answer
    unfolding by_primary
    own_same false = at_place 53 0 0 refl
    own_same true =
        rw (lexed-complete a (seen call sheet) lent (lex_text a) same.first.finished, lexed-complete b (seen call sheet) lent (lex_text b) same.second.finished)
        (parsed-same _ _ (rule_of-alike (seen call sheet) lent))

    sheet-same : (own : Bool) (x : Sheet) →
        SameAnswer a b (by_sheet a (seen call sheet) lent v own x).answer (by_sheet b (seen call sheet) lent w own x).answer
    unfolding by_sheet by_text
    sheet-same own (bad_line_rule n) = at_place 3 n 0 refl
    sheet-same own well_formed = rw (passes same.first.octets, passes same.second.octets) (own_same own)

    room-same : (small : Bool) →
        SameAnswer a b
        (pick small (record { answer = refused_with 2 0 0 0; buffer = v }) (by_sheet a (seen call sheet) lent v (own_primary call sheet) (sheet_check sheet))).answer
        (pick small (record { answer = refused_with 2 0 0 0; buffer = w }) (by_sheet b (seen call sheet) lent w (own_primary call sheet) (sheet_check sheet))).answer
    room-same true = at_place 2 0 0 refl
    room-same false = sheet-same (own_primary call sheet) (sheet_check sheet)

-- layout changes nothing, in every call
pub layout-changes-nothing : LayoutChangesNothing
unfolding read_of
layout-changes-nothing call a b sheet lent v w same size =
    rw (le-ltb most_bytes (length a) same.first.short, le-ltb most_bytes (length b) same.second.short, ← size)
    (room-same same call sheet lent v w (ltb (length v) least_words))
