-- The default call, the archive call and the shop's compared, from the forms up to the whole call. Document 02, §11: "By default a repeat is now turned
-- away; the archive loader keeps a call with the old habit, unchanged." Where the default call's answer is not 63, it is the archive call's, lists, place
-- and buffer. §9: "What the profile accepts is what the full reader accepts, less those forms, with equal lists."
use Prim.Native.Nat.{ℕ, zero, suc, ◌≤◌}
use native.Mathlib.Omega.{arith}
use mathlib.Core.Path.{◌≡◌, refl, ap, sym, ◌∙◌}
use mathlib.Core.Bool.{Bool, true, false≢true}
use mathlib.Core.List.{List, []}
use Rattle.text.specs.Literal.{ascii}
use Rattle.text.specs.Split.{split}
use Rattle.tokens.specs.Result.{Res, ok}
use Rattle.tokens.specs.Record.{capacity}
use Rattle.tokens.specs.Cursor.{Tok, tokens, is_word}
use Rattle.tokens.specs.Grammar.{Word, a_word}
use Rattle.tokens.specs.Phrase.{choice_at, words_in}
use Rattle.tokens.specs.Lexing.{Lexing}
use Rattle.tokens.specs.Lex.{lex_text, written_from}
use Rattle.tokens.specs.Ended.{record_words}
use Rattle.tokens.proofs.PhraseLaws.{choice-sound}
use Rattle.sheet.specs.View.{View, may_repeat, any_form, seen, own_primary}
use Rattle.sheet.specs.declared.Call.{Call}
use Rattle.sheet.specs.declared.resolve.Scope.{Scope}
use Rattle.references.specs.Refs.{scope_or_primary}
use Rattle.references.proofs.EndLaws.{Ends, ends-earlier, ends-after, ends}
use Rattle.references.proofs.HabitLaws.{Calls, seen_one, seen_other, event_at_rule, Compared, same, repeat, offends, Compares, compared_earlier, compared_after, compared_pick, compared_offence, compared-primary, compared_references}
use Rattle.model.specs.Lists.{refused_with}
use Rattle.model.specs.declared.Ref.{Ref}
use Rattle.model.specs.declared.Name.{Name}
use Rattle.model.specs.declared.Selector.{Selector}
use Rattle.model.specs.declared.Days.{Days}
use Rattle.days.specs.Read.{day_at, last_day, range_at, ranges_from, day_set, on_days}
use Rattle.model.specs.declared.Comparison.{Comparison}
use Rattle.model.specs.declared.Value.{Value}
use Rattle.model.specs.declared.Trigger.TheVariants.{SceneRecalled}
use Rattle.model.specs.declared.Condition.{Condition}
use Rattle.model.specs.declared.Answer.{Answer}
use Rattle.language.specs.Range.{range_of}
use Rattle.language.specs.Limits.{most_triggers}
use Rattle.language.specs.Words.{named_phrase, target_for, property_word}
use Rattle.language.specs.Timeval.{offset_bound, offset_at, with_offset, solar_at, time_bound}
use Rattle.language.specs.Expr.{lamp_reading, group_reading, input_reading, time_reading, sun_reading, event_reading, var_reading, reading_by, reading_at, literal_at, delta_at, with_delta, read_value, value_at}
use Rattle.language.specs.Trigger.{timer_trigger, rule_trigger, controller_trigger, http_trigger, topic_at, mqtt_trigger, every_trigger, at_bound, at_trigger, scene_closed, scene_trigger, device_trigger, group_trigger, hcl_trigger, level_cross, lamp_change, lamp_trigger, input_device_trigger, raw_data, raw_event, event_at, input_event, input_becomes, light_cross, position_change, property_trigger, point_trigger, input_change, input_trigger, trigger_by, trigger_at}
use Rattle.language.specs.Condition.{comparison_by, comparison_at, controller_condition, timer_condition, rule_condition, last_fired_condition, device_condition, sun_condition, time_to, time_condition, day_condition, group_condition, hcl_condition, lamp_judged, lamp_compared, lamp_point, lamp_state, lamp_condition, light_than, input_state, input_condition, text_operand, operand_at, var_compared, var_condition, condition_by, condition_at}
use Rattle.language.specs.Section.{Topics, Lists, repeated, trigger_named, when_section, if_section, at_end, rule_at}
use Rattle.language.specs.Read.{on_accepted, anywhere, rule_in, rule_of, topics_with, parsed, Outcome, read_of, rule_call, archive_call}
use Rattle.language.proofs.AskedLaws.{parsing, Asked, before, reached, asked}

word-behind : {t : ℕ → Tok} {word : List ℕ} {i j : ℕ} → Word t word i j → i ≤ j
word-behind (a_word p q) = omega arith

module _ (t : ℕ → Tok) (calls : Calls) (range : ℕ → Name) (fuel : ℕ) where
  -- each kind of reading, behind its first word
  compared-lamp_reading : Compares t calls (lamp_reading t)
  unfolding lamp_reading
  compared-lamp_reading i = search compared_references

  compared-group_reading : Compares t calls (group_reading t)
  unfolding group_reading
  compared-group_reading i = search compared_references

  compared-input_reading : Compares t calls (λ view i. input_reading t view fuel i)
  unfolding input_reading
  compared-input_reading i = search compared_references

  -- the word `event` stands before i
  compared-event_reading : {word i : ℕ} → Word t (ascii "event") word i →
      Compared t calls word (event_reading t calls.least word i) (event_reading t (seen_one calls) word i) (event_reading t (seen_other calls) word i)
  unfolding event_reading
  compared-event_reading {word} {i} w =
      compared_offence t calls 59 word _ (event_at_rule w) (ends-earlier _ (word-behind w) (search ends))

  compared-reading : Compares t calls (λ view i. reading_at t view range fuel i)
  unfolding reading_at reading_by time_reading sun_reading var_reading words_in split
  compared-reading i =
      let P : ℕ → ℕ → Type 0 =
      λ n j.
      Compared t calls i (reading_by t calls.least range fuel i n j) (reading_by t (seen_one calls) range fuel i n j)
      (reading_by t (seen_other calls) range fuel i n j) in
      let words = ascii "lamp group input time sun event var" in
      compared_after t calls (choice_at t words 20 i) _ _ _
      (choice-sound t P words 20 i (
        (λ j w. compared_earlier t calls (word-behind w) (compared-lamp_reading j)),
        (
          (λ j w. compared_earlier t calls (word-behind w) (compared-group_reading j)),
          (
            (λ j w. compared_earlier t calls (word-behind w) (compared-input_reading j)),
            (
              (λ j w. same (ends-earlier _ (word-behind w) (search ends))),
              (
                (λ j w. same (ends-earlier _ (word-behind w) (search ends))),
                ((λ j w. compared-event_reading w), ((λ j w. same (ends-earlier _ (word-behind w) (search ends))), tt)),
              ),
            ),
          ),
        ),
      ))
      (λ n j h. h)

  compared-value : Compares t calls (λ view i. value_at t view range fuel i)
  unfolding value_at literal_at read_value with_delta delta_at
  compared-value i = search (compared_references, compared-reading) depth 10

  -- what no call sees more or less of
  ends-bound : (i : ℕ) → Ends i (time_bound t i)
  unfolding time_bound solar_at with_offset offset_at offset_bound
  ends-bound i = search ends depth 8

  ends-ranges : (n : ℕ) (days : Days) (i : ℕ) → Ends i (ranges_from t n days i)
  unfolding ranges_from range_at day_at last_day
  ends-ranges zero days i = search ends
  ends-ranges (suc n) days i = search (ends, ends-ranges n) depth 12

  ends-day_set : (i : ℕ) → Ends i (day_set t fuel i)
  unfolding day_set
  ends-day_set i = search ends-ranges

  ends-on_days : (i : ℕ) → Ends i (on_days t fuel i)
  unfolding on_days
  ends-on_days i = search (ends, ends-day_set)

  ends-input_change : (paren : ℕ) (s : Selector) (i : ℕ) → Ends i (input_change t paren s i)
  unfolding input_change input_event event_at raw_event raw_data input_becomes point_trigger property_trigger light_cross position_change
  ends-input_change paren s i = search ends depth 12

  ends-lamp_change : (r : Ref) (i : ℕ) → Ends i (lamp_change t r i)
  unfolding lamp_change level_cross
  ends-lamp_change r i = search ends depth 8

  compared-input_trigger : Compares t calls (λ view i. input_trigger t view fuel i)
  unfolding input_trigger input_device_trigger
  compared-input_trigger i = search (compared_references, ends-input_change)

  compared-lamp_trigger : Compares t calls (lamp_trigger t)
  unfolding lamp_trigger
  compared-lamp_trigger i = search (compared_references, ends-lamp_change)

  compared-scene_trigger : Compares t calls (scene_trigger t)
  unfolding scene_trigger scene_closed
  compared-scene_trigger i =
      let named : (scene : ℕ) (scope : Scope) → Compares t calls (λ view j. ok (SceneRecalled (scope_or_primary view scope) scene) j) =
      λ scene scope. compared-primary t calls (λ a j. ok (SceneRecalled a scene) j) (λ a j. search ends) scope in
      search (compared_references, named) depth 8

  compared-target_for : Compares t calls (target_for t)
  unfolding target_for
  compared-target_for i = search compared_references

  compared-trigger : Compares t calls (λ view i. trigger_at t view range fuel i)
  unfolding trigger_at trigger_by at_trigger at_bound every_trigger group_trigger device_trigger hcl_trigger timer_trigger controller_trigger rule_trigger http_trigger
      mqtt_trigger topic_at named_phrase
  compared-trigger i =
      search
      (compared_references, ends-bound, ends-on_days, compared-input_trigger, compared-lamp_trigger, compared-scene_trigger, compared-target_for)
      depth 24

  ends-comparison : (i : ℕ) → Ends i (comparison_at t i)
  unfolding comparison_at comparison_by
  ends-comparison i = search ends depth 8

  ends-judged : (r : Ref) (p : ℕ) (c : Comparison) (v : Value) (i : ℕ) → Ends i (lamp_judged t r p c v i)
  unfolding lamp_judged
  ends-judged r p c v i = ends-after i (choice_at t (ascii "level cct") 21 p) _ (λ n j. search ends)

  compared-lamp_condition : Compares t calls (λ view i. lamp_condition t view range fuel i)
  unfolding lamp_condition lamp_state lamp_point lamp_compared property_word
  compared-lamp_condition i = search (compared_references, ends-comparison, ends-judged, compared-value) depth 9

  compared-input_condition : Compares t calls (λ view i. input_condition t view range fuel i)
  unfolding input_condition input_state light_than
  compared-input_condition i = search (compared_references, compared-value) depth 9

  compared-var_condition : Compares t calls (λ view i. var_condition t view range fuel i)
  unfolding var_condition var_compared operand_at text_operand
  compared-var_condition i = search (compared_references, ends-comparison, compared-value) depth 9

  compared-condition : Compares t calls (λ view i. condition_at t view range fuel i)
  unfolding condition_at condition_by controller_condition timer_condition rule_condition last_fired_condition device_condition sun_condition time_to
      time_condition day_condition group_condition hcl_condition named_phrase
  compared-condition i =
      search
      (compared_references, ends-bound, ends-day_set, compared-target_for, compared-lamp_condition, compared-input_condition, compared-var_condition)
      depth 24

compared-repeated : {S A : Type 0} (t : ℕ → Tok) (calls : Calls) (word : List ℕ) (number : ℕ) (form : View → S → ℕ → Res A) (after : S → A → S) →
    ((s : S) → Compares t calls (λ view i. form view s i)) → (most : ℕ) (s : S) →
    Compares t calls (λ view i. repeated t word number (form view) after s most i)
unfolding repeated
compared-repeated t calls word number form after h zero s i = search compared_references
compared-repeated t calls word number form after h (suc most) s i =
    search (compared_references, h, compared-repeated t calls word number form after h most)

module _ (t : ℕ → Tok) (calls : Calls) (range : ℕ → Name) (topics : Topics) (fuel : ℕ) where
  compared-named : (named : List (List ℕ)) → Compares t calls (λ view i. trigger_named t view range topics fuel named i)
  unfolding trigger_named
  compared-named named i = search (compared_references, compared-trigger)

  compared-whens : Compares t calls (λ view i. when_section t view range topics fuel i)
  unfolding when_section
  compared-whens i =
      compared_pick t calls i (is_word t (ascii "when") i) _ _ _ _ _ _
      (compared-repeated t calls (ascii "when") 37 (λ view. trigger_named t view range topics fuel) _ compared-named most_triggers [] i)
      (search compared_references)

  compared_ifs : Compares t calls (λ view i. if_section t view range fuel i)
  unfolding if_section
  compared_ifs i =
      let after : Unit {0} → Condition → Unit {0} = λ s y. s in
      let ands : (most : ℕ) (s : Unit {0}) → Compares t calls (λ view j. repeated t (ascii "and") 39 (λ s. condition_at t view range fuel) after s most j) =
      compared-repeated t calls (ascii "and") 39 (λ view s. condition_at t view range fuel) after (λ s. compared-condition t calls range fuel) in
      search (compared_references, compared-condition, ands)

  -- a whole rule
  pub compared-rule : Compared t calls 0 (rule_at t calls.least range topics fuel) (rule_at t (seen_one calls) range topics fuel) (rule_at t (seen_other calls) range topics fuel)
  unfolding rule_at at_end
  compared-rule = search (compared_references, compared-whens, compared_ifs)

-- what is accepted by the one that allows least, the others accept, with the same lists
pub accepted-by : {A : Type 0} {t : ℕ → Tok} {calls : Calls} {i : ℕ} {x u v : Res A} → Compared t calls i x u v → {a : A} {j : ℕ} → x ≡ ok a j →
    u ≡ ok a j
accepted-by (same h) e = e
accepted-by (repeat n a b h) e = absurd (let z : ◌≡◌ {A = ℕ} 0 1 = cc in omega arith)
accepted-by (offends l f a r h) e = absurd (let z : ◌≡◌ {A = ℕ} 0 1 = cc in omega arith)

-- the second allows forms where one says, the third anywhere
abbrev pub under : (view : View) (one : ℕ → Bool) → ((k : ℕ) → view.allows k ≡ true → one k ≡ true) → Calls
under view one more =
    record {
      least = view;
      repeats = view.repeats;
      one = one;
      other = λ k. true;
      repeats_more = λ e. e;
      one_more = more;
      other_more = λ k e. refl;
    }

pub wide-accepts : (t : ℕ → Tok) (view : View) (range : ℕ → Name) (topics : Topics) (fuel : ℕ) {lists : Lists} {j : ℕ} →
    rule_at t view range topics fuel ≡ ok lists j → rule_at t (anywhere view) range topics fuel ≡ ok lists j
wide-accepts t view range topics fuel e = accepted-by (compared-rule t (under view (λ k. true) (λ k e. refl)) range topics fuel) e

-- the second and the third may have repeats
abbrev repeating : View → Calls
repeating view =
    record {
      least = anywhere view;
      repeats = true;
      one = λ k. true;
      other = λ k. true;
      repeats_more = λ e. refl;
      one_more = λ k e. refl;
      other_more = λ k e. refl;
    }

-- a call in which any form may stand anywhere is judged by one reading
pub accepted-same : (full : Res Lists) → on_accepted full full ≡ full
unfolding on_accepted
accepted-same (ok lists i) = refl
accepted-same (Res.no r) = refl

parsed_but_63 : {t : ℕ → Tok} {calls : Calls} (l : Lexing) {x u v : Res Lists} → ((k : ℕ) → calls.least.allows k ≡ true) → Compared t calls 0 x u v →
    ((parsed l x).number ≡ 63 → ⊥) → parsed l x ≡ parsed l u
unfolding parsed refused_with
parsed_but_63 l all (same e) h = refl
parsed_but_63 l all (repeat n a b e) h = absurd (h n)
parsed_but_63 l all (offends {k} m f a r e) h = absurd (false≢true (sym a ∙ all k))

module _ (text : List ℕ) (lent : List (List ℕ)) (words : List ℕ) (view : View) where
  abbrev some : Outcome
  some = parsing text lent words (anywhere view)

  abbrev more : Outcome
  more = parsing text lent words (seen_one (repeating view))

  rule_but_63 : (some.answer.number ≡ 63 → ⊥) → some ≡ more
  unfolding rule_of
  rule_but_63 =
      let records = record_words (lex_text text) in
      let rule = compared-rule (tokens text records) (repeating view) (range_of records) (topics_with text lent) (capacity records) in
      rw (accepted-same (rule_in text records (anywhere view) lent), accepted-same (rule_in text records (seen_one (repeating view)) lent))
      (λ h. ap (λ (a : Answer). record { answer = a; buffer = written_from 0 words (lex_text text) }) (parsed_but_63 (lex_text text) (λ k. refl) rule h))

asked_but_63 : {call : Call} {text sheet : List ℕ} {lent : List (List ℕ)} {words : List ℕ} {f : View → Outcome} (view : View) → Asked call text sheet lent words f →
    ((f (anywhere view)).answer.number ≡ 63 → ⊥) → f (anywhere view) ≡ f (seen_one (repeating view))
asked_but_63 view (before e n) h = e _ ∙ sym (e _)
asked_but_63 {text = text} {lent = lent} {words = words} view (reached p e) h =
    e _ ∙ rule_but_63 text lent words view (λ z. h (rw (e (anywhere view)) z)) ∙ sym (e _)

-- an answer of the default call other than 63 is the archive call's, list for list and place for place, and so are the words at exit
pub same_but_63 : (party primary : ℕ) (text sheet : List ℕ) (lent : List (List ℕ)) (words : List ℕ) → ((read_of (rule_call party primary) text sheet lent words).answer.number ≡ 63 → ⊥) →
    read_of (rule_call party primary) text sheet lent words ≡ read_of (archive_call party primary) text sheet lent words
unfolding read_of seen own_primary may_repeat any_form
same_but_63 party primary text sheet lent words =
    let call = rule_call party primary in
    asked_but_63 (seen call sheet) (asked call text sheet lent words)
