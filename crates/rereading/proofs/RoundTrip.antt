-- What a call writes is read as the same lists, names by bytes (specs/Rereading.antt), unless a topic is one too many beside those that are lent.
use Prim.Native.Nat.{ℕ, ◌+◌, ◌≤◌}
use native.Mathlib.Omega.{arith}
use mathlib.Core.Path.{◌≡◌, ◌∙◌, refl, sym, ap, fun_ext}
use mathlib.Core.Bool.{Bool, true, false, false≢true}
use mathlib.Core.Logic.{⊎_elim}
use mathlib.Core.List.{List, [], ◌∷◌, map, head-eq_of_cons-eq, tail-eq_of_cons-eq, cons-ne-nil}
use lib.ListN.{length, length-append}
use lib.Dec.{ltb}
use Rattle.text.specs.Rfc3629.{Utf8Octets}
use Rattle.text.proofs.Tests.{picked}
use Rattle.tokens.specs.Cursor.{tokens}
use Rattle.tokens.specs.Ended.{record_words}
use Rattle.tokens.specs.Lexing.{least_words}
use Rattle.tokens.specs.Rules.{Begins, begins, octets_of, octets_in}
use Rattle.sheet.specs.View.{View, seen, any_form, own_primary}
use Rattle.sheet.specs.declared.Call.{Call}
use Rattle.topics.specs.Topics.{Allowed, all_lent, fits}
use Rattle.topics.specs.Ranges.{name_in}
use Rattle.topics.proofs.AllowedLaws.{fits-allowed}
use Rattle.model.specs.Limits.{last_adapter}
use Rattle.model.specs.Ranges.{Each}
use Rattle.model.specs.declared.Condition.{Condition}
use Rattle.model.specs.declared.Trigger.{Trigger}
use Rattle.language.specs.Demand.{HasReading}
use Rattle.language.specs.Range.{range_of}
use Rattle.language.specs.Read.{rule_call}
use Rattle.language.specs.Same.{shown_trigger, shown_condition}
use Rattle.language.specs.Topics.{topics_of}
use Rattle.language.proofs.ReflowTheorem.{same-topic}
use Rattle.language.proofs.Theorem.{exact}
use Rattle.writing.specs.Pieces.{Piece, spelled, spaced}
use Rattle.writing.specs.Reached.{reached_trigger, reached_condition}
use Rattle.writing.specs.Writing.{triggers_in, conditions_in, text_of, first_failing, first_unreached, list_pieces}
use Rattle.writing.specs.declared.ConditionFrom.{ConditionFrom}
use Rattle.writing.specs.declared.Lists.{Lists}
use Rattle.writing.specs.declared.TriggerFrom.{TriggerFrom}
use Rattle.writing.proofs.LengthLaws.{text-bytes}
use Rattle.rereading.specs.Rereading.{trigger_from, condition_from, topics_from, FourRows, ReadsBack, Reread, read_back, too_many_topics, WritingReadsBack}
use Rattle.rereading.proofs.Stands.{Good}
use Rattle.rereading.proofs.PieceLaws.{piece_token_lem}
use Rattle.rereading.proofs.LexLaws.{octets-long, pieces-lexed}
use Rattle.rereading.proofs.GoodLaws.{good-text}
use Rattle.rereading.proofs.RuleReads.{rule-read}
use Rattle.rereading.proofs.SameReached.{adapters, same-reached, same-reached_condition}
use Rattle.rereading.proofs.WrittenLaws.{Writes, text_for, writes, writes_only, text_in}
use Rattle.rereading.proofs.LentLaws.{read-or_66}

-- ---- how many tokens there are

octets-some : (c : ℕ) → 1 ≤ octets_of c
unfolding octets_of
octets-some c =
    let Some : ℕ → Type 0 = λ n. 1 ≤ n in
    picked Some (ltb c 0x80) (λ e. omega arith)
    (λ e. picked Some (ltb c 0x800) (λ f. omega arith) (λ f. picked Some (ltb c 0x10000) (λ g. omega arith) (λ g. omega arith)))

bytes-some : {bytes cs : List ℕ} → Begins cs → Utf8Octets bytes cs → 1 ≤ length bytes
unfolding octets_in
bytes-some (begins {c} h k) o = omega (arith, octets-some c, octets-long o)

-- each has a byte at least, and a space stands between two
pub tokens-few : {ps : List Piece} → Each Good ps → length ps + length ps ≤ length (spaced ps) + 1
unfolding spaced
tokens-few Each.none = omega arith
tokens-few (Each.more h Each.none) = let t = piece_token_lem h in omega (arith, bytes-some t.starts t.octets)
tokens-few (Each.more {x = p} h (Each.more {x = q} {xs = ps} k hs)) =
    let t = piece_token_lem h in
    omega (arith, bytes-some t.starts t.octets, tokens-few (Each.more k hs), length-append (spelled p) (0x20 ∷ spaced (q ∷ ps)))

-- ---- lists that are the same by bytes name the same topics

pub same-topics : (text first second : List ℕ) (us : List Trigger) (xs : List TriggerFrom) → map (shown_trigger text) us ≡ map (trigger_from first second) xs →
    topics_of (name_in text) us ≡ topics_from first second xs
unfolding topics_of topics_from
same-topics text first second [] [] e = refl
same-topics text first second [] (x ∷ xs) e = absurd (cons-ne-nil _ _ (sym e))
same-topics text first second (u ∷ us) [] e = absurd (cons-ne-nil _ _ e)
same-topics text first second (u ∷ us) (x ∷ xs) e =
    rw (same-topic text (text_of first second x.from) u x.trigger (head-eq_of_cons-eq e), same-topics text first second us xs (tail-eq_of_cons-eq e))

-- ---- what the lists are written as has a reading

-- calls that see the same adapters can name the same entries
pub same-unreached : (v w : View) → adapters v ≡ adapters w → (l : Lists) → first_unreached v l ≡ first_unreached w l
unfolding first_unreached
same-unreached v w e l =
    ap (λ (f : TriggerFrom → Bool). first_failing f (λ (y : ConditionFrom). reached_condition v y.condition) l)
    (fun_ext (λ x. same-reached v w e [] [] x.trigger x.trigger refl))
    ∙ ap (λ (g : ConditionFrom → Bool). first_failing (λ (x : TriggerFrom). reached_trigger w x.trigger) g l)
    (fun_ext (λ y. same-reached_condition v w e [] [] y.condition y.condition refl))

-- a reading that is the same by bytes as the lists
pub record HasLists (call : Call) (text sheet : List ℕ) (lent : List (List ℕ)) (size : ℕ) (first second : List ℕ) (l : Lists) : Type 0 where
  pub triggers : List Trigger
  pub conditions : List Condition
  pub reads : HasReading call text sheet lent size triggers conditions
  pub same_triggers : map (shown_trigger text) triggers ≡ map (trigger_from first second) (triggers_in l)
  pub same_conditions : map (shown_condition text) conditions ≡ map (condition_from first second) (conditions_in l)

module _ (call : Call) (any : any_form call.habit ≡ true) (first second sheet : List ℕ) (l : Lists) (rows : FourRows l)
    (w : Writes call.party call.primary first second sheet l) where
  pub written-reads : (lent : List (List ℕ)) (size : ℕ) → least_words ≤ size → Allowed lent (topics_from first second (triggers_in l)) →
      HasLists call (text_for call.party call.primary first second sheet l) sheet lent size first second l
  unfolding seen own_primary
  written-reads lent size room allowed =
      let view = seen call sheet in
      let ps = list_pieces first second call.primary l in
      let good = good-text first second call.primary l w.possible in
      let bytes = text-bytes first second call.primary l w.counts w.possible in
      let lexed = pieces-lexed ps good (omega arith) in
      let records = record_words lexed.lexing in
      let reached = same-unreached view (seen (rule_call call.party call.primary) sheet) refl l ∙ w.reached in
      let r = rule-read (tokens (spaced ps) records) view (range_of records) (spaced ps) lexed.names (λ i. any) first second l w.counts w.possible
      reached rows.triggers rows.conditions lexed.stand lexed.at_end_rule in
      record {
        triggers = r.triggers;
        conditions = r.conditions;
        reads =
            record {
              room = room;
              sheet_passes = w.sheet_passes;
              own = w.own;
              lexing = lexed.lexing;
              count = length ps;
              gives = lexed.gives;
              few = omega (arith, tokens-few good);
              reading = r.reads;
              topics = rw (same-topics (spaced ps) first second r.triggers (triggers_in l) r.same_triggers) allowed;
            };
        same_triggers = r.same_triggers;
        same_conditions = r.same_conditions;
      }

-- and so it is answered with them
pub answered : {call : Call} → call.primary ≤ last_adapter → {text sheet first second : List ℕ} {lent : List (List ℕ)} {l : Lists} (words : List ℕ) →
    HasLists call text sheet lent (length words) first second l → ReadsBack call text sheet lent words first second l
answered {call} in_range {text} {sheet} {lent = lent} words h =
    record {
      triggers = h.triggers;
      conditions = h.conditions;
      answer = (exact call in_range text sheet lent words).complete _ _ h.reads;
      reads = h.reads;
      same_triggers = h.same_triggers;
      same_conditions = h.same_conditions;
    }

-- ---- whole calls

module _ (call : Call) (any : any_form call.habit ≡ true) (in_range : call.primary ≤ last_adapter) (first second sheet : List ℕ) (l : Lists) (rows : FourRows l)
    (w : Writes call.party call.primary first second sheet l) (lent : List (List ℕ)) (words : List ℕ) (room : least_words ≤ length words) where
  abbrev text : List ℕ
  text = text_for call.party call.primary first second sheet l

  abbrev topics : List (List ℕ)
  topics = topics_from first second (triggers_in l)

  -- what is read where the topics themselves are lent
  all : HasLists call text sheet topics (length words) first second l
  all = written-reads call any first second sheet l rows w topics (length words) room (all_lent (λ t h. h))

  -- where it is read with other topics lent, they are allowed
  read-allowed : HasReading call text sheet lent (length words) all.triggers all.conditions → Allowed lent topics
  read-allowed h = rw (same-topics text first second all.triggers (triggers_in l) all.same_triggers) at h.topics

  reread : Reread call text sheet lent words first second l
  reread = by (fits lent [] topics) refl
    where
      by : (b : Bool) → fits lent [] topics ≡ b → Reread call text sheet lent words first second l
      by true e =
          read_back (answered in_range words (written-reads call any first second sheet l rows w lent (length words) room ((fits-allowed lent topics).0 e)))
      by false e =
          let none : Allowed lent topics → ⊥ = λ a. false≢true (sym e ∙ (fits-allowed lent topics).1 a) in
          too_many_topics none (⊎_elim (λ h. absurd (none (read-allowed h))) (λ n. n) (read-or_66 in_range words all.reads lent))

pub writing-reads-back : WritingReadsBack
writing-reads-back call first second sheet l buffer lent words any in_range rows room e =
    let (w, least) = writes_only call.party call.primary first second sheet l buffer e in
    rw (writes call.party call.primary first second sheet l buffer w least, text_in)
    (reread call any in_range first second sheet l rows w lent words room)
