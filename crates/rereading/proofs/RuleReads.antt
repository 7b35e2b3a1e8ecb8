-- The whole rule as it is written is read as the same lists, names by bytes.
use Prim.Native.Nat.{ℕ, ◌+◌, ◌≤◌}
use native.Mathlib.Omega.{arith}
use mathlib.Core.Path.{◌≡◌, ◌∙◌, refl, sym, ap}
use mathlib.Core.Bool.{Bool, true}
use mathlib.Core.List.{List, [], ◌∷◌, map}
use lib.ListN.{length, take, length-take, length-map}
use lib.Dec.{leb}
use borrow.Author.Tests.{leb-true}
use Rattle.text.specs.Choice.{within}
use Rattle.text.specs.Literal.{ascii}
use Rattle.text.proofs.Tests.{both}
use Rattle.tokens.specs.Cursor.{Tok}
use Rattle.tokens.specs.Kind.{STRING}
use Rattle.topics.specs.Ranges.{name_in}
use Rattle.sheet.specs.View.{View}
use Rattle.model.specs.Ranges.{Each}
use Rattle.model.specs.declared.Condition.{Condition}
use Rattle.model.specs.declared.Name.{Name}
use Rattle.model.specs.declared.Trigger.{Trigger}
use Rattle.language.specs.Limits.{most_triggers, most_ands}
use Rattle.language.specs.Same.{Shown, shown_trigger, shown_condition}
use Rattle.language.specs.grammar.Text.{Repeated, whens, joined, IfSection, no_if, conditions, ReadingWith, reading}
use Rattle.writing.specs.Pieces.{Piece}
use Rattle.writing.specs.Reached.{reached_trigger, reached_condition}
use Rattle.writing.specs.Writing.{behind_each, if_pieces, rule_pieces, triggers_in, conditions_in, possible_counts, is_text, possible_trigger_from, possible_condition_from, first_impossible, trigger_from_pieces, condition_from_pieces, list_pieces, first_unreached}
use Rattle.writing.specs.declared.TriggerFrom.{TriggerFrom}
use Rattle.writing.specs.declared.ConditionFrom.{ConditionFrom}
use Rattle.writing.specs.declared.Lists.{Lists}
use Rattle.writing.proofs.FailingLaws.{none-failing}
use Rattle.rereading.specs.Rereading.{trigger_from, condition_from}
use Rattle.rereading.proofs.Stands.{Stands}
use Rattle.rereading.proofs.Read.{Read}
use Rattle.rereading.proofs.StandsLaws.{head, rest, parted, word_read}
use Rattle.rereading.proofs.TriggerReads.{TriggerRead, trigger-read}
use Rattle.rereading.proofs.ConditionReads.{ConditionRead, condition-read}

-- ---- lists of entries

abbrev PassEach : {A : Type 0} → (A → Bool) → List A → Type 0
PassEach {A} test xs = Each (λ (x : A). test x ≡ true) xs

-- values that are read by a form of lists, and are shown as the entries
record ListRead {X A : Type 0} (Form : ℕ → List A → ℕ → Type 0) (shown : A → Shown A) (given : X → Shown A) (i : ℕ) (xs : List X) (j : ℕ) :
    Type 0 where
  values : List A
  reads : Form i values j
  same : map shown values ≡ map given xs

as_many : {X A : Type 0} {Form : ℕ → List A → ℕ → Type 0} {shown : A → Shown A} {given : X → Shown A} {i j : ℕ} {xs : List X} →
    (r : ListRead Form shown given i xs j) → length r.values ≡ length xs
as_many {shown = shown} {given = given} {xs = xs} r = sym (length-map r.values shown) ∙ ap length r.same ∙ length-map xs given

module _ {X A : Type 0} {t : ℕ → Tok} {Form : ℕ → A → ℕ → Type 0} {shown : A → Shown A} {pieces : X → List Piece} {given : X → Shown A}
    {possible reached : X → Bool}
    (each : (x : X) (i j : ℕ) → possible x ≡ true → reached x ≡ true → Stands t i (pieces x) j → Read Form shown i (given x) j) where
  -- each behind a word
  repeated-read : (word : List ℕ) {xs : List X} {i j : ℕ} → PassEach possible xs → PassEach reached xs →
      Stands t i (behind_each word (map pieces xs)) j → ListRead (Repeated t word Form) shown given i xs j
  unfolding behind_each
  repeated-read word Each.none Each.none Stands.none = record { values = []; reads = Repeated.end; same = refl }
  repeated-read word (Each.more {x} p ps) (Each.more h hs) s =
      let (m, entry, after) = parted (pieces x) _ (rest s) in
      let first = each x _ _ p h entry in
      let behind = repeated-read word ps hs after in
      record {
        values = first.value ∷ behind.values;
        reads = Repeated.more (word_read (head s)) first.reads behind.reads;
        same = rw (first.same, behind.same);
      }

-- ---- the rule

-- a reading by the grammar that is the same by bytes as the lists, with its names in what is written
pub record RuleRead (t : ℕ → Tok) (view : View) (range : ℕ → Name) (written first second : List ℕ) (l : Lists) : Type 0 where
  pub triggers : List Trigger
  pub conditions : List Condition
  pub reads : ReadingWith t view range triggers conditions
  pub same_triggers : map (shown_trigger written) triggers ≡ map (trigger_from first second) (triggers_in l)
  pub same_conditions : map (shown_condition written) conditions ≡ map (condition_from first second) (conditions_in l)

-- rows in use, as many as are counted
counted : {A : Type 0} (n : ℕ) (rows : List A) → n ≤ 4 → length rows ≡ 4 → length (take n rows) ≡ n
counted n rows few four = omega (arith, length-take n rows)

module _ (t : ℕ → Tok) (view : View) (range : ℕ → Name) (written : List ℕ)
    (names : (i : ℕ) → (t i).kind ≡ STRING → name_in written (range i) ≡ (t i).bytes) (any : (i : ℕ) → view.allows i ≡ true)
    (first second : List ℕ) where
  trigger_from_lem : (x : TriggerFrom) (i j : ℕ) → possible_trigger_from first second x ≡ true → reached_trigger view x.trigger ≡ true →
      Stands t i (trigger_from_pieces first second view.primary x) j → TriggerRead t view range written i (trigger_from first second x) j
  unfolding possible_trigger_from
  trigger_from_lem x i j p h s = trigger-read t view range written names any _ x.trigger (both (is_text x.from) p).1 h s

  condition_from_lem : (y : ConditionFrom) (i j : ℕ) → possible_condition_from first second y ≡ true → reached_condition view y.condition ≡ true →
      Stands t i (condition_from_pieces first second view.primary y) j →
      ConditionRead t view range written i (condition_from first second y) j
  unfolding possible_condition_from
  condition_from_lem y i j p h s = condition-read t view range written names any _ y.condition (both (is_text y.from) p).1 h s

  -- `if`, or nothing
  if_read : {ys : List ConditionFrom} {i j : ℕ} → PassEach (possible_condition_from first second) ys →
      PassEach (λ (y : ConditionFrom). reached_condition view y.condition) ys → length ys ≤ most_ands + 1 →
      Stands t i (if_pieces (map (condition_from_pieces first second view.primary) ys)) j →
      ListRead (IfSection t view range) (shown_condition written) (condition_from first second) i ys j
  unfolding if_pieces
  if_read Each.none Each.none few Stands.none = record { values = []; reads = no_if; same = refl }
  if_read (Each.more {x = y} p ps) (Each.more h hs) few s =
      let (m, entry, after) = parted (condition_from_pieces first second view.primary y) _ (rest s) in
      let one = condition_from_lem y _ _ p h entry in
      let behind = repeated-read condition_from_lem (ascii "and") ps hs after in
      let long = as_many behind in
      record {
        values = one.value ∷ behind.values;
        reads = conditions (word_read (head s)) (joined one.reads behind.reads (omega arith));
        same = rw (one.same, behind.same);
      }

  pub rule-read : (l : Lists) {j : ℕ} → possible_counts l ≡ true → first_impossible first second l ≡ 0 → first_unreached view l ≡ 0 →
      length l.triggers.rows ≡ 4 → length l.conditions.rows ≡ 4 → Stands t 0 (list_pieces first second view.primary l) j →
      (t j).kind ≡ 0 → RuleRead t view range written first second l
  unfolding possible_counts first_impossible first_unreached list_pieces rule_pieces
  rule-read l counts p h rows condition-rows s end =
      let (triggers_in_lem, conditions_in_lem) = both (within 1 most_triggers l.triggers.count) counts in
      let (low, high) = both (leb 1 l.triggers.count) triggers_in_lem in
      let some : 1 ≤ l.triggers.count = leb-true _ _ low in
      let few : l.triggers.count ≤ 4 = leb-true _ _ high in
      let few_conditions : l.conditions.count ≤ 4 = leb-true _ _ conditions_in_lem in
      let possible = none-failing _ _ l p in
      let reached = none-failing _ _ l h in
      let (k, front, after) = parted (behind_each (ascii "when") (map (trigger_from_pieces first second view.primary) (triggers_in l))) _ s in
      let xs = repeated-read trigger_from_lem (ascii "when") possible.triggers reached.triggers front in
      let many = as_many xs ∙ counted _ _ few rows in
      let many-conditions = counted l.conditions.count l.conditions.rows few_conditions condition-rows in
      let ys = if_read possible.conditions reached.conditions (omega arith) after in
      record {
        triggers = xs.values;
        conditions = ys.values;
        reads = reading (whens xs.reads (omega arith) (omega arith)) ys.reads end;
        same_triggers = xs.same;
        same_conditions = ys.same;
      }
