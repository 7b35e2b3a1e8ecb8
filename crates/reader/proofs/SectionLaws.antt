-- The loops of the two sections, and their answers taken apart.
use Prim.Native.Nat.{ℕ, ◌+◌, ◌<◌, ◌≤◌}
use native.Mathlib.Omega.{arith}
use mathlib.Core.Path.{◌≡◌, refl, sym, ap, ◌∙◌}
use mathlib.Core.Bool.{Bool, true, false}
use mathlib.Core.List.{List, [], ◌∷◌, ◌++◌}
use lib.ListN.{length, set}
use Rattle.text.specs.Literal.{ascii}
use Rattle.text.proofs.Tests.{lt_yes}
use Rattle.tokens.specs.Result.{Res, ok, bind}
use Rattle.tokens.specs.Cursor.{Tok, is_word, accepted, Taken, to_taken}
use Rattle.tokens.specs.declared.cursor.Cursor.{Cursor}
use Rattle.tokens.specs.declared.cursor.Refusal.{Refusal}
use Rattle.sheet.specs.View.{View}
use Rattle.topics.specs.Topics.{fits}
use Rattle.topics.specs.Ranges.{no_ranges, with_topic, topic_by, name_in, topics_in}
use Rattle.topics.specs.declared.ranges.Ranges.{Ranges}
use Rattle.topics.proofs.RangeLaws.{Stand, none-stand, topic-stands, topic-few}
use Rattle.language.specs.Topics.{topic_name, topic_of}
use Rattle.language.specs.Read.{topics_with}
use Rattle.language.specs.Condition.{condition_at}
use Rattle.language.specs.Section.{Topics, trigger_named, repeated}
use Rattle.language.specs.Trigger.{trigger_at}
use Rattle.model.specs.Lists.{padded, triggers_of, conditions_of}
use Rattle.model.specs.declared.Name.{Name}
use Rattle.model.specs.declared.Trigger.{Trigger}
use Rattle.model.specs.declared.Condition.{Condition}
use Rattle.model.specs.declared.Condition.TheVariants.{ControllerActive}
use Rattle.model.specs.declared.ConditionRow.{ConditionRow}
use Rattle.model.specs.declared.Triggers.{Triggers}
use Rattle.model.specs.declared.Conditions.{Conditions}
use Rattle.reader.specs.Parts.{with_trigger, with_condition, to_whens, to_ifs}
use Rattle.tokens.proofs.Chain.{is_taken}
use Rattle.reader.proofs.LoopLaws.{Going, begin, begin_with, at_last, too_many_lem, one_refused, one_more, was_left, was_there}
use Rattle.std.specs.Prelude.{Option, Some, None, Ok, Err}

pub trigger-counts : (xs : List Trigger) → (triggers_of xs).count ≡ length xs
unfolding triggers_of
trigger-counts xs = refl

pub trigger-puts : (xs : List Trigger) (x : Trigger) → length xs < 4 → with_trigger (triggers_of xs) x ≡ triggers_of (xs ++ (x ∷ []))
unfolding with_trigger triggers_of padded
trigger-puts [] x h = refl
trigger-puts (a ∷ []) x h = refl
trigger-puts (a ∷ (b ∷ [])) x h = refl
trigger-puts (a ∷ (b ∷ (c ∷ []))) x h = refl
trigger-puts (a ∷ (b ∷ (c ∷ (d ∷ xs)))) x h = absurd (omega arith)

pub condition-counts : (xs : List Condition) → (conditions_of xs).count ≡ length xs
unfolding conditions_of
condition-counts xs = refl

pub condition-puts : (xs : List Condition) (x : Condition) → length xs < 4 → with_condition (conditions_of xs) x ≡ conditions_of (xs ++ (x ∷ []))
unfolding with_condition conditions_of padded
condition-puts [] x h = refl
condition-puts (a ∷ []) x h = refl
condition-puts (a ∷ (b ∷ [])) x h = refl
condition-puts (a ∷ (b ∷ (c ∷ []))) x h = refl
condition-puts (a ∷ (b ∷ (c ∷ (d ∷ xs)))) x h = absurd (omega arith)

-- a list of one
pub one_made : (y : Condition) {r none : Conditions} → r ≡ with_condition none y → none ≡ conditions_of [] → r ≡ conditions_of (y ∷ [])
one_made y e n = e ∙ ap (λ (l : Conditions). with_condition l y) n ∙ condition-puts [] y (omega arith)

-- a list that has room grows by one, so that fewer are left
below-four : {n : ℕ} → n < 4 → n ≡ 4 → ⊥
below-four h e = omega arith

trigger-full : (xs : List Trigger) (list : Triggers) → list ≡ triggers_of xs → length xs ≤ 4 → 4 ≤ list.count → list.count ≡ 4
unfolding triggers_of
trigger-full xs list s few f =
    let here : list.count ≡ length xs = ap (λ (l : Triggers). l.count) s in
    omega arith

trigger-set : (list : Triggers) (x : Trigger) → list.count < 4 →
    record { rows = set list.rows list.count (record { trigger = x }); count = list.count + 1 } ≡ with_trigger list x
unfolding with_trigger
trigger-set list x h = lt_yes list.count 4 _ _ h refl

condition-full : (xs : List Condition) (list : Conditions) → list ≡ conditions_of xs → length xs ≤ 4 → 4 ≤ list.count → list.count ≡ 4
unfolding conditions_of
condition-full xs list s few f =
    let here : list.count ≡ length xs = ap (λ (l : Conditions). l.count) s in
    omega arith

condition-set : (list : Conditions) (y : Condition) → list.count < 4 →
    record { rows = set list.rows list.count (record { condition = y }); count = list.count + 1 } ≡ with_condition list y
unfolding with_condition
condition-set list y h = lt_yes list.count 4 _ _ h refl

-- a trigger behind others: what was read, and whether its topic fits
module _ (t : ℕ → Tok) (view : View) (range : ℕ → Name) (topics : Topics) (fuel : ℕ) (named : List (List ℕ)) (i : ℕ) {one : Taken Trigger}
    (read : one ≡ to_taken (trigger_at t view range fuel i)) where
  pub named-no : {refusal : Refusal} → one ≡ Err refusal →
      Err refusal ≡ to_taken (trigger_named t view range topics fuel named i)
  unfolding trigger_named to_taken
  named-no w = rw (is_taken (trigger_at t view range fuel i) read w)

  module _ {x : Trigger} {behind : Cursor} (w : one ≡ Ok (x, behind)) {topic : Option Name} (its : topic ≡ topic_name x) {fit : Bool}
      (judged : fit ≡ fits topics.lent named (topic_by topics.written topic)) where
    fit_is : fits topics.lent named (topic_of topics.written x) ≡ fit
    unfolding topic_of
    fit_is = ap (λ (y : Option Name). fits topics.lent named (topic_by topics.written y)) (sym its) ∙ sym judged

    pub named-yes : fit ≡ true → Ok (x, behind) ≡ to_taken (trigger_named t view range topics fuel named i)
    unfolding trigger_named to_taken
    named-yes h = rw (is_taken (trigger_at t view range fuel i) read w, fit_is, h)

    pub named-many : {r : Refusal} → fit ≡ false → r ≡ record { number = 66; token = i; detail = 0 } →
        Err r ≡ to_taken (trigger_named t view range topics fuel named i)
    unfolding trigger_named to_taken
    named-many h e = rw (is_taken (trigger_at t view range fuel i) read w, fit_is, h, e)

module _ (text : List ℕ) (t : ℕ → Tok) (view : View) (range : ℕ → Name) (lent : List (List ℕ)) (fuel : ℕ) where
  abbrev form : List (List ℕ) → ℕ → Res Trigger
  form = trigger_named t view range (topics_with text lent) fuel

  abbrev after : List (List ℕ) → Trigger → List (List ℕ)
  after named x = named ++ topic_of (name_in text) x

  abbrev pub whole_of : ℕ → Res (List Trigger)
  whole_of i = repeated t (ascii "when") 37 form after [] 4 i

  abbrev WhenGoing : Res (List Trigger) → Triggers → List (List ℕ) → ℕ → Type 0
  WhenGoing = Going triggers_of with_trigger (λ (l : Triggers). l.count) trigger-counts trigger-puts t (ascii "when") 37 form after

  -- the ranges hold the topics that the triggers so far name: not more than there are triggers
  pub record WhensLoop (whole : Res (List Trigger)) (list : Triggers) (named : Ranges) (i : ℕ) : Type 0 where
    pub topics : List (List ℕ)
    pub stand : Stand text named topics
    pub few : length topics ≤ list.count
    pub going : WhenGoing whole list topics i

  pub whens_begin : (i : ℕ) {list : Triggers} {named : Ranges} → list ≡ triggers_of [] → named ≡ no_ranges → WhensLoop (whole_of i) list named i
  whens_begin i e n =
      record {
        topics = [];
        stand = rw n (none-stand text);
        few = omega arith;
        going = begin triggers_of with_trigger (λ (l : Triggers). l.count) trigger-counts trigger-puts t (ascii "when") 37 form after [] i e;
      }

  whens_four : {whole : Res (List Trigger)} {list : Triggers} {named : Ranges} {i : ℕ} → WhensLoop whole list named i → 4 ≤ list.count → list.count ≡ 4
  whens_four {list = list} g f = trigger-full g.going.entries list g.going.stored (let r = g.going.room in omega arith) f

  module _ {whole : Res (List Trigger)} {list : Triggers} {named : Ranges} {p : Cursor} {a : Option Cursor} (g : WhensLoop whole list named p.index)
      (asked : a ≡ accepted (is_word t (ascii "when") p.index) p.index) where
    -- the word is not there: the list is finished
    pub whens_end : a ≡ None → Ok (list, p) ≡ to_whens whole
    unfolding to_whens
    whens_end m =
        rw (g.going.stored, at_last triggers_of with_trigger (λ (l : Triggers). l.count) trigger-counts trigger-puts t (ascii "when") 37 form after g.going (was_left _ _ asked m))

    module _ {next : Cursor} (m : a ≡ Some next) where
      there : (is_word t (ascii "when") p.index ≡ true) × (next.index ≡ p.index + 1)
      there = was_there _ _ asked m

      -- the list is full
      pub whens_full : {refusal : Refusal} → 4 ≤ list.count → refusal ≡ record { number = 37; token = p.index; detail = 0 } →
          Err refusal ≡ to_whens whole
      unfolding to_whens
      whens_full f h =
          rw (h, too_many_lem triggers_of with_trigger (λ (l : Triggers). l.count) trigger-counts trigger-puts t (ascii "when") 37 form after g.going there.0 (whens_four g f))

      module _ (f : list.count < 4) {one : Taken Trigger} (read : one ≡ to_taken (form (topics_in text named) next.index)) where
        read_here : one ≡ to_taken (form g.topics (p.index + 1))
        read_here = rw (← there.1, ← g.stand.are) read

        -- the form is refused
        pub whens_stop : {refusal : Refusal} → one ≡ Err refusal → Err refusal ≡ to_whens whole
        unfolding to_whens
        whens_stop {refusal = refusal} w =
            rw (one_refused triggers_of with_trigger (λ (l : Triggers). l.count) trigger-counts trigger-puts t (ascii "when") 37 form after g.going there.0 (below-four f) {r = refusal} (is_taken _ read_here w))

        -- one more
        pub whens_put : {x : Trigger} {behind : Cursor} {more : Ranges} → one ≡ Ok (x, behind) → more ≡ with_topic named (topic_name x) →
            WhensLoop whole (record { rows = set list.rows list.count (record { trigger = x }); count = list.count + 1 }) more behind.index
        unfolding topic_of
        whens_put {x} w n =
            record {
              topics = after g.topics x;
              stand = rw n (topic-stands text g.stand (let h = g.few in omega arith) (topic_name x));
              few = let h = g.few in let k = topic-few (name_in text) g.topics (topic_name x) in omega arith;
              going =
                  one_more triggers_of with_trigger (λ (l : Triggers). l.count) trigger-counts trigger-puts t (ascii "when") 37 form after g.going
                  there.0 (below-four f) (is_taken _ read_here w) (trigger-set list x f);
            }

module _ (t : ℕ → Tok) (view : View) (range : ℕ → Name) (fuel : ℕ) where
  abbrev condition-form : Unit {0} → ℕ → Res Condition
  condition-form s = condition_at t view range fuel

  abbrev same-state : Unit {0} → Condition → Unit {0}
  same-state s y = s

  abbrev pub AndGoing : Res (List Condition) → Conditions → ℕ → Type 0
  AndGoing whole list i =
      Going conditions_of with_condition (λ (l : Conditions). l.count) condition-counts condition-puts t (ascii "and") 39 condition-form same-state whole
      list tt i

  -- the conditions behind the first x
  abbrev pub behind-first : Condition → ℕ → Res (List Condition)
  behind-first x i = bind (repeated t (ascii "and") 39 condition-form same-state tt 3 i) (λ ys j. ok (x ∷ ys) j)

  -- the loop began with a list of one
  pub record AndLoop (begun : Conditions) (start : ℕ) (list : Conditions) (i : ℕ) : Type 0 where
    pub first : Condition
    pub alone : begun ≡ conditions_of (first ∷ [])
    pub going : AndGoing (behind-first first start) list i

  pub ands_begin : (x : Condition) (i : ℕ) {list : Conditions} → list ≡ conditions_of (x ∷ []) → AndLoop list i list i
  ands_begin x i e =
      record {
        first = x;
        alone = e;
        going =
            begin_with conditions_of with_condition (λ (l : Conditions). l.count) condition-counts condition-puts t (ascii "and") 39 condition-form
            same-state tt x i e;
      }

  -- the list that it began with says which condition was first
  same_first : (x y : Condition) → conditions_of (x ∷ []) ≡ conditions_of (y ∷ []) → x ≡ y
  unfolding conditions_of padded
  same_first x y e = ap (λ (l : Conditions). first_of l.rows) e
    where
      first_of : List ConditionRow → Condition
      first_of [] = ControllerActive
      first_of (r ∷ rs) = r.condition

  ands_four : {begun list : Conditions} {start i : ℕ} → AndLoop begun start list i → 4 ≤ list.count → list.count ≡ 4
  ands_four {list = list} g f = condition-full g.going.entries list g.going.stored (let r = g.going.room in omega arith) f

  module _ {begun list : Conditions} {start : ℕ} {p : Cursor} {a : Option Cursor} (g : AndLoop begun start list p.index)
      (asked : a ≡ accepted (is_word t (ascii "and") p.index) p.index) where
    begun_with : (x : Condition) → begun ≡ conditions_of (x ∷ []) → g.first ≡ x
    begun_with x e = same_first g.first x (sym g.alone ∙ e)

    -- the word is not there: the list is finished
    pub ands_end : (whole : Res (List Condition)) (x : Condition) → begun ≡ conditions_of (x ∷ []) → a ≡ None →
        behind-first x start ≡ whole → Ok (list, p) ≡ to_ifs whole
    unfolding to_ifs
    ands_end whole x b m h =
        rw (
          ← h,
          ← begun_with x b,
          g.going.stored,
          at_last conditions_of with_condition (λ (l : Conditions). l.count) condition-counts condition-puts t (ascii "and") 39 condition-form same-state g.going (was_left _ _ asked m),
        )

    module _ {next : Cursor} (m : a ≡ Some next) where
      and_there : (is_word t (ascii "and") p.index ≡ true) × (next.index ≡ p.index + 1)
      and_there = was_there _ _ asked m

      -- the list is full
      pub ands_full : (whole : Res (List Condition)) (x : Condition) {refusal : Refusal} → begun ≡ conditions_of (x ∷ []) →
          4 ≤ list.count → refusal ≡ record { number = 39; token = p.index; detail = 0 } → behind-first x start ≡ whole → Err refusal ≡ to_ifs whole
      unfolding to_ifs
      ands_full whole x b f h w =
          rw (
            h,
            ← w,
            ← begun_with x b,
            too_many_lem conditions_of with_condition (λ (l : Conditions). l.count) condition-counts condition-puts t (ascii "and") 39 condition-form same-state g.going and_there.0 (ands_four g f),
          )

      module _ (f : list.count < 4) {one : Taken Condition} (read : one ≡ to_taken (condition_at t view range fuel next.index)) where
        -- the form is refused
        pub ands_stop : (whole : Res (List Condition)) (x : Condition) {refusal : Refusal} → begun ≡ conditions_of (x ∷ []) →
            one ≡ Err refusal → behind-first x start ≡ whole → Err refusal ≡ to_ifs whole
        unfolding to_ifs
        ands_stop whole x {refusal = refusal} b w h =
            rw (
              ← h,
              ← begun_with x b,
              one_refused conditions_of with_condition (λ (l : Conditions). l.count) condition-counts condition-puts t (ascii "and") 39 condition-form same-state g.going and_there.0 (below-four f) {r = refusal} (rw (← and_there.1) (is_taken _ read w)),
            )

        -- one more
        pub ands_on : {y : Condition} {behind : Cursor} {more : Conditions} → one ≡ Ok (y, behind) → more ≡ with_condition list y →
            AndLoop begun start more behind.index
        ands_on w e =
            record {
              first = g.first;
              alone = g.alone;
              going = one_more conditions_of with_condition (λ (l : Conditions). l.count) condition-counts condition-puts t (ascii "and") 39 condition-form same-state g.going and_there.0 (below-four f) (rw (← and_there.1) (is_taken _ read w)) e;
            }

        pub ands_put : {y : Condition} {behind : Cursor} → one ≡ Ok (y, behind) →
            AndLoop begun start (record { rows = set list.rows list.count (record { condition = y }); count = list.count + 1 }) behind.index
        ands_put {y} w = ands_on w (condition-set list y f)
