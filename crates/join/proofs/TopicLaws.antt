-- The ranges of a text's topics, as the code holds them.
use Rattle.std.specs.Prelude.{Option, None, Some}
use Prim.Native.Nat.{ℕ, ◌+◌, ◌<◌, ◌≤◌}
use mathlib.Core.Path.{◌≡◌, ◌∙◌, refl, ap, sym}
use mathlib.Core.List.{List, [], ◌∷◌, ◌++◌, map, append-nil, append_assoc}
use native.Mathlib.Omega.{arith}
use lib.ListN.{length, get_or, set, take, length-append}
use Rattle.model.specs.Lists.{padded}
use Rattle.model.specs.declared.Name.{Name}
use Rattle.model.specs.declared.Trigger.{Trigger}
use Rattle.model.specs.declared.TriggerRow.{TriggerRow}
use Rattle.model.specs.declared.Triggers.{Triggers}
use Rattle.topics.specs.Ranges.{range_words}
use Rattle.language.specs.Topics.{topic_name}
use Rattle.flat.specs.Flat.{no_trigger}
use Rattle.join.specs.Join.{triggers_in}
use Rattle.join.specs.Kept.{most_kept, names_by, topic_names, topics_held, OfTopics}
use Rattle.join.specs.declared.Topics.{Topics}
use Rattle.join.proofs.RowLaws.{in_use-on, padded-more}

words_more : (names : List Name) (n : Name) → range_words (names ++ n ∷ []) ≡ (range_words names ++ n.start ∷ []) ++ n.length ∷ []
unfolding range_words
words_more [] n = refl
words_more (m ∷ names) n = ap (λ (l : List ℕ). m.start ∷ m.length ∷ l) (words_more names n)

module _ (topics : Topics) (topic : Option Name) where
  pub topic_none : topic ≡ None → OfTopics topics (λ names. topics ≡ topics_held (names ++ names_by topic))
  unfolding names_by
  topic_none a names e = rw (a, append-nil) e

  pub topic_more : {name : Name} → topic ≡ Some name → topics.count + 2 ≤ most_kept → {more : Topics} →
      more ≡ record { words = set (set topics.words topics.count name.start) (topics.count + 1) name.length; count = topics.count + 2 } →
      OfTopics topics (λ names. more ≡ topics_held (names ++ names_by topic))
  unfolding names_by topics_held
  topic_more {name} a room m names e =
      let n : topics.count ≡ length (range_words names) = ap (λ (t : Topics). t.count) e in
      let id : ℕ → ℕ = λ k. k in
      let front = range_words names ++ name.start ∷ [] in
      let k : length (range_words names) + 1 ≡ length front = sym (length-append (range_words names) (name.start ∷ [])) in
      let one : set (padded (λ (k : ℕ). k) 0 most_kept (range_words names)) (length (range_words names)) name.start ≡ padded (λ (k : ℕ). k) 0 most_kept front =
      padded-more (λ (k : ℕ). k) 0 most_kept (range_words names) name.start (omega arith) in
      let two : set (padded (λ (k : ℕ). k) 0 most_kept front) (length front) name.length ≡ padded (λ (k : ℕ). k) 0 most_kept (front ++ name.length ∷ []) =
      padded-more (λ (k : ℕ). k) 0 most_kept front name.length (omega arith) in
      let long : length (range_words names) + 2 ≡ length (front ++ name.length ∷ []) = omega (arith, length-append front (name.length ∷ [])) in
      m ∙ rw (a, n, e, one, k, two, long, words_more names name)

names-on : (xs : List Trigger) (x : Trigger) → topic_names (xs ++ x ∷ []) ≡ topic_names xs ++ names_by (topic_name x)
unfolding topic_names
names-on [] x = append-nil (names_by (topic_name x))
names-on (y ∷ xs) x = rw (names-on xs x) (sym (append_assoc (names_by (topic_name y)) (topic_names xs) (names_by (topic_name x))))

module _ (list : Triggers) where
  abbrev pub Gathered : Topics → ℕ → Type 0
  Gathered topics i = topics ≡ topics_held (topic_names (map (λ (r : TriggerRow). r.trigger) (take i list.rows)))

  pub gathered_none : {topics : Topics} → topics ≡ record { words = 0 ∷ 0 ∷ 0 ∷ 0 ∷ 0 ∷ 0 ∷ 0 ∷ 0 ∷ []; count = 0 } → Gathered topics 0
  unfolding topics_held topic_names range_words padded
  gathered_none e = e

  pub gathered-on : {topics : Topics} (i : ℕ) → Gathered topics i → i < length list.rows → {topic : Option Name} →
      topic ≡ topic_name (get_or list.rows i no_trigger).trigger → {next : Topics} → OfTopics topics (λ names. next ≡ topics_held (names ++ names_by topic)) →
      Gathered next (i + 1)
  gathered-on i g h t s =
      s _ g ∙ rw (in_use-on (λ (r : TriggerRow). r.trigger) list.rows i no_trigger h, names-on, t)

  pub gathered-all : {topics : Topics} (i : ℕ) → Gathered topics i → i ≤ list.count → list.count ≤ i → topics ≡ topics_held (topic_names (triggers_in list))
  gathered-all i g h k =
      let n : i ≡ list.count = omega arith in
      rw (← n) g
