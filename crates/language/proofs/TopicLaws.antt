-- What the definitions accept as a topic is one, and the other way round; and with which numbers they refuse another.
use Prim.Native.Nat.{ℕ}
use mathlib.Core.Path.{◌≡◌, refl, sym, ◌∙◌}
use mathlib.Core.Bool.{Bool, true, false}
use mathlib.Core.List.{List}
use native.Mathlib.Omega.{arith}
use lib.ListN.{length}
use lib.Dec.{ltb, eqb}
use borrow.Author.Tests.{eqb-true, eqb-false, ltb-false, ne_eqb, le-ltb}
use Rattle.text.specs.Choice.{pick}
use Rattle.text.specs.Literal.{ascii}
use Rattle.tokens.specs.Cursor.{Tok, take_kind}
use Rattle.tokens.specs.Kind.{STRING}
use Rattle.tokens.specs.Result.{ok, refuse}
use Rattle.tokens.specs.Grammar.{Token, Word, a_word}
use Rattle.tokens.proofs.Okay.{Okay, pick-ok, word-yes, kind-complete}
use Rattle.references.proofs.NumberLaws.{Refuses, bind-refuses, kind-refuses}
use Rattle.model.specs.Limits.{longest_name}
use Rattle.model.specs.declared.Name.{Name}
use Rattle.topics.specs.Topic.{forbidden, topic_number}
use Rattle.language.specs.Trigger.{topic_at, mqtt_trigger}
use Rattle.language.specs.grammar.Trigger.{Topic}
use Rattle.language.proofs.WordLaws.{then-kind}

-- the number by the three tests: empty, forbidden, long
abbrev by_tests : Bool → Bool → Bool → ℕ
by_tests a b c = pick a 64 (pick b 64 (pick c 65 0))

by_tests_lem : (topic : List ℕ) → topic_number topic ≡ by_tests (eqb (length topic) 0) (forbidden topic) (ltb longest_name (length topic))
unfolding topic_number
by_tests_lem topic = refl

none : (a b c : Bool) → by_tests a b c ≡ 0 → (a ≡ false) × (b ≡ false) × (c ≡ false)
none true b c e = absurd (omega arith)
none false true c e = absurd (omega arith)
none false false true e = absurd (omega arith)
none false false false e = (refl, refl, refl)

-- bytes that get no number are a topic
pub topic-sound : (topic : List ℕ) → topic_number topic ≡ 0 → Topic topic
topic-sound topic e =
    let p = none (eqb (length topic) 0) (forbidden topic) (ltb longest_name (length topic)) (sym (by_tests_lem topic) ∙ e) in
    let some = eqb-false (length topic) 0 p.0 in
    record { some = omega arith; few = ltb-false _ _ p.2; allowed = p.1 }

topic-none : {topic : List ℕ} → Topic topic → topic_number topic ≡ 0
topic-none {topic} h =
    let some = h.some in rw (by_tests_lem topic, ne_eqb (length topic) 0 (λ e. omega arith), h.allowed, le-ltb longest_name _ h.few)

-- a string that is a topic
pub record TopicAt (t : ℕ → Tok) (i n j : ℕ) : Type 0 where
  pub string : Token t STRING i n j
  pub topic : Topic (t i).bytes

pub topic_at-sound : (t : ℕ → Tok) (i : ℕ) → Okay (TopicAt t i) (topic_at t i)
unfolding topic_at
topic_at-sound t i =
    let G = TopicAt t i in
    then-kind t G STRING i _
    (λ n j h.
    pick-ok G (eqb (topic_number (t i).bytes) 0) _ _ (λ e. record { string = h; topic = topic-sound _ (eqb-true _ _ e) }) (λ e. tt))

pub topic_at-complete : {t : ℕ → Tok} {i n j : ℕ} → Token t STRING i n j → Topic (t i).bytes → topic_at t i ≡ ok n j
unfolding topic_at
topic_at-complete {t} h topic = rw (kind-complete t refl h, topic-none topic)

-- "a following `is` stays with 40, at that `is`": whatever stands behind it
pub is-refused : {t : ℕ → Tok} (range : ℕ → Name) {i n j k : ℕ} → Token t STRING i n j → Topic (t i).bytes → Word t (ascii "is") j k →
    mqtt_trigger t range i ≡ refuse 40 j
unfolding mqtt_trigger
is-refused {t} range h topic (a_word p q) = rw (topic_at-complete h topic, word-yes t (a_word p q))

-- the numbers of topics
by_number : (P : ℕ → Type 0) (topic : List ℕ) → P 64 → P 65 → P 0 → P (topic_number topic)
by_number P topic p q r = rw (by_tests_lem topic) (by (eqb (length topic) 0) (forbidden topic) (ltb longest_name (length topic)))
  where
    by : (a b c : Bool) → P (by_tests a b c)
    by true b c = p
    by false true c = p
    by false false true = q
    by false false false = r

pub topic-refuses : (t : ℕ → Tok) (i : ℕ) → Refuses (topic_at t i)
unfolding topic_at Refuses
topic-refuses t i =
    bind-refuses (take_kind t STRING i) _ (kind-refuses t STRING i)
    (λ n j. by_number (λ number. Refuses (pick (eqb number 0) (ok n j) (refuse number i))) (t i).bytes refl refl tt)
