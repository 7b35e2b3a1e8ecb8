-- Bytes that are characters, none of them a quote or LF, pass the test of a string, and a name that shows them passes that of a name
-- (writing/specs/Possible.antt).
use Prim.Native.Nat.{ℕ, zero, suc, ◌+◌, ◌<◌, ◌≤◌}
use native.Mathlib.Omega.{arith}
use native.Mathlib.Numerals.{add-one}
use mathlib.Core.Path.{◌≡◌, ◌∙◌, refl, ap, sym}
use mathlib.Core.Bool.{true, false}
use mathlib.Core.List.{List}
use lib.ListN.{length, get_or, length-take, length-drop}
use borrow.Author.Tests.{le-leb, le-ltb, ne_eqb}
use Rattle.text.specs.Find.{first_at}
use Rattle.text.specs.Part.{part_of}
use Rattle.text.specs.Rfc3629.{Utf8Octets}
use Rattle.text.proofs.FindLaws.{first_next, first_past}
use Rattle.tokens.specs.Rules.{Without}
use Rattle.topics.specs.Ranges.{name_in}
use Rattle.topics.specs.Topic.{topic_number}
use Rattle.model.specs.declared.Name.{Name}
use Rattle.language.specs.grammar.Trigger.{Topic}
use Rattle.language.proofs.Theorem.{passes}
use Rattle.writing.specs.Possible.{is_inside, is_well_formed, has_byte, is_string, possible_string, possible_topic}
use Rattle.rereading.proofs.PossibleLaws.{holds}

-- ---- bytes

without_at : {b : ℕ} {s : List ℕ} → Without b s → (i : ℕ) → i < length s → get_or s i 0 ≡ b → ⊥
without_at Without.none i h e = omega arith
without_at (Without.more k w) zero h e = k e
without_at (Without.more k w) (suc i) h e = without_at w i (omega arith) e

-- up to the end, none is found
none_before : {b : ℕ} {s : List ℕ} → Without b s → (i : ℕ) → i ≤ length s → first_at b s i ≡ first_at b s 0
none_before w zero h = refl
none_before {b} {s} w (suc i) h =
    rw (← (add-one i)) (first_next b s i (omega arith) (without_at w i (omega arith)) ∙ none_before w i (omega arith))

lacks : {b : ℕ} {s : List ℕ} → Without b s → has_byte b s ≡ false
unfolding has_byte
lacks {b} {s} w =
    le-ltb (first_at b s 0) (length s) (omega (arith, none_before w (length s) (omega arith), first_past b s (length s) (omega arith)))

pub string-passes : {s cs : List ℕ} → Utf8Octets s cs → Without 0x22 s → Without 0x0A s → is_string s ≡ true
unfolding is_string is_well_formed
string-passes o h k = rw (lacks h, lacks k, passes o)

-- ---- names

-- a name inside its text has as many bytes as it says
pub name-length : (text : List ℕ) (n : Name) → n.start + n.length ≤ length text → length (name_in text n) ≡ n.length
unfolding name_in part_of
name-length text n h = simp (length-take, length-drop) (omega arith)

-- the name stands inside its text and shows these bytes, which a string can have
pub record ShowsString (text : List ℕ) (n : Name) (bytes : List ℕ) : Type 0 where
  pub inside : n.start + n.length ≤ length text
  pub shows : name_in text n ≡ bytes
  pub is : is_string bytes ≡ true

module _ {text : List ℕ} {n : Name} {bytes : List ℕ} (s : ShowsString text n bytes) where
  pub string-possible : (least most : ℕ) → least ≤ length bytes → length bytes ≤ most → possible_string text least most n ≡ true
  unfolding possible_string is_inside
  string-possible least most h k =
      let e : n.length ≡ length bytes = sym (name-length text n s.inside) ∙ ap length s.shows in
      holds (le-leb _ _ s.inside)
      (holds (holds (le-leb least n.length (omega arith)) (le-leb n.length most (omega arith))) (rw s.shows s.is))

  pub topic-possible : Topic bytes → possible_topic text n ≡ true
  unfolding possible_topic topic_number
  topic-possible t =
      holds (string-possible _ _ t.some t.few)
      (rw (s.shows, ne_eqb (length bytes) 0 (λ e. omega (arith, t.some)), t.allowed, le-ltb _ _ t.few))
