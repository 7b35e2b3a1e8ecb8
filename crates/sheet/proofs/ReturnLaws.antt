-- Laws on a line without its CR. A CR belongs to the line's end only as the last byte: one that stands elsewhere makes any line bad.
use mathlib.Core.Path.{◌≡◌, ◌∙◌, refl, sym, ap}
use mathlib.Core.Bool.{Bool, true, false, false≢true}
use mathlib.Core.List.{List, [], ◌∷◌, ◌++◌, append-nil}
use Prim.Native.Nat.{ℕ, zero, suc, ◌+◌, ◌-◌, ◌*◌, ◌<◌, ◌≤◌}
use native.Mathlib.Omega.{arith}
use native.Mathlib.Nat.{suc-add}
use lib.ListN.{length, take, drop, get_or, length-append, length-take}
use lib.Seq.{take-append-add, get_or-append-add}
use lib.Dec.{eqb, ltb, leb}
use borrow.Author.Tests.{leb-true, eqb-true, eq-eqb, ne_eqb}
use Rattle.std.specs.Prelude.{Option, None}
use Rattle.text.specs.Find.{index_of, index_after}
use Rattle.text.specs.Choice.{pick, within}
use Rattle.text.specs.Literal.{ascii}
use Rattle.text.specs.Part.{same_bytes}
use Rattle.text.specs.Ascii.{is_digit}
use Rattle.text.proofs.Tests.{picked, pick_same, both}
use Rattle.text.proofs.PartLaws.{same-eq}
use Rattle.model.specs.Limits.{last_adapter, longest_name}
use Rattle.sheet.specs.Kind.{kind_of, most_of}
use Rattle.sheet.specs.Line.{without_return, field, rest, has_comma, digits_on, numeral, is_mark, plain, is_name, checked_row, read_row, party_of, line_by, bare_line, line_of, name_of}
use Rattle.sheet.specs.declared.line.Line.{Line}
use Rattle.sheet.proofs.LineLaws.{given, return_not}

-- ---- the end

-- a choice that is put to a use
pub use-pick : {A B : Type 0} (f : A → B) (t : Bool) (a b : A) → f (pick t a b) ≡ pick t (f a) (f b)
use-pick f true a b = refl
use-pick f false a b = refl

-- a line is shorter by one byte at most
pub return_length : (l : List ℕ) → (length (without_return l) ≤ length l) × (length l ≤ length (without_return l) + 1)
unfolding without_return
return_length l =
    picked (λ (x : List ℕ). (length x ≤ length l) × (length l ≤ length x + 1)) (eqb (get_or l (length l - 1) 0) 0x0D)
    (λ _. (simp length-take (omega arith), simp length-take (omega arith)))
    (λ _. (omega arith, omega arith))

-- only the last byte counts
pub return_behind : (a l : List ℕ) → 0 < length l → without_return (a ++ l) ≡ a ++ without_return l
unfolding without_return
return_behind a l h =
    let n = length l - 1 in
    let last : length (a ++ l) - 1 ≡ length a + n = simp length-append (omega arith) in
    rw (last, get_or-append-add a l n 0, take-append-add a l n) (sym (use-pick (λ (x : List ℕ). a ++ x) (eqb (get_or l n 0) 0x0D) (take n l) l))

-- ---- a CR elsewhere

-- whether a byte stands in a line
unfoldable pub holds : ℕ → List ℕ → Bool
holds b [] = false
holds b (c ∷ l) = pick (eqb c b) true (holds b l)

-- one of two, or one of three
either-of : (t : Bool) {u : Bool} {A : Type 0} → pick t true u ≡ true → (t ≡ true → A) → (u ≡ true → A) → A
either-of true e f g = f refl
either-of false e f g = g e

of_three : (t u v : Bool) → pick t true (pick u true v) ≡ pick (pick t true u) true v
of_three true u v = refl
of_three false u v = refl

-- it stands in the first field or behind the comma
parted-by : (c : ℕ) (l : List ℕ) (t : Bool) → eqb c 0x2C ≡ t →
    holds 0x0D l ≡ pick (holds 0x0D (take (index_of 0x2C l) l)) true (holds 0x0D (drop (index_of 0x2C l + 1) l)) →
    holds 0x0D (c ∷ l)
    ≡ pick (holds 0x0D (take (index_after t (index_of 0x2C l)) (c ∷ l))) true (holds 0x0D (drop (index_after t (index_of 0x2C l) + 1) (c ∷ l)))
unfolding holds index_after
parted-by c l true e h =
    let is = eqb-true c 0x2C e in
    rw (ne_eqb c 0x0D (λ k. omega arith))
parted-by c l false e h = rw (suc-add, h) (of_three (eqb c 0x0D) _ _)

holds-parted : (l : List ℕ) → holds 0x0D l ≡ pick (holds 0x0D (field l)) true (holds 0x0D (rest l))
unfolding field rest holds index_of
holds-parted [] = refl
holds-parted (c ∷ l) = parted-by c l (eqb c 0x2C) refl (holds-parted l)

by_parts : {A : Type 0} (l : List ℕ) → holds 0x0D l ≡ true → (holds 0x0D (field l) ≡ true → A) → (holds 0x0D (rest l) ≡ true → A) → A
by_parts l h f g = either-of (holds 0x0D (field l)) (sym (holds-parted l) ∙ h) f g

-- no number has one, no name and no word
digits_return : (v : ℕ) (l : List ℕ) → holds 0x0D l ≡ true → digits_on v l ≡ None
unfolding holds digits_on is_digit
digits_return v [] h = absurd (false≢true h)
digits_return v (c ∷ l) h =
    let P : Option ℕ → Type 0 = λ n. n ≡ None in
    picked P (is_digit c)
    (λ digit.
    picked P (ltb 999 (v * 10 + (c - 0x30))) (λ _. refl)
    (λ _.
    let k = leb-true 0x30 c (both (leb 0x30 c) digit).0 in
    digits_return (v * 10 + (c - 0x30)) l (rw (ne_eqb c 0x0D (λ e. omega arith)) at h)))
    (λ _. refl)

numeral_return : (l : List ℕ) → holds 0x0D l ≡ true → numeral l ≡ None
unfolding holds numeral
numeral_return [] h = refl
numeral_return (c ∷ []) h =
    picked (λ (n : Option ℕ). n ≡ None) (eqb c 0x30)
    (λ e.
    let is = eqb-true c 0x30 e in
    absurd (false≢true (rw (ne_eqb c 0x0D (λ k. omega arith)) at h)))
    (λ _. digits_return 0 (c ∷ []) h)
numeral_return (c ∷ d ∷ l) h =
    picked (λ (n : Option ℕ). n ≡ None) (eqb c 0x30) (λ _. rw (ne_eqb (suc (length l)) 0 (λ e. omega arith))) (λ _. digits_return 0 (c ∷ d ∷ l) h)

plain_return : (l : List ℕ) → holds 0x0D l ≡ true → plain l ≡ false
unfolding holds plain is_mark
plain_return [] h = absurd (false≢true h)
plain_return (c ∷ l) h =
    either-of (eqb c 0x0D) h
    (λ e. rw (e, pick_same (eqb c 0x22) true))
    (λ k. rw (plain_return l k) (pick_same (is_mark c) false))

name_return : (l : List ℕ) → holds 0x0D l ≡ true → is_name l ≡ false
unfolding is_name
name_return l h = rw (plain_return l h) (pick_same (within 1 longest_name (length l)) false)

word-by : (w k : List ℕ) (t : Bool) → same_bytes w k ≡ t → holds 0x0D w ≡ true → holds 0x0D k ≡ false → t ≡ false
word-by w k true e h n = absurd (false≢true (sym n ∙ ap (holds 0x0D) (sym (same-eq w k e)) ∙ h))
word-by w k false e h n = refl

word_return : (w k : List ℕ) → holds 0x0D w ≡ true → holds 0x0D k ≡ false → same_bytes w k ≡ false
word_return w k h n = word-by w k (same_bytes w k) refl h n

-- so no line has one
abbrev IsBad : Option Line → Type 0
IsBad x = x ≡ None

bad_if : (t : Bool) {l : Option Line} → l ≡ None → pick t l None ≡ None
bad_if true e = e
bad_if false e = refl

field-bad : (w l : List ℕ) → holds 0x0D w ≡ true → line_by w l ≡ None
unfolding line_by kind_of holds
field-bad w l h =
    let no : (k : List ℕ) → holds 0x0D k ≡ false → same_bytes w k ≡ false = λ k n. word_return w k h n in
    rw
    (no (ascii "primary") refl, no (ascii "adapter") refl, no (ascii "party") refl, no (ascii "lamp") refl, no (ascii "group") refl, no (ascii "device") refl, no (ascii "input") refl)

party-bad : (l : List ℕ) → holds 0x0D l ≡ true → party_of l ≡ None
unfolding party_of
party-bad l h =
    bad_if (has_comma l)
    (by_parts l h
    (λ k. rw (numeral_return (field l) k))
    (λ k. given IsBad _ (numeral (field l)) refl (λ a _. rw (numeral_return (rest l) k))))

row-bad : (kind : ℕ) (l : List ℕ) → holds 0x0D l ≡ true → read_row kind l ≡ None
unfolding read_row checked_row
row-bad kind l h =
    bad_if (has_comma l)
    (bad_if (has_comma (rest l))
    (by_parts l h
    (λ k. rw (numeral_return (field l) k))
    (λ k.
    given IsBad _ (numeral (field l)) refl
    (λ a _.
    by_parts (rest l) k
    (λ m. rw (numeral_return (field (rest l)) m))
    (λ m.
    given IsBad _ (numeral (field (rest l))) refl
    (λ n _. bad_if (leb a last_adapter) (bad_if (leb n (most_of kind)) (rw (name_return (rest (rest l)) m)))))))))

rest-bad : (w l : List ℕ) → holds 0x0D l ≡ true → line_by w l ≡ None
unfolding line_by
rest-bad w l h =
    picked IsBad (same_bytes w (ascii "primary")) (λ _. rw (numeral_return l h))
    (λ _.
    picked IsBad (same_bytes w (ascii "adapter")) (λ _. rw (numeral_return l h))
    (λ _.
    picked IsBad (same_bytes w (ascii "party")) (λ _. party-bad l h)
    (λ _. given IsBad _ (kind_of w) refl (λ kind _. row-bad kind l h))))

bare-bad : (l : List ℕ) → holds 0x0D l ≡ true → bare_line l ≡ None
unfolding bare_line
bare-bad l h = bad_if (has_comma l) (by_parts l h (λ k. field-bad (field l) (rest l) k) (λ k. rest-bad (field l) (rest l) k))

holds_in : (b : ℕ) (a l : List ℕ) → holds b (a ++ b ∷ l) ≡ true
unfolding holds
holds_in b [] l = rw (eq-eqb b b refl)
holds_in b (c ∷ a) l = rw (holds_in b a l) (pick_same (eqb c b) true)

-- a line is bad that has a CR with something behind it, be it another CR
pub other_return : (a b : List ℕ) → 0 < length b → line_of (a ++ 0x0D ∷ b) ≡ None
unfolding line_of
other_return a b h =
    rw (return_behind a (0x0D ∷ b) (omega arith), return_behind (0x0D ∷ []) b h) (bare-bad (a ++ 0x0D ∷ without_return b) (holds_in 0x0D a (without_return b)))

-- ---- a CR at the end

-- a line without CR has none to be taken off
pub neither : (t : Bool) {u : Bool} → pick t true u ≡ false → (t ≡ false) × (u ≡ false)
neither true e = absurd (false≢true (sym e))
neither false e = (refl, e)

none-at : (l : List ℕ) (n : ℕ) → holds 0x0D l ≡ false → get_or l n 0 ≡ 0x0D → ⊥
unfolding holds
none-at [] n h e = omega arith
none-at (c ∷ l) zero h e = false≢true (sym h ∙ rw (eq-eqb c 0x0D e))
none-at (c ∷ l) (suc n) h e = none-at l n (neither (eqb c 0x0D) h).1 e

pub return_free : (l : List ℕ) → holds 0x0D l ≡ false → without_return l ≡ l
return_free l h = sym (return_not l (none-at l (length l - 1) h))

-- and one that is put behind it changes nothing
return_added : (l : List ℕ) → without_return (l ++ 0x0D ∷ []) ≡ l
unfolding without_return
return_added l = return_behind l (0x0D ∷ []) (omega arith) ∙ append-nil l

pub with_return : (l : List ℕ) → holds 0x0D l ≡ false → (line_of (l ++ 0x0D ∷ []) ≡ line_of l) × (name_of (l ++ 0x0D ∷ []) ≡ name_of l)
unfolding line_of name_of
with_return l h = (rw (return_added l, return_free l h), rw (return_added l, return_free l h))
