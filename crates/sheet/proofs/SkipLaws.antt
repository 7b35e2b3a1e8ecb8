-- Which lines of a sheet can be passed unread: those that are too short for a row with the name, and those that, without their CR, do not
-- end with a comma and the name. None of them changes a tally.
use mathlib.Core.Path.{◌≡◌, ◌∙◌, refl, sym, ap}
use mathlib.Core.Bool.{Bool, true, false, false≢true}
use mathlib.Core.List.{List, [], ◌∷◌, ◌++◌, append_assoc}
use Prim.Native.Nat.{ℕ, zero, suc, ◌+◌, ◌-◌, ◌<◌, ◌≤◌, max}
use native.Mathlib.Omega.{arith}
use native.Mathlib.Numerals.{add-one}
use lib.ListN.{length, take, drop, get_or, length-append, length-take, length-drop}
use lib.Seq.{split_at, drop-drop, drop-append-add, get_or-append_seam, take-add, take_all}
use lib.Dec.{ltb, leb, eqb}
use borrow.Author.Tests.{ltb-true, ltb-false}
use Rattle.std.specs.Prelude.{Option, Some, None}
use Rattle.text.specs.Find.{index_of}
use Rattle.text.specs.Choice.{pick}
use Rattle.text.specs.Literal.{ascii}
use Rattle.text.specs.Part.{part_of, same_bytes}
use Rattle.text.proofs.Tests.{picked}
use Rattle.text.proofs.PartLaws.{same_refl, same-eq, same_by}
use Rattle.text.specs.Find.{first_at}
use Rattle.model.specs.Limits.{last_adapter, last_party}
use Rattle.sheet.specs.Kind.{kind_of, most_of}
use Rattle.sheet.specs.Line.{without_return, field, rest, has_comma, numeral, is_name, checked_row, read_row, primary_of, adapter_of, party_by, party_of, line_by, bare_line, bare_name, line_of, name_of}
use Rattle.sheet.specs.Sheet.{line_end}
use Rattle.sheet.specs.Tally.{line_tally_by, line_tally, ends_with, Passed}
use Rattle.sheet.specs.declared.line.Line.{Line}
use Rattle.sheet.specs.declared.line.Line.TheVariants.{Primary, Adapter, Party, Row}
use Rattle.sheet.specs.declared.resolve.Scope.{Scope}
use Rattle.sheet.specs.declared.resolve.Tally.{Tally}
use Rattle.text.proofs.FindLaws.{index-found, first-from, first_past, first-same}
use Rattle.text.proofs.SplitLaws.{split-none}
use Rattle.sheet.proofs.LineLaws.{given}
use Rattle.sheet.proofs.ReturnLaws.{return_length, return_behind}
use Rattle.sheet.proofs.ResolveLaws.{tally-on}

-- l ends with a comma and x, and has least bytes or more before these
record Behind (least : ℕ) (l x : List ℕ) : Type 0 where
  front : List ℕ
  far : least ≤ length front
  is : l ≡ front ++ 0x2C ∷ x

-- what is behind the first comma, and what is behind another comma in that
behind-field : (least : ℕ) (l : List ℕ) → has_comma l ≡ true → least ≤ length (field l) → Behind least l (rest l)
unfolding has_comma field rest
behind-field least l e h =
    let i = index_of 0x2C l in
    let k = ltb-true i (length l) e in
    record { front = field l; far = h; is = rw (index-found 0x2C l k, ← (add-one i)) at (split_at l i 0 k) }

behind-both : {m n : ℕ} {l x y : List ℕ} → Behind m l x → Behind n x y → Behind (m + 1 + n) l y
behind-both b c =
    record {
      front = b.front ++ 0x2C ∷ c.front;
      far = simp length-append (omega (arith, b.far, c.far));
      is = b.is ∙ rw c.is (sym (append_assoc b.front (0x2C ∷ c.front) _));
    }

-- A, if the line says a row
abbrev IfRow : Type 0 → Option Line → Type 0
IfRow A (Some (Row kind adapter number)) = A
IfRow A (Some (Primary a)) = Unit {0}
IfRow A (Some (Adapter a)) = Unit {0}
IfRow A (Some (Party a party)) = Unit {0}
IfRow A None = Unit {0}

-- a kind's word has four bytes or more, a number one
kind-long : (w : List ℕ) {kind : ℕ} → kind_of w ≡ Some kind → 4 ≤ length w
unfolding kind_of
kind-long w {kind} =
    let P : Option ℕ → Type 0 = λ k. k ≡ Some kind → 4 ≤ length w in
    picked P (same_bytes w (ascii "lamp")) (λ e _. rw (same-eq w _ e) (omega arith))
    (λ _.
    picked P (same_bytes w (ascii "group")) (λ e _. rw (same-eq w _ e) (omega arith))
    (λ _.
    picked P (same_bytes w (ascii "device")) (λ e _. rw (same-eq w _ e) (omega arith))
    (λ _.
    picked P (same_bytes w (ascii "input")) (λ e _. rw (same-eq w _ e) (omega arith)) (λ _ n. cc))))

numeral-long : (l : List ℕ) {n : ℕ} → numeral l ≡ Some n → 1 ≤ length l
unfolding numeral
numeral-long [] e = cc
numeral-long (c ∷ l) e = omega arith

-- under a test without which the line is bad
guarded : (A : Type 0) (t : Bool) (x : Option Line) → (t ≡ true → IfRow A x) → IfRow A (pick t x None)
guarded A true x f = f refl
guarded A false x f = tt

-- so in a row at least `lamp,0,0` stands before the last comma and the name
row-parted : (A : Type 0) (kind : ℕ) (l : List ℕ) → (Behind 3 l (rest (rest l)) → A) → IfRow A (read_row kind l)
unfolding read_row checked_row
row-parted A kind l f =
    guarded A (has_comma l) _
    (λ first.
    guarded A (has_comma (rest l)) _
    (λ second.
    given (IfRow A) _ (numeral (field l)) tt
    (λ a adapter.
    given (IfRow A) _ (numeral (field (rest l))) tt
    (λ n number.
    guarded A (leb a last_adapter) _
    (λ _.
    guarded A (leb n (most_of kind)) _
    (λ _.
    guarded A (is_name (rest (rest l))) _
    (λ _. f (behind-both (behind-field 1 l first (numeral-long _ adapter)) (behind-field 1 (rest l) second (numeral-long _ number))))))))))

party-parted : (A : Type 0) (l : List ℕ) → IfRow A (party_of l)
unfolding party_of party_by
party-parted A l =
    guarded A (has_comma l) _
    (λ _.
    given (IfRow A) _ (numeral (field l)) tt
    (λ a _.
    given (IfRow A) _ (numeral (rest l)) tt
    (λ p _. guarded A (leb a last_adapter) _ (λ _. guarded A (leb p last_party) _ (λ _. tt)))))

bare-parted : (l : List ℕ) → IfRow (Behind 8 l (bare_name l)) (bare_line l)
unfolding bare_line line_by bare_name primary_of adapter_of
bare-parted l =
    let A : Type 0 = Behind 8 l (bare_name l) in
    guarded A (has_comma l) _
    (λ comma.
    picked (IfRow A) (same_bytes (field l) (ascii "primary"))
    (λ _. given (IfRow A) _ (numeral (rest l)) tt (λ a _. guarded A (leb a last_adapter) _ (λ _. tt)))
    (λ _.
    picked (IfRow A) (same_bytes (field l) (ascii "adapter"))
    (λ _. given (IfRow A) _ (numeral (rest l)) tt (λ a _. guarded A (leb a last_adapter) _ (λ _. tt)))
    (λ _.
    picked (IfRow A) (same_bytes (field l) (ascii "party")) (λ _. party-parted A (rest l))
    (λ _.
    given (IfRow A) _ (kind_of (field l)) tt
    (λ kind some.
    row-parted A kind (rest l)
    (λ b. behind-both (behind-field 4 l comma (kind-long _ some)) b))))))

-- a line without its CR ends with a comma and the name, as a row with the name does
abbrev Named : List ℕ → List ℕ → Type 0
Named name l = Behind 8 (without_return l) name

line-parted : (l : List ℕ) → IfRow (Named (name_of l) l) (line_of l)
unfolding line_of name_of
line-parted l = bare-parted (without_return l)

-- and a line changes no tally unless it is so
kept_by : (own : ℕ → Bool) (kind : ℕ) (name : List ℕ) (scope : Scope) (t : Tally) (l written : List ℕ) (x : Option Line) →
    IfRow (Named written l) x → (Named name l → ⊥) → t ≡ line_tally_by own kind name scope t written x
kept_by own kind name scope t l written (Some (Row k adapter number)) b n =
    let P : Tally → Type 0 = λ u. t ≡ u in
    picked P (eqb k kind)
    (λ _.
    picked P (own adapter)
    (λ _. picked P (same_bytes written name) (λ e. absurd (n (rw (same-eq written name e) at b))) (λ _. refl))
    (λ _. refl))
    (λ _. refl)
kept_by own kind name scope t l written (Some (Primary a)) b n = refl
kept_by own kind name scope t l written (Some (Adapter a)) b n = refl
kept_by own kind name scope t l written (Some (Party a party)) b n = refl
kept_by own kind name scope t l written None b n = refl

kept : (own : ℕ → Bool) (kind : ℕ) (name : List ℕ) (scope : Scope) (t : Tally) (l : List ℕ) → (Named name l → ⊥) →
    t ≡ line_tally own kind name scope t l
unfolding line_tally
kept own kind name scope t l n = kept_by own kind name scope t l (name_of l) (line_of l) (line-parted l) n

-- a line that is so has its bytes
named-long : (name l : List ℕ) → Named name l → length name + 9 ≤ length l
named-long name l b = omega (arith, b.far, ap length b.is, length-append b.front (0x2C ∷ name), return_length l)

-- and bytes that end with such a line end as it does
named-within : (name a l : List ℕ) → Named name l → Named name (a ++ l)
named-within name a l b =
    record {
      front = a ++ b.front;
      far = simp length-append (omega (arith, b.far));
      is = return_behind a l (omega (arith, named-long name l b)) ∙ ap (λ (x : List ℕ). a ++ x) b.is ∙ sym (append_assoc a b.front _);
    }

named-part : (name s : List ℕ) (from at end : ℕ) → from ≤ at → at ≤ end → Named name (part_of s at end) → Named name (part_of s from end)
unfolding part_of
named-part name s from at end h k b =
    let m : end - from ≡ (at - from) + (end - at) = omega arith in
    let n : from + (at - from) ≡ at = omega arith in
    rw (m, take-add, drop-drop, n) (named-within name (take (at - from) (drop from s)) (part_of s at end) b)

part-short : (s : List ℕ) (at end : ℕ) → length (part_of s at end) ≤ end - at
unfolding part_of
part-short s at end = simp length-take (omega arith)

-- what the code asks: a line is too short to end with the name, or its last bytes are compared with it
module _ (l name : List ℕ) where
  pub ends-short : length l < length name → false ≡ ends_with l name
  unfolding ends_with
  ends-short h =
      let e : length l - length name ≡ 0 = omega arith in
      rw e (same_by l name false (λ k. absurd (false≢true k)) (λ k. absurd (omega (arith, ap length k))))

  pub ends-compared : {start : ℕ} {r : Bool} → start ≡ length l - length name → r ≡ same_bytes (take (length l - start) (drop start l)) name → r ≡ ends_with l name
  unfolding ends_with
  ends-compared {start} e s = rw (← e, ← (take_all (length l - start) (drop start l) (simp length-drop (omega arith)))) s

-- where a line ends with a comma and the name, the code finds both
abbrev pub Ends : List ℕ → List ℕ → Type 0
Ends name l = (get_or l (length l - length name - 1) 0 ≡ 0x2C) × (ends_with l name ≡ true)

behind-ends : (least : ℕ) (name l : List ℕ) → Behind least l name → Ends name l
unfolding ends_with
behind-ends least name l b =
    let n = length b.front in
    let size = ap length b.is ∙ length-append b.front (0x2C ∷ name) in
    let comma : length l - length name - 1 ≡ n = omega arith in
    let start : length l - length name ≡ n + 1 = omega arith in (
      rw (comma, b.is) (get_or-append_seam b.front 0x2C name 0),
      rw (start, b.is, drop-append-add b.front (0x2C ∷ name) 1) (same_refl name),
    )

-- A, whichever of two numbers is the greater
pub by_order : {A : Type 0} (m n : ℕ) → (m < n → A) → (n ≤ m → A) → A
by_order {A} m n f g = picked (λ (_ : ℕ). A) (ltb m n) {a = 0} {b = 0} (λ e. f (ltb-true m n e)) (λ e. g (ltb-false m n e))

module _ (name s : List ℕ) where
  passed_on : (from at to : ℕ) → Passed name s from at → Passed name s at to → Passed name s from to
  passed_on from at to p q own kind scope t = q own kind scope t ∙ p own kind scope t

  -- past the end there is no line
  passed_none : (from at : ℕ) → length s ≤ from → length s ≤ at → Passed name s from at
  passed_none from at h k own kind scope t = rw (split-none 0x0A s from h, split-none 0x0A s at k)

  -- one line
  passed-line : (at : ℕ) {end : ℕ} → end ≡ line_end s at → (Named name (part_of s at end) → ⊥) → Passed name s at (end + 1)
  passed-line at {end} e n =
      by_order at (length s)
      (λ h own kind scope t. tally-on kind name scope own s at t refl h e refl (kept own kind name scope t (part_of s at end) n))
      (λ past.
      let last = first_past 0x0A s at past in
      passed_none at (end + 1) past (omega arith))

  -- too few bytes for a row with the name
  few : (at end : ℕ) → end < at + (length name + 9) → Named name (part_of s at end) → ⊥
  few at end h b = omega (arith, named-long name _ b, part-short s at end)

  -- all lines up to the one that ends behind p, where the others are too short for the name; n is above the bytes from at to p
  module _ (p : ℕ) {end : ℕ} (inside : p ≤ length s) (is : end ≡ line_end s p) where
    passed_lines : (n at : ℕ) → p < at + n → at ≤ p → p ≤ at + (length name + 9) → (Named name (part_of s at end) → ⊥) → Passed name s at (end + 1)
    passed_lines zero at h k l f = absurd (omega arith)
    passed_lines (suc n) at h k l f =
        let begins = first-from 0x0A s at (omega arith) in
        let ends = first-from 0x0A s p inside in
        by_order (first_at 0x0A s at) p
        (λ before.
        let next = first_at 0x0A s at + 1 in
        passed_on at next (end + 1)
        (passed-line at refl (few at _ (omega arith)))
        (passed_lines n next (omega arith) (omega arith) (omega arith) (λ b. f (named-part name s at next end (omega arith) (omega arith) b))))
        (λ beyond.
        let e : at + (p - at) ≡ p = omega arith in
        passed-line at (is ∙ rw e at (first-same 0x0A s at (p - at) (omega arith))) f)

  module _ (from at : ℕ) (passed : Passed name s from at) where
    -- fewer bytes are left than a row with the name has
    passed-rest : at ≤ length s → length s < at + (length name + 9) → Passed name s from (length s)
    passed-rest h k =
        let n = length s in
        passed_on from at n passed
        (passed_on at (n + 1) n
        (passed_lines n (omega arith) (first_past 0x0A s n (omega arith)) (n + 1) at (omega arith) h (omega arith) (few at n k))
        (passed_none (n + 1) n (omega arith) (omega arith)))

    pub passed-end : {end : ℕ} → end ≡ max at (length s) → length s < at + (length name + 9) → Passed name s from end
    passed-end e h =
        by_order at (length s)
        (λ before.
        let m : max at (length s) ≡ length s = omega arith in
        rw (e, m) (passed-rest (omega arith) h))
        (λ past.
        let m : max at (length s) ≡ at = omega arith in
        rw (e, m) passed)

    -- the line that ends behind the next so many bytes does not, without its CR, end with a comma and the name
    pub passed-more : {end : ℕ} {l : List ℕ} → at + (length name + 9) ≤ length s → end ≡ line_end s (at + (length name + 9)) →
        l ≡ without_return (take end s) → (Ends name l → ⊥) → Passed name s from (end + 1)
    unfolding part_of
    passed-more {end} h e d n =
        let least = length name + 9 in
        let far = first-from 0x0A s (at + least) h in
        let whole : end - 0 ≡ end = omega arith in
        passed_on from at (end + 1) passed
        (passed_lines (at + least) h e (least + 1) at (omega arith) (omega arith) (omega arith)
        (λ b. n (rw d (behind-ends 8 name _ (rw whole at (named-part name s 0 at end (omega arith) (omega arith) b))))))
