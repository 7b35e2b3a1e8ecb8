-- The decoder of specs/Utf8.antt answers exactly as the rules of specs/Rfc3629.antt say: what they accept it decodes (complete), what
-- it decodes they accept (sound), so it gives the one answer that they allow (stands, stands_one).
use mathlib.Core.Path.{◌≡◌, ◌∙◌, refl, ap, sym}
use mathlib.Core.Bool.{Bool, true, false≢true}
use Prim.Native.Nat.{ℕ, zero, suc, ◌+◌, ◌*◌, ◌%◌, ◌<◌, ◌≤◌}
use native.Mathlib.Omega.{arith}
use native.Mathlib.Decide.{dec_lt}
use mathlib.Core.List.{List, [], ◌∷◌, ◌++◌}
use lib.ListN.{length, get_or, take, drop, length-drop}
use lib.Seq.{take-append_seam}
use lib.Dec.{ltb, leb, eqb}
use borrow.Author.Tests.{ltb-true, ltb-false, leb-true, eqb-true, eqb-false, lt-ltb, le-ltb, le-leb, ne_eqb}
use Rattle.text.specs.Choice.{within}
use Rattle.text.specs.Rfc3629.{Octet, Tail, Utf8Char, Starts, StartsNone, Stands, char, bad, end}
use Rattle.text.specs.Rfc3629.{utf8_1, utf8_2, utf8_3_e0, utf8_3_e1, utf8_3_ed, utf8_3_ee, utf8_4_f0, utf8_4_f1, utf8_4_f4}
use Rattle.text.specs.Utf8.{sequence_length, is_tail, is_second, two, three, four, sized, front, decode_at}
use Rattle.text.specs.declared.utf8.Decoded.{Decoded}
use Rattle.text.specs.declared.utf8.Decoded.TheVariants.{Char, Bad, End}
use Rattle.text.proofs.Tests.{picked}
use Rattle.text.proofs.Utf8Laws.{decode-end}

-- ---- the tests on a byte, and what they tell

octet : {low high : ℕ} (a : ℕ) → low ≤ a → a ≤ high → Octet low high a
octet a h k = record { low_end = h; high_end = k }

octet-test : (low high : ℕ) {b : ℕ} → Octet low high b → within low high b ≡ true
octet-test low high {b} o = rw (le-leb low b o.low_end, le-leb b high o.high_end)

octet-told : (low high b : ℕ) → within low high b ≡ true → Octet low high b
octet-told low high b =
    picked (λ (t : Bool). t ≡ true → Octet low high b) (leb low b) (λ h k. octet b (leb-true low b h) (leb-true b high k))
    (λ h k. absurd (false≢true k))

tail-test : {b : ℕ} → Tail b → is_tail b ≡ true
unfolding is_tail
tail-test t = octet-test 0x80 0xBF t

tail-told : (b : ℕ) → is_tail b ≡ true → Tail b
unfolding is_tail
tail-told b = octet-told 0x80 0xBF b

-- a second byte, by the lead bytes that is_second singles out
data Second (a b : ℕ) : Type 0 where
  in_e0 : a ≡ 0xE0 → Octet 0xA0 0xBF b → Second a b
  in_ed : a ≡ 0xED → Octet 0x80 0x9F b → Second a b
  in_f0 : a ≡ 0xF0 → Octet 0x90 0xBF b → Second a b
  in_f4 : a ≡ 0xF4 → Octet 0x80 0x8F b → Second a b
  other : (a ≡ 0xE0 → ⊥) → (a ≡ 0xED → ⊥) → (a ≡ 0xF0 → ⊥) → (a ≡ 0xF4 → ⊥) → Tail b → Second a b

second-test : {a b : ℕ} → Second a b → is_second a b ≡ true
unfolding is_second
second-test (in_e0 e o) = rw e (octet-test 0xA0 0xBF o)
second-test (in_ed e o) = rw e (octet-test 0x80 0x9F o)
second-test (in_f0 e o) = rw e (octet-test 0x90 0xBF o)
second-test (in_f4 e o) = rw e (octet-test 0x80 0x8F o)
second-test {a} (other h k m n t) = rw (ne_eqb a 0xE0 h, ne_eqb a 0xED k, ne_eqb a 0xF0 m, ne_eqb a 0xF4 n) (tail-test t)

second-told : (a b : ℕ) → is_second a b ≡ true → Second a b
unfolding is_second
second-told a b =
    let P : Bool → Type 0 = λ t. t ≡ true → Second a b in
    picked P (eqb a 0xE0) (λ e h. in_e0 (eqb-true a 0xE0 e) (octet-told 0xA0 0xBF b h))
    (λ e. picked P (eqb a 0xED) (λ f h. in_ed (eqb-true a 0xED f) (octet-told 0x80 0x9F b h))
    (λ f. picked P (eqb a 0xF0) (λ g h. in_f0 (eqb-true a 0xF0 g) (octet-told 0x90 0xBF b h))
    (λ g. picked P (eqb a 0xF4) (λ i h. in_f4 (eqb-true a 0xF4 i) (octet-told 0x80 0x8F b h))
    (λ i h. other (eqb-false a 0xE0 e) (eqb-false a 0xED f) (eqb-false a 0xF0 g) (eqb-false a 0xF4 i) (tail-told b h)))))

-- ---- what the rules accept is decoded

one-decoded : (a at : ℕ) (v : List ℕ) → a < 0x80 → front at (a ∷ v) ≡ Char a (at + 1)
unfolding front sized sequence_length
one-decoded a at v h = rw (lt-ltb a 0x80 h)

two-decoded : (a b at : ℕ) (v : List ℕ) → 0xC2 ≤ a → a < 0xE0 → Tail b →
    front at (a ∷ b ∷ v) ≡ Char (a % 32 * 64 + b % 64) (at + 2)
unfolding front sized sequence_length two
two-decoded a b at v h k p =
    rw (le-ltb a 0x80 (omega arith), le-ltb a 0xC0 (omega arith), lt-ltb a 0xE0 k, le-ltb a 0xC2 h, tail-test p)

three-decoded : (a b c at : ℕ) (v : List ℕ) → 0xE0 ≤ a → a < 0xF0 → Second a b → Tail c →
    front at (a ∷ b ∷ c ∷ v) ≡ Char ((a % 16 * 64 + b % 64) * 64 + c % 64) (at + 3)
unfolding front sized sequence_length three
three-decoded a b c at v h k p q =
    rw (le-ltb a 0x80 (omega arith), le-ltb a 0xC0 (omega arith), le-ltb a 0xE0 h, lt-ltb a 0xF0 k, second-test p, tail-test q)

four-decoded : (a b c d at : ℕ) (v : List ℕ) → 0xF0 ≤ a → a ≤ 0xF4 → Second a b → Tail c → Tail d →
    front at (a ∷ b ∷ c ∷ d ∷ v) ≡ Char (((a % 8 * 64 + b % 64) * 64 + c % 64) * 64 + d % 64) (at + 4)
unfolding front sized sequence_length four
four-decoded a b c d at v h k p q r =
    rw (le-ltb a 0x80 (omega arith), le-ltb a 0xC0 (omega arith), le-ltb a 0xE0 (omega arith), le-ltb a 0xF0 h)
    (rw (lt-ltb a 0xF8 (omega arith), le-ltb 0xF4 a k, second-test p, tail-test q, tail-test r))

-- what the rules accept is decoded, with that code point and length, whatever follows
pub complete : {u : List ℕ} {c : ℕ} → Utf8Char u c → (at : ℕ) (v : List ℕ) → front at (u ++ v) ≡ Char c (at + length u)
complete (utf8_1 a) at v = one-decoded _ at v (omega arith)
complete (utf8_2 a b) at v = two-decoded _ _ at v (omega arith) (omega arith) b
complete (utf8_3_e0 a b c) at v = three-decoded _ _ _ at v (omega arith) (omega arith) (in_e0 (omega arith) b) c
complete (utf8_3_e1 a b c) at v =
    three-decoded _ _ _ at v (omega arith) (omega arith) (other (omega arith) (omega arith) (omega arith) (omega arith) b) c
complete (utf8_3_ed a b c) at v = three-decoded _ _ _ at v (omega arith) (omega arith) (in_ed (omega arith) b) c
complete (utf8_3_ee a b c) at v =
    three-decoded _ _ _ at v (omega arith) (omega arith) (other (omega arith) (omega arith) (omega arith) (omega arith) b) c
complete (utf8_4_f0 a b c d) at v = four-decoded _ _ _ _ at v (omega arith) (omega arith) (in_f0 (omega arith) b) c d
complete (utf8_4_f1 a b c d) at v =
    four-decoded _ _ _ _ at v (omega arith) (omega arith) (other (omega arith) (omega arith) (omega arith) (omega arith) b) c d
complete (utf8_4_f4 a b c d) at v = four-decoded _ _ _ _ at v (omega arith) (omega arith) (in_f4 (omega arith) b) c d

-- ---- what is decoded, the rules accept

three-other : {a b c : ℕ} → 0xE0 < a → a < 0xF0 → (a ≡ 0xED → ⊥) → Tail b → Tail c → Dec (a < 0xED) →
    Utf8Char (a ∷ b ∷ c ∷ []) ((a % 16 * 64 + b % 64) * 64 + c % 64)
three-other {a} h k n p q (yes l) = utf8_3_e1 (octet a h (omega arith)) p q
three-other {a} h k n p q (no l) = utf8_3_ee (octet a (omega arith) (omega arith)) p q

three-char : {a b c : ℕ} → 0xE0 ≤ a → a < 0xF0 → Second a b → Tail c →
    Utf8Char (a ∷ b ∷ c ∷ []) ((a % 16 * 64 + b % 64) * 64 + c % 64)
three-char {a} h k (in_e0 e p) q = utf8_3_e0 (octet a h (omega arith)) p q
three-char {a} h k (in_ed e p) q = utf8_3_ed (octet a (omega arith) (omega arith)) p q
three-char h k (in_f0 e p) q = absurd (omega arith)
three-char h k (in_f4 e p) q = absurd (omega arith)
three-char {a} h k (other m n i j p) q = three-other (omega arith) k n p q (dec_lt a 0xED)

four-char : {a b c d : ℕ} → 0xF0 ≤ a → a ≤ 0xF4 → Second a b → Tail c → Tail d →
    Utf8Char (a ∷ b ∷ c ∷ d ∷ []) (((a % 8 * 64 + b % 64) * 64 + c % 64) * 64 + d % 64)
four-char h k (in_e0 e p) q r = absurd (omega arith)
four-char h k (in_ed e p) q r = absurd (omega arith)
four-char {a} h k (in_f0 e p) q r = utf8_4_f0 (octet a h (omega arith)) p q r
four-char {a} h k (in_f4 e p) q r = utf8_4_f4 (octet a (omega arith) k) p q r
four-char {a} h k (other m n i j p) q r = utf8_4_f1 (octet a (omega arith) (omega arith)) p q r

-- a character with the code point c begins l, whose offset is at, and ends at the offset next
record Found (at : ℕ) (l : List ℕ) (c next : ℕ) : Type 0 where
  octets : List ℕ
  is : Utf8Char octets c
  begins : Starts l octets
  ends : next ≡ at + length octets

found : (at : ℕ) {l u : List ℕ} {c : ℕ} → Utf8Char u c → Starts l u → Found at l c (at + length u)
found at {l} {u} p s = record { octets = u; is = p; begins = s; ends = refl }

-- the rules bear out an answer for l, if it is a character or the end
abbrev Sound : ℕ → List ℕ → Decoded → Type 0
Sound at l (Char c next) = Found at l c next
Sound at l Bad = Unit {0}
Sound at l End = l ≡ []

-- past the end 0 is read, so any other byte stands in the list
cut : (l : List ℕ) (k : ℕ) → 0 < get_or l k 0 → drop k l ≡ get_or l k 0 ∷ drop (suc k) l
cut [] k h = absurd (omega arith)
cut (x ∷ l) zero h = refl
cut (x ∷ l) (suc k) h = cut l k h

second-positive : {a b : ℕ} → Second a b → 0 < b
second-positive (in_e0 e p) = omega arith
second-positive (in_ed e p) = omega arith
second-positive (in_f0 e p) = omega arith
second-positive (in_f4 e p) = omega arith
second-positive (other h k m n p) = omega arith

-- the sequences of two, three and four bytes with the lead byte a, where l follows it
module _ (at a : ℕ) (l : List ℕ) where
  starts-two : 0 < get_or l 0 0 → Starts (a ∷ l) (a ∷ get_or l 0 0 ∷ [])
  starts-two h = record { rest = drop 1 l; split = ap (λ (r : List ℕ). a ∷ r) (cut l 0 h) }

  starts-three : 0 < get_or l 0 0 → 0 < get_or l 1 0 → Starts (a ∷ l) (a ∷ get_or l 0 0 ∷ get_or l 1 0 ∷ [])
  unfolding starts-two
  starts-three h k =
      record { rest = drop 2 l; split = (starts-two h).split ∙ ap (λ (r : List ℕ). a ∷ get_or l 0 0 ∷ r) (cut l 1 k) }

  starts-four : 0 < get_or l 0 0 → 0 < get_or l 1 0 → 0 < get_or l 2 0 →
      Starts (a ∷ l) (a ∷ get_or l 0 0 ∷ get_or l 1 0 ∷ get_or l 2 0 ∷ [])
  unfolding starts-three
  starts-four h k m =
      record {
        rest = drop 3 l;
        split = (starts-three h k).split ∙ ap (λ (r : List ℕ). a ∷ get_or l 0 0 ∷ get_or l 1 0 ∷ r) (cut l 2 m);
      }

  sound-two : a < 0xE0 → Sound at (a ∷ l) (two a (get_or l 0 0) (at + 2))
  unfolding two
  sound-two k =
      picked (Sound at (a ∷ l)) (ltb a 0xC2) (λ h. tt)
      (λ h. picked (Sound at (a ∷ l)) (is_tail (get_or l 0 0))
      (λ b.
      let p = tail-told (get_or l 0 0) b in
      found at (utf8_2 (octet a (ltb-false a 0xC2 h) (omega arith)) p) (starts-two (omega arith)))
      (λ b. tt))

  sound-three : 0xE0 ≤ a → a < 0xF0 → Sound at (a ∷ l) (three a (get_or l 0 0) (get_or l 1 0) (at + 3))
  unfolding three
  sound-three h k =
      picked (Sound at (a ∷ l)) (is_second a (get_or l 0 0))
      (λ b. picked (Sound at (a ∷ l)) (is_tail (get_or l 1 0))
      (λ c.
      let p = second-told a (get_or l 0 0) b in
      let q = tail-told (get_or l 1 0) c in
      found at (three-char h k p q) (starts-three (second-positive p) (omega arith)))
      (λ c. tt)) (λ b. tt)

  sound-four : 0xF0 ≤ a → Sound at (a ∷ l) (four a (get_or l 0 0) (get_or l 1 0) (get_or l 2 0) (at + 4))
  unfolding four
  sound-four h =
      picked (Sound at (a ∷ l)) (ltb 0xF4 a) (λ k. tt)
      (λ k. picked (Sound at (a ∷ l)) (is_second a (get_or l 0 0))
      (λ b. picked (Sound at (a ∷ l)) (is_tail (get_or l 1 0))
      (λ c. picked (Sound at (a ∷ l)) (is_tail (get_or l 2 0))
      (λ d.
      let p = second-told a (get_or l 0 0) b in
      let q = tail-told (get_or l 1 0) c in
      let r = tail-told (get_or l 2 0) d in
      found at (four-char h (ltb-false 0xF4 a k) p q r) (starts-four (second-positive p) (omega arith) (omega arith)))
      (λ d. tt)) (λ c. tt)) (λ b. tt))

-- what is decoded, the rules accept
sound : (at : ℕ) (l : List ℕ) → Sound at l (front at l)
unfolding front sized sequence_length
sound at [] = refl
sound at (a ∷ l) =
    let P : ℕ → Type 0 = λ n. Sound at (a ∷ l) (sized n at a (get_or l 0 0) (get_or l 1 0) (get_or l 2 0)) in
    picked P (ltb a 0x80)
    (λ h. found at (utf8_1 (octet a (omega arith) (omega (arith, ltb-true a 0x80 h)))) (record { rest = l; split = refl }))
    (λ h. picked P (ltb a 0xC0) (λ h. tt)
    (λ h. picked P (ltb a 0xE0) (λ h. sound-two at a l (ltb-true a 0xE0 h))
    (λ h. picked P (ltb a 0xF0) (λ k. sound-three at a l (ltb-false a 0xE0 h) (ltb-true a 0xF0 k))
    (λ k. picked P (ltb a 0xF8) (λ m. sound-four at a l (ltb-false a 0xF0 k)) (λ m. tt)))))

-- ---- so the decoder answers as the rules say

-- a character that begins l by the rules is the answer
char-decoded : {l u : List ℕ} {c : ℕ} (at : ℕ) → Utf8Char u c → Starts l u → front at l ≡ Char c (at + length u)
char-decoded at p h = ap (front at) h.split ∙ complete p at h.rest

bad-none : (at : ℕ) (l : List ℕ) → front at l ≡ Bad → StartsNone l
bad-none at l e =
    record {
      never = λ u c p h.
          let f = char-decoded at p h in
          let z : ◌≡◌ {A = ℕ} 0 1 = cc in
          omega arith;
    }

bad-within : (at : ℕ) (l : List ℕ) → front at l ≡ Bad → 0 < length l
unfolding front
bad-within at [] e =
    let z : ◌≡◌ {A = ℕ} 0 1 = cc in
    absurd (omega arith)
bad-within at (a ∷ l) e = omega arith

stands_by : (s : List ℕ) (at : ℕ) (x : Decoded) → front at (drop at s) ≡ x → Sound at (drop at s) x → Stands s at x
stands_by s at (Char c n) e f = rw f.ends (char f.is f.begins)
stands_by s at Bad e f = bad (omega (arith, length-drop at s, bad-within at (drop at s) e)) (bad-none at (drop at s) e)
stands_by s at End e f = end (omega (arith, length-drop at s, ap length f))

-- decode_at answers as the rules say
pub stands : (s : List ℕ) (at : ℕ) → Stands s at (decode_at s at)
unfolding decode_at
stands s at = stands_by s at (front at (drop at s)) refl (sound at (drop at s))

bad-only : {s : List ℕ} {at : ℕ} {x : Decoded} → at < length s → StartsNone (drop at s) → Stands s at x → x ≡ Bad
bad-only h n (char p q) = absurd (n.never _ _ p q)
bad-only h n (bad k m) = refl
bad-only h n (end k) = absurd (omega arith)

-- what the rules say stands there is the answer of decode_at
answered : {s : List ℕ} {at : ℕ} {x : Decoded} → Stands s at x → decode_at s at ≡ x
unfolding decode_at
answered {s} {at} (char p h) = char-decoded at p h
answered {s} {at} (bad h n) = bad-only h n (stands s at)
answered {s} {at} (end h) = sym (decode-end s at h)

-- and the rules allow one answer
pub stands_one : {s : List ℕ} {at : ℕ} {x y : Decoded} → Stands s at x → Stands s at y → x ≡ y
stands_one p q = sym (answered p) ∙ answered q

taken : {l u : List ℕ} → Starts l u → u ≡ take (length u) l
taken {l} {u} h = sym (ap (take (length u)) h.split ∙ take-append_seam u h.rest)

-- the rules are deterministic: two characters that begin the same octets are the same
pub same-character : {l u v : List ℕ} {c d : ℕ} → Utf8Char u c → Starts l u → Utf8Char v d → Starts l v → (u ≡ v) × (c ≡ d)
same-character {l} {u} {v} {c} {d} p h q k =
    let e : Char c (0 + length u) ≡ Char d (0 + length v) = sym (char-decoded 0 p h) ∙ char-decoded 0 q k in
    let m : 0 + length u ≡ 0 + length v = cc in
    let n : length u ≡ length v = omega arith in
    (taken h ∙ ap (λ (i : ℕ). take i l) n ∙ sym (taken k), cc)
