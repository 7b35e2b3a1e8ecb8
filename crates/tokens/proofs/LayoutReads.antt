-- Reading from one place of a text to another: the characters passed, where that leads, and the bytes that they take.
use Rattle.std.specs.Prelude.{Option, Some, None}
use mathlib.Core.Path.{◌≡◌, ◌∙◌, refl, ap, sym}
use Prim.Native.Nat.{ℕ, ◌+◌, ◌-◌, ◌<◌, ◌≤◌}
use native.Mathlib.Omega.{arith}
use mathlib.Core.List.{List, [], ◌∷◌, ◌++◌}
use lib.ListN.{length, take, drop}
use lib.Seq.{take-append_seam, take-add, drop-drop}
use borrow.Author.Tests.{ltb-true}
use Rattle.text.specs.Rfc3629.{Utf8Char, Utf8Octets, Starts, Stands}
use Rattle.text.specs.Rfc3629.Utf8Char.{utf8_1, utf8_2, utf8_3_e0, utf8_3_e1, utf8_3_ed, utf8_3_ee, utf8_4_f0, utf8_4_f1, utf8_4_f4}
use Rattle.text.specs.Rfc3629.Stands.{char, bad, end}
use Rattle.text.specs.Utf8.{is_ascii, decode_at, Character, codes, chars}
use Rattle.text.specs.Part.{part_of}
use Rattle.text.specs.Place.{after, step_of, walked}
use Rattle.text.specs.declared.utf8.Decoded.{Decoded}
use Rattle.text.specs.declared.place.Place.{Place}
use Rattle.text.proofs.Utf8Rules.{stands}
use Rattle.text.proofs.CharLaws.{chars-char, chars-bad, chars-end}
use Rattle.text.proofs.PartLaws.{part_none}
use Rattle.text.proofs.StepLaws.{Stepped, Stopped, step-next, step_stop}
use Rattle.tokens.specs.Rules.{All}

-- from p to q one reads characters with these code points
pub data Reads (s : List ℕ) : Place → Place → List ℕ → Type 0 where
  none : {p : Place} → Reads s p p []
  more : {p n q : Place} {c : ℕ} {cs : List ℕ} → Stepped s p c n → Reads s n q cs → Reads s p q (c ∷ cs)

pub one : {s : List ℕ} {p n : Place} {c : ℕ} → Stepped s p c n → Reads s p n (c ∷ [])
one h = more h none

-- reading on
pub then : {s : List ℕ} {p q r : Place} {a b : List ℕ} → Reads s p q a → Reads s q r b → Reads s p r (a ++ b)
then none k = k
then (more h t) k = more h (then t k)

-- what a look at a place says: a step, or that no character begins there
unfoldable pub Looked : List ℕ → Place → Option (ℕ × Place) → Type 0
Looked s p (Some (c, n)) = Stepped s p c n
Looked s p None = Stopped s p

looked-by : (s : List ℕ) (p : Place) (x : Option (ℕ × Place)) → step_of p (chars s p.at) ≡ x → Looked s p x
unfolding Looked
looked-by s p (Some (c, n)) e = step-next s p c n e
looked-by s p None e = step_stop s p e

pub looked : (s : List ℕ) (p : Place) → Looked s p (step_of p (chars s p.at))
looked s p = looked-by s p (step_of p (chars s p.at)) refl

-- the first of the characters from p on is a step, and the others are those behind it
pub record Met (s : List ℕ) (p : Place) (ch : Character) (cs : List Character) : Type 0 where
  pub step : Stepped s p ch.code (after p ch)
  pub rest : chars s (after p ch).at ≡ cs

met_by : {s : List ℕ} {p n : Place} {c : ℕ} {ch : Character} {cs : List Character} → Stepped s p c n →
    chars s p.at ≡ ch ∷ cs → chars s n.at ≡ cs
met_by h e = let f = h.rest in cc

pub met : (s : List ℕ) (p : Place) (ch : Character) (cs : List Character) → chars s p.at ≡ ch ∷ cs → Met s p ch cs
unfolding step_of
met s p ch cs e =
    let h = step-next s p ch.code (after p ch) (ap (step_of p) e) in
    record { step = h; rest = met_by h e }

-- ---- the characters that are read

-- the characters u stand from p to q
pub record Stretch (s : List ℕ) (p q : Place) (u : List Character) : Type 0 where
  pub split : chars s p.at ≡ u ++ chars s q.at
  pub ends : q ≡ walked p u

-- a stretch with these code points
pub record Written (s : List ℕ) (p q : Place) (cs : List ℕ) : Type 0 where
  pub text : List Character
  pub is : codes text ≡ cs
  pub stretch : Stretch s p q text

written-more : {s : List ℕ} {p n q : Place} {c : ℕ} {cs : List ℕ} → Stepped s p c n → Written s n q cs → Written s p q (c ∷ cs)
unfolding walked
written-more {s} {p} {n} {q} {c} h w =
    let u = w.text in
    let z = w.stretch in
    record {
      text = record { code = c; next = n.at } ∷ u;
      is = ap (λ (l : List ℕ). c ∷ l) w.is;
      stretch =
          record {
            split = h.rest ∙ ap (λ (l : List Character). record { code = c; next = n.at } ∷ l) z.split;
            ends = z.ends ∙ ap (λ (k : Place). walked k u) h.is;
          };
    }

-- what is read is such a stretch
pub written : {s : List ℕ} {p q : Place} {cs : List ℕ} → Reads s p q cs → Written s p q cs
unfolding walked
written none = record { text = []; is = refl; stretch = record { split = refl; ends = refl } }
written (more h t) = written-more h (written t)

-- a walk over two rows goes over one and then over the other
pub walked_on : (p : Place) (a b : List Character) → walked p (a ++ b) ≡ walked (walked p a) b
unfolding walked
walked_on p [] b = refl
walked_on p (ch ∷ a) b = walked_on (after p ch) a b

-- the characters from a place on are read in order
pub record Row (s : List ℕ) (p : Place) (u r : List Character) : Type 0 where
  pub reads : Reads s p (walked p u) (codes u)
  pub rest : chars s (walked p u).at ≡ r

pub row : (s : List ℕ) (p : Place) (u r : List Character) → chars s p.at ≡ u ++ r → Row s p u r
unfolding walked
row s p [] r e = record { reads = none; rest = e }
row s p (ch ∷ u) r e =
    let m = met s p ch (u ++ r) e in
    let t = row s (after p ch) u r m.rest in
    record { reads = more m.step t.reads; rest = t.rest }

-- ---- the bytes that they take

-- these octets of s are the character c and end at n
pub record Bytes (s : List ℕ) (at c n : ℕ) : Type 0 where
  pub octets : List ℕ
  pub is : Utf8Char octets c
  pub begin : Starts (drop at s) octets
  pub ends : n ≡ at + length octets

same_first : {a b : Character} {l r : List Character} → a ∷ l ≡ b ∷ r → a ≡ b
same_first e = cc

-- a step is over a character of the rules
bytes-by : {s : List ℕ} {p n : Place} {c : ℕ} {x : Decoded} → Stepped s p c n → decode_at s p.at ≡ x → Stands s p.at x →
    Bytes s p.at c n.at
bytes-by {s} {p} {n} {c} t d (char {u} {c = b} h k) =
    let e = same_first (sym (chars-char s p.at b (p.at + length u) d) ∙ t.rest) in
    record {
      octets = u;
      is = rw (ap (λ (ch : Character). ch.code) e) at h;
      begin = k;
      ends = sym (ap (λ (ch : Character). ch.next) e);
    }
bytes-by {s} {p} t d (bad h k) = let e = chars-bad s p.at d in let z : ◌≡◌ {A = ℕ} 0 1 = cc in absurd (omega arith)
bytes-by {s} {p} t d (end h) = let e = chars-end s p.at d in let z : ◌≡◌ {A = ℕ} 0 1 = cc in absurd (omega arith)

pub bytes : {s : List ℕ} {p n : Place} {c : ℕ} → Stepped s p c n → Bytes s p.at c n.at
bytes {s} {p} t = bytes-by t refl (stands s p.at)

-- a character below 128 is one byte, which is its code point
pub one_byte : {u : List ℕ} {c : ℕ} → Utf8Char u c → c < 0x80 → u ≡ c ∷ []
one_byte (utf8_1 a) h = refl
one_byte (utf8_2 a b) h = absurd (omega arith)
one_byte (utf8_3_e0 a b c) h = absurd (omega arith)
one_byte (utf8_3_e1 a b c) h = absurd (omega arith)
one_byte (utf8_3_ed a b c) h = absurd (omega arith)
one_byte (utf8_3_ee a b c) h = absurd (omega arith)
one_byte (utf8_4_f0 a b c d) h = absurd (omega arith)
one_byte (utf8_4_f1 a b c d) h = absurd (omega arith)
one_byte (utf8_4_f4 a b c d) h = absurd (omega arith)

pub byte-long : {s : List ℕ} {p n : Place} {c : ℕ} → Stepped s p c n → c < 0x80 → n.at ≡ p.at + 1
byte-long t h =
    let b = bytes t in
    b.ends ∙ rw (one_byte b.is h)

-- reading goes forwards
pub onwards : {s : List ℕ} {p q : Place} {cs : List ℕ} → Reads s p q cs → p.at ≤ q.at
onwards none = omega arith
onwards (more h t) = omega (arith, onwards t)

-- a part of the bytes up to b, and on from there
part-on : (s : List ℕ) (a b c : ℕ) → a ≤ b → b ≤ c → part_of s a c ≡ part_of s a b ++ part_of s b c
unfolding part_of
part-on s a b c h k =
    let e : c - a ≡ (b - a) + (c - b) = omega arith in
    let f : a + (b - a) ≡ b = omega arith in
    ap (λ (n : ℕ). take n (drop a s)) e ∙ take-add (b - a) (c - b) (drop a s)
    ∙ ap (λ (l : List ℕ). take (b - a) (drop a s) ++ take (c - b) l) (drop-drop (b - a) a s ∙ ap (λ (n : ℕ). drop n s) f)

-- the octets of a character are the bytes from its place to the next
part_of_lem : {s : List ℕ} {at c n : ℕ} (b : Bytes s at c n) → b.octets ≡ part_of s at n
unfolding part_of
part_of_lem {s} {at} {c} {n} b =
    let u = b.octets in
    let e : n - at ≡ length u = omega (arith, b.ends) in
    sym (rw (e, b.begin.split) (take-append_seam u b.begin.rest))

octets-more : {s : List ℕ} {p n q : Place} {c : ℕ} {cs : List ℕ} → Stepped s p c n → Reads s n q cs →
    Utf8Octets (part_of s n.at q.at) cs → Utf8Octets (part_of s p.at q.at) (c ∷ cs)
octets-more {s} {p} {n} {q} h t o =
    let b = bytes h in
    rw (part-on s p.at n.at q.at (omega arith) (onwards t)) (Utf8Octets.more (rw (part_of_lem b) at b.is) o)

octets-none : (s : List ℕ) (at : ℕ) → Utf8Octets (part_of s at at) []
octets-none s at = rw (← (part_none s at at (omega arith))) Utf8Octets.none

-- the bytes from p to q are those of the characters read
pub octets : {s : List ℕ} {p q : Place} {cs : List ℕ} → Reads s p q cs → Utf8Octets (part_of s p.at q.at) cs
octets {s} {p} none = octets-none s p.at
octets (more h t) = octets-more h t (octets t)

-- of ASCII characters the bytes are the code points
pub ascii-octets : {w cs : List ℕ} → Utf8Octets w cs → All is_ascii cs → w ≡ cs
unfolding is_ascii
ascii-octets Utf8Octets.none All.none = refl
ascii-octets (Utf8Octets.more {u} {v} {cs} {c} h t) (All.more a b) =
    rw (one_byte h (ltb-true c 0x80 a)) (ap (λ (l : List ℕ). c ∷ l) (ascii-octets t b))

-- and as many as the bytes between the places
pub ascii-length : {s : List ℕ} {p q : Place} {cs : List ℕ} → Reads s p q cs → All is_ascii cs → q.at - p.at ≡ length cs
unfolding is_ascii
ascii-length none All.none = omega arith
ascii-length (more {c} h t) (All.more a b) = omega (arith, ascii-length t b, onwards t, byte-long h (ltb-true c 0x80 a))
