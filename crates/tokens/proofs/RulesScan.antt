-- What the scans of specs/Scan.antt come to over the rows of characters that specs/Rules.antt speaks of.
use Rattle.std.specs.Prelude.{Some, None, Ok, Err}
use mathlib.Core.Path.{◌≡◌, ◌∙◌, refl, ap, sym, subst}
use mathlib.Core.Bool.{Bool, true, false}
use Prim.Native.Nat.{ℕ, ◌+◌, ◌-◌, ◌*◌, ◌<◌, ◌≤◌}
use native.Mathlib.Omega.{arith}
use mathlib.Core.List.{List, [], ◌∷◌, ◌++◌}
use lib.Dec.{ltb, eqb}
use borrow.Author.Tests.{ltb-true, ltb-false, lt-ltb, le-ltb, ne_eqb}
use Rattle.text.specs.White.{white_space, among, is_white}
use Rattle.text.specs.Utf8.{Character, codes, chars}
use Rattle.text.specs.Place.{after, step_of}
use Rattle.text.specs.Ascii.{is_digit}
use Rattle.text.specs.declared.place.Place.{Place}
use Rattle.text.proofs.StepLaws.{Stepped}
use Rattle.tokens.specs.Scan.{passed, trivia_mode, trivia, quoted, with_digit, digits}
use Rattle.tokens.specs.Token.{look}
use Rattle.tokens.specs.Rules.{All, Without, Stops, Trivia, Trailing, Begins, begins, LineEnd, value_from, most_run}
use Rattle.tokens.proofs.LayoutReads.{Reads, none, more, met}
use Rattle.tokens.proofs.LayoutScan.{class-first}
use Rattle.tokens.proofs.RulesFound.{told}

-- ---- what is left at a place

-- the characters from q on
pub record Left (s : List ℕ) (q : Place) (r : List ℕ) : Type 0 where
  pub are : codes (chars s q.at) ≡ r

-- the first of them, and the others behind it
pub record Ahead (s : List ℕ) (q : Place) (c : ℕ) (r : List ℕ) : Type 0 where
  pub next : Place
  pub step : Stepped s q c next
  pub rest : Left s next r

pub first-same : {a b : ℕ} {l r : List ℕ} → a ∷ l ≡ b ∷ r → a ≡ b
first-same e = cc

pub rest-same : {a b : ℕ} {l r : List ℕ} → a ∷ l ≡ b ∷ r → l ≡ r
rest-same e = cc

pub never-none : {X : Type 0} {c : ℕ} {r : List ℕ} → [] ≡ c ∷ r → X
never-none e = let z : ◌≡◌ {A = ℕ} 0 1 = cc in absurd (omega arith)

ahead-by : (s : List ℕ) (q : Place) (l : List Character) {c : ℕ} {r : List ℕ} → chars s q.at ≡ l → codes l ≡ c ∷ r → Ahead s q c r
ahead-by s q [] e k = never-none k
ahead-by s q (ch ∷ cs) e k =
    let m = met s q ch cs e in
    record { next = after q ch; step = subst (λ (x : ℕ). Stepped s q x (after q ch)) (first-same k) m.step; rest = record { are = ap codes m.rest ∙ rest-same k } }

pub ahead : {s : List ℕ} {q : Place} {c : ℕ} {r : List ℕ} → Left s q (c ∷ r) → Ahead s q c r
ahead {s} {q} h = ahead-by s q (chars s q.at) refl h.are

-- from p one reads the characters cs, and r are left
pub record Front (s : List ℕ) (p : Place) (cs r : List ℕ) : Type 0 where
  pub to : Place
  pub reads : Reads s p to cs
  pub rest : Left s to r

pub front : {s : List ℕ} {p : Place} (cs r : List ℕ) → Left s p (cs ++ r) → Front s p cs r
front {p} [] r h = record { to = p; reads = none; rest = h }
front {p = p} (c ∷ cs) r h =
    let a = ahead h in
    let f = front {p = a.next} cs r a.rest in
    record { to = f.to; reads = more a.step f.reads; rest = f.rest }

-- a row that is read in two parts
pub record Halves (s : List ℕ) (p q : Place) (a b : List ℕ) : Type 0 where
  pub middle : Place
  pub one : Reads s p middle a
  pub two : Reads s middle q b

pub halves : {s : List ℕ} {p q : Place} (a b : List ℕ) → Reads s p q (a ++ b) → Halves s p q a b
halves {p} [] b r = record { middle = p; one = none; two = r }
halves (c ∷ a) b (more h t) = let x = halves a b t in record { middle = x.middle; one = more h x.one; two = x.two }

pub record Uncons (s : List ℕ) (p q : Place) (c : ℕ) (cs : List ℕ) : Type 0 where
  pub next : Place
  pub step : Stepped s p c next
  pub reads : Reads s next q cs

pub uncons : {s : List ℕ} {p q : Place} {c : ℕ} {cs : List ℕ} → Reads s p q (c ∷ cs) → Uncons s p q c cs
uncons (more h t) = record { next = _; step = h; reads = t }

-- what is left behind a row is what was left before it without the row
pub left_behind : {s : List ℕ} {p q : Place} {cs : List ℕ} (r : List ℕ) → Reads s p q cs → Left s q r → Left s p (cs ++ r)
left_behind r none l = l
left_behind r (more {c} h t) l =
    record { are = ap codes h.rest ∙ ap (λ (x : List ℕ). c ∷ x) (left_behind r t l).are }

-- a look at a place
pub look-next : {s : List ℕ} {q n : Place} {c : ℕ} → Stepped s q c n → look s q ≡ Some (c, n)
unfolding step_of
look-next {q} {c} h = ap (step_of q) h.rest ∙ ap (λ (x : Place). Some (c, x)) (sym h.is)

none_left : (l : List Character) → codes l ≡ [] → l ≡ []
none_left [] e = refl
none_left (ch ∷ cs) e = never-none (sym e)

pub look_stop : {s : List ℕ} {q : Place} → Left s q [] → look s q ≡ None
unfolding step_of
look_stop {s} {q} h = ap (step_of q) (none_left (chars s q.at) h.are)

-- ---- classes

class_stop : (class : ℕ → Bool) (q : Place) (l : List Character) {r : List ℕ} → codes l ≡ r → Stops class r → passed class q l ≡ q
unfolding passed
class_stop class q [] e k = refl
class_stop class q (ch ∷ cs) e Stops.at_end_rule = never-none (sym e)
class_stop class q (ch ∷ cs) e (Stops.other h) = rw (ap class (first-same e) ∙ h)

-- a scan over a class passes all of a row of the class, and stops behind it
pub class-row : {class : ℕ → Bool} {s : List ℕ} {p q : Place} {cs r : List ℕ} → Reads s p q cs → All class cs → Left s q r → Stops class r →
    passed class p (chars s p.at) ≡ q
class-row {class} {s} {p} none All.none l k = class_stop class p (chars s p.at) l.are k
class-row {class} (more h t) (All.more a b) l k = class-first class h a ∙ class-row t b l k

-- ---- digits

digits_step : (v : ℕ) {s : List ℕ} {p n : Place} {c : ℕ} → Stepped s p c n → is_digit c ≡ true → with_digit v c ≤ most_run →
    digits v p (chars s p.at) ≡ digits (with_digit v c) n (chars s n.at)
unfolding digits
digits_step v {s} {p} {n} {c} h d k =
    ap (digits v p) h.rest
    ∙ rw (d, le-ltb most_run (with_digit v c) k) (ap (λ (x : Place). digits (with_digit v c) x (chars s n.at)) (sym h.is))

digits-over : (v : ℕ) {s : List ℕ} {p n : Place} {c : ℕ} → Stepped s p c n → is_digit c ≡ true → most_run < with_digit v c →
    digits v p (chars s p.at) ≡ None
unfolding digits
digits-over v {s} {p} {n} {c} h d k = ap (digits v p) h.rest ∙ rw (d, lt-ltb most_run (with_digit v c) k)

digits_stop : (v : ℕ) (q : Place) (l : List Character) {r : List ℕ} → codes l ≡ r → Stops is_digit r → digits v q l ≡ Some (v, q)
unfolding digits
digits_stop v q [] e k = refl
digits_stop v q (ch ∷ cs) e Stops.at_end_rule = never-none (sym e)
digits_stop v q (ch ∷ cs) e (Stops.other h) = rw (ap is_digit (first-same e) ∙ h)

grows : (v : ℕ) (ds : List ℕ) → v ≤ value_from v ds
unfolding value_from
grows v [] = omega arith
grows v (c ∷ cs) = omega (arith, grows (v * 10 + (c - 0x30)) cs)

-- a scan over digits gives the number that they write
pub digits-row : {s : List ℕ} (v : ℕ) {p q : Place} {ds r : List ℕ} → Reads s p q ds → All is_digit ds → Left s q r → Stops is_digit r →
    value_from v ds ≤ most_run → digits v p (chars s p.at) ≡ Some (value_from v ds, q)
unfolding value_from with_digit
digits-row {s} v {p} none All.none l k m = digits_stop v p (chars s p.at) l.are k
digits-row v (more h t) (All.more {c} {cs} a b) l k m =
    digits_step v h a (omega (arith, grows (with_digit v c) cs, m)) ∙ digits-row (with_digit v c) t b l k m

-- or refuses it
pub digits-large : {s : List ℕ} (v : ℕ) {p q : Place} {ds : List ℕ} → v ≤ most_run → Reads s p q ds → All is_digit ds → most_run < value_from v ds →
    digits v p (chars s p.at) ≡ None
unfolding value_from with_digit
digits-large v e none All.none m = absurd (omega arith)
digits-large v e (more h t) (All.more {c} {cs} a b) m =
    told (ltb most_run (with_digit v c)) (λ k. digits-over v h a (ltb-true most_run (with_digit v c) k))
    (λ k.
    let g = ltb-false most_run (with_digit v c) k in
    digits_step v h a g ∙ digits-large (with_digit v c) g t b m)

-- ---- strings

quoted-step : {s : List ℕ} {p n : Place} {c : ℕ} → Stepped s p c n → (c ≡ 0x22 → ⊥) → (c ≡ 0x0A → ⊥) →
    quoted p (chars s p.at) ≡ quoted n (chars s n.at)
unfolding quoted
quoted-step {s} {p} {n} {c} h f g =
    ap (quoted p) h.rest ∙ rw (ne_eqb c 0x22 f, ne_eqb c 0x0A g) (ap (λ (x : Place). quoted x (chars s n.at)) (sym h.is))

quoted-close : {s : List ℕ} {p n : Place} → Stepped s p 0x22 n → quoted p (chars s p.at) ≡ Ok (p.at, n)
unfolding quoted
quoted-close {p} h = ap (quoted p) h.rest ∙ ap (λ (x : Place). Ok (p.at, x)) (sym h.is)

pub quoted-row : {s : List ℕ} {p q n : Place} {cs : List ℕ} → Reads s p q cs → Without 0x22 cs → Without 0x0A cs → Stepped s q 0x22 n →
    quoted p (chars s p.at) ≡ Ok (q.at, n)
quoted-row none Without.none Without.none k = quoted-close k
quoted-row (more h t) (Without.more f a) (Without.more g b) k = quoted-step h f g ∙ quoted-row t a b k

quoted-end : (q : Place) (l : List Character) {r : List ℕ} → codes l ≡ r → LineEnd r → quoted q l ≡ Err q.at
unfolding quoted
quoted-end q [] e k = refl
quoted-end q (ch ∷ cs) e LineEnd.at_end_rule = never-none (sym e)
quoted-end q (ch ∷ cs) e LineEnd.at_feed = rw (first-same e)

pub quoted-line : {s : List ℕ} {p q : Place} {cs r : List ℕ} → Reads s p q cs → Without 0x22 cs → Without 0x0A cs → Left s q r → LineEnd r →
    quoted p (chars s p.at) ≡ Err q.at
quoted-line {s} {p} none Without.none Without.none l k = quoted-end p (chars s p.at) l.are k
quoted-line (more h t) (Without.more f a) (Without.more g b) l k = quoted-step h f g ∙ quoted-line t a b l k

-- ---- white space and comments

trivia-step : (mode m : ℕ) {s : List ℕ} {p n : Place} {c : ℕ} → Stepped s p c n → trivia_mode mode c ≡ m → eqb m 2 ≡ false →
    trivia mode p (chars s p.at) ≡ trivia m n (chars s n.at)
unfolding trivia
trivia-step mode m {s} {p} {n} {c} h e f =
    ap (trivia mode p) h.rest ∙ rw (e, f) (ap (λ (x : Place). trivia m x (chars s n.at)) (sym h.is))

trivia-none : (mode : ℕ) {s : List ℕ} {q : Place} → Left s q [] → trivia mode q (chars s q.at) ≡ q
unfolding trivia
trivia-none mode {s} {q} l = ap (trivia mode q) (none_left (chars s q.at) l.are)

begins_mode : {c : ℕ} → is_white c ≡ false → (c ≡ 0x23 → ⊥) → trivia_mode 0 c ≡ 2
unfolding trivia_mode
begins_mode {c} h k = rw (h, ne_eqb c 0x23 k)

trivia_stop : (q : Place) (l : List Character) {r : List ℕ} → codes l ≡ r → Begins r → trivia 0 q l ≡ q
unfolding trivia
trivia_stop q [] e k = refl
trivia_stop q (ch ∷ cs) e (begins h k) = rw (ap (trivia_mode 0) (first-same e) ∙ begins_mode h k)

white_mode : (c : ℕ) → is_white c ≡ true → trivia_mode 0 c ≡ 0
unfolding trivia_mode
white_mode c h = rw h

hash_mode : trivia_mode 0 0x23 ≡ 1
unfolding trivia_mode is_white among white_space
hash_mode = refl

feed_mode : trivia_mode 1 0x0A ≡ 0
unfolding trivia_mode
feed_mode = refl

inside_mode : {c : ℕ} → (c ≡ 0x0A → ⊥) → trivia_mode 1 c ≡ 1
unfolding trivia_mode
inside_mode {c} h = rw (ne_eqb c 0x0A h)

comment-row : {s : List ℕ} {p q : Place} {ds : List ℕ} → Reads s p q ds → Without 0x0A ds →
    trivia 1 p (chars s p.at) ≡ trivia 1 q (chars s q.at)
comment-row none Without.none = refl
comment-row (more h t) (Without.more f w) = trivia-step 1 1 h (inside_mode f) refl ∙ comment-row t w

-- a scan between tokens goes on behind white space and comments
trivia-row : {s : List ℕ} {p q : Place} {gap : List ℕ} → Trivia gap → Reads s p q gap →
    trivia 0 p (chars s p.at) ≡ trivia 0 q (chars s q.at)
trivia-row Trivia.none none = refl
trivia-row (Trivia.white {c} w t) (more {n = n} h r) = trivia-step 0 0 h (white_mode c w) refl ∙ trivia-row {p = n} t r
trivia-row (Trivia.comment {ds} {cs} w t) (more h r) =
    let x = halves ds (0x0A ∷ cs) r in
    let f = uncons x.two in
    trivia-step 0 1 h hash_mode refl ∙ comment-row x.one w ∙ trivia-step 1 0 f.step feed_mode refl ∙ trivia-row t f.reads

-- it stops where neither follows
pub gap_row : {s : List ℕ} {p q : Place} {gap r : List ℕ} → Trivia gap → Reads s p q gap → Left s q r → Begins r →
    trivia 0 p (chars s p.at) ≡ q
gap_row {s} {q} t r l b = trivia-row t r ∙ trivia_stop q (chars s q.at) l.are b

-- and at the end of the text
pub end_row : {s : List ℕ} {p q : Place} {gap : List ℕ} → Trailing gap → Reads s p q gap → Left s q [] → trivia 0 p (chars s p.at) ≡ q
end_row (Trailing.trivia t) r l = trivia-row t r ∙ trivia-none 0 l
end_row (Trailing.last_comment {cs} {ds} t w) r l =
    let x = halves cs (0x23 ∷ ds) r in
    let f = uncons x.two in
    trivia-row t x.one ∙ trivia-step 0 1 f.step hash_mode refl ∙ comment-row f.reads w ∙ trivia-none 1 l
