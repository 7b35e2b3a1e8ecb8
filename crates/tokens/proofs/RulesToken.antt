-- The token that specs/Token.antt gives at a place is the one that the rules of specs/Rules.antt allow there.
use Rattle.std.specs.Prelude.{Result, Ok, Err}
use mathlib.Core.Path.{◌≡◌, ◌∙◌, refl, ap, sym}
use mathlib.Core.Bool.{Bool, true, false}
use Prim.Native.Nat.{ℕ, ◌+◌, ◌-◌, ◌*◌, ◌/◌, ◌^◌, ◌<◌, ◌≤◌}
use native.Mathlib.Omega.{arith}
use native.Mathlib.Nat.{mul-div_cancel}
use mathlib.Core.List.{List, [], ◌∷◌, ◌++◌}
use lib.ListN.{length}
use lib.Dec.{ltb, leb, eqb}
use borrow.Author.Tests.{ltb-true, ltb-false, leb-true, eqb-true, eqb-false, lt-ltb, le-ltb, lt-leb, eq-eqb, ne_eqb}
use Rattle.text.specs.Choice.{within}
use Rattle.text.specs.Utf8.{chars}
use Rattle.text.specs.Ascii.{is_digit, is_alpha, is_word_start, is_word_part}
use Rattle.text.specs.declared.place.Place.{Place}
use Rattle.text.proofs.Tests.{picked, pick_same, both}
use Rattle.text.proofs.StepLaws.{Stepped}
use Rattle.tokens.specs.Kind.{WORD, STRING, INTEGER, TIME, DECIMAL, OPEN}
use Rattle.tokens.specs.Scan.{quoted, digits}
use Rattle.tokens.specs.Duration.{unit_of}
use Rattle.tokens.specs.Amount.{JudgedAmount, fine, long, exact}
use Rattle.tokens.specs.Token.{made, look, single_kind, pair_kind, single, punct, string, spanning, digits_in, time_by, time, decimal, amount_to, duration_by, duration, fraction_at, fraction, point, number_at, number, word, token_at}
use Rattle.tokens.specs.Rules.{All, Without, Stops, Run, run, NoLonger, LineEnd, EndsInteger, Shape, Shaped, value_from, value, UnitOf, DigitRun, most_run, IsTime, TenThousandths, most_decimal, Verdict, worth, refuse, Judged, first_byte, end_byte}
use Rattle.tokens.specs.declared.lexer.Lexeme.{Lexeme}
use Rattle.tokens.proofs.PowerLaws.{ten-pos}
use Rattle.tokens.proofs.AmountLaws.{amount-only}
use Rattle.tokens.proofs.LayoutReads.{Reads, none, more, byte-long, octets, ascii-octets, ascii-length}
use Rattle.tokens.proofs.LayoutScan.{digit-ascii, alpha_ascii, all_of}
use Rattle.tokens.proofs.RulesFound.{told, symbol-kind, single-symbol, pair-symbol, Plain, Sign, sign_of, ten_thousandths, unit-found, unit-only, unit-some}
use Rattle.tokens.proofs.RulesScan.{Left, ahead, halves, uncons, left_behind, look-next, look_stop, class-row, digits-row, digits-large, quoted-row, quoted-line}

-- the lexeme of a verdict on the characters from p to q
unfoldable pub lexeme_of : Verdict → Place → Place → Result Lexeme ℕ
lexeme_of (worth kind number) p q = made kind number (first_byte kind p) (end_byte kind q) q
lexeme_of (refuse number) p q = Err number

-- a character stands at p, and the token there is x
pub record Given (s : List ℕ) (p : Place) (x : Result Lexeme ℕ) : Type 0 where
  pub first : ℕ
  pub next : Place
  pub step : Stepped s p first next
  pub is : token_at s p first next ≡ x

-- ---- which characters begin what

within_low : (low high c : ℕ) → within low high c ≡ true → low ≤ c
within_low low high c e = leb-true low c (both (leb low c) e).0

above : (low high c : ℕ) → high < c → within low high c ≡ false
above low high c h = rw (lt-leb c high h, pick_same (leb low c) false)

digit_low : (c : ℕ) → is_digit c ≡ true → 0x30 ≤ c
unfolding is_digit
digit_low c e = within_low 0x30 0x39 c e

digit-high : (c : ℕ) → 0x39 < c → is_digit c ≡ false
unfolding is_digit
digit-high c h = above 0x30 0x39 c h

alpha_low : (c : ℕ) → is_alpha c ≡ true → 0x41 ≤ c
unfolding is_alpha
alpha_low c =
    picked (λ (t : Bool). t ≡ true → 0x41 ≤ c) (within 0x41 0x5A c) (λ h e. within_low 0x41 0x5A c h)
    (λ h e. omega (arith, within_low 0x61 0x7A c e))

start-low : (c : ℕ) → is_word_start c ≡ true → 0x41 ≤ c
unfolding is_word_start
start-low c =
    picked (λ (t : Bool). t ≡ true → 0x41 ≤ c) (is_alpha c) (λ h e. alpha_low c h) (λ h e. omega (arith, eqb-true c 0x5F e))

alpha_digit : (c : ℕ) → is_alpha c ≡ true → is_digit c ≡ false
alpha_digit c h = digit-high c (omega (arith, alpha_low c h))

-- ---- words

word_at : (c : ℕ) (s : List ℕ) (p n : Place) → is_word_start c ≡ true → token_at s p c n ≡ word s p
unfolding token_at
word_at c s p n h =
    rw (ne_eqb c 0x22 (λ e. omega (arith, start-low c h)), digit-high c (omega (arith, start-low c h)), h)

pub start-part : (c : ℕ) → is_word_start c ≡ true → is_word_part c ≡ true
unfolding is_word_part
start-part c h = rw h

word-only : {s : List ℕ} {p q : Place} {c : ℕ} {cs rest : List ℕ} → is_word_start c ≡ true → All is_word_part cs → Stops is_word_part rest →
    Reads s p q (c ∷ cs) → Left s q rest → Given s p (lexeme_of (worth WORD 0) p q)
unfolding word lexeme_of first_byte end_byte
word-only {s} {p} {c} h a k (more {n} t r) l =
    record {
      first = c;
      next = n;
      step = t;
      is = word_at c s p n h ∙ ap (spanning WORD 0 p) (class-row (more t r) (All.more (start-part c h) a) l k);
    }

-- ---- strings

quote-at : (s : List ℕ) (p n : Place) → token_at s p 0x22 n ≡ string n (quoted n (chars s n.at))
unfolding token_at
quote-at s p n = refl

closed_is : {s : List ℕ} {p n m q : Place} → Stepped s p 0x22 n → Stepped s m 0x22 q →
    string n (Ok (m.at, q)) ≡ lexeme_of (worth STRING 0) p q
unfolding string lexeme_of first_byte end_byte
closed_is {p} {n} {m} {q} a b =
    let e : n.at ≡ p.at + 1 = byte-long a (omega arith) in
    let f : q.at ≡ m.at + 1 = byte-long b (omega arith) in
    let g : m.at ≡ q.at - 1 = omega arith in
    rw (e, ← g)

string_end : {s : List ℕ} {p n m q : Place} {cs : List ℕ} → Without 0x22 cs → Without 0x0A cs → Stepped s p 0x22 n → Reads s n m cs →
    Reads s m q (0x22 ∷ []) → Given s p (lexeme_of (worth STRING 0) p q)
string_end {s} {p} {n} a b t r (more k none) =
    record { first = 0x22; next = n; step = t; is = quote-at s p n ∙ ap (string n) (quoted-row r a b k) ∙ closed_is t k }

string-only : {s : List ℕ} {p q : Place} {cs : List ℕ} → Without 0x22 cs → Without 0x0A cs → Reads s p q (0x22 ∷ (cs ++ (0x22 ∷ []))) →
    Given s p (lexeme_of (worth STRING 0) p q)
string-only {s} {p} {cs} a b (more {n} t r) =
    let x = halves cs (0x22 ∷ []) r in
    string_end a b t x.one x.two

unclosed-only : {s : List ℕ} {p q : Place} {cs rest : List ℕ} → Without 0x22 cs → Without 0x0A cs → LineEnd rest → Reads s p q (0x22 ∷ cs) →
    Left s q rest → Given s p (Err 11)
unfolding string
unclosed-only {s} {p} a b e (more {n} t r) l =
    record { first = 0x22; next = n; step = t; is = quote-at s p n ∙ ap (string n) (quoted-line r a b l e) }

-- ---- signs

sign_at : {c : ℕ} (s : List ℕ) (p n : Place) → Plain c → token_at s p c n ≡ punct c p n (look s n)
unfolding token_at
sign_at s p n h = rw (h.quote, h.digit, h.letter)

-- a kind of a sign is neither 0 nor that of a string
kind-zero : (k : ℕ) → OPEN ≤ k → eqb k 0 ≡ false
kind-zero k h = ne_eqb k 0 (λ e. omega arith)

kind-spans : (k : ℕ) (p q : Place) → OPEN ≤ k → spanning k 0 p q ≡ lexeme_of (worth k 0) p q
unfolding lexeme_of first_byte end_byte
kind-spans k p q h = rw (ne_eqb k STRING (λ e. omega arith))

single-is : (c : ℕ) {kind : ℕ} (p n : Place) → single_kind c ≡ kind → OPEN ≤ kind → single c p n ≡ lexeme_of (worth kind 0) p n
unfolding single
single-is c {kind} p n e h = rw (e, kind-zero kind h) (kind-spans kind p n h)

pair-none : {c d : ℕ} (r : List ℕ) → NoLonger 1 (c ∷ d ∷ r) → eqb (pair_kind c d) 0 ≡ true
pair-none {c} {d} r h =
    told (eqb (pair_kind c d) 0) (λ e. e)
    (λ e. absurd (let z = h.most (c ∷ d ∷ []) r (pair_kind c d) (pair-symbol c d (eqb-false (pair_kind c d) 0 e)) refl in omega arith))

single_punct : {s : List ℕ} {c : ℕ} (p n : Place) (r : List ℕ) → Left s n r → NoLonger 1 (c ∷ r) →
    punct c p n (look s n) ≡ single c p n
unfolding punct
single_punct {c} p n [] l h = ap (punct c p n) (look_stop l)
single_punct {c} p n (d ∷ r) l h = let a = ahead l in ap (punct c p n) (look-next a.step) ∙ rw (pair-none r h)

pair-punct : {s : List ℕ} (c : ℕ) {d kind : ℕ} {n q : Place} (p : Place) → pair_kind c d ≡ kind → OPEN ≤ kind → Stepped s n d q →
    punct c p n (look s n) ≡ lexeme_of (worth kind 0) p q
unfolding punct
pair-punct c {kind} {n} {q} p e h t = ap (punct c p n) (look-next t) ∙ rw (e, kind-zero kind h) (kind-spans kind p q h)

sign-only : {s : List ℕ} {p q : Place} {u : List ℕ} {kind : ℕ} (rest : List ℕ) → Sign u kind → OPEN ≤ kind → NoLonger (length u) (u ++ rest) →
    Reads s p q u → Left s q rest → Given s p (lexeme_of (worth kind 0) p q)
sign-only {s} {p} rest (Sign.single {c} h e) o m (more {n} t none) l =
    record { first = c; next = n; step = t; is = sign_at s p n h ∙ single_punct p n rest l m ∙ single-is c p n e o }
sign-only {s} {p} rest (Sign.pair {c} h e) o m (more {n} t (more k none)) l =
    record { first = c; next = n; step = t; is = sign_at s p n h ∙ pair-punct c p e o k }

-- no sign begins here
no-single : {c : ℕ} (r : List ℕ) → NoLonger 0 (c ∷ r) → eqb (single_kind c) 0 ≡ true
no-single {c} r h =
    told (eqb (single_kind c) 0) (λ e. e)
    (λ e. absurd (let z = h.most (c ∷ []) r (single_kind c) (single-symbol c (eqb-false (single_kind c) 0 e)) refl in omega arith))

no-pair : {c : ℕ} {r : List ℕ} → NoLonger 0 (c ∷ r) → NoLonger 1 (c ∷ r)
no-pair h = record { most = λ u rest kind k e. omega (arith, h.most u rest kind k e) }

single-none : {c : ℕ} (p n : Place) (r : List ℕ) → NoLonger 0 (c ∷ r) → single c p n ≡ Err 10
unfolding single
single-none p n r h = rw (no-single r h)

nothing-only : {s : List ℕ} {p q : Place} {c : ℕ} {rest : List ℕ} → Plain c → NoLonger 0 (c ∷ rest) → Reads s p q (c ∷ []) → Left s q rest →
    Given s p (Err 10)
nothing-only {s} {p} {c} {rest} h m (more {n} t none) l =
    record { first = c; next = n; step = t; is = sign_at s p n h ∙ single_punct p n rest l (no-pair m) ∙ single-none p n rest m }

-- ---- the first digits of a number

number_at_lem : (c : ℕ) (s : List ℕ) (p n : Place) → is_digit c ≡ true → token_at s p c n ≡ number s p (digits 0 p (chars s p.at))
unfolding token_at
number_at_lem c s p n h = rw (ne_eqb c 0x22 (λ e. omega (arith, digit_low c h)), h)

pub run-all : {class : ℕ → Bool} {cs : List ℕ} → Run class cs → All class cs
run-all (run h a) = All.more h a

number_small : {s : List ℕ} {p q : Place} {ds r : List ℕ} {x : Result Lexeme ℕ} → Run is_digit ds → Reads s p q ds → Left s q r → Stops is_digit r →
    value ds ≤ most_run → number_at s p (value ds) q (look s q) ≡ x → Given s p x
unfolding number value
number_small {s} {p} (run {c} h a) (more {n} t r) l k m e =
    record {
      first = c;
      next = n;
      step = t;
      is = number_at_lem c s p n h ∙ ap (number s p) (digits-row 0 (more t r) (All.more h a) l k m) ∙ e;
    }

number-large : {s : List ℕ} {p q : Place} {ds : List ℕ} → Run is_digit ds → Reads s p q ds → most_run < value ds → Given s p (Err 12)
unfolding number value
number-large {s} {p} (run {c} h a) (more {n} t r) m =
    record {
      first = c;
      next = n;
      step = t;
      is = number_at_lem c s p n h ∙ ap (number s p) (digits-large 0 (omega arith) (more t r) (All.more h a) m);
    }

-- the digits ds are too large, and the verdict is 12, or they are not
by_size : {s : List ℕ} {p m : Place} (q : Place) {ds : List ℕ} {v : Verdict} → Run is_digit ds → Reads s p m ds → (most_run < value ds → v ≡ refuse 12) →
    (value ds ≤ most_run → Given s p (lexeme_of v p q)) → Given s p (lexeme_of v p q)
unfolding lexeme_of
by_size q {ds} d r f g =
    told (ltb most_run (value ds))
    (λ h. let k = ltb-true most_run (value ds) h in rw (f k) (number-large d r k))
    (λ h. g (ltb-false most_run (value ds) h))

-- ---- integers

point-integer : {s : List ℕ} (p : Place) (v : ℕ) (q : Place) {f : Place} {r : List ℕ} → Left s f r → Stops is_digit r →
    point s p v q f (look s f) ≡ spanning INTEGER v p q
unfolding point
point-integer {s} p v q {f} l Stops.at_end_rule = ap (point s p v q f) (look_stop l)
point-integer {s} p v q {f} l (Stops.other h) = let a = ahead l in ap (point s p v q f) (look-next a.step) ∙ rw h

integer-at : {s : List ℕ} (p : Place) (v : ℕ) {q : Place} {r : List ℕ} → Left s q r → EndsInteger r →
    number_at s p v q (look s q) ≡ spanning INTEGER v p q
unfolding number_at
integer-at {s} p v {q} l EndsInteger.at_end_rule = ap (number_at s p v q) (look_stop l)
integer-at {s} p v {q} l (EndsInteger.point k) =
    let a = ahead l in ap (number_at s p v q) (look-next a.step) ∙ point-integer p v q a.rest k
integer-at {s} p v {q} l (EndsInteger.other {c} h a e f) =
    let x = ahead l in ap (number_at s p v q) (look-next x.step) ∙ rw (ne_eqb c 0x3A e, ne_eqb c 0x2E f, a)

ends-stops : {r : List ℕ} → EndsInteger r → Stops is_digit r
unfolding is_digit
ends-stops EndsInteger.at_end_rule = Stops.at_end_rule
ends-stops (EndsInteger.point k) = Stops.other refl
ends-stops (EndsInteger.other h a e f) = Stops.other h

integer-only : {s : List ℕ} {p q : Place} {ds rest : List ℕ} {v : Verdict} → Run is_digit ds → EndsInteger rest → Judged (Shape.integer ds) v →
    Reads s p q ds → Left s q rest → Given s p (lexeme_of v p q)
unfolding lexeme_of first_byte end_byte
integer-only d e (Judged.large DigitRun.integer m) r l = number-large d r m
integer-only {p} {ds} d e (Judged.integer h) r l =
    number_small d r l (ends-stops e) (h.runs ds DigitRun.integer) (integer-at p (value ds) l e)

-- ---- times

colon_stops : {cs : List ℕ} → Stops is_digit (0x3A ∷ cs)
unfolding is_digit
colon_stops = Stops.other refl

time-at : {s : List ℕ} (p : Place) (v : ℕ) {q m : Place} → Stepped s q 0x3A m →
    number_at s p v q (look s q) ≡ time p v q m (digits 0 m (chars s m.at))
unfolding number_at
time-at {s} p v {q} h = ap (number_at s p v q) (look-next h)

digits_long : {s : List ℕ} {p q : Place} {ds : List ℕ} → Reads s p q ds → All is_digit ds → q.at - p.at ≡ length ds
digits_long r a = ascii-length r (all_of digit-ascii a)

time-yes : {hs ms : List ℕ} (p e : Place) → IsTime hs ms →
    time_by p (value hs) (length hs) (value ms) (length ms) e ≡ lexeme_of (worth TIME (value hs * 60 + value ms)) p e
unfolding time_by lexeme_of first_byte end_byte
time-yes {hs} {ms} p e t =
    rw (le-ltb 2 (length hs) t.hours, eq-eqb (length ms) 2 t.minutes, le-ltb 23 (value hs) t.hour, le-ltb 59 (value ms) t.minute)

time-no : {hs ms : List ℕ} (p e : Place) → (IsTime hs ms → ⊥) → time_by p (value hs) (length hs) (value ms) (length ms) e ≡ Err 13
unfolding time_by
time-no {hs} {ms} p e n =
    let P : Result Lexeme ℕ → Type 0 = λ x. x ≡ Err 13 in
    picked P (ltb 2 (length hs)) (λ h. refl)
    (λ h. picked P (eqb (length ms) 2)
    (λ m. picked P (ltb 23 (value hs)) (λ k. refl)
    (λ k. picked P (ltb 59 (value ms)) (λ j. refl)
    (λ j. absurd (n (record {
      hours = ltb-false 2 (length hs) h;
      minutes = eqb-true (length ms) 2 m;
      hour = ltb-false 23 (value hs) k;
      minute = ltb-false 59 (value ms) j;
    })))))
    (λ m. refl))

time-worth : {hs ms : List ℕ} {v : Verdict} (p e : Place) → Judged (Shape.time hs ms) v → value hs ≤ most_run → value ms ≤ most_run →
    time_by p (value hs) (length hs) (value ms) (length ms) e ≡ lexeme_of v p e
unfolding lexeme_of
time-worth p e (Judged.large DigitRun.hour m) h k = absurd (omega arith)
time-worth p e (Judged.large DigitRun.minute m) h k = absurd (omega arith)
time-worth p e (Judged.time t) h k = time-yes p e t
time-worth p e (Judged.no_time s n) h k = time-no p e n

time-large : {hs ms ds : List ℕ} {v : Verdict} → Judged (Shape.time hs ms) v → DigitRun (Shape.time hs ms) ds → most_run < value ds → v ≡ refuse 12
time-large (Judged.large d m) r k = refl
time-large (Judged.time t) DigitRun.hour k = absurd (omega (arith, t.hour))
time-large (Judged.time t) DigitRun.minute k = absurd (omega (arith, t.minute))
time-large {ds} (Judged.no_time s n) r k = absurd (omega (arith, s.runs ds r))

-- behind the colon
minutes-only : {s : List ℕ} {p m n q : Place} {hs ms rest : List ℕ} {v : Verdict} → Reads s p m hs → All is_digit hs → Reads s n q ms → All is_digit ms →
    Left s q rest → Stops is_digit rest → Judged (Shape.time hs ms) v → value hs ≤ most_run →
    time p (value hs) m n (digits 0 n (chars s n.at)) ≡ lexeme_of v p q
unfolding time value lexeme_of
minutes-only {s} {p} {m} {n} {q} {hs} {ms} rh h rm a l k j small =
    told (ltb most_run (value ms))
    (λ e. let b = ltb-true most_run (value ms) e in
    ap (time p (value hs) m n) (digits-large 0 (omega arith) rm a b) ∙ ap (λ (x : Verdict). lexeme_of x p q) (sym (time-large j DigitRun.minute b)))
    (λ e. let b = ltb-false most_run (value ms) e in
    ap (time p (value hs) m n) (digits-row 0 rm a l k b) ∙ rw (digits_long rh h, digits_long rm a) (time-worth p q j small b))

time-only : {s : List ℕ} {p q : Place} {hs ms rest : List ℕ} {v : Verdict} → Run is_digit hs → All is_digit ms → Stops is_digit rest →
    Judged (Shape.time hs ms) v → Reads s p q (hs ++ (0x3A ∷ ms)) → Left s q rest → Given s p (lexeme_of v p q)
time-only {p} {q} {hs} {ms} {rest} d a k j r l =
    let x = halves hs (0x3A ∷ ms) r in
    let f = uncons x.two in
    by_size q d x.one (time-large j DigitRun.hour)
    (λ small. number_small d x.one (left_behind rest x.two l) colon_stops small
    (time-at p (value hs) f.step ∙ minutes-only x.one (run-all d) f.reads a l k j small))

-- ---- fractions

dot-stops : {cs : List ℕ} → Stops is_digit (0x2E ∷ cs)
unfolding is_digit
dot-stops = Stops.other refl

point_at : {s : List ℕ} (p : Place) (v : ℕ) {q f : Place} → Stepped s q 0x2E f → number_at s p v q (look s q) ≡ point s p v q f (look s f)
unfolding number_at
point_at {s} p v {q} h = ap (number_at s p v q) (look-next h)

point-digit : {s : List ℕ} (p : Place) (v : ℕ) (q : Place) {f n : Place} {c : ℕ} → Stepped s f c n → is_digit c ≡ true →
    point s p v q f (look s f) ≡ fraction s p v f (digits 0 f (chars s f.at))
unfolding point
point-digit {s} p v q {f} h d = ap (point s p v q f) (look-next h) ∙ rw d

fraction_at_lem : {s : List ℕ} (p : Place) (v : ℕ) {q f e : Place} {fs : List ℕ} → Stepped s q 0x2E f → Run is_digit fs → Reads s f e fs →
    number_at s p v q (look s q) ≡ fraction s p v f (digits 0 f (chars s f.at))
fraction_at_lem p v {q} h (run d a) (more t r) = point_at p v h ∙ point-digit p v q t d

-- the runs on both sides of a point, read from p to e: both are small, and then it goes on behind them, or the verdict is 12
fraction_by : {s : List ℕ} {p m f e : Place} (q : Place) {ws fs r : List ℕ} {v : Verdict} → Run is_digit ws → Reads s p m ws → Stepped s m 0x2E f →
    Run is_digit fs → Reads s f e fs → Left s e r → Stops is_digit r → (most_run < value ws → v ≡ refuse 12) → (most_run < value fs → v ≡ refuse 12) →
    (value ws ≤ most_run → value fs ≤ most_run → fraction_at s p (value ws) (value fs) f e (look s e) ≡ lexeme_of v p q) → Given s p (lexeme_of v p q)
unfolding fraction value lexeme_of
fraction_by {s} {p} {f} q {ws} {fs} {r} d rw₁ t g rf l k large-whole large-part on =
    by_size q d rw₁ large-whole
    (λ small.
    number_small d rw₁ (left_behind r (more t rf) l) dot-stops small
    (fraction_at_lem p (value ws) t g rf
    ∙ told (ltb most_run (value fs))
    (λ h. let b = ltb-true most_run (value fs) h in
    ap (fraction s p (value ws) f) (digits-large 0 (omega arith) rf (run-all g) b) ∙ ap (λ (x : Verdict). lexeme_of x p q) (sym (large-part b)))
    (λ h. let b = ltb-false most_run (value fs) h in
    ap (fraction s p (value ws) f) (digits-row 0 rf (run-all g) l k b) ∙ on small b)))

-- ---- decimals

decimal-at : {s : List ℕ} (p : Place) (w v : ℕ) (f : Place) {e : Place} {r : List ℕ} → Left s e r → Stops is_alpha r →
    fraction_at s p w v f e (look s e) ≡ decimal p w v (digits_in f e) e
unfolding fraction_at
decimal-at {s} p w v f {e} l Stops.at_end_rule = ap (fraction_at s p w v f e) (look_stop l)
decimal-at {s} p w v f {e} l (Stops.other h) = let a = ahead l in ap (fraction_at s p w v f e) (look-next a.step) ∙ rw h

-- a number is one multiple of a power of ten only
ten-one : (d : ℕ) {m n : ℕ} → m * 10 ^ d ≡ n * 10 ^ d → m ≡ n
ten-one d {m} {n} e = sym (mul-div_cancel m (ten-pos d)) ∙ ap (λ (k : ℕ). k / 10 ^ d) e ∙ mul-div_cancel n (ten-pos d)

ten_thousandths_one : {ws fs : List ℕ} {n : ℕ} → TenThousandths ws fs n → value ws * 10000 + value fs * 10 ^ (4 - length fs) ≡ n
ten_thousandths_one {ws} {fs} t =
    ten-one (length fs) ((ten_thousandths ws fs t.places).proportion ∙ sym t.proportion)

decimal-many : (p e : Place) (w v d : ℕ) → 4 < d → decimal p w v d e ≡ Err 15
unfolding decimal
decimal-many p e w v d h = rw (lt-ltb 4 d h)

decimal-high : (p e : Place) (w v d : ℕ) {n : ℕ} → d ≤ 4 → w * 10000 + v * 10 ^ (4 - d) ≡ n → most_decimal < n → decimal p w v d e ≡ Err 12
unfolding decimal
decimal-high p e w v d {n} h k m = rw (le-ltb 4 d h, k, le-ltb n 4294967296 (omega arith))

decimal-held : (p e : Place) (w v d : ℕ) {n : ℕ} → d ≤ 4 → w * 10000 + v * 10 ^ (4 - d) ≡ n → n ≤ most_decimal →
    decimal p w v d e ≡ lexeme_of (worth DECIMAL n) p e
unfolding decimal lexeme_of first_byte end_byte
decimal-held p e w v d {n} h k m = rw (le-ltb 4 d h, k, lt-ltb n 4294967296 (omega arith))

decimal-worth : {ws fs : List ℕ} {v : Verdict} (p e : Place) → Judged (Shape.decimal ws fs) v → value ws ≤ most_run → value fs ≤ most_run →
    decimal p (value ws) (value fs) (length fs) e ≡ lexeme_of v p e
unfolding lexeme_of
decimal-worth p e (Judged.large DigitRun.decimal_whole m) h k = absurd (omega arith)
decimal-worth p e (Judged.large DigitRun.decimal_fraction m) h k = absurd (omega arith)
decimal-worth {ws} {fs} p e (Judged.places s m) h k = decimal-many p e (value ws) (value fs) (length fs) m
decimal-worth {ws} {fs} p e (Judged.high s t m) h k =
    decimal-high p e (value ws) (value fs) (length fs) t.places (ten_thousandths_one t) m
decimal-worth {ws} {fs} p e (Judged.decimal s t m) h k =
    decimal-held p e (value ws) (value fs) (length fs) t.places (ten_thousandths_one t) m

decimal-large : {ws fs ds : List ℕ} {v : Verdict} → Judged (Shape.decimal ws fs) v → DigitRun (Shape.decimal ws fs) ds → most_run < value ds →
    v ≡ refuse 12
decimal-large (Judged.large d m) r k = refl
decimal-large {ds} (Judged.places s m) r k = absurd (omega (arith, s.runs ds r))
decimal-large {ds} (Judged.high s t m) r k = refl
decimal-large {ds} (Judged.decimal s t m) r k = absurd (omega (arith, s.runs ds r))

decimal-only : {s : List ℕ} {p q : Place} {ws fs rest : List ℕ} {v : Verdict} → Run is_digit ws → Run is_digit fs → Stops is_digit rest →
    Stops is_alpha rest → Judged (Shape.decimal ws fs) v → Reads s p q (ws ++ (0x2E ∷ fs)) → Left s q rest → Given s p (lexeme_of v p q)
decimal-only {p} {q} {ws} {fs} d g k a j r l =
    let x = halves ws (0x2E ∷ fs) r in
    let f = uncons x.two in
    fraction_by q d x.one f.step g f.reads l k (decimal-large j DigitRun.decimal_whole) (decimal-large j DigitRun.decimal_fraction)
    (λ small part.
    decimal-at p (value ws) (value fs) f.next l a ∙ rw (digits_long f.reads (run-all g)) (decimal-worth p q j small part))

-- ---- durations

duration-at : {s : List ℕ} (p : Place) (w v d : ℕ) {u q : Place} {us r : List ℕ} → Reads s u q us → All is_alpha us → Left s q r → Stops is_alpha r →
    duration s p w v d u ≡ duration_by p (unit_of us) w v d q
unfolding duration
duration-at p w v d r a l k = rw (class-row r a l k, ascii-octets (octets r) (all_of alpha_ascii a))

judged-is : (p e : Place) (w v d : ℕ) {us : List ℕ} {unit : ℕ} {x : Result ℕ ℕ} → UnitOf us unit → JudgedAmount w v d unit x →
    duration_by p (unit_of us) w v d e ≡ amount_to p e x
unfolding duration_by
judged-is p e w v d {unit} u j = rw (unit-only u, ne_eqb unit 0 (unit-some u), amount-only w v d unit j)

no-unit-is : (p e : Place) (w v d : ℕ) (us : List ℕ) → ((unit : ℕ) → UnitOf us unit → ⊥) → duration_by p (unit_of us) w v d e ≡ Err 16
unfolding duration_by
no-unit-is p e w v d us n =
    picked (λ (x : Result Lexeme ℕ). x ≡ Err 16) (eqb (unit_of us) 0) (λ h. refl)
    (λ h. absurd (n (unit_of us) (unit-found us (eqb-false (unit_of us) 0 h))))

amount-worth : {ws fs us : List ℕ} {v : Verdict} (p e : Place) → Judged (Shape.amount ws fs us) v → value ws ≤ most_run → value fs ≤ most_run →
    duration_by p (unit_of us) (value ws) (value fs) (length fs) e ≡ lexeme_of v p e
unfolding lexeme_of amount_to first_byte end_byte
amount-worth p e (Judged.large DigitRun.amount_whole m) h k = absurd (omega arith)
amount-worth p e (Judged.large DigitRun.amount_fraction m) h k = absurd (omega arith)
amount-worth {ws} {fs} {us} p e (Judged.no_unit s n) h k = no-unit-is p e (value ws) (value fs) (length fs) us n
amount-worth {ws} {fs} p e (Judged.fine s u n) h k = judged-is p e (value ws) (value fs) (length fs) u (fine n)
amount-worth {ws} {fs} p e (Judged.long s u a m) h k = judged-is p e (value ws) (value fs) (length fs) u (long a m)
amount-worth {ws} {fs} p e (Judged.duration s u a m) h k = judged-is p e (value ws) (value fs) (length fs) u (exact a m)

amount-large : {ws fs us ds : List ℕ} {v : Verdict} → Judged (Shape.amount ws fs us) v → DigitRun (Shape.amount ws fs us) ds → most_run < value ds →
    v ≡ refuse 12
amount-large (Judged.large d m) r k = refl
amount-large {ds} (Judged.no_unit s n) r k = absurd (omega (arith, s.runs ds r))
amount-large {ds} (Judged.fine s u n) r k = absurd (omega (arith, s.runs ds r))
amount-large {ds} (Judged.long s u a m) r k = absurd (omega (arith, s.runs ds r))
amount-large {ds} (Judged.duration s u a m) r k = absurd (omega (arith, s.runs ds r))

-- a letter stands behind the digits, which end at u
whole_at : {s : List ℕ} (p : Place) (v : ℕ) {u n : Place} {c : ℕ} → Stepped s u c n → is_alpha c ≡ true →
    number_at s p v u (look s u) ≡ duration s p v 0 0 u
unfolding number_at
whole_at {s} p v {u} {c} h a =
    ap (number_at s p v u) (look-next h)
    ∙ rw (ne_eqb c 0x3A (λ e. omega (arith, alpha_low c a)), ne_eqb c 0x2E (λ e. omega (arith, alpha_low c a)), a)

part_at : {s : List ℕ} (p : Place) (w v : ℕ) (f : Place) {u n : Place} {c : ℕ} → Stepped s u c n → is_alpha c ≡ true →
    fraction_at s p w v f u (look s u) ≡ duration s p w v (digits_in f u) u
unfolding fraction_at
part_at {s} p w v f {u} h a = ap (fraction_at s p w v f u) (look-next h) ∙ rw a

letter-stops : {us : List ℕ} (r : List ℕ) → Run is_alpha us → Stops is_digit (us ++ r)
letter-stops r (run {c} h a) = Stops.other (alpha_digit c h)

whole_letters : {s : List ℕ} (p : Place) {u q : Place} {ws us rest : List ℕ} {v : Verdict} → Run is_alpha us → Stops is_alpha rest →
    Judged (Shape.amount ws [] us) v → Reads s u q us → Left s q rest → value ws ≤ most_run →
    number_at s p (value ws) u (look s u) ≡ lexeme_of v p q
unfolding value value_from
whole_letters p {q} {ws} (run h a) k j (more t r) l small =
    whole_at p (value ws) t h ∙ duration-at p (value ws) 0 0 (more t r) (All.more h a) l k ∙ amount-worth p q j small (omega arith)

whole-only : {s : List ℕ} {p q : Place} {ws us rest : List ℕ} {v : Verdict} → Run is_digit ws → Run is_alpha us → Stops is_alpha rest →
    Judged (Shape.amount ws [] us) v → Reads s p q (ws ++ us) → Left s q rest → Given s p (lexeme_of v p q)
whole-only {p} {q} {ws} {us} {rest} d g k j r l =
    let x = halves ws us r in
    by_size q d x.one (amount-large j DigitRun.amount_whole)
    (λ small. number_small d x.one (left_behind rest x.two l) (letter-stops rest g) small (whole_letters p g k j x.two l small))

part_letters : {s : List ℕ} (p : Place) {f u q : Place} {ws fs us rest : List ℕ} {v : Verdict} → Run is_alpha us → Stops is_alpha rest →
    Judged (Shape.amount ws fs us) v → Reads s f u fs → All is_digit fs → Reads s u q us → Left s q rest → value ws ≤ most_run → value fs ≤ most_run →
    fraction_at s p (value ws) (value fs) f u (look s u) ≡ lexeme_of v p q
part_letters p {f} {u} {q} {ws} {fs} (run h a) k j rf b (more t r) l small part =
    part_at p (value ws) (value fs) f t h ∙ duration-at p (value ws) (value fs) (digits_in f u) (more t r) (All.more h a) l k
    ∙ rw (digits_long rf b) (amount-worth p q j small part)

part-only : {s : List ℕ} {p q : Place} {ws fs us rest : List ℕ} {v : Verdict} → Run is_digit ws → Run is_digit fs → Run is_alpha us →
    Stops is_alpha rest → Judged (Shape.amount ws fs us) v → Reads s p q (ws ++ (0x2E ∷ (fs ++ us))) → Left s q rest → Given s p (lexeme_of v p q)
part-only {p} {q} {ws} {fs} {us} {rest} d g b k j r l =
    let x = halves ws (0x2E ∷ (fs ++ us)) r in
    let f = uncons x.two in
    let y = halves fs us f.reads in
    fraction_by q d x.one f.step g y.one (left_behind rest y.two l) (letter-stops rest b)
    (amount-large j DigitRun.amount_whole) (amount-large j DigitRun.amount_fraction)
    (λ small part. part_letters p b k j y.one (run-all g) y.two l small part)

-- ---- any token

-- whatever shape stands at p, with whatever verdict: the token there is that one
pub token-only : {s : List ℕ} {p q : Place} {u rest : List ℕ} {shape : Shape} {v : Verdict} → Shaped u rest shape → Judged shape v → Reads s p q u →
    Left s q rest → Given s p (lexeme_of v p q)
unfolding lexeme_of
token-only (Shaped.word h a k) Judged.word r l = word-only h a k r l
token-only (Shaped.string a b) Judged.string r l = string-only a b r
token-only (Shaped.unclosed a b e) Judged.unclosed r l = unclosed-only a b e r l
token-only {rest} (Shaped.sign h m) Judged.sign r l = sign-only rest (sign_of h) (symbol-kind h) m r l
token-only (Shaped.integer d e) j r l = integer-only d e j r l
token-only (Shaped.time d a k) j r l = time-only d a k j r l
token-only (Shaped.decimal d g k a) j r l = decimal-only d g k a j r l
token-only (Shaped.whole_amount d g k) j r l = whole-only d g k j r l
token-only (Shaped.decimal_amount d g b k) j r l = part-only d g b k j r l
token-only (Shaped.nothing {c} h d w m) Judged.nothing r l =
    nothing-only (record { quote = ne_eqb c 0x22 h; digit = d; letter = w }) m r l
token-only (Shaped.word h a k) (Judged.large x y) r l = elim x [ ]
token-only (Shaped.string a b) (Judged.large x y) r l = elim x [ ]
token-only (Shaped.unclosed a b e) (Judged.large x y) r l = elim x [ ]
token-only (Shaped.sign h m) (Judged.large x y) r l = elim x [ ]
token-only (Shaped.nothing h d w m) (Judged.large x y) r l = elim x [ ]
