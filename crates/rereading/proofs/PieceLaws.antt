-- A good piece, as it is spelled, is one token by the rules of lexing (tokens/specs/Rules.antt), where nothing or a space follows.
use Prim.Native.Nat.{ℕ, ◌+◌, ◌*◌, ◌/◌, ◌%◌, ◌<◌, ◌≤◌}
use native.Mathlib.Omega.{arith}
use mathlib.Core.Path.{◌≡◌, ◌∙◌, refl, ap, sym}
use mathlib.Core.Bool.{Bool, true, false, false≢true}
use mathlib.Core.List.{List, [], ◌∷◌, ◌++◌, append_assoc}
use lib.ListN.{length}
use lib.Dec.{ltb, eqb}
use borrow.Author.Tests.{ltb-true, ltb-false, eqb-true}
use Rattle.text.specs.Choice.{pick}
use Rattle.text.specs.Literal.{ascii}
use Rattle.text.specs.Ascii.{is_digit, is_alpha, is_word_start, is_word_part}
use Rattle.text.specs.Rfc3629.{Utf8Char, Utf8Octets}
use Rattle.text.specs.Rfc3629.Utf8Char.{utf8_1}
use Rattle.text.proofs.Tests.{picked}
use Rattle.tokens.specs.Kind.{WORD, STRING, INTEGER, TIME, DURATION}
use Rattle.tokens.specs.Numbers.{day_minutes}
use Rattle.tokens.specs.Amount.{most_ms}
use Rattle.tokens.specs.Rules.{All, Without, Stops, Run, run, Begins, begins, Symbol, EndsInteger, Shape, Shaped, value, value_from, UnitOf, most_run, worth, Judged}
use Rattle.tokens.proofs.LayoutReads.{one_byte}
use Rattle.tokens.proofs.ScanLaws.{Printed, digits-printed, letters_printed, words-printed, not_white}
use Rattle.tokens.proofs.RulesFound.{integer-small, amount-small}
use Rattle.tokens.proofs.RulesScan.{first-same, rest-same, never-none}
use Rattle.tokens.proofs.RulesToken.{run-all, start-part}
use Rattle.writing.specs.Pieces.{Piece, decimal, two_digits, three_digits, spelled_time, spelled_duration, spelled}
use Rattle.rereading.proofs.Stands.{Good, token_of}
use Rattle.rereading.proofs.SpelledDigits.{decimal-writes, two-write, three-write}

-- nothing follows, or a space
pub data Apart : List ℕ → Type 0 where
  at_end_rule : Apart []
  blank : {cs : List ℕ} → Apart (0x20 ∷ cs)

-- the characters of these bytes are one token, of this kind and with this number
pub record OneToken (bytes : List ℕ) (kind number : ℕ) : Type 0 where
  pub characters : List ℕ
  pub octets : Utf8Octets bytes characters
  pub shape : Shape
  pub starts : Begins characters
  pub shaped : (rest : List ℕ) → Apart rest → Shaped characters rest shape
  pub judged : Judged shape (worth kind number)

-- ---- a space goes on with no class

stops : {class : ℕ → Bool} {rest : List ℕ} → class 0x20 ≡ false → Apart rest → Stops class rest
stops e at_end_rule = Stops.at_end_rule
stops e blank = Stops.other e

digits_stop : {rest : List ℕ} → Apart rest → Stops is_digit rest
unfolding is_digit
digits_stop a = stops refl a

letters_stop : {rest : List ℕ} → Apart rest → Stops is_alpha rest
unfolding is_alpha
letters_stop a = stops refl a

word-stops : {rest : List ℕ} → Apart rest → Stops is_word_part rest
unfolding is_word_part is_word_start is_alpha is_digit
word-stops a = stops refl a

integer-ends : {rest : List ℕ} → Apart rest → EndsInteger rest
unfolding is_digit is_alpha
integer-ends at_end_rule = EndsInteger.at_end_rule
integer-ends blank = EndsInteger.other {c = 0x20} refl refl (λ e. omega arith) (λ e. omega arith)

-- ---- rows of printed ASCII characters

pub one-octet : {c : ℕ} → c < 0x80 → Utf8Char (c ∷ []) c
one-octet {c} h = utf8_1 {a = c} (record { low_end = omega arith; high_end = omega arith })

printed-octets : {class : ℕ → Bool} {cs : List ℕ} → Printed class → All class cs → Utf8Octets cs cs
printed-octets p All.none = Utf8Octets.none
printed-octets p (All.more {c} h a) = Utf8Octets.more (one-octet (p.holds c h).1) (printed-octets p a)

printed-starts : {class : ℕ → Bool} {cs : List ℕ} → Printed class → class 0x23 ≡ false → Run class cs → Begins cs
printed-starts {class} p e (run {c} h a) =
    let k = p.holds c h in
    begins (sym (not_white k.0 k.1)) (λ i. false≢true (sym e ∙ ap class (sym i) ∙ h))

pub starts-on : {cs : List ℕ} (ds : List ℕ) → Begins cs → Begins (cs ++ ds)
starts-on ds (begins h k) = begins h k

printed_unspaced : {class : ℕ → Bool} {cs : List ℕ} → Printed class → All class cs → Without 0x20 cs
printed_unspaced p All.none = Without.none
printed_unspaced p (All.more {c} h a) = Without.more {d = c} (λ e. omega (arith, (p.holds c h).0)) (printed_unspaced p a)

pub octets-on : {a b cs ds : List ℕ} → Utf8Octets a cs → Utf8Octets b ds → Utf8Octets (a ++ b) (cs ++ ds)
octets-on Utf8Octets.none k = k
octets-on (Utf8Octets.more h t) k = rw append_assoc (Utf8Octets.more h (octets-on t k))

-- ---- words

word_token : {c : ℕ} {cs : List ℕ} → is_word_start c ≡ true → All is_word_part cs → OneToken (c ∷ cs) WORD 0
unfolding is_word_part is_word_start is_alpha is_digit
word_token {c} {cs} h a =
    let k = start-part c h in
    record {
      characters = c ∷ cs;
      octets = printed-octets words-printed (All.more k a);
      shape = Shape.word;
      starts = printed-starts words-printed refl (run k a);
      shaped = λ rest b. Shaped.word h a (word-stops b);
      judged = Judged.word;
    }

-- ---- strings

without-first : {c d : ℕ} {ds : List ℕ} → Without c (d ∷ ds) → d ≡ c → ⊥
without-first (Without.more h w) = h

without-rest : {c : ℕ} (u : List ℕ) {v : List ℕ} → Without c (u ++ v) → Without c v
without-rest [] w = w
without-rest (d ∷ u) (Without.more h w) = without-rest u w

-- an ASCII character that is none of the bytes is none of the characters
without : {c : ℕ} {bytes cs : List ℕ} → c < 0x80 → Utf8Octets bytes cs → Without c bytes → Without c cs
without k Utf8Octets.none w = Without.none
without k (Utf8Octets.more {u} {c = d} h t) w =
    Without.more {d = d} (λ e. without-first (rw (one_byte h (omega arith)) at w) e) (without k t (without-rest u w))

quote : Utf8Char (0x22 ∷ []) 0x22
quote = one-octet (omega arith)

string_token : {bytes cs : List ℕ} → Utf8Octets bytes cs → Without 0x22 bytes → Without 0x0A bytes → OneToken (0x22 ∷ bytes ++ 0x22 ∷ []) STRING 0
string_token {bytes} {cs} o h k =
    record {
      characters = 0x22 ∷ cs ++ 0x22 ∷ [];
      octets = Utf8Octets.more quote (octets-on o (Utf8Octets.more quote Utf8Octets.none));
      shape = Shape.string;
      starts = begins {c = 0x22} (sym (not_white (omega arith) (omega arith))) (λ e. omega arith);
      shaped = λ rest a. Shaped.string (without (omega arith) o h) (without (omega arith) o k);
      judged = Judged.string;
    }

-- ---- signs

-- a printed character above #, or !
is_mark : ℕ → Bool
is_mark c = pick (ltb 0x23 c) (ltb c 0x80) (eqb c 0x21)

marks-printed : Printed is_mark
unfolding is_mark
marks-printed =
    record {
      holds =
          λ c.
          picked (λ (t : Bool). t ≡ true → (0x20 < c) × (c < 0x80)) (ltb 0x23 c)
          (λ h k. (omega (arith, ltb-true 0x23 c h), ltb-true c 0x80 k))
          (λ h k. let e = eqb-true c 0x21 k in (omega arith, omega arith));
    }

marks : {u : List ℕ} {kind : ℕ} → Symbol u kind → Run is_mark u
unfolding is_mark
marks Symbol.open_paren = run refl All.none
marks Symbol.close_paren = run refl All.none
marks Symbol.open_brace = run refl All.none
marks Symbol.close_brace = run refl All.none
marks Symbol.comma = run refl All.none
marks Symbol.dot = run refl All.none
marks Symbol.dot_dot = run refl (All.more refl All.none)
marks Symbol.assign = run refl All.none
marks Symbol.equal = run refl (All.more refl All.none)
marks Symbol.unequal = run refl (All.more refl All.none)
marks Symbol.at_least = run refl (All.more refl All.none)
marks Symbol.at_most = run refl (All.more refl All.none)
marks Symbol.greater = run refl All.none
marks Symbol.less = run refl All.none
marks Symbol.plus = run refl All.none
marks Symbol.minus = run refl All.none

-- what has no space goes no further than up to the space
no-further : (u : List ℕ) {v rest : List ℕ} (behind : List ℕ) → Apart rest → Without 0x20 v → u ++ rest ≡ v ++ behind → length v ≤ length u
no-further u behind a Without.none e = omega arith
no-further [] behind at_end_rule (Without.more h w) e = never-none e
no-further [] behind blank (Without.more h w) e = absurd (h (sym (first-same e)))
no-further (c ∷ u) behind a (Without.more h w) e = let k = no-further u behind a w (rest-same e) in omega arith

sign-token : {u : List ℕ} {kind : ℕ} → Symbol u kind → OneToken u kind 0
unfolding is_mark
sign-token {u} {kind} h =
    let r = marks h in
    record {
      characters = u;
      octets = printed-octets marks-printed (run-all r);
      shape = Shape.sign kind;
      starts = printed-starts marks-printed refl r;
      shaped =
          λ rest a.
          Shaped.sign h (record { most = λ v behind k s e. no-further u behind a (printed_unspaced marks-printed (run-all (marks s))) e });
      judged = Judged.sign;
    }

-- ---- numbers

digit-octets : {ds : List ℕ} → Run is_digit ds → Utf8Octets ds ds
digit-octets r = printed-octets digits-printed (run-all r)

digit-starts : {ds : List ℕ} → Run is_digit ds → Begins ds
unfolding is_digit
digit-starts r = printed-starts digits-printed refl r

integer-token : (n : ℕ) → n ≤ most_run → OneToken (decimal n) INTEGER n
integer-token n h =
    let w = decimal-writes n (omega arith) in
    record {
      characters = decimal n;
      octets = digit-octets w.digits;
      shape = Shape.integer (decimal n);
      starts = digit-starts w.digits;
      shaped = λ rest a. Shaped.integer w.digits (integer-ends a);
      judged = rw w.is at (Judged.integer {ds = decimal n} (record { runs = integer-small (omega (arith, w.is)) }));
    }

time-judged : {hs ms : List ℕ} {h m : ℕ} → length hs ≡ 2 → length ms ≡ 2 → value hs ≡ h → value ms ≡ m → h ≤ 23 → m ≤ 59 →
    Judged (Shape.time hs ms) (worth TIME (h * 60 + m))
time-judged {hs} {ms} a b e f c d =
    rw (e, f) at (Judged.time {hs = hs} {ms = ms} (record { hours = omega arith; minutes = b; hour = omega arith; minute = omega arith }))

time_token : (m : ℕ) → m < day_minutes → OneToken (spelled_time m) TIME m
unfolding spelled_time two_digits
time_token m h =
    let a = two-write (m / 60) (omega arith) in
    let b = two-write (m % 60) (omega arith) in
    let e : m / 60 * 60 + m % 60 ≡ m = omega arith in
    record {
      characters = spelled_time m;
      octets = octets-on (digit-octets a.digits) (Utf8Octets.more (one-octet {c = 0x3A} (omega arith)) (digit-octets b.digits));
      shape = Shape.time (two_digits (m / 60)) (two_digits (m % 60));
      starts = starts-on (0x3A ∷ two_digits (m % 60)) (digit-starts a.digits);
      shaped = λ rest k. Shaped.time a.digits (run-all b.digits) (digits_stop k);
      judged = rw e at (time-judged {hs = two_digits (m / 60)} {ms = two_digits (m % 60)} refl refl a.is b.is (omega arith) (omega arith));
    }

unit-run : {us : List ℕ} {unit : ℕ} → UnitOf us unit → Run is_alpha us
unfolding is_alpha
unit-run UnitOf.ms = run refl (All.more refl All.none)
unit-run UnitOf.s = run refl All.none
unit-run UnitOf.m = run refl All.none
unit-run UnitOf.h = run refl All.none

unit-octets : {us : List ℕ} {unit : ℕ} → UnitOf us unit → Utf8Octets us us
unit-octets u = printed-octets letters_printed (run-all (unit-run u))

-- in milliseconds
whole-token : (ms : ℕ) → ms ≤ most_run → OneToken (decimal ms ++ ascii "ms") DURATION ms
unfolding value value_from
whole-token ms h =
    let w = decimal-writes ms (omega arith) in
    let e = w.is in
    record {
      characters = decimal ms ++ ascii "ms";
      octets = octets-on (digit-octets w.digits) (unit-octets UnitOf.ms);
      shape = Shape.amount (decimal ms) [] (ascii "ms");
      starts = starts-on (ascii "ms") (digit-starts w.digits);
      shaped = λ rest a. Shaped.whole_amount w.digits (unit-run UnitOf.ms) (letters_stop a);
      judged =
          Judged.duration {ws = decimal ms} {fs = []} {ms = ms} (record { runs = amount-small (omega arith) (omega arith) }) UnitOf.ms
          (record { proportion = omega arith }) (omega arith);
    }

-- in seconds with three places
long-token : (ms : ℕ) → ms ≤ most_ms → OneToken (decimal (ms / 1000) ++ (0x2E ∷ (three_digits (ms % 1000) ++ ascii "s"))) DURATION ms
unfolding three_digits two_digits
long-token ms h =
    let w = decimal-writes (ms / 1000) (omega arith) in
    let f = three-write (ms % 1000) (omega arith) in
    let e = w.is in
    let g = f.is in
    record {
      characters = decimal (ms / 1000) ++ (0x2E ∷ (three_digits (ms % 1000) ++ ascii "s"));
      octets =
          octets-on (digit-octets w.digits)
          (Utf8Octets.more (one-octet {c = 0x2E} (omega arith)) (octets-on (digit-octets f.digits) (unit-octets UnitOf.s)));
      shape = Shape.amount (decimal (ms / 1000)) (three_digits (ms % 1000)) (ascii "s");
      starts = starts-on (0x2E ∷ (three_digits (ms % 1000) ++ ascii "s")) (digit-starts w.digits);
      shaped = λ rest a. Shaped.decimal_amount w.digits f.digits (unit-run UnitOf.s) (letters_stop a);
      judged =
          Judged.duration {ws = decimal (ms / 1000)} {fs = three_digits (ms % 1000)} {ms = ms}
          (record { runs = amount-small (omega arith) (omega arith) }) UnitOf.s (record { proportion = omega arith }) h;
    }

duration_token : (ms : ℕ) → ms ≤ most_ms → OneToken (spelled_duration ms) DURATION ms
unfolding spelled_duration
duration_token ms h =
    picked (λ (bytes : List ℕ). OneToken bytes DURATION ms) (ltb most_run ms) (λ k. rw append_assoc (long-token ms h))
    (λ k. whole-token ms (ltb-false most_run ms k))

-- ---- any piece

pub piece_token_lem : {p : Piece} → Good p → OneToken (spelled p) (token_of p).kind (token_of p).number
unfolding spelled token_of
piece_token_lem (Good.word h a) = word_token h a
piece_token_lem (Good.string o h k) = string_token o h k
piece_token_lem (Good.integer {n} h) = integer-token n h
piece_token_lem (Good.time {m} h) = time_token m h
piece_token_lem (Good.duration {ms} h) = duration_token ms h
piece_token_lem (Good.sign h) = sign-token h
