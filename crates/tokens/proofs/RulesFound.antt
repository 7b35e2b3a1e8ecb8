-- By the rules of specs/Rules.antt every row of characters has a gap and a shape at its front, and every shape a verdict.
use Rattle.std.specs.Prelude.{Result}
use mathlib.Core.Path.{◌≡◌, ◌∙◌, refl, ap, sym}
use mathlib.Core.Bool.{Bool, true, false}
use Prim.Native.Nat.{ℕ, zero, suc, ◌+◌, ◌-◌, ◌*◌, ◌^◌, ◌≤◌}
use native.Mathlib.Omega.{arith}
use mathlib.Core.List.{List, [], ◌∷◌, ◌++◌, append_assoc}
use lib.ListN.{length}
use lib.Dec.{ltb, eqb}
use borrow.Author.Tests.{ltb-true, ltb-false, eqb-true, eqb-false}
use Rattle.text.specs.Choice.{pick}
use Rattle.text.specs.Part.{same_bytes}
use Rattle.text.specs.White.{is_white}
use Rattle.text.specs.Ascii.{is_digit, is_alpha, is_word_start, is_word_part}
use Rattle.text.proofs.Tests.{picked}
use Rattle.text.proofs.PartLaws.{same-eq}
use Rattle.tokens.specs.Kind.{OPEN}
use Rattle.tokens.specs.Rules.{All, Without, Stops, Run, run, Trivia, Trailing, Begins, begins, Symbol, NoLonger, LineEnd, EndsInteger, Shape, Shaped, value, UnitOf, DigitRun, most_run, Small, TenThousandths, most_decimal, Verdict, refuse, Judged}
use Rattle.tokens.specs.Amount.{JudgedAmount, fine, long, exact}
use Rattle.tokens.specs.Token.{single_kind, pair_kind}
use Rattle.tokens.specs.Duration.{unit_of}
use Rattle.tokens.proofs.AmountLaws.{amount-judged}

-- a test holds or it does not
pub told : {X : Type 0} (t : Bool) → (t ≡ true → X) → (t ≡ false → X) → X
told true f g = f refl
told false f g = g refl

-- ---- runs

-- the longest run of a class at the front
pub record SplitRun (class : ℕ → Bool) (cs : List ℕ) : Type 0 where
  pub front : List ℕ
  pub rest : List ℕ
  pub split : cs ≡ front ++ rest
  pub all : All class front
  pub stops : Stops class rest

pub split-run : (class : ℕ → Bool) (cs : List ℕ) → SplitRun class cs
split-run class [] = record { front = []; rest = []; split = refl; all = All.none; stops = Stops.at_end_rule }
split-run class (c ∷ cs) =
    let r = split-run class cs in
    told (class c)
    (λ h. record {
      front = c ∷ r.front;
      rest = r.rest;
      split = ap (λ (l : List ℕ). c ∷ l) r.split;
      all = All.more h r.all;
      stops = r.stops;
    })
    (λ h. record { front = []; rest = c ∷ cs; split = refl; all = All.none; stops = Stops.other h })

-- ---- gaps

pub data GapFound : List ℕ → Type 0 where
  inner : {gap rest : List ℕ} → Trivia gap → Begins rest → GapFound (gap ++ rest)
  last : {gap : List ℕ} → Trailing gap → GapFound gap

-- behind `#`
data CommentFound : List ℕ → Type 0 where
  fed : {ds cs : List ℕ} → Without 0x0A ds → GapFound cs → CommentFound (ds ++ (0x0A ∷ cs))
  unfed : {ds : List ℕ} → Without 0x0A ds → CommentFound ds

white-trailing : {c : ℕ} {cs : List ℕ} → is_white c ≡ true → Trailing cs → Trailing (c ∷ cs)
white-trailing h (Trailing.trivia t) = Trailing.trivia (Trivia.white h t)
white-trailing h (Trailing.last_comment t w) = Trailing.last_comment (Trivia.white h t) w

white-first : {c : ℕ} {cs : List ℕ} → is_white c ≡ true → GapFound cs → GapFound (c ∷ cs)
white-first h (inner t b) = inner (Trivia.white h t) b
white-first h (last t) = last (white-trailing h t)

comment-trailing : {ds cs : List ℕ} → Without 0x0A ds → Trailing cs → Trailing (0x23 ∷ (ds ++ (0x0A ∷ cs)))
comment-trailing w (Trailing.trivia t) = Trailing.trivia (Trivia.comment w t)
comment-trailing w (Trailing.last_comment t v) = rw append_assoc at (Trailing.last_comment (Trivia.comment w t) v)

hashed : {cs : List ℕ} → CommentFound cs → GapFound (0x23 ∷ cs)
hashed (fed w (inner t b)) = rw append_assoc at (inner (Trivia.comment w t) b)
hashed (fed w (last t)) = last (comment-trailing w t)
hashed (unfed w) = last (Trailing.last_comment Trivia.none w)

commented : {c : ℕ} {cs : List ℕ} → c ≡ 0x23 → CommentFound cs → GapFound (c ∷ cs)
commented e k = rw e (hashed k)

feed : {c : ℕ} {cs : List ℕ} → c ≡ 0x0A → GapFound cs → CommentFound (c ∷ cs)
feed e g = rw e (fed Without.none g)

longer : {c : ℕ} {cs : List ℕ} → (c ≡ 0x0A → ⊥) → CommentFound cs → CommentFound (c ∷ cs)
longer h (fed w g) = fed (Without.more h w) g
longer h (unfed w) = unfed (Without.more h w)

gaps_found : (cs : List ℕ) → GapFound cs × CommentFound cs
gaps_found [] = (last (Trailing.trivia Trivia.none), unfed Without.none)
gaps_found (c ∷ cs) =
    let r = gaps_found cs in (
      told (is_white c) (λ h. white-first h r.0)
          (λ h. told (eqb c 0x23) (λ k. commented (eqb-true c 0x23 k) r.1)
          (λ k. inner Trivia.none (begins h (eqb-false c 0x23 k)))),
      told (eqb c 0x0A) (λ h. feed (eqb-true c 0x0A h) r.0) (λ h. longer (eqb-false c 0x0A h) r.1),
    )

pub gap-found : (cs : List ℕ) → GapFound cs
gap-found cs = (gaps_found cs).0

-- ---- shapes

pub record ShapeFound (cs : List ℕ) : Type 0 where
  pub taken : List ℕ
  pub rest : List ℕ
  pub shape : Shape
  pub split : cs ≡ taken ++ rest
  pub shaped : Shaped taken rest shape

-- what is taken apart behind characters a
joined : (a b r : List ℕ) {l : List ℕ} → l ≡ b ++ r → a ++ l ≡ (a ++ b) ++ r
joined a b r e = ap (λ (l : List ℕ). a ++ l) e ∙ sym (append_assoc a b r)

word_found : (c : ℕ) (cs : List ℕ) → is_word_start c ≡ true → ShapeFound (c ∷ cs)
word_found c cs h =
    let r = split-run is_word_part cs in
    record {
      taken = c ∷ r.front;
      rest = r.rest;
      shape = Shape.word;
      split = ap (λ (l : List ℕ). c ∷ l) r.split;
      shaped = Shaped.word h r.all r.stops;
    }

-- behind the opening quote
data QuoteFound : List ℕ → Type 0 where
  closed : {cs : List ℕ} (rest : List ℕ) → Without 0x22 cs → Without 0x0A cs → QuoteFound (cs ++ (0x22 ∷ rest))
  unclosed : {cs rest : List ℕ} → Without 0x22 cs → Without 0x0A cs → LineEnd rest → QuoteFound (cs ++ rest)

quote-closed : {c : ℕ} (cs : List ℕ) → c ≡ 0x22 → QuoteFound (c ∷ cs)
quote-closed cs e = rw e (closed cs Without.none Without.none)

quote-line : {c : ℕ} (cs : List ℕ) → c ≡ 0x0A → QuoteFound (c ∷ cs)
quote-line cs e = rw e (unclosed {cs = []} {rest = 0x0A ∷ cs} Without.none Without.none LineEnd.at_feed)

quote-more : {c : ℕ} {cs : List ℕ} → (c ≡ 0x22 → ⊥) → (c ≡ 0x0A → ⊥) → QuoteFound cs → QuoteFound (c ∷ cs)
quote-more f g (closed rest a b) = closed rest (Without.more f a) (Without.more g b)
quote-more f g (unclosed a b l) = unclosed (Without.more f a) (Without.more g b) l

quote-found : (cs : List ℕ) → QuoteFound cs
quote-found [] = unclosed {cs = []} {rest = []} Without.none Without.none LineEnd.at_end_rule
quote-found (c ∷ cs) =
    told (eqb c 0x22) (λ h. quote-closed cs (eqb-true c 0x22 h))
    (λ h. told (eqb c 0x0A) (λ k. quote-line cs (eqb-true c 0x0A k))
    (λ k. quote-more (eqb-false c 0x22 h) (eqb-false c 0x0A k) (quote-found cs)))

string-found : {cs : List ℕ} → QuoteFound cs → ShapeFound (0x22 ∷ cs)
string-found (closed {cs} rest a b) =
    record {
      taken = 0x22 ∷ (cs ++ (0x22 ∷ []));
      rest = rest;
      shape = Shape.string;
      split = joined (0x22 ∷ cs) (0x22 ∷ []) rest refl;
      shaped = Shaped.string a b;
    }
string-found (unclosed {cs} {rest} a b l) =
    record { taken = 0x22 ∷ cs; rest = rest; shape = Shape.unclosed; split = refl; shaped = Shaped.unclosed a b l }

-- ---- signs

-- the kinds of signs are those from that of `(` on
pub symbol-kind : {cs : List ℕ} {kind : ℕ} → Symbol cs kind → OPEN ≤ kind
symbol-kind Symbol.open_paren = omega arith
symbol-kind Symbol.close_paren = omega arith
symbol-kind Symbol.open_brace = omega arith
symbol-kind Symbol.close_brace = omega arith
symbol-kind Symbol.comma = omega arith
symbol-kind Symbol.dot = omega arith
symbol-kind Symbol.dot_dot = omega arith
symbol-kind Symbol.assign = omega arith
symbol-kind Symbol.equal = omega arith
symbol-kind Symbol.unequal = omega arith
symbol-kind Symbol.at_least = omega arith
symbol-kind Symbol.at_most = omega arith
symbol-kind Symbol.greater = omega arith
symbol-kind Symbol.less = omega arith
symbol-kind Symbol.plus = omega arith
symbol-kind Symbol.minus = omega arith

-- these characters are the sign of a kind that is not 0
abbrev pub Symbolic : List ℕ → ℕ → Type 0
Symbolic cs k = (k ≡ 0 → ⊥) → Symbol cs k

no_symbol : (cs : List ℕ) → Symbolic cs 0
no_symbol cs h = absurd (h refl)

-- one test on the first character
first-is : (c d : ℕ) {l : List ℕ} {k r : ℕ} → Symbol (d ∷ l) k → Symbolic (c ∷ l) r → Symbolic (c ∷ l) (pick (eqb c d) k r)
first-is c d {l} h = λ f. picked (Symbolic (c ∷ l)) (eqb c d) (λ t n. rw (eqb-true c d t) h) (λ t. f)

-- the kinds of specs/Token.antt are those of the signs
pub single-symbol : (c : ℕ) → Symbolic (c ∷ []) (single_kind c)
unfolding single_kind
single-symbol c =
    first-is c 0x28 Symbol.open_paren (first-is c 0x29 Symbol.close_paren (first-is c 0x7B Symbol.open_brace
    (first-is c 0x7D Symbol.close_brace (first-is c 0x2C Symbol.comma (first-is c 0x2E Symbol.dot
    (first-is c 0x3D Symbol.assign (first-is c 0x3E Symbol.greater (first-is c 0x3C Symbol.less
    (first-is c 0x2B Symbol.plus (first-is c 0x2D Symbol.minus (no_symbol (c ∷ []))))))))))))

equal-pair : (c : ℕ) →
    Symbolic (c ∷ 0x3D ∷ []) (pick (eqb c 0x3D) 15 (pick (eqb c 0x21) 16 (pick (eqb c 0x3E) 17 (pick (eqb c 0x3C) 18 0))))
equal-pair c =
    first-is c 0x3D Symbol.equal (first-is c 0x21 Symbol.unequal (first-is c 0x3E Symbol.at_least
    (first-is c 0x3C Symbol.at_most (no_symbol (c ∷ 0x3D ∷ [])))))

pub pair-symbol : (c d : ℕ) → Symbolic (c ∷ d ∷ []) (pair_kind c d)
unfolding pair_kind
pair-symbol c d =
    let P = Symbolic (c ∷ d ∷ []) in
    picked P (eqb c 0x2E)
    (λ h. picked P (eqb d 0x2E) (λ k n. rw (eqb-true c 0x2E h, eqb-true d 0x2E k) Symbol.dot_dot) (λ k. no_symbol (c ∷ d ∷ [])))
    (λ h. picked P (eqb d 0x3D) (λ k. rw (eqb-true d 0x3D k) (equal-pair c)) (λ k. no_symbol (c ∷ d ∷ [])))

-- a character that begins neither a string nor a number nor a word
pub record Plain (c : ℕ) : Type 0 where
  pub quote : eqb c 0x22 ≡ false
  pub digit : is_digit c ≡ false
  pub letter : is_word_start c ≡ false

-- a sign by its characters
pub data Sign : List ℕ → ℕ → Type 0 where
  single : {c kind : ℕ} → Plain c → single_kind c ≡ kind → Sign (c ∷ []) kind
  pair : {c d kind : ℕ} → Plain c → pair_kind c d ≡ kind → Sign (c ∷ d ∷ []) kind

pub sign_of : {u : List ℕ} {kind : ℕ} → Symbol u kind → Sign u kind
unfolding single_kind pair_kind is_digit is_word_start is_alpha
sign_of Symbol.open_paren = single (record { quote = refl; digit = refl; letter = refl }) refl
sign_of Symbol.close_paren = single (record { quote = refl; digit = refl; letter = refl }) refl
sign_of Symbol.open_brace = single (record { quote = refl; digit = refl; letter = refl }) refl
sign_of Symbol.close_brace = single (record { quote = refl; digit = refl; letter = refl }) refl
sign_of Symbol.comma = single (record { quote = refl; digit = refl; letter = refl }) refl
sign_of Symbol.dot = single (record { quote = refl; digit = refl; letter = refl }) refl
sign_of Symbol.dot_dot = pair (record { quote = refl; digit = refl; letter = refl }) refl
sign_of Symbol.assign = single (record { quote = refl; digit = refl; letter = refl }) refl
sign_of Symbol.equal = pair (record { quote = refl; digit = refl; letter = refl }) refl
sign_of Symbol.unequal = pair (record { quote = refl; digit = refl; letter = refl }) refl
sign_of Symbol.at_least = pair (record { quote = refl; digit = refl; letter = refl }) refl
sign_of Symbol.at_most = pair (record { quote = refl; digit = refl; letter = refl }) refl
sign_of Symbol.greater = single (record { quote = refl; digit = refl; letter = refl }) refl
sign_of Symbol.less = single (record { quote = refl; digit = refl; letter = refl }) refl
sign_of Symbol.plus = single (record { quote = refl; digit = refl; letter = refl }) refl
sign_of Symbol.minus = single (record { quote = refl; digit = refl; letter = refl }) refl

-- no pair begins with c before cs
abbrev NoPair : ℕ → List ℕ → Type 0
NoPair c cs = (d : ℕ) (r : List ℕ) → cs ≡ d ∷ r → pair_kind c d ≡ 0

first-same : {a b : ℕ} {l r : List ℕ} → a ∷ l ≡ b ∷ r → a ≡ b
first-same e = cc

rest-same : {a b : ℕ} {l r : List ℕ} → a ∷ l ≡ b ∷ r → l ≡ r
rest-same e = cc

same_kind : {a b c : ℕ} {l r : List ℕ} (d : ℕ) → a ∷ l ≡ b ∷ r → pair_kind b d ≡ c → pair_kind a d ≡ c
same_kind d e h = ap (λ (k : ℕ). pair_kind k d) (first-same e) ∙ h

no_sign : {c : ℕ} {cs u : List ℕ} (rest : List ℕ) {kind : ℕ} → single_kind c ≡ 0 → NoPair c cs → Sign u kind → OPEN ≤ kind → c ∷ cs ≡ u ++ rest → ⊥
no_sign rest s p (single h k) o e = let z = ap single_kind (first-same e) in omega (arith, s, z, k)
no_sign rest s p (pair {d} h k) o e = let z = p d rest (rest-same e) in omega (arith, same_kind d e k, z)

no-signs : {c : ℕ} {cs : List ℕ} → single_kind c ≡ 0 → NoPair c cs → NoLonger 0 (c ∷ cs)
no-signs s p = record { most = λ u rest kind h e. absurd (no_sign rest s p (sign_of h) (symbol-kind h) e) }

one-most : {c : ℕ} {cs u : List ℕ} (rest : List ℕ) {kind : ℕ} → NoPair c cs → Sign u kind → OPEN ≤ kind → c ∷ cs ≡ u ++ rest → length u ≤ 1
one-most rest p (single h k) o e = omega arith
one-most rest p (pair {d} h k) o e = let z = p d rest (rest-same e) in absurd (omega (arith, same_kind d e k, z))

two-most : {u : List ℕ} {kind : ℕ} → Sign u kind → length u ≤ 2
two-most (single h k) = omega arith
two-most (pair h k) = omega arith

single-found : (c : ℕ) (cs : List ℕ) → Plain c → NoPair c cs → ShapeFound (c ∷ cs)
single-found c cs n p =
    told (eqb (single_kind c) 0)
    (λ h. record {
      taken = c ∷ [];
      rest = cs;
      shape = Shape.nothing;
      split = refl;
      shaped = Shaped.nothing (eqb-false c 0x22 n.quote) n.digit n.letter (no-signs (eqb-true (single_kind c) 0 h) p);
    })
    (λ h. record {
      taken = c ∷ [];
      rest = cs;
      shape = Shape.sign (single_kind c);
      split = refl;
      shaped =
          Shaped.sign (single-symbol c (eqb-false (single_kind c) 0 h))
          (record { most = λ u rest kind k e. one-most rest p (sign_of k) (symbol-kind k) e });
    })

sign-found : (c : ℕ) (cs : List ℕ) → Plain c → ShapeFound (c ∷ cs)
sign-found c [] n = single-found c [] n (λ d r e. let z : ◌≡◌ {A = ℕ} 0 1 = cc in absurd (omega arith))
sign-found c (d ∷ cs) n =
    told (eqb (pair_kind c d) 0)
    (λ h. single-found c (d ∷ cs) n (λ x r e. ap (pair_kind c) (sym (first-same e)) ∙ eqb-true (pair_kind c d) 0 h))
    (λ h. record {
      taken = c ∷ d ∷ [];
      rest = cs;
      shape = Shape.sign (pair_kind c d);
      split = refl;
      shaped = Shaped.sign (pair-symbol c d (eqb-false (pair_kind c d) 0 h)) (record { most = λ u rest kind k e. two-most (sign_of k) });
    })

-- ---- numbers

integer-found : {ds rest : List ℕ} → Run is_digit ds → EndsInteger rest → ShapeFound (ds ++ rest)
integer-found {ds} {rest} d e = record { taken = ds; rest = rest; shape = Shape.integer ds; split = refl; shaped = Shaped.integer d e }

time-found : {hs : List ℕ} (cs : List ℕ) → Run is_digit hs → ShapeFound (hs ++ (0x3A ∷ cs))
time-found {hs} cs d =
    let m = split-run is_digit cs in
    record {
      taken = hs ++ (0x3A ∷ m.front);
      rest = m.rest;
      shape = Shape.time hs m.front;
      split = joined hs (0x3A ∷ m.front) m.rest (ap (λ (l : List ℕ). 0x3A ∷ l) m.split);
      shaped = Shaped.time d m.all m.stops;
    }

amount-found : {ws : List ℕ} (c : ℕ) (cs : List ℕ) → Run is_digit ws → is_alpha c ≡ true → ShapeFound (ws ++ (c ∷ cs))
amount-found {ws} c cs d a =
    let u = split-run is_alpha cs in
    record {
      taken = ws ++ (c ∷ u.front);
      rest = u.rest;
      shape = Shape.amount ws [] (c ∷ u.front);
      split = joined ws (c ∷ u.front) u.rest (ap (λ (l : List ℕ). c ∷ l) u.split);
      shaped = Shaped.whole_amount d (run a u.all) u.stops;
    }

-- behind a fraction, where the letters us follow
fraction-found : {ws fs us rest : List ℕ} → Run is_digit ws → Run is_digit fs → All is_alpha us → Stops is_alpha rest →
    Stops is_digit (us ++ rest) → ShapeFound (ws ++ (0x2E ∷ (fs ++ (us ++ rest))))
fraction-found {ws} {fs} {rest} d f All.none stop e =
    record {
      taken = ws ++ (0x2E ∷ fs);
      rest = rest;
      shape = Shape.decimal ws fs;
      split = joined ws (0x2E ∷ fs) rest refl;
      shaped = Shaped.decimal d f e stop;
    }
fraction-found {ws} {fs} {rest} d f (All.more {c} {cs} a b) stop e =
    record {
      taken = ws ++ (0x2E ∷ (fs ++ (c ∷ cs)));
      rest = rest;
      shape = Shape.amount ws fs (c ∷ cs);
      split = joined ws (0x2E ∷ (fs ++ (c ∷ cs))) rest (ap (λ (l : List ℕ). 0x2E ∷ l) (joined fs (c ∷ cs) rest refl));
      shaped = Shaped.decimal_amount d f (run a b) stop;
    }

-- behind a point, where the digits fs follow
point-found : {ws fs rest : List ℕ} → Run is_digit ws → All is_digit fs → Stops is_digit rest → ShapeFound (ws ++ (0x2E ∷ (fs ++ rest)))
point-found d All.none stop = integer-found d (EndsInteger.point stop)
point-found {ws} {rest} d (All.more {c} {cs} f g) stop =
    let u = split-run is_alpha rest in
    rw u.split (fraction-found d (run f g) u.all u.stops (rw u.split at stop))

number-found : (ws rest : List ℕ) → Run is_digit ws → Stops is_digit rest → ShapeFound (ws ++ rest)
number-found ws [] d Stops.at_end_rule = integer-found d EndsInteger.at_end_rule
number-found ws (c ∷ cs) d (Stops.other h) =
    told (eqb c 0x3A) (λ k. rw (eqb-true c 0x3A k) (time-found cs d))
    (λ k. told (eqb c 0x2E)
    (λ p. let f = split-run is_digit cs in rw (eqb-true c 0x2E p, f.split) (point-found d f.all f.stops))
    (λ p. told (is_alpha c) (λ a. amount-found c cs d a)
    (λ a. integer-found d (EndsInteger.other h a (eqb-false c 0x3A k) (eqb-false c 0x2E p)))))

digit-found : (c : ℕ) (cs : List ℕ) → is_digit c ≡ true → ShapeFound (c ∷ cs)
digit-found c cs h =
    let r = split-run is_digit cs in
    rw r.split (number-found (c ∷ r.front) r.rest (run h r.all) r.stops)

-- a shape stands at every character
pub shape-found : (c : ℕ) (cs : List ℕ) → ShapeFound (c ∷ cs)
shape-found c cs =
    told (eqb c 0x22) (λ h. rw (eqb-true c 0x22 h) (string-found (quote-found cs)))
    (λ h. told (is_digit c) (λ d. digit-found c cs d)
    (λ d. told (is_word_start c) (λ w. word_found c cs w)
    (λ w. sign-found c cs (record { quote = h; digit = d; letter = w }))))

-- ---- verdicts

abbrev VerdictFound : Shape → Type 0
VerdictFound shape = (v : Verdict) × Judged shape v

-- a run is too large, or it is not
sized : {shape : Shape} {ds : List ℕ} → DigitRun shape ds → (value ds ≤ most_run → VerdictFound shape) → VerdictFound shape
sized {shape} {ds} r f =
    told (ltb most_run (value ds)) (λ h. (refuse 12, Judged.large r (ltb-true most_run (value ds) h)))
    (λ h. f (ltb-false most_run (value ds) h))

pub integer-small : {ds : List ℕ} → value ds ≤ most_run → (rs : List ℕ) → DigitRun (Shape.integer ds) rs → value rs ≤ most_run
integer-small h rs DigitRun.integer = h

time-small : {hs ms : List ℕ} → value hs ≤ most_run → value ms ≤ most_run → (rs : List ℕ) → DigitRun (Shape.time hs ms) rs → value rs ≤ most_run
time-small h k rs DigitRun.hour = h
time-small h k rs DigitRun.minute = k

decimal-small : {ws fs : List ℕ} → value ws ≤ most_run → value fs ≤ most_run → (rs : List ℕ) → DigitRun (Shape.decimal ws fs) rs → value rs ≤ most_run
decimal-small h k rs DigitRun.decimal_whole = h
decimal-small h k rs DigitRun.decimal_fraction = k

pub amount-small : {ws fs us : List ℕ} → value ws ≤ most_run → value fs ≤ most_run → (rs : List ℕ) → DigitRun (Shape.amount ws fs us) rs →
    value rs ≤ most_run
amount-small h k rs DigitRun.amount_whole = h
amount-small h k rs DigitRun.amount_fraction = k

time-judged : (hs ms : List ℕ) → Small (Shape.time hs ms) → VerdictFound (Shape.time hs ms)
time-judged hs ms s =
    told (ltb 2 (length hs)) (λ h. (refuse 13, Judged.no_time s (λ t. omega (arith, ltb-true 2 (length hs) h, t.hours))))
    (λ h. told (eqb (length ms) 2)
    (λ m. told (ltb 23 (value hs)) (λ k. (refuse 13, Judged.no_time s (λ t. omega (arith, ltb-true 23 (value hs) k, t.hour))))
    (λ k. told (ltb 59 (value ms)) (λ l. (refuse 13, Judged.no_time s (λ t. omega (arith, ltb-true 59 (value ms) l, t.minute))))
    (λ l. (
      _,
      Judged.time (record {
        hours = ltb-false 2 (length hs) h;
        minutes = eqb-true (length ms) 2 m;
        hour = ltb-false 23 (value hs) k;
        minute = ltb-false 59 (value ms) l;
      }),
    ))))
    (λ m. (refuse 13, Judged.no_time s (λ t. eqb-false (length ms) 2 m t.minutes))))

-- 10,000 in places that are kept and places that are missing
ten_thousand : (d : ℕ) → d ≤ 4 → 10 ^ (4 - d) * 10 ^ d ≡ 10000
ten_thousand zero h = refl
ten_thousand (suc zero) h = refl
ten_thousand (suc (suc zero)) h = refl
ten_thousand (suc (suc (suc zero))) h = refl
ten_thousand (suc (suc (suc (suc zero)))) h = refl
ten_thousand (suc (suc (suc (suc (suc d))))) h = absurd (omega arith)

scaled : (w f a b : ℕ) → a * b ≡ 10000 → (w * 10000 + f * a) * b ≡ (w * b + f) * 10000
scaled w f a b e = omega (arith, ap (λ (n : ℕ). f * n) e)

-- the ten-thousandths of a decimal, as the lexer computes them
pub ten_thousandths : (ws fs : List ℕ) → length fs ≤ 4 → TenThousandths ws fs (value ws * 10000 + value fs * 10 ^ (4 - length fs))
ten_thousandths ws fs h =
    record { places = h; proportion = scaled (value ws) (value fs) (10 ^ (4 - length fs)) (10 ^ length fs) (ten_thousand (length fs) h) }

decimal-judged : (ws fs : List ℕ) → Small (Shape.decimal ws fs) → VerdictFound (Shape.decimal ws fs)
decimal-judged ws fs s =
    told (ltb 4 (length fs)) (λ h. (refuse 15, Judged.places s (ltb-true 4 (length fs) h)))
    (λ h.
    let n = value ws * 10000 + value fs * 10 ^ (4 - length fs) in
    let t = ten_thousandths ws fs (ltb-false 4 (length fs) h) in
    told (ltb most_decimal n) (λ k. (refuse 12, Judged.high s t (ltb-true most_decimal n k)))
    (λ k. (_, Judged.decimal s t (ltb-false most_decimal n k))))

-- letters that have milliseconds are a unit, and the other way round
pub unit-found : (w : List ℕ) → (unit_of w ≡ 0 → ⊥) → UnitOf w (unit_of w)
unfolding unit_of
unit-found w =
    let P : ℕ → Type 0 = λ k. (k ≡ 0 → ⊥) → UnitOf w k in
    picked P (same_bytes w (0x6D ∷ 0x73 ∷ [])) (λ h n. rw (same-eq w (0x6D ∷ 0x73 ∷ []) h) UnitOf.ms)
    (λ h. picked P (same_bytes w (0x73 ∷ [])) (λ h n. rw (same-eq w (0x73 ∷ []) h) UnitOf.s)
    (λ h. picked P (same_bytes w (0x6D ∷ [])) (λ h n. rw (same-eq w (0x6D ∷ []) h) UnitOf.m)
    (λ h. picked P (same_bytes w (0x68 ∷ [])) (λ h n. rw (same-eq w (0x68 ∷ []) h) UnitOf.h)
    (λ h n. absurd (n refl)))))

pub unit-only : {us : List ℕ} {unit : ℕ} → UnitOf us unit → unit_of us ≡ unit
unfolding unit_of same_bytes
unit-only UnitOf.ms = refl
unit-only UnitOf.s = refl
unit-only UnitOf.m = refl
unit-only UnitOf.h = refl

pub unit-some : {us : List ℕ} {unit : ℕ} → UnitOf us unit → unit ≡ 0 → ⊥
unit-some UnitOf.ms e = omega arith
unit-some UnitOf.s e = omega arith
unit-some UnitOf.m e = omega arith
unit-some UnitOf.h e = omega arith

exact-judged : {ws fs us : List ℕ} {unit : ℕ} {x : Result ℕ ℕ} → Small (Shape.amount ws fs us) → UnitOf us unit →
    JudgedAmount (value ws) (value fs) (length fs) unit x → VerdictFound (Shape.amount ws fs us)
exact-judged s u (fine n) = (refuse 18, Judged.fine s u n)
exact-judged s u (long a m) = (refuse 17, Judged.long s u a m)
exact-judged s u (exact a m) = (_, Judged.duration s u a m)

amount-found-worth : (ws fs us : List ℕ) → Small (Shape.amount ws fs us) → VerdictFound (Shape.amount ws fs us)
amount-found-worth ws fs us s =
    told (eqb (unit_of us) 0)
    (λ h. (refuse 16, Judged.no_unit s (λ unit u. unit-some u (sym (unit-only u) ∙ eqb-true (unit_of us) 0 h))))
    (λ h. exact-judged s (unit-found us (eqb-false (unit_of us) 0 h)) (amount-judged (value ws) (value fs) (length fs) (unit_of us)))

-- every shape has a verdict
pub verdict-found : (shape : Shape) → VerdictFound shape
verdict-found Shape.word = (_, Judged.word)
verdict-found Shape.string = (_, Judged.string)
verdict-found Shape.unclosed = (_, Judged.unclosed)
verdict-found (Shape.sign kind) = (_, Judged.sign)
verdict-found (Shape.integer ds) =
    sized DigitRun.integer (λ h. (_, Judged.integer (record { runs = integer-small h })))
verdict-found (Shape.time hs ms) =
    sized DigitRun.hour (λ h. sized DigitRun.minute (λ k. time-judged hs ms (record { runs = time-small h k })))
verdict-found (Shape.decimal ws fs) =
    sized DigitRun.decimal_whole (λ h. sized DigitRun.decimal_fraction (λ k. decimal-judged ws fs (record { runs = decimal-small h k })))
verdict-found (Shape.amount ws fs us) =
    sized DigitRun.amount_whole (λ h. sized DigitRun.amount_fraction (λ k. amount-found-worth ws fs us (record { runs = amount-small h k })))
verdict-found Shape.nothing = (_, Judged.nothing)
