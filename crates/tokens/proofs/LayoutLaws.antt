-- The tokens of a text lie in it as specs/Layout.antt says, which follows from the rules of specs/Rules.antt; their bytes are those of their
-- characters, and lines and columns are counts.
use mathlib.Core.Path.{◌≡◌, ◌∙◌, refl, ap, sym}
use Prim.Native.Nat.{ℕ, ◌≤◌}
use native.Mathlib.Omega.{arith}
use mathlib.Core.List.{List, [], ◌∷◌, ◌++◌, append_assoc, append-nil}
use Rattle.text.specs.Rfc3629.{Utf8Octets}
use Rattle.text.specs.Utf8.{Character, codes, chars}
use Rattle.text.specs.Part.{part_of}
use Rattle.text.specs.Place.{start, walked, line_after, column_after}
use Rattle.text.specs.Ascii.{is_digit}
use Rattle.text.proofs.PlaceRules.{line-walked, column-walked}
use Rattle.tokens.specs.Lexing.{Lexing, refused, most_tokens}
use Rattle.tokens.specs.Lex.{lex_text}
use Rattle.tokens.specs.Rules.{Trivia, Begins, begins, All, Run, run, Shape, Shaped, DigitRun, most_run, worth, refuse, Judged, value, value_from, place_after, Lexes}
use Rattle.tokens.specs.Layout.{Digits, Duration, Spelled, Lexical, Laid}
use Rattle.tokens.proofs.LayoutReads.{walked_on, row, octets}
use Rattle.tokens.proofs.RulesScan.{first-same, rest-same, never-none}
use Rattle.tokens.proofs.RulesLaws.{place_read, rules_read}

-- ---- what a shape with a verdict says of its characters

digits_of : {ds : List ℕ} → Run is_digit ds → value ds ≤ most_run → Digits ds
digits_of (run h a) k = record { all = All.more h a; some = omega arith; small = k }

spelled : {u rest : List ℕ} {shape : Shape} {kind number : ℕ} → Shaped u rest shape → Judged shape (worth kind number) → Spelled u kind number
unfolding value value_from
spelled (Shaped.word h a k) Judged.word = Spelled.word h a
spelled (Shaped.string a b) Judged.string = Spelled.string a b
spelled (Shaped.sign h m) Judged.sign = Spelled.symbol h
spelled (Shaped.integer {ds} d e) (Judged.integer s) = Spelled.integer (digits_of d (s.runs ds DigitRun.integer))
spelled (Shaped.time d a k) (Judged.time t) =
    Spelled.time (digits_of d (omega (arith, t.hour))) t.hours t.hour
    (record { all = a; some = omega (arith, t.minutes); small = omega (arith, t.minute) }) t.minutes t.minute
spelled (Shaped.decimal {ws} {fs} d g k a) (Judged.decimal s t m) =
    Spelled.decimal (digits_of d (s.runs ws DigitRun.decimal_whole)) (digits_of g (s.runs fs DigitRun.decimal_fraction)) t.places t.proportion m
spelled (Shaped.whole_amount {ws} d g k) (Judged.duration s u a m) =
    Spelled.duration (Duration.whole (digits_of d (s.runs ws DigitRun.amount_whole)) u a m)
spelled (Shaped.decimal_amount {ws} {fs} d g b k) (Judged.duration s u a m) =
    Spelled.duration
    (Duration.decimal (digits_of d (s.runs ws DigitRun.amount_whole)) (digits_of g (s.runs fs DigitRun.amount_fraction)) u a m)
spelled (Shaped.unclosed a b c) x = elim x [ ]
spelled (Shaped.nothing a b c d) x = elim x [ ]

lexical : {shape : Shape} {number : ℕ} → Judged shape (refuse number) → Lexical number
lexical Judged.nothing = Lexical.no_token_rule
lexical Judged.unclosed = Lexical.unterminated
lexical (Judged.large r m) = Lexical.too_large
lexical (Judged.no_time s n) = Lexical.no_time
lexical (Judged.places s m) = Lexical.places
lexical (Judged.high s t m) = Lexical.too_large
lexical (Judged.no_unit s n) = Lexical.no_unit
lexical (Judged.fine s u n) = Lexical.fine
lexical (Judged.long s u a m) = Lexical.long

-- ---- rows of characters, by their code points

codes-on : (a b : List Character) → codes (a ++ b) ≡ codes a ++ codes b
codes-on [] b = refl
codes-on (ch ∷ a) b = ap (λ (l : List ℕ). ch.code ∷ l) (codes-on a b)

codes-both : (a b : List Character) {x y : List ℕ} → codes a ≡ x → codes b ≡ y → codes (a ++ b) ≡ x ++ y
codes-both a b f g = codes-on a b ∙ rw (f, g)

-- characters are parted where their code points are
record Parted (l : List Character) (a b : List ℕ) : Type 0 where
  front : List Character
  back : List Character
  is : l ≡ front ++ back
  front_is : codes front ≡ a
  back_is : codes back ≡ b

parted : (l : List Character) (a b : List ℕ) → codes l ≡ a ++ b → Parted l a b
parted l [] b e = record { front = []; back = l; is = refl; front_is = refl; back_is = e }
parted [] (c ∷ a) b e = never-none e
parted (ch ∷ l) (c ∷ a) b e =
    let x = parted l a b (rest-same e) in
    record {
      front = ch ∷ x.front;
      back = x.back;
      is = ap (λ (r : List Character). ch ∷ r) x.is;
      front_is = ap (λ (r : List ℕ). ch.code ∷ r) x.front_is ∙ ap (λ (k : ℕ). k ∷ a) (first-same e);
      back_is = x.back_is;
    }

-- the place behind the characters a and b of s
place_of : (s : List ℕ) (a b r : List Character) {x y : List ℕ} → chars s 0 ≡ a ++ (b ++ r) → codes a ≡ x → codes b ≡ y →
    place_after (x ++ y) ≡ walked start (a ++ b)
place_of s a b r e f g =
    let h = place_read (row s start (a ++ b) r (e ∙ sym (append_assoc a b r))).reads in
    sym (h ∙ ap place_after (codes-both a b f g))

-- ---- the layout of a lexing

-- a refusal stands at a character
laid-refusal : {s : List ℕ} {before : List Character} {number : ℕ} (gap back : List Character) {rest : List ℕ} → Trivia (codes gap) → Begins rest → codes back ≡ rest →
    chars s 0 ≡ before ++ (gap ++ back) → Lexical number → Laid s before (refused number (walked start (before ++ gap)))
laid-refusal gap [] t (begins h k) e f l = never-none e
laid-refusal gap (ch ∷ back) t b e f l = Laid.refusal gap ch back t f l

laid_of : {n : ℕ} {x y : List ℕ} {l : Lexing} → Lexes n x y l → (s : List ℕ) (before after : List Character) → chars s 0 ≡ before ++ after →
    codes before ≡ x → codes after ≡ y → Laid s before l
laid_of (Lexes.end t) s before after e f g =
    let k : chars s 0 ≡ before ++ (after ++ []) = e ∙ rw append-nil in
    rw (place_of s before after [] k f g) (Laid.end after (rw g t) e)
laid_of (Lexes.too_many {gap} {rest} t b) s before after e f g =
    let x = parted after gap rest g in
    let k : chars s 0 ≡ before ++ (x.front ++ x.back) = e ∙ ap (λ (l : List Character). before ++ l) x.is in
    rw (place_of s before x.front x.back k f x.front_is)
    (laid-refusal x.front x.back (rw x.front_is t) b x.back_is k Lexical.too_many)
laid_of (Lexes.refusal {gap} {u} {rest} t b h j) s before after e f g =
    let x = parted after gap (u ++ rest) g in
    let k : chars s 0 ≡ before ++ (x.front ++ x.back) = e ∙ ap (λ (l : List Character). before ++ l) x.is in
    rw (place_of s before x.front x.back k f x.front_is)
    (laid-refusal x.front x.back (rw x.front_is t) b x.back_is k (lexical j))
laid_of (Lexes.next {kind} {number} {gap} {u} {rest} t b h j more) s before after e f g =
    let x = parted after gap (u ++ rest) g in
    let z = parted x.back u rest x.back_is in
    let a = x.front in
    let c = z.front in
    let d = z.back in
    let k : chars s 0 ≡ before ++ (a ++ (c ++ d)) =
    e ∙ ap (λ (l : List Character). before ++ l) x.is ∙ ap (λ (l : List Character). before ++ (a ++ l)) z.is
    in
    let m : chars s 0 ≡ before ++ ((a ++ c) ++ d) = k ∙ rw append_assoc in
    let i = codes-both a c x.front_is z.front_is in
    let w : Spelled (codes c) kind number = rw z.front_is (spelled h j) in
    rw (place_of s before a (c ++ d) k f x.front_is, place_of s before (a ++ c) d m f i)
    (Laid.next a c d (rw x.front_is t) w k
    (laid_of more s (before ++ (a ++ c)) d (m ∙ sym (append_assoc before (a ++ c) d)) (codes-both before (a ++ c) f i) z.back_is))

-- the tokens that the definition gives lie in the text as Layout.antt says
pub laid : (s : List ℕ) → Laid s [] (lex_text s)
unfolding lex_text
laid s = laid_of (rules_read most_tokens s) s [] (chars s 0) refl refl refl

-- the bytes between two places that are reached are those of the characters between them
pub octets-between : (s : List ℕ) (a u r : List Character) → chars s 0 ≡ a ++ (u ++ r) →
    Utf8Octets (part_of s (walked start a).at (walked start (a ++ u)).at) (codes u)
octets-between s a u r e =
    let i = row s start a (u ++ r) e in
    rw (walked_on start a u) (octets (row s (walked start a) u r i.rest).reads)

-- the line and the column of a place that is reached are those counts, held in 32 bits; in PlacedLaws.antt with nothing cut
pub place-counts : (cs : List Character) →
    ((walked start cs).line ≡ line_after (codes cs)) × ((walked start cs).column ≡ column_after (codes cs))
place-counts cs = (line-walked cs, column-walked cs)
