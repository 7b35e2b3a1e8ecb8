-- Every string token that a text gives, by the rules of lexing (tokens/specs/Rules.antt), stands inside the text and shows bytes that a string can
-- have.
use Prim.Native.Nat.{ℕ, zero, suc, ◌+◌, ◌-◌, ◌<◌, ◌≤◌}
use native.Mathlib.Omega.{arith}
use mathlib.Core.Path.{◌≡◌, ◌∙◌, refl, ap, sym}
use mathlib.Core.Bool.{true}
use mathlib.Core.List.{List, [], ◌∷◌, ◌++◌, append_assoc}
use lib.ListN.{length, length-append}
use borrow.Author.Tests.{le-ltb}
use Rattle.text.specs.Rfc3629.{Utf8Char, Utf8Octets}
use Rattle.text.specs.Rfc3629.Utf8Char.{utf8_1, utf8_2, utf8_3_e0, utf8_3_e1, utf8_3_ed, utf8_3_ee, utf8_4_f0, utf8_4_f1, utf8_4_f4}
use Rattle.text.specs.Utf8.{is_ascii}
use Rattle.text.specs.declared.place.Place.{Place}
use Rattle.text.proofs.WithinLaws.{counted-most}
use Rattle.tokens.specs.Kind.{STRING}
use Rattle.tokens.specs.Record.{capacity, words_of, word_at, kind_at, start_at, length_at}
use Rattle.tokens.specs.Lexing.{Lexing, record_of, most_bytes}
use Rattle.tokens.specs.Ended.{record_words}
use Rattle.tokens.specs.Cursor.{tokens}
use Rattle.tokens.specs.Rules.{All, Without, Shape, Shaped, worth, Judged, place_after, first_byte, end_byte, Lexes}
use Rattle.tokens.specs.declared.record.Record.{Record}
use Rattle.tokens.proofs.BufferLaws.{first_word, next_word}
use Rattle.tokens.proofs.LayoutReads.{ascii-octets}
use Rattle.tokens.proofs.RulesFound.{symbol-kind}
use Rattle.topics.specs.Ranges.{name_in}
use Rattle.model.specs.declared.Name.{Name}
use Rattle.language.specs.Range.{range_of}
use Rattle.language.specs.Demand.{Gives}
use Rattle.language.proofs.ReflowTheorem.{string_bytes}
use Rattle.writing.specs.Possible.{is_string}
use Rattle.rereading.proofs.PieceLaws.{octets-on}
use Rattle.rereading.proofs.LexLaws.{octets-long, string-held}
use Rattle.rereading.proofs.StringLaws.{string-passes, ShowsString}

-- ---- octets of two rows of characters

record Split (s cs ds : List ℕ) : Type 0 where
  front : List ℕ
  back : List ℕ
  is : s ≡ front ++ back
  first : Utf8Octets front cs
  second : Utf8Octets back ds

split : (cs : List ℕ) {s ds : List ℕ} → Utf8Octets s (cs ++ ds) → Split s cs ds
split [] {s} o = record { front = []; back = s; is = refl; first = Utf8Octets.none; second = o }
split (c ∷ cs) (Utf8Octets.more {u} {v} h t) =
    let r = split cs t in
    record {
      front = u ++ r.front;
      back = r.back;
      is = ap (λ (l : List ℕ). u ++ l) r.is ∙ sym (append_assoc u r.front r.back);
      first = Utf8Octets.more h r.first;
      second = r.second;
    }

-- what stands behind the front, cut in three
in_three : {back cs ds es : List ℕ} (front : List ℕ) (a : Split back cs (ds ++ es)) (b : Split a.back ds es) →
    front ++ back ≡ (front ++ a.front) ++ (b.front ++ b.back)
in_three front a b = rw (a.is, b.is, append_assoc)

-- ---- an ASCII character that is none of the characters is none of their bytes

pub without-both : {c : ℕ} {u v : List ℕ} → Without c u → Without c v → Without c (u ++ v)
without-both Without.none w = w
without-both (Without.more h k) w = Without.more h (without-both k w)

without-two : {c : ℕ} (a b : ℕ) → c < a → c < b → Without c (a ∷ b ∷ [])
without-two a b h k = Without.more {d = a} (λ e. omega arith) (Without.more {d = b} (λ e. omega arith) Without.none)

char-without : {c d : ℕ} {u : List ℕ} → c < 0x80 → Utf8Char u d → (d ≡ c → ⊥) → Without c u
char-without m (utf8_1 h) n = Without.more n Without.none
char-without m (utf8_2 {a} {b} h k) n = without-two a b (omega arith) (omega arith)
char-without m (utf8_3_e0 {a} {b} {c} h k l) n = Without.more {d = a} (λ e. omega arith) (without-two b c (omega arith) (omega arith))
char-without m (utf8_3_e1 {a} {b} {c} h k l) n = Without.more {d = a} (λ e. omega arith) (without-two b c (omega arith) (omega arith))
char-without m (utf8_3_ed {a} {b} {c} h k l) n = Without.more {d = a} (λ e. omega arith) (without-two b c (omega arith) (omega arith))
char-without m (utf8_3_ee {a} {b} {c} h k l) n = Without.more {d = a} (λ e. omega arith) (without-two b c (omega arith) (omega arith))
char-without m (utf8_4_f0 {a} {b} {c} {d} h k l o) n =
    without-both (without-two a b (omega arith) (omega arith)) (without-two c d (omega arith) (omega arith))
char-without m (utf8_4_f1 {a} {b} {c} {d} h k l o) n =
    without-both (without-two a b (omega arith) (omega arith)) (without-two c d (omega arith) (omega arith))
char-without m (utf8_4_f4 {a} {b} {c} {d} h k l o) n =
    without-both (without-two a b (omega arith) (omega arith)) (without-two c d (omega arith) (omega arith))

bytes-without : {c : ℕ} {s cs : List ℕ} → c < 0x80 → Utf8Octets s cs → Without c cs → Without c s
bytes-without m Utf8Octets.none w = Without.none
bytes-without m (Utf8Octets.more h t) (Without.more n w) = without-both (char-without m h n) (bytes-without m t w)

-- ---- one string

-- the characters of a string token
record QuotedCharacters (u : List ℕ) : Type 0 where
  inner : List ℕ
  are : u ≡ 0x22 ∷ inner ++ 0x22 ∷ []
  no_quote : Without 0x22 inner
  no_feed : Without 0x0A inner

string-characters : {shape : Shape} {kind number : ℕ} {u rest : List ℕ} → Judged shape (worth kind number) → Shaped u rest shape → kind ≡ STRING →
    QuotedCharacters u
string-characters Judged.word s e = absurd (omega arith)
string-characters Judged.string (Shaped.string {cs} h k) e = record { inner = cs; are = refl; no_quote = h; no_feed = k }
string-characters Judged.sign (Shaped.sign s n) e = absurd (omega (arith, symbol-kind s))
string-characters (Judged.integer h) s e = absurd (omega arith)
string-characters (Judged.time h) s e = absurd (omega arith)
string-characters (Judged.decimal h t few) s e = absurd (omega arith)
string-characters (Judged.duration h u a few) s e = absurd (omega arith)

-- and its bytes
record QuotedBytes (w : List ℕ) : Type 0 where
  inner : List ℕ
  are : w ≡ 0x22 ∷ inner ++ 0x22 ∷ []
  good : is_string inner ≡ true

quote-byte : {w : List ℕ} → Utf8Octets w (0x22 ∷ []) → w ≡ 0x22 ∷ []
unfolding is_ascii
quote-byte o = ascii-octets o (All.more refl All.none)

between_quotes : {w a b d : List ℕ} (c : List ℕ) → w ≡ a ++ b → a ≡ 0x22 ∷ [] → b ≡ c ++ d → d ≡ 0x22 ∷ [] → w ≡ 0x22 ∷ c ++ 0x22 ∷ []
between_quotes c e f g h = e ∙ rw (f, g, h)

quoted-bytes : {w u : List ℕ} → Utf8Octets w u → QuotedCharacters u → QuotedBytes w
quoted-bytes o c =
    let a = split (0x22 ∷ []) (rw c.are at o) in
    let b = split c.inner a.second in
    record {
      inner = b.front;
      are = between_quotes b.front a.is (quote-byte a.first) b.is (quote-byte b.second);
      good = string-passes b.first (bytes-without (omega arith) b.first c.no_quote) (bytes-without (omega arith) b.first c.no_feed);
    }

-- where its record says that it stands
abbrev range_for : Record → Name
range_for r = record { start = r.start; length = r.length }

abbrev Shows : List ℕ → Name → Type 0
Shows text n = ShowsString text n (name_in text n)

string-shown : {text : List ℕ} (a w c : List ℕ) (number : ℕ) (p q : Place) → text ≡ a ++ (w ++ c) → length text ≤ most_bytes → QuotedBytes w →
    p.at ≡ length a → q.at ≡ length a + length w → Shows text (range_for (record_of STRING number (first_byte STRING p) (end_byte STRING q) p))
unfolding record_of first_byte end_byte name_in
string-shown {text} a w c number p q e short b f g =
    let is : text ≡ a ++ ((0x22 ∷ b.inner ++ 0x22 ∷ []) ++ c) = e ∙ rw b.are in
    let size : length text ≡ length a + length w + length c = ap length e ∙ simp length-append (omega arith) in
    let some : 2 ≤ length w = rw b.are (simp length-append (omega arith)) in
    let shown = string-held a b.inner c {start = p.at} {end = q.at} f (g ∙ rw b.are) (rw is at short) in
    record {
      inside = omega (arith, counted-most (p.at + 1), counted-most (q.at - 1 - (p.at + 1)));
      shows = refl;
      is = rw (is, shown) b.good;
    }

-- ---- in the words of the records

abbrev InWords : List ℕ → List ℕ → ℕ → Type 0
InWords text words i = kind_at words i ≡ STRING → Shows text (range_of words i)

none_in : (text : List ℕ) (i : ℕ) → InWords text [] i
unfolding kind_at word_at capacity
none_in text i e = absurd (let z = rw (le-ltb i 0 (omega arith)) at e in omega arith)

first_in_lem : (text : List ℕ) (r : Record) (words : List ℕ) → (r.kind ≡ STRING → Shows text (range_for r)) → InWords text (words_of r ++ words) 0
unfolding kind_at range_of start_at length_at words_of
first_in_lem text r words h = rw (first_word r words 0, first_word r words 2, first_word r words 3) h

next_in : (text : List ℕ) (r : Record) (words : List ℕ) (i : ℕ) → InWords text words i → InWords text (words_of r ++ words) (suc i)
unfolding kind_at range_of start_at length_at
next_in text r words i h = rw (next_word r words i 0, next_word r words i 2, next_word r words i 3) h

module _ {text : List ℕ} (short : length text ≤ most_bytes) where
  -- the record of one token, where the characters before it and those from there on have these bytes
  token_in_lem : {before gap u rest front back : List ℕ} {shape : Shape} {kind number : ℕ} → text ≡ front ++ back → Utf8Octets front before →
      (g : Split back gap (u ++ rest)) (w : Split g.back u rest) → Shaped u rest shape → Judged shape (worth kind number) → kind ≡ STRING →
      Shows text
      (range_for (record_of kind number (first_byte kind (place_after (before ++ gap))) (end_byte kind (place_after (before ++ (gap ++ u))))
      (place_after (before ++ gap))))
  unfolding place_after
  token_in_lem {before} {gap} {u} {front = front} {number = number} e o g w s j k =
      let is : text ≡ (front ++ g.front) ++ (w.front ++ w.back) = e ∙ in_three front g w in
      let p = octets-long (octets-on o g.first) in
      let q = octets-long (octets-on o (octets-on g.first w.first)) in
      let size : length (front ++ (g.front ++ w.front)) ≡ length (front ++ g.front) + length w.front = simp length-append (omega arith) in
      rw k
      (string-shown (front ++ g.front) w.front w.back number (place_after (before ++ gap)) (place_after (before ++ (gap ++ u))) is short
      (quoted-bytes w.first (string-characters j s k)) p (q ∙ size))

  words_in_lem : {n : ℕ} {before rest front back : List ℕ} {l : Lexing} → Lexes n before rest l → text ≡ front ++ back → Utf8Octets front before →
      Utf8Octets back rest → (i : ℕ) → InWords text (record_words l) i
  unfolding record_words record_of
  words_in_lem (Lexes.end t) e o r i = none_in text i
  words_in_lem (Lexes.too_many t b) e o r i = none_in text i
  words_in_lem (Lexes.refusal t b s j) e o r i = none_in text i
  words_in_lem (Lexes.next {gap} {u} t b s j x) e o r zero =
      let g = split gap r in
      first_in_lem text _ _ (token_in_lem e o g (split u g.second) s j)
  words_in_lem {front = front} (Lexes.next {gap} {u} t b s j x) e o r (suc i) =
      let g = split gap r in
      let w = split u g.second in
      let is : text ≡ (front ++ (g.front ++ w.front)) ++ w.back = e ∙ in_three front g w ∙ simp append_assoc in
      next_in text _ _ i (words_in_lem x is (octets-on o (octets-on g.first w.first)) w.second i)

pub string-tokens : {text : List ℕ} {l : Lexing} {count : ℕ} → Gives text l count → (i : ℕ) → (tokens text (record_words l) i).kind ≡ STRING →
    ShowsString text (range_of (record_words l) i) (tokens text (record_words l) i).bytes
unfolding tokens
string-tokens {text} {l} g i e =
    let words = record_words l in
    rw (string_bytes text words i e) at (words_in_lem g.short {front = []} g.lexed refl Utf8Octets.none g.octets i e)
