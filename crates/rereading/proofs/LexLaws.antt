-- Good pieces that are spelled with one space between give exactly their tokens, by the rules of lexing (tokens/specs/Rules.antt).
use Prim.Native.Nat.{ℕ, suc, ◌+◌, ◌-◌, ◌≤◌}
use native.Mathlib.Nat.{add-zero, zero-add}
use native.Mathlib.Omega.{arith}
use mathlib.Core.Path.{◌≡◌, ◌∙◌, refl, ap, sym}
use mathlib.Core.List.{List, [], ◌∷◌, ◌++◌, append_assoc, append-nil}
use lib.ListN.{length, length-append}
use lib.Seq.{take-append_seam, drop-append_seam}
use borrow.Author.Tests.{ne_eqb}
use Rattle.text.specs.Part.{part_of}
use Rattle.text.specs.White.{is_white, white_space, among}
use Rattle.text.specs.Place.{counted}
use Rattle.text.specs.Rfc3629.{Utf8Octets}
use Rattle.text.specs.declared.place.Place.{Place}
use Rattle.text.proofs.WithinLaws.{counted-exact}
use Rattle.tokens.specs.Kind.{WORD, STRING}
use Rattle.tokens.specs.Record.{words_of, kind_at, number_at, start_at, length_at, bytes_at}
use Rattle.tokens.specs.Lexing.{Lexing, ended, token, record_of, most_bytes}
use Rattle.tokens.specs.Ended.{Ended, record_words}
use Rattle.tokens.specs.Cursor.{Tok, bytes_of, tokens}
use Rattle.tokens.specs.Rules.{Trivia, Trailing, octets_in, place_after, first_byte, end_byte, Lexes}
use Rattle.tokens.specs.declared.record.Record.{Record}
use Rattle.tokens.proofs.BufferLaws.{first_word, next_word, records-count}
use Rattle.tokens.proofs.RulesFound.{symbol-kind}
use Rattle.tokens.proofs.RulesLaws.{char-octets}
use Rattle.references.proofs.ArgComplete.{no_token_rule}
use Rattle.topics.specs.Ranges.{name_in}
use Rattle.model.specs.Ranges.{Each}
use Rattle.language.specs.Range.{range_of}
use Rattle.language.specs.Demand.{Gives}
use Rattle.language.proofs.ReflowTheorem.{string_bytes}
use Rattle.writing.specs.Pieces.{Piece, spelled, spaced}
use Rattle.rereading.proofs.Stands.{Good, token_of, Stands}
use Rattle.rereading.proofs.PieceLaws.{Apart, one-octet, starts-on, octets-on, piece_token_lem}

-- ---- offsets

-- characters have as many octets as there are bytes of them
pub octets-long : {bytes cs : List ℕ} → Utf8Octets bytes cs → octets_in cs ≡ length bytes
unfolding octets_in
octets-long Utf8Octets.none = refl
octets-long (Utf8Octets.more {u} {v} h t) = omega (arith, octets-long t, char-octets h, length-append u v)

-- where bytes stand in a short text, a record's start and length give them back
part_held : (a b c : List ℕ) {start end : ℕ} → start ≡ length a → end ≡ length a + length b → length (a ++ (b ++ c)) ≤ most_bytes →
    part_of (a ++ (b ++ c)) (counted start) (counted start + counted (end - start)) ≡ b
unfolding part_of
part_held a b c {start} {end} e f short =
    let m = length-append a (b ++ c) in
    let n = length-append b c in
    let size : length a + (end - length a) - length a ≡ length b = omega arith in
    rw (counted-exact start (omega arith), counted-exact (end - start) (omega arith), e, size, drop-append_seam a (b ++ c), take-append_seam b c)

-- the same inside quotes
pub string-held : (a bytes c : List ℕ) {start end : ℕ} → start ≡ length a → end ≡ length a + length (0x22 ∷ bytes ++ 0x22 ∷ []) →
    length (a ++ ((0x22 ∷ bytes ++ 0x22 ∷ []) ++ c)) ≤ most_bytes →
    part_of (a ++ ((0x22 ∷ bytes ++ 0x22 ∷ []) ++ c)) (counted (start + 1)) (counted (start + 1) + counted (end - 1 - (start + 1))) ≡ bytes
string-held a bytes c e f short =
    let same : a ++ ((0x22 ∷ bytes ++ 0x22 ∷ []) ++ c) ≡ (a ++ 0x22 ∷ []) ++ (bytes ++ 0x22 ∷ c) = simp append_assoc in
    let m = length-append a (0x22 ∷ []) in
    let n = length-append bytes (0x22 ∷ []) in
    rw same (part_held (a ++ 0x22 ∷ []) bytes (0x22 ∷ c) (omega arith) (omega arith) (rw same at short))

-- ---- one token

-- what a record of the text shows: the part that it names, and the token
abbrev part_for : List ℕ → Record → List ℕ
part_for text r = part_of text r.start (r.start + r.length)

token_in : List ℕ → Record → Tok
token_in text r = record { kind = r.kind; number = r.number; bytes = bytes_of r.kind (part_for text r) }

first-token : (text : List ℕ) (r : Record) (words : List ℕ) → tokens text (words_of r ++ words) 0 ≡ token_in text r
unfolding tokens token_in kind_at number_at bytes_at start_at length_at words_of
first-token text r words = rw (first_word r words 0, first_word r words 1, first_word r words 2, first_word r words 3)

next-token : (text : List ℕ) (r : Record) (words : List ℕ) (i : ℕ) → tokens text (words_of r ++ words) (suc i) ≡ tokens text words i
unfolding tokens kind_at number_at bytes_at start_at length_at
next-token text r words i = rw (next_word r words i 0, next_word r words i 1, next_word r words i 2, next_word r words i 3)

-- the record of a piece that goes from one place to another
abbrev record_for : Piece → Place → Place → Record
record_for p start end =
    record_of (token_of p).kind (token_of p).number (first_byte (token_of p).kind start) (end_byte (token_of p).kind end) start

-- shows the piece's bytes, and its token
piece_bytes : {p : Piece} → Good p → (a c : List ℕ) (start end : Place) → start.at ≡ length a → end.at ≡ length a + length (spelled p) →
    length (a ++ (spelled p ++ c)) ≤ most_bytes →
    bytes_of (token_of p).kind (part_for (a ++ (spelled p ++ c)) (record_for p start end)) ≡ (token_of p).bytes
unfolding spelled token_of record_of bytes_of first_byte end_byte
piece_bytes (Good.word {c = d} {cs} h k) a c start end e f short = part_held a (d ∷ cs) c e f short
piece_bytes (Good.string {bytes} o h k) a c start end e f short = string-held a bytes c e f short
piece_bytes (Good.integer h) a c start end e f short = refl
piece_bytes (Good.time h) a c start end e f short = refl
piece_bytes (Good.duration h) a c start end e f short = refl
piece_bytes (Good.sign {kind} h) a c start end e f short =
    let k = symbol-kind h in
    rw (ne_eqb kind WORD (λ i. omega arith), ne_eqb kind STRING (λ i. omega arith))

piece_token_in : {p : Piece} {text : List ℕ} → Good p → (a c : List ℕ) (start end : Place) → text ≡ a ++ (spelled p ++ c) → length text ≤ most_bytes →
    start.at ≡ length a → end.at ≡ length a + length (spelled p) → token_in text (record_for p start end) ≡ token_of p
unfolding token_in record_of
piece_token_in {p} h a c start end e short f g =
    rw e (ap (λ (bytes : List ℕ). record { kind = (token_of p).kind; number = (token_of p).number; bytes = bytes })
    (piece_bytes h a c start end f g (rw e at short)))

-- ---- the records of pieces

-- a lexing that comes to the end of the text, with one record for each of these pieces
data Recorded (text : List ℕ) : Lexing → List Piece → Type 0 where
  none : {q : Place} → Recorded text (ended q) []
  more : {r : Record} {l : Lexing} {p : Piece} {ps : List Piece} → token_in text r ≡ token_of p → Recorded text l ps →
      Recorded text (token r l) (p ∷ ps)

-- so the tokens from i on are the pieces, if they are those of the lexing
stands : {text : List ℕ} {l : Lexing} {ps : List Piece} (t : ℕ → Tok) (i : ℕ) → ((k : ℕ) → t (i + k) ≡ tokens text (record_words l) k) →
    Recorded text l ps → Stands t i ps (i + length ps)
unfolding record_words
stands t i h none = rw add-zero Stands.none
stands {text} t i h (more {r} {l} {p} {ps} e x) =
    let words = record_words l in
    let on : i + length (p ∷ ps) ≡ i + 1 + length ps = omega arith in
    rw on
    (Stands.more (ap t (sym (add-zero i)) ∙ h 0 ∙ first-token text r words ∙ e)
    (stands t (i + 1) (λ k. let j : i + 1 + k ≡ i + suc k = omega arith in ap t j ∙ h (suc k) ∙ next-token text r words k) x))

-- ---- the text of pieces

-- pieces with a gap before the first, and a space before each other
joined : List ℕ → List Piece → List ℕ
joined gap [] = []
joined gap (p ∷ ps) = gap ++ (spelled p ++ joined (0x20 ∷ []) ps)

spaced-joined : (ps : List Piece) → spaced ps ≡ joined [] ps
unfolding spaced joined
spaced-joined [] = refl
spaced-joined (p ∷ []) = sym (append-nil (spelled p))
spaced-joined (p ∷ q ∷ ps) = ap (λ (bytes : List ℕ). spelled p ++ 0x20 ∷ bytes) (spaced-joined (q ∷ ps))

-- what stands before the first piece, and before each other
data Gap : List ℕ → Type 0 where
  none : Gap []
  space : Gap (0x20 ∷ [])

gap-trivia : {gap : List ℕ} → Gap gap → Trivia gap
unfolding is_white white_space among
gap-trivia none = Trivia.none
gap-trivia space = Trivia.white refl Trivia.none

gap-octets : {gap : List ℕ} → Gap gap → Utf8Octets gap gap
gap-octets none = Utf8Octets.none
gap-octets space = Utf8Octets.more (one-octet {c = 0x20} (omega arith)) Utf8Octets.none

-- the characters of that text
characters_of : (gap : List ℕ) {ps : List Piece} → Each Good ps → List ℕ
characters_of gap Each.none = []
characters_of gap (Each.more h hs) = gap ++ ((piece_token_lem h).characters ++ characters_of (0x20 ∷ []) hs)

characters-octets : {gap : List ℕ} {ps : List Piece} → Gap gap → (hs : Each Good ps) → Utf8Octets (joined gap ps) (characters_of gap hs)
unfolding joined characters_of
characters-octets g Each.none = Utf8Octets.none
characters-octets g (Each.more h hs) = octets-on (gap-octets g) (octets-on (piece_token_lem h).octets (characters-octets space hs))

apart : {ps : List Piece} (hs : Each Good ps) → Apart (characters_of (0x20 ∷ []) hs)
unfolding characters_of
apart Each.none = Apart.at_end_rule
apart (Each.more h hs) = Apart.blank

-- behind the characters that are done, the rest is lexed, with the records of the pieces
record Found (text done rest : List ℕ) (ps : List Piece) : Type 0 where
  lexing : Lexing
  lexes : Lexes (length ps) done rest lexing
  finished : Ended lexing (length ps)
  recorded : Recorded text lexing ps

module _ {text : List ℕ} (short : length text ≤ most_bytes) where
  found-more : {front done gap rest : List ℕ} {p : Piece} {ps : List Piece} (behind : List ℕ) → Gap gap → Utf8Octets front done →
      (h : Good p) → text ≡ front ++ (gap ++ (spelled p ++ behind)) → Apart rest → Found text (done ++ (gap ++ (piece_token_lem h).characters)) rest ps →
      Found text done (gap ++ ((piece_token_lem h).characters ++ rest)) (p ∷ ps)
  unfolding place_after
  found-more {front} {done} {gap} {rest} {p} behind g o h e a x =
      let t = piece_token_lem h in
      let start = place_after (done ++ gap) in
      let end = place_after (done ++ (gap ++ t.characters)) in
      let before = octets-long (octets-on o (gap-octets g)) in
      let all = octets-long (octets-on o (octets-on (gap-octets g) t.octets)) in
      let size : length (front ++ (gap ++ spelled p)) ≡ length (front ++ gap) + length (spelled p) = simp length-append (omega arith) in
      record {
        lexing = token (record_for p start end) x.lexing;
        lexes = Lexes.next (gap-trivia g) (starts-on rest t.starts) (t.shaped rest a) t.judged x.lexes;
        finished = Ended.behind x.finished;
        recorded =
            more (piece_token_in h (front ++ gap) behind start end (e ∙ sym (append_assoc front gap (spelled p ++ behind))) short before (all ∙ size))
            x.recorded;
      }

  found : {front done gap : List ℕ} {ps : List Piece} → Gap gap → Utf8Octets front done → (hs : Each Good ps) → text ≡ front ++ joined gap ps →
      Found text done (characters_of gap hs) ps
  unfolding joined characters_of
  found g o Each.none e =
      record { lexing = _; lexes = Lexes.end {gap = []} (Trailing.trivia Trivia.none); finished = Ended.at_end_rule; recorded = none }
  found {front = front} {done = done} {gap = gap} g o (Each.more {x = p} {xs = ps} h hs) e =
      let on : front ++ (gap ++ (spelled p ++ joined (0x20 ∷ []) ps)) ≡ (front ++ (gap ++ spelled p)) ++ joined (0x20 ∷ []) ps = simp append_assoc in
      found-more (joined (0x20 ∷ []) ps) g o h e (apart hs)
      (found {front = front ++ (gap ++ spelled p)} {done = done ++ (gap ++ (piece_token_lem h).characters)} {gap = 0x20 ∷ []} space
      (octets-on o (octets-on (gap-octets g) (piece_token_lem h).octets)) hs (e ∙ on))

-- what lexing the text of good pieces gives
pub record Lexed (ps : List Piece) : Type 0 where
  pub lexing : Lexing
  pub gives : Gives (spaced ps) lexing (length ps)
  pub stand : Stands (tokens (spaced ps) (record_words lexing)) 0 ps (length ps)
  pub at_end_rule : (tokens (spaced ps) (record_words lexing) (length ps)).kind ≡ 0
  -- a string's range in the text has its bytes
  pub names : (i : ℕ) → (tokens (spaced ps) (record_words lexing) i).kind ≡ STRING →
      name_in (spaced ps) (range_of (record_words lexing) i) ≡ (tokens (spaced ps) (record_words lexing) i).bytes

pub pieces-lexed : (ps : List Piece) → Each Good ps → length (spaced ps) ≤ most_bytes → Lexed ps
pieces-lexed ps hs short =
    let e = spaced-joined ps in
    let f = found short none Utf8Octets.none hs e in
    let words = record_words f.lexing in
    let t = tokens (spaced ps) words in
    record {
      lexing = f.lexing;
      gives =
          record {
            short = short;
            characters = characters_of [] hs;
            octets = rw e (characters-octets none hs);
            most = length ps;
            lexed = f.lexes;
            finished = f.finished;
          };
      stand = rw zero-add at (stands t 0 (λ k. ap t (zero-add k)) f.recorded);
      at_end_rule = no_token_rule (spaced ps) words (length ps) (omega (arith, records-count f.finished));
      names = string_bytes (spaced ps) words;
    }
