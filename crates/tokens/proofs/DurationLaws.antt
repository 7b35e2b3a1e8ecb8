-- The bytes of a duration token, as they stand in the text, write exactly its number of milliseconds.
use mathlib.Core.Path.{◌≡◌}
use Prim.Native.Nat.{ℕ, ◌+◌, ◌≤◌}
use native.Mathlib.Omega.{arith}
use mathlib.Core.List.{List, ◌++◌}
use lib.ListN.{length}
use Rattle.text.specs.Part.{part_of}
use Rattle.text.specs.Place.{start, walked}
use Rattle.tokens.specs.Kind.{DURATION}
use Rattle.tokens.specs.Record.{kind_at, number_at, bytes_at}
use Rattle.tokens.specs.Lexing.{most_bytes}
use Rattle.tokens.specs.Lex.{lex_text}
use Rattle.tokens.specs.Ended.{record_words}
use Rattle.tokens.specs.Rules.{first_byte, end_byte}
use Rattle.tokens.specs.Layout.{Duration}
use Rattle.tokens.specs.Placed.{record_at, RecordExact}
use Rattle.tokens.specs.declared.record.Record.{Record}
use Rattle.tokens.proofs.LayoutReads.{ascii-octets}
use Rattle.tokens.proofs.LayoutLaws.{octets-between}
use Rattle.tokens.proofs.SpelledLaws.{spelled_duration_lem, duration-ascii}
use Rattle.tokens.proofs.PlacedLaws.{spaced, exact-at}

duration-of : {s : List ℕ} {r : Record} → RecordExact s r → r.kind ≡ DURATION → Duration (part_of s r.start (r.start + r.length)) r.number
unfolding first_byte end_byte
duration-of {s} {r} x k =
    let a = x.before in
    let u = x.spelling in
    let d = spelled_duration_lem x.spelled k in
    let first : r.start ≡ (walked start a).at = rw k at x.start_is in
    let size = rw k at x.length_is in
    let last : r.start + r.length ≡ (walked start (a ++ u)).at = omega (arith, (spaced s a u x.rest x.text).0) in
    let bytes = ascii-octets (octets-between s a u x.rest x.text) (duration-ascii d) in
    rw (last, first, bytes) d

-- for every token of a text that passes question 1
pub durations : (text : List ℕ) → length text ≤ most_bytes → (i : ℕ) → kind_at (record_words (lex_text text)) i ≡ DURATION →
    Duration (bytes_at text (record_words (lex_text text)) i) (number_at (record_words (lex_text text)) i)
unfolding bytes_at record_at
durations text short i k = duration-of (exact-at text short i (λ z. omega arith)) k
