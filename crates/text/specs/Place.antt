-- Places in a text: line and column count characters from 1, and only LF starts a line (document 01, "Tokens and places").
use Rattle.std.specs.Prelude.{ℕ, ◌+◌, ◌<◌, ◌≤◌, ◌≡◌, List, [], ◌∷◌, length, ltb, eqb, Option, Some, None, Result, Ok, Err}
use Rattle.text.specs.Choice.{pick}
use Rattle.text.specs.Rfc3629.{Utf8Octets, Starts, StartsNone}
use Rattle.text.specs.Utf8.{Character, chars}
use Rattle.text.specs.declared.place.Place.{Place}
use Rattle.text.specs.declared.place.IllFormed.{IllFormed}

-- the greatest number that is held in 32 bits
abbrev pub most_held : ℕ
most_held = 4294967295

-- a line or column that is held in 32 bits: it stops at the greatest number, which only a text of over 4,294,967,293 bytes reaches
unfoldable pub counted : ℕ → ℕ
counted n = pick (ltb n most_held) n most_held

-- how many of these characters are LF
unfoldable pub line_feeds : List ℕ → ℕ
line_feeds [] = 0
line_feeds (c ∷ cs) = pick (eqb c 0x0A) (line_feeds cs + 1) (line_feeds cs)

-- how many of these characters stand behind the last LF
unfoldable pub since_line_feed : List ℕ → ℕ
since_line_feed [] = 0
since_line_feed (c ∷ cs) = pick (eqb (line_feeds (c ∷ cs)) 0) (length (c ∷ cs)) (since_line_feed cs)

-- line and column of the place behind these characters
unfoldable pub line_after : List ℕ → ℕ
line_after cs = counted (line_feeds cs + 1)

unfoldable pub column_after : List ℕ → ℕ
column_after cs = counted (since_line_feed cs + 1)

-- the same with nothing cut
pub record Counts (cs : List ℕ) (line column : ℕ) : Type 0 where
  pub line_is : line ≡ line_feeds cs + 1
  pub column_is : column ≡ since_line_feed cs + 1

-- a line and a column of s: at most its bytes and one, so that none is cut unless the text is as long as numbers of 32 bits go
pub record Within (s : List ℕ) (line column : ℕ) : Type 0 where
  pub line_most : line ≤ length s + 1
  pub column_most : column ≤ length s + 1

-- a place, moved on by one character
unfoldable pub after : Place → Character → Place
after p ch =
    record {
      at = ch.next;
      line = pick (eqb ch.code 0x0A) (counted (p.line + 1)) p.line;
      column = pick (eqb ch.code 0x0A) 1 (counted (p.column + 1));
    }

-- where a text begins
abbrev pub start : Place
start = record { at = 0; line = 1; column = 1 }

-- the character at a place and the place behind it, by the characters from there on
unfoldable pub step_of : Place → List Character → Option (ℕ × Place)
step_of p [] = None
step_of p (ch ∷ cs) = Some (ch.code, after p ch)

-- the place behind these characters
unfoldable pub walked : Place → List Character → Place
walked p [] = p
walked p (ch ∷ cs) = walked (after p ch) cs

-- question 4 of document 01: is all of s characters? Else the first place where none begins.
unfoldable pub judge : ℕ → Place → Result Unit IllFormed
judge size p = pick (eqb p.at size) (Ok tt) (Err (record { line = p.line; column = p.column }))

unfoldable pub check_of : List ℕ → Result Unit IllFormed
check_of s = judge (length s) (walked start (chars s 0))

-- the same by the rules of RFC 3629: a row of characters, or the place behind the row where no character begins
pub data Judged (s : List ℕ) : Result Unit IllFormed → Type 0 where
  well_formed : {cs : List ℕ} → Utf8Octets s cs → Judged s (Ok tt)
  ill_formed : {u cs : List ℕ} → Utf8Octets u cs → (begins : Starts s u) → 0 < length begins.rest → StartsNone begins.rest →
      Judged s (Err (record { line = line_after cs; column = column_after cs }))
