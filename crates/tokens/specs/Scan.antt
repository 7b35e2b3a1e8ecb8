-- Scans over characters: from a place and the characters from there on, the place where the scan ends.
use Rattle.std.specs.Prelude.{ℕ, ◌+◌, ◌-◌, ◌*◌, List, [], ◌∷◌, Bool, false, ltb, eqb, Option, Some, None, Result, Ok, Err}
use Rattle.text.specs.Choice.{pick}
use Rattle.text.specs.White.{is_white}
use Rattle.text.specs.Utf8.{Character}
use Rattle.text.specs.Place.{after}
use Rattle.text.specs.declared.place.Place.{Place}
use Rattle.text.specs.Ascii.{is_digit}

-- a byte that is a character by itself, and not LF
unfoldable pub is_plain : ℕ → Bool
is_plain b = pick (eqb b 0x0A) false (ltb b 0x80)

-- behind the characters of a class that stand in a row
unfoldable pub passed : (ℕ → Bool) → Place → List Character → Place
passed class p [] = p
passed class p (ch ∷ cs) = pick (class ch.code) (passed class (after p ch) cs) p

-- "`#` opens a comment up to LF." Between tokens (mode 0) and in a comment (1): what mode a character leads to; 2, it begins a token
unfoldable pub trivia_mode : ℕ → ℕ → ℕ
trivia_mode mode c = pick (eqb mode 1) (pick (eqb c 0x0A) 0 1) (pick (is_white c) 0 (pick (eqb c 0x23) 1 2))

-- behind white space and comments
unfoldable pub trivia : ℕ → Place → List Character → Place
trivia mode p [] = p
trivia mode p (ch ∷ cs) =
    pick (eqb (trivia_mode mode ch.code) 2) p (trivia (trivia_mode mode ch.code) (after p ch) cs)

-- "A string reads on until the quote, LF or the end decides it; it has no escapes."
unfoldable pub quoted : Place → List Character → Result (ℕ × Place) ℕ
quoted p [] = Err p.at
quoted p (ch ∷ cs) =
    pick (eqb ch.code 0x22) (Ok (p.at, after p ch))
    (pick (eqb ch.code 0x0A) (Err p.at) (quoted (after p ch) cs))

-- a digit behind the digits that write v
unfoldable pub with_digit : ℕ → ℕ → ℕ
with_digit v c = v * 10 + (c - 0x30)

-- a run of digits behind digits that write v: "each digit run at most 1,000,000,000", asked as each digit is read
unfoldable pub digits : ℕ → Place → List Character → Option (ℕ × Place)
digits v p [] = Some (v, p)
digits v p (ch ∷ cs) =
    pick (is_digit ch.code)
    (pick (ltb 1000000000 (with_digit v ch.code)) None (digits (with_digit v ch.code) (after p ch) cs))
    (Some (v, p))
