-- Numbers, times and durations as they are spelled: the loop over a number's digits, and the parts that are written.
use Prim.Native.Nat.{ℕ, zero, suc, ◌-◌, ◌/◌, ◌%◌, ◌≤◌, ◌<◌}
use mathlib.Core.Path.{◌≡◌, refl, sym, ap, ◌∙◌}
use mathlib.Core.List.{List, [], ◌∷◌, ◌++◌, append_assoc, append-nil}
use native.Mathlib.Omega.{arith}
use lib.ListN.{length, take, drop, set, length-set, length-drop}
use lib.Seq.{take_all, drop-length}
use borrow.Author.Tests.{lt-ltb, le-ltb}
use Rattle.text.specs.Literal.{ascii}
use Rattle.tokens.specs.Rules.{most_run}
use Rattle.writing.specs.Pieces.{Piece, digit, decimal, decimal_from, two_digits, three_digits, spelled_time, spelled_duration, spelled, further}
use Rattle.spelling.proofs.PutLaws.{Made, joined}

drop-set : (l : List ℕ) (i x : ℕ) → i < length l → drop i (set l i x) ≡ x ∷ drop (suc i) l
drop-set (y ∷ l) zero x h = refl
drop-set (y ∷ l) (suc i) x h = drop-set l i x (omega arith)
drop-set [] i x h = absurd (omega arith)

more-digits : (most n : ℕ) → 10 ≤ n → decimal_from (suc most) n ≡ decimal_from most (n / 10) ++ digit n ∷ []
unfolding decimal_from
more-digits most n h = rw (le-ltb n 10 h)

-- The loop over the digits, from the last on: those from left on stand, and those of rest are to come.
pub record Spelling (n : ℕ) (digits : List ℕ) (left rest : ℕ) : Type 0 where
  pub long : length digits ≡ 10
  pub within : left ≤ 10
  pub same : decimal n ≡ decimal_from left rest ++ drop left digits

pub no_digit : (n : ℕ) {digits : List ℕ} → length digits ≡ 10 → Spelling n digits 10 n
unfolding decimal
no_digit n {digits} e =
    record { long = e; within = omega arith; same = sym (append-nil (decimal_from 10 n)) ∙ ap (λ (xs : List ℕ). decimal_from 10 n ++ xs) (sym none) }
  where
    none : drop 10 digits ≡ []
    none = rw (← e) (drop-length digits)

module _ {n : ℕ} {digits : List ℕ} {left first rest d : ℕ} (s : Spelling n digits left rest) (up : left ≡ suc first) (e : d ≡ digit rest) where
  behind : drop first (set digits first d) ≡ digit rest ∷ drop (suc first) digits
  behind =
      let long = s.long in
      let within = s.within in
      rw e (drop-set digits first (digit rest) (omega arith))

  long-set : length (set digits first d) ≡ 10
  long-set = length-set digits first d ∙ s.long

  -- a digit, and the next
  pub next-digit : 10 ≤ rest → Spelling n (set digits first d) first (rest / 10)
  next-digit h =
      let within = s.within in
      record {
        long = long-set;
        within = omega arith;
        same = s.same ∙ rw (up, more-digits first rest h, append_assoc, behind);
      }

  -- the first digit
  pub first_digit : rest < 10 → Made (decimal n) (take (10 - first) (drop first (set digits first d)) ∷ [])
  unfolding decimal_from joined
  first_digit h =
      let far : length (drop first (set digits first d)) ≤ 10 - first = rw (length-drop first (set digits first d), long-set) (omega arith) in
      record { parts_of = s.same ∙ rw (up, lt-ltb rest 10 h, take_all (10 - first) (drop first (set digits first d)) far, behind, append-nil) }

-- ten digits stand
pub ten_digits : {n : ℕ} {digits : List ℕ} {left rest : ℕ} → Spelling n digits left rest → left ≡ 0 → Made (decimal n) (digits ∷ [])
unfolding decimal_from joined
ten_digits {digits = digits} s e = record { parts_of = s.same ∙ rw (e, append-nil digits) }

-- The parts of what is written, by the digits that were computed.
pub number-made : (n : ℕ) → Made (further (Piece.integer n ∷ [])) (ascii " " ∷ decimal n ∷ [])
unfolding further spelled joined
number-made n = record { parts_of = refl }

pub time-made : (m : ℕ) {a b c d : ℕ} → a ≡ digit (m / 60 / 10) → b ≡ digit (m / 60) → c ≡ digit (m % 60 / 10) → d ≡ digit (m % 60) →
    Made (further (Piece.time m ∷ [])) ((0x20 ∷ a ∷ b ∷ 0x3A ∷ c ∷ d ∷ []) ∷ [])
unfolding further spelled spelled_time two_digits joined
time-made m e f g h = record { parts_of = rw (e, f, g, h) }

-- a duration in seconds without the space before it, and the two ways in which a duration is written
pub seconds_made : (ms : ℕ) {a b c : ℕ} → a ≡ digit (ms % 1000 / 100) → b ≡ digit (ms % 1000 / 10) → c ≡ digit (ms % 1000) →
    Made (decimal (ms / 1000) ++ 0x2E ∷ three_digits (ms % 1000) ++ ascii "s") (decimal (ms / 1000) ∷ (0x2E ∷ a ∷ b ∷ c ∷ 0x73 ∷ []) ∷ [])
unfolding three_digits two_digits joined
seconds_made ms e f g = record { parts_of = rw (e, f, g) (simp (append_assoc, append-nil)) }

pub duration-made : (ms : ℕ) → Made (further (Piece.duration ms ∷ [])) (ascii " " ∷ spelled_duration ms ∷ [])
unfolding further spelled joined
duration-made ms = record { parts_of = refl }

pub long-made : (ms : ℕ) → most_run < ms →
    Made (further (Piece.duration ms ∷ [])) (ascii " " ∷ (decimal (ms / 1000) ++ 0x2E ∷ three_digits (ms % 1000) ++ ascii "s") ∷ [])
unfolding further spelled spelled_duration joined
long-made ms h = record { parts_of = rw (lt-ltb most_run ms h) }

pub short-made : (ms : ℕ) → ms ≤ most_run → Made (further (Piece.duration ms ∷ [])) (ascii " " ∷ decimal ms ∷ ascii "ms" ∷ [])
unfolding further spelled spelled_duration joined
short-made ms h = record { parts_of = rw (le-ltb most_run ms h) (simp (append_assoc, append-nil)) }
