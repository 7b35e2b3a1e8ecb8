-- The loops of the code: a turn, and the ways out.
use Prim.Native.Nat.{ℕ, zero, suc, ◌+◌, ◌-◌, ◌≤◌, ◌<◌}
use native.Mathlib.Omega.{arith}
use native.Mathlib.Numerals.{add-one}
use mathlib.Core.Path.{◌≡◌, refl, sym, ap, ap₂, ◌∙◌}
use mathlib.Core.Bool.{Bool, true, false}
use mathlib.Core.List.{List, [], ◌∷◌, ◌++◌}
use lib.Dec.{ltb}
use lib.ListN.{length, get_or, drop, set, length-drop, drop_of_length-le}
use lib.Seq.{drop-cons, sets, sets-eq}
use borrow.Author.Rules.{rules}
use borrow.Author.Tests.{lt-ltb, le-ltb, eq-eqb, ne_eqb}
use Rattle.text.specs.Choice.{pick}
use Rattle.chains.specs.Vocabulary.{piece_count}
use Rattle.chains.specs.Listed.{most_pieces, zeros, chain}
use Rattle.chains.specs.Places.{step, may_end}
use Rattle.chains.specs.Way.{reached, least_from, least, last_raised, piece_at, built, longer_from, longer, raised, following, is_start}
use Rattle.chains.specs.declared.Chain.{Chain}
use Rattle.chains.specs.declared.place.Place.{Place}
use Rattle.chains.specs.declared.place.Place.TheVariants.{Start}

-- what is left of a sequence, with its first piece
pub left-of : (v : List ℕ) (i : ℕ) → i < length v → drop i v ≡ get_or v i 0 ∷ drop (i + 1) v
left-of v i h = rw (add-one) (drop-cons v i 0 h)

-- the place behind a sequence
pub reached-next : {p r : Place} (s : Place) (v : List ℕ) (i : ℕ) → i < length v → p ≡ step s (get_or v i 0) → reached s (drop i v) ≡ r →
    reached p (drop (i + 1) v) ≡ r
unfolding reached
reached-next s v i h e inv = rw e (rw (left-of v i h) at inv)

pub reached-end : {s r : Place} (v : List ℕ) (i : ℕ) → length v ≤ i → reached s (drop i v) ≡ r → s ≡ r
unfolding reached
reached-end v i h inv = rw (drop_of_length-le v h) at inv

-- the least piece
some_left : (q : ℕ) → q < piece_count → piece_count - q ≡ suc (piece_count - (q + 1))
some_left q h = omega arith

none_left : (q : ℕ) → piece_count ≤ q → piece_count - q ≡ zero
none_left q h = omega arith

pub least_start : (s : Place) (q n : ℕ) → least_from s n (piece_count - q) q ≡ least s q n
unfolding least
least_start s q n = refl

pub least-found : {p : Place} {b : Bool} {r : ℕ} (s : Place) (q n : ℕ) → q < piece_count → p ≡ step s q → b ≡ may_end p n → b ≡ true →
    least_from s n (piece_count - q) q ≡ r → q ≡ r
unfolding least_from
least-found s q n h e f t inv = rw (some_left q h, ← e, ← f, t) at inv

pub least-next : {p : Place} {b : Bool} {r : ℕ} (s : Place) (q n : ℕ) → q < piece_count → p ≡ step s q → b ≡ may_end p n → b ≡ false →
    least_from s n (piece_count - q) q ≡ r → least_from s n (piece_count - (q + 1)) (q + 1) ≡ r
unfolding least_from
least-next s q n h e f t inv = rw (some_left q h, ← e, ← f, t) at inv

pub least-none : {r : ℕ} (s : Place) (q n : ℕ) → piece_count ≤ q → least_from s n (piece_count - q) q ≡ r → piece_count ≡ r
unfolding least_from
least-none s q n h inv = rw (none_left q h) at inv

pub ruleset leasts = (rules, least_start, least-found, least-next, least-none)

-- the last piece that can be raised
left-length : (v : List ℕ) (i : ℕ) → length (drop (i + 1) v) ≡ length v - i - 1
left-length v i = rw length-drop (omega arith)

-- the best index so far, with that of this piece
module _ (l i best : ℕ) {b : ℕ} where
  pub raised-here : l < piece_count → b ≡ i → b ≡ pick (ltb l piece_count) i best
  raised-here h e = rw (lt-ltb l piece_count h) e

  pub raised-before : piece_count ≤ l → b ≡ best → b ≡ pick (ltb l piece_count) i best
  raised-before h e = rw (le-ltb l piece_count h) e

pub raised-next : {p : Place} {l b r : ℕ} (s : Place) (v : List ℕ) (i best : ℕ) → i < length v →
    l ≡ least s (get_or v i 0 + 1) (length v - i - 1) → b ≡ pick (ltb l piece_count) i best → p ≡ step s (get_or v i 0) →
    last_raised s (drop i v) i best ≡ r → last_raised p (drop (i + 1) v) (i + 1) b ≡ r
unfolding last_raised
raised-next s v i best h e f g inv =
    let n = length (drop (i + 1) v) in
    let q = get_or v i 0 in
    let same : least s (q + 1) (length v - i - 1) ≡ least s (q + 1) n = ap (least s (q + 1)) (sym (left-length v i)) in
    ap₂ (λ (x : Place) (y : ℕ). last_raised x (drop (i + 1) v) (i + 1) y) g (f ∙ ap (λ (x : ℕ). pick (ltb x piece_count) i best) (e ∙ same)) ∙
    (ap (λ (u : List ℕ). last_raised s u i best) (sym (left-of v i h)) ∙ inv)

pub raised-end : {r : ℕ} (s : Place) (v : List ℕ) (i best : ℕ) → length v ≤ i → last_raised s (drop i v) i best ≡ r → best ≡ r
unfolding last_raised
raised-end s v i best h inv = rw (drop_of_length-le v h) at inv

-- the piece at an index
pub piece-before : {r : ℕ} (v : List ℕ) (p low i : ℕ) (s : Place) (n : ℕ) → i < p → r ≡ get_or v i 0 → r ≡ piece_at v p low i s n
unfolding piece_at
piece-before v p low i s n h e = rw (lt-ltb i p h) e

pub piece-there : {r : ℕ} (v : List ℕ) (p low i : ℕ) (s : Place) (n : ℕ) → p ≤ i → i ≡ p → r ≡ least s low n → r ≡ piece_at v p low i s n
unfolding piece_at
piece-there v p low i s n h e f = rw (le-ltb i p h, eq-eqb i p e) f

pub piece-behind : {r : ℕ} (v : List ℕ) (p low i : ℕ) (s : Place) (n : ℕ) → p ≤ i → (i ≡ p → ⊥) → r ≡ least s 0 n → r ≡ piece_at v p low i s n
unfolding piece_at
piece-behind v p low i s n h e f = rw (le-ltb i p h, ne_eqb i p e) f

pub ruleset pieces = (rules, piece-before, piece-there, piece-behind)

-- a sequence built up piece by piece
module _ (v : List ℕ) (p low : ℕ) where
  pub built-length : (i : ℕ) (s : Place) (n : ℕ) → length (built v p low i s n) ≡ n
  unfolding built
  built-length i s zero = refl
  built-length i s (suc n) = ap suc (built-length (i + 1) (step s (piece_at v p low i s n)) n)

  pub built-next : {t : Place} {q : ℕ} {all : List ℕ} (l : List ℕ) (i : ℕ) (s : Place) (n : ℕ) → i < n → q ≡ piece_at v p low i s (n - i - 1) →
      t ≡ step s q → sets l i (built v p low i s (n - i)) ≡ all → sets (set l i q) (i + 1) (built v p low (i + 1) t (n - (i + 1))) ≡ all
  unfolding built
  built-next l i s n h e f inv =
      let one_less : n - i ≡ suc (n - i - 1) = omega arith in
      let the_rest : n - i - 1 ≡ n - (i + 1) = omega arith in
      rw (f, e, ← the_rest, add-one) (rw (one_less, add-one) at inv)

  built-end : {all : List ℕ} (l : List ℕ) (i : ℕ) (s : Place) (n : ℕ) → n ≤ i → sets l i (built v p low i s (n - i)) ≡ all → l ≡ all
  unfolding built
  built-end l i s n h inv =
      let none : n - i ≡ zero = omega arith in
      rw none at inv

drop-replicate : (n m : ℕ) → drop n (zeros m) ≡ zeros (m - n)
drop-replicate zero m = let e : m ≡ m - zero = omega arith in ap zeros e
drop-replicate (suc n) zero = let e : zero ≡ zero - suc n = omega arith in ap zeros e
drop-replicate (suc n) (suc m) = let e : m - n ≡ suc m - suc n = omega arith in drop-replicate n m ∙ ap zeros e

-- fifteen zeros, over which a sequence is written
stored : (w : List ℕ) → length w ≤ most_pieces → sets (zeros most_pieces) 0 w ≡ w ++ zeros (most_pieces - length w)
stored w h =
    let fits : 0 + length w ≤ length (zeros most_pieces) = omega arith in
    let e : 0 + length w ≡ length w = omega arith in
    sets-eq w (zeros most_pieces) 0 fits ∙ ap (λ (r : List ℕ). w ++ r) (ap (λ (k : ℕ). drop k (zeros most_pieces)) e ∙ drop-replicate (length w) most_pieces)

pub built-done : (v : List ℕ) (p low i : ℕ) (s : Place) (n : ℕ) (l : List ℕ) → n ≤ i → n ≤ most_pieces →
    sets l i (built v p low i s (n - i)) ≡ sets (zeros most_pieces) 0 (built v p low 0 Start (n - 0)) →
    record { number = 0; count = n; pieces = l } ≡ chain (built v p low 0 Start n)
unfolding chain
built-done v p low i s n l done h inv =
    let w = built v p low 0 Start n in
    let whole : n - 0 ≡ n = omega arith in
    let size : length w ≡ n = built-length v p low 0 Start n in
    let short : length w ≤ most_pieces = omega arith in
    ap₂ (λ (k : ℕ) (x : List ℕ). record { number = 0; count = k; pieces = x }) (sym size) (built-end v p low l i s n done (rw whole at inv) ∙ stored w short)

-- the shortest from a number of pieces on
some-longer : (n : ℕ) → n ≤ most_pieces → most_pieces + 1 - n ≡ suc (most_pieces + 1 - (n + 1))
some-longer n h = omega arith

none-longer : (n : ℕ) → most_pieces < n → most_pieces + 1 - n ≡ zero
none-longer n h = omega arith

pub longer-start : (v : List ℕ) (n : ℕ) → longer_from v (most_pieces + 1 - n) n ≡ longer v n
unfolding longer
longer-start v n = refl

pub longer-found : {b : Bool} {w : List ℕ} {r : Chain} (v : List ℕ) (n : ℕ) → n ≤ most_pieces → b ≡ may_end Start n → b ≡ true →
    r ≡ chain (built v 0 0 0 Start n) → longer_from v (most_pieces + 1 - n) n ≡ w → r ≡ chain w
unfolding longer_from
longer-found v n h e t f inv = f ∙ ap chain (rw (some-longer n h, ← e, t) at inv)

pub longer-next : {b : Bool} {w : List ℕ} (v : List ℕ) (n : ℕ) → n ≤ most_pieces → b ≡ may_end Start n → b ≡ false →
    longer_from v (most_pieces + 1 - n) n ≡ w → longer_from v (most_pieces + 1 - (n + 1)) (n + 1) ≡ w
unfolding longer_from
longer-next v n h e t inv = rw (some-longer n h, ← e, t) at inv

pub longer-none : {w : List ℕ} {r : Chain} (v : List ℕ) (n : ℕ) → most_pieces < n → r ≡ chain [] → longer_from v (most_pieces + 1 - n) n ≡ w →
    r ≡ chain w
unfolding longer_from
longer-none v n h e inv = e ∙ ap chain (rw (none-longer n h) at inv)

pub no_pieces : record { number = 0; count = 0; pieces = zeros most_pieces } ≡ chain []
unfolding chain
no_pieces = refl

pub ruleset longers = (rules, longer-start, longer-found, longer-next, longer-none, no_pieces)

-- the next one
pub next_raised : {p : ℕ} {r : Chain} (v : List ℕ) → p ≡ last_raised Start v 0 (length v) → p < length v →
    r ≡ chain (built v p (get_or v p 0 + 1) 0 Start (length v)) → r ≡ chain (following v)
unfolding following raised
next_raised {p} v e h f = rw (← e, lt-ltb p (length v) h) f

pub next_longer : {p : ℕ} {r : Chain} (v : List ℕ) → p ≡ last_raised Start v 0 (length v) → length v ≤ p →
    r ≡ chain (longer v (length v + 1)) → r ≡ chain (following v)
unfolding following
next_longer {p} v e h f = rw (← e, le-ltb p (length v) h) f

-- from where the list may be gone on with
pub start_by : {p : Place} {r : Bool} (v : List ℕ) → (length v ≡ 0 → ⊥) → length v ≤ most_pieces → p ≡ reached Start v → r ≡ may_end p 0 →
    r ≡ is_start v
unfolding is_start
start_by v some few e f = rw (ne_eqb (length v) 0 some, le-ltb most_pieces (length v) few, ← e) f
