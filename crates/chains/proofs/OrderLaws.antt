-- What is found is the next one: among the sequences of one length that may end a chain, and then among all.
use Prim.Native.Nat.{ℕ, zero, suc, ◌+◌, ◌-◌, ◌≤◌, ◌<◌}
use native.Mathlib.Omega.{arith}
use mathlib.Core.Path.{◌≡◌, refl, sym, ap, ◌∙◌, subst}
use mathlib.Core.Bool.{Bool, true, false, false≢true}
use mathlib.Core.List.{List, [], ◌∷◌}
use mathlib.Core.Logic.{◌⊎◌, inl, inr, ⊎_elim}
use lib.Dec.{ltb}
use lib.ListN.{length}
use borrow.Author.Tests.{ltb-true, ltb-false, lt-ltb}
use Rattle.text.specs.Choice.{pick}
use Rattle.chains.specs.Vocabulary.{piece_count}
use Rattle.chains.specs.Listed.{most_pieces, Earlier, less, same}
use Rattle.chains.specs.Places.{step, may_end}
use Rattle.chains.specs.Way.{reached, least_from, least, last_raised}
use Rattle.chains.specs.declared.place.Place.{Place}
use Rattle.chains.proofs.TableLaws.{may_more, may_short, a_piece}

-- a sequence leads from a place to an end
abbrev pub Ends : Place → List ℕ → Type 0
Ends s v = may_end (reached s v) 0 ≡ true

-- the least piece from q on behind which n may follow
least_may_by : (s : Place) (n q later : ℕ) (b : Bool) → may_end (step s q) n ≡ b → (later < piece_count → may_end (step s later) n ≡ true) →
    pick b q later < piece_count → may_end (step s (pick b q later)) n ≡ true
least_may_by s n q later true e r h = e
least_may_by s n q later false e r h = r h

least_may_from : (s : Place) (n k q : ℕ) → least_from s n k q < piece_count → may_end (step s (least_from s n k q)) n ≡ true
unfolding least_from
least_may_from s n zero q h = absurd (omega arith)
least_may_from s n (suc k) q h = least_may_by s n q (least_from s n k (q + 1)) (may_end (step s q) n) refl (least_may_from s n k (q + 1)) h

pub least_may : (s : Place) (q n : ℕ) → least s q n < piece_count → may_end (step s (least s q n)) n ≡ true
unfolding least
least_may s q n h = least_may_from s n (piece_count - q) q h

least-up-by : (q later : ℕ) (b : Bool) → (later < piece_count → q + 1 ≤ later) → pick b q later < piece_count → q ≤ pick b q later
least-up-by q later true r h = omega arith
least-up-by q later false r h = let l = r h in omega arith

least-up-from : (s : Place) (n k q : ℕ) → least_from s n k q < piece_count → q ≤ least_from s n k q
unfolding least_from
least-up-from s n zero q h = absurd (omega arith)
least-up-from s n (suc k) q h = least-up-by q (least_from s n k (q + 1)) (may_end (step s q) n) (least-up-from s n k (q + 1)) h

pub least-up : (s : Place) (q n : ℕ) → least s q n < piece_count → q ≤ least s q n
unfolding least
least-up s q n h = least-up-from s n (piece_count - q) q h

least_first-by : (s : Place) (n q x later : ℕ) (b : Bool) → may_end (step s q) n ≡ b → q ≤ x → may_end (step s x) n ≡ true →
    (q + 1 ≤ x → later ≤ x) → pick b q later ≤ x
least_first-by s n q x later true e l h r = l
least_first-by s n q x later false e l h r =
    let other : q ≡ x → ⊥ = λ f. false≢true (sym e ∙ ap (λ (y : ℕ). may_end (step s y) n) f ∙ h) in
    r (omega arith)

least_first-from : (s : Place) (n k q x : ℕ) → q ≤ x → x < q + k → may_end (step s x) n ≡ true → least_from s n k q ≤ x
unfolding least_from
least_first-from s n zero q x l u h = absurd (omega arith)
least_first-from s n (suc k) q x l u h =
    least_first-by s n q x (least_from s n k (q + 1)) (may_end (step s q) n) refl l h (λ m. least_first-from s n k (q + 1) x m (omega arith) h)

pub least_first : (s : Place) (q n x : ℕ) → q ≤ x → may_end (step s x) n ≡ true → least s q n ≤ x
unfolding least
least_first s q n x l h = let piece = a_piece s x n h in least_first-from s n (piece_count - q) q x l (omega arith) h

-- as many pieces may follow as a sequence has that leads to an end
pub may_along : (s : Place) (z : List ℕ) → length z ≤ most_pieces → Ends s z → may_end s (length z) ≡ true
unfolding reached
may_along s [] few h = h
may_along s (q ∷ z) few h =
    let may = may_along (step s q) z (omega arith) h in
    let piece = a_piece s q (length z) may in
    let first = least_first s 0 (length z) q (omega arith) may in
    may_more s (length z) (omega arith) ∙ lt-ltb (least s 0 (length z)) piece_count (omega arith)

-- the first sequence of n pieces
unfoldable pub fill : Place → ℕ → List ℕ
fill s zero = []
fill s (suc n) = least s 0 n ∷ fill (step s (least s 0 n)) n

least-below : (s : Place) (n : ℕ) → may_end s (suc n) ≡ true → least s 0 n < piece_count
least-below s n h = let short = may_short s (suc n) h in ltb-true _ _ (sym (may_more s n (omega arith)) ∙ h)

pub fill-ends : (s : Place) (n : ℕ) → may_end s n ≡ true → Ends s (fill s n)
unfolding fill reached
fill-ends s zero h = h
fill-ends s (suc n) h = fill-ends (step s (least s 0 n)) n (least_may s 0 n (least-below s n h))

pub fill-length : (s : Place) (n : ℕ) → length (fill s n) ≡ n
unfolding fill
fill-length s zero = refl
fill-length s (suc n) = ap suc (fill-length (step s (least s 0 n)) n)

-- how two sequences differ
pub earlier-by : {x y : ℕ} {u w : List ℕ} → Earlier (x ∷ u) (y ∷ w) → (x < y) ⊎ ((x ≡ y) × Earlier u w)
earlier-by (less h) = inl h
earlier-by (same h) = inr (refl, h)

nothing-earlier : {u w : List ℕ} → Earlier u w → length u ≡ 0 → ⊥
nothing-earlier (less h) e = omega arith
nothing-earlier (same h) e = omega arith

pub fill-first : (s : Place) (z : List ℕ) → length z ≤ most_pieces → Ends s z → Earlier z (fill s (length z)) → ⊥
unfolding fill reached
fill-first s [] few h e = elim e [ ]
fill-first s (y ∷ z) few h e =
    let n = length z in
    ⊎_elim
    (λ l. let first = least_first s 0 n y (omega arith) (may_along (step s y) z (omega arith) h) in omega arith)
    (λ p. fill-first (step s y) z (omega arith) h (rw p.0 p.1))
    (earlier-by e)

-- the piece at an index raised, and the rest filled up
unfoldable pub raise : Place → List ℕ → ℕ → List ℕ
raise s [] k = []
raise s (x ∷ u) zero = let q = least s (x + 1) (length u) in q ∷ fill (step s q) (length u)
raise s (x ∷ u) (suc k) = x ∷ raise (step s x) u k

-- nothing as long comes behind u
abbrev pub Highest : Place → List ℕ → Type 0
Highest s u = (z : List ℕ) → length z ≡ length u → Ends s z → Earlier u z → ⊥

-- w is the first as long that comes behind u
pub record Raises (s : Place) (u w : List ℕ) : Type 0 where
  pub size : length w ≡ length u
  pub ends : Ends s w
  pub later : Earlier u w
  pub first : (z : List ℕ) → length z ≡ length u → Ends s z → Earlier u z → Earlier z w → ⊥

module _ (s : Place) (x : ℕ) (u : List ℕ) (few : length u < most_pieces) where
  -- the first piece stays
  stays : {w : List ℕ} → Raises (step s x) u w → Raises s (x ∷ u) (x ∷ w)
  unfolding reached
  stays {w} r = record { size = ap suc r.size; ends = r.ends; later = same r.later; first = first }
    where
      first : (z : List ℕ) → length z ≡ suc (length u) → Ends s z → Earlier (x ∷ u) z → Earlier z (x ∷ w) → ⊥
      first [] e h a b = absurd (omega arith)
      first (y ∷ z) e h a b =
          ⊎_elim (λ l. ⊎_elim (λ m. omega arith) (λ q. let same-piece = q.0 in omega arith) (earlier-by b))
          (λ p.
          ⊎_elim (λ m. let same-piece = p.0 in omega arith)
          (λ q. r.first z (omega arith) (subst (λ (k : ℕ). Ends (step s k) z) (sym p.0) h) p.1 q.1)
          (earlier-by b))
          (earlier-by a)

  -- the first piece is raised
  rises : Highest (step s x) u → least s (x + 1) (length u) < piece_count → Raises s (x ∷ u) (raise s (x ∷ u) zero)
  unfolding reached raise
  rises highest below =
      record {
        size = ap suc (fill-length (step s q) n);
        ends = fill-ends (step s q) n (least_may s (x + 1) n below);
        later = less {x = x} {y = q} (let up = least-up s (x + 1) n below in omega arith);
        first = first;
      }
    where
      n : ℕ
      n = length u

      q : ℕ
      q = least s (x + 1) n

      first : (z : List ℕ) → length z ≡ suc n → Ends s z → Earlier (x ∷ u) z → Earlier z (q ∷ fill (step s q) n) → ⊥
      first [] e h a b = absurd (omega arith)
      first (y ∷ z) e h a b =
          let size : length z ≡ n = omega arith in
          ⊎_elim
          (λ l.
          ⊎_elim
          (λ m.
          let may : may_end (step s y) n ≡ true = rw size at (may_along (step s y) z (omega arith) h) in
          let low = least_first s (x + 1) n y (omega arith) may in
          omega arith)
          (λ p. fill-first (step s y) z (omega arith) h (rw (size, p.0) p.1))
          (earlier-by b))
          (λ p. highest z size (subst (λ (k : ℕ). Ends (step s k) z) (sym p.0) h) p.1)
          (earlier-by a)

  -- the first piece can't be raised either
  no-rise : Highest (step s x) u → piece_count ≤ least s (x + 1) (length u) → Highest s (x ∷ u)
  unfolding reached
  no-rise highest above [] e h a = absurd (omega arith)
  no-rise highest above (y ∷ z) e h a =
      let size : length z ≡ length u = omega arith in
      ⊎_elim
      (λ l.
      let may : may_end (step s y) (length u) ≡ true = rw size at (may_along (step s y) z (omega arith) h) in
      let low = least_first s (x + 1) (length u) y (omega arith) may in
      let piece = a_piece s y (length u) may in
      omega arith)
      (λ p. highest z size (subst (λ (k : ℕ). Ends (step s k) z) (sym p.0) h) p.1)
      (earlier-by a)

-- what the last piece that can be raised is
pub data RaisedAt (s : Place) (u : List ℕ) (i best r : ℕ) : Type 0 where
  nowhere : Highest s u → r ≡ best → RaisedAt s u i best r
  somewhere : (k : ℕ) → k < length u → r ≡ i + k → Raises s u (raise s u k) → RaisedAt s u i best r

raised_by : (s : Place) (x : ℕ) (u : List ℕ) (i best r : ℕ) (b : Bool) → length u < most_pieces →
    ltb (least s (x + 1) (length u)) piece_count ≡ b → RaisedAt (step s x) u (i + 1) (pick b i best) r → RaisedAt s (x ∷ u) i best r
unfolding raise
raised_by s x u i best r b few t (somewhere k l e h) = somewhere (suc k) (omega arith) (omega arith) (stays s x u few h)
raised_by s x u i best r true few t (nowhere h e) = somewhere 0 (omega arith) (omega arith) (rises s x u few h (ltb-true _ _ t))
raised_by s x u i best r false few t (nowhere h e) = nowhere (no-rise s x u few h (ltb-false _ _ t)) e

pub raised_at : (s : Place) (u : List ℕ) (i best : ℕ) → length u ≤ most_pieces → RaisedAt s u i best (last_raised s u i best)
unfolding last_raised
raised_at s [] i best few = nowhere (λ z e h a. nothing-earlier a refl) refl
raised_at s (x ∷ u) i best few =
    raised_by s x u i best _ (ltb (least s (x + 1) (length u)) piece_count) (omega arith) refl (raised_at (step s x) u (i + 1) _ (omega arith))
