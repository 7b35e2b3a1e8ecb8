-- Lists in rows: the entries in use, padded ones, and one more behind them.
use Prim.Native.Nat.{ℕ, zero, suc, ◌+◌, ◌<◌, ◌≤◌}
use mathlib.Core.Path.{◌≡◌, refl, ap}
use mathlib.Core.List.{List, [], ◌∷◌, ◌++◌, map}
use native.Mathlib.Omega.{arith}
use native.Mathlib.Numerals.{add-one}
use lib.ListN.{length, get_or, set, take}
use Rattle.model.specs.Lists.{padded}

module _ {A B : Type 0} where
  -- the entries in use of an array of rows
  pub in_use-long : (f : A → B) (rows : List A) (n : ℕ) → n ≤ length rows → length (map f (take n rows)) ≡ n
  in_use-long f rows zero h = refl
  in_use-long f [] (suc n) h = absurd (omega arith)
  in_use-long f (r ∷ rows) (suc n) h = ap suc (in_use-long f rows n (omega arith))

  pub in_use-at : (f : A → B) (rows : List A) (n i : ℕ) (d : B) (z : A) → i < n → n ≤ length rows → get_or (map f (take n rows)) i d ≡ f (get_or rows i z)
  in_use-at f rows zero i d z h k = absurd (omega arith)
  in_use-at f [] (suc n) i d z h k = absurd (omega arith)
  in_use-at f (r ∷ rows) (suc n) zero d z h k = refl
  in_use-at f (r ∷ rows) (suc n) (suc i) d z h k = in_use-at f rows n i d z (omega arith) (omega arith)

  pub in_use-on : (f : A → B) (rows : List A) (i : ℕ) (z : A) → i < length rows → map f (take (i + 1) rows) ≡ map f (take i rows) ++ f (get_or rows i z) ∷ []
  in_use-on f rows i z h = rw add-one (on rows i h)
    where
      on : (rows : List A) (i : ℕ) → i < length rows → map f (take (suc i) rows) ≡ map f (take i rows) ++ f (get_or rows i z) ∷ []
      on [] i h = absurd (omega arith)
      on (r ∷ rows) zero h = refl
      on (r ∷ rows) (suc i) h = ap (f r ∷◌) (on rows i (omega arith))

  -- an entry of a padded list
  pub padded-at : (row : A → B) (unused : B) (n : ℕ) (xs : List A) (i : ℕ) (d : A) (z : B) → i < length xs → length xs ≤ n →
      get_or (padded row unused n xs) i z ≡ row (get_or xs i d)
  unfolding padded
  padded-at row unused n [] i d z h k = absurd (omega arith)
  padded-at row unused zero (x ∷ xs) i d z h k = absurd (omega arith)
  padded-at row unused (suc n) (x ∷ xs) zero d z h k = refl
  padded-at row unused (suc n) (x ∷ xs) (suc i) d z h k = padded-at row unused n xs i d z (omega arith) (omega arith)

  -- one more behind them
  pub padded-more : (row : A → B) (unused : B) (n : ℕ) (xs : List A) (x : A) → length xs < n →
      set (padded row unused n xs) (length xs) (row x) ≡ padded row unused n (xs ++ x ∷ [])
  unfolding padded
  padded-more row unused zero xs x h = absurd (omega arith)
  padded-more row unused (suc n) [] x h = refl
  padded-more row unused (suc n) (y ∷ ys) x h = ap (row y ∷◌) (padded-more row unused n ys x (omega arith))

-- the front of what is padded
pub padded-front : (n : ℕ) (xs : List ℕ) → length xs ≤ n → take (length xs) (padded (λ (k : ℕ). k) 0 n xs) ≡ xs
unfolding padded
padded-front n [] h = refl
padded-front zero (x ∷ xs) h = absurd (omega arith)
padded-front (suc n) (x ∷ xs) h = ap (x ∷◌) (padded-front n xs (omega arith))
