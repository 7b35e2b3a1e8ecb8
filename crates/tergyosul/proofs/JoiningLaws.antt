-- The words of an answer of joining: six more are written in row 0.
use Prim.Native.Nat.{ℕ, ◌<◌, ◌≤◌}
use native.Mathlib.Omega.{arith}
use mathlib.Core.Path.{◌≡◌, refl}
use mathlib.Core.List.{List, [], ◌∷◌, ◌++◌}
use lib.ListN.{length, get_or, set}
use lib.Seq.{sets}
use borrow.Author.Tests.{lt-ltb, le-ltb}
use Rattle.flat.specs.Flat.{answer_words, flat}
use Rattle.join.specs.declared.Joined.{Joined}
use Rattle.tergyosul.specs.Joining.{conditions_from, origin_words, flat_joined}

pub unwritten : (e : List ℕ) (j : Joined) → length e < answer_words → e ≡ flat_joined e j
unfolding flat_joined
unwritten e j h = rw (lt-ltb _ _ h)

-- one word after the other, the middle four from a list of four
six : (w : List ℕ) (which last : ℕ) (from : List ℕ) → length from ≡ 4 →
    set (set (set (set (set (set w 6 which) 7 (get_or from 0 0)) 8 (get_or from 1 0)) 9 (get_or from 2 0)) 10 (get_or from 3 0)) 11 last ≡
    sets w 6 (which ∷ from ++ last ∷ [])
six w which last (a ∷ b ∷ c ∷ d ∷ []) h = refl
six w which last [] h = absurd (omega arith)
six w which last (a ∷ []) h = absurd (omega arith)
six w which last (a ∷ b ∷ []) h = absurd (omega arith)
six w which last (a ∷ b ∷ c ∷ []) h = absurd (omega arith)
six w which last (a ∷ b ∷ c ∷ d ∷ x ∷ xs) h = absurd (omega arith)

pub written : {a : List ℕ} {last : ℕ} (e : List ℕ) (j : Joined) → answer_words ≤ length e → length j.from ≡ 4 → a ≡ flat e j.answer → last ≡ conditions_from j →
    set (set (set (set (set (set a 6 j.which) 7 (get_or j.from 0 0)) 8 (get_or j.from 1 0)) 9 (get_or j.from 2 0)) 10 (get_or j.from 3 0)) 11 last ≡
    flat_joined e j
unfolding flat_joined origin_words
written e j room four d k = rw (d, k, le-ltb _ _ room) (six (flat e j.answer) j.which (conditions_from j) j.from four)
