-- The generator, run from no pieces, yields the whole list (specs/Whole.antt), and the list has 636 sequences.
use Prim.Native.Nat.{ℕ, zero, suc, ◌-◌, ◌≤◌, ◌<◌}
use native.Mathlib.Omega.{arith}
use native.Mathlib.Decide.{dec_lt}
use mathlib.Core.Path.{◌≡◌, refl, sym, ap, ◌∙◌, subst}
use mathlib.Core.List.{List, [], ◌∷◌}
use mathlib.Core.Logic.{◌⊎◌, inl, inr, ⊎_elim}
use lib.ListN.{length, take}
use lib.Seq.{take-append_seam}
use Rattle.chains.specs.Listed.{most_pieces, zeros, Listed, Earlier, less, same, Before, shorter, as_long, Follows, Last, chain, none_follows, refused, Answered, next, none, not_listed}
use Rattle.chains.specs.Whole.{Yields, stops, goes_on, Member, here, there, Ascending, Whole}
use Rattle.chains.specs.Places.{moved, may_end}
use Rattle.chains.specs.Way.{least_from, least, last_raised, piece_at, built, longer_from, longer, raised, following}
use Rattle.chains.specs.declared.Chain.{Chain}
use Rattle.chains.proofs.NextLaws.{Started, no_pieces, a_chain, listed-chained, Outcome, followed, ended, following-outcome, outcome-answered}

-- an answer has one sequence
sequence : Chain → List ℕ
sequence c = take c.count c.pieces

its_sequence : (w : List ℕ) → sequence (chain w) ≡ w
unfolding sequence chain
its_sequence w = take-append_seam w (zeros (most_pieces - length w))

follows_by : {v w : List ℕ} {c : Chain} → Answered v c → c ≡ chain w → 1 ≤ length w → Follows v w
unfolding chain refused
follows_by {v} {w} (next {w = u} s f) e some = subst (λ (x : List ℕ). Follows v x) (sym (its_sequence u) ∙ (ap sequence e ∙ its_sequence w)) f
follows_by (none s l) e some = absurd (let size = ap (λ (c : Chain). c.count) e in omega arith)
follows_by (not_listed n) e some = absurd (let number = ap (λ (c : Chain). c.number) e in omega arith)

last-by : {v : List ℕ} {c : Chain} → Answered v c → c ≡ none_follows → Last v
unfolding chain refused
last-by (next {w = u} s f) e = absurd (let size = ap (λ (c : Chain). c.count) e in let some = f.listed.some in omega arith)
last-by (none s l) e = l
last-by (not_listed n) e = absurd (let number = ap (λ (c : Chain). c.number) e in omega arith)

-- the order: of two sequences one is the first, or they are the same
earlier-trans : {a b c : List ℕ} → Earlier a b → Earlier b c → Earlier a c
earlier-trans (less {x = x} h) (less {y = z} k) = less {x = x} {y = z} (omega arith)
earlier-trans (less h) (same k) = less h
earlier-trans (same h) (less k) = less k
earlier-trans (same h) (same k) = same (earlier-trans h k)

before-trans : {a b c : List ℕ} → Before a b → Before b c → Before a c
before-trans (shorter h) (shorter k) = shorter (omega arith)
before-trans (shorter h) (as_long e k) = shorter (omega arith)
before-trans (as_long e h) (shorter k) = shorter (omega arith)
before-trans (as_long e h) (as_long f k) = as_long (e ∙ f) (earlier-trans h k)

-- the three ways in which two of them may stand
abbrev EitherWay : {A : Type 0} → (A → A → Type 0) → A → A → Type 0
EitherWay R a b = R a b ⊎ (a ≡ b) ⊎ R b a

number_by : (x y : ℕ) → Dec (x < y) → Dec (y < x) → EitherWay ◌<◌ x y
number_by x y (yes h) d = inl h
number_by x y (no h) (yes k) = inr (inr k)
number_by x y (no h) (no k) = inr (inl (omega arith))

numbers : (x y : ℕ) → EitherWay ◌<◌ x y
numbers x y = number_by x y (dec_lt x y) (dec_lt y x)

head-by : {x y : ℕ} {a b : List ℕ} → EitherWay ◌<◌ x y → EitherWay Earlier a b → EitherWay Earlier (x ∷ a) (y ∷ b)
head-by (inl h) r = inl (less h)
head-by (inr (inr h)) r = inr (inr (less h))
head-by {x} {y} {a} {b} (inr (inl e)) (inl h) = inl (subst (λ (k : ℕ). Earlier (x ∷ a) (k ∷ b)) e (same h))
head-by {x} {y} {a} {b} (inr (inl e)) (inr (inl f)) = inr (inl (rw (e, f)))
head-by {x} {y} {a} {b} (inr (inl e)) (inr (inr h)) = inr (inr (subst (λ (k : ℕ). Earlier (y ∷ b) (k ∷ a)) (sym e) (same h)))

as_long-way : (a b : List ℕ) → length a ≡ length b → EitherWay Earlier a b
as_long-way [] [] e = inr (inl refl)
as_long-way [] (y ∷ b) e = absurd (omega arith)
as_long-way (x ∷ a) [] e = absurd (omega arith)
as_long-way (x ∷ a) (y ∷ b) e = head-by (numbers x y) (as_long-way a b (omega arith))

before-by : {a b : List ℕ} → EitherWay ◌<◌ (length a) (length b) → (length a ≡ length b → EitherWay Earlier a b) → EitherWay Before a b
before-by (inl h) r = inl (shorter h)
before-by (inr (inr h)) r = inr (inr (shorter h))
before-by (inr (inl e)) r = ⊎_elim (λ h. inl (as_long e h)) (λ x. inr (⊎_elim inl (λ h. inr (as_long (sym e) h)) x)) (r e)

either_way : (a b : List ℕ) → EitherWay Before a b
either_way a b = before-by (numbers (length a) (length b)) (as_long-way a b)

-- what is yielded comes behind the start, in order, and is of the list
behind : {v u : List ℕ} {ws : List (List ℕ)} → Yields v ws → Member u ws → Before v u
behind (stops a) m = elim m [ ]
behind (goes_on a some y) here = (follows_by a refl some).later
behind (goes_on a some y) (there m) = before-trans (follows_by a refl some).later (behind y m)

in_order : {v : List ℕ} {ws : List (List ℕ)} → Yields v ws → Ascending ws
in_order (stops a) = Ascending.none
in_order (goes_on a some y) = Ascending.first (λ u m. behind y m) (in_order y)

yielded_listed : {v u : List ℕ} {ws : List (List ℕ)} → Yields v ws → Member u ws → Listed u
yielded_listed (stops a) m = elim m [ ]
yielded_listed (goes_on a some y) here = (follows_by a refl some).listed
yielded_listed (goes_on a some y) (there m) = yielded_listed y m

-- and nothing of the list is passed over
none_missing : {v u : List ℕ} {ws : List (List ℕ)} → Yields v ws → Listed u → Before v u → Member u ws
none_missing {u = u} (stops a) l b = absurd ((last-by a refl).none_later u l b)
none_missing {u = u} (goes_on {w = w} {ws = ws} a some y) l b =
    ⊎_elim (λ h. absurd ((follows_by a refl some).none_between u l b h))
    (λ x. ⊎_elim (λ e. subst (λ (z : List ℕ). Member u (z ∷ ws)) e here) (λ h. there (none_missing y l h)) x) (either_way u w)

pub whole : {ws : List (List ℕ)} → Yields [] ws → Whole ws
whole y =
    record {
      ascending = in_order y;
      all = λ v l. none_missing y l (shorter l.some);
      only = λ v m. yielded_listed y m;
    }

-- so many sequences follow v, if they are no more than n
counted : ℕ → List ℕ → ℕ
counted zero [] = 0
counted zero (q ∷ w) = 1
counted (suc n) [] = 0
counted (suc n) (q ∷ w) = suc (counted n (following (q ∷ w)))

its_answer : {w : List ℕ} (v : List ℕ) → Started v → following v ≡ w → Answered v (chain w)
its_answer v s e = subst (λ (x : List ℕ). Answered v (chain x)) e (outcome-answered s (following-outcome v s))

goes : {v w : List ℕ} → Outcome v w → 1 ≤ length w → Started w
goes (followed f) some = a_chain (listed-chained f.listed)
goes (ended e l) some = absurd (let size = ap length e in omega arith)

yields : (n : ℕ) (v : List ℕ) → Started v → (w : List ℕ) → following v ≡ w → counted n w ≤ n →
    (ws : List (List ℕ)) × Yields v ws × (length ws ≡ counted n w)
unfolding counted
yields zero v s [] e h = ([], stops (its_answer v s e), refl)
yields zero v s (q ∷ w) e h = absurd (omega arith)
yields (suc n) v s [] e h = ([], stops (its_answer v s e), refl)
yields (suc n) v s (q ∷ w) e h =
    let some : 1 ≤ length (q ∷ w) = omega arith in
    let s' = goes (subst (λ (x : List ℕ). Outcome v x) e (following-outcome v s)) some in
    let rest = yields n (q ∷ w) s' (following (q ∷ w)) refl (omega arith) in
    ((q ∷ w) ∷ rest.0, goes_on (its_answer v s e) some rest.1, ap suc rest.2)

computed : counted 636 (following []) ≡ 636
unfolding counted following raised longer longer_from built piece_at last_raised least least_from may_end moved
computed = refl

-- "Each stands in the list exactly once and nothing else does": what is yielded from no pieces on, 636 sequences
pub list : (ws : List (List ℕ)) × Yields [] ws × Whole ws × (length ws ≡ 636)
list =
    let few : counted 636 (following []) ≤ 636 = omega (arith, computed) in
    let y = yields 636 [] no_pieces (following []) refl few in
    (y.0, y.1, whole y.1, y.2 ∙ computed)
