-- What the code answers is what the list has next.
use Prim.Native.Nat.{ℕ, zero, suc, ◌+◌, ◌-◌, ◌≤◌, ◌<◌}
use native.Mathlib.Omega.{arith}
use native.Mathlib.Nat.{add-zero}
use mathlib.Core.Path.{◌≡◌, refl, sym, ap, ◌∙◌, subst}
use mathlib.Core.Bool.{Bool, true, false, false≢true}
use mathlib.Core.List.{List, [], ◌∷◌, ◌++◌}
use lib.Dec.{ltb}
use lib.ListN.{length, get_or, drop}
use lib.Seq.{drop-drop, get_or-drop}
use borrow.Author.Tests.{lt-ltb, le-ltb, eq-eqb, ne_eqb, ltb-false}
use Rattle.text.specs.Choice.{pick}
use Rattle.model.specs.Ranges.{Each}
use Rattle.model.specs.declared.Name.{Name}
use Rattle.sheet.specs.View.{View}
use Rattle.chains.specs.Vocabulary.{piece_count}
use Rattle.chains.specs.Listed.{most_pieces, zeros, Listed, Earlier, Before, shorter, as_long, Follows, Last, Starts, nothing, listed, chain, refused, Answered, next, none, not_listed}
use Rattle.chains.specs.Places.{step, may_end}
use Rattle.chains.specs.Way.{reached, least, last_raised, piece_at, built, longer_from, longer, raised, following, is_start, next_of}
use Rattle.chains.specs.declared.Chain.{Chain}
use Rattle.chains.specs.declared.place.Place.{Place}
use Rattle.chains.specs.declared.place.Place.TheVariants.{Start}
use Rattle.chains.proofs.TableLaws.{may_short, a_piece}
use Rattle.chains.proofs.OrderLaws.{Ends, may_along, fill, fill-ends, fill-length, fill-first, raise, Highest, Raises, RaisedAt, nowhere, somewhere, raised_at}
use Rattle.chains.proofs.GrammarComplete.{conditions-good}
use Rattle.chains.proofs.GrammarSound.{good_conditions}

-- the sequences of the list are those that lead from the start to an end
pub record Chained (v : List ℕ) : Type 0 where
  pub some : 1 ≤ length v
  pub few : length v ≤ most_pieces
  pub ends : Ends Start v

all-pieces : (s : Place) (v : List ℕ) → length v ≤ most_pieces → Ends s v → Each (λ q. q < piece_count) v
unfolding reached
all-pieces s [] few h = Each.none
all-pieces s (q ∷ v) few h =
    Each.more (a_piece s q (length v) (may_along (step s q) v (omega arith) h)) (all-pieces (step s q) v (omega arith) h)

pub chained-listed : {v : List ℕ} → Chained v → Listed v
chained-listed {v} c =
    record {
      some = c.some;
      few = c.few;
      pieces = all-pieces Start v c.few c.ends;
      accepted = λ view range ids. good_conditions v view range ids c.few c.ends;
    }

-- some sheet in some call, and some ranges
a-view : View
a-view = record { primary = 0; listed = λ a. false; rows = []; repeats = false; allows = λ i. true }

a-range : ℕ → Name
a-range i = record { start = 0; length = 0 }

pub listed-chained : {v : List ℕ} → Listed v → Chained v
unfolding a-view
listed-chained {v} l =
    record { some = l.some; few = l.few; ends = conditions-good v l.pieces a-view a-range (l.accepted a-view a-range (λ i. refl)).1 }

-- what is built: those of v, the piece that is raised, and the rest filled up
piece-behind : (v : List ℕ) (p low i : ℕ) (s : Place) (n : ℕ) → p < i → piece_at v p low i s n ≡ least s 0 n
unfolding piece_at
piece-behind v p low i s n h =
    let other : i ≡ p → ⊥ = λ e. omega arith in
    let past : p ≤ i = omega arith in
    rw (le-ltb i p past, ne_eqb i p other)

built-behind : (v : List ℕ) (p low i : ℕ) (s : Place) (n : ℕ) → p < i → built v p low i s n ≡ fill s n
unfolding built fill
built-behind v p low i s zero h = refl
built-behind v p low i s (suc n) h = rw (piece-behind v p low i s n h, built-behind v p low (i + 1) (step s (least s 0 n)) n (omega arith))

built-there : (v : List ℕ) (p low : ℕ) (s : Place) (n : ℕ) → built v p low p s (suc n) ≡ least s low n ∷ fill (step s (least s low n)) n
unfolding built piece_at
built-there v p low s n =
    let past : p ≤ p = omega arith in
    let behind : p < p + 1 = omega arith in
    rw (le-ltb p p past, eq-eqb p p refl, built-behind v p low (p + 1) (step s (least s low n)) n behind)

built-before : (v : List ℕ) (p low i : ℕ) (s : Place) (n : ℕ) → i < p →
    built v p low i s (suc n) ≡ get_or v i 0 ∷ built v p low (i + 1) (step s (get_or v i 0)) n
unfolding built piece_at
built-before v p low i s n h = rw (lt-ltb i p h)

head_of : (v : List ℕ) (i x : ℕ) (u : List ℕ) → drop i v ≡ x ∷ u → get_or v i 0 ≡ x
head_of v i x u e = rw (add-zero) at (sym (get_or-drop i v 0 0) ∙ ap (λ (l : List ℕ). get_or l 0 0) e)

tail_of : (v : List ℕ) (i x : ℕ) (u : List ℕ) → drop i v ≡ x ∷ u → drop (i + 1) v ≡ u
tail_of v i x u e = sym (drop-drop 1 i v) ∙ ap (drop 1) e

built-raise : (v u : List ℕ) (i p k : ℕ) (s : Place) → drop i v ≡ u → p ≡ i + k → k < length u →
    built v p (get_or v p 0 + 1) i s (length u) ≡ raise s u k
unfolding raise
built-raise v [] i p k s d e h = absurd (omega arith)
built-raise v (x ∷ u) i p zero s d e h =
    let here : i ≡ p = omega arith in
    let low : get_or v p 0 ≡ x = rw here at (head_of v i x u d) in
    rw (here, low, built-there v p (x + 1) s (length u))
built-raise v (x ∷ u) i p (suc k) s d e h =
    let before : i < p = omega arith in
    let step-on = built-raise v u (i + 1) p k (step s x) (tail_of v i x u d) (omega arith) (omega arith) in
    rw (built-before v p (get_or v p 0 + 1) i s (length u) before, head_of v i x u d, step-on)

-- the first of the shortest from n pieces on
pub data LongerOf (n : ℕ) (w : List ℕ) : Type 0 where
  no_longer : w ≡ [] → ((m : ℕ) → n ≤ m → may_end Start m ≡ true → ⊥) → LongerOf n w
  a_longer : (m : ℕ) → n ≤ m → may_end Start m ≡ true → w ≡ fill Start m → ((k : ℕ) → n ≤ k → k < m → may_end Start k ≡ true → ⊥) → LongerOf n w

built-first : (v : List ℕ) (n : ℕ) → built v 0 0 0 Start n ≡ fill Start n
unfolding built fill
built-first v zero = refl
built-first v (suc n) = built-there v 0 0 Start n

past_it : (n m : ℕ) → may_end Start n ≡ false → may_end Start m ≡ true → n ≤ m → n + 1 ≤ m
past_it n m e t l =
    let other : n ≡ m → ⊥ = λ f. false≢true (sym e ∙ (ap (may_end Start) f ∙ t)) in
    omega arith

longer-by : (v : List ℕ) (n : ℕ) (w : List ℕ) (b : Bool) → may_end Start n ≡ b → LongerOf (n + 1) w → LongerOf n (pick b (built v 0 0 0 Start n) w)
longer-by v n w true e l = a_longer n (omega arith) e (built-first v n) (λ k a b h. omega arith)
longer-by v n w false e (no_longer f h) = no_longer f (λ m l t. h m (past_it n m e t l) t)
longer-by v n w false e (a_longer m l t f h) = a_longer m (omega arith) t f (λ k a b s. h k (past_it n k e s a) b s)

longer-of : (v : List ℕ) (k n : ℕ) → most_pieces + 1 ≤ n + k → LongerOf n (longer_from v k n)
unfolding longer_from
longer-of v zero n h = no_longer refl (λ m l t. let short = may_short Start m t in omega arith)
longer-of v (suc k) n h = longer-by v n (longer_from v k (n + 1)) (may_end Start n) refl (longer-of v k (n + 1) (omega arith))

-- no pieces, or a sequence of the list
pub data Started : List ℕ → Type 0 where
  no_pieces : Started []
  a_chain : {v : List ℕ} → Chained v → Started v

started-short : {v : List ℕ} → Started v → length v ≤ most_pieces
started-short no_pieces = omega arith
started-short (a_chain c) = c.few

-- a sequence behind another is no shorter, and comes later if it is as long
not-shorter : {u w : List ℕ} → Before u w → length u ≤ length w
not-shorter (shorter l) = omega arith
not-shorter (as_long e h) = omega arith

as_long-later : {u w : List ℕ} → Before u w → length u ≡ length w → Earlier u w
as_long-later (shorter l) e = absurd (omega arith)
as_long-later (as_long f h) e = h

module _ (v : List ℕ) (start : Started v) where
  -- the first as long behind v is the next
  raised-follows : (w : List ℕ) → Raises Start v w → 1 ≤ length v → Follows v w
  raised-follows w h some =
      record {
        listed = chained-listed (record { some = let e = h.size in omega arith; few = let e = h.size in let l = started-short start in omega arith; ends = h.ends });
        later = as_long (sym h.size) h.later;
        none_between = λ u l a b.
            let c = listed-chained l in
            let size = h.size in
            let low = not-shorter a in
            let high = not-shorter b in
            h.first u (omega arith) c.ends (as_long-later a (omega arith)) (as_long-later b (omega arith));
      }

  -- where nothing as long comes behind v
  none-longer : Highest Start v → ((m : ℕ) → length v + 1 ≤ m → may_end Start m ≡ true → ⊥) → (u : List ℕ) → Listed u → Before v u → ⊥
  none-longer highest h u l (shorter s) = let c = listed-chained l in h (length u) (omega arith) (may_along Start u c.few c.ends)
  none-longer highest h u l (as_long e x) = highest u (sym e) (listed-chained l).ends x

  between : Highest Start v → (m : ℕ) → ((k : ℕ) → length v + 1 ≤ k → k < m → may_end Start k ≡ true → ⊥) → (u : List ℕ) → Listed u → Before v u →
      Before u (fill Start m) → ⊥
  between highest m h u l (as_long e x) b = highest u (sym e) (listed-chained l).ends x
  between highest m h u l (shorter s) (shorter b) =
      let c = listed-chained l in
      let size = fill-length Start m in
      h (length u) (omega arith) (omega arith) (may_along Start u c.few c.ends)
  between highest m h u l (shorter s) (as_long e x) =
      let c = listed-chained l in
      fill-first Start u c.few c.ends (subst (λ (k : ℕ). Earlier u (fill Start k)) (sym (e ∙ fill-length Start m)) x)

-- the next one of the list, or none
pub data Outcome (v w : List ℕ) : Type 0 where
  followed : Follows v w → Outcome v w
  ended : w ≡ [] → Last v → Outcome v w

longer-outcome : (v w : List ℕ) → Started v → Highest Start v → LongerOf (length v + 1) w → Outcome v w
longer-outcome v w start highest (no_longer e h) = ended e (record { none_later = none-longer v start highest h })
longer-outcome v w start highest (a_longer m l t e h) = subst (λ (x : List ℕ). Outcome v x) (sym e) (followed follows)
  where
    follows : Follows v (fill Start m)
    follows =
        let size = fill-length Start m in
        let short = may_short Start m t in
        record {
          listed = chained-listed (record { some = omega arith; few = omega arith; ends = fill-ends Start m t });
          later = shorter (omega arith);
          none_between = between v start highest m h;
        }

following-by : (v : List ℕ) → Started v → (p : ℕ) → RaisedAt Start v 0 (length v) p →
    Outcome v (pick (ltb p (length v)) (raised v p) (longer v (length v + 1)))
unfolding raised longer
following-by v start p (nowhere highest e) =
    let none : length v ≤ p = omega arith in
    let l = started-short start in
    rw (le-ltb p (length v) none) (longer-outcome v _ start highest (longer-of v (most_pieces + 1 - (length v + 1)) (length v + 1) (omega arith)))
following-by v start p (somewhere k l e h) =
    let some : p < length v = omega arith in
    rw (lt-ltb p (length v) some, built-raise v v 0 p k Start refl e l) (followed (raised-follows v start (raise Start v k) h (omega arith)))

pub following-outcome : (v : List ℕ) → Started v → Outcome v (following v)
unfolding following
following-outcome v start =
    let few = started-short start in
    following-by v start (last_raised Start v 0 (length v)) (raised_at Start v 0 (length v) few)

-- from where the list may be gone on with
second : (x y : Bool) → pick x false y ≡ true → (x ≡ false) × (y ≡ true)
second true y e = absurd (false≢true e)
second false y e = (refl, e)

pub started : (v : List ℕ) → is_start v ≡ true → Started v
unfolding is_start
started [] e = no_pieces
started (q ∷ v) e =
    let some : length (q ∷ v) ≡ 0 → ⊥ = λ z. omega arith in
    let h = second (ltb most_pieces (length (q ∷ v))) _ (rw (ne_eqb (length (q ∷ v)) 0 some) at e) in
    a_chain {v = q ∷ v} (record { some = omega arith; few = ltb-false _ _ h.0; ends = h.1 })

starts : {v : List ℕ} → Started v → Starts v
starts no_pieces = nothing
starts (a_chain c) = listed (chained-listed c)

chained-start : (v : List ℕ) → Chained v → is_start v ≡ true
unfolding is_start
chained-start v c =
    let some : length v ≡ 0 → ⊥ = λ z. let l = c.some in omega arith in
    rw (ne_eqb (length v) 0 some, le-ltb most_pieces (length v) c.few) c.ends

is_start_lem : {v : List ℕ} → Starts v → is_start v ≡ true
unfolding is_start
is_start_lem nothing = refl
is_start_lem (listed l) = chained-start _ (listed-chained l)

-- the answers of the call
pub start_short : {b : Bool} (v : List ℕ) → b ≡ is_start v → b ≡ true → length v ≤ most_pieces
start_short v e t = started-short (started v (sym e ∙ t))

pub outcome-answered : {v w : List ℕ} → Started v → Outcome v w → Answered v (chain w)
outcome-answered s (followed f) = next (starts s) f
outcome-answered {v} s (ended e l) = subst (λ (x : List ℕ). Answered v (chain x)) (sym e) (none (starts s) l)

answered : (v : List ℕ) (b : Bool) → is_start v ≡ b → Answered v (pick b (chain (following v)) refused)
answered v true e = let s = started v e in outcome-answered s (following-outcome v s)
answered v false e = not_listed (λ s. false≢true (sym e ∙ is_start_lem s))

pub next-answered : (v : List ℕ) → Answered v (next_of v)
unfolding next_of
next-answered v = answered v (is_start v) refl

pub answered_by : {r : Chain} (v : List ℕ) → r ≡ next_of v → Answered v r
answered_by v e = subst (λ (c : Chain). Answered v c) (sym e) (next-answered v)

-- for those who read an answer: the count is within the pieces, and each piece is one of the vocabulary
pub count_fits : {v : List ℕ} {c : Chain} → Answered v c → c.count ≤ most_pieces
unfolding chain refused
count_fits (next s f) = f.listed.few
count_fits (none s l) = omega arith
count_fits (not_listed n) = omega arith

zeros-fit : (n i : ℕ) → get_or (zeros n) i 0 < piece_count
zeros-fit zero i = omega arith
zeros-fit (suc n) zero = omega arith
zeros-fit (suc n) (suc i) = zeros-fit n i

pieces-fit : {w : List ℕ} → Each (λ q. q < piece_count) w → (n i : ℕ) → get_or (w ++ zeros n) i 0 < piece_count
pieces-fit Each.none n i = zeros-fit n i
pieces-fit (Each.more h e) n zero = h
pieces-fit (Each.more h e) n (suc i) = pieces-fit e n i

pub piece-fits : {v : List ℕ} {c : Chain} → Answered v c → (i : ℕ) → get_or c.pieces i 0 < piece_count
unfolding chain refused
piece-fits (next {w = w} s f) i = pieces-fit f.listed.pieces (most_pieces - length w) i
piece-fits (none s l) i = zeros-fit most_pieces i
piece-fits (not_listed n) i = zeros-fit most_pieces i
