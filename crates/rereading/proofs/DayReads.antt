-- Day sets as they are written, singly from mon, and what stands behind `at`, are read as themselves.
use Prim.Native.Nat.{ℕ, ◌≤◌, ◌<◌, ◌^◌}
use native.Mathlib.Omega.{arith}
use mathlib.Core.Path.{◌≡◌, refl, sym, ap, subst}
use mathlib.Core.Bool.{Bool, true, false}
use mathlib.Core.List.{List, [], ◌∷◌, ◌++◌}
use lib.Dec.{leb, eqb, eqb→eq}
use borrow.Author.Tests.{leb-true, ltb-true, eqb-true}
use Rattle.text.specs.Choice.{pick}
use Rattle.text.specs.Literal.{ascii}
use Rattle.text.specs.Bits.{bits_from}
use Rattle.text.proofs.Tests.{both}
use Rattle.text.proofs.Computed.{below}
use Rattle.tokens.specs.Cursor.{Tok}
use Rattle.tokens.specs.Grammar.{Word}
use Rattle.model.specs.Limits.{week_days}
use Rattle.model.specs.declared.Days.{Days}
use Rattle.days.specs.Days.{forward, is_between, Range, is_in_any, days_of, has_day, every_day}
use Rattle.days.specs.Grammar.{Day, mon, tue, wed, thu, fri, sat, sun, day, Ranges, one, more, DaySet, day_set_rule, OnDays, without, on}
use Rattle.writing.specs.Pieces.{Piece}
use Rattle.writing.specs.Write.{day_if_in, commas, days_pieces, on_pieces}
use Rattle.writing.specs.Possible.{possible_days}
use Rattle.rereading.proofs.Stands.{token_of, Stands}
use Rattle.rereading.proofs.StandsLaws.{head, rest, token-read, word_read}

-- the days of a set, each a range by itself
day_range : Days → ℕ → List Range
day_range days d = pick (has_day days d) (record { from = d; to = d } ∷ []) []

day_ranges : Days → List Range
day_ranges days =
    day_range days 0 ++ day_range days 1 ++ day_range days 2 ++ day_range days 3 ++ day_range days 4 ++ day_range days 5 ++ day_range days 6

-- they make the set: computed for every sum
ranges-sum : (n : ℕ) → n < 2 ^ week_days → (days_of (is_in_any (day_ranges (record { sum = n })))).sum ≡ n
unfolding day_ranges day_range days_of is_in_any is_between forward has_day bits_from
ranges-sum n h = eqb→eq _ _ (below (λ k. eqb (days_of (is_in_any (day_ranges (record { sum = k })))).sum k) (2 ^ week_days) tt n h)

-- words that are these days
data Named (t : ℕ → Tok) : List Piece → List Range → Type 0 where
  no_day_rule : Named t [] []
  a_day : {w : List ℕ} {d : ℕ} {ps : List Piece} {rs : List Range} → ((i j : ℕ) → Word t w i j → Day t i d j) → Named t ps rs →
      Named t (Piece.word w ∷ ps) (record { from = d; to = d } ∷ rs)

module _ {t : ℕ → Tok} where
  joined : {ps qs : List Piece} {rs ss : List Range} → Named t ps rs → Named t qs ss → Named t (ps ++ qs) (rs ++ ss)
  joined no_day_rule h = h
  joined (a_day w g) h = a_day w (joined g h)

  named-day : (days : Days) (d : ℕ) (w : List ℕ) → ((i j : ℕ) → Word t w i j → Day t i d j) → Named t (day_if_in days d w) (day_range days d)
  unfolding day_if_in day_range
  named-day days d w read = by (has_day days d)
    where
      by : (b : Bool) → Named t (pick b (Piece.word w ∷ []) []) (pick b (record { from = d; to = d } ∷ []) [])
      by true = a_day read no_day_rule
      by false = no_day_rule

  named-read : {p : Piece} {ps : List Piece} {rs : List Range} {i j : ℕ} → Named t (p ∷ ps) rs → Stands t i (commas (p ∷ ps)) j → Ranges t i rs j
  unfolding commas token_of
  named-read (a_day w no_day_rule) s = one (day (w _ _ (word_read s)))
  named-read (a_day w (a_day v h)) s =
      more (day (w _ _ (word_read (head s)))) (token-read (head (rest s))) (named-read (a_day v h) (rest (rest s)))

  set-read : (days : Days) {ps : List Piece} {rs : List Range} {i j : ℕ} → Named t ps rs → days_of (is_in_any rs) ≡ days → 1 ≤ days.sum →
      Stands t i (commas ps) j → DaySet t i days j
  unfolding days_of is_in_any bits_from
  set-read days no_day_rule e some s = let none = ap (λ (x : Days). x.sum) e in absurd (omega arith)
  set-read days {i = i} {j = j} (a_day w h) e some s = subst (λ (x : Days). DaySet t i x j) e (day_set_rule (named-read (a_day w h) s))

  pub days-read : (days : Days) {i j : ℕ} → possible_days days ≡ true → Stands t i (days_pieces days) j → DaySet t i days j
  unfolding possible_days days_pieces day_ranges
  days-read days possible s =
      let (some, few) = both (leb 1 days.sum) possible in
      let named =
      joined (joined (joined (joined (joined (joined
      (named-day days 0 (ascii "mon") (λ i j w. mon w))
      (named-day days 1 (ascii "tue") (λ i j w. tue w)))
      (named-day days 2 (ascii "wed") (λ i j w. wed w)))
      (named-day days 3 (ascii "thu") (λ i j w. thu w)))
      (named-day days 4 (ascii "fri") (λ i j w. fri w)))
      (named-day days 5 (ascii "sat") (λ i j w. sat w)))
      (named-day days 6 (ascii "sun") (λ i j w. sun w)) in
      set-read days named (ap (λ (n : ℕ). record { sum = n }) (ranges-sum days.sum (ltb-true _ _ few))) (leb-true 1 days.sum some) s

  -- "and `on` only if fewer than seven"
  pub on_read : (days : Days) {i j : ℕ} → possible_days days ≡ true → Stands t i (on_pieces days) j → OnDays t i days j
  unfolding on_pieces
  on_read days {i} possible s = by (eqb days.sum every_day.sum) refl s
    where
      by : (b : Bool) {j : ℕ} → eqb days.sum every_day.sum ≡ b → Stands t i (pick b [] (Piece.word (ascii "on") ∷ days_pieces days)) j →
          OnDays t i days j
      by true all Stands.none =
          let e : days.sum ≡ every_day.sum = eqb-true _ _ all in
          subst (λ (n : ℕ). OnDays t i (record { sum = n }) i) (sym e) without
      by false few s = on (word_read (head s)) (days-read days possible (rest s))
