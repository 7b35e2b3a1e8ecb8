-- A sequence of pieces that leads from the start to an end is one that the grammar reads as conditions joined by `and`, whatever the sheet.
use Prim.Native.Nat.{ℕ, zero, suc, ◌+◌, ◌*◌, ◌≤◌}
use native.Mathlib.Omega.{arith}
use native.Mathlib.Numerals.{add-one}
use mathlib.Core.Path.{◌≡◌, refl, sym, ap, ◌∙◌, subst}
use mathlib.Core.Bool.{true, false, false≢true}
use mathlib.Core.List.{List, [], ◌∷◌}
use mathlib.Core.Logic.{◌⊎◌, inl, inr, ⊎_elim}
use lib.Dec.{ltb}
use lib.ListN.{length, get_or, drop, length-drop}
use lib.Seq.{drop-nil}
use borrow.Author.Tests.{ltb-true}
use Rattle.text.specs.Literal.{ascii}
use Rattle.text.specs.Split.{split}
use Rattle.tokens.specs.Kind.{WORD, INTEGER, EQ, POINT as POINT-KIND}
use Rattle.tokens.specs.Cursor.{Tok}
use Rattle.tokens.specs.Phrase.{words_in}
use Rattle.tokens.specs.Grammar.{Token, token, Word, a_word, Words, phrase, EitherWord, the_first, the_second}
use Rattle.model.specs.Limits.{last_short_address}
use Rattle.model.specs.declared.Name.{Name}
use Rattle.model.specs.declared.Ref.{Ref}
use Rattle.model.specs.declared.Reading.{Reading}
use Rattle.model.specs.declared.Value.{Value}
use Rattle.model.specs.declared.TimeBound.{TimeBound}
use Rattle.model.specs.declared.Condition.{Condition}
use Rattle.sheet.specs.View.{View}
use Rattle.references.specs.Grammar.{id, no_clause, on_primary, inside, r, Lamp}
use Rattle.language.specs.grammar.Words.{plus, minus}
use Rattle.language.specs.grammar.Timeval.{Bound, solar}
use Rattle.language.specs.grammar.Expr.{LampPropertyOf, ReadingOf, ValueOf, number, signed_number, reading, reading_with}
use Rattle.language.specs.grammar.Condition.{Compared, ConditionOf}
use Rattle.language.specs.grammar.Text.{Repeated, ConditionsOf}
use Rattle.chains.specs.Vocabulary.{piece_count, chain_tokens}
use Rattle.chains.specs.Listed.{most_pieces}
use Rattle.chains.specs.Pieces.{LAMP, SUN, TIME, IS, IN, ON, OFF, UP, DOWN, SUNRISE, SUNSET, LEVEL, AND, ZERO, SIXTY_THREE, SIXTY_FOUR, OPEN, CLOSE, POINT, POINTS, EQUAL, PLUS, MINUS}
use Rattle.chains.specs.Places.{Move, moves, moved, may_end}
use Rattle.chains.specs.Way.{reached}
use Rattle.chains.specs.declared.place.Place.{Place}
use Rattle.chains.specs.declared.place.Place.TheVariants.{Start, Sun, Time, LampClosed, Sign, Read, ReadLevel, End, Nowhere}
use Rattle.chains.proofs.TableLaws.{nowhere-ends, Among, among}
use Rattle.chains.proofs.VocabularyLaws.{piece_tokens, no_token, lexed}
use Rattle.chains.proofs.OrderLaws.{Ends}
use Rattle.chains.proofs.GrammarComplete.{At, Good, at-within}

-- at the end, or at a piece
split_at : (v : List ℕ) (i : ℕ) → (drop i v ≡ []) ⊎ ((q : ℕ) × At v i q)
unfolding chain_tokens
split_at [] i = inl (drop-nil i)
split_at (q ∷ v) zero = inr (q, record { left = refl; is = refl })
split_at (q ∷ v) (suc i) = ⊎_elim inl (λ a. inr (a.0, record { left = a.1.left; is = a.1.is })) (split_at v i)

reached-nowhere : (u : List ℕ) → reached Nowhere u ≡ Nowhere
unfolding reached moved
reached-nowhere [] = refl
reached-nowhere (q ∷ u) = reached-nowhere u

nowhere-good : {v : List ℕ} {i : ℕ} → Good v i Nowhere → ⊥
nowhere-good {v} {i} g = nowhere-ends 0 (rw reached-nowhere at g.ends)

-- what stands next: nothing, at a place that may end, or a piece that may stand there
data Next (v : List ℕ) (i : ℕ) (s : Place) : Type 0 where
  over : i ≡ length v → may_end s 0 ≡ true → Next v i s
  piece : (q : ℕ) → At v i q → Among (Good v (i + 1)) nowhere-good (moves s) q → Next v i s

ended : (v : List ℕ) (i : ℕ) → i ≤ length v → drop i v ≡ [] → i ≡ length v
ended v i l e = let size = sym (length-drop i v) ∙ ap length e in omega arith

next_of : {v : List ℕ} {i : ℕ} {s : Place} → Good v i s → Next v i s
unfolding reached
next_of {v} {i} {s} g =
    ⊎_elim (λ e. over (ended v i g.within e) (rw e at g.ends))
    (λ a.
    piece a.0 a.1
    (among (Good v (i + 1)) nowhere-good (moves s) a.0 (record { within = let l = at-within a.1 in omega arith; ends = rw add-one (rw a.1.left at g.ends) })))
    (split_at v i)

known : {v : List ℕ} {i q k : ℕ} → q ≡ k → At v i q → At v i k
known {v} {i} e a = subst (λ (n : ℕ). At v i n) e a

module _ {v : List ℕ} {i : ℕ} {s p : Place} where
  -- one piece, or one of two, and the place behind it
  one_of : (k : ℕ) → moves s ≡ record { piece = k; to = p } ∷ [] → may_end s 0 ≡ false → Good v i s → At v i k × Good v (i + 1) p
  one_of k e f g = by (next_of g)
    where
      by : Next v i s → At v i k × Good v (i + 1) p
      by (over d m) = absurd (false≢true (sym f ∙ m))
      by (piece q a m) =
          ⊎_elim (λ h. (known h.0 a, h.1)) (λ h. absurd h)
          (subst (λ (ms : List Move). Among (Good v (i + 1)) nowhere-good ms q) e m)

  two-of : (k l : ℕ) → moves s ≡ record { piece = k; to = p } ∷ record { piece = l; to = p } ∷ [] → may_end s 0 ≡ false → Good v i s →
      (At v i k ⊎ At v i l) × Good v (i + 1) p
  two-of k l e f g = by (next_of g)
    where
      by : Next v i s → (At v i k ⊎ At v i l) × Good v (i + 1) p
      by (over d m) = absurd (false≢true (sym f ∙ m))
      by (piece q a m) =
          ⊎_elim (λ h. (inl (known h.0 a), h.1))
          (λ x. ⊎_elim (λ h. (inr (known h.0 a), h.1)) (λ h. absurd h) x)
          (subst (λ (ms : List Move). Among (Good v (i + 1)) nowhere-good ms q) e m)

-- the token of a piece
module _ {v : List ℕ} {i : ℕ} (k : ℕ) (small : ltb k piece_count ≡ true) where
  its_token : At v i k → chain_tokens v i ≡ get_or piece_tokens k no_token
  its_token a = a.is ∙ lexed k (ltb-true k piece_count small)

  word_of : {w : List ℕ} → (get_or piece_tokens k no_token).kind ≡ WORD → (get_or piece_tokens k no_token).bytes ≡ w → At v i k → Word (chain_tokens v) w i (i + 1)
  word_of e f a = a_word (ap (λ (t : Tok). t.kind) (its_token a) ∙ e) (ap (λ (t : Tok). t.bytes) (its_token a) ∙ f)

  kind_of_lem : {kind : ℕ} → (get_or piece_tokens k no_token).kind ≡ kind → At v i k → Token (chain_tokens v) kind i (chain_tokens v i).number (i + 1)
  kind_of_lem e a = token (ap (λ (t : Tok). t.kind) (its_token a) ∙ e)

  number_of : {n : ℕ} → (get_or piece_tokens k no_token).number ≡ n → At v i k → (chain_tokens v i).number ≡ n
  number_of e a = ap (λ (t : Tok). t.number) (its_token a) ∙ e

-- behind a condition: the end, or `and` and one more
data Rest (v : List ℕ) (i : ℕ) : Type 0 where
  at_end_rule : i ≡ length v → Rest v i
  and_more : At v i AND → Good v (i + 1) Start → Rest v i

end_rest : {v : List ℕ} {i : ℕ} → Good v i End → Rest v i
end_rest {v} {i} g = by (next_of g)
  where
    by : Next v i End → Rest v i
    by (over e m) = at_end_rule e
    by (piece q a (inl (e, h))) = and_more (known e a) h
    by (piece q a (inr x)) = elim x [ ]

module _ (v : List ℕ) where
  -- 0, 63 or 64
  integer : {i : ℕ} → Good v i Sign → Token (chain_tokens v) INTEGER i (chain_tokens v i).number (i + 1) × Rest v (i + 1)
  unfolding may_end
  integer {i} g = by (next_of g)
    where
      by : Next v i Sign → Token (chain_tokens v) INTEGER i (chain_tokens v i).number (i + 1) × Rest v (i + 1)
      by (over e m) = absurd (false≢true m)
      by (piece q a (inl (e, h))) = (kind_of_lem ZERO refl refl (known e a), end_rest h)
      by (piece q a (inr (inl (e, h)))) = (kind_of_lem SIXTY_THREE refl refl (known e a), end_rest h)
      by (piece q a (inr (inr (inl (e, h))))) = (kind_of_lem SIXTY_FOUR refl refl (known e a), end_rest h)
      by (piece q a (inr (inr (inr x)))) = elim x [ ]

  -- one of two words
  either-of : {A : Type 0} {x y : A} {first second : List ℕ} {i : ℕ} (k l : ℕ) → ltb k piece_count ≡ true → (get_or piece_tokens k no_token).kind ≡ WORD →
      (get_or piece_tokens k no_token).bytes ≡ first → ltb l piece_count ≡ true → (get_or piece_tokens l no_token).kind ≡ WORD →
      (get_or piece_tokens l no_token).bytes ≡ second → (At v i k ⊎ At v i l) →
      (z : A) × EitherWord (chain_tokens v) first x second y i z (i + 1)
  either-of {x = x} k l a b c d e f (inl h) = (x, the_first (word_of k a b c h))
  either-of {y = y} k l a b c d e f (inr h) = (y, the_second (word_of l d e f h))

  bound_of : {i : ℕ} → (At v i SUNRISE ⊎ At v i SUNSET) → (b : TimeBound) × Bound (chain_tokens v) i b (i + 1)
  bound_of h = let e = either-of SUNRISE SUNSET refl refl refl refl refl refl h in (_, solar e.1)

  short : {i : ℕ} → (At v i ZERO ⊎ At v i SIXTY_THREE) →
      Token (chain_tokens v) INTEGER i (chain_tokens v i).number (i + 1) × ((chain_tokens v i).number ≤ last_short_address)
  unfolding last_short_address
  short (inl h) = let e = number_of ZERO refl refl h in (kind_of_lem ZERO refl refl h, omega arith)
  short (inr h) = let e = number_of SIXTY_THREE refl refl h in (kind_of_lem SIXTY_THREE refl refl h, omega arith)

  module _ (view : View) (range : ℕ → Name) (ids : (i : ℕ) → view.allows i ≡ true) where
    lamp-of : {a b c d : Place} {i : ℕ} → moves a ≡ record { piece = OPEN; to = b } ∷ [] → may_end a 0 ≡ false →
        moves b ≡ record { piece = ZERO; to = c } ∷ record { piece = SIXTY_THREE; to = c } ∷ [] → may_end b 0 ≡ false →
        moves c ≡ record { piece = CLOSE; to = d } ∷ [] → may_end c 0 ≡ false → Good v i a →
        (ref : Ref) × Lamp (chain_tokens v) view i ref (i + 1 + 1 + 1) × Good v (i + 1 + 1 + 1) d
    lamp-of {i = i} ma ea mb eb mc ec g =
        let left = one_of OPEN ma ea g in
        let number = two-of ZERO SIXTY_THREE mb eb left.1 in
        let right = one_of CLOSE mc ec number.1 in
        let n = short number.0 in (
          _,
          r (kind_of_lem OPEN refl refl left.0) (inside (id n.0 (ids (i + 1))) no_clause (kind_of_lem CLOSE refl refl right.0) (on_primary n.1)),
          right.1,
        )

    -- a value, and what stands behind it
    data ReadValue (i : ℕ) : Type 0 where
      read_value_rule : {x : Value} {j : ℕ} → ValueOf (chain_tokens v) view range i x j → i + 1 ≤ j → Rest v j → ReadValue i

    -- a lamp's level, and perhaps a sign and a number behind it
    level_of : {i : ℕ} → At v i LAMP → Good v (i + 1) Read → ReadValue i
    unfolding may_end
    level_of {i} lamp g =
        let ref = lamp-of refl refl refl refl refl refl g in
        let dot = one_of POINT refl refl ref.2 in
        let level = one_of LEVEL refl refl dot.1 in
        by
        (ReadingOf.of_lamp (word_of LAMP refl refl refl lamp) ref.1 (kind_of_lem POINT refl refl dot.0)
        (LampPropertyOf.level (word_of LEVEL refl refl refl level.0)))
        (omega arith) (next_of level.1)
      where
        by : {x : Reading} {j : ℕ} → ReadingOf (chain_tokens v) view range i x j → i + 1 ≤ j → Next v j ReadLevel → ReadValue i
        by x long (over e m) = read_value_rule (reading x) long (at_end_rule e)
        by x long (piece q a (inl (e, h))) = read_value_rule (reading x) long (and_more (known e a) h)
        by x long (piece q a (inr (inl (e, h)))) =
            let n = integer h in read_value_rule (reading_with x (plus (kind_of_lem PLUS refl refl (known e a)) n.0)) (omega arith) n.1
        by x long (piece q a (inr (inr (inl (e, h))))) =
            let n = integer h in read_value_rule (reading_with x (minus (kind_of_lem MINUS refl refl (known e a)) n.0)) (omega arith) n.1
        by x long (piece q a (inr (inr (inr y)))) = elim y [ ]

    value_of : {i : ℕ} → Good v i Place.Compared → ReadValue i
    unfolding may_end
    value_of {i} g = by (next_of g)
      where
        by : Next v i Place.Compared → ReadValue i
        by (over e m) = absurd (false≢true m)
        by (piece q a (inl (e, h))) = level_of (known e a) h
        by (piece q a (inr (inl (e, h)))) = read_value_rule (number (kind_of_lem ZERO refl refl (known e a))) (omega arith) (end_rest h)
        by (piece q a (inr (inr (inl (e, h))))) = read_value_rule (number (kind_of_lem SIXTY_THREE refl refl (known e a))) (omega arith) (end_rest h)
        by (piece q a (inr (inr (inr (inl (e, h)))))) = read_value_rule (number (kind_of_lem SIXTY_FOUR refl refl (known e a))) (omega arith) (end_rest h)
        by (piece q a (inr (inr (inr (inr (inl (e, h))))))) =
            let n = integer h in read_value_rule (signed_number (plus (kind_of_lem PLUS refl refl (known e a)) n.0)) (omega arith) n.1
        by (piece q a (inr (inr (inr (inr (inr (inl (e, h)))))))) =
            let n = integer h in read_value_rule (signed_number (minus (kind_of_lem MINUS refl refl (known e a)) n.0)) (omega arith) n.1
        by (piece q a (inr (inr (inr (inr (inr (inr x))))))) = elim x [ ]

    -- a condition has three tokens at least
    data ReadOne (i : ℕ) : Type 0 where
      read_one : {x : Condition} {j : ℕ} → ConditionOf (chain_tokens v) view range i x j → i + 3 ≤ j → Rest v j → ReadOne i

    sun_of_rule : {i : ℕ} → At v i SUN → Good v (i + 1) Sun → ReadOne i
    unfolding may_end words_in split
    sun_of_rule sun g =
        let is = one_of IS refl refl g in
        let state = two-of UP DOWN refl refl is.1 in
        let s = either-of UP DOWN refl refl refl refl refl refl state.0 in
        read_one (ConditionOf.sun_is (word_of SUN refl refl refl sun) (phrase (Words.next (word_of IS refl refl refl is.0) Words.none)) s.1)
        (omega arith) (end_rest state.1)

    time_of : {i : ℕ} → At v i TIME → Good v (i + 1) Time → ReadOne i
    unfolding may_end
    time_of time g =
        let within = one_of IN refl refl g in
        let from = two-of SUNRISE SUNSET refl refl within.1 in
        let dots = one_of POINTS refl refl from.1 in
        let to = two-of SUNRISE SUNSET refl refl dots.1 in
        read_one
        (ConditionOf.time_in (word_of TIME refl refl refl time) (word_of IN refl refl refl within.0) (bound_of from.0).1
        (kind_of_lem POINTS refl refl dots.0) (bound_of to.0).1)
        (omega arith) (end_rest to.1)

    compared_of : {i j k a l m b n : ℕ} {ref : Ref} → Word (chain_tokens v) (ascii "lamp") i j → Lamp (chain_tokens v) view j ref k →
        Token (chain_tokens v) POINT-KIND k a l → Word (chain_tokens v) (ascii "level") l m → Token (chain_tokens v) EQ m b n → i + 3 ≤ n → ReadValue n → ReadOne i
    compared_of w h dot level equal long (read_value_rule x more rest) =
        read_one (ConditionOf.lamp_compare w h dot (the_first level) (Compared.eq equal) x) (omega arith) rest

    lamp_is_of : {i : ℕ} → At v i LAMP → Good v (i + 1) Place.Lamp → ReadOne i
    unfolding may_end
    lamp_is_of {i} lamp g =
        let ref = lamp-of refl refl refl refl refl refl g in
        by (word_of LAMP refl refl refl lamp) ref.1 (omega arith) (next_of ref.2)
      where
        by : {j k : ℕ} {ref : Ref} → Word (chain_tokens v) (ascii "lamp") i j → Lamp (chain_tokens v) view j ref k → i + 3 ≤ k → Next v k LampClosed → ReadOne i
        by w h long (over e m) = absurd (false≢true m)
        by w h long (piece q a (inl (e, g))) =
            let power = two-of ON OFF refl refl g in
            let p = either-of ON OFF refl refl refl refl refl refl power.0 in
            read_one (ConditionOf.lamp_is w h (word_of IS refl refl refl (known e a)) p.1) (omega arith) (end_rest power.1)
        by w h long (piece q a (inr (inl (e, g)))) =
            let level = one_of LEVEL refl refl g in
            let equal = one_of EQUAL refl refl level.1 in
            compared_of w h (kind_of_lem POINT refl refl (known e a)) (word_of LEVEL refl refl refl level.0) (kind_of_lem EQUAL refl refl equal.0)
            (omega arith) (value_of equal.1)
        by w h long (piece q a (inr (inr x))) = elim x [ ]

    one_condition : {i : ℕ} → Good v i Start → ReadOne i
    unfolding may_end
    one_condition {i} g = by (next_of g)
      where
        by : Next v i Start → ReadOne i
        by (over e m) = absurd (false≢true m)
        by (piece q a (inl (e, h))) = lamp_is_of (known e a) h
        by (piece q a (inr (inl (e, h)))) = sun_of_rule (known e a) h
        by (piece q a (inr (inr (inl (e, h))))) = time_of (known e a) h
        by (piece q a (inr (inr (inr x)))) = elim x [ ]

    -- and those behind it; each has three tokens and one before it
    record ReadMore (i : ℕ) : Type 0 where
      conditions : List Condition
      reads : Repeated (chain_tokens v) (ascii "and") (ConditionOf (chain_tokens v) view range) i conditions (length v)
      long : i + length conditions * 4 ≤ length v

    join_more : {i : ℕ} → At v i AND → ReadOne (i + 1) → ((j : ℕ) → i + 4 ≤ j → Rest v j → ReadMore j) → ReadMore i
    join_more a (read_one {x = x} {j = j} h long rest) f =
        let m = f j (omega arith) rest in
        record {
          conditions = x ∷ m.conditions;
          reads = Repeated.more (word_of AND refl refl refl a) h m.reads;
          long = let l = m.long in omega arith;
        }

    no_more : {i : ℕ} → i ≡ length v → ReadMore i
    no_more {i} e =
        record {
          conditions = [];
          reads = subst (λ (k : ℕ). Repeated (chain_tokens v) (ascii "and") (ConditionOf (chain_tokens v) view range) i [] k) e Repeated.end;
          long = omega arith;
        }

    more_conditions : (n i : ℕ) → length v ≤ i + n → Rest v i → ReadMore i
    more_conditions zero i m (at_end_rule e) = no_more e
    more_conditions zero i m (and_more a g) = absurd (let l = at-within a in omega arith)
    more_conditions (suc n) i m (at_end_rule e) = no_more e
    more_conditions (suc n) i m (and_more a g) = join_more a (one_condition g) (λ j l rest. more_conditions n j (omega arith) rest)

    all_conditions : length v ≤ most_pieces → ReadOne 0 → (ys : List Condition) × ConditionsOf (chain_tokens v) view range 0 ys (length v)
    all_conditions few (read_one {j = j} x long rest) =
        let m = more_conditions (length v) j (omega arith) rest in
        (_, ConditionsOf.joined x m.reads (let l = m.long in omega arith))

    pub good_conditions : length v ≤ most_pieces → Ends Start v → (ys : List Condition) × ConditionsOf (chain_tokens v) view range 0 ys (length v)
    good_conditions few e = all_conditions few (one_condition (record { within = omega arith; ends = e }))
