-- A sequence of pieces that the grammar reads as conditions joined by `and` leads from the start to an end.
use Prim.Native.Nat.{ℕ, zero, suc, ◌+◌, ◌≤◌, ◌<◌}
use native.Mathlib.Omega.{arith}
use native.Mathlib.Numerals.{add-one}
use mathlib.Core.Path.{◌≡◌, refl, sym, ap, ◌∙◌}
use mathlib.Core.Bool.{Bool, true, false, false≢true}
use mathlib.Core.List.{List, [], ◌∷◌}
use lib.Dec.{eqb}
use lib.IntN.{ℤ}
use lib.ListN.{length, drop, length-drop}
use lib.Seq.{drop-length}
use borrow.Author.Tests.{eqb-true, eqb-false, eq-eqb, le-leb}
use Rattle.text.specs.Choice.{pick}
use Rattle.text.specs.Literal.{ascii}
use Rattle.text.specs.Part.{same_bytes}
use Rattle.text.specs.Split.{split}
use Rattle.text.proofs.PartLaws.{same_refl}
use Rattle.tokens.specs.Kind.{WORD, INTEGER}
use Rattle.tokens.specs.Cursor.{Tok}
use Rattle.tokens.specs.Phrase.{words_in}
use Rattle.tokens.specs.Grammar.{Token, token, Word, a_word, Words, phrase, the_first, the_second}
use Rattle.model.specs.Limits.{last_short_address}
use Rattle.model.specs.Ranges.{Each}
use Rattle.model.specs.declared.Name.{Name}
use Rattle.model.specs.declared.Ref.{Ref}
use Rattle.model.specs.declared.Value.{Value}
use Rattle.model.specs.declared.Reading.{Reading}
use Rattle.model.specs.declared.Comparison.{Comparison}
use Rattle.model.specs.declared.TimeBound.{TimeBound}
use Rattle.model.specs.declared.Condition.{Condition}
use Rattle.sheet.specs.View.{View}
use Rattle.references.specs.Grammar.{quoted, name, id, no_clause, clause, on_primary, inside, r, Lamp}
use Rattle.language.specs.grammar.Words.{Signed, plus, minus}
use Rattle.language.specs.grammar.Timeval.{Bound, clock, solar, later, earlier}
use Rattle.language.specs.grammar.Expr.{LampPropertyOf, TimeProperty, SunProperty, ReadingOf, ValueOf, number, signed_number, reading, reading_with}
use Rattle.language.specs.grammar.Condition.{Compared, ConditionOf}
use Rattle.language.specs.grammar.Text.{Repeated, ConditionsOf}
use Rattle.chains.specs.Vocabulary.{piece_count, piece_token, chain_tokens}
use Rattle.chains.specs.Pieces.{LAMP, SUN, TIME, IS, IN, ON, OFF, UP, DOWN, SUNRISE, SUNSET, LEVEL, AND, ZERO, SIXTY_THREE, SIXTY_FOUR, OPEN, CLOSE, POINT, POINTS, EQUAL, PLUS, MINUS}
use Rattle.chains.specs.Places.{moved, step, may_end}
use Rattle.chains.specs.Way.{reached}
use Rattle.chains.specs.declared.place.Place.{Place}
use Rattle.chains.specs.declared.place.Place.TheVariants.{Start, LampLevel, Sign, ReadLevel, End}
use Rattle.chains.proofs.VocabularyLaws.{spells, of-kind, is_id, among as among-pieces, Only, only}
use Rattle.chains.proofs.OrderLaws.{Ends}

-- the piece at an index
pub record At (v : List ℕ) (i q : ℕ) : Type 0 where
  pub left : drop i v ≡ q ∷ drop (suc i) v
  pub is : chain_tokens v i ≡ piece_token q

-- from an index on, the pieces lead from a place to an end
pub record Good (v : List ℕ) (i : ℕ) (s : Place) : Type 0 where
  pub within : i ≤ length v
  pub ends : Ends s (drop i v)

pub at-within : {v : List ℕ} {i q : ℕ} → At v i q → i < length v
at-within {v} {i} a = let e = sym (length-drop i v) ∙ ap length a.left in omega arith

there : (v : List ℕ) → Each (λ q. q < piece_count) v → (i : ℕ) → ((chain_tokens v i).kind ≡ 0 → ⊥) → (q : ℕ) × At v i q × (q < piece_count)
unfolding chain_tokens
there [] e i h = absurd (h refl)
there (q ∷ v) (Each.more l e) zero h = (q, record { left = refl; is = refl }, l)
there (q ∷ v) (Each.more l e) (suc i) h =
    let a = there v e i h in
    (a.0, record { left = a.1.left; is = a.1.is }, a.2)

pub back : {v : List ℕ} {i q : ℕ} (s : Place) → At v i q → Good v (i + 1) (step s q) → Good v i s
unfolding reached
back s a g = record { within = let l = at-within a in omega arith; ends = rw a.left (rw add-one at g.ends) }

-- each of these pieces leads from a place to another
abbrev Leads : Place → Place → List ℕ → Type 0
Leads s p [] = Unit {0}
Leads s p (k ∷ ks) = (step s k ≡ p) × Leads s p ks

leads-by : (s p : Place) (k q : ℕ) (ks : List ℕ) (b : Bool) → eqb q k ≡ b → step s k ≡ p → (among-pieces ks q ≡ true → step s q ≡ p) →
    pick b true (among-pieces ks q) ≡ true → step s q ≡ p
leads-by s p k q ks true e h f t = ap (step s) (eqb-true q k e) ∙ h
leads-by s p k q ks false e h f t = f t

leads : (s p : Place) (ks : List ℕ) (q : ℕ) → Leads s p ks → among-pieces ks q ≡ true → step s q ≡ p
leads s p [] q h e = absurd (false≢true e)
leads s p (k ∷ ks) q h e = leads-by s p k q ks (eqb q k) refl h.0 (leads s p ks q h.1) e

-- behind a condition, whichever it is, the pieces lead to an end
record Behind (v : List ℕ) (i : ℕ) : Type 0 where
  end : Good v i End
  level : Good v i ReadLevel

-- What the grammar reads leads to an end, from its last token to its first.
module _ (v : List ℕ) (pieces : Each (λ q. q < piece_count) v) where
  -- a token that passes a test is one of the pieces that do
  piece_at_lem : (f : Tok → Bool) (ks : List ℕ) → Only f ks → (i : ℕ) → ((chain_tokens v i).kind ≡ 0 → ⊥) → f (chain_tokens v i) ≡ true →
      (q : ℕ) × At v i q × (among-pieces ks q ≡ true)
  piece_at_lem f ks x i h e =
      let a = there v pieces i h in
      (a.0, a.1, only f ks x a.0 a.2 (ap f (sym a.1.is) ∙ e))

  go : {s p : Place} (f : Tok → Bool) (ks : List ℕ) → Only f ks → Leads s p ks → {i : ℕ} → ((chain_tokens v i).kind ≡ 0 → ⊥) →
      f (chain_tokens v i) ≡ true → Good v (i + 1) p → Good v i s
  go {s} {p} f ks x l {i} h e g =
      let a = piece_at_lem f ks x i h e in
      back s a.1 (rw (leads s p ks a.0 l a.2) g)

  a-kind : {kind : ℕ} (i : ℕ) → eqb kind 0 ≡ false → (chain_tokens v i).kind ≡ kind → (chain_tokens v i).kind ≡ 0 → ⊥
  a-kind {kind} i k e z = eqb-false kind 0 k (sym e ∙ z)

  spelled : {w : List ℕ} (i : ℕ) → (chain_tokens v i).kind ≡ WORD → (chain_tokens v i).bytes ≡ w → spells w (chain_tokens v i) ≡ true
  spelled {w} i p q = rw (p, q) (same_refl w)

  word : {s p : Place} {w : List ℕ} {i j : ℕ} (k : ℕ) → Only (spells w) (k ∷ []) → step s k ≡ p → Word (chain_tokens v) w i j → Good v j p → Good v i s
  word {w = w} k x e (a_word p q) g = go (spells w) (k ∷ []) x (e, tt) (a-kind _ refl p) (spelled _ p q) g

  no_word : {w : List ℕ} {i j : ℕ} → Only (spells w) [] → Word (chain_tokens v) w i j → ⊥
  no_word {w} {i} x (a_word p q) = false≢true (piece_at_lem (spells w) [] x i (a-kind _ refl p) (spelled _ p q)).2

  sign : {s p : Place} {kind i n j : ℕ} (ks : List ℕ) → eqb kind 0 ≡ false → Only (of-kind kind) ks → Leads s p ks → Token (chain_tokens v) kind i n j →
      Good v j p → Good v i s
  sign {kind = kind} ks k x l (token p) g = go (of-kind kind) ks x l (a-kind _ k p) (eq-eqb _ _ p) g

  no_kind_lem : {kind i n j : ℕ} → eqb kind 0 ≡ false → Only (of-kind kind) [] → Token (chain_tokens v) kind i n j → ⊥
  no_kind_lem {kind} {i} k x (token p) = false≢true (piece_at_lem (of-kind kind) [] x i (a-kind _ k p) (eq-eqb _ _ p)).2

  short-id : {s p : Place} {i n j : ℕ} → step s ZERO ≡ p → step s SIXTY_THREE ≡ p → Token (chain_tokens v) INTEGER i n j → n ≤ last_short_address →
      Good v j p → Good v i s
  unfolding last_short_address
  short-id e f (token p) l g =
      go is_id (ZERO ∷ SIXTY_THREE ∷ []) tt (e, (f, tt)) (a-kind _ refl p) (rw (p, le-leb _ _ l)) g

  integers : List ℕ
  integers = ZERO ∷ SIXTY_THREE ∷ SIXTY_FOUR ∷ []

  bound-good : {s p : Place} {i j : ℕ} {b : TimeBound} → step s SUNRISE ≡ p → step s SUNSET ≡ p → Bound (chain_tokens v) i b j → Good v j p → Good v i s
  unfolding same_bytes
  bound-good e f (clock h) g = absurd (no_kind_lem refl tt h)
  bound-good e f (solar (the_first w)) g = word SUNRISE tt e w g
  bound-good e f (solar (the_second w)) g = word SUNSET tt f w g
  bound-good e f (later w h d l) g = absurd (no_kind_lem refl tt d)
  bound-good e f (earlier w h d l) g = absurd (no_kind_lem refl tt d)

  module _ (view : View) (range : ℕ → Name) where
    lamp-good : {a b c d : Place} {i j : ℕ} {ref : Ref} → step a OPEN ≡ b → step b ZERO ≡ c → step b SIXTY_THREE ≡ c → step c CLOSE ≡ d →
        Lamp (chain_tokens v) view i ref j → Good v j d → Good v i a
    lamp-good e f f' h (r left (inside (name (quoted s x y)) c right ref)) g = absurd (no_kind_lem refl tt s)
    lamp-good e f f' h (r left (inside (id n m) (clause s w x y) right ref)) g = absurd (no_kind_lem refl tt s)
    lamp-good e f f' h (r left (inside (id n m) no_clause right (on_primary l))) g =
        sign (OPEN ∷ []) refl tt (e, tt) left (short-id f f' n l (sign (CLOSE ∷ []) refl tt (h, tt) right g))

    signed-good : {s : Place} {i j : ℕ} {z : ℤ} → step s PLUS ≡ Sign → step s MINUS ≡ Sign → Signed (chain_tokens v) INTEGER i z j → Good v j End →
        Good v i s
    unfolding integers moved
    signed-good e f (plus p n) g = sign (PLUS ∷ []) refl tt (e, tt) p (sign integers refl tt (refl, (refl, (refl, tt))) n g)
    signed-good e f (minus p n) g = sign (MINUS ∷ []) refl tt (f, tt) p (sign integers refl tt (refl, (refl, (refl, tt))) n g)

    reading-good : {i j : ℕ} {x : Reading} → ReadingOf (chain_tokens v) view range i x j → Good v j ReadLevel → Good v i Place.Compared
    unfolding same_bytes moved
    reading-good (ReadingOf.of_lamp w h p (LampPropertyOf.level q)) g =
        word LAMP tt refl w (lamp-good refl refl refl refl h (sign (POINT ∷ []) refl tt (refl, tt) p (word LEVEL tt refl q g)))
    reading-good (ReadingOf.of_lamp w h p (LampPropertyOf.cct q)) g = absurd (no_word tt q)
    reading-good (ReadingOf.of_lamp w h p (LampPropertyOf.is_on_rule q)) g = absurd (no_word tt q)
    reading-good (ReadingOf.of_lamp w h p (LampPropertyOf.last_level_rule q)) g = absurd (no_word tt q)
    reading-good (ReadingOf.of_group w h p q) g = absurd (no_word tt w)
    reading-good (ReadingOf.of_input w h p q) g = absurd (no_word tt w)
    reading-good (ReadingOf.of_time w p (TimeProperty.now q)) g = absurd (no_word tt q)
    reading-good (ReadingOf.of_time w p (TimeProperty.hour q)) g = absurd (no_word tt q)
    reading-good (ReadingOf.of_time w p (TimeProperty.minute q)) g = absurd (no_word tt q)
    reading-good (ReadingOf.of_time w p (TimeProperty.weekday q)) g = absurd (no_word tt q)
    reading-good (ReadingOf.of_sun w p (SunProperty.rise q)) g = absurd (no_word tt q)
    reading-good (ReadingOf.of_sun w p (SunProperty.set q)) g = absurd (no_word tt q)
    reading-good (ReadingOf.of_sun w p (SunProperty.is_up q)) g = absurd (no_word tt q)
    reading-good (ReadingOf.of_event w m p q) g = absurd (no_word tt w)
    reading-good (ReadingOf.of_var w q) g = absurd (no_word tt w)

    value-good : {i j : ℕ} {x : Value} → ValueOf (chain_tokens v) view range i x j → Behind v j → Good v i Place.Compared
    unfolding integers moved
    value-good (number n) rest = sign integers refl tt (refl, (refl, (refl, tt))) n rest.end
    value-good (signed_number z) rest = signed-good refl refl z rest.end
    value-good (reading x) rest = reading-good x rest.level
    value-good (reading_with x z) rest = reading-good x (signed-good refl refl z rest.end)

    compared-good : {i j : ℕ} {c : Comparison} → Compared (chain_tokens v) i c j → Good v j Place.Compared → Good v i LampLevel
    unfolding moved
    compared-good (Compared.eq h) g = sign (EQUAL ∷ []) refl tt (refl, tt) h g
    compared-good (Compared.ne h) g = absurd (no_kind_lem refl tt h)
    compared-good (Compared.ge h) g = absurd (no_kind_lem refl tt h)
    compared-good (Compared.le h) g = absurd (no_kind_lem refl tt h)
    compared-good (Compared.gt h) g = absurd (no_kind_lem refl tt h)
    compared-good (Compared.lt h) g = absurd (no_kind_lem refl tt h)

    condition-good : {i j : ℕ} {x : Condition} → ConditionOf (chain_tokens v) view range i x j → Behind v j → Good v i Start
    unfolding same_bytes moved words_in split
    condition-good (ConditionOf.controller_active w p) rest = absurd (no_word tt w)
    condition-good (ConditionOf.timer_running w q p) rest = absurd (no_word tt w)
    condition-good (ConditionOf.rule_enabled w q p) rest = absurd (no_word tt w)
    condition-good (ConditionOf.last_fired w q p d) rest = absurd (no_word tt w)
    condition-good (ConditionOf.device_online w h p) rest = absurd (no_word tt w)
    condition-good (ConditionOf.sun_is w (phrase (Words.next is Words.none)) (the_first q)) rest =
        word SUN tt refl w (word IS tt refl is (word UP tt refl q rest.end))
    condition-good (ConditionOf.sun_is w (phrase (Words.next is Words.none)) (the_second q)) rest =
        word SUN tt refl w (word IS tt refl is (word DOWN tt refl q rest.end))
    condition-good (ConditionOf.time_in w q a p b) rest =
        word TIME tt refl w
        (word IN tt refl q (bound-good refl refl a (sign (POINTS ∷ []) refl tt (refl, tt) p (bound-good refl refl b rest.end))))
    condition-good (ConditionOf.day_in w q h) rest = absurd (no_word tt w)
    condition-good (ConditionOf.group_state w h q) rest = absurd (no_word tt w)
    condition-good (ConditionOf.hcl_state w p q f h) rest = absurd (no_word tt w)
    condition-good (ConditionOf.lamp_is w h is (the_first q)) rest =
        word LAMP tt refl w (lamp-good refl refl refl refl h (word IS tt refl is (word ON tt refl q rest.end)))
    condition-good (ConditionOf.lamp_is w h is (the_second q)) rest =
        word LAMP tt refl w (lamp-good refl refl refl refl h (word IS tt refl is (word OFF tt refl q rest.end)))
    condition-good (ConditionOf.lamp_compare w h p (the_first q) c x) rest =
        word LAMP tt refl w
        (lamp-good refl refl refl refl h (sign (POINT ∷ []) refl tt (refl, tt) p (word LEVEL tt refl q (compared-good c (value-good x rest)))))
    condition-good (ConditionOf.lamp_compare w h p (the_second q) c x) rest = absurd (no_word tt q)
    condition-good (ConditionOf.input_occupancy w h is q) rest = absurd (no_word tt w)
    condition-good (ConditionOf.input_light w h p l q x) rest = absurd (no_word tt w)
    condition-good (ConditionOf.var_compare w q c x) rest = absurd (no_word tt w)

    rest-good : {i j : ℕ} {ys : List Condition} → Repeated (chain_tokens v) (ascii "and") (ConditionOf (chain_tokens v) view range) i ys j →
        j ≡ length v → Behind v i
    unfolding same_bytes moved may_end reached
    rest-good Repeated.end e =
        record { end = record { within = omega arith; ends = rw (e, drop-length) }; level = record { within = omega arith; ends = rw (e, drop-length) } }
    rest-good (Repeated.more w c h) e =
        let g = condition-good c (rest-good h e) in
        record { end = word AND tt refl w g; level = word AND tt refl w g }

    pub conditions-good : {ys : List Condition} → ConditionsOf (chain_tokens v) view range 0 ys (length v) → Ends Start v
    conditions-good (ConditionsOf.joined c h few) = (condition-good c (rest-good h refl)).ends
