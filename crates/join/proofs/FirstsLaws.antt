-- Triggers that are kept one by one, each unless one that is kept is the same, are the first ones of their kind: to be the same as one that is kept is to be the same
-- as any that came before.
use Prim.Native.Nat.{ℕ}
use mathlib.Core.Path.{◌≡◌, refl, sym, ap, ◌∙◌}
use mathlib.Core.List.{List, [], ◌∷◌, ◌++◌, append_assoc, append-nil}
use mathlib.Core.Bool.{Bool, true, false, false≢true}
use mathlib.Core.Logic.{◌⊎◌, inl, inr, ⊎_elim, ◌↔◌}
use Rattle.text.specs.Choice.{pick}
use Rattle.model.specs.Ranges.{Each, none, more}
use Rattle.flat.specs.Held.{HeldTrigger}
use Rattle.compare.specs.Compare.{same_trigger}
use Rattle.compare.proofs.SameLaws.{same_trigger_lem}
use Rattle.join.specs.Join.{Taken, text_of, is_among, kept_with, kept_all}
use Rattle.join.specs.Joining.{SameTaken, Among, here, later, Firsts, end, new, again}

-- one of two tests
either : (t : Bool) {u : Bool} → pick t true u ≡ true → (t ≡ true) ⊎ (u ≡ true)
either true e = inl refl
either false e = inr e

either_second : (t : Bool) {u : Bool} → u ≡ true → pick t true u ≡ true
either_second true e = refl
either_second false e = e

-- a trigger that its words can tell
abbrev pub HeldTaken : Taken → Type 0
HeldTaken x = HeldTrigger x.trigger

pub each_append : {A : Type 0} {P : A → Type 0} {xs ys : List A} → Each P xs → Each P ys → Each P (xs ++ ys)
each_append none ps = ps
each_append (more p qs) ps = more p (each_append qs ps)

module _ (first second : List ℕ) where
  abbrev Near : Taken → List Taken → Type 0
  Near = Among first second

  -- the test for one of these
  same-held : (x y : Taken) → HeldTaken x → HeldTaken y →
      (same_trigger (text_of first second y.from) (text_of first second x.from) y.trigger x.trigger ≡ true) ↔ SameTaken first second y x
  same-held x y h g = same_trigger_lem (text_of first second y.from) (text_of first second x.from) y.trigger x.trigger g h

  among-sound : (x : Taken) (ys : List Taken) → HeldTaken x → Each HeldTaken ys → is_among first second x ys ≡ true → Near x ys
  unfolding is_among
  among-sound x [] h none e = absurd (false≢true e)
  among-sound x (y ∷ ys) h (more g gs) e = ⊎_elim (λ s. here ((same-held x y h g).0 s)) (λ r. later (among-sound x ys h gs r)) (either _ e)

  among-complete : (x : Taken) {ys : List Taken} → HeldTaken x → Each HeldTaken ys → Near x ys → is_among first second x ys ≡ true
  unfolding is_among
  among-complete x h none a = elim a [ ]
  among-complete x h (more g gs) (here {y = y} s) = rw ((same-held x y h g).1 s)
  among-complete x h (more g gs) (later {y = y} a) =
      either_second (same_trigger (text_of first second y.from) (text_of first second x.from) y.trigger x.trigger) (among-complete x h gs a)

  -- the test has an answer, and it is right
  Told : Taken → List Taken → Type 0
  Told x ys = ((is_among first second x ys ≡ true) × Near x ys) ⊎ ((is_among first second x ys ≡ false) × (Near x ys → ⊥))

  among-told : (x : Taken) (ys : List Taken) → HeldTaken x → Each HeldTaken ys → Told x ys
  unfolding Told
  among-told x ys h gs = by (is_among first second x ys) refl
    where
      by : (t : Bool) → is_among first second x ys ≡ t → Told x ys
      by true e = inl (e, among-sound x ys h gs e)
      by false e = inr (e, (λ a. false≢true (sym e ∙ among-complete x h gs a)))

  -- among one of two rows
  pub among-left : {x : Taken} {ys : List Taken} (zs : List Taken) → Near x ys → Near x (ys ++ zs)
  among-left zs (here s) = here s
  among-left zs (later a) = later (among-left zs a)

  pub among-right : {x : Taken} (ys : List Taken) {zs : List Taken} → Near x zs → Near x (ys ++ zs)
  among-right [] a = a
  among-right (y ∷ ys) a = later (among-right ys a)

  pub among-either : {x : Taken} (ys : List Taken) {zs : List Taken} → Near x (ys ++ zs) → Near x ys ⊎ Near x zs
  among-either [] a = inr a
  among-either (y ∷ ys) (here s) = inl (here s)
  among-either (y ∷ ys) (later a) = ⊎_elim (λ b. inl (later b)) inr (among-either ys a)

  -- what is the same as one of these is one of these
  pub among_same : {x z : Taken} {ys : List Taken} → SameTaken first second x z → Near x ys → Near z ys
  among_same e (here s) = here (s ∙ e)
  among_same e (later a) = later (among_same e a)

  pub among_one : {x z : Taken} → Near z (x ∷ []) → SameTaken first second x z
  among_one (here s) = s
  among_one {z = z} (later a) = elim a [ ]

  -- the same triggers stand among both
  record Alike (ys zs : List Taken) : Type 0 where
    there : (x : Taken) → Near x ys → Near x zs
    back : (x : Taken) → Near x zs → Near x ys

  -- so they do behind one more: one that is there already, and is not kept, or any that is kept
  alike_again : {kept before : List Taken} {x : Taken} → Alike kept before → Near x kept → Alike kept (before ++ x ∷ [])
  alike_again {before = before} {x = x} h a =
      record {
        there = λ z b. among-left (x ∷ []) (h.there z b);
        back = λ z b. ⊎_elim (h.back z) (λ c. among_same (among_one c) a) (among-either before b);
      }

  alike_new : {kept before : List Taken} (x : Taken) → Alike kept before → Alike (kept ++ x ∷ []) (before ++ x ∷ [])
  alike_new {kept} {before} x h =
      record {
        there = λ z b. ⊎_elim (λ c. among-left (x ∷ []) (h.there z c)) (among-right before) (among-either kept b);
        back = λ z b. ⊎_elim (λ c. among-left (x ∷ []) (h.back z c)) (among-right kept) (among-either before b);
      }

  -- what is kept behind `kept` of a row that stands behind `before`
  record Behind (kept before row : List Taken) : Type 0 where
    rest : List Taken
    all : kept_all first second kept row ≡ kept ++ rest
    firsts : Firsts first second before row rest

  behind_again : {kept before row : List Taken} {x : Taken} → Near x before → is_among first second x kept ≡ true → Behind kept (before ++ x ∷ []) row →
      Behind kept before (x ∷ row)
  unfolding kept_all kept_with
  behind_again a e b = record { rest = b.rest; all = rw e b.all; firsts = again a b.firsts }

  behind_new : {kept before row : List Taken} {x : Taken} → (Near x before → ⊥) → is_among first second x kept ≡ false →
      Behind (kept ++ x ∷ []) (before ++ x ∷ []) row → Behind kept before (x ∷ row)
  unfolding kept_all kept_with
  behind_new {kept} {x = x} n e b =
      record { rest = x ∷ b.rest; all = rw e (b.all ∙ append_assoc kept (x ∷ []) b.rest); firsts = new n b.firsts }

  behind : (row : List Taken) {kept before : List Taken} → Each HeldTaken row → Each HeldTaken kept → Alike kept before → Behind kept before row
  unfolding kept_all Told
  behind [] {kept} none held h = record { rest = []; all = sym (append-nil kept); firsts = end }
  behind (x ∷ row) {kept} (more g gs) held h =
      ⊎_elim (λ t. behind_again (h.there x t.1) t.0 (behind row gs held (alike_again h t.1)))
      (λ t. behind_new (λ a. t.1 (h.back x a)) t.0 (behind row gs (each_append held (more g none)) (alike_new x h)))
      (among-told x kept g held)

  -- a row has one such list
  pub firsts_one : {before row kept other : List Taken} → Firsts first second before row kept → Firsts first second before row other → kept ≡ other
  firsts_one end end = refl
  firsts_one (new {x = x} n h) (new m g) = ap (λ (l : List Taken). x ∷ l) (firsts_one h g)
  firsts_one (new n h) (again a g) = absurd (n a)
  firsts_one (again a h) (new n g) = absurd (n a)
  firsts_one (again a h) (again b g) = firsts_one h g

  -- and it is what is kept one by one
  pub firsts_kept : (row : List Taken) → Each HeldTaken row → Firsts first second [] row (kept_all first second [] row)
  firsts_kept row held =
      let b = behind row held none (record { there = λ x a. a; back = λ x a. a }) in
      rw b.all b.firsts

  pub kept_firsts : {row kept : List Taken} → Each HeldTaken row → Firsts first second [] row kept → kept ≡ kept_all first second [] row
  kept_firsts {row} held h = firsts_one h (firsts_kept row held)
