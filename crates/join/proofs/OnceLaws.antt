-- What two lists of triggers join to (specs/Joining.antt): each trigger once, and in which order.
use Prim.Native.Nat.{ℕ}
use mathlib.Core.Path.{◌≡◌, refl, sym, ap, ◌∙◌, subst}
use mathlib.Core.List.{List, [], ◌∷◌, ◌++◌, append_assoc, append-nil}
use mathlib.Core.Logic.{◌⊎◌, inl, inr, ⊎_elim}
use Rattle.model.specs.declared.Trigger.{Trigger}
use Rattle.join.specs.Join.{Taken, taken_from}
use Rattle.join.specs.Joining.{SomeOf, nothing, stays, goes, Among, here, later, Firsts, end, new, again, JoinsTo, Once, only, behind, OnceEach, InOrder}
use Rattle.join.proofs.FirstsLaws.{among-left, among-right, among-either, among_same, among_one}

module _ (first second : List ℕ) where
  abbrev Near : Taken → List Taken → Type 0
  Near = Among first second

  abbrev First : List Taken → List Taken → List Taken → Type 0
  First = Firsts first second

  -- one of the row and one more before it
  step_left : {x y : Taken} {before kept : List Taken} → (Near x (y ∷ []) → Near x before ⊎ Near x kept) → Near x (before ++ y ∷ []) ⊎ Near x kept →
      Near x before ⊎ Near x kept
  step_left {before = before} f (inl a) = ⊎_elim inl f (among-either first second before a)
  step_left f (inr a) = inr a

  -- each of the row stands before it, or is kept
  pub firsts-cover : {x : Taken} {before row kept : List Taken} → First before row kept → Near x row → Near x before ⊎ Near x kept
  firsts-cover (end {before = before}) a = elim a [ ]
  firsts-cover (new n h) (here s) = inr (here s)
  firsts-cover (new n h) (later a) =
      step_left (λ b. inr (here (among_one first second b))) (⊎_elim inl (λ b. inr (later b)) (firsts-cover h a))
  firsts-cover (again b h) (here s) = inl (among_same first second s b)
  firsts-cover (again b h) (later a) =
      step_left (λ c. inl (among_same first second (among_one first second c) b)) (firsts-cover h a)

  -- what is kept is of the row
  pub firsts-within : {x : Taken} {before row kept : List Taken} → First before row kept → Near x kept → Near x row
  firsts-within (end {before = before}) a = elim a [ ]
  firsts-within (new n h) (here s) = here s
  firsts-within (new n h) (later a) = later (firsts-within h a)
  firsts-within (again b h) a = later (firsts-within h a)

  -- none that is kept stands before the row
  pub firsts-new : {x : Taken} {before row kept : List Taken} → First before row kept → Near x kept → Near x before → ⊥
  firsts-new (end {before = before}) a b = elim a [ ]
  firsts-new (new n h) (here s) b = n (among_same first second (sym s) b)
  firsts-new (new {x = y} n h) (later a) b = firsts-new h a (among-left first second (y ∷ []) b)
  firsts-new (again {x = y} c h) a b = firsts-new h a (among-left first second (y ∷ []) b)

  -- and it is kept once
  pub firsts-once : {x : Taken} {before row kept : List Taken} → First before row kept → Near x kept → Once first second x kept
  firsts-once (end {before = before}) a = elim a [ ]
  firsts-once {before = before} (new n h) (here s) = only s (λ a. firsts-new h a (among-right first second before (here s)))
  firsts-once {before = before} (new n h) (later a) =
      behind (λ s. firsts-new h a (among-right first second before (here s))) (firsts-once h a)
  firsts-once (again b h) a = firsts-once h a

  nowhere : {x : Taken} → Near x [] → ⊥
  nowhere a = elim a [ ]

  -- each of a whole row is kept, and once
  pub all-kept : {x : Taken} {row kept : List Taken} → First [] row kept → Near x row → Near x kept
  all-kept h a = ⊎_elim (λ b. absurd (nowhere b)) (λ b. b) (firsts-cover h a)

  -- "A trigger stands in the joined list exactly once if in either, else not at all"
  pub once-each : {xs us : List Trigger} {kept : List Taken} → JoinsTo first second xs us kept → OnceEach first second xs us kept
  once-each {xs} {us} j =
      record {
        in_first = λ x a. firsts-once j (all-kept j (among-left first second (taken_from 2 us) a));
        in_second = λ x a. firsts-once j (all-kept j (among-right first second (taken_from 1 xs) a));
        in_neither = λ x n m a. ⊎_elim n m (among-either first second (taken_from 1 xs) (firsts-within j a));
      }

  -- a row in two parts
  record Parted (before front back kept : List Taken) : Type 0 where
    ones : List Taken
    twos : List Taken
    parts : kept ≡ ones ++ twos
    of_front : First before front ones
    of_back : First (before ++ front) back twos

  part_new : {x : Taken} {before front back kept : List Taken} → (Near x before → ⊥) → Parted (before ++ x ∷ []) front back kept → Parted before (x ∷ front) back (x ∷ kept)
  part_new {x} {before} {front} {back} n p =
      record {
        ones = x ∷ p.ones;
        twos = p.twos;
        parts = ap (λ (l : List Taken). x ∷ l) p.parts;
        of_front = new n p.of_front;
        of_back = subst (λ (l : List Taken). First l back p.twos) (append_assoc before (x ∷ []) front) p.of_back;
      }

  part_again : {x : Taken} {before front back kept : List Taken} → Near x before → Parted (before ++ x ∷ []) front back kept → Parted before (x ∷ front) back kept
  part_again {x} {before} {front} {back} a p =
      record {
        ones = p.ones;
        twos = p.twos;
        parts = p.parts;
        of_front = again a p.of_front;
        of_back = subst (λ (l : List Taken). First l back p.twos) (append_assoc before (x ∷ []) front) p.of_back;
      }

  parted : {before : List Taken} (front : List Taken) {back kept : List Taken} → First before (front ++ back) kept → Parted before front back kept
  parted {before} [] {back} {kept} h =
      record {
        ones = [];
        twos = kept;
        parts = refl;
        of_front = end;
        of_back = subst (λ (l : List Taken). First l back kept) (sym (append-nil before)) h;
      }
  parted (x ∷ front) (new n h) = part_new n (parted front h)
  parted (x ∷ front) (again a h) = part_again a (parted front h)

  -- what is kept of one text's triggers
  pub record OfText (from : ℕ) (xs : List Trigger) (kept : List Taken) : Type 0 where
    pub part : List Trigger
    pub taken : kept ≡ taken_from from part
    pub order : SomeOf xs part

  text_new : {from : ℕ} {x : Trigger} {xs : List Trigger} {kept : List Taken} → OfText from xs kept → OfText from (x ∷ xs) (record { from = from; trigger = x } ∷ kept)
  text_new {from} {x} o = record { part = x ∷ o.part; taken = rw o.taken; order = stays o.order }

  text_again : {from : ℕ} (x : Trigger) {xs : List Trigger} {kept : List Taken} → OfText from xs kept → OfText from (x ∷ xs) kept
  text_again x o = record { part = o.part; taken = o.taken; order = goes o.order }

  pub of_text : {before : List Taken} (from : ℕ) (xs : List Trigger) {kept : List Taken} → First before (taken_from from xs) kept → OfText from xs kept
  of_text from [] end = record { part = []; taken = refl; order = nothing }
  of_text from (x ∷ xs) (new n h) = text_new (of_text from xs h)
  of_text from (x ∷ xs) (again a h) = text_again x (of_text from xs h)

  -- "the first's triggers, then those of the second that are not yet there"
  pub in_order : {xs us : List Trigger} {kept : List Taken} → JoinsTo first second xs us kept → InOrder first second xs us kept
  in_order {xs} {us} j =
      let p = parted (taken_from 1 xs) j in
      let a = of_text 1 xs p.of_front in
      let b = of_text 2 us p.of_back in
      record {
        ones = a.part;
        twos = b.part;
        parts = p.parts ∙ ap (λ (l : List Taken). l ++ p.twos) a.taken ∙ ap (λ (l : List Taken). taken_from 1 a.part ++ l) b.taken;
        first_order = a.order;
        second_order = b.order;
        all_first = λ x n. subst (Near x) a.taken (all-kept p.of_front n);
        not_yet = λ x n. firsts-new p.of_back (subst (Near x) (sym b.taken) n);
      }
