-- A name looked up in one pass over the rows: what the tally knows, that the answer is the definition's, and that it is found exactly
-- where one row is in scope.
use Prim.Native.Nat.{ℕ, suc, ◌+◌, ◌<◌, ◌≤◌}
use native.Mathlib.Omega.{arith}
use mathlib.Core.Path.{◌≡◌, ◌∙◌, refl, ap, sym}
use mathlib.Core.Bool.{Bool, true, false, not}
use mathlib.Core.List.{List, [], ◌∷◌, ◌++◌, append-nil, append_assoc}
use lib.ListN.{length, drop, length-append}
use lib.Dec.{ltb, eqb}
use borrow.Author.Tests.{ltb-false, eq-eqb, ne_eqb, eqb-true, not-true, not-false}
use Rattle.std.specs.Prelude.{Option, Some, Ok}
use Rattle.text.specs.Choice.{pick}
use Rattle.text.specs.Part.{part_of, same_bytes}
use Rattle.text.specs.Place.{counted}
use Rattle.text.proofs.Tests.{picked, pick_same, both, told-yes, told-no}
use Rattle.text.proofs.PartLaws.{same_refl, same-eq}
use Rattle.text.proofs.PlaceRules.{count_on}
use Rattle.model.specs.declared.Ref.{Ref}
use Rattle.sheet.specs.Line.{line_of, name_of}
use Rattle.sheet.specs.Sheet.{lines, line_end, Entry, entries, entry_by}
use Rattle.sheet.specs.Party.{entries_on}
use Rattle.sheet.specs.Resolve.{is_candidate, candidates, is_in, in_scope, elsewhere, none_of, chosen, pick_named}
use Rattle.sheet.specs.Tally.{scoped_on, first_on, tallied, tally, line_tally_by, line_tally, no_tally, found_by}
use Rattle.sheet.specs.Picks.{InScope, None, none, none_past, Picks, past, here}
use Rattle.text.proofs.SplitLaws.{split-on, split-none}
use Rattle.sheet.specs.declared.line.Line.{Line}
use Rattle.sheet.specs.declared.line.Line.TheVariants.{Primary, Adapter, Party, Row}
use Rattle.sheet.specs.declared.resolve.Scope.{Scope}
use Rattle.sheet.specs.declared.resolve.Scope.TheVariants.{Any, On}
use Rattle.sheet.specs.declared.resolve.Scoped.{Scoped}
use Rattle.sheet.specs.declared.resolve.Tally.{Tally}

-- a count that stops at the greatest number tells none, one and more apart
count_is : (n k : ℕ) → k < 4294967295 → eqb (counted n) k ≡ eqb n k
unfolding counted
count_is n k l =
    picked (λ (m : ℕ). eqb m k ≡ eqb n k) (ltb n 4294967295)
    (λ e. refl)
    (λ e. rw (ne_eqb 4294967295 k (omega arith), ne_eqb n k (omega (arith, ltb-false))))

one_counted : counted 1 ≡ 1
unfolding counted
one_counted = refl

-- of a list of rows: the first's adapter; and what is known of such rows in scope
abbrev first_of : List Entry → Option ℕ
first_of [] = Option.None
first_of (e ∷ es) = Some e.adapter

abbrev scoped_of : List Entry → Option Scoped
scoped_of [] = Option.None
scoped_of (e ∷ es) =
    Some (record { row = record { adapter = e.adapter; number = e.number }; count = counted (suc (length es)); spans = elsewhere e.adapter es })

-- what a tally knows of the candidates that were seen, and of those of them in scope
abbrev seen : List Entry → List Entry → Tally
seen all ins = record { first = first_of all; scoped = scoped_of ins }

-- one candidate more
first-seen : (all : List Entry) (e : Entry) → first_on (first_of all) e.adapter ≡ first_of (all ++ e ∷ [])
first-seen [] e = refl
first-seen (f ∷ all) e = refl

swap : (x y z : Bool) → pick x (pick y z true) true ≡ pick y (pick x z true) true
swap true y z = refl
swap false true z = refl
swap false false z = refl

elsewhere-on : (a : ℕ) (es : List Entry) (e : Entry) → elsewhere a (es ++ e ∷ []) ≡ pick (eqb e.adapter a) (elsewhere a es) true
unfolding elsewhere
elsewhere-on a [] e = refl
elsewhere-on a (f ∷ es) e = rw (elsewhere-on a es e) (swap (eqb f.adapter a) (eqb e.adapter a) (elsewhere a es))

scoped_made : (f : Entry) {m n : ℕ} {t u : Bool} → m ≡ n → t ≡ u →
    ◌≡◌ {A = Option Scoped}
    (Some (record { row = record { adapter = f.adapter; number = f.number }; count = m; spans = t }))
    (Some (record { row = record { adapter = f.adapter; number = f.number }; count = n; spans = u }))
scoped_made f e g = rw (e, g)

scoped-seen : (ins : List Entry) (e : Entry) →
    Some (scoped_on (scoped_of ins) (record { adapter = e.adapter; number = e.number })) ≡ scoped_of (ins ++ e ∷ [])
unfolding scoped_on elsewhere
scoped-seen [] e = scoped_made e (sym one_counted) refl
scoped-seen (f ∷ ins) e =
    let n : suc (length ins) + 1 ≡ suc (length (ins ++ e ∷ [])) = omega (arith, length-append ins (e ∷ [])) in
    scoped_made f (count_on (suc (length ins)) ∙ ap counted n) (sym (elsewhere-on f.adapter ins e))

-- what is found by a tally is what the definition chooses from the rows that it saw
found-seen : (all ins : List Entry) → found_by (seen all ins) ≡ chosen all ins
unfolding found_by chosen none_of
found-seen [] [] = refl
found-seen (e ∷ all) [] = refl
found-seen all (e ∷ []) = rw (count_is 1 1 (omega arith))
found-seen all (e ∷ f ∷ ins) =
    let n = suc (suc (length ins)) in
    rw (count_is n 1 (omega arith), ne_eqb n 1 (omega arith))

-- both tests of a row at once, or one after the other
two-tests : {A : Type 0} (x y : Bool) (a b : A) → pick (pick x y false) a b ≡ pick x (pick y a b) b
two-tests true y a b = refl
two-tests false y a b = refl

-- a row that stands among the others or not; a row that does not adds nothing
tally-row : (kind : ℕ) (name : List ℕ) (scope : Scope) (t : Tally) (e : Entry) (es : List Entry) (there : Bool) →
    tally kind name scope t (pick there (e ∷ es) es)
    ≡ tally kind name scope
    (pick (eqb e.kind kind)
    (pick there (pick (same_bytes e.name name) (tallied scope t e.adapter e.number) t) t) t) es
unfolding tally is_candidate
tally-row kind name scope t e es true =
    ap (λ (u : Tally). tally kind name scope u es)
    (two-tests (eqb e.kind kind) (same_bytes e.name name) (tallied scope t e.adapter e.number) t)
tally-row kind name scope t e es false = ap (λ (u : Tally). tally kind name scope u es) (sym (pick_same (eqb e.kind kind) t))

tally-entry : (own : ℕ → Bool) (kind : ℕ) (name : List ℕ) (scope : Scope) (t : Tally) (written : List ℕ) (es : List Entry) (l : Option Line) →
    tally kind name scope t (entries_on own (entry_by l written es))
    ≡ tally kind name scope (line_tally_by own kind name scope t written l) (entries_on own es)
unfolding entries_on
tally-entry own kind name scope t written es (Some (Row k adapter number)) =
    tally-row kind name scope t (record { kind = k; adapter = adapter; number = number; name = written }) (entries_on own es) (own adapter)
tally-entry own kind name scope t written es (Some (Primary a)) = refl
tally-entry own kind name scope t written es (Some (Adapter a)) = refl
tally-entry own kind name scope t written es (Some (Party a party)) = refl
tally-entry own kind name scope t written es Option.None = refl

-- what the tests of a row say
is_in_lem : (scope : Scope) (b : ℕ) → ((a : ℕ) → scope ≡ On a → b ≡ a) → is_in scope b ≡ true
unfolding is_in
is_in_lem Any b h = refl
is_in_lem (On a) b h = eq-eqb b a (h a refl)

in_true : (scope : Scope) (b : ℕ) → is_in scope b ≡ true → (a : ℕ) → scope ≡ On a → b ≡ a
unfolding is_in
in_true Any b h a e = cc
in_true (On c) b h a e = let q : b ≡ c = eqb-true b c h in cc

scope-by : (scope : Scope) (e : Entry) (es : List Entry) (t : Bool) →
    in_scope scope (pick t (e ∷ es) es) ≡ pick (pick t (is_in scope e.adapter) false) (e ∷ in_scope scope es) (in_scope scope es)
unfolding in_scope
scope-by scope e es true = refl
scope-by scope e es false = refl

-- only one row in scope is an answer
chosen-one : (all ins : List Entry) {r : Ref} → chosen all ins ≡ Ok r →
    (e : Entry) × (ins ≡ e ∷ []) × (e.adapter ≡ r.adapter) × (e.number ≡ r.number)
unfolding chosen none_of
chosen-one [] [] h = cc
chosen-one (f ∷ all) [] h = cc
chosen-one all (e ∷ []) {r} h =
    let k : record { adapter = e.adapter; number = e.number } ≡ r = cc in
    (e, refl, ap (λ (x : Ref). x.adapter) k, ap (λ (x : Ref). x.number) k)
chosen-one all (e ∷ f ∷ ins) h = cc

module _ (kind : ℕ) (name : List ℕ) (scope : Scope) where
  -- the rows in scope
  abbrev rows : List Entry → List Entry
  rows es = in_scope scope (candidates kind name es)

  -- these rows add to what is known their candidates, and those of them in scope
  abbrev Added : List Entry → Type 0
  Added es = (all ins : List Entry) →
      tally kind name scope (seen all ins) es ≡ seen (all ++ candidates kind name es) (ins ++ rows es)

  added_in : (es : List Entry) → Added es → (all ins : List Entry) (e : Entry) (i : Bool) →
      tally kind name scope
      (record {
        first = first_on (first_of all) e.adapter;
        scoped = pick i (Some (scoped_on (scoped_of ins) (record { adapter = e.adapter; number = e.number }))) (scoped_of ins);
      }) es
      ≡ seen (all ++ e ∷ candidates kind name es) (ins ++ pick i (e ∷ rows es) (rows es))
  added_in es k all ins e true = rw (first-seen, scoped-seen) (simp append_assoc at (k (all ++ e ∷ []) (ins ++ e ∷ [])))
  added_in es k all ins e false = rw first-seen (simp append_assoc at (k (all ++ e ∷ []) ins))

  added-row : (es : List Entry) → Added es → (all ins : List Entry) (e : Entry) (c : Bool) →
      let cs : List Entry = pick c (e ∷ candidates kind name es) (candidates kind name es) in
      tally kind name scope (pick c (tallied scope (seen all ins) e.adapter e.number) (seen all ins)) es
      ≡ seen (all ++ cs) (ins ++ in_scope scope cs)
  unfolding tallied in_scope
  added-row es k all ins e true = added_in es k all ins e (is_in scope e.adapter)
  added-row es k all ins e false = k all ins

  added : (es : List Entry) → Added es
  unfolding tally candidates in_scope
  added [] all ins = simp append-nil
  added (e ∷ es) all ins = added-row es (added es) all ins e (is_candidate kind name e)

  -- one pass over the rows finds what the definition says
  pub found-tally : (es : List Entry) → found_by (tally kind name scope no_tally es) ≡ pick_named kind name scope es
  unfolding pick_named counted
  found-tally es = ap found_by (added es [] []) ∙ found-seen (candidates kind name es) (rows es)

  -- a line changes a tally as its entries do, if they are on these adapters
  pub tally-line : (own : ℕ → Bool) (t : Tally) (l : List ℕ) (ls : List (List ℕ)) →
      tally kind name scope t (entries_on own (entries (l ∷ ls)))
      ≡ tally kind name scope (line_tally own kind name scope t l) (entries_on own (entries ls))
  unfolding entries line_tally
  tally-line own t l ls = tally-entry own kind name scope t (name_of l) (entries ls) (line_of l)

  -- the same at an offset of a sheet: t before the line w there, which goes up to end, and u behind it
  module _ (own : ℕ → Bool) (s : List ℕ) (at : ℕ) (t : Tally) {x : Tally}
      (i : tally kind name scope t (entries_on own (entries (lines (drop at s)))) ≡ x) where
    pub tally-on : {end : ℕ} {w : List ℕ} {u : Tally} → at < length s → end ≡ line_end s at → w ≡ part_of s at end →
        u ≡ line_tally own kind name scope t w → tally kind name scope u (entries_on own (entries (lines (drop (end + 1) s)))) ≡ x
    tally-on h e p n = rw (n, p, e) (rw (split-on 0x0A s at h, tally-line) at i)

    pub tally-end : length s ≤ at → t ≡ x
    unfolding entries entries_on tally
    tally-end h = rw (split-none 0x0A s at h) at i

  -- a row is in scope by its test exactly if it is by its facts
  abbrev test : Entry → Bool
  test e = pick (is_candidate kind name e) (is_in scope e.adapter) false

  test-yes : {e : Entry} → InScope kind name scope e → test e ≡ true
  unfolding is_candidate
  test-yes {e} h = rw (eq-eqb _ _ h.same_kind, h.same_name, same_refl) (is_in_lem scope e.adapter h.same_adapter)

  test-true : (e : Entry) → test e ≡ true → InScope kind name scope e
  unfolding is_candidate
  test-true e h =
      let b = both (is_candidate kind name e) h in
      let c = both (eqb e.kind kind) b.0 in
      record { same_kind = eqb-true _ _ c.0; same_name = same-eq _ _ c.1; same_adapter = in_true scope _ b.1 }

  test-false : {e : Entry} → test e ≡ false → InScope kind name scope e → ⊥
  test-false h c = let y = test-yes c in cc

  -- the rows in scope, one row after the other: none, or only one
  rows_on : (e : Entry) (es : List Entry) → rows (e ∷ es) ≡ pick (test e) (e ∷ rows es) (rows es)
  unfolding candidates
  rows_on e es = scope-by scope e (candidates kind name es) (is_candidate kind name e)

  rows-past : (e : Entry) (es : List Entry) → (InScope kind name scope e → ⊥) → rows (e ∷ es) ≡ rows es
  rows-past e es n =
      rows_on e es ∙ picked (λ (l : List Entry). l ≡ rows es) (test e) (λ h. absurd (n (test-true e h))) (λ h. refl)

  rows_none : {es : List Entry} → None kind name scope es → rows es ≡ []
  unfolding candidates in_scope
  rows_none none = refl
  rows_none (none_past {e} {es} n k) = rows-past e es n ∙ rows_none k

  rows-one : {es : List Entry} {e : Entry} → Picks kind name scope es e → rows es ≡ e ∷ []
  rows-one (past {es = es} n p) = rows-past _ es n ∙ rows-one p
  rows-one (here {e} {es} c k) = rows_on e es ∙ rw (test-yes c, rows_none k)

  none_rows : (es : List Entry) → rows es ≡ [] → None kind name scope es
  none_rows [] h = none
  none_rows (e ∷ es) h =
      picked (λ (l : List Entry). l ≡ [] → None kind name scope (e ∷ es)) (test e)
      (λ y q. cc)
      (λ n q. none_past (test-false n) (none_rows es q))
      (sym (rows_on e es) ∙ h)

  one-rows : (es : List Entry) (f : Entry) → rows es ≡ f ∷ [] → Picks kind name scope es f
  unfolding candidates in_scope
  one-rows [] f h = cc
  one-rows (e ∷ es) f h =
      picked (λ (l : List Entry). l ≡ f ∷ [] → Picks kind name scope (e ∷ es) f) (test e)
      (λ y q. let g : e ≡ f = cc in let r : rows es ≡ [] = cc in rw (sym g) (here (test-true e y) (none_rows es r)))
      (λ n q. past (test-false n) (one-rows es f q))
      (sym (rows_on e es) ∙ h)

  -- an answer is found exactly where one row is in scope and no other
  pub picks-sound : (es : List Entry) {r : Ref} → pick_named kind name scope es ≡ Ok r →
      (e : Entry) × Picks kind name scope es e × (e.adapter ≡ r.adapter) × (e.number ≡ r.number)
  unfolding pick_named
  picks-sound es h =
      let c = chosen-one (candidates kind name es) (rows es) h in
      (c.0, one-rows es c.0 c.1, c.2, c.3)

  pub picks-complete : {es : List Entry} {e : Entry} → Picks kind name scope es e →
      pick_named kind name scope es ≡ Ok (record { adapter = e.adapter; number = e.number })
  unfolding pick_named chosen
  picks-complete {es} p = ap (chosen (candidates kind name es)) (rows-one p)

-- a callee's answer r of which the code asks whether it is no
pub not-told-no : {A : Type 0} {r : Bool} (t : Bool) (a b : A) {x : A} → r ≡ t → not r ≡ true → x ≡ b → x ≡ pick t a b
not-told-no {r = r} t a b d h e = told-no t a b d (not-true r h) e

pub not-told-yes : {A : Type 0} {r : Bool} (t : Bool) (a b : A) {x : A} → r ≡ t → not r ≡ false → x ≡ a → x ≡ pick t a b
not-told-yes {r = r} t a b d h e = told-yes t a b d (not-false r h) e
