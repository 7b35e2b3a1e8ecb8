-- The one pass over the lines answers question 3, and finds which adapters are the party's and which are listed.
use mathlib.Core.Path.{◌≡◌, ◌∙◌, refl, sym, ap}
use mathlib.Core.Bool.{Bool, true, false, false≢true}
use mathlib.Core.List.{List, [], ◌∷◌}
use Prim.Native.Nat.{ℕ, ◌+◌}
use lib.ListN.{length}
use lib.Dec.{eqb, ltb}
use borrow.Author.Tests.{eqb-true, not-true}
use Rattle.std.specs.Prelude.{Option, Some, None, Result, Ok, Err}
use Rattle.text.specs.Choice.{pick}
use Rattle.sheet.specs.Line.{line_of}
use Rattle.sheet.specs.Sheet.{lines, last_line, longest_sheet, Sheet, well_formed, bad_line_rule, is_owner_of, has_owner, may_follow, following_check, is_primary, lines_check, sheet_check, is_listing, lists}
use Rattle.sheet.specs.Party.{owner_by, owner_of, owns}
use Rattle.sheet.specs.Adapters.{packed}
use Rattle.sheet.specs.Survey.{may_add, added, none_said, bad_line, survey_from, survey_lines, survey_of}
use Rattle.sheet.specs.declared.adapters.Adapters.{Adapters}
use Rattle.sheet.specs.declared.line.Line.{Line}
use Rattle.sheet.specs.declared.line.Line.TheVariants.{Primary, Adapter, Party, Row}
use Rattle.sheet.specs.declared.rows.Said.{Said}
use Rattle.sheet.specs.declared.rows.BadLine.{BadLine}
use Rattle.sheet.proofs.AdapterLaws.{eqb-turned, has-packed, packed-same, put-packed}
use Rattle.sheet.proofs.RangeLaws.{LineInRange, line_in}

-- a verdict in the words of question 3
abbrev answer : Result Said BadLine → Sheet
answer (Ok said) = well_formed
answer (Err bad) = bad_line_rule bad.line

-- what the code surveyed is what question 3 answers; and where that is well formed, these adapters are the party's and these listed
record Comes (own listed : ℕ → Bool) (x : Result Said BadLine) (u : Sheet) : Type 0 where
  check : answer x ≡ u
  own_set : {said : Said} → x ≡ Ok said → said.own ≡ packed own
  listed_set : {said : Said} → x ≡ Ok said → said.listed ≡ packed listed

bad-not_well : {A : Type 0} (n : ℕ) (said : Said) {well : Said} → bad_line n said ≡ Ok well → A
bad-not_well n said h = cc

module _ {own listed : ℕ → Bool} where
  comes-bad : (n : ℕ) (said : Said) → Comes own listed (bad_line n said) (bad_line_rule n)
  comes-bad n said = record { check = refl; own_set = λ h. bad-not_well n said h; listed_set = λ h. bad-not_well n said h }

  comes-by : (t : Bool) {x y : Result Said BadLine} {u v : Sheet} → (t ≡ true → Comes own listed x u) → (t ≡ false → Comes own listed y v) →
      Comes own listed (pick t x y) (pick t u v)
  comes-by true f g = f refl
  comes-by false f g = g refl

  comes-same : {f g : ℕ → Bool} {x : Result Said BadLine} {u : Sheet} → ((a : ℕ) → f a ≡ own a) → ((a : ℕ) → g a ≡ listed a) → Comes f g x u →
      Comes own listed x u
  comes-same {f} {g} h k c =
      record {
        check = c.check;
        own_set = λ w. c.own_set w ∙ packed-same f own (λ a _. h a);
        listed_set = λ w. c.listed_set w ∙ packed-same g listed (λ a _. k a);
      }

eqb-pick : (t : Bool) (p q n : ℕ) → pick t (eqb p n) (eqb q n) ≡ eqb (pick t p q) n
eqb-pick true p q n = refl
eqb-pick false p q n = refl

-- an adapter whose owner no line says is party 0's
no-owner_by : (t : Bool) (p : ℕ) (said : Bool) (owner : ℕ) → pick said owner 0 ≡ owner → pick (pick t true said) (pick t p owner) 0 ≡ pick t p owner
no-owner_by true p said owner h = refl
no-owner_by false p said owner h = h

no-owner-line : (a : ℕ) (l : Option Line) (said : Bool) (owner : ℕ) → pick said owner 0 ≡ owner →
    pick (pick (is_owner_of a l) true said) (owner_by a l owner) 0 ≡ owner_by a l owner
unfolding is_owner_of owner_by
no-owner-line a (Some (Primary b)) said owner h = h
no-owner-line a (Some (Adapter b)) said owner h = h
no-owner-line a (Some (Party b party)) said owner h = no-owner_by (eqb b a) party said owner h
no-owner-line a (Some (Row kind adapter number)) said owner h = h
no-owner-line a None said owner h = h

no-owner : (a : ℕ) (ls : List (List ℕ)) → pick (has_owner a ls) (owner_of a ls) 0 ≡ owner_of a ls
unfolding has_owner owner_of
no-owner a [] = refl
no-owner a (l ∷ ls) = no-owner-line a (line_of l) (has_owner a ls) (owner_of a ls) (no-owner a ls)

-- Whose an adapter is, and whether it is listed, by the lines ahead of a place, which stand with the last first, and those behind it:
abbrev owner-past : ℕ → List (List ℕ) → List (List ℕ) → ℕ
owner-past a earlier ls = pick (has_owner a earlier) (owner_of a earlier) (owner_of a ls)

abbrev lists-past : ℕ → List (List ℕ) → List (List ℕ) → Bool
lists-past a earlier ls = pick (lists a earlier) true (lists a ls)

-- it is the same from the next place, if the line between may stand there.
owner-order : (t said : Bool) (p owner later : ℕ) → (t ≡ true → said ≡ false) →
    pick (pick t true said) (pick t p owner) later ≡ pick said owner (pick t p later)
owner-order true said p owner later f = rw (f refl)
owner-order false said p owner later f = refl

owner-moved : (a : ℕ) (l : Option Line) (owner later : ℕ) (earlier : List (List ℕ)) → may_follow earlier l ≡ true →
    pick (pick (is_owner_of a l) true (has_owner a earlier)) (owner_by a l owner) later ≡ pick (has_owner a earlier) owner (owner_by a l later)
unfolding is_owner_of owner_by may_follow
owner-moved a (Some (Primary b)) owner later earlier h = refl
owner-moved a (Some (Adapter b)) owner later earlier h = refl
owner-moved a (Some (Party b party)) owner later earlier h =
    owner-order (eqb b a) (has_owner a earlier) party owner later (λ e. rw (eqb-true b a e) at (not-true (has_owner b earlier) h))
owner-moved a (Some (Row kind adapter number)) owner later earlier h = refl
owner-moved a None owner later earlier h = refl

either_order : (t u v : Bool) → pick (pick t true u) true v ≡ pick u true (pick t true v)
either_order true true v = refl
either_order true false v = refl
either_order false u v = refl

either-none : (t : Bool) → t ≡ pick t true false
either-none true = refl
either-none false = refl

-- the first line says nothing of another adapter than its own, and of that not whose it is, nor that it is listed
primary-owner : (a : ℕ) (l : Option Line) (owner : ℕ) → is_primary l ≡ true → owner ≡ owner_by a l owner
unfolding is_primary owner_by
primary-owner a (Some (Primary b)) owner h = refl
primary-owner a (Some (Adapter b)) owner h = refl
primary-owner a (Some (Party b party)) owner h = absurd (false≢true h)
primary-owner a (Some (Row kind adapter number)) owner h = refl
primary-owner a None owner h = refl

primary-listing : (a : ℕ) (l : Option Line) → is_primary l ≡ true → is_listing a l ≡ false
unfolding is_primary is_listing
primary-listing a (Some (Primary b)) h = refl
primary-listing a (Some (Adapter b)) h = absurd (false≢true h)
primary-listing a (Some (Party b party)) h = refl
primary-listing a (Some (Row kind adapter number)) h = refl
primary-listing a None h = refl

-- of a well-formed sheet all lines say what is said
well-own : {said well : Said} {x : Adapters} → ◌≡◌ {A = Result Said BadLine} (Ok said) (Ok well) → said.own ≡ x → well.own ≡ x
well-own {said} {well} h e = let same : said ≡ well = cc in rw (← same) e

well-listed : {said well : Said} {x : Adapters} → ◌≡◌ {A = Result Said BadLine} (Ok said) (Ok well) → said.listed ≡ x → well.listed ≡ x
well-listed {said} {well} h e = let same : said ≡ well = cc in rw (← same) e

module _ (party : ℕ) where
  -- by the lines so far an adapter has an owner, which is this, and is listed
  record Noted (said : Said) (has-owner : ℕ → Bool) (owner : ℕ → ℕ) (listed : ℕ → Bool) : Type 0 where
    owners_set : said.owners ≡ packed has-owner
    own_set : said.own ≡ packed (λ a. eqb (owner a) party)
    listed_set : said.listed ≡ packed listed

  noted_line : {said : Said} {o l : ℕ → Bool} {w : ℕ → ℕ} (x : Option Line) → Noted said o w l →
      Noted (added party said x) (λ a. pick (is_owner_of a x) true (o a)) (λ a. owner_by a x (w a)) (λ a. pick (is_listing a x) true (l a))
  unfolding added is_owner_of owner_by is_listing
  noted_line (Some (Primary a)) n = n
  noted_line {l} (Some (Adapter a)) n =
      record { owners_set = n.owners_set; own_set = n.own_set; listed_set = put-packed l _ a _ n.listed_set (λ b. refl) }
  noted_line {o} {w} (Some (Party a p)) n =
      record {
        owners_set = put-packed o _ a _ n.owners_set (λ b. refl);
        own_set = put-packed (λ b. eqb (w b) party) _ a _ n.own_set (λ b. eqb-pick (eqb a b) p (w b) party);
        listed_set = n.listed_set;
      }
  noted_line (Some (Row kind a number)) n = n
  noted_line None n = n

  may_by : {said : Said} {w : ℕ → ℕ} {l : ℕ → Bool} (earlier : List (List ℕ)) (x : Option Line) → LineInRange x →
      Noted said (λ a. has_owner a earlier) w l → may_add said x ≡ may_follow earlier x
  unfolding may_add may_follow LineInRange
  may_by earlier (Some (Primary a)) h n = refl
  may_by earlier (Some (Adapter a)) h n = refl
  may_by earlier (Some (Party a p)) h n = rw (n.owners_set, has-packed (λ b. has_owner b earlier) a h)
  may_by earlier (Some (Row kind a number)) h n = refl
  may_by earlier None h n = refl

  noted_from : (n : ℕ) (said : Said) (earlier ls : List (List ℕ)) →
      Noted said (λ a. has_owner a earlier) (λ a. owner_of a earlier) (λ a. lists a earlier) →
      Comes (λ a. eqb (owner-past a earlier ls) party) (λ a. lists-past a earlier ls) (survey_from party n said ls) (following_check n earlier ls)
  unfolding survey_from following_check has_owner owner_of lists
  noted_from n said earlier [] c =
      comes-same (λ a. ap (λ (w : ℕ). eqb w party) (sym (no-owner a earlier))) (λ a. either-none (lists a earlier))
      record { check = refl; own_set = λ h. well-own h c.own_set; listed_set = λ h. well-listed h c.listed_set }
  noted_from n said earlier (l ∷ ls) c =
      comes-by (ltb last_line n) (λ _. comes-bad n said)
      (λ _.
      rw (may_by earlier (line_of l) (line_in l) c)
      (comes-by (may_follow earlier (line_of l))
      (λ h.
      comes-same (λ a. ap (λ (w : ℕ). eqb w party) (owner-moved a (line_of l) (owner_of a earlier) (owner_of a ls) earlier h))
      (λ a. either_order (is_listing a (line_of l)) (lists a earlier) (lists a ls))
      (noted_from (n + 1) (added party said (line_of l)) (l ∷ earlier) ls (noted_line (line_of l) c)))
      (λ _. comes-bad n said)))

  none_noted : Noted (none_said party) (λ a. has_owner a []) (λ a. owner_of a []) (λ a. lists a [])
  unfolding none_said has_owner owner_of lists
  none_noted = record { owners_set = refl; own_set = ap (λ (t : Bool). packed (λ a. t)) (eqb-turned party 0); listed_set = refl }

  lines_come : (ls : List (List ℕ)) → Comes (owns party ls) (λ a. lists a ls) (survey_lines party ls) (lines_check ls)
  unfolding survey_lines lines_check owns has_owner owner_of lists
  lines_come [] = comes-bad 1 (none_said party)
  lines_come (l ∷ ls) =
      comes-by (is_primary (line_of l))
      (λ h.
      comes-same (λ a. ap (λ (w : ℕ). eqb w party) (primary-owner a (line_of l) (owner_of a ls) h))
      (λ a. rw (primary-listing a (line_of l) h))
      (noted_from 2 (none_said party) [] ls none_noted))
      (λ _. comes-bad 1 (none_said party))

  module _ (s : List ℕ) where
    sheet_comes : Comes (owns party (lines s)) (λ a. lists a (lines s)) (survey_of party s) (sheet_check s)
    unfolding survey_of sheet_check
    sheet_comes = comes-by (ltb longest_sheet (length s)) (λ _. comes-bad 0 (none_said party)) (λ _. lines_come (lines s))

    -- the code's answer to question 3
    pub survey_bad : {bad : BadLine} → survey_of party s ≡ Err bad → sheet_check s ≡ bad_line_rule bad.line
    survey_bad h = sym sheet_comes.check ∙ ap answer h

    pub survey_well : {said : Said} → survey_of party s ≡ Ok said →
        (sheet_check s ≡ well_formed) ×
        (said.own ≡ packed (owns party (lines s))) ×
        (said.listed ≡ packed (λ a. lists a (lines s)))
    survey_well h = (sym sheet_comes.check ∙ ap answer h, sheet_comes.own_set h, sheet_comes.listed_set h)
