-- Two hirers on one sheet: what a party's call sees is decided by its own adapters and their rows alone.
use Prim.Native.Nat.{ℕ, ◌<◌}
use native.Mathlib.Omega.{arith}
use mathlib.Core.Path.{◌≡◌, ◌∙◌, refl, sym, ap}
use mathlib.Core.Bool.{Bool, true, false, false≢true}
use mathlib.Core.List.{List, [], ◌∷◌}
use lib.Dec.{eqb}
use borrow.Author.Tests.{eqb-true, eq-eqb, ne_eqb}
use Rattle.std.specs.Prelude.{Option, Some, None}
use Rattle.text.specs.Choice.{pick}
use Rattle.text.proofs.Tests.{pick_same}
use Rattle.model.specs.Limits.{last_adapter}
use Rattle.sheet.specs.Line.{line_of, name_of}
use Rattle.sheet.specs.Sheet.{lines, Entry, entry_by, entries, is_listing, lists, is_owner_of, has_owner, primary_line}
use Rattle.sheet.specs.Party.{owner_by, owner_of, owns, entries_on, OwnRow, adapter_row, named_row, own_row_by, own_rows, Agree}
use Rattle.sheet.specs.View.{may_repeat, any_form, seen, own_primary}
use Rattle.sheet.specs.declared.Habit.{Habit}
use Rattle.sheet.specs.declared.Call.{Call}
use Rattle.sheet.specs.declared.line.Line.{Line}
use Rattle.sheet.specs.declared.line.Line.TheVariants.{Primary, Adapter, Party, Row}
use Rattle.sheet.proofs.RangeLaws.{LineInRange, line_in}
use Rattle.sheet.proofs.ReturnLaws.{use-pick}
use Rattle.sheet.proofs.SkipLaws.{by_order}
use Rattle.sheet.proofs.ViewLaws.{same_view}

-- of a party's rows: those with names, and whether one lists an adapter
abbrev named : List OwnRow → List Entry
named [] = []
named (adapter_row a ∷ rows) = named rows
named (named_row e ∷ rows) = e ∷ named rows

abbrev listing : ℕ → List OwnRow → Bool
listing a [] = false
listing a (adapter_row b ∷ rows) = pick (eqb b a) true (listing a rows)
listing a (named_row e ∷ rows) = listing a rows

-- of a line that lists an adapter: x and y say whether the adapter in question and the line's are the party's, same whether they are one
listed-on : (x y same rest : Bool) {found : Bool} → (same ≡ true → x ≡ y) → pick x rest false ≡ found →
    pick x (pick same true rest) false ≡ pick y (pick same true found) found
listed-on x y false rest e h = h ∙ sym (pick_same y _)
listed-on true y true rest e h = rw (sym (e refl))
listed-on false y true rest e h = rw (sym (e refl)) h

-- they are all that is seen of a sheet
module _ (own : ℕ → Bool) where
  named-line : (l : Option Line) (name : List ℕ) (es : List Entry) (rows : List OwnRow) → entries_on own es ≡ named rows →
      entries_on own (entry_by l name es) ≡ named (own_row_by own l name rows)
  unfolding entries_on
  named-line (Some (Primary a)) name es rows h = h
  named-line (Some (Adapter a)) name es rows h = h ∙ sym (use-pick named (own a) (adapter_row a ∷ rows) rows ∙ pick_same (own a) _)
  named-line (Some (Party a party)) name es rows h = h
  named-line (Some (Row kind adapter number)) name es rows h = rw h (sym (use-pick named (own adapter) _ rows))
  named-line None name es rows h = h

  named-own : (ls : List (List ℕ)) → entries_on own (entries ls) ≡ named (own_rows own ls)
  unfolding entries entries_on own_rows
  named-own [] = refl
  named-own (l ∷ ls) = named-line (line_of l) (name_of l) (entries ls) (own_rows own ls) (named-own ls)

  module _ (a : ℕ) where
    listing-line : (l : Option Line) (name : List ℕ) (rest : Bool) (rows : List OwnRow) → pick (own a) rest false ≡ listing a rows →
        pick (own a) (pick (is_listing a l) true rest) false ≡ listing a (own_row_by own l name rows)
    unfolding is_listing
    listing-line (Some (Primary b)) name rest rows h = h
    listing-line (Some (Adapter b)) name rest rows h =
        listed-on (own a) (own b) (eqb b a) rest (λ e. ap own (sym (eqb-true b a e))) h
        ∙ sym (use-pick (listing a) (own b) (adapter_row b ∷ rows) rows)
    listing-line (Some (Party b party)) name rest rows h = h
    listing-line (Some (Row kind b number)) name rest rows h = h ∙ sym (use-pick (listing a) (own b) _ rows ∙ pick_same (own b) _)
    listing-line None name rest rows h = h

    listing-own : (ls : List (List ℕ)) → pick (own a) (lists a ls) false ≡ listing a (own_rows own ls)
    unfolding lists own_rows
    listing-own [] = pick_same (own a) false
    listing-own (l ∷ ls) = listing-line (line_of l) (name_of l) (lists a ls) (own_rows own ls) (listing-own ls)

-- "For two accepted sheets that agree on which adapters are the party's, and on those adapters' rows in their order, [..] the party's call gives the
-- same answer": it sees the same, accepted or not
pub agree-seen : (call : Call) {s t : List ℕ} → Agree call.party s t → seen call s ≡ seen call t
unfolding seen
agree-seen call {s} {t} agree =
    let f : ℕ → Bool = owns call.party (lines s) in
    let g : ℕ → Bool = owns call.party (lines t) in
    same_view
    (λ a. listing-own f a (lines s) ∙ ap (listing a) agree.same_rows ∙ sym (listing-own g a (lines t)))
    (named-own f (lines s) ∙ ap named agree.same_rows ∙ sym (named-own g (lines t)))

-- an adapter above the last is nobody's but party 0's
module _ (a : ℕ) (beyond : last_adapter < a) where
  owner_by_beyond : (l : Option Line) (other : ℕ) → LineInRange l → owner_by a l other ≡ other
  unfolding owner_by LineInRange
  owner_by_beyond (Some (Primary b)) other r = refl
  owner_by_beyond (Some (Adapter b)) other r = refl
  owner_by_beyond (Some (Party b party)) other r = rw (ne_eqb b a (λ e. omega arith))
  owner_by_beyond (Some (Row kind adapter number)) other r = refl
  owner_by_beyond None other r = refl

  owner_beyond : (ls : List (List ℕ)) → owner_of a ls ≡ 0
  unfolding owner_of
  owner_beyond [] = refl
  owner_beyond (l ∷ ls) = owner_by_beyond (line_of l) (owner_of a ls) (line_in l) ∙ owner_beyond ls

pub agree-primary : (call : Call) {s t : List ℕ} → Agree call.party s t → own_primary call s ≡ own_primary call t
unfolding own_primary owns
agree-primary call {s} {t} agree =
    by_order last_adapter call.primary
    (λ beyond. rw (owner_beyond call.primary beyond (lines s), owner_beyond call.primary beyond (lines t)))
    (λ h. agree.same_adapters call.primary h)

-- "another's adapter counts as not listed"
pub others-unlisted : (call : Call) (s : List ℕ) (a : ℕ) → owns call.party (lines s) a ≡ false → (seen call s).listed a ≡ false
unfolding seen
others-unlisted call s a h = rw h

neither : (t : Bool) {u : Bool} → pick t true u ≡ false → (t ≡ false) × (u ≡ false)
neither true h = absurd (false≢true (sym h))
neither false h = (refl, h)

-- without a party row every adapter is party 0's
module _ (a : ℕ) where
  owner_by-none : (l : Option Line) (other : ℕ) → is_owner_of a l ≡ false → owner_by a l other ≡ other
  unfolding owner_by is_owner_of
  owner_by-none (Some (Primary b)) other h = refl
  owner_by-none (Some (Adapter b)) other h = refl
  owner_by-none (Some (Party b party)) other h = rw h
  owner_by-none (Some (Row kind adapter number)) other h = refl
  owner_by-none None other h = refl

  owner-none : (ls : List (List ℕ)) → has_owner a ls ≡ false → owner_of a ls ≡ 0
  unfolding owner_of has_owner
  owner-none [] h = refl
  owner-none (l ∷ ls) h =
      let n = neither (is_owner_of a (line_of l)) h in
      owner_by-none (line_of l) (owner_of a ls) n.0 ∙ owner-none ls n.1

rows_all : {own : ℕ → Bool} → ((a : ℕ) → own a ≡ true) → (es : List Entry) → entries_on own es ≡ es
unfolding entries_on
rows_all all [] = refl
rows_all all (e ∷ es) = rw (all e.adapter, rows_all all es)

-- a sheet without party rows is seen by party 0 as a sheet was seen before there were any
pub undivided : (habit : Habit) (s : List ℕ) → ((a : ℕ) → has_owner a (lines s) ≡ false) →
    seen (record { habit = habit; party = 0; primary = primary_line (lines s) }) s
    ≡ record {
      primary = primary_line (lines s);
      listed = λ a. lists a (lines s);
      rows = entries (lines s);
      repeats = may_repeat habit;
      allows = λ i. any_form habit;
    }
unfolding seen owns
undivided habit s none =
    let all : (a : ℕ) → eqb (owner_of a (lines s)) 0 ≡ true = λ a. eq-eqb _ _ (owner-none a (lines s) (none a)) in
    same_view (λ a. rw (all a)) (rows_all all (entries (lines s)))
