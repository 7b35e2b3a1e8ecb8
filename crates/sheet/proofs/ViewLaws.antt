-- What a call sees by the sets of adapters that the code keeps is what it sees by its sheet.
use Prim.Native.Nat.{ℕ, ◌<◌, ◌≤◌}
use native.Mathlib.Omega.{arith}
use mathlib.Core.Path.{◌≡◌, refl, sym, fun_ext}
use mathlib.Core.Bool.{Bool, false}
use mathlib.Core.List.{List, [], ◌∷◌}
use borrow.Author.Tests.{ne_eqb}
use Rattle.std.specs.Prelude.{Option, Some, None}
use Rattle.text.specs.Choice.{pick}
use Rattle.text.proofs.Tests.{pick_same}
use Rattle.model.specs.Limits.{last_adapter}
use Rattle.sheet.specs.Line.{line_of}
use Rattle.sheet.specs.Sheet.{lines, Entry, is_listing, lists}
use Rattle.sheet.specs.Party.{owns, entries_on}
use Rattle.sheet.specs.Adapters.{has, packed}
use Rattle.sheet.specs.View.{View, seen, settings_of, view_of}
use Rattle.sheet.specs.declared.Call.{Call}
use Rattle.sheet.specs.declared.line.Line.{Line}
use Rattle.sheet.specs.declared.line.Line.TheVariants.{Primary, Adapter, Party, Row}
use Rattle.sheet.proofs.AdapterLaws.{has-packed, has_beyond}
use Rattle.sheet.proofs.RangeLaws.{LineInRange, line_in, RowsInRange, no_row, a_row, rows_in}
use Rattle.sheet.proofs.SkipLaws.{by_order}

-- two views with the same primary adapter and the same habit
pub same_view : {primary : ℕ} {repeats : Bool} {allows l m : ℕ → Bool} {r q : List Entry} → ((a : ℕ) → l a ≡ m a) → r ≡ q →
    ◌≡◌ {A = View}
    (record { primary = primary; listed = l; rows = r; repeats = repeats; allows = allows })
    (record { primary = primary; listed = m; rows = q; repeats = repeats; allows = allows })
same_view h k = rw (fun_ext h, k)

-- no line lists an adapter above the last
module _ (a : ℕ) (beyond : last_adapter < a) where
  listing_beyond : (l : Option Line) → LineInRange l → is_listing a l ≡ false
  unfolding is_listing LineInRange
  listing_beyond (Some (Primary b)) r = refl
  listing_beyond (Some (Adapter b)) r = ne_eqb b a (λ e. omega arith)
  listing_beyond (Some (Party b party)) r = refl
  listing_beyond (Some (Row kind adapter number)) r = refl
  listing_beyond None r = refl

  lists_beyond : (ls : List (List ℕ)) → lists a ls ≡ false
  unfolding lists
  lists_beyond [] = refl
  lists_beyond (l ∷ ls) = rw (listing_beyond (line_of l) (line_in l)) (lists_beyond ls)

-- sets with the same adapters have the same rows
rows_alike : {f g : ℕ → Bool} → ((a : ℕ) → a ≤ last_adapter → f a ≡ g a) → {es : List Entry} → RowsInRange es → entries_on f es ≡ entries_on g es
unfolding entries_on
rows_alike same no_row = refl
rows_alike same (a_row {e} a n h) = rw (same e.adapter a, rows_alike same h)

listed-alike : (own : ℕ → Bool) (ls : List (List ℕ)) (a : ℕ) →
    pick (has (packed own) a) (has (packed (λ b. lists b ls)) a) false ≡ pick (own a) (lists a ls) false
listed-alike own ls a =
    by_order last_adapter a
    (λ beyond. rw (has_beyond (packed own) a beyond, lists_beyond a beyond ls) (sym (pick_same (own a) false)))
    (λ h. rw (has-packed own a h, has-packed (λ b. lists b ls) a h))

pub seen-settings : (call : Call) (s : List ℕ) → view_of (settings_of call s) s ≡ seen call s
unfolding view_of settings_of seen
seen-settings call s =
    let own : ℕ → Bool = owns call.party (lines s) in
    same_view (listed-alike own (lines s)) (rows_alike (has-packed own) (rows_in (lines s)))
