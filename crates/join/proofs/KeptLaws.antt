-- The kept triggers, as the code holds them.
use Prim.Native.Nat.{ℕ, suc, ◌+◌, ◌<◌, ◌≤◌}
use mathlib.Core.Path.{◌≡◌, ◌∙◌, refl, ap, sym}
use mathlib.Core.List.{List, [], ◌∷◌, ◌++◌, map}
use mathlib.Core.Bool.{Bool, true, false}
use native.Mathlib.Omega.{arith}
use native.Mathlib.Numerals.{add-one}
use lib.ListN.{length, get_or, set, take, drop, drop_of_length-le, length-append}
use lib.Seq.{drop-cons}
use borrow.Author.Tests.{lt-ltb, le-ltb}
use Rattle.text.specs.Choice.{pick}
use Rattle.model.specs.Lists.{padded, triggers_of, accepted_with, refused_with}
use Rattle.model.specs.declared.Trigger.{Trigger}
use Rattle.model.specs.declared.Trigger.TheVariants.{HttpTrigger}
use Rattle.model.specs.declared.TriggerRow.{TriggerRow}
use Rattle.model.specs.declared.Triggers.{Triggers}
use Rattle.model.specs.declared.Conditions.{Conditions}
use Rattle.language.specs.Limits.{most_triggers}
use Rattle.flat.specs.Flat.{no_trigger}
use Rattle.compare.specs.Compare.{trigger_entry, same_entry, same_trigger}
use Rattle.compare.specs.declared.Entry.{Entry}
use Rattle.join.specs.Join.{Taken, taken_from, text_of, is_among, kept_with, kept_all, triggers_in, refused_join, accepted_join, by_count}
use Rattle.join.specs.Kept.{most_kept, kept_of, entry_among, OfKept, OfConditions}
use Rattle.join.specs.declared.Kept.{Kept}
use Rattle.join.specs.declared.KeptRow.{KeptRow}
use Rattle.join.specs.declared.Joined.{Joined}
use Rattle.join.proofs.RowLaws.{in_use-on, padded-at, padded-more}

abbrev no_taken : Taken
no_taken = record { from = 0; trigger = HttpTrigger }

-- a kept trigger as the code's row of it
abbrev row_of : Taken → KeptRow
row_of t = record { from = t.from; trigger = t.trigger }

abbrev no_row : KeptRow
no_row = record { from = 0; trigger = HttpTrigger }

kept-count : {kept : Kept} (l : List Taken) → kept ≡ kept_of l → kept.count ≡ length l
unfolding kept_of
kept-count l e = ap (λ (k : Kept). k.count) e

-- whether an entry is among them, from one on
module _ (first second text : List ℕ) (x : Entry) (kept : Kept) where
  abbrev pub Left : ℕ → Type 0
  Left i = OfKept kept (λ l. entry_among first second text x (drop i l) ≡ entry_among first second text x l)

  pub left-all : Left 0
  left-all l e = refl

  module _ (i : ℕ) (g : Left i) (few : kept.count ≤ most_kept) where
    module _ (below : i < kept.count) (unused : KeptRow) {r : Bool}
        (said : r ≡ same_entry (text_of first second (get_or kept.rows i unused).from) text (trigger_entry (get_or kept.rows i unused).trigger) x) where
      at_row : (l : List Taken) → kept ≡ kept_of l → get_or kept.rows i unused ≡ row_of (get_or l i no_taken)
      unfolding kept_of
      at_row l e =
          rw e
          (padded-at row_of no_row most_kept l i no_taken unused
          (omega (arith, kept-count l e)) (omega (arith, kept-count l e)))

      step : (l : List Taken) → kept ≡ kept_of l → entry_among first second text x (drop i l) ≡ pick r true (entry_among first second text x (drop (i + 1) l))
      unfolding entry_among
      step l e = rw (drop-cons l i no_taken (omega (arith, kept-count l e)), add-one, said, at_row l e)

      pub left-yes : r ≡ true → OfKept kept (λ l. true ≡ entry_among first second text x l)
      left-yes h l e = sym (step l e ∙ rw h) ∙ g l e

      pub left-on : r ≡ false → Left (i + 1)
      left-on h l e = sym (step l e ∙ rw h) ∙ g l e

    pub left-none : kept.count ≤ i → OfKept kept (λ l. false ≡ entry_among first second text x l)
    unfolding entry_among
    left-none h l e =
        let past : length l ≤ i = omega (arith, kept-count l e) in
        rw (drop_of_length-le l past) at (g l e)

-- one more
among-is : (first second : List ℕ) (x : Taken) (l : List Taken) →
    is_among first second x l ≡ entry_among first second (text_of first second x.from) (trigger_entry x.trigger) l
unfolding is_among entry_among same_trigger
among-is first second x [] = refl
among-is first second x (y ∷ ys) = rw (among-is first second x ys)

module _ (first second text : List ℕ) (from : ℕ) (x : Trigger) (its : text_of first second from ≡ text) (kept : Kept) {entry : Entry} (shown : entry ≡ trigger_entry x)
    {r : Bool} (said : OfKept kept (λ l. r ≡ entry_among first second text entry l)) where
  abbrev taken : Taken
  taken = record { from = from; trigger = x }

  among : (l : List Taken) → kept ≡ kept_of l → is_among first second taken l ≡ r
  among l e = among-is first second taken l ∙ rw (its, ← shown) (sym (said l e))

  pub keep_old : r ≡ true → OfKept kept (λ l. kept ≡ kept_of (kept_with first second l taken))
  unfolding kept_with
  keep_old h l e = rw (among l e, h) e

  pub keep-new : r ≡ false → kept.count < most_kept → {more : Kept} →
      more ≡ record { rows = set kept.rows kept.count (record { from = from; trigger = x }); count = kept.count + 1 } →
      OfKept kept (λ l. more ≡ kept_of (kept_with first second l taken))
  unfolding kept_with kept_of
  keep-new h room m l e =
      let n : kept.count ≡ length l = kept-count l e in
      m
      ∙ rw (
        among l e,
        h,
        n,
        e,
        padded-more row_of no_row most_kept l taken (omega arith),
        length-append,
      )

-- those of a text
all-on : (first second : List ℕ) (l xs : List Taken) (y : Taken) →
    kept_all first second l (xs ++ y ∷ []) ≡ kept_with first second (kept_all first second l xs) y
unfolding kept_all
all-on first second l [] y = refl
all-on first second l (x ∷ xs) y = all-on first second (kept_with first second l x) xs y

pub all_both : (first second : List ℕ) (l xs ys : List Taken) →
    kept_all first second (kept_all first second l xs) ys ≡ kept_all first second l (xs ++ ys)
unfolding kept_all
all_both first second l [] ys = refl
all_both first second l (x ∷ xs) ys = all_both first second (kept_with first second l x) xs ys

module _ (first second : List ℕ) (kept : Kept) (from : ℕ) (list : Triggers) where
  abbrev rows_to : ℕ → List Taken
  rows_to i = taken_from from (map (λ (r : TriggerRow). r.trigger) (take i list.rows))

  abbrev pub Keeping : Kept → ℕ → Type 0
  Keeping more i = OfKept kept (λ l. more ≡ kept_of (kept_all first second l (rows_to i)))

  pub keeping_none : Keeping kept 0
  unfolding kept_all
  keeping_none l e = e

  taken-on : (xs : List Trigger) (x : Trigger) → taken_from from (xs ++ x ∷ []) ≡ taken_from from xs ++ record { from = from; trigger = x } ∷ []
  taken-on [] x = refl
  taken-on (y ∷ xs) x = ap (record { from = from; trigger = y } ∷◌) (taken-on xs x)

  pub keeping-on : {more : Kept} (i : ℕ) → Keeping more i → i < length list.rows → {next : Kept} →
      OfKept more (λ l. next ≡ kept_of (kept_with first second l (record { from = from; trigger = (get_or list.rows i no_trigger).trigger }))) →
      Keeping next (i + 1)
  keeping-on i g h s l e =
      s (kept_all first second l (rows_to i)) (g l e)
      ∙ rw (in_use-on (λ (r : TriggerRow). r.trigger) list.rows i no_trigger h, taken-on, all-on)

  pub keeping_all : {more : Kept} (i : ℕ) → Keeping more i → i ≤ list.count → list.count ≤ i → OfKept kept (λ l. more ≡ kept_of (kept_all first second l (taken_from from (triggers_in list))))
  keeping_all i g h k l e =
      let n : i ≡ list.count = omega arith in
      rw (← n) (g l e)

-- the answer with four of them
module _ (kept : Kept) (conditions : Conditions) where
  pub counted_many : most_triggers < kept.count → {r : Joined} → r ≡ refused_join 0 (refused_with 52 0 0 0) →
      OfKept kept (λ l. OfConditions conditions (λ ys. r ≡ by_count l ys))
  unfolding by_count
  counted_many h m l e ys c = rw (lt-ltb most_triggers (length l) (omega (arith, kept-count l e))) m

module _ (u : KeptRow) where
  abbrev row : List Taken → ℕ → KeptRow
  row l i = get_or (kept_of l).rows i u

  four-rows : (l : List Taken) → length l ≤ most_triggers →
      record { trigger = (row l 0).trigger } ∷ record { trigger = (row l 1).trigger } ∷ record { trigger = (row l 2).trigger } ∷ record { trigger = (row l 3).trigger } ∷ []
      ≡ (triggers_of (map (λ (x : Taken). x.trigger) l)).rows
  unfolding kept_of triggers_of padded
  four-rows [] h = refl
  four-rows (a ∷ []) h = refl
  four-rows (a ∷ b ∷ []) h = refl
  four-rows (a ∷ b ∷ c ∷ []) h = refl
  four-rows (a ∷ b ∷ c ∷ d ∷ []) h = refl
  four-rows (a ∷ b ∷ c ∷ d ∷ e ∷ l) h = absurd (omega arith)

  four-from : (l : List Taken) → length l ≤ most_triggers →
      (row l 0).from ∷ (row l 1).from ∷ (row l 2).from ∷ (row l 3).from ∷ []
      ≡ padded (λ (x : Taken). x.from) 0 most_triggers l
  unfolding kept_of padded
  four-from [] h = refl
  four-from (a ∷ []) h = refl
  four-from (a ∷ b ∷ []) h = refl
  four-from (a ∷ b ∷ c ∷ []) h = refl
  four-from (a ∷ b ∷ c ∷ d ∷ []) h = refl
  four-from (a ∷ b ∷ c ∷ d ∷ e ∷ l) h = absurd (omega arith)

map-long : (l : List Taken) → length (map (λ (x : Taken). x.trigger) l) ≡ length l
map-long [] = refl
map-long (x ∷ l) = ap suc (map-long l)

module _ (kept : Kept) (conditions : Conditions) where
  pub counted_few : (u : KeptRow) → kept.count ≤ most_triggers → {r : Joined} →
      r ≡ record {
        which = 0;
        answer = record {
          number = 0;
          line = 0;
          column = 0;
          detail = 0;
          triggers = record {
            rows = record { trigger = (get_or kept.rows 0 u).trigger } ∷ record { trigger = (get_or kept.rows 1 u).trigger }
                ∷ record { trigger = (get_or kept.rows 2 u).trigger } ∷ record { trigger = (get_or kept.rows 3 u).trigger } ∷ [];
            count = kept.count;
          };
          conditions = conditions;
        };
        from = (get_or kept.rows 0 u).from ∷ (get_or kept.rows 1 u).from ∷ (get_or kept.rows 2 u).from ∷ (get_or kept.rows 3 u).from ∷ [];
      } →
      OfKept kept (λ l. OfConditions conditions (λ ys. r ≡ by_count l ys))
  unfolding by_count accepted_join accepted_with triggers_of
  counted_few u h m l e ys c =
      let few : length l ≤ most_triggers = omega (arith, kept-count l e) in
      rw (le-ltb most_triggers (length l) few)
      (m ∙ rw (kept-count l e, e, c, four-rows u l few, four-from u l few, map-long l))
