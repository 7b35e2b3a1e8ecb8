-- The rows that are made for triggers are well formed, and convert to the same triggers.
use Prim.Native.Nat.{ℕ, ◌+◌, ◌≤◌, ◌<◌}
use native.Mathlib.Omega.{arith}
use mathlib.Core.Path.{◌≡◌, refl, ap, sym, subst}
use mathlib.Core.Bool.{true, false≢true}
use mathlib.Core.List.{List, [], ◌∷◌, map, append_assoc}
use lib.ListN.{length}
use borrow.Author.Tests.{eqb-false, not-true, le-ltb, ne_eqb}
use Rattle.std.specs.Prelude.{Ok}
use Rattle.tokens.specs.Rules.{Without}
use Rattle.model.specs.Limits.{last_adapter}
use Rattle.model.specs.Lists.{accepted_with}
use Rattle.model.specs.Ranges.{Each}
use Rattle.model.specs.declared.Trigger.{Trigger}
use Rattle.model.specs.declared.TriggerRow.{TriggerRow}
use Rattle.sheet.specs.View.{View, seen, settings_of}
use Rattle.sheet.specs.declared.Call.{Call}
use Rattle.sheet.specs.declared.names.Numbered.{Numbered}
use Rattle.sheet.specs.declared.resolve.Scope.{Scope}
use Rattle.sheet.proofs.ViewLaws.{seen-settings}
use Rattle.language.specs.Limits.{most_triggers}
use Rattle.old_rows.specs.Row.{says, is_known, row_of, row_name}
use Rattle.old_rows.specs.Convert.{is_well, is_whole, malformed_from, first_malformed, changed_kind, trigger_by, is_seen, found_of, found_in, change_in, converted, onto, by_found, convert_from, answered, by_shape}
use Rattle.old_rows.specs.Back.{changed_by, other, changed_of, name_back, row_for, rows_for, is_change, is_named}
use Rattle.old_rows.specs.declared.restore.Changed.{Changed}
use Rattle.old_rows.specs.declared.row.Change.{Change}
use Rattle.old_rows.proofs.SheetNames.{BackName, back-name, back-adapter}
use Rattle.row_meaning.proofs.FittingLaws.{fitting_fits}
use Rattle.row_meaning.proofs.FieldLaws.{comma-free, ended, ended-lines, ended_some, ended-ends}
use Rattle.row_meaning.proofs.RowReads.{bare_row, row_ends, row-feed, row_name_lem, row-says}

-- ---- the trigger of a change

-- it is made again of its change and its reference, whose kind is the change's
record Told (x : Trigger) (c : Changed) : Type 0 where
  kind : c.of.kind ≡ changed_kind c.change
  trigger : trigger_by c.change (record { adapter = c.of.adapter; number = c.of.number }) ≡ x

told : (x : Trigger) → is_known (changed_of x).change ≡ true → Told x (changed_of x)
unfolding changed_of changed_by other is_known trigger_by
told (Trigger.LampTurns r power) e = record { kind = refl; trigger = refl }
told (Trigger.GroupBecomes r state) e = record { kind = refl; trigger = refl }
told (Trigger.DeviceOnline r state) e = record { kind = refl; trigger = refl }
told (Trigger.InputEvent selector event) e = absurd (false≢true e)
told (Trigger.InputOccupancy r state) e = absurd (false≢true e)
told (Trigger.InputLightCross r crossing threshold) e = absurd (false≢true e)
told (Trigger.InputPositionChange r) e = absurd (false≢true e)
told (Trigger.InputDevicePowerCycled r) e = absurd (false≢true e)
told (Trigger.InputDeviceManualConfigChanged r) e = absurd (false≢true e)
told (Trigger.AtTime minutes days) e = absurd (false≢true e)
told (Trigger.AtSolar event offset days) e = absurd (false≢true e)
told (Trigger.Every ms) e = absurd (false≢true e)
told (Trigger.LampLevelCross r crossing threshold) e = absurd (false≢true e)
told (Trigger.SceneRecalled adapter scene) e = absurd (false≢true e)
told (Trigger.HclOverride target state) e = absurd (false≢true e)
told (Trigger.TimerFires name) e = absurd (false≢true e)
told Trigger.ControllerStarts e = absurd (false≢true e)
told Trigger.ControllerBecomesActive e = absurd (false≢true e)
told (Trigger.RuleFails name) e = absurd (false≢true e)
told Trigger.HttpTrigger e = absurd (false≢true e)
told (Trigger.MqttMessage name) e = absurd (false≢true e)

-- ---- one row

-- a row without its LF says a change, and its name picks the reference
record Reads (view : View) (change : Change) (of : Numbered) (l : List ℕ) : Type 0 where
  no_feed : Without 0x0A l
  says : row_of l ≡ says change (Scope.On of.adapter)
  found : found_of view change (Scope.On of.adapter) (row_name l) ≡ Ok (record { adapter = of.adapter; number = of.number })

row_reads : (view : View) (change : Change) (of : Numbered) (name : List ℕ) → is_known change ≡ true → of.kind ≡ changed_kind change → of.adapter ≤ last_adapter →
    BackName view of name → Reads view change of (bare_row change name of.adapter)
unfolding found_of is_seen
row_reads view change of name known kind in_range back =
    let fits = fitting_fits view of name back.fits in
    let no_comma = comma-free name fits.no_comma in
    record {
      no_feed = row-feed change known name of.adapter in_range back.is_row.no_feed;
      says = row-says change known name of.adapter in_range no_comma back.is_row.rule;
      found = rw (back.listed, row_name_lem change known name of.adapter in_range no_comma, sym kind) fits.picks;
    }

-- ---- the row of a trigger

module _ (view : View) where
  row_at : TriggerRow → List ℕ
  row_at x = bare_row (changed_of x.trigger).change (name_back view (changed_of x.trigger).of) (changed_of x.trigger).of.adapter

  record RowReads (x : TriggerRow) : Type 0 where
    known : is_known (changed_of x.trigger).change ≡ true
    reads : Reads view (changed_of x.trigger).change (changed_of x.trigger).of (row_at x)

  -- the rows are all that is written, and each ends with LF
  rows_ended : {xs : List TriggerRow} → Each RowReads xs → rows_for view xs ≡ ended (map row_at xs)
  unfolding rows_for row_for ended row_at
  rows_ended Each.none = refl
  rows_ended (Each.more {x = x} {xs = xs} h hs) =
      let c = changed_of x.trigger in
      rw (row_ends c.change h.known (name_back view c.of) c.of.adapter, rows_ended hs)
      (append_assoc (row_at x) (0x0A ∷ []) (ended (map row_at xs)))

  rows_apart : {xs : List TriggerRow} → Each RowReads xs → Each (Without 0x0A) (map row_at xs)
  rows_apart Each.none = Each.none
  rows_apart (Each.more h hs) = Each.more h.reads.no_feed (rows_apart hs)

  -- none is malformed, or a fifth
  whole : (ls : List (List ℕ)) → is_whole true ls ≡ true
  unfolding is_whole
  whole [] = refl
  whole (l ∷ ls) = refl

  rows_well : {xs : List TriggerRow} (n : ℕ) → Each RowReads xs → length xs + n ≤ most_triggers + 1 → malformed_from true n (map row_at xs) ≡ 0
  unfolding malformed_from is_well
  rows_well n Each.none few = refl
  rows_well n (Each.more {xs = xs} h hs) few =
      rw (le-ltb most_triggers n (omega arith), whole (map row_at xs), h.reads.says) (rows_well (n + 1) hs (omega arith))

  -- and each gives its trigger
  abbrev trigger_at : TriggerRow → Trigger
  trigger_at x = x.trigger

  rows_convert : {xs : List TriggerRow} (n : ℕ) → Each RowReads xs → convert_from view n (map row_at xs) ≡ converted (map trigger_at xs)
  unfolding convert_from change_in found_in by_found onto
  rows_convert n Each.none = refl
  rows_convert n (Each.more {x = x} {xs = xs} h hs) =
      rw (h.reads.says, h.reads.found, rows_convert (n + 1) hs)
      (ap (λ (t : Trigger). converted (t ∷ map trigger_at xs)) (told x.trigger h.known).trigger)

  -- one to four of them are accepted
  rows_shape : {xs : List TriggerRow} → Each RowReads xs → 0 < length xs → length xs ≤ most_triggers →
      by_shape view (rows_for view xs) ≡ accepted_with (map trigger_at xs) []
  unfolding by_shape first_malformed answered
  rows_shape Each.none some few = absurd (omega arith)
  rows_shape (Each.more {x = x} {xs = xs} h hs) some few =
      let all = Each.more h hs in
      let s = ended (map row_at (x ∷ xs)) in
      rw (
        rows_ended all,
        ne_eqb (length s) 0 (omega (arith, ended_some (row_at x) (map row_at xs))),
        ended-ends (row_at x) (map row_at xs),
        ended-lines (rows_apart all),
        rows_well 1 all (omega arith),
        rows_convert 1 all,
      )

-- ---- what a call sees

seen_back : (call : Call) (s : List ℕ) (of : Numbered) → (length (name_back (seen call s) of) ≡ 0 → ⊥) →
    BackName (seen call s) of (name_back (seen call s) of) × (of.adapter ≤ last_adapter)
seen_back call s of =
    subst (λ (view : View). (length (name_back view of) ≡ 0 → ⊥) → BackName view of (name_back view of) × (of.adapter ≤ last_adapter))
    (seen-settings call s)
    (λ some. (back-name (settings_of call s) s of some, back-adapter (settings_of call s) s of some))

-- a trigger of which a row can be made, whose reference has a name
trigger-reads : (call : Call) (s : List ℕ) (x : TriggerRow) → is_change x ≡ true → is_named (seen call s) x ≡ true → RowReads (seen call s) x
unfolding is_change is_named row_at
trigger-reads call s x known named =
    let c = changed_of x.trigger in
    let (back, in_range) = seen_back call s c.of (eqb-false _ _ (not-true _ named)) in
    record {
      known = known;
      reads = row_reads (seen call s) c.change c.of (name_back (seen call s) c.of) known (told x.trigger known).kind in_range back;
    }

each-reads : (call : Call) (s : List ℕ) {xs : List TriggerRow} → Each (λ (x : TriggerRow). is_change x ≡ true) xs →
    Each (λ (x : TriggerRow). is_named (seen call s) x ≡ true) xs → Each (RowReads (seen call s)) xs
each-reads call s Each.none Each.none = Each.none
each-reads call s (Each.more {x = x} h hs) (Each.more k ks) = Each.more (trigger-reads call s x h k) (each-reads call s hs ks)

pub made-convert : (call : Call) (s : List ℕ) (xs : List TriggerRow) → Each (λ (x : TriggerRow). is_change x ≡ true) xs →
    Each (λ (x : TriggerRow). is_named (seen call s) x ≡ true) xs → 0 < length xs → length xs ≤ most_triggers →
    by_shape (seen call s) (rows_for (seen call s) xs) ≡ accepted_with (map (λ (x : TriggerRow). x.trigger) xs) []
made-convert call s xs changes named = rows_shape (seen call s) (each-reads call s changes named)
