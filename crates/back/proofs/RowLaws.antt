-- Words are an entry's row exactly if there is an entry that words can tell (flat/specs/Held.antt) whose row they are, and that entry is the one read back.
use Prim.Native.Nat.{ℕ}
use mathlib.Core.Path.{◌≡◌, sym}
use mathlib.Core.Bool.{true}
use mathlib.Core.List.{List}
use Rattle.text.proofs.PartLaws.{same_refl, same-eq}
use Rattle.model.specs.declared.Condition.{Condition}
use Rattle.model.specs.declared.Trigger.{Trigger}
use Rattle.flat.specs.Back.{trigger_back, condition_back}
use Rattle.flat.specs.Flat.{trigger_words, condition_words, whole_row}
use Rattle.flat.specs.Held.{HeldTrigger, HeldCondition}
use Rattle.flat.proofs.BackLaws.{trigger_back_lem, condition_back_lem}
use Rattle.back.specs.Rows.{is_trigger_row, is_condition_row, Words, SaysRow}
use Rattle.back.proofs.HeldLaws.{trigger-held, condition-held}

-- words that are a row are that of what is read back

pub trigger_row-of : (row : List ℕ) → is_trigger_row row ≡ true → row ≡ whole_row (trigger_words (trigger_back row))
unfolding is_trigger_row
trigger_row-of row e = sym (same-eq _ row e)

pub condition_row-of : (row : List ℕ) → is_condition_row row ≡ true → row ≡ whole_row (condition_words (condition_back row))
unfolding is_condition_row
condition_row-of row e = sym (same-eq _ row e)

-- the row of an entry is one; that the entry is read back is `trigger_back_lem` and `condition_back_lem` of flat

pub trigger_row-is : (x : Trigger) → HeldTrigger x → is_trigger_row (whole_row (trigger_words x)) ≡ true
unfolding is_trigger_row
trigger_row-is x h = rw (trigger_back_lem x h) (same_refl _)

pub condition_row-is : (y : Condition) → HeldCondition y → is_condition_row (whole_row (condition_words y)) ≡ true
unfolding is_condition_row
condition_row-is y h = rw (condition_back_lem y h) (same_refl _)

-- so, of words of 32 bits, both are said exactly

pub trigger-rows : (row : List ℕ) → Words row → SaysRow trigger_words HeldTrigger row (is_trigger_row row)
trigger-rows row h =
    record {
      yes = λ e. record { entry = trigger_back row; held = trigger-held row h; same = trigger_row-of row e };
      only = λ o. rw o.same (trigger_row-is o.entry o.held);
    }

pub condition-rows : (row : List ℕ) → Words row → SaysRow condition_words HeldCondition row (is_condition_row row)
condition-rows row h =
    record {
      yes = λ e. record { entry = condition_back row; held = condition-held row h; same = condition_row-of row e };
      only = λ o. rw o.same (condition_row-is o.entry o.held);
    }
