use mathlib.Core.Path.{refl}
use borrow.Author.Rules.{rules}
use Rattle.join.proofs.KeptLaws.{keep_old, keep-new}
use Rattle.join.proofs.keep.Goals as goal

pub returns-then-is_kept : goal.returns-then-is_kept
returns-then-is_kept c = record { of_kept = keep_old _ _ _ _ _ (search rules) _ c.trigger_entry-entry.ensures c.is_kept.ensures (search rules); count_bound = search rules }

pub returns : goal.returns
returns c = record { of_kept = keep-new _ _ _ _ _ (search rules) _ c.trigger_entry-entry.ensures c.is_kept.ensures (search rules) (search rules) refl; count_bound = search rules }
