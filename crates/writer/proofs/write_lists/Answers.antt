use mathlib.Core.Path.{sym, ◌∙◌}
use Rattle.writing.proofs.OutcomeLaws.{handed_on, refused_by}
use Rattle.writer.proofs.WriteLaws.{too_small, miscounted, not-possible, all-possible}
use Rattle.writer.proofs.write_lists.Goals as goal

pub returns-then-out-lt-LEAST_BYTES : goal.returns-then-out-lt-LEAST_BYTES
returns-then-out-lt-LEAST_BYTES c = refused_by _ _ (too_small _ _ _ _ _ c.if-out-lt-LEAST_BYTES.true) c.refused.ensures

pub first_impossible-at-requires : goal.first_impossible-at-requires
first_impossible-at-requires c = sym c.possible_counts.ensures ∙ c.if-possible_counts.true

pub write_possible-requires : goal.write_possible-requires
write_possible-requires c = (
  c.if-out-lt-LEAST_BYTES.false,
  (sym c.possible_counts.ensures ∙ c.if-possible_counts.true, sym c.first_impossible-at.ensures ∙ c.if-at-eq0.true),
)

pub returns-then-at-eq0 : goal.returns-then-at-eq0
returns-then-at-eq0 c = handed_on
    (all-possible _ _ _ _ _ c.if-out-lt-LEAST_BYTES.false c.possible_counts.ensures c.if-possible_counts.true c.first_impossible-at.ensures c.if-at-eq0.true)
    c.write_possible.ensures

pub returns-then-possible_counts : goal.returns-then-possible_counts
returns-then-possible_counts c = refused_by _ _
    (not-possible _ _ _ _ _ c.if-out-lt-LEAST_BYTES.false c.possible_counts.ensures c.if-possible_counts.true c.first_impossible-at.ensures c.if-at-eq0.false)
    c.refused-then-possible_counts.ensures

pub returns : goal.returns
returns c = refused_by _ _ (miscounted _ _ _ _ _ c.if-out-lt-LEAST_BYTES.false c.possible_counts.ensures c.if-possible_counts.false) c.refused-2.ensures
