use mathlib.Core.Path.{refl, ◌∙◌}
use mathlib.Core.Bool.{false≢true}
use native.Mathlib.Omega.{arith}
use Prim.Native.Nat.{◌+◌}
use Rattle.text.specs.Part.{part_of}
use Rattle.text.specs.Block.{every}
use Rattle.text.proofs.BlockLaws.{block-past, block-here, every-next, not-or-not, part-byte}
use Rattle.text.proofs.block.eight.Goals as goal
use Rattle.text.proofs.block.eight.Goals.{then-len-lt8-via-then-len-lt8, then-len-lt8-via-else-len-lt8+then-len-at}

pub returns-then-len-lt8 : goal.returns-then-len-lt8
returns-then-len-lt8 g c =
    elim c.then-len-lt8.branch [
      | then-len-lt8-via-then-len-lt8 w ↦
          record { tells = λ p t. block-past p _ _ (omega (arith, w.if-len-lt8.true)); inside = λ e. absurd (false≢true e) }
      | then-len-lt8-via-else-len-lt8+then-len-at w ↦
          record { tells = λ p t. block-past p _ _ (omega (arith, w.if-len-at.true)); inside = λ e. absurd (false≢true e) }
    ]

pub loop-b-init : goal.loop-b-init
unfolding every
loop-b-init g c = λ p t. refl

pub loop-b-preserved : goal.loop-b-preserved
unfolding part_of
loop-b-preserved g c =
    λ p t.
    not-or-not c.loop-b.fails c.test.result
    ∙ every-next p (part_of c.args.s.now c.args.at (c.args.at + 8)) c.loop-b.b-index c.loop-b-test.true (c.loop-b.invariant p t)
    (t _ _ (part-byte c.args.s.now c.args.at (c.args.at + 8) c.loop-b.b-index c.type_inv.s c.loop-b-test.true) c.test.ensures)

pub returns : goal.returns
unfolding part_of
returns g c =
    record {
      tells = λ p t. block-here p c.args.s.now c.args.at c.loop-b.b-index (omega arith) c.loop-b-test.false (c.loop-b.invariant p t);
      inside = λ e. omega arith;
    }
