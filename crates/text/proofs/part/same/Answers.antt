use mathlib.Core.Path.{◌≡◌}
use mathlib.Core.Bool.{false}
use native.Mathlib.Omega.{arith}
use Rattle.text.specs.Part.{same_bytes}
use Rattle.text.proofs.SameLaws.{compared, other_length}
use Rattle.text.proofs.part.same.Goals as goal

pub returns-then-b-len : goal.returns-then-b-len
returns-then-b-len c =
    let e : false ≡ same_bytes c.args.a.now c.args.b.now = other_length _ _ (λ e. omega arith) in record { value = e; exactly = compared _ _ e }

pub returns-then-len-lt8 : goal.returns-then-len-lt8
returns-then-len-lt8 c = record { value = c.each_same.ensures; exactly = compared _ _ c.each_same.ensures }

pub returns : goal.returns
returns c = record { value = c.blocks_same.ensures; exactly = compared _ _ c.blocks_same.ensures }

pub blocks_same-requires : goal.blocks_same-requires
blocks_same-requires c = (omega (arith, c.if-len-lt8.false), omega (arith, c.if-b-len.false, c.if-len-lt8.false))
