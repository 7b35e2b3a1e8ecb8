use mathlib.Core.Path.{◌≡◌}
use Prim.Native.Nat.{ℕ, ◌+◌, min}
use native.Mathlib.Omega.{arith}
use lib.Dec.{ltb}
use borrow.Author.Tests.{ltb-true, ltb-false}
use Rattle.text.specs.Place.{counted}
use Rattle.text.proofs.Tests.{picked}
use Rattle.tokens.proofs.scan.count_on.Goals as goal

counted-min : (n : ℕ) → counted n ≡ min n 4294967295
unfolding counted
counted-min n =
    picked (λ (m : ℕ). m ≡ min n 4294967295) (ltb n 4294967295) (λ t. omega (arith, ltb-true n 4294967295 t))
    (λ t. omega (arith, ltb-false n 4294967295 t))

pub returns : goal.returns
returns c =
    let sum = counted-min (c.args.n + c.args.more) in
    let part = counted-min c.args.more in
    omega arith
