use borrow.Author.Rules.{rules}
use native.Mathlib.Omega.{arith}
use Rattle.tokens.proofs.PowerLaws.{ten-pos, ten-le, word-product}
use Rattle.tokens.proofs.AmountLaws.{by_parts, no-parts, fine-parts, judged-by}
use Rattle.tokens.proofs.duration.duration_ms.Goals as goal

pub overflow_mul-ms : goal.overflow_mul-ms
overflow_mul-ms c = omega (arith, word-product c.from.result c.from-2.result (omega arith) (omega arith))

pub overflow_mul-n : goal.overflow_mul-n
overflow_mul-n c = omega (arith, word-product c.from-3.result c.from-4.result (omega arith) (omega arith))

pub returns-then-n-eq0 : goal.returns-then-n-eq0
returns-then-n-eq0 c = let a = c.args in
    let both = judged-by a.whole a.frac a.d a.unit (no-parts a.whole a.frac a.d a.unit (cc)
    (rw (c.from.ensures, c.from-2.ensures) at c.sum_ms.ensures)) in record { value = both.0; exact = both.1 }

pub returns-then-d-gt-MOST_POWER : goal.returns-then-d-gt-MOST_POWER
returns-then-d-gt-MOST_POWER c = let a = c.args in
    let small = word-product a.frac a.unit (omega arith) (omega arith) in
    let both = judged-by a.whole a.frac a.d a.unit
    (fine-parts a.whole a.frac a.d a.unit (search rules) (omega (arith, small, ten-le {i = 20} {j = a.d} (omega arith)))) in record { value = both.0; exact = both.1 }

pub power_of_ten-requires : goal.power_of_ten-requires
power_of_ten-requires c = omega (arith, ten-le {i = c.args.d} {j = 19} (omega arith))

pub with_parts-requires : goal.with_parts-requires
with_parts-requires c = omega (arith, ten-pos c.args.d, c.power_of_ten.ensures)

pub returns : goal.returns
returns c = let a = c.args in
    let both = judged-by a.whole a.frac a.d a.unit
    (by_parts a.whole a.frac a.d a.unit (rw (c.from.ensures, c.from-2.ensures, c.from-3.ensures, c.from-4.ensures, c.power_of_ten.ensures) at c.with_parts.ensures)) in record { value = both.0; exact = both.1 }
