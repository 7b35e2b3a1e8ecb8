use Rattle.spelling.proofs.WeekLaws.{Going}
use Rattle.spelling.proofs.week.put_days.Given as goal

abbrev pub invariant-loop-d : goal.invariant-loop-d
invariant-loop-d l = Going l.initial.out l.at (record { sum = l.initial.left }) l.out l.end l.some l.left l.d
