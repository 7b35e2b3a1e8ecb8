-- Document 02, §6: what is joined depends on nothing that is another party's (specs/Joining.antt): a sheet has its part in reading alone.
use Rattle.language.specs.Read.{rule_call}
use Rattle.language.proofs.IsolationLaws.{isolated}
use Rattle.join.specs.Join.{join_of}
use Rattle.join.specs.Joining.{IsolatedJoin}

pub isolated-join : IsolatedJoin
unfolding join_of
isolated-join party primary first second s t lent words others p q a =
    let call = rule_call party primary in
    rw (isolated call first s t lent words p q a, isolated call second s t _ others p q a)
