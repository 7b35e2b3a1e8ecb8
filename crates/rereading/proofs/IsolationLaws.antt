-- Document 02, §6: what is written depends on nothing that is another party's (specs/Rereading.antt).
use Rattle.sheet.proofs.PartyLaws.{agree-seen, agree-primary}
use Rattle.language.specs.Read.{rule_call}
use Rattle.writing.specs.Writing.{write_of}
use Rattle.rereading.specs.Rereading.{IsolatedWriting}

pub isolated-writing : IsolatedWriting
unfolding write_of
isolated-writing party primary first second s t l buffer p q a =
    rw (p, q, agree-seen (rule_call party primary) a, agree-primary (rule_call party primary) a)
