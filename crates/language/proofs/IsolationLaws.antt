-- Document 02, §6: what a call answers depends on nothing that is another party's (specs/Isolation.antt).
use Rattle.sheet.proofs.PartyLaws.{agree-seen, agree-primary}
use Rattle.language.specs.Read.{read_of}
use Rattle.language.specs.Isolation.{Isolated}

pub isolated : Isolated
unfolding read_of
isolated call text s t lent words p q a = rw (p, q, agree-seen call a, agree-primary call a)
