-- Document 02, §6: rows are converted, and made, by nothing that is another party's (specs/Meaning.antt).
use Rattle.sheet.proofs.PartyLaws.{agree-seen, agree-primary}
use Rattle.language.specs.Read.{rule_call}
use Rattle.old_rows.specs.Convert.{rows_of}
use Rattle.old_rows.specs.Back.{back_of}
use Rattle.row_meaning.specs.Meaning.{IsolatedRows, IsolatedBack}

pub isolated-rows : IsolatedRows
unfolding rows_of
isolated-rows party primary rows s t p q a =
    rw (p, q, agree-seen (rule_call party primary) a, agree-primary (rule_call party primary) a)

pub isolated-back : IsolatedBack
unfolding back_of
isolated-back party primary s t l conditions buffer p q a =
    rw (p, q, agree-seen (rule_call party primary) a, agree-primary (rule_call party primary) a)
