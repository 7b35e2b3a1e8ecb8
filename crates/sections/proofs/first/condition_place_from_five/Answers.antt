use borrow.Author.Rules.{rules}
use Rattle.text.specs.Split.{split}
use Rattle.tokens.specs.Phrase.{words_in}
use Rattle.sections.specs.First.{place_from}
use Rattle.sections.proofs.FirstLaws.{places}
use Rattle.sections.proofs.first.condition_place_from_five.Goals as goal

pub same-requires : goal.same-requires
unfolding words_in split place_from
same-requires c = search rules

pub returns-then-same : goal.returns-then-same
unfolding words_in split place_from
returns-then-same c = search places depth 24

pub same-requires-2 : goal.same-requires-2
unfolding words_in split place_from
same-requires-2 c = search rules

pub returns-then-same-2 : goal.returns-then-same-2
unfolding words_in split place_from
returns-then-same-2 c = search places depth 24

pub same-requires-3 : goal.same-requires-3
unfolding words_in split place_from
same-requires-3 c = search rules

pub returns-then-same-3 : goal.returns-then-same-3
unfolding words_in split place_from
returns-then-same-3 c = search places depth 24

pub same-requires-4 : goal.same-requires-4
unfolding words_in split place_from
same-requires-4 c = search rules

pub returns-then-same-4 : goal.returns-then-same-4
unfolding words_in split place_from
returns-then-same-4 c = search places depth 24

pub condition_place_from_nine-requires : goal.condition_place_from_nine-requires
unfolding words_in split place_from
condition_place_from_nine-requires c = search rules

pub returns : goal.returns
unfolding words_in split place_from
returns c = search places depth 24
