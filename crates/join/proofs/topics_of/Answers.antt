use mathlib.Core.Path.{refl}
use borrow.Author.Rules.{rules}
use Rattle.join.proofs.TopicLaws.{gathered_none, gathered-on, gathered-all}
use Rattle.join.proofs.topics_of.Goals as goal

pub loop-i-init : goal.loop-i-init
loop-i-init c = (gathered_none c.args.list refl, search rules, search rules)

pub loop-i-preserved : goal.loop-i-preserved
loop-i-preserved c = (gathered-on c.args.list _ c.loop-i.invariant.0 (search rules) c.topic_of.ensures c.with_topic-topics.ensures.of_topics, search rules, search rules)

pub returns : goal.returns
returns c = record { value = search (rules, gathered-all); count_le_most_kept = search rules }
