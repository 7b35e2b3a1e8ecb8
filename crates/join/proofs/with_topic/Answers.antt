use mathlib.Core.Path.{refl}
use Rattle.join.proofs.TopicLaws.{topic_more}
use Rattle.join.proofs.with_topic.Goals as goal

pub returns-in-Some-clause-of_topics : goal.returns-in-Some-clause-of_topics
returns-in-Some-clause-of_topics c = topic_more _ _ c.in-Some.is c.requires refl
