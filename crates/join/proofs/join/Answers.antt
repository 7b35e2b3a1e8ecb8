use borrow.Author.Rules.{rules}
use Rattle.topics.specs.Topics.{lent_topics}
use Rattle.join.proofs.CallLaws.{finished, finished-triggers, held-front, earlier-words, first_refused, second_refused, both-accepted, promised}
use Rattle.join.proofs.join.Goals as goal

pub returns-then-one-ne0 : goal.returns-then-one-ne0
returns-then-one-ne0 c =
    let p = promised c.args.party c.args.primary (search (rules, c.ranges)) c.args.first.now c.args.second.now c.args.sheet.now
    (lent_topics c.args.lent.now) c.args.words.now c.args.others.now
    (first_refused _ _ _ _ _ _ _ _ c.read-one.ensures.value.0 c.read-one.ensures.value.1 c.if-one-ne0.true c.refused.ensures) in
    record { value = p.0; first = p.1.0; second = p.1.1.0; exactly = p.1.1.1 }

pub topics_of-topics-requires : goal.topics_of-topics-requires
topics_of-topics-requires c = finished-triggers (finished _ _ _ _ _ c.read-one.ensures.reading c.if-one-ne0.false)

pub slice_bounds-read_after-end : goal.slice_bounds-read_after-end
slice_bounds-read_after-end c = held-front _ _ c.topics_of-topics.ensures.value c.topics_of-topics.ensures.count_le_most_kept

pub returns-then-two-ne0 : goal.returns-then-two-ne0
returns-then-two-ne0 c =
    let p = promised c.args.party c.args.primary (search (rules, c.ranges)) c.args.first.now c.args.second.now c.args.sheet.now
    (lent_topics c.args.lent.now) c.args.words.now c.args.others.now
    (second_refused _ _ _ _ _ _ _ _ c.read-one.ensures.value.0 c.read-one.ensures.value.1 c.if-one-ne0.false
    (earlier-words _ _ (finished _ _ _ _ _ c.read-one.ensures.reading c.if-one-ne0.false) c.topics_of-topics.ensures.value)
    c.read_after-two.ensures.value.0 c.read_after-two.ensures.value.1 c.if-two-ne0.true c.refused-then-two-ne0.ensures) in
    record { value = p.0; first = p.1.0; second = p.1.1.0; exactly = p.1.1.1 }

pub both_read-requires : goal.both_read-requires
both_read-requires c =
    (finished _ _ _ _ _ c.read-one.ensures.reading c.if-one-ne0.false, finished _ _ _ _ _ c.read_after-two.ensures.reading c.if-two-ne0.false)

pub returns : goal.returns
returns c =
    let p = promised c.args.party c.args.primary (search (rules, c.ranges)) c.args.first.now c.args.second.now c.args.sheet.now
    (lent_topics c.args.lent.now) c.args.words.now c.args.others.now
    (both-accepted _ _ _ _ _ _ _ _ c.read-one.ensures.value.0 c.read-one.ensures.value.1 c.if-one-ne0.false
    (earlier-words _ _ (finished _ _ _ _ _ c.read-one.ensures.reading c.if-one-ne0.false) c.topics_of-topics.ensures.value)
    c.read_after-two.ensures.value.0 c.read_after-two.ensures.value.1 c.if-two-ne0.false c.both_read.ensures) in
    record { value = p.0; first = p.1.0; second = p.1.1.0; exactly = p.1.1.1 }
