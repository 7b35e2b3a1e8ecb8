use mathlib.Core.Path.{◌∙◌, ap}
use Rattle.chains.specs.declared.Chain.{Chain}
use Rattle.tergyosul.specs.Chains.{chain_flat}
use Rattle.tergyosul.proofs.RoomLaws.{no_room_lem, room}
use Rattle.tergyosul.proofs.ChainLaws.{unwritten}
use Rattle.tergyosul.proofs.chain.tergyosul_next_chain.Goals as goal

pub returns-then-answer-lt-CHAIN_WORDS : goal.returns-then-answer-lt-CHAIN_WORDS
returns-then-answer-lt-CHAIN_WORDS c = let short = c.if-answer-lt-CHAIN_WORDS.true in record { number = no_room_lem _ _ _ _ short; answer = unwritten _ _ short }

pub returns : goal.returns
returns c = let entry = c.args.answer.now in
    let d = c.next-c.ensures.chain in
    let long = c.if-answer-lt-CHAIN_WORDS.false in
    record { number = room _ _ _ long (ap (λ (x : Chain). x.number) d); answer = c.put_chain.ensures ∙ ap (λ (x : Chain). chain_flat x entry) d }
