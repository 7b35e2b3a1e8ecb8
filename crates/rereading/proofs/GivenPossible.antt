-- An entry that some text gives is possible, if its names stand inside their own text: the test of 55 turns away nothing else (specs/Given.antt).
use Prim.Native.Nat.{ℕ}
use mathlib.Core.Path.{◌≡◌}
use mathlib.Core.Bool.{true}
use mathlib.Core.List.{List}
use Rattle.model.specs.Ranges.{Each}
use Rattle.model.specs.declared.Condition.{Condition}
use Rattle.model.specs.declared.Trigger.{Trigger}
use Rattle.language.specs.Same.{trigger_parts, condition_parts}
use Rattle.writing.specs.Possible.{possible_trigger, possible_condition}
use Rattle.rereading.specs.Given.{Among, Inside, TriggerGiven, ConditionGiven}
use Rattle.rereading.proofs.ReadingPossible.{reading-possible}
use Rattle.rereading.proofs.SamePossible.{same-possible, same-possible_condition}

-- what holds of each entry holds of one among them
pub among-each : {A : Type 0} {P : A → Type 0} {x : A} {xs : List A} → Among x xs → Each P xs → P x
among-each Among.here (Each.more h hs) = h
among-each (Among.later a) (Each.more h hs) = among-each a hs

pub given-possible : (text : List ℕ) (x : Trigger) → Each (Inside text) (trigger_parts x).names → TriggerGiven text x → possible_trigger text x ≡ true
given-possible text x h g =
    same-possible text g.written x g.trigger h g.same
    (among-each g.among (reading-possible g.call g.in_range g.written g.sheet g.lent g.size _ _ g.reads).0)

pub given-possible_condition : (text : List ℕ) (y : Condition) → Each (Inside text) (condition_parts y).names → ConditionGiven text y →
    possible_condition text y ≡ true
given-possible_condition text y h g =
    same-possible_condition text g.written y g.condition h g.same
    (among-each g.among (reading-possible g.call g.in_range g.written g.sheet g.lent g.size _ _ g.reads).1)
