-- The lists of an answer, and the answer of a whole call (document 01, "A refusal is number, line, column, detail").
use Rattle.std.specs.Prelude.{ℕ, zero, suc, List, [], ◌∷◌, length}
use Rattle.model.specs.declared.Trigger.{Trigger}
use Rattle.model.specs.declared.Trigger.TheVariants.{HttpTrigger}
use Rattle.model.specs.declared.Condition.{Condition}
use Rattle.model.specs.declared.Condition.TheVariants.{ControllerActive}
use Rattle.model.specs.declared.Triggers.{Triggers}
use Rattle.model.specs.declared.Conditions.{Conditions}
use Rattle.model.specs.declared.Answer.{Answer}

-- a list as n entries, of which those past its end have one fixed value
unfoldable pub padded : {A B : Type 0} → (A → B) → B → ℕ → List A → List B
padded row unused zero xs = []
padded row unused (suc n) [] = unused ∷ padded row unused n []
padded row unused (suc n) (x ∷ xs) = row x ∷ padded row unused n xs

-- "a list of four records, each holding its enum, with a count"; unused ones hold HttpTrigger and ControllerActive
unfoldable pub triggers_of : List Trigger → Triggers
triggers_of xs =
    record {
      rows = padded (λ (x : Trigger). record { trigger = x }) (record { trigger = HttpTrigger }) 4 xs;
      count = length xs;
    }

unfoldable pub conditions_of : List Condition → Conditions
conditions_of ys =
    record {
      rows = padded (λ (y : Condition). record { condition = y }) (record { condition = ControllerActive }) 4 ys;
      count = length ys;
    }

-- "Acceptance is four zeros"
unfoldable pub accepted_with : List Trigger → List Condition → Answer
accepted_with xs ys =
    record { number = 0; line = 0; column = 0; detail = 0; triggers = triggers_of xs; conditions = conditions_of ys }

-- "A refusal is number, line, column, detail. Lists are then empty."
unfoldable pub refused_with : ℕ → ℕ → ℕ → ℕ → Answer
refused_with number line column detail =
    record {
      number = number;
      line = line;
      column = column;
      detail = detail;
      triggers = triggers_of [];
      conditions = conditions_of [];
    }
