-- Every entry of a reading is possible: the test of writing/specs/Possible.antt turns away nothing that a text gives.
use Prim.Native.Nat.{ℕ, ◌≤◌}
use mathlib.Core.Path.{◌≡◌}
use mathlib.Core.Bool.{true}
use mathlib.Core.List.{List}
use Rattle.tokens.proofs.NumberLaws.{token-numbers}
use Rattle.sheet.specs.declared.Call.{Call}
use Rattle.model.specs.Limits.{last_adapter}
use Rattle.model.specs.Ranges.{Each}
use Rattle.model.specs.declared.Condition.{Condition}
use Rattle.model.specs.declared.Trigger.{Trigger}
use Rattle.language.specs.Demand.{HasReading}
use Rattle.language.proofs.RangeLaws.{ranges}
use Rattle.language.proofs.NumberLaws.{numbers}
use Rattle.writing.specs.Possible.{possible_trigger, possible_condition}
use Rattle.rereading.proofs.PossibleLaws.{trigger-possible, condition-possible}
use Rattle.rereading.proofs.StringTokens.{string-tokens}
use Rattle.rereading.proofs.ReadingNames.{reading-names}

each_of_lem : {A : Type 0} {P Q R S : A → Type 0} → ((x : A) → P x → Q x → R x → S x) → {xs : List A} → Each P xs → Each Q xs → Each R xs → Each S xs
each_of_lem f Each.none Each.none Each.none = Each.none
each_of_lem f (Each.more {x} h hs) (Each.more k ks) (Each.more m ms) = Each.more (f x h k m) (each_of_lem f hs ks ms)

-- a call's primary adapter is a byte: with a greater one a broadcast, or a scene without an adapter, would be on no adapter that there is
pub reading-possible : (call : Call) → call.primary ≤ last_adapter → (text sheet : List ℕ) (lent : List (List ℕ)) (size : ℕ) (xs : List Trigger)
    (ys : List Condition) → HasReading call text sheet lent size xs ys →
    Each (λ (x : Trigger). possible_trigger text x ≡ true) xs × Each (λ (y : Condition). possible_condition text y ≡ true) ys
reading-possible call in_range text sheet lent size xs ys h =
    let r = ranges call sheet in_range h.reading in
    let k = numbers (token-numbers text h.gives.lexed) h.reading in
    let n = reading-names (string-tokens h.gives) h.reading in
    (each_of_lem (trigger-possible text) r.triggers k.triggers n.0, each_of_lem (condition-possible text) r.conditions k.conditions n.1)
