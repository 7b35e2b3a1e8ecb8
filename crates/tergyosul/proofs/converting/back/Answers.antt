use Prim.Native.Nat.{ℕ}
use mathlib.Core.Path.{◌≡◌, ◌∙◌, ap}
use Rattle.model.specs.declared.Triggers.{Triggers}
use Rattle.writing.specs.Writing.{Outcome}
use Rattle.old_rows.specs.Back.{back_of}
use Rattle.tergyosul.specs.Converting.{triggers_alone, condition_count}
use Rattle.tergyosul.proofs.converting.back.Goals as goal

pub returns : goal.returns
returns c = let a = c.args in
    let l = c.triggers_alone-l.ensures in
    let n = c.condition_count-conditions.ensures in
    let of : Triggers → ℕ → Outcome = λ k m. back_of a.party a.primary a.sheet.now k m a.out.now in
    let same : of c.triggers_alone-l.result c.condition_count-conditions.result ≡ of (triggers_alone a.lists.now) (condition_count a.lists.now) = rw (l, n) in
    record { value = c.back.ensures.value ∙ ap (λ (o : Outcome). o.answer) same; rows = c.back.ensures.buffer ∙ ap (λ (o : Outcome). o.buffer) same }
