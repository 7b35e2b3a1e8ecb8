-- An outcome's answer and buffer.
use Prim.Native.Nat.{ℕ}
use mathlib.Core.Path.{◌≡◌, ap, ◌∙◌}
use mathlib.Core.List.{List, []}
use Rattle.writing.specs.Writing.{Outcome, refused_at}
use Rattle.writing.specs.declared.Written.{Written}

-- handed on by a callee
pub handed_on : {a : Written} {after : List ℕ} {o whole : Outcome} → o ≡ whole → (a ≡ o.answer) × (after ≡ o.buffer) →
    (a ≡ whole.answer) × (after ≡ whole.buffer)
handed_on e h = (h.0 ∙ ap (λ (o : Outcome). o.answer) e, h.1 ∙ ap (λ (o : Outcome). o.buffer) e)

-- "Bytes past the text, and all on refusal, stay."
pub refused_by : (number line : ℕ) {b : List ℕ} {whole : Outcome} {a : Written} → refused_at number line b ≡ whole →
    a ≡ (refused_at number line []).answer → (a ≡ whole.answer) × (b ≡ whole.buffer)
unfolding refused_at
refused_by number line e h = (h ∙ ap (λ (o : Outcome). o.answer) e, ap (λ (o : Outcome). o.buffer) e)
