-- What is read of pieces: a value of the grammar that is shown as what was written, names by bytes.
use Prim.Native.Nat.{ℕ}
use mathlib.Core.Path.{◌≡◌}
use Rattle.language.specs.Same.{Shown}

-- from i to j, by this form
pub record Read {A : Type 0} (Form : ℕ → A → ℕ → Type 0) (shown : A → Shown A) (i : ℕ) (given : Shown A) (j : ℕ) : Type 0 where
  pub value : A
  pub reads : Form i value j
  pub same : shown value ≡ given

pub read_as : {A : Type 0} {Form : ℕ → A → ℕ → Type 0} {shown : A → Shown A} {i j : ℕ} {given : Shown A} (x : A) → Form i x j → shown x ≡ given →
    Read Form shown i given j
read_as x h e = record { value = x; reads = h; same = e }
