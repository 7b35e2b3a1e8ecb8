use mathlib.Core.Path.{◌≡◌, sym}
use mathlib.Core.List.{List}
use Prim.Native.Nat.{ℕ, ◌+◌, ◌<◌}
use lib.ListN.{length, get_or}
use Rattle.text.specs.Utf8.{chars}
use Rattle.text.specs.Place.{after, step_of}
use Rattle.text.specs.declared.place.Place.{Place}
use Rattle.std.specs.Prelude.{Some}
use Rattle.text.proofs.Utf8Laws.{decode-byte}
use Rattle.text.proofs.StepLaws.{to-next}
use Rattle.text.proofs.place.Place.bump.Goals as goal

at_byte : (s : List ℕ) (p : Place) {b : ℕ} {q : Place} → p.at < length s → get_or s p.at 0 < 0x80 → b ≡ get_or s p.at 0 →
    q ≡ after p (record { code = b; next = p.at + 1 }) → Some (b, q) ≡ step_of p (chars s p.at)
at_byte s p h k d e = to-next s p (sym (decode-byte s p.at h k)) (rw d) e

pub returns-then-b-lt128 : goal.returns-then-b-lt128
returns-then-b-lt128 c = at_byte _ _ c.if-at-s.true c.if-b-lt128.true c.from-code.ensures c.after.ensures
