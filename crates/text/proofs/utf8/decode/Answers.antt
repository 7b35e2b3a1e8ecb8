use mathlib.Core.Path.{◌≡◌, ◌∙◌, sym, subst}
use mathlib.Core.List.{List}
use Prim.Native.Nat.{ℕ, ◌+◌, ◌<◌}
use lib.ListN.{length, get_or}
use Rattle.text.specs.Rfc3629.{Stands}
use Rattle.text.specs.Utf8.{sequence_length, sized, decode_at}
use Rattle.text.specs.declared.utf8.Decoded.{Decoded}
use Rattle.text.proofs.Tests.{steps}
use Rattle.text.proofs.Utf8Laws.{decode-end, decode-on}
use Rattle.text.proofs.Utf8Rules.{stands}
use Rattle.text.proofs.utf8.decode.Goals as goal

-- the answer by the length, and so by the rules
by_size : (s : List ℕ) (at n a : ℕ) (r : Decoded) → at < length s → n ≡ sequence_length (get_or s at 0) → a ≡ get_or s at 0 →
    r ≡ sized n at a (get_or s (at + 1) 0) (get_or s (at + 2) 0) (get_or s (at + 3) 0) → r ≡ decode_at s at
by_size s at n a r h e f k = k ∙ rw (e, f) (sym (decode-on s at h))

by_rules : (s : List ℕ) (at : ℕ) {r : Decoded} → r ≡ decode_at s at → Stands s at r
by_rules s at e = subst (Stands s at) (sym e) (stands s at)

pub returns-then-s-at : goal.returns-then-s-at
returns-then-s-at c =
    let e = decode-end _ _ c.if-s-at.true in
    record { value = e; rules = by_rules _ _ e }

pub returns-in-1 : goal.returns-in-1
unfolding sized
returns-in-1 c =
    let e = by_size c.args.s.now c.args.at _ _ _ c.if-s-at.false c.sequence_length.ensures c.from-a.ensures (rw c.in-1.is) in
    record { value = e; rules = by_rules _ _ e }

pub returns-in-2 : goal.returns-in-2
unfolding sized
returns-in-2 c =
    let e = by_size c.args.s.now c.args.at _ _ _ c.if-s-at.false c.sequence_length.ensures c.from-a.ensures (rw c.in-2.is (cc)) in
    record { value = e; rules = by_rules _ _ e }

pub returns-in-3 : goal.returns-in-3
unfolding sized
returns-in-3 c =
    let e = by_size c.args.s.now c.args.at _ _ _ c.if-s-at.false c.sequence_length.ensures c.from-a.ensures (rw c.in-3.is (cc)) in
    record { value = e; rules = by_rules _ _ e }

pub returns-in-4 : goal.returns-in-4
unfolding sized
returns-in-4 c =
    let e = by_size c.args.s.now c.args.at _ _ _ c.if-s-at.false c.sequence_length.ensures c.from-a.ensures (rw c.in-4.is (cc)) in
    record { value = e; rules = by_rules _ _ e }

pub returns-in_default : goal.returns-in_default
unfolding sized
returns-in_default c =
    let e = by_size c.args.s.now c.args.at _ _ _ c.if-s-at.false c.sequence_length.ensures c.from-a.ensures (search steps depth 8) in
    record { value = e; rules = by_rules _ _ e }
