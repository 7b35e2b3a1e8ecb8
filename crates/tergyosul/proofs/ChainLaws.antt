-- The words of a chain: one piece more is written, and all of them are.
use Prim.Native.Nat.{ℕ, ◌+◌, ◌≤◌, ◌<◌}
use native.Mathlib.Omega.{arith}
use native.Mathlib.Numerals.{add-one}
use mathlib.Core.Path.{◌≡◌, ◌∙◌}
use mathlib.Core.List.{List}
use lib.ListN.{length, get_or, set, drop, drop_of_length-le}
use lib.Seq.{drop-cons, sets}
use borrow.Author.Tests.{le-ltb}
use Rattle.text.specs.Place.{counted}
use Rattle.chains.specs.declared.Chain.{Chain}
use Rattle.tergyosul.specs.Chains.{chain_answer_words, chain_flat}
use Rattle.tergyosul.specs.Lexing.{four_first}
use Rattle.tergyosul.specs.Room.{by_room}
use Rattle.tergyosul.proofs.RoomLaws.{no_room_lem}

pub unwritten : (c : Chain) (e : List ℕ) → length e < chain_answer_words → e ≡ chain_flat c e
unfolding chain_flat
unwritten c e h = no_room_lem chain_answer_words e e _ h

pub one_piece : {all : List ℕ} (v a : List ℕ) (i : ℕ) → i < length v → sets a (5 + i) (drop i v) ≡ all →
    sets (set a (5 + i) (get_or v i 0)) (5 + (i + 1)) (drop (i + 1) v) ≡ all
one_piece v a i h inv =
    let further : 5 + (i + 1) ≡ 5 + i + 1 = omega arith in
    rw (further, add-one (5 + i), add-one i) (rw (drop-cons v i 0 h) at inv)

pub all-pieces : {a f : List ℕ} {n i : ℕ} (c : Chain) (e : List ℕ) → chain_answer_words ≤ length e → f ≡ four_first e c.number 0 0 0 → n ≡ counted c.count →
    length c.pieces ≤ i → sets a (5 + i) (drop i c.pieces) ≡ sets (set f 4 n) 5 c.pieces → a ≡ chain_flat c e
unfolding chain_flat four_first by_room
all-pieces {a} {f} {n} {i} c e room four count done inv =
    let enough : 4 ≤ length e = omega arith in
    let stored : a ≡ sets (set f 4 n) 5 c.pieces = rw (drop_of_length-le c.pieces done) at inv in
    stored ∙ rw (four, count, le-ltb _ _ enough, le-ltb _ _ room)
