-- A call without room for its answer, and one with room.
use Prim.Native.Nat.{ℕ, ◌<◌, ◌≤◌}
use mathlib.Core.Path.{◌≡◌}
use mathlib.Core.List.{List}
use lib.ListN.{length}
use borrow.Author.Tests.{lt-ltb, le-ltb}
use Rattle.tergyosul.specs.Room.{by_room}

module _ {A : Type 0} (needed : ℕ) (answer : List ℕ) where
  pub no_room_lem : (x y : A) → length answer < needed → x ≡ by_room needed answer x y
  unfolding by_room
  no_room_lem x y h = rw (lt-ltb _ _ h)

  pub room : (x : A) {y z : A} → needed ≤ length answer → z ≡ y → z ≡ by_room needed answer x y
  unfolding by_room
  room x h e = rw (le-ltb _ _ h) e
