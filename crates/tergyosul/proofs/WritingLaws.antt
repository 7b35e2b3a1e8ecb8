-- The lists of an answer's words, which are taken out entry by entry, and the five words of an answer.
use Prim.Native.Nat.{ℕ, ◌+◌, ◌*◌, ◌<◌, ◌≤◌}
use native.Mathlib.Omega.{arith}
use native.Mathlib.Numerals.{add-one}
use mathlib.Core.Path.{◌≡◌, ◌∙◌, sym}
use mathlib.Core.List.{List}
use lib.ListN.{length, get_or, set, take, drop}
use lib.Seq.{take-suc, take-suc-set, take_all, get_or-drop}
use borrow.Author.Tests.{lt-ltb, le-ltb}
use Rattle.flat.specs.Flat.{row_words, whole_row}
use Rattle.flat.specs.Back.{word}
use Rattle.flat.proofs.BackLaws.{whole_word}
use Rattle.join.proofs.ListLaws.{padded-long}
use Rattle.writing.specs.declared.Written.{Written}
use Rattle.tergyosul.specs.Lexing.{four_first}
use Rattle.tergyosul.specs.Room.{by_room}
use Rattle.tergyosul.specs.Writing.{row_in, write_answer_words, written_flat}
use Rattle.tergyosul.proofs.RoomLaws.{no_room_lem}

-- an array of n entries, of which those before i are in place
module _ {A : Type 0} {n : ℕ} (all a : List A) (i : ℕ) (whole : length all ≡ n) (size : length a ≡ n) (here : take i a ≡ take i all) where
  pub one-filled : (d : A) {x : A} → i < n → x ≡ get_or all i d → take (i + 1) (set a i x) ≡ take (i + 1) all
  one-filled d {x} h e = rw (add-one i, take-suc-set a i x (rw size h), take-suc all i d (rw whole h), here, e)

  pub all-filled : n ≤ i → a ≡ all
  all-filled h = rw (take_all i a (rw size h), take_all i all (rw whole h)) at here

module _ (words : List ℕ) (row : ℕ) where
  pub row-length : length (row_in words row) ≡ row_words
  unfolding row_in whole_row
  row-length = padded-long _ 0 row_words (drop (row * row_words) words)

  pub row_word : (i : ℕ) → i < row_words → word words (row * row_words + i) ≡ word (row_in words row) i
  unfolding row_in
  row_word i h = sym (whole_word (drop (row * row_words) words) i (lt-ltb i row_words h) ∙ get_or-drop (row * row_words) words i 0)

pub unwritten : (w : Written) (e : List ℕ) → length e < write_answer_words → e ≡ written_flat w e
unfolding written_flat
unwritten w e h = no_room_lem write_answer_words e e _ h

pub five_written : {a : List ℕ} (w : Written) (e : List ℕ) → write_answer_words ≤ length e →
    a ≡ four_first e w.number w.line w.column w.detail → set a 4 w.length ≡ written_flat w e
unfolding written_flat four_first by_room
five_written w e room four =
    let enough : 4 ≤ length e = omega arith in
    rw (four, le-ltb _ _ enough, le-ltb _ _ room)
