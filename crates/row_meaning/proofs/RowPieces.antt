-- The rule text for a row: its parts, that each piece of it is one token, and that it is short.
use Prim.Native.Nat.{ℕ, ◌≤◌}
use native.Mathlib.Omega.{arith}
use mathlib.Core.Path.{◌≡◌, refl}
use mathlib.Core.Bool.{true, false, false≢true}
use mathlib.Core.List.{List, [], ◌∷◌, ◌++◌}
use lib.ListN.{length}
use lib.Dec.{leb}
use borrow.Author.Tests.{leb-true, le-leb}
use Rattle.text.specs.Choice.{pick}
use Rattle.text.specs.Literal.{ascii}
use Rattle.text.specs.Split.{split}
use Rattle.text.proofs.Tests.{both}
use Rattle.tokens.specs.Kind.{CLOSE}
use Rattle.tokens.specs.Rules.{most_run}
use Rattle.model.specs.Ranges.{Each}
use Rattle.model.specs.declared.Aggregate.{Aggregate}
use Rattle.model.specs.declared.Online.{Online}
use Rattle.model.specs.declared.Power.{Power}
use Rattle.sheet.specs.declared.resolve.Scope.{Scope}
use Rattle.writing.specs.Pieces.{Piece, words, spelled_sign, spaced}
use Rattle.writing.specs.Possible.{is_string}
use Rattle.writing.specs.Write.{power_word, aggregate_word, online_words}
use Rattle.writing.proofs.LengthLaws.{room, room-append, spaced-room}
use Rattle.writing.proofs.WordLaws.{is_written}
use Rattle.rereading.proofs.Stands.{Good}
use Rattle.rereading.proofs.GoodLaws.{are_good, each-good, good-append}
use Rattle.old_rows.specs.Row.{is_known}
use Rattle.old_rows.specs.declared.row.Change.{Change}
use Rattle.old_rows.specs.declared.row.Change.TheVariants.{Lamp, Group, Device, Unknown}
use Rattle.row_meaning.specs.Meaning.{adapter_pieces, name_pieces, rule_for}
use Rattle.row_meaning.proofs.OneRow.{InByte, name-long, Kept}

-- ---- its parts

-- the word before the reference
abbrev pub kind_word : Change → List ℕ
kind_word (Lamp power) = ascii "lamp"
kind_word (Group state) = ascii "group"
kind_word (Device state) = ascii "device"
kind_word Unknown = []

-- what stands behind it
abbrev pub change_pieces : Change → List Piece
change_pieces (Lamp power) = Piece.word (ascii "turns") ∷ Piece.word (power_word power) ∷ []
change_pieces (Group state) = Piece.word (ascii "becomes") ∷ Piece.word (aggregate_word state) ∷ []
change_pieces (Device state) = words (online_words state)
change_pieces Unknown = []

-- the trigger, behind `when`
abbrev pub trigger_for : Change → Scope → List ℕ → List Piece
trigger_for change scope name = Piece.word (kind_word change) ∷ name_pieces scope name ++ change_pieces change

pub rule-parts : (change : Change) (scope : Scope) (name : List ℕ) → is_known change ≡ true →
    rule_for change scope name ≡ Piece.word (ascii "when") ∷ trigger_for change scope name
unfolding rule_for is_known split
rule-parts (Lamp Power.On) scope name k = refl
rule-parts (Lamp Power.Off) scope name k = refl
rule-parts (Group Aggregate.AnyOn) scope name k = refl
rule-parts (Group Aggregate.AllOff) scope name k = refl
rule-parts (Device Online.GoesOffline) scope name k = refl
rule-parts (Device Online.ComesOnline) scope name k = refl
rule-parts Unknown scope name k = absurd (false≢true k)

-- ---- one token each, and not many bytes

-- the fixed words, computed change by change
abbrev fixed : Change → List Piece
fixed change = Piece.word (ascii "when") ∷ Piece.word (kind_word change) ∷ change_pieces change

fixed-good : (change : Change) → is_known change ≡ true → pick (are_good (fixed change)) (leb (room (fixed change)) 28) false ≡ true
unfolding is_known split
fixed-good (Lamp Power.On) k = refl
fixed-good (Lamp Power.Off) k = refl
fixed-good (Group Aggregate.AnyOn) k = refl
fixed-good (Group Aggregate.AllOff) k = refl
fixed-good (Device Online.GoesOffline) k = refl
fixed-good (Device Online.ComesOnline) k = refl
fixed-good Unknown k = absurd (false≢true k)

adapter-good : (scope : Scope) → InByte scope → are_good (adapter_pieces scope) ≡ true
unfolding adapter_pieces
adapter-good Scope.Any small = refl
adapter-good (Scope.On a) small = rw (le-leb a most_run (omega arith))

adapter-room : (scope : Scope) → room (adapter_pieces scope) ≤ 23
unfolding adapter_pieces spelled_sign
adapter-room Scope.Any = omega arith
adapter-room (Scope.On a) = omega arith

module _ {name : List ℕ} {change : Change} {scope : Scope} (k : Kept name change scope) where
  pub rule-good : is_string name ≡ true → Each Good (rule_for change scope name)
  unfolding name_pieces
  rule-good quoted =
      let words = both (is_written (kind_word change)) (both (are_good (fixed change)) (fixed-good change k.known)).0 in
      rw (rule-parts change scope name k.known)
      (each-good (Piece.word (ascii "when") ∷ trigger_for change scope name)
      (simp good-append (simp (words.0, quoted, adapter-good scope k.in_byte, words.1))))

  pub rule-short : length (spaced (rule_for change scope name)) ≤ 106
  unfolding name_pieces spelled_sign
  rule-short =
      let few : room (fixed change) ≤ 28 = leb-true _ _ (both (are_good (fixed change)) (fixed-good change k.known)).1 in
      let name-few : length name ≤ 48 = (name-long name k.named).1 in
      let ps = Piece.word (ascii "when") ∷ trigger_for change scope name in
      rw (rule-parts change scope name k.known)
      (omega (
        arith,
        spaced-room ps,
        room-append (name_pieces scope name) (change_pieces change),
        room-append (adapter_pieces scope) (Piece.sign CLOSE ∷ []),
        adapter-room scope,
      ))
