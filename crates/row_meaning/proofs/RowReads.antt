-- A row that is made says what it was made for: `K,name,A,word` is read as that change, that adapter and that name.
use Prim.Native.Nat.{ℕ, ◌≤◌}
use native.Mathlib.Omega.{arith}
use mathlib.Core.Path.{◌≡◌, refl}
use mathlib.Core.Bool.{Bool, true, false, false≢true}
use mathlib.Core.List.{List, [], ◌∷◌, ◌++◌, append_assoc}
use lib.ListN.{length}
use lib.Dec.{ltb}
use borrow.Author.Tests.{ltb-true, le-leb, ne_eqb}
use Rattle.text.specs.Choice.{pick}
use Rattle.text.specs.Literal.{ascii}
use Rattle.text.specs.Part.{same_bytes}
use Rattle.text.proofs.Tests.{both}
use Rattle.tokens.specs.Rules.{Without}
use Rattle.model.specs.Limits.{last_adapter}
use Rattle.model.specs.declared.Power.TheVariants.{On, Off}
use Rattle.model.specs.declared.Aggregate.TheVariants.{AnyOn, AllOff}
use Rattle.model.specs.declared.Online.TheVariants.{GoesOffline, ComesOnline}
use Rattle.sheet.specs.Line.{is_name}
use Rattle.sheet.specs.declared.resolve.Scope.{Scope}
use Rattle.writing.specs.Pieces.{decimal}
use Rattle.rereading.proofs.StringTokens.{without-both}
use Rattle.old_rows.specs.Back.{kind_word, change_word, row_bytes}
use Rattle.old_rows.specs.Row.{says, lamp_change, group_change, device_change, change_of, is_known, on_adapter, scoped, behind_name, behind_kind, row_of, row_name}
use Rattle.old_rows.specs.declared.row.Change.{Change}
use Rattle.old_rows.specs.declared.row.Change.TheVariants.{Lamp, Group, Device, Unknown}
use Rattle.row_meaning.proofs.FieldLaws.{field_seam, rest_seam, comma_seam}
use Rattle.row_meaning.proofs.DecimalLaws.{numeral-decimal, decimal-without, decimal-some}

-- ---- the words of a change

kind_field : Change → List ℕ
kind_field (Lamp power) = ascii "lamp"
kind_field (Group state) = ascii "group"
kind_field (Device state) = ascii "device"
kind_field Unknown = []

change_field : Change → List ℕ
change_field (Lamp On) = ascii "on"
change_field (Lamp Off) = ascii "off"
change_field (Group AnyOn) = ascii "any_on"
change_field (Group AllOff) = ascii "all_off"
change_field (Device GoesOffline) = ascii "offline"
change_field (Device ComesOnline) = ascii "online"
change_field Unknown = []

-- bytes over the comma, which is over LF
are_over : List ℕ → Bool
are_over [] = true
are_over (c ∷ l) = pick (ltb 0x2C c) (are_over l) false

over-without : (b : ℕ) (l : List ℕ) → b ≤ 0x2C → are_over l ≡ true → Without b l
unfolding are_over
over-without b [] h e = Without.none
over-without b (c ∷ l) h e =
    let (over, others) = both (ltb 0x2C c) e in
    let above = ltb-true 0x2C c over in
    Without.more {d = c} (λ is. omega arith) (over-without b l h others)

-- they are those that are written, and say the change
record Words (change : Change) : Type 0 where
  kind : kind_word change ≡ kind_field change ++ 0x2C ∷ []
  word : change_word change ≡ 0x2C ∷ change_field change ++ 0x0A ∷ []
  says : change_of (kind_field change) (change_field change) ≡ change
  kind_over : are_over (kind_field change) ≡ true
  word_over : are_over (change_field change) ≡ true

words : (change : Change) → is_known change ≡ true → Words change
unfolding is_known kind_word change_word kind_field change_field change_of lamp_change group_change device_change same_bytes are_over
words (Lamp On) e = record { kind = refl; word = refl; says = refl; kind_over = refl; word_over = refl }
words (Lamp Off) e = record { kind = refl; word = refl; says = refl; kind_over = refl; word_over = refl }
words (Group AnyOn) e = record { kind = refl; word = refl; says = refl; kind_over = refl; word_over = refl }
words (Group AllOff) e = record { kind = refl; word = refl; says = refl; kind_over = refl; word_over = refl }
words (Device GoesOffline) e = record { kind = refl; word = refl; says = refl; kind_over = refl; word_over = refl }
words (Device ComesOnline) e = record { kind = refl; word = refl; says = refl; kind_over = refl; word_over = refl }
words Unknown e = absurd (false≢true e)

-- ---- the row

-- without its LF
pub bare_row : Change → List ℕ → ℕ → List ℕ
bare_row change name adapter = kind_field change ++ 0x2C ∷ (name ++ 0x2C ∷ (decimal adapter ++ 0x2C ∷ change_field change))

comma-on : {l : List ℕ} → Without 0x0A l → Without 0x0A (0x2C ∷ l)
comma-on h = Without.more {d = 0x2C} (λ is. omega arith) h

module _ (change : Change) (known : is_known change ≡ true) (name : List ℕ) (adapter : ℕ) where
  pub row_ends : row_bytes change name adapter ≡ bare_row change name adapter ++ 0x0A ∷ []
  unfolding row_bytes bare_row
  row_ends = rw ((words change known).kind, (words change known).word) (simp append_assoc)

  module _ (in_range : adapter ≤ last_adapter) where
    pub row-feed : Without 0x0A name → Without 0x0A (bare_row change name adapter)
    unfolding bare_row
    row-feed h =
        let w = words change known in
        without-both (over-without 0x0A (kind_field change) (omega arith) w.kind_over)
        (comma-on
        (without-both h
        (comma-on
        (without-both (decimal-without adapter in_range 0x0A (omega arith))
        (comma-on (over-without 0x0A (change_field change) (omega arith) w.word_over))))))

    module _ (no_comma : Without 0x2C name) where
      pub row_name_lem : row_name (bare_row change name adapter) ≡ name
      unfolding row_name bare_row
      row_name_lem =
          let kind = over-without 0x2C (kind_field change) (omega arith) (words change known).kind_over in
          let behind = decimal adapter ++ 0x2C ∷ change_field change in
          rw (rest_seam kind (name ++ 0x2C ∷ behind)) (field_seam no_comma behind)

      pub row-says : is_name name ≡ true → row_of (bare_row change name adapter) ≡ says change (Scope.On adapter)
      unfolding row_of bare_row behind_kind behind_name scoped on_adapter
      row-says rule =
          let kind = over-without 0x2C (kind_field change) (omega arith) (words change known).kind_over in
          let digits = decimal-without adapter in_range 0x2C (omega arith) in
          let word = change_field change in
          let behind = decimal adapter ++ 0x2C ∷ word in
          rw (
            comma_seam kind (name ++ 0x2C ∷ behind),
            field_seam kind (name ++ 0x2C ∷ behind),
            rest_seam kind (name ++ 0x2C ∷ behind),
            comma_seam no_comma behind,
            field_seam no_comma behind,
            rest_seam no_comma behind,
            rule,
            comma_seam digits word,
            field_seam digits word,
            rest_seam digits word,
            (words change known).says,
            known,
            ne_eqb (length (decimal adapter)) 0 (omega (arith, decimal-some adapter in_range)),
            numeral-decimal adapter in_range,
            le-leb adapter last_adapter in_range,
          )
