-- The names of a sheet's rows: each keeps the sheet's name rule and has no LF. So the name that a row is made with is short, where there is one its adapter
-- is one of the 256, and a row has at most 68 bytes.
use Prim.Native.Nat.{ℕ, zero, suc, ◌+◌, ◌-◌, ◌/◌, ◌≤◌, ◌<◌}
use native.Mathlib.Omega.{arith}
use mathlib.Core.Path.{◌≡◌, refl}
use mathlib.Core.Bool.{Bool, true, false}
use mathlib.Core.List.{List, [], ◌∷◌}
use lib.ListN.{length, take, drop, get_or, length-append}
use lib.Dec.{ltb, leb, eqb}
use borrow.Author.Tests.{leb-true, lt-ltb, eqb-false}
use Rattle.std.specs.Prelude.{Option, Some, None}
use Rattle.text.specs.Find.{index_of}
use Rattle.text.specs.Choice.{within}
use Rattle.text.specs.Literal.{ascii}
use Rattle.text.specs.Part.{same_bytes}
use Rattle.text.specs.Split.{onto, parted, split}
use Rattle.text.proofs.Tests.{picked, both}
use Rattle.tokens.specs.Rules.{Without}
use Rattle.model.specs.Limits.{last_adapter, last_party, longest_name}
use Rattle.model.specs.Ranges.{Each}
use Rattle.model.specs.declared.Power.TheVariants.{On, Off}
use Rattle.model.specs.declared.Aggregate.TheVariants.{AnyOn, AllOff}
use Rattle.model.specs.declared.Online.TheVariants.{GoesOffline, ComesOnline}
use Rattle.sheet.specs.Adapters.{has}
use Rattle.sheet.specs.Kind.{kind_of, most_of}
use Rattle.sheet.specs.Line.{without_return, field, rest, has_comma, numeral, is_name, checked_row, read_row, primary_of, adapter_of, party_by, party_of, line_by, bare_line, bare_name, line_of, name_of}
use Rattle.sheet.specs.Names.{is_for, names_for}
use Rattle.sheet.specs.Party.{entries_on}
use Rattle.sheet.specs.Sheet.{Entry, entry_by, entries}
use Rattle.sheet.specs.View.{View, view_of}
use Rattle.sheet.specs.declared.Settings.{Settings}
use Rattle.sheet.specs.declared.line.Line.{Line}
use Rattle.sheet.specs.declared.line.Line.TheVariants.{Primary, Adapter, Party, Row}
use Rattle.sheet.specs.declared.names.Numbered.{Numbered}
use Rattle.sheet.proofs.LineLaws.{given}
use Rattle.writing.specs.Pieces.{decimal, decimal_from}
use Rattle.old_rows.specs.Back.{is_fitting, first_fitting, name_back, kind_word, change_word, row_bytes}
use Rattle.old_rows.specs.declared.row.Change.{Change}
use Rattle.old_rows.specs.declared.row.Change.TheVariants.{Lamp, Group, Device, Unknown}

-- ---- the name rule

-- a line with a name has one that keeps the rule
LineNamed : List ℕ → Option Line → Type 0
LineNamed name (Some (Primary a)) = Unit {0}
LineNamed name (Some (Adapter a)) = Unit {0}
LineNamed name (Some (Party a party)) = Unit {0}
LineNamed name (Some (Row kind a n)) = is_name name ≡ true
LineNamed name None = Unit {0}

bad : (name : List ℕ) → LineNamed name None
unfolding LineNamed
bad name = tt

primary-named : (name : List ℕ) (a : ℕ) → LineNamed name (primary_of a)
unfolding primary_of LineNamed
primary-named name a = picked (LineNamed name) (leb a last_adapter) (λ _. tt) (λ _. tt)

adapter-named : (name : List ℕ) (a : ℕ) → LineNamed name (adapter_of a)
unfolding adapter_of LineNamed
adapter-named name a = picked (LineNamed name) (leb a last_adapter) (λ _. tt) (λ _. tt)

party_by-named : (name : List ℕ) (a party : ℕ) → LineNamed name (party_by a party)
unfolding party_by LineNamed
party_by-named name a party =
    picked (LineNamed name) (leb a last_adapter) (λ _. picked (LineNamed name) (leb party last_party) (λ _. tt) (λ _. tt)) (λ _. tt)

party-named : (name l : List ℕ) → LineNamed name (party_of l)
unfolding party_of
party-named name l = picked (LineNamed name) (has_comma l)
    (λ _. given (LineNamed name) _ (numeral (field l)) (bad name) (λ a _. given (LineNamed name) _ (numeral (rest l)) (bad name) (λ p _. party_by-named name a p)))
    (λ _. bad name)

checked-named : (name : List ℕ) (kind a n : ℕ) → LineNamed name (checked_row kind a n name)
unfolding checked_row LineNamed
checked-named name kind a n =
    picked (LineNamed name) (leb a last_adapter)
    (λ _. picked (LineNamed name) (leb n (most_of kind)) (λ _. picked (LineNamed name) (is_name name) (λ e. e) (λ _. tt)) (λ _. tt))
    (λ _. tt)

row_named : (kind : ℕ) (l : List ℕ) → LineNamed (rest (rest l)) (read_row kind l)
unfolding read_row
row_named kind l =
    let name = rest (rest l) in
    picked (LineNamed name) (has_comma l)
    (λ _. picked (LineNamed name) (has_comma (rest l)) (λ _. given (LineNamed name) _ (numeral (field l)) (bad name) (λ a _. given (LineNamed name) _ (numeral (field (rest l))) (bad name) (λ n _. checked-named name kind a n))) (λ _. bad name))
    (λ _. bad name)

by-named : (w l : List ℕ) → LineNamed (rest (rest l)) (line_by w l)
unfolding line_by
by-named w l =
    let name = rest (rest l) in
    picked (LineNamed name) (same_bytes w (ascii "primary")) (λ _. given (LineNamed name) _ (numeral l) (bad name) (λ a _. primary-named name a))
    (λ _.
    picked (LineNamed name) (same_bytes w (ascii "adapter")) (λ _. given (LineNamed name) _ (numeral l) (bad name) (λ a _. adapter-named name a))
    (λ _.
    picked (LineNamed name) (same_bytes w (ascii "party")) (λ _. party-named name l)
    (λ _. given (LineNamed name) _ (kind_of w) (bad name) (λ kind _. row_named kind l))))

bare-named : (l : List ℕ) → LineNamed (bare_name l) (bare_line l)
unfolding bare_line bare_name
bare-named l =
    let name = rest (rest (rest l)) in
    picked (LineNamed name) (has_comma l) (λ _. by-named (field l) (rest l)) (λ _. bad name)

line-named : (l : List ℕ) → LineNamed (name_of l) (line_of l)
unfolding line_of name_of
line-named l = bare-named (without_return l)

-- ---- no LF

-- the parts of bytes that are parted at b have no b
onto-without : {b c : ℕ} {ls : List (List ℕ)} → (c ≡ b → ⊥) → Each (Without b) ls → Each (Without b) (onto c ls)
onto-without n Each.none = Each.more (Without.more n Without.none) Each.none
onto-without n (Each.more h hs) = Each.more (Without.more n h) hs

parted-without : (b c : ℕ) (t : Bool) {ls : List (List ℕ)} → eqb c b ≡ t → Each (Without b) ls → Each (Without b) (parted t c ls)
parted-without b c true e hs = Each.more Without.none hs
parted-without b c false e hs = onto-without (eqb-false c b e) hs

pub split-without : (b : ℕ) (s : List ℕ) → Each (Without b) (split b s)
unfolding split
split-without b [] = Each.none
split-without b (c ∷ s) = parted-without b c (eqb c b) refl (split-without b s)

take-without : {b : ℕ} {l : List ℕ} (n : ℕ) → Without b l → Without b (take n l)
take-without zero h = Without.none
take-without (suc n) Without.none = Without.none
take-without (suc n) (Without.more d h) = Without.more d (take-without n h)

drop-without : {b : ℕ} {l : List ℕ} (n : ℕ) → Without b l → Without b (drop n l)
drop-without zero h = h
drop-without (suc n) Without.none = Without.none
drop-without (suc n) (Without.more d h) = drop-without n h

rest-without : {b : ℕ} {l : List ℕ} → Without b l → Without b (rest l)
unfolding rest
rest-without {b} {l} h = drop-without (index_of 0x2C l + 1) h

return_without : {b : ℕ} {l : List ℕ} → Without b l → Without b (without_return l)
unfolding without_return
return_without {b} {l} h =
    picked (Without b) (eqb (get_or l (length l - 1) 0) 0x0D) (λ _. take-without (length l - 1) h) (λ _. h)

name-without : {b : ℕ} {l : List ℕ} → Without b l → Without b (name_of l)
unfolding name_of bare_name
name-without h = rest-without (rest-without (rest-without (return_without h)))

-- ---- the rows

-- a row's name keeps the rule and has no LF
pub record RowName (name : List ℕ) : Type 0 where
  pub rule : is_name name ≡ true
  pub no_feed : Without 0x0A name

entry_named : (l : Option Line) (name : List ℕ) {es : List Entry} → LineNamed name l → Without 0x0A name → Each (λ (e : Entry). RowName e.name) es →
    Each (λ (e : Entry). RowName e.name) (entry_by l name es)
unfolding LineNamed
entry_named (Some (Primary a)) name h w hs = hs
entry_named (Some (Adapter a)) name h w hs = hs
entry_named (Some (Party a party)) name h w hs = hs
entry_named (Some (Row kind a n)) name h w hs = Each.more (record { rule = h; no_feed = w }) hs
entry_named None name h w hs = hs

rows_named : {ls : List (List ℕ)} → Each (Without 0x0A) ls → Each (λ (e : Entry). RowName e.name) (entries ls)
unfolding entries
rows_named Each.none = Each.none
rows_named (Each.more {x = l} h hs) = entry_named (line_of l) (name_of l) (line-named l) (name-without h) (rows_named hs)

rows_on : {P : Entry → Type 0} (own : ℕ → Bool) {es : List Entry} → Each P es → Each P (entries_on own es)
unfolding entries_on
rows_on own Each.none = Each.none
rows_on {P} own (Each.more {x = e} h hs) = picked (Each P) (own e.adapter) (λ _. Each.more h (rows_on own hs)) (λ _. rows_on own hs)

pub names-seen : (settings : Settings) (s : List ℕ) → Each (λ (e : Entry). RowName e.name) (view_of settings s).rows
unfolding view_of
names-seen settings s = rows_on (has settings.own) (rows_named (split-without 0x0A s))

-- ---- the name that a row is made with

-- what holds of no bytes, and of every name that fits, holds of it
names_for_lem : {P : List ℕ → Type 0} (of : Numbered) {es : List Entry} → Each (λ (e : Entry). P e.name) es → Each P (names_for of es)
unfolding names_for
names_for_lem of Each.none = Each.none
names_for_lem {P} of (Each.more {x = e} h hs) =
    picked (Each P) (is_for of e.kind e.adapter e.number) (λ _. Each.more h (names_for_lem of hs)) (λ _. names_for_lem of hs)

module _ (P : List ℕ → Type 0) (nothing : P []) (view : View) (of : Numbered) where
  fitting-by : {names : List (List ℕ)} → Each (λ (name : List ℕ). is_fitting view of name ≡ true → P name) names → P (first_fitting view of names)
  unfolding first_fitting
  fitting-by Each.none = nothing
  fitting-by (Each.more {x = name} h hs) = picked P (is_fitting view of name) h (λ _. fitting-by hs)

  back_by : (view.listed of.adapter ≡ true → Each (λ (e : Entry). is_fitting view of e.name ≡ true → P e.name) view.rows) →
      P (name_back view of)
  unfolding name_back
  back_by h = picked P (view.listed of.adapter) (λ e. fitting-by (names_for_lem of (h e))) (λ _. nothing)

each_map : {A : Type 0} {P Q : A → Type 0} → ((x : A) → P x → Q x) → {xs : List A} → Each P xs → Each Q xs
each_map f Each.none = Each.none
each_map f (Each.more {x = x} h hs) = Each.more (f x h) (each_map f hs)

-- where there is one, its adapter is listed, it fits, and it is a row's name
pub record BackName (view : View) (of : Numbered) (name : List ℕ) : Type 0 where
  pub listed : view.listed of.adapter ≡ true
  pub fits : is_fitting view of name ≡ true
  pub is_row : RowName name

back-known : (view : View) (of : Numbered) → Each (λ (e : Entry). RowName e.name) view.rows →
    (length (name_back view of) ≡ 0 → ⊥) → BackName view of (name_back view of)
back-known view of names =
    back_by (λ (name : List ℕ). (length name ≡ 0 → ⊥) → BackName view of name) (λ some. absurd (some refl)) view of
    (λ listed. each_map (λ e r fits some. record { listed = listed; fits = fits; is_row = r }) names)

name-short : (name : List ℕ) → is_name name ≡ true → length name ≤ longest_name
unfolding is_name
name-short name e = leb-true _ _ (both (leb 1 (length name)) (both (within 1 longest_name (length name)) e).0).1

module _ (settings : Settings) (s : List ℕ) (of : Numbered) where
  pub back-name : (length (name_back (view_of settings s) of) ≡ 0 → ⊥) → BackName (view_of settings s) of (name_back (view_of settings s) of)
  back-name = back-known (view_of settings s) of (names-seen settings s)

  pub back-name-short : length (name_back (view_of settings s) of) ≤ longest_name
  back-name-short =
      back_by (λ (name : List ℕ). length name ≤ longest_name) (omega arith) (view_of settings s) of
      (λ _. each_map (λ e r _. name-short e.name r.rule) (names-seen settings s))

  pub back-adapter : (length (name_back (view_of settings s) of) ≡ 0 → ⊥) → of.adapter ≤ last_adapter
  unfolding view_of has
  back-adapter some =
      let known = (both (has settings.own of.adapter) (back-name some).listed).0 in
      leb-true _ _ (both (leb of.adapter last_adapter) known).0

-- ---- how long a row is

-- a number under 1,000 has at most three digits
one-digit : (most n : ℕ) → n < 10 → length (decimal_from most n) ≤ 1
unfolding decimal_from
one-digit zero n h = omega arith
one-digit (suc most) n h = rw (lt-ltb n 10 h) (omega arith)

more-digits : (most n k : ℕ) → 1 ≤ k → length (decimal_from most (n / 10)) ≤ k → length (decimal_from (suc most) n) ≤ suc k
unfolding decimal_from
more-digits most n k one h =
    picked (λ (l : List ℕ). length l ≤ suc k) (ltb n 10) (λ _. omega arith) (λ _. simp length-append (omega arith))

decimal-short : (n : ℕ) → n < 1000 → length (decimal n) ≤ 3
unfolding decimal
decimal-short n h = more-digits 9 n 2 (omega arith) (more-digits 8 (n / 10) 1 (omega arith) (one-digit 8 (n / 10 / 10) (omega arith)))

words-short : (change : Change) → length (kind_word change) + length (change_word change) ≤ 16
unfolding kind_word change_word
words-short (Lamp On) = omega arith
words-short (Lamp Off) = omega arith
words-short (Group AnyOn) = omega arith
words-short (Group AllOff) = omega arith
words-short (Device GoesOffline) = omega arith
words-short (Device ComesOnline) = omega arith
words-short Unknown = omega arith

pub row-short : (change : Change) (name : List ℕ) (adapter : ℕ) → length name ≤ longest_name → adapter ≤ last_adapter →
    length (row_bytes change name adapter) ≤ 68
unfolding row_bytes
row-short change name adapter short known =
    simp length-append (omega (arith, words-short change, decimal-short adapter (omega arith)))
