-- The sheet before document 02, §8: no CR belonged to a line's end, and "A name has 1 to 48 bytes without comma, quote or LF." A sheet with
-- neither CR nor a comma in a name says what it said then, line by line and as a whole.
use mathlib.Core.Path.{◌≡◌, refl}
use mathlib.Core.Bool.{Bool, true, false, not}
use mathlib.Core.List.{List, [], ◌∷◌}
use Prim.Native.Nat.{ℕ, zero, suc, ◌+◌}
use lib.ListN.{length, drop}
use lib.Dec.{ltb, leb, eqb}
use Rattle.std.specs.Prelude.{Option, Some, None, option_and_then}
use Rattle.text.specs.Find.{index_of}
use Rattle.text.specs.Choice.{pick, within}
use Rattle.text.specs.Literal.{ascii}
use Rattle.text.specs.Part.{same_bytes}
use Rattle.model.specs.Limits.{last_adapter, longest_name}
use Rattle.sheet.specs.Kind.{kind_of, most_of}
use Rattle.sheet.specs.Line.{field, rest, has_comma, numeral, is_mark, plain, is_name, checked_row, read_row, primary_of, adapter_of, party_of, line_by, bare_line, bare_name, line_of, name_of}
use Rattle.sheet.specs.Sheet.{lines, is_owner_of, has_owner, may_follow, last_line, Sheet, well_formed, bad_line_rule, following_check, is_primary, lines_check, longest_sheet, sheet_check, Entry, entry_by, entries, is_listing, lists, primary_by, primary_line}
use Rattle.sheet.specs.Party.{owner_by, owner_of}
use Rattle.sheet.specs.declared.line.Line.{Line}
use Rattle.sheet.specs.declared.line.Line.TheVariants.{Primary, Adapter, Party, Row}
use Rattle.sheet.proofs.ReturnLaws.{holds, neither, return_free}

-- ---- the former line

unfoldable pub former_mark : ℕ → Bool
former_mark c = pick (eqb c 0x2C) true (eqb c 0x22)

unfoldable pub former_plain : List ℕ → Bool
former_plain [] = true
former_plain (c ∷ l) = pick (former_mark c) false (former_plain l)

unfoldable pub former_is_name : List ℕ → Bool
former_is_name l = pick (within 1 longest_name (length l)) (former_plain l) false

unfoldable pub former_checked_row : ℕ → ℕ → ℕ → List ℕ → Option Line
former_checked_row kind adapter number name =
    pick (leb adapter last_adapter) (pick (leb number (most_of kind)) (pick (former_is_name name) (Some (Row kind adapter number)) None) None) None

unfoldable pub former_read_row : ℕ → List ℕ → Option Line
former_read_row kind l =
    pick (has_comma l)
    (pick (has_comma (rest l))
    (option_and_then (λ a. option_and_then (λ n. former_checked_row kind a n (rest (rest l))) (numeral (field (rest l)))) (numeral (field l)))
    None)
    None

unfoldable pub former_line_by : List ℕ → List ℕ → Option Line
former_line_by w l =
    pick (same_bytes w (ascii "primary")) (option_and_then primary_of (numeral l))
    (pick (same_bytes w (ascii "adapter")) (option_and_then adapter_of (numeral l))
    (pick (same_bytes w (ascii "party")) (party_of l)
    (option_and_then (λ kind. former_read_row kind l) (kind_of w))))

unfoldable pub former_line_of : List ℕ → Option Line
former_line_of l = pick (has_comma l) (former_line_by (field l) (rest l)) None

unfoldable pub former_name_of : List ℕ → List ℕ
former_name_of l = rest (rest (rest l))

-- a line without CR, and without a comma behind its third
pub record Plain (l : List ℕ) : Type 0 where
  pub no_return : holds 0x0D l ≡ false
  pub no_comma : holds 0x2C (former_name_of l) ≡ false

-- ---- it says the same

holds-drop : (b n : ℕ) (l : List ℕ) → holds b l ≡ false → holds b (drop n l) ≡ false
unfolding holds
holds-drop b zero l h = h
holds-drop b (suc n) [] h = h
holds-drop b (suc n) (c ∷ l) h = holds-drop b n l (neither (eqb c b) h).1

holds-rest : (b : ℕ) (l : List ℕ) → holds b l ≡ false → holds b (rest l) ≡ false
unfolding rest
holds-rest b l h = holds-drop b (index_of 0x2C l + 1) l h

-- a byte that is neither CR nor comma is a mark as it was: q says whether it is a quote
by-quote : (q u : Bool) → pick (pick q true false) false u ≡ pick q false u
by-quote true u = refl
by-quote false u = refl

same-plain : (l : List ℕ) → holds 0x0D l ≡ false → holds 0x2C l ≡ false → plain l ≡ former_plain l
unfolding holds plain is_mark former_plain former_mark
same-plain [] h k = refl
same-plain (c ∷ l) h k =
    let r = neither (eqb c 0x0D) h in
    let s = neither (eqb c 0x2C) k in
    rw (r.0, s.0, same-plain l r.1 s.1) (by-quote (eqb c 0x22) (former_plain l))

module _ {l : List ℕ} (p : Plain l) where
  same-rule : is_name (former_name_of l) ≡ former_is_name (former_name_of l)
  unfolding is_name former_is_name former_name_of
  same-rule =
      let none : holds 0x0D (former_name_of l) ≡ false = holds-rest 0x0D _ (holds-rest 0x0D _ (holds-rest 0x0D l p.no_return)) in
      rw (same-plain (former_name_of l) none p.no_comma)

  pub same_line : line_of l ≡ former_line_of l
  unfolding line_of bare_line line_by read_row checked_row former_line_of former_line_by former_read_row former_checked_row former_name_of
  same_line = rw (return_free l p.no_return, same-rule)

  pub same_name : name_of l ≡ former_name_of l
  unfolding name_of bare_name former_name_of
  same_name = rw (return_free l p.no_return)

-- ---- and so does the sheet

pub data PlainLines : List (List ℕ) → Type 0 where
  none : PlainLines []
  one : {l : List ℕ} {ls : List (List ℕ)} → Plain l → PlainLines ls → PlainLines (l ∷ ls)

unfoldable pub former_has_owner : ℕ → List (List ℕ) → Bool
former_has_owner a [] = false
former_has_owner a (l ∷ ls) = pick (is_owner_of a (former_line_of l)) true (former_has_owner a ls)

unfoldable pub former_may_follow : List (List ℕ) → Option Line → Bool
former_may_follow earlier (Some (Primary a)) = false
former_may_follow earlier (Some (Adapter a)) = true
former_may_follow earlier (Some (Party a party)) = not (former_has_owner a earlier)
former_may_follow earlier (Some (Row kind adapter number)) = true
former_may_follow earlier None = false

unfoldable pub former_following_check : ℕ → List (List ℕ) → List (List ℕ) → Sheet
former_following_check n earlier [] = well_formed
former_following_check n earlier (l ∷ ls) =
    pick (ltb last_line n) (bad_line_rule n)
    (pick (former_may_follow earlier (former_line_of l)) (former_following_check (n + 1) (l ∷ earlier) ls) (bad_line_rule n))

unfoldable pub former_lines_check : List (List ℕ) → Sheet
former_lines_check [] = bad_line_rule 1
former_lines_check (l ∷ ls) = pick (is_primary (former_line_of l)) (former_following_check 2 [] ls) (bad_line_rule 1)

unfoldable pub former_sheet_check : List ℕ → Sheet
former_sheet_check s = pick (ltb longest_sheet (length s)) (bad_line_rule 0) (former_lines_check (lines s))

unfoldable pub former_entries : List (List ℕ) → List Entry
former_entries [] = []
former_entries (l ∷ ls) = entry_by (former_line_of l) (former_name_of l) (former_entries ls)

unfoldable pub former_lists : ℕ → List (List ℕ) → Bool
former_lists a [] = false
former_lists a (l ∷ ls) = pick (is_listing a (former_line_of l)) true (former_lists a ls)

unfoldable pub former_owner_of : ℕ → List (List ℕ) → ℕ
former_owner_of a [] = 0
former_owner_of a (l ∷ ls) = owner_by a (former_line_of l) (former_owner_of a ls)

unfoldable pub former_primary_line : List (List ℕ) → ℕ
former_primary_line [] = 0
former_primary_line (l ∷ ls) = primary_by (former_line_of l)

same-has : (a : ℕ) {ls : List (List ℕ)} → PlainLines ls → has_owner a ls ≡ former_has_owner a ls
unfolding has_owner former_has_owner
same-has a none = refl
same-has a (one p ps) = rw (same_line p, same-has a ps)

same_follow : {earlier : List (List ℕ)} → PlainLines earlier → (l : Option Line) → may_follow earlier l ≡ former_may_follow earlier l
unfolding may_follow former_may_follow
same_follow ps (Some (Primary a)) = refl
same_follow ps (Some (Adapter a)) = refl
same_follow ps (Some (Party a party)) = rw (same-has a ps)
same_follow ps (Some (Row kind adapter number)) = refl
same_follow ps None = refl

same-following : (n : ℕ) {earlier ls : List (List ℕ)} → PlainLines earlier → PlainLines ls →
    following_check n earlier ls ≡ former_following_check n earlier ls
unfolding following_check former_following_check
same-following n es none = refl
same-following n es (one {l} p ps) = rw (same_line p, same_follow es (former_line_of l), same-following (n + 1) (one p es) ps)

same_lines : {ls : List (List ℕ)} → PlainLines ls → lines_check ls ≡ former_lines_check ls
unfolding lines_check former_lines_check
same_lines none = refl
same_lines (one p ps) = rw (same_line p, same-following 2 none ps)

pub same_check : (s : List ℕ) → PlainLines (lines s) → sheet_check s ≡ former_sheet_check s
unfolding sheet_check former_sheet_check
same_check s ps = rw (same_lines ps)

pub same_entries : {ls : List (List ℕ)} → PlainLines ls → entries ls ≡ former_entries ls
unfolding entries former_entries
same_entries none = refl
same_entries (one p ps) = rw (same_line p, same_name p, same_entries ps)

pub same_lists : (a : ℕ) {ls : List (List ℕ)} → PlainLines ls → lists a ls ≡ former_lists a ls
unfolding lists former_lists
same_lists a none = refl
same_lists a (one p ps) = rw (same_line p, same_lists a ps)

pub same-owner : (a : ℕ) {ls : List (List ℕ)} → PlainLines ls → owner_of a ls ≡ former_owner_of a ls
unfolding owner_of former_owner_of
same-owner a none = refl
same-owner a (one p ps) = rw (same_line p, same-owner a ps)

pub same-primary : {ls : List (List ℕ)} → PlainLines ls → primary_line ls ≡ former_primary_line ls
unfolding primary_line former_primary_line
same-primary none = refl
same-primary (one p ps) = rw (same_line p)
