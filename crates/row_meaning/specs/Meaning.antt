-- What the archive's rows mean (document 02, §10), in words other than those of the calls (old_rows/specs/Convert.antt, Back.antt): a row says what a rule text says;
-- the row that is made for a reference is told by the sheet's rows; rows that are made convert to the same list; and another party's rows have no part in it.
use Rattle.std.specs.Prelude.{ℕ, ◌≤◌, ◌≡◌, true, false, List, [], ◌∷◌, ◌++◌, map, length}
use Rattle.text.specs.Literal.{ascii}
use Rattle.tokens.specs.Kind.{OPEN, CLOSE, COMMA, ASSIGN}
use Rattle.tokens.specs.Lexing.{least_words}
use Rattle.sheet.specs.Line.{has_comma}
use Rattle.sheet.specs.Sheet.{Entry, well_formed, sheet_check}
use Rattle.sheet.specs.Party.{Agree}
use Rattle.sheet.specs.View.{View, own_primary}
use Rattle.sheet.specs.Picks.{Picks}
use Rattle.sheet.specs.declared.Call.{Call}
use Rattle.sheet.specs.declared.names.Numbered.{Numbered}
use Rattle.sheet.specs.declared.resolve.Scope.{Scope}
use Rattle.model.specs.Lists.{accepted_with}
use Rattle.model.specs.Ranges.{Each}
use Rattle.model.specs.declared.Aggregate.TheVariants.{AnyOn, AllOff}
use Rattle.model.specs.declared.Answer.{Answer}
use Rattle.model.specs.declared.Online.TheVariants.{GoesOffline, ComesOnline}
use Rattle.model.specs.declared.Power.TheVariants.{On, Off}
use Rattle.model.specs.declared.TriggerRow.{TriggerRow}
use Rattle.model.specs.declared.Triggers.{Triggers}
use Rattle.language.specs.Read.{read_of}
use Rattle.writing.specs.Pieces.{Piece, spaced}
use Rattle.writing.specs.Possible.{has_byte, is_string}
use Rattle.rereading.specs.Rereading.{written_in}
use Rattle.old_rows.specs.Row.{says, row_of, row_name}
use Rattle.old_rows.specs.Convert.{rows_of}
use Rattle.old_rows.specs.Back.{triggers_in, name_back, back_of}
use Rattle.old_rows.specs.declared.row.Change.{Change}
use Rattle.old_rows.specs.declared.row.Change.TheVariants.{Lamp, Group, Device, Unknown}

-- ---- a row and a rule text

-- "through the name rules": the reference that a rule text writes for a name, with the adapter that is named, if one is
unfoldable pub adapter_pieces : Scope → List Piece
adapter_pieces Scope.Any = []
adapter_pieces (Scope.On a) = Piece.sign COMMA ∷ Piece.word (ascii "adapter") ∷ Piece.sign ASSIGN ∷ Piece.integer a ∷ []

unfoldable pub name_pieces : Scope → List ℕ → List Piece
name_pieces scope name = Piece.sign OPEN ∷ Piece.string name ∷ adapter_pieces scope ++ Piece.sign CLOSE ∷ []

-- `when lamp ( "name" , adapter = A ) turns on`, and its like
unfoldable pub rule_for : Change → Scope → List ℕ → List Piece
rule_for (Lamp On) scope name = Piece.word (ascii "when") ∷ Piece.word (ascii "lamp") ∷ name_pieces scope name ++ Piece.word (ascii "turns") ∷ Piece.word (ascii "on") ∷ []
rule_for (Lamp Off) scope name = Piece.word (ascii "when") ∷ Piece.word (ascii "lamp") ∷ name_pieces scope name ++ Piece.word (ascii "turns") ∷ Piece.word (ascii "off") ∷ []
rule_for (Group AnyOn) scope name = Piece.word (ascii "when") ∷ Piece.word (ascii "group") ∷ name_pieces scope name ++ Piece.word (ascii "becomes") ∷ Piece.word (ascii "any_on") ∷ []
rule_for (Group AllOff) scope name = Piece.word (ascii "when") ∷ Piece.word (ascii "group") ∷ name_pieces scope name ++ Piece.word (ascii "becomes") ∷ Piece.word (ascii "all_off") ∷ []
rule_for (Device GoesOffline) scope name = Piece.word (ascii "when") ∷ Piece.word (ascii "device") ∷ name_pieces scope name ++ Piece.word (ascii "goes") ∷ Piece.word (ascii "offline") ∷ []
rule_for (Device ComesOnline) scope name = Piece.word (ascii "when") ∷ Piece.word (ascii "device") ∷ name_pieces scope name ++ Piece.word (ascii "comes") ∷ Piece.word (ascii "online") ∷ []
rule_for Unknown scope name = []

-- the same lists, or the same refusal with the same detail, wherever it stands
pub record SameVerdict (a b : Answer) : Type 0 where
  pub number : a.number ≡ b.number
  pub detail : a.detail ≡ b.detail
  pub triggers : a.triggers ≡ b.triggers
  pub conditions : a.conditions ≡ b.conditions

-- a row whose name a text can quote is answered as the rule text is, by whichever call, whatever topics are lent
abbrev pub RowAsRule : Type 0
RowAsRule =
    (call : Call) (l sheet : List ℕ) (lent : List (List ℕ)) (words : List ℕ) (change : Change) (scope : Scope) → row_of l ≡ says change scope →
    has_byte 0x0A l ≡ false → is_string (row_name l) ≡ true → sheet_check sheet ≡ well_formed → own_primary call sheet ≡ true → least_words ≤ length words →
    SameVerdict (rows_of call.party call.primary (l ++ 0x0A ∷ []) sheet)
    (read_of call (spaced (rule_for change scope (row_name l))) sheet lent words).answer

-- ---- the row that is made for a reference

-- "on a listed adapter which, with that adapter named, picks that reference and has no comma"
pub record Fitting (view : View) (of : Numbered) (e : Entry) : Type 0 where
  pub kind : e.kind ≡ of.kind
  pub adapter : e.adapter ≡ of.adapter
  pub number : e.number ≡ of.number
  pub listed : view.listed e.adapter ≡ true
  pub picks : Picks of.kind e.name (Scope.On of.adapter) view.rows e
  pub no_comma : has_comma e.name ≡ false

-- "the first sheet row" that is one
pub record FirstFitting (view : View) (of : Numbered) (e : Entry) : Type 0 where
  pub before : List Entry
  pub behind : List Entry
  pub stands : view.rows ≡ before ++ e ∷ behind
  pub none_before : Each (λ d. Fitting view of d → ⊥) before
  pub fits : Fitting view of e

-- the name is that row's, and where there is none there is no name
pub record ToldByRows : Type 0 where
  pub name : (view : View) (of : Numbered) (e : Entry) → FirstFitting view of e → name_back view of ≡ e.name
  pub none : (view : View) (of : Numbered) → Each (λ e. Fitting view of e → ⊥) view.rows → name_back view of ≡ []

-- ---- back, and converted again

-- "With the same sheet, party and primary, rows made this way convert to the same list."
abbrev pub RowsConvertBack : Type 0
RowsConvertBack =
    (party primary : ℕ) (sheet : List ℕ) (l : Triggers) (conditions : ℕ) (buffer : List ℕ) → length l.rows ≡ 4 →
    (back_of party primary sheet l conditions buffer).answer.number ≡ 0 →
    rows_of party primary (written_in (back_of party primary sheet l conditions buffer)) sheet
    ≡ accepted_with (map (λ (x : TriggerRow). x.trigger) (triggers_in l)) []

-- ---- another party's rows

-- §6, "For two accepted sheets that agree on which adapters are the party's, and on those adapters' rows in their order …, the party's call gives the same answer":
-- in both directions, with every byte of the buffer
abbrev pub IsolatedRows : Type 0
IsolatedRows =
    (party primary : ℕ) (rows s t : List ℕ) → sheet_check s ≡ well_formed → sheet_check t ≡ well_formed → Agree party s t →
    rows_of party primary rows s ≡ rows_of party primary rows t

abbrev pub IsolatedBack : Type 0
IsolatedBack =
    (party primary : ℕ) (s t : List ℕ) (l : Triggers) (conditions : ℕ) (buffer : List ℕ) → sheet_check s ≡ well_formed → sheet_check t ≡ well_formed →
    Agree party s t → back_of party primary s l conditions buffer ≡ back_of party primary t l conditions buffer
