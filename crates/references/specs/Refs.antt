-- R, DEV, TARGET and Q: what is answered for a reference at a token (document 01, "Grammar", and questions 20 to 34).
-- t is the tokens, view what the call sees of the sheet.
use Rattle.std.specs.Prelude.{ℕ, length, ltb, leb, eqb, Result, Ok, Err}
use Rattle.text.specs.Choice.{pick}
use Rattle.text.specs.Literal.{ascii}
use Rattle.tokens.specs.Result.{Res, ok, no, bind, perhaps, refuse}
use Rattle.tokens.specs.Kind.{STRING, INTEGER, OPEN, CLOSE, COMMA, ASSIGN}
use Rattle.tokens.specs.Cursor.{Tok, is_kind, is_word, take_kind, take_word, take_in}
use Rattle.model.specs.Limits.{last_short_address, last_group, last_adapter, longest_name}
use Rattle.sheet.specs.Kind.{lamp_kind, group_kind, device_kind, input_kind}
use Rattle.sheet.specs.View.{View}
use Rattle.sheet.specs.Resolve.{pick_named}
use Rattle.sheet.specs.declared.resolve.Scope.{Scope}
use Rattle.sheet.specs.declared.resolve.Scope.TheVariants.{Any, On}
use Rattle.sheet.specs.declared.resolve.Unfound.{Unfound}
use Rattle.model.specs.declared.Ref.{Ref}
use Rattle.references.specs.declared.refs.NameOrId.{NameOrId}
use Rattle.references.specs.declared.refs.NameOrId.TheVariants.{Name, Id}
use Rattle.model.specs.declared.LightTarget.{LightTarget}

-- "Name not empty? 23. Name at most 48 bytes? 24", at the string itself
unfoldable pub checked_name : (ℕ → Tok) → ℕ → Res ℕ
checked_name t i =
    bind (take_kind t STRING i)
    (λ n j. pick (eqb (length (t i).bytes) 0) (refuse 23 i) (pick (ltb longest_name (length (t i).bytes)) (refuse 24 i) (ok n j)))

-- "Q is `(` quoted name `)`, not looked up"; the value is the index of the name's token
unfoldable pub closed_name : (ℕ → Tok) → ℕ → Res ℕ
closed_name t i = bind (checked_name t i) (λ n j. bind (take_kind t CLOSE j) (λ b k. ok i k))

unfoldable pub quoted_name : (ℕ → Tok) → ℕ → Res ℕ
quoted_name t i = bind (take_kind t OPEN i) (λ a j. closed_name t j)

-- a name or an id, with the index of its token; the id's range is judged later. Document 02, §9: "It refuses a numbered reference with 57", "at the id"
unfoldable pub name_or_id : (ℕ → Tok) → View → ℕ → Res NameOrId
name_or_id t view i =
    pick (is_kind t STRING i) (bind (checked_name t i) (λ n j. ok (Name i) j))
    (bind (take_kind t INTEGER i) (λ n j. pick (view.allows i) (ok (Id n i) j) (refuse 57 i)))

-- an adapter's number: in range? 22; listed? 25; both at the number
unfoldable pub adapter_number : (ℕ → Tok) → View → ℕ → Res ℕ
adapter_number t view i =
    bind (take_in t 0 last_adapter i) (λ a j. pick (view.listed a) (ok a j) (refuse 25 i))

-- `adapter = A`
unfoldable pub adapter_assign : (ℕ → Tok) → View → ℕ → Res ℕ
adapter_assign t view i =
    bind (take_word t (ascii "adapter") i) (λ a j. bind (take_kind t ASSIGN j) (λ b k. adapter_number t view k))

-- perhaps `, adapter = A`
unfoldable pub adapter_clause : (ℕ → Tok) → View → ℕ → Res Scope
adapter_clause t view i =
    perhaps (is_kind t COMMA i) i (λ j. bind (adapter_assign t view j) (λ a k. ok (On a) k)) (ok Any i)

-- "an id, address, scene or instance group without an adapter takes the primary"
unfoldable pub scope_or_primary : View → Scope → ℕ
scope_or_primary view Any = view.primary
scope_or_primary view (On a) = a

-- a row that was found, or the refusal at the name
unfoldable pub found_at : ℕ → ℕ → Result Ref Unfound → Res Ref
found_at i j (Ok r) = ok r j
found_at i j (Err e) = no (record { number = e.number; token = i; detail = e.detail })

-- what a name or an id of a kind refers to, with the last number that the kind may have; j is the next token
unfoldable pub referred : (ℕ → Tok) → View → ℕ → ℕ → Scope → ℕ → NameOrId → Res Ref
referred t view kind most scope j (Name i) = found_at i j (pick_named kind (t i).bytes scope view.rows)
referred t view kind most scope j (Id n i) =
    pick (leb n most) (ok (record { adapter = scope_or_primary view scope; number = n }) j) (refuse 22 i)

-- "R is `(` name or id, perhaps `, adapter = A` `)`": judged after the adapter clause and `)`
unfoldable pub close_r : (ℕ → Tok) → View → ℕ → ℕ → NameOrId → ℕ → Res Ref
close_r t view kind most target i =
    bind (adapter_clause t view i)
    (λ scope j. bind (take_kind t CLOSE j) (λ b k. referred t view kind most scope k target))

unfoldable pub open_r : (ℕ → Tok) → View → ℕ → ℕ → ℕ → Res Ref
open_r t view kind most i = bind (name_or_id t view i) (λ target j. close_r t view kind most target j)

unfoldable pub reference : (ℕ → Tok) → View → ℕ → ℕ → ℕ → Res Ref
reference t view kind most i = bind (take_kind t OPEN i) (λ a j. open_r t view kind most j)

unfoldable pub lamp_ref : (ℕ → Tok) → View → ℕ → Res Ref
lamp_ref t view i = reference t view lamp_kind last_short_address i

unfoldable pub group_ref : (ℕ → Tok) → View → ℕ → Res Ref
group_ref t view i = reference t view group_kind last_group i

unfoldable pub device_ref : (ℕ → Tok) → View → ℕ → Res Ref
device_ref t view i = reference t view device_kind last_short_address i

-- `(` perhaps `dev =` DEV, perhaps `, adapter = A` `)`
unfoldable pub dev_name : (ℕ → Tok) → ℕ → Res ℕ
dev_name t i = perhaps (is_word t (ascii "dev") i) i (λ j. take_kind t ASSIGN j) (ok 0 i)

unfoldable pub input_device_ref : (ℕ → Tok) → View → ℕ → Res Ref
input_device_ref t view i =
    bind (take_kind t OPEN i) (λ a j. bind (dev_name t j) (λ b k. open_r t view input_kind last_short_address k))

unfoldable pub lamp_target : (ℕ → Tok) → View → ℕ → Res LightTarget
lamp_target t view i = bind (lamp_ref t view i) (λ r j. ok (LightTarget.Lamp r) j)

unfoldable pub group_target : (ℕ → Tok) → View → ℕ → Res LightTarget
group_target t view i = bind (group_ref t view i) (λ r j. ok (LightTarget.Group r) j)

-- broadcast, whose word stands before i at an index; document 02, §9: "broadcast with 58", at "the word"
unfoldable pub broadcast_target : View → ℕ → ℕ → Res LightTarget
broadcast_target view word i = pick (view.allows word) (ok (LightTarget.Broadcast view.primary) i) (refuse 58 word)

-- "TARGET is lamp R, group R or broadcast (primary)"
unfoldable pub light_target : (ℕ → Tok) → View → ℕ → Res LightTarget
light_target t view i =
    perhaps (is_word t (ascii "lamp") i) i (λ j. lamp_target t view j)
    (perhaps (is_word t (ascii "group") i) i (λ j. group_target t view j)
    (perhaps (is_word t (ascii "broadcast") i) i (λ j. broadcast_target view i j) (refuse 20 i)))
