-- Steps that several forms share.
use Rattle.std.specs.Prelude.{ℕ, Bool, true, false, List, ℤ, pos, neg_ℤ}
use Rattle.text.specs.Literal.{ascii}
use Rattle.tokens.specs.Result.{Res, ok, bind}
use Rattle.tokens.specs.Kind.{WORD, POINT}
use Rattle.tokens.specs.Cursor.{Tok, take_kind, take_word}
use Rattle.tokens.specs.Phrase.{phrase_at}
use Rattle.sheet.specs.View.{View}
use Rattle.references.specs.Refs.{quoted_name, light_target}
use Rattle.model.specs.declared.LightTarget.{LightTarget}

-- Q and these words behind it; the value is the index of the name's token
unfoldable pub named_phrase : (ℕ → Tok) → List ℕ → ℕ → Res ℕ
named_phrase t list i = bind (quoted_name t i) (λ n j. bind (phrase_at t list j) (λ a k. ok n k))

-- `for` and TARGET
unfoldable pub target_for : (ℕ → Tok) → View → ℕ → Res LightTarget
target_for t view i = bind (take_word t (ascii "for") i) (λ a j. light_target t view j)

-- a point and any word behind it; the value is the word's index
unfoldable pub property_word : (ℕ → Tok) → ℕ → Res ℕ
property_word t i = bind (take_kind t POINT i) (λ a j. bind (take_kind t WORD j) (λ n k. ok j k))

-- a number behind a sign
unfoldable pub signed : Bool → ℕ → ℤ
signed true n = neg_ℤ (pos n)
signed false n = pos n
