-- What is answered of the rule text's tokens, by what is found for its name.
use Prim.Native.Nat.{ℕ, ◌+◌}
use mathlib.Core.Path.{◌≡◌, refl}
use mathlib.Core.Bool.{true, false≢true}
use mathlib.Core.List.{List, [], ◌∷◌, ◌++◌}
use borrow.Author.Tests.{eq-eqb}
use Rattle.text.specs.Literal.{ascii}
use Rattle.text.specs.Part.{same_bytes}
use Rattle.text.specs.Split.{split}
use Rattle.tokens.specs.Result.{Res, ok, bind}
use Rattle.tokens.specs.Cursor.{Tok}
use Rattle.tokens.specs.Phrase.{words_in, position, has_place, phrase_choice}
use Rattle.tokens.proofs.Okay.{word-yes, word_none}
use Rattle.tokens.proofs.PhraseLaws.{phrase-complete, choice-complete, two_complete, either_first, either_second}
use Rattle.topics.specs.Ranges.{topic_by}
use Rattle.topics.specs.Topics.{fits}
use Rattle.model.specs.Limits.{last_short_address, last_group}
use Rattle.model.specs.declared.Name.{Name}
use Rattle.model.specs.declared.Online.{Online}
use Rattle.model.specs.declared.Ref.{Ref}
use Rattle.model.specs.declared.Trigger.{Trigger}
use Rattle.sheet.specs.View.{View}
use Rattle.sheet.specs.declared.resolve.Scope.{Scope}
use Rattle.references.specs.Refs.{reference, lamp_ref, group_ref, device_ref}
use Rattle.language.specs.Section.{repeated, Topics, trigger_named, when_section, if_section, Lists, at_end, rule_at}
use Rattle.language.specs.Topics.{topic_name, topic_of}
use Rattle.language.specs.Trigger.{power_of, aggregate_of, online_of, device_trigger, group_trigger, lamp_change, lamp_trigger, trigger_words, trigger_by, trigger_at}
use Rattle.writing.specs.Pieces.{Piece}
use Rattle.rereading.proofs.Stands.{Stands}
use Rattle.rereading.proofs.StandsLaws.{head, rest, parted, word_read, phrase-read}
use Rattle.rereading.proofs.ChoiceReads.{power-read, aggregate-read}
use Rattle.old_rows.specs.Row.{is_known}
use Rattle.old_rows.specs.Convert.{changed_kind, trigger_by as changed, found_of}
use Rattle.old_rows.specs.declared.row.Change.{Change}
use Rattle.old_rows.specs.declared.row.Change.TheVariants.{Lamp, Group, Device, Unknown}
use Rattle.row_meaning.specs.Meaning.{name_pieces, rule_for}
use Rattle.row_meaning.proofs.OneRow.{Kept}
use Rattle.row_meaning.proofs.NamedReads.{ByFound, found-then, named-reference}
use Rattle.row_meaning.proofs.RowPieces.{trigger_for, rule-parts}

-- the lists of a rule whose one trigger is the row's
abbrev pub ruled : Change → Ref → Lists
ruled change r = record { triggers = changed change r ∷ []; conditions = [] }

-- which names no topic
no-topic : (written : Name → List ℕ) (change : Change) (r : Ref) → topic_of written (changed change r) ≡ []
unfolding topic_of topic_by topic_name changed
no-topic written (Lamp power) r = refl
no-topic written (Group state) r = refl
no-topic written (Device state) r = refl
no-topic written Unknown r = refl

module _ {t : ℕ → Tok} (view : View) (range : ℕ → Name) (fuel : ℕ) where
  -- a trigger that is its first word, the n-th, a reference by name, and what g takes behind that
  by_name : {name : List ℕ} {change : Change} {scope : Scope} → Kept name change scope → (n most : ℕ) (g : Ref → ℕ → Res Trigger) →
      {w : List ℕ} {ps : List Piece} {i j : ℕ} → position w (words_in trigger_words) ≡ n → has_place (words_in trigger_words) n ≡ true →
      trigger_by t view range fuel n (i + 1) ≡ bind (reference t view (changed_kind change) most (i + 1)) g →
      ((m : ℕ) → Stands t m ps j → (r : Ref) → g r m ≡ ok (changed change r) j) → Stands t i (Piece.word w ∷ name_pieces scope name ++ ps) j →
      ByFound (changed change) j (found_of view change scope name) (trigger_at t view range fuel i)
  unfolding found_of trigger_at
  by_name {name} {change} {scope} k n most g place has is behind s =
      let (m, ref, after) = parted (name_pieces scope name) _ (rest s) in
      rw (choice-complete t trigger_words 21 (word_read (head s)) place has, is)
      (found-then g (named-reference view scope name (changed_kind change) most k.in_byte k.named ref) (behind m after))

  trigger-found : (change : Change) {scope : Scope} {name : List ℕ} {i j : ℕ} → Kept name change scope → Stands t i (trigger_for change scope name) j →
      ByFound (changed change) j (found_of view change scope name) (trigger_at t view range fuel i)
  unfolding changed changed_kind trigger_by lamp_trigger lamp_ref lamp_change power_of group_trigger group_ref phrase_choice aggregate_of device_trigger device_ref
      online_of is_known words_in split position same_bytes
  trigger-found (Lamp power) k =
      by_name k 3 last_short_address _ refl refl refl
      (λ m s r.
      let p = two_complete t (ascii "on off") 21 refl refl (power-read power (rest s)) in
      rw (word-yes t (word_read (head s)), p.answered, p.meant))
  trigger-found (Group state) k =
      by_name k 4 last_group _ refl refl refl
      (λ m s r.
      let p = two_complete t (ascii "any_on all_off") 21 refl refl (aggregate-read state (rest s)) in
      rw (phrase-complete t (phrase-read _ (head s)), p.answered, p.meant))
  trigger-found (Device Online.GoesOffline) k =
      by_name k 6 last_short_address _ refl refl refl
      (λ m s r. rw (either_first t (ascii "goes offline") (ascii "comes online") refl (phrase-read _ s)))
  trigger-found (Device Online.ComesOnline) k =
      by_name k 6 last_short_address _ refl refl refl
      (λ m s r. rw (either_second t (ascii "goes offline") (ascii "comes online") refl refl refl (phrase-read _ s)))
  trigger-found Unknown k = absurd (false≢true k.known)

  module _ (topics : Topics) {change : Change} {scope : Scope} {name : List ℕ} (k : Kept name change scope) where
    named-found : (named : List (List ℕ)) {i j : ℕ} → Stands t i (trigger_for change scope name) j →
        ByFound (changed change) j (found_of view change scope name) (trigger_named t view range topics fuel named i)
    unfolding trigger_named fits
    named-found named s = found-then _ (trigger-found change k s) (λ r. rw (no-topic topics.written change r))

    -- the one trigger, and nothing behind it
    whens-found : {j : ℕ} → Stands t 0 (rule_for change scope name) j → (t j).kind ≡ 0 →
        ByFound (λ r. changed change r ∷ []) j (found_of view change scope name) (when_section t view range topics fuel 0)
    unfolding when_section repeated
    whens-found s end =
        let s = rw (rule-parts change scope name k.known) at s in
        rw (word-yes t (word_read (head s))) (found-then _ (named-found [] (rest s)) (λ r. rw (word_none t (ascii "when") refl end)))

    pub rule_found : {j : ℕ} → Stands t 0 (rule_for change scope name) j → (t j).kind ≡ 0 →
        ByFound (ruled change) j (found_of view change scope name) (rule_at t view range topics fuel)
    unfolding rule_at if_section at_end
    rule_found {j} s end = found-then _ (whens-found s end) (λ r. rw (word_none t (ascii "if") refl end, eq-eqb (t j).kind 0 end))
