-- The third demand of document 01 (specs/Demand.antt), of the definition of the whole call (specs/Read.antt).
use Rattle.std.specs.Prelude.{Ok}
use Prim.Native.Nat.{ℕ, ◌+◌, ◌≤◌}
use native.Mathlib.Omega.{arith}
use mathlib.Core.Path.{◌≡◌, refl, sym, ap, ◌∙◌, subst}
use mathlib.Core.List.{List}
use lib.ListN.{length}
use borrow.Author.Tests.{le-ltb}
use Rattle.text.specs.Rfc3629.{Utf8Octets}
use Rattle.text.specs.Place.{start, check_of, well_formed as judged_well}
use Rattle.text.proofs.PlaceRules.{judged, judged-one}
use Rattle.tokens.specs.Result.{Res, ok, no}
use Rattle.tokens.specs.Cursor.{tokens}
use Rattle.tokens.specs.Record.{capacity}
use Rattle.tokens.specs.Lexing.{Lexing, most_tokens, most_bytes, least_words}
use Rattle.tokens.specs.Lex.{lex_from, lex_text}
use Rattle.tokens.specs.Ended.{Ended, record_words}
use Rattle.tokens.proofs.RulesLaws.{rules_only}
use Rattle.tokens.proofs.DurationLaws.{durations}
use Rattle.tokens.proofs.NumberLaws.{token-numbers}
use Rattle.sheet.specs.View.{View, seen}
use Rattle.sheet.specs.declared.Call.{Call}
use Rattle.model.specs.Limits.{last_adapter}
use Rattle.model.specs.Lists.{accepted_with, refused_with}
use Rattle.references.proofs.ArgComplete.{no_token_rule}
use Rattle.tokens.proofs.Okay.{okay}
use Rattle.references.proofs.NumberLaws.{Refuses, refusal-least}
use Rattle.language.proofs.RefusalLaws.{call-refuses}
use Rattle.language.proofs.RangeLaws.{ranges}
use Rattle.language.proofs.NumberLaws.{numbers}
use Rattle.language.proofs.HabitLaws.{wide-accepts}
use Rattle.language.specs.Section.{Lists}
use Rattle.language.specs.Range.{range_of}
use Rattle.language.specs.Read.{parsed, topics_with, rule_in, on_accepted, rule_of, lexed_from, by_primary, by_text, by_sheet, Outcome, read_of}
use Rattle.language.specs.Demand.{Gives, HasReadingSeeing, HasReading, Accepts, Exact}
use Rattle.language.specs.grammar.Text.{ReadingWith}
use Rattle.model.specs.declared.Trigger.{Trigger}
use Rattle.model.specs.declared.Condition.{Condition}
use Rattle.language.proofs.WordLaws.{End}
use Rattle.tokens.proofs.BufferLaws.{same-lexing, most_tokens_lem}
use Rattle.language.proofs.AskedLaws.{lexed-complete, Passed, parsing, Asked, before, reached, asked}
use Rattle.language.proofs.TextLaws.{ReadWith, rule-sound, rule_complete, one_reading}

-- a rule's lists are a reading of the tokens in the records
abbrev Reads : List ℕ → List ℕ → View → List (List ℕ) → Lists → ℕ → Type 0
Reads text words view lent lists j =
    ReadWith (tokens text words) view (range_of words) (topics_with text lent) (capacity words) lists.triggers lists.conditions

-- a text whose bytes are characters passes question 4
pub passes : {text characters : List ℕ} → Utf8Octets text characters → check_of text ≡ Ok tt
passes {text} h = judged-one (judged text) (judged_well h)

-- past the records there is no token
past : (text words : List ℕ) → End (tokens text words) (capacity words)
past text words = no_token_rule text words

-- the tokens that a text gives, if they are few enough, are those that the call lexes
given-from : {text : List ℕ} {l : Lexing} {count : ℕ} (g : Gives text l count) (n : ℕ) → count ≤ n → lex_from n text start ≡ l
given-from {text} {count = count} g n few =
    let e = rules_only g.octets g.lexed in
    same-lexing g.most n text start (subst (λ (x : Lexing). Ended x count) (sym e) g.finished) few ∙ e

pub given : {text : List ℕ} {l : Lexing} {count : ℕ} → Gives text l count → count ≤ most_tokens → lex_text text ≡ l
unfolding lex_text
given g few = given-from g most_tokens few

-- and a text gives no others
gives_one : {text : List ℕ} {l m : Lexing} {count size : ℕ} → Gives text l count → Gives text m size → l ≡ m
gives_one {count = count} {size = size} g h =
    sym (given-from g (count + size) (omega arith)) ∙ given-from h (count + size) (omega arith)

pub few : (text : List ℕ) {count : ℕ} → Ended (lex_text text) count → count ≤ most_tokens
unfolding lex_text
few text h = most_tokens_lem most_tokens text start h

-- where what is asked first is met, the lists of a rule are a reading with what is seen
pub passed_reads : {call : Call} {text sheet : List ℕ} {lent : List (List ℕ)} {size : ℕ} {view : View} {lists : Lists} {j : ℕ} → Passed call text sheet size →
    rule_in text (record_words (lex_text text)) view lent ≡ ok lists j →
    HasReadingSeeing view call text sheet lent size lists.triggers lists.conditions
passed_reads {text = text} {lent = lent} {view = view} p e =
    let words = record_words (lex_text text) in
    let rule = rule-sound (tokens text words) view (range_of words) (topics_with text lent) (capacity words) in
    let reads = okay (Reads text words view lent) rule e in
    record {
      room = p.room;
      sheet_passes = p.sheet_passes;
      own = p.own;
      lexing = lex_text text;
      count = p.count;
      gives = p.gives;
      few = few text p.gives.finished;
      reading = reads.0;
      topics = reads.1;
    }

-- an answer that is parsed with number 0 is an accepted rule
record Parsed (m : Res Lists) : Type 0 where
  lists : Lists
  next : ℕ
  accepted : m ≡ ok lists next

parsed-sound : (l : Lexing) (m : Res Lists) → Refuses m → (parsed l m).number ≡ 0 → Parsed m
unfolding parsed refused_with Refuses
parsed-sound l (ok lists j) n e = record { lists = lists; next = j; accepted = refl }
parsed-sound l (no r) n e = let some = refusal-least r.number n in absurd (omega arith)

-- and is accepted with what is seen
judged-sound : (full judged : Res Lists) {lists : Lists} {j : ℕ} → on_accepted full judged ≡ ok lists j → judged ≡ ok lists j
unfolding on_accepted
judged-sound (ok lists i) judged e = e
judged-sound (no r) judged e = absurd (let z : ◌≡◌ {A = ℕ} 0 1 = cc in omega arith)

-- Accepted with number 0.
module _ (call : Call) (in_range : call.primary ≤ last_adapter) (text sheet : List ℕ) (lent : List (List ℕ)) (words : List ℕ) where
  abbrev Sound : Outcome → Type 0
  Sound o = o.answer.number ≡ 0 → Accepts call text sheet lent (length words) o.answer

  rule-accepts : Passed call text sheet (length words) → Sound (parsing text lent words (seen call sheet))
  unfolding rule_of parsed
  rule-accepts p e =
      let view = seen call sheet in
      let records = record_words (lex_text text) in
      let rule = parsed-sound (lex_text text) (rule_of text records view lent) (call-refuses text records view lent) e in
      let reads = passed_reads p (judged-sound _ (rule_in text records view lent) rule.accepted) in
      record {
        triggers = rule.lists.triggers;
        conditions = rule.lists.conditions;
        lists = ap (parsed (lex_text text)) rule.accepted;
        reads = reads;
        ranges = ranges call sheet in_range reads.reading;
        numbers = numbers (token-numbers text reads.gives.lexed) reads.reading;
      }

  asked-sound : {f : View → Outcome} → Asked call text sheet lent words f → Sound (f (seen call sheet))
  asked-sound (before e n) = rw (e (seen call sheet)) (λ z. absurd (n z))
  asked-sound (reached p e) = rw (e (seen call sheet)) (rule-accepts p)

  sound : Sound (read_of call text sheet lent words)
  unfolding read_of
  sound = asked-sound (asked call text sheet lent words)

-- Readings with any view, and what is answered with it.
module _ {view : View} {call : Call} {text sheet : List ℕ} {lent : List (List ℕ)} {size : ℕ} {xs : List Trigger} {ys : List Condition}
    (h : HasReadingSeeing view call text sheet lent size xs ys) where
  abbrev words : List ℕ
  words = record_words (lex_text text)

  -- its tokens are those that the call lexes
  same-tokens : lex_text text ≡ h.lexing
  same-tokens = given h.gives h.few

  finished : Ended (lex_text text) h.count
  finished = subst (λ (l : Lexing). Ended l h.count) (sym same-tokens) h.gives.finished

  as_lexed : Reads text words view lent (record { triggers = xs; conditions = ys }) 0
  as_lexed = (
    subst (λ (l : Lexing). ReadingWith (tokens text (record_words l)) view (range_of (record_words l)) xs ys) (sym same-tokens) h.reading,
    h.topics,
  )

  -- a reading is what is answered
  pub seeing-complete : (j : ℕ) × (rule_in text words view lent ≡ ok (record { triggers = xs; conditions = ys }) j)
  seeing-complete = rule_complete (tokens text words) view (range_of words) (topics_with text lent) (capacity words) (past text words) as_lexed

  -- and it is what the call answers: where it is read with this view, it is read where any form may stand anywhere
  lexed-reading : lexed_from text view lent (lex_text text) (lex_text text) ≡ accepted_with xs ys
  unfolding rule_of on_accepted parsed
  lexed-reading =
      let rule = seeing-complete.1 in
      let wide = wide-accepts (tokens text words) view (range_of words) (topics_with text lent) (capacity words) rule in
      rw (lexed-complete text view lent (lex_text text) finished, wide, rule)

complete : (call : Call) (text sheet : List ℕ) (lent : List (List ℕ)) (words : List ℕ) (xs : List Trigger) (ys : List Condition) → HasReading call text sheet lent (length words) xs ys →
    (read_of call text sheet lent words).answer ≡ accepted_with xs ys
unfolding read_of by_sheet by_text by_primary
complete call text sheet lent words xs ys h =
    rw (
      le-ltb most_bytes (length text) h.gives.short,
      le-ltb (length words) least_words h.room,
      h.sheet_passes,
      h.own,
      passes h.gives.octets,
      lexed-reading h,
    )

-- two readings of the same tokens with the same view and the same lent topics are equal
pub one-reading-only : (text words : List ℕ) (view : View) (lent : List (List ℕ)) {xs us : List Trigger} {ys vs : List Condition} →
    ReadWith (tokens text words) view (range_of words) (topics_with text lent) (capacity words) xs ys →
    ReadWith (tokens text words) view (range_of words) (topics_with text lent) (capacity words) us vs → (xs ≡ us) × (ys ≡ vs)
one-reading-only text words view lent h g =
    one_reading (tokens text words) view (range_of words) (topics_with text lent) (capacity words) (past text words) h g

-- the third demand: for every call, text, sheet and buffer. A call's primary adapter is a byte.
pub exact : (call : Call) → call.primary ≤ last_adapter → (text sheet : List ℕ) (lent : List (List ℕ)) (words : List ℕ) → Exact call text sheet lent (length words) (read_of call text sheet lent words).answer
exact call in_range text sheet lent words =
    record {
      sound = sound call in_range text sheet lent words;
      complete = complete call text sheet lent words;
      one = λ xs us ys vs h g. one-reading-only text (record_words (lex_text text)) (seen call sheet) lent (as_lexed h) (as_lexed g);
      durations =
          λ e l count g.
          let r = (sound call in_range text sheet lent words e).reads in
          rw (gives_one g r.gives, ← (given r.gives r.few)) (durations text g.short);
    }
