-- No answer has the number `no_room`: the result of `tergyosul_read`, of `tergyosul_read_archive`, of `tergyosul_read_shop`, of `tergyosul_join`, of `tergyosul_write`, of
-- `tergyosul_rows`, of `tergyosul_rows_back` or of `tergyosul_next_chain` is that number just where there is no room.
use Rattle.std.specs.Prelude.{Option, Some, None, Result, Ok, Err}
use Prim.Native.Nat.{ℕ, ◌+◌, ◌<◌, ◌≤◌}
use native.Mathlib.Omega.{arith}
use mathlib.Core.Path.{◌≡◌, refl}
use mathlib.Core.Bool.{Bool, true, false}
use mathlib.Core.List.{List, [], ◌∷◌}
use lib.ListN.{length}
use lib.Dec.{ltb, eqb}
use borrow.Author.Tests.{ltb-true}
use Rattle.std.specs.Prelude.{Result, Ok, Err}
use Rattle.text.specs.Choice.{pick, within}
use Rattle.text.proofs.Tests.{picked}
use Rattle.text.specs.Utf8.{Character}
use Rattle.text.specs.Place.{check_of}
use Rattle.text.specs.declared.place.IllFormed.{IllFormed}
use Rattle.tokens.specs.Result.{Res, ok, no}
use Rattle.tokens.specs.Lexing.{Lexing, most_bytes, least_words}
use Rattle.tokens.specs.Lex.{lex_text}
use Rattle.tokens.specs.Layout.{Laid, end, refusal, next, Lexical}
use Rattle.tokens.proofs.LayoutLaws.{laid}
use Rattle.model.specs.declared.Ref.{Ref}
use Rattle.sheet.specs.Sheet.{Sheet, Entry, well_formed, bad_line_rule, sheet_check, lines}
use Rattle.sheet.specs.View.{View, seen, own_primary}
use Rattle.sheet.specs.Resolve.{elsewhere, none_of, chosen, pick_named}
use Rattle.sheet.specs.declared.Call.{Call}
use Rattle.sheet.specs.declared.resolve.Unfound.{Unfound}
use Rattle.sheet.specs.declared.resolve.Scope.{Scope}
use Rattle.model.specs.Lists.{accepted_with, refused_with}
use Rattle.model.specs.declared.Condition.{Condition}
use Rattle.model.specs.declared.Trigger.{Trigger}
use Rattle.model.specs.declared.Triggers.{Triggers}
use Rattle.model.specs.declared.Answer.{Answer}
use Rattle.references.proofs.NumberLaws.{Refuses, refusal-most}
use Rattle.language.proofs.RefusalLaws.{call-refuses}
use Rattle.language.specs.Limits.{most_triggers}
use Rattle.language.specs.Section.{Lists}
use Rattle.language.specs.Read.{parsed, lexed_from, by_primary, by_text, by_sheet, Outcome, read_of, rule_call}
use Rattle.flat.specs.Flat.{answer_words}
use Rattle.join.specs.Join.{Taken, Join, triggers_in, conditions_in, joined_triggers, same_conditions, refused_join, accepted_join, by_count, both_read, by_second, earlier_topics, join_of}
use Rattle.join.specs.declared.Joined.{Joined}
use Rattle.chains.specs.Listed.{chain, refused}
use Rattle.chains.specs.Way.{following, is_start, next_of}
use Rattle.writing.specs.declared.Lists as written
use Rattle.writing.specs.Writing as writing
use Rattle.old_rows.specs.Row.{row_of, row_name}
use Rattle.old_rows.specs.Convert as rows
use Rattle.old_rows.specs.Convert.{Conversion, converted, stopped}
use Rattle.old_rows.specs.Back as rows_back
use Rattle.old_rows.specs.declared.row.Change.{Change}
use Rattle.old_rows.specs.declared.row.Row.{Row}
use Rattle.tergyosul.specs.Chains.{chain_answer_words}
use Rattle.tergyosul.specs.Room.{no_room, by_room}
use Rattle.tergyosul.specs.Writing.{write_answer_words}

-- "No refusal has this number."
alone : (needed : ℕ) (answer : List ℕ) (n : ℕ) → n < no_room → by_room needed answer no_room n ≡ no_room → length answer < needed
unfolding by_room
alone needed answer n known e = by (ltb (length answer) needed) refl e
  where
    by : (b : Bool) → ltb (length answer) needed ≡ b → pick b no_room n ≡ no_room → length answer < needed
    by true p q = ltb-true _ _ p
    by false p q = absurd (omega arith)

-- the generator says 0 or 67
chain-known : (b : Bool) (w : List ℕ) → (pick b (chain w) refused).number < no_room
unfolding chain refused
chain-known true w = omega arith
chain-known false w = omega arith

pub no-chain-alone : (v answer : List ℕ) → by_room chain_answer_words answer no_room (next_of v).number ≡ no_room → length answer < chain_answer_words
unfolding next_of
no-chain-alone v answer e = alone chain_answer_words answer _ (chain-known (is_start v) (following v)) e

-- the last number of a call that reads a text is 66
abbrev Known : ℕ → Type 0
Known n = n ≤ 66

lexical-known : {n : ℕ} → Lexical n → Known n
lexical-known Lexical.no_token_rule = omega arith
lexical-known Lexical.unterminated = omega arith
lexical-known Lexical.too_large = omega arith
lexical-known Lexical.no_time = omega arith
lexical-known Lexical.places = omega arith
lexical-known Lexical.no_unit = omega arith
lexical-known Lexical.long = omega arith
lexical-known Lexical.fine = omega arith
lexical-known Lexical.too_many = omega arith

parsed-known : (l : Lexing) (m : Res Lists) → Refuses m → Known (parsed l m).number
unfolding parsed accepted_with refused_with Refuses
parsed-known l (ok lists i) h = omega arith
parsed-known l (no r) h = refusal-most _ h

lexed-known : (text : List ℕ) (view : View) (lent : List (List ℕ)) (whole l : Lexing) {before : List Character} → Laid text before l →
    Known (lexed_from text view lent whole l).number
unfolding lexed_from refused_with
lexed-known text view lent whole l (end gap t h) = parsed-known whole _ (call-refuses text _ view lent)
lexed-known text view lent whole l (refusal gap c rest t h n) = lexical-known n
lexed-known text view lent whole l (next gap u rest t s h k) = lexed-known text view lent whole _ k

module _ (call : Call) (text sheet : List ℕ) (lent : List (List ℕ)) (words : List ℕ) where
  own-known : (own : Bool) → Known (by_primary text (seen call sheet) lent words own).answer.number
  unfolding by_primary refused_with
  own-known true = lexed-known text (seen call sheet) lent (lex_text text) (lex_text text) (laid text)
  own-known false = omega arith

  text-known : (own : Bool) (c : Result Unit IllFormed) → Known (by_text text (seen call sheet) lent words own c).answer.number
  unfolding by_text refused_with
  text-known own (Ok _) = own-known own
  text-known own (Err at) = omega arith

  sheet-known : (own : Bool) (x : Sheet) → Known (by_sheet text (seen call sheet) lent words own x).answer.number
  unfolding by_sheet refused_with
  sheet-known own well_formed = text-known own (check_of text)
  sheet-known own (bad_line_rule n) = omega arith

  either : (b : Bool) (x y : Outcome) → Known x.answer.number → Known y.answer.number → Known (pick b x y).answer.number
  either true x y h k = h
  either false x y h k = k

  read_known : Known (read_of call text sheet lent words).answer.number
  unfolding read_of refused_with
  read_known =
      let first : Known 1 = omega arith in
      let second : Known 2 = omega arith in
      either (ltb most_bytes (length text)) (record { answer = refused_with 1 0 0 0; buffer = words }) _ first
      (either (ltb (length words) least_words) (record { answer = refused_with 2 0 0 0; buffer = words }) _ second (sheet-known (own_primary call sheet) (sheet_check sheet)))

  pub no_room-alone : (answer : List ℕ) → by_room answer_words answer no_room (read_of call text sheet lent words).answer.number ≡ no_room →
      length answer < answer_words
  no_room-alone answer e = alone answer_words answer _ (let known = read_known in omega arith) e

-- joining says 51 or 52 beside the numbers of two readings
either-joined : (b : Bool) (x y : Joined) → Known x.answer.number → Known y.answer.number → Known (pick b x y).answer.number
either-joined true x y h k = h
either-joined false x y h k = k

either-join : (b : Bool) (x y : Join) → Known x.joined.answer.number → Known y.joined.answer.number → Known (pick b x y).joined.answer.number
either-join true x y h k = h
either-join false x y h k = k

by_count-known : (kept : List Taken) (ys : List Condition) → Known (by_count kept ys).answer.number
unfolding by_count refused_join accepted_join refused_with accepted_with
by_count-known kept ys = either-joined (ltb most_triggers (length kept)) (refused_join 0 (refused_with 52 0 0 0)) (accepted_join kept ys) (omega arith) (omega arith)

both_read-known : (first second : List ℕ) (one two : Answer) → Known (both_read first second one two).answer.number
unfolding both_read refused_join refused_with
both_read-known first second one two =
    let ys = conditions_in one.conditions in
    let kept = joined_triggers first second (triggers_in one.triggers) (triggers_in two.triggers) in
    either-joined (same_conditions first second ys (conditions_in two.conditions)) (by_count kept ys) (refused_join 0 (refused_with 51 0 0 0)) (by_count-known kept ys) (omega arith)

second-known : (first second : List ℕ) (one two : Outcome) → Known two.answer.number → Known (by_second first second one two).joined.answer.number
unfolding by_second refused_join
second-known first second one two h =
    let a = one.answer in
    let b = two.answer in
    either-joined (eqb b.number 0) (both_read first second a b) (refused_join 2 b) (both_read-known first second a b) h

module _ (party primary : ℕ) (first second sheet : List ℕ) (lent : List (List ℕ)) (words others : List ℕ) where
  join-known : Known (join_of party primary first second sheet lent words others).joined.answer.number
  unfolding join_of refused_join
  join-known =
      let call = rule_call party primary in
      let one = read_of call first sheet lent words in
      let earlier = earlier_topics first lent one.answer in
      either-join (eqb one.answer.number 0) (by_second first second one (read_of call second sheet earlier others))
      (record { joined = refused_join 1 one.answer; first_buffer = one.buffer; second_buffer = others })
      (second-known first second one _ (read_known call second sheet earlier others))
      (read_known call first sheet lent words)

  pub no-join-alone : (answer : List ℕ) →
      by_room answer_words answer no_room (join_of party primary first second sheet lent words others).joined.answer.number ≡ no_room →
      length answer < answer_words
  no-join-alone answer e = alone answer_words answer _ (let known = join-known in omega arith) e

-- writing says 3, or 53 to 56
abbrev WrittenKnown : writing.Outcome → Type 0
WrittenKnown o = Known o.answer.number

module _ (view : View) (first second : List ℕ) (l : written.Lists) (out : List ℕ) where
  possible-known : WrittenKnown (writing.by_possible view first second l out)
  unfolding writing.by_possible writing.by_reached writing.refused_at writing.written_with
  possible-known =
      picked WrittenKnown (writing.possible_counts l)
      (λ _. picked WrittenKnown (eqb (writing.first_impossible first second l) 0)
      (λ _. picked WrittenKnown (eqb (writing.first_unreached view l) 0) (λ _. omega arith) (λ _. omega arith)) (λ _. omega arith))
      (λ _. omega arith)

  room-known : (own : Bool) → WrittenKnown (writing.by_room view first second l out own)
  unfolding writing.by_room writing.refused_at
  room-known true = picked WrittenKnown (ltb (length out) writing.least_bytes) (λ _. omega arith) (λ _. possible-known)
  room-known false = omega arith

  by_sheet-known : (own : Bool) (s : Sheet) → WrittenKnown (writing.by_sheet view first second l out own s)
  unfolding writing.by_sheet writing.refused_at
  by_sheet-known own well_formed = room-known own
  by_sheet-known own (bad_line_rule n) = omega arith

module _ (party primary : ℕ) (first second sheet : List ℕ) (l : written.Lists) (out : List ℕ) where
  write_known : WrittenKnown (writing.write_of party primary first second sheet l out)
  unfolding writing.write_of
  write_known = by_sheet-known (seen (rule_call party primary) sheet) first second l out (own_primary (rule_call party primary) sheet) (sheet_check sheet)

  pub no-write-alone : (answer : List ℕ) →
      by_room write_answer_words answer no_room (writing.write_of party primary first second sheet l out).answer.number ≡ no_room →
      length answer < write_answer_words
  no-write-alone answer e = alone write_answer_words answer _ (let known = write_known in omega arith) e

-- rows say 3, 25, 31 to 34, 53 or 60
unfoldable FoundKnown : Result Ref Unfound → Type 0
FoundKnown (Ok r) = Unit {0}
FoundKnown (Err u) = Known u.number

unfoldable ConversionKnown : Conversion → Type 0
ConversionKnown (converted xs) = Unit {0}
ConversionKnown (stopped number row detail) = Known number

chosen-known : (all some : List Entry) → FoundKnown (chosen all some)
unfolding chosen none_of FoundKnown
chosen-known [] [] = omega arith
chosen-known (e ∷ es) [] = omega arith
chosen-known all (e ∷ []) = tt
chosen-known all (e ∷ f ∷ es) = picked Known (elsewhere e.adapter (f ∷ es)) (λ _. omega arith) (λ _. omega arith)

onto-known : (x : Trigger) (c : Conversion) → ConversionKnown c → ConversionKnown (rows.onto x c)
unfolding rows.onto ConversionKnown
onto-known x (converted xs) h = tt
onto-known x (stopped number row detail) h = h

by_found-known : (n : ℕ) (change : Change) (f : Result Ref Unfound) (others : Conversion) → FoundKnown f → ConversionKnown others → ConversionKnown (rows.by_found n change f others)
unfolding rows.by_found FoundKnown ConversionKnown
by_found-known n change (Ok r) others h k = onto-known _ others k
by_found-known n change (Err u) others h k = h

answered-known : (c : Conversion) → ConversionKnown c → Known (rows.answered c).number
unfolding rows.answered ConversionKnown accepted_with refused_with
answered-known (converted xs) h = omega arith
answered-known (stopped number row detail) h = h

module _ (view : View) where
  found_of-known : (change : Change) (scope : Scope) (name : List ℕ) → FoundKnown (rows.found_of view change scope name)
  unfolding rows.found_of pick_named FoundKnown
  found_of-known change scope name = picked FoundKnown (rows.is_seen view scope) (λ _. chosen-known _ _) (λ _. omega arith)

  found_in-known : (r : Option Row) (name : List ℕ) → FoundKnown (rows.found_in view r name)
  unfolding rows.found_in FoundKnown
  found_in-known (Some row) name = found_of-known row.change row.scope name
  found_in-known None name = omega arith

  convert-known : (n : ℕ) (ls : List (List ℕ)) → ConversionKnown (rows.convert_from view n ls)
  unfolding rows.convert_from ConversionKnown
  convert-known n [] = tt
  convert-known n (l ∷ ls) = by_found-known n _ _ _ (found_in-known (row_of l) (row_name l)) (convert-known (n + 1) ls)

  shape-known : (s : List ℕ) → Known (rows.by_shape view s).number
  unfolding rows.by_shape refused_with
  shape-known s =
      let known : Answer → Type 0 = λ a. Known a.number in
      picked known (eqb (length s) 0) (λ _. omega arith)
      (λ _. picked known (eqb (rows.first_malformed s) 0) (λ _. answered-known _ (convert-known 1 (lines s))) (λ _. omega arith))

  rows-sheet-known : (s : List ℕ) (own : Bool) (x : Sheet) → Known (rows.by_sheet view s own x).number
  unfolding rows.by_sheet rows.by_primary refused_with
  rows-sheet-known s true well_formed = shape-known s
  rows-sheet-known s false well_formed = omega arith
  rows-sheet-known s own (bad_line_rule n) = omega arith

-- going back it says 3, 53, 54, 61 or 62
module _ (view : View) (l : Triggers) (conditions : ℕ) (out : List ℕ) where
  entries-known : WrittenKnown (rows_back.by_entries view l conditions out)
  unfolding rows_back.by_entries rows_back.by_names writing.refused_at writing.written_with
  entries-known =
      picked WrittenKnown (within 1 most_triggers l.count)
      (λ _. picked WrittenKnown (eqb (rows_back.first_other l conditions) 0)
      (λ _. picked WrittenKnown (eqb (rows_back.first_unnamed view l) 0) (λ _. omega arith) (λ _. omega arith)) (λ _. omega arith))
      (λ _. omega arith)

  back-sheet-known : (own : Bool) (x : Sheet) → WrittenKnown (rows_back.by_sheet view l conditions out own x)
  unfolding rows_back.by_sheet rows_back.by_room writing.refused_at
  back-sheet-known true well_formed = picked WrittenKnown (ltb (length out) rows_back.least_bytes) (λ _. omega arith) (λ _. entries-known)
  back-sheet-known false well_formed = omega arith
  back-sheet-known own (bad_line_rule n) = omega arith

module _ (party primary : ℕ) (sheet : List ℕ) where
  rows-known : (s : List ℕ) → Known (rows.rows_of party primary s sheet).number
  unfolding rows.rows_of
  rows-known s = rows-sheet-known (seen (rule_call party primary) sheet) s (own_primary (rule_call party primary) sheet) (sheet_check sheet)

  pub no-rows-alone : (s answer : List ℕ) → by_room answer_words answer no_room (rows.rows_of party primary s sheet).number ≡ no_room →
      length answer < answer_words
  no-rows-alone s answer e = alone answer_words answer _ (let known = rows-known s in omega arith) e

  back-known : (l : Triggers) (conditions : ℕ) (out : List ℕ) → WrittenKnown (rows_back.back_of party primary sheet l conditions out)
  unfolding rows_back.back_of
  back-known l conditions out =
      back-sheet-known (seen (rule_call party primary) sheet) l conditions out (own_primary (rule_call party primary) sheet) (sheet_check sheet)

  pub no-back-alone : (l : Triggers) (conditions : ℕ) (out answer : List ℕ) →
      by_room write_answer_words answer no_room (rows_back.back_of party primary sheet l conditions out).answer.number ≡ no_room →
      length answer < write_answer_words
  no-back-alone l conditions out answer e = alone write_answer_words answer _ (let known = back-known l conditions out in omega arith) e
