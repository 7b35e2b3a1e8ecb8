use mathlib.Core.Path.{◌≡◌, ◌∙◌, sym}
use mathlib.Core.List.{List}
use Prim.Native.Nat.{ℕ, ◌<◌, ◌≤◌}
use lib.ListN.{length}
use Rattle.text.specs.Place.{counted}
use Rattle.tokens.specs.declared.lexer.Lexed.{Lexed}
use Rattle.tokens.specs.declared.lexer.Refusal.{Refusal}
use Rattle.std.specs.Prelude.{Result, Ok, Err}
use Rattle.tokens.specs.Buffer.{lex_number}
use Rattle.tergyosul.specs.Lexing.{four_first, lex_flat}
use Rattle.tergyosul.specs.Room.{no_room, lex_answer_words, by_room}
use Rattle.tergyosul.proofs.RoomLaws.{no_room_lem, room}
use Rattle.tergyosul.proofs.tergyosul_lex.Goals as goal

-- the answer at entry is e; without room it stays as it is
unwritten : (e : List ℕ) (y : Result Lexed Refusal) → length e < lex_answer_words → e ≡ lex_flat y e
unfolding lex_flat four_first
unwritten e (Ok t) h = no_room_lem _ _ _ _ h
unwritten e (Err r) h = no_room_lem _ _ _ _ h

-- with room, the answer x of lex, which the code took apart as its two cases; the words at entry are v, and w and a are the words and the
-- answer at exit
module _ (e v : List ℕ) {x y : Result Lexed Refusal} {w u a : List ℕ} (long : lex_answer_words ≤ length e) where
  accepted : {t : Lexed} {m : ℕ} → x ≡ y → x ≡ Ok t → w ≡ u → a ≡ four_first e 0 t.line t.column m → m ≡ counted t.count →
      (0 ≡ by_room lex_answer_words e no_room (lex_number y)) × ((w ≡ by_room lex_answer_words e v u) × (a ≡ lex_flat y e))
  unfolding lex_number lex_flat
  accepted d h k g q = (room _ _ _ long (rw (sym d ∙ h)), (room _ _ _ long k, g ∙ rw (sym d ∙ h, q)))

  refused : {r : Refusal} → x ≡ y → x ≡ Err r → w ≡ u → a ≡ four_first e r.number r.line r.column 0 →
      (r.number ≡ by_room lex_answer_words e no_room (lex_number y)) × ((w ≡ by_room lex_answer_words e v u) × (a ≡ lex_flat y e))
  unfolding lex_number lex_flat
  refused d h k g = (room _ _ _ long (rw (sym d ∙ h)), (room _ _ _ long k, g ∙ rw (sym d ∙ h)))

pub returns-then-answer-lt-LEX_WORDS : goal.returns-then-answer-lt-LEX_WORDS
returns-then-answer-lt-LEX_WORDS c = let short = c.if-answer-lt-LEX_WORDS.true in record { number = no_room_lem _ _ _ _ short; words = no_room_lem _ _ _ _ short; answer = unwritten _ _ short }

pub returns-in-Ok : goal.returns-in-Ok
returns-in-Ok c = let both = accepted _ _ c.if-answer-lt-LEX_WORDS.false c.lex.ensures.value.0 c.in-Ok.is c.lex.ensures.value.1 c.put_four.ensures c.held.ensures in record { number = both.0; words = both.1.0; answer = both.1.1 }

pub returns-in-Err : goal.returns-in-Err
returns-in-Err c = let both = refused _ _ c.if-answer-lt-LEX_WORDS.false c.lex.ensures.value.0 c.in-Err.is c.lex.ensures.value.1 c.put_four-in-Err.ensures in record { number = both.0; words = both.1.0; answer = both.1.1 }
