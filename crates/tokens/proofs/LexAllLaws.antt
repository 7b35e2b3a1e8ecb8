-- The loop over the tokens of a text: what is left to read gives the answer and the words of the whole text.
use Rattle.std.specs.Prelude.{Option, Some, None, Result, Ok, Err}
use Prim.Native.Nat.{ℕ, zero, suc, ◌+◌, ◌-◌, ◌≤◌}
use native.Mathlib.Omega.{arith}
use mathlib.Core.Path.{◌≡◌, ◌∙◌, refl, sym, ap}
use mathlib.Core.List.{List}
use lib.ListN.{length}
use Rattle.text.specs.Place.{start}
use Rattle.text.specs.declared.place.Place.{Place}
use Rattle.tokens.specs.Token.{look, token_at}
use Rattle.tokens.specs.Record.{written}
use Rattle.tokens.specs.Lexing.{record_of, Lexing, ended, refused, most_tokens}
use Rattle.tokens.specs.Lex.{lexed, refusal, lexeme, lex_at, lex_no_more, behind, lex_from, lex_text, answer_from, written_from}
use Rattle.tokens.specs.declared.record.Record.{Record}
use Rattle.tokens.specs.declared.lexer.Lexeme.{Lexeme}
use Rattle.tokens.specs.declared.lexer.Lexed.{Lexed}
use Rattle.tokens.specs.declared.lexer.Refusal.{Refusal}

-- at p, with count records in the words: what is left to read gives the answer and the words of the whole text
pub record Going (s words₀ words : List ℕ) (p : Place) (count : ℕ) : Type 0 where
  pub room : count ≤ most_tokens
  pub long : length words ≡ length words₀
  pub answer : answer_from 0 (lex_text s) ≡ answer_from count (lex_from (most_tokens - count) s p)
  pub stored : written_from 0 words₀ (lex_text s) ≡ written_from count words (lex_from (most_tokens - count) s p)

-- what is promised
pub record Done (s words₀ words : List ℕ) (r : Result Lexed Refusal) : Type 0 where
  pub answer : r ≡ answer_from 0 (lex_text s)
  pub stored : words ≡ written_from 0 words₀ (lex_text s)

pub both : {s words₀ words : List ℕ} {r : Result Lexed Refusal} → Done s words₀ words r →
    (r ≡ answer_from 0 (lex_text s)) × (words ≡ written_from 0 words₀ (lex_text s))
both d = (d.answer, d.stored)

pub begin : (s words : List ℕ) (p : Place) → p ≡ start → Going s words words p 0
unfolding lex_text
begin s words p e = record { room = omega arith; long = refl; answer = rw e; stored = rw e }

-- what is left to read is l, which writes no more
pub finish : {s words₀ words : List ℕ} {p : Place} {count : ℕ} (l : Lexing) {r : Result Lexed Refusal} → Going s words₀ words p count →
    lex_from (most_tokens - count) s p ≡ l → r ≡ answer_from count l → words ≡ written_from count words l → Done s words₀ words r
finish l g e h k =
    record {
      answer = h ∙ sym (g.answer ∙ ap (answer_from _) e);
      stored = k ∙ sym (g.stored ∙ ap (written_from _ _) e);
    }

-- no character is left
pub from-stop : (n : ℕ) (s : List ℕ) (p : Place) → look s (behind s p) ≡ None → lex_from n s p ≡ ended (behind s p)
unfolding lex_from
from-stop zero s p e = ap (lex_no_more (behind s p)) e
from-stop (suc n) s p e = ap (λ (x : Option (ℕ × Place)). lex_at s (behind s p) x (lex_from n s)) e

-- the loop's body: a is what stands at q, behind white space and comments
module _ {s words₀ words : List ℕ} {p q : Place} {count : ℕ} {a : Option (ℕ × Place)} (going : Going s words₀ words p count)
    (skipped : q ≡ behind s p) (seen : a ≡ look s q) where
  pub at_end_rule : {r : Result Lexed Refusal} → a ≡ None → r ≡ lexed count q.line q.column → Done s words₀ words r
  unfolding answer_from written_from
  at_end_rule m e =
      finish (ended q) going (from-stop (most_tokens - count) s p (rw skipped at (sym seen ∙ m)) ∙ ap ended (sym skipped)) e refl

  module _ {c : ℕ} {next : Place} (here : a ≡ Some (c, next)) where
    -- a token after 1,024
    pub full : {r : Result Lexed Refusal} → count ≡ most_tokens → r ≡ refusal 19 q.line q.column → Done s words₀ words r
    unfolding lex_from answer_from written_from
    full h e =
        let n : most_tokens - count ≡ 0 = omega arith in
        finish (refused 19 q) going (rw (n, ← skipped, sym seen ∙ here)) e refl

    -- x is the token, or its refusal
    module _ {x : Result Lexeme ℕ} (left : count ≡ most_tokens → ⊥) (read : x ≡ token_at s q c next) where
      pub from-token : lex_from (most_tokens - count) s p ≡ lexeme q x (lex_from (most_tokens - (count + 1)) s)
      unfolding lex_from
      from-token =
          let i = going.room in
          let n : most_tokens - count ≡ suc (most_tokens - (count + 1)) = omega arith in
          rw (n, ← skipped, sym seen ∙ here, read)

      pub no_token_rule : {number : ℕ} {r : Result Lexed Refusal} → x ≡ Err number → r ≡ refusal number q.line q.column → Done s words₀ words r
      unfolding answer_from written_from
      no_token_rule {number} k e = finish (refused number q) going (from-token ∙ rw k) e refl

      pub go_on : {more : List ℕ} {t : Lexeme} {r : Record} → x ≡ Ok t →
          r ≡ record_of t.kind t.number t.start t.end q → more ≡ written words count r → length more ≡ length words →
          Going s words₀ more t.next (count + 1)
      unfolding answer_from written_from
      go_on k u w z =
          let i = going.room in
          let l = from-token ∙ ap (λ (x : Result Lexeme ℕ). lexeme q x (lex_from (most_tokens - (count + 1)) s)) k in
          record {
            room = omega arith;
            long = z ∙ going.long;
            answer = going.answer ∙ ap (answer_from count) l;
            stored = going.stored ∙ ap (written_from count words) l ∙ rw (w, u);
          }
