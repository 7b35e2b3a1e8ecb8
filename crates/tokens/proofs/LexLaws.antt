-- Rules by which a search follows the lexer's code: what a callee answered is what the definition asks for.
use Rattle.std.specs.Prelude.{Option, Result}
use Prim.Native.Nat.{ℕ}
use mathlib.Core.Path.{◌≡◌, sym, ◌∙◌}
use mathlib.Core.List.{List}
use lib.Dec.{eqb}
use borrow.Author.Tests.{eq-eqb, ne_eqb}
use Rattle.text.specs.Choice.{pick}
use Rattle.text.specs.declared.place.Place.{Place}
use Rattle.text.specs.declared.place.IllFormed.{IllFormed}
use Rattle.text.proofs.Tests.{steps}
use Rattle.tokens.specs.Token.{made, amount_to, punct, string, time_by, time, decimal, duration, fraction_at, fraction, point, number_at, number}
use Rattle.tokens.specs.Lex.{answer_by, words_by}
use Rattle.tokens.specs.declared.lexer.Lexed.{Lexed}
use Rattle.tokens.specs.declared.lexer.Refusal.{Refusal}
use Rattle.tokens.specs.declared.lexer.Lexeme.{Lexeme}

-- an answer a that the code takes apart: it was v, so the definition goes by v
pub by-punct : (c : ℕ) (p next : Place) (x : Option (ℕ × Place)) {a v : Option (ℕ × Place)} {y : Result Lexeme ℕ} →
    a ≡ x → a ≡ v → y ≡ punct c p next v → y ≡ punct c p next x
by-punct c p next x asked was h = rw (sym asked ∙ was) h

pub by-string : (p : Place) (x : Result (ℕ × Place) ℕ) {a v : Result (ℕ × Place) ℕ} {y : Result Lexeme ℕ} → a ≡ x → a ≡ v → y ≡ string p v → y ≡ string p x
by-string p x asked was h = rw (sym asked ∙ was) h

pub by-time : (p : Place) (hour : ℕ) (q m : Place) (x : Option (ℕ × Place)) {a v : Option (ℕ × Place)} {y : Result Lexeme ℕ} →
    a ≡ x → a ≡ v → y ≡ time p hour q m v → y ≡ time p hour q m x
by-time p hour q m x asked was h = rw (sym asked ∙ was) h

pub by_fraction-at : (s : List ℕ) (p : Place) (whole frac : ℕ) (f e : Place) (x : Option (ℕ × Place)) {a v : Option (ℕ × Place)} {y : Result Lexeme ℕ} →
    a ≡ x → a ≡ v → y ≡ fraction_at s p whole frac f e v → y ≡ fraction_at s p whole frac f e x
by_fraction-at s p whole frac f e x asked was h = rw (sym asked ∙ was) h

pub by_fraction : (s : List ℕ) (p : Place) (whole : ℕ) (f : Place) (x : Option (ℕ × Place)) {a v : Option (ℕ × Place)} {y : Result Lexeme ℕ} →
    a ≡ x → a ≡ v → y ≡ fraction s p whole f v → y ≡ fraction s p whole f x
by_fraction s p whole f x asked was h = rw (sym asked ∙ was) h

pub by-point : (s : List ℕ) (p : Place) (whole : ℕ) (q f : Place) (x : Option (ℕ × Place)) {a v : Option (ℕ × Place)} {y : Result Lexeme ℕ} →
    a ≡ x → a ≡ v → y ≡ point s p whole q f v → y ≡ point s p whole q f x
by-point s p whole q f x asked was h = rw (sym asked ∙ was) h

pub by_number-at : (s : List ℕ) (p : Place) (value : ℕ) (q : Place) (x : Option (ℕ × Place)) {a v : Option (ℕ × Place)} {y : Result Lexeme ℕ} →
    a ≡ x → a ≡ v → y ≡ number_at s p value q v → y ≡ number_at s p value q x
by_number-at s p value q x asked was h = rw (sym asked ∙ was) h

pub by_number : (s : List ℕ) (p : Place) (x : Option (ℕ × Place)) {a v : Option (ℕ × Place)} {y : Result Lexeme ℕ} → a ≡ x → a ≡ v → y ≡ number s p v → y ≡ number s p x
by_number s p x asked was h = rw (sym asked ∙ was) h

pub by-amount : (p e : Place) (x : Result ℕ ℕ) {a v : Result ℕ ℕ} {y : Result Lexeme ℕ} →
    a ≡ x → a ≡ v → y ≡ amount_to p e v → y ≡ amount_to p e x
by-amount p e x asked was h = rw (sym asked ∙ was) h

-- a kind k that a callee told; 0: there is no such token
pub kind-none : (t : ℕ) {k : ℕ} (a b : Result Lexeme ℕ) {x : Result Lexeme ℕ} → k ≡ t → k ≡ 0 → x ≡ a → x ≡ pick (eqb t 0) a b
kind-none t a b h z e = rw (eq-eqb t 0 (sym h ∙ z)) e

pub kind-some : (t : ℕ) {k : ℕ} (a : Result Lexeme ℕ) (from end : ℕ) (q : Place) {x : Result Lexeme ℕ} → k ≡ t → (k ≡ 0 → ⊥) → x ≡ made k 0 from end q →
    x ≡ pick (eqb t 0) a (made t 0 from end q)
kind-some t a from end q h z e = rw (← h, ne_eqb _ 0 z) e

-- how many digits, as a callee counted them
pub time-count : (p : Place) (hour hours minute minutes : ℕ) (e : Place) {m n : ℕ} {x : Result Lexeme ℕ} → m ≡ hours → n ≡ minutes →
    x ≡ time_by p hour m minute n e → x ≡ time_by p hour hours minute minutes e
time-count p hour hours minute minutes e h k g = rw (← h, ← k) g

pub decimal-count : (p : Place) (whole frac d : ℕ) (e : Place) {n : ℕ} {x : Result Lexeme ℕ} → n ≡ d →
    x ≡ decimal p whole frac n e → x ≡ decimal p whole frac d e
decimal-count p whole frac d e h g = rw (← h) g

pub duration-count : (s : List ℕ) (p : Place) (whole frac d : ℕ) (u : Place) {n : ℕ} {x : Result Lexeme ℕ} → n ≡ d → x ≡ duration s p whole frac n u →
    x ≡ duration s p whole frac d u
duration-count s p whole frac d u h g = rw (← h) g

-- closes what is left of a function of the lexer without a loop
pub ruleset arms = (by-amount, by-punct, by-string, by-time, by_fraction-at, by_fraction, by-point, by_number-at, by_number, kind-none, kind-some, time-count, decimal-count, duration-count, steps)

-- question 4's answer, taken apart in the same way
pub by_answer : (s : List ℕ) (x : Result Unit IllFormed) {a v : Result Unit IllFormed} {y : Result Lexed Refusal} → a ≡ x → a ≡ v → y ≡ answer_by s v → y ≡ answer_by s x
by_answer s x asked was h = rw (sym asked ∙ was) h

pub by-words : (s words : List ℕ) (x : Result Unit IllFormed) {a v : Result Unit IllFormed} {y : List ℕ} → a ≡ x → a ≡ v → y ≡ words_by s words v → y ≡ words_by s words x
by-words s words x asked was h = rw (sym asked ∙ was) h

pub ruleset asked = (by_answer, by-words, steps)
