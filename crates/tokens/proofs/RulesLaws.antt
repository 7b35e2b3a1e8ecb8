-- Every row of characters has a lexing by the rules of specs/Rules.antt, and it is the one that specs/Lex.antt gives: so there is exactly one.
use Rattle.std.specs.Prelude.{Option, None, Result}
use mathlib.Core.Path.{◌≡◌, ◌∙◌, refl, ap, sym, subst}
use Prim.Native.Nat.{ℕ, zero, suc, ◌+◌, ◌*◌, ◌%◌, ◌≤◌}
use native.Mathlib.Omega.{arith}
use mathlib.Core.List.{List, [], ◌++◌, append-nil}
use lib.ListN.{length}
use borrow.Author.Tests.{lt-ltb, le-ltb}
use Rattle.text.specs.Rfc3629.{Utf8Char, Utf8Octets}
use Rattle.text.specs.Rfc3629.Utf8Char.{utf8_1, utf8_2, utf8_3_e0, utf8_3_e1, utf8_3_ed, utf8_3_ee, utf8_4_f0, utf8_4_f1, utf8_4_f4}
use Rattle.text.specs.Utf8.{codes, chars}
use Rattle.text.specs.Place.{start, line_after, column_after}
use Rattle.text.specs.declared.place.Place.{Place}
use Rattle.text.proofs.StepLaws.{Stepped}
use Rattle.text.proofs.PlaceRules.{line-walked, column-walked, octets-codes}
use Rattle.tokens.specs.Token.{look}
use Rattle.tokens.specs.Lexing.{Lexing, ended, refused, token, record_of, most_tokens}
use Rattle.tokens.specs.Lex.{lexeme, lex_at, lex_no_more, behind, lex_from, lex_text}
use Rattle.tokens.specs.Rules.{Trivia, Begins, begins, Shape, Shaped, Verdict, worth, refuse, Judged, octets_of, octets_in, place_after, first_byte, end_byte, Lexes, TextLexes}
use Rattle.tokens.specs.declared.lexer.Lexeme.{Lexeme}
use Rattle.tokens.proofs.LayoutReads.{Reads, none, more, then, written, bytes}
use Rattle.tokens.proofs.RulesFound.{GapFound, inner, last, gap-found, shape-found, verdict-found}
use Rattle.tokens.proofs.RulesScan.{Left, ahead, front, look-next, look_stop, gap_row, end_row}
use Rattle.tokens.proofs.RulesToken.{lexeme_of, Given, token-only}

-- ---- places

two_octets : (c : ℕ) → 0x80 ≤ c → c ≤ 0x7FF → 2 ≡ octets_of c
unfolding octets_of
two_octets c h k = rw (le-ltb c 0x80 h, lt-ltb c 0x800 (omega arith))

three_octets : (c : ℕ) → 0x800 ≤ c → c ≤ 0xFFFF → 3 ≡ octets_of c
unfolding octets_of
three_octets c h k = rw (le-ltb c 0x80 (omega arith), le-ltb c 0x800 h, lt-ltb c 0x10000 (omega arith))

four_octets : (c : ℕ) → 0x10000 ≤ c → 4 ≡ octets_of c
unfolding octets_of
four_octets c h = rw (le-ltb c 0x80 (omega arith), le-ltb c 0x800 (omega arith), le-ltb c 0x10000 h)

-- a character has as many octets as its range says
pub char-octets : {u : List ℕ} {c : ℕ} → Utf8Char u c → length u ≡ octets_of c
unfolding octets_of
char-octets (utf8_1 {a} h) = rw (lt-ltb a 0x80 (omega arith))
char-octets (utf8_2 {a} {b} h k) = two_octets (a % 32 * 64 + b % 64) (omega arith) (omega arith)
char-octets (utf8_3_e0 {a} {b} {c} h k l) = three_octets ((a % 16 * 64 + b % 64) * 64 + c % 64) (omega arith) (omega arith)
char-octets (utf8_3_e1 {a} {b} {c} h k l) = three_octets ((a % 16 * 64 + b % 64) * 64 + c % 64) (omega arith) (omega arith)
char-octets (utf8_3_ed {a} {b} {c} h k l) = three_octets ((a % 16 * 64 + b % 64) * 64 + c % 64) (omega arith) (omega arith)
char-octets (utf8_3_ee {a} {b} {c} h k l) = three_octets ((a % 16 * 64 + b % 64) * 64 + c % 64) (omega arith) (omega arith)
char-octets (utf8_4_f0 {a} {b} {c} {d} h k l m) = four_octets (((a % 8 * 64 + b % 64) * 64 + c % 64) * 64 + d % 64) (omega arith)
char-octets (utf8_4_f1 {a} {b} {c} {d} h k l m) = four_octets (((a % 8 * 64 + b % 64) * 64 + c % 64) * 64 + d % 64) (omega arith)
char-octets (utf8_4_f4 {a} {b} {c} {d} h k l m) = four_octets (((a % 8 * 64 + b % 64) * 64 + c % 64) * 64 + d % 64) (omega arith)

step-octets : {s : List ℕ} {p n : Place} {c : ℕ} → Stepped s p c n → n.at ≡ p.at + octets_of c
step-octets {p} h = let b = bytes h in b.ends ∙ ap (λ (k : ℕ). p.at + k) (char-octets b.is)

octets-on : {s : List ℕ} {p q : Place} {cs : List ℕ} → Reads s p q cs → q.at ≡ p.at + octets_in cs
unfolding octets_in
octets-on none = omega arith
octets-on (more {c} h t) = omega (arith, octets-on t, step-octets h)

same_place : {p : Place} {a l c : ℕ} → p.at ≡ a → p.line ≡ l → p.column ≡ c → p ≡ record { at = a; line = l; column = c }
same_place e f g = rw (← e, ← f, ← g)

-- the place to which one reads from the start is the one behind the characters that are read
pub place_read : {s : List ℕ} {p : Place} {cs : List ℕ} → Reads s start p cs → p ≡ place_after cs
unfolding place_after
place_read {p} {cs} r =
    let w = written r in
    let e = w.stretch.ends in
    let at-is : p.at ≡ octets_in cs = omega (arith, octets-on r) in
    same_place at-is
    (ap (λ (k : Place). k.line) e ∙ line-walked w.text ∙ ap line_after w.is)
    (ap (λ (k : Place). k.column) e ∙ column-walked w.text ∙ ap column_after w.is)

-- ---- the lexer gives what the rules allow

end_is : (n : ℕ) (s : List ℕ) (p : Place) {q : Place} → behind s p ≡ q → look s q ≡ None → lex_from n s p ≡ ended q
unfolding lex_from
end_is zero s p {q} e h = ap (λ (x : Place). lex_no_more x (look s x)) e ∙ ap (lex_no_more q) h
end_is (suc n) s p {q} e h =
    ap (λ (x : Place). lex_at s x (look s x) (lex_from n s)) e ∙ ap (λ (x : Option (ℕ × Place)). lex_at s q x (lex_from n s)) h

many_is : {s : List ℕ} (p : Place) {q n : Place} {c : ℕ} → behind s p ≡ q → Stepped s q c n → lex_from zero s p ≡ refused 19 q
unfolding lex_from
many_is {s} p {q} e h = ap (λ (x : Place). lex_no_more x (look s x)) e ∙ ap (lex_no_more q) (look-next h)

given_is : (n : ℕ) {s : List ℕ} (p : Place) {q : Place} {x : Result Lexeme ℕ} → behind s p ≡ q → Given s q x → lex_from (suc n) s p ≡ lexeme q x (lex_from n s)
unfolding lex_from
given_is n {s} p {q} e g =
    ap (λ (x : Place). lex_at s x (look s x) (lex_from n s)) e ∙ ap (λ (x : Option (ℕ × Place)). lex_at s q x (lex_from n s)) (look-next g.step)
    ∙ ap (λ (x : Result Lexeme ℕ). lexeme q x (lex_from n s)) g.is

too_many-is : {s : List ℕ} (p : Place) {q : Place} {r : List ℕ} → behind s p ≡ q → Left s q r → Begins r → lex_from zero s p ≡ refused 19 q
too_many-is p e l (begins h k) = many_is p e (ahead l).step

token-same : (kind number : ℕ) {p a q b : Place} {l m : Lexing} → p ≡ a → q ≡ b → l ≡ m →
    token (record_of kind number (first_byte kind p) (end_byte kind q) p) l ≡ token (record_of kind number (first_byte kind a) (end_byte kind b) a) m
token-same kind number e f g = rw (e, f, g)

pub lexes-only : {n : ℕ} {before rest : List ℕ} {l : Lexing} → Lexes n before rest l → {s : List ℕ} {p : Place} → Reads s start p before →
    Left s p rest → lex_from n s p ≡ l
unfolding lexeme_of
lexes-only {n} (Lexes.end {gap} t) {s} {p} r l =
    let f = front {s = s} {p = p} gap [] (rw append-nil l) in
    end_is n s p (end_row t f.reads f.rest) (look_stop f.rest) ∙ ap ended (place_read (then r f.reads))
lexes-only (Lexes.too_many {gap} {rest} t b) {p} r l =
    let f = front gap rest l in
    too_many-is p (gap_row t f.reads f.rest b) f.rest b ∙ ap (refused 19) (place_read (then r f.reads))
lexes-only (Lexes.refusal {n} {number} {gap} {u} {rest} t b h j) {p} r l =
    let f = front gap (u ++ rest) l in
    let g = front u rest f.rest in
    given_is n p (gap_row t f.reads f.rest b) (token-only h j g.reads g.rest)
    ∙ ap (refused number) (place_read (then r f.reads))
lexes-only (Lexes.next {n} {kind} {number} {gap} {u} {rest} {l = m} t b h j x) {p} r l =
    let f = front gap (u ++ rest) l in
    let g = front u rest f.rest in
    let k = then r (then f.reads g.reads) in
    given_is n p (gap_row t f.reads f.rest b) (token-only h j g.reads g.rest)
    ∙ token-same kind number (place_read (then r f.reads)) (place_read k) (lexes-only x k g.rest)

-- ---- there is a lexing

abbrev LexesFound : ℕ → List ℕ → List ℕ → Type 0
LexesFound n before rest = (l : Lexing) × Lexes n before rest l

none_found : {before rest : List ℕ} → GapFound rest → LexesFound zero before rest
none_found (inner t b) = (_, Lexes.too_many t b)
none_found (last t) = (_, Lexes.end t)

token-found : {n : ℕ} {before gap u rest : List ℕ} {shape : Shape} (v : Verdict) → Judged shape v → Trivia gap → Begins (u ++ rest) → Shaped u rest shape →
    LexesFound n (before ++ (gap ++ u)) rest → LexesFound (suc n) before (gap ++ (u ++ rest))
token-found (worth kind number) j t b h x = (_, Lexes.next t b h j x.1)
token-found (refuse number) j t b h x = (_, Lexes.refusal t b h j)

begun-found : {n : ℕ} {before gap rest : List ℕ} → Trivia gap → Begins rest → ((done more : List ℕ) → LexesFound n done more) →
    LexesFound (suc n) before (gap ++ rest)
begun-found {before} {gap} t (begins {c} {cs} h k) on =
    let x = shape-found c cs in
    let v = verdict-found x.shape in
    rw x.split
    (token-found v.0 v.1 t (rw x.split at (begins {c = c} {cs = cs} h k)) x.shaped (on (before ++ (gap ++ x.taken)) x.rest))

some-found : {n : ℕ} {before rest : List ℕ} → GapFound rest → ((done more : List ℕ) → LexesFound n done more) → LexesFound (suc n) before rest
some-found (inner t b) on = begun-found t b on
some-found (last t) on = (_, Lexes.end t)

pub lexes-found : (n : ℕ) (before rest : List ℕ) → LexesFound n before rest
lexes-found zero before rest = none_found (gap-found rest)
lexes-found (suc n) before rest = some-found (gap-found rest) (lexes-found n)

-- ---- a text

-- what a text gives by the rules is what the lexer gives, with any number of tokens allowed
pub rules_only : {text characters : List ℕ} {n : ℕ} {l : Lexing} → Utf8Octets text characters → Lexes n [] characters l → lex_from n text start ≡ l
rules_only h x = lexes-only x none (record { are = octets-codes h })

-- what the lexer gives is what the text gives by the rules: for any bytes, of the characters up to the first place where none begins
pub rules_read : (n : ℕ) (text : List ℕ) → Lexes n [] (codes (chars text 0)) (lex_from n text start)
rules_read n text =
    let f = lexes-found n [] (codes (chars text 0)) in
    rw (lexes-only f.1 none (record { are = refl })) f.1

pub rules_sound : {text characters : List ℕ} (n : ℕ) → Utf8Octets text characters → Lexes n [] characters (lex_from n text start)
rules_sound {text} n h = subst (λ (cs : List ℕ). Lexes n [] cs (lex_from n text start)) (octets-codes h) (rules_read n text)

-- and there is only one
pub rules_one : {text characters : List ℕ} {n : ℕ} {l m : Lexing} → Utf8Octets text characters → Lexes n [] characters l → Lexes n [] characters m →
    l ≡ m
rules_one h x y = sym (rules_only h x) ∙ rules_only h y

-- the same with 1,024 tokens allowed, as in a call
pub text-only : {text characters : List ℕ} {l : Lexing} → Utf8Octets text characters → TextLexes characters l → lex_text text ≡ l
unfolding lex_text
text-only h x = rules_only h x

pub text-sound : {text characters : List ℕ} → Utf8Octets text characters → TextLexes characters (lex_text text)
unfolding lex_text
text-sound h = rules_sound most_tokens h
