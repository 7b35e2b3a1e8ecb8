-- Laws on the characters of a text: what a step from one to the next says.
use mathlib.Core.Path.{◌≡◌, ◌∙◌, refl, ap, subst, sym}
use Prim.Native.Nat.{ℕ, zero, suc, ◌+◌, ◌-◌, ◌<◌, ◌≤◌}
use native.Mathlib.Omega.{arith}
use native.Mathlib.Nat.{add-zero}
use mathlib.Core.List.{List, [], ◌∷◌}
use lib.ListN.{length, drop, length-drop, length-append}
use lib.Seq.{drop-drop}
use Rattle.text.specs.Rfc3629.{Utf8Char, Starts, Stands}
use Rattle.text.specs.Rfc3629.Utf8Char.{utf8_1, utf8_2, utf8_3_e0, utf8_3_e1, utf8_3_ed, utf8_3_ee, utf8_4_f0, utf8_4_f1, utf8_4_f4}
use Rattle.text.specs.Rfc3629.Stands.{char, bad, end}
use Rattle.text.specs.Utf8.{front, decode_at, Character, character, chars_from, chars}
use Rattle.text.specs.declared.utf8.Decoded.{Decoded}
use Rattle.text.specs.declared.utf8.Decoded.TheVariants.{Char, Bad, End}
use Rattle.text.proofs.Utf8Rules.{stands}

-- a character has at least one byte
pub some_bytes : {u : List ℕ} {c : ℕ} → Utf8Char u c → 0 < length u
some_bytes (utf8_1 a) = omega arith
some_bytes (utf8_2 a b) = omega arith
some_bytes (utf8_3_e0 a b c) = omega arith
some_bytes (utf8_3_e1 a b c) = omega arith
some_bytes (utf8_3_ed a b c) = omega arith
some_bytes (utf8_3_ee a b c) = omega arith
some_bytes (utf8_4_f0 a b c d) = omega arith
some_bytes (utf8_4_f1 a b c d) = omega arith
some_bytes (utf8_4_f4 a b c d) = omega arith

-- where a character at the offset at ends: past its start, and within s
Ends : List ℕ → ℕ → Decoded → Type 0
Ends s at (Char c n) = (at < n) × (n ≤ length s)
Ends s at Bad = Unit {0}
Ends s at End = Unit {0}

fits : (s : List ℕ) (at : ℕ) {u : List ℕ} → Starts (drop at s) u → 0 < length u → (at < at + length u) × (at + length u ≤ length s)
fits s at {u} h k =
    let e : length s - at ≡ length u + length h.rest = sym (length-drop at s) ∙ ap length h.split ∙ length-append u h.rest in
    (omega arith, omega arith)

ends : {s : List ℕ} {at : ℕ} {x : Decoded} → Stands s at x → Ends s at x
unfolding Ends
ends {s} {at} (char h t) = fits s at t (some_bytes h)
ends (bad h k) = tt
ends (end h) = tt

pub char-inside : (s : List ℕ) (at c n : ℕ) → decode_at s at ≡ Char c n → (at < n) × (n ≤ length s)
unfolding Ends
char-inside s at c n e = subst (Ends s at) e (ends (stands s at))

skip-drop : (k at : ℕ) (l : List ℕ) → chars_from at k l ≡ chars_from (at + k) 0 (drop k l)
unfolding chars_from
skip-drop zero at l = rw add-zero
skip-drop (suc k) at [] = refl
skip-drop (suc k) at (b ∷ l) =
    let e : suc at + k ≡ at + suc k = omega arith in
    skip-drop k (suc at) l ∙ ap (λ (n : ℕ). chars_from n 0 (drop k l)) e

char-by : (s l : List ℕ) (at c n : ℕ) → drop at s ≡ l → front at l ≡ Char c n → at < n →
    chars_from at 0 l ≡ record { code = c; next = n } ∷ chars_from n 0 (drop n s)
unfolding chars_from front
char-by s [] at c n e d h =
    let z : ◌≡◌ {A = ℕ} 0 1 = cc in
    absurd (omega arith)
char-by s (b ∷ l) at c n e d h =
    let k : at + suc (n - suc at) ≡ n = omega arith in
    let m : suc at + (n - suc at) ≡ n = omega arith in
    let r : drop (n - suc at) l ≡ drop n s =
    ap (drop (suc (n - suc at))) (sym e) ∙ drop-drop (suc (n - suc at)) at s ∙ ap (λ (j : ℕ). drop j s) k
    in
    ap (λ (x : Decoded). character x (λ next. chars_from (suc at) (next - suc at) l)) d
    ∙ ap (λ (r : List Character). record { code = c; next = n } ∷ r)
    (skip-drop (n - suc at) (suc at) l ∙ ap (λ (j : ℕ). chars_from j 0 (drop (n - suc at) l)) m ∙ ap (chars_from n 0) r)

-- a character that is decoded is the first of the characters, and the rest are those from its end
pub chars-char : (s : List ℕ) (at c n : ℕ) → decode_at s at ≡ Char c n →
    chars s at ≡ record { code = c; next = n } ∷ chars s n
unfolding chars decode_at
chars-char s at c n d = char-by s (drop at s) at c n refl d (char-inside s at c n d).0

none-by : (l : List ℕ) (at : ℕ) (x : Decoded) → ((c n : ℕ) → x ≡ Char c n → ⊥) → front at l ≡ x → chars_from at 0 l ≡ []
unfolding chars_from
none-by [] at x f d = refl
none-by (b ∷ l) at (Char c n) f d = absurd (f c n refl)
none-by (b ∷ l) at Bad f d = ap (λ (x : Decoded). character x (λ next. chars_from (suc at) (next - suc at) l)) d
none-by (b ∷ l) at End f d = ap (λ (x : Decoded). character x (λ next. chars_from (suc at) (next - suc at) l)) d

-- where no character is decoded there are none
pub chars-bad : (s : List ℕ) (at : ℕ) → decode_at s at ≡ Bad → chars s at ≡ []
unfolding chars decode_at
chars-bad s at d = none-by (drop at s) at Bad (λ c n e. let z : ◌≡◌ {A = ℕ} 0 1 = cc in omega arith) d

pub chars-end : (s : List ℕ) (at : ℕ) → decode_at s at ≡ End → chars s at ≡ []
unfolding chars decode_at
chars-end s at d = none-by (drop at s) at End (λ c n e. let z : ◌≡◌ {A = ℕ} 0 1 = cc in omega arith) d
