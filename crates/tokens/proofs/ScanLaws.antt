-- Laws on the scans: where each ends, and that behind a character that it passes it ends alike; then the same at a byte, as the loops
-- read it.
-- What a callee answered stands beside its contract, as the code has it: r, k or d.
use Rattle.std.specs.Prelude.{Option, Some, None, Result, Ok, Err}
use mathlib.Core.Path.{◌≡◌, ◌∙◌, refl, ap, subst, sym}
use mathlib.Core.Bool.{Bool, true, false, not, false≢true}
use mathlib.Core.List.{List, [], ◌∷◌}
use Prim.Native.Nat.{ℕ, zero, suc, ◌+◌, ◌-◌, ◌*◌, ◌^◌, ◌<◌, ◌≤◌}
use native.Mathlib.Omega.{arith}
use native.Mathlib.Nat.{add-zero}
use native.Mathlib.Decide.{dec_lt}
use lib.Dec.{ltb, leb, eqb}
use lib.ListN.{length, get_or, drop, get_or-eq_default}
use lib.Seq.{get_or-drop}
use mir.Syntax.{w64}
use mir.Val.{Fits}
use borrow.Author.Rules.{rules}
use borrow.Author.Tests.{ltb-true, ltb-false, leb-true, eqb-true, eqb-false, lt-ltb, le-ltb, eq-eqb, ne_eqb, not-true, not-false}
use Rattle.text.specs.Choice.{pick, within}
use Rattle.text.specs.Rfc3629.{Utf8Char, Starts, Stands}
use Rattle.text.specs.Rfc3629.Utf8Char.{utf8_1, utf8_2, utf8_3_e0, utf8_3_e1, utf8_3_ed, utf8_3_ee, utf8_4_f0, utf8_4_f1, utf8_4_f4}
use Rattle.text.specs.Rfc3629.Stands.{char, bad, end}
use Rattle.text.specs.Utf8.{sequence_length, sized, decode_at, Character, chars}
use Rattle.text.specs.Place.{counted, after, step_of}
use Rattle.text.specs.declared.utf8.Decoded.{Decoded}
use Rattle.text.specs.declared.utf8.Decoded.TheVariants.{Char, Bad, End}
use Rattle.text.specs.declared.place.Place.{Place}
use Rattle.text.specs.White.{is_white, white_space, among}
use Rattle.text.proofs.Tests.{picked, over-range}
use Rattle.text.proofs.WhiteLaws.{none_above}
use Rattle.text.proofs.Utf8Rules.{stands}
use Rattle.text.proofs.Utf8Laws.{decode-on}
use Rattle.text.proofs.CharLaws.{char-inside, chars-char, chars-bad, chars-end}
use Rattle.text.specs.Block.{Row}
use Rattle.text.proofs.BlockLaws.{over-row}
use Rattle.text.proofs.PlaceRules.{count_on}
use Rattle.text.proofs.StepLaws.{Stepped, Stopped, step-next, step_stop}
use Rattle.text.specs.Ascii.{is_digit, is_alpha, is_word_start, is_word_part}
use Rattle.tokens.specs.Scan.{passed, is_plain, trivia_mode, trivia, quoted, with_digit, digits}

-- in a loop, where the scan from here ends as the scan from the start does: an answer a of bump, taken apart, leaves what holds of the
-- scan from here
module _ (s : List ℕ) (p : Place) {a : Option (ℕ × Place)} (b : a ≡ step_of p (chars s p.at)) where
  pub at_next : {A : Type 0} {x here start : A} {code : ℕ} {next : Place} → here ≡ start → a ≡ Some (code, next) →
      (Stepped s p code next → x ≡ here) → x ≡ start
  at_next i m f = f (step-next s p _ _ (sym b ∙ m)) ∙ i

  pub at_stop : {A : Type 0} {x here start : A} → here ≡ start → a ≡ None → (Stopped s p → x ≡ here) → x ≡ start
  at_stop i m f = f (step_stop s p (sym b ∙ m)) ∙ i

  -- behind a character less of the text is left
  pub less-left : {code : ℕ} {next : Place} → a ≡ Some (code, next) → length s - next.at < length s - p.at
  less-left m =
      let t = step-next s p _ _ (sym b ∙ m) in
      omega arith

-- no character begins at p
module _ {s : List ℕ} {p : Place} (t : Stopped s p) where
  passed_stop : (class : ℕ → Bool) → p ≡ passed class p (chars s p.at)
  unfolding passed
  passed_stop class = rw t.rest

  pub trivia_stop : (mode : ℕ) → p ≡ trivia mode p (chars s p.at)
  unfolding trivia
  trivia_stop mode = rw t.rest

  pub quoted_stop : Err p.at ≡ quoted p (chars s p.at)
  unfolding quoted
  quoted_stop = rw t.rest

  digits_stop : (v : ℕ) → Some (v, p) ≡ digits v p (chars s p.at)
  unfolding digits
  digits_stop v = rw t.rest

-- a character stands at p, and next is the place behind it
module _ {s : List ℕ} {p : Place} {code : ℕ} {next : Place} (t : Stepped s p code next) where
  passed_here : (class : ℕ → Bool) {r : Bool} → r ≡ class code → not r ≡ true → p ≡ passed class p (chars s p.at)
  unfolding passed
  passed_here class {r} e h = rw (t.rest, ← e, not-true r h)

  passed-step : (class : ℕ → Bool) {r : Bool} → r ≡ class code → not r ≡ false →
      passed class next (chars s next.at) ≡ passed class p (chars s p.at)
  unfolding passed
  passed-step class {r} e h = rw (t.rest, ← e, not-false r h, ← t.is)

  pub trivia-here : (mode : ℕ) {k : ℕ} → k ≡ trivia_mode mode code → k ≡ 2 → p ≡ trivia mode p (chars s p.at)
  unfolding trivia
  trivia-here mode e h = rw (t.rest, ← e, h)

  pub trivia-step : (mode : ℕ) {k : ℕ} → k ≡ trivia_mode mode code → (k ≡ 2 → ⊥) →
      trivia k next (chars s next.at) ≡ trivia mode p (chars s p.at)
  unfolding trivia
  trivia-step mode e h = rw (t.rest, ← e, ne_eqb _ _ h, ← t.is)

  quoted-quote : code ≡ 0x22 → Ok (p.at, next) ≡ quoted p (chars s p.at)
  unfolding quoted
  quoted-quote h = rw (t.rest, eq-eqb _ _ h, ← t.is)

  quoted-line : code ≡ 0x0A → Err p.at ≡ quoted p (chars s p.at)
  unfolding quoted
  quoted-line h = rw (t.rest, h)

  quoted-step : (code ≡ 0x22 → ⊥) → (code ≡ 0x0A → ⊥) → quoted next (chars s next.at) ≡ quoted p (chars s p.at)
  unfolding quoted
  quoted-step h k = rw (t.rest, ne_eqb _ _ h, ne_eqb _ _ k, ← t.is)

  digits-here : (v : ℕ) {r : Bool} → r ≡ is_digit code → not r ≡ true → Some (v, p) ≡ digits v p (chars s p.at)
  unfolding digits
  digits-here v {r} e h = rw (t.rest, ← e, not-true r h)

  digits-over : (v : ℕ) {r : Bool} {d : ℕ} → r ≡ is_digit code → not r ≡ false → d ≡ code - 0x30 → 1000000000 < v * 10 + d →
      None ≡ digits v p (chars s p.at)
  unfolding digits with_digit
  digits-over v {r} e h w k = rw (t.rest, ← e, not-false r h, ← w, lt-ltb _ _ k)

  digits_step : (v : ℕ) {r : Bool} {d : ℕ} → r ≡ is_digit code → not r ≡ false → d ≡ code - 0x30 → v * 10 + d ≤ 1000000000 →
      digits (v * 10 + d) next (chars s next.at) ≡ digits v p (chars s p.at)
  unfolding digits with_digit
  digits_step v {r} e h w k = rw (t.rest, ← e, not-false r h, ← w, le-ltb _ _ k, ← t.is)

-- ---- the byte at an offset, and the character there

-- a place by its parts, as the code holds them
abbrev pub place : ℕ → ℕ → ℕ → Place
place at line column = record { at = at; line = line; column = column }

-- what the first byte b of a character says of its code c: the code is that byte, or it is above ASCII
data Lead (b c : ℕ) : Type 0 where
  ascii : c ≡ b → Lead b c
  wide : 0x80 ≤ c → Lead b c

lead : {u l : List ℕ} {c : ℕ} → Utf8Char u c → Starts l u → Lead (get_or l 0 0) c
lead (utf8_1 a) h = ascii (sym (ap (λ (l : List ℕ). get_or l 0 0) h.split))
lead (utf8_2 a b) h = wide (omega arith)
lead (utf8_3_e0 a b c) h = wide (omega arith)
lead (utf8_3_e1 a b c) h = wide (omega arith)
lead (utf8_3_ed a b c) h = wide (omega arith)
lead (utf8_3_ee a b c) h = wide (omega arith)
lead (utf8_4_f0 a b c d) h = wide (omega arith)
lead (utf8_4_f1 a b c d) h = wide (omega arith)
lead (utf8_4_f4 a b c d) h = wide (omega arith)

lead_high : {b c : ℕ} → 0x80 ≤ b → Lead b c → 0x80 ≤ c
lead_high h (ascii e) = omega arith
lead_high h (wide k) = k

-- an ASCII character that the byte is not
lead-other : {b c k : ℕ} → (b ≡ k → ⊥) → k < 0x80 → Lead b c → c ≡ k → ⊥
lead-other h l (ascii e) m = h (sym e ∙ m)
lead-other h l (wide n) m = omega arith

Leads : List ℕ → ℕ → Decoded → Type 0
Leads s at (Char c n) = Lead (get_or s at 0) c
Leads s at Bad = Unit {0}
Leads s at End = Unit {0}

leads : {s : List ℕ} {at : ℕ} {x : Decoded} → Stands s at x → Leads s at x
unfolding Leads
leads {s} {at} (char {u} {c} h t) = subst (λ (b : ℕ). Lead b c) (get_or-drop at s 0 0 ∙ rw add-zero) (lead h t)
leads (bad h k) = tt
leads (end h) = tt

-- the step that a decoded character makes
decoded-step : (s : List ℕ) (p : Place) (c n : ℕ) {next : Place} → decode_at s p.at ≡ Char c n →
    after p (record { code = c; next = n }) ≡ next → Stepped s p c next
unfolding step_of
decoded-step s p c n d e = step-next s p c _ (ap (step_of p) (chars-char s p.at c n d) ∙ ap (λ (x : Place). Some (c, x)) e)

inside-by : (s : List ℕ) (at : ℕ) → get_or s at 0x80 < 0x80 → Dec (at < length s) → at < length s
inside-by s at h (yes k) = k
inside-by s at h (no k) =
    let z : get_or s at 0x80 ≡ 0x80 = get_or-eq_default s 0x80 (omega arith) in
    absurd (omega arith)

-- a byte within the text does not depend on what is read past the end
any_default : (s : List ℕ) (at : ℕ) → at < length s → get_or s at 0 ≡ get_or s at 0x80
any_default [] at h = absurd (omega arith)
any_default (b ∷ s) zero h = refl
any_default (b ∷ s) (suc at) h = any_default s at (omega arith)

pub octet-read : (s : List ℕ) (at : ℕ) {r : ℕ} → at < length s → r ≡ get_or s at 0 → r ≡ get_or s at 0x80
octet-read s at h e = e ∙ any_default s at h

same_first : {x y : Character} {cs ds : List Character} → x ∷ cs ≡ y ∷ ds → x ≡ y
same_first e = cc

no_char : {ch : Character} {cs : List Character} → [] ≡ ch ∷ cs → ⊥
no_char e =
    let z : ◌≡◌ {A = ℕ} 0 1 = cc in
    omega arith

-- the byte b at an offset, where 0x80 is read past the end
module _ (s : List ℕ) (at : ℕ) {b : ℕ} (e : b ≡ get_or s at 0x80) where
  -- what it says of a character there
  char-lead : (c n : ℕ) → decode_at s at ≡ Char c n → Lead b c
  unfolding Leads
  char-lead c n d =
      let h = char-inside s at c n d in
      rw (e, ← any_default s at (omega arith)) (subst (Leads s at) d (leads (stands s at)))

  lead-by : {c n : ℕ} {cs : List Character} (x : Decoded) → decode_at s at ≡ x → chars s at ≡ record { code = c; next = n } ∷ cs → Lead b c
  lead-by (Char d m) h l =
      subst (λ (k : ℕ). Lead b k) (ap (λ (ch : Character). ch.code) (same_first (sym (chars-char s at d m h) ∙ l))) (char-lead d m h)
  lead-by Bad h l = absurd (no_char (sym (chars-bad s at h) ∙ l))
  lead-by End h l = absurd (no_char (sym (chars-end s at h) ∙ l))

  step-lead : {line column code : ℕ} {next : Place} → Stepped s (place at line column) code next → Lead b code
  step-lead t = lead-by (decode_at s at) refl t.rest

  -- below 0x80 it is a character by itself
  module _ (k : b < 0x80) where
    inside : at < length s
    inside = inside-by s at (rw e at k) (dec_lt at (length s))

    byte-decoded : decode_at s at ≡ Char b (at + 1)
    unfolding sized sequence_length
    byte-decoded = decode-on s at inside ∙ rw (any_default s at inside, ← e, lt-ltb b 0x80 k)

    -- the step behind it: to the place that after gives, and in the same line where it is not LF
    byte-any : (line column : ℕ) → Stepped s (place at line column) b (after (place at line column) (record { code = b; next = at + 1 }))
    byte-any line column = decoded-step s (place at line column) b (at + 1) byte-decoded refl

    byte_step : (line column : ℕ) {up : ℕ} → (b ≡ 0x0A → ⊥) → up ≡ counted (column + 1) →
        Stepped s (place at line column) b (place (at + 1) line up)
    unfolding after
    byte_step line column n u = decoded-step s (place at line column) b (at + 1) byte-decoded (rw (ne_eqb b 0x0A n, u))

    -- what bump answers there
    pub byte-seen : (p : Place) {q : Place} → q ≡ after p (record { code = b; next = at + 1 }) →
        Some (b, q) ≡ step_of p (chars s at)
    unfolding step_of
    byte-seen p u = rw (chars-char s at b (at + 1) byte-decoded, u)

    pub less-bytes : length s - (at + 1) < length s - at
    less-bytes =
        let h = inside in
        omega arith

    -- the offset behind the byte is a number that the machine holds
    pub next_fits : length s < 2 ^ 64 → Fits w64 (at + 1)
    next_fits l =
        let h = inside in
        omega arith

-- ---- classes of characters

-- a class of printed ASCII characters: neither LF nor 0x80 nor any higher byte is in it
pub record Printed (class : ℕ → Bool) : Type 0 where
  pub holds : (c : ℕ) → class c ≡ true → (0x20 < c) × (c < 0x80)

-- a scan over a class ends at p: no character begins there, or one that is not in the class
data Ended (class : ℕ → Bool) (s : List ℕ) (p : Place) : Type 0 where
  stopped : Stopped s p → Ended class s p
  stepped : {code : ℕ} {next : Place} → Stepped s p code next → false ≡ class code → Ended class s p

module _ (class : ℕ → Bool) (printed : Printed class) where
  not_wide : (c : ℕ) → 0x80 ≤ c → (t : Bool) → class c ≡ t → false ≡ t
  not_wide c h true e =
      let k = printed.holds c e in
      absurd (omega arith)
  not_wide c h false e = refl

  outside : {b c : ℕ} → Lead b c → class b ≡ false → false ≡ class c
  outside (ascii e) h = rw e (sym h)
  outside {b} {c} (wide k) h = not_wide c k (class c) refl

  -- the byte b at the offset, and whether it is in the class, r
  module _ (s : List ℕ) (at : ℕ) {b : ℕ} (e : b ≡ get_or s at 0x80) {r : Bool} (f : r ≡ class b) where
    ended_by : (line column : ℕ) (x : Option (ℕ × Place)) → step_of (place at line column) (chars s at) ≡ x → class b ≡ false →
        Ended class s (place at line column)
    ended_by line column (Some (code, next)) d h =
        let t = step-next s (place at line column) code next d in
        stepped t (outside (step-lead s at e t) h)
    ended_by line column None d h = stopped (step_stop s (place at line column) d)

    ended : (line column : ℕ) → not r ≡ true → Ended class s (place at line column)
    ended line column h = ended_by line column (step_of (place at line column) (chars s at)) refl (sym f ∙ not-true r h)

    module _ (h : not r ≡ false) where
      byte_in : (line column : ℕ) {up : ℕ} → up ≡ counted (column + 1) → Stepped s (place at line column) b (place (at + 1) line up)
      byte_in line column u =
          let k = printed.holds b (sym f ∙ not-false r h) in
          byte_step s at e k.1 line column (λ n. omega arith) u

      pub less_in : length s - (at + 1) < length s - at
      less_in = less-bytes s at e (printed.holds b (sym f ∙ not-false r h)).1

      pub fits_in : length s < 2 ^ 64 → Fits w64 (at + 1)
      fits_in = next_fits s at e (printed.holds b (sym f ∙ not-false r h)).1

passed-ended : {class : ℕ → Bool} {s : List ℕ} {p : Place} → Ended class s p → p ≡ passed class p (chars s p.at)
passed-ended {class} (stopped t) = passed_stop t class
passed-ended {class} (stepped t e) = passed_here t class e refl

digits-ended : {s : List ℕ} {p : Place} (v : ℕ) → Ended is_digit s p → Some (v, p) ≡ digits v p (chars s p.at)
digits-ended v (stopped t) = digits_stop t v
digits-ended v (stepped t e) = digits-here t v e refl

range-printed : (low high : ℕ) → 0x20 < low → high < 0x80 → Printed (λ c. within low high c)
range-printed low high h k =
    record {
      holds =
          λ c.
          picked (λ (t : Bool). t ≡ true → (0x20 < c) × (c < 0x80)) (leb low c)
          (λ l m.
          let x = leb-true low c l in
          let y = leb-true c high m in
          (omega arith, omega arith))
          (λ l m. absurd (false≢true m));
    }

one-printed : (k : ℕ) → 0x20 < k → k < 0x80 → Printed (λ c. eqb c k)
one-printed k h m =
    record {
      holds =
          λ c e.
          let x = eqb-true c k e in
          (omega arith, omega arith);
    }

either-printed : (f g : ℕ → Bool) → Printed f → Printed g → Printed (λ c. pick (f c) true (g c))
either-printed f g a b =
    record {
      holds =
          λ c. picked (λ (t : Bool). t ≡ true → (0x20 < c) × (c < 0x80)) (f c) (λ h k. a.holds c h) (λ h k. b.holds c k);
    }

pub digits-printed : Printed is_digit
unfolding is_digit
digits-printed = range-printed 0x30 0x39 (omega arith) (omega arith)

pub letters_printed : Printed is_alpha
unfolding is_alpha
letters_printed =
    either-printed (λ c. within 0x41 0x5A c) (λ c. within 0x61 0x7A c) (range-printed 0x41 0x5A (omega arith) (omega arith))
    (range-printed 0x61 0x7A (omega arith) (omega arith))

pub words-printed : Printed is_word_part
unfolding is_word_part is_word_start
words-printed =
    either-printed is_word_start is_digit
    (either-printed is_alpha (λ c. eqb c 0x5F) letters_printed (one-printed 0x5F (omega arith) (omega arith)))
    digits-printed

-- ---- a column that is counted from the offset first on

counted_none-by : (c n : ℕ) → c ≤ 4294967295 → Dec (c < 4294967295) → counted (c + (n - n)) ≡ c
unfolding counted
counted_none-by c n h (yes k) =
    let m : c + (n - n) ≡ c = omega arith in
    rw (m, lt-ltb c 4294967295 k)
counted_none-by c n h (no k) =
    let m : c ≡ 4294967295 = omega arith in
    let z : 4294967295 ≤ c + (n - n) = omega arith in
    rw (le-ltb (c + (n - n)) 4294967295 z) (sym m)

-- a column that a word of 32 bits holds
counted_none : (c n : ℕ) → c ≤ 4294967295 → counted (c + (n - n)) ≡ c
counted_none c n h = counted_none-by c n h (dec_lt c 4294967295)

pub counted-later : (c first at : ℕ) → first ≤ at → counted (c + (at + 1 - first)) ≡ counted (counted (c + (at - first)) + 1)
counted-later c first at h =
    let n : c + (at + 1 - first) ≡ c + (at - first) + 1 = omega arith in
    rw n (sym (count_on (c + (at - first))))

-- ---- the loops: i, the scan from here ends as the scan from the start does

-- the loops over a class
module _ (class : ℕ → Bool) (s : List ℕ) (at line column : ℕ) {start : Place} (i : passed class (place at line column) (chars s at) ≡ start)
    (printed : Printed class) {b : ℕ} (e : b ≡ get_or s at 0x80) {r : Bool} (f : r ≡ class b) where
  pub passed-end : not r ≡ true → place at line column ≡ start
  passed-end h = passed-ended (ended class printed s at e f line column h) ∙ i

  pub passed-last : {up : ℕ} → not r ≡ true → up ≡ column → place at line up ≡ start
  passed-last h u = rw u (passed-end h)

  pub passed_on : {up : ℕ} → not r ≡ false → up ≡ counted (column + 1) →
      passed class (place (at + 1) line up) (chars s (at + 1)) ≡ start
  passed_on h u = passed-step (byte_in class printed s at e f h line column u) class f h ∙ i

module _ (s : List ℕ) (at line column v : ℕ) {start : Option (ℕ × Place)} (i : digits v (place at line column) (chars s at) ≡ start) {b : ℕ}
    (e : b ≡ get_or s at 0x80) {r : Bool} (f : r ≡ is_digit b) where
  pub digits_end : not r ≡ true → Some (v, place at line column) ≡ start
  digits_end h = digits-ended v (ended is_digit digits-printed s at e f line column h) ∙ i

  module _ {d : ℕ} (h : not r ≡ false) (w : d ≡ b - 0x30) where
    pub digits-many : 1000000000 < v * 10 + d → None ≡ start
    digits-many k = digits-over (byte_in is_digit digits-printed s at e f h line column refl) v f h w k ∙ i

    pub digits_on_lem : {up : ℕ} → v * 10 + d ≤ 1000000000 → up ≡ counted (column + 1) →
        digits (v * 10 + d) (place (at + 1) line up) (chars s (at + 1)) ≡ start
    digits_on_lem k u = digits_step (byte_in is_digit digits-printed s at e f h line column u) v f h w k ∙ i

-- what a character leads to, between tokens and in a comment
space_mode : {c : ℕ} → c ≡ 0x20 → 0 ≡ trivia_mode 0 c
unfolding trivia_mode is_white white_space among
space_mode h = rw h

hash_mode : {c : ℕ} → c ≡ 0x23 → 1 ≡ trivia_mode 0 c
unfolding trivia_mode is_white white_space among
hash_mode h = rw h

comment_mode : {c : ℕ} → (c ≡ 0x0A → ⊥) → 1 ≡ trivia_mode 1 c
unfolding trivia_mode
comment_mode {c} h = rw (ne_eqb c 0x0A h)

line_modes : {c : ℕ} → c ≡ 0x0A → (0 ≡ trivia_mode 0 c) × (0 ≡ trivia_mode 1 c)
unfolding trivia_mode is_white white_space among
line_modes h = (rw h, rw h)

white_mode : (c : ℕ) {r : Bool} → r ≡ is_white c → not r ≡ false → 0 ≡ trivia_mode 0 c
unfolding trivia_mode
white_mode c {r} e h = rw (← e, not-false r h)

token_mode : (c : ℕ) {r : Bool} → r ≡ is_white c → not r ≡ true → (c ≡ 0x23 → ⊥) → 2 ≡ trivia_mode 0 c
unfolding trivia_mode
token_mode c {r} e h n = rw (← e, not-true r h, ne_eqb c 0x23 n)

-- no ASCII character above the space is white space
pub not_white : {c : ℕ} → 0x20 < c → c < 0x80 → false ≡ is_white c
unfolding is_white white_space among
not_white {c} h k =
    over-range 0x9 0xD c true (among (drop 1 white_space) c) (omega arith)
    (over-range 0x20 0x20 c true (among (drop 2 white_space) c) (omega arith) (none_above c (drop 2 white_space)
    (omega arith, (omega arith, (omega arith, (omega arith, (omega arith, (omega arith, (omega arith, (omega arith, (omega arith, tt)))))))))))

-- the plain bytes of a comment, and the bytes of most tokens' first characters, by what a callee answered
plain : {b : ℕ} {r : Bool} → r ≡ is_plain b → not r ≡ false → (b < 0x80) × (b ≡ 0x0A → ⊥)
unfolding is_plain
plain {b} {r} e h =
    picked (λ (t : Bool). t ≡ true → (b < 0x80) × (b ≡ 0x0A → ⊥)) (eqb b 0x0A) (λ m n. absurd (false≢true n))
    (λ m n. (ltb-true b 0x80 n, eqb-false b 0x0A m)) (sym e ∙ not-false r h)

token-start : {b : ℕ} {r : Bool} → r ≡ pick (ltb b 0x24) false (ltb b 0x80) → r ≡ true → (0x24 ≤ b) × (b < 0x80)
token-start {b} {r} e h =
    picked (λ (t : Bool). t ≡ true → (0x24 ≤ b) × (b < 0x80)) (ltb b 0x24) (λ m n. absurd (false≢true n))
    (λ m n. (ltb-false b 0x24 m, ltb-true b 0x80 n)) (sym e ∙ h)

-- where such a loop begins, no byte has been passed
pub passed-begin : (class : ℕ → Bool) (s : List ℕ) (at line column : ℕ) → column ≤ 4294967295 →
    passed class (place at line (counted (column + (at - at)))) (chars s at) ≡ passed class (place at line column) (chars s at)
passed-begin class s at line column h = rw (counted_none column at h)

pub plain_stop : (s : List ℕ) (first at line column : ℕ) {start : Place} {up : ℕ} →
    trivia 1 (place at line (counted (column + (at - first)))) (chars s at) ≡ start → up ≡ counted (column + (at - first)) →
    trivia 1 (place at line up) (chars s at) ≡ start
plain_stop s first at line column i u = rw u i

-- over the plain bytes of a comment that begin at the offset first; the column is counted from there
module _ (s : List ℕ) (first at line column : ℕ) {start : Place} (l : first ≤ at)
    (i : trivia 1 (place at line (counted (column + (at - first)))) (chars s at) ≡ start) {b : ℕ} (e : b ≡ get_or s at 0x80) {r : Bool}
    (f : r ≡ is_plain b) (h : not r ≡ false) where
  pub plain-on : trivia 1 (place (at + 1) line (counted (column + (at + 1 - first)))) (chars s (at + 1)) ≡ start
  plain-on =
      let k = plain f h in
      trivia-step (byte_step s at e k.0 line (counted (column + (at - first))) k.1 (counted-later column first at l)) 1 (comment_mode k.1)
      (λ x. omega arith) ∙ i

  pub plain-less : length s - (at + 1) < length s - at
  plain-less = less-bytes s at e (plain f h).0

  pub plain_fits : length s < 2 ^ 64 → Fits w64 (at + 1)
  plain_fits = next_fits s at e (plain f h).0

-- the comment from an offset, the column counted from the offset first, ends where it does from there
abbrev pub CommentFrom : List ℕ → ℕ → ℕ → ℕ → ℕ → Type 0
CommentFrom s first line column at =
    (first ≤ at) × (trivia 1 (place at line (counted (column + (at - first)))) (chars s at) ≡ trivia 1 (place first line column) (chars s first))

-- so it does behind a row of plain bytes
pub plain_row : (s : List ℕ) (first line column at : ℕ) → column ≤ 4294967295 → Row is_plain s first at → CommentFrom s first line column at
plain_row s first line column at h row =
    over-row is_plain s (CommentFrom s first line column)
    (λ n l k i. (omega arith, plain-on s first n line column i.0 i.1 (any_default s n l) (sym k) refl)) first at row
    (omega arith, rw (counted_none column first h))

-- the place behind a character stands where that ends
pub after-at : (p : Place) (code n : ℕ) {next : Place} → next ≡ after p (record { code = code; next = n }) → next.at ≡ n
unfolding after
after-at p code n e = rw e refl

-- over a comment: from p over its plain bytes to q
module _ (s : List ℕ) (p q : Place) {start : Place} (i : trivia 1 p (chars s p.at) ≡ start)
    (m : trivia 1 q (chars s q.at) ≡ trivia 1 p (chars s p.at)) where
  pub comment-line : {b : ℕ} → b ≡ get_or s q.at 0x80 → b ≡ 0x0A → trivia 0 q (chars s q.at) ≡ start
  comment-line e h =
      let t = byte-any s q.at e (omega arith) q.line q.column in
      let k = line_modes h in
      sym (trivia-step t 0 k.0 (λ x. omega arith)) ∙ trivia-step t 1 k.1 (λ x. omega arith) ∙ m ∙ i

  -- behind its LF
  pub comment-passed : {b : ℕ} {next : Place} → b ≡ get_or s q.at 0x80 → b ≡ 0x0A → next ≡ after q (record { code = 0x0A; next = q.at + 1 }) →
      trivia 0 next (chars s next.at) ≡ start
  comment-passed e h n = rw (n, ← h) (trivia-step (byte-any s q.at e (omega arith) q.line q.column) 1 (line_modes h).1 (λ x. omega arith)) ∙ m ∙ i

  module _ {a : Option (ℕ × Place)} (g : a ≡ step_of q (chars s q.at)) where
    pub comment_stop : a ≡ None → trivia 0 q (chars s q.at) ≡ start
    comment_stop h =
        let t = step_stop s q (sym g ∙ h) in
        sym (trivia_stop t 0) ∙ trivia_stop t 1 ∙ m ∙ i

    pub comment-on : {code : ℕ} {next : Place} {b : ℕ} → a ≡ Some (code, next) → b ≡ get_or s q.at 0x80 → (b ≡ 0x0A → ⊥) →
        trivia 1 next (chars s next.at) ≡ start
    comment-on {code} {next} n e h =
        let t = step-next s q code next (sym g ∙ n) in
        trivia-step t 1 (comment_mode (lead-other h (omega arith) (step-lead s q.at e t))) (λ x. omega arith) ∙ m ∙ i

-- its loop goes on behind p, and less of the text is left
module _ (s : List ℕ) (p q : Place) {a : Option (ℕ × Place)} {code : ℕ} {next : Place} (l : p.at ≤ q.at) (g : a ≡ step_of q (chars s q.at))
    (n : a ≡ Some (code, next)) where
  pub comment-behind : {first : ℕ} → first ≤ p.at → first ≤ next.at
  comment-behind h =
      let t = step-next s q code next (sym g ∙ n) in
      omega arith

  pub comment-less : length s - next.at < length s - p.at
  comment-less =
      let t = step-next s q code next (sym g ∙ n) in
      omega arith

-- at a byte that the code has compared with an ASCII character n
module _ (s : List ℕ) (at : ℕ) {b n : ℕ} (e : b ≡ get_or s at 0x80) (h : b ≡ n) (k : n < 0x80) where
  pub same-fits : length s < 2 ^ 64 → Fits w64 (at + 1)
  same-fits = next_fits s at e (omega arith)

  pub same-less : {next : ℕ} → at + 1 ≤ next → length s - next < length s - at
  same-less l =
      let z = inside s at e (omega arith) in
      omega arith

pub place-less : (s : List ℕ) (at line column : ℕ) {a : Option (ℕ × Place)} {code : ℕ} {next : Place} → a ≡ step_of (place at line column) (chars s at) →
    a ≡ Some (code, next) → length s - next.at < length s - at
place-less s at line column g n = less-left s (place at line column) g n

-- over white space and comments
module _ (s : List ℕ) (at line column : ℕ) {start : Place} (i : trivia 0 (place at line column) (chars s at) ≡ start) {b : ℕ}
    (e : b ≡ get_or s at 0x80) where
  pub trivia-end : {r : Bool} → r ≡ pick (ltb b 0x24) false (ltb b 0x80) → r ≡ true → place at line column ≡ start
  trivia-end f h =
      let k = token-start f h in
      trivia-here (byte-any s at e k.1 line column) 0 (token_mode b (not_white (omega arith) k.1) refl (λ x. omega arith)) refl ∙ i

  pub trivia-on : {up : ℕ} → b ≡ 0x20 → up ≡ counted (column + 1) → trivia 0 (place (at + 1) line up) (chars s (at + 1)) ≡ start
  trivia-on h u = trivia-step (byte_step s at e (omega arith) line column (λ x. omega arith) u) 0 (space_mode h) (λ x. omega arith) ∙ i

  pub trivia-white : {a : Option (ℕ × Place)} {code : ℕ} {next : Place} {r : Bool} → a ≡ step_of (place at line column) (chars s at) →
      a ≡ Some (code, next) → r ≡ is_white code → not r ≡ false → trivia 0 next (chars s next.at) ≡ start
  trivia-white {a} {code} {next} g n f h =
      trivia-step (step-next s (place at line column) code next (sym g ∙ n)) 0 (white_mode code f h) (λ x. omega arith) ∙ i

  pub trivia-token : {a : Option (ℕ × Place)} {code : ℕ} {next : Place} {r : Bool} → a ≡ step_of (place at line column) (chars s at) →
      a ≡ Some (code, next) → r ≡ is_white code → not r ≡ true → (b ≡ 0x23 → ⊥) → place at line column ≡ start
  trivia-token {a} {code} {next} g n f h k =
      let t = step-next s (place at line column) code next (sym g ∙ n) in
      trivia-here t 0 (token_mode code f h (lead-other k (omega arith) (step-lead s at e t))) refl ∙ i

  pub trivia-none : {a : Option (ℕ × Place)} → a ≡ step_of (place at line column) (chars s at) → a ≡ None → place at line column ≡ start
  trivia-none g n = trivia_stop (step_stop s (place at line column) (sym g ∙ n)) 0 ∙ i

  pub trivia-comment : {up : ℕ} (q : Place) → b ≡ 0x23 → up ≡ counted (column + 1) →
      trivia 0 q (chars s q.at) ≡ trivia 1 (place (at + 1) line up) (chars s (at + 1)) → trivia 0 q (chars s q.at) ≡ start
  trivia-comment q h u c = c ∙ trivia-step (byte_step s at e (omega arith) line column (λ x. omega arith) u) 0 (hash_mode h) (λ x. omega arith) ∙ i

-- over a string
module _ (s : List ℕ) (at line column : ℕ) {b : ℕ} (e : b ≡ get_or s at 0x80) where
  -- a character above ASCII is neither a quote nor LF
  pub quoted-wide : {code : ℕ} {next : Place} → 0x80 ≤ b → Stepped s (place at line column) code next →
      quoted next (chars s next.at) ≡ quoted (place at line column) (chars s at)
  quoted-wide {code} h t =
      let k = lead_high h (step-lead s at e t) in
      quoted-step t (λ n. omega arith) (λ n. omega arith)

  module _ {start : Result (ℕ × Place) ℕ} (i : quoted (place at line column) (chars s at) ≡ start) (k : b < 0x80) where
    pub quoted-close : {up : ℕ} → b ≡ 0x22 → up ≡ counted (column + 1) → Ok (at, place (at + 1) line up) ≡ start
    quoted-close n u = quoted-quote (byte_step s at e k line column (λ m. omega arith) u) n ∙ i

    pub quoted-end : b ≡ 0x0A → Err at ≡ start
    quoted-end n = quoted-line (byte-any s at e k line column) n ∙ i

    pub quoted-on : {up : ℕ} → (b ≡ 0x22 → ⊥) → (b ≡ 0x0A → ⊥) → up ≡ counted (column + 1) →
        quoted (place (at + 1) line up) (chars s (at + 1)) ≡ start
    quoted-on m n u = quoted-step (byte_step s at e k line column n u) m n ∙ i

-- closes most of what the loop of a scan leaves: search scans
pub ruleset scans = (
  rules,
  less-bytes,
  next_fits,
  less_in,
  fits_in,
  digits-printed,
  letters_printed,
  words-printed,
  passed-end,
  passed_on,
  trivia-end,
  trivia-on,
  plain-less,
  plain_fits,
  quoted-close,
  quoted-on,
  digits_end,
  digits_on_lem,
)
