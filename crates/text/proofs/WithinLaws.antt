-- Every place that a walk over a text reaches lies within it, so that in a text whose length is held in 32 bits no line or column is cut.
use mathlib.Core.Path.{◌≡◌, ◌∙◌, ap, sym}
use mathlib.Core.Bool.{Bool, true, false}
use Prim.Native.Nat.{ℕ, ◌+◌, ◌<◌, ◌≤◌}
use native.Mathlib.Omega.{arith}
use mathlib.Core.List.{List, [], ◌∷◌, ◌++◌, append-nil}
use lib.ListN.{length}
use lib.Dec.{ltb, eqb}
use borrow.Author.Tests.{ltb-false, lt-ltb}
use Rattle.text.specs.Choice.{pick}
use Rattle.text.specs.Utf8.{Character, codes, chars}
use Rattle.text.specs.Place.{most_held, counted, line_feeds, since_line_feed, line_after, column_after, after, step_of, start, walked, judge, check_of, Counts, Within}
use Rattle.text.specs.declared.place.Place.{Place}
use Rattle.text.specs.declared.place.IllFormed.{IllFormed}
use Rattle.std.specs.Prelude.{Result, Ok, Err}
use Rattle.text.proofs.Tests.{picked}
use Rattle.text.proofs.StepLaws.{Stepped, step-next}
use Rattle.text.proofs.PlaceRules.{line-walked, column-walked}

-- a number that is held is at most the number itself, and the number itself where that is small
pub counted-most : (n : ℕ) → counted n ≤ n
unfolding counted
counted-most n = picked (λ (m : ℕ). m ≤ n) (ltb n most_held) (λ h. omega arith) (λ h. omega (arith, ltb-false))

pub counted-exact : (n : ℕ) → n < most_held → counted n ≡ n
unfolding counted
counted-exact n h = rw (lt-ltb n most_held h)

-- line feeds among characters, and the characters behind the last one, are at most all of them
feeds_most : (cs : List ℕ) → line_feeds cs ≤ length cs
unfolding line_feeds
feeds_most [] = omega arith
feeds_most (c ∷ cs) =
    let r = feeds_most cs in
    picked (λ (n : ℕ). n ≤ length (c ∷ cs)) (eqb c 0x0A) (λ h. omega arith) (λ h. omega arith)

since_most : (cs : List ℕ) → since_line_feed cs ≤ length cs
unfolding since_line_feed
since_most [] = omega arith
since_most (c ∷ cs) =
    let r = since_most cs in
    picked (λ (n : ℕ). n ≤ length (c ∷ cs)) (eqb (line_feeds (c ∷ cs)) 0) (λ h. omega arith) (λ h. omega arith)

-- what stands behind the first character
rest_of : {s : List ℕ} {p n : Place} {c : ℕ} {ch : Character} {cs : List Character} → Stepped s p c n → chars s p.at ≡ ch ∷ cs →
    chars s n.at ≡ cs
rest_of h e = let f = h.rest in cc

-- each character has a byte at least, and the last ends within the text
pub row_fits : (s : List ℕ) (p : Place) (cs rest : List Character) → chars s p.at ≡ cs ++ rest → p.at ≤ length s →
    (p.at + length (codes cs) ≤ (walked p cs).at) × ((walked p cs).at ≤ length s)
unfolding walked step_of
row_fits s p [] rest e h = (omega arith, h)
row_fits s p (ch ∷ cs) rest e h =
    let t = step-next s p ch.code (after p ch) (ap (step_of p) e) in
    let r = row_fits s (after p ch) cs rest (rest_of t e) t.inside in
    (omega (arith, t.more, r.0), r.1)

module _ (s : List ℕ) (cs rest : List Character) (begins : chars s 0 ≡ cs ++ rest) where
  fits : (length (codes cs) ≤ (walked start cs).at) × ((walked start cs).at ≤ length s)
  fits = let f = row_fits s start cs rest begins (omega arith) in (omega (arith, f.0), f.1)

  -- the place behind the first characters of a text lies within it
  pub walked-inside : (walked start cs).at ≤ length s
  walked-inside = fits.1

  pub walked-within : Within s (walked start cs).line (walked start cs).column
  unfolding line_after column_after
  walked-within =
      record {
        line_most = omega (arith, line-walked cs, counted-most (line_feeds (codes cs) + 1), feeds_most (codes cs), fits.0, fits.1);
        column_most = omega (arith, column-walked cs, counted-most (since_line_feed (codes cs) + 1), since_most (codes cs), fits.0, fits.1);
      }

  -- and its line and column are the counts themselves
  pub walked-counts : length s + 1 < most_held → Counts (codes cs) (walked start cs).line (walked start cs).column
  unfolding line_after column_after
  walked-counts short =
      record {
        line_is = line-walked cs ∙ counted-exact (line_feeds (codes cs) + 1) (omega (arith, feeds_most (codes cs), fits.0, fits.1));
        column_is = column-walked cs ∙ counted-exact (since_line_feed (codes cs) + 1) (omega (arith, since_most (codes cs), fits.0, fits.1));
      }

-- what holds of the place where the check ended holds of the place of refusal 4
judge-holds : (P : ℕ → ℕ → Type 0) (t : Bool) {x y : IllFormed} → P x.line x.column →
    pick {A = Result Unit IllFormed} t (Ok tt) (Err x) ≡ Err y → P y.line y.column
judge-holds P true w e = absurd (let z : ◌≡◌ {A = ℕ} 0 1 = cc in omega arith)
judge-holds P false {x} {y} w e =
    let p : x ≡ y = cc in
    rw p at w

-- the place of refusal 4 lies within the text, and is behind all characters before the first place where none begins
module _ (s : List ℕ) {at : IllFormed} (is : check_of s ≡ Err at) where
  pub check-within : Within s at.line at.column
  unfolding check_of judge
  check-within =
      judge-holds (Within s) (eqb (walked start (chars s 0)).at (length s)) (walked-within s (chars s 0) [] (sym (append-nil (chars s 0)))) is

  pub check-counts : length s + 1 < most_held → Counts (codes (chars s 0)) at.line at.column
  unfolding check_of judge
  check-counts short =
      judge-holds (Counts (codes (chars s 0))) (eqb (walked start (chars s 0)).at (length s))
      (walked-counts s (chars s 0) [] (sym (append-nil (chars s 0))) short) is
