-- Laws on steps through a text, from one place to the next: what every loop over characters cites.
use mathlib.Core.Path.{◌≡◌, ◌∙◌, refl, ap, sym, subst}
use Prim.Native.Nat.{ℕ, ◌<◌, ◌≤◌}
use native.Mathlib.Omega.{arith}
use mathlib.Core.List.{List, [], ◌∷◌}
use lib.ListN.{length}
use Rattle.text.specs.Utf8.{decode_at, Character, chars, row_end}
use Rattle.text.specs.Place.{after, step_of, walked}
use Rattle.text.specs.declared.utf8.Decoded.{Decoded}
use Rattle.text.specs.declared.utf8.Decoded.TheVariants.{Char, Bad, End}
use Rattle.text.specs.declared.place.Place.{Place}
use Rattle.std.specs.Prelude.{Option, Some, None}
use Rattle.text.proofs.CharLaws.{chars-char, chars-bad, chars-end, char-inside}

-- a character stands at p, and next is the place behind it
pub record Stepped (s : List ℕ) (p : Place) (code : ℕ) (next : Place) : Type 0 where
  pub more : p.at < next.at
  pub inside : next.at ≤ length s
  pub is : next ≡ after p (record { code = code; next = next.at })
  pub rest : chars s p.at ≡ record { code = code; next = next.at } ∷ chars s next.at

-- no character begins at p
pub record Stopped (s : List ℕ) (p : Place) : Type 0 where
  pub rest : chars s p.at ≡ []

-- the step that decoding a character makes
decoded-step : (s : List ℕ) (p : Place) (c n : ℕ) → decode_at s p.at ≡ Char c n → Stepped s p c (after p (record { code = c; next = n }))
unfolding after
decoded-step s p c n d =
    let g = char-inside s p.at c n d in
    record { more = g.0; inside = g.1; is = refl; rest = chars-char s p.at c n d }

same_step : {p q : Place} {c d : ℕ} → ◌≡◌ {A = Option (ℕ × Place)} (Some (c, p)) (Some (d, q)) → (c ≡ d) × (p ≡ q)
same_step {p} {q} {c} {d} e =
    let m : ◌≡◌ {A = ℕ × Place} (c, p) (d, q) = cc in
    (ap (λ (x : ℕ × Place). x.0) m, ap (λ (x : ℕ × Place). x.1) m)

never_stop : {p : Place} {c : ℕ} → ◌≡◌ {A = Option (ℕ × Place)} None (Some (c, p)) → ⊥
never_stop e = let z : ◌≡◌ {A = ℕ} 0 1 = cc in omega arith

step_by : (s : List ℕ) (p : Place) (code : ℕ) (next : Place) (x : Decoded) → decode_at s p.at ≡ x →
    step_of p (chars s p.at) ≡ Some (code, next) → Stepped s p code next
unfolding step_of
step_by s p code next (Char c n) d e =
    let q = same_step (sym (ap (step_of p) (chars-char s p.at c n d)) ∙ e) in
    subst (λ (k : ℕ). Stepped s p k next) q.0 (subst (λ (k : Place). Stepped s p c k) q.1 (decoded-step s p c n d))
step_by s p code next Bad d e = absurd (never_stop (sym (ap (step_of p) (chars-bad s p.at d)) ∙ e))
step_by s p code next End d e = absurd (never_stop (sym (ap (step_of p) (chars-end s p.at d)) ∙ e))

-- what a step that found a character says
pub step-next : (s : List ℕ) (p : Place) (code : ℕ) (next : Place) → step_of p (chars s p.at) ≡ Some (code, next) → Stepped s p code next
step-next s p code next e = step_by s p code next (decode_at s p.at) refl e

stop_by : (p : Place) (l : List Character) → step_of p l ≡ None → l ≡ []
unfolding step_of
stop_by p [] e = refl
stop_by p (ch ∷ cs) e = absurd (never_stop (sym e))

-- and one that found none
pub step_stop : (s : List ℕ) (p : Place) → step_of p (chars s p.at) ≡ None → Stopped s p
step_stop s p e = record { rest = stop_by p (chars s p.at) e }

walk-cons : (p : Place) {ch : Character} {l r : List Character} → l ≡ ch ∷ r → walked p l ≡ walked (after p ch) r
unfolding walked
walk-cons p e = ap (walked p) e

-- a walk goes on behind a step, and ends where no character begins
pub walk_step : {s : List ℕ} {p : Place} {code : ℕ} {next : Place} → Stepped s p code next →
    walked p (chars s p.at) ≡ walked next (chars s next.at)
walk_step {s} {p} {code} {next} t = walk-cons p t.rest ∙ ap (λ (k : Place). walked k (chars s next.at)) (sym t.is)

pub walk_stop : {s : List ℕ} {p : Place} → Stopped s p → walked p (chars s p.at) ≡ p
unfolding walked
walk_stop {s} {p} t = ap (walked p) t.rest

-- a walk ends at the offset where the row of characters ends
pub walk-row : (cs : List Character) (p : Place) → (walked p cs).at ≡ row_end p.at cs
unfolding walked after row_end
walk-row [] p = refl
walk-row (ch ∷ cs) p = walk-row cs (after p ch)

-- the character that was decoded, and the place behind it
pub to-next : (s : List ℕ) (p : Place) {d : Decoded} {c n : ℕ} {q : Place} → d ≡ decode_at s p.at → d ≡ Char c n →
    q ≡ after p (record { code = c; next = n }) → Some (c, q) ≡ step_of p (chars s p.at)
unfolding step_of
to-next s p d e q = rw (chars-char s p.at _ _ (sym d ∙ e), q)
