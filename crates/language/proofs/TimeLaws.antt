-- Time bounds: what is answered is a reading, and a reading is what is answered.
use Prim.Native.Nat.{ℕ, ◌+◌}
use lib.Dec.{leb}
use borrow.Author.Tests.{leb-true, le-leb}
use mathlib.Core.Path.{◌≡◌, refl}
use Rattle.text.specs.Literal.{ascii}
use Rattle.text.specs.Part.{same_bytes}
use Rattle.text.specs.Split.{split}
use Rattle.tokens.specs.Result.{ok}
use Rattle.tokens.specs.Cursor.{Tok, is_kind}
use Rattle.tokens.specs.Phrase.{words_in, position}
use Rattle.tokens.specs.Grammar.{token, the_first, the_second}
use Rattle.tokens.proofs.Okay.{Okay, pick-ok, perhaps-ok, word-kind, is_kind_lem, not-kind, kind-yes, kind-no, kind-complete}
use Rattle.tokens.proofs.PhraseLaws.{choice-ok, choice-complete}
use Rattle.model.specs.declared.SolarEvent.{SolarEvent}
use Rattle.model.specs.declared.TimeBound.{TimeBound}
use Rattle.language.specs.Limits.{most_later, most_earlier}
use Rattle.language.specs.Words.{signed}
use Rattle.language.specs.Timeval.{most_offset, offset_bound, offset_at, with_offset, solar_event, solar_at, time_bound}
use Rattle.language.specs.grammar.Timeval.{SolarEventOf, Bound, clock, solar, later, earlier}
use Rattle.language.proofs.WordLaws.{Unsigned, then-kind}

module _ (t : ℕ → Tok) where
  solar-sound : {i j : ℕ} (event : SolarEvent) → SolarEventOf t i event j → Okay (Bound t i) (with_offset t event j)
  unfolding with_offset offset_at offset_bound most_offset signed
  solar-sound {i} {j} event h =
      let G = Bound t i in
      perhaps-ok G (is_kind t 21 j) j _ _
      (λ plus.
      then-kind t G 5 (j + 1) _
      (λ ms k d. pick-ok G (leb ms most_later) _ _ (λ e. later h (is_kind_lem t 21 j plus) d (leb-true _ _ e)) (λ e. tt)))
      (λ n.
      perhaps-ok G (is_kind t 22 j) j _ _
      (λ minus.
      then-kind t G 5 (j + 1) _
      (λ ms k d. pick-ok G (leb ms most_earlier) _ _ (λ e. earlier h (is_kind_lem t 22 j minus) d (leb-true _ _ e)) (λ e. tt)))
      (λ n. solar h))

  pub bound-sound : (i : ℕ) → Okay (Bound t i) (time_bound t i)
  unfolding time_bound solar_at solar_event words_in split
  bound-sound i =
      let G = Bound t i in
      pick-ok G (is_kind t 4 i) _ _
      (λ e. then-kind t G 4 i _ (λ m j h. clock h))
      (λ e.
      choice-ok t G (ascii "sunrise sunset") 21 i _
      ((λ j w. solar-sound _ (the_first w)), ((λ j w. solar-sound _ (the_second w)), tt)))

-- a solar event, whatever follows it
solar-complete : {t : ℕ → Tok} {i j : ℕ} {event : SolarEvent} → SolarEventOf t i event j → time_bound t i ≡ with_offset t event j
unfolding time_bound solar_at solar_event words_in split position same_bytes
solar-complete {t} {i} (the_first w) =
    rw (kind-no t 4 i (not-kind t 4 refl (word-kind w)), choice-complete t (ascii "sunrise sunset") 21 {n = 0} w refl refl)
solar-complete {t} {i} (the_second w) =
    rw (kind-no t 4 i (not-kind t 4 refl (word-kind w)), choice-complete t (ascii "sunrise sunset") 21 {n = 1} w refl refl)

pub bound-complete : {t : ℕ → Tok} {i j : ℕ} {b : TimeBound} → Unsigned t j → Bound t i b j → time_bound t i ≡ ok b j
unfolding time_bound with_offset offset_at offset_bound most_offset signed
bound-complete {t} u (clock (token p)) = rw (kind-yes t refl p, kind-complete t refl (token p))
bound-complete {t} {j = j} u (solar h) = rw (solar-complete h, kind-no t 21 j u.no_plus, kind-no t 22 j u.no_minus)
bound-complete {t} u (later h (token p) d l) = rw (solar-complete h, kind-yes t refl p, kind-complete t refl d, le-leb _ _ l)
bound-complete {t} u (earlier h (token p) d l) =
    rw (solar-complete h, kind-no t 21 _ (not-kind t 21 refl p), kind-yes t refl p, kind-complete t refl d, le-leb _ _ l)
