-- The word of a list that begins at an offset, compared byte by byte with another.
use mathlib.Core.Path.{◌≡◌, ◌∙◌, refl, sym, ap, subst}
use mathlib.Core.Bool.{Bool, true, false}
use mathlib.Core.List.{List, [], ◌∷◌}
use Prim.Native.Nat.{ℕ, ◌+◌, ◌-◌, ◌<◌, ◌≤◌}
use native.Mathlib.Omega.{arith}
use native.Mathlib.Nat.{add-zero}
use lib.ListN.{length, get_or, drop, length-drop}
use lib.Seq.{length-take-le, get_or-take, get_or-drop, ext_get_or}
use lib.Dec.{eqb}
use borrow.Author.Tests.{lt-ltb, eqb-true, eqb-false}
use Rattle.text.specs.Choice.{pick}
use Rattle.text.specs.Part.{part_of, same_bytes}
use Rattle.text.specs.Find.{first_at}
use Rattle.text.proofs.Tests.{lt_no}
use Rattle.text.proofs.PartLaws.{same_refl, same-eq}
use Rattle.text.proofs.FindLaws.{first-within, first-from, first_past, first-here, first_next}
use Rattle.tokens.specs.Phrase.{behind_word}

-- the first byte of a word, if there is one
pub none_first : (w : List ℕ) → length w ≡ 0 → get_or w 0 0x20 ≡ 0x20
none_first [] e = refl
none_first (x ∷ w) e = absurd (omega arith)

pub some_first : (w : List ℕ) → 0 < length w → get_or w 0 0x20 ≡ get_or w 0 0
some_first [] h = absurd (omega arith)
some_first (x ∷ w) h = refl

-- rows that are not equal
unlike : (a b : List ℕ) → (a ≡ b → ⊥) → same_bytes a b ≡ false
unlike a b n = by (same_bytes a b) refl
  where
    by : (t : Bool) → same_bytes a b ≡ t → t ≡ false
    by true e = absurd (n (same-eq a b e))
    by false e = refl

module _ (list : List ℕ) (at : ℕ) (w : List ℕ) where
  -- past the end there is no word
  pub none_past : length list ≤ at → 0 ≡ behind_word list at w
  unfolding behind_word
  none_past h = lt_no at (length list) _ 0 h refl

  -- where it ends, and its bytes
  abbrev Ends : ℕ
  Ends = first_at 0x20 list at

  word-length : at < length list → length (part_of list at Ends) ≡ Ends - at
  unfolding part_of
  word-length h =
      let i = first-within 0x20 list at in
      length-take-le (Ends - at) (drop at list) (simp length-drop (omega arith))

  word_byte : (m : ℕ) → m < Ends - at → get_or (part_of list at Ends) m 0 ≡ get_or list (at + m) 0
  unfolding part_of
  word_byte m l = get_or-take (Ends - at) (drop at list) m 0 l ∙ get_or-drop at list m 0

  module _ (h : at < length list) where
    another : (w ≡ part_of list at Ends → ⊥) → 0 ≡ behind_word list at w
    unfolding behind_word
    another n = rw (lt-ltb at (length list) h, unlike w (part_of list at Ends) n)

    of_length : w ≡ part_of list at Ends → length w ≡ Ends - at
    of_length e = ap length e ∙ word-length h

    -- another first byte
    pub other-first : {f : ℕ} → f ≡ get_or w 0 0x20 → (get_or list at 0 ≡ f → ⊥) → same_bytes w (part_of list at Ends) ≡ false
    other-first d n = unlike w (part_of list at Ends) (λ e. by e (eqb (get_or list at 0) 0x20) refl)
      where
        by : w ≡ part_of list at Ends → (t : Bool) → eqb (get_or list at 0) 0x20 ≡ t → ⊥
        by e true q =
            let z = eqb-true (get_or list at 0) 0x20 q in
            let f = first-here 0x20 list at h z in
            let m = of_length e in
            n (z ∙ sym (d ∙ none_first w (omega arith)))
        by e false q =
            let f = first_next 0x20 list at h (eqb-false (get_or list at 0) 0x20 q) in
            let g = first-from 0x20 list (at + 1) (omega arith) in
            let m = of_length e in
            let b = word_byte 0 (omega arith) in
            n (sym (d ∙ some_first w (omega arith) ∙ ap (λ (x : List ℕ). get_or x 0 0) e ∙ rw add-zero at b))

    -- too long for what is left
    pub too_long : length list - at < length w → 0 ≡ behind_word list at w
    too_long l = another (λ e. let n = of_length e in let i = first-within 0x20 list at in omega arith)

    -- what is known when the first k bytes are the same
    module _ (k : ℕ) (same : first_at 0x20 list (at + k) ≡ Ends) (fits : at + length w ≤ length list) where
      from : at + k ≤ length list → at + k ≤ Ends
      from l = subst (λ (n : ℕ). at + k ≤ n) same (first-from 0x20 list (at + k) l)

      -- another byte
      pub other_byte : k < length w → (get_or list (at + k) 0 ≡ get_or w k 0 → ⊥) → 0 ≡ behind_word list at w
      other_byte l n =
          another
          (λ e.
          let m = of_length e in
          let inside : k < Ends - at = omega arith in
          n (sym (word_byte k inside) ∙ sym (ap (λ (x : List ℕ). get_or x k 0) e)))

      -- a space in w
      pub a-space : k < length w → get_or list (at + k) 0 ≡ get_or w k 0 → get_or w k 0 ≡ 0x20 → 0 ≡ behind_word list at w
      a-space l q b =
          let f = first-here 0x20 list (at + k) (omega arith) (q ∙ b) in
          another (λ e. let m = of_length e in omega arith)

      -- one more
      pub one_more : k < length w → get_or list (at + k) 0 ≡ get_or w k 0 → (get_or w k 0 ≡ 0x20 → ⊥) → first_at 0x20 list (at + (k + 1)) ≡ Ends
      one_more l q n =
          let e : at + (k + 1) ≡ at + k + 1 = omega arith in
          rw e (first_next 0x20 list (at + k) (omega arith) (λ z. n (sym q ∙ z)) ∙ same)

    -- all bytes of w are the same
    module _ (k : ℕ) (same : first_at 0x20 list (at + k) ≡ Ends) (each : (m : ℕ) → m < k → get_or w m 0 ≡ get_or list (at + m) 0) (few : k ≤ length w)
        (all : length w ≤ k) where
      same-all : first_at 0x20 list (at + length w) ≡ Ends
      same-all = let e : length w ≡ k = omega arith in rw e same

      this-word : Ends ≡ at + length w → at + length w + 1 ≡ behind_word list at w
      unfolding behind_word
      this-word e =
          let n : length w ≡ length (part_of list at Ends) = sym (word-length h ∙ (omega arith)) in
          let q : w ≡ part_of list at Ends =
          ext_get_or 0 w (part_of list at Ends) n (λ m l. each m (omega arith) ∙ sym (word_byte m (omega arith))) in
          rw (lt-ltb at (length list) h, ← q, same_refl w) (ap (λ (x : ℕ). x + 1) (sym e))

      pub word-last : at + length w ≡ length list → at + length w + 1 ≡ behind_word list at w
      word-last e = this-word (sym same-all ∙ (let p = first_past 0x20 list (at + length w) (omega arith) in omega arith))

      pub word-here : at + length w < length list → get_or list (at + length w) 0 ≡ 0x20 → at + length w + 1 ≡ behind_word list at w
      word-here l b = this-word (sym same-all ∙ sym (first-here 0x20 list (at + length w) l b))

      pub word-longer : at + length w < length list → (get_or list (at + length w) 0 ≡ 0x20 → ⊥) → 0 ≡ behind_word list at w
      word-longer l n =
          let f = first_next 0x20 list (at + length w) l n in
          let g = first-from 0x20 list (at + length w + 1) (omega arith) in
          let i = same-all in
          another (λ e. let m = of_length e in omega arith)

-- what the answer says
module _ (list : List ℕ) (at : ℕ) (w : List ℕ) {r : ℕ} (e : r ≡ behind_word list at w) (h : at < length list) where
  answered : r ≡ pick (same_bytes w (part_of list at (first_at 0x20 list at))) (first_at 0x20 list at + 1) 0
  unfolding behind_word
  answered = e ∙ rw (lt-ltb at (length list) h)

  by-test : (t : Bool) → r ≡ pick t (first_at 0x20 list at + 1) 0 → (r ≡ 0 → ⊥) → (t ≡ true) × (r ≡ first_at 0x20 list at + 1)
  by-test true q n = (refl, q)
  by-test false q n = absurd (n q)

  pub is-this : (r ≡ 0 → ⊥) → (same_bytes w (part_of list at (first_at 0x20 list at)) ≡ true) × (r ≡ first_at 0x20 list at + 1)
  is-this n = by-test _ answered n

  by-none : (t : Bool) → r ≡ pick t (first_at 0x20 list at + 1) 0 → r ≡ 0 → t ≡ false
  by-none true q z = absurd (omega arith)
  by-none false q z = refl

  pub is-another : r ≡ 0 → same_bytes w (part_of list at (first_at 0x20 list at)) ≡ false
  is-another z = by-none _ answered z
