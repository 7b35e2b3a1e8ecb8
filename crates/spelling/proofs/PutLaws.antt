-- What is written from an offset on, part by part: of bytes that are parts one behind the other, there is room for each where there is room for all, and
-- all are written when each is.
use Prim.Native.Nat.{ℕ, suc, ◌+◌, ◌-◌, ◌≤◌}
use mathlib.Core.Path.{◌≡◌, refl, sym, ap, ◌∙◌, subst}
use mathlib.Core.List.{List, [], ◌∷◌, ◌++◌, append_assoc, append-nil}
use native.Mathlib.Omega.{arith}
use native.Mathlib.Nat.{add-suc, suc-add, zero-add, add-zero, add_assoc}
use lib.ListN.{length, take, drop, set, length-append}
use borrow.Rule.Slice.PartMut.{put_mid}
use lib.Seq.{sets, length-sets, sets-eq, drop-drop}
use Rattle.spelling.specs.Put.{Put, Fits}

-- stores behind stores
pub sets-append : (l : List ℕ) (i : ℕ) (xs ys : List ℕ) → sets (sets l i xs) (i + length xs) ys ≡ sets l i (xs ++ ys)
sets-append l i [] ys = ap (λ (k : ℕ). sets l k ys) (add-zero i)
sets-append l i (x ∷ xs) ys =
    ap (λ (k : ℕ). sets (sets (set l i x) (suc i) xs) k ys) (add-suc i (length xs) ∙ sym (suc-add i (length xs)))
    ∙ sets-append (set l i x) (suc i) xs ys

-- bytes stored between an offset and the end of what is written
pub stored_between : {l new ys : List ℕ} {at : ℕ} → Fits l at new → ys ≡ new →
    Put l at new (put_mid at (at + length new - at) l ys) (at + length new)
stored_between {l} {new} {ys} {at} f e =
    record {
      stored =
          ap (λ (xs : List ℕ). take at l ++ (xs ++ drop (at + length new - at) (drop at l))) e
          ∙ ap (λ (k : ℕ). take at l ++ (new ++ drop k (drop at l))) count
          ∙ ap (λ (xs : List ℕ). take at l ++ (new ++ xs)) (drop-drop (length new) at l)
          ∙ sym (append_assoc (take at l) new (drop (at + length new) l))
          ∙ sym (sets-eq new l at f.room);
      place = refl;
    }
  where
    count : at + length new - at ≡ length new
    count = omega arith

-- bytes that are these parts, one behind the other
unfoldable pub joined : List (List ℕ) → List ℕ
joined [] = []
joined (x ∷ xs) = x ++ joined xs

pub record Made (whole : List ℕ) (parts : List (List ℕ)) : Type 0 where
  pub parts_of : whole ≡ joined parts

module _ {b : List ℕ} {a : ℕ} where
  -- nothing
  pub put-none : Put b a [] b a
  put-none = record { stored = refl; place = sym (add-zero a) }

  -- one part behind another
  put_then : {b₁ b₂ : List ℕ} {a₁ a₂ : ℕ} {xs ys : List ℕ} → Put b a xs b₁ a₁ → Put b₁ a₁ ys b₂ a₂ → Put b a (xs ++ ys) b₂ a₂
  put_then {b₁} {b₂} {a₁} {a₂} {xs} {ys} p q =
      record {
        stored =
            q.stored ∙ ap (λ (l : List ℕ). sets l a₁ ys) p.stored ∙ ap (λ (k : ℕ). sets (sets b a xs) k ys) p.place ∙ sets-append b a xs ys;
        place =
            q.place ∙ ap (λ (k : ℕ). k + length ys) p.place ∙ add_assoc a (length xs) (length ys) ∙ ap (λ (k : ℕ). a + k) (sym (length-append xs ys));
      }

  fits-first : (xs ys : List ℕ) → Fits b a (xs ++ ys) → Fits b a xs
  fits-first xs ys f =
      let h = subst (λ (n : ℕ). a + n ≤ length b) (length-append xs ys) f.room in
      record { room = omega arith }

  fits_next : {b₁ : List ℕ} {a₁ : ℕ} (xs ys : List ℕ) → Fits b a (xs ++ ys) → Put b a xs b₁ a₁ → Fits b₁ a₁ ys
  fits_next {b₁} {a₁} xs ys f p =
      let h = subst (λ (n : ℕ). a + n ≤ length b) (length-append xs ys) f.room in
      let long : length b₁ ≡ length b = ap length p.stored ∙ length-sets b a xs in
      let place = p.place in
      record { room = omega arith }

  -- the length stays
  pub put-length : {b₁ : List ℕ} {a₁ : ℕ} {xs : List ℕ} → Put b a xs b₁ a₁ → length b₁ ≡ length b
  put-length {xs = xs} p = ap length p.stored ∙ length-sets b a xs

-- room for the n-th part, with those before it written
module _ {whole : List ℕ} where
  pub fits-1 : {x : List ℕ} {rest : List (List ℕ)} → Made whole (x ∷ rest) → (b : List ℕ) (a : ℕ) → Fits b a whole → Fits b a x
  unfolding joined
  fits-1 {x} {rest} m b a f = fits-first x (joined rest) (subst (Fits b a) m.parts_of f)

  pub fits-2 : {x y : List ℕ} {rest : List (List ℕ)} → Made whole (x ∷ y ∷ rest) → (b b₁ : List ℕ) (a a₁ : ℕ) → Fits b a whole →
      Put b a x b₁ a₁ → Fits b₁ a₁ y
  unfolding joined
  fits-2 {x} {y} {rest = rest} m b b₁ a a₁ f p =
      fits-first y (joined rest) (fits_next x (y ++ joined rest) (subst (Fits b a) m.parts_of f) p)

  pub fits-3 : {x y z : List ℕ} {rest : List (List ℕ)} → Made whole (x ∷ y ∷ z ∷ rest) → (b b₁ b₂ : List ℕ) (a a₁ a₂ : ℕ) → Fits b a whole →
      Put b a x b₁ a₁ → Put b₁ a₁ y b₂ a₂ → Fits b₂ a₂ z
  unfolding joined
  fits-3 {x} {y} {z} {rest = rest} m b b₁ b₂ a a₁ a₂ f p q =
      fits-first z (joined rest) (fits_next y (z ++ joined rest) (fits_next x (y ++ (z ++ joined rest)) (subst (Fits b a) m.parts_of f) p) q)

  pub fits_4 : {x y z w : List ℕ} {rest : List (List ℕ)} → Made whole (x ∷ y ∷ z ∷ w ∷ rest) → (b b₁ b₂ b₃ : List ℕ) (a a₁ a₂ a₃ : ℕ) →
      Fits b a whole → Put b a x b₁ a₁ → Put b₁ a₁ y b₂ a₂ → Put b₂ a₂ z b₃ a₃ → Fits b₃ a₃ w
  unfolding joined
  fits_4 {x} {y} {z} {w} {rest = rest} m b b₁ b₂ b₃ a a₁ a₂ a₃ f p q r =
      fits-first w (joined rest)
      (fits_next z (w ++ joined rest)
      (fits_next y (z ++ (w ++ joined rest)) (fits_next x (y ++ (z ++ (w ++ joined rest))) (subst (Fits b a) m.parts_of f) p) q)
      r)

  -- all parts written
  pub put_1 : {x : List ℕ} → Made whole (x ∷ []) → (b b₁ : List ℕ) (a a₁ : ℕ) → Put b a x b₁ a₁ → Put b a whole b₁ a₁
  unfolding joined
  put_1 {x} m b b₁ a a₁ p = subst (λ (xs : List ℕ). Put b a xs b₁ a₁) (sym (append-nil x) ∙ sym m.parts_of) p

  pub put_2 : {x y : List ℕ} → Made whole (x ∷ y ∷ []) → (b b₁ b₂ : List ℕ) (a a₁ a₂ : ℕ) → Put b a x b₁ a₁ → Put b₁ a₁ y b₂ a₂ →
      Put b a whole b₂ a₂
  unfolding joined
  put_2 {x} {y} m b b₁ b₂ a a₁ a₂ p q =
      subst (λ (xs : List ℕ). Put b a xs b₂ a₂) (sym m.parts_of) (put_then p (put_then q put-none))

  pub put_3 : {x y z : List ℕ} → Made whole (x ∷ y ∷ z ∷ []) → (b b₁ b₂ b₃ : List ℕ) (a a₁ a₂ a₃ : ℕ) → Put b a x b₁ a₁ →
      Put b₁ a₁ y b₂ a₂ → Put b₂ a₂ z b₃ a₃ → Put b a whole b₃ a₃
  unfolding joined
  put_3 m b b₁ b₂ b₃ a a₁ a₂ a₃ p q r =
      subst (λ (xs : List ℕ). Put b a xs b₃ a₃) (sym m.parts_of) (put_then p (put_then q (put_then r put-none)))

  pub put_4 : {x y z w : List ℕ} → Made whole (x ∷ y ∷ z ∷ w ∷ []) → (b b₁ b₂ b₃ b₄ : List ℕ) (a a₁ a₂ a₃ a₄ : ℕ) → Put b a x b₁ a₁ →
      Put b₁ a₁ y b₂ a₂ → Put b₂ a₂ z b₃ a₃ → Put b₃ a₃ w b₄ a₄ → Put b a whole b₄ a₄
  unfolding joined
  put_4 m b b₁ b₂ b₃ b₄ a a₁ a₂ a₃ a₄ p q r s =
      subst (λ (xs : List ℕ). Put b a xs b₄ a₄) (sym m.parts_of) (put_then p (put_then q (put_then r (put_then s put-none))))

-- a whole text, from the buffer's first byte on
pub put_whole : (buffer bytes : List ℕ) → {after : List ℕ} {to : ℕ} → length bytes ≤ length buffer → Put buffer 0 bytes after to →
    (after ≡ bytes ++ drop (length bytes) buffer) × (to ≡ length bytes)
put_whole buffer bytes h p = (p.stored ∙ rw zero-add at (sets-eq bytes buffer 0 (omega arith)), omega arith)
