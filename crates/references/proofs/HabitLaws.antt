-- Calls compared that differ in whether an argument may be repeated, and in where the forms may stand that the shop profile leaves out. Of three the first
-- allows least, and the other two differ in those forms only. All three answer alike, unless the first refuses a repeat or such a form. One rule for each
-- way in which a definition is built, and what they show of references and ARGS.
use Prim.Native.Nat.{ℕ, zero, suc, ◌+◌, ◌≤◌}
use native.Mathlib.Omega.{arith}
use mathlib.Core.Path.{◌≡◌, refl, ap, ◌∙◌}
use mathlib.Core.Bool.{Bool, true, false}
use Rattle.text.specs.Choice.{pick}
use Rattle.text.specs.Literal.{ascii}
use Rattle.tokens.specs.Kind.{STRING, INTEGER}
use Rattle.tokens.specs.declared.cursor.Refusal.{Refusal}
use Rattle.tokens.specs.Result.{Res, ok, no, bind, perhaps, refuse}
use Rattle.tokens.specs.Cursor.{Tok, is_kind, is_word, take_kind}
use Rattle.tokens.specs.Grammar.{Token, token, Word}
use Rattle.tokens.proofs.Okay.{Okay, bind-alike, kind-sound, is_word_lem}
use Rattle.sheet.specs.View.{View}
use Rattle.references.specs.Refs.{name_or_id, adapter_number, adapter_assign, adapter_clause, scope_or_primary, referred, close_r, open_r, reference, lamp_ref, group_ref, device_ref, input_device_ref, lamp_target, group_target, broadcast_target, light_target}
use Rattle.references.specs.Args.{is_dev, is_number, device_item, instance_item, group_item, type_item, adapter_item, item_at, is_repeat, arg_at, args_from, device_instance, with_inst, with_dev, with_group, selected, close_args, input_selector, input_ref}
use Rattle.sheet.specs.declared.resolve.Scope.{Scope}
use Rattle.sheet.specs.declared.resolve.Scope.TheVariants.{Any, On}
use Rattle.references.specs.declared.refs.NameOrId.{NameOrId}
use Rattle.references.specs.declared.refs.NameOrId.TheVariants.{Name, Id}
use Rattle.references.specs.declared.args.Args.{Args}
use Rattle.model.specs.declared.Selector.{Selector}
use Rattle.references.proofs.EndLaws.{Ends, ends-earlier, ends-no, ends-bind, ends-pick, ends}
use Rattle.std.specs.Prelude.{Option, Some, None}

-- the same of the sheet, with repeats or without, and with the forms where they are allowed
abbrev pub allowing : View → Bool → (ℕ → Bool) → View
allowing view repeats allows =
    record { primary = view.primary; listed = view.listed; rows = view.rows; repeats = repeats; allows = allows }

-- what three calls see: the first, and the two others by what they allow, which is no less
pub record Calls : Type 0 where
  pub least : View
  pub repeats : Bool
  pub one : ℕ → Bool
  pub other : ℕ → Bool
  pub repeats_more : least.repeats ≡ true → repeats ≡ true
  pub one_more : (k : ℕ) → least.allows k ≡ true → one k ≡ true
  pub other_more : (k : ℕ) → least.allows k ≡ true → other k ≡ true

-- by its token at k, a form that the profile refuses with a number
pub data Offence (t : ℕ → Tok) (k : ℕ) : ℕ → Type 0 where
  id_at : {n j : ℕ} → Token t INTEGER k n j → Offence t k 57
  broadcast_at : {j : ℕ} → Word t (ascii "broadcast") k j → Offence t k 58
  event_at_rule : {j : ℕ} → Word t (ascii "event") k j → Offence t k 59

module _ (t : ℕ → Tok) (calls : Calls) where
  -- the answers of the other two from i on: they end there or later, and are one where both allow the forms at the same tokens from i on
  pub record Others {A : Type 0} (i : ℕ) (u v : Res A) : Type 0 where
    pub one_ends : Ends i u
    pub other_ends : Ends i v
    pub agree : ((k : ℕ) → i ≤ k → calls.one k ≡ calls.other k) → u ≡ v

  -- the three answers from i on
  pub data Compared {A : Type 0} (i : ℕ) : Res A → Res A → Res A → Type 0 where
    same : {x : Res A} → Ends i x → Compared i x x x
    -- the first is refused as a repeat, which the others allow
    repeat : {r : Refusal} {u v : Res A} → r.number ≡ 63 → calls.least.repeats ≡ false → calls.repeats ≡ true → Others i u v →
        Compared i (no r) u v
    -- the first is refused at the token k for its form, and so is the second if it does not allow it either
    offends : {k n : ℕ} {u v : Res A} → i ≤ k → Offence t k n → calls.least.allows k ≡ false → (calls.one k ≡ false → u ≡ refuse n k) →
        Others k u v → Compared i (refuse n k) u v

  others_earlier : {A : Type 0} {i j : ℕ} {u v : Res A} → i ≤ j → Others j u v → Others i u v
  others_earlier {u = u} {v = v} l h =
      record {
        one_ends = ends-earlier u l h.one_ends;
        other_ends = ends-earlier v l h.other_ends;
        agree = λ e. h.agree (λ k m. e k (omega arith));
      }

  others : {A : Type 0} {i : ℕ} {x u v : Res A} → Compared i x u v → Others i u v
  others (same h) = record { one_ends = h; other_ends = h; agree = λ e. refl }
  others (repeat n a b h) = h
  others (offends l f a r h) = others_earlier l h

  pub compared_earlier : {A : Type 0} {i j : ℕ} {x u v : Res A} → i ≤ j → Compared j x u v → Compared i x u v
  compared_earlier l (same {x} h) = same (ends-earlier x l h)
  compared_earlier l (repeat n a b h) = repeat n a b (others_earlier l h)
  compared_earlier l (offends {k} m f a r h) = offends {k = k} (omega arith) f a r h

  -- a step, and what goes on from it
  others_bind : {A B : Type 0} {i : ℕ} {m n : Res A} (f g : A → ℕ → Res B) → ((a : A) (j : ℕ) → Others j (f a j) (g a j)) → Others i m n →
      Others i (bind m f) (bind n g)
  unfolding Ends
  others_bind {i = i} {m = m} {n = n} f g k h =
      record {
        one_ends = ends-bind i m f h.one_ends (λ a j. (k a j).one_ends);
        other_ends = ends-bind i n g h.other_ends (λ a j. (k a j).other_ends);
        agree =
            λ e.
            ap (λ x. bind x f) (h.agree e) ∙
            bind-alike n f g h.other_ends (λ a j l. (k a j).agree (λ x m. e x (omega arith)));
      }

  -- what is answered first is one answer, with P
  pub compared_after : {A B : Type 0} {P : A → ℕ → Type 0} {i : ℕ} (m : Res A) (f g h : A → ℕ → Res B) → Okay P m →
      ((a : A) (j : ℕ) → P a j → Compared i (f a j) (g a j) (h a j)) → Compared i (bind m f) (bind m g) (bind m h)
  unfolding Ends
  compared_after (ok a j) f g h p k = k a j p
  compared_after (no r) f g h p k = same tt

  bind_by : {A B : Type 0} {i : ℕ} {m n o : Res A} (f g h : A → ℕ → Res B) → ((a : A) (j : ℕ) → Compared j (f a j) (g a j) (h a j)) →
      Compared i m n o → Compared i (bind m f) (bind n g) (bind o h)
  unfolding Ends
  bind_by f g h k (same {x} e) = compared_after x f g h e (λ a j l. compared_earlier l (k a j))
  bind_by f g h k (repeat n a b e) = repeat n a b (others_bind g h (λ a j. others (k a j)) e)
  bind_by f g h k (offends l c a r e) = offends l c a (λ z. ap (λ x. bind x g) (r z)) (others_bind g h (λ a j. others (k a j)) e)

  pub compared_same : {A : Type 0} (i : ℕ) (x : Res A) → Ends i x → Compared i x x x
  compared_same i x h = same h

  pub compared_bind : {A B : Type 0} (i : ℕ) (m n o : Res A) (f g h : A → ℕ → Res B) → Compared i m n o →
      ((a : A) (j : ℕ) → Compared j (f a j) (g a j) (h a j)) → Compared i (bind m f) (bind n g) (bind o h)
  compared_bind i m n o f g h c k = bind_by f g h k c

  pub compared_pick : {A : Type 0} (i : ℕ) (b : Bool) (x y u v p q : Res A) → Compared i x u p → Compared i y v q →
      Compared i (pick b x y) (pick b u v) (pick b p q)
  compared_pick i true x y u v p q h k = h
  compared_pick i false x y u v p q h k = k

  pub compared_perhaps : {A : Type 0} (b : Bool) (i : ℕ) (f g h : ℕ → Res A) (x u v : Res A) →
      Compared (i + 1) (f (i + 1)) (g (i + 1)) (h (i + 1)) → Compared i x u v →
      Compared i (perhaps b i f x) (perhaps b i g u) (perhaps b i h v)
  compared_perhaps true i f g h x u v c k = compared_earlier (omega arith) c
  compared_perhaps false i f g h x u v c k = k

  -- the two places where they differ. First a form at the token i, which goes on with x where it is allowed.
  offence_by : {A : Type 0} (n i : ℕ) (x : Res A) (b : Bool) → calls.least.allows i ≡ b → Offence t i n → Ends i x →
      Compared i (pick b x (refuse n i)) (pick (calls.one i) x (refuse n i)) (pick (calls.other i) x (refuse n i))
  offence_by n i x true e f h = rw (calls.one_more i e, calls.other_more i e) (same h)
  offence_by {A} n i x false e f h =
      let by : Bool → Res A = λ c. pick c x (refuse n i) in
      offends {k = i} (omega arith) f e (ap by)
      (record {
        one_ends = ends-pick i (calls.one i) x _ h (ends-no _ _ i);
        other_ends = ends-pick i (calls.other i) x _ h (ends-no _ _ i);
        agree = λ z. ap by (z i (omega arith));
      })

  pub compared_offence : {A : Type 0} (n i : ℕ) (x : Res A) → Offence t i n → Ends i x →
      Compared i (pick (calls.least.allows i) x (refuse n i)) (pick (calls.one i) x (refuse n i)) (pick (calls.other i) x (refuse n i))
  compared_offence n i x f h = offence_by n i x (calls.least.allows i) refl f h

  -- then an argument that is there already, whose value comes next
  repeat_by : {A : Type 0} (i j : ℕ) (set : Bool) (x u v : Res A) (b c : Bool) → calls.least.repeats ≡ b → calls.repeats ≡ c →
      (b ≡ true → c ≡ true) → Compared j x u v →
      Compared j (pick (pick b false set) (refuse 63 i) x) (pick (pick c false set) (refuse 63 i) u) (pick (pick c false set) (refuse 63 i) v)
  repeat_by i j set x u v true c p q h k = rw (h refl) k
  repeat_by i j set x u v false false p q h k = compared_pick j set _ x _ u _ v (same (ends-no _ _ j)) k
  repeat_by i j true x u v false true p q h k = repeat refl p q (others k)
  repeat_by i j false x u v false true p q h k = k

  compared_repeat : {A : Type 0} (i j : ℕ) (set : Bool) (x u v : Res A) → Compared j x u v →
      Compared j (pick (pick calls.least.repeats false set) (refuse 63 i) x) (pick (pick calls.repeats false set) (refuse 63 i) u)
      (pick (pick calls.repeats false set) (refuse 63 i) v)
  compared_repeat i j set x u v k = repeat_by i j set x u v calls.least.repeats calls.repeats refl refl calls.repeats_more k

-- the ways in which a definition is built
pub ruleset compared-parts = (compared_same, compared_bind, compared_pick, compared_perhaps, ends)

-- what the second and the third see
abbrev pub seen_one : Calls → View
seen_one calls = allowing calls.least calls.repeats calls.one

abbrev pub seen_other : Calls → View
seen_other calls = allowing calls.least calls.repeats calls.other

module _ (t : ℕ → Tok) (calls : Calls) where
  -- a definition from i on, by what is seen
  abbrev pub Compares : {A : Type 0} → (View → ℕ → Res A) → Type 0
  Compares d = (i : ℕ) → Compared t calls i (d calls.least i) (d (seen_one calls) i) (d (seen_other calls) i)

  -- all three have one primary adapter
  pub compared-primary : {A : Type 0} (f : ℕ → ℕ → Res A) → ((a i : ℕ) → Ends i (f a i)) → (scope : Scope) → Compares (λ view i. f (scope_or_primary view scope) i)
  unfolding scope_or_primary
  compared-primary f h Any i = same (h _ i)
  compared-primary f h (On a) i = same (h a i)

  compared-name : Compares (name_or_id t)
  unfolding name_or_id Ends
  compared-name i =
      compared_pick t calls i (is_kind t STRING i) _ _ _ _ _ _ (search compared-parts)
      (compared_after t calls (take_kind t INTEGER i) _ _ _ (kind-sound t INTEGER i) (λ n j h. numbered-at n j h))
    where
      numbered-at : (n j : ℕ) → Token t INTEGER i n j →
          Compared t calls i (pick (calls.least.allows i) (ok (Id n i) j) (refuse 57 i)) (pick (calls.one i) (ok (Id n i) j) (refuse 57 i))
          (pick (calls.other i) (ok (Id n i) j) (refuse 57 i))
      numbered-at n j (token p) = compared_offence t calls 57 i (ok (Id n i) j) (id_at (token p)) (omega arith)

  pub compared-clause : Compares (adapter_clause t)
  unfolding adapter_clause adapter_assign adapter_number
  compared-clause i = search compared-parts depth 8

  compared-referred : (kind most : ℕ) (scope : Scope) (d : NameOrId) → Compares (λ view j. referred t view kind most scope j d)
  unfolding referred scope_or_primary
  compared-referred kind most scope (Name i) j = search compared-parts
  compared-referred kind most Any (Id n i) j = search compared-parts
  compared-referred kind most (On a) (Id n i) j = search compared-parts

  compared-inside : (kind most : ℕ) → Compares (λ view i. open_r t view kind most i)
  unfolding open_r close_r
  compared-inside kind most i = search (compared-parts, compared-name, compared-clause, compared-referred)

  compared-reference : (kind most : ℕ) → Compares (λ view i. reference t view kind most i)
  unfolding reference
  compared-reference kind most i = search (compared-parts, compared-inside)

  pub compared-lamp : Compares (lamp_ref t)
  unfolding lamp_ref
  compared-lamp i = compared-reference _ _ i

  pub compared-group : Compares (group_ref t)
  unfolding group_ref
  compared-group i = compared-reference _ _ i

  pub compared-device : Compares (device_ref t)
  unfolding device_ref
  compared-device i = compared-reference _ _ i

  pub compared-input-device : Compares (input_device_ref t)
  unfolding input_device_ref
  compared-input-device i = search (compared-parts, compared-inside)

  -- `broadcast`, or no target
  compared-broadcast : Compares (λ view i. perhaps (is_word t (ascii "broadcast") i) i (λ j. broadcast_target view i j) (refuse 20 i))
  unfolding broadcast_target
  compared-broadcast i = by_word (is_word t (ascii "broadcast") i) refl
    where
      by_word : (b : Bool) → is_word t (ascii "broadcast") i ≡ b →
          Compared t calls i (perhaps b i (λ j. broadcast_target calls.least i j) (refuse 20 i))
          (perhaps b i (λ j. broadcast_target (seen_one calls) i j) (refuse 20 i))
          (perhaps b i (λ j. broadcast_target (seen_other calls) i j) (refuse 20 i))
      by_word true e = compared_offence t calls 58 i _ (broadcast_at (is_word_lem t _ i e)) (search ends)
      by_word false e = search compared-parts

  pub compared-target : Compares (light_target t)
  unfolding light_target lamp_target group_target
  compared-target i = search (compared-parts, compared-lamp, compared-group, compared-broadcast)

  -- one argument: the repeat is refused, or its value comes
  compared-item : (slot : ℕ) → Compares (λ view i. item_at t view slot i)
  unfolding item_at device_item instance_item group_item type_item adapter_item adapter_number
  compared-item slot i = search (compared-parts, compared-name) depth 9

  compared-arg : (a : Args) (count : ℕ) → Compares (λ view i. arg_at t view a count i)
  unfolding arg_at is_repeat
  compared-arg a count i = search (compared-parts, compared_repeat, compared-item)

  pub compared-args : (fuel : ℕ) (a : Args) (count : ℕ) → Compares (λ view i. args_from t view fuel a count i)
  unfolding args_from
  compared-args zero a count i = search compared-parts
  compared-args (suc fuel) a count i = search (compared-parts, compared-arg, compared-args fuel)

  -- the arguments judged
  compared-inst : (scope : Scope) (close : ℕ) (d : NameOrId) (n : Option ℕ) → Compares (λ view i. with_inst t view scope close i d n)
  unfolding with_inst device_instance
  compared-inst scope close d None i = search compared-parts
  compared-inst scope close d (Some n) i = search (compared-parts, compared-referred)

  compared-dev : (a : Args) (close : ℕ) (d : Option NameOrId) → Compares (λ view i. with_dev t view a close i d)
  unfolding with_dev
  compared-dev a close None i = search compared-parts
  compared-dev a close (Some d) i = compared-inst _ _ d a.inst i

  compared-with_group : (a : Args) (close : ℕ) (g : Option (ℕ × ℕ)) → Compares (λ view i. with_group t view a close i g)
  unfolding with_group
  compared-with_group a close None i = compared-dev a close a.dev i
  compared-with_group a close (Some (g, j)) i =
      compared-primary (λ p k. pick (is_dev a.dev) (refuse 27 j) (pick (is_number a.inst) (refuse 27 j) (ok (Selector.Group p g a.kind) k)))
      (λ p k. search ends) a.scope i

  pub compared-selector : (fuel : ℕ) → Compares (λ view i. input_selector t view fuel i)
  unfolding input_selector close_args selected
  compared-selector fuel i = search (compared-parts, compared-args, compared-with_group)

  pub compared-input : (fuel : ℕ) → Compares (λ view i. input_ref t view fuel i)
  unfolding input_ref
  compared-input fuel i = search (compared-parts, compared-selector)

-- those, and what a rule has of references
pub ruleset compared_references = (
  compared-parts,
  compared-clause,
  compared-lamp,
  compared-group,
  compared-device,
  compared-input-device,
  compared-target,
  compared-selector,
  compared-input,
)
