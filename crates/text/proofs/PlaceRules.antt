-- Places and the check of a text, against what they mean: line feeds and columns, and the rules of RFC 3629.
use mathlib.Core.Path.{◌≡◌, ◌∙◌, refl, ap, sym}
use mathlib.Core.Bool.{Bool, true, false}
use Prim.Native.Nat.{ℕ, zero, suc, ◌+◌, ◌-◌, ◌<◌, ◌≤◌}
use native.Mathlib.Omega.{arith}
use native.Mathlib.Nat.{add-zero, zero-add}
use mathlib.Core.List.{List, [], ◌∷◌, ◌++◌, append_assoc, append-nil, append_cancel_left}
use lib.ListN.{length, drop, length-append, drop_of_length-le}
use lib.Seq.{drop-drop, drop-append_seam}
use lib.Dec.{ltb, eqb}
use borrow.Author.Tests.{ltb-false, eqb-true, eqb-false, le-ltb, ne_eqb}
use Rattle.text.specs.Choice.{pick}
use Rattle.text.specs.Rfc3629.{Utf8Char, Utf8Octets, Starts, StartsNone, Stands}
use Rattle.text.specs.Rfc3629.Utf8Octets.{none, more}
use Rattle.text.specs.Rfc3629.Stands.{char, bad, end}
use Rattle.text.specs.Utf8.{decode_at, Character, codes, chars}
use Rattle.text.specs.Place.{most_held, counted, line_feeds, since_line_feed, line_after, column_after, after, start, walked, judge, check_of, Judged}
use Rattle.text.specs.Place.Judged.{well_formed, ill_formed}
use Rattle.text.specs.declared.utf8.Decoded.{Decoded}
use Rattle.text.specs.declared.utf8.Decoded.TheVariants.{Char}
use Rattle.text.specs.declared.place.Place.{Place}
use Rattle.text.specs.declared.place.IllFormed.{IllFormed}
use Rattle.std.specs.Prelude.{Result}
use Rattle.text.proofs.Tests.{picked}
use Rattle.text.proofs.Utf8Rules.{stands, same-character}
use Rattle.text.proofs.CharLaws.{some_bytes, char-inside, chars-char, chars-bad, chars-end}

-- a number that is held in 32 bits counts on as the number itself would
pub count_on : (n : ℕ) → counted (counted n + 1) ≡ counted (n + 1)
unfolding counted
count_on n =
    picked (λ (m : ℕ). counted (m + 1) ≡ counted (n + 1)) (ltb n most_held)
    (λ h. refl)
    (λ h. sym (rw (le-ltb (n + 1) most_held (omega (arith, ltb-false)))))

-- LF or not, the line that is held moves on as the number k that it stands for
held-line : (t : Bool) {l : ℕ} (k : ℕ) → l ≡ counted k → pick t (counted (l + 1)) l ≡ counted (pick t (k + 1) k)
held-line true k e = rw e (count_on k)
held-line false k e = e

move-one : (t : Bool) (m k : ℕ) → m + pick t (k + 1) k ≡ pick t (m + 1) m + k
move-one true m k = omega arith
move-one false m k = refl

-- a walk adds the line feeds to the line from which it begins
line-from : (cs : List Character) (p : Place) (k : ℕ) → p.line ≡ counted k → (walked p cs).line ≡ counted (line_feeds (codes cs) + k)
unfolding walked line_feeds after
line-from [] p k e = rw zero-add e
line-from (ch ∷ cs) p k e =
    let t = eqb ch.code 0x0A in
    line-from cs (after p ch) (pick t (k + 1) k) (held-line t k e) ∙ ap counted (move-one t (line_feeds (codes cs)) k)

-- walking over characters from the start of a text leads to the line that the line feeds among them say
pub line-walked : (cs : List Character) → (walked start cs).line ≡ line_after (codes cs)
unfolding line_after counted
line-walked cs = line-from cs start 1 refl

-- how many characters stand behind the last LF, if k stood there before these
on_line : ℕ → List ℕ → ℕ
on_line k cs = pick (eqb (line_feeds cs) 0) (k + length cs) (since_line_feed cs)

pick-again : {A : Type 0} (t : Bool) (a b c : A) → pick t a (pick t b c) ≡ pick t a c
pick-again true a b c = refl
pick-again false a b c = refl

-- if none stood there before, they are those that the definition counts
on_line-none : (cs : List ℕ) → on_line 0 cs ≡ since_line_feed cs
unfolding on_line since_line_feed line_feeds
on_line-none [] = refl
on_line-none (c ∷ cs) = rw (zero-add, pick-again)

-- one more character: it is LF, and none stands there now, or it is one more
on_line-by : (t : Bool) (k n size since : ℕ) → pick (eqb n 0) (0 + size) since ≡ since →
    pick (eqb n 0) (pick t 0 (k + 1) + size) since
    ≡ pick (eqb (pick t (n + 1) n) 0) (k + suc size) (pick (eqb (pick t (n + 1) n) 0) (suc size) since)
on_line-by true k n size since h = rw (ne_eqb (n + 1) 0 (omega arith)) h
on_line-by false k n size since h =
    let e : k + 1 + size ≡ k + suc size = omega arith in
    rw (e, pick-again)

on_line-more : (k c : ℕ) (cs : List ℕ) → on_line (pick (eqb c 0x0A) 0 (k + 1)) cs ≡ on_line k (c ∷ cs)
unfolding on_line line_feeds since_line_feed
on_line-more k c cs = on_line-by (eqb c 0x0A) k (line_feeds cs) (length cs) (since_line_feed cs) (on_line-none cs)

held-column : (t : Bool) {l : ℕ} (k : ℕ) → l ≡ counted (k + 1) → pick t 1 (counted (l + 1)) ≡ counted (pick t 0 (k + 1) + 1)
unfolding counted
held-column true k e = refl
held-column false k e = rw e (count_on (k + 1))

-- a walk that begins behind k characters of a line
column-from : (cs : List Character) (p : Place) (k : ℕ) → p.column ≡ counted (k + 1) →
    (walked p cs).column ≡ counted (on_line k (codes cs) + 1)
unfolding walked line_feeds after on_line
column-from [] p k e = rw add-zero e
column-from (ch ∷ cs) p k e =
    let t = eqb ch.code 0x0A in
    column-from cs (after p ch) (pick t 0 (k + 1)) (held-column t k e)
    ∙ ap (λ (n : ℕ). counted (n + 1)) (on_line-more k ch.code (codes cs))

-- and to the column that the characters behind the last LF say
pub column-walked : (cs : List Character) → (walked start cs).column ≡ column_after (codes cs)
unfolding column_after counted
column-walked cs = column-from cs start 0 refl ∙ ap (λ (n : ℕ). counted (n + 1)) (on_line-none (codes cs))

-- octets are as many as those that they begin with and the rest
size_of : {l u : List ℕ} (t : Starts l u) → length l ≡ length u + length t.rest
size_of {l} {u} t = ap length t.split ∙ length-append u t.rest

-- where they begin with as many as they are, those are all
all_of : {l u : List ℕ} (t : Starts l u) → length l ≤ length u → u ≡ l
all_of {l} {u} t h = sym (t.split ∙ rw (drop_of_length-le t.rest {i = 0} (omega (arith, size_of t)), append-nil))

-- what is left behind the octets at an offset
left-of : (s : List ℕ) (at : ℕ) {u : List ℕ} (t : Starts (drop at s) u) → t.rest ≡ drop (at + length u) s
left-of s at {u} t =
    sym (drop-append_seam u t.rest) ∙ ap (drop (length u)) (sym t.split) ∙ drop-drop (length u) at s

-- no character begins where nothing is left
nothing_left : StartsNone []
nothing_left = record { never = λ u c h t. omega (arith, some_bytes h, size_of t) }

-- the characters that are read from an offset on are a row by the rules, and none begins behind it; a walk ends behind it
record Row (s : List ℕ) (at : ℕ) : Type 0 where
  octets : List ℕ
  row : Utf8Octets octets (codes (chars s at))
  starts : Starts (drop at s) octets
  stuck : StartsNone starts.rest
  ends : (p : Place) → p.at ≡ at → (walked p (chars s at)).at ≡ at + length octets

row-none : (s : List ℕ) (at : ℕ) → chars s at ≡ [] → StartsNone (drop at s) → Row s at
unfolding walked
row-none s at e h =
    record {
      octets = [];
      row = rw e none;
      starts = record { rest = drop at s; split = refl };
      stuck = h;
      ends = λ p k. rw (e, add-zero) k;
    }

row-char : (s : List ℕ) (at : ℕ) {u : List ℕ} {c : ℕ} → Utf8Char u c → Starts (drop at s) u →
    decode_at s at ≡ Char c (at + length u) → Row s (at + length u) → Row s at
unfolding walked after
row-char s at {u} {c} h t d r =
    let e = chars-char s at c (at + length u) d in
    let q : Place → Place = λ p. after p (record { code = c; next = at + length u }) in
    record {
      octets = u ++ r.octets;
      row = rw e (more h r.row);
      starts = record { rest = r.starts.rest; split = t.split ∙ rw (left-of s at t ∙ r.starts.split, append_assoc) };
      stuck = r.stuck;
      ends = λ p k. rw (e, length-append u r.octets) (r.ends (q p) refl ∙ omega arith);
    }

row_by : (s : List ℕ) (at : ℕ) {x : Decoded} → ((n : ℕ) → at < n → n ≤ length s → Row s n) → decode_at s at ≡ x → Stands s at x →
    Row s at
row_by s at again d (char {u} {c} h t) =
    let i = char-inside s at c (at + length u) d in
    row-char s at h t d (again (at + length u) i.0 i.1)
row_by s at again d (bad h k) = row-none s at (chars-bad s at d) k
row_by s at again d (end h) = row-none s at (chars-end s at d) (rw (drop_of_length-le s h) nothing_left)

row_from : (s : List ℕ) (n at : ℕ) → length s - at < n → Row s at
row_from s zero at h = absurd (omega arith)
row_from s (suc n) at h = row_by s at (λ m g k. row_from s n m (omega arith)) refl (stands s at)

judged-by : (s : List ℕ) → Row s 0 → Judged s (check_of s)
unfolding check_of judge
judged-by s r =
    let p = walked start (chars s 0) in
    let e : p.at ≡ 0 + length r.octets = r.ends start refl in
    let l = size_of r.starts in
    picked (Judged s) (eqb p.at (length s))
    (λ h. well_formed (rw (all_of r.starts (omega (arith, eqb-true))) at r.row))
    (λ h. rw (line-walked, column-walked) (ill_formed r.row r.starts (omega (arith, eqb-false p.at (length s) h)) r.stuck))

-- the check of a text answers as the rules of RFC 3629 say
pub judged : (s : List ℕ) → Judged s (check_of s)
judged s = judged-by s (row_from s (suc (length s)) 0 (omega arith))

-- two rows of characters that begin the same octets, and behind which no character begins, are the same
same_row : {u v cs ds : List ℕ} (r t : List ℕ) → Utf8Octets u cs → Utf8Octets v ds → u ++ r ≡ v ++ t →
    StartsNone r → StartsNone t → (u ≡ v) × (cs ≡ ds)
same_row r t none none e h k = (refl, refl)
same_row r t none (more {u} {v} {c} b m) e h k = absurd (h.never u c b (record { rest = v ++ t; split = e ∙ append_assoc u v t }))
same_row r t (more {u} {v} {c} a l) none e h k = absurd (k.never u c a (record { rest = v ++ r; split = sym e ∙ append_assoc u v r }))
same_row r t (more {u} {v} a l) (more {u = w} {v = x} b m) e h k =
    let f : u ++ (v ++ r) ≡ w ++ (x ++ t) = sym (append_assoc u v r) ∙ e ∙ append_assoc w x t in
    let q = same-character a (record { rest = v ++ r; split = refl }) b (record { rest = x ++ t; split = f }) in
    let i = same_row r t l m (append_cancel_left u (v ++ r) (x ++ t) (f ∙ rw q.0)) h k in
    ((cc), (cc))

-- the characters of well-formed octets, by the rules, are those that are read
pub octets-codes : {s cs : List ℕ} → Utf8Octets s cs → codes (chars s 0) ≡ cs
octets-codes {s} h =
    let r = row_from s (suc (length s)) 0 (omega arith) in
    sym (same_row [] r.starts.rest h r.row (append-nil s ∙ r.starts.split) nothing_left r.stuck).1

-- no text is a row of characters, and also one with octets behind it where no character begins
never_both : {s u cs ds : List ℕ} → Utf8Octets s cs → Utf8Octets u ds → (b : Starts s u) → 0 < length b.rest →
    StartsNone b.rest → ⊥
never_both {s} h k b p g =
    let e = (same_row [] b.rest h k (append-nil s ∙ b.split) nothing_left g).0 in
    omega (arith, ap length e, size_of b)

-- and the rules allow one answer
pub judged-one : {s : List ℕ} {x y : Result Unit IllFormed} → Judged s x → Judged s y → x ≡ y
judged-one (well_formed h) (well_formed k) = refl
judged-one (well_formed h) (ill_formed k b p g) = absurd (never_both h k b p g)
judged-one (ill_formed k b p g) (well_formed h) = absurd (never_both h k b p g)
judged-one (ill_formed h a o f) (ill_formed k b p g) =
    let e = (same_row a.rest b.rest h k (sym a.split ∙ b.split) f g).1 in
    cc
