-- Readings and VALUE: what is answered is a reading, and a reading is what is answered.
use Rattle.std.specs.Prelude.{Some}
use Prim.Native.Nat.{ℕ, ◌+◌}
use mathlib.Core.Path.{◌≡◌, refl, ◌∙◌}
use mathlib.Core.Bool.{true, false}
use mathlib.Core.List.{List}
use lib.IntN.{ℤ}
use Rattle.text.specs.Literal.{ascii}
use Rattle.text.specs.Part.{same_bytes}
use Rattle.text.specs.Split.{split}
use Rattle.tokens.specs.Result.{Res, ok, bind, perhaps}
use Rattle.tokens.specs.Cursor.{Tok, is_kind, take_kind}
use Rattle.tokens.specs.Phrase.{words_in, position as place_in, has_place, point_choice}
use Rattle.tokens.specs.Grammar.{Token, token, Word}
use Rattle.tokens.proofs.Okay.{Okay, bind_ok, pick-ok, perhaps-ok, token-kind, word-kind, is_kind_lem, not-kind, kind-yes, kind-no, kind-complete}
use Rattle.tokens.proofs.PhraseLaws.{choice-ok, choice-complete, point_choice_ok, point_choice_complete}
use Rattle.sheet.specs.View.{View}
use Rattle.references.specs.Refs.{lamp_ref, group_ref, quoted_name}
use Rattle.references.specs.Args.{input_ref}
use Rattle.references.proofs.RefSound.{lamp-sound, group-sound, quoted-sound}
use Rattle.references.proofs.RefComplete.{lamp-complete, group-complete, quoted-complete}
use Rattle.references.proofs.ArgSound.{one_instance-sound}
use Rattle.references.proofs.ArgComplete.{one_instance-complete}
use Rattle.model.specs.declared.Name.{Name}
use Rattle.model.specs.declared.LampReading.{LampReading}
use Rattle.model.specs.declared.GroupReading.{GroupReading}
use Rattle.model.specs.declared.InputReading.{InputReading}
use Rattle.model.specs.declared.TimeReading.{TimeReading}
use Rattle.model.specs.declared.SunReading.{SunReading}
use Rattle.model.specs.declared.EventReading.{EventReading}
use Rattle.model.specs.declared.Reading.{Reading}
use Rattle.model.specs.declared.Value.{Value}
use Rattle.model.specs.declared.Value.TheVariants.{Literal, Reads}
use Rattle.language.specs.Words.{signed}
use Rattle.language.specs.Expr.{lamp_property, group_property, input_property, time_property, sun_property, event_property, lamp_reading, group_reading, input_reading, time_reading, sun_reading, event_reading, var_reading, reading_by, reading_at, literal_at, delta_at, with_delta, read_value, value_at}
use Rattle.language.specs.grammar.Words.{Signed, plus, minus}
use Rattle.language.specs.grammar.Expr.{LampPropertyOf, level, cct, is_on_rule, last_level_rule, GroupProperty, any_on, all_off, member_count, InputProperty, occupied, light, position, last_event_age, TimeProperty, now, hour, minute, weekday, SunProperty, rise, set, is_up, EventProperty, event_value, event_device, event_instance, event_option, ReadingOf, of_lamp, of_group, of_input, of_time, of_sun, of_event, of_var, ValueOf, number, signed_number, reading, reading_with}
use Rattle.language.proofs.WordLaws.{End, Unsigned, then-kind}

-- f of a number behind a sign, or something else where no sign stands
abbrev signed_or : (ℕ → Tok) → (ℤ → Value) → ℕ → Res Value → Res Value
signed_or t f i other =
    perhaps (is_kind t 21 i) i (λ j. bind (take_kind t 3 j) (λ n k. ok (f (signed false n)) k))
    (perhaps (is_kind t 22 i) i (λ j. bind (take_kind t 3 j) (λ n k. ok (f (signed true n)) k)) other)

module _ (t : ℕ → Tok) where
  -- perhaps a number behind a sign, for any form that ends with it
  signed-sound : (G : Value → ℕ → Type 0) (f : ℤ → Value) (i : ℕ) (other : Res Value) → ((z : ℤ) (j : ℕ) → Signed t 3 i z j → G (f z) j) →
      Okay G other → Okay G (signed_or t f i other)
  unfolding signed
  signed-sound G f i other ends h =
      perhaps-ok G (is_kind t 21 i) i _ _
      (λ e. then-kind t G 3 (i + 1) _ (λ n j d. ends _ j (plus (is_kind_lem t 21 i e) d)))
      (λ n.
      perhaps-ok G (is_kind t 22 i) i _ _
      (λ e. then-kind t G 3 (i + 1) _ (λ n j d. ends _ j (minus (is_kind_lem t 22 i e) d)))
      (λ n. h))

module _ (t : ℕ → Tok) (view : View) (range : ℕ → Name) where
  -- each kind of reading, behind its first word
  lamp_reading-sound : {i j : ℕ} → Word t (ascii "lamp") i j → Okay (ReadingOf t view range i) (lamp_reading t view j)
  unfolding lamp_reading lamp_property words_in split
  lamp_reading-sound {i} {j} w =
      let G = ReadingOf t view range i in
      bind_ok G (lamp_ref t view j) _ (lamp-sound t view j)
      (λ r k h.
      point_choice_ok t G (ascii "level cct is_on last_level") k _
      (λ a l point. ((λ m p. of_lamp w h point (level p)), ((λ m p. of_lamp w h point (cct p)), ((λ m p. of_lamp w h point (is_on_rule p)), ((λ m p. of_lamp w h point (last_level_rule p)), tt))))))

  group_reading-sound : {i j : ℕ} → Word t (ascii "group") i j → Okay (ReadingOf t view range i) (group_reading t view j)
  unfolding group_reading group_property words_in split
  group_reading-sound {i} {j} w =
      let G = ReadingOf t view range i in
      bind_ok G (group_ref t view j) _ (group-sound t view j)
      (λ r k h.
      point_choice_ok t G (ascii "any_on all_off member_count") k _
      (λ a l point. ((λ m p. of_group w h point (any_on p)), ((λ m p. of_group w h point (all_off p)), ((λ m p. of_group w h point (member_count p)), tt)))))

  input_reading-sound : (fuel : ℕ) {i j : ℕ} → Word t (ascii "input") i j → Okay (ReadingOf t view range i) (input_reading t view fuel j)
  unfolding input_reading input_property words_in split
  input_reading-sound fuel {i} {j} w =
      let G = ReadingOf t view range i in
      bind_ok G (input_ref t view fuel j) _ (one_instance-sound t view fuel j)
      (λ r k h.
      point_choice_ok t G (ascii "occupied light position last_event_age") k _
      (λ a l point. ((λ m p. of_input w h point (occupied p)), ((λ m p. of_input w h point (light p)), ((λ m p. of_input w h point (position p)), ((λ m p. of_input w h point (last_event_age p)), tt))))))

  time_reading-sound : {i j : ℕ} → Word t (ascii "time") i j → Okay (ReadingOf t view range i) (time_reading t j)
  unfolding time_reading time_property words_in split
  time_reading-sound {i} {j} w =
      let G = ReadingOf t view range i in
      point_choice_ok t G (ascii "now hour minute weekday") j _
      (λ a l point. ((λ m p. of_time w point (now p)), ((λ m p. of_time w point (hour p)), ((λ m p. of_time w point (minute p)), ((λ m p. of_time w point (weekday p)), tt)))))

  sun_reading-sound : {i j : ℕ} → Word t (ascii "sun") i j → Okay (ReadingOf t view range i) (sun_reading t j)
  unfolding sun_reading sun_property words_in split
  sun_reading-sound {i} {j} w =
      let G = ReadingOf t view range i in
      point_choice_ok t G (ascii "rise set is_up") j _
      (λ a l point. ((λ m p. of_sun w point (rise p)), ((λ m p. of_sun w point (set p)), ((λ m p. of_sun w point (is_up p)), tt))))

  event_reading-sound : {i j : ℕ} → Word t (ascii "event") i j → Okay (ReadingOf t view range i) (event_reading t view i j)
  unfolding event_reading event_property words_in split
  event_reading-sound {i} {j} w =
      let G = ReadingOf t view range i in
      pick-ok G (view.allows i) _ _
      (λ e.
      point_choice_ok t G (ascii "value device instance option") j _
      (λ a l point. ((λ m p. of_event w e point (event_value p)), ((λ m p. of_event w e point (event_device p)), ((λ m p. of_event w e point (event_instance p)), ((λ m p. of_event w e point (event_option p)), tt))))))
      (λ e. tt)

  var_reading-sound : {i j : ℕ} → Word t (ascii "var") i j → Okay (ReadingOf t view range i) (var_reading t range j)
  unfolding var_reading
  var_reading-sound {i} {j} w = bind_ok (ReadingOf t view range i) (quoted_name t j) _ (quoted-sound t j) (λ n k q. of_var w q)

  -- what is answered as a reading is one, whatever the fuel
  pub reading-sound : (fuel i : ℕ) → Okay (ReadingOf t view range i) (reading_at t view range fuel i)
  unfolding reading_at reading_by words_in split
  reading-sound fuel i =
      choice-ok t (ReadingOf t view range i) (ascii "lamp group input time sun event var") 20 i _ (
        (λ j w. lamp_reading-sound w),
        (
          (λ j w. group_reading-sound w),
          (
            (λ j w. input_reading-sound fuel w),
            (
              (λ j w. time_reading-sound w),
              ((λ j w. sun_reading-sound w), ((λ j w. event_reading-sound w), ((λ j w. var_reading-sound w), tt))),
            ),
          ),
        ),
      )

  -- a reading, with perhaps a sign and a number behind it
  delta-sound : {i j : ℕ} (r : Reading) → ReadingOf t view range i r j → Okay (ValueOf t view range i) (with_delta t r j)
  unfolding with_delta delta_at
  delta-sound {i} {j} r h =
      signed-sound t (ValueOf t view range i) (λ (z : ℤ). Reads r (Some z)) j _ (λ z k s. reading_with h s) (reading h)

  -- what is answered as a VALUE is one, whatever the fuel
  pub value-sound : (fuel i : ℕ) → Okay (ValueOf t view range i) (value_at t view range fuel i)
  unfolding value_at literal_at read_value signed
  value-sound fuel i =
      let G = ValueOf t view range i in
      signed-sound t G Literal i _ (λ z j s. signed_number s)
      (pick-ok G (is_kind t 3 i) _ _
      (λ e. then-kind t G 3 i _ (λ n j d. number d))
      (λ e. bind_ok G (reading_at t view range fuel i) _ (reading-sound fuel i) (λ r j h. delta-sound r h)))

-- a property that the grammar lists is taken, behind its point
lamp_property_lem : {t : ℕ → Tok} {h a i j : ℕ} {p : LampReading} → Token t 12 h a i → LampPropertyOf t i p j →
    bind (point_choice t (ascii "level cct is_on last_level") h) (λ n k. ok (lamp_property n) k) ≡ ok p j
unfolding lamp_property words_in split place_in same_bytes
lamp_property_lem {t} point (level w) = rw (point_choice_complete t (ascii "level cct is_on last_level") {n = 0} point w refl refl)
lamp_property_lem {t} point (cct w) = rw (point_choice_complete t (ascii "level cct is_on last_level") {n = 1} point w refl refl)
lamp_property_lem {t} point (is_on_rule w) = rw (point_choice_complete t (ascii "level cct is_on last_level") {n = 2} point w refl refl)
lamp_property_lem {t} point (last_level_rule w) = rw (point_choice_complete t (ascii "level cct is_on last_level") {n = 3} point w refl refl)

group_property_lem : {t : ℕ → Tok} {h a i j : ℕ} {p : GroupReading} → Token t 12 h a i → GroupProperty t i p j →
    bind (point_choice t (ascii "any_on all_off member_count") h) (λ n k. ok (group_property n) k) ≡ ok p j
unfolding group_property words_in split place_in same_bytes
group_property_lem {t} point (any_on w) = rw (point_choice_complete t (ascii "any_on all_off member_count") {n = 0} point w refl refl)
group_property_lem {t} point (all_off w) = rw (point_choice_complete t (ascii "any_on all_off member_count") {n = 1} point w refl refl)
group_property_lem {t} point (member_count w) = rw (point_choice_complete t (ascii "any_on all_off member_count") {n = 2} point w refl refl)

input_property_lem : {t : ℕ → Tok} {h a i j : ℕ} {p : InputReading} → Token t 12 h a i → InputProperty t i p j →
    bind (point_choice t (ascii "occupied light position last_event_age") h) (λ n k. ok (input_property n) k) ≡ ok p j
unfolding input_property words_in split place_in same_bytes
input_property_lem {t} point (occupied w) = rw (point_choice_complete t (ascii "occupied light position last_event_age") {n = 0} point w refl refl)
input_property_lem {t} point (light w) = rw (point_choice_complete t (ascii "occupied light position last_event_age") {n = 1} point w refl refl)
input_property_lem {t} point (position w) = rw (point_choice_complete t (ascii "occupied light position last_event_age") {n = 2} point w refl refl)
input_property_lem {t} point (last_event_age w) = rw (point_choice_complete t (ascii "occupied light position last_event_age") {n = 3} point w refl refl)

time_property_lem : {t : ℕ → Tok} {h a i j : ℕ} {p : TimeReading} → Token t 12 h a i → TimeProperty t i p j →
    bind (point_choice t (ascii "now hour minute weekday") h) (λ n k. ok (time_property n) k) ≡ ok p j
unfolding time_property words_in split place_in same_bytes
time_property_lem {t} point (now w) = rw (point_choice_complete t (ascii "now hour minute weekday") {n = 0} point w refl refl)
time_property_lem {t} point (hour w) = rw (point_choice_complete t (ascii "now hour minute weekday") {n = 1} point w refl refl)
time_property_lem {t} point (minute w) = rw (point_choice_complete t (ascii "now hour minute weekday") {n = 2} point w refl refl)
time_property_lem {t} point (weekday w) = rw (point_choice_complete t (ascii "now hour minute weekday") {n = 3} point w refl refl)

sun_property_lem : {t : ℕ → Tok} {h a i j : ℕ} {p : SunReading} → Token t 12 h a i → SunProperty t i p j →
    bind (point_choice t (ascii "rise set is_up") h) (λ n k. ok (sun_property n) k) ≡ ok p j
unfolding sun_property words_in split place_in same_bytes
sun_property_lem {t} point (rise w) = rw (point_choice_complete t (ascii "rise set is_up") {n = 0} point w refl refl)
sun_property_lem {t} point (set w) = rw (point_choice_complete t (ascii "rise set is_up") {n = 1} point w refl refl)
sun_property_lem {t} point (is_up w) = rw (point_choice_complete t (ascii "rise set is_up") {n = 2} point w refl refl)

event_property_lem : {t : ℕ → Tok} {h a i j : ℕ} {p : EventReading} → Token t 12 h a i → EventProperty t i p j →
    bind (point_choice t (ascii "value device instance option") h) (λ n k. ok (event_property n) k) ≡ ok p j
unfolding event_property words_in split place_in same_bytes
event_property_lem {t} point (event_value w) = rw (point_choice_complete t (ascii "value device instance option") {n = 0} point w refl refl)
event_property_lem {t} point (event_device w) = rw (point_choice_complete t (ascii "value device instance option") {n = 1} point w refl refl)
event_property_lem {t} point (event_instance w) = rw (point_choice_complete t (ascii "value device instance option") {n = 2} point w refl refl)
event_property_lem {t} point (event_option w) = rw (point_choice_complete t (ascii "value device instance option") {n = 3} point w refl refl)

-- a property, and a value made of it
of-property : {A B : Type 0} (x : Res ℕ) (p : ℕ → A) (f : A → B) {v : A} {j : ℕ} → bind x (λ n k. ok (p n) k) ≡ ok v j →
    bind x (λ n k. ok (f (p n)) k) ≡ ok (f v) j
of-property (ok n k) p f e = cc
of-property (Res.no r) p f e = cc

-- a reading is judged by its first word
first_word : {t : ℕ → Tok} (view : View) (range : ℕ → Name) (fuel n : ℕ) {i j : ℕ} {word : List ℕ} → Word t word i j →
    place_in word (words_in (ascii "lamp group input time sun event var")) ≡ n →
    has_place (words_in (ascii "lamp group input time sun event var")) n ≡ true →
    reading_at t view range fuel i ≡ reading_by t view range fuel i n j
unfolding reading_at
first_word {t} view range fuel n w e h = rw (choice-complete t (ascii "lamp group input time sun event var") 20 w e h)

-- every reading of the grammar is answered
pub reading-complete : {t : ℕ → Tok} {view : View} {range : ℕ → Name} {fuel i j : ℕ} {v : Reading} → End t fuel →
    ReadingOf t view range i v j → reading_at t view range fuel i ≡ ok v j
unfolding reading_by lamp_reading group_reading input_reading time_reading sun_reading event_reading var_reading words_in split place_in same_bytes
reading-complete {t} end (of_lamp {k = k} {r = r} w h point p) =
    rw (first_word _ _ _ 0 w refl refl, lamp-complete h) (of-property (point_choice t (ascii "level cct is_on last_level") k) lamp_property (Reading.Lamp r) (lamp_property_lem point p))
reading-complete {t} end (of_group {k = k} {r = r} w h point p) =
    rw (first_word _ _ _ 1 w refl refl, group-complete h) (of-property (point_choice t (ascii "any_on all_off member_count") k) group_property (Reading.Group r) (group_property_lem point p))
reading-complete {t} end (of_input {k = k} {r = r} w h point p) =
    rw (first_word _ _ _ 2 w refl refl, one_instance-complete end h) (of-property (point_choice t (ascii "occupied light position last_event_age") k) input_property (Reading.Input r) (input_property_lem point p))
reading-complete {t} end (of_time {j = j} w point p) =
    rw (first_word _ _ _ 3 w refl refl) (of-property (point_choice t (ascii "now hour minute weekday") j) time_property Reading.Time (time_property_lem point p))
reading-complete {t} end (of_sun {j = j} w point p) =
    rw (first_word _ _ _ 4 w refl refl) (of-property (point_choice t (ascii "rise set is_up") j) sun_property Reading.Sun (sun_property_lem point p))
reading-complete {t} end (of_event {j = j} w e point p) =
    rw (first_word _ _ _ 5 w refl refl, e) (of-property (point_choice t (ascii "value device instance option") j) event_property Reading.Event (event_property_lem point p))
reading-complete end (of_var w q) = rw (first_word _ _ _ 6 w refl refl, quoted-complete q)

-- a reading begins with a word
reading-kind : {t : ℕ → Tok} {view : View} {range : ℕ → Name} {i j : ℕ} {v : Reading} → ReadingOf t view range i v j → (t i).kind ≡ 1
reading-kind (of_lamp w h point p) = word-kind w
reading-kind (of_group w h point p) = word-kind w
reading-kind (of_input w h point p) = word-kind w
reading-kind (of_time w point p) = word-kind w
reading-kind (of_sun w point p) = word-kind w
reading-kind (of_event w e point p) = word-kind w
reading-kind (of_var w q) = word-kind w

-- a reading, whatever follows it
read-complete : {t : ℕ → Tok} {view : View} {range : ℕ → Name} {fuel i j : ℕ} {v : Reading} → End t fuel →
    ReadingOf t view range i v j → value_at t view range fuel i ≡ with_delta t v j
unfolding value_at read_value
read-complete {t} {i = i} end h =
    let word = reading-kind h in
    rw (
      kind-no t 21 i (not-kind t 21 refl word),
      kind-no t 22 i (not-kind t 22 refl word),
      kind-no t 3 i (not-kind t 3 refl word),
      reading-complete end h,
    )

-- a sign and a number are taken before anything else
signed-complete : {t : ℕ → Tok} (f : ℤ → Value) {i j : ℕ} {z : ℤ} (other : Res Value) → Signed t 3 i z j → signed_or t f i other ≡ ok (f z) j
unfolding signed
signed-complete {t} f other (plus (token p) d) = rw (kind-yes t refl p, kind-complete t refl d)
signed-complete {t} f other (minus (token p) d) = rw (kind-no t 21 _ (not-kind t 21 refl p), kind-yes t refl p, kind-complete t refl d)

-- every VALUE of the grammar is answered, where no sign stands behind it
pub value-complete : {t : ℕ → Tok} {view : View} {range : ℕ → Name} {fuel i j : ℕ} {v : Value} → End t fuel → Unsigned t j →
    ValueOf t view range i v j → value_at t view range fuel i ≡ ok v j
unfolding value_at literal_at with_delta delta_at signed
value-complete {t} {i = i} end u (number (token p)) =
    rw (kind-no t 21 i (not-kind t 21 refl p), kind-no t 22 i (not-kind t 22 refl p), kind-yes t refl p, kind-complete t refl (token p))
value-complete end u (signed_number s) = signed-complete Literal _ s
value-complete {t} {j = j} end u (reading h) = rw (read-complete end h, kind-no t 21 j u.no_plus, kind-no t 22 j u.no_minus)
value-complete end u (reading_with {v = r} h s) = read-complete end h ∙ signed-complete (λ (z : ℤ). Reads r (Some z)) _ s

-- a string literal is not a VALUE
pub value-no-string : {t : ℕ → Tok} {view : View} {range : ℕ → Name} {i j : ℕ} {v : Value} → ValueOf t view range i v j →
    (t i).kind ≡ 2 → ⊥
value-no-string {t} (number h) = not-kind t 2 refl (token-kind h)
value-no-string {t} (signed_number (plus h d)) = not-kind t 2 refl (token-kind h)
value-no-string {t} (signed_number (minus h d)) = not-kind t 2 refl (token-kind h)
value-no-string {t} (reading h) = not-kind t 2 refl (reading-kind h)
value-no-string {t} (reading_with h d) = not-kind t 2 refl (reading-kind h)
