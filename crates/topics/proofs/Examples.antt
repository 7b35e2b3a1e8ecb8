-- Examples, evaluated from the definitions.
use mathlib.Core.Path.{◌≡◌, refl}
use mathlib.Core.Bool.{true, false}
use mathlib.Core.List.{List, [], ◌∷◌, ◌++◌}
use Prim.Native.Nat.{ℕ, zero, suc}
use lib.ListN.{replicate}
use Rattle.text.specs.Literal.{ascii}
use Rattle.text.specs.Part.{same_bytes}
use Rattle.text.specs.Split.{split}
use Rattle.text.specs.White.{among}
use Rattle.text.specs.Category.{controls, is_control, is_noncharacter}
use Rattle.text.specs.Utf8.{chars, chars_from, front, sized, sequence_length, two, three, is_tail, is_second}
use Rattle.topics.specs.Topic.{is_forbidden, forbidden_among, forbidden, topic_number}
use Rattle.topics.specs.Topics.{filled, lent_topics, has, different, too_many, fits}

-- `+` comes before the length: sixty bytes with it are 64, without it 65
long-plus : topic_number (ascii "+" ++ replicate 59 0x61) ≡ 64
unfolding topic_number forbidden forbidden_among is_forbidden chars chars_from front sized sequence_length
long-plus = refl

-- 24 times é has 48 bytes
e_acute : ℕ → List ℕ
e_acute zero = []
e_acute (suc n) = 0xC3 ∷ 0xA9 ∷ e_acute n

longest : topic_number (e_acute 24) ≡ 0
unfolding e_acute topic_number forbidden forbidden_among is_forbidden is_control controls among is_noncharacter chars chars_from front sized sequence_length two is_tail
longest = refl

one-over : topic_number (e_acute 24 ++ ascii "x") ≡ 65
unfolding e_acute topic_number forbidden forbidden_among is_forbidden is_control controls among is_noncharacter chars chars_from front sized sequence_length two is_tail
one-over = refl

-- U+0085 is a control character and U+FDD0 a noncharacter; U+FEFF is neither
next_line : topic_number (0xC2 ∷ 0x85 ∷ []) ≡ 64
unfolding topic_number forbidden forbidden_among is_forbidden is_control controls among chars chars_from front sized sequence_length two is_tail
next_line = refl

noncharacter : topic_number (0xEF ∷ 0xB7 ∷ 0x90 ∷ []) ≡ 64
unfolding topic_number forbidden forbidden_among is_forbidden is_control controls among is_noncharacter chars chars_from front sized sequence_length three is_tail is_second
noncharacter = refl

byte-order-mark : topic_number (0xEF ∷ 0xBB ∷ 0xBF ∷ []) ≡ 0
unfolding topic_number forbidden forbidden_among is_forbidden is_control controls among is_noncharacter chars chars_from front sized sequence_length three is_tail is_second
byte-order-mark = refl

-- CR belongs to its line, an empty line and a last LF count for nothing
lent-lines : lent_topics (ascii "a\n\nb\r\n\r\n") ≡ ascii "a" ∷ ascii "b\r" ∷ ascii "\r" ∷ []
unfolding lent_topics filled split
lent-lines = refl

-- seven lent, one of them twice: `a` twice and `b` are one too many at `b`
seven : List (List ℕ)
seven = lent_topics (ascii "1\n2\n3\n4\n5\n6\n7\n7")

third_is-over : too_many seven (ascii "a" ∷ ascii "a" ∷ []) (ascii "b") ≡ true
unfolding seven lent_topics filled split too_many has different same_bytes
third_is-over = refl

repeat-fits : fits seven [] (ascii "a" ∷ ascii "a" ∷ ascii "7" ∷ []) ≡ true
unfolding seven lent_topics filled split fits too_many has different same_bytes
repeat-fits = refl

-- five lent: the fourth new one is too many, and none before it
five : List (List ℕ)
five = lent_topics (ascii "1\n2\n3\n4\n5")

fourth_is-over : fits five [] (ascii "a" ∷ ascii "b" ∷ ascii "c" ∷ ascii "d" ∷ []) ≡ false
unfolding five lent_topics filled split fits too_many has different same_bytes
fourth_is-over = refl

three-fit : fits five [] (ascii "a" ∷ ascii "b" ∷ ascii "c" ∷ []) ≡ true
unfolding five lent_topics filled split fits too_many has different same_bytes
three-fit = refl

-- ten lent: those alone break no limit, and one new one does
ten : List (List ℕ)
ten = lent_topics (ascii "0\n1\n2\n3\n4\n5\n6\n7\n8\n9")

lent-alone : fits ten [] (ascii "9" ∷ ascii "3" ∷ []) ≡ true
unfolding ten lent_topics filled split fits too_many has different same_bytes
lent-alone = refl

new-is-over : too_many ten [] (ascii "a") ≡ true
unfolding ten lent_topics filled split too_many has different same_bytes
new-is-over = refl
