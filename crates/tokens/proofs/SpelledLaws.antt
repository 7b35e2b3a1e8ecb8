-- What follows from how a token is spelled: its kind, and of a duration that its characters are ASCII.
use mathlib.Core.Path.{◌≡◌, refl}
use mathlib.Core.Bool.{Bool}
use Prim.Native.Nat.{ℕ, ◌≤◌}
use native.Mathlib.Omega.{arith}
use mathlib.Core.List.{List, ◌++◌}
use lib.ListN.{length}
use Rattle.text.specs.Utf8.{is_ascii}
use Rattle.tokens.specs.Kind.{STRING, DURATION}
use Rattle.tokens.specs.Rules.{All, UnitOf}
use Rattle.tokens.specs.Layout.{Duration, Spelled}
use Rattle.tokens.proofs.LayoutScan.{digit-ascii, all_of}
use Rattle.tokens.proofs.RulesFound.{symbol-kind}

-- no kind is 0
pub kind-some : {cs : List ℕ} {kind number : ℕ} → Spelled cs kind number → 1 ≤ kind
kind-some (Spelled.word a b) = omega arith
kind-some (Spelled.string a b) = omega arith
kind-some (Spelled.integer a) = omega arith
kind-some (Spelled.time a b c d e f) = omega arith
kind-some (Spelled.duration a) = omega arith
kind-some (Spelled.decimal a b c d e) = omega arith
kind-some (Spelled.symbol a) = let k = symbol-kind a in omega arith

-- a string has its quotes
pub string-some : {cs : List ℕ} {kind number : ℕ} → Spelled cs kind number → kind ≡ STRING → 1 ≤ length cs
string-some (Spelled.word a b) e = absurd (omega arith)
string-some (Spelled.string a b) e = omega arith
string-some (Spelled.integer a) e = absurd (omega arith)
string-some (Spelled.time a b c d f g) e = absurd (omega arith)
string-some (Spelled.duration a) e = absurd (omega arith)
string-some (Spelled.decimal a b c d f) e = absurd (omega arith)
string-some (Spelled.symbol a) e = absurd (let k = symbol-kind a in omega arith)

-- what is spelled as a duration is one
pub spelled_duration_lem : {cs : List ℕ} {kind number : ℕ} → Spelled cs kind number → kind ≡ DURATION → Duration cs number
spelled_duration_lem (Spelled.word a b) e = absurd (omega arith)
spelled_duration_lem (Spelled.string a b) e = absurd (omega arith)
spelled_duration_lem (Spelled.integer a) e = absurd (omega arith)
spelled_duration_lem (Spelled.time a b c d f g) e = absurd (omega arith)
spelled_duration_lem (Spelled.duration a) e = a
spelled_duration_lem (Spelled.decimal a b c d f) e = absurd (omega arith)
spelled_duration_lem (Spelled.symbol a) e = absurd (let k = symbol-kind a in omega arith)

pub all-on : {class : ℕ → Bool} {cs ds : List ℕ} → All class cs → All class ds → All class (cs ++ ds)
all-on All.none b = b
all-on (All.more h a) b = All.more h (all-on a b)

unit-ascii : {us : List ℕ} {unit : ℕ} → UnitOf us unit → All is_ascii us
unfolding is_ascii
unit-ascii UnitOf.ms = All.more refl (All.more refl All.none)
unit-ascii UnitOf.s = All.more refl All.none
unit-ascii UnitOf.m = All.more refl All.none
unit-ascii UnitOf.h = All.more refl All.none

-- the characters of a duration are digits, a point and letters: one byte each
pub duration-ascii : {cs : List ℕ} {ms : ℕ} → Duration cs ms → All is_ascii cs
unfolding is_ascii
duration-ascii (Duration.whole ws us a m) = all-on (all_of digit-ascii ws.all) (unit-ascii us)
duration-ascii (Duration.decimal ws fs us a m) =
    all-on (all_of digit-ascii ws.all) (All.more refl (all-on (all_of digit-ascii fs.all) (unit-ascii us)))
