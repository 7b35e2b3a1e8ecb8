-- UTF-8 as RFC 3629 states it. The rules are those of section 4 (ABNF), under the names and in the order that they have there;
-- the code points are those of section 3: the bits x of 0xxxxxxx, 110xxxxx, 1110xxxx, 11110xxx and 10xxxxxx, joined.
use Rattle.std.specs.Prelude.{ℕ, ◌+◌, ◌*◌, ◌%◌, ◌<◌, ◌≤◌, ◌≡◌, List, [], ◌∷◌, ◌++◌, length, drop}
use Rattle.text.specs.declared.utf8.Decoded.{Decoded}
use Rattle.text.specs.declared.utf8.Decoded.TheVariants.{Char, Bad, End}

-- %xLOW-HIGH: an octet in that range
pub record Octet (low high b : ℕ) : Type 0 where
  pub low_end : low ≤ b
  pub high_end : b ≤ high

-- UTF8-tail = %x80-BF
abbrev pub Tail : ℕ → Type 0
Tail b = Octet 0x80 0xBF b

-- UTF8-char: these octets are the character with this code point
pub data Utf8Char : List ℕ → ℕ → Type 0 where
  -- UTF8-1 = %x00-7F
  utf8_1 : {a : ℕ} → Octet 0x00 0x7F a → Utf8Char (a ∷ []) a
  -- UTF8-2 = %xC2-DF UTF8-tail
  utf8_2 : {a b : ℕ} → Octet 0xC2 0xDF a → Tail b → Utf8Char (a ∷ b ∷ []) (a % 32 * 64 + b % 64)
  -- UTF8-3 = %xE0 %xA0-BF UTF8-tail / %xE1-EC 2( UTF8-tail ) / %xED %x80-9F UTF8-tail / %xEE-EF 2( UTF8-tail )
  utf8_3_e0 : {a b c : ℕ} → Octet 0xE0 0xE0 a → Octet 0xA0 0xBF b → Tail c →
      Utf8Char (a ∷ b ∷ c ∷ []) ((a % 16 * 64 + b % 64) * 64 + c % 64)
  utf8_3_e1 : {a b c : ℕ} → Octet 0xE1 0xEC a → Tail b → Tail c →
      Utf8Char (a ∷ b ∷ c ∷ []) ((a % 16 * 64 + b % 64) * 64 + c % 64)
  utf8_3_ed : {a b c : ℕ} → Octet 0xED 0xED a → Octet 0x80 0x9F b → Tail c →
      Utf8Char (a ∷ b ∷ c ∷ []) ((a % 16 * 64 + b % 64) * 64 + c % 64)
  utf8_3_ee : {a b c : ℕ} → Octet 0xEE 0xEF a → Tail b → Tail c →
      Utf8Char (a ∷ b ∷ c ∷ []) ((a % 16 * 64 + b % 64) * 64 + c % 64)
  -- UTF8-4 = %xF0 %x90-BF 2( UTF8-tail ) / %xF1-F3 3( UTF8-tail ) / %xF4 %x80-8F 2( UTF8-tail )
  utf8_4_f0 : {a b c d : ℕ} → Octet 0xF0 0xF0 a → Octet 0x90 0xBF b → Tail c → Tail d →
      Utf8Char (a ∷ b ∷ c ∷ d ∷ []) (((a % 8 * 64 + b % 64) * 64 + c % 64) * 64 + d % 64)
  utf8_4_f1 : {a b c d : ℕ} → Octet 0xF1 0xF3 a → Tail b → Tail c → Tail d →
      Utf8Char (a ∷ b ∷ c ∷ d ∷ []) (((a % 8 * 64 + b % 64) * 64 + c % 64) * 64 + d % 64)
  utf8_4_f4 : {a b c d : ℕ} → Octet 0xF4 0xF4 a → Octet 0x80 0x8F b → Tail c → Tail d →
      Utf8Char (a ∷ b ∷ c ∷ d ∷ []) (((a % 8 * 64 + b % 64) * 64 + c % 64) * 64 + d % 64)

-- UTF8-octets = *( UTF8-char ): these octets are the characters with these code points
pub data Utf8Octets : List ℕ → List ℕ → Type 0 where
  none : Utf8Octets [] []
  more : {u v cs : List ℕ} {c : ℕ} → Utf8Char u c → Utf8Octets v cs → Utf8Octets (u ++ v) (c ∷ cs)

-- the octets l begin with the octets u
pub record Starts (l u : List ℕ) : Type 0 where
  pub rest : List ℕ
  pub split : l ≡ u ++ rest

-- no character begins the octets l
pub record StartsNone (l : List ℕ) : Type 0 where
  pub never : (u : List ℕ) (c : ℕ) → Utf8Char u c → Starts l u → ⊥

-- what the rules say stands at an offset of s
pub data Stands (s : List ℕ) (at : ℕ) : Decoded → Type 0 where
  char : {u : List ℕ} {c : ℕ} → Utf8Char u c → Starts (drop at s) u → Stands s at (Char c (at + length u))
  bad : at < length s → StartsNone (drop at s) → Stands s at Bad
  end : length s ≤ at → Stands s at End
