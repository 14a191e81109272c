-- Text as bytes.
--   ascii          the bytes of a quoted text
--   decimal        a number in decimal digits
use Rattle.std.specs.Prelude.{List, [], ◌∷◌, ◌++◌, ℕ, zero, suc, ◌+◌, ◌/◌, ◌%◌, if◌then◌else◌}
use Prim.Native.Char.{code}
use Prim.Native.String.{String}
use Prim.Native.String.{[] as String·[], ◌∷◌ as ◌String·∷◌}
use Rattle.words.specs.Words.{◌<?◌}

-- the bytes of a quoted text, a character to a byte
abbrev pub ascii : String → List ℕ
ascii String·[] = []
ascii (c String·∷ s) = code c ∷ ascii s

-- the byte of a digit: "0" is 48
abbrev pub digit_byte : ℕ → ℕ
digit_byte d = 48 + d

-- n's decimal digits: those of n / 10, then the last; at most `more` of them stand before the last
unfoldable pub decimal_by : ℕ → ℕ → List ℕ
decimal_by zero n = digit_byte n ∷ []
decimal_by (suc more) n = if n <? 10 then digit_byte n ∷ [] else decimal_by more (n / 10) ++ (digit_byte (n % 10) ∷ [])

-- n in decimal digits, no zeros in front, 0 itself as "0"; every number printed has 64 bits, so at most 20 digits
unfoldable pub decimal : ℕ → List ℕ
decimal n = decimal_by 19 n
