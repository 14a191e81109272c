-- "Stored numbers are little-endian, u16 meaning 16 bits unsigned and i64 64 bits in two's complement; bytes count from 0".
--   M                      the most that an amount read may be
--   byte_at u16_at u64_at i64_at   what stands at a place of a list of bytes
--   bit                    a bit of a byte
--   bytes16 bytes64        a number's bytes
--   placed                 a list with other bytes at a place
use Rattle.std.specs.Prelude.{Bool, List, [], ◌∷◌, ◌++◌, ℕ, ◌+◌, ◌*◌, ◌-◌, ◌/◌, ◌%◌, ◌^◌, ℤ, pos, negsuc, length, get_or, take, drop, if◌then◌else◌}
use Rattle.words.specs.Words.{◌<?◌, ◌=?◌}

-- "M = 10,000,000,000,000"
abbrev pub M : ℕ
M = 10_000_000_000_000

-- "bytes count from 0"; past the end there is 0
abbrev pub byte_at : List ℕ → ℕ → ℕ
byte_at s at = get_or s at 0

-- the sums behind u16_at and u64_at
abbrev pub sum16 : List ℕ → ℕ → ℕ
sum16 s at = byte_at s at + byte_at s (at + 1) * 256

abbrev pub sum64 : List ℕ → ℕ → ℕ
sum64 s at =
    byte_at s at
    + byte_at s (at + 1) * 256
    + byte_at s (at + 2) * 65536
    + byte_at s (at + 3) * 16777216
    + byte_at s (at + 4) * 4294967296
    + byte_at s (at + 5) * 1099511627776
    + byte_at s (at + 6) * 281474976710656
    + byte_at s (at + 7) * 72057594037927936

-- "u16 meaning 16 bits unsigned"
unfoldable pub u16_at : List ℕ → ℕ → ℕ
u16_at s at = sum16 s at

-- u64: the same with 64 bits
unfoldable pub u64_at : List ℕ → ℕ → ℕ
u64_at s at = sum64 s at

-- two's complement: below 2^63 the number itself, from there on less 2^64; `negsuc n` is −(n + 1)
abbrev pub signed_of : ℕ → ℤ
signed_of u = if u <? 9223372036854775808 then pos u else negsuc (18446744073709551615 - u)

-- "i64 64 bits in two's complement"
unfoldable pub i64_at : List ℕ → ℕ → ℤ
i64_at s at = signed_of (u64_at s at)

-- bit n of a byte
abbrev pub bit : ℕ → ℕ → Bool
bit n b = b / 2 ^ n % 2 =? 1

-- the bytes of a u16
abbrev pub bytes16 : ℕ → List ℕ
bytes16 v = v % 256 ∷ v / 256 ∷ []

-- the bytes of a u64
abbrev pub bytes64 : ℕ → List ℕ
bytes64 v =
    v % 256
    ∷ v / 256 % 256
    ∷ v / 65536 % 256
    ∷ v / 16777216 % 256
    ∷ v / 4294967296 % 256
    ∷ v / 1099511627776 % 256
    ∷ v / 281474976710656 % 256
    ∷ v / 72057594037927936
    ∷ []

-- l with vs in the place of what stands from `at` on
abbrev pub placed : List ℕ → ℕ → List ℕ → List ℕ
placed l at vs = take at l ++ vs ++ drop (at + length vs) l
