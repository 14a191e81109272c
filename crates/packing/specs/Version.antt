-- The library's version, and the versions of schedules and books that it takes, as one number.
--   major minor patch          the version
--   version_number              it as one number, the low 32 bits
--   known_book                  the test of refusal 7, of a version; as `known` is of refusal 3
--   library_version             the number; number_in, schedules_in and books_in are its parts
--   known-book                 refusal 7 asks known_book
--   number_read                the low 32 bits of library_version
--   schedule-read book-read    bit v of a set is set just where version v is taken, whatever v
use Rattle.std.specs.Prelude.{Bool, ◌||◌, List, ◌≡◌, refl, ℕ, zero, suc, ◌+◌, ◌*◌, ◌/◌, ◌%◌, ◌^◌}
use Rattle.std.proofs.Common.{sym, ap, ◌∙◌, arith, shr-shr, ne_eqb}
use Rattle.std.proofs.Math.Nat.{zero-div}
use Rattle.words.specs.Words.{◌=?◌, sum}
use Rattle.wire.specs.Bytes.{bit}
use Rattle.schedule.specs.Check.{known}
use Rattle.book.specs.Records.{version}
use Rattle.book.specs.Check.{version_known}
use Rattle.figures.specs.Report.{bits_of}

-- 0.11.0
abbrev pub major : ℕ
major = 0

abbrev pub minor : ℕ
minor = 11

abbrev pub patch : ℕ
patch = 0

abbrev pub version_number : ℕ
version_number = major * 65536 + minor * 256 + patch

-- C-13: "Refusal 7 now passes versions 1 and 2"
abbrev pub known_book : ℕ → Bool
known_book v = v =? 1 || v =? 2

pub known-book : (b : List ℕ) → version_known b ≡ known_book (version b)
known-book b = refl

-- bits 0 to 31 the version, 32 to 47 the set of schedules' versions, 48 to 63 that of books' versions
unfoldable pub library_version : ℕ
library_version = version_number + 2 ^ 32 * bits_of known 16 + 2 ^ 48 * bits_of known_book 16

abbrev pub number_in : ℕ → ℕ
number_in n = n % 2 ^ 32

abbrev pub schedules_in : ℕ → ℕ
schedules_in n = n / 2 ^ 32 % 2 ^ 16

abbrev pub books_in : ℕ → ℕ
books_in n = n / 2 ^ 48 % 2 ^ 16

pub number_read : number_in library_version ≡ version_number
unfolding library_version sum
number_read = refl

-- a set of 1 and 2, read at any number
reads : (v : ℕ) → (v =? 1 || v =? 2) ≡ bit v 6
reads zero = refl
reads (suc zero) = refl
reads (suc (suc zero)) = refl
reads (suc (suc (suc v))) =
    let e : 3 + v ≡ suc (suc (suc v)) = omega arith in
    rw (ne_eqb (suc (suc (suc v))) 1 (λ z. omega arith), ne_eqb (suc (suc (suc v))) 2 (λ z. omega arith))
    (ap (λ (n : ℕ). n % 2 =? 1) (sym (zero-div (2 ^ v)) ∙ shr-shr 6 3 v ∙ ap (λ (n : ℕ). 6 / 2 ^ n) e))

pub schedule-read : (v : ℕ) → known v ≡ bit v (schedules_in library_version)
unfolding library_version sum
schedule-read v = reads v

pub book-read : (v : ℕ) → known_book v ≡ bit v (books_in library_version)
unfolding library_version sum
book-read v = reads v
