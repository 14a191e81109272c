-- "Checked by rising number, first bad record first".
--   refuse◌unless◌   one check
--   ◌and_then◌        one check, or one section of checks, after the other
--   refuse_each       a check of every record
--   answer_by         the answer of what the checks found
use Rattle.std.specs.Prelude.{Bool, true, false, ℕ, zero, suc, ◌+◌, Result, Ok, Err}
use Rattle.refusal.specs.declared.Refusal.{Refusal}

-- what a section of checks finds: nothing, or a refusal
abbrev pub Checked : Type 0
Checked = Result Unit Refusal

-- the answer of an entry: how many bytes it wrote, or a refusal
abbrev pub Answer : Type 0
Answer = Result ℕ Refusal

infix 20 refuse◌unless◌
infixr 10 ◌and_then◌
-- one check: a refusal where the test fails
abbrev pub refuse◌unless◌ : Refusal → Bool → Checked
refuse◌unless◌ why true = Ok tt
refuse◌unless◌ why false = Err why

-- one check after the other: the first refusal is the answer
abbrev pub ◌and_then◌ : Checked → Checked → Checked
◌and_then◌ (Ok _) next = next
◌and_then◌ (Err why) next = Err why

-- the first bad record of `more` records from place p on
unfoldable pub first_bad : (ℕ → Refusal) → (ℕ → Bool) → ℕ → ℕ → Checked
first_bad why good p zero = Ok tt
first_bad why good p (suc more) = (refuse why p unless good p) and_then first_bad why good (p + 1) more

-- "first bad record first", of n records in all; "record places from 1"
abbrev pub refuse_each : (ℕ → Refusal) → (ℕ → Bool) → ℕ → Checked
refuse_each why good n = first_bad why good 1 n

-- "The answer carries the report's length", and that of whatever else an entry writes
abbrev pub answer_by : Checked → ℕ → Answer
answer_by (Ok _) length = Ok length
answer_by (Err why) length = Err why
