-- An answer as one number (packed).
use Rattle.refusal.specs.Chain.{Answer}
use Rattle.std.specs.Prelude.{ℕ, ◌+◌, ◌*◌, Ok, Err}
use Rattle.refusal.specs.Refusals.{number_of, place_of}

-- "A refusal is a number and a place": the number in the high 32 bits, the place in the low ones; else the length written
abbrev pub packed : Answer → ℕ
packed (Ok length) = length
packed (Err why) = number_of why * 4294967296 + place_of why
