-- What is read off a report's bytes, and how a table writes it; and amounts off the bytes of any entry.
--   vaf_in .. a3_limit_in    figures of the header
--   printed, cells        its lines
--   line, cell            one line, as a table has it
--   amounts_in             amounts one behind the other
use Rattle.std.specs.Prelude.{List, [], ◌∷◌, ℕ, zero, suc, drop}
use Rattle.words.specs.Words.{each_of, count_from}
use Rattle.wire.specs.Bytes.{u64_at}
use Rattle.figures.specs.declared.Line.{Line}
use Rattle.figures.specs.Read.{line_at, lines_in}

-- "then u64 VAF, VAF', all net (..), unlimited (..), group excess, A3 sum, A3 limit, charge"
abbrev pub vaf_in : List ℕ → ℕ
vaf_in r = u64_at r 8

abbrev pub vaf'_in : List ℕ → ℕ
vaf'_in r = u64_at r 16

abbrev pub all_net_in : List ℕ → ℕ
all_net_in r = u64_at r 24

abbrev pub unlimited_in : List ℕ → ℕ
unlimited_in r = u64_at r 32

abbrev pub a3_sum_in : List ℕ → ℕ
a3_sum_in r = u64_at r 48

abbrev pub a3_limit_in : List ℕ → ℕ
a3_limit_in r = u64_at r 56

-- what every line gives, in the report's order
abbrev each_line : (Line → List ℕ) → List ℕ → List ℕ
each_line f r = each_of (λ k. f (line_at r k)) (count_from 0 (lines_in r))

-- "top, tier and the four amounts per line"
abbrev pub line : ℕ → ℕ → ℕ → ℕ → ℕ → ℕ → List ℕ
line top tier exposure limit left excess = top ∷ tier ∷ exposure ∷ limit ∷ left ∷ excess ∷ []

abbrev pub printed : List ℕ → List ℕ
printed r = each_line (λ x. line x.top x.tier x.exposure x.limit x.left x.excess) r

-- top, tier and exposure per line
abbrev pub cell : ℕ → ℕ → ℕ → List ℕ
cell top tier exposure = top ∷ tier ∷ exposure ∷ []

abbrev pub cells : List ℕ → List ℕ
cells r = each_line (λ x. cell x.top x.tier x.exposure) r

-- the set of its group's tiers per line
abbrev pub tier_sets : List ℕ → List ℕ
tier_sets r = each_line (λ x. x.tiers ∷ []) r

-- amounts of eight bytes, so many of them
abbrev pub amounts_in : ℕ → List ℕ → List ℕ
amounts_in zero bytes = []
amounts_in (suc more) bytes = u64_at bytes 0 ∷ amounts_in more (drop 8 bytes)
