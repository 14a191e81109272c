-- "Report": the bytes of the report of a fund.
--   lines_of     its lines, in the order of the report
--   head_of      its header's figures
--   report      its bytes
use Rattle.std.specs.Prelude.{Bool, List, [], ◌∷◌, ◌++◌, ℕ, ◌+◌, ◌-◌, ◌^◌, length, if◌then◌else◌}
use Rattle.words.specs.Words.{◌<?◌, sum, each_of, count_from}
use Rattle.wire.specs.Bytes.{bytes16, bytes64}
use Rattle.cascade.specs.Cascade.{ranked, left, excess, excess_sum}
use Rattle.figures.specs.declared.Line.{Line}
use Rattle.figures.specs.declared.Head.{Head}
use Rattle.figures.specs.Fund.{Fund, over_groups}

-- "Header, 72 bytes"
abbrev pub head_size : ℕ
head_size = 72

-- "Lines of 40"
abbrev pub line_size : ℕ
line_size = 40

-- "tiers by rank"
abbrev pub ranking : Fund → List ℕ
ranking F = ranked F.order F.tiers

-- "its excess is what of its exposure passes left", of group g and tier t
abbrev pub excess_of : Fund → ℕ → ℕ → ℕ
excess_of F g t = excess F.limit (F.exposure g) (ranking F) t

-- the numbers below n that pass a test, as a set of bits: "bit n is tier n"
abbrev pub bits_of : (ℕ → Bool) → ℕ → ℕ
bits_of test n = sum (λ t. if test t then 2 ^ t else 0) n

-- "u16 set of the group's tiers": its tiers are those whose exposure is above 0
unfoldable pub tier_set : Fund → ℕ → ℕ
tier_set F g = bits_of (λ t. 0 <? F.exposure g t) F.tiers

-- "top place, tier byte, (..) set of the group's tiers (..), exposure, limit, left, excess"
unfoldable pub line_of : Fund → ℕ → ℕ → Line
line_of F g t =
    record {
      top = g;
      tier = t;
      tiers = tier_set F g;
      exposure = F.exposure g t;
      limit = F.limit t;
      left = left F.limit (F.exposure g) (ranking F) t;
      excess = excess_of F g t;
    }

-- "one for each tier of each group (so exposure above 0 only)": one line, or none
unfoldable pub cell_lines : Fund → ℕ → ℕ → List Line
cell_lines F g t = if 0 <? F.exposure g t then line_of F g t ∷ [] else []

-- the lines of group g in the tiers ts
abbrev pub group_lines : Fund → ℕ → List ℕ → List Line
group_lines F g ts = each_of (cell_lines F g) ts

-- "groups by top place, tiers by rank"
abbrev pub lines_of : Fund → List Line
lines_of F = each_of (λ g. group_lines F g (ranking F)) (count_from 1 F.groups)

-- the excesses of group g summed
abbrev pub excess_sum_of : Fund → ℕ → ℕ
excess_sum_of F g = excess_sum F.tiers F.limit (F.exposure g) (ranking F)

-- "group excess (all groups' excesses summed)"
unfoldable pub group_excess : Fund → ℕ
group_excess F = over_groups F (excess_sum_of F)

-- "Charge = group excess (..) + what, if anything, the A3 sum has above the A3 limit"
unfoldable pub charge : Fund → ℕ
charge F = group_excess F + (F.a3_sum - F.a3_limit)

-- "u16 top place, tier byte, zero, u16 set of the group's tiers (..), two zeros, u64 exposure, limit, left, excess"
unfoldable pub line_bytes : Line → List ℕ
line_bytes x =
    bytes16 x.top ++ (x.tier ∷ 0 ∷ []) ++ bytes16 x.tiers ++ (0 ∷ 0 ∷ [])
    ++ bytes64 x.exposure ++ bytes64 x.limit ++ bytes64 x.left ++ bytes64 x.excess

-- the bytes of lines, one line after the other
abbrev pub joined : List Line → List ℕ
joined xs = each_of line_bytes xs

-- ""ACR", zero, u16 1, u16 lines, then u64 VAF, VAF', all net (..), unlimited (..), group excess, A3 sum, A3 limit, charge"
unfoldable pub head_bytes : Head → List ℕ
head_bytes h =
    (65 ∷ 67 ∷ 82 ∷ 0 ∷ []) ++ bytes16 1 ++ bytes16 h.lines
    ++ bytes64 h.vaf ++ bytes64 h.stressed_vaf ++ bytes64 h.all_net ++ bytes64 h.unlimited
    ++ bytes64 h.group_excess ++ bytes64 h.a3_sum ++ bytes64 h.a3_limit ++ bytes64 h.charge

-- the header's figures
unfoldable pub head_of : Fund → Head
head_of F =
    record {
      lines = length (lines_of F);
      vaf = F.vaf;
      stressed_vaf = F.stressed_vaf;
      all_net = F.all_net;
      unlimited = F.unlimited;
      group_excess = group_excess F;
      a3_sum = F.a3_sum;
      a3_limit = F.a3_limit;
      charge = charge F;
    }

-- the header, then the lines
unfoldable pub report : Fund → List ℕ
report F = head_bytes (head_of F) ++ joined (lines_of F)
