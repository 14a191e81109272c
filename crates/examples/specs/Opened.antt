-- Every definition on the way from bytes to an answer and a report, opened at once.
use Rattle.std.specs.Prelude.{List, ℕ}
use Rattle.words.specs.Words.{sum_of, sum, each_of, count_from, every}
use Rattle.limit.specs.Limit.{greatest, unrounded, limit_of}
use Rattle.schedule.specs.Schedule.{row_at, written_of, schedule_of, row_bytes, head_bytes as schedule_head, schedule_bytes}
use Rattle.schedule.specs.Check.{row_fits, rates_fit, fields_check, schedule_check}
use Rattle.schedule.specs.Tiers.{unrounded_in, limits_in, a3_limit_in}
use Rattle.book.specs.Build.{book_computed}
use Rattle.exposure.specs.Values.{stressed, net, over_reinsurance, VAF, before_excluded, VAF', fund_check}
use Rattle.exposure.specs.Parts.{good_collateral, good_guarantee, recognised, covers, covered_kind, half_covered, treaty_net, half_of, may_be_covered, covered_by, covered_of, drawn_by, left_after, covered_part, remainder, parts_of, exposures_of, each_drawing, exposures}
use Rattle.exposure.specs.Tier.{graded_tier, ungraded_tier, reinsurance_tier, lower_tier, tier_by, tier_of}
use Rattle.exposure.specs.Sums.{amount_of, exposure_of, a3_exposure_of, W, all_net, linked_net, unlimited}
use Rattle.cascade.specs.Cascade.{ranks, insert, ranked, next, standing, left, excess, excess_sum}
use Rattle.a3.specs.A3.{a3_part, a3_sum_of}
use Rattle.figures.specs.Report.{tier_set, line_of, cell_lines, group_excess, charge, line_bytes, head_bytes, head_of, report}
use Rattle.figures.specs.Read.{line_from}
use Rattle.fund.specs.Figures.{unrounded_of, limits_of, a3_sum, a3_limit, fund_of}
use Rattle.report.specs.Answer.{fund_in, report_of, check_of, answer_of}

-- the report, with every definition on the way opened: a proof that says `unfolding report_computed` computes it
unfoldable pub report_computed : List ℕ → List ℕ → List ℕ
unfolding sum_of sum each_of count_from every greatest unrounded limit_of row_at written_of schedule_of row_bytes schedule_head schedule_bytes row_fits rates_fit fields_check schedule_check unrounded_in limits_in a3_limit_in book_computed stressed net over_reinsurance VAF before_excluded VAF' fund_check good_collateral good_guarantee recognised covers covered_kind half_covered treaty_net half_of may_be_covered covered_by covered_of drawn_by left_after covered_part remainder parts_of exposures_of each_drawing exposures graded_tier ungraded_tier reinsurance_tier lower_tier tier_by tier_of amount_of exposure_of a3_exposure_of W all_net linked_net unlimited ranks insert ranked next standing left excess excess_sum a3_part a3_sum_of tier_set line_of cell_lines group_excess charge line_bytes head_bytes head_of report line_from unrounded_of limits_of a3_sum a3_limit fund_of fund_in report_of check_of answer_of
report_computed s b = report_of s b
