-- `list_lines`: the entries are listed, their bits added to the sets, and the ones of these counted.
use Rattle.lines.proofs.Sets.{adds, all_listed}
use borrow.Author.Rules.{rules}
use Rattle.lines.proofs.list_lines.Goals as goal

pub add_bits-requires : goal.add_bits-requires
add_bits-requires c =
    adds c.requires (search rules) c.list_groups-end.ensures.0 c.list_groups-end.ensures.1

pub returns : goal.returns
returns c =
    all_listed c.requires (search rules) c.list_groups-end.ensures.0 c.list_groups-end.ensures.1 c.add_bits.ensures c.ones_in.ensures
