-- `draw`: each pass is ready for the next.
use Rattle.cells.specs.CellLaws.{rowed}
use Rattle.header.specs.Sections.{section_counts, section_assets, section_mitigants}
use Rattle.making.proofs.Drawing.{known, lent, pass-halves, pass-ready, pass-placed, pass-tabled, drew, summed}
use Rattle.making.proofs.draw.Goals as goal

pub fill-values-requires : goal.fill-values-requires
fill-values-requires c =
    let s = c.sections_of-sections.ensures in
    (c.requires.0, section_assets _ s, (section_counts _ s).1, c.requires.1.parties, lent c.requires.1.lent)

pub halve-requires : goal.halve-requires
halve-requires c =
    pass-halves c.requires.1.lent c.requires.0 c.fill-values.ensures

pub cover-requires : goal.cover-requires
cover-requires c =
    let s = c.sections_of-sections.ensures in
    (c.requires.0, section_mitigants _ s, (section_counts _ s).2, known c.requires.1.parties, pass-ready c.requires.1.lent c.requires.0 c.fill-values.ensures c.halve.ensures, c.requires.1.lent.of-covered)

pub post-sums-requires : goal.post-sums-requires
post-sums-requires c =
    let v = c.fill-values.ensures in
    let s = c.sections_of-sections.ensures in
    record {
      accepted = c.requires.0;
      section = section_mitigants _ s;
      assets = (section_counts _ s).1;
      mitigants = (section_counts _ s).2;
      count = c.requires.1.count;
      rowed = rowed c.requires.1.parties;
      tabled = pass-tabled c.requires.1.lent c.requires.0 v c.halve.ensures c.cover.ensures;
      placed = pass-placed c.requires.1.lent c.requires.0 v;
      zeros = c.requires.2;
    }

pub returns : goal.returns
returns c =
    let v = c.fill-values.ensures in
    let h = c.halve.ensures in
    let k = c.cover.ensures in
    let t = c.post-sums.ensures in
    record { tables = drew c.requires.1.lent c.requires.0 v h k t; sums = summed c.requires.1.lent c.requires.0 v h k t }
