-- `sections_of`: the counts are the header's, and so are the starts.
use Rattle.book.specs.HeaderLaws.{header-counts, mitigants-from}
use Rattle.header.specs.Sections.{sections_of}
use Rattle.header.proofs.sections_of.Goals as goal

pub returns : goal.returns
unfolding sections_of
returns c =
    let e = c.header_at-h.ensures in
    let n = header-counts _ e in
    rw (c.from.ensures, c.from-2.ensures, c.from-3.ensures, c.assets_of.ensures, mitigants-from _ e c.mitigants_start.ensures, n.0, n.1, n.2)
