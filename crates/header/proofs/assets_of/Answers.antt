-- `assets_of`: the start by the header's count, the mask by the version.
use Rattle.book.specs.Records.{assets_of}
use Rattle.book.specs.HeaderLaws.{header-counts}
use Rattle.header.proofs.assets_of.Goals as goal

pub returns : goal.returns
unfolding assets_of
returns c = rw (c.pick.ensures, c.has_desks.ensures, c.assets_start.ensures, (header-counts _ c.header_at-h.ensures).0)
