-- `counts_fit`: the header's counts, and the length that they give.
use Rattle.book.specs.Records.{header_at}
use Rattle.admit.proofs.counts_fit.Goals as goal

pub returns : goal.returns
unfolding header_at
returns c = rw (c.size.ensures, c.header_at-h.ensures)
