-- `vaf`: `VAF` by the sums required.
use Rattle.exposure.specs.Values.{VAF}
use mathlib.Core.Path.{ap}
use Rattle.book.specs.declared.Header.{Header}
use Rattle.book.specs.Records.{header_at}
use Rattle.book.specs.Book.{book_of}
use Rattle.values.proofs.vaf.Goals as goal

pub returns : goal.returns
unfolding VAF book_of header_at
returns c = cc (ap (λ (h : Header). h.total) c.header_at-h.ensures)
