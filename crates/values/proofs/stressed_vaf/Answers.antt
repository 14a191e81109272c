-- `stressed_vaf`: `VAF'` by `before_excluded`.
use Rattle.exposure.specs.Values.{VAF'}
use mathlib.Core.Path.{ap}
use Rattle.book.specs.declared.Header.{Header}
use Rattle.book.specs.Records.{header_at}
use Rattle.book.specs.Book.{book_of}
use Rattle.values.proofs.stressed_vaf.Goals as goal

pub returns : goal.returns
unfolding VAF' book_of header_at
returns c = cc (ap (λ (h : Header). h.excluded) c.header_at-h.ensures)
