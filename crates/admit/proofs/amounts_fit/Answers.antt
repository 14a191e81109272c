-- `amounts_fit`: the header's amounts; the base is compared as a signed number.
use mir.Syntax.{w64}
use mir.Facts.{to_z-of_z}
use Rattle.book.specs.Records.{header_at}
use Rattle.admit.proofs.amounts_fit.Goals as goal

pub returns : goal.returns
unfolding header_at
returns c =
    -- what is told of the fifth field: the base fits 64 bits
    let h = c.header_at-h in
    rw (to_z-of_z {w = w64} {z = h.result.base} (record { sfits = c.struct_told-2-1.given.1.1.1.1.0.1 }), h.ensures)
