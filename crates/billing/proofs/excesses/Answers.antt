-- `billing::excesses` meets its contract: the cells are what stands, and the pass over the lines leaves the desks' excesses.
use mathlib.Core.Path.{ap}
use Prim.Native.Nat.{ℕ, ◌<◌}
use native.Mathlib.Omega.{arith}
use lib.ListN.{length, get_or, length-replicate}
use Rattle.header.specs.Sections.{section_counts, section_assets, section_mitigants}
use Rattle.bills.specs.Bills.{desk_count}
use Rattle.fund.proofs.Limits.{taken}
use Rattle.billing.proofs.Standing.{standable}
use Rattle.billing.proofs.Written.{lined, serve-room, excesses-are}
use Rattle.billing.proofs.excesses.Goals as goal
use Rattle.billing.proofs.excesses.Goals.{After-stand}

pub sections_of-sections-requires : goal.sections_of-sections-requires
sections_of-sections-requires c = omega (arith, (taken c.requires.0.rateable.passed).size)

pub bounds-desks-0 : goal.bounds-desks-0
bounds-desks-0 c = omega (arith, ap length c.requires.1, length-replicate {A = ℕ} desk_count 0)

pub stand-requires : goal.stand-requires
stand-requires c = let t = c.requires.0 in standable (taken t.rateable.passed) t.rateable.count t.rated t.rateable.exposed

-- a book is bytes
byte : (d : After-stand) (k : ℕ) → get_or d.args.book.now k 0 < 256
byte d k = omega (arith, d.shared_slice_known-2-1.given k)

pub serve-requires : goal.serve-requires
serve-requires c =
    let t = c.requires.0 in
    let s = c.sections_of-sections.ensures in
    record {
      accepted = taken t.rateable.passed;
      records = section_assets _ s;
      section = section_mitigants _ s;
      count = (section_counts _ s).1;
      rowed = t.rowed;
      placed = t.placed;
      covered-size = t.covered-size;
      rests-size = t.rests-size;
      lined = lined t (byte (goal.at.serve-requires c).After-stand) c.stand.ensures c.requires.1 c.saturating_sub.ensures;
      room = serve-room t (byte (goal.at.serve-requires c).After-stand) c.stand.ensures c.requires.1 c.saturating_sub.ensures;
    }

pub returns : goal.returns
returns c =
    excesses-are c.requires.0 (byte (goal.at.returns c).After-stand) c.stand.ensures c.requires.1 c.saturating_sub.ensures c.serve.ensures
