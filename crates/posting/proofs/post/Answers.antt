-- `posting::post` meets its contract, by the three passes'.
use native.Mathlib.Omega.{arith}
use Rattle.posting.proofs.Done.{parts-room, rests-room, fold-fits, posted}
use Rattle.posting.proofs.post.Goals as goal

pub post_parts-requires : goal.post_parts-requires
post_parts-requires c =
    record {
      accepted = c.requires.accepted;
      section = c.requires.section;
      count = c.requires.mitigants;
      rowed = c.requires.rowed;
      covered-size = c.requires.tabled.covered-size;
      cells-size = omega (arith, c.requires.count, c.requires.zeros.size);
      room = parts-room c.requires.accepted c.requires.tabled c.requires.zeros;
    }

pub post_rests-requires : goal.post_rests-requires
post_rests-requires c =
    let p = c.post_parts.ensures in
    record {
      accepted = c.requires.accepted;
      count = c.requires.assets;
      placed = c.requires.placed;
      rests-size = c.requires.tabled.rests-size;
      cells-size = omega (arith, c.requires.count, c.requires.zeros.size, p.size);
      room = rests-room c.requires.accepted c.requires.tabled c.requires.zeros p;
    }

pub fold-requires : goal.fold-requires
fold-requires c = fold-fits c.requires.accepted c.requires.tabled c.requires.zeros c.post_parts.ensures c.post_rests.ensures c.requires.count

pub returns : goal.returns
returns c = posted c.requires.accepted c.requires.tabled c.requires.zeros c.post_parts.ensures c.post_rests.ensures c.requires.count c.fold.ensures
