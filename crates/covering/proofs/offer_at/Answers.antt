-- `offer_at`: by the mitigant's record and its counterparty's terms.
use Rattle.covering.proofs.Part.{fits, trust-small, offer-is}
use Rattle.covering.proofs.offer_at.Goals as goal

pub counts-counts-requires : goal.counts-counts-requires
counts-counts-requires c =
    let e = c.mitigant_at-m.ensures in
    let f = fits c.requires.0 c.requires.5 c.requires.2 c.requires.3 e in
    let trust = rw c.from-from.ensures at c.trust_in-trust.ensures in
    (rw c.from.ensures f.form, f.flags, c.requires.4, rw trust (trust-small c.requires.0 c.requires.5 c.requires.2 c.requires.3 e))

pub returns : goal.returns
returns c =
    let e = c.mitigant_at-m.ensures in
    let trust = rw c.from-from.ensures at c.trust_in-trust.ensures in
    let counted = rw (c.from.ensures, trust) at c.counts-counts.ensures in
    offer-is c.requires.0 c.requires.5 c.requires.2 c.requires.3 e counted c.pick.ensures
