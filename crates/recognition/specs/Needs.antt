-- Recognition by a table: a number for each flags of a mitigant, whose bit 8 * form + 4 * (1 for reinsurance) + trust says whether it counts.
--   flags-back       the flags put together again, bit by bit
--   needs_at          the number
--   recognised-is    its bits are `recognised`
use Rattle.std.specs.Prelude.{Bool, true, not, ◌&&◌, ◌||◌, [], ◌∷◌, ◌≡◌, refl, ℕ, ◌+◌, ◌*◌, ◌<◌, get_or, if◌then◌else◌}
use Rattle.std.specs.Bool.{beq}
use Rattle.std.proofs.Common.{arith, eqb-true, ne_eqb}
use Rattle.words.specs.Words.{◌≤?◌, ◌=?◌}
use Rattle.words.specs.Below.{all_below, below, all_truths, at-truth}
use Rattle.wire.specs.Bytes.{bit}
use Rattle.book.specs.declared.Kind.TheVariants.{Bank}
use Rattle.book.specs.declared.Counterparty.{Counterparty}
use Rattle.book.specs.declared.Asset.{Asset}
use Rattle.book.specs.declared.Mitigant.{Mitigant}
use Rattle.book.specs.Fields.{◌is◌, graded, related, reinsurance}
use Rattle.exposure.specs.Parts.{good_collateral, good_guarantee, recognised}
use Rattle.columns.specs.Column.{trust_of}
use Rattle.columns.proofs.ColumnLaws.{beq-true}

abbrev bits : ℕ → ℕ
bits f = (if bit 0 f then 1 else 0) + (if bit 1 f then 2 else 0) + (if bit 2 f then 4 else 0) + (if bit 3 f then 8 else 0) + (if bit 4 f then 16 else 0)

bits-computed : all_below 32 (λ f. bits f =? f) ≡ true
unfolding all_below
bits-computed = refl

pub flags-back : (f : ℕ) → f < 32 → bits f ≡ f
flags-back f h = eqb-true _ _ (below 32 (λ f. bits f =? f) bits-computed f h)

unfoldable pub needs_at : ℕ → ℕ
needs_at flags = get_or (
    0 ∷ 0 ∷ 0 ∷ 0 ∷
    51539607552 ∷ 51539607552 ∷ 51539607552 ∷ 51539607552 ∷
    141287244169216 ∷ 141287244169216 ∷ 141287244169216 ∷ 141287244169216 ∷
    141338783776768 ∷ 141338783776768 ∷ 141338783776768 ∷ 141338783776768 ∷
    0 ∷ 4009754368 ∷ 3773886464 ∷ 4009754368 ∷
    51539607552 ∷ 55549361920 ∷ 55313494016 ∷ 55549361920 ∷
    141287244169216 ∷ 141291253923584 ∷ 141291018055680 ∷ 141291253923584 ∷
    141338783776768 ∷ 141342793531136 ∷ 141342557663232 ∷ 141342793531136 ∷ []) flags 0

-- the bit, and what `recognised` says of form and flags: the asset is reinsurance or not, the counterparty graded, related and a bank or not
right : ℕ → ℕ → Bool → Bool → Bool → Bool → Bool
right flags form re g r k =
    let trust : ℕ = if g then (if r then 1 else if k then 3 else 2) else 0 in
    let promise = not r && g && (if re then k && bit 3 flags else bit 2 flags) in
    beq
    (bit (8 * form + 4 * (if re then 1 else 0) + trust) (needs_at flags))
    (if form ≤? 3 then bit 4 flags && (bit 0 flags || (re && bit 1 flags)) && (not (form =? 3) || g)
    else if form =? 4 then promise
    else re && promise)

all_right : ℕ → ℕ → Bool
all_right flags form = form =? 0 || all_truths (λ re. all_truths (λ g. all_truths (λ r. all_truths (λ k. right flags form re g r k))))

-- all 32 flags and 5 forms
computed : all_below 32 (λ flags. all_below 6 (all_right flags)) ≡ true
unfolding all_below all_right all_truths right needs_at
computed = refl

pub recognised-is : (a : Asset) (m : Mitigant) (who : Counterparty) → 0 < m.form → m.form < 6 → m.flags < 32 → bit (8 * m.form + 4 * (if reinsurance a then 1 else 0) + trust_of who) (needs_at m.flags) ≡ recognised a m who
unfolding all_right right trust_of recognised good_collateral good_guarantee
recognised-is a m who l h g =
    let flagged = below 32 (λ flags. all_below 6 (all_right flags)) computed m.flags g in
    let all = rw (ne_eqb m.form 0 (λ z. omega arith)) at (below 6 (all_right m.flags) flagged m.form h) in
    let f = right m.flags m.form in
    let t = at-truth (λ re. all_truths (λ g. all_truths (λ r. all_truths (λ k. f re g r k)))) all (reinsurance a) in
    let u = at-truth (λ g. all_truths (λ r. all_truths (λ k. f (reinsurance a) g r k))) t (graded who) in
    let v = at-truth (λ r. all_truths (λ k. f (reinsurance a) (graded who) r k)) u (related who) in
    beq-true _ _ (at-truth (λ k. f (reinsurance a) (graded who) (related who) k) v (who is Bank))
