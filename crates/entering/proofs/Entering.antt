-- One asset's entries, where it is reinsurance and where it is not.
use mathlib.Core.Bool.{true, false}
use mathlib.Core.Path.{◌≡◌}
use mathlib.Core.List.{List}
use Prim.Native.Nat.{ℕ, ◌+◌, ◌-◌, ◌/◌, ◌%◌, ◌^◌, ◌≤◌, ◌<◌}
use native.Mathlib.Omega.{arith}
use lib.ListN.{get_or, set}
use lib.Seq.{set-get_or}
use Rattle.std.specs.Prelude.{if◌then◌else◌}
use Rattle.words.specs.Words.{◌=?◌}
use Rattle.words.specs.Choice.{if-le}
use Rattle.book.specs.declared.Asset.{Asset}
use Rattle.book.specs.Fields.{linked, reinsurance}
use Rattle.exposure.specs.Values.{stressed, net}
use Rattle.columns.specs.Column.{digit, age_of}
use Rattle.assets.specs.declared.Values.{Values}
use Rattle.assets.specs.declared.Share.{Share}
use Rattle.assets.specs.Shares.{rest_of, treaty_rest}
use Rattle.assets.specs.Entered.{column_in, drawn_in, linked_of, Shared, TreatyFits, with_treaty, with_other, Settled, Enters, Entered}

-- what an asset's net starts from
abbrev from : Asset → ℕ
from a = if reinsurance a then stressed a else a.value

module _ {a : Asset} {s : Share} (q : Shared a (from a) s) where
  pub net-is : s.net ≡ net a
  unfolding net
  net-is = q.of-net

  pub linked-is : s.linked ≡ linked_of a
  unfolding net
  linked-is = q.of-linked

  pub rest-is : s.rest ≡ rest_of a
  unfolding rest_of net
  rest-is = q.of-rest

module _ {a : Asset} {s : Share} where
  pub treaty-share : reinsurance a ≡ true → {n : ℕ} → n ≡ stressed a → Shared a n s → Shared a (from a) s
  treaty-share e h q = rw (e, ← h) q

  pub other-share : reinsurance a ≡ false → Shared a a.value s → Shared a (from a) s
  other-share e q = rw e q

module _ {a : Asset} {s : Share} {place row : ℕ} {v : Values} {draws halves rests places : List ℕ} (k : Enters a place row v draws halves rests places) where
  pub treaty-fits : reinsurance a ≡ true → {n : ℕ} → n ≡ stressed a → Shared a n s → TreatyFits v a s n
  treaty-fits e h q =
      let w = treaty-share e h q in
      record {
        all = rw (net-is w) k.all;
        linked = rw (linked-is w) k.linked;
        reinsurance = rw e at k.reinsurance;
        netted = rw e at k.netted;
        of-stressed = rw h (rw e at k.stressed);
      }

  pub other_fits : reinsurance a ≡ false → Shared a a.value s → (v.all + s.net < 2 ^ 64) × (v.linked + s.linked < 2 ^ 64)
  other_fits e q = let w = other-share e q in (rw (net-is w) k.all, rw (linked-is w) k.linked)

  -- a treaty's net has room in its counterparty's entry
  pub net-fits : reinsurance a ≡ true → {n : ℕ} → n ≡ stressed a → Shared a n s → (get_or halves a.counterparty 0 + s.net < 2 ^ 64) × (s.rest ≤ s.net)
  net-fits e h q = (rw (net-is (treaty-share e h q)) k.of-net, rw (q.of-rest, q.of-net) (if-le (linked a) (omega arith) (omega arith)))

module _ {a : Asset} {s : Share} {place row column on : ℕ} (word terms : ℕ) {v r : Values} {draws₀ halves₀ rests₀ cells₀ draws halves rests places : List ℕ}
    (t : Settled place (row + column) s.rest on draws₀ rests₀ cells₀ draws rests places) where
  pub treaty-entered : reinsurance a ≡ true → {n : ℕ} → n ≡ stressed a → Shared a n s → column ≡ digit (age_of a.entry a.months) terms → on ≡ (if terms / 2 ^ 60 % 2 =? 1 then a.counterparty else 0)
      → halves ≡ set halves₀ a.counterparty (get_or halves₀ a.counterparty 0 + s.rest) → r ≡ with_treaty v a s n
      → Entered a place row word terms v draws₀ halves₀ rests₀ cells₀ draws halves rests places r
  unfolding column_in drawn_in treaty_rest
  treaty-entered e h q ecol eo eh er =
      let w = treaty-share e h q in
      record {
        of-draw = rw (t.of-draw, eo, e);
        of-half = rw (eh, rest-is w, e);
        of-rest = rw (t.of-rest, rest-is w);
        of-cell = rw (t.of-cell, ecol, e);
        sums = rw (er, e, linked-is w, net-is w, h);
      }

  pub other-entered : reinsurance a ≡ false → Shared a a.value s → column ≡ digit (a.kind - 1) word → on ≡ 0 → halves ≡ halves₀ → r ≡ with_other v s
      → Entered a place row word terms v draws₀ halves₀ rests₀ cells₀ draws halves rests places r
  unfolding column_in drawn_in treaty_rest
  other-entered e q ecol eo eh er =
      let w = other-share e q in
      let none : (n : ℕ) → n + 0 ≡ n = λ n. omega arith in
      record {
        of-draw = rw (t.of-draw, eo, e);
        of-half = rw (eh, e, none (get_or halves₀ a.counterparty 0), set-get_or);
        of-rest = rw (t.of-rest, rest-is w);
        of-cell = rw (t.of-cell, ecol, e);
        sums = rw (er, e, linked-is w, net-is w, none v.reinsurance, none v.netted, none v.stressed);
      }
