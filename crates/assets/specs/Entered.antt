-- What one asset adds to the tables and sums.
--   column_in drawn_in   its remainder's column and whose half it draws on, out of its counterparty's two numbers
--   linked_of less_netted with-asset with_treaty with_other   the sums with one asset more
--   Shared TreatyFits Settled Enters Entered   what the functions ask and give
use Rattle.std.specs.Prelude.{List, ◌≡◌, ℕ, ◌+◌, ◌-◌, ◌/◌, ◌%◌, ◌^◌, ◌≤◌, ◌<◌, length, get_or, set, if◌then◌else◌}
use Rattle.words.specs.Words.{◌=?◌}
use Rattle.wire.specs.Bytes.{M}
use Rattle.book.specs.declared.Asset.{Asset}
use Rattle.book.specs.Fields.{linked, reinsurance}
use Rattle.exposure.specs.Values.{stressed, net, of_reinsurance}
use Rattle.columns.specs.Column.{digit, age_of}
use Rattle.assets.specs.declared.Values.{Values}
use Rattle.assets.specs.declared.Share.{Share}
use Rattle.assets.specs.Shares.{rest_of}
use Rattle.assets.specs.Halves.{with_net}

unfoldable pub column_in : Asset → ℕ → ℕ → ℕ
column_in a word terms = if reinsurance a then digit (age_of a.entry a.months) terms else digit (a.kind - 1) word

unfoldable pub drawn_in : Asset → ℕ → ℕ
drawn_in a terms = if reinsurance a then (if terms / 2 ^ 60 % 2 =? 1 then a.counterparty else 0) else 0

-- an asset's net where it is linked
abbrev pub linked_of : Asset → ℕ
linked_of a = if linked a then net a else 0

-- what a stressed value has above what is netted
abbrev pub less_netted : Asset → ℕ
less_netted a = stressed a - a.offsets

abbrev pub with-asset : Values → Asset → Values
with-asset v a =
    record {
      all = v.all + net a;
      linked = v.linked + linked_of a;
      reinsurance = v.reinsurance + of_reinsurance (λ x. x.value) a;
      netted = v.netted + of_reinsurance (λ x. x.offsets) a;
      stressed = v.stressed + of_reinsurance less_netted a;
    }

pub record Shared (a : Asset) (from : ℕ) (r : Share) : Type 0 where
  pub of-net : r.net ≡ from - a.offsets - a.deductions
  pub of-linked : r.linked ≡ (if linked a then from - a.offsets - a.deductions else 0)
  pub of-rest : r.rest ≡ (if linked a then 0 else from - a.offsets - a.deductions)

-- the sums with reinsurance more, and with any other asset
abbrev pub with_treaty : Values → Asset → Share → ℕ → Values
with_treaty v a s stressed =
    record {
      all = v.all + s.net;
      linked = v.linked + s.linked;
      reinsurance = v.reinsurance + a.value;
      netted = v.netted + a.offsets;
      stressed = v.stressed + (stressed - a.offsets);
    }

abbrev pub with_other : Values → Share → Values
with_other v s =
    record {
      all = v.all + s.net;
      linked = v.linked + s.linked;
      reinsurance = v.reinsurance;
      netted = v.netted;
      stressed = v.stressed;
    }

pub record TreatyFits (v : Values) (a : Asset) (s : Share) (stressed : ℕ) : Type 0 where
  pub all : v.all + s.net < 2 ^ 64
  pub linked : v.linked + s.linked < 2 ^ 64
  pub reinsurance : v.reinsurance + a.value < 2 ^ 64
  pub netted : v.netted + a.offsets < 2 ^ 64
  pub of-stressed : v.stressed + (stressed - a.offsets) < 2 ^ 64

-- an asset's entries: its cell, what there is of it, and whose half it draws on
pub record Settled (place cell rest on : ℕ) (draws₀ rests₀ cells₀ draws rests places : List ℕ) : Type 0 where
  pub of-draw : draws ≡ set draws₀ place on
  pub of-rest : rests ≡ set rests₀ place rest
  pub of-cell : places ≡ set cells₀ place cell

-- an asset whose fields are known, sums that it fits into, and tables with its place
pub record Enters (a : Asset) (place row : ℕ) (v : Values) (draws halves rests places : List ℕ) : Type 0 where
  pub low : 0 < a.kind
  pub kind : a.kind < 12
  pub entry : a.entry ≤ 3
  pub offsets : a.offsets ≤ M
  pub deductions : a.deductions ≤ M
  pub all : v.all + net a < 2 ^ 64
  pub linked : v.linked + linked_of a < 2 ^ 64
  pub reinsurance : v.reinsurance + of_reinsurance (λ x. x.value) a < 2 ^ 64
  pub netted : v.netted + of_reinsurance (λ x. x.offsets) a < 2 ^ 64
  pub stressed : v.stressed + of_reinsurance less_netted a < 2 ^ 64
  pub of_row : row ≤ 65000
  pub of-draws : place < length draws
  pub of-halves : a.counterparty < length halves
  pub of-net : get_or halves a.counterparty 0 + net a < 2 ^ 64
  pub of-rests : place < length rests
  pub of_places : place < length places

pub record Entered (a : Asset) (place row word terms : ℕ) (v : Values) (draws₀ halves₀ rests₀ cells₀ draws halves rests places : List ℕ) (r : Values) : Type 0 where
  pub of-draw : draws ≡ set draws₀ place (drawn_in a terms)
  pub of-half : halves ≡ with_net halves₀ a
  pub of-rest : rests ≡ set rests₀ place (rest_of a)
  pub of-cell : places ≡ set cells₀ place (row + column_in a word terms)
  pub sums : r ≡ with-asset v a
