-- What the pass over the assets starts from and leaves.
--   rest_cell   the cell of an asset's remainder
--   FundSums   the sums of a book
--   AssetRoom  tables that are long enough
--   Valued     the tables by place, and the sums
use Rattle.std.specs.Prelude.{List, ◌≡◌, ℕ, ◌+◌, ◌<◌, length, get_or}
use Rattle.words.specs.Tables.{filled}
use Rattle.book.specs.Records.{C, N, K, counterparty_at, asset_at}
use Rattle.book.specs.Book.{book_of}
use Rattle.exposure.specs.Values.{reinsurance_values, all_netted, stressed_less_netted}
use Rattle.exposure.specs.Parts.{remainder}
use Rattle.exposure.specs.Sums.{all_net, linked_net}
use Rattle.columns.specs.Column.{column_of}
use Rattle.parties.specs.Rows.{row_of}
use Rattle.assets.specs.declared.Values.{Values}
use Rattle.assets.specs.Marks.{marked}
use Rattle.assets.specs.Shares.{rest_of, draws_on}
use Rattle.assets.specs.Halves.{added}

-- by its group and column, which its amount has no part in
unfoldable pub rest_cell : List ℕ → ℕ → ℕ
rest_cell b place =
    let a = asset_at b place in
    row_of b a.counterparty + column_of (remainder a 0) (counterparty_at b a.counterparty)

pub record FundSums (b : List ℕ) (v : Values) : Type 0 where
  pub all : v.all ≡ all_net (book_of b)
  pub linked : v.linked ≡ linked_net (book_of b)
  pub reinsurance : v.reinsurance ≡ reinsurance_values (book_of b)
  pub netted : v.netted ≡ all_netted (book_of b)
  pub stressed : v.stressed ≡ stressed_less_netted (book_of b)

-- an asset behind the last mitigant is marked at K + 1; nets are added up from 0
pub record AssetRoom (b starts draws halves rests places : List ℕ) : Type 0 where
  pub of-starts : K b + 1 < length starts
  pub of-draws : N b < length draws
  pub of-halves : C b < length halves
  pub undrawn : (q : ℕ) → ◌≡◌ {A = ℕ} (get_or halves q 0) 0
  pub of-rests : N b < length rests
  pub of_places : N b < length places

pub record Valued (b starts₀ draws₀ halves₀ rests₀ cells₀ starts draws halves rests places : List ℕ) (v : Values) : Type 0 where
  pub marks : starts ≡ marked b starts₀ 1 1 (N b)
  pub on : draws ≡ filled (λ p. draws_on (counterparty_at b) (asset_at b p)) (N b) draws₀
  pub nets : halves ≡ added b halves₀ 1 (N b)
  pub there : rests ≡ filled (λ p. rest_of (asset_at b p)) (N b) rests₀
  pub each-cell : places ≡ filled (rest_cell b) (N b) cells₀
  pub sums : FundSums b v
