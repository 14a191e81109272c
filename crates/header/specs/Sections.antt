-- "Book": the sections of a book, for the code: how many records each has, and where those that are read by place start.
--   sections_of                                       all of it together
--   section_counts section_assets section_mitigants   what was made of a book's header, field by field
use Rattle.std.specs.Prelude.{List, ◌≡◌, ℕ}
use Rattle.std.proofs.Math.Path.{ap}
use Rattle.book.specs.Records.{C, N, K, assets_of, mitigants_start}
use Rattle.header.specs.declared.Sections.{Sections}

unfoldable pub sections_of : List ℕ → Sections
sections_of b =
    record {
      counterparties = C b;
      assets = assets_of b;
      asset_count = N b;
      mitigants = mitigants_start b;
      mitigant_count = K b;
    }

module _ (b : List ℕ) {s : Sections} (e : s ≡ sections_of b) where
  pub section_counts : (s.counterparties ≡ C b) × (s.asset_count ≡ N b) × (s.mitigant_count ≡ K b)
  unfolding sections_of
  section_counts = (ap (λ (x : Sections). x.counterparties) e, ap (λ (x : Sections). x.asset_count) e, ap (λ (x : Sections). x.mitigant_count) e)

  pub section_assets : s.assets ≡ assets_of b
  unfolding sections_of
  section_assets = ap (λ (x : Sections). x.assets) e

  pub section_mitigants : s.mitigants ≡ mitigants_start b
  unfolding sections_of
  section_mitigants = ap (λ (x : Sections). x.mitigants) e
