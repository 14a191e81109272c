use mathlib.Core.List.{List, []}
use mathlib.Core.Path.{◌≡◌, refl, sym, ap, ◌∙◌}
use Prim.Native.Nat.{ℕ, ◌+◌, ◌*◌, ◌≤◌, ◌<◌}
use native.Mathlib.Numerals.{add-one}
use native.Mathlib.Omega.{arith}
use lib.ListN.{length, take, get_or}
use lib.Seq.{length-take-le, sets-eq}
use Rattle.words.specs.Words.{each_of}
use Rattle.words.specs.Sums.{length-each, each_next, all-at}
use Rattle.wire.specs.Bytes.{placed}
use Rattle.wire.proofs.Laws.{then-placed}
use Rattle.limit.specs.declared.Row.{Row}
use Rattle.limit.specs.Bounds.{RowFits}
use Rattle.schedule.specs.Schedule.{schedule_size, head_size, row_size, row_count, row_start, row_bytes}
use Rattle.schedule.specs.PublishedLaws.{published-fits}
use Rattle.published.proofs.put_rows.Invariants.{rows}
use Rattle.published.proofs.put_rows.Goals as goal

-- what stands past the last row
abbrev none : Row
none = record { rate = 0; second = 0; base_rate = 0; fixed = 0 }

rows_fit : (n : ℕ) → RowFits (get_or rows n none)
rows_fit n =
    let h = published-fits in
    all-at RowFits none (record { rate = omega arith; second = omega arith; base = omega arith; fixed = omega arith }) rows
    (h.c, (h.d, (h.e, (h.f, (h.g, (h.h, (h.i, (h.z, tt)))))))) n

row-length : (r : Row) → length (row_bytes r) ≡ row_size
unfolding row_bytes
row-length r = refl

rows-length : (n : ℕ) → n ≤ row_count → length (each_of row_bytes (take n rows)) ≡ row_size * n
rows-length n h = length-each row_size row_bytes row-length (take n rows) ∙ ap (λ (k : ℕ). row_size * k) (length-take-le n rows h)

row-placed : (d₀ d d' : List ℕ) (n : ℕ) → n < row_count → schedule_size ≤ length d₀
    → d ≡ placed d₀ head_size (each_of row_bytes (take n rows)) → d' ≡ placed d (row_start n) (row_bytes (get_or rows n none))
    → d' ≡ placed d₀ head_size (each_of row_bytes (take (n + 1) rows))
row-placed d₀ d d' n h l e e' =
    then-placed d₀ (each_of row_bytes (take n rows)) (row_bytes (get_or rows n none)) head_size (row_size * n) e e' (rows-length n (omega arith)) (omega (arith, row-length (get_or rows n none)))
    ∙ ap (λ (vs : List ℕ). placed d₀ head_size vs) (sym (ap (λ (k : ℕ). each_of row_bytes (take k rows)) (add-one n) ∙ each_next row_bytes none rows n h))

pub loop-n-init : goal.loop-n-init
unfolding each_of
loop-n-init c = (omega arith, refl, sets-eq [] c.args.d.now head_size (omega arith))

pub put_row-requires : goal.put_row-requires
put_row-requires c = record { row_fits = rows_fit c.loop-n.n; row_size_in_bounds = omega arith }

pub loop-n-preserved : goal.loop-n-preserved
loop-n-preserved c =
    (omega arith, omega arith, row-placed c.args.d.now c.loop-n.d c.put_row.new.d c.loop-n.n (omega arith) c.requires c.loop-n.invariant.2 c.put_row.ensures)
