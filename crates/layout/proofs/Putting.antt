-- Pieces that are put one behind the other into a list; a line that is put, as one equation.
use mathlib.Core.Path.{◌≡◌, refl, ap, ap₂, sym, ◌∙◌}
use mathlib.Core.List.{List, [], ◌++◌, append_assoc, append-nil}
use Prim.Native.Nat.{ℕ, ◌+◌, ◌≤◌}
use native.Mathlib.Omega.{arith}
use native.Mathlib.Nat.{add-zero}
use lib.ListN.{length, take, drop, length-append, take-append-drop}
use lib.Seq.{length-take-le, take_at, drop_at, drop-drop}
use Rattle.wire.specs.Bytes.{placed}
use Rattle.wire.proofs.Laws.{then-placed}
use Rattle.figures.specs.declared.Line.{Line}
use Rattle.figures.specs.Report.{line_size, line_bytes}
use Rattle.figures.proofs.Back.{line-long}
use Rattle.layout.specs.Put.{LinePut}

-- r₀ at the start, `whole` to be put from `at` on, r now, p the place now, `more` still to be put
pub record Putting (r₀ : List ℕ) (at : ℕ) (whole r : List ℕ) (p : ℕ) (more : List ℕ) : Type 0 where
  pub done : List ℕ
  pub split : done ++ more ≡ whole
  pub place : p ≡ at + length done
  pub size : length r ≡ length r₀
  pub bytes : r ≡ placed r₀ at done

pub put-none : (r : List ℕ) (at : ℕ) → r ≡ placed r at []
put-none r at = sym (rw (add-zero, append-nil) (take-append-drop at r))

pub put-start : (r₀ : List ℕ) (at : ℕ) (whole : List ℕ) → Putting r₀ at whole r₀ at whole
put-start r₀ at whole = record { done = []; split = refl; place = omega arith; size = refl; bytes = put-none r₀ at }

module _ {r₀ : List ℕ} {at : ℕ} {whole r : List ℕ} {p : ℕ} {more : List ℕ} (w : Putting r₀ at whole r p more) (h : at + length whole ≤ length r₀) where
  pub put-piece : (new rest : List ℕ) {u : List ℕ} {q : ℕ} → more ≡ new ++ rest → q ≡ p + length new → length u ≡ length r → u ≡ placed r p new → Putting r₀ at whole u q rest
  put-piece new rest {u} {q} e eq lu eu =
      let room : at + length w.done + length new ≤ length r₀ = omega (arith, ap length w.split, length-append w.done more, ap length e, length-append new rest) in
      record {
        done = w.done ++ new;
        split = append_assoc w.done new rest ∙ rw (← e) w.split;
        place = omega (arith, w.place, length-append w.done new);
        size = lu ∙ w.size;
        bytes = then-placed r₀ w.done new at (length w.done) w.bytes (rw w.place at eu) refl room;
      }

  pub put-end : more ≡ [] → (p ≡ at + length whole) × (r ≡ placed r₀ at whole)
  put-end e =
      let d : w.done ≡ whole = sym (append-nil w.done) ∙ rw (← e) w.split in
      (rw (← d) w.place, rw (← d) w.bytes)

-- a line is put where its bytes are placed
pub line-put : (x : Line) (at : ℕ) (l : List ℕ) {after : List ℕ} → at + line_size ≤ length l → after ≡ placed l at (line_bytes x) → LinePut x at l after (at + line_size)
line-put x at l {after} h e =
    let a = take at l in
    let b = line_bytes x in
    let rest = drop (at + length b) l in
    let n : length a ≡ at = length-take-le at l (omega arith) in
    let whole : after ≡ a ++ (b ++ rest) = e ∙ append_assoc a b rest in
    record {
      there = ap (λ (k : List ℕ). take line_size (drop at k)) whole ∙ ap (take line_size) (drop_at a (b ++ rest) at n) ∙ take_at b rest line_size (line-long x);
      earlier = ap (take at) whole ∙ take_at a (b ++ rest) at n;
      later = ap (drop (at + line_size)) e ∙ drop_at (a ++ b) rest (at + line_size) (omega (arith, length-append a b, line-long x)) ∙ ap (λ (k : ℕ). drop (at + k) l) (line-long x);
      place = refl;
    }

-- and its bytes are placed where it is put
pub line-placed : {x : Line} {at : ℕ} {l after : List ℕ} {r : ℕ} → LinePut x at l after r → after ≡ placed l at (line_bytes x)
line-placed {x} {at} {l} {after} w =
    let rest = drop (at + line_size) l in
    let behind : drop at after ≡ line_bytes x ++ rest = sym (take-append-drop line_size (drop at after)) ∙ ap₂ ◌++◌ w.there (drop-drop line_size at after ∙ w.later) in
    sym (take-append-drop at after) ∙ ap₂ ◌++◌ w.earlier behind ∙ sym (append_assoc (take at l) (line_bytes x) rest)
    ∙ ap (λ (k : ℕ). take at l ++ line_bytes x ++ drop (at + k) l) (sym (line-long x))
