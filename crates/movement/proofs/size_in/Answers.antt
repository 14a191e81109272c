-- `size_in`: a shorter buffer is taken whole.
use mathlib.Core.List.{List}
use mathlib.Core.Path.{◌≡◌, sym, ap, ◌∙◌}
use Prim.Native.Nat.{ℕ, min, ◌+◌, ◌*◌, ◌≤◌}
use native.Mathlib.Omega.{arith}
use lib.ListN.{length, take}
use lib.Seq.{take_all}
use Rattle.std.proofs.lemmas.List.{take_min}
use Rattle.book.specs.declared.Header.{Header}
use Rattle.book.specs.Records.{header_size, counterparty_size, asset_size, mitigant_size, book_size, header_at}
use Rattle.movement.specs.Movement.{book_in}
use Rattle.movement.specs.Promise.{SizeIn}
use Rattle.movement.proofs.size_in.Goals as goal

-- all of a buffer that is no longer than its counts say; what they say of another
whole : (l : List ℕ) → length l ≤ book_size l → SizeIn l (length l)
unfolding book_in
whole l h = record { within = omega arith; bytes = take_all (length l) l (omega arith) ∙ sym (take_all (book_size l) l h) }

first : (l : List ℕ) (n r : ℕ) → n ≡ book_size l → r ≡ min n (length l) → SizeIn l r
unfolding book_in
first l n r e h = record { within = omega (arith, h); bytes = ap (λ (k : ℕ). take k l) h ∙ take_min n l ∙ ap (λ (k : ℕ). take k l) e }

-- what the header that was read says
sized : (l : List ℕ) {h : Header} {n : ℕ} → h ≡ header_at l → n ≡ header_size + counterparty_size * h.counterparties + asset_size * h.assets + mitigant_size * h.mitigants → n ≡ book_size l
unfolding header_at
sized l e q = q ∙ rw e

pub returns-then-buffer-lt-HEADER_SIZE : goal.returns-then-buffer-lt-HEADER_SIZE
returns-then-buffer-lt-HEADER_SIZE c = whole c.args.buffer.now (omega arith)

pub returns : goal.returns
returns c = first c.args.buffer.now _ _ (sized c.args.buffer.now c.header_at.ensures c.size-size.ensures) c.min.ensures
