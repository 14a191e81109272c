-- A counterparty is like the representative of its class in all that its columns and terms depend on.
--   of_class                                 the representative
--   class-le class-kind class-graded class-flags   a class is below 80 and says kind, whether graded, and flags
use Rattle.std.specs.Prelude.{Bool, true, false, ◌≡◌, refl, ℕ, ◌+◌, ◌*◌, ◌/◌, ◌%◌, ◌≤◌, ◌<◌, if◌then◌else◌}
use Rattle.std.proofs.Common.{arith, eqb-true}
use Rattle.words.specs.Words.{◌=?◌}
use Rattle.words.specs.Below.{all_below, below}
use Rattle.wire.specs.Bytes.{bit}
use Rattle.book.specs.declared.Kind.{Kind}
use Rattle.book.specs.declared.Kind.TheVariants.{Other, Bank, HomeGovernment, ProvincialGovernment, LifeCompany}
use Rattle.book.specs.declared.Counterparty.{Counterparty}
use Rattle.book.specs.Records.{kind_of}
use Rattle.book.specs.Fields.{kind_number, graded}
use Rattle.columns.specs.Column.{class_of}

abbrev pub of_class : ℕ → Counterparty
of_class c = record { parent = 0; kind = kind_of (c / 16); grade = c / 8 % 2; flags = c % 8 }

kind-back : (k : Kind) → kind_of (kind_number k) ≡ k
kind-back Other = refl
kind-back Bank = refl
kind-back HomeGovernment = refl
kind-back ProvincialGovernment = refl
kind-back LifeCompany = refl

pub kind-le : (k : Kind) → kind_number k ≤ 4
kind-le Other = omega arith
kind-le Bank = omega arith
kind-le HomeGovernment = omega arith
kind-le ProvincialGovernment = omega arith
kind-le LifeCompany = omega arith

graded-back : (t : Bool) (c : ℕ) → c / 8 % 2 ≡ (if t then 1 else 0) → graded (of_class c) ≡ t
graded-back true c e = rw e
graded-back false c e = rw e

-- a counterparty's three flags, put together again
flags-computed : all_below 8 (λ f. (if bit 2 f then 4 else 0) + (if bit 1 f then 2 else 0) + (if bit 0 f then 1 else 0) =? f) ≡ true
unfolding all_below
flags-computed = refl

flags-back : (f : ℕ) → f < 8 → (if bit 2 f then 4 else 0) + (if bit 1 f then 2 else 0) + (if bit 0 f then 1 else 0) ≡ f
flags-back f h = eqb-true _ _ (below 8 (λ f. (if bit 2 f then 4 else 0) + (if bit 1 f then 2 else 0) + (if bit 0 f then 1 else 0) =? f) flags-computed f h)

-- the parts of a class
record Parts (k : ℕ) (t : Bool) (f c : ℕ) : Type 0 where
  kind : c / 16 ≡ k
  grade : c / 8 % 2 ≡ (if t then 1 else 0)
  flag : c % 8 ≡ f
  small : c < 16 * k + 16

parts : (k : ℕ) (t : Bool) (f : ℕ) → f < 8 → Parts k t f (16 * k + (if t then 8 else 0) + f)
parts k true f h = record { kind = omega arith; grade = omega arith; flag = omega arith; small = omega arith }
parts k false f h = record { kind = omega arith; grade = omega arith; flag = omega arith; small = omega arith }

module _ (who : Counterparty) (h : who.flags < 8) where
  say : Parts (kind_number who.kind) (graded who) who.flags (class_of who)
  unfolding class_of
  say =
      let k = 16 * kind_number who.kind + (if graded who then 8 else 0) in
      let whole : class_of who ≡ k + who.flags = omega (arith, flags-back who.flags h) in
      rw whole (parts (kind_number who.kind) (graded who) who.flags h)

  pub class-le : class_of who < 80
  class-le = omega (arith, say.small, kind-le who.kind)

  pub class-kind : kind_of (class_of who / 16) ≡ who.kind
  class-kind = rw say.kind (kind-back who.kind)

  pub class-graded : graded (of_class (class_of who)) ≡ graded who
  class-graded = graded-back (graded who) (class_of who) say.grade

  pub class-flags : class_of who % 8 ≡ who.flags
  class-flags = say.flag
