-- `asking::all_good` meets its contract: `all` over the numbers below n is the test at each of them.
use Rattle.std.proofs.Common.{◌≡◌, ℕ, suc, zero, Bool, true, false, ◌&&◌, map, ◌∷◌, [], refl, sym, ap, ◌∙◌, add-one, arith, rules}
use Rattle.std.specs.List.{list_all, range_with_len}
use Rattle.std.proofs.lemmas.Iterator.{YieldsList-from_range}
use Rattle.std.proofs.lemmas.Iterator.Search.{all_from_yields_List}
use Rattle.std.proofs.lemmas.List.Folds.{list_all-append, list_all-map}
use Rattle.std.proofs.lemmas.List.FromFn.{map-range_with_len_more}
use Rattle.words.specs.Below.{all_below}
use Rattle.asking.specs.Questions.{place_at, kind_at, good_question}
use Rattle.asking.proofs.all_good.Goals as goal

turned : (a b : Bool) → (a && (b && true)) ≡ (b && a)
turned true true = refl
turned true false = refl
turned false true = refl
turned false false = refl

all-range : (n : ℕ) (t : ℕ → Bool) → list_all (λ b. b) (map t (range_with_len 0 n)) ≡ all_below n t
unfolding all_below
all-range zero t = refl
all-range (suc n) t =
    ap (λ k. list_all (λ b. b) (map t (range_with_len 0 k))) (sym (add-one n)) ∙ ap (list_all (λ b. b)) (map-range_with_len_more t 0 n n (omega arith)) ∙ list_all-append (λ b. b) (map t (range_with_len 0 n)) (t n ∷ [])
    ∙ ap (λ b. b && (t n && true)) (all-range n t) ∙ turned (all_below n t) (t n)

pub returns : goal.returns
returns c =
    let a = c.args in
    let test : ℕ → Bool = λ k. good_question a.c (place_at a.questions.now k) (kind_at a.questions.now k) in
    all_from_yields_List test _ _ c.all.result c.all.ensures.ran (YieldsList-from_range 0 a.n a.n (cc) (omega arith)) (λ x b q k. search rules)
    ∙ sym (list_all-map (λ b. b) test (range_with_len 0 a.n)) ∙ all-range a.n test
