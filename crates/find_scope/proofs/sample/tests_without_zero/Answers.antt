use Rattle.find_scope.proofs.Prelude.{◌≡◌, ℕ, Bool, true, false, not, List, [], ◌∷◌, ◌++◌, refl, sym, ap, ◌∙◌, lit<, both_ways, has, set_where, Wants, halve, halve_within}
use Rattle.find_scope.proofs.Got.{within_sub}
use Rattle.find_scope.proofs.sample.tests_without_zero.Goals as goal

smaller : (b c : Bool) → (b ≡ true → c ≡ true) → not c ≡ true → not b ≡ true
smaller true true f h = h
smaller true false f h = absurd (both_ways _ refl (f refl))
smaller false c f h = refl

pub returns-clause-test : goal.returns-clause-test
returns-clause-test c = record {
  nothing = refl;
  parts = λ part whole r s within h. smaller (has part 0) (has whole 0) (λ at. within_sub part whole within 0 (lit< tt) at) h;
  rejects = refl;
}

only : (before after : List Bool) (asked : List ℕ) (reply : Bool) → false ∷ [] ≡ before ++ reply ∷ after → halve (0 ∷ 1 ∷ []) before ≡ Wants asked → not (has asked 0) ≡ reply
unfolding halve_within set_where
only [] after asked reply read asks =
    let here : Wants (0 ∷ []) ≡ Wants asked = asks in
    let set : 0 ∷ [] ≡ asked = cc in
    let said : false ≡ reply = cc in
    ap (λ (w : List ℕ). not (has w 0)) (sym set) ∙ said
only (b ∷ []) after asked reply read asks = absurd (let none : ⊥ = cc in none)
only (b ∷ d ∷ before) after asked reply read asks = absurd (let none : ⊥ = cc in none)

pub returns-clause-true_to : goal.returns-clause-true_to
returns-clause-true_to c = λ asked reply q. only q.before q.after asked reply q.read q.asks

pub returns-clause-got : goal.returns-clause-got
unfolding halve_within set_where
returns-clause-got c = refl
