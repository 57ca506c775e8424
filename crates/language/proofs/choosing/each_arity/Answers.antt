use Rattle.language.proofs.Prelude.{◌≡◌, ◌<◌, ◌+◌, ◌-◌, ◌++◌, ℕ, List, suc, sym, ◌∙◌, ap, map, append_assoc, arith, flat_map, range_with_len, Given, given_by, variables_in}
use Rattle.language.proofs.Used.{of_arity}
use Rattle.language.proofs.choosing.each_arity.Goals as goal

next_arity : (n : ℕ) (given : List Given) (arity : ℕ) (all so_far now : List (List ℕ)) → arity < 5 →
    all ≡ so_far ++ flat_map (of_arity n given) (range_with_len arity (5 - arity)) → now ≡ so_far ++ of_arity n given arity →
    all ≡ now ++ flat_map (of_arity n given) (range_with_len (arity + 1) (5 - (arity + 1)))
next_arity n given arity all so_far now low is added =
    let one : 5 - arity ≡ suc (5 - (arity + 1)) = omega arith in
    let rest : List (List ℕ) = flat_map (of_arity n given) (range_with_len (arity + 1) (5 - (arity + 1))) in
    is ∙ ap (λ k. so_far ++ flat_map (of_arity n given) (range_with_len arity k)) one ∙ sym (append_assoc so_far (of_arity n given arity) rest) ∙ ap (λ xs. xs ++ rest) (sym added)

pub loop-arity-preserved : goal.loop-arity-preserved
loop-arity-preserved c = record {
  is = next_arity c.args.n (map given_by c.args.rels.now) c.loop-arity.arity _ (map variables_in c.loop-arity.scopes.items) _ (omega arith) c.loop-arity.invariant.is c.in_ok-scopes.ensures.is;
  sized = c.in_ok-scopes.ensures.sized;
}
