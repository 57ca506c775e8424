use Rattle.std.proofs.lemmas.List.{length_push}
use Rattle.std.proofs.lemmas.List.Elements.{All-push}
use Rattle.bias_store.proofs.Prelude.{◌≡◌, ◌+◌, ◌<◌, ℕ, List, All, length, get_or, sym, ◌∙◌, ap, subst, IsPairTableOn, none_given}
use Rattle.language.specs.Pairs.{IsPairTable}
use Rattle.bias_store.proofs.Tabled.{each_more}
use Rattle.bias_store.proofs.tables.tables_on.Goals as goal

pub returns-in_err-push-clause-has : goal.returns-in_err-push-clause-has
returns-in_err-push-clause-has c = none_given _ _ c.from_residual.result c.from_residual.ensures.1

pub returns-in_err-push-clause-known : goal.returns-in_err-push-clause-known
returns-in_err-push-clause-known c = none_given _ _ c.from_residual.result c.from_residual.ensures.1

pub returns-in_err-push-clause-few : goal.returns-in_err-push-clause-few
returns-in_err-push-clause-few c = none_given _ _ c.from_residual.result c.from_residual.ensures.1

pub loop-r-preserved : goal.loop-r-preserved
loop-r-preserved c =
    let l = c.args.lang.now in
    let before = c.loop-r.tables.items in
    let so_far = c.loop-r.invariant in
    let is = c.in_ok-push.ensures.items in
    record {
      long = ap length is ∙ length_push before c.pair_table.result ∙ ap (λ n. n + 1) so_far.long;
      on = subst (λ (xs : List ℕ). (k : ℕ) → k < c.loop-r.r + 1 → IsPairTableOn l c.args.s k (get_or xs k 0)) (sym is) (each_more (IsPairTableOn l c.args.s) before c.pair_table.result c.loop-r.r so_far.long so_far.on c.pair_table.ensures.on);
      known = subst (λ (xs : List ℕ). All (IsPairTable l) xs) (sym is) (All-push (IsPairTable l) before c.pair_table.result so_far.known c.pair_table.ensures.table);
    }
