use Rattle.rel_table.proofs.Prelude.{◌≡◌, ℕ, List, Bool, ap, ◌∙◌, TruthTable}

pub same_table_value : (r s : TruthTable) → r.arity ≡ s.arity → r.value_count ≡ s.value_count → r.truth ≡ s.truth → r ≡ s
same_table_value r s a d t =
    ap (λ (n : ℕ). let x : TruthTable = record { arity = n; value_count = r.value_count; truth = r.truth } in x) a
    ∙ ap (λ (n : ℕ). let x : TruthTable = record { arity = s.arity; value_count = n; truth = r.truth } in x) d
    ∙ ap (λ (n : List Bool). let x : TruthTable = record { arity = s.arity; value_count = s.value_count; truth = n } in x) t
