use Rattle.net_cnf.proofs.Prelude.{◌≡◌, ◌⊎◌, inl, inr, ℕ, ◌+◌, ◌<◌, ◌≤◌, Option, Some, None, length, get_or, set, subst, sym, ◌∙◌, ap, arith, option_map, cases_lt, get_or-set_same, get_or-set_other, fill_by_all, err_from_is_err_and, IsQuestion, variable_count, positive_signs, true_values, only_of, ModelFault, NotOne}
use Rattle.net_cnf.proofs.Runs.{IsValue}
use Rattle.net_cnf.proofs.Valuing.{one_missing, ones_all, one_long, question_set, true_of}
use Rattle.net_cnf.proofs.reading.assignment_of.Goals as goal
use Rattle.shared_lemmas.proofs.Read.{or_value, or_fault}

pub returns-in_err-value-clause-is : goal.returns-in_err-value-clause-is
returns-in_err-value-clause-is c =
    let l = c.args.lang.now in
    let p = err_from_is_err_and c.from_residual.result c.from_residual.ensures.1 in
    let missing = or_fault c.true_value.result (NotOne c.loop-v.v) c.in_err-value.field-0.0 c.in_err-value.ensures.value in
    let low : c.loop-v.v < variable_count l = (let test = c.loop-v-test.true in let is = c.n-v-end.ensures.is in omega (arith, test, is)) in
    rw (p.1, p.2)
    (ap (λ (o : Option ℕ). option_map NotOne o) (one_missing l (positive_signs c.args.signs.now) c.loop-v.v low c.loop-v.invariant.one (sym c.true_value.ensures.is ∙ missing.0)) ∙ ap (λ (f : ModelFault). Some f) (sym missing.1))

pub loop-v-preserved : goal.loop-v-preserved
loop-v-preserved c = record {
  question = subst (IsQuestion c.args.lang.now) (sym c.set.ensures) (question_set c.args.lang.now c.loop-v.e c.loop-v.v c.in_ok-value.value c.loop-v.invariant.question among);
  before = λ k low. ap (λ e. get_or e k None) c.set.ensures ∙ before k low (cases_lt k c.loop-v.v);
  one = λ k low. one k low (cases_lt k c.loop-v.v);
}
  where
    found : c.true_value.result ≡ Some c.in_ok-value.value
    found = or_value c.true_value.result (NotOne c.loop-v.v) c.in_ok-value.value c.in_ok-value.ensures.value

    only : only_of (true_values c.args.lang.now (positive_signs c.args.signs.now) c.loop-v.v) ≡ Some c.in_ok-value.value
    only = sym c.true_value.ensures.is ∙ found

    among : IsValue c.args.lang.now c.loop-v.v c.in_ok-value.value
    among = true_of c.args.lang.now (positive_signs c.args.signs.now) c.loop-v.v c.in_ok-value.value (let test = c.loop-v-test.true in let is = c.n-v-end.ensures.is in omega (arith, test, is)) only

    inside : c.loop-v.v < length c.loop-v.e
    inside = let test = c.loop-v-test.true in let is = c.n-v-end.ensures.is in let size = c.loop-v.invariant.question.size in omega (arith, test, is, size)

    before : (k : ℕ) → k < c.loop-v.v + 1 → (k < c.loop-v.v) ⊎ (c.loop-v.v ≤ k) → get_or (set c.loop-v.e c.loop-v.v (Some c.in_ok-value.value)) k None ≡ only_of (true_values c.args.lang.now (positive_signs c.args.signs.now) k)
    before k low (inl less) = get_or-set_other c.loop-v.e c.loop-v.v k (Some c.in_ok-value.value) None (λ same. absurd (omega (arith, less, same))) ∙ c.loop-v.invariant.before k less
    before k low (inr past) =
        let same : k ≡ c.loop-v.v = omega (arith, low, past) in
        ap (λ j. get_or (set c.loop-v.e c.loop-v.v (Some c.in_ok-value.value)) j None) same
        ∙ get_or-set_same c.loop-v.e c.loop-v.v (Some c.in_ok-value.value) None inside
        ∙ sym only
        ∙ ap (λ j. only_of (true_values c.args.lang.now (positive_signs c.args.signs.now) j)) (sym same)

    one : (k : ℕ) → k < c.loop-v.v + 1 → (k < c.loop-v.v) ⊎ (c.loop-v.v ≤ k) → length (true_values c.args.lang.now (positive_signs c.args.signs.now) k) ≡ 1
    one k low (inl less) = c.loop-v.invariant.one k less
    one k low (inr past) =
        let same : k ≡ c.loop-v.v = omega (arith, low, past) in
        ap (λ j. length (true_values c.args.lang.now (positive_signs c.args.signs.now) j)) same ∙ one_long c.args.lang.now (positive_signs c.args.signs.now) c.loop-v.v c.in_ok-value.value only

pub returns-clause-is : goal.returns-clause-is
returns-clause-is c =
    let l = c.args.lang.now in
    let all : variable_count l ≡ c.loop-v.v = (let past = c.loop-v-test.false in let end = c.loop-v.auto.v-end in let is = c.n-v-end.ensures.is in omega (arith, past, end, is)) in
    record {
      one = ones_all l (positive_signs c.args.signs.now) (λ k low. c.loop-v.invariant.one k (omega (arith, low, all)));
      is = fill_by_all (λ v. only_of (true_values l (positive_signs c.args.signs.now) v)) c.loop-v.e (variable_count l) None c.loop-v.invariant.question.size (λ k low. c.loop-v.invariant.before k (omega (arith, low, all)));
    }
