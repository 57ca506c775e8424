use Rattle.language.proofs.Prelude.{◌≡◌, ℕ, ◌≤◌, ◌-◌, true, false, leb, length, List, arith, rules, subst, sym, IsPartitionedBy, IsPartitionPoint, IsPartitionPoint-from_clause}
use Rattle.language.proofs.Counting.{count}
use Rattle.language.proofs.Fields.{IsJustAfter, numbers_at, just_after, parted}
use Rattle.language.proofs.lang.Language.candidate.Goals as goal
use Rattle.language.proofs.lang.Language.candidate.Goals.{After-partition_point-s, After-index}

here : (c : After-partition_point-s) → IsJustAfter c.self.inside c.args.self.now c.args.number c.partition_point-s.result
here c =
    let same = c.deref.ensures.value in
    let bound = c.partition_point-s.ensures.bound in
    let low : IsPartitionedBy (λ (n : ℕ). leb n c.args.number) c.deref.result.now =
    subst (IsPartitionedBy (λ (n : ℕ). leb n c.args.number)) (sym same) (parted c.self.inside c.self.invariant c.args.number) in
    let point : IsPartitionPoint (λ (n : ℕ). leb n c.args.number ≡ true) (λ (n : ℕ). leb n c.args.number ≡ false) c.deref.result.now c.partition_point-s.result =
    IsPartitionPoint-from_clause (λ (n : ℕ). leb n c.args.number) _ _ c.partition_point-s.ensures.partitioned low (λ a r q k. search rules) in
    just_after c.self.inside c.self.invariant c.args.self.now c.self.view_is c.args.number c.partition_point-s.result c.requires
    (subst (λ (xs : List ℕ). c.partition_point-s.result ≤ length xs) same bound)
    (subst (λ (xs : List ℕ). IsPartitionPoint (λ (n : ℕ). leb n c.args.number ≡ true) (λ (n : ℕ). leb n c.args.number ≡ false) xs c.partition_point-s.result) same point)

first_is : (c : After-index) → IsJustAfter c.self.inside c.args.self.now c.args.number c.partition_point-s.result → c.index.result.now ≡ count c.args.self.now (c.partition_point-s.result - 1)
first_is c at =
    (numbers_at c.self.inside c.self.invariant c.args.self.now c.self.view_is (c.partition_point-s.result - 1) at.scope).first c.index.result.now c.index.ensures

pub overflow_sub-s : goal.overflow_sub-s
overflow_sub-s c = (here (goal.at.overflow_sub-s c).After-partition_point-s).some

pub overflow_cast-result : goal.overflow_cast-result
overflow_cast-result c = let at = here (goal.at.overflow_cast-result c).After-partition_point-s in let low = at.scope in let few = at.few_scopes in omega arith

pub index-requires : goal.index-requires
index-requires c =
    let at = here (goal.at.index-requires c).After-partition_point-s in
    let known = numbers_at c.self.inside c.self.invariant c.args.self.now c.self.view_is (c.partition_point-s.result - 1) at.scope in
    omega (arith, known.within)

pub overflow_sub-result : goal.overflow_sub-result
overflow_sub-result c =
    let at = here (goal.at.overflow_sub-result c).After-partition_point-s in
    let is = first_is (goal.at.overflow_sub-result c).After-index at in
    omega (arith, is, at.first)

pub overflow_cast-result-2 : goal.overflow_cast-result-2
overflow_cast-result-2 c =
    let at = here (goal.at.overflow_cast-result-2 c).After-partition_point-s in
    let is = first_is (goal.at.overflow_cast-result-2 c).After-index at in
    omega (arith, is, at.next, at.few)

pub returns-clause-candidate : goal.returns-clause-candidate
returns-clause-candidate c =
    let at = here (goal.at.returns-clause-candidate c).After-partition_point-s in
    let is = first_is (goal.at.returns-clause-candidate c).After-index at in
    record { scope = at.scope; rel = omega (arith, is, at.first, at.next) }

pub returns-clause-number : goal.returns-clause-number
returns-clause-number c =
    let at = here (goal.at.returns-clause-number c).After-partition_point-s in
    let is = first_is (goal.at.returns-clause-number c).After-index at in
    omega (arith, is, at.first)
