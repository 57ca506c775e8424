-- How the operands of an operator are read in turn and joined.
use Rattle.rel_formula.proofs.Prelude.{ℕ, refl, Connective, Combine, Join, Term, combined, Truth, joined, term_steps, truth_steps, read_term, read_terms, applied, read_truth, read_truths, connected}
use Rattle.rel_formula.specs.declared.step.Arithmetic.{Arithmetic}
use Rattle.rel_formula.specs.declared.step.TermOperator.TheVariants as term
use Rattle.rel_formula.proofs.InTurn.{Way}

abbrev pub term_way : Arithmetic → ℕ → ℕ → Way Term
term_way op arity depth = record {
  one = read_term arity depth;
  all = read_terms arity depth;
  join = combined op;
  whole = applied (term.Arithmetic op);
  steps_of = term_steps;
  joint = Combine op;
  all_none = λ node. refl;
  all_more = λ node value values. refl;
  whole_is = λ first more. refl;
  steps_join = λ a b. refl;
}

abbrev pub truth_way : Connective → ℕ → ℕ → Way Truth
truth_way op arity depth = record {
  one = read_truth arity depth;
  all = read_truths arity depth;
  join = joined op;
  whole = connected op;
  steps_of = truth_steps;
  joint = Join op;
  all_none = λ node. refl;
  all_more = λ node value values. refl;
  whole_is = λ first more. refl;
  steps_join = λ a b. refl;
}
