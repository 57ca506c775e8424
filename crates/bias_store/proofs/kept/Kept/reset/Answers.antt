use Rattle.bias_store.proofs.Prelude.{◌≡◌, ℕ, ◌+◌, length, subst, sym, ap, ◌∙◌, arith, List, All, IsCandidate, candidates, numbers, IsAcceptingOf, KeptSet, members_from}
use Rattle.bias_store.proofs.Filled.{IsFilled, filled_more, filled_all, candidates_known}
use Rattle.bias_store.proofs.kept.Kept.reset.Goals as goal

pub loop-s-preserved : goal.loop-s-preserved
loop-s-preserved c =
    record {
      filled = subst (λ (masks : List ℕ). IsFilled c.args.lang.now masks (c.loop-s.s + 1) (c.loop-s.self-inside.count + c.from.result)) (sym c.set.ensures)
          (filled_more c.args.lang.now c.loop-s.self-inside.relations c.loop-s.s c.loop-s.self-inside.count c.first_relations.result c.from.result c.loop-s.invariant.filled (omega arith)
          (c.from.ensures ∙ c.relations_on-count.ensures.is) (let few = c.relations_on-count.ensures.few in omega arith) (c.first_relations.ensures ∙ ap numbers (sym c.from.ensures)));
      tables = c.loop-s.invariant.tables;
    }

filled : (c : goal.After-loop-s) → (members_from 0 c.loop-s.self-inside.relations ≡ candidates c.args.lang.now) × (c.loop-s.self-inside.count ≡ length (members_from 0 c.loop-s.self-inside.relations))
filled c = filled_all c.args.lang.now c.loop-s.self-inside.relations c.loop-s.s c.loop-s.self-inside.count c.loop-s.invariant.filled (omega arith)

pub invariant_of-self : goal.invariant_of-self
invariant_of-self c = (filled c).1

pub returns-clause-all : goal.returns-clause-all
returns-clause-all c = (filled c).0

pub returns-clause-made : goal.returns-clause-made
returns-clause-made c = record {
  scopes = c.loop-s.invariant.filled.long;
  known = subst (All (IsCandidate c.args.lang.now)) (sym (filled c).0) (candidates_known c.args.lang.now);
  accepting = subst (IsAcceptingOf c.args.lang.now) (sym (ap (λ (k : KeptSet). k.accepting) c.self.view_is) ∙ sym c.loop-s.invariant.tables) c.requires.accepting;
}
