use Rattle.session_core.proofs.Prelude.{refl, sym, ◌∙◌, ap, [], None, List, Candidate, candidates, kept, At, Idle}
use Rattle.session_core.proofs.Moving.{filter_all, state_nil}
use Rattle.multi_tree.specs.Stage.{example_in}
use Rattle.session_core.proofs.moves.fresh_session.Goals as goal

pub returns-clause-stands : goal.returns-clause-stands
returns-clause-stands c =
    let empty = sym c.clear.ensures.list in
    record {
      after = record { end = None; idle = state_nil c.as_mut-known.result.now.lang c.as_mut-known.result.now.plan ∙ ap (λ (network : List Candidate). At (Idle network None)) empty };
      knows = record {
        kept = c.reset.ensures.all ∙ sym (filter_all (candidates c.as_mut-known.result.now.lang)) ∙ ap (kept c.as_mut-known.result.now.lang []) empty;
        count = refl;
      };
    }

pub invariant_of-known-clause-listed : goal.invariant_of-known-clause-listed
invariant_of-known-clause-listed c = c.clear-3.ensures c.as_mut-known.result.now.lang c.clear.new.self.list (example_in c.clear-2.new.self)
