use Rattle.session_core.proofs.Prelude.{◌≡◌, sym, ◌∙◌, ap, [], None, List, Candidate, Language, candidates, kept, At, Idle, Stage, Ready, Asked, Done, IsWalkOn, walk_in, Knowledge}
use Rattle.session_core.proofs.Moving.{filter_all, state_nil}
use Rattle.multi_tree.specs.Stage.{example_in}
use Rattle.session_core.proofs.moves.begin.Goals as goal

pub returns-clause-stands : goal.returns-clause-stands
returns-clause-stands c =
    let k : Knowledge = c.in-Ok.knowledge.value in
    let made = c.in-Ok.ensures.ok in
    let empty = sym (ap (λ (x : Knowledge). x.network.list) made ∙ c.in_ok-kept.ensures.empty) in
    let all = ap (λ (x : Knowledge). x.kept.members) made ∙ c.in_ok-kept.ensures.all ∙ ap (λ (x : Knowledge). candidates x.lang) (sym made) in
    record {
      after = record { end = None; idle = state_nil k.lang k.plan ∙ ap (λ (network : List Candidate). At (Idle network None)) empty };
      knows = record {
        kept = all ∙ sym (filter_all (candidates k.lang)) ∙ ap (kept k.lang []) empty;
        count = ap (λ (x : Knowledge). x.answers) made;
      };
    }

at_rest : (l : Language) (stage : Stage) → walk_in stage ≡ None → IsWalkOn l stage
at_rest l (Ready walk) none = absurd (let bad : ⊥ = cc in bad)
at_rest l (Asked set walk) none = absurd (let bad : ⊥ = cc in bad)
at_rest l (Done end) none = tt

pub invariant_of-knowledge-clause-listed : goal.invariant_of-knowledge-clause-listed
invariant_of-knowledge-clause-listed c = c.in_ok-kept.ensures.listed c.args.lang c.in_ok-kept.network.list (example_in c.in_ok-kept.tree)

pub invariant_of-knowledge-clause-walks : goal.invariant_of-knowledge-clause-walks
invariant_of-knowledge-clause-walks c = at_rest c.args.lang c.in_ok-kept.tree c.in_ok-kept.ensures.resting
