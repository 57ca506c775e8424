use Rattle.session_core.proofs.Prelude.{◌≡◌, ◌∙◌, List, ℕ, sym, ap, subst, StandsFor, ScopeNext, At, Halving, walk_in, Knowledge}
use Rattle.session_core.proofs.Moving.{led_as, led_from}
use Rattle.session_core.proofs.Settling.{all_replies, settled_part, settled_found}
use Rattle.session_core.proofs.going.halve_on.Goals as goal

pub returns-in-Wants-clause-stands : goal.returns-in-Wants-clause-stands
returns-in-Wants-clause-stands c = λ replies stands t led.
    let k : Knowledge = c.args.knowledge.value in
    let set : List ℕ = c.args.set in
    let settled = subst (λ (x : Knowledge). StandsFor c.settle.result set (all_replies x.lang x.kept.members c.args.example set replies)) c.as_ref-known.ensures (c.settle.ensures set replies (sym c.len-size.ensures.count) stands) in
    let at = subst (λ (next : ScopeNext). StandsFor next set (all_replies k.lang k.kept.members c.args.example set replies)) c.in-Wants.is settled in
    let k' : Knowledge = c.as_mut.result.now in
    let same : k' ≡ k = c.as_mut.ensures.value in
    let there = led.at ∙ ap At (settled_part k.lang t c.args.example set replies k.network.list k.kept.members (walk_in k.tree) c.in-Wants.run' led.knows.kept at) in
    let run = led_from k' k t (λ (x : Knowledge). Halving c.args.example set (all_replies k.lang k.kept.members c.args.example set replies) x.network.list (walk_in x.tree)) same (record { at = there; knows = led.knows }) in
    record {
      after = record { replies = all_replies k.lang k.kept.members c.args.example set replies; halving = run.at; running = at };
      knows = record { kept = run.knows.kept; count = run.knows.count };
    }

pub returns-in-Found-clause-stands : goal.returns-in-Found-clause-stands
returns-in-Found-clause-stands c = λ replies stands t led.
    let k : Knowledge = c.args.knowledge.value in
    let set : List ℕ = c.args.set in
    let settled = subst (λ (x : Knowledge). StandsFor c.settle.result set (all_replies x.lang x.kept.members c.args.example set replies)) c.as_ref-known.ensures (c.settle.ensures set replies (sym c.len-size.ensures.count) stands) in
    let at = subst (λ (next : ScopeNext). StandsFor next set (all_replies k.lang k.kept.members c.args.example set replies)) c.in-Found.is settled in
    c.take_found.ensures.stands t (led_as k t _ _ (settled_found k.lang t c.args.example set replies k.network.list k.kept.members (walk_in k.tree) c.in-Found.got led.knows.kept at) led)
