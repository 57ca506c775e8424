use Rattle.session_core.proofs.Prelude.{◌≡◌, ◌∙◌, ap, At, go_on, walk_in, Knowledge}
use Rattle.session_core.proofs.Moving.{led_from}
use Rattle.session_core.proofs.Walks.{walk_ends}
use Rattle.session_core.proofs.going.walk_on.Goals as goal

pub returns-in-End : goal.returns-in-End
returns-in-End c =
    let k : Knowledge = c.as_mut-known.result.now in
    let same : k ≡ c.args.knowledge.value = c.as_mut-known.ensures.value in
    record {
      lang = ap (λ (x : Knowledge). x.lang) same;
      plan = ap (λ (x : Knowledge). x.plan) same;
      none_new = tt;
      stands = λ t told.
          let led = led_from k c.args.knowledge.value t (λ (x : Knowledge). go_on x.lang t x.network.list (walk_in x.tree)) same told in
          let last = walk_ends k.lang t k.kept.members k.network.list k.tree c.next_beside.result led.knows.kept c.next_beside.ensures.answer c.in-End.is in
          record { after = record { end = last.0; idle = led.at ∙ ap At last.1 }; knows = record { kept = led.knows.kept; count = led.knows.count } };
    }
