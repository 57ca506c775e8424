use Rattle.target_oracle.proofs.Prelude.{◌≡◌, ◌+◌, ◌<◌, ◌++◌, ◌∷◌, [], cond, arith, ap, sym, subst, ◌∙◌, append-nil, All, All-push, Candidate, IsQuestion, IsCandidate, IsNetwork, state_at}
use Rattle.network.specs.Learned.{Learned}
use Rattle.target_oracle.proofs.Draws.{next_state, drawn_by, target_more, later, nothing_on}
use Rattle.target_oracle.proofs.generator.target.Goals as goal
use Rattle.target_oracle.proofs.generator.target.Goals.{then-is_satisfied, else-is_satisfied}

pub is_satisfied-requires-clause-question : goal.is_satisfied-requires-clause-question
is_satisfied-requires-clause-question c = subst (IsQuestion c.args.lang.now) (sym c.hidden_values-values.ensures.hidden) c.requires

pub learn-requires-clause-fresh : goal.learn-requires-clause-fresh
learn-requires-clause-fresh c = nothing_on c.loop-s.net.list c.loop-s.s c.loop-s.invariant.below

pub loop-s-preserved : goal.loop-s-preserved
loop-s-preserved c =
    let at = next_state c.args.number (c.loop-s.s + 10) c.loop-s.state c.after-state.result c.loop-s.invariant.state c.after-state.ensures in
    let here : c.after-state.result ≡ state_at c.args.number (c.loop-s.s + 11) = at ∙ ap (state_at c.args.number) (let e : c.loop-s.s + 10 + 1 ≡ c.loop-s.s + 11 = omega arith in e) in
    let state : c.after-state.result ≡ state_at c.args.number (c.loop-s.s + 1 + 10) = at ∙ ap (state_at c.args.number) (let e : c.loop-s.s + 10 + 1 ≡ c.loop-s.s + 1 + 10 = omega arith in e) in
    let drawn : Candidate = drawn_by c.loop-s.s c.after-state.result in
    elim c.if-is_satisfied.branch [
      | then-is_satisfied w ↦
          let more : c.if-is_satisfied.net.list ≡ c.loop-s.net.list ++ drawn ∷ [] = ap (λ (net : Learned). net.list) w.net-is ∙ w.learn.ensures.list in
          record {
            state = state;
            list = target_more c.args.number c.args.lang.now c.loop-s.s c.after-state.result _ c.is_satisfied.result c.loop-s.net.list c.if-is_satisfied.net.list here c.hidden_values-values.ensures.hidden
                c.is_satisfied.ensures.is c.loop-s.invariant.list (more ∙ ap (λ b. c.loop-s.net.list ++ cond b (drawn ∷ []) []) (sym w.if-is_satisfied.true));
            below = subst (All (λ (x : Candidate). x.scope < c.loop-s.s + 1)) (sym more) (All-push (λ (x : Candidate). x.scope < c.loop-s.s + 1) c.loop-s.net.list drawn (later c.loop-s.net.list c.loop-s.s c.loop-s.invariant.below) (omega arith));
            network = subst (IsNetwork c.args.lang.now) (sym more) (All-push (IsCandidate c.args.lang.now) c.loop-s.net.list drawn c.loop-s.invariant.network (c.is_satisfied.ensures.candidate w.if-is_satisfied.true));
            scopes = ap (λ (net : Learned). net.scopes) w.net-is ∙ w.learn.ensures.scopes ∙ c.loop-s.invariant.scopes;
          }
      | else-is_satisfied w ↦
          let same : c.if-is_satisfied.net.list ≡ c.loop-s.net.list = ap (λ (net : Learned). net.list) w.net-is in
          record {
            state = state;
            list = target_more c.args.number c.args.lang.now c.loop-s.s c.after-state.result _ c.is_satisfied.result c.loop-s.net.list c.if-is_satisfied.net.list here c.hidden_values-values.ensures.hidden
                c.is_satisfied.ensures.is c.loop-s.invariant.list (same ∙ sym (append-nil c.loop-s.net.list) ∙ ap (λ b. c.loop-s.net.list ++ cond b (drawn ∷ []) []) (sym w.if-is_satisfied.false));
            below = subst (All (λ (x : Candidate). x.scope < c.loop-s.s + 1)) (sym same) (later c.loop-s.net.list c.loop-s.s c.loop-s.invariant.below);
            network = subst (IsNetwork c.args.lang.now) (sym same) c.loop-s.invariant.network;
            scopes = ap (λ (net : Learned). net.scopes) w.net-is ∙ c.loop-s.invariant.scopes;
          }
    ]
