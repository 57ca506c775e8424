use Rattle.acq_loop.proofs.Prelude.{◌∙◌, refl, Converged, Collapsed, Undecided}
use Rattle.acq_loop.specs.declared.driving.Drove.TheVariants as drove
use Rattle.acq_loop.proofs.Answered.{ends_here}
use Rattle.acq_loop.proofs.driving.put_next.Goals as goal

pub returns-in-New-clause-put : goal.returns-in-New-clause-put
returns-in-New-clause-put g c none = record { question = c.in-New.question; is = c.ask.ensures.put; puts = c.in-New.ensures.next.0 }

pub returns-in-Converged-clause-ends : goal.returns-in-Converged-clause-ends
returns-in-Converged-clause-ends g c =
    let found = c.in-Converged.ensures.next in
    ends_here _ _ _ _ c.next_of.ensures.screen (drove.Converged c.answers-count.result) Converged refl (λ e. cc) found.ends
    (record { number = c.answers-count.ensures ∙ c.session.ensures.stands.knows.count; found = found }) (λ m e. cc) refl

pub returns-in-Collapsed-clause-ends : goal.returns-in-Collapsed-clause-ends
returns-in-Collapsed-clause-ends g c =
    let found = c.in-Collapsed.ensures.next in
    ends_here _ _ _ _ c.next_of.ensures.screen (drove.Collapsed c.answers-count.result) Collapsed refl (λ e. cc) found.ends
    (record { number = c.answers-count.ensures ∙ c.session.ensures.stands.knows.count; found = found }) (λ m e. cc) refl

pub returns-in-Undecided-clause-ends : goal.returns-in-Undecided-clause-ends
returns-in-Undecided-clause-ends g c =
    let found = c.in-Undecided.ensures.next in
    ends_here _ _ _ _ c.next_of.ensures.screen (drove.Undecided c.answers-count.result) Undecided refl (λ e. cc) found.ends
    (record { number = c.answers-count.ensures ∙ c.session.ensures.stands.knows.count; found = found }) (λ m is. c.in-Undecided.ensures.«open» refl) refl
