use Rattle.session_core.proofs.Prelude.{◌≡◌, ◌∙◌, [], ◌∷◌, ◌++◌, sym, ap, subst, false, has_scope, Language, IsRun, IsTupleOf}
use Rattle.session_core.specs.Putting.{is_tuple}
use Rattle.session_core.proofs.Steps.{said}
use Rattle.session_core.proofs.Turning.{tuple_sound, any_tuple_heard}
use Rattle.session_core.proofs.session.Asking.tuple_heard.Goals as goal

pub take_run-run-requires : goal.take_run-run-requires
take_run-run-requires c = ap is_tuple (c.deref_mut.ensures.value ∙ c.known_after-knowledge.ensures.put) ∙ c.requires.kind

pub tuple_answered-requires-clause-run : goal.tuple_answered-requires-clause-run
tuple_answered-requires-clause-run c =
    let run = c.take_run-run.result in
    let is = subst (IsTupleOf run) (c.deref_mut.ensures.value ∙ c.known_after-knowledge.ensures.put) c.take_run-run.ensures in
    subst (λ (l : Language). IsRun l run) (sym c.known_after-knowledge.ensures.answered.lang) (tuple_sound c.args.self run is).sound

pub tuple_answered-requires-clause-free : goal.tuple_answered-requires-clause-free
tuple_answered-requires-clause-free c =
    let run = c.take_run-run.result in
    let is = subst (IsTupleOf run) (c.deref_mut.ensures.value ∙ c.known_after-knowledge.ensures.put) c.take_run-run.ensures in
    subst (λ (x : _). has_scope x.list run.scope ≡ false) (sym c.known_after-knowledge.ensures.answered.network) (tuple_sound c.args.self run is).free

pub returns-clause-stands : goal.returns-clause-stands
returns-clause-stands c = λ t q asked stands.
    let run = c.take_run-run.result in
    let is = subst (IsTupleOf run) (c.deref_mut.ensures.value ∙ c.known_after-knowledge.ensures.put) c.take_run-run.ensures in
    c.tuple_answered.ensures.stands (t ++ said q c.args.yes ∷ [])
    (any_tuple_heard c.args.self q run c.args.yes t c.known_after-knowledge.result.0.value is asked stands c.known_after-knowledge.ensures.lawful c.known_after-knowledge.ensures.answered)
