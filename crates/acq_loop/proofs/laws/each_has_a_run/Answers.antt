use Rattle.acq_loop.proofs.Running.{run_exists}
use Rattle.acq_loop.proofs.Standings.{run_laws}
use Rattle.session_store.proofs.Fronts.{replay_is_state}
use Rattle.acq_loop.proofs.laws.each_has_a_run.Goals as goal

pub returns : goal.returns
returns c = λ turns l terms events bytes lawful places few.
    let has = run_exists run_laws turns l terms lawful events bytes (record { reached = (places.0, replay_is_state l terms.plan events places.0 places.1); few = few }) in
    (has.run, has.runs)
