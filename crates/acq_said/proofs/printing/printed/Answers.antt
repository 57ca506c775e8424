use Rattle.acq_said.proofs.Prelude.{cnf_of, clauses_said}
use Rattle.net_cnf.specs.Laws.{IsEncoded}
use Rattle.acq_said.specs.declared.ask.Ask.TheVariants as ask
use Rattle.acq_said.proofs.Moved.{moved, of_keeper, says_asked}
use Rattle.acq_said.proofs.printing.printed.Goals as goal

pub returns : goal.returns
returns g c =
    let has = c.learned_by.ensures in
    let encoded = moved has (λ l n. IsEncoded l n) (c.clauses_encode.ensures _ _ has.lawful has.legal) in
    says_asked ask.Cnf (of_keeper g.P.Keep c.args.keep.now) c.clauses.result (clauses_said (cnf_of c.learned_by.result.0.now c.learned_by.result.1.now.list)) (λ i. clauses_said (cnf_of (has.lang i) (has.same i))) encoded c.clauses.ensures
