use Rattle.cert_check.proofs.Prelude.{err_from_is_err_and, unread}
use Rattle.cert_check.proofs.Faults.{unread_before, result_read, result_refused}
use Rattle.cert_check.proofs.reading.read_short.Goals as goal

pub returns-in_err-voc-clause-refused : goal.returns-in_err-voc-clause-refused
returns-in_err-voc-clause-refused c =
    let p = err_from_is_err_and c.from_residual.result c.from_residual.ensures.1 in
    rw (p.1, p.2) (λ other. unread_before c.args.bytes.now c.in_err-voc.field-0.0 c.requires (c.in_err-voc.ensures.is other))

pub returns-in-Ok-clause-read : goal.returns-in-Ok-clause-read
returns-in-Ok-clause-read c = result_read c.args.bytes.now c.in_ok-voc.voc.now (unread c.in_ok-voc.behind) c.in-Ok.lang c.certificate_in.result c.requires c.in_ok-voc.ensures.is c.in-Ok.ensures.ok c.certificate_in.ensures

pub returns-in-Ok-clause-refused : goal.returns-in-Ok-clause-refused
returns-in-Ok-clause-refused c = result_refused c.args.bytes.now c.in_ok-voc.voc.now (unread c.in_ok-voc.behind) c.in-Ok.lang c.certificate_in.result c.requires c.in_ok-voc.ensures.is c.in-Ok.ensures.ok c.certificate_in.ensures
