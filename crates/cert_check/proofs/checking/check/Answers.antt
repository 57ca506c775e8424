use Rattle.cert_check.proofs.Prelude.{rules, ◌≡◌, Yes, No, verdict}
use Rattle.cert_check.specs.declared.verdict.Flaw.TheVariants.{Refutation}
use Rattle.cert_check.proofs.Goodness.{good_is_converged}
use Rattle.cert_check.proofs.Verdicts.{good_at}
use Rattle.cert_check.proofs.checking.check.Goals as goal

pub returns-in-None-clause-good : goal.returns-in-None-clause-good
returns-in-None-clause-good g c =
    let is : Yes ≡ verdict c.args.cert.now = search rules in
    good_at c.args.cert.now.language c.args.cert.now.network c.args.cert.now.answers c.args.cert.now.refutations Yes is

pub returns-in-None-clause-converged : goal.returns-in-None-clause-converged
returns-in-None-clause-converged g c = λ yes.
    let is : Yes ≡ verdict c.args.cert.now = search rules in
    good_is_converged c.args.cert.now.language c.args.cert.now.network c.args.cert.now.answers c.args.cert.now.refutations c.lang-lang.ensures.sound.lawful c.lang-lang.ensures.sound.network
    ((good_at c.args.cert.now.language c.args.cert.now.network c.args.cert.now.answers c.args.cert.now.refutations Yes is).0 yes)

pub returns-in-Some-clause-good : goal.returns-in-Some-clause-good
returns-in-Some-clause-good g c =
    let is : No c.in-Some.flaw ≡ verdict c.args.cert.now = search rules in
    good_at c.args.cert.now.language c.args.cert.now.network c.args.cert.now.answers c.args.cert.now.refutations (No c.in-Some.flaw) is

pub returns-in-Some-2-clause-good : goal.returns-in-Some-2-clause-good
returns-in-Some-2-clause-good g c =
    let is : No (Refutation c.in-Some-2.i) ≡ verdict c.args.cert.now = search rules in
    good_at c.args.cert.now.language c.args.cert.now.network c.args.cert.now.answers c.args.cert.now.refutations (No (Refutation c.in-Some-2.i)) is
