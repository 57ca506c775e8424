-- What is asked of a session.
use Rattle.std.specs.Prelude.{◌≡◌, ◌≢◌, ◌⊎◌, ◌++◌, ◌∷◌}
use Rattle.acq_said.specs.Prelude.{ℕ, [], length, filter, Some, codes, decimal, IsBudget}
use Rattle.acq_said.specs.Prelude.{certificate_made, standing_on, IsEncoded, cnf_of, IsSpentAt}
use Rattle.acq_said.specs.Prelude.{spent_text, Opened, IsDone, terms_with, Converged, Ends}
use Rattle.acq_said.specs.Prelude.{next_after}
use Rattle.acq_said.specs.Certifying.{MakesGood, certificate_said, if_at_end}
use Rattle.acq_said.specs.Printing.{clauses_said}
use Rattle.acq_said.specs.Reducing.{IsReduced, network_led_to, reduced_said}
use Rattle.acq_said.specs.Saying.{Saying, saying}
use Rattle.answer_journal.specs.EventList.{is_back}
use Rattle.acq_said.specs.Shows.{show_text}
use Rattle.acq_loop.specs.declared.ending.Ending.TheVariants as ending
use Rattle.acq_said.specs.declared.ask.Ask.{Ask}
use Rattle.acq_said.specs.declared.ask.Ask.TheVariants as ask

-- a budget is one
abbrev pub IsBudgeted : Ask → Type 0
IsBudgeted ask.Show = Unit {0}
IsBudgeted (ask.Reduce budget) = IsBudget budget
IsBudgeted ask.Cnf = Unit {0}
IsBudgeted (ask.Certify budget) = IsBudget budget

-- What is said to it. To `show` it is the plan, the answers that stand, how many were taken back,
-- the network to which the answers lead, and where they lead. To `certify` it is the certificate of
-- the vocabulary's bytes, the answers that stand and the network, where these answers have
-- converged; else how many they are.
abbrev pub asked_said : Ask → Opened → Saying
asked_said ask.Show = λ o. saying (show_text o.lang o.plan (standing_on o.lang o.events)
    (length (filter is_back o.events)) (network_led_to o)) ending.Done
asked_said (ask.Reduce budget) = reduced_said budget
asked_said ask.Cnf = λ o. clauses_said (cnf_of o.lang (network_led_to o))
asked_said (ask.Certify budget) = λ o.
    let t = standing_on o.lang o.events in
    if_at_end (next_after o.lang (terms_with o.plan budget) t)
    (certificate_said (certificate_made o.voc o.lang (network_led_to o) t budget))
    (saying (codes "refused not converged "
    ++ (decimal (length t) ++ 10 ∷ [])) (ending.NotConverged (length t)))

-- what is true of the session then
abbrev pub AsksTruly : Ask → Opened → Type 0
AsksTruly ask.Show = λ o. Unit {0}
-- the network was reduced, or the first item whose search is spent was said
AsksTruly (ask.Reduce budget) = λ o.
    IsReduced budget o ⊎ ((number : ℕ) × IsSpentAt o.lang (network_led_to o) budget number
    × (reduced_said budget o ≡ saying (spent_text number) (ending.ReduceSpent number)))
-- the models of the clauses are the network's solutions, one for one
AsksTruly ask.Cnf = λ o. IsEncoded o.lang (network_led_to o)
-- a certificate is made only where the answers converge on the network, and then it checks out
AsksTruly (ask.Certify budget) = λ o.
    let t = standing_on o.lang o.events in
    (IsDone o.lang (terms_with o.plan budget) t × MakesGood budget o)
    ⊎ (next_after o.lang (terms_with o.plan budget) t ≢ Some (Ends Converged))

-- this was said to it, and that is true
pub record SaysAsked (ask : Ask) (o : Opened) (said : Saying) : Type 0 where
  pub is : said ≡ asked_said ask o
  pub so : AsksTruly ask o
