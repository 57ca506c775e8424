use Rattle.find_c.proofs.Prelude.{sym, ◌∙◌, ap, both_ways, Got, choose, scene_of}
use Rattle.find_c.proofs.Replies.{choose_ended}
use Rattle.find_c.proofs.Starting.{none_among, nothing_stands}
use Rattle.find_c.proofs.run.settle.Goals as goal

pub returns-then-is_empty-clause-stands : goal.returns-then-is_empty-clause-stands
returns-then-is_empty-clause-stands c = λ more.
    nothing_stands c.args.lang.now c.args.scope more ∙ ap (λ cs. choose (scene_of c.args.lang.now c.args.scope) cs more) (sym (c.is_empty.ensures.0 c.if-is_empty.true))

pub returns-in-Some-remaining-clause-stands : goal.returns-in-Some-remaining-clause-stands
returns-in-Some-remaining-clause-stands c = λ more.
    ap Got (sym c.in-Some-remaining.is ∙ c.remaining.ensures)
    ∙ sym (choose_ended (scene_of c.args.lang.now c.args.scope) c.args.choices (sym c.splitting_tuple.ensures ∙ c.in_default.is) more)

pub returns-in-None-clause-settled : goal.returns-in-None-clause-settled
returns-in-None-clause-settled c =
    let none = sym c.remaining.ensures ∙ c.in-None.is in
    record {
      settled = sym c.splitting_tuple.ensures ∙ c.in_default.is;
      among = none_among c.args.choices (λ e. both_ways _ c.if-is_empty.false (c.is_empty.ensures.1 e)) none;
      remains = none;
    }

pub returns-in-None-clause-stands : goal.returns-in-None-clause-stands
returns-in-None-clause-stands c = λ more.
    ap Got (sym c.in-None.is ∙ c.remaining.ensures)
    ∙ sym (choose_ended (scene_of c.args.lang.now c.args.scope) c.args.choices (sym c.splitting_tuple.ensures ∙ c.in_default.is) more)
