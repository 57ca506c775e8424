use Rattle.net_cnf.proofs.Prelude.{◌≡◌, Some, true, false, sym, ◌∙◌, ap, arith, option_map, number_in, signed, literal_in}
use Rattle.net_cnf.proofs.Literals.{literal_negated, literal_plain, literal_is}
use Rattle.net_cnf.proofs.literal.literal_in.Goals as goal
use Rattle.net_cnf.proofs.literal.literal_in.Goals.{In_ok-number-in-None, In_ok-number-in-Some}

pub returns-in_err-number-in-None-clause-is : goal.returns-in_err-number-in-None-clause-is
returns-in_err-number-in-None-clause-is c =
    c.from_residual.ensures
    ∙ sym (literal_plain c.args.count c.args.token.now c.in-None.ensures ∙ ap (option_map (signed true)) (sym c.number_in.ensures ∙ c.in_err-number-in-None.was))

pub returns-in_err-number-in-Some-clause-is : goal.returns-in_err-number-in-Some-clause-is
returns-in_err-number-in-Some-clause-is c =
    c.from_residual-in_err-number-in-Some.ensures
    ∙ sym (literal_negated c.args.count c.args.token.now c.in-Some.ensures.0
    ∙ ap (option_map (signed false)) (ap (number_in c.args.count) (sym c.in-Some.ensures.1) ∙ sym c.number_in-in-Some.ensures ∙ c.in_err-number-in-Some.was))

plain : (c : In_ok-number-in-None) → literal_in c.args.count c.args.token.now ≡ Some (signed true c.in_ok-number-in-None.number)
plain c = literal_plain c.args.count c.args.token.now c.in-None.ensures ∙ ap (option_map (signed true)) (sym c.number_in.ensures ∙ c.in_ok-number-in-None.was)

negated : (c : In_ok-number-in-Some) → literal_in c.args.count c.args.token.now ≡ Some (signed false c.in_ok-number-in-Some.number)
negated c =
    literal_negated c.args.count c.args.token.now c.in-Some.ensures.0
    ∙ ap (option_map (signed false)) (ap (number_in c.args.count) (sym c.in-Some.ensures.1) ∙ sym c.number_in-in-Some.ensures ∙ c.in_ok-number-in-Some.was)

pub returns-in_ok-number-in-None-clause-is : goal.returns-in_ok-number-in-None-clause-is
returns-in_ok-number-in-None-clause-is c = sym (plain (goal.at.returns-in_ok-number-in-None-clause-is c).In_ok-number-in-None)

pub returns-in_ok-number-in-None-clause-known : goal.returns-in_ok-number-in-None-clause-known
returns-in_ok-number-in-None-clause-known c =
    let few = c.requires in
    let is = literal_is c.args.count c.args.token.now (signed true c.in_ok-number-in-None.number) (omega (arith, few)) (plain (goal.at.returns-in_ok-number-in-None-clause-known c).In_ok-number-in-None) in
    (is.some, is.known)

pub returns-in_ok-number-in-Some-clause-is : goal.returns-in_ok-number-in-Some-clause-is
returns-in_ok-number-in-Some-clause-is c = sym (negated (goal.at.returns-in_ok-number-in-Some-clause-is c).In_ok-number-in-Some)

pub returns-in_ok-number-in-Some-clause-known : goal.returns-in_ok-number-in-Some-clause-known
returns-in_ok-number-in-Some-clause-known c =
    let few = c.requires in
    let is = literal_is c.args.count c.args.token.now (signed false c.in_ok-number-in-Some.number) (omega (arith, few)) (negated (goal.at.returns-in_ok-number-in-Some-clause-known c).In_ok-number-in-Some) in
    (is.some, is.known)
