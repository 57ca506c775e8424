use Rattle.multi_tree.proofs.Prelude.{◌-◌, List, length, drop, take, sym, ◌∙◌, ap, Candidate, learned_within}
use Rattle.multi_tree.proofs.Turning.{found_known, found_within, listed_found, listed_none}
use Rattle.multi_tree.proofs.listing.listed_within.Goals as goal

pub returns-in-Some-clause-is : goal.returns-in-Some-clause-is
returns-in-Some-clause-is c =
    sym (listed_found c.args.lang.now c.args.net.now.list c.args.example.now c.args.set (take c.args.listed.now.count c.args.places.now) c.args.listed.now.looked_at c.in-Some.c c.requires.listed.is
    (sym c.first_within.ensures ∙ c.in-Some.is))

pub returns-in-Some-clause-known : goal.returns-in-Some-clause-known
returns-in-Some-clause-known c =
    found_known c.args.lang.now c.args.net.now.list c.args.example.now c.args.set c.requires.network _
    (listed_found c.args.lang.now c.args.net.now.list c.args.example.now c.args.set (take c.args.listed.now.count c.args.places.now) c.args.listed.now.looked_at c.in-Some.c c.requires.listed.is
    (sym c.first_within.ensures ∙ c.in-Some.is))

pub returns-in-Some-clause-within : goal.returns-in-Some-clause-within
returns-in-Some-clause-within c =
    found_within c.args.lang.now c.args.net.now.list c.args.example.now c.args.set c.requires.network _
    (listed_found c.args.lang.now c.args.net.now.list c.args.example.now c.args.set (take c.args.listed.now.count c.args.places.now) c.args.listed.now.looked_at c.in-Some.c c.requires.listed.is
    (sym c.first_within.ensures ∙ c.in-Some.is))

pub returns-in-None-clause-is : goal.returns-in-None-clause-is
returns-in-None-clause-is c =
    c.learned_within.ensures
    ∙ ap (λ (xs : List Candidate). learned_within c.args.lang.now (take (length xs - c.args.listed.now.looked_at) (drop c.args.listed.now.looked_at xs)) c.args.example.now c.args.set) c.list.ensures
    ∙ listed_none c.args.lang.now c.args.net.now.list c.args.example.now c.args.set (take c.args.listed.now.count c.args.places.now) c.args.listed.now.looked_at c.requires.listed.is
    (sym c.first_within.ensures ∙ c.in-None.is)

pub returns-in-None-clause-known : goal.returns-in-None-clause-known
returns-in-None-clause-known c =
    found_known c.args.lang.now c.args.net.now.list c.args.example.now c.args.set c.requires.network c.learned_within.result (sym (
    c.learned_within.ensures
    ∙ ap (λ (xs : List Candidate). learned_within c.args.lang.now (take (length xs - c.args.listed.now.looked_at) (drop c.args.listed.now.looked_at xs)) c.args.example.now c.args.set) c.list.ensures
    ∙ listed_none c.args.lang.now c.args.net.now.list c.args.example.now c.args.set (take c.args.listed.now.count c.args.places.now) c.args.listed.now.looked_at c.requires.listed.is
    (sym c.first_within.ensures ∙ c.in-None.is)))

pub returns-in-None-clause-within : goal.returns-in-None-clause-within
returns-in-None-clause-within c =
    found_within c.args.lang.now c.args.net.now.list c.args.example.now c.args.set c.requires.network c.learned_within.result (sym (
    c.learned_within.ensures
    ∙ ap (λ (xs : List Candidate). learned_within c.args.lang.now (take (length xs - c.args.listed.now.looked_at) (drop c.args.listed.now.looked_at xs)) c.args.example.now c.args.set) c.list.ensures
    ∙ listed_none c.args.lang.now c.args.net.now.list c.args.example.now c.args.set (take c.args.listed.now.count c.args.places.now) c.args.listed.now.looked_at c.requires.listed.is
    (sym c.first_within.ensures ∙ c.in-None.is)))
