use Rattle.net_cnf.proofs.Prelude.{◌≡◌, ◌≢◌, ℕ, List, ◌∷◌, lit<, MatchOption-at_some, MatchOption-at_none}
use Rattle.std.proofs.lemmas.Str.Pattern.{strip_prefix_char}
use Rattle.net_cnf.proofs.lines.values_behind.Goals as goal

pub returns-in-None : goal.returns-in-None
returns-in-None c = λ rest e.
    absurd (MatchOption-at_none ((more : List ℕ) → c.args.text.now ≢ 113 ∷ more) (λ x. c.args.text.now ≡ 113 ∷ x.now) c.in-None.is
    (strip_prefix_char 113 c.args.text.now c.strip_prefix.result c.strip_prefix.ensures.cases (lit< tt)) (48 ∷ rest) e)

pub returns-in-None-strip_prefix : goal.returns-in-None-strip_prefix
returns-in-None-strip_prefix c = λ rest e.
    let front : c.args.text.now ≡ 113 ∷ c.in-Some.rest.now =
    MatchOption-at_some ((more : List ℕ) → c.args.text.now ≢ 113 ∷ more) (λ x. c.args.text.now ≡ 113 ∷ x.now) c.in-Some.rest c.in-Some.is
    (strip_prefix_char 113 c.args.text.now c.strip_prefix.result c.strip_prefix.ensures.cases (lit< tt)) in
    let behind : c.in-Some.rest.now ≡ 48 ∷ rest = cc in
    absurd (MatchOption-at_none ((more : List ℕ) → c.in-Some.rest.now ≢ 48 ∷ more) (λ x. c.in-Some.rest.now ≡ 48 ∷ x.now) c.in-None-strip_prefix.is
    (strip_prefix_char 48 c.in-Some.rest.now c.strip_prefix-in-Some.result c.strip_prefix-in-Some.ensures.cases (lit< tt)) rest behind)
