use Rattle.language.proofs.Prelude.{◌≡◌, length, ap, ◌∙◌, arith, get_or_read}
use Rattle.language.proofs.Counting.{count}
use Rattle.language.proofs.Fields.{numbers_here, length-numbers, length-scopes}
use Rattle.language.proofs.lang.Language.candidates.Goals as goal

pub index-requires : goal.index-requires
index-requires c = omega (arith, length-numbers c.self.inside c.self.invariant)

pub returns-clause-is : goal.returns-clause-is
returns-clause-is c =
    let low = length-numbers c.self.inside c.self.invariant in
    get_or_read c.self.inside.numbers.items c.len.result c.index.result.now (omega (arith, low)) c.index.ensures 0
    ∙ numbers_here c.self.inside c.self.invariant c.args.self.now c.self.view_is c.len.result (omega arith)
    ∙ ap (count c.args.self.now) (let all : c.len.result ≡ length c.args.self.now.scopes = omega (arith, length-scopes c.self.inside c.args.self.now c.self.view_is) in all)
