use Rattle.language.proofs.Prelude.{ℕ, ap, ◌∙◌, slice_index_or, PairBounds}
use Rattle.language.proofs.PairMasking.{masks_here}
use Rattle.language.proofs.lang.Language.pair_bounds.Goals as goal

pub returns-clause-first : goal.returns-clause-first
returns-clause-first c pairs are =
    ap (λ (b : PairBounds). b.first) c.index.ensures ∙ ap (λ (n : ℕ). (slice_index_or c.self.inside.pairs.bounds.items n c.index.result.now).first) c.from.ensures
    ∙ (masks_here c.self.inside c.self.invariant c.args.self.now c.self.view_is pairs c.args.table c.index.result.now c.requires are).first

pub returns-clause-second : goal.returns-clause-second
returns-clause-second c pairs are =
    ap (λ (b : PairBounds). b.second) c.index.ensures ∙ ap (λ (n : ℕ). (slice_index_or c.self.inside.pairs.bounds.items n c.index.result.now).second) c.from.ensures
    ∙ (masks_here c.self.inside c.self.invariant c.args.self.now c.self.view_is pairs c.args.table c.index.result.now c.requires are).second

pub returns-clause-chain : goal.returns-clause-chain
returns-clause-chain c pairs are =
    ap (λ (b : PairBounds). b.is_chain) c.index.ensures ∙ ap (λ (n : ℕ). (slice_index_or c.self.inside.pairs.bounds.items n c.index.result.now).is_chain) c.from.ensures
    ∙ (masks_here c.self.inside c.self.invariant c.args.self.now c.self.view_is pairs c.args.table c.index.result.now c.requires are).chain
