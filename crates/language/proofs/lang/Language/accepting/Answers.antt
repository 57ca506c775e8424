use Rattle.language.proofs.Prelude.{◌≡◌, ℕ, ◌<◌, ◌≤◌, ◌⊎◌, inl, inr, false, List, [], length, get_or, sym, ◌∙◌, ap, arith, ◌==◌, bit_at, cases_lt, get_or-eq_default, Relation, relations_on}
use Rattle.language.proofs.ByNames.{IsMaskOf, no_mask, mask_more}
use Rattle.language.proofs.lang.Language.accepting.Goals as goal

pub loop-r-init : goal.loop-r-init
loop-r-init c = no_mask (λ r. get_or (get_or (relations_on c.args.self.now c.args.s) r []) c.args.place false)

pub loop-r-preserved : goal.loop-r-preserved
loop-r-preserved c =
    mask_more (λ r. get_or (get_or (relations_on c.args.self.now c.args.s) r []) c.args.place false) c.loop-r.r c.loop-r.relations c.from.result c.holds_at-held.result
    (let few = c.relations_on-r-end.ensures.few in omega arith) c.from.ensures c.holds_at-held.ensures c.loop-r.invariant

-- a mask of all relations tells of every number
all : (relations : List Relation) (place end mask : ℕ) → end ≡ length relations → IsMaskOf (λ r. get_or (get_or relations r []) place false) end mask → (r : ℕ) → (bit_at mask r == 1) ≡ get_or (get_or relations r []) place false
all relations place end mask long is r = go (cases_lt r end)
  where
    go : (r < end) ⊎ (end ≤ r) → (bit_at mask r == 1) ≡ get_or (get_or relations r []) place false
    go (inl low) = is.low r low
    go (inr high) = is.high r high ∙ ap (λ t. get_or t place false) (sym (get_or-eq_default relations [] {n = r} (omega arith)))

pub returns-clause-is : goal.returns-clause-is
returns-clause-is c = all (relations_on c.args.self.now c.args.s) c.args.place c.loop-r.r c.loop-r.relations (let is = c.relations_on-r-end.ensures.is in omega arith) c.loop-r.invariant
