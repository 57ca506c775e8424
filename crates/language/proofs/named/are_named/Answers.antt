use Rattle.language.proofs.Prelude.{◌≡◌, ℕ, length, List, Bor, arith, sym, ◌∙◌, length-map, texts_of}
use Rattle.language.proofs.ByNames.{named_by, pair_at, differs, agrees, pointwise-ends}
use Rattle.language.proofs.named.are_named.Goals as goal

pub returns-then-ne : goal.returns-then-ne
returns-then-ne c =
    let same : length c.args.scope.now ≡ length c.args.names.now = omega arith in
    let step = pair_at c.args.all.now c.args.scope.now c.args.names.now c.loop-i.i c.index-all-scope.result c.as_str.result.now _ same c.requires c.loop-i-test.true c.index-all-scope.is c.as_str.ensures.value in
    differs _ _ _ _ c.ne.result c.loop-i.invariant step c.ne.ensures c.if-ne.true

pub loop-i-preserved : goal.loop-i-preserved
loop-i-preserved c =
    let same : length c.args.scope.now ≡ length c.args.names.now = omega arith in
    let step = pair_at c.args.all.now c.args.scope.now c.args.names.now c.loop-i.i c.index-all-scope.result c.as_str.result.now _ same c.requires c.loop-i-test.true c.index-all-scope.is c.as_str.ensures.value in
    agrees _ _ _ _ c.ne.result c.loop-i.invariant step c.ne.ensures c.if-ne.false

pub returns : goal.returns
returns c =
    let same : length c.args.scope.now ≡ length c.args.names.now = omega arith in
    let long : length (named_by c.args.all.now c.args.scope.now) ≡ length c.args.scope.now = length-map c.args.scope.now _ in
    let wide : length (texts_of c.args.names.now) ≡ length c.args.names.now = length-map c.args.names.now (λ (name : Bor (List ℕ)). name.now) in
    sym (c.loop-i.invariant ∙ pointwise-ends (named_by c.args.all.now c.args.scope.now) (texts_of c.args.names.now) c.loop-i.i (long ∙ same ∙ sym wide) (omega (arith, long)))
