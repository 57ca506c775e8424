use Rattle.bias_store.proofs.Prelude.{sym, subst, arith, ap, ◌∙◌, ones_of, IsAcceptingOf}
use Rattle.bias_store.proofs.Likeness.{table_read, mask_read}
use Rattle.bias_store.proofs.tables.Tables.accepting.Goals as goal

pub returns : goal.returns
returns c =
    let l = c.args.lang.now in
    let s = c.args.s in
    let begin = c.index-first.result.now in
    let masks = c.self.inside.masks.items in
    let made = subst (IsAcceptingOf l) (sym c.self.view_is) c.requires.made in
    let all = made.scopes in
    let scope = c.requires.scope in
    let table = table_read l c.self.inside.first.items masks s c.from.result begin (omega arith) (made.tables s scope) c.from.ensures c.index-first.ensures c.if-first.false in
    ap ones_of (mask_read l s masks begin c.args.place c.index.result.now table c.requires.place c.index.ensures)
    ∙ table.within c.args.place c.requires.place (c.is_inside.ensures c.if-not-is_inside.false)
