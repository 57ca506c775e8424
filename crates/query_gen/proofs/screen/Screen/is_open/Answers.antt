use Rattle.query_gen.proofs.Prelude.{◌≡◌, ◌+◌, length, get_or, subst, sym, ◌∙◌, ap, arith, get_or_read, number_of, Blank, Remembered, AreMarksFor, is_mark_spent, seen, number_below}
use Rattle.query_gen.proofs.Numbers.{length-first, read_number}
use Rattle.query_gen.proofs.screen.Screen.is_open.Goals as goal

pub returns-then-scope-len : goal.returns-then-scope-len
returns-then-scope-len c = λ l made is.
    let view = c.self.view_is in
    let long : length c.self.inside.first.items ≡ length l.scopes = ap (λ (s : Remembered). length s.first) view ∙ length-first l c.args.self.now made in
    let low = is.scope in
    absurd (omega arith)

pub returns-then-number-len : goal.returns-then-number-len
returns-then-number-len c = λ l made is.
    let view = c.self.view_is in
    let there : Remembered = seen c.self.inside in
    let at : c.index.result.now + c.from.result ≡ number_of l c.args.c =
    read_number l there c.args.c (subst (AreMarksFor l) (sym view) made) is c.from-scope.result c.index.result.now c.from.result c.from-scope.ensures (omega arith) c.index.ensures c.from.ensures in
    c.is_spent.ensures
    ∙ ap is_mark_spent (get_or_read c.self.inside.marks.items (c.index.result.now + c.from.result) c.index-then-number-len.result.now (omega arith) c.index-then-number-len.ensures Blank
    ∙ ap (λ n. get_or c.self.inside.marks.items n Blank) at
    ∙ ap (λ (s : Remembered). get_or s.marks (number_of l c.args.c) Blank) view)

pub returns-else-number-len : goal.returns-else-number-len
returns-else-number-len c = λ l made is.
    let view = c.self.view_is in
    let there : Remembered = seen c.self.inside in
    let made_here : AreMarksFor l there = subst (AreMarksFor l) (sym view) made in
    let at : c.index.result.now + c.from.result ≡ number_of l c.args.c =
    read_number l there c.args.c made_here is c.from-scope.result c.index.result.now c.from.result c.from-scope.ensures (omega arith) c.index.ensures c.from.ensures in
    let low = number_below l c.args.c is in
    let size = made_here.marks in
    absurd (omega arith)
