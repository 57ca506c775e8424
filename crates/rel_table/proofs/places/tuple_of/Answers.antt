use Rattle.rel_table.proofs.Prelude.{◌≡◌, ℕ, ◌+◌, ◌-◌, ◌<◌, List, take, drop, replicate, ap, subst, sym, ◌∙◌, arith, rules, All, common_steps, mod_below, drop-set-lt, drop-drop, drop-replicate, tuple_at}
use Rattle.rel_table.proofs.PlaceLemmas.{next_size, some_size, value_below, taken_more, tuple_at-below}
use Rattle.rel_table.proofs.places.tuple_of.Goals as goal

pub nonzero_div-tuple : goal.nonzero_div-tuple
nonzero_div-tuple c =
    let i = c.loop-i.invariant in
    let next = next_size c.args.d c.args.arity c.loop-i.i c.loop-i.rest c.loop-i.size c.loop-i-test.true i.rest i.size in
    let some = some_size c.args.d c.args.arity c.loop-i.i c.loop-i.rest c.loop-i-test.true i.rest in
    rw (c.from-size.ensures, next) some

pub nonzero_rem-rest : goal.nonzero_rem-rest
nonzero_rem-rest c =
    let i = c.loop-i.invariant in
    let next = next_size c.args.d c.args.arity c.loop-i.i c.loop-i.rest c.loop-i.size c.loop-i-test.true i.rest i.size in
    let some = some_size c.args.d c.args.arity c.loop-i.i c.loop-i.rest c.loop-i-test.true i.rest in
    rw (c.from-size.ensures, next) some

pub overflow_cast-tuple : goal.overflow_cast-tuple
overflow_cast-tuple c =
    let i = c.loop-i.invariant in
    let next = next_size c.args.d c.args.arity c.loop-i.i c.loop-i.rest c.loop-i.size c.loop-i-test.true i.rest i.size in
    let below = value_below c.args.d c.args.arity c.loop-i.i c.loop-i.rest c.loop-i-test.true i.rest in
    rw (c.from-size.ensures, next) (grind (arith, common_steps, below))

pub loop-i-preserved : goal.loop-i-preserved
loop-i-preserved c =
    let i = c.loop-i.invariant in
    let next = next_size c.args.d c.args.arity c.loop-i.i c.loop-i.rest c.loop-i.size c.loop-i-test.true i.rest i.size in
    let some = some_size c.args.d c.args.arity c.loop-i.i c.loop-i.rest c.loop-i-test.true i.rest in
    let taken = taken_more c.args.d c.args.arity c.loop-i.i c.args.place c.loop-i.rest c.loop-i.tuple c.loop-i-test.true (grind (arith, common_steps)) i.taken in
    record {
      size = rw (c.from-size.ensures, next);
      rest = rw (c.from-size.ensures, next) (mod_below c.loop-i.rest _ some);
      taken = rw (c.from-size.ensures, next) taken;
      left =
          drop-set-lt (c.loop-i.i + 1) c.loop-i.tuple c.loop-i.i _ (omega arith)
          ∙ sym (drop-drop 1 c.loop-i.i c.loop-i.tuple) ∙ ap (drop 1) i.left ∙ drop-replicate 1 (4 - c.loop-i.i) 0
          ∙ ap (λ k. replicate k 0) (let e : 4 - c.loop-i.i - 1 ≡ 4 - (c.loop-i.i + 1) = omega arith in e);
    }

pub returns-clause-fit : goal.returns-clause-fit
returns-clause-fit c =
    let all : c.loop-i.i ≡ c.args.arity = omega arith in
    let taken : tuple_at c.args.d c.args.arity c.args.place ≡ take c.args.arity c.loop-i.tuple = search rules in
    let P : List ℕ → Type 0 = λ tuple. All (λ x. x < c.args.d) tuple in
    subst P taken (tuple_at-below c.args.d c.args.arity c.args.place c.requires.within)
