use Rattle.bias_store.proofs.Prelude.{◌≡◌, ◌^◌, ◌≤◌, ℕ, List, [], length, sym, subst, arith, none_given}
use Rattle.bias_store.specs.Made.{AcceptBy, AreClasses, HasMasksAt}
use Rattle.bias_store.specs.declared.tables.Class.{Class}
use Rattle.bias_store.proofs.Likeness.{class_table}
use Rattle.bias_store.proofs.Tabled.{added_wider, begun_wider, classes_more, classes_wider, added_masks}
use Rattle.bias_store.proofs.tables.Made.pair_begin.Goals as goal

pub returns-clause-room : goal.returns-clause-room
returns-clause-room c =
    let l = c.args.lang.now in
    let small : l.value_count ^ 2 ≤ 65536 = subst (λ n. l.value_count ^ n ≤ 65536) c.requires.two (c.requires.lawful.small c.args.s [] c.requires.scope) in
    omega (arith, c.in_ok-add_pair_masks.ensures.long, c.requires.room)

pub returns-clause-wider : goal.returns-clause-wider
returns-clause-wider c =
    let l = c.args.lang.now in
    added_wider (AcceptBy l c.deref-2.result.now) c.args.self.now.masks.items c.add_pair_masks.new.masks.items (l.value_count ^ 2) c.in_ok-add_pair_masks.ensures

pub returns-clause-made : goal.returns-clause-made
returns-clause-made c =
    let l = c.args.lang.now in
    let old = c.args.self.now in
    let before = old.masks.items in
    let masks = c.add_pair_masks.new.masks.items in
    let tables = c.in_ok-tables.tables.items in
    let wider = added_wider (AcceptBy l c.deref-2.result.now) before masks (l.value_count ^ 2) c.in_ok-add_pair_masks.ensures in
    let end : length before ≡ c.len-begin.result = let ok = old.masks.ok in omega (arith, ok, c.len-begin.ensures) in
    let here : HasMasksAt l tables masks c.len-begin.result =
    subst (HasMasksAt l tables masks) end (subst (λ (ts : List ℕ). HasMasksAt l ts masks (length before)) c.deref-2.ensures.value (added_masks l c.deref-2.result.now before masks c.in_ok-add_pair_masks.ensures)) in
    record {
      classes = subst (λ (cs : List Class). AreClasses l cs masks) (sym c.in_ok-push.ensures.items) (classes_more l old.classes.items masks _ (classes_wider before masks wider l old.classes.items c.requires.made.classes) here);
      begins = begun_wider before masks wider l old.begins c.requires.made.begins;
    }

pub returns-clause-table : goal.returns-clause-table
returns-clause-table c = λ some.
    let l = c.args.lang.now in
    let tables = c.in_ok-tables.tables.items in
    let masks = c.add_pair_masks.new.masks.items in
    class_table l c.requires.lawful c.args.s c.len-begin.result masks c.requires.scope c.requires.two tables c.in_ok-tables.ensures.has
    (subst (HasMasksAt l tables masks) (let ok = c.args.self.now.masks.ok in let e : length c.args.self.now.masks.items ≡ c.len-begin.result = omega (arith, ok, c.len-begin.ensures) in e) (subst (λ (ts : List ℕ). HasMasksAt l ts masks (length c.args.self.now.masks.items)) c.deref-2.ensures.value (added_masks l c.deref-2.result.now c.args.self.now.masks.items masks c.in_ok-add_pair_masks.ensures)))

pub returns-in_err-tables-clause-made : goal.returns-in_err-tables-clause-made
returns-in_err-tables-clause-made c = none_given _ _ c.from_residual.result c.from_residual.ensures.1

pub returns-in_err-tables-clause-wider : goal.returns-in_err-tables-clause-wider
returns-in_err-tables-clause-wider c = none_given _ _ c.from_residual.result c.from_residual.ensures.1

pub returns-in_err-tables-clause-room : goal.returns-in_err-tables-clause-room
returns-in_err-tables-clause-room c = none_given _ _ c.from_residual.result c.from_residual.ensures.1

pub returns-in_err-tables-clause-table : goal.returns-in_err-tables-clause-table
returns-in_err-tables-clause-table c = none_given _ _ c.from_residual.result c.from_residual.ensures.1

pub returns-in_err-add_pair_masks-clause-made : goal.returns-in_err-add_pair_masks-clause-made
returns-in_err-add_pair_masks-clause-made c = none_given _ _ c.from_residual-in_err-add_pair_masks.result c.from_residual-in_err-add_pair_masks.ensures.1

pub returns-in_err-add_pair_masks-clause-wider : goal.returns-in_err-add_pair_masks-clause-wider
returns-in_err-add_pair_masks-clause-wider c = none_given _ _ c.from_residual-in_err-add_pair_masks.result c.from_residual-in_err-add_pair_masks.ensures.1

pub returns-in_err-add_pair_masks-clause-room : goal.returns-in_err-add_pair_masks-clause-room
returns-in_err-add_pair_masks-clause-room c = none_given _ _ c.from_residual-in_err-add_pair_masks.result c.from_residual-in_err-add_pair_masks.ensures.1

pub returns-in_err-add_pair_masks-clause-table : goal.returns-in_err-add_pair_masks-clause-table
returns-in_err-add_pair_masks-clause-table c = none_given _ _ c.from_residual-in_err-add_pair_masks.result c.from_residual-in_err-add_pair_masks.ensures.1

pub returns-in_err-push-clause-made : goal.returns-in_err-push-clause-made
returns-in_err-push-clause-made c = none_given _ _ c.from_residual-in_err-push.result c.from_residual-in_err-push.ensures.1

pub returns-in_err-push-clause-wider : goal.returns-in_err-push-clause-wider
returns-in_err-push-clause-wider c = none_given _ _ c.from_residual-in_err-push.result c.from_residual-in_err-push.ensures.1

pub returns-in_err-push-clause-room : goal.returns-in_err-push-clause-room
returns-in_err-push-clause-room c = none_given _ _ c.from_residual-in_err-push.result c.from_residual-in_err-push.ensures.1

pub returns-in_err-push-clause-table : goal.returns-in_err-push-clause-table
returns-in_err-push-clause-table c = none_given _ _ c.from_residual-in_err-push.result c.from_residual-in_err-push.ensures.1
