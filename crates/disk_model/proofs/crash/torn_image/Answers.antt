use Rattle.std.proofs.Common.{rules}
use Rattle.disk_model.proofs.Prelude.{List, ℕ, Vec, Global, ◌≡◌, ◌<◌, ◌+◌, ◌++◌, ◌∷◌, [], ◌∙◌, ap, length, take, subst, sym, arith, All-push, All, Contains, Torn, put, HaveCutsOf, contents}
use Rattle.disk_model.proofs.Replays.{cut_later, cut_whole}
use Rattle.disk_model.proofs.crash.torn_image.Goals as goal

pub loop-cut-preserved : goal.loop-cut-preserved
loop-cut-preserved c =
    let at = c.args.at in
    let n = length c.args.bytes.now in
    let one = c.in_ok-part_copy.field-0 in
    let two = c.in_ok-part_copy-2.field-0 in
    let torn = c.loop-cut.torn.items in
    let are : c.push-in-loop-cut.new.self.items ≡ (torn ++ one ∷ []) ++ two ∷ [] = c.in_ok-push-2.ensures.items ∙ ap (λ (l : List (Vec ℕ Global)). l ++ two ∷ []) c.in_ok-push.ensures.items in
    let P : Vec ℕ Global → Type 0 = λ v. Torn at n c.args.image.now v.items in
    record {
      each = subst (All P) (sym {A = List (Vec ℕ Global)} are) (All-push P (torn ++ one ∷ []) two (All-push P torn one c.loop-cut.invariant.each c.in_ok-part_copy.ensures.torn) c.in_ok-part_copy-2.ensures.torn);
      cuts = subst (λ (l : List (Vec ℕ Global)). (k : ℕ) → k < c.loop-cut.cut + 1 → Contains (contents l) (put c.args.image.now at (take k c.args.bytes.now))) (sym {A = List (Vec ℕ Global)} are)
          (cut_later at c.loop-cut.cut c.args.image.now c.args.bytes.now torn (two ∷ []) one c.in_ok-part_copy.ensures.is c.loop-cut.invariant.cuts);
    }

pub returns-clause-cuts : goal.returns-clause-cuts
returns-clause-cuts c =
    let whole = c.in_ok-part_copy-3.field-0 in
    subst (HaveCutsOf c.args.at c.args.bytes.now c.args.image.now) (sym {A = List (Vec ℕ Global)} c.in_ok-push-3.ensures.items)
    (cut_whole c.args.at c.args.image.now c.args.bytes.now c.loop-cut.torn.items whole c.in_ok-part_copy-3.ensures.is (λ k less. c.loop-cut.invariant.cuts k (omega (arith, c.loop-cut-test.false))))

pub loop-cut-init : goal.loop-cut-init
loop-cut-init c = search rules
