use Rattle.std.proofs.Common.{rules}
use Rattle.answer_journal.proofs.Prelude.{◌≡◌, ◌∷◌, ◌++◌, [], List, ℕ, Bool, length, take, sym, subst, ap, ◌∙◌, arith, length-append, Only, behind_as, record_tail, HasRecord, IsWithOrWithout, is_raised_by, MayFollow, End, Sits, HasRoom, counted_with, room_to_raise, HasAdded, IsOldOrAdded}
use Rattle.answer_journal.proofs.Sizes.{counted_fits, room_left}
use Rattle.answer_journal.proofs.Append.{closed_here, has_added, old_or_added, sits_on}
use Rattle.answer_journal.proofs.Gate.{told_before, told_same}
use Rattle.answer_journal.proofs.journal.Journal.add.Goals as goal

pub add_record-requires-clause-closed : goal.add_record-requires-clause-closed
add_record-requires-clause-closed g c old told = rw (ap (λ p. p.at) c.self.view_is) (closed_here c.args.self.now old (c.requires.there.sits old told))

pub returns-in-Ok-clause-leaves : goal.returns-in-Ok-clause-leaves
returns-in-Ok-clause-leaves g c =
    let place = c.args.self.now in
    let next = c.args.next.now in
    let at = c.self.inside.at in
    let rest = c.as_slice.result.now in
    let at_is : at ≡ place.at = ap (λ p. p.at) c.self.view_is in
    let rest_is : rest ≡ record_tail next ++ 0 ∷ [] = c.as_slice.ensures.value ∙ c.encode-rest.ensures in
    behind_as g.D.Disk 4 4 c.args.disk.now c.add_record.new.disk c.add_record.result _ (λ old. HasRecord (take at old) rest) (λ old. IsWithOrWithout (take at old) rest)
    (λ old. HasAdded old next) (λ old. IsOldOrAdded old next) c.add_record.ensures.leaves (omega arith)
    (λ old told.
    let s = c.in-Ok.ensures.leaves.now old told in
    let same : HasRecord (take place.at old) (record_tail next ++ 0 ∷ []) s.now = subst (λ (l : List ℕ). HasRecord (take place.at old) l s.now) rest_is (subst (λ (n : ℕ). HasRecord (take n old) rest s.now) at_is s.holds) in
    record { now = s.now; tells = s.tells; durable = s.durable; holds = has_added place old (c.requires.there.sits old told) next c.requires.fits s.now same })
    (λ old f told w. old_or_added place old (c.requires.there.sits old told) next c.requires.fits f
    (subst (λ (l : List ℕ). IsWithOrWithout (take place.at old) l f) rest_is (subst (λ (n : ℕ). IsWithOrWithout (take n old) rest f) at_is w)))

pub returns-in-Err-clause-leaves : goal.returns-in-Err-clause-leaves
returns-in-Err-clause-leaves g c =
    let place = c.args.self.now in
    let next = c.args.next.now in
    let at = c.self.inside.at in
    let rest = c.as_slice.result.now in
    let at_is : at ≡ place.at = ap (λ p. p.at) c.self.view_is in
    let rest_is : rest ≡ record_tail next ++ 0 ∷ [] = c.as_slice.ensures.value ∙ c.encode-rest.ensures in
    behind_as g.D.Disk 4 4 c.args.disk.now c.add_record.new.disk c.add_record.result _ (λ old. HasRecord (take at old) rest) (λ old. IsWithOrWithout (take at old) rest)
    (λ old. HasAdded old next) (λ old. IsOldOrAdded old next) c.add_record.ensures.leaves (omega arith)
    (λ old told. tt)
    (λ old f told w. old_or_added place old (c.requires.there.sits old told) next c.requires.fits f
    (subst (λ (l : List ℕ). IsWithOrWithout (take place.at old) l f) rest_is (subst (λ (n : ℕ). IsWithOrWithout (take n old) rest f) at_is w)))

pub invariant_of-self : goal.invariant_of-self
invariant_of-self g c =
    let next = c.args.next.now in
    let n = c.self.inside.records in
    let raised = c.self.inside.raised in
    let may : MayFollow raised next = subst (λ (b : Bool). MayFollow b next) (sym (ap (λ p. p.raised) c.self.view_is)) c.requires.fits.follows in
    let room : HasRoom n next = subst (λ (m : ℕ). HasRoom m next) (sym (ap (λ p. p.records) c.self.view_is)) c.requires.fits.room in
    let long : c.len.result ≡ length (record_tail next ++ 0 ∷ []) = c.len.ensures.value ∙ ap length c.encode-rest.ensures in (
      omega (arith, c.counted_with-self-inside.ensures, counted_fits n next c.self.invariant.0 room),
      omega (arith, c.counted_with-self-inside.ensures, ap room_to_raise c.is_raised_by-self-inside.ensures, room_left raised next n may, long, length-append (record_tail next) (0 ∷ []), c.self.invariant.1),
    )

pub returns-in-Ok-clause-there : goal.returns-in-Ok-clause-there
returns-in-Ok-clause-there g c = record {
  live = ap (λ (p : End). p.live) c.self.view_is ∙ c.requires.there.live;
  sits = λ x told_new.
      let was = told_before _ _ c.add_record.ensures.leaves.goes_on.silent x told_new in
      let old = was.0 in
      let told = was.1 in
      let place = c.args.self.now in
      let next = c.args.next.now in
      let at_is : c.self.inside.at ≡ place.at = ap (λ p. p.at) c.self.view_is in
      let rest_is : c.as_slice.result.now ≡ record_tail next ++ 0 ∷ [] = c.as_slice.ensures.value ∙ c.encode-rest.ensures in
      let same : (f : List ℕ) → HasRecord (take c.self.inside.at old) c.as_slice.result.now f → HasRecord (take place.at old) (record_tail next ++ 0 ∷ []) f =
      λ f r. subst (λ (l : List ℕ). HasRecord (take place.at old) l f) rest_is (subst (λ (n : ℕ). HasRecord (take n old) c.as_slice.result.now f) at_is r) in
      let s = c.in-Ok.ensures.leaves.now old told in
      let long : c.len.result ≡ length (record_tail next ++ 0 ∷ []) = c.len.ensures.value ∙ ap length c.encode-rest.ensures in
      subst (Sits _) (told_same _ s.now x s.tells told_new) (sits_on place old (c.requires.there.sits old told) next c.requires.fits _ s.now (same s.now s.holds) (omega (arith, at_is, long))
      (c.counted_with-self-inside.ensures ∙ ap (λ (p : End). counted_with p.records next) c.self.view_is) (c.is_raised_by-self-inside.ensures ∙ ap (λ (p : End). is_raised_by p.raised next) c.self.view_is));
  durable = λ x told_new.
      let was = told_before _ _ c.add_record.ensures.leaves.goes_on.silent x told_new in
      let s = c.in-Ok.ensures.leaves.now was.0 was.1 in
      subst (λ (f : List ℕ). Only f (g.D.Disk.may_leave c.add_record.new.disk)) (told_same _ s.now x s.tells told_new) s.durable;
}
