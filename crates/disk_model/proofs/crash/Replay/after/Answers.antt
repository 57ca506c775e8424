use Rattle.disk_model.proofs.Prelude.{◌∷◌, ◌++◌, [], ◌∙◌, ◌≡◌, ℕ, List, Vec, Global, length, ap, subst, sym, All, Contains, put, HaveAllCuts, IsTornOf, IsReplay, contents, step_of}
use Rattle.disk_model.proofs.Replays.{after_write, after_sync}
use Rattle.disk_model.proofs.crash.Replay.after.Goals as goal

pub returns-in_ok-torn_images-in-Write : goal.returns-in_ok-torn_images-in-Write
returns-in_ok-torn_images-in-Write c start steps r =
    let at = c.in-Write.at in
    let bytes = c.args.bytes.now in
    let new = c.in_ok-put_copy-in-Write.field-0.items in
    let torn = c.in_ok-torn_images-in-Write.field-0.items in
    let is : new ≡ put c.args.self.now.items at bytes = c.in_ok-put_copy-in-Write.ensures ∙ ap (λ (l : List ℕ). put l at bytes) c.deref.ensures.value in
    let all : All (IsTornOf at (length bytes) c.args.self.images.items) torn = subst (λ (l : List (Vec ℕ Global)). All (IsTornOf at (length bytes) l) torn) c.deref-in-Write.ensures.value c.in_ok-torn_images-in-Write.ensures.each in
    let cuts : HaveAllCuts at bytes c.args.self.images.items torn = subst (λ (l : List (Vec ℕ Global)). HaveAllCuts at bytes l torn) c.deref-in-Write.ensures.value c.in_ok-torn_images-in-Write.ensures.cuts in
    subst (λ m. IsReplay start (steps ++ step_of m bytes ∷ []) new torn) (sym c.in-Write.is) (after_write start steps c.args.self.now.items c.args.self.images.items at bytes new torn r is all cuts)

pub returns-in_ok-images-in-Sync : goal.returns-in_ok-images-in-Sync
returns-in_ok-images-in-Sync c start steps r =
    let same = after_sync start steps c.args.self.now.items c.args.self.images.items c.in_ok-images-in-Sync.images.items r (λ k d lt. c.in_ok-images-in-Sync.ensures.only k d lt ∙ c.deref-in-Sync.ensures.value) (subst (Contains (contents c.in_ok-images-in-Sync.images.items)) c.deref-in-Sync.ensures.value c.in_ok-images-in-Sync.ensures.listed) in
    subst (λ m. IsReplay start (steps ++ step_of m c.args.bytes.now ∷ []) c.args.self.now.items c.in_ok-images-in-Sync.images.items) (sym c.in-Sync.is) same
