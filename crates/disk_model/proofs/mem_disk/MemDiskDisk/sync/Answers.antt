use Rattle.disk_model.proofs.Prelude.{◌≡◌, [], ◌∷◌, ◌++◌, ap, sym, subst, refl, ◌∙◌, Leaves, Synced, elapses-to, leaves-sync, image-content, content_of, start_of, steps_in, tape_steps}
use Rattle.disk_model.proofs.mem_disk.MemDiskDisk.sync.Goals as goal

pub returns-clause-durable : goal.returns-clause-durable
returns-clause-durable c bytes told f left =
    let d = c.args.self.now in
    let t = c.sync.new.self in
    let start : t.start.items ≡ start_of d = c.sync.ensures.start ∙ ap (λ s. s.start.items) c.begin.ensures.kept in
    let steps : tape_steps t ≡ steps_in d ++ Synced ∷ [] = c.sync.ensures.steps ∙ ap (λ s. tape_steps s ++ Synced ∷ []) c.begin.ensures.kept in
    let there : content_of d ≡ bytes = cc in
    leaves-sync (start_of d) t.start.items (steps_in d) (tape_steps t) f start steps left ∙ sym d.tape.kept ∙ there

pub returns-clause-crash : goal.returns-clause-crash
returns-clause-crash c f left =
    let d = c.args.self.now in
    let t = c.sync.new.self in
    let start : t.start.items ≡ start_of d = c.sync.ensures.start ∙ ap (λ s. s.start.items) c.begin.ensures.kept in
    let steps : tape_steps t ≡ steps_in d ++ Synced ∷ [] = c.sync.ensures.steps ∙ ap (λ s. tape_steps s ++ Synced ∷ []) c.begin.ensures.kept in
    subst (Leaves (start_of d) (steps_in d)) (sym (leaves-sync (start_of d) t.start.items (steps_in d) (tape_steps t) f start steps left)) (image-content (λ e. e ≡ start_of d) (start_of d) (steps_in d) refl d.tape.within)

pub returns-clause-time : goal.returns-clause-time
returns-clause-time c =
    let d = c.args.self.now in
    let t = c.sync.new.self in
    let start : t.start.items ≡ start_of d = c.sync.ensures.start ∙ ap (λ s. s.start.items) c.begin.ensures.kept in
    let steps : tape_steps t ≡ steps_in d ++ Synced ∷ [] = c.sync.ensures.steps ∙ ap (λ s. tape_steps s ++ Synced ∷ []) c.begin.ensures.kept in
    elapses-to (start_of d) t.start.items (steps_in d) (tape_steps t) Synced start steps
