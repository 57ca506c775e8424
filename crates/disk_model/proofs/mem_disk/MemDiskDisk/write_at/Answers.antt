use Rattle.disk_model.proofs.Prelude.{◌≡◌, [], ◌∷◌, ◌++◌, ◌∙◌, ℕ, List, length, ap, sym, subst, refl, Torn, put, Wrote, elapses-to, leaves-write, torn-put, content_of, start_of, steps_in, tape_steps}
use Rattle.disk_model.proofs.mem_disk.MemDiskDisk.write_at.Goals as goal

pub returns-clause-written : goal.returns-clause-written
returns-clause-written c old told =
    let there : content_of c.args.self.now ≡ old = cc in
    let is : c.write.new.self.content.items ≡ put old c.args.at c.args.bytes.now = c.write.ensures.content ∙ ap (λ t. put t.content.items c.args.at c.args.bytes.now) c.begin.ensures.kept ∙ ap (λ (l : List ℕ). put l c.args.at c.args.bytes.now) there in
    record {
      now = c.write.new.self.content.items;
      tells = refl;
      torn = subst (λ (l : List ℕ). Torn c.args.at (length c.args.bytes.now) old l) (sym is) (torn-put old c.args.at c.args.bytes.now (c.requires old told));
      whole = is;
    }

pub returns-clause-crash : goal.returns-clause-crash
returns-clause-crash c f left =
    let d = c.args.self.now in
    let t = c.write.new.self in
    let start : t.start.items ≡ start_of d = c.write.ensures.start ∙ ap (λ s. s.start.items) c.begin.ensures.kept in
    let steps : tape_steps t ≡ steps_in d ++ Wrote c.args.at c.args.bytes.now ∷ [] = c.write.ensures.steps ∙ ap (λ s. tape_steps s ++ Wrote c.args.at c.args.bytes.now ∷ []) c.begin.ensures.kept in
    leaves-write (start_of d) t.start.items (steps_in d) (tape_steps t) c.args.at c.args.bytes.now f start steps left

pub returns-clause-time : goal.returns-clause-time
returns-clause-time c =
    let d = c.args.self.now in
    let t = c.write.new.self in
    let start : t.start.items ≡ start_of d = c.write.ensures.start ∙ ap (λ s. s.start.items) c.begin.ensures.kept in
    let steps : tape_steps t ≡ steps_in d ++ Wrote c.args.at c.args.bytes.now ∷ [] = c.write.ensures.steps ∙ ap (λ s. tape_steps s ++ Wrote c.args.at c.args.bytes.now ∷ []) c.begin.ensures.kept in
    elapses-to (start_of d) t.start.items (steps_in d) (tape_steps t) (Wrote c.args.at c.args.bytes.now) start steps
