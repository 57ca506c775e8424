use Rattle.target_oracle.proofs.Prelude.{None, List, ap, sym, subst, ◌∙◌, true≢false, replicate, whole_range, AreNames, Given, Frame, IsBuilt, given}
use Rattle.target_oracle.proofs.Draws.{are_names, frame_is, how_many, how_many_strings, no_refusal}
use Rattle.target_oracle.proofs.generator.language.Goals as goal

pub new-requires : goal.new-requires
new-requires c = record { names = subst AreNames (sym c.in_ok-names.ensures) are_names }

pub unreachable-requires-then-not-is_memory : goal.unreachable-requires-then-not-is_memory
unreachable-requires-then-not-is_memory c =
    no_refusal _ _ c.in-Err.fault (how_many c.in-Ok.frame (c.in-Ok.ensures.names ∙ c.in_ok-names.ensures)) c.in_ok-relations.ensures.is
    (c.in-Err.ensures.refused (λ memory. true≢false (sym (c.is_memory.ensures memory) ∙ c.if-not-is_memory.true)))

pub returns-in-Ok-build : goal.returns-in-Ok-build
returns-in-Ok-build c =
    subst (λ (f : Frame). IsBuilt f given None c.in-Ok-build.language) (frame_is c.in-Ok.frame (c.in-Ok.ensures.names ∙ c.in_ok-names.ensures) c.in-Ok.ensures.least c.in-Ok.ensures.values
    (c.in-Ok.ensures.ranges ∙ ap (λ n. replicate n (whole_range 3)) (how_many_strings c.in_ok-names.names.items c.in_ok-names.ensures)))
    (subst (λ (parts : List Given). IsBuilt c.in-Ok.frame parts None c.in-Ok-build.language) c.in_ok-relations.ensures.is c.in-Ok-build.ensures.built)
