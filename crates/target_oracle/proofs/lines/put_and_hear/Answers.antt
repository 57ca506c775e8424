use Rattle.acq_io.proofs.CallLemmas.{called_not}
use Rattle.target_oracle.proofs.Prelude.{◌≡◌, ℕ, List, [], ◌∷◌, ◌++◌, ◌∙◌, ap, sym, subst, inl, inr, refl, arith, takes_none, Result, Err, append-nil, Adds, AddsFront, adds_then, hear, line_turn}
use Rattle.acq_io.specs.declared.streams.Put.{Put}
use Rattle.language.specs.Texts.{question_text}
use Rattle.target_oracle.proofs.Fronts.{front_longer, front_none}
use Rattle.target_oracle.proofs.Hearings.{tells_after, silent}
use Rattle.target_oracle.proofs.lines.put_and_hear.Goals as goal

pub returns-in-Ok-write-clause-tells : goal.returns-in-Ok-write-clause-tells
returns-in-Ok-write-clause-tells g c = λ bytes left.
    let text : List ℕ = question_text c.args.lang.now c.args.k c.args.q.now ++ 10 ∷ [] in
    let written = g.K.Sink.written c.args.sink.now in
    let before = g.K.Sink.written c.write.new.self in
    let Stands : List ℕ → Type 0 = Adds written before in
    tells_after text (hear c.args.k 999 bytes) written before (g.S.Source.left c.hear_lines.new.source) (g.K.Sink.written c.hear_lines.new.sink) c.hear_lines.result
    (subst Stands (c.as_bytes.ensures.value ∙ c.in-Ok.ensures) c.in-Ok-write.ensures.ok) (c.hear_lines.ensures.tells bytes left)

pub returns-in-Err-Failed-clause-tells : goal.returns-in-Err-Failed-clause-tells
returns-in-Err-Failed-clause-tells g c = λ bytes left.
    let text : List ℕ = question_text c.args.lang.now c.args.k c.args.q.now ++ 10 ∷ [] in
    let written = g.K.Sink.written c.args.sink.now in
    let written' = g.K.Sink.written c.write.new.self in
    let Stands : List ℕ → Type 0 = AddsFront written written' in
    front_longer written written' text (hear c.args.k 999 bytes).text
    (subst Stands (c.as_bytes.ensures.value ∙ c.in-Ok.ensures) (c.in-Err-Failed.ensures.failed (ap (λ (p : Put). let r : Result (Unit {0}) Put = Err p in r) c.in-Err-Failed.field-0-is)))

pub returns-in-Ok-write-clause-asks : goal.returns-in-Ok-write-clause-asks
returns-in-Ok-write-clause-asks g c =
    let text : List ℕ = question_text c.args.lang.now c.args.k c.args.q.now ++ 10 ∷ [] in
    let alone : text ≡ (line_turn c.args.lang.now c.args.k c.args.q.now []).text = sym (append-nil text) ∙ ap (λ (x : List ℕ). text ++ x) (sym (silent c.args.k 999)) in
    let is : c.as_bytes.result.now ≡ (line_turn c.args.lang.now c.args.k c.args.q.now []).text = c.as_bytes.ensures.value ∙ c.in-Ok.ensures ∙ alone in
    let old = g.K.Sink.written c.args.sink.now in
    let new = g.K.Sink.written c.hear_lines.new.sink in
    let more = c.hear_lines.ensures.adds.0 in
    let Put : List ℕ → Type 0 = λ x. Adds old new (x ++ more) in
    record {
      takes = c.hear_lines.ensures.takes;
      first = inr (more, subst Put is (adds_then old (g.K.Sink.written c.write.new.self) new c.as_bytes.result.now more c.in-Ok-write.ensures.ok c.hear_lines.ensures.adds.1));
    }

pub returns-in_default-clause-asks : goal.returns-in_default-clause-asks
returns-in_default-clause-asks g c = record { takes = ([], takes_none (g.S.Source.left c.args.source.now)); first = inl refl }

pub returns-in_default-clause-called : goal.returns-in_default-clause-called
returns-in_default-clause-called g c = called_not _ _ _ (λ is. cc)

pub returns-in_default-clause-back : goal.returns-in_default-clause-back
returns-in_default-clause-back g c = λ is. cc

pub returns-in-Ok-write-clause-called : goal.returns-in-Ok-write-clause-called
returns-in-Ok-write-clause-called g c = c.hear_lines.ensures.called

pub returns-in-Ok-write-clause-back : goal.returns-in-Ok-write-clause-back
returns-in-Ok-write-clause-back g c = c.hear_lines.ensures.back

pub returns-in-Ok-write-clause-later_sink : goal.returns-in-Ok-write-clause-later_sink
returns-in-Ok-write-clause-later_sink g c = omega (arith, c.write.ensures.later, c.hear_lines.ensures.later_sink)

pub returns-in-Ok-write-clause-write : goal.returns-in-Ok-write-clause-write
returns-in-Ok-write-clause-write g c = λ is. omega (arith, c.write.ensures.later, c.hear_lines.ensures.write is)

pub returns-in-Err-Failed-clause-asks : goal.returns-in-Err-Failed-clause-asks
returns-in-Err-Failed-clause-asks g c = record { takes = ([], takes_none (g.S.Source.left c.args.source.now)); first = inl refl }

pub returns-in-Err-Failed-clause-called : goal.returns-in-Err-Failed-clause-called
returns-in-Err-Failed-clause-called g c = called_not _ _ _ (λ is. cc)

pub returns-in-Err-Failed-clause-back : goal.returns-in-Err-Failed-clause-back
returns-in-Err-Failed-clause-back g c = λ is. cc

pub returns-in-Err-Memory-clause-asks : goal.returns-in-Err-Memory-clause-asks
returns-in-Err-Memory-clause-asks g c = record { takes = ([], takes_none (g.S.Source.left c.args.source.now)); first = inl refl }

pub returns-in-Err-Memory-clause-called : goal.returns-in-Err-Memory-clause-called
returns-in-Err-Memory-clause-called g c = called_not _ _ _ (λ is. cc)

pub returns-in-Err-Memory-clause-back : goal.returns-in-Err-Memory-clause-back
returns-in-Err-Memory-clause-back g c = λ is. cc

pub returns-in_default-clause-tells : goal.returns-in_default-clause-tells
returns-in_default-clause-tells g c = λ bytes left. front_none (g.K.Sink.written c.args.sink.now) (g.K.Sink.written c.args.sink.now) (line_turn c.args.lang.now c.args.k c.args.q.now bytes).text refl

pub returns-in_default-clause-write : goal.returns-in_default-clause-write
returns-in_default-clause-write g c = λ is. cc

pub returns-in-Err-Memory-clause-write : goal.returns-in-Err-Memory-clause-write
returns-in-Err-Memory-clause-write g c = λ is. cc

pub returns-in-Err-Memory-clause-tells : goal.returns-in-Err-Memory-clause-tells
returns-in-Err-Memory-clause-tells g c = λ bytes left. front_none (g.K.Sink.written c.args.sink.now) (g.K.Sink.written c.write.new.self) (line_turn c.args.lang.now c.args.k c.args.q.now bytes).text (c.in-Err-Memory.ensures.memory (ap (λ (p : Put). let r : Result (Unit {0}) Put = Err p in r) c.in-Err-Memory.field-0-is))

pub returns-in-Err-Failed-clause-write : goal.returns-in-Err-Failed-clause-write
returns-in-Err-Failed-clause-write g c = λ is. c.in-Err-Failed.ensures.cause (ap (λ (p : Put). let r : Result (Unit {0}) Put = Err p in r) c.in-Err-Failed.field-0-is)

pub returns-in-Err-Failed-clause-later_sink : goal.returns-in-Err-Failed-clause-later_sink
returns-in-Err-Failed-clause-later_sink g c = c.write.ensures.later

pub returns-in-Err-Memory-clause-later_sink : goal.returns-in-Err-Memory-clause-later_sink
returns-in-Err-Memory-clause-later_sink g c = c.write.ensures.later
