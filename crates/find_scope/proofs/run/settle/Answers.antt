use Rattle.find_scope.proofs.Prelude.{◌≡◌, ◌<◌, ℕ, List, ◌∷◌, length, sym, subst, ap, ◌∙◌, arith, union, Frame, ThenFirst, Joins, Run, finish, meaning, AreFit}
use Rattle.find_scope.proofs.Moves.{Holds, joins, is_none, found_some, found_none, found_holds, halves_one, more_room}
use Rattle.find_scope.proofs.run.settle.Goals as goal

pub loop-frame-preserved-in-Joins : goal.loop-frame-preserved-in-Joins
loop-frame-preserved-in-Joins c =
    let stack : c.loop-frame.frames ≡ Joins c.in-Joins.before ∷ c.pop.new.self = c.in-Some.ensures.top ∙ ap (λ (f : Frame). f ∷ c.pop.new.self) c.in-Joins.is in
    record {
      waiting = subst AreFit stack c.loop-frame.invariant.waiting;
      same = λ replies. ap (λ (x : List ℕ). finish c.pop.new.self x replies) c.union-found.ensures ∙ sym (joins c.pop.new.self c.in-Joins.before c.loop-frame.found replies)
          ∙ ap (λ (fs : List Frame). finish fs c.loop-frame.found replies) (sym stack) ∙ c.loop-frame.invariant.same replies;
    }

pub invariant_of-result : goal.invariant_of-result
invariant_of-result c =
    let stack : c.loop-frame.frames ≡ ThenFirst c.in-ThenFirst.base c.in-ThenFirst.first ∷ c.pop.new.self = c.in-Some.ensures.top ∙ ap (λ (f : Frame). f ∷ c.pop.new.self) c.in-ThenFirst.is in
    let made : (let made : Run = record { base = c.union.result; set = c.in-ThenFirst.first; frames = c.push.new.self } in made)
    ≡ record { base = union c.in-ThenFirst.base c.loop-frame.found; set = c.in-ThenFirst.first; frames = Joins c.loop-frame.found ∷ c.pop.new.self } =
    λ i. record { base = c.union.ensures i; set = c.in-ThenFirst.first; frames = c.push.ensures i } in
    subst Holds (sym made) (found_holds c.pop.new.self c.in-ThenFirst.base c.in-ThenFirst.first c.loop-frame.found c.len.ensures.set (omega arith) (subst AreFit stack c.loop-frame.invariant.waiting))

pub returns-then-len-gt0 : goal.returns-then-len-gt0
returns-then-len-gt0 c = λ replies.
    let stack : c.loop-frame.frames ≡ ThenFirst c.in-ThenFirst.base c.in-ThenFirst.first ∷ c.pop.new.self = c.in-Some.ensures.top ∙ ap (λ (f : Frame). f ∷ c.pop.new.self) c.in-ThenFirst.is in
    let made : (let made : Run = record { base = c.union.result; set = c.in-ThenFirst.first; frames = c.push.new.self } in made)
    ≡ record { base = union c.in-ThenFirst.base c.loop-frame.found; set = c.in-ThenFirst.first; frames = Joins c.loop-frame.found ∷ c.pop.new.self } =
    λ i. record { base = c.union.ensures i; set = c.in-ThenFirst.first; frames = c.push.ensures i } in
    ap (λ (r : Run). meaning r replies) made ∙ found_some c.pop.new.self c.in-ThenFirst.base c.in-ThenFirst.first c.loop-frame.found replies (omega arith)
    ∙ ap (λ (fs : List Frame). finish fs c.loop-frame.found replies) (sym stack) ∙ c.loop-frame.invariant.same replies

pub split-requires-clause-small : goal.split-requires-clause-small
split-requires-clause-small c =
    let stack : c.loop-frame.frames ≡ ThenFirst c.in-ThenFirst.base c.in-ThenFirst.first ∷ c.pop.new.self = c.in-Some.ensures.top ∙ ap (λ (f : Frame). f ∷ c.pop.new.self) c.in-ThenFirst.is in
    let parts : AreFit (ThenFirst c.in-ThenFirst.base c.in-ThenFirst.first ∷ c.pop.new.self) = subst AreFit stack c.loop-frame.invariant.waiting in
    let below : length c.pop.new.self < 7 = parts.1 in
    (omega arith, more_room (length c.pop.new.self) (length c.in-ThenFirst.first) below parts.2)

pub returns-then-len-gt1 : goal.returns-then-len-gt1
returns-then-len-gt1 c = λ replies.
    let stack : c.loop-frame.frames ≡ ThenFirst c.in-ThenFirst.base c.in-ThenFirst.first ∷ c.pop.new.self = c.in-Some.ensures.top ∙ ap (λ (f : Frame). f ∷ c.pop.new.self) c.in-ThenFirst.is in
    let parts : AreFit (ThenFirst c.in-ThenFirst.base c.in-ThenFirst.first ∷ c.pop.new.self) = subst AreFit stack c.loop-frame.invariant.waiting in
    c.split.ensures replies
    ∙ found_none c.pop.new.self c.in-ThenFirst.base c.in-ThenFirst.first c.loop-frame.found replies parts.0 c.len-in-ThenFirst.ensures.set (is_none c.loop-frame.found (omega arith))
    ∙ ap (λ (fs : List Frame). finish fs c.loop-frame.found replies) (sym stack) ∙ c.loop-frame.invariant.same replies

pub loop-frame-preserved : goal.loop-frame-preserved
loop-frame-preserved c =
    let stack : c.loop-frame.frames ≡ ThenFirst c.in-ThenFirst.base c.in-ThenFirst.first ∷ c.pop.new.self = c.in-Some.ensures.top ∙ ap (λ (f : Frame). f ∷ c.pop.new.self) c.in-ThenFirst.is in
    let parts : AreFit (ThenFirst c.in-ThenFirst.base c.in-ThenFirst.first ∷ c.pop.new.self) = subst AreFit stack c.loop-frame.invariant.waiting in
    record {
      waiting = parts.3;
      same = λ replies. sym (halves_one c.pop.new.self c.in-ThenFirst.base c.in-ThenFirst.first replies (omega arith))
          ∙ found_none c.pop.new.self c.in-ThenFirst.base c.in-ThenFirst.first c.loop-frame.found replies parts.0 c.len-in-ThenFirst.ensures.set (is_none c.loop-frame.found (omega arith))
          ∙ ap (λ (fs : List Frame). finish fs c.loop-frame.found replies) (sym stack) ∙ c.loop-frame.invariant.same replies;
    }

pub returns : goal.returns
unfolding finish
returns c = λ replies. ap (λ (fs : List Frame). finish fs c.loop-frame.found replies) (sym c.in_default.ensures.empty) ∙ c.loop-frame.invariant.same replies
