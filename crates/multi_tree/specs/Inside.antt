-- What the fields stand for.
use Rattle.std.specs.Prelude.{ℕ, ◌≤◌, List, reverse, vec_capacity}
use Rattle.session_laws.specs.Walk.{Walk, Ended, Capped}
use Rattle.multi_tree.specs.declared.stack.Stack.TheInside.{Inside as StackInside}
use Rattle.multi_tree.specs.declared.tree.Phase.{Phase}
use Rattle.multi_tree.specs.declared.tree.Phase.TheVariants as phases
use Rattle.multi_tree.specs.Depth.{FitsOn, AllFitOn}
use Rattle.multi_tree.specs.Stage.{Stage, Ready, Asked, Done}

-- the sets, the top first
abbrev pub sets_of : StackInside → List (List ℕ)
sets_of a = reverse a.sets.items

-- each set has room on those below it, and the room is there
pub record StackHasRoom (a : StackInside) : Type 0 where
  pub fit : AllFitOn (reverse a.sets.items)
  pub room : 1024 ≤ vec_capacity a.sets

abbrev pub stage_of : Phase → List ℕ → Walk → Stage
stage_of phases.Ready asked walk = Ready walk
stage_of phases.Asked asked walk = Asked asked walk
stage_of phases.Ended asked walk = Done (Ended walk.example)
stage_of phases.Capped asked walk = Done (Capped walk.example)

-- the set that is asked about has room on those that wait
abbrev pub AskedFits : Phase → List ℕ → List (List ℕ) → Type 0
AskedFits phases.Ready asked waiting = Unit {0}
AskedFits phases.Asked asked waiting = FitsOn asked waiting
AskedFits phases.Ended asked waiting = Unit {0}
AskedFits phases.Capped asked waiting = Unit {0}
