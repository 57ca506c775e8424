-- What a halving with a stack of frames has left to do.
use Rattle.std.specs.Prelude.{ℕ, ◌+◌, ◌-◌, ◌^◌, ◌<◌, ◌≤◌, Bool, true, not, List, [], ◌∷◌, length}
use Rattle.assign.specs.Sets.{IsSet, union}
use Rattle.find_scope.specs.declared.frames.Frame.{Frame}
use Rattle.find_scope.specs.declared.frames.Frame.TheVariants.{ThenFirst, Joins}
use Rattle.find_scope.specs.Halving.{Halved, Got, then_got, is_empty, halve_within}

-- A run waits for the reply about its base. After a yes it halves its set. What is found goes to
-- the frames.
pub record Run : Type 0 where
  pub base : List ℕ
  pub set : List ℕ
  pub frames : List Frame

-- what the frames make of a set that is found
unfoldable pub finish : List Frame → List ℕ → List Bool → Halved
finish [] found replies = Got found replies
finish (Joins before ∷ frames) found replies = finish frames (union before found) replies
finish (ThenFirst base first ∷ frames) found replies =
    then_got (halve_within (length first) (union base found) first (not (is_empty found)) replies)
    (λ more left. finish frames (union found more) left)

-- what a set becomes that is halved beside a base, with a question first or without one
abbrev pub halve_then : List Frame → List ℕ → List ℕ → Bool → List Bool → Halved
halve_then frames base set asks replies =
    then_got (halve_within (length set) base set asks replies) (finish frames)

-- what a run makes of further replies
unfoldable pub meaning : Run → List Bool → Halved
meaning run replies = halve_then run.frames run.base run.set true replies

-- a set is small enough for the frames that it may still need, beside these
abbrev pub Fits : List ℕ → List Frame → Type 0
Fits set frames = (length frames ≤ 7) × (length set ≤ 2 ^ (7 - length frames))

-- each set that waits is small enough for the frames above its own
abbrev pub AreFit : List Frame → Type 0
AreFit [] = Unit {0}
AreFit (Joins found ∷ frames) = AreFit frames
AreFit (ThenFirst base first ∷ frames) = IsSet base × (length frames < 7)
    × (length first ≤ 2 ^ (7 - (length frames + 1))) × AreFit frames
