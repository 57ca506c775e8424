-- Laws of runs and their texts, over the definitions alone.
use Rattle.std.specs.Prelude.{◌≡◌}
use Rattle.acq_cli.specs.Prelude.{Event, IsWholeText, Language, List, Ran, Runs, Terms, Turns, ℕ}

-- from the same events and bytes there is one run
abbrev pub RunIsOne : Type 0
RunIsOne =
    (turns : Turns) (l : Language) (terms : Terms) (events : List Event) (bytes : List ℕ)
    (run other : Ran) →
    Runs turns l terms events bytes run → Runs turns l terms events bytes other → run ≡ other

-- of the same bytes `try` has one whole text
abbrev pub TextIsOne : Type 0
TextIsOne = (terms : Terms) (bytes text other : List ℕ) → IsWholeText terms bytes text →
    IsWholeText terms bytes other → text ≡ other

-- of each list of bytes it has one
abbrev pub EachHasAText : Type 0
EachHasAText = (terms : Terms) (bytes : List ℕ) → (text : List ℕ) × IsWholeText terms bytes text
