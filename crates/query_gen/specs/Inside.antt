-- What the fields of a screen stand for, and how its marks change.
use Rattle.std.specs.Prelude.{ℕ, ◌≡◌, ◌==◌, ◌&&◌, if◌then◌else◌, List, length, map}
use Rattle.language.specs.declared.candidates.Candidate.{Candidate}
use Rattle.language.specs.Language.{Language}
use Rattle.query_gen.specs.declared.screen.Mark.{Mark}
use Rattle.query_gen.specs.declared.screen.Mark.TheVariants.{Blank, Implied, Spent}
use Rattle.query_gen.specs.Marks.{Remembered, AreMarksFor, MarksHold}
use Rattle.query_gen.specs.declared.screen.Screen.TheInside.{Inside}

abbrev pub seen : Inside → Remembered
seen a = record {
  first = a.first.items;
  marks = a.marks.items;
  learned = a.learned;
  budget = a.budget;
  index = a.index;
  finds = a.finds;
}

-- a mark that doesn't say "spent" any more
abbrev pub without_spent : Mark → Mark
without_spent Blank = Blank
without_spent Implied = Implied
without_spent Spent = Blank

-- what is left where a search with so many learned candidates and this budget begins
abbrev pub remembered_begun : Remembered → ℕ → ℕ → Remembered
remembered_begun s learned budget =
    if (s.learned == learned) && (s.budget == budget) then s
    else record {
      first = s.first;
      marks = map without_spent s.marks;
      learned = learned;
      budget = budget;
      index = s.index;
      finds = s.finds;
    }

-- The marks are true, and those "spent" are of this network and budget.
pub record IsBegun (l : Language) (network : List Candidate) (budget : ℕ) (s : Remembered) :
    Type 0 where
  pub made : AreMarksFor l s
  pub holds : MarksHold l network budget s
  pub learned : s.learned ≡ length network
  pub budgeted : s.budget ≡ budget
