-- One turn of the loop.
use Rattle.std.specs.Prelude.{◌≡◌}
use Rattle.acq_loop.specs.Prelude.{List, ℕ, Bool, IsFalse, Option, ForSome, AddsFront, Assignment}
use Rattle.acq_loop.specs.Prelude.{Event, DiskOf, Language, AreMadeFor, Place, LosesNone, KeepOf}
use Rattle.acq_loop.specs.Prelude.{TeachesOn, Turns, Told}
use Rattle.acq_loop.specs.Driven.{next_lines}
use Rattle.acq_loop.specs.Run.{next_on}
use Rattle.acq_loop.specs.declared.terms.Terms.{Terms}

-- What was written, where the source tells, is a front of the lines of the question that comes
-- after these events, and nothing where none comes.
abbrev pub SaysNext : Turns → Language → Terms → List Event →
    (left written written' : Option (List ℕ)) → Type 0
SaysNext turns l terms events left written written' = ForSome left
    (λ bytes. AddsFront written written' (next_lines turns l events bytes (next_on l terms events)))

-- the keeper, its disk, and what a source has left and a sink has, where they tell
pub record Between (K D : Type 0) : Type 0 where
  pub keeper : K
  pub on : D
  pub left : Option (List ℕ)
  pub written : Option (List ℕ)

abbrev pub between_turns : {K D : Type 0} → K → D → (left written : Option (List ℕ)) → Between K D
between_turns keeper on left written =
    record { keeper = keeper; on = on; left = left; written = written }

-- the meanings of a keeper and of a disk
module _ {K D : Type 0} (keep : KeepOf K D) (disk : DiskOf D) where
  -- One turn, whatever came of it. A crash at any moment of it leaves every event that was there
  -- when it began, and it wrote no more than the lines of the question that comes after those
  -- events. So where a line is written behind an answer, no crash loses the answer from the turn's
  -- beginning on.
  pub record IsTurn (turns : Turns) (l : Language) (terms : Terms) (old new : Between K D) :
      Type 0 where
    pub acknowledged : LosesNone keep disk old.keeper old.on new.on
    pub says_next :
        SaysNext turns l terms (keep.record_of old.keeper) old.left old.written new.written

-- ---- what serves another turn

-- the meanings of a teacher
module _ {T : Type 0} (turns_of : T → Turns) (fits_of : T → Language → Type 0) (may_of : T →
    Language → Assignment → Told → Type 0) (reads_of : T → Bool) where
  -- The teacher teaches as before, and where it doesn't read, the source was left alone. The places
  -- are made for the language.
  pub record ServesOn {S : Type 0} (l : Language) (old new : T) (source source' : S)
      (places : List Place) : Type 0 where
    pub teaches : TeachesOn turns_of fits_of may_of reads_of old new
    pub unread : IsFalse (reads_of old) → source' ≡ source
    pub equipped : AreMadeFor l places
