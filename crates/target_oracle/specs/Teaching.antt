-- How a teacher goes on.
use Rattle.std.specs.Prelude.{◌≡◌, Bool}
use Rattle.assign.specs.Assignment.{Assignment}
use Rattle.language.specs.Language.{Language}
use Rattle.target_oracle.specs.Turns.{Turns}
use Rattle.target_oracle.specs.declared.teacher.Told.{Told}

-- the meanings of a teacher
module _ {T : Type 0} (turns_of : T → Turns) (fits_of : T → Language → Type 0) (may_of : T →
    Language → Assignment → Told → Type 0) (reads_of : T → Bool) where
  -- it teaches as before
  pub record TeachesOn (old new : T) : Type 0 where
    pub turn : turns_of new ≡ turns_of old
    pub fits : (l : Language) → fits_of old l → fits_of new l
    pub fitted : (l : Language) → fits_of new l → fits_of old l
    -- what it may say now it might have said before
    pub no_more : (l : Language) (q : Assignment) (told : Told) → may_of new l q told →
        may_of old l q told
    pub reads : reads_of new ≡ reads_of old
