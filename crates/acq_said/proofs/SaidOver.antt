-- What a command that only says something has done, and by which endings.
use Rattle.acq_said.proofs.Prelude.{◌≡◌, ◌∙◌, ◌⊎◌, ℕ, Bool, true, false, List, length, Option, Some, None, Result, Ok, Err, refl, sym, ap, inl, inr, ⊎_elim, DiskOf, all_of, Put, AllFault, Certificate, verdict, certificate_made, Candidate, Language, standing_on, model_of, cnf_of, Opened, OpensOnce, RefusesOpening, SFault, asked_said, certificate_said, if_at_end, checked_said, verdict_said, IsBrokenOff, SaysOfRead, SaysRefusal, EndsAsOpened, SaysOver, terms_with, clauses_said, ended_as, first_spent, network_led_to, Next, Ends, Converged, next_after, HasWritten, IsSaid, SaysSo, Saying, saying, ForSome, [], ◌∷◌, ◌++◌, codes, decimal, Solves, solution_said, solved_said, Ask, Ending, Unsaid, MatchResult, SaysOpened, made_said}
use Rattle.acq_said.proofs.Reduced.{sifted_said}
use Rattle.acq_io.specs.declared.streams.Put.TheVariants as put
use Rattle.acq_io.specs.declared.whole.AllFault.TheVariants as all
use Rattle.cert_check.specs.declared.fault.MakeFault.{MakeFault}
use Rattle.cert_check.specs.declared.verdict.Verdict.{Verdict}
use Rattle.cert_check.specs.declared.verdict.Verdict.TheVariants.{Yes, No}
use Rattle.acq_said.specs.declared.ask.Ask.TheVariants as ask
use Rattle.acq_loop.specs.declared.ending.Ending.TheVariants as ending
use Rattle.acq_said.specs.declared.said.Unsaid.TheVariants as unsaid
use Rattle.session_store.specs.Opening.{NotOpened}
use Rattle.acq_said.specs.Making.{IsMaking}
use Rattle.acq_said.specs.Over.{EndsAsSaid}
use Rattle.acq_said.proofs.Closings.{okay}
use Rattle.acq_said.proofs.Spoken.{IsCheckOf, SaysOpening, SaidSo, ends_said, input_end, refuses_end, silently}

-- ---- exactly when

-- the bytes hold this session, or this is why they aren't opened
abbrev pub OpensAs : List ℕ → Result Opened SFault → Type 0
OpensAs bytes opening = MatchResult opening (SaysOpened bytes) (NotOpened bytes)

-- it ends as is said of what the input and the file are
abbrev pub EndsAsMade : (bytes file : List ℕ) → Ending → Type 0
EndsAsMade bytes file end = EndsAsSaid (IsMaking (all_of 4194304 bytes).got file) made_said end

-- where the disk tells its bytes, it broke off, or ends as is said
abbrev pub SaidEnds : (Opened → Saying) → (content : Option (List ℕ)) → Ending → Type 0
SaidEnds says content end = ForSome content (λ file. IsBrokenOff end ⊎ EndsAsOpened says file end)

-- how many answers stand, where they haven't converged
abbrev pub unconverged_said : ℕ → Saying
unconverged_said m = saying (codes "refused not converged " ++ (decimal m ++ 10 ∷ [])) (ending.NotConverged m)

pub said_end : OpensOnce → (says : Opened → Saying) (file : List ℕ) (said : Result Saying Unsaid) (written written' : Option (List ℕ)) (end : Ending) (opening : Result Opened SFault) → OpensAs file opening → SaysOpening says opening said → HasWritten said written written' (okay end) → IsBrokenOff end ⊎ EndsAsOpened says file end
said_end once says file said written written' end (Ok o) opens is has =
    inr (record { what = Ok o; there = opens; only = λ other holds. once file other (Ok o) holds opens; is = ends_said (says o) said written written' end is has })
said_end once says file said written written' end (Err f) opens is has =
    ⊎_elim (λ broken. inl broken)
    (λ refused. let why : RefusesOpening file f = (refused.0, opens) in inr (record { what = Err f; there = why; only = λ other holds. once file other (Err f) holds why; is = refused.1 }))
    (refuses_end f said written written' end is has)

module _ {D : Type 0} (disk : DiskOf D) where
  pub over_ends : OpensOnce → (says : Opened → Saying) (IsTrueOf : Opened → Type 0) (written written' : Option (List ℕ)) (old new : D) (got : Result Ending Put) → SaysSo (SaysOver disk (SaysOpening says) IsTrueOf old new) written written' got → SaidEnds says (disk.content old) (ended_as got)
  over_ends once says IsTrueOf written written' old new (Err put.Failed) over = λ file told. inl (inr (inl refl))
  over_ends once says IsTrueOf written written' old new (Err put.Memory) over = λ file told. inl (inr (inr (inr refl)))
  over_ends once says IsTrueOf written written' old new (Ok end) (said, over, has) = λ file told. said_end once says file said written written' end over.opening (over.opens file told) over.says has

  pub solve_ends : OpensOnce → (left written left' written' : Option (List ℕ)) (old new : D) (got : Result Ending Put) → SaysSo (SaysOver disk (Solves left left') (λ o. Unit {0}) old new) written written' got → ForSome left (λ bytes. SaidEnds (solved_said (all_of 4194304 bytes).got) (disk.content old) (ended_as got))
  solve_ends once left written left' written' old new (Err put.Failed) over = λ bytes from file told. inl (inr (inl refl))
  solve_ends once left written left' written' old new (Err put.Memory) over = λ bytes from file told. inl (inr (inr (inr refl)))
  solve_ends once left written left' written' old new (Ok end) (said, over, has) = λ bytes from file told. go bytes from file over.opening (over.opens file told) over.says
    where
      go : (bytes : List ℕ) → left ≡ Some bytes → (file : List ℕ) (opening : Result Opened SFault) → OpensAs file opening → Solves left left' opening said → IsBrokenOff end ⊎ EndsAsOpened (solved_said (all_of 4194304 bytes).got) file end
      go bytes from file (Ok o) opens says =
          ⊎_elim (λ broken. inl broken) (λ is. said_end once (solved_said (all_of 4194304 bytes).got) file said written written' end (Ok o) opens is has)
          (input_end 4194304 (λ read. IsSaid (solved_said read o)) left left' written written' said end bytes from says has)
      go bytes from file (Err f) opens says = said_end once (solved_said (all_of 4194304 bytes).got) file said written written' end (Err f) opens says.0 has

-- ---- of which endings

-- the endings that are neither the loop's alone nor that of refused words
abbrev pub is_own : Ending → Bool
is_own (ending.Usage fault) = false
is_own (ending.Converged m) = false
is_own (ending.Collapsed m) = false
is_own (ending.Undecided m) = false
is_own (ending.Suspended m) = false
is_own ending.LineTooLong = false
is_own ending.Unreadable = false
is_own end = true

-- an ending that isn't
pub not_own : (end other : Ending) → is_own other ≡ false → is_own end ≡ true → end ≡ other → ⊥
not_own end other not own is = let bad : true ≡ false = sym own ∙ (ap is_own is ∙ not) in cc

pub broken_own : (end : Ending) → IsBrokenOff end → is_own end ≡ true
broken_own end broken = ⊎_elim (λ e. ap is_own e) (λ b. ⊎_elim (λ e. ap is_own e) (λ c. ⊎_elim (λ e. ap is_own e) (λ e. ap is_own e) c) b) broken

pub refuses_own : (written written' : Option (List ℕ)) (end : Ending) (f : SFault) → SaysSo (SaysRefusal f) written written' (okay end) → is_own end ≡ true
refuses_own written written' end f (said, says, has) = ⊎_elim (broken_own end) (λ is. ap is_own is.1) (refuses_end f said written written' end says has)

-- by what it is said of
own_by : {A E : Type 0} (says : Result A E → Saying) → ((x : A) → is_own (says (Ok x)).ending ≡ true) → ((e : E) → is_own (says (Err e)).ending ≡ true) → (r : Result A E) → is_own (says r).ending ≡ true
own_by says good bad (Ok x) = good x
own_by says good bad (Err e) = bad e

sifted_own : (l : Language) (network : List Candidate) (budget : ℕ) (o : Option ℕ) → is_own (sifted_said l network budget o).ending ≡ true
sifted_own l network budget None = refl
sifted_own l network budget (Some i) = refl

end_own : (next : Option Next) (r : Result (List ℕ) MakeFault) (m : ℕ) → is_own (if_at_end next (certificate_said r) (unconverged_said m)).ending ≡ true
end_own (Some (Ends Converged)) r m = own_by certificate_said (λ text. refl) (λ fault. refl) r
end_own next r m = refl

pub asked_own : (a : Ask) (o : Opened) → is_own (asked_said a o).ending ≡ true
asked_own ask.Show o = refl
asked_own (ask.Reduce budget) o = sifted_own o.lang (network_led_to o) budget (first_spent o.lang (network_led_to o) budget (length (network_led_to o)))
asked_own ask.Cnf o = own_by clauses_said (λ text. refl) (λ fault. refl) (cnf_of o.lang (network_led_to o))
asked_own (ask.Certify budget) o =
    end_own (next_after o.lang (terms_with o.plan budget) (standing_on o.lang o.events)) (certificate_made o.voc o.lang (network_led_to o) (standing_on o.lang o.events) budget) (length (standing_on o.lang o.events))

solved_own : (read : Result (List ℕ) AllFault) (o : Opened) → is_own (solved_said read o).ending ≡ true
solved_own (Ok bytes) o = own_by (solution_said o.lang) (λ e. refl) (λ fault. refl) (model_of o.lang (network_led_to o) bytes)
solved_own (Err e) o = refl

verdict_own : (cert : Certificate) (v : Verdict) → is_own (verdict_said cert v).ending ≡ true
verdict_own cert Yes = refl
verdict_own cert (No flaw) = refl

pub check_own : (read : Result (List ℕ) AllFault) (what : Saying) → IsCheckOf read what → is_own what.ending ≡ true
check_own (Ok bytes) what check = ap (λ (s : Saying). is_own s.ending) check.is ∙ own_by checked_said (λ cert. verdict_own cert (verdict cert)) (λ fault. refl) check.reading
check_own (Err e) what is = ap (λ (s : Saying). is_own s.ending) is

-- by what was said
pub own_said : (what : Saying) (said : Result Saying Unsaid) (written written' : Option (List ℕ)) (end : Ending) → is_own what.ending ≡ true → IsSaid what said → HasWritten said written written' (okay end) → is_own end ≡ true
own_said what said written written' end own is has = ap is_own (ends_said what said written written' end is has) ∙ own

pub opening_own : (says : Opened → Saying) → ((o : Opened) → is_own (says o).ending ≡ true) → (opening : Result Opened SFault) (said : Result Saying Unsaid) (written written' : Option (List ℕ)) (end : Ending) → SaysOpening says opening said → HasWritten said written written' (okay end) → is_own end ≡ true
opening_own says own (Ok o) said written written' end is has = own_said (says o) said written written' end (own o) is has
opening_own says own (Err f) said written written' end is has = refuses_own written written' end f (said, is, has)

module _ (left left' : Option (List ℕ)) (said : Result Saying Unsaid) (written written' : Option (List ℕ)) (end : Ending) (has : HasWritten said written written' (okay end)) where
  -- by what was read of the input
  pub read_own : (most : ℕ) (Says : Result (List ℕ) AllFault → Result Saying Unsaid → Type 0) → ((read : Result (List ℕ) AllFault) → Says read said → is_own end ≡ true) → (read : Result (List ℕ) AllFault) → SaysOfRead most Says left left' said read → is_own end ≡ true
  read_own most Says own (Ok bytes) says = own (Ok bytes) says.1
  read_own most Says own (Err all.TooLong) says = own (Err all.TooLong) says.1
  read_own most Says own (Err all.Fault) says = broken_own end (silently unsaid.ReadFault said written written' end says has)
  read_own most Says own (Err all.Memory) says = broken_own end (silently unsaid.Memory said written written' end says has)

  pub solves_own : (opening : Result Opened SFault) → Solves left left' opening said → is_own end ≡ true
  solves_own (Ok o) (read, says) = read_own 4194304 (λ r. IsSaid (solved_said r o)) (λ r is. own_said (solved_said r o) said written written' end (solved_own r o) is has) read says
  solves_own (Err f) says = refuses_own written written' end f (said, says.0, has)

pub so_own : (IsTrue : Saying → Type 0) → ((what : Saying) → IsTrue what → is_own what.ending ≡ true) → (said : Result Saying Unsaid) (written written' : Option (List ℕ)) (end : Ending) → SaidSo IsTrue said → HasWritten said written written' (okay end) → is_own end ≡ true
so_own IsTrue own (Ok what) written written' end is has = ap is_own has.0 ∙ own what is
so_own IsTrue own (Err why) written written' end is has = broken_own end (silently why (Err why) written written' end refl has)
