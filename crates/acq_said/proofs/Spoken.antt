-- How a command ends by what it says.
use Rattle.acq_said.proofs.Prelude.{◌≡◌, ◌∙◌, ◌⊎◌, ◌+◌, ◌<◌, ℕ, Bool, true, false, cond, List, [], length, drop, Option, Some, None, Result, Ok, Err, refl, sym, ap, subst, inl, inr, ⊎_elim, IfOk, Vec, Global, nat_le, option_map, leb-false, Gathered, gathered, Gives, all_of, Put, AllFault, SFault, is_of_bytes, made_said, IsBrokenOff, SaysOfInput, SaysRefusal, refused_said, untold, HasWritten, IsSaid, or_silent, silent_end, Saying, Ending, Unsaid, MatchOption, saying, MatchResult, Certificate, CertFault, Opened, IsCheck, checked_said}
use Rattle.acq_io.specs.declared.streams.Put.TheVariants as put
use Rattle.cert_check.specs.Reading.{IsRead, IsUnreadable}
use Rattle.cert_check.specs.declared.fault.CertFault.TheVariants as form
use Rattle.acq_io.specs.declared.whole.AllFault.TheVariants as all
use Rattle.answer_journal.specs.declared.fault.JFault.TheVariants as journal
use Rattle.session_store.specs.declared.fault.SFault.TheVariants as store
use Rattle.acq_loop.specs.declared.ending.Ending.TheVariants as ending
use Rattle.acq_said.specs.declared.said.Unsaid.TheVariants as unsaid
use Rattle.acq_said.proofs.Closings.{err_ok, okay, same_ok}

-- ---- what was said

-- this is true of what was said; or memory was wanting, and nothing was
abbrev pub SaidSo : (Saying → Type 0) → Result Saying Unsaid → Type 0
SaidSo IsTrue said = MatchResult said IsTrue (λ why. why ≡ unsaid.Memory)

-- what a check says, by what the input gave: too many bytes are no certificate
abbrev pub IsCheckOf : Result (List ℕ) AllFault → Saying → Type 0
IsCheckOf read what = MatchResult read (λ bytes. IsCheck bytes what) (λ e. what ≡ checked_said (Err form.TooLong))

abbrev pub silent : Unsaid → Result Saying Unsaid
silent why = Err why

pub same_why : (a b : Unsaid) → silent a ≡ silent b → a ≡ b
same_why a b e = cc

pub said_silent : (what : Saying) (why : Unsaid) → (let r : Result Saying Unsaid = Ok what in r) ≡ silent why → ⊥
said_silent what why e = cc

pub said_so : {E : Type 0} (r : Result Saying E) (P : Saying → Type 0) → IfOk r P → SaidSo P (or_silent r)
said_so (Ok what) P holds = holds
said_so (Err e) P holds = refl

-- what was made in memory is said
pub said_as : {E : Type 0} (r : Result Saying E) (said : Result Saying Unsaid) (what other : Saying) → said ≡ or_silent r → what ≡ other → IfOk r (λ s. s ≡ what) → IsSaid other said
said_as r said what other is same holds = subst (λ w. IsSaid w said) same (subst (IsSaid what) (sym is) (said_so r (λ s. s ≡ what) holds))

-- whether or not there was memory
pub ok_any : {A E : Type 0} (said : Result A E) {fact : Type 0} → fact → IfOk said (λ _. fact)
ok_any (Ok s) holds = holds
ok_any (Err e) holds = tt

-- memory alone may have been wanting
pub so_not : (P : Saying → Type 0) (said : Result Saying Unsaid) (why : Unsaid) → (unsaid.Memory ≡ why → ⊥) → SaidSo P said → said ≡ silent why → ⊥
so_not P (Ok what) why apart so is = said_silent what why is
so_not P (Err w) why apart so is = apart (sym so ∙ same_why w why is)

pub silent_not : {E : Type 0} (r : Result Saying E) (said : Result Saying Unsaid) (why : Unsaid) → (unsaid.Memory ≡ why → ⊥) → said ≡ or_silent r → said ≡ silent why → ⊥
silent_not (Ok what) said why apart is so = said_silent what why (sym is ∙ so)
silent_not (Err e) said why apart is so = apart (same_why unsaid.Memory why (sym is ∙ so))

-- the bytes are this certificate, or this is why they are none
abbrev pub IsReading : List ℕ → Result Certificate CertFault → Type 0
IsReading bytes reading = MatchResult reading (IsRead bytes) (IsUnreadable bytes)

-- of a session that was opened this is said; of a refusal, which one it is
abbrev pub SaysOpening : (Opened → Saying) → Result Opened SFault → Result Saying Unsaid → Type 0
SaysOpening says opening said = MatchResult opening (λ o. IsSaid (says o) said) (λ fault. SaysRefusal fault said)

-- ---- what was written

abbrev pub EndsWith : Ending → List ℕ → (written written' : Option (List ℕ)) → Result Ending Put → Type 0
EndsWith end text written written' got = HasWritten (Ok (saying text end)) written written' got

-- it is as if it were written at once
pub ends_as : (what : Saying) (said : Result Saying Unsaid) (written written' : Option (List ℕ)) (got : Result Ending Put) → IsSaid what said → HasWritten said written written' got → EndsWith what.ending what.text written written' got
ends_as what (Ok s) written written' got is has = let Ends : Saying → Type 0 = λ x. EndsWith x.ending x.text written written' got in subst Ends is has
ends_as what (Err why) written written' got is has =
    let Ends : Result Ending Put → Type 0 = λ r. EndsWith what.ending what.text written written' r in
    subst Ends (sym (has.0 ∙ ap silent_end is)) has.1

-- ---- of which endings

-- a command that says nothing has broken off
pub silent_broken : (why : Unsaid) (end : Ending) → okay end ≡ silent_end why → IsBrokenOff end
silent_broken unsaid.ReadFault end is = inl (same_ok end ending.ReadFault is)
silent_broken unsaid.DiskFault end is = inr (inr (inl (same_ok end ending.DiskFault is)))
silent_broken unsaid.Memory end is = absurd (err_ok put.Memory end (sym is))

-- it ends as is said
pub ends_said : (what : Saying) (said : Result Saying Unsaid) (written written' : Option (List ℕ)) (end : Ending) → IsSaid what said → HasWritten said written written' (okay end) → end ≡ what.ending
ends_said what (Ok s) written written' end is has = has.0 ∙ ap (λ (x : Saying). x.ending) is
ends_said what (Err why) written written' end is has = absurd (err_ok put.Memory end (sym (has.0 ∙ ap silent_end is)))

pub silent_ends : (why : Unsaid) (said : Result Saying Unsaid) (written written' : Option (List ℕ)) (end : Ending) → said ≡ silent why → HasWritten said written written' (okay end) → okay end ≡ silent_end why
silent_ends why said written written' end is has = let Written : Result Saying Unsaid → Type 0 = λ s. HasWritten s written written' (okay end) in (subst Written is has).0

pub silently : (why : Unsaid) (said : Result Saying Unsaid) (written written' : Option (List ℕ)) (end : Ending) → said ≡ silent why → HasWritten said written written' (okay end) → IsBrokenOff end
silently why said written written' end is has = silent_broken why end (silent_ends why said written written' end is has)

-- this is said of a fault, or nothing is
abbrev pub RefusesBy : Option Unsaid → Saying → Result Saying Unsaid → Type 0
RefusesBy o what said = MatchOption o (IsSaid what said) (λ why. said ≡ Err why)

-- what is said of a fault of making a journal
abbrev pub RefusesMaking : SFault → Result Saying Unsaid → Type 0
RefusesMaking fault said = RefusesBy (untold fault) (made_said (Err fault)) said

-- a fault that is told is one of the bytes
pub told_of_bytes : (f : SFault) → untold f ≡ None → is_of_bytes f ≡ true
told_of_bytes (store.Journal journal.DiskFault) is = absurd (let no : ⊥ = cc in no)
told_of_bytes (store.Journal journal.Memory) is = absurd (let no : ⊥ = cc in no)
told_of_bytes store.Memory is = absurd (let no : ⊥ = cc in no)
told_of_bytes f is = refl

-- of a fault: it broke off, or refuses the journal
refuses_by : (f : SFault) (o : Option Unsaid) (said : Result Saying Unsaid) (written written' : Option (List ℕ)) (end : Ending) → untold f ≡ o → RefusesBy o (refused_said f) said → HasWritten said written written' (okay end) → IsBrokenOff end ⊎ ((is_of_bytes f ≡ true) × (end ≡ ending.JournalRefused f))
refuses_by f None said written written' end is says has = inr (told_of_bytes f is, ends_said (refused_said f) said written written' end says has)
refuses_by f (Some why) said written written' end is says has = inl (silently why said written written' end says has)

pub refuses_end : (f : SFault) (said : Result Saying Unsaid) (written written' : Option (List ℕ)) (end : Ending) → SaysRefusal f said → HasWritten said written written' (okay end) → IsBrokenOff end ⊎ ((is_of_bytes f ≡ true) × (end ≡ ending.JournalRefused f))
refuses_end f said written written' end says has = refuses_by f (untold f) said written written' end refl says has

-- ---- the input

-- what is given of the bytes that are told
pub record GivenOf (f : List ℕ → Gathered) (left' : Option (List ℕ)) (got : Result (List ℕ) AllFault) (bytes : List ℕ) : Type 0 where
  pub rest : List ℕ
  pub left : left' ≡ Some rest
  pub gives : f bytes ≡ gathered got rest

pub given_of : (f : List ℕ → Gathered) (left left' : Option (List ℕ)) (got : Result (List ℕ) AllFault) (bytes : List ℕ) → Gives f left left' got → left ≡ Some bytes → GivenOf f left' got bytes
given_of f left left' got bytes gives told = go left' (sym (ap (option_map f) told) ∙ gives)
  where
    go : (now : Option (List ℕ)) → Some (f bytes) ≡ option_map (gathered got) now → GivenOf f now got bytes
    go None e = absurd (let no : ⊥ = cc in no)
    go (Some rest) e = record { rest = rest; left = refl; gives = (let is : f bytes ≡ gathered got rest = cc in is) }

-- what was read is what the bytes give
pub gives_got : (f : List ℕ → Gathered) (left left' : Option (List ℕ)) (got : Result (List ℕ) AllFault) (bytes : List ℕ) → Gives f left left' got → left ≡ Some bytes → (f bytes).got ≡ got
gives_got f left left' got bytes gives told = ap (λ (x : Gathered). x.got) (given_of f left left' got bytes gives told).gives

-- it broke off, or something is said of what the bytes give
pub input_end : (most : ℕ) (Says : Result (List ℕ) AllFault → Result Saying Unsaid → Type 0) (left left' written written' : Option (List ℕ)) (said : Result Saying Unsaid) (end : Ending) (bytes : List ℕ) →
    left ≡ Some bytes → SaysOfInput most Says left left' said → HasWritten said written written' (okay end) → IsBrokenOff end ⊎ Says (all_of most bytes).got said
input_end most Says left left' written written' said end bytes from (Ok read, says) has =
    let Of : Result (List ℕ) AllFault → Type 0 = λ r. Says r said in inr (subst Of (sym (gives_got (all_of most) left left' (Ok read) bytes says.0 from)) says.1)
input_end most Says left left' written written' said end bytes from (Err all.TooLong, says) has =
    let Of : Result (List ℕ) AllFault → Type 0 = λ r. Says r said in inr (subst Of (sym (gives_got (all_of most) left left' (Err all.TooLong) bytes says.0 from)) says.1)
input_end most Says left left' written written' said end bytes from (Err all.Fault, says) has = inl (silently unsaid.ReadFault said written written' end says has)
input_end most Says left left' written written' said end bytes from (Err all.Memory, says) has = inl (silently unsaid.Memory said written written' end says has)

abbrev pub fault_of : AllFault → Result (Vec ℕ Global) AllFault
fault_of e = Err e

abbrev pub fine : List ℕ → Result (List ℕ) AllFault
fine bytes = Ok bytes

abbrev pub long_one : Result (List ℕ) AllFault
long_one = Err all.TooLong

pub fine_long : (got : List ℕ) → fine got ≡ long_one → ⊥
fine_long got e = cc

pub same_fine : (a b : List ℕ) → fine a ≡ fine b → a ≡ b
same_fine a b e = cc

-- what is read to the end is the whole, or there are too many bytes
all_given : (most : ℕ) (bytes : List ℕ) → ((all_of most bytes).got ≡ fine bytes) ⊎ (((all_of most bytes).got ≡ long_one) × (most < length bytes))
unfolding all_of
all_given most bytes = go (nat_le (length bytes) most) refl
  where
    go : (b : Bool) → nat_le (length bytes) most ≡ b → ((cond b (gathered (fine bytes) []) (gathered long_one (drop (most + 1) bytes))).got ≡ fine bytes) ⊎ (((cond b (gathered (fine bytes) []) (gathered long_one (drop (most + 1) bytes))).got ≡ long_one) × (most < length bytes))
    go true which = inl refl
    go false which = inr (refl, leb-false (length bytes) most which)

pub whole_of : (most : ℕ) (bytes got : List ℕ) → (all_of most bytes).got ≡ fine got → bytes ≡ got
whole_of most bytes got is = ⊎_elim (λ whole. same_fine bytes got (sym whole ∙ is)) (λ long. absurd (fine_long got (sym is ∙ long.0))) (all_given most bytes)

fine_err : (bytes : List ℕ) (e : AllFault) → fine bytes ≡ Err e → ⊥
fine_err bytes e is = cc

pub too_many : (most : ℕ) (bytes : List ℕ) (e : AllFault) → (all_of most bytes).got ≡ Err e → most < length bytes
too_many most bytes e is = ⊎_elim (λ whole. absurd (fine_err bytes e (sym whole ∙ is))) (λ long. long.1) (all_given most bytes)

-- and that is why there are none
pub only_long : (most : ℕ) (bytes : List ℕ) (e : AllFault) → (all_of most bytes).got ≡ Err e → e ≡ all.TooLong
only_long most bytes e is = ⊎_elim (λ whole. absurd (fine_err bytes e (sym whole ∙ is))) (λ long. let same : long_one ≡ Err e = sym long.0 ∙ is in cc) (all_given most bytes)
