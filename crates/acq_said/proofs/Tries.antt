-- What was done about a language, of its loop and what was said.
use Rattle.acq_said.proofs.Prelude.{◌≡◌, ◌∙◌, ℕ, true, false, List, [], sym, subst, refl, ap, Option, Some, None, Result, Ok, Err, inl, inr, ◌≢◌, IfOk, IsErr, OnErr, IfSome, Put, Answer, Event, Plan, Language, standing_on, line_turn, Turns, Told, Remembered, Terms, Assignment, MayEnd, closing_of, ending_of, Drives, HasEnded, Loses, TellsOpen, point_of, terms_with, Stands, knowledge_of, Session, carried, Drove, Ending, BreaksRun, HasAsked, Says, SaysPart, Tries, Closing}
use Rattle.std.proofs.lemmas.Result.{IfOk-weaker, on_err_weaker}
use Rattle.session_store.specs.Keeps.{IsSameSession}
use Rattle.session_store.specs.declared.keep.Keep.{Ghosts as KeepOf}
use Rattle.acq_loop.specs.declared.driving.Drove.TheVariants as drove
use Rattle.acq_loop.specs.declared.ending.Ending.TheVariants as ending
use Rattle.acq_loop.specs.Loop.{EndsAs}
use Rattle.acq_loop.proofs.Short.{CutOff, LeavesNothing, RanTo}
use Rattle.acq_said.proofs.Closings.{AddsLast, AddsLastFront, okay, same_ok, err_ok, loop_end, loops_by, not_loops}

-- where something failed, the run was cut off
pub cut_off : (turns : Turns) (l : Language) (terms : Terms) (start later : List Event) (left written left' written' : Option (List ℕ)) (end : Ending) (tries : Tries turns l terms start later left written left' written' end) → closing_of tries.how ≡ None →
    CutOff turns l terms (point_of start left written) (point_of later left' written')
cut_off turns l terms start later left written left' written' end tries none =
    let silent : written' ≡ tries.middle = subst (AddsLast l terms (standing_on l later) tries.middle written') none tries.adds in
    subst (λ (w : Option (List ℕ)). CutOff turns l terms (point_of start left written) (point_of later left' w)) (sym silent) (tries.ended.broken none)

-- what the loop has done, with what was said of it
pub record IsSaidOf (turns : Turns) (l : Language) (terms : Terms) (start later : List Event) (left written left' middle written' : Option (List ℕ)) (how : Drove) (got : Result Ending Put) (may : Assignment → Told → Type 0) : Type 0 where
  pub asked : HasAsked turns l terms start later left written left' written' got
  pub no_fault : IfOk got (λ (end : Ending). end ≢ ending.WriteFault)
  pub may_end : MayEnd may (ending_of how) → MayEnd may got
  pub read_of : got ≡ Ok ending.ReadFault → how ≡ drove.ReadFault
  pub read_told : how ≡ drove.ReadFault → got ≡ Ok ending.ReadFault
  pub disk_of : got ≡ Ok ending.DiskFault → how ≡ drove.DiskFault
  pub disk_told : how ≡ drove.DiskFault → got ≡ Ok ending.DiskFault
  pub loses : got ≡ Ok ending.DiskFault → (lost : Event) → Loses turns l terms (point_of start left written) (point_of later left' middle) lost → Loses turns l terms (point_of start left written) (point_of later left' written') lost

module _ (turns : Turns) (l : Language) (terms : Terms) (start later : List Event) (left written left' middle written' : Option (List ℕ)) (how : Drove) (may : Assignment → Told → Type 0)
    (walked : LeavesNothing l terms.plan (standing_on l later)) (drives : Drives turns l terms (point_of start left written) (point_of later left' middle) how) where
  part_by : (end : Result Ending Put) (o : Option Closing) → IfSome o (λ closing. RanTo turns l terms closing (point_of start left written) (point_of later left' middle)) → (o ≡ None → CutOff turns l terms (point_of start left written) (point_of later left' middle)) →
      AddsLastFront l terms (standing_on l later) middle written' end o → BreaksRun turns l terms start later left written left' written'
  part_by end None ran cut part = inl (subst (λ (w : Option (List ℕ)). CutOff turns l terms (point_of start left written) (point_of later left' w)) (sym part.0) (cut refl))
  part_by end (Some closing) ran cut part = inr (closing, middle, ran, part)

  -- a fault of its own is told
  not_part : (fault : Drove) (end : Ending) → closing_of fault ≡ None → ending_of fault ≡ okay end → SaysPart l terms (standing_on l later) middle written' how → how ≡ fault → ⊥
  not_part fault end none ends part is =
      let silent = subst (AddsLastFront l terms (standing_on l later) middle written' (ending_of how)) (ap closing_of is ∙ none) part in
      let bad : false ≡ true = subst (λ (r : Result Ending Put). IsErr r) (ap ending_of is ∙ ends) silent.1 in cc

  -- said whole, or in part
  said_here : (got : Result Ending Put) → IfOk got (Says l terms (standing_on l later) middle written' how) → OnErr got (SaysPart l terms (standing_on l later) middle written' how) → IsSaidOf turns l terms start later left written left' middle written' how got may
  said_here (Ok end) says part =
      let of : (was : Drove) (e : Ending) → loop_end e ≡ Some was → okay end ≡ okay e → how ≡ was = λ was e loops is. loops_by how was end says.0 (ap loop_end (same_ok end e is) ∙ loops) in
      record {
        asked = record { tries = record { how = how; is = says.0; middle = middle; ended = drives; adds = says.1; walked = walked }; part = tt };
        no_fault = λ is. not_loops how ending.WriteFault (says.0 ∙ ap okay is) refl;
        may_end = λ ends. subst (MayEnd may) says.0 ends;
        read_of = of drove.ReadFault ending.ReadFault refl;
        read_told = λ is. sym says.0 ∙ ap ending_of is;
        disk_of = of drove.DiskFault ending.DiskFault refl;
        disk_told = λ is. sym says.0 ∙ ap ending_of is;
        loses = λ is lost loses.
            let silent : written' ≡ middle = subst (AddsLast l terms (standing_on l later) middle written') (ap closing_of (of drove.DiskFault ending.DiskFault refl is)) says.1 in
            subst (λ (w : Option (List ℕ)). Loses turns l terms (point_of start left written) (point_of later left' w) lost) (sym silent) loses;
      }
  said_here (Err e) says part = record {
    asked = record { tries = tt; part = part_by (ending_of how) (closing_of how) drives.closed drives.broken part };
    no_fault = tt;
    may_end = λ ends. tt;
    read_of = λ is. absurd (err_ok e ending.ReadFault is);
    read_told = λ is. absurd (not_part drove.ReadFault ending.ReadFault refl refl part is);
    disk_of = λ is. absurd (err_ok e ending.DiskFault is);
    disk_told = λ is. absurd (not_part drove.DiskFault ending.DiskFault refl refl part is);
    loses = λ is. absurd (err_ok e ending.DiskFault is);
  }

-- where a session is that of the keeper after the loop
pub said_of : {K D : Type 0} (keep : KeepOf K D) (turns : Turns) (old new : K) (budget : ℕ) (left written left' middle written' : Option (List ℕ)) (s : Session) (screen : Remembered) (how : Drove) (got : Result Ending Put) (may : Assignment → Told → Type 0) →
    IsSameSession keep old new → Stands s (standing_on (keep.lang new) (keep.record_of new)) → (knowledge_of s).lang ≡ keep.lang new → (knowledge_of s).plan ≡ keep.plan new → LeavesNothing (keep.lang old) (keep.plan old) (standing_on (keep.lang old) (keep.record_of new)) →
    EndsAs turns (keep.lang old) (terms_with (keep.plan old) budget) (point_of (keep.record_of old) left written) (point_of (keep.record_of new) left' middle) screen how →
    ((t : List Answer) → Stands s t → HasEnded (knowledge_of s).lang (terms_with (knowledge_of s).plan budget) t how → ((m : ℕ) → how ≡ drove.Undecided m → TellsOpen (knowledge_of s).lang (terms_with (knowledge_of s).plan budget) t screen) →
    IfOk got (Says (knowledge_of s).lang (terms_with (knowledge_of s).plan budget) t middle written' how)) →
    ((t : List Answer) → Stands s t → HasEnded (knowledge_of s).lang (terms_with (knowledge_of s).plan budget) t how → ((m : ℕ) → how ≡ drove.Undecided m → TellsOpen (knowledge_of s).lang (terms_with (knowledge_of s).plan budget) t screen) →
    OnErr got (SaysPart (knowledge_of s).lang (terms_with (knowledge_of s).plan budget) t middle written' how)) →
    IsSaidOf turns (keep.lang old) (terms_with (keep.plan old) budget) (keep.record_of old) (keep.record_of new) left written left' middle written' how got may
said_of keep turns old new budget left written left' middle written' s screen how got may still stands lang planned walked ends says parts =
    let k = knowledge_of s in
    let later : List Event = keep.record_of new in
    let there : Stands s (standing_on k.lang later) = subst (λ (m : Language). Stands s (standing_on m later)) (sym lang) stands in
    let Told : Language → Plan → Type 0 = λ l p. HasEnded l (terms_with p budget) (standing_on l later) how → ((m : ℕ) → how ≡ drove.Undecided m → TellsOpen l (terms_with p budget) (standing_on l later) screen) →
    IfOk got (Says l (terms_with p budget) (standing_on l later) middle written' how) × OnErr got (SaysPart l (terms_with p budget) (standing_on l later) middle written' how) in
    let said = carried Told k.lang (keep.lang old) k.plan (keep.plan old) (lang ∙ still.lang) (planned ∙ still.plan) (λ ended tells. (says (standing_on k.lang later) there ended tells, parts (standing_on k.lang later) there ended tells)) ends.ends.says ends.tells.undecided in
    said_here turns (keep.lang old) (terms_with (keep.plan old) budget) (keep.record_of old) later left written left' middle written' how may walked ends.ends got said.0 said.1

-- ---- a run that begins without events

pub fresh_tries : (l m : Language) (p q : Plan) (budget : ℕ) (none later : List Event) (left written left' written' : Option (List ℕ)) (got : Result Ending Put) → m ≡ l → q ≡ p → none ≡ [] →
    IfOk got (Tries line_turn m (terms_with q budget) none later left written left' written') → IfOk got (λ (e : Ending). (events : List Event) × Tries line_turn l (terms_with p budget) [] events left written left' written' e)
fresh_tries l m p q budget none later left written left' written' got same planned is tries =
    IfOk-weaker got (Tries line_turn l (terms_with p budget) [] later left written left' written') (λ (e : Ending). (events : List Event) × Tries line_turn l (terms_with p budget) [] events left written left' written' e) (λ e done. (later, done))
    (rw (same, planned, is) at tries)

pub fresh_part : (l m : Language) (p q : Plan) (budget : ℕ) (none later : List Event) (left written left' written' : Option (List ℕ)) (got : Result Ending Put) → m ≡ l → q ≡ p → none ≡ [] →
    OnErr got (BreaksRun line_turn m (terms_with q budget) none later left written left' written') → OnErr got ((events : List Event) × BreaksRun line_turn l (terms_with p budget) [] events left written left' written')
fresh_part l m p q budget none later left written left' written' got same planned is part =
    let broken : BreaksRun line_turn m (terms_with q budget) none later left written left' written' → (events : List Event) × BreaksRun line_turn l (terms_with p budget) [] events left written left' written' = λ b. (later, rw (same, planned, is) at b) in
    on_err_weaker got broken part
