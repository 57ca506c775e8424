-- Exactly when a command over a journal is done or refused, of what it has done.
use Rattle.acq_said.proofs.Prelude.{◌≡◌, ◌⊎◌, ℕ, List, Option, Result, Ok, Err, refl, sym, ◌∙◌, ap, subst, inl, inr, ⊎_elim, ForSome, DiskOf, Put, Opened, SaysOpened, RefusesOpening, SFault, IsBrokenOff, SaysRefusal, SaysOver, SaysSo, RunGoesOn, line_turn, ended_as, Ending, MatchResult}
use Rattle.acq_io.specs.declared.streams.Put.TheVariants as put
use Rattle.std.specs.Prelude.{◌↔◌}
use Rattle.session_store.specs.Opening.{NotOpened}
use Rattle.session_store.proofs.Openings.{ReadOnce, holds_none as bytes_hold_none, only_reason as bytes_only_reason}
use Rattle.acq_said.proofs.Closings.{okay, not_loops}
use Rattle.acq_said.proofs.Spoken.{refuses_end}
use Rattle.acq_loop.specs.declared.ending.Ending.TheVariants as ending

-- ---- endings

pub same_reason : (end : Ending) (f n : SFault) → end ≡ ending.JournalRefused f → end ≡ ending.JournalRefused n → f ≡ n
same_reason end f n a b = let same : ending.JournalRefused f ≡ ending.JournalRefused n = sym a ∙ b in cc

refused_as : (f n : SFault) → f ≡ n → ending.JournalRefused f ≡ ending.JournalRefused n
refused_as f n e = ap (λ (x : SFault). ending.JournalRefused x) e

-- ---- opening one

-- a journal is refused exactly for what its bytes say
abbrev pub OpensExactly : (file : List ℕ) → Ending → Type 0
OpensExactly file end = (f : SFault) → (end ≡ ending.JournalRefused f) ↔ RefusesOpening file f

-- a file that is refused holds no session
pub holds_none : ReadOnce → (file : List ℕ) (f : SFault) → RefusesOpening file f → (o : Opened) → SaysOpened file o → ⊥
holds_none once file f why o held = bytes_hold_none once file f o why held

pub closed_exactly : ReadOnce → (file : List ℕ) (end : Ending) (f : SFault) → RefusesOpening file f → end ≡ ending.JournalRefused f → OpensExactly file end
closed_exactly once file end f why is n = (λ e. subst (RefusesOpening file) (same_reason end f n is e) why, λ so. is ∙ refused_as f n (bytes_only_reason once file f n why so))

module _ {D : Type 0} (disk : DiskOf D) where
  -- what `run` has done
  abbrev pub RunsOn : ℕ → (left written left' written' : Option (List ℕ)) → D → D → Result Ending Put → Type 0
  RunsOn budget left written left' written' old new got =
      SaysSo (SaysOver disk (λ opening said. (fault : SFault) × (opening ≡ Err fault) × SaysRefusal fault said × (left' ≡ left)) (λ o. Unit {0}) old new) written written' got
      ⊎ RunGoesOn disk line_turn (λ l q told. Unit {0}) budget left written left' written' old new got

  pub run_ends : ReadOnce → (budget : ℕ) (left written left' written' : Option (List ℕ)) (old new : D) (got : Result Ending Put) → RunsOn budget left written left' written' old new got →
      ForSome (disk.content old) (λ file. IsBrokenOff (ended_as got) ⊎ OpensExactly file (ended_as got))
  run_ends once budget left written left' written' old new (Err put.Failed) runs = λ file told. inl (inr (inl refl))
  run_ends once budget left written left' written' old new (Err put.Memory) runs = λ file told. inl (inr (inr (inr refl)))
  run_ends once budget left written left' written' old new (Ok end) (inl (said, over, has)) = λ file told.
      let closed = over.says in
      let As : Result Opened SFault → Type 0 = λ o. MatchResult o (SaysOpened file) (NotOpened file) in
      let why : NotOpened file closed.0 = subst As closed.1 (over.opens file told) in
      ⊎_elim (λ broken. inl broken) (λ is. inr (closed_exactly once file end closed.0 (is.0, why) is.1)) (refuses_end closed.0 said written written' end closed.2 has)
  run_ends once budget left written left' written' old new (Ok end) (inr on) = λ file told.
      inr (λ f. (λ e. absurd (not_loops on.tries.how (ending.JournalRefused f) (on.tries.is ∙ ap okay e) refl), λ why. absurd (holds_none once file f why on.of (on.opens file told))))
