-- Each list of bytes opens with a session, or is refused.
use Rattle.session_store.proofs.Prelude.{◌≡◌, ℕ, false, List, Some, Result, Ok, Err, refl, ◌⊎◌, inl, inr, IfErr, Reading, ReadsAs, NoSession, NotAJournal, TooManyRecords, Damaged, Event, Plan, Language, Led, At, Stray, IsVocabulary, refusal_of_vocabulary, VocFault, SaysSession, Opened, Opens, OpensAlways, wants_memory, replay, SFault}
use Rattle.answer_journal.specs.declared.fault.JFault.TheVariants as journal
use Rattle.answer_journal.specs.Journal.{Session}
use Rattle.voc_read.specs.Want.{wants_memory as voc_wants}
use Rattle.voc_read.proofs.EachText.{each_text}
use Rattle.session_store.specs.declared.fault.SFault.TheVariants as store

-- each list of bytes has a reading
abbrev pub ReadAlways : Type 0
ReadAlways = (bytes : List ℕ) → (r : Reading) × ReadsAs bytes r

abbrev IsTold : List ℕ → Type 0
IsTold bytes = (answer : Result Opened SFault) × Opens bytes answer × IfErr answer (λ fault. wants_memory fault ≡ false)

module _ (bytes : List ℕ) (plan : Plan) (voc : List ℕ) (events : List Event) (says : SaysSession bytes plan voc events) where
  -- where its events lead
  led : (l : Language) → IsVocabulary voc l → (answer : Led) → replay l plan events ≡ answer → IsTold bytes
  led l described (At state) is =
      (Ok (record { plan = plan; voc = voc; events = events; lang = l }), record { says = says; session = record { read = described; places = (state, is) } }, tt)
  led l described (Stray i) is =
      (Err (store.Stray i), (refl, record { plan = plan; voc = voc; events = events; reads = says; lang = l; vocabulary = described; stray = is }), refl)

  session_told : ((l : Language) × IsVocabulary voc l) ⊎ ((fault : VocFault) × (voc_wants fault ≡ false) × (refusal_of_vocabulary voc ≡ Some fault)) → IsTold bytes
  session_told (inl read) = led read.0 read.1 (replay read.0 plan events) refl
  session_told (inr told) = (Err (store.Voc told.0), (refl, record { plan = plan; voc = voc; events = events; reads = says; refused = told.2 }), told.1)

told : (bytes : List ℕ) (r : Reading) → ReadsAs bytes r → IsTold bytes
told bytes (Session plan voc events) reads = session_told bytes plan voc events reads (each_text voc)
told bytes NoSession reads = (Err (store.Journal journal.NoSession), (refl, reads), refl)
told bytes NotAJournal reads = (Err (store.Journal journal.NotAJournal), (refl, reads), refl)
told bytes TooManyRecords reads = (Err (store.Journal journal.TooManyRecords), (refl, reads), refl)
told bytes (Damaged at) reads = (Err (store.Journal (journal.Damaged at)), (refl, reads), refl)

pub opens_always : ReadAlways → OpensAlways
opens_always always bytes = let read = always bytes in told bytes read.0 read.1
