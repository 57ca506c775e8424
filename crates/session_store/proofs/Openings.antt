-- No bytes open in two ways.
use Rattle.session_store.proofs.Prelude.{◌≡◌, ◌∙◌, ℕ, List, Some, None, Result, Ok, Err, refl, sym, ap, subst, JFault, Reading, ReadsAs, NoSession, NotAJournal, TooManyRecords, Damaged, Event, Plan, Language, State, At, Stray, IsVocabulary, refusal_of_vocabulary, VocFault, SaysSession, Opened, opened_as, SaysOpened, OpensOnce, RefusesOpening, JournalNotOpened, replay, SFault}
use Rattle.answer_journal.specs.declared.fault.JFault.TheVariants as journal
use Rattle.answer_journal.specs.Journal.{Session}
use Rattle.answer_journal.specs.Unique.{spells_once}
use Rattle.voc_read.proofs.OneReading.{one_language}
use Rattle.voc_read.proofs.Refused.{not_refused}
use Rattle.session_store.specs.declared.fault.SFault.TheVariants as store

-- ---- what a file that isn't opened is read as

-- no bytes have two readings
abbrev pub ReadOnce : Type 0
ReadOnce = (bytes : List ℕ) (r s : Reading) → ReadsAs bytes r → ReadsAs bytes s → r ≡ s

-- how a fault of the bytes is told
abbrev fault_of : Reading → JFault
fault_of (Session plan voc events) = journal.Full
fault_of NoSession = journal.NoSession
fault_of NotAJournal = journal.NotAJournal
fault_of TooManyRecords = journal.TooManyRecords
fault_of (Damaged at) = journal.Damaged at

record ReadBadly (bytes : List ℕ) (f : JFault) : Type 0 where
  pub reading : Reading
  pub is : f ≡ fault_of reading
  pub reads : ReadsAs bytes reading

read_badly : (bytes : List ℕ) (f : JFault) → RefusesOpening bytes (store.Journal f) → ReadBadly bytes f
read_badly bytes journal.NoSession why = record { reading = NoSession; is = refl; reads = why.1 }
read_badly bytes journal.NotAJournal why = record { reading = NotAJournal; is = refl; reads = why.1 }
read_badly bytes journal.TooManyRecords why = record { reading = TooManyRecords; is = refl; reads = why.1 }
read_badly bytes (journal.Damaged at) why = record { reading = Damaged at; is = refl; reads = why.1 }
read_badly bytes journal.DiskFault why = absurd (let blame = why.0 in let no : ⊥ = cc in no)
read_badly bytes journal.SessionThere why = absurd why.1
read_badly bytes journal.Full why = absurd why.1
read_badly bytes journal.Memory why = absurd why.1

-- it says no session
says_none : ReadOnce → (bytes : List ℕ) (f : JFault) (plan : Plan) (voc : List ℕ) (events : List Event) → RefusesOpening bytes (store.Journal f) → SaysSession bytes plan voc events → ⊥
says_none once bytes f plan voc events why says =
    let bad = read_badly bytes f why in
    subst (JournalNotOpened bytes) (bad.is ∙ ap fault_of (once bytes bad.reading (Session plan voc events) bad.reads says)) why.1

same_journal : ReadOnce → (bytes : List ℕ) (f n : JFault) → RefusesOpening bytes (store.Journal f) → RefusesOpening bytes (store.Journal n) → f ≡ n
same_journal once bytes f n why other =
    let one = read_badly bytes f why in
    let two = read_badly bytes n other in
    one.is ∙ ap fault_of (once bytes one.reading two.reading one.reads two.reads) ∙ sym two.is

-- ---- its session

pub taken_refused : (voc : List ℕ) (f : VocFault) → refusal_of_vocabulary voc ≡ None → refusal_of_vocabulary voc ≡ Some f → ⊥
taken_refused voc f a b = let bad : None ≡ Some f = sym a ∙ b in cc

taken_as : (bytes : List ℕ) (p q : Plan) (v w : List ℕ) (es fs : List Event) (f : VocFault) → SaysSession bytes p v es → SaysSession bytes q w fs → refusal_of_vocabulary v ≡ None → refusal_of_vocabulary w ≡ Some f → ⊥
taken_as bytes p q v w es fs f one two taken refused =
    taken_refused v f taken (ap refusal_of_vocabulary (spells_once bytes p v es q w fs one.1 two.1).1 ∙ refused)

at_stray : (state : State) (i : ℕ) → At state ≡ Stray i → ⊥
at_stray state i e = cc

same_stray : (i j : ℕ) → Stray i ≡ Stray j → i ≡ j
same_stray i j e = cc

-- its vocabulary has one reading
lang_is : (bytes : List ℕ) (p q : Plan) (v w : List ℕ) (es fs : List Event) (l m : Language) → SaysSession bytes p v es → SaysSession bytes q w fs → IsVocabulary v l → IsVocabulary w m → l ≡ m
lang_is bytes p q v w es fs l m one two read again =
    let P : List ℕ → Type 0 = λ x. IsVocabulary x l in
    one_language w l m (subst P (spells_once bytes p v es q w fs one.1 two.1).1 read) again

-- where its events lead is one thing
replay_is : (bytes : List ℕ) (p q : Plan) (v w : List ℕ) (es fs : List Event) (l m : Language) → SaysSession bytes p v es → SaysSession bytes q w fs → IsVocabulary v l → IsVocabulary w m → replay l p es ≡ replay m q fs
replay_is bytes p q v w es fs l m one two read again =
    let same = spells_once bytes p v es q w fs one.1 two.1 in
    let lang = lang_is bytes p q v w es fs l m one two read again in
    λ i. replay (lang i) (same.0 i) (same.2 i)

-- two readings are one
pub same_session : (bytes : List ℕ) (a b : Opened) → SaysOpened bytes a → SaysOpened bytes b → a ≡ b
same_session bytes a b one two =
    let same = spells_once bytes a.plan a.voc a.events b.plan b.voc b.events one.says.1 two.says.1 in
    let lang = lang_is bytes a.plan b.plan a.voc b.voc a.events b.events a.lang b.lang one.says two.says one.session.read two.session.read in
    λ i. opened_as (same.0 i) (same.1 i) (same.2 i) (lang i)

-- ---- one way

-- bytes that are refused hold no session
pub holds_none : ReadOnce → (bytes : List ℕ) (f : SFault) (o : Opened) → RefusesOpening bytes f → SaysOpened bytes o → ⊥
holds_none once bytes (store.Journal f) o why h = says_none once bytes f o.plan o.voc o.events why h.says
holds_none once bytes (store.Voc f) o why h = let w = why.1 in taken_as bytes o.plan w.plan o.voc w.voc o.events w.events f h.says w.reads (not_refused o.voc o.lang h.session.read) w.refused
holds_none once bytes (store.Stray i) o why h =
    let w = why.1 in
    let places = h.session.places in
    at_stray places.0 i (sym places.1 ∙ replay_is bytes o.plan w.plan o.voc w.voc o.events w.events o.lang w.lang h.says w.reads h.session.read w.vocabulary ∙ w.stray)
holds_none once bytes store.Memory o why h = let blame = why.0 in cc

-- they are refused for one reason
pub only_reason : ReadOnce → (bytes : List ℕ) (f n : SFault) → RefusesOpening bytes f → RefusesOpening bytes n → f ≡ n
only_reason once bytes (store.Journal f) (store.Journal n) one two = ap (λ (x : JFault). store.Journal x) (same_journal once bytes f n one two)
only_reason once bytes (store.Journal f) (store.Voc n) one two = absurd (says_none once bytes f two.1.plan two.1.voc two.1.events one two.1.reads)
only_reason once bytes (store.Journal f) (store.Stray j) one two = absurd (says_none once bytes f two.1.plan two.1.voc two.1.events one two.1.reads)
only_reason once bytes (store.Voc f) (store.Journal n) one two = absurd (says_none once bytes n one.1.plan one.1.voc one.1.events two one.1.reads)
only_reason once bytes (store.Voc f) (store.Voc n) one two =
    let a = one.1 in let b = two.1 in
    let same = spells_once bytes a.plan a.voc a.events b.plan b.voc b.events a.reads.1 b.reads.1 in
    let told : Some f ≡ Some n = sym a.refused ∙ ap refusal_of_vocabulary same.1 ∙ b.refused in
    let is : f ≡ n = cc in
    ap (λ (x : VocFault). store.Voc x) is
only_reason once bytes (store.Voc f) (store.Stray j) one two =
    let a = one.1 in let b = two.1 in
    absurd (taken_as bytes b.plan a.plan b.voc a.voc b.events a.events f b.reads a.reads (not_refused b.voc b.lang b.vocabulary) a.refused)
only_reason once bytes (store.Stray i) (store.Journal n) one two = absurd (says_none once bytes n one.1.plan one.1.voc one.1.events two one.1.reads)
only_reason once bytes (store.Stray i) (store.Voc n) one two =
    let a = one.1 in let b = two.1 in
    absurd (taken_as bytes a.plan b.plan a.voc b.voc a.events b.events n a.reads b.reads (not_refused a.voc a.lang a.vocabulary) b.refused)
only_reason once bytes (store.Stray i) (store.Stray j) one two =
    let a = one.1 in let b = two.1 in
    ap (λ (x : ℕ). store.Stray x) (same_stray i j (sym a.stray ∙ replay_is bytes a.plan b.plan a.voc b.voc a.events b.events a.lang b.lang a.reads b.reads a.vocabulary b.vocabulary ∙ b.stray))
only_reason once bytes (store.Journal f) store.Memory one two = absurd (let blame = two.0 in let no : ⊥ = cc in no)
only_reason once bytes (store.Voc f) store.Memory one two = absurd (let blame = two.0 in let no : ⊥ = cc in no)
only_reason once bytes (store.Stray i) store.Memory one two = absurd (let blame = two.0 in let no : ⊥ = cc in no)
only_reason once bytes store.Memory n one two = absurd (let blame = one.0 in let no : ⊥ = cc in no)

pub opens_once : ReadOnce → OpensOnce
opens_once once bytes (Ok a) (Ok b) one two = ap (λ (o : Opened). let r : Result Opened SFault = Ok o in r) (same_session bytes a b one two)
opens_once once bytes (Ok a) (Err n) one two = absurd (holds_none once bytes n a two one)
opens_once once bytes (Err f) (Ok b) one two = absurd (holds_none once bytes f b one two)
opens_once once bytes (Err f) (Err n) one two = ap (λ (x : SFault). let r : Result Opened SFault = Err x in r) (only_reason once bytes f n one two)
