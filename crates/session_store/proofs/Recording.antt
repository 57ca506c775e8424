-- The records of the answers that stand.
use Rattle.session_store.proofs.Prelude.{◌≡◌, ℕ, true, false, ◌+◌, ◌-◌, ◌<◌, ◌≤◌, List, [], ◌∷◌, ◌++◌, length, map, get_or, take, drop, Option, Some, None, refl, sym, ◌∙◌, ap, arith, length-append, append_assoc, All, is_some, option_to_list, map-append, length-map, take-map, get_or-map, drop_all, take-append_seam, get_or-append_seam, All-nil, All-cons, All-append, All-take, All-get_or, Answer, without_last, standing_from, standing, cut_to, Event, Language, variable_count, standing_on, Recorded, recorded_from, recorded, empty_back_from, empty_back, seen, all_seen, standing_numbers, AreStandingNumbers, HoldsAnswer, RecordsAreAnswers, IsEmptyBack}
use Rattle.std.specs.Prelude.{Bool}
use Rattle.assign.specs.Assignment.{Assignment}
use Rattle.assign.specs.declared.events.Event.TheVariants as variant
use Rattle.answer_journal.specs.EventList.{is_back}
use Rattle.session_store.proofs.Replaying.{drop_next}

-- the parts of a record of an answer
abbrev answer_of : Recorded → Answer
answer_of a = a.answer

abbrev number_of : Recorded → ℕ
number_of a = a.number

-- the last one is left out of both
shorter_map : {X Y : Type 0} (f : X → Y) (xs : List X) → map f (take (length xs - 1) xs) ≡ take (length (map f xs) - 1) (map f xs)
shorter_map f xs = sym (take-map f (length xs - 1) xs) ∙ ap (λ n. take (n - 1) (map f xs)) (sym (length-map xs f))

-- ---- without the numbers they are the answers that stand

answers_stand : (before : List Recorded) (number : ℕ) (events : List Event) → map answer_of (recorded_from before number events) ≡ standing_from (map answer_of before) events
answers_stand before number [] = refl
answers_stand before number (variant.Answer q y ∷ more) =
    let a : Answer = record { question = q; yes = y } in
    let r : Recorded = record { answer = a; number = number } in
    answers_stand (before ++ r ∷ []) (number + 1) more ∙ ap (λ t. standing_from t more) (map-append answer_of before (r ∷ []))
answers_stand before number (variant.Back ∷ more) =
    answers_stand (take (length before - 1) before) (number + 1) more ∙ ap (λ t. standing_from t more) (shorter_map answer_of before)

pub recorded_stand : (events : List Event) → map answer_of (recorded events) ≡ standing events
recorded_stand events = answers_stand [] 1 events

cut_answers : (n : ℕ) (all : List Recorded) → all_seen n all ≡ cut_to n (map answer_of all)
cut_answers n [] = refl
cut_answers n (a ∷ all) = ap (λ t. seen n a.answer ∷ t) (cut_answers n all)

-- as a session sees them
pub recorded_seen : (l : Language) (events : List Event) → all_seen (variable_count l) (recorded events) ≡ standing_on l events
recorded_seen l events = cut_answers (variable_count l) (recorded events) ∙ ap (cut_to (variable_count l)) (recorded_stand events)

-- ---- each record holds its answer

held_from : (all past : List Event) (before : List Recorded) (number : ℕ) (events : List Event) → all ≡ past ++ events → number ≡ length past + 1 → All (HoldsAnswer all) before → All (HoldsAnswer all) (recorded_from before number events)
held_from all past before number [] is count held = held
held_from all past before number (variant.Answer q y ∷ more) is count held =
    let e : Event = variant.Answer q y in
    let r : Recorded = record { answer = record { question = q; yes = y }; number = number } in
    let here : HoldsAnswer all r = record { front = past; more = more; is = is; count = count } in
    held_from all (past ++ e ∷ []) (before ++ r ∷ []) (number + 1) more (is ∙ sym (append_assoc past (e ∷ []) more)) (omega (arith, count, length-append past (e ∷ [])))
    (All-append (HoldsAnswer all) before (r ∷ []) held (All-cons (HoldsAnswer all) r [] here (All-nil (HoldsAnswer all))))
held_from all past before number (variant.Back ∷ more) is count held =
    let e : Event = variant.Back in
    held_from all (past ++ e ∷ []) (take (length before - 1) before) (number + 1) more (is ∙ sym (append_assoc past (e ∷ []) more)) (omega (arith, count, length-append past (e ∷ [])))
    (All-take (HoldsAnswer all) (length before - 1) before held)

pub recorded_held : (events : List Event) → All (HoldsAnswer events) (recorded events)
recorded_held events = held_from events [] [] 1 events refl (omega arith) (All-nil (HoldsAnswer events))

pub records_are_answers : RecordsAreAnswers
records_are_answers events = record { stand = recorded_stand events; held = recorded_held events }

-- where a record is found
pub record FoundAt (events : List Event) (a : Recorded) (d : Event) : Type 0 where
  pub low : 1 ≤ a.number
  pub high : a.number ≤ length events
  pub event : get_or events (a.number - 1) d ≡ variant.Answer a.answer.question a.answer.yes

pub found_at : (events : List Event) (a : Recorded) (d : Event) → HoldsAnswer events a → FoundAt events a d
found_at events a d held =
    let e : Event = variant.Answer a.answer.question a.answer.yes in
    let size = ap length held.is in
    let more = length-append held.front (e ∷ held.more) in
    let count = held.count in
    let at : a.number - 1 ≡ length held.front = omega arith in
    record {
      low = omega arith;
      high = omega arith;
      event = ap (λ n. get_or events n d) at ∙ ap (λ (xs : List Event). get_or xs (length held.front) d) held.is ∙ get_or-append_seam held.front e held.more d;
    }

-- The record of the answer of this place is in range, and its event is found there.
pub record RecordAt (events : List Event) (number j : ℕ) (e : Event) (r : Recorded) : Type 0 where
  pub few : j < length (recorded events)
  pub number_is : number ≡ (get_or (recorded events) j r).number
  pub low : 1 ≤ number
  pub high : number ≤ length events
  pub event : get_or events (number - 1) e ≡ variant.Answer (get_or (recorded events) j r).answer.question (get_or (recorded events) j r).answer.yes

pub record_at : (events : List Event) (numbers : List ℕ) (j d : ℕ) (e : Event) (r : Recorded) → numbers ≡ standing_numbers events → j < length numbers → RecordAt events (get_or numbers j d) j e r
record_at events numbers j d e r is low =
    let size : length numbers ≡ length (recorded events) = ap length is ∙ length-map (recorded events) number_of in
    let few : j < length (recorded events) = omega (arith, size, low) in
    let a : Recorded = get_or (recorded events) j r in
    let same : get_or numbers j d ≡ a.number = ap (λ (xs : List ℕ). get_or xs j d) is ∙ get_or-map number_of (recorded events) j r d few in
    let found = found_at events a e (All-get_or (HoldsAnswer events) (recorded events) j r few (recorded_held events)) in
    let first = found.low in
    let last = found.high in
    record { few = few; number_is = same; low = omega (arith, same, first); high = omega (arith, same, last); event = ap (λ n. get_or events (n - 1) e) same ∙ found.event }

-- ---- one event more

pub recorded_from-append : (before : List Recorded) (number : ℕ) (past more : List Event) →
    (n : ℕ) × (recorded_from before number (past ++ more) ≡ recorded_from (recorded_from before number past) n more)
recorded_from-append before number [] more = (number, refl)
recorded_from-append before number (variant.Answer q y ∷ past) more =
    recorded_from-append (before ++ (let r : Recorded = record { answer = record { question = q; yes = y }; number = number } in r) ∷ []) (number + 1) past more
recorded_from-append before number (variant.Back ∷ past) more = recorded_from-append (take (length before - 1) before) (number + 1) past more

-- a take-back takes the last record
pub recorded_back : (events : List Event) → recorded (events ++ variant.Back ∷ []) ≡ take (length (recorded events) - 1) (recorded events)
recorded_back events = (recorded_from-append [] 1 events (variant.Back ∷ [])).1

-- what `pop` gave was the last
pub popped_one : (all rest : List ℕ) (r : Option ℕ) → all ≡ rest ++ option_to_list r → is_some r ≡ true → (x : ℕ) × (all ≡ rest ++ x ∷ [])
popped_one all rest (Some x) is some = (x, is)
popped_one all rest None is some = absurd (let bad : false ≡ true = some in cc)

-- all but the last
popped_is : {X : Type 0} (all rest : List X) (x : X) → all ≡ rest ++ x ∷ [] → rest ≡ take (length all - 1) all
popped_is all rest x is =
    let size = ap length is in
    let more = length-append rest (x ∷ []) in
    let short : length all - 1 ≡ length rest = omega arith in
    sym (ap (λ n. take n all) short ∙ ap (take (length rest)) is ∙ take-append_seam rest (x ∷ []))

-- without the last they are those that a take-back leaves
pub numbers_back : (events : List Event) (numbers : List ℕ) → numbers ≡ standing_numbers events → take (length numbers - 1) numbers ≡ standing_numbers (events ++ variant.Back ∷ [])
numbers_back events numbers is =
    ap (λ (xs : List ℕ). take (length xs - 1) xs) is ∙ sym (shorter_map number_of (recorded events)) ∙ ap (map number_of) (sym (recorded_back events))

-- ---- take-backs that find an answer

pub empty_back_from-append : (before : List Answer) (number : ℕ) (past more : List Event) → empty_back_from before number past ≡ None →
    (n : ℕ) × (empty_back_from before number (past ++ more) ≡ empty_back_from (standing_from before past) n more)
empty_back_from-append before number [] more none = (number, refl)
empty_back_from-append before number (variant.Answer q y ∷ past) more none =
    empty_back_from-append (before ++ (let a : Answer = record { question = q; yes = y } in a) ∷ []) (number + 1) past more none
empty_back_from-append [] number (variant.Back ∷ past) more none = absurd (let bad : Some number ≡ None = none in cc)
empty_back_from-append (a ∷ before) number (variant.Back ∷ past) more none = empty_back_from-append (without_last (a ∷ before)) (number + 1) past more none

pub answers_find : (events : List Event) (q : _) (y : _) → empty_back events ≡ None → empty_back (events ++ variant.Answer q y ∷ []) ≡ None
answers_find events q y none = (empty_back_from-append [] 1 events (variant.Answer q y ∷ []) none).1

pub back_finds : (events : List Event) → empty_back events ≡ None → (standing events ≡ [] → ⊥) → empty_back (events ++ variant.Back ∷ []) ≡ None
back_finds events none some =
    let on = empty_back_from-append [] 1 events (variant.Back ∷ []) none in
    on.1 ∙ go (standing events) on.0 some
  where
    go : (t : List Answer) (n : ℕ) → (t ≡ [] → ⊥) → empty_back_from t n (variant.Back ∷ []) ≡ None
    go [] n some = absurd (some refl)
    go (a ∷ t) n some = refl

-- the first one that finds none
record EmptyFrom (before : List Answer) (start : ℕ) (events : List Event) (number : ℕ) : Type 0 where
  front : List Event
  more : List Event
  is : events ≡ front ++ variant.Back ∷ more
  count : number ≡ start + length front
  none : standing_from before front ≡ []
  found : empty_back_from before start front ≡ None

empty_from : (before : List Answer) (start : ℕ) (events : List Event) (number : ℕ) → empty_back_from before start events ≡ Some number → EmptyFrom before start events number
empty_from before start [] number e = absurd (let bad : None ≡ Some number = e in cc)
empty_from before start (variant.Answer q y ∷ more) number e =
    let f = empty_from (before ++ (let a : Answer = record { question = q; yes = y } in a) ∷ []) (start + 1) more number e in
    record { front = variant.Answer q y ∷ f.front; more = f.more; is = ap (λ (xs : List Event). variant.Answer q y ∷ xs) f.is; count = omega (arith, f.count); none = f.none; found = f.found }
empty_from [] start (variant.Back ∷ more) number e =
    record { front = []; more = more; is = refl; count = let same : start ≡ number = cc in omega (arith, same); none = refl; found = refl }
empty_from (a ∷ before) start (variant.Back ∷ more) number e =
    let f = empty_from (without_last (a ∷ before)) (start + 1) more number e in
    record { front = variant.Back ∷ f.front; more = f.more; is = ap (λ (xs : List Event). variant.Back ∷ xs) f.is; count = omega (arith, f.count); none = f.none; found = f.found }

pub empty_back_is : (events : List Event) (number : ℕ) → empty_back events ≡ Some number → IsEmptyBack events number
empty_back_is events number e =
    let f = empty_from [] 1 events number e in
    record { front = f.front; more = f.more; is = f.is; count = omega (arith, f.count); none = f.none; found = f.found }

-- ---- counting the records

pub an_answer : (e : Event) → is_back e ≡ false → (q : Assignment) × (y : Bool) × (e ≡ variant.Answer q y)
an_answer (variant.Answer q y) is = (q, y, refl)
an_answer variant.Back is = absurd (let bad : true ≡ false = is in cc)

pub a_back : (e : Event) → is_back e ≡ true → e ≡ variant.Back
a_back (variant.Answer q y) is = absurd (let bad : false ≡ true = is in cc)
a_back variant.Back is = refl

pub none_counted : (events : List Event) → AreStandingNumbers events 0 []
none_counted events = record { before = []; is = refl; stand = refl; backs = refl }

pub answer_counted : (events : List Event) (i : ℕ) (numbers : List ℕ) (q : _) (y : _) (d : Event) → i < length events → get_or events i d ≡ variant.Answer q y → AreStandingNumbers events i numbers → AreStandingNumbers events (i + 1) (numbers ++ (i + 1) ∷ [])
answer_counted events i numbers q y d low at counted =
    let r : Recorded = record { answer = record { question = q; yes = y }; number = i + 1 } in
    let here : drop i events ≡ variant.Answer q y ∷ drop (i + 1) events = drop_next events i d low ∙ ap (λ (e : Event). e ∷ drop (i + 1) events) at in
    record {
      before = counted.before ++ r ∷ [];
      is = ap (λ (xs : List ℕ). xs ++ (i + 1) ∷ []) counted.is ∙ sym (map-append number_of counted.before (r ∷ []));
      stand = counted.stand ∙ ap (recorded_from counted.before (i + 1)) here;
      backs = counted.backs ∙ ap (empty_back_from (map answer_of counted.before) (i + 1)) here ∙ ap (λ t. empty_back_from t (i + 1 + 1) (drop (i + 1) events)) (sym (map-append answer_of counted.before (r ∷ [])));
    }

pub back_counted : (events : List Event) (i : ℕ) (numbers rest : List ℕ) (x : ℕ) (d : Event) → i < length events → get_or events i d ≡ variant.Back → numbers ≡ rest ++ x ∷ [] → AreStandingNumbers events i numbers → AreStandingNumbers events (i + 1) rest
back_counted events i numbers rest x d low at popped counted =
    let here : drop i events ≡ variant.Back ∷ drop (i + 1) events = drop_next events i d low ∙ ap (λ (e : Event). e ∷ drop (i + 1) events) at in
    record {
      before = take (length counted.before - 1) counted.before;
      is = popped_is numbers rest x popped ∙ ap (λ (xs : List ℕ). take (length xs - 1) xs) counted.is ∙ sym (shorter_map number_of counted.before);
      stand = counted.stand ∙ ap (recorded_from counted.before (i + 1)) here;
      backs = counted.backs ∙ ap (empty_back_from (map answer_of counted.before) (i + 1)) here ∙ finds counted.before (popped_some counted.before (sym counted.is ∙ popped));
    }
  where
    popped_some : (before : List Recorded) → map number_of before ≡ rest ++ x ∷ [] → before ≡ [] → ⊥
    popped_some before is none =
        let size = ap length (sym is ∙ ap (map number_of) none) in
        let more = length-append rest (x ∷ []) in
        let no : ⊥ = omega arith in
        no

    finds : (before : List Recorded) → (before ≡ [] → ⊥) →
        empty_back_from (map answer_of before) (i + 1) (variant.Back ∷ drop (i + 1) events) ≡ empty_back_from (map answer_of (take (length before - 1) before)) (i + 1 + 1) (drop (i + 1) events)
    finds [] some = absurd (some refl)
    finds (a ∷ before) some = ap (λ t. empty_back_from t (i + 1 + 1) (drop (i + 1) events)) (sym (shorter_map answer_of (a ∷ before)))

pub back_is_empty : (events : List Event) (i : ℕ) (d : Event) → i < length events → get_or events i d ≡ variant.Back → AreStandingNumbers events i [] → empty_back events ≡ Some (i + 1)
back_is_empty events i d low at counted =
    let here : drop i events ≡ variant.Back ∷ drop (i + 1) events = drop_next events i d low ∙ ap (λ (e : Event). e ∷ drop (i + 1) events) at in
    counted.backs ∙ ap (empty_back_from (map answer_of counted.before) (i + 1)) here ∙ none_stand counted.before counted.is
  where
    none_stand : (before : List Recorded) → [] ≡ map number_of before → empty_back_from (map answer_of before) (i + 1) (variant.Back ∷ drop (i + 1) events) ≡ Some (i + 1)
    none_stand [] is = refl
    none_stand (a ∷ before) is = absurd (let bad : 0 ≡ length (map number_of (a ∷ before)) = ap length is in let no : ⊥ = omega arith in no)

pub all_counted : (events : List Event) (i : ℕ) (numbers : List ℕ) → length events ≤ i → AreStandingNumbers events i numbers → (numbers ≡ standing_numbers events) × (empty_back events ≡ None)
all_counted events i numbers past counted =
    let end : drop i events ≡ [] = drop_all i events past in (
      counted.is ∙ ap (map number_of) (sym (counted.stand ∙ ap (recorded_from counted.before (i + 1)) end)),
      counted.backs ∙ ap (empty_back_from (map answer_of counted.before) (i + 1)) end,
    )
