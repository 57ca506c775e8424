-- The entries of events: each is read back, and where it stands.
use Rattle.answer_journal.proofs.Prelude.{◌≡◌, ℕ, zero, suc, ◌+◌, ◌-◌, ◌*◌, ◌<◌, ◌≤◌, Bool, true, false, List, [], ◌∷◌, ◌++◌, length, get_or, take, drop, flat_map, All, Option, Some, refl, sym, ◌∙◌, ap, subst, arith, append-nil, length-append, take_at, drop_at, drop-drop, Event, Answer, Back, pairs_from, IsStorable, IsStorableEvent, options_at, options_again, pairs_size, given_few}
use Rattle.std.proofs.lemmas.List.{take-take}
use Rattle.std.proofs.lemmas.List.Concat.{flat_map-append}
use Rattle.std.proofs.lemmas.List.Elements.{All-nil, All-cons, All-append}
use Rattle.std.proofs.lemmas.Bool.{and_parts, leb-true, ltb-true}
use Rattle.std.specs.Prelude.{slice_range, nat_le, nat_lt, ◌&&◌}
use Rattle.answer_journal.specs.EventList.{EventList, entry_bytes, answer_saying, event_in, events_from, ends_from, AreKept}

-- ---- one entry

question_again : (q : List (Option ℕ)) → IsStorable q → options_at 128 0 (pairs_from 0 q) ≡ Some q
question_again q fits = subst (λ (n : ℕ). options_at n 0 (pairs_from 0 q) ≡ Some q) fits.size (options_again q 0 fits.values_fit)

pub event_again : (e : Event) → IsStorableEvent e → event_in (entry_bytes e) ≡ e
event_again (Answer q true) fits = ap (answer_saying true) (question_again q fits)
event_again (Answer q false) fits = ap (answer_saying false) (question_again q fits)
event_again Back fits = refl

pub entry_size : (e : Event) → IsStorableEvent e → length (entry_bytes e) ≤ 257
entry_size (Answer q said) fits = omega (arith, pairs_size 0 q, given_few q, fits.size)
entry_size Back fits = omega arith

-- ---- the entries of many

-- where the first so many end
abbrev pub place_after : ℕ → List Event → ℕ
place_after count events = length (flat_map entry_bytes (take count events))

pub entries_size : (events : List Event) → All IsStorableEvent events → length (flat_map entry_bytes events) ≤ 257 * length events
entries_size [] fit = omega arith
entries_size (e ∷ events) fit =
    omega (arith, entry_size e (fit 0 e (omega arith)), entries_size events (λ k d low. fit (suc k) d (omega (arith, low))), length-append (entry_bytes e) (flat_map entry_bytes events))

seen_from : (start : ℕ) (events : List Event) → All IsStorableEvent events → events_from start (flat_map entry_bytes events) (ends_from start events) ≡ events
seen_from start [] fit = refl
seen_from start (e ∷ events) fit =
    let n = length (entry_bytes e) in
    let rest = flat_map entry_bytes events in
    let size : n ≡ start + n - start = omega arith in
    (λ i. event_in (take_at (entry_bytes e) rest (start + n - start) size i) ∷ events_from (start + n) (drop_at (entry_bytes e) rest (start + n - start) size i) (ends_from (start + n) events))
    ∙ (λ i. event_again e (fit 0 e (omega arith)) i ∷ seen_from (start + n) events (λ k d low. fit (suc k) d (omega (arith, low))) i)

pub seen_kept : (bytes ends : List ℕ) (events : List Event) → AreKept bytes ends events → events_from 0 bytes ends ≡ events
seen_kept bytes ends events kept = (λ i. events_from 0 (kept.bytes_are i) (kept.ends_are i)) ∙ seen_from 0 events kept.storable

pub kept_seen : (bytes ends : List ℕ) (events : List Event) → AreKept bytes ends events → AreKept bytes ends (events_from 0 bytes ends)
kept_seen bytes ends events kept = subst (AreKept bytes ends) (sym (seen_kept bytes ends events kept)) kept

ends-push : (start : ℕ) (events : List Event) (e : Event) → ends_from start (events ++ e ∷ []) ≡ ends_from start events ++ (start + length (flat_map entry_bytes (events ++ e ∷ []))) ∷ []
ends-push start [] e = ap (λ (n : ℕ). (start + n) ∷ []) (ap length (sym (append-nil (entry_bytes e))))
ends-push start (f ∷ events) e =
    let n = length (entry_bytes f) in
    let rest = flat_map entry_bytes (events ++ e ∷ []) in
    let same : start + n + length rest ≡ start + length (entry_bytes f ++ rest) = omega (arith, length-append (entry_bytes f) rest) in
    ap (λ (l : List ℕ). (start + n) ∷ l) (ends-push (start + n) events e ∙ ap (λ (k : ℕ). ends_from (start + n) events ++ k ∷ []) same)

-- one more
pub kept-push : (bytes ends : List ℕ) (events : List Event) (e : Event) → AreKept bytes ends events → IsStorableEvent e
    → AreKept (bytes ++ entry_bytes e) (ends ++ length (bytes ++ entry_bytes e) ∷ []) (events ++ e ∷ [])
kept-push bytes ends events e kept fits =
    let are : bytes ++ entry_bytes e ≡ flat_map entry_bytes (events ++ e ∷ []) =
    ap (λ (l : List ℕ). l ++ entry_bytes e) kept.bytes_are
    ∙ sym (flat_map-append entry_bytes events (e ∷ []) ∙ ap (λ (l : List ℕ). flat_map entry_bytes events ++ l) (append-nil (entry_bytes e))) in
    let front : length (flat_map entry_bytes (events ++ e ∷ [])) ≡ 0 + length (flat_map entry_bytes (events ++ e ∷ [])) = omega arith in
    record {
      bytes_are = are;
      ends_are = (λ i. kept.ends_are i ++ length (are i) ∷ []) ∙ ap (λ (n : ℕ). ends_from 0 events ++ n ∷ []) front ∙ sym (ends-push 0 events e);
      storable = All-append IsStorableEvent events (e ∷ []) kept.storable (All-cons IsStorableEvent e [] fits (All-nil IsStorableEvent));
    }

-- ---- where an entry stands

pub count_kept : (start : ℕ) (events : List Event) → length (ends_from start events) ≡ length events
count_kept start [] = refl
count_kept start (e ∷ events) = ap suc (count_kept (start + length (entry_bytes e)) events)

ends_at : (start : ℕ) (events : List Event) (k d : ℕ) → k < length events → get_or (ends_from start events) k d ≡ start + place_after (suc k) events
ends_at start [] k d low = absurd (omega (arith, low))
ends_at start (e ∷ events) zero d low = omega (arith, length-append (entry_bytes e) [])
ends_at start (e ∷ events) (suc k) d low =
    let more = ends_at (start + length (entry_bytes e)) events k d (omega (arith, low)) in
    omega (arith, more, length-append (entry_bytes e) (flat_map entry_bytes (take (suc k) events)))

pub end_at : (bytes ends : List ℕ) (events : List Event) (count d : ℕ) → AreKept bytes ends events → (count ≡ 0 → ⊥) → count ≤ length events → get_or ends (count - 1) d ≡ place_after count events
end_at bytes ends events count d kept some few =
    let one : suc (count - 1) ≡ count = omega (arith, some) in
    let first = ap (λ (l : List ℕ). get_or l (count - 1) d) kept.ends_are in
    let here = ends_at 0 events (count - 1) d (omega (arith, some, few)) in
    let same = ap (λ (k : ℕ). place_after k events) one in
    omega (arith, first, here, same)

pub within : (count : ℕ) (events : List Event) → place_after count events ≤ length (flat_map entry_bytes events)
within zero events = omega arith
within (suc k) [] = omega arith
within (suc k) (e ∷ events) = omega (arith, within k events, length-append (entry_bytes e) (flat_map entry_bytes (take k events)), length-append (entry_bytes e) (flat_map entry_bytes events))

pub rises : (k : ℕ) (events : List Event) → place_after k events ≤ place_after (k + 1) events
rises k events = subst (λ (l : List Event). length (flat_map entry_bytes l) ≤ place_after (k + 1) events) (take-take k (k + 1) events (omega arith)) (within k (take (k + 1) events))

entry_from : (events : List Event) (i : ℕ) (d : Event) (from to : ℕ) → i < length events → from ≡ place_after i events → to ≡ place_after (suc i) events
    → slice_range (flat_map entry_bytes events) from to ≡ entry_bytes (get_or events i d)
entry_from [] i d from to low f t = absurd (omega (arith, low))
entry_from (e ∷ events) zero d from to low f t =
    let rest = flat_map entry_bytes events in
    let size : length (entry_bytes e) ≡ to - 0 = omega (arith, t, length-append (entry_bytes e) []) in
    ap (λ (k : ℕ). take (to - k) (drop k (entry_bytes e ++ rest))) f ∙ take_at (entry_bytes e) rest (to - 0) size
entry_from (e ∷ events) (suc i) d from to low f t =
    let rest = flat_map entry_bytes events in
    let n = length (entry_bytes e) in
    let a = place_after i events in
    let b = place_after (suc i) events in
    let first : from ≡ n + a = omega (arith, f, length-append (entry_bytes e) (flat_map entry_bytes (take i events))) in
    let size : to - from ≡ b - a = omega (arith, first, t, length-append (entry_bytes e) (flat_map entry_bytes (take (suc i) events))) in
    ap (λ (k : ℕ). take (to - from) (drop k (entry_bytes e ++ rest))) first
    ∙ ap (λ (l : List ℕ). take (to - from) l) (sym (drop-drop a n (entry_bytes e ++ rest)))
    ∙ ap (λ (l : List ℕ). take (to - from) (drop a l)) (drop_at (entry_bytes e) rest n refl)
    ∙ ap (λ (k : ℕ). take k (drop a rest)) size
    ∙ entry_from events i d a b (omega (arith, low)) refl refl

pub entry_at : (bytes ends : List ℕ) (events : List Event) (i : ℕ) (d : Event) (from to : ℕ) → AreKept bytes ends events → i < length events → from ≡ place_after i events → to ≡ place_after (i + 1) events
    → slice_range bytes from to ≡ entry_bytes (get_or events i d)
entry_at bytes ends events i d from to kept low f t =
    let one : i + 1 ≡ suc i = omega arith in
    ap (λ (l : List ℕ). slice_range l from to) kept.bytes_are ∙ entry_from events i d from to low f (t ∙ ap (λ (k : ℕ). place_after k events) one)

-- ---- the fields

-- they keep what is seen of them
pub kept_in : (bytes ends : List ℕ) (room : Bool) (seen : EventList) → (let x : EventList = record { items = events_from 0 bytes ends; has_room = room } in x) ≡ seen → AreKept bytes ends (events_from 0 bytes ends) → AreKept bytes ends seen.items
kept_in bytes ends room seen is kept = subst (λ (x : EventList). AreKept bytes ends x.items) is kept

-- so much room there is where one more takes no memory
pub room_in : (bytes ends : List ℕ) (len most size room : ℕ) (seen : EventList)
    → (let x : EventList = record { items = events_from 0 bytes ends; has_room = nat_lt len most && nat_le (size + 257) room } in x) ≡ seen → seen.has_room ≡ true → (len < most) × (size + 257 ≤ room)
room_in bytes ends len most size room seen is there =
    let both = and_parts (nat_lt len most) (nat_le (size + 257) room) (ap (λ (x : EventList). x.has_room) is ∙ there) in
    (ltb-true len most both.0, leb-true (size + 257) room both.1)

pub kept_more : (bytes ends bytes' ends' : List ℕ) (events : List Event) (e : Event) (end : ℕ) → AreKept bytes ends events → IsStorableEvent e
    → bytes' ≡ bytes ++ entry_bytes e → end ≡ length bytes' → ends' ≡ ends ++ end ∷ [] → AreKept bytes' ends' (events ++ e ∷ [])
kept_more bytes ends bytes' ends' events e end kept fits more place ended =
    let pushed = kept-push bytes ends events e kept fits in
    record {
      bytes_are = more ∙ pushed.bytes_are;
      ends_are = ended ∙ ap (λ (n : ℕ). ends ++ n ∷ []) (place ∙ ap length more) ∙ pushed.ends_are;
      storable = pushed.storable;
    }
