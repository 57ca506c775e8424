-- Whether a whole record stands somewhere is a fact of the bytes.
use Rattle.answer_journal.proofs.Prelude.{◌≡◌, ℕ, zero, suc, ◌^◌, ◌<◌, ◌≤◌, Bool, true, false, List, [], ◌∷◌, ◌++◌, length, get_or, take, drop, Option, Some, None, refl, sym, ◌∙◌, ap, subst, arith, ◌⊎◌, inl, inr, length-append, take-append-drop, w32, to_be_bytes, from_be_bytes, cases_eq, cases_lt, cases_Bool, length-take, length-drop, Plan, Answer, Back, Record, Added, Raising, MOST_VOCABULARY, valued_count, tail_bytes, plan_byte, session_tail, pairs_from, said_byte, answer_payload, kind_byte, record_payload, record_tail, IsStorableSession, IsStorable, MayFollow, options_at, options_sound, options_again, tail_once, payload_small}
use Rattle.std.proofs.lemmas.Nat.{from_be_bytes-to_be_bytes_4}
use Rattle.assign.specs.declared.events.Plan.TheVariants.{Scopes, Quacq, Multi}

-- it is so, or it isn't
abbrev pub Decided : Type 0 → Type 0
Decided P = P ⊎ (P → ⊥)

-- ---- Lists

tail_same : (x y : ℕ) (xs ys : List ℕ) → x ∷ xs ≡ y ∷ ys → xs ≡ ys
tail_same x y xs ys e = ap (λ (l : List ℕ). drop 1 l) e

longer : (x y : ℕ) (xs ys : List ℕ) → Decided (x ≡ y) → Decided (xs ≡ ys) → Decided (x ∷ xs ≡ y ∷ ys)
longer x y xs ys (inl same) (inl more) = inl (λ i. same i ∷ more i)
longer x y xs ys (inl same) (inr other) = inr (λ e. other (tail_same x y xs ys e))
longer x y xs ys (inr other) rest = inr (λ e. other (ap (λ (l : List ℕ). get_or l 0 0) e))

pub same_list : (xs ys : List ℕ) → Decided (xs ≡ ys)
same_list [] [] = inl refl
same_list [] (y ∷ ys) = inr (λ e. let bad : ⊥ = cc in bad)
same_list (x ∷ xs) [] = inr (λ e. let bad : ⊥ = cc in bad)
same_list (x ∷ xs) (y ∷ ys) = longer x y xs ys (cases_eq x y) (same_list xs ys)

-- ---- A kind, a length and a payload of that length

record HasParts (bytes : List ℕ) : Type 0 where
  pub kind : ℕ
  pub payload : List ℕ
  pub gate : ℕ
  pub behind : List ℕ
  pub small : length payload < 2 ^ 32
  pub is : bytes ≡ tail_bytes kind payload ++ gate ∷ behind

-- behind a kind and the four bytes of a length
five_first : (k a b c d : ℕ) (rest : List ℕ) → HasParts (k ∷ a ∷ b ∷ c ∷ d ∷ rest) →
    (size : ℕ) × (size < 2 ^ 32) × (size < length rest) × (to_be_bytes w32 size ≡ a ∷ b ∷ c ∷ d ∷ []) × (size ≡ from_be_bytes w32 (a ∷ b ∷ c ∷ d ∷ []))
five_first k a b c d rest has =
    let size : to_be_bytes w32 (length has.payload) ≡ a ∷ b ∷ c ∷ d ∷ [] = sym (ap (λ (l : List ℕ). take 4 (drop 1 l)) has.is) in
    let behind : rest ≡ has.payload ++ has.gate ∷ has.behind = ap (λ (l : List ℕ). drop 5 l) has.is in (
      length has.payload,
      has.small,
      omega (arith, ap length behind, length-append has.payload (has.gate ∷ has.behind)),
      size,
      sym (from_be_bytes-to_be_bytes_4 (length has.payload) has.small) ∙ ap (from_be_bytes w32) size,
    )

some_first : (xs : List ℕ) → 0 < length xs → (x : ℕ) × (more : List ℕ) × (xs ≡ x ∷ more)
some_first [] some = absurd (omega arith)
some_first (x ∷ xs) some = (x, xs, refl)

parts : (k a b c d : ℕ) (rest : List ℕ) (size : ℕ) → size < 2 ^ 32 → size < length rest → to_be_bytes w32 size ≡ a ∷ b ∷ c ∷ d ∷ [] → HasParts (k ∷ a ∷ b ∷ c ∷ d ∷ rest)
parts k a b c d rest size small low is =
    let long : length (take size rest) ≡ size = grind (arith, length-take) in
    let gate = some_first (drop size rest) (omega (arith, length-drop size rest, low)) in
    let cut : rest ≡ take size rest ++ gate.0 ∷ gate.1 = sym (take-append-drop size rest) ∙ ap (λ (l : List ℕ). take size rest ++ l) gate.2 in
    record {
      kind = k;
      payload = take size rest;
      gate = gate.0;
      behind = gate.1;
      small = omega (arith, small, long);
      is = ap (λ (l : List ℕ). k ∷ a ∷ b ∷ c ∷ d ∷ l) cut ∙ (λ i. k ∷ ((sym is ∙ ap (to_be_bytes w32) (sym long)) i ++ (take size rest ++ gate.0 ∷ gate.1)));
    }

parts_in : (bytes : List ℕ) → Decided (HasParts bytes)
parts_in [] = inr (λ has. let e = has.is in let bad : ⊥ = cc in bad)
parts_in (k ∷ []) = inr (λ has. let e = ap length has.is in let bad : ⊥ = omega (arith, e) in bad)
parts_in (k ∷ a ∷ []) = inr (λ has. let e = ap length has.is in let bad : ⊥ = omega (arith, e) in bad)
parts_in (k ∷ a ∷ b ∷ []) = inr (λ has. let e = ap length has.is in let bad : ⊥ = omega (arith, e) in bad)
parts_in (k ∷ a ∷ b ∷ c ∷ []) = inr (λ has. let e = ap length has.is in let bad : ⊥ = omega (arith, e) in bad)
parts_in (k ∷ a ∷ b ∷ c ∷ d ∷ rest) =
    go (cases_lt size (2 ^ 32)) (cases_lt size (length rest)) (same_list (to_be_bytes w32 size) (a ∷ b ∷ c ∷ d ∷ []))
  where
    size : ℕ
    size = from_be_bytes w32 (a ∷ b ∷ c ∷ d ∷ [])

    go : (size < 2 ^ 32) ⊎ (2 ^ 32 ≤ size) → (size < length rest) ⊎ (length rest ≤ size) → Decided (to_be_bytes w32 size ≡ a ∷ b ∷ c ∷ d ∷ []) → Decided (HasParts (k ∷ a ∷ b ∷ c ∷ d ∷ rest))
    go (inl small) (inl low) (inl is) = inl (parts k a b c d rest size small low is)
    go (inl small) (inl low) (inr other) = inr (λ has. let p = five_first k a b c d rest has in other (subst (λ n. to_be_bytes w32 n ≡ a ∷ b ∷ c ∷ d ∷ []) p.4 p.3))
    go (inl small) (inr high) same = inr (λ has. let p = five_first k a b c d rest has in let e = p.4 in let low = p.2 in let bad : ⊥ = omega (arith, e, low, high) in bad)
    go (inr large) low same = inr (λ has. let p = five_first k a b c d rest has in let e = p.4 in let small = p.1 in let bad : ⊥ = omega (arith, e, small, large) in bad)

-- ---- A record's kind and payload

record HasSaid (s : ℕ) : Type 0 where
  pub reply : Bool
  pub is : s ≡ said_byte reply

said : (s : ℕ) → Decided (HasSaid s)
said s = go (cases_eq s 0) (cases_eq s 1)
  where
    neither : (s ≡ 0 → ⊥) → (s ≡ 1 → ⊥) → (reply : Bool) → s ≡ said_byte reply → ⊥
    neither off on true is = on is
    neither off on false is = off is

    go : Decided (s ≡ 0) → Decided (s ≡ 1) → Decided (HasSaid s)
    go (inl off) other = inl (record { reply = false; is = off })
    go (inr off) (inl on) = inl (record { reply = true; is = on })
    go (inr off) (inr on) = inr (λ has. neither off on has.reply has.is)

record HasAnswer (payload : List ℕ) : Type 0 where
  pub question : List (Option ℕ)
  pub reply : Bool
  pub storable : IsStorable question
  pub is : payload ≡ answer_payload question reply

read_back : (s n : ℕ) (pairs : List ℕ) (has : HasAnswer (s ∷ n ∷ pairs)) → options_at 128 0 pairs ≡ Some has.question
read_back s n pairs has =
    let rest : pairs ≡ pairs_from 0 has.question = ap (λ (l : List ℕ). drop 2 l) has.is in
    ap (options_at 128 0) rest ∙ subst (λ (k : ℕ). options_at k 0 (pairs_from 0 has.question) ≡ Some has.question) has.storable.size (options_again has.question 0 has.storable.values_fit)

same_some : (q r : List (Option ℕ)) → (let o : Option (List (Option ℕ)) = Some q in o) ≡ Some r → q ≡ r
same_some q r e = cc

answer_in : (payload : List ℕ) → Decided (HasAnswer payload)
answer_in [] = inr (λ has. let e = has.is in let bad : ⊥ = cc in bad)
answer_in (s ∷ []) = inr (λ has. let e = ap length has.is in let bad : ⊥ = omega (arith, e) in bad)
answer_in (s ∷ n ∷ pairs) = go (said s) (options_at 128 0 pairs) refl
  where
    counted : (reply : Bool) → s ≡ said_byte reply → (q : List (Option ℕ)) → options_at 128 0 pairs ≡ Some q → Decided (n ≡ valued_count q) → (1 ≤ n) ⊎ (n < 1) → Decided (HasAnswer (s ∷ n ∷ pairs))
    counted reply is q read (inl count) (inl some) =
        let sound = options_sound 128 0 pairs q read in
        inl (record {
          question = q;
          reply = reply;
          storable = record { size = sound.size; some = omega (arith, count, some); values_fit = sound.fit };
          is = λ i. is i ∷ count i ∷ sound.are i;
        })
    counted reply is q read (inl count) (inr none) = inr (λ has.
        let same = same_some q has.question (sym read ∙ read_back s n pairs has) in
        let some = has.storable.some in
        let bad : ⊥ = omega (arith, count, none, some, ap valued_count same) in bad)
    counted reply is q read (inr other) some = inr (λ has.
        let same = same_some q has.question (sym read ∙ read_back s n pairs has) in
        other (ap (λ (l : List ℕ). get_or l 1 0) has.is ∙ ap valued_count (sym same)))

    at_least_one : (m : ℕ) → (1 ≤ m) ⊎ (m < 1)
    at_least_one zero = inr (omega arith)
    at_least_one (suc m) = inl (omega arith)

    go : Decided (HasSaid s) → (o : Option (List (Option ℕ))) → options_at 128 0 pairs ≡ o → Decided (HasAnswer (s ∷ n ∷ pairs))
    go (inr none) o read = inr (λ has. none (record { reply = has.reply; is = ap (λ (l : List ℕ). get_or l 0 0) has.is }))
    go (inl told) None read = inr (λ has. let e = sym read ∙ read_back s n pairs has in let bad : ⊥ = cc in bad)
    go (inl told) (Some q) read = counted told.reply told.is q read (cases_eq n (valued_count q)) (at_least_one n)

-- of a kind and a payload
record IsOf (raised : Bool) (kind : ℕ) (payload : List ℕ) : Type 0 where
  pub entry : Record
  pub may : MayFollow raised entry
  pub kind_is : kind ≡ kind_byte entry
  pub payload_is : payload ≡ record_payload entry

module _ (raised : Bool) (kind : ℕ) (payload : List ℕ) where
  when_answer : kind ≡ 0x41 → Decided (HasAnswer payload) → Decided (IsOf raised kind payload)
  when_answer here (inl has) = inl (record { entry = Added (Answer has.question has.reply); may = (has.storable, tt); kind_is = here; payload_is = has.is })
  when_answer here (inr none) = inr (λ is. go is.entry is.may is.kind_is is.payload_is)
    where
      go : (r : Record) → MayFollow raised r → kind ≡ kind_byte r → payload ≡ record_payload r → ⊥
      go (Added (Answer q reply)) may k p = none (record { question = q; reply = reply; storable = may.0; is = p })
      go (Added Back) may k p = omega (arith, here, k)
      go Raising may k p = omega (arith, here, k)

  when_back : kind ≡ 0x42 → (raised ≡ true) ⊎ (raised ≡ false) → Decided (payload ≡ []) → Decided (IsOf raised kind payload)
  when_back here (inl on) (inl empty) = inl (record { entry = Added Back; may = (tt, on); kind_is = here; payload_is = empty })
  when_back here on (inr other) = inr (λ is. go is.entry is.kind_is is.payload_is)
    where
      go : (r : Record) → kind ≡ kind_byte r → payload ≡ record_payload r → ⊥
      go (Added (Answer q reply)) k p = omega (arith, here, k)
      go (Added Back) k p = other p
      go Raising k p = omega (arith, here, k)
  when_back here (inr off) empty = inr (λ is. go is.entry is.may is.kind_is)
    where
      go : (r : Record) → MayFollow raised r → kind ≡ kind_byte r → ⊥
      go (Added (Answer q reply)) may k = omega (arith, here, k)
      go (Added Back) may k = let on : true ≡ false = sym may.1 ∙ off in cc
      go Raising may k = omega (arith, here, k)

  when_raising : kind ≡ 0x55 → (raised ≡ true) ⊎ (raised ≡ false) → Decided (payload ≡ 2 ∷ []) → Decided (IsOf raised kind payload)
  when_raising here (inr off) (inl two) = inl (record { entry = Raising; may = off; kind_is = here; payload_is = two })
  when_raising here on (inr other) = inr (λ is. go is.entry is.kind_is is.payload_is)
    where
      go : (r : Record) → kind ≡ kind_byte r → payload ≡ record_payload r → ⊥
      go (Added (Answer q reply)) k p = omega (arith, here, k)
      go (Added Back) k p = omega (arith, here, k)
      go Raising k p = other p
  when_raising here (inl on) two = inr (λ is. go is.entry is.may is.kind_is)
    where
      go : (r : Record) → MayFollow raised r → kind ≡ kind_byte r → ⊥
      go (Added (Answer q reply)) may k = omega (arith, here, k)
      go (Added Back) may k = omega (arith, here, k)
      go Raising may k = let off : true ≡ false = sym on ∙ may in cc

  of_kind : Decided (kind ≡ 0x41) → Decided (kind ≡ 0x42) → Decided (kind ≡ 0x55) → Decided (IsOf raised kind payload)
  of_kind (inl answer) b u = when_answer answer (answer_in payload)
  of_kind (inr a) (inl back) u = when_back back (cases_Bool raised) (same_list payload [])
  of_kind (inr a) (inr b) (inl raising) = when_raising raising (cases_Bool raised) (same_list payload (2 ∷ []))
  of_kind (inr a) (inr b) (inr u) = inr (λ is. go is.entry is.kind_is)
    where
      go : (r : Record) → kind ≡ kind_byte r → ⊥
      go (Added (Answer q reply)) k = a k
      go (Added Back) k = b k
      go Raising k = u k

-- ---- A record behind its gate

-- a whole record that may stand here stands behind its gate, and a gate behind it
pub record StandsBehind (raised : Bool) (bytes : List ℕ) : Type 0 where
  pub entry : Record
  pub gate : ℕ
  pub behind : List ℕ
  pub may : MayFollow raised entry
  pub is : bytes ≡ record_tail entry ++ gate ∷ behind

module _ (raised : Bool) (bytes : List ℕ) where
  entry_of : (has : HasParts bytes) → Decided (IsOf raised has.kind has.payload) → Decided (StandsBehind raised bytes)
  unfolding record_tail
  entry_of has (inl is) = inl (record {
    entry = is.entry;
    gate = has.gate;
    behind = has.behind;
    may = is.may;
    is = has.is ∙ (λ i. tail_bytes (is.kind_is i) (is.payload_is i) ++ has.gate ∷ has.behind);
  })
  entry_of has (inr none) = inr (λ stands.
      let once = tail_once has.kind has.payload (has.gate ∷ has.behind) (kind_byte stands.entry) (record_payload stands.entry) (stands.gate ∷ stands.behind) has.small (payload_small raised stands.entry stands.may) (sym has.is ∙ stands.is) in
      none (record { entry = stands.entry; may = stands.may; kind_is = once.0; payload_is = once.1 }))

  behind_gate : Decided (HasParts bytes) → Decided (StandsBehind raised bytes)
  unfolding record_tail
  behind_gate (inl has) = entry_of has (of_kind raised has.kind has.payload (cases_eq has.kind 0x41) (cases_eq has.kind 0x42) (cases_eq has.kind 0x55))
  behind_gate (inr none) = inr (λ stands.
      none (record { kind = kind_byte stands.entry; payload = record_payload stands.entry; gate = stands.gate; behind = stands.behind; small = payload_small raised stands.entry stands.may; is = stands.is }))

  pub stands_behind : Decided (StandsBehind raised bytes)
  stands_behind = behind_gate (parts_in bytes)

-- ---- A session behind its gate

-- the record of a session stands behind its gate, and a gate behind it
pub record BeginsBehind (bytes : List ℕ) : Type 0 where
  pub plan : Plan
  pub voc : List ℕ
  pub gate : ℕ
  pub behind : List ℕ
  pub storable : IsStorableSession plan voc
  pub is : bytes ≡ session_tail plan voc ++ gate ∷ behind

record HasPlan (byte : ℕ) : Type 0 where
  pub plan : Plan
  pub is : byte ≡ plan_byte plan

plan_of : (byte : ℕ) → Decided (HasPlan byte)
plan_of byte = go (cases_eq byte 1) (cases_eq byte 2) (cases_eq byte 3)
  where
    none : (byte ≡ 1 → ⊥) → (byte ≡ 2 → ⊥) → (byte ≡ 3 → ⊥) → (plan : Plan) → byte ≡ plan_byte plan → ⊥
    none a b c Scopes is = a is
    none a b c Quacq is = b is
    none a b c Multi is = c is

    go : Decided (byte ≡ 1) → Decided (byte ≡ 2) → Decided (byte ≡ 3) → Decided (HasPlan byte)
    go (inl is) b c = inl (record { plan = Scopes; is = is })
    go (inr a) (inl is) c = inl (record { plan = Quacq; is = is })
    go (inr a) (inr b) (inl is) = inl (record { plan = Multi; is = is })
    go (inr a) (inr b) (inr c) = inr (λ has. none a b c has.plan has.is)

module _ (bytes : List ℕ) where
  -- the parts of a session's record
  once : (has : HasParts bytes) (begins : BeginsBehind bytes) → (has.kind ≡ 0x53) × (has.payload ≡ plan_byte begins.plan ∷ begins.voc)
  unfolding session_tail
  once has begins =
      let short = begins.storable.short in
      let same = tail_once has.kind has.payload (has.gate ∷ has.behind) 0x53 (plan_byte begins.plan ∷ begins.voc) (begins.gate ∷ begins.behind) has.small (omega (arith, short)) (sym has.is ∙ begins.is) in
      (same.0, same.1)

  session_of : (has : HasParts bytes) → Decided (has.kind ≡ 0x53) → (payload : List ℕ) → has.payload ≡ payload → Decided (BeginsBehind bytes)
  unfolding session_tail
  session_of has (inr other) payload are = inr (λ begins. other (once has begins).0)
  session_of has (inl kind) [] are = inr (λ begins. let e = sym are ∙ (once has begins).1 in let bad : ⊥ = cc in bad)
  session_of has (inl kind) (byte ∷ voc) are = go (plan_of byte) (cases_lt MOST_VOCABULARY (length voc))
    where
      go : Decided (HasPlan byte) → (MOST_VOCABULARY < length voc) ⊎ (length voc ≤ MOST_VOCABULARY) → Decided (BeginsBehind bytes)
      go (inl plan) (inr short) = inl (record {
        plan = plan.plan;
        voc = voc;
        gate = has.gate;
        behind = has.behind;
        storable = record { short = short };
        is = has.is ∙ (λ i. tail_bytes (kind i) ((are ∙ (λ j. plan.is j ∷ voc)) i) ++ has.gate ∷ has.behind);
      })
      go (inl plan) (inl long) = inr (λ begins.
          let same : voc ≡ begins.voc = ap (λ (l : List ℕ). drop 1 l) (sym are ∙ (once has begins).1) in
          let short = begins.storable.short in
          let bad : ⊥ = omega (arith, long, short, ap length same) in bad)
      go (inr none) long = inr (λ begins. none (record { plan = begins.plan; is = ap (λ (l : List ℕ). get_or l 0 0) (sym are ∙ (once has begins).1) }))

  begun : Decided (HasParts bytes) → Decided (BeginsBehind bytes)
  unfolding session_tail
  begun (inl has) = session_of has (cases_eq has.kind 0x53) has.payload refl
  begun (inr none) = inr (λ begins.
      let short = begins.storable.short in
      none (record { kind = 0x53; payload = plan_byte begins.plan ∷ begins.voc; gate = begins.gate; behind = begins.behind; small = omega (arith, short); is = begins.is }))

  pub begins_behind : Decided (BeginsBehind bytes)
  begins_behind = begun (parts_in bytes)
