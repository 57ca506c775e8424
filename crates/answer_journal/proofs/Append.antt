-- One record more behind those of a journal.
use Rattle.answer_journal.proofs.Prelude.{◌≡◌, ℕ, ◌+◌, ◌<◌, Bool, false, List, [], ◌∷◌, ◌++◌, length, take, flat_map, inl, inr, sym, ◌∙◌, ap, subst, arith, append_assoc, length-append, take_at, Plan, Event, Record, MOST_RECORDS, MAGIC, session_tail, record_tail, record_bytes, written, events_among, with_record, is_raised_by, MayFollow, IsClosedAfter, HoldsRecords, Spells, HasRecord, IsWithOrWithout, End, Sits, MayBeAdded, counted_with, HasAdded, IsOldOrAdded, records_once}
use Rattle.answer_journal.proofs.RecordLists.{bytes-push, events_among-push, is_raised_after-push, AreInOrder-push, with_record-count, with_record-few}

pub written-push : (plan : Plan) (voc : List ℕ) (records : List Record) (r : Record) → written plan voc (records ++ r ∷ []) ≡ written plan voc records ++ record_bytes r
written-push plan voc records r =
    ap (λ (l : List ℕ). MAGIC ++ 1 ∷ session_tail plan voc ++ l) (bytes-push records r) ∙ sym (append_assoc (MAGIC ++ 1 ∷ session_tail plan voc) (flat_map record_bytes records) (record_bytes r))

-- the place of a session's gate
pub gate_at : (plan : Plan) (voc : List ℕ) (records : List Record) (at : ℕ) (bytes : List ℕ) → IsClosedAfter (written plan voc records) bytes → at ≡ length (written plan voc records) → take at bytes ≡ written plan voc records
gate_at plan voc records at bytes c is = ap (λ (l : List ℕ). take at l) c.is ∙ take_at (written plan voc records) (c.gate ∷ c.behind) at (sym is)

module _ (place : End) (old : List ℕ) (sits : Sits place old) where
  pub front_is : take place.at old ≡ written sits.plan sits.voc sits.records
  front_is = gate_at sits.plan sits.voc sits.records place.at old sits.holds.rest sits.gate

  pub closed_here : IsClosedAfter (take place.at old) old
  closed_here = subst (λ (l : List ℕ). IsClosedAfter l old) (sym front_is) sits.holds.rest

  -- the plan and the vocabulary are those of each session that is spelled
  along : (new : List ℕ) (records : List Record) (plan : Plan) (voc : List ℕ) (events : List Event) → Spells old plan voc events → HoldsRecords new sits.plan sits.voc records → HoldsRecords new plan voc records
  along new records plan voc events spelled holds =
      let once = records_once old sits.plan sits.voc sits.records plan voc spelled.records sits.holds spelled.holds in
      subst (λ (p : Plan). HoldsRecords new p voc records) once.0 (subst (λ (v : List ℕ). HoldsRecords new sits.plan v records) once.1 holds)

  -- and so are the events
  events_are : (plan : Plan) (voc : List ℕ) (events : List Event) → Spells old plan voc events → events_among sits.records ≡ events
  events_are plan voc events spelled = ap events_among (records_once old sits.plan sits.voc sits.records plan voc spelled.records sits.holds spelled.holds).2 ∙ spelled.are

  module _ (r : Record) (fits : MayBeAdded place r) where
    -- with the record in place the bytes hold it too
    holds_more : (new : List ℕ) → HasRecord (take place.at old) (record_tail r ++ 0 ∷ []) new → HoldsRecords new sits.plan sits.voc (sits.records ++ r ∷ [])
    holds_more new h =
        let there = subst (λ (l : List ℕ). HasRecord l (record_tail r ++ 0 ∷ []) new) front_is h in
        let front : List ℕ = written sits.plan sits.voc sits.records in
        record {
          session = sits.holds.session;
          in_order = AreInOrder-push false sits.records r sits.holds.in_order (subst (λ (b : Bool). MayFollow b r) sits.raised fits.follows);
          few = subst (λ (l : List Event). length l < MOST_RECORDS) (sym (events_among-push sits.records r)) (with_record-few place.records (events_among sits.records) r fits.room sits.count sits.holds.few);
          rest = record {
            gate = 0;
            behind = there.behind;
            closed = λ e. omega arith;
            is =
                there.is
                ∙ ap (λ (l : List ℕ). l ++ there.behind) (sym (append_assoc front (record_bytes r) (0 ∷ [])))
                ∙ append_assoc (front ++ record_bytes r) (0 ∷ []) there.behind
                ∙ ap (λ (l : List ℕ). l ++ 0 ∷ there.behind) (sym (written-push sits.plan sits.voc sits.records r));
          };
        }

    pub has_added : (new : List ℕ) → HasRecord (take place.at old) (record_tail r ++ 0 ∷ []) new → HasAdded old r new
    has_added new h plan voc events spelled = record {
      records = sits.records ++ r ∷ [];
      holds = along new (sits.records ++ r ∷ []) plan voc events spelled (holds_more new h);
      are = events_among-push sits.records r ∙ ap (λ (l : List Event). with_record l r) (events_are plan voc events spelled);
    }

    pub old_or_added : (new : List ℕ) → IsWithOrWithout (take place.at old) (record_tail r ++ 0 ∷ []) new → IsOldOrAdded old r new
    old_or_added new (inr h) plan voc events spelled = inr (has_added new h plan voc events spelled)
    old_or_added new (inl c) plan voc events spelled =
        let closed = subst (λ (l : List ℕ). IsClosedAfter l new) front_is c in
        let holds : HoldsRecords new sits.plan sits.voc sits.records = record { session = sits.holds.session; in_order = sits.holds.in_order; few = sits.holds.few; rest = closed } in
        inl (record { records = sits.records; holds = along new sits.records plan voc events spelled holds; are = events_are plan voc events spelled })

    pub sits_on : (next : End) (new : List ℕ) → HasRecord (take place.at old) (record_tail r ++ 0 ∷ []) new → next.at ≡ place.at + length (record_tail r ++ 0 ∷ []) → next.records ≡ counted_with place.records r → next.raised ≡ is_raised_by place.raised r → Sits next new
    sits_on next new h at_is records_is raised_is = record {
      plan = sits.plan;
      voc = sits.voc;
      records = sits.records ++ r ∷ [];
      holds = holds_more new h;
      gate = omega (arith, at_is, sits.gate, ap length (written-push sits.plan sits.voc sits.records r), length-append (written sits.plan sits.voc sits.records) (record_bytes r), length-append (record_tail r) (0 ∷ []));
      count = records_is ∙ with_record-count place.records (events_among sits.records) r sits.count ∙ sym (ap (λ (l : List Event). length l + 1) (events_among-push sits.records r));
      raised = raised_is ∙ ap (λ (b : Bool). is_raised_by b r) sits.raised ∙ sym (is_raised_after-push false sits.records r);
    }
