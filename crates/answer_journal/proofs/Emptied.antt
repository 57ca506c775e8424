-- What making a journal leaves.
use Rattle.answer_journal.proofs.Prelude.{◌≡◌, ◌⊎◌, ℕ, ◌+◌, ◌≤◌, List, [], ◌∷◌, ◌++◌, length, take, drop, inl, inr, false, refl, sym, ◌∙◌, ap, subst, arith, append_assoc, length-append, Plan, Holds, Torn, Head, Short, Closed, IsStorableSession, MAGIC, session_tail, IsClosedAfter, HoldsRecords, HasNoSession, HasRecord, IsWithOrWithout, End, Sits, IsHead, StartsWith, IsCreating, written_split}
use Rattle.answer_journal.proofs.WholeFile.{headed, shut}

abbrev pub first_bytes : List ℕ
first_bytes = MAGIC ++ 0 ∷ []

pub short_is : (bytes : List ℕ) (h : Head) → IsHead bytes h → h ≡ Short → length bytes ≤ 9
short_is bytes h is same = subst (λ (k : Head). IsHead bytes k) same is

pub emptied : (old new : List ℕ) → Holds old 0 first_bytes new → IsClosedAfter MAGIC new
emptied old new holds = record { gate = 0; behind = drop (0 + 9) old; closed = λ e. omega arith; is = holds }

pub torn_short : (old c : List ℕ) → length old ≤ 9 → Torn 0 9 old c → HasNoSession c
torn_short old c short torn = inl (omega (arith, torn.no_longer))

pub closed_is : (bytes : List ℕ) (h : Head) → IsHead bytes h → (h ≡ Short) ⊎ (h ≡ Closed) → (h ≡ Short → ⊥) → IsClosedAfter MAGIC bytes
closed_is bytes h is (inl short) other = absurd (other short)
closed_is bytes h is (inr closed) other =
    let all : IsHead bytes Closed = subst (λ (k : Head). IsHead bytes k) closed is in
    record { gate = _; behind = _; closed = all.2; is = headed bytes all.0 all.1 }

pub head_free : (bytes : List ℕ) (h : Head) → IsHead bytes h → (h ≡ Short) ⊎ (h ≡ Closed) → HasNoSession bytes
head_free bytes h is (inl short) = inl (short_is bytes h is short)
head_free bytes h is (inr closed) =
    let all : IsHead bytes Closed = subst (λ (k : Head). IsHead bytes k) closed is in
    shut bytes all.0 all.1 all.2

-- ---- the record of the session

magic_first : (mid : List ℕ) → IsClosedAfter MAGIC mid → take 8 mid ≡ MAGIC
magic_first mid c = ap (λ (l : List ℕ). take 8 l) c.is

holds : (mid new : List ℕ) (plan : Plan) (voc rest : List ℕ) → IsStorableSession plan voc → IsClosedAfter MAGIC mid → rest ≡ session_tail plan voc ++ 0 ∷ [] → HasRecord (take 8 mid) rest new → HoldsRecords new plan voc []
holds mid new plan voc rest session c is r =
    let there : HasRecord MAGIC (session_tail plan voc ++ 0 ∷ []) new = subst (λ (l : List ℕ). HasRecord MAGIC l new) is (subst (λ (l : List ℕ). HasRecord l rest new) (magic_first mid c) r) in
    record {
      session = session;
      in_order = tt;
      few = omega arith;
      rest = record {
        gate = 0;
        behind = there.behind;
        closed = λ e. omega arith;
        is = there.is ∙ ap (λ (l : List ℕ). MAGIC ++ 1 ∷ l) (append_assoc (session_tail plan voc) (0 ∷ []) there.behind) ∙ sym (written_split plan voc [] (0 ∷ there.behind));
      };
    }

pub starts : (mid new : List ℕ) (plan : Plan) (voc rest : List ℕ) → IsStorableSession plan voc → IsClosedAfter MAGIC mid → rest ≡ session_tail plan voc ++ 0 ∷ [] → HasRecord (take 8 mid) rest new → StartsWith plan voc new
starts mid new plan voc rest session c is r = record { records = []; holds = holds mid new plan voc rest session c is r; are = refl }

pub creating : (before : List ℕ → Type 0) (mid c : List ℕ) (plan : Plan) (voc rest : List ℕ) → IsStorableSession plan voc → IsClosedAfter MAGIC mid → rest ≡ session_tail plan voc ++ 0 ∷ [] → IsWithOrWithout (take 8 mid) rest c → IsCreating before plan voc c
creating before mid c plan voc rest session closed is (inl shut) = inr (inl (inr (subst (λ (l : List ℕ). IsClosedAfter l c) (magic_first mid closed) shut)))
creating before mid c plan voc rest session closed is (inr r) = inr (inr (starts mid c plan voc rest session closed is r))

pub sits : (mid new : List ℕ) (plan : Plan) (voc rest : List ℕ) (place : End) → IsStorableSession plan voc → IsClosedAfter MAGIC mid → rest ≡ session_tail plan voc ++ 0 ∷ [] → HasRecord (take 8 mid) rest new
    → place.at ≡ 8 + length (session_tail plan voc ++ 0 ∷ []) → place.records ≡ 1 → place.raised ≡ false → Sits place new
sits mid new plan voc rest place session c is r at_is one raised_is = record {
  plan = plan;
  voc = voc;
  records = [];
  holds = holds mid new plan voc rest session c is r;
  gate = omega (arith, at_is, length-append (session_tail plan voc) (0 ∷ []), length-append (MAGIC ++ 1 ∷ session_tail plan voc) [], length-append MAGIC (1 ∷ session_tail plan voc));
  count = omega (arith, one);
  raised = raised_is;
}
