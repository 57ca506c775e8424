-- What holds while an example is halved, and what the set that is found says of each network that agrees.
use Rattle.session_laws.proofs.Prelude.{◌≡◌, ℕ, zero, suc, ◌*◌, ◌<◌, ◌≤◌, Bool, true, false, cond, ◌||◌, ◌&&◌, not, List, [], ◌∷◌, ◌++◌, length, refl, sym, ◌∙◌, ap, subst, arith, inl, inr, ◌⊎◌, ◌==◌, All, Any, AllPairs, slice_index_or, beq, list_any, append_assoc, All-push, All-weaker, All-head, Any-push, list_any-append, list_any_at, Any-from_list_any, AllPass-from_list_all, and_parts, and_from, or_parts, or_left, or_from, both_ways, not_from_false, not-true, eq-eqb, eqb-true, false_from_ne_true, Candidate, has, is_within, Rises, Assignment, restrict, is_complete, Language, IsLanguage, IsCandidate, candidates, variable_count, scope_of, violates, accepts, Answer, IsNetwork, IsNoOn, has_scope, agrees, is_struck, kept, Halved, Wants, Got, halve, deep, accepted_at, accepted_from, violates_some, is_quiet, with_quiet_replies, IsTold, IsGathered, gather, not_struck, learned_is, both_true, Sub, Every, RunTo, IsKnown, run_to, run_within, run_rises, run_denied, run_least, bounded, asked_within, within_sub, sub_within, same_sets, any-filter, any_candidate}
use Rattle.language.proofs.Meets.{closed_candidates}
use Rattle.session_laws.proofs.Restrict.{violates_restrict, rejecting, scope_small, rising_scope, accepts_narrower}
use Rattle.session_laws.proofs.Lists.{any_more}
use Rattle.session_laws.proofs.Choices.{IsSound, told_more, agrees_more}
use Rattle.shared_lemmas.proofs.Booleans.{beq_same}

-- ---- the halving of a whole set

pub halve_bounds : (set : List ℕ) (replies : List Bool) (w : List ℕ) (more : List Bool) (s : List ℕ) (left : List Bool) → halve set replies ≡ Wants w → halve set (replies ++ false ∷ more) ≡ Got s left → Sub s w
halve_bounds set replies w more s left h k = (bounded (suc (length set)) [] set false replies w more s left (omega arith) (deep set replies ∙ h) (deep set (replies ++ false ∷ more) ∙ k)).1

pub halve_asks : (set : List ℕ) (replies : List Bool) (w : List ℕ) → halve set replies ≡ Wants w → Sub w set
halve_asks set replies w h = asked_within (suc (length set)) [] set false replies w (omega arith) (deep set replies ∙ h)

pub halve_runs : (T : List ℕ → Bool → Type 0) (set : List ℕ) (replies : List Bool) (s : List ℕ) (left : List Bool) → Every T (halve set) replies → halve set replies ≡ Got s left →
    RunTo T (suc (length set)) [] set false s
halve_runs T set replies s left every h = run_to T (suc (length set)) [] set false replies s left (omega arith) (λ before after r w e q. every before after r w e (sym (deep set before) ∙ q)) (deep set replies ∙ h)

pub halve_within_set : (set : List ℕ) (replies : List Bool) (s : List ℕ) (left : List Bool) → halve set replies ≡ Got s left → Sub s set
halve_within_set set replies s left h = run_within (λ w r. Unit {0}) (suc (length set)) [] set false s (halve_runs (λ w r. Unit {0}) set replies s left (λ before after r w e q. tt) h)

-- ---- one reply more

nothing_parted : (before : List Bool) (r : Bool) (after : List Bool) → [] ≡ before ++ r ∷ after → ⊥
nothing_parted [] r after e = cc
nothing_parted (x ∷ before) r after e = cc

pub parted : (xs : List Bool) (x : Bool) (before : List Bool) (y : Bool) (after : List Bool) → xs ++ x ∷ [] ≡ before ++ y ∷ after →
    ((rest : List Bool) × (xs ≡ before ++ y ∷ rest)) ⊎ ((xs ≡ before) × (x ≡ y))
parted [] x [] y after e = inr (refl, cc)
parted [] x (b ∷ before) y after e = absurd (nothing_parted before y after (let rest : [] ≡ before ++ y ∷ after = cc in rest))
parted (z ∷ xs) x [] y after e = inl (xs, (let same : z ≡ y = cc in ap (λ a. a ∷ xs) same))
parted (z ∷ xs) x (b ∷ before) y after e = go (parted xs x before y after (let rest : xs ++ x ∷ [] ≡ before ++ y ∷ after = cc in rest))
  where
    go : ((rest : List Bool) × (xs ≡ before ++ y ∷ rest)) ⊎ ((xs ≡ before) × (x ≡ y)) → ((rest : List Bool) × (z ∷ xs ≡ (b ∷ before) ++ y ∷ rest)) ⊎ ((z ∷ xs ≡ b ∷ before) × (x ≡ y))
    go (inl (rest, h)) = inl (rest, (let same : z ≡ b = cc in λ i. same i ∷ h i))
    go (inr (h, k)) = inr ((let same : z ≡ b = cc in λ i. same i ∷ h i), k)

same_wants : (h : List Bool → Halved) (replies before : List Bool) (w v : List ℕ) → replies ≡ before → h replies ≡ Wants w → h before ≡ Wants v → w ≡ v
same_wants h replies before w v e a b = wants_are w v (sym a ∙ ap h e ∙ b)
  where
    wants_are : (w v : List ℕ) → Wants w ≡ Wants v → w ≡ v
    wants_are w v e = cc

every_push : (T : List ℕ → Bool → Type 0) (h : List Bool → Halved) (replies : List Bool) (w : List ℕ) (r : Bool) → Every T h replies → h replies ≡ Wants w → T w r → Every T h (replies ++ r ∷ [])
every_push T h replies w r every asked new = λ before after y v e q. go before y v q (parted replies r before y after e)
  where
    go : (before : List Bool) (y : Bool) (v : List ℕ) → h before ≡ Wants v → ((rest : List Bool) × (replies ≡ before ++ y ∷ rest)) ⊎ ((replies ≡ before) × (r ≡ y)) → T v y
    go before y v q (inl (rest, e)) = every before rest y v e q
    go before y v q (inr (e, k)) = subst (λ (x : List ℕ). T x y) (same_wants h replies before w v e asked q) (subst (λ (b : Bool). T w b) k new)

-- ---- what holds while an example is halved

-- the entry is this reply to the question about e on w
pub record IsReply (e : Assignment) (w : List ℕ) (r : Bool) (a : Answer) : Type 0 where
  pub question : a.question ≡ restrict e w
  pub answer : a.yes ≡ r

-- whatever is got in the end lies within w
abbrev pub WillLie : List ℕ → List Bool → List ℕ → Type 0
WillLie set replies w = (more : List Bool) (s : List ℕ) (left : List Bool) → halve set (replies ++ more) ≡ Got s left → Sub s w

-- the reply was given by an entry, or the question violates no kept candidate and it is yes
abbrev pub IsSaid : Language → List Answer → Assignment → List Candidate → List ℕ → Bool → Type 0
IsSaid l t e network w r = Any (IsReply e w r) t ⊎ ((r ≡ true) × (violates_some l (kept l t network) (restrict e w) ≡ false))

-- the network gives the entry, or it is a no about a part of e that has all that is got in the end
abbrev pub IsWith : Language → Assignment → List ℕ → List Bool → List Candidate → Answer → Type 0
IsWith l e set replies network a = (beq (accepts l network a.question) a.yes ≡ true) ⊎ ((a.yes ≡ false) × (w : List ℕ) × (a.question ≡ restrict e w) × WillLie set replies w)

pub record IsHalving (l : Language) (t : List Answer) (e : Assignment) (set : List ℕ) (replies : List Bool) (network : List Candidate) : Type 0 where
  pub legal : IsNetwork l network
  pub apart : AllPairs (λ c d. (c.scope ≡ d.scope) → ⊥) network
  pub begun : All (λ c. Any (IsNoOn l c) t) network
  pub told : All (IsTold l t) network
  pub size : length e ≡ variable_count l
  pub complete : is_complete e ≡ true
  pub rises : Rises 0 set
  pub accepted : accepts l network (restrict e set) ≡ true
  pub whole : Any (IsReply e set false) t
  pub entries : All (IsWith l e set replies network) t
  pub said : Every (IsSaid l t e network) (halve set) replies

pub sound_more : (l : Language) (t : List Answer) (network : List Candidate) (a : Answer) → IsSound l t network → beq (accepts l network a.question) a.yes ≡ true → IsSound l (t ++ a ∷ []) network
sound_more l t network a sound given = record {
  legal = sound.legal;
  agreeing = agrees_more l network t a sound.agreeing given;
  apart = sound.apart;
  begun = All-weaker _ _ (λ c some. any_more (IsNoOn l c) t a some) network sound.begun;
  told = All-weaker _ _ (told_more l t a) network sound.told;
}

-- a no about a part of an example that the network accepts
pub begin_halving : (l : Language) (t : List Answer) (network : List Candidate) (e : Assignment) (set : List ℕ) (a : Answer) → IsSound l t network → length e ≡ variable_count l → is_complete e ≡ true → Rises 0 set →
    accepts l network (restrict e set) ≡ true → a.question ≡ restrict e set → a.yes ≡ false → IsHalving l (t ++ a ∷ []) e set [] network
begin_halving l t network e set a sound size complete rises accepted asked denied = record {
  legal = sound.legal;
  apart = sound.apart;
  begun = All-weaker _ _ (λ c some. any_more (IsNoOn l c) t a some) network sound.begun;
  told = All-weaker _ _ (told_more l t a) network sound.told;
  size = size;
  complete = complete;
  rises = rises;
  accepted = accepted;
  whole = Any-push (IsReply e set false) t a (record { question = asked; answer = denied });
  entries = All-push (IsWith l e set [] network) t a (λ k d low. inl (AllPass-from_list_all (λ (b : Answer). beq (accepts l network b.question) b.yes) t sound.agreeing k d low))
      (inr (denied, set, asked, λ more s left h. halve_within_set set more s left h));
  said = λ before after r w h q. absurd (nothing_parted before r after h);
}

will_lie_more : (set : List ℕ) (replies : List Bool) (w : List ℕ) (r : Bool) → WillLie set replies w → WillLie set (replies ++ r ∷ []) w
will_lie_more set replies w r h = λ more s left k. h (r ∷ more) s left (ap (halve set) (sym (append_assoc replies (r ∷ []) more)) ∙ k)

with_more : (l : Language) (e : Assignment) (set : List ℕ) (replies : List Bool) (network : List Candidate) (r : Bool) (a : Answer) → IsWith l e set replies network a → IsWith l e set (replies ++ r ∷ []) network a
with_more l e set replies network r a (inl given) = inl given
with_more l e set replies network r a (inr (denied, w, asked, lies)) = inr (denied, w, asked, will_lie_more set replies w r lies)

-- a candidate that is kept after one answer more was kept before
still_kept : (l : Language) (t : List Answer) (a : Answer) (network : List Candidate) (x : Assignment) → violates_some l (kept l t network) x ≡ false → violates_some l (kept l (t ++ a ∷ []) network) x ≡ false
still_kept l t a network x h =
    any-filter (λ c. violates l c x) (λ c. not (is_struck l (t ++ a ∷ []) c) && not (has_scope network c.scope)) (candidates l)
    ∙ fewer (candidates l) (sym (any-filter (λ c. violates l c x) (λ c. not (is_struck l t c) && not (has_scope network c.scope)) (candidates l)) ∙ h)
  where
    one : (s n q v : Bool) → ((not s && n) && v) ≡ false → ((not (s || q) && n) && v) ≡ false
    one true n q v h = refl
    one false n true v h = refl
    one false n false v h = h

    fewer : (cs : List Candidate) → list_any (λ c. (not (is_struck l t c) && not (has_scope network c.scope)) && violates l c x) cs ≡ false →
        list_any (λ c. (not (is_struck l (t ++ a ∷ []) c) && not (has_scope network c.scope)) && violates l c x) cs ≡ false
    fewer [] h = refl
    fewer (c ∷ cs) h =
        let parts = or_parts _ (list_any (λ c. (not (is_struck l t c) && not (has_scope network c.scope)) && violates l c x) cs) h in
        or_from _ _ (ap (λ b. (not b && not (has_scope network c.scope)) && violates l c x) (list_any-append (λ (b : Answer). b.yes && violates l c b.question) t (a ∷ []))
        ∙ one (is_struck l t c) (not (has_scope network c.scope)) _ (violates l c x) parts.0) (fewer cs parts.1)

-- a reply to the open question
pub reply_halving : (l : Language) → IsLanguage l → (t : List Answer) (e : Assignment) (set : List ℕ) (replies : List Bool) (network : List Candidate) (w : List ℕ) (a : Answer) →
    IsHalving l t e set replies network → halve set replies ≡ Wants w → a.question ≡ restrict e w → IsHalving l (t ++ a ∷ []) e set (replies ++ a.yes ∷ []) network
reply_halving l lawful t e set replies network w a half wants asked = record {
  legal = half.legal;
  apart = half.apart;
  begun = All-weaker _ _ (λ c some. any_more (IsNoOn l c) t a some) network half.begun;
  told = All-weaker _ _ (told_more l t a) network half.told;
  size = half.size;
  complete = half.complete;
  rises = half.rises;
  accepted = half.accepted;
  whole = any_more (IsReply e set false) t a half.whole;
  entries = All-push (IsWith l e set (replies ++ a.yes ∷ []) network) t a (All-weaker _ _ (with_more l e set replies network a.yes) t half.entries) (new a.yes refl);
  said = every_push (IsSaid l (t ++ a ∷ []) e network) (halve set) replies w a.yes (λ before after r v h q. later r v (half.said before after r v h q)) wants
      (inl (Any-push (IsReply e w a.yes) t a (record { question = asked; answer = refl })));
}
  where
    new : (b : Bool) → a.yes ≡ b → IsWith l e set (replies ++ a.yes ∷ []) network a
    new true said = inl (ap (beq (accepts l network a.question)) said
        ∙ (λ i. beq ((ap (accepts l network) asked ∙ accepts_narrower l lawful network half.legal e w set (halve_asks set replies w wants) half.accepted) i) true))
    new false denied = inr (
      denied,
      w,
      asked,
      λ more s left h. halve_bounds set replies w more s left wants
          (ap (halve set) (sym (append_assoc replies (false ∷ []) more) ∙ ap (λ b. (replies ++ b ∷ []) ++ more) (sym denied)) ∙ h),
    )

    later : (r : Bool) (v : List ℕ) → IsSaid l t e network v r → IsSaid l (t ++ a ∷ []) e network v r
    later r v (inl some) = inl (any_more (IsReply e v r) t a some)
    later r v (inr (said, quiet)) = inr (said, still_kept l t a network (restrict e v) quiet)

-- quiet replies
quiet_is : (l : Language) (live : List Candidate) (e : Assignment) (h : Halved) → is_quiet l live e h ≡ true → (w : List ℕ) × (h ≡ Wants w) × (violates_some l live (restrict e w) ≡ false)
quiet_is l live e (Wants w) quiet = (w, refl, not-true _ quiet)
quiet_is l live e (Got s left) quiet = absurd (both_ways _ refl quiet)

quiet_halving : (l : Language) (t : List Answer) (e : Assignment) (set : List ℕ) (network : List Candidate) (most : ℕ) (replies : List Bool) → IsHalving l t e set replies network →
    IsHalving l t e set (with_quiet_replies l (kept l t network) e set most replies) network
unfolding with_quiet_replies
quiet_halving l t e set network zero replies half = half
quiet_halving l t e set network (suc most) replies half = go (is_quiet l (kept l t network) e (halve set replies)) refl (quiet_halving l t e set network most (replies ++ true ∷ []))
  where
    more : List Bool
    more = with_quiet_replies l (kept l t network) e set most (replies ++ true ∷ [])

    go : (b : Bool) → is_quiet l (kept l t network) e (halve set replies) ≡ b → (IsHalving l t e set (replies ++ true ∷ []) network → IsHalving l t e set more network) → IsHalving l t e set (cond b more replies) network
    go false loud rest = half
    go true quiet rest =
        let is = quiet_is l (kept l t network) e (halve set replies) quiet in
        rest (record {
          legal = half.legal;
          apart = half.apart;
          begun = half.begun;
          told = half.told;
          size = half.size;
          complete = half.complete;
          rises = half.rises;
          accepted = half.accepted;
          whole = half.whole;
          entries = All-weaker _ _ (with_more l e set replies network true) t half.entries;
          said = every_push (IsSaid l t e network) (halve set) replies is.0 true half.said is.1 (inr (refl, is.2));
        })

-- the replies of a settled halving
pub settled_halving : (l : Language) (t : List Answer) (e : Assignment) (set : List ℕ) (network : List Candidate) (replies : List Bool) → IsHalving l t e set replies network →
    IsHalving l t e set (with_quiet_replies l (kept l t network) e set (2 * length set) replies) network
settled_halving l t e set network replies half = quiet_halving l t e set network (2 * length set) replies half

-- ---- a network that agrees has a kept candidate on the set that is got, and e violates it

-- a network that agrees gives each reply
reply_is : (l : Language) (t : List Answer) (other : List Candidate) → agrees l other t ≡ true → (e : Assignment) (w : List ℕ) (r : Bool) → Any (IsReply e w r) t → accepts l other (restrict e w) ≡ r
reply_is l t other agreeing e w r (k, a, low, at, is) =
    ap (accepts l other) (sym is.question)
    ∙ beq_same _ _ (subst (λ (x : Answer). beq (accepts l other x.question) x.yes ≡ true) at (AllPass-from_list_all (λ (b : Answer). beq (accepts l other b.question) b.yes) t agreeing k a low))
    ∙ is.answer

-- a candidate that makes a found set what it is
pub record IsCulprit (l : Language) (t : List Answer) (e : Assignment) (network : List Candidate) (s : List ℕ) (c : Candidate) : Type 0 where
  pub candidate : IsCandidate l c
  pub scope : scope_of l c ≡ s
  pub fresh : is_struck l t c ≡ false
  pub free : has_scope network c.scope ≡ false
  pub bad : violates l c e ≡ true

module _ (l : Language) (lawful : IsLanguage l) (t : List Answer) (network : List Candidate) (legal : IsNetwork l network) (told : All (IsTold l t) network)
    (other : List Candidate) (is_other : IsNetwork l other) (agreeing : agrees l other t ≡ true) where
  -- where the network accepts a question and a candidate of the other violates it, nothing is learned on that scope
  not_learned : (x : Assignment) → accepts l network x ≡ true → (k : ℕ) (d : Candidate) → k < length other → violates l (slice_index_or other k d) x ≡ true → has_scope network (slice_index_or other k d).scope ≡ false
  not_learned x accepted k d low bad = false_from_ne_true _ (λ some.
      let found = Any-from_list_any (λ b. b.scope == (slice_index_or other k d).scope) network some in
      clash found.0 found.1 found.2 (eqb-true _ _ (ap (λ (y : Candidate). y.scope == (slice_index_or other k d).scope) found.3 ∙ found.4))
      (gather l (closed_candidates l lawful) other is_other (slice_index_or network found.0 found.1).scope))
    where
      clash : (j : ℕ) (b : Candidate) → j < length network → (slice_index_or network j b).scope ≡ (slice_index_or other k d).scope →
          (has_scope other (slice_index_or network j b).scope ≡ false) ⊎ ((m : Candidate) × IsGathered l other (slice_index_or network j b).scope m) → ⊥
      clash j b below same (inl none) = both_ways _ none (list_any_at (λ c. c.scope == (slice_index_or network j b).scope) other k d low (eq-eqb _ _ (sym same)))
      clash j b below same (inr (m, g)) = both_ways _ (accepted_at l network x accepted j b below)
          (learned_is l lawful t other is_other agreeing (slice_index_or network j b) (legal j b below) (told j b below) m g x
          ∙ list_any_at (λ c. (c.scope == (slice_index_or network j b).scope) && violates l c x) other k d low (and_from _ _ (eq-eqb _ _ (sym same)) bad))

  pub fresh_in : (k : ℕ) (d : Candidate) → k < length other → is_struck l t (slice_index_or other k d) ≡ false
  fresh_in k d low = not_struck l other (slice_index_or other k d) (λ q given. accepted_at l other q given k d low) t agreeing

  -- a question that the network accepts and that violates no kept candidate is accepted by the other too
  quiet_accepted : (x : Assignment) → accepts l network x ≡ true → violates_some l (kept l t network) x ≡ false → accepts l other x ≡ true
  quiet_accepted x accepted quiet = accepted_from l other x (λ k d low bad. both_ways _ quiet
      (any-filter (λ c. violates l c x) (λ c. not (is_struck l t c) && not (has_scope network c.scope)) (candidates l)
      ∙ any_candidate l (λ c. (not (is_struck l t c) && not (has_scope network c.scope)) && violates l c x) (slice_index_or other k d) (is_other k d low)
      (and_from _ _ (and_from _ _ (not_from_false _ (fresh_in k d low)) (not_from_false _ (not_learned x accepted k d low bad))) bad)))

module _ (l : Language) (lawful : IsLanguage l) (t : List Answer) (e : Assignment) (set : List ℕ) (replies : List Bool) (network : List Candidate)
    (half : IsHalving l t e set replies network) (s : List ℕ) (left : List Bool) (got : halve set replies ≡ Got s left) where
  -- some no entry is about just the set that is got
  pub got_denied : IsKnown (λ w. Any (IsReply e w false) t) [] s
  got_denied = run_denied (λ w. Any (IsReply e w false) t) (IsSaid l t e network) denied (suc (length set)) [] set false s
      (halve_runs (IsSaid l t e network) set replies s left half.said got) (set, half.whole, λ v low. refl)
    where
      denied : (w : List ℕ) → IsSaid l t e network w false → Any (IsReply e w false) t
      denied w (inl some) = some
      denied w (inr (said, quiet)) = absurd (both_ways _ refl said)

  pub got_rises : Rises 0 s
  got_rises = run_rises (λ w r. Unit {0}) (suc (length set)) [] set false s half.rises (halve_runs (λ w r. Unit {0}) set replies s left (λ before after r w e q. tt) got)

  module _ (other : List Candidate) (is_other : IsNetwork l other) (agreeing : agrees l other t ≡ true) where
    said_is : (w : List ℕ) (r : Bool) → Sub w set → IsSaid l t e network w r → accepts l other (restrict e w) ≡ r
    said_is w r within (inl some) = reply_is l t other agreeing e w r some
    said_is w r within (inr (said, quiet)) =
        quiet_accepted l lawful t network half.legal half.told other is_other agreeing (restrict e w) (accepts_narrower l lawful network half.legal e w set within half.accepted) quiet
        ∙ sym said

    run_of : RunTo (λ w r. accepts l other (restrict e w) ≡ r) (suc (length set)) [] set false s
    run_of = halve_runs (λ w r. accepts l other (restrict e w) ≡ r) set replies s left (λ before after r w h q. said_is w r (halve_asks set before w q) (half.said before after r w h q)) got

    pub culprit : (c : Candidate) × IsCulprit l t e network s c
    culprit =
        let known = got_denied in
        let bad = rejecting l other (restrict e known.0) (reply_is l t other agreeing e known.0 false known.1) in
        let there = sym (violates_restrict l (slice_index_or other bad.0 bad.1) e known.0) ∙ ap (λ (c : Candidate). violates l c (restrict e known.0)) bad.3 ∙ bad.4 in
        let parts = and_parts (is_within (scope_of l (slice_index_or other bad.0 bad.1)) known.0) (violates l (slice_index_or other bad.0 bad.1) e) there in
        (slice_index_or other bad.0 bad.1, make bad.0 bad.1 bad.2 parts.1 (λ v low h. sym (known.2 v low) ∙ within_sub _ known.0 parts.0 v low h))
      where
        make : (k : ℕ) (d : Candidate) → k < length other → violates l (slice_index_or other k d) e ≡ true → Sub (scope_of l (slice_index_or other k d)) s → IsCulprit l t e network s (slice_index_or other k d)
        make k d low bad inside = record {
          candidate = is_c;
          scope = same_sets (scope_of l c) s (rising_scope l lawful c is_c) got_rises (λ v below. both_true (has (scope_of l c) v) (has s v) (inside v below) (least v below));
          fresh = fresh_in l lawful t network half.legal half.told other is_other agreeing k d low;
          free = not_learned l lawful t network half.legal half.told other is_other agreeing (restrict e set) half.accepted k d low
              (on_set set (λ v below h. halve_within_set set replies s left got v below (inside v below h)));
          bad = bad;
        }
          where
            c : Candidate
            c = slice_index_or other k d

            is_c : IsCandidate l c
            is_c = is_other k d low

            on_set : (w : List ℕ) → Sub (scope_of l c) w → violates l c (restrict e w) ≡ true
            on_set w sub = violates_restrict l c e w ∙ and_from _ _ (sub_within (scope_of l c) w 0 (rising_scope l lawful c is_c) sub) bad

            not_empty : (xs : List ℕ) → 1 ≤ length xs → All (λ v. v < 128) xs → Sub xs [] → ⊥
            not_empty [] some small sub = omega arith
            not_empty (x ∷ xs) some small sub = both_ways _ refl (sub x (All-head (λ v. v < 128) x xs small) (or_left (x == x) (has xs x) (eq-eqb x x refl)))

            least : Sub s (scope_of l c)
            least = run_least (λ w r. accepts l other (restrict e w) ≡ r) (scope_of l c) (λ w given sub. both_ways _ (accepted_at l other (restrict e w) given k d low) (on_set w sub))
                (suc (length set)) [] set false s run_of
                (inr (not_empty (scope_of l c) (lawful.scopes c.scope [] is_c.scope).not_empty (scope_small l lawful c is_c)))
                inside
