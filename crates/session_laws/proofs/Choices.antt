-- What holds while the choices on a scope are told apart.
use Rattle.session_laws.proofs.Prelude.{◌≡◌, ℕ, zero, suc, ◌<◌, ◌≤◌, Bool, true, false, cond, ◌||◌, ◌&&◌, not, List, [], ◌∷◌, ◌++◌, length, map, Some, None, refl, sym, ◌∙◌, ap, subst, arith, inl, inr, ◌⊎◌, length-append, ◌==◌, All, Any, AllPairs, slice_index_or, is_some, is_none, beq, list_any, filter, All-head, All-tail, All-append, All-cons, All-nil, All-map, All-filter, All-push, All-weaker, filter_passes, Any-push, list_any-append, list_all-append, cases_Bool, and_parts, and_from, or_parts, or_left, or_right, both_ways, true_from_ne_false, not-true, not_from_false, eqb-true, eq-eqb, Candidate, numbers, variables_of, Relation, tuples, Language, IsLanguage, IsCandidate, candidates, candidates_on, relations_on, violates, accepts, Answer, IsNetwork, IsNoOn, has_scope, agrees, is_struck, kept, Choice, Scene, allows, tells_apart, splitting_tuple, after_reply, remaining, find_all, all_below, next_scope, learn, scene_of, on_scope, free_choices, IsTold, both_true, any-filter, any-map, any_candidate, find_none, find_some, all_pairs_push, all_flat_map, all_candidates}
use Rattle.session_laws.proofs.OnScope.{exact_question, violates_there, accepts_learned}
use Rattle.rel_table.proofs.Tables.{same_table, one_number}
use Rattle.session_laws.proofs.Lists.{any_more, tuples_long, any_same}
use Rattle.shared_lemmas.proofs.Booleans.{beq-false, beq-true}
use Rattle.shared_lemmas.proofs.Lists.{some_kept}

-- ---- the choices on a scope

-- the choice of this relation is a free choice where the candidate is kept
pub kept_is_choice : (l : Language) (t : List Answer) (network : List Candidate) (p : Choice → Bool) (c : Candidate) → IsCandidate l c → is_struck l t c ≡ false → has_scope network c.scope ≡ false →
    p (Some c.rel) ≡ true → list_any p (free_choices (kept l t network) c.scope) ≡ true
kept_is_choice l t network p c is fresh free at =
    list_any-append p _ (None ∷ [])
    ∙ or_left _ _ (any-map p (λ (d : Candidate). Some d.rel) _ ∙ any-filter (λ (d : Candidate). p (Some d.rel)) (λ d. d.scope == c.scope) (kept l t network)
    ∙ any-filter (λ (d : Candidate). (d.scope == c.scope) && p (Some d.rel)) (λ d. not (is_struck l t d) && not (has_scope network d.scope)) (candidates l)
    ∙ any_candidate l (λ (d : Candidate). (not (is_struck l t d) && not (has_scope network d.scope)) && ((d.scope == c.scope) && p (Some d.rel))) c is
    (and_from _ _ (and_from _ _ (not_from_false _ fresh) (not_from_false _ free)) (and_from _ _ (eq-eqb c.scope c.scope refl) at)))

pub none_is_choice : (p : Choice → Bool) (live : List Candidate) (s : ℕ) → p None ≡ true → list_any p (free_choices live s) ≡ true
none_is_choice p live s at = list_any-append p _ (None ∷ []) ∙ or_right _ _ (or_left (p None) false at)

abbrev pub is_number : ℕ → Choice → Bool
is_number r None = false
is_number r (Some q) = q == r

pub at_none : (P : Choice → Type 0) (cs : List Choice) → All P cs → list_any is_none cs ≡ true → P None
at_none P [] all h = cc
at_none P (None ∷ cs) all h = All-head P None cs all
at_none P (Some r ∷ cs) all h = at_none P cs (All-tail P (Some r) cs all) h

any_at_none : (p : Choice → Bool) (cs : List Choice) → p None ≡ true → list_any is_none cs ≡ true → list_any p cs ≡ true
any_at_none p [] at h = cc
any_at_none p (None ∷ cs) at h = or_left (p None) (list_any p cs) at
any_at_none p (Some r ∷ cs) at h = or_right (p (Some r)) (list_any p cs) (any_at_none p cs at h)

any_at_number : (p : Choice → Bool) (r : ℕ) (cs : List Choice) → p (Some r) ≡ true → list_any (is_number r) cs ≡ true → list_any p cs ≡ true
any_at_number p r [] at h = cc
any_at_number p r (None ∷ cs) at h = or_right (p None) (list_any p cs) (any_at_number p r cs at h)
any_at_number p r (Some q ∷ cs) at h = go (cases_Bool (q == r)) (any_at_number p r cs at)
  where
    go : ((q == r) ≡ true) ⊎ ((q == r) ≡ false) → (list_any (is_number r) cs ≡ true → list_any p cs ≡ true) → list_any p (Some q ∷ cs) ≡ true
    go (inl same) rest = or_left (p (Some q)) (list_any p cs) (ap (λ x. p (Some x)) (eqb-true q r same) ∙ at)
    go (inr other) rest = or_right (p (Some q)) (list_any p cs) (rest (sym (ap (λ b. b || list_any (is_number r) cs) other) ∙ h))

-- a filter keeps the choice of this number where its test passes
pub number_kept : (t : Choice → Bool) (r : ℕ) (cs : List Choice) → t (Some r) ≡ true → list_any (is_number r) cs ≡ true → list_any (is_number r) (filter t cs) ≡ true
number_kept t r cs at h = any-filter (is_number r) t cs ∙ any_at_number (λ c. t c && is_number r c) r cs (and_from _ _ at (eq-eqb r r refl)) h

pub none_kept : (t : Choice → Bool) (cs : List Choice) → t None ≡ true → list_any is_none cs ≡ true → list_any is_none (filter t cs) ≡ true
none_kept t cs at h = any-filter is_none t cs ∙ any_at_none (λ c. t c && is_none c) cs (and_from _ _ at refl) h

-- ---- what holds while a session goes on

pub record IsSound (l : Language) (t : List Answer) (network : List Candidate) : Type 0 where
  pub legal : IsNetwork l network
  pub agreeing : agrees l network t ≡ true
  pub apart : AllPairs (λ c d. (c.scope ≡ d.scope) → ⊥) network
  pub begun : All (λ c. Any (IsNoOn l c) t) network
  pub told : All (IsTold l t) network

-- what tells that a candidate isn't the one
abbrev pub IsGone : Language → List Answer → Candidate → Type 0
IsGone l t d = (is_struck l t d ≡ true) ⊎ Any (λ a. IsNoOn l d a × (violates l d a.question ≡ false)) t

pub record IsHalfway (l : Language) (t : List Answer) (s : ℕ) (choices : List Choice) (network : List Candidate) : Type 0 where
  pub low : s < length l.scopes
  pub free : has_scope network s ≡ false
  pub legal : IsNetwork l network
  pub apart : AllPairs (λ c d. (c.scope ≡ d.scope) → ⊥) network
  pub begun : All (λ c. Any (IsNoOn l c) t) network
  pub told : All (IsTold l t) network
  pub some : 1 ≤ length choices
  pub agreeing : All (λ c. agrees l (learn network s c) t ≡ true) choices
  pub known : All (λ c. (r : ℕ) → c ≡ Some r → IsCandidate l (record { scope = s; rel = r })) choices
  pub gone : (r : ℕ) → IsCandidate l (record { scope = s; rel = r }) → list_any (is_number r) choices ≡ false → IsGone l t (record { scope = s; rel = r })
  pub none_gone : list_any is_none choices ≡ false → Any (IsNoOn l (record { scope = s; rel = 0 })) t

pub struck_more : (l : Language) (t : List Answer) (a : Answer) (c : Candidate) → is_struck l t c ≡ true → is_struck l (t ++ a ∷ []) c ≡ true
struck_more l t a c h = list_any-append (λ (b : Answer). b.yes && violates l c b.question) t (a ∷ []) ∙ or_left _ _ h

pub gone_more : (l : Language) (t : List Answer) (a : Answer) (d : Candidate) → IsGone l t d → IsGone l (t ++ a ∷ []) d
gone_more l t a d (inl struck) = inl (struck_more l t a d struck)
gone_more l t a d (inr some) = inr (any_more _ t a some)

pub told_more : (l : Language) (t : List Answer) (a : Answer) (b : Candidate) → IsTold l t b → IsTold l (t ++ a ∷ []) b
told_more l t a b told = λ d is same other. go d (told d is same other)
  where
    go : (d : Candidate) → (is_struck l t d ≡ true) ⊎ Any (λ a. IsNoOn l b a × (violates l d a.question ≡ false)) t →
        (is_struck l (t ++ a ∷ []) d ≡ true) ⊎ Any (λ a. IsNoOn l b a × (violates l d a.question ≡ false)) (t ++ a ∷ [])
    go d (inl struck) = inl (struck_more l t a d struck)
    go d (inr some) = inr (any_more _ t a some)

pub agrees_more : (l : Language) (network : List Candidate) (t : List Answer) (a : Answer) → agrees l network t ≡ true → beq (accepts l network a.question) a.yes ≡ true → agrees l network (t ++ a ∷ []) ≡ true
agrees_more l network t a old new = list_all-append (λ (b : Answer). beq (accepts l network b.question) b.yes) t (a ∷ []) ∙ and_from _ _ old (and_from _ _ new refl)

-- ---- a reply

pub beq_is : (a b c : Bool) → a ≡ b → beq b c ≡ true → beq a c ≡ true
beq_is a b c e h = ap (λ x. beq x c) e ∙ h

pub beq_false : (a : Bool) → a ≡ false → beq a false ≡ true
beq_false a h = ap (λ x. beq x false) h

-- of two kinds of choices, each reply leaves some
reply_leaves : (p : Choice → Bool) (cs : List Choice) (b : Bool) → list_any p cs ≡ true → list_any (λ c. not (p c)) cs ≡ true → list_any (λ c. beq (p c) b) cs ≡ true
reply_leaves p cs true h k = any_same (λ c. beq (p c) true) p cs (λ c. beq-true (p c)) ∙ h
reply_leaves p cs false h k = any_same (λ c. beq (p c) false) (λ c. not (p c)) cs (λ c. beq-false (p c)) ∙ k

module _ (l : Language) (lawful : IsLanguage l) where
  -- a reply to the question that tells the choices apart
  pub reply_halfway : (t : List Answer) (s : ℕ) (choices : List Choice) (network : List Candidate) (u : List ℕ) (a : Answer) → IsHalfway l t s choices network →
      splitting_tuple (scene_of l s) choices ≡ Some u → a.question ≡ on_scope l s u → IsHalfway l (t ++ a ∷ []) s (after_reply (scene_of l s) u a.yes choices) network
  reply_halfway t s choices network u a half split asked = record {
    low = half.low;
    free = half.free;
    legal = half.legal;
    apart = half.apart;
    begun = All-weaker _ _ (λ c some. any_more (IsNoOn l c) t a some) network half.begun;
    told = All-weaker _ _ (told_more l t a) network half.told;
    some = some_kept test choices (reply_leaves (allows scene u) choices a.yes parts.0 parts.1);
    agreeing = λ k d h. agrees_more l _ t a (All-filter test (λ c. agrees l (learn network s c) t ≡ true) choices half.agreeing k d h)
        (beq_is _ (allows scene u (slice_index_or (filter test choices) k d)) a.yes
        (ap (accepts l (learn network s (slice_index_or (filter test choices) k d))) asked ∙ accepts_learned l lawful s half.low u long network half.legal half.free _)
        (filter_passes test choices k d h));
    known = All-filter test (λ c. (r : ℕ) → c ≡ Some r → IsCandidate l (record { scope = s; rel = r })) choices half.known;
    gone = λ r is lost. lose r is lost (cases_Bool (list_any (is_number r) choices)) (cases_Bool (test (Some r)));
    none_gone = λ lost. lose_none lost (cases_Bool (list_any is_none choices)) (cases_Bool (test None));
  }
    where
      scene : Scene
      scene = scene_of l s

      test : Choice → Bool
      test c = beq (allows scene u c) a.yes

      parts : (list_any (allows scene u) choices ≡ true) × (list_any (λ c. not (allows scene u c)) choices ≡ true)
      parts = and_parts _ _ (find_some (tells_apart scene choices) (tuples l.value_count (length (slice_index_or l.scopes s []))) u split)

      long : length u ≡ length (slice_index_or l.scopes s [])
      long = find_all (λ v. length v ≡ length (slice_index_or l.scopes s [])) (tells_apart scene choices) (tuples l.value_count (length (slice_index_or l.scopes s []))) u
          (tuples_long l.value_count (length (slice_index_or l.scopes s []))) split

      place_in : length t < length (t ++ a ∷ [])
      place_in = omega (arith, length-append t (a ∷ []))

      no_here : (c : Candidate) → c.scope ≡ s → a.yes ≡ false → IsNoOn l c a
      no_here c same denied = record { no = denied; exact = ap variables_of asked ∙ exact_question l lawful s half.low u long ∙ ap (λ i. slice_index_or l.scopes i []) (sym same) }

      violated : (r : ℕ) → violates l (record { scope = s; rel = r }) a.question ≡ not (allows scene u (Some r))
      violated r = ap (violates l (record { scope = s; rel = r })) asked ∙ violates_there l lawful s half.low u long r

      strike : (r : ℕ) → a.yes ≡ true → allows scene u (Some r) ≡ false → is_struck l (t ++ a ∷ []) (record { scope = s; rel = r }) ≡ true
      strike r said rejects = list_any-append (λ (b : Answer). b.yes && violates l (record { scope = s; rel = r }) b.question) t (a ∷ [])
          ∙ or_right _ _ (or_left _ false (and_from _ _ said (violated r ∙ not_from_false _ rejects)))

      by_reply : (r : ℕ) → test (Some r) ≡ false → (a.yes ≡ true) ⊎ (a.yes ≡ false) → IsGone l (t ++ a ∷ []) (record { scope = s; rel = r })
      by_reply r fails (inl said) = inl (strike r said (sym (beq-true _) ∙ ap (beq (allows scene u (Some r))) (sym said) ∙ fails))
      by_reply r fails (inr denied) = inr (Any-push _ t a
          (no_here (record { scope = s; rel = r }) refl denied, violated r ∙ sym (beq-false _) ∙ ap (beq (allows scene u (Some r))) (sym denied) ∙ fails))

      lose : (r : ℕ) → IsCandidate l (record { scope = s; rel = r }) → list_any (is_number r) (filter test choices) ≡ false →
          (list_any (is_number r) choices ≡ true) ⊎ (list_any (is_number r) choices ≡ false) → (test (Some r) ≡ true) ⊎ (test (Some r) ≡ false) → IsGone l (t ++ a ∷ []) (record { scope = s; rel = r })
      lose r is lost (inr before) passes = gone_more l t a _ (half.gone r is before)
      lose r is lost (inl there) (inl passes) = absurd (both_ways _ lost (number_kept test r choices passes there))
      lose r is lost (inl there) (inr fails) = by_reply r fails (cases_Bool a.yes)

      by_no : (a.yes ≡ true) ⊎ (a.yes ≡ false) → test None ≡ false → Any (IsNoOn l (record { scope = s; rel = 0 })) (t ++ a ∷ [])
      by_no (inl said) fails = absurd (both_ways _ fails (ap (beq true) said))
      by_no (inr denied) fails = Any-push _ t a (no_here (record { scope = s; rel = 0 }) refl denied)

      lose_none : list_any is_none (filter test choices) ≡ false → (list_any is_none choices ≡ true) ⊎ (list_any is_none choices ≡ false) → (test None ≡ true) ⊎ (test None ≡ false) →
          Any (IsNoOn l (record { scope = s; rel = 0 })) (t ++ a ∷ [])
      lose_none lost (inr before) passes = any_more _ t a (half.none_gone before)
      lose_none lost (inl there) (inl passes) = absurd (both_ways _ lost (none_kept test choices passes there))
      lose_none lost (inl there) (inr fails) = by_no (cases_Bool a.yes) fails

  -- choices that no tuple tells apart are at their end
  pub settled : (t : List Answer) (s : ℕ) (choices : List Choice) (network : List Candidate) → IsHalfway l t s choices network →
      splitting_tuple (scene_of l s) choices ≡ None → IsSound l t (learn network s (remaining choices))
  settled t s [] network half split = absurd (let some = half.some in omega arith)
  settled t s (c ∷ cs) network half split = go (list_any is_none (c ∷ cs)) refl
    where
      tables : List Relation
      tables = relations_on l s

      same_choice : (r q : ℕ) → IsCandidate l (record { scope = s; rel = r }) → IsCandidate l (record { scope = s; rel = q }) →
          list_any (is_number r) (c ∷ cs) ≡ true → list_any (is_number q) (c ∷ cs) ≡ true → r ≡ q
      same_choice r q is_r is_q there_r there_q =
          let sized = lawful.sized s half.low in
          let closing = lawful.closed s half.low in
          one_number tables r q closing.falling is_r.rel is_q.rel
          (same_table l.value_count (length (slice_index_or l.scopes s [])) (slice_index_or tables r []) (slice_index_or tables q []) (tells_apart (scene_of l s) (c ∷ cs))
          (sized r [] is_r.rel) (sized q [] is_q.rel) (find_none (tells_apart (scene_of l s) (c ∷ cs)) (tuples l.value_count (length (slice_index_or l.scopes s []))) split)
          (λ u undecided. both_true _ _ (follows u r q there_r there_q undecided) (follows u q r there_q there_r undecided)))
        where
          follows : (u : List ℕ) (r q : ℕ) → list_any (is_number r) (c ∷ cs) ≡ true → list_any (is_number q) (c ∷ cs) ≡ true → tells_apart (scene_of l s) (c ∷ cs) u ≡ false →
              allows (scene_of l s) u (Some r) ≡ true → allows (scene_of l s) u (Some q) ≡ true
          follows u r q there_r there_q undecided yes_r = true_from_ne_false _ (λ no_q. both_ways _ undecided (and_from _ _
              (any_at_number (allows (scene_of l s) u) r (c ∷ cs) yes_r there_r)
              (any_at_number (λ x. not (allows (scene_of l s) u x)) q (c ∷ cs) (not_from_false _ no_q) there_q)))

      move_no : (d : Candidate) (r : ℕ) (a : Answer) → d.scope ≡ s → IsNoOn l d a → IsNoOn l (record { scope = s; rel = r }) a
      move_no d r a same on = record { no = on.no; exact = on.exact ∙ ap (λ i. slice_index_or l.scopes i []) same }

      told_by : (d : Candidate) (r : ℕ) → d.scope ≡ s → IsGone l t d → (is_struck l t d ≡ true) ⊎ Any (λ a. IsNoOn l (record { scope = s; rel = r }) a × (violates l d a.question ≡ false)) t
      told_by d r same (inl struck) = inl struck
      told_by d r same (inr (k, a, low, at, (on, fine))) = inr (k, a, low, at, (move_no d r a same on, fine))

      is_gone : (d : Candidate) → IsCandidate l d → d.scope ≡ s → list_any (is_number d.rel) (c ∷ cs) ≡ false → IsGone l t d
      is_gone d is same lost =
          subst (λ (i : ℕ). IsCandidate l (record { scope = i; rel = d.rel }) → IsGone l t (record { scope = i; rel = d.rel })) (sym same) (λ is_here. half.gone d.rel is_here lost) is

      told_of : (r : ℕ) → IsCandidate l (record { scope = s; rel = r }) → list_any (is_number r) (c ∷ cs) ≡ true → IsTold l t (record { scope = s; rel = r })
      told_of r is_r there_r = λ d is same other. pick d is same other (cases_Bool (list_any (is_number d.rel) (c ∷ cs)))
        where
          pick : (d : Candidate) → IsCandidate l d → d.scope ≡ s → (d.rel ≡ r → ⊥) → (list_any (is_number d.rel) (c ∷ cs) ≡ true) ⊎ (list_any (is_number d.rel) (c ∷ cs) ≡ false) →
              (is_struck l t d ≡ true) ⊎ Any (λ a. IsNoOn l (record { scope = s; rel = r }) a × (violates l d a.question ≡ false)) t
          pick d is same other (inr lost) = told_by d r same (is_gone d is same lost)
          pick d is same other (inl there) = absurd (other (same_choice d.rel r (subst (λ (i : ℕ). IsCandidate l (record { scope = i; rel = d.rel })) same is) is_r there there_r))

      elsewhere : (xs : List Candidate) → has_scope xs s ≡ false → (k : ℕ) (d : Candidate) → k < length xs → (slice_index_or xs k d).scope ≡ s → ⊥
      elsewhere [] none k d low = absurd (omega arith)
      elsewhere (x ∷ xs) none zero d low = λ same. both_ways _ (or_parts _ _ none).0 (eq-eqb x.scope s same)
      elsewhere (x ∷ xs) none (suc k) d low = elsewhere xs (or_parts _ _ none).1 k d (omega arith)

      learned : (r : ℕ) → c ≡ Some r → list_any is_none (c ∷ cs) ≡ false → IsSound l t (learn network s c)
      learned r is_some no_none =
          let b : Candidate = record { scope = s; rel = r } in
          let is_b : IsCandidate l b = All-head (λ x. (r : ℕ) → x ≡ Some r → IsCandidate l (record { scope = s; rel = r })) c cs half.known r is_some in
          let there : list_any (is_number r) (c ∷ cs) ≡ true = or_left (is_number r c) (list_any (is_number r) cs) (ap (is_number r) is_some ∙ eq-eqb r r refl) in
          subst (λ (x : Choice). IsSound l t (learn network s x)) (sym is_some) (record {
            legal = All-push (IsCandidate l) network b half.legal is_b;
            agreeing = ap (λ x. agrees l (learn network s x) t) (sym is_some) ∙ All-head (λ x. agrees l (learn network s x) t ≡ true) c cs half.agreeing;
            apart = all_pairs_push (λ c d. (c.scope ≡ d.scope) → ⊥) network b half.apart (λ k d low. elsewhere network half.free k d low);
            begun = All-push (λ c. Any (IsNoOn l c) t) network b half.begun (begun_here (half.none_gone no_none));
            told = All-push (IsTold l t) network b half.told (told_of r is_b there);
          })
        where
          begun_here : Any (IsNoOn l (record { scope = s; rel = 0 })) t → Any (IsNoOn l (record { scope = s; rel = r })) t
          begun_here (k, a, low, at, on) = (k, a, low, at, record { no = on.no; exact = on.exact })

      first_is : (x : Choice) → c ≡ x → list_any is_none (c ∷ cs) ≡ false → IsSound l t (learn network s c)
      first_is None is no_none = absurd (both_ways _ no_none (or_left (is_none c) (list_any is_none cs) (ap is_none is)))
      first_is (Some r) is no_none = learned r is no_none

      go : (b : Bool) → list_any is_none (c ∷ cs) ≡ b → IsSound l t (learn network s (cond b None c))
      go true some = record { legal = half.legal; agreeing = at_none (λ x. agrees l (learn network s x) t ≡ true) (c ∷ cs) half.agreeing some; apart = half.apart; begun = half.begun; told = half.told }
      go false no_none = first_is c refl no_none

-- ---- a new scope

pub still_agrees : (acc y v : Bool) → beq acc y ≡ true → (y && v) ≡ false → beq (acc && (not v && true)) y ≡ true
still_agrees true true false h k = refl
still_agrees true true true h k = sym k
still_agrees false true v h k = cc
still_agrees true false v h k = cc
still_agrees false false v h k = refl

pub agrees_with_fresh : (l : Language) (network : List Candidate) (c : Candidate) (t : List Answer) → agrees l network t ≡ true → is_struck l t c ≡ false → agrees l (network ++ c ∷ []) t ≡ true
agrees_with_fresh l network c [] h fresh = refl
agrees_with_fresh l network c (a ∷ t) h fresh =
    let old = and_parts (beq (accepts l network a.question) a.yes) (agrees l network t) h in
    let new = or_parts (a.yes && violates l c a.question) (is_struck l t c) fresh in
    and_from _ _ (ap (λ x. beq x a.yes) (list_all-append (λ (d : Candidate). not (violates l d a.question)) network (c ∷ [])) ∙ still_agrees (accepts l network a.question) a.yes (violates l c a.question) old.0 new.0)
    (agrees_with_fresh l network c t old.1 new.1)

-- a free choice is none or a relation on the scope
pub free_known : (l : Language) (t : List Answer) (network : List Candidate) (s : ℕ) →
    All (λ x. (r : ℕ) → x ≡ Some r → IsCandidate l (record { scope = s; rel = r })) (free_choices (kept l t network) s)
free_known l t network s =
    All-append (λ x. (r : ℕ) → x ≡ Some r → IsCandidate l (record { scope = s; rel = r })) _ (None ∷ [])
    (All-map (λ x. (r : ℕ) → x ≡ Some r → IsCandidate l (record { scope = s; rel = r })) (λ (c : Candidate). Some c.rel) here (λ k d h. known_here (slice_index_or here k d) (on_scope_here k d h) (candidate_here k d h)))
    (All-cons (λ x. (r : ℕ) → x ≡ Some r → IsCandidate l (record { scope = s; rel = r })) None [] (λ r e. cc) (All-nil (λ x. (r : ℕ) → x ≡ Some r → IsCandidate l (record { scope = s; rel = r }))))
  where
    here : List Candidate
    here = filter (λ c. c.scope == s) (kept l t network)

    on_scope_here : All (λ (c : Candidate). (c.scope == s) ≡ true) here
    on_scope_here = filter_passes (λ c. c.scope == s) (kept l t network)

    candidate_here : All (IsCandidate l) here
    candidate_here = All-filter (λ c. c.scope == s) (IsCandidate l) (kept l t network)
        (All-filter (λ c. not (is_struck l t c) && not (has_scope network c.scope)) (IsCandidate l) (candidates l) (all_candidates l))

    known_here : (c : Candidate) → (c.scope == s) ≡ true → IsCandidate l c → (r : ℕ) → Some c.rel ≡ Some r → IsCandidate l (record { scope = s; rel = r })
    known_here c at is r e =
        let same : c.rel ≡ r = cc in
        subst (λ (x : Candidate). IsCandidate l x) (λ i. record { scope = eqb-true c.scope s at i; rel = same i }) is

pub begin_halfway : (l : Language) (t : List Answer) (network : List Candidate) (s : ℕ) → IsSound l t network → next_scope l (kept l t network) network ≡ Some s →
    IsHalfway l t s (free_choices (kept l t network) s) network
begin_halfway l t network s sound next = record {
  low = find_all (λ v. v < length l.scopes) differs (numbers (length l.scopes)) s (all_below (λ v. v < length l.scopes) (length l.scopes) (λ v low. low)) next;
  free = free;
  legal = sound.legal;
  apart = sound.apart;
  begun = sound.begun;
  told = sound.told;
  some = omega (arith, length-append (map (λ (c : Candidate). Some c.rel) here) (None ∷ []));
  agreeing = All-append (λ x. agrees l (learn network s x) t ≡ true) _ (None ∷ [])
      (All-map (λ x. agrees l (learn network s x) t ≡ true) (λ (c : Candidate). Some c.rel) here (λ k d h. agrees_with_fresh l network _ t sound.agreeing (fresh_here k d h)))
      (All-cons (λ x. agrees l (learn network s x) t ≡ true) None [] sound.agreeing (All-nil (λ x. agrees l (learn network s x) t ≡ true)));
  known = free_known l t network s;
  gone = λ r is lost. inl (true_from_ne_false _ (λ fresh. both_ways _ lost (kept_is_choice l t network (is_number r) (record { scope = s; rel = r }) is fresh free (eq-eqb r r refl))));
  none_gone = λ lost. absurd (both_ways _ lost (none_is_choice is_none (kept l t network) s refl));
}
  where
    differs : ℕ → Bool
    differs v = not (has_scope network v) && is_some (splitting_tuple (scene_of l v) (free_choices (kept l t network) v))

    free : has_scope network s ≡ false
    free = not-true _ (and_parts _ _ (find_some differs (numbers (length l.scopes)) s next)).0

    here : List Candidate
    here = filter (λ c. c.scope == s) (kept l t network)

    on_scope_here : All (λ (c : Candidate). (c.scope == s) ≡ true) here
    on_scope_here = filter_passes (λ c. c.scope == s) (kept l t network)

    passes : All (λ c. (not (is_struck l t c) && not (has_scope network c.scope)) ≡ true) here
    passes = All-filter (λ c. c.scope == s) (λ c. (not (is_struck l t c) && not (has_scope network c.scope)) ≡ true) (kept l t network)
        (filter_passes (λ c. not (is_struck l t c) && not (has_scope network c.scope)) (candidates l))

    fresh_here : (k : ℕ) (d : Candidate) → k < length here → is_struck l t (record { scope = s; rel = (slice_index_or here k d).rel }) ≡ false
    fresh_here k d h = subst (λ (i : ℕ). is_struck l t (record { scope = i; rel = (slice_index_or here k d).rel }) ≡ false) (eqb-true _ s (on_scope_here k d h)) (not-true _ (and_parts _ _ (passes k d h)).0)

-- ---- the beginning

pub nothing_yet : (l : Language) → IsSound l [] []
nothing_yet l = record {
  legal = All-nil (IsCandidate l);
  agreeing = refl;
  apart = λ i j d h k. absurd (omega arith);
  begun = All-nil (λ c. Any (IsNoOn l c) []);
  told = All-nil (IsTold l []);
}
