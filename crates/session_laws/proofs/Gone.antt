-- Candidates that are gone: those that can't be learned any more. Each yes makes one more so.
use Rattle.session_laws.proofs.Prelude.{◌≡◌, ℕ, suc, ◌+◌, ◌≤◌, Bool, true, false, ◌||◌, ◌&&◌, not, List, [], ◌∷◌, ◌++◌, length, Some, refl, sym, ◌∙◌, ap, arith, inl, inr, ◌⊎◌, length-append, ◌==◌, list_any, filter, list_any-append, and_parts, and_from, and_left, or_cases, or_left, or_right, or_from, both_ways, not_from_false, not-true, eqb-true, eq-eqb, false_from_ne_true, Candidate, Language, IsCandidate, candidates, violates, Answer, has_scope, is_struck, kept, Choice, violates_some, any-filter, all_candidates}
use Rattle.session_laws.proofs.Lists.{fewer_in, more_in}
use Rattle.session_laws.proofs.Choices.{is_number, struck_more}
use Rattle.language.proofs.Lists.{any_weaker}

-- ---- counting

-- how many candidates of the language pass
abbrev pub count : Language → (Candidate → Bool) → ℕ
count l g = length (filter g (candidates l))

pub count_le : (l : Language) (g k : Candidate → Bool) → ((c : Candidate) → IsCandidate l c → g c ≡ true → k c ≡ true) → count l g ≤ count l k
count_le l g k h = fewer_in (IsCandidate l) g k (candidates l) (all_candidates l) h

pub count_up : (l : Language) (g k : Candidate → Bool) → ((c : Candidate) → IsCandidate l c → g c ≡ true → k c ≡ true) → list_any (λ c. not (g c) && k c) (candidates l) ≡ true → suc (count l g) ≤ count l k
count_up l g k h at = more_in (IsCandidate l) g k (candidates l) (all_candidates l) h at

-- ---- candidates that are gone

abbrev pub is_in : List Candidate → Candidate → Bool
is_in network c = list_any (λ d. (d.scope == c.scope) && (d.rel == c.rel)) network

abbrev pub is_gone : Language → List Answer → List Candidate → Candidate → Bool
is_gone l t network c = is_struck l t c || (has_scope network c.scope && not (is_in network c))

-- on the scope that is told apart, and no choice any more
abbrev pub is_out : ℕ → List Choice → Candidate → Bool
is_out s choices c = (c.scope == s) && not (list_any (is_number c.rel) choices)

abbrev pub gone_count : Language → List Answer → List Candidate → ℕ
gone_count l t network = count l (is_gone l t network)

abbrev pub out_count : Language → List Answer → List Candidate → ℕ → List Choice → ℕ
out_count l t network s choices = count l (λ c. is_gone l t network c || is_out s choices c)

pub gone_later : (l : Language) (t : List Answer) (a : Answer) (network : List Candidate) (c : Candidate) → is_gone l t network c ≡ true → is_gone l (t ++ a ∷ []) network c ≡ true
gone_later l t a network c h = go (or_cases (is_struck l t c) _ h)
  where
    go : (is_struck l t c ≡ true) ⊎ ((has_scope network c.scope && not (is_in network c)) ≡ true) → is_gone l (t ++ a ∷ []) network c ≡ true
    go (inl struck) = or_left _ _ (struck_more l t a c struck)
    go (inr other) = or_right _ _ other

pub struck_now : (l : Language) (t : List Answer) (a : Answer) (c : Candidate) → a.yes ≡ true → violates l c a.question ≡ true → is_struck l (t ++ a ∷ []) c ≡ true
struck_now l t a c said bad = list_any-append (λ (b : Answer). b.yes && violates l c b.question) t (a ∷ []) ∙ or_right _ _ (or_left _ false (and_from _ _ said bad))

-- a yes to a question that violates a kept candidate
pub yes_counts : (l : Language) (t : List Answer) (a : Answer) (network : List Candidate) → violates_some l (kept l t network) a.question ≡ true → a.yes ≡ true → suc (gone_count l t network) ≤ gone_count l (t ++ a ∷ []) network
yes_counts l t a network bites said = count_up l (is_gone l t network) (is_gone l (t ++ a ∷ []) network) (λ c is h. gone_later l t a network c h)
    (any_weaker (λ c. (not (is_struck l t c) && not (has_scope network c.scope)) && violates l c a.question) (λ c. not (is_gone l t network c) && is_gone l (t ++ a ∷ []) network c) (candidates l) one
    (sym (any-filter (λ c. violates l c a.question) (λ c. not (is_struck l t c) && not (has_scope network c.scope)) (candidates l)) ∙ bites))
  where
    one : (c : Candidate) → ((not (is_struck l t c) && not (has_scope network c.scope)) && violates l c a.question) ≡ true → (not (is_gone l t network c) && is_gone l (t ++ a ∷ []) network c) ≡ true
    one c h =
        let both = and_parts (not (is_struck l t c) && not (has_scope network c.scope)) (violates l c a.question) h in
        let live = and_parts (not (is_struck l t c)) (not (has_scope network c.scope)) both.0 in
        and_from _ _ (not_from_false _ (or_from _ _ (not-true _ live.0) (and_left _ _ (not-true _ live.1)))) (or_left _ _ (struck_now l t a c said both.1))

pub no_counts : (l : Language) (t : List Answer) (a : Answer) (network : List Candidate) → gone_count l t network ≤ gone_count l (t ++ a ∷ []) network
no_counts l t a network = count_le l (is_gone l t network) (is_gone l (t ++ a ∷ []) network) (λ c is h. gone_later l t a network c h)

pub longer : (t : List Answer) (a : Answer) → length (t ++ a ∷ []) ≡ suc (length t)
longer t a = length-append t (a ∷ []) ∙ (let e : length t + 1 ≡ suc (length t) = omega arith in e)

-- ---- with a candidate learned, and with fewer choices

in_scope : (network : List Candidate) (c : Candidate) → is_in network c ≡ true → has_scope network c.scope ≡ true
in_scope network c h = any_weaker (λ d. (d.scope == c.scope) && (d.rel == c.rel)) (λ d. d.scope == c.scope) network (λ d both. (and_parts (d.scope == c.scope) _ both).0) h

pub learned_gone : (l : Language) (t : List Answer) (network : List Candidate) (s r : ℕ) (cs : List Choice) → has_scope network s ≡ false → (c : Candidate) →
    (is_gone l t network c || is_out s (Some r ∷ cs) c) ≡ true → is_gone l t (network ++ record { scope = s; rel = r } ∷ []) c ≡ true
learned_gone l t network s r cs free c h = go (or_cases (is_gone l t network c) (is_out s (Some r ∷ cs) c) h)
  where
    has_more : (has_scope network c.scope || ((s == c.scope) || false)) ≡ true → has_scope (network ++ record { scope = s; rel = r } ∷ []) c.scope ≡ true
    has_more e = list_any-append (λ d. d.scope == c.scope) network (record { scope = s; rel = r } ∷ []) ∙ e

    not_in : is_in network c ≡ false → ((s == c.scope) && (r == c.rel)) ≡ false → not (is_in (network ++ record { scope = s; rel = r } ∷ []) c) ≡ true
    not_in e f = not_from_false _ (list_any-append (λ d. (d.scope == c.scope) && (d.rel == c.rel)) network (record { scope = s; rel = r } ∷ []) ∙ or_from _ _ e (or_from _ false f refl))

    nowhere : c.scope ≡ s → is_in network c ≡ false
    nowhere same = false_from_ne_true _ (λ there. both_ways _ free (ap (has_scope network) (sym same) ∙ in_scope network c there))

    other : has_scope network c.scope ≡ true → ((s == c.scope) && (r == c.rel)) ≡ false
    other there = and_left _ _ (false_from_ne_true _ (λ same. both_ways _ free (ap (has_scope network) (eqb-true s c.scope same) ∙ there)))

    was : (is_struck l t c ≡ true) ⊎ ((has_scope network c.scope && not (is_in network c)) ≡ true) → is_gone l t (network ++ record { scope = s; rel = r } ∷ []) c ≡ true
    was (inl struck) = or_left _ _ struck
    was (inr both) =
        let parts = and_parts (has_scope network c.scope) (not (is_in network c)) both in
        or_right _ _ (and_from _ _ (has_more (or_left _ _ parts.0)) (not_in (not-true _ parts.1) (other parts.0)))

    go : (is_gone l t network c ≡ true) ⊎ (is_out s (Some r ∷ cs) c ≡ true) → is_gone l t (network ++ record { scope = s; rel = r } ∷ []) c ≡ true
    go (inl gone) = was (or_cases (is_struck l t c) _ gone)
    go (inr out) =
        let parts = and_parts (c.scope == s) (not (list_any (is_number c.rel) (Some r ∷ cs))) out in
        let same : c.scope ≡ s = eqb-true c.scope s parts.0 in
        or_right _ _ (and_from _ _ (has_more (or_right _ _ (or_left _ false (eq-eqb s c.scope (sym same)))))
        (not_in (nowhere same) (false_from_ne_true _ (λ both. both_ways _ (not-true _ parts.1) (or_left _ _ (and_parts (s == c.scope) (r == c.rel) both).1)))))

pub out_later : (s : ℕ) (test : Choice → Bool) (choices : List Choice) (c : Candidate) → is_out s choices c ≡ true → is_out s (filter test choices) c ≡ true
out_later s test choices c h =
    let parts = and_parts (c.scope == s) (not (list_any (is_number c.rel) choices)) h in
    and_from _ _ parts.0 (not_from_false _ (false_from_ne_true _ (λ there. both_ways _ (not-true _ parts.1)
    (any_weaker (λ x. test x && is_number c.rel x) (is_number c.rel) choices (λ x both. (and_parts (test x) _ both).1) (sym (any-filter (is_number c.rel) test choices) ∙ there)))))
