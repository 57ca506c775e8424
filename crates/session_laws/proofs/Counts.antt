-- How many answers a state may have taken. Each yes, and each no that tells choices apart, makes one more candidate gone, and each learned candidate pays for the noes of one halving.
use Rattle.session_laws.proofs.Prelude.{◌≡◌, ℕ, zero, suc, ◌+◌, ◌*◌, ◌<◌, ◌≤◌, Bool, true, false, cond, ◌||◌, ◌&&◌, not, List, [], ◌∷◌, ◌++◌, length, Option, Some, None, refl, sym, ◌∙◌, ap, subst, arith, inl, inr, ◌⊎◌, length-append, ◌==◌, All, Any, slice_index_or, is_none, beq, list_any, filter, All-map, All-nil, All-append, list_any_at, list_all-append, Any-from_list_any, cases_Bool, and_parts, and_from, and_left, or_cases, or_left, or_right, or_from, both_ways, not_from_false, not-true, eqb-true, eq-eqb, false_from_ne_true, true_from_ne_false, Candidate, without, Rises, Assignment, restrict, tuples, Language, IsLanguage, IsCandidate, variable_count, scope_of, violates, accepts, Answer, agrees, is_struck, kept, log_up, Choice, allows, tells_apart, splitting_tuple, after_reply, remaining, find_all, Walk, Asks, violates_some, learned_within, parts_without, take_set, next_turn, State, Idle, Halving, Choosing, Walking, Over, learn, at_turn, go_on, settle_choices, chosen, scene_of, on_scope, not_struck, denied, rises_where, any-filter, any_candidate, find_some, noes, greatest_arity}
use Rattle.session_laws.proofs.Lists.{tuples_long, any_never}
use Rattle.session_laws.proofs.OnScope.{violates_there}
use Rattle.session_laws.proofs.Choices.{IsHalfway, is_number, struck_more, number_kept}
use Rattle.session_laws.proofs.Gone.{count_le, count_up, is_gone, is_out, gone_count, out_count, gone_later, struck_now, longer, learned_gone, out_later}
use Rattle.session_laws.proofs.Lengths.{length_without}
use Rattle.language.proofs.Lists.{any_weaker}

-- ---- what a state may have taken

-- what a learned candidate pays for
abbrev pub cost : Language → ℕ
cost l = greatest_arity l * log_up (variable_count l) + 1

abbrev pub spare : Language → List Choice → ℕ
spare l choices = cond (list_any is_none choices) 0 (cost l)

abbrev pub IsShort : Language → List (List ℕ) → Type 0
IsShort l sets = All (λ s. Rises 0 s × (length s ≤ variable_count l)) sets

abbrev pub IsOnShort : Language → Option Walk → Type 0
IsOnShort l None = Unit {0}
IsOnShort l (Some walk) = IsShort l walk.waiting

abbrev pub Counts : Language → List Answer → State → Type 0
Counts l t (Idle network end) = length t ≤ gone_count l t network + length network * cost l
Counts l t (Walking set walk network) = (length t ≤ gone_count l t network + length network * cost l) × IsShort l (set ∷ walk.waiting) × (violates_some l (kept l t network) (restrict walk.example set) ≡ true)
Counts l t (Halving e set replies network walk) = (length t ≤ gone_count l t network + length network * cost l + 1 + noes replies) × (length set ≤ variable_count l) × IsOnShort l walk
Counts l t (Choosing s choices network walk) = (length t ≤ out_count l t network s choices + length network * cost l + spare l choices)
    × (list_any is_none choices ≡ true → (c : Candidate) → IsCandidate l c → is_out s choices c ≡ true → is_struck l t c ≡ true) × IsOnShort l walk
Counts l t (Over network) = (length t ≤ gone_count l t network + length network * cost l + 1 + variable_count l * log_up (variable_count l)) × (length network ≤ length l.scopes)

-- ---- on with a walk

turn_counts : (l : Language) (t : List Answer) (network : List Candidate) (e : Assignment) → length t ≤ gone_count l t network + length network * cost l →
    (left : ℕ) (waiting : List (List ℕ)) → IsShort l waiting → Counts l t (at_turn network (next_turn l network (kept l t network) e left waiting))
unfolding next_turn
turn_counts l t network e low zero [] all = low
turn_counts l t network e low (suc left) [] all = low
turn_counts l t network e low zero (set ∷ waiting) all = low
turn_counts l t network e low (suc left) (set ∷ waiting) all =
    go (learned_within l network e set) (λ parts rising. turn_counts l t network e low left (parts ++ waiting) (All-append (λ s. Rises 0 s × (length s ≤ variable_count l)) parts waiting rising rest))
  where
    rest : IsShort l waiting
    rest = λ k d low. all (suc k) d (omega arith)

    here : Rises 0 set × (length set ≤ variable_count l)
    here = all 0 set (omega arith)

    pick : (b : Bool) → violates_some l (kept l t network) (restrict e set) ≡ b → Counts l t (at_turn network (next_turn l network (kept l t network) e left ([] ++ waiting))) → Counts l t (at_turn network (elim b [
      | true ↦ Asks set (record { example = e; waiting = waiting; left = left })
      | false ↦ next_turn l network (kept l t network) e left ([] ++ waiting)
    ]))
    pick true bites next = (low, all, bites)
    pick false quiet next = next

    go : (o : Option Candidate) → ((parts : List (List ℕ)) → IsShort l parts → Counts l t (at_turn network (next_turn l network (kept l t network) e left (parts ++ waiting)))) →
        Counts l t (at_turn network (take_set l network (kept l t network) e set o (λ parts. next_turn l network (kept l t network) e left (parts ++ waiting)) (Asks set (record { example = e; waiting = waiting; left = left }))))
    go (Some c) next = next (parts_without set (scope_of l c)) (All-map (λ s. Rises 0 s × (length s ≤ variable_count l)) (λ v. without set v) (scope_of l c) (λ k d below.
        (rises_where _, (let fewer = length_without set (slice_index_or (scope_of l c) k d) here.0 in let most = here.1 in omega arith))))
    go None next = pick (violates_some l (kept l t network) (restrict e set)) refl (next [] (All-nil (λ s. Rises 0 s × (length s ≤ variable_count l))))

pub go_on_counts : (l : Language) (t : List Answer) (network : List Candidate) (walk : Option Walk) → length t ≤ gone_count l t network + length network * cost l → IsOnShort l walk → Counts l t (go_on l t network walk)
go_on_counts l t network None low on = low
go_on_counts l t network (Some walk) low on = turn_counts l t network walk.example low walk.left walk.waiting on

-- ---- a candidate is learned, or none on this scope

plus_one : (t out k w : ℕ) → t ≤ out + k * w + w → t ≤ out + suc k * w
plus_one t out k w h = (let e : suc k * w ≡ k * w + w = omega arith in omega arith)

pub settle_counts : (l : Language) (t : List Answer) (s : ℕ) (choices : List Choice) (network : List Candidate) (walk : Option Walk) → IsHalfway l t s choices network → Counts l t (Choosing s choices network walk) →
    Counts l t (settle_choices l t s choices network walk)
settle_counts l t s choices network walk half counts = go (splitting_tuple (scene_of l s) choices)
  where
    learned : (cs : List Choice) → 1 ≤ length cs → length t ≤ out_count l t network s cs + length network * cost l + spare l cs →
        (list_any is_none cs ≡ true → (c : Candidate) → IsCandidate l c → is_out s cs c ≡ true → is_struck l t c ≡ true) →
        length t ≤ gone_count l t (learn network s (remaining cs)) + length (learn network s (remaining cs)) * cost l
    learned [] some low told = absurd (omega arith)
    learned (c ∷ cs) some low told = pick (list_any is_none (c ∷ cs)) refl
      where
        one : (x : Choice) → c ≡ x → list_any is_none (c ∷ cs) ≡ false → length t ≤ gone_count l t (learn network s x) + length (learn network s x) * cost l
        one None is none = absurd (both_ways _ none (or_left _ _ (ap is_none is)))
        one (Some r) is none =
            let moved : length t ≤ out_count l t network s (Some r ∷ cs) + length network * cost l + cost l =
            subst (λ (x : Choice). length t ≤ out_count l t network s (x ∷ cs) + length network * cost l + cost l) is
            (subst (λ (b : Bool). length t ≤ out_count l t network s (c ∷ cs) + length network * cost l + cond b 0 (cost l)) none low) in
            let more : out_count l t network s (Some r ∷ cs) ≤ gone_count l t (network ++ record { scope = s; rel = r } ∷ []) =
            count_le l (λ d. is_gone l t network d || is_out s (Some r ∷ cs) d) (is_gone l t (network ++ record { scope = s; rel = r } ∷ [])) (λ d is_d h. learned_gone l t network s r cs half.free d h) in
            let long : length (network ++ record { scope = s; rel = r } ∷ []) ≡ suc (length network) = length-append network (record { scope = s; rel = r } ∷ []) ∙ (let e : length network + 1 ≡ suc (length network) = omega arith in e) in
            subst (λ (k : ℕ). length t ≤ gone_count l t (network ++ record { scope = s; rel = r } ∷ []) + k * cost l) (sym long)
            (plus_one (length t) (gone_count l t (network ++ record { scope = s; rel = r } ∷ [])) (length network) (cost l) (omega arith))

        pick : (b : Bool) → list_any is_none (c ∷ cs) ≡ b → length t ≤ gone_count l t (learn network s (cond b None c)) + length (learn network s (cond b None c)) * cost l
        pick true there =
            let moved = subst (λ (b : Bool). length t ≤ out_count l t network s (c ∷ cs) + length network * cost l + cond b 0 (cost l)) there low in
            let more : out_count l t network s (c ∷ cs) ≤ gone_count l t network =
            count_le l (λ d. is_gone l t network d || is_out s (c ∷ cs) d) (is_gone l t network) (λ d is_d h. still d is_d (or_cases _ _ h)) in
            omega arith
          where
            still : (d : Candidate) → IsCandidate l d → (is_gone l t network d ≡ true) ⊎ (is_out s (c ∷ cs) d ≡ true) → is_gone l t network d ≡ true
            still d is_d (inl gone) = gone
            still d is_d (inr out) = or_left _ _ (told there d is_d out)
        pick false none = one c refl none

    go : (o : Option (List ℕ)) → Counts l t (chosen l t s choices network walk o)
    go (Some u) = counts
    go None = go_on_counts l t (learn network s (remaining choices)) walk (learned choices half.some counts.0 counts.1) counts.2

-- ---- a reply that tells choices apart

cost_some : (l : Language) → 1 ≤ cost l
cost_some l = omega arith

module _ (l : Language) (lawful : IsLanguage l) (t : List Answer) (s : ℕ) (choices : List Choice) (network : List Candidate) (u : List ℕ) (a : Answer)
    (half : IsHalfway l t s choices network) (split : splitting_tuple (scene_of l s) choices ≡ Some u) (asked : a.question ≡ on_scope l s u) where
  long : length u ≡ length (slice_index_or l.scopes s [])
  long = find_all (λ v. length v ≡ length (slice_index_or l.scopes s [])) (tells_apart (scene_of l s) choices) (tuples l.value_count (length (slice_index_or l.scopes s []))) u
      (tuples_long l.value_count (length (slice_index_or l.scopes s []))) split

  sides : (list_any (allows (scene_of l s) u) choices ≡ true) × (list_any (λ c. not (allows (scene_of l s) u c)) choices ≡ true)
  sides = and_parts _ _ (find_some (tells_apart (scene_of l s) choices) (tuples l.value_count (length (slice_index_or l.scopes s []))) u split)

  bad_there : (c : Candidate) → c.scope ≡ s → violates l c a.question ≡ not (allows (scene_of l s) u (Some c.rel))
  bad_there c same = (λ i. violates l (record { scope = same i; rel = c.rel }) (asked i)) ∙ violates_there l lawful s half.low u long c.rel

  -- a choice that is a relation is no candidate that is gone
  fresh_choice : (k : ℕ) (d : Choice) → k < length choices → (r : ℕ) → slice_index_or choices k d ≡ Some r → is_gone l t network (record { scope = s; rel = r }) ≡ false
  fresh_choice k d below r is = or_from _ _
      (not_struck l (network ++ record { scope = s; rel = r } ∷ []) (record { scope = s; rel = r }) safe t (ap (λ x. agrees l (learn network s x) t) (sym is) ∙ half.agreeing k d below))
      (and_left _ _ half.free)
    where
      safe : (e : Assignment) → accepts l (network ++ record { scope = s; rel = r } ∷ []) e ≡ true → violates l (record { scope = s; rel = r }) e ≡ false
      safe e given =
          let parts = and_parts (accepts l network e) _ (sym (list_all-append (λ (c : Candidate). not (violates l c e)) network (record { scope = s; rel = r } ∷ [])) ∙ given) in
          not-true _ (and_parts (not (violates l (record { scope = s; rel = r }) e)) true parts.1).0

  in_choices : (k : ℕ) (d : Choice) → k < length choices → (r : ℕ) → slice_index_or choices k d ≡ Some r → list_any (is_number r) choices ≡ true
  in_choices k d below r is = list_any_at (is_number r) choices k d below (ap (is_number r) is ∙ eq-eqb r r refl)

  known_choice : (k : ℕ) (d : Choice) → k < length choices → (r : ℕ) → slice_index_or choices k d ≡ Some r → IsCandidate l (record { scope = s; rel = r })
  known_choice k d below r is = half.known k d below r is

  not_gone : (k : ℕ) (d : Choice) → k < length choices → (r : ℕ) → slice_index_or choices k d ≡ Some r → not (is_gone l t network (record { scope = s; rel = r }) || is_out s choices (record { scope = s; rel = r })) ≡ true
  not_gone k d below r is = not_from_false _ (or_from _ _ (fresh_choice k d below r is)
      (false_from_ne_true _ (λ out. both_ways _ (not-true _ (and_parts (s == s) (not (list_any (is_number r) choices)) out).1) (in_choices k d below r is))))

  gone_then : (test : Choice → Bool) (c : Candidate) → IsCandidate l c → (is_gone l t network c || is_out s choices c) ≡ true → (is_gone l (t ++ a ∷ []) network c || is_out s (filter test choices) c) ≡ true
  gone_then test c is h = go (or_cases _ _ h)
    where
      go : (is_gone l t network c ≡ true) ⊎ (is_out s choices c ≡ true) → (is_gone l (t ++ a ∷ []) network c || is_out s (filter test choices) c) ≡ true
      go (inl gone) = or_left _ _ (gone_later l t a network c gone)
      go (inr out) = or_right _ _ (out_later s test choices c out)

  up_by : (test : Choice → Bool) (r : ℕ) → IsCandidate l (record { scope = s; rel = r }) → not (is_gone l t network (record { scope = s; rel = r }) || is_out s choices (record { scope = s; rel = r })) ≡ true →
      (is_gone l (t ++ a ∷ []) network (record { scope = s; rel = r }) || is_out s (filter test choices) (record { scope = s; rel = r })) ≡ true → suc (out_count l t network s choices) ≤ out_count l (t ++ a ∷ []) network s (filter test choices)
  up_by test r is before after = count_up l (λ c. is_gone l t network c || is_out s choices c) (λ c. is_gone l (t ++ a ∷ []) network c || is_out s (filter test choices) c) (gone_then test)
      (any_candidate l (λ c. not (is_gone l t network c || is_out s choices c) && (is_gone l (t ++ a ∷ []) network c || is_out s (filter test choices) c)) (record { scope = s; rel = r }) is (and_from _ _ before after))

  none_later : (test : Choice → Bool) → list_any is_none choices ≡ false → list_any is_none (filter test choices) ≡ false
  none_later test h = false_from_ne_true _ (λ there. both_ways _ h
      (any_weaker (λ x. test x && is_none x) is_none choices (λ x both. (and_parts (test x) _ both).1) (sym (any-filter is_none test choices) ∙ there)))

  -- yes
  yes_up : a.yes ≡ true → suc (out_count l t network s choices) ≤ out_count l (t ++ a ∷ []) network s (after_reply (scene_of l s) u true choices)
  yes_up said = pick (Any-from_list_any (λ c. not (allows (scene_of l s) u c)) choices sides.1)
    where
      by : (k : ℕ) (d : Choice) → k < length choices → (x : Choice) → slice_index_or choices k d ≡ x → not (allows (scene_of l s) u x) ≡ true → suc (out_count l t network s choices) ≤ out_count l (t ++ a ∷ []) network s (after_reply (scene_of l s) u true choices)
      by k d below None is rejects = absurd (both_ways _ refl rejects)
      by k d below (Some r) is rejects = up_by (λ c. beq (allows (scene_of l s) u c) true) r (known_choice k d below r is) (not_gone k d below r is)
          (or_left _ _ (or_left _ _ (struck_now l t a (record { scope = s; rel = r }) said (bad_there (record { scope = s; rel = r }) refl ∙ rejects))))

      pick : Any (λ c. not (allows (scene_of l s) u c) ≡ true) choices → suc (out_count l t network s choices) ≤ out_count l (t ++ a ∷ []) network s (after_reply (scene_of l s) u true choices)
      pick (k, d, below, at, rejects) = by k d below (slice_index_or choices k d) refl (ap (λ x. not (allows (scene_of l s) u x)) at ∙ rejects)

  -- no, where none isn't among the choices
  no_up : list_any is_none choices ≡ false → suc (out_count l t network s choices) ≤ out_count l (t ++ a ∷ []) network s (after_reply (scene_of l s) u false choices)
  no_up without_none = pick (Any-from_list_any (allows (scene_of l s) u) choices sides.0)
    where
      by : (k : ℕ) (d : Choice) → k < length choices → (x : Choice) → slice_index_or choices k d ≡ x → allows (scene_of l s) u x ≡ true → suc (out_count l t network s choices) ≤ out_count l (t ++ a ∷ []) network s (after_reply (scene_of l s) u false choices)
      by k d below None is accepts = absurd (both_ways _ without_none (list_any_at is_none choices k d below (ap is_none is)))
      by k d below (Some r) is accepts = up_by (λ c. beq (allows (scene_of l s) u c) false) r (known_choice k d below r is) (not_gone k d below r is)
          (or_right _ _ (and_from _ _ (eq-eqb s s refl) (not_from_false _ (any-filter (is_number r) (λ c. beq (allows (scene_of l s) u c) false) choices ∙ any_never _ choices never))))
        where
          never : (y : Choice) → (beq (allows (scene_of l s) u y) false && is_number r y) ≡ false
          never None = refl
          never (Some q) = false_from_ne_true _ (λ both.
              let parts = and_parts (beq (allows (scene_of l s) u (Some q)) false) (q == r) both in
              both_ways _ (not-true _ (sym (beq_not (allows (scene_of l s) u (Some q))) ∙ parts.0)) (ap (λ x. allows (scene_of l s) u (Some x)) (eqb-true q r parts.1) ∙ accepts))
            where
              beq_not : (b : Bool) → beq b false ≡ not b
              beq_not true = refl
              beq_not false = refl

      pick : Any (λ c. allows (scene_of l s) u c ≡ true) choices → suc (out_count l t network s choices) ≤ out_count l (t ++ a ∷ []) network s (after_reply (scene_of l s) u false choices)
      pick (k, d, below, at, accepts) = by k d below (slice_index_or choices k d) refl (ap (allows (scene_of l s) u) at ∙ accepts)

  no_none : list_any is_none (after_reply (scene_of l s) u false choices) ≡ false
  no_none = any-filter is_none (λ c. beq (allows (scene_of l s) u c) false) choices ∙ any_never (λ x. beq (allows (scene_of l s) u x) false && is_none x) choices never
    where
      never : (x : Choice) → (beq (allows (scene_of l s) u x) false && is_none x) ≡ false
      never None = refl
      never (Some r) = and_never (beq (allows (scene_of l s) u (Some r)) false)
        where
          and_never : (b : Bool) → (b && false) ≡ false
          and_never true = refl
          and_never false = refl

  pub choose_counts : (walk : Option Walk) → Counts l t (Choosing s choices network walk) → (b : Bool) → a.yes ≡ b → Counts l (t ++ a ∷ []) (Choosing s (after_reply (scene_of l s) u b choices) network walk)
  choose_counts walk counts true said = (
    low (list_any is_none choices) refl counts.0,
    (λ there c is out. told c is there out (cases_Bool (list_any (is_number c.rel) choices))),
    counts.2,
  )
    where
      low : (b : Bool) → list_any is_none choices ≡ b → length t ≤ out_count l t network s choices + length network * cost l + cond b 0 (cost l) →
          length (t ++ a ∷ []) ≤ out_count l (t ++ a ∷ []) network s (after_reply (scene_of l s) u true choices) + length network * cost l + spare l (after_reply (scene_of l s) u true choices)
      low true there h = (let up = yes_up said in let more = longer t a in omega arith)
      low false gone h = subst (λ (b : Bool). length (t ++ a ∷ []) ≤ out_count l (t ++ a ∷ []) network s (after_reply (scene_of l s) u true choices) + length network * cost l + cond b 0 (cost l))
          (sym (none_later (λ c. beq (allows (scene_of l s) u c) true) gone)) (let up = yes_up said in let more = longer t a in omega arith)

      told : (c : Candidate) → IsCandidate l c → list_any is_none (after_reply (scene_of l s) u true choices) ≡ true → is_out s (after_reply (scene_of l s) u true choices) c ≡ true →
          (list_any (is_number c.rel) choices ≡ true) ⊎ (list_any (is_number c.rel) choices ≡ false) → is_struck l (t ++ a ∷ []) c ≡ true
      told c is there out (inr lost) =
          let parts = and_parts (c.scope == s) _ out in
          struck_more l t a c (counts.1 (true_from_ne_false _ (λ none. both_ways _ (none_later (λ c. beq (allows (scene_of l s) u c) true) none) there)) c is (and_from _ _ parts.0 (not_from_false _ lost)))
      told c is there out (inl before) =
          let parts = and_parts (c.scope == s) _ out in
          struck_now l t a c said (bad_there c (eqb-true c.scope s parts.0) ∙ not_from_false _ (false_from_ne_true _ (λ accepts.
          both_ways _ (not-true _ parts.1) (number_kept (λ x. beq (allows (scene_of l s) u x) true) c.rel choices (beq_yes _ accepts) before))))
        where
          beq_yes : (b : Bool) → b ≡ true → beq b true ≡ true
          beq_yes b h = ap (λ x. beq x true) h
  choose_counts walk counts false denied = (
    subst (λ (b : Bool). length (t ++ a ∷ []) ≤ out_count l (t ++ a ∷ []) network s (after_reply (scene_of l s) u false choices) + length network * cost l + cond b 0 (cost l)) (sym no_none)
        (low (list_any is_none choices) refl counts.0),
    (λ there c is out. absurd (both_ways _ no_none there)),
    counts.2,
  )
    where
      low : (b : Bool) → list_any is_none choices ≡ b → length t ≤ out_count l t network s choices + length network * cost l + cond b 0 (cost l) →
          length (t ++ a ∷ []) ≤ out_count l (t ++ a ∷ []) network s (after_reply (scene_of l s) u false choices) + length network * cost l + cost l
      low true there h =
          let same : out_count l t network s choices ≤ out_count l (t ++ a ∷ []) network s (after_reply (scene_of l s) u false choices) =
          count_le l (λ c. is_gone l t network c || is_out s choices c) (λ c. is_gone l (t ++ a ∷ []) network c || is_out s (after_reply (scene_of l s) u false choices) c) (gone_then (λ c. beq (allows (scene_of l s) u c) false)) in
          let more = longer t a in let some = cost_some l in omega arith
      low false gone h = (let up = no_up gone in let more = longer t a in omega arith)
