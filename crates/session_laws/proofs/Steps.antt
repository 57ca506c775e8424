-- What a step does to the kept candidates and to a halving, as equations for a program's loop.
use Rattle.session_laws.proofs.Prelude.{◌≡◌, ℕ, zero, suc, ◌*◌, Bool, true, false, cond, ◌||◌, ◌&&◌, not, List, [], ◌∷◌, ◌++◌, length, refl, sym, ◌∙◌, ap, ◌==◌, filter, list_any-append, both_ways, Candidate, Assignment, Language, candidates, violates, Answer, has_scope, is_struck, kept, halve, is_quiet, with_quiet_replies, halved, KeptSteps, SettleSteps}
use Rattle.session_laws.proofs.Fuel.{fuel_is_enough}
use Rattle.std.proofs.lemmas.List.Elements.{filter_agree}

-- ---- kept candidates

filter_twice : {X : Type 0} (p q r : X → Bool) (xs : List X) → ((x : X) → r x ≡ (q x && p x)) → filter r xs ≡ filter p (filter q xs)
filter_twice p q r [] h = refl
filter_twice p q r (x ∷ xs) h = go (q x) (p x) refl (h x) (filter_twice p q r xs h)
  where
    go : (b c : Bool) → p x ≡ c → r x ≡ (b && c) → filter r xs ≡ filter p (filter q xs) → cond (r x) (x ∷ filter r xs) (filter r xs) ≡ filter p (cond b (x ∷ filter q xs) (filter q xs))
    go true c at e rest = ap (λ d. cond d (x ∷ filter r xs) (filter r xs)) e ∙ (λ i. cond (sym at i) (x ∷ rest i) (rest i))
    go false c at e rest = ap (λ d. cond d (x ∷ filter r xs) (filter r xs)) e ∙ rest

struck_then : (l : Language) (t : List Answer) (a : Answer) (c : Candidate) → is_struck l (t ++ a ∷ []) c ≡ (is_struck l t c || ((a.yes && violates l c a.question) || false))
struck_then l t a c = list_any-append (λ (b : Answer). b.yes && violates l c b.question) t (a ∷ [])

pub kept_steps : KeptSteps
kept_steps = record {
  yes = λ l t network q. filter_twice (λ c. not (violates l c q)) (λ c. not (is_struck l t c) && not (has_scope network c.scope)) _ (candidates l)
      (λ c. ap (λ b. not b && not (has_scope network c.scope)) (struck_then l t (record { question = q; yes = true }) c) ∙ bit (is_struck l t c) (violates l c q) (not (has_scope network c.scope)));
  no = λ l t network q. filter_agree _ _
      (λ c. ap (λ b. not b && not (has_scope network c.scope)) (struck_then l t (record { question = q; yes = false }) c ∙ or_nothing (is_struck l t c)))
      (candidates l);
  learned = λ l t network s r. filter_twice (λ c. not (s == c.scope)) (λ c. not (is_struck l t c) && not (has_scope network c.scope)) _ (candidates l)
      (λ c. ap (λ b. not (is_struck l t c) && not b) (list_any-append (λ (d : Candidate). d.scope == c.scope) network (record { scope = s; rel = r } ∷ []))
      ∙ other (not (is_struck l t c)) (has_scope network c.scope) (s == c.scope));
}
  where
    bit : (s v n : Bool) → (not (s || (v || false)) && n) ≡ ((not s && n) && not v)
    bit true v n = refl
    bit false true true = refl
    bit false true false = refl
    bit false false true = refl
    bit false false false = refl

    or_nothing : (b : Bool) → (b || false) ≡ b
    or_nothing true = refl
    or_nothing false = refl

    other : (s n e : Bool) → (s && not (n || (e || false))) ≡ ((s && not n) && not e)
    other true true e = refl
    other true false true = refl
    other true false false = refl
    other false n e = refl

-- ---- a halving

-- fuel that was enough stays enough
more_fuel : (l : Language) (live : List Candidate) (e : Assignment) (set : List ℕ) (most : ℕ) (replies : List Bool) → is_quiet l live e (halve set (with_quiet_replies l live e set most replies)) ≡ false →
    with_quiet_replies l live e set (suc most) replies ≡ with_quiet_replies l live e set most replies
unfolding with_quiet_replies
more_fuel l live e set zero replies loud = ap (λ b. cond b (replies ++ true ∷ []) replies) loud
more_fuel l live e set (suc most) replies loud = go (is_quiet l live e (halve set replies)) loud (more_fuel l live e set most (replies ++ true ∷ []))
  where
    go : (b : Bool) → is_quiet l live e (halve set (cond b (with_quiet_replies l live e set most (replies ++ true ∷ [])) replies)) ≡ false →
        (is_quiet l live e (halve set (with_quiet_replies l live e set most (replies ++ true ∷ []))) ≡ false →
        with_quiet_replies l live e set (suc most) (replies ++ true ∷ []) ≡ with_quiet_replies l live e set most (replies ++ true ∷ [])) →
        cond b (with_quiet_replies l live e set (suc most) (replies ++ true ∷ [])) replies ≡ cond b (with_quiet_replies l live e set most (replies ++ true ∷ [])) replies
    go true loud rest = rest loud
    go false loud rest = refl

quiet_step : (l : Language) (live : List Candidate) (e : Assignment) (set : List ℕ) (most : ℕ) (replies : List Bool) → is_quiet l live e (halve set replies) ≡ true → is_quiet l live e (halve set (with_quiet_replies l live e set most replies)) ≡ false →
    with_quiet_replies l live e set most replies ≡ with_quiet_replies l live e set most (replies ++ true ∷ [])
unfolding with_quiet_replies
quiet_step l live e set zero replies quiet loud = absurd (both_ways _ loud quiet)
quiet_step l live e set (suc most) replies quiet loud =
    let here : with_quiet_replies l live e set (suc most) replies ≡ with_quiet_replies l live e set most (replies ++ true ∷ []) =
    ap (λ b. cond b (with_quiet_replies l live e set most (replies ++ true ∷ [])) replies) quiet in
    here ∙ sym (more_fuel l live e set most (replies ++ true ∷ []) (ap (λ x. is_quiet l live e (halve set x)) (sym here) ∙ loud))

pub loud_step : (l : Language) (live : List Candidate) (e : Assignment) (set : List ℕ) (most : ℕ) (replies : List Bool) → is_quiet l live e (halve set replies) ≡ false → with_quiet_replies l live e set most replies ≡ replies
unfolding with_quiet_replies
loud_step l live e set zero replies loud = refl
loud_step l live e set (suc most) replies loud = ap (λ b. cond b (with_quiet_replies l live e set most (replies ++ true ∷ [])) replies) loud

pub settle_steps : SettleSteps
settle_steps = record {
  quiet = λ l t e set replies network walk h. ap (λ all. halved l t e set all network walk (halve set all))
      (quiet_step l (kept l t network) e set (2 * length set) replies h (fuel_is_enough l (kept l t network) e set replies));
  loud = λ l t e set replies network walk h. ap (λ all. halved l t e set all network walk (halve set all)) (loud_step l (kept l t network) e set (2 * length set) replies h);
}
