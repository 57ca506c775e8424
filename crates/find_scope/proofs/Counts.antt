-- How many of a run's replies are no.
use Rattle.find_scope.proofs.Prelude.{◌≡◌, ℕ, zero, suc, ◌+◌, ◌*◌, ◌/◌, ◌^◌, ◌<◌, ◌≤◌, Bool, true, false, cond, ◌||◌, not, List, [], ◌∷◌, length, take, drop, refl, sym, ◌∙◌, ap, subst, arith, inl, inr, ◌⊎◌, length-take, length-drop, pow-suc, nat_le, unwrap_or, pow-zero, or_cases, both_ways, eqb-true, cases_Bool, cases_eq, le-leb, leb-true, ◌==◌, ◌≢◌, Rises, IsSet, has, union, first_half, second_half, set_where, rises_take, rises_drop, canonical, lacks, length_cond, Halved, Wants, Got, then_got, is_empty, halve_within, halve, GotTakesFewNoes, RunsTakeFewNoes, NoesAreFew, LogIsLeast}
use Rattle.std.proofs.lemmas.List.Sums.{sum_by-append}
use Rattle.std.proofs.lemmas.Nat.{mul-le}
use Rattle.std.specs.List.{filter, find, range_with_len}
use Rattle.find_scope.specs.Bound.{log_up, noes}
use Rattle.find_scope.proofs.Halves.{depth_is_enough, first_shorter, second_shorter, asked}
use Rattle.find_scope.proofs.Runs.{Sub, got_then, wants_last, wants_not_got, same_set, same_left}
use Rattle.find_scope.proofs.Got.{rises_below, within_sub, first_some, got_some, got_rises, got_sub, got_is_part}

-- ---- the logarithm

find_holds : (p : ℕ → Bool) (a n m : ℕ) → a ≤ m → m < a + n → p m ≡ true → p (unwrap_or (find p (range_with_len a n)) 0) ≡ true
find_holds p a zero m low high h = absurd (omega arith)
find_holds p a (suc n) m low high h = go (cases_Bool (p a)) (λ further. find_holds p (a + 1) n m further (omega arith) h)
  where
    go : ((p a ≡ true) ⊎ (p a ≡ false)) → (a + 1 ≤ m → p (unwrap_or (find p (range_with_len (a + 1) n)) 0) ≡ true) → p (unwrap_or (find p (range_with_len a (suc n))) 0) ≡ true
    go (inl on) rest = rw on on
    go (inr off) rest = rw off (rest (later (cases_eq a m)))
      where
        later : ((a ≡ m) ⊎ (a ≢ m)) → a + 1 ≤ m
        later (inl same) = absurd (both_ways _ off (ap p same ∙ h))
        later (inr other) = omega arith

pow_above : (k : ℕ) → suc k ≤ 2 ^ k
pow_above zero = omega (arith, pow-zero 2)
pow_above (suc k) = let before = pow_above k in omega (arith, pow-suc 2 k)

pub log_up_holds : (n : ℕ) → n ≤ 2 ^ log_up n
log_up_holds zero = omega arith
log_up_holds (suc k) = leb-true _ _ (find_holds (λ j. nat_le (suc k) (2 ^ j)) 0 (suc k) k (omega arith) (omega arith) (le-leb (suc k) (2 ^ k) (pow_above k)))

find_least : (p : ℕ → Bool) (a n m : ℕ) → a ≤ m → p m ≡ true → unwrap_or (find p (range_with_len a n)) 0 ≤ m
find_least p a zero m low h = omega arith
find_least p a (suc n) m low h = go (cases_Bool (p a)) (λ further. find_least p (a + 1) n m further h)
  where
    go : ((p a ≡ true) ⊎ (p a ≡ false)) → (a + 1 ≤ m → unwrap_or (find p (range_with_len (a + 1) n)) 0 ≤ m) → unwrap_or (find p (range_with_len a (suc n))) 0 ≤ m
    go (inl on) rest = rw on low
    go (inr off) rest = rw off (rest (later (cases_eq a m)))
      where
        later : ((a ≡ m) ⊎ (a ≢ m)) → a + 1 ≤ m
        later (inl same) = absurd (both_ways _ off (ap p same ∙ h))
        later (inr other) = omega arith

pub log_is_least : LogIsLeast
log_is_least = record {
  enough = log_up_holds;
  least = λ n k h. find_least (λ j. nat_le n (2 ^ j)) 0 n k (omega arith) (le-leb n (2 ^ k) h);
}

-- ---- how long sets are

both_counts : (p q : ℕ → Bool) (a n : ℕ) → ((v : ℕ) → a ≤ v → v < a + n → p v ≡ true → q v ≡ true → ⊥) →
    length (filter p (range_with_len a n)) + length (filter q (range_with_len a n)) ≤ length (filter (λ v. p v || q v) (range_with_len a n))
both_counts p q a zero apart = omega arith
both_counts p q a (suc n) apart =
    let rest = both_counts p q (a + 1) n (λ v low high. apart v (omega arith) (omega arith)) in
    let here = one (p a) (q a) (apart a (omega arith) (omega arith)) in
    omega (arith, length_cond (p a) a (filter p (range_with_len (a + 1) n)), length_cond (q a) a (filter q (range_with_len (a + 1) n)), length_cond (p a || q a) a (filter (λ v. p v || q v) (range_with_len (a + 1) n)))
  where
    one : (b c : Bool) → (b ≡ true → c ≡ true → ⊥) → cond b 1 0 + cond c 1 0 ≤ cond (b || c) 1 0
    one true true h = absurd (h refl refl)
    one true false h = omega arith
    one false true h = omega arith
    one false false h = omega arith

fewer : (p q : ℕ → Bool) (a n : ℕ) → ((v : ℕ) → a ≤ v → v < a + n → p v ≡ true → q v ≡ true) → length (filter p (range_with_len a n)) ≤ length (filter q (range_with_len a n))
fewer p q a zero h = omega arith
fewer p q a (suc n) h =
    let rest = fewer p q (a + 1) n (λ v low high. h v (omega arith) (omega arith)) in
    let here = one (p a) (q a) (h a (omega arith) (omega arith)) in
    omega (arith, length_cond (p a) a (filter p (range_with_len (a + 1) n)), length_cond (q a) a (filter q (range_with_len (a + 1) n)))
  where
    one : (b c : Bool) → (b ≡ true → c ≡ true) → cond b 1 0 ≤ cond c 1 0
    one true true h = omega arith
    one true false h = absurd (both_ways false refl (h refl))
    one false true h = omega arith
    one false false h = omega arith

pub sub_length : (xs ys : List ℕ) → IsSet xs → IsSet ys → Sub xs ys → length xs ≤ length ys
unfolding set_where
sub_length xs ys r s h =
    let some = fewer (has xs) (has ys) 0 128 (λ v low high. h v (omega arith)) in
    omega (arith, ap length (canonical xs r), ap length (canonical ys s))

pub union_length : (xs ys : List ℕ) → IsSet xs → IsSet ys → ((v : ℕ) → has xs v ≡ true → has ys v ≡ true → ⊥) → length xs + length ys ≤ length (union xs ys)
unfolding set_where
union_length xs ys r s apart =
    let all = both_counts (has xs) (has ys) 0 128 (λ v low high. apart v) in
    omega (arith, ap length (canonical xs r), ap length (canonical ys s))

pub halves_apart : (a k : ℕ) (xs : List ℕ) (v : ℕ) → Rises a xs → has (take k xs) v ≡ true → has (drop k xs) v ≡ true → ⊥
halves_apart a zero xs v r h e = both_ways _ refl h
halves_apart a (suc k) [] v r h e = both_ways _ refl h
halves_apart a (suc k) (x ∷ xs) v r h e = go (or_cases (x == v) (has (take k xs) v) h) (λ f. halves_apart (x + 1) k xs v r.2 f e)
  where
    go : ((x == v) ≡ true) ⊎ (has (take k xs) v ≡ true) → (has (take k xs) v ≡ true → ⊥) → ⊥
    go (inl same) rest = let equal : x ≡ v = eqb-true x v same in both_ways _ (lacks (x + 1) v (drop k xs) (omega arith) (rises_drop (x + 1) k xs r.2)) e
    go (inr f) rest = rest f

-- ---- sums

grow : (x y z k e : ℕ) → x + y ≤ z → e ≤ x + y → x * k + y * k + e ≤ z * suc k
grow x y z k e h f = let most = mul-le (x + y) (suc k) z (suc k) h (omega arith) in let spread = expand x y k in omega arith
  where
    expand : (x y k : ℕ) → (x + y) * suc k ≡ x * k + y * k + (x + y)
    expand x y k = grind arith

abbrev empties : List ℕ → ℕ
empties s = cond (is_empty s) 1 0

half_fits : (k v w : ℕ) (set : List ℕ) → length (v ∷ w ∷ set) ≤ 2 ^ suc k → (length (first_half (v ∷ w ∷ set)) ≤ 2 ^ k) × (length (second_half (v ∷ w ∷ set)) ≤ 2 ^ k)
half_fits k v w set h = (
  omega (arith, pow-suc 2 k, length-take ((length (v ∷ w ∷ set) + 1) / 2) (v ∷ w ∷ set)),
  omega (arith, pow-suc 2 k, length-drop ((length (v ∷ w ∷ set) + 1) / 2) (v ∷ w ∷ set)),
)

pub halves_length : (v w : ℕ) (set : List ℕ) → length (first_half (v ∷ w ∷ set)) + length (second_half (v ∷ w ∷ set)) ≡ length (v ∷ w ∷ set)
halves_length v w set = omega (arith, length-take ((length (v ∷ w ∷ set) + 1) / 2) (v ∷ w ∷ set), length-drop ((length (v ∷ w ∷ set) + 1) / 2) (v ∷ w ∷ set))

-- ---- where a set is got

abbrev IsFew : ℕ → List Bool → List ℕ → List Bool → Type 0
IsFew k replies s left = noes replies ≤ length s * k + noes left

abbrev IsFewAsked : ℕ → List Bool → List ℕ → List Bool → Type 0
IsFewAsked k replies s left = noes replies ≤ length s * k + empties s + noes left

noes_more : (replies : List Bool) → noes (false ∷ replies) ≡ suc (noes replies)
noes_more replies = let e : noes (false ∷ replies) ≡ 1 + noes replies = sum_by-append (λ r. cond (not r) 1 0) (false ∷ []) replies in omega arith

few_asked : (k d : ℕ) (base set : List ℕ) (asks : Bool) (replies : List Bool) (s : List ℕ) (left : List Bool) → halve_within d base set asks replies ≡ Got s left →
    ((rest : List Bool) → halve_within d base set false rest ≡ Got s left → IsFew k rest s left) → IsFewAsked k replies s left
few_asked k d base set false replies s left h f = let few = f replies h in omega arith
few_asked k d base set true [] s left h f = absurd (wants_not_got base s left (sym (asked d base set []) ∙ h))
few_asked k d base set true (false ∷ replies) s left h f =
    let e : Got [] replies ≡ Got s left = sym (asked d base set (false ∷ replies)) ∙ h in
    let same : s ≡ [] = same_set [] s replies left e in
    let rest : left ≡ replies = same_left [] s replies left e in
    subst (λ (x : List ℕ). IsFewAsked k (false ∷ replies) x left) (sym same) (subst (λ (x : List Bool). IsFewAsked k (false ∷ replies) [] x) (sym rest) (omega (arith, noes_more replies)))
few_asked k d base set true (true ∷ replies) s left h f = let few = f replies (sym (asked d base set (true ∷ replies)) ∙ h) in omega arith

few : (k d : ℕ) (base set : List ℕ) (replies : List Bool) (s : List ℕ) (left : List Bool) → length set < d → length set ≤ 2 ^ k → IsSet set →
    halve_within d base set false replies ≡ Got s left → IsFew k replies s left
unfolding halve_within
few k zero base set replies s left short fits r h = absurd (omega arith)
few k (suc d) base [] replies s left short fits r h = let same : left ≡ replies = same_left [] s replies left h in omega (arith, ap noes same)
few k (suc d) base (v ∷ []) replies s left short fits r h = let same : left ≡ replies = same_left (v ∷ []) s replies left h in omega (arith, ap noes same)
few zero (suc d) base (v ∷ w ∷ set) replies s left short fits r h = absurd (omega (arith, pow-zero 2))
few (suc k) (suc d) base (v ∷ w ∷ set) replies s left short fits r h =
    let one = got_then (halve_within d (union base first) second true replies) _ s left h in
    let two = got_then (halve_within d (union base one.0) first (not (is_empty one.0)) one.1) _ s left one.3 in
    let high : length second < d = omega (arith, second_shorter v w set) in
    let low : length first < d = omega (arith, first_shorter v w set) in
    let rise1 : IsSet second = rises_drop 0 _ (v ∷ w ∷ set) r in
    let rise2 : IsSet first = rises_take 0 _ (v ∷ w ∷ set) r in
    let fit = half_fits k v w set fits in
    let c1 : IsFewAsked k replies one.0 one.1 = few_asked k d (union base first) second true replies one.0 one.1 one.2
    (λ rest e. few k d (union base first) second rest one.0 one.1 high fit.1 rise1 e) in
    let c2 : IsFewAsked k one.1 two.0 two.1 = few_asked k d (union base one.0) first (not (is_empty one.0)) one.1 two.0 two.1 two.2
    (λ rest e. few k d (union base one.0) first rest two.0 two.1 low fit.0 rise2 e) in
    let long : length one.0 + length two.0 ≤ length (union one.0 two.0) = union_length one.0 two.0
    (got_rises d (union base first) second true replies one.0 one.1 high rise1 one.2)
    (got_rises d (union base one.0) first (not (is_empty one.0)) one.1 two.0 two.1 low rise2 two.2)
    (apart one.0 two.0 (got_rises d (union base first) second true replies one.0 one.1 high rise1 one.2)
    (got_rises d (union base one.0) first (not (is_empty one.0)) one.1 two.0 two.1 low rise2 two.2)
    (got_sub d (union base first) second true replies one.0 one.1 high one.2)
    (got_sub d (union base one.0) first (not (is_empty one.0)) one.1 two.0 two.1 low two.2)) in
    let paid : empties one.0 + empties two.0 ≤ length one.0 + length two.0 = pay one.0 two.0 one.1 two.1 two.2
    (λ e. got_some d (union base one.0) first one.1 two.0 two.1 low rise2 (first_some v w set) e) in
    let total = grow (length one.0) (length two.0) (length (union one.0 two.0)) k (empties one.0 + empties two.0) long paid in
    let same : s ≡ union one.0 two.0 = same_set (union one.0 two.0) s two.1 left two.3 in
    let rest : left ≡ two.1 = same_left (union one.0 two.0) s two.1 left two.3 in
    subst (λ (x : List ℕ). IsFew (suc k) replies x left) (sym same) (subst (λ (x : List Bool). IsFew (suc k) replies (union one.0 two.0) x) (sym rest) (omega arith))
  where
    first : List ℕ
    first = first_half (v ∷ w ∷ set)

    second : List ℕ
    second = second_half (v ∷ w ∷ set)

    apart : (s1 s2 : List ℕ) → IsSet s1 → IsSet s2 → Sub s1 second → Sub s2 first → (x : ℕ) → has s1 x ≡ true → has s2 x ≡ true → ⊥
    apart s1 s2 rise1 rise2 sub1 sub2 x h1 h2 = let low : x < 128 = rises_below 0 s1 x rise1 h1 in halves_apart 0 _ (v ∷ w ∷ set) x r (sub2 x low h2) (sub1 x low h1)

    pay : (s1 s2 : List ℕ) (left1 left2 : List Bool) → halve_within d (union base s1) first (not (is_empty s1)) left1 ≡ Got s2 left2 →
        (halve_within d (union base s1) first false left1 ≡ Got s2 left2 → 0 < length s2) → empties s1 + empties s2 ≤ length s1 + length s2
    pay [] [] left1 left2 e some = let h = some e in absurd (omega arith)
    pay [] (x ∷ s2) left1 left2 e some = omega arith
    pay (x ∷ s1) [] left1 left2 e some = omega arith
    pay (x ∷ s1) (y ∷ s2) left1 left2 e some = omega arith

-- ---- where one is wanted

want_asked : (d : ℕ) (base set : List ℕ) (asks : Bool) (replies : List Bool) (w : List ℕ) (most : ℕ) → halve_within d base set asks replies ≡ Wants w →
    ((rest : List Bool) → halve_within d base set false rest ≡ Wants w → noes rest ≤ most) → noes replies ≤ most
want_asked d base set false replies w most h f = f replies h
want_asked d base set true [] w most h f = omega arith
want_asked d base set true (false ∷ replies) w most h f = absurd (wants_not_got w [] replies (sym h ∙ asked d base set (false ∷ replies)))
want_asked d base set true (true ∷ replies) w most h f = let few = f replies (sym (asked d base set (true ∷ replies)) ∙ h) in omega arith

few_wanted : (k d : ℕ) (base set : List ℕ) (replies : List Bool) (w : List ℕ) → length set < d → length set ≤ 2 ^ k → IsSet set →
    halve_within d base set false replies ≡ Wants w → noes replies ≤ length set * k
unfolding halve_within
few_wanted k zero base set replies w short fits r h = absurd (omega arith)
few_wanted k (suc d) base [] replies w short fits r h = absurd (wants_not_got w [] replies (sym h))
few_wanted k (suc d) base (v ∷ []) replies w short fits r h = absurd (wants_not_got w (v ∷ []) replies (sym h))
few_wanted zero (suc d) base (v ∷ u ∷ set) replies w short fits r h = absurd (omega (arith, pow-zero 2))
few_wanted (suc k) (suc d) base (v ∷ u ∷ set) replies w short fits r h =
    go (halve_within d (union base first) second true replies) refl h
    (λ e. want_asked d (union base first) second true replies w (length second * k) e
    (λ rest f. few_wanted k d (union base first) second rest w high (half_fits k v u set fits).1 (rises_drop 0 _ (v ∷ u ∷ set) r) f))
    (λ s1 left1 e. want_asked d (union base s1) first (not (is_empty s1)) left1 w (length first * k) e
    (λ rest f. few_wanted k d (union base s1) first rest w low (half_fits k v u set fits).0 (rises_take 0 _ (v ∷ u ∷ set) r) f))
  where
    first : List ℕ
    first = first_half (v ∷ u ∷ set)

    second : List ℕ
    second = second_half (v ∷ u ∷ set)

    high : length second < d
    high = omega (arith, second_shorter v u set)

    low : length first < d
    low = omega (arith, first_shorter v u set)

    last : List ℕ → List Bool → Halved
    last found left = then_got (halve_within d (union base found) first (not (is_empty found)) left) (λ more last. Got (union found more) last)

    at_most_one : (s : List ℕ) → empties s ≤ 1
    at_most_one [] = omega arith
    at_most_one (x ∷ s) = omega arith

    go : (x : Halved) → halve_within d (union base first) second true replies ≡ x → then_got x last ≡ Wants w →
        (halve_within d (union base first) second true replies ≡ Wants w → noes replies ≤ length second * k) →
        ((s1 : List ℕ) (left1 : List Bool) → halve_within d (union base s1) first (not (is_empty s1)) left1 ≡ Wants w → noes left1 ≤ length first * k) →
        noes replies ≤ length (v ∷ u ∷ set) * suc k
    go (Wants w1) at e ih1 ih2 =
        let c = ih1 (at ∙ e) in
        let total = grow (length first) (length second) (length (v ∷ u ∷ set)) k 0 (omega (arith, halves_length v u set)) (omega arith) in
        omega arith
    go (Got s1 left1) at e ih1 ih2 =
        let rise1 : IsSet second = rises_drop 0 _ (v ∷ u ∷ set) r in
        let c1 : IsFewAsked k replies s1 left1 = few_asked k d (union base first) second true replies s1 left1 at
        (λ rest f. few k d (union base first) second rest s1 left1 high (half_fits k v u set fits).1 rise1 f) in
        let c2 = ih2 s1 left1 (wants_last _ s1 w e) in
        let less : length s1 ≤ length second = sub_length s1 second (got_rises d (union base first) second true replies s1 left1 high rise1 at) rise1
        (got_sub d (union base first) second true replies s1 left1 high at) in
        let one = at_most_one s1 in
        let total = grow (length s1) (length first) (length (v ∷ u ∷ set)) k (empties s1) (omega (arith, halves_length v u set)) (omega (arith, first_some v u set)) in
        omega arith

-- ---- whole sets

pub deep : (set : List ℕ) (replies : List Bool) → halve_within (suc (length set)) [] set false replies ≡ halve set replies
deep set replies = depth_is_enough (suc (length set)) (length set) [] set false replies (omega arith) (omega arith)

pub noes_are_few : NoesAreFew
noes_are_few = record {
  got = λ k set replies found left fits r h. few k (suc (length set)) [] set replies found left (omega arith) fits r (deep set replies ∙ h);
  open_run = λ k set replies wanted fits r h. few_wanted k (suc (length set)) [] set replies wanted (omega arith) fits r (deep set replies ∙ h);
}

pub got_takes_few_noes : GotTakesFewNoes
got_takes_few_noes set replies found left r h = noes_are_few.got (log_up (length set)) set replies found left (log_up_holds (length set)) r h

pub runs_take_few_noes : RunsTakeFewNoes
runs_take_few_noes = record {
  open_run = λ set replies wanted r h. noes_are_few.open_run (log_up (length set)) set replies wanted (log_up_holds (length set)) r h;
  ended = λ set replies found r h.
      let few : noes replies ≤ length found * log_up (length set) + 0 = got_takes_few_noes set replies found [] r h in
      let part = got_is_part set replies found [] r h in
      let less : length found ≤ length set = sub_length found set part.set_of r (within_sub found set part.within) in
      let most = mul-le (length found) (log_up (length set)) (length set) (log_up (length set)) less (omega arith) in
      omega arith;
}
