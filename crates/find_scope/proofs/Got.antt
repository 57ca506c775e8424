-- What a whole run of a halving wants and gets.
use Rattle.find_scope.proofs.Prelude.{◌≡◌, ℕ, zero, suc, ◌+◌, ◌/◌, ◌<◌, Bool, true, false, ◌&&◌, not, List, [], ◌∷◌, length, refl, sym, ◌∙◌, ap, subst, arith, inl, inr, ◌⊎◌, length-take, length-drop, or_cases, or_left, or_right, both_ways, eqb-true, eq-eqb, true_from_ne_false, and_from, and_parts, ◌==◌, Rises, IsSet, has, union, without, is_within, first_half, second_half, has-set_where, set_where-same, rises_where, rises_take, rises_drop, canonical, Halved, Wants, Got, then_got, ask, is_empty, halve_within, halve, WantedIsAsked, GotIsPart, IsReplied, GotIsLeastDenied, GotIsMinimal}
use Rattle.find_scope.proofs.Halves.{depth_is_enough, first_shorter, second_shorter}
use Rattle.find_scope.proofs.Runs.{Every, RunTo, run_to, run_within, run_rises, run_denied, run_least, bounded, asked_within, IsKnown, Sub, has_union, wants_last, wants_not_got, same_want, got_then}

-- ---- sets

pub rises_below : (a : ℕ) (xs : List ℕ) (v : ℕ) → Rises a xs → has xs v ≡ true → v < 128
rises_below a [] v r h = absurd (both_ways _ refl h)
rises_below a (x ∷ xs) v r h = go (or_cases (x == v) (has xs v) h) (λ e. rises_below (x + 1) xs v r.2 e)
  where
    go : ((x == v) ≡ true) ⊎ (has xs v ≡ true) → (has xs v ≡ true → v < 128) → v < 128
    go (inl e) rest = let same : x ≡ v = eqb-true x v e in let most = r.1 in omega arith
    go (inr e) rest = rest e

pub sub_within : (xs ys : List ℕ) (a : ℕ) → Rises a xs → Sub xs ys → is_within xs ys ≡ true
sub_within [] ys a r h = refl
sub_within (x ∷ xs) ys a r h = and_from (has ys x) (is_within xs ys) (h x r.1 (or_left (x == x) (has xs x) (eq-eqb x x refl)))
    (sub_within xs ys (x + 1) r.2 (λ v low at. h v low (or_right (x == v) (has xs v) at)))

pub within_sub : (xs ys : List ℕ) → is_within xs ys ≡ true → Sub xs ys
within_sub [] ys h = λ v low at. absurd (both_ways _ refl at)
within_sub (x ∷ xs) ys h = λ v low at. go v (or_cases (x == v) (has xs v) at) (λ e. within_sub xs ys (and_parts (has ys x) (is_within xs ys) h).1 v low e)
  where
    go : (v : ℕ) → ((x == v) ≡ true) ⊎ (has xs v ≡ true) → (has xs v ≡ true → has ys v ≡ true) → has ys v ≡ true
    go v (inl e) rest = ap (has ys) (sym (eqb-true x v e)) ∙ (and_parts (has ys x) (is_within xs ys) h).0
    go v (inr e) rest = rest e

pub same_sets : (xs ys : List ℕ) → IsSet xs → IsSet ys → ((v : ℕ) → v < 128 → has xs v ≡ has ys v) → xs ≡ ys
same_sets xs ys r s h = sym (canonical xs r) ∙ set_where-same (has xs) (has ys) h ∙ canonical ys s

has_some : (xs : List ℕ) (v : ℕ) → has xs v ≡ true → 0 < length xs
has_some [] v h = absurd (both_ways _ refl h)
has_some (x ∷ xs) v h = omega arith

-- what has a member still has one in a union
pub some_right : (xs ys : List ℕ) → IsSet ys → 0 < length ys → 0 < length (union xs ys)
some_right xs [] r h = absurd (omega arith)
some_right xs (y ∷ ys) r h = has_some (union xs (y ∷ ys)) y (has_union xs (y ∷ ys) y r.1 ∙ or_right (has xs y) (has (y ∷ ys) y) (or_left (y == y) (has ys y) (eq-eqb y y refl)))

pub some_left : (xs ys : List ℕ) → IsSet xs → 0 < length xs → 0 < length (union xs ys)
some_left [] ys r h = absurd (omega arith)
some_left (x ∷ xs) ys r h = has_some (union (x ∷ xs) ys) x (has_union (x ∷ xs) ys x r.1 ∙ or_left (has (x ∷ xs) x) (has ys x) (or_left (x == x) (has xs x) (eq-eqb x x refl)))

pub first_some : (v w : ℕ) (set : List ℕ) → 0 < length (first_half (v ∷ w ∷ set))
first_some v w set = omega (arith, length-take ((length (v ∷ w ∷ set) + 1) / 2) (v ∷ w ∷ set))

pub second_some : (v w : ℕ) (set : List ℕ) → 0 < length (second_half (v ∷ w ∷ set))
second_some v w set = omega (arith, length-drop ((length (v ∷ w ∷ set) + 1) / 2) (v ∷ w ∷ set))

some_of_not_empty : (xs : List ℕ) → not (is_empty xs) ≡ true → 0 < length xs
some_of_not_empty [] h = absurd (both_ways _ refl h)
some_of_not_empty (x ∷ xs) h = omega arith

-- ---- one deeper than the set is long

deep : (set : List ℕ) (replies : List Bool) → halve set replies ≡ halve_within (suc (length set)) [] set false replies
deep set replies = depth_is_enough (length set) (suc (length set)) [] set false replies (omega arith) (omega arith)

-- ---- what is got

abbrev Any : List ℕ → Bool → Type 0
Any w r = Unit {0}

any_run : (d : ℕ) (base set : List ℕ) (asks : Bool) (replies : List Bool) (s : List ℕ) (left : List Bool) → length set < d → halve_within d base set asks replies ≡ Got s left → RunTo Any d base set asks s
any_run d base set asks replies s left short h = run_to Any d base set asks replies s left short (λ before after r w e q. tt) h

pub got_rises : (d : ℕ) (base set : List ℕ) (asks : Bool) (replies : List Bool) (s : List ℕ) (left : List Bool) → length set < d → IsSet set → halve_within d base set asks replies ≡ Got s left → IsSet s
got_rises d base set asks replies s left short r h = run_rises Any d base set asks s r (any_run d base set asks replies s left short h)

pub got_sub : (d : ℕ) (base set : List ℕ) (asks : Bool) (replies : List Bool) (s : List ℕ) (left : List Bool) → length set < d → halve_within d base set asks replies ≡ Got s left → Sub s set
got_sub d base set asks replies s left short h = run_within Any d base set asks s (any_run d base set asks replies s left short h)

-- without a question, some of a set that has any is got
pub got_some : (d : ℕ) (base set : List ℕ) (replies : List Bool) (s : List ℕ) (left : List Bool) → length set < d → IsSet set → 0 < length set → halve_within d base set false replies ≡ Got s left → 0 < length s
unfolding halve_within
got_some zero base set replies s left short r h e = absurd (omega arith)
got_some (suc d) base [] replies s left short r h e = absurd (omega arith)
got_some (suc d) base (v ∷ []) replies s left short r h e = let same : s ≡ v ∷ [] = cc in omega (arith, ap length same)
got_some (suc d) base (v ∷ w ∷ set) replies s left short r h e =
    let one = got_then (halve_within d (union base first) second true replies) _ s left e in
    let two = got_then (halve_within d (union base one.0) first (not (is_empty one.0)) one.1) _ s left one.3 in
    let same : s ≡ union one.0 two.0 = cc in
    let rise1 : IsSet one.0 = got_rises d (union base first) second true replies one.0 one.1 (omega (arith, second_shorter v w set)) (rises_drop 0 _ (v ∷ w ∷ set) r) one.2 in
    let rise2 : IsSet two.0 = got_rises d (union base one.0) first (not (is_empty one.0)) one.1 two.0 two.1 (omega (arith, first_shorter v w set)) (rises_take 0 _ (v ∷ w ∷ set) r) two.2 in
    subst (λ (x : List ℕ). 0 < length x) (sym same) (go one.0 two.0 one.1 two.1 rise1 rise2 two.2
    (λ k. got_some d (union base one.0) first one.1 two.0 two.1 (omega (arith, first_shorter v w set)) (rises_take 0 _ (v ∷ w ∷ set) r) (first_some v w set) k))
  where
    first : List ℕ
    first = first_half (v ∷ w ∷ set)

    second : List ℕ
    second = second_half (v ∷ w ∷ set)

    go : (s1 s2 : List ℕ) (left1 left2 : List Bool) → IsSet s1 → IsSet s2 → halve_within d (union base s1) first (not (is_empty s1)) left1 ≡ Got s2 left2 →
        (halve_within d (union base s1) first false left1 ≡ Got s2 left2 → 0 < length s2) → 0 < length (union s1 s2)
    go [] s2 left1 left2 rise1 rise2 k ih = some_right [] s2 rise2 (ih k)
    go (x ∷ s1) s2 left1 left2 rise1 rise2 k ih = some_left (x ∷ s1) s2 rise1 (omega arith)

pub got_is_part : GotIsPart
got_is_part set replies found left r h =
    let e : halve_within (suc (length set)) [] set false replies ≡ Got found left = sym (deep set replies) ∙ h in
    let rise : IsSet found = got_rises (suc (length set)) [] set false replies found left (omega arith) r e in
    record {
      set_of = rise;
      some = λ some. got_some (suc (length set)) [] set replies found left (omega arith) r some e;
      within = sub_within found set 0 rise (got_sub (suc (length set)) [] set false replies found left (omega arith) e);
    }

-- ---- what is wanted

abbrev IsGood : List ℕ → Type 0
IsGood xs = IsSet xs × (0 < length xs)

wanted_ask : (asks : Bool) (base : List ℕ) (replies : List Bool) (next : List Bool → Halved) (w : List ℕ) → ask asks base replies next ≡ Wants w → (asks ≡ true → IsGood base) →
    ((rest : List Bool) → next rest ≡ Wants w → IsGood w) → IsGood w
wanted_ask false base replies next w h good f = f replies h
wanted_ask true base [] next w h good f = subst IsGood (sym (same_want base w h)) (good refl)
wanted_ask true base (false ∷ replies) next w h good f = absurd (wants_not_got w [] replies (sym h))
wanted_ask true base (true ∷ replies) next w h good f = f replies h

wanted_good : (d : ℕ) (base set : List ℕ) (asks : Bool) (replies : List Bool) (w : List ℕ) → length set < d → IsSet set → (asks ≡ true → IsGood base) → halve_within d base set asks replies ≡ Wants w → IsGood w
unfolding halve_within
wanted_good zero base set asks replies w short r good h = absurd (omega arith)
wanted_good (suc d) base [] asks replies w short r good h = wanted_ask asks base replies _ w h good (λ rest e. absurd (wants_not_got w [] rest (sym e)))
wanted_good (suc d) base (v ∷ []) asks replies w short r good h = wanted_ask asks base replies _ w h good (λ rest e. absurd (wants_not_got w (v ∷ []) rest (sym e)))
wanted_good (suc d) base (v ∷ u ∷ set) asks replies w short r good h = wanted_ask asks base replies _ w h good (λ rest e.
    go rest (halve_within d (union base first) second true rest) refl e
    (λ at. wanted_good d (union base first) second true rest w (omega (arith, second_shorter v u set)) (rises_drop 0 _ (v ∷ u ∷ set) r)
    (λ k. (rises_where _, some_right base first (rises_take 0 _ (v ∷ u ∷ set) r) (first_some v u set))) at)
    (λ s1 left1 rise at. wanted_good d (union base s1) first (not (is_empty s1)) left1 w (omega (arith, first_shorter v u set)) (rises_take 0 _ (v ∷ u ∷ set) r)
    (λ k. (rises_where _, some_right base s1 rise (some_of_not_empty s1 k))) at))
  where
    first : List ℕ
    first = first_half (v ∷ u ∷ set)

    second : List ℕ
    second = second_half (v ∷ u ∷ set)

    last : List ℕ → List Bool → Halved
    last found left = then_got (halve_within d (union base found) first (not (is_empty found)) left) (λ more last. Got (union found more) last)

    go : (rest : List Bool) (x : Halved) → halve_within d (union base first) second true rest ≡ x → then_got x last ≡ Wants w →
        (halve_within d (union base first) second true rest ≡ Wants w → IsGood w) →
        ((s1 : List ℕ) (left1 : List Bool) → IsSet s1 → halve_within d (union base s1) first (not (is_empty s1)) left1 ≡ Wants w → IsGood w) → IsGood w
    go rest (Wants w1) at e ih1 ih2 = ih1 (at ∙ e)
    go rest (Got s1 left1) at e ih1 ih2 = ih2 s1 left1 (got_rises d (union base first) second true rest s1 left1 (omega (arith, second_shorter v u set)) (rises_drop 0 _ (v ∷ u ∷ set) r) at) (wants_last _ s1 w e)

pub wanted_is_good : (set : List ℕ) (replies : List Bool) (w : List ℕ) → IsSet set → halve set replies ≡ Wants w → IsGood w
wanted_is_good set replies w r h = wanted_good (suc (length set)) [] set false replies w (omega arith) r (λ k. absurd (both_ways _ refl k)) (sym (deep set replies) ∙ h)

pub wanted_is_asked : WantedIsAsked
wanted_is_asked set replies w r h =
    let good : IsGood w = wanted_is_good set replies w r h in
    record {
      set_of = good.0;
      some = good.1;
      within = sub_within w set 0 good.0 (asked_within (suc (length set)) [] set false replies w (omega arith) (sym (deep set replies) ∙ h));
    }

-- ---- answered no

pub got_is_least_denied : GotIsLeastDenied
got_is_least_denied set replies found left r h =
    let e : halve_within (suc (length set)) [] set false replies ≡ Got found left = sym (deep set replies) ∙ h in
    let rise : IsSet found = got_rises (suc (length set)) [] set false replies found left (omega arith) r e in
    let known : IsKnown D [] found = run_denied D T (λ w t. (inr t.0, t.1)) (suc (length set)) [] set false found
    (run_to T (suc (length set)) [] set false replies found left (omega arith) every e) (set, (inl refl, r), λ v low. refl) in
    record {
      denied = subst (λ (x : List ℕ). (x ≡ set) ⊎ IsReplied set replies x false) (same_sets known.0 found known.1.1 rise known.2) known.1.0;
      least = λ w q. sub_within found w 0 rise ((bounded (suc (length set)) [] set false q.before w q.after found left (omega arith) (sym (deep set q.before) ∙ q.asks)
          (ap (halve_within (suc (length set)) [] set false) (sym q.read) ∙ e)).1);
    }
  where
    D : List ℕ → Type 0
    D w = ((w ≡ set) ⊎ IsReplied set replies w false) × IsSet w

    T : List ℕ → Bool → Type 0
    T w b = IsReplied set replies w b × IsSet w

    every : Every T (halve_within (suc (length set)) [] set false) replies
    every before after b w read asks =
        let at : halve set before ≡ Wants w = deep set before ∙ asks in
        (record { before = before; after = after; read = read; asks = at }, (wanted_is_good set before w r at).0)

-- ---- one test

without_has : (s : List ℕ) (x v : ℕ) → v < 128 → has (without s x) v ≡ (has s v && not (has (x ∷ []) v))
without_has s x v low = has-set_where (λ v. has s v && not (has (x ∷ []) v)) v low

pub got_is_minimal : GotIsMinimal
got_is_minimal set replies found left accepts r h test true_to =
    let e : halve_within (suc (length set)) [] set false replies ≡ Got found left = sym (deep set replies) ∙ h in
    let rise : IsSet found = got_rises (suc (length set)) [] set false replies found left (omega arith) r e in
    let run : RunTo T (suc (length set)) [] set false found = run_to T (suc (length set)) [] set false replies found left (omega arith) every e in
    record {
      rejected = denied (got_is_least_denied set replies found left r h).denied;
      tight = λ x at. true_from_ne_false _ (λ off. least x at off rise run);
    }
  where
    T : List ℕ → Bool → Type 0
    T w b = (accepts w ≡ b) × IsSet w

    every : Every T (halve_within (suc (length set)) [] set false) replies
    every before after b w read asks =
        let at : halve set before ≡ Wants w = deep set before ∙ asks in
        (true_to w b (record { before = before; after = after; read = read; asks = at }), (wanted_is_good set before w r at).0)

    denied : (found ≡ set) ⊎ IsReplied set replies found false → accepts found ≡ false
    denied (inl same) = ap accepts same ∙ test.rejects
    denied (inr q) = true_to found false q

    least : (x : ℕ) → has found x ≡ true → accepts (without found x) ≡ false → IsSet found → RunTo T (suc (length set)) [] set false found → ⊥
    least x at off rise run = both_ways (has (x ∷ []) x) (gone (has (x ∷ []) x) (and_parts (has found x) (not (has (x ∷ []) x)) (sym (without_has found x x low) ∙ back)).1) (or_left (x == x) false (eq-eqb x x refl))
      where
        low : x < 128
        low = rises_below 0 found x rise at

        smaller : Sub (without found x) found
        smaller v below h = (and_parts (has found v) _ (sym (without_has found x v below) ∙ h)).0

        refused : (w : List ℕ) → Sub (without found x) w → IsSet w → accepts w ≡ true → ⊥
        refused w sub rises yes_to = both_ways _ off (test.parts (without found x) w (rises_where _) rises (sub_within (without found x) w 0 (rises_where _) sub) yes_to)

        back : has (without found x) x ≡ true
        back = run_least T (without found x) (λ w t sub. refused w sub t.1 t.0) (suc (length set)) [] set false found run
            (inr (λ sub. refused [] sub tt test.nothing)) (λ v below h. smaller v below h) x low at

        gone : (b : Bool) → not b ≡ true → b ≡ false
        gone true h = sym h
        gone false h = refl
