-- A halving that wanted its last reply, and has got a set with it, leaves no reply.
use Rattle.session_laws.proofs.Prelude.{◌≡◌, ℕ, zero, suc, Bool, true, false, not, List, [], ◌∷◌, ◌++◌, length, refl, sym, ◌∙◌, ap, union, first_half, second_half, Halved, Wants, Got, then_got, ask, is_empty, halve_within, halve, got_then, wants_last, wants_not_got, same_left, more_replies}

-- ---- with no reply

none_ask : (asks : Bool) (base : List ℕ) (next : List Bool → Halved) (s : List ℕ) (left : List Bool) → ask asks base [] next ≡ Got s left → (next [] ≡ Got s left → left ≡ []) → left ≡ []
none_ask false base next s left h f = f h
none_ask true base next s left h f = absurd (wants_not_got base s left h)

none_left : (d : ℕ) (base set : List ℕ) (asks : Bool) (s : List ℕ) (left : List Bool) → halve_within d base set asks [] ≡ Got s left → left ≡ []
unfolding halve_within
none_left zero base [] asks s left h = none_ask asks base _ s left h (λ e. same_left [] s [] left e)
none_left (suc d) base [] asks s left h = none_ask asks base _ s left h (λ e. same_left [] s [] left e)
none_left zero base (v ∷ []) asks s left h = none_ask asks base _ s left h (λ e. same_left (v ∷ []) s [] left e)
none_left (suc d) base (v ∷ []) asks s left h = none_ask asks base _ s left h (λ e. same_left (v ∷ []) s [] left e)
none_left zero base (v ∷ u ∷ set) asks s left h = none_ask asks base _ s left h (λ e. same_left (v ∷ u ∷ set) s [] left e)
none_left (suc d) base (v ∷ u ∷ set) asks s left h = none_ask asks base _ s left h (λ e.
    let one = got_then (halve_within d (union base (first_half (v ∷ u ∷ set))) (second_half (v ∷ u ∷ set)) true []) _ s left e in
    let two = got_then (halve_within d (union base one.0) (first_half (v ∷ u ∷ set)) (not (is_empty one.0)) one.1) _ s left one.3 in
    let none : one.1 ≡ [] = none_left d (union base (first_half (v ∷ u ∷ set))) (second_half (v ∷ u ∷ set)) true one.0 one.1 one.2 in
    same_left _ s two.1 left two.3
    ∙ none_left d (union base one.0) (first_half (v ∷ u ∷ set)) (not (is_empty one.0)) two.0 two.1
    (ap (halve_within d (union base one.0) (first_half (v ∷ u ∷ set)) (not (is_empty one.0))) (sym none) ∙ two.2))

-- ---- with one reply more than those after which a set is wanted

last_ask : (asks : Bool) (base : List ℕ) (before : List Bool) (r : Bool) (next : List Bool → Halved) (w s : List ℕ) (left : List Bool) →
    ask asks base before next ≡ Wants w → ask asks base (before ++ r ∷ []) next ≡ Got s left →
    ((rest : List Bool) → next rest ≡ Wants w → next (rest ++ r ∷ []) ≡ Got s left → left ≡ []) → (next [] ≡ Got s left → left ≡ []) → left ≡ []
last_ask false base before r next w s left h k f g = f before h k
last_ask true base [] true next w s left h k f g = g k
last_ask true base [] false next w s left h k f g = same_left [] s [] left k
last_ask true base (false ∷ before) r next w s left h k f g = absurd (wants_not_got w [] before (sym h))
last_ask true base (true ∷ before) r next w s left h k f g = f before h k

last_left : (d : ℕ) (base set : List ℕ) (asks : Bool) (before : List Bool) (r : Bool) (w s : List ℕ) (left : List Bool) →
    halve_within d base set asks before ≡ Wants w → halve_within d base set asks (before ++ r ∷ []) ≡ Got s left → left ≡ []
unfolding halve_within
last_left zero base [] asks before r w s left h k = last_ask asks base before r _ w s left h k (λ rest e f. absurd (wants_not_got w [] rest (sym e))) (λ e. same_left [] s [] left e)
last_left (suc d) base [] asks before r w s left h k = last_ask asks base before r _ w s left h k (λ rest e f. absurd (wants_not_got w [] rest (sym e))) (λ e. same_left [] s [] left e)
last_left zero base (v ∷ []) asks before r w s left h k = last_ask asks base before r _ w s left h k (λ rest e f. absurd (wants_not_got w (v ∷ []) rest (sym e))) (λ e. same_left (v ∷ []) s [] left e)
last_left (suc d) base (v ∷ []) asks before r w s left h k = last_ask asks base before r _ w s left h k (λ rest e f. absurd (wants_not_got w (v ∷ []) rest (sym e))) (λ e. same_left (v ∷ []) s [] left e)
last_left zero base (v ∷ u ∷ set) asks before r w s left h k =
    last_ask asks base before r _ w s left h k (λ rest e f. absurd (wants_not_got w (v ∷ u ∷ set) rest (sym e))) (λ e. same_left (v ∷ u ∷ set) s [] left e)
last_left (suc d) base (v ∷ u ∷ set) asks before r w s left h k = last_ask asks base before r _ w s left h k
    (λ rest e f. go rest (halve_within d (union base first) second true rest) refl e f (λ base set asks before s left h k. last_left d base set asks before r w s left h k))
    (λ e. none_left (suc d) base (v ∷ u ∷ set) false s left e)
  where
    first : List ℕ
    first = first_half (v ∷ u ∷ set)

    second : List ℕ
    second = second_half (v ∷ u ∷ set)

    last : List ℕ → List Bool → Halved
    last found left = then_got (halve_within d (union base found) first (not (is_empty found)) left) (λ more last. Got (union found more) last)

    go : (rest : List Bool) (x : Halved) → halve_within d (union base first) second true rest ≡ x → then_got x last ≡ Wants w →
        then_got (halve_within d (union base first) second true (rest ++ r ∷ [])) last ≡ Got s left →
        ((base set : List ℕ) (asks : Bool) (before : List Bool) (s : List ℕ) (left : List Bool) → halve_within d base set asks before ≡ Wants w →
        halve_within d base set asks (before ++ r ∷ []) ≡ Got s left → left ≡ []) → left ≡ []
    go rest (Wants w1) at e f ih =
        let one = got_then (halve_within d (union base first) second true (rest ++ r ∷ [])) last s left f in
        let two = got_then (halve_within d (union base one.0) first (not (is_empty one.0)) one.1) _ s left one.3 in
        let none : one.1 ≡ [] = ih (union base first) second true rest one.0 one.1 (at ∙ e) one.2 in
        same_left _ s two.1 left two.3
        ∙ none_left d (union base one.0) first (not (is_empty one.0)) two.0 two.1 (ap (halve_within d (union base one.0) first (not (is_empty one.0))) (sym none) ∙ two.2)
    go rest (Got s1 left1) at e f ih =
        let later : halve_within d (union base first) second true (rest ++ r ∷ []) ≡ Got s1 (left1 ++ r ∷ []) = more_replies d (union base first) second true rest (r ∷ []) s1 left1 at in
        let two = got_then (halve_within d (union base s1) first (not (is_empty s1)) (left1 ++ r ∷ [])) _ s left (ap (λ y. then_got y last) (sym later) ∙ f) in
        same_left _ s two.1 left two.3 ∙ ih (union base s1) first (not (is_empty s1)) left1 two.0 two.1 (wants_last _ s1 w e) two.2

-- ---- a whole set

pub nothing_at_first : (set s : List ℕ) (left : List Bool) → halve set [] ≡ Got s left → left ≡ []
nothing_at_first set s left h = none_left (length set) [] set false s left h

pub nothing_after_last : (set : List ℕ) (before : List Bool) (r : Bool) (w s : List ℕ) (left : List Bool) → halve set before ≡ Wants w → halve set (before ++ r ∷ []) ≡ Got s left → left ≡ []
nothing_after_last set before r w s left h k = last_left (length set) [] set false before r w s left h k
