-- Whole runs of a halving: what was asked, and what the set that is got has to do with it.
use Rattle.find_scope.proofs.Prelude.{◌≡◌, ℕ, zero, suc, ◌+◌, ◌/◌, ◌<◌, ◌≤◌, Bool, true, false, ◌||◌, not, List, [], ◌∷◌, ◌++◌, length, take, drop, refl, sym, ◌∙◌, ap, subst, arith, inl, inr, ◌⊎◌, or_cases, or_left, or_right, both_ways, eqb-true, true_from_ne_false, append_assoc, ◌==◌, has, union, first_half, second_half, Rises, has-set_where, rises_where, Halved, Wants, Got, then_got, ask, is_empty, halve_within}
use Rattle.std.proofs.lemmas.List.Folds.{list_any-append}
use Rattle.find_scope.proofs.Halves.{first_shorter, second_shorter}
use Rattle.std.proofs.Math.Bool.{or_assoc, or-false}

-- ---- inversions

pub got_then : (h : Halved) (next : List ℕ → List Bool → Halved) (s : List ℕ) (left : List Bool) → then_got h next ≡ Got s left →
    (s1 : List ℕ) × (left1 : List Bool) × (h ≡ Got s1 left1) × (next s1 left1 ≡ Got s left)
got_then (Wants w) next s left h = absurd (let no : ⊥ = cc in no)
got_then (Got s1 left1) next s left h = (s1, left1, refl, h)

pub wants_last : (h : Halved) (found w : List ℕ) → then_got h (λ more last. Got (union found more) last) ≡ Wants w → h ≡ Wants w
wants_last (Wants x) found w h = h
wants_last (Got s left) found w h = absurd (let no : ⊥ = cc in no)

pub wants_not_got : (w s : List ℕ) (left : List Bool) → Wants w ≡ Got s left → ⊥
wants_not_got w s left h = cc

pub same_set : (a s : List ℕ) (rest left : List Bool) → Got a rest ≡ Got s left → s ≡ a
same_set a s rest left h = cc

pub same_left : (a s : List ℕ) (rest left : List Bool) → Got a rest ≡ Got s left → left ≡ rest
same_left a s rest left h = cc

pub same_want : (a w : List ℕ) → Wants a ≡ Wants w → w ≡ a
same_want a w h = cc

both_got : (a s : List ℕ) (r l : List Bool) → s ≡ a → l ≡ r → Got a r ≡ Got s l
both_got a s r l e f = λ i. Got (sym e i) (sym f i)

-- ---- more replies after the last that is read

got_more : (a s : List ℕ) (rest left more : List Bool) → Got a rest ≡ Got s left → Got a (rest ++ more) ≡ Got s (left ++ more)
got_more a s rest left more h = both_got a s (rest ++ more) (left ++ more) (same_set a s rest left h) (ap (λ x. x ++ more) (same_left a s rest left h))

more_ask : (asks : Bool) (base : List ℕ) (replies more : List Bool) (next : List Bool → Halved) (s : List ℕ) (left : List Bool) → ask asks base replies next ≡ Got s left →
    ((rest : List Bool) → next rest ≡ Got s left → next (rest ++ more) ≡ Got s (left ++ more)) → ask asks base (replies ++ more) next ≡ Got s (left ++ more)
more_ask false base replies more next s left h f = f replies h
more_ask true base [] more next s left h f = absurd (wants_not_got base s left h)
more_ask true base (false ∷ replies) more next s left h f = got_more [] s replies left more h
more_ask true base (true ∷ replies) more next s left h f = f replies h

pub more_replies : (d : ℕ) (base set : List ℕ) (asks : Bool) (replies more : List Bool) (s : List ℕ) (left : List Bool) → halve_within d base set asks replies ≡ Got s left →
    halve_within d base set asks (replies ++ more) ≡ Got s (left ++ more)
unfolding halve_within
more_replies zero base [] asks replies more s left h = more_ask asks base replies more _ s left h (λ rest e. got_more [] s rest left more e)
more_replies (suc d) base [] asks replies more s left h = more_ask asks base replies more _ s left h (λ rest e. got_more [] s rest left more e)
more_replies zero base (v ∷ []) asks replies more s left h = more_ask asks base replies more _ s left h (λ rest e. got_more (v ∷ []) s rest left more e)
more_replies (suc d) base (v ∷ []) asks replies more s left h = more_ask asks base replies more _ s left h (λ rest e. got_more (v ∷ []) s rest left more e)
more_replies zero base (v ∷ w ∷ set) asks replies more s left h = more_ask asks base replies more _ s left h (λ rest e. got_more (v ∷ w ∷ set) s rest left more e)
more_replies (suc d) base (v ∷ w ∷ set) asks replies more s left h = more_ask asks base replies more _ s left h (λ rest e.
    let one = got_then (halve_within d (union base (first_half (v ∷ w ∷ set))) (second_half (v ∷ w ∷ set)) true rest) _ s left e in
    let two = got_then (halve_within d (union base one.0) (first_half (v ∷ w ∷ set)) (not (is_empty one.0)) one.1) _ s left one.3 in
    ap (λ x. then_got x (λ found left. then_got (halve_within d (union base found) (first_half (v ∷ w ∷ set)) (not (is_empty found)) left) (λ more last. Got (union found more) last)))
    (more_replies d (union base (first_half (v ∷ w ∷ set))) (second_half (v ∷ w ∷ set)) true rest more one.0 one.1 one.2)
    ∙ ap (λ x. then_got x (λ more last. Got (union one.0 more) last)) (more_replies d (union base one.0) (first_half (v ∷ w ∷ set)) (not (is_empty one.0)) one.1 more two.0 two.1 two.2)
    ∙ got_more (union one.0 two.0) s two.1 left more two.3)

-- ---- the replies that are read

abbrev IsUsed : (List Bool → Halved) → List Bool → List ℕ → List Bool → Type 0
IsUsed h replies s left = (u : List Bool) × (replies ≡ u ++ left) × (h u ≡ Got s [])

used_all : (a s : List ℕ) (rest left : List Bool) → Got a rest ≡ Got s left → IsUsed (Got a) rest s left
used_all a s rest left h = ([], sym (same_left a s rest left h), both_got a s [] [] (same_set a s rest left h) refl)

used_ask : (asks : Bool) (base : List ℕ) (replies : List Bool) (next : List Bool → Halved) (s : List ℕ) (left : List Bool) → ask asks base replies next ≡ Got s left →
    ((rest : List Bool) → next rest ≡ Got s left → IsUsed next rest s left) → IsUsed (λ x. ask asks base x next) replies s left
used_ask false base replies next s left h f = f replies h
used_ask true base [] next s left h f = absurd (wants_not_got base s left h)
used_ask true base (false ∷ replies) next s left h f = (false ∷ [], ap (λ x. false ∷ x) (sym (same_left [] s replies left h)), both_got [] s [] [] (same_set [] s replies left h) refl)
used_ask true base (true ∷ replies) next s left h f = let rest = f replies h in (true ∷ rest.0, ap (λ x. true ∷ x) rest.1, rest.2)

used : (d : ℕ) (base set : List ℕ) (asks : Bool) (replies : List Bool) (s : List ℕ) (left : List Bool) → halve_within d base set asks replies ≡ Got s left →
    IsUsed (halve_within d base set asks) replies s left
unfolding halve_within
used zero base [] asks replies s left h = used_ask asks base replies _ s left h (λ rest e. used_all [] s rest left e)
used (suc d) base [] asks replies s left h = used_ask asks base replies _ s left h (λ rest e. used_all [] s rest left e)
used zero base (v ∷ []) asks replies s left h = used_ask asks base replies _ s left h (λ rest e. used_all (v ∷ []) s rest left e)
used (suc d) base (v ∷ []) asks replies s left h = used_ask asks base replies _ s left h (λ rest e. used_all (v ∷ []) s rest left e)
used zero base (v ∷ w ∷ set) asks replies s left h = used_ask asks base replies _ s left h (λ rest e. used_all (v ∷ w ∷ set) s rest left e)
used (suc d) base (v ∷ w ∷ set) asks replies s left h = used_ask asks base replies _ s left h (λ rest e.
    let one = got_then (halve_within d (union base (first_half (v ∷ w ∷ set))) (second_half (v ∷ w ∷ set)) true rest) _ s left e in
    let two = got_then (halve_within d (union base one.0) (first_half (v ∷ w ∷ set)) (not (is_empty one.0)) one.1) _ s left one.3 in
    let u1 = used d (union base (first_half (v ∷ w ∷ set))) (second_half (v ∷ w ∷ set)) true rest one.0 one.1 one.2 in
    let u2 = used d (union base one.0) (first_half (v ∷ w ∷ set)) (not (is_empty one.0)) one.1 two.0 two.1 two.2 in (
      u1.0 ++ u2.0,
      u1.1 ∙ ap (λ x. u1.0 ++ x) (u2.1 ∙ ap (λ x. u2.0 ++ x) (sym (same_left _ s two.1 left two.3))) ∙ sym (append_assoc u1.0 u2.0 left),
      ap (λ x. then_got x (λ found left. then_got (halve_within d (union base found) (first_half (v ∷ w ∷ set)) (not (is_empty found)) left) (λ more last. Got (union found more) last)))
          (more_replies d (union base (first_half (v ∷ w ∷ set))) (second_half (v ∷ w ∷ set)) true u1.0 u2.0 one.0 [] u1.2)
          ∙ ap (λ x. then_got x (λ more last. Got (union one.0 more) last)) u2.2 ∙ both_got (union one.0 two.0) s [] [] (same_set _ s two.1 left two.3) refl,
    ))

-- ---- a run as a tree, with a fact T for each set that is asked about and its reply

-- each reply of a run has its fact
abbrev pub Every : (List ℕ → Bool → Type 0) → (List Bool → Halved) → List Bool → Type 0
Every T h replies = (before after : List Bool) (r : Bool) (w : List ℕ) → replies ≡ before ++ r ∷ after → h before ≡ Wants w → T w r

abbrev Asked : (List ℕ → Bool → Type 0) → List ℕ → Bool → List ℕ → Type 0 → Type 0
Asked T base true s Next = (T base false × (s ≡ [])) ⊎ (T base true × Next)
Asked T base false s Next = Next

abbrev pub RunTo : (List ℕ → Bool → Type 0) → ℕ → List ℕ → List ℕ → Bool → List ℕ → Type 0
RunTo T zero base set asks s = ⊥
RunTo T (suc d) base [] asks s = Asked T base asks s (s ≡ [])
RunTo T (suc d) base (v ∷ []) asks s = Asked T base asks s (s ≡ v ∷ [])
RunTo T (suc d) base (v ∷ w ∷ set) asks s = Asked T base asks s (
    (s1 : List ℕ) × (s2 : List ℕ) × RunTo T d (union base (first_half (v ∷ w ∷ set))) (second_half (v ∷ w ∷ set)) true s1
    × RunTo T d (union base s1) (first_half (v ∷ w ∷ set)) (not (is_empty s1)) s2 × (s ≡ union s1 s2))

run_ask : (T : List ℕ → Bool → Type 0) (asks : Bool) (base : List ℕ) (replies : List Bool) (next : List Bool → Halved) (s : List ℕ) (left : List Bool) (X : Type 0) →
    Every T (λ x. ask asks base x next) replies → ask asks base replies next ≡ Got s left → ((rest : List Bool) → Every T next rest → next rest ≡ Got s left → X) → Asked T base asks s X
run_ask T false base replies next s left X every h f = f replies every h
run_ask T true base [] next s left X every h f = absurd (wants_not_got base s left h)
run_ask T true base (false ∷ replies) next s left X every h f = inl (every [] replies false base refl refl, same_set [] s replies left h)
run_ask T true base (true ∷ replies) next s left X every h f =
    inr (every [] replies true base refl refl, f replies (λ before after r w e q. every (true ∷ before) after r w (ap (λ x. true ∷ x) e) q) h)

pub run_to : (T : List ℕ → Bool → Type 0) (d : ℕ) (base set : List ℕ) (asks : Bool) (replies : List Bool) (s : List ℕ) (left : List Bool) → length set < d →
    Every T (halve_within d base set asks) replies → halve_within d base set asks replies ≡ Got s left → RunTo T d base set asks s
unfolding halve_within
run_to T zero base set asks replies s left short every h = absurd (omega arith)
run_to T (suc d) base [] asks replies s left short every h = run_ask T asks base replies _ s left _ every h (λ rest each e. same_set [] s rest left e)
run_to T (suc d) base (v ∷ []) asks replies s left short every h = run_ask T asks base replies _ s left _ every h (λ rest each e. same_set (v ∷ []) s rest left e)
run_to T (suc d) base (v ∷ w ∷ set) asks replies s left short every h = run_ask T asks base replies _ s left _ every h (λ rest each e.
    let first : List ℕ = first_half (v ∷ w ∷ set) in
    let second : List ℕ = second_half (v ∷ w ∷ set) in
    let low : length first ≤ suc (length set) = first_shorter v w set in
    let high : length second ≤ suc (length set) = second_shorter v w set in
    let one = got_then (halve_within d (union base first) second true rest) _ s left e in
    let two = got_then (halve_within d (union base one.0) first (not (is_empty one.0)) one.1) _ s left one.3 in
    let u1 = used d (union base first) second true rest one.0 one.1 one.2 in (
      one.0,
      two.0,
      run_to T d (union base first) second true rest one.0 one.1 (omega arith)
          (λ before after r x q k. each before after r x q (ap (λ y. then_got y (λ found left. then_got (halve_within d (union base found) (first_half (v ∷ w ∷ set)) (not (is_empty found)) left) (λ more last. Got (union found more) last))) k)) one.2,
      run_to T d (union base one.0) first (not (is_empty one.0)) one.1 two.0 two.1 (omega arith)
          (λ before after r x q k. each (u1.0 ++ before) after r x (u1.1 ∙ ap (λ y. u1.0 ++ y) q ∙ sym (append_assoc u1.0 before (r ∷ after)))
          (ap (λ y. then_got y (λ found left. then_got (halve_within d (union base found) (first_half (v ∷ w ∷ set)) (not (is_empty found)) left) (λ more last. Got (union found more) last)))
          (more_replies d (union base first) second true u1.0 before one.0 [] u1.2)
          ∙ ap (λ y. then_got y (λ more last. Got (union one.0 more) last)) k)) two.2,
      same_set _ s two.1 left two.3,
    ))

-- ---- members

abbrev pub Sub : List ℕ → List ℕ → Type 0
Sub xs ys = (v : ℕ) → v < 128 → has xs v ≡ true → has ys v ≡ true

pub has_union : (xs ys : List ℕ) (v : ℕ) → v < 128 → has (union xs ys) v ≡ (has xs v || has ys v)
has_union xs ys v low = has-set_where (λ v. has xs v || has ys v) v low

pub sub_left : (xs ys : List ℕ) → Sub xs (union xs ys)
sub_left xs ys = λ v low h. has_union xs ys v low ∙ or_left (has xs v) (has ys v) h

pub sub_right : (xs ys : List ℕ) → Sub ys (union xs ys)
sub_right xs ys = λ v low h. has_union xs ys v low ∙ or_right (has xs v) (has ys v) h

pub union_sub : (xs ys zs : List ℕ) → Sub xs zs → Sub ys zs → Sub (union xs ys) zs
union_sub xs ys zs f g = λ v low h. go v low (or_cases (has xs v) (has ys v) (sym (has_union xs ys v low) ∙ h))
  where
    go : (v : ℕ) → v < 128 → (has xs v ≡ true) ⊎ (has ys v ≡ true) → has zs v ≡ true
    go v low (inl h) = f v low h
    go v low (inr h) = g v low h

pub has_halves : (xs : List ℕ) (v : ℕ) → (has (first_half xs) v || has (second_half xs) v) ≡ has xs v
has_halves xs v = sym (list_any-append (λ x. x == v) (first_half xs) (second_half xs)) ∙ ap (λ ys. has ys v) (take_drop ((length xs + 1) / 2) xs)
  where
    take_drop : (k : ℕ) (xs : List ℕ) → take k xs ++ drop k xs ≡ xs
    take_drop zero xs = refl
    take_drop (suc k) [] = refl
    take_drop (suc k) (x ∷ xs) = ap (λ ys. x ∷ ys) (take_drop k xs)

pub first_sub : (xs : List ℕ) → Sub (first_half xs) xs
first_sub xs = λ v low h. sym (has_halves xs v) ∙ or_left _ _ h

pub second_sub : (xs : List ℕ) → Sub (second_half xs) xs
second_sub xs = λ v low h. sym (has_halves xs v) ∙ or_right _ _ h

-- ---- what a run tells of the set that is got

elim_asked : (T : List ℕ → Bool → Type 0) (base : List ℕ) (asks : Bool) (s : List ℕ) (Next : Type 0) (P : List ℕ → Type 0) →
    (T base false → P []) → ((asks ≡ true → T base true) → Next → P s) → Asked T base asks s Next → P s
elim_asked T base true s Next P at_no at_yes (inl (denied, none)) = subst P (sym none) (at_no denied)
elim_asked T base true s Next P at_no at_yes (inr (passed, rest)) = at_yes (λ e. passed) rest
elim_asked T base false s Next P at_no at_yes rest = at_yes (λ e. absurd (both_ways false refl e)) rest

pub nothing_sub : (xs : List ℕ) → Sub [] xs
nothing_sub xs = λ v low h. absurd (both_ways _ refl h)

-- it lies within the set
pub run_within : (T : List ℕ → Bool → Type 0) (d : ℕ) (base set : List ℕ) (asks : Bool) (s : List ℕ) → RunTo T d base set asks s → Sub s set
run_within T zero base set asks s run = absurd run
run_within T (suc d) base [] asks s run = elim_asked T base asks s _ (λ x. Sub x []) (λ denied. nothing_sub []) (λ passed e. subst (λ (x : List ℕ). Sub x []) (sym e) (λ v low h. h)) run
run_within T (suc d) base (v ∷ []) asks s run = elim_asked T base asks s _ (λ x. Sub x (v ∷ [])) (λ denied. nothing_sub (v ∷ [])) (λ passed e. subst (λ (x : List ℕ). Sub x (v ∷ [])) (sym e) (λ v low h. h)) run
run_within T (suc d) base (v ∷ w ∷ set) asks s run = elim_asked T base asks s _ (λ x. Sub x (v ∷ w ∷ set)) (λ denied. nothing_sub (v ∷ w ∷ set)) (λ passed (s1, s2, r1, r2, e).
    subst (λ (x : List ℕ). Sub x (v ∷ w ∷ set)) (sym e) (union_sub s1 s2 (v ∷ w ∷ set)
    (λ u low h. second_sub (v ∷ w ∷ set) u low (run_within T d _ (second_half (v ∷ w ∷ set)) true s1 r1 u low h))
    (λ u low h. first_sub (v ∷ w ∷ set) u low (run_within T d _ (first_half (v ∷ w ∷ set)) (not (is_empty s1)) s2 r2 u low h)))) run

-- it rises
pub run_rises : (T : List ℕ → Bool → Type 0) (d : ℕ) (base set : List ℕ) (asks : Bool) (s : List ℕ) → Rises 0 set → RunTo T d base set asks s → Rises 0 s
run_rises T zero base set asks s r run = absurd run
run_rises T (suc d) base [] asks s r run = elim_asked T base asks s _ (Rises 0) (λ denied. tt) (λ passed e. subst (λ (x : List ℕ). Rises 0 x) (sym e) r) run
run_rises T (suc d) base (v ∷ []) asks s r run = elim_asked T base asks s _ (Rises 0) (λ denied. tt) (λ passed e. subst (λ (x : List ℕ). Rises 0 x) (sym e) r) run
run_rises T (suc d) base (v ∷ w ∷ set) asks s r run = elim_asked T base asks s _ (Rises 0) (λ denied. tt) (λ passed (s1, s2, r1, r2, e). subst (λ (x : List ℕ). Rises 0 x) (sym e) (rises_where _)) run

-- ---- a no bounds what will be got

unit_run : (d : ℕ) (base set : List ℕ) (asks : Bool) (replies : List Bool) (s : List ℕ) (left : List Bool) → length set < d → halve_within d base set asks replies ≡ Got s left → Sub s set
unit_run d base set asks replies s left short h = run_within (λ w r. Unit {0}) d base set asks s (run_to (λ w r. Unit {0}) d base set asks replies s left short (λ before after r w e q. tt) h)

bound_ask : (asks : Bool) (base : List ℕ) (replies : List Bool) (next : List Bool → Halved) (w : List ℕ) (more : List Bool) (s : List ℕ) (left : List Bool) →
    ask asks base replies next ≡ Wants w → ask asks base (replies ++ false ∷ more) next ≡ Got s left →
    ((rest : List Bool) → next rest ≡ Wants w → next (rest ++ false ∷ more) ≡ Got s left → Sub base w × Sub s w) → Sub base w × Sub s w
bound_ask false base replies next w more s left h k f = f replies h k
bound_ask true base [] next w more s left h k f = (
  subst (λ (x : List ℕ). Sub base x) (sym (same_want base w h)) (λ v low at. at),
  subst (λ (x : List ℕ). Sub x w) (sym (same_set [] s more left k)) (nothing_sub w),
)
bound_ask true base (false ∷ replies) next w more s left h k f = absurd (wants_not_got w [] replies (sym h))
bound_ask true base (true ∷ replies) next w more s left h k f = f replies h k

-- a no to a set: what is got in the end lies within that set, and so does the base
pub bounded : (d : ℕ) (base set : List ℕ) (asks : Bool) (replies : List Bool) (w : List ℕ) (more : List Bool) (s : List ℕ) (left : List Bool) → length set < d →
    halve_within d base set asks replies ≡ Wants w → halve_within d base set asks (replies ++ false ∷ more) ≡ Got s left → Sub base w × Sub s w
unfolding halve_within
bounded zero base set asks replies w more s left short h k = absurd (omega arith)
bounded (suc d) base [] asks replies w more s left short h k = bound_ask asks base replies _ w more s left h k (λ rest e f. absurd (wants_not_got w [] rest (sym e)))
bounded (suc d) base (v ∷ []) asks replies w more s left short h k = bound_ask asks base replies _ w more s left h k (λ rest e f. absurd (wants_not_got w (v ∷ []) rest (sym e)))
bounded (suc d) base (v ∷ u ∷ set) asks replies w more s left short h k = bound_ask asks base replies _ w more s left h k (λ rest e f.
    go rest (halve_within d (union base (first_half (v ∷ u ∷ set))) (second_half (v ∷ u ∷ set)) true rest) refl e f
    (λ base set asks replies s left short h k. bounded d base set asks replies w more s left short h k))
  where
    first : List ℕ
    first = first_half (v ∷ u ∷ set)

    second : List ℕ
    second = second_half (v ∷ u ∷ set)

    last : List ℕ → List Bool → Halved
    last found left = then_got (halve_within d (union base found) first (not (is_empty found)) left) (λ more last. Got (union found more) last)

    both : (s1 s2 : List ℕ) → Sub (union base s1) w → Sub s1 w → Sub s2 w → s ≡ union s1 s2 → Sub base w × Sub s w
    both s1 s2 a b c e = (λ v low h. a v low (sub_left base s1 v low h), subst (λ (x : List ℕ). Sub x w) (sym e) (union_sub s1 s2 w b c))

    go : (rest : List Bool) (x : Halved) → halve_within d (union base first) second true rest ≡ x → then_got x last ≡ Wants w →
        then_got (halve_within d (union base first) second true (rest ++ false ∷ more)) last ≡ Got s left →
        ((base set : List ℕ) (asks : Bool) (replies : List Bool) (s : List ℕ) (left : List Bool) → length set < d → halve_within d base set asks replies ≡ Wants w →
        halve_within d base set asks (replies ++ false ∷ more) ≡ Got s left → Sub base w × Sub s w) → Sub base w × Sub s w
    go rest (Wants w1) at e f ih =
        let one = got_then (halve_within d (union base first) second true (rest ++ false ∷ more)) last s left f in
        let two = got_then (halve_within d (union base one.0) first (not (is_empty one.0)) one.1) _ s left one.3 in
        let parts = ih (union base first) second true rest one.0 one.1 (omega (arith, first_shorter v u set, second_shorter v u set)) (at ∙ e) one.2 in
        let in_first : Sub two.0 first = unit_run d (union base one.0) first (not (is_empty one.0)) one.1 two.0 two.1 (omega (arith, first_shorter v u set, second_shorter v u set)) two.2 in (
          (λ v low h. parts.0 v low (sub_left base first v low h)),
          subst (λ (x : List ℕ). Sub x w) (sym (same_set _ s two.1 left two.3)) (union_sub one.0 two.0 w parts.1 (λ v low h. parts.0 v low (sub_right base first v low (in_first v low h)))),
        )
    go rest (Got s1 left1) at e f ih =
        let later : halve_within d (union base first) second true (rest ++ false ∷ more) ≡ Got s1 (left1 ++ false ∷ more) = more_replies d (union base first) second true rest (false ∷ more) s1 left1 at in
        let two = got_then (halve_within d (union base s1) first (not (is_empty s1)) (left1 ++ false ∷ more)) _ s left (ap (λ y. then_got y last) (sym later) ∙ f) in
        let parts = ih (union base s1) first (not (is_empty s1)) left1 two.0 two.1 (omega (arith, first_shorter v u set, second_shorter v u set)) (wants_last _ s1 w e) two.2 in (
          (λ v low h. parts.0 v low (sub_left base s1 v low h)),
          subst (λ (x : List ℕ). Sub x w) (sym (same_set _ s two.1 left two.3)) (union_sub s1 two.0 w (λ v low h. parts.0 v low (sub_right base s1 v low h)) parts.1),
        )

-- ---- what is asked about lies within the set

or_swap : (a b c : Bool) → ((a || b) || c) ≡ ((a || c) || b)
or_swap true b c = refl
or_swap false true true = refl
or_swap false true false = refl
or_swap false false true = refl
or_swap false false false = refl

-- each member is one of the base or of the set
abbrev pub IsOf : List ℕ → List ℕ → List ℕ → Type 0
IsOf w base set = (v : ℕ) → v < 128 → has w v ≡ true → (has base v || has set v) ≡ true

asked_ask : (asks : Bool) (base set : List ℕ) (replies : List Bool) (next : List Bool → Halved) (w : List ℕ) → ask asks base replies next ≡ Wants w →
    ((rest : List Bool) → next rest ≡ Wants w → IsOf w base set) → IsOf w base set
asked_ask false base set replies next w h f = f replies h
asked_ask true base set [] next w h f = subst (λ (x : List ℕ). IsOf x base set) (sym (same_want base w h)) (λ v low at. or_left _ _ at)
asked_ask true base set (false ∷ replies) next w h f = absurd (wants_not_got w [] replies (sym h))
asked_ask true base set (true ∷ replies) next w h f = f replies h

pub asked_within : (d : ℕ) (base set : List ℕ) (asks : Bool) (replies : List Bool) (w : List ℕ) → length set < d → halve_within d base set asks replies ≡ Wants w → IsOf w base set
unfolding halve_within
asked_within zero base set asks replies w short h = absurd (omega arith)
asked_within (suc d) base [] asks replies w short h = asked_ask asks base [] replies _ w h (λ rest e. absurd (wants_not_got w [] rest (sym e)))
asked_within (suc d) base (v ∷ []) asks replies w short h = asked_ask asks base (v ∷ []) replies _ w h (λ rest e. absurd (wants_not_got w (v ∷ []) rest (sym e)))
asked_within (suc d) base (v ∷ u ∷ set) asks replies w short h = asked_ask asks base (v ∷ u ∷ set) replies _ w h (λ rest e.
    go rest (halve_within d (union base (first_half (v ∷ u ∷ set))) (second_half (v ∷ u ∷ set)) true rest) refl e
    (λ base set asks replies short h. asked_within d base set asks replies w short h))
  where
    first : List ℕ
    first = first_half (v ∷ u ∷ set)

    second : List ℕ
    second = second_half (v ∷ u ∷ set)

    last : List ℕ → List Bool → Halved
    last found left = then_got (halve_within d (union base found) first (not (is_empty found)) left) (λ more last. Got (union found more) last)

    go : (rest : List Bool) (x : Halved) → halve_within d (union base first) second true rest ≡ x → then_got x last ≡ Wants w →
        ((base set : List ℕ) (asks : Bool) (replies : List Bool) → length set < d → halve_within d base set asks replies ≡ Wants w → IsOf w base set) → IsOf w base (v ∷ u ∷ set)
    go rest (Wants w1) at e ih = λ z below h.
        sym ((λ i. has_union base first z below i || has second z) ∙ or_assoc (has base z) (has first z) (has second z) ∙ ap (λ x. has base z || x) (has_halves (v ∷ u ∷ set) z))
        ∙ ih (union base first) second true rest (omega (arith, first_shorter v u set, second_shorter v u set)) (at ∙ e) z below h
    go rest (Got s1 left1) at e ih = λ z below h.
        pick z below (or_cases _ _ (ih (union base s1) first (not (is_empty s1)) left1 (omega (arith, first_shorter v u set, second_shorter v u set)) (wants_last _ s1 w e) z below h))
      where
        pick : (z : ℕ) → z < 128 → (has (union base s1) z ≡ true) ⊎ (has first z ≡ true) → (has base z || has (v ∷ u ∷ set) z) ≡ true
        pick z below (inr h) = or_right _ _ (first_sub (v ∷ u ∷ set) z below h)
        pick z below (inl h) = spread (or_cases _ _ (sym (has_union base s1 z below) ∙ h))
          where
            spread : (has base z ≡ true) ⊎ (has s1 z ≡ true) → (has base z || has (v ∷ u ∷ set) z) ≡ true
            spread (inl g) = or_left _ _ g
            spread (inr g) = or_right _ _ (second_sub (v ∷ u ∷ set) z below (unit_run d (union base first) second true rest s1 left1 (omega (arith, first_shorter v u set, second_shorter v u set)) at z below g))

-- ---- what is got was answered no, beside the base

-- some set with the fact D has just the members of two
abbrev pub IsKnown : (List ℕ → Type 0) → List ℕ → List ℕ → Type 0
IsKnown D base set = (w : List ℕ) × D w × ((v : ℕ) → v < 128 → has w v ≡ (has base v || has set v))

pub run_denied : (D : List ℕ → Type 0) (T : List ℕ → Bool → Type 0) → ((w : List ℕ) → T w false → D w) → (d : ℕ) (base set : List ℕ) (asks : Bool) (s : List ℕ) →
    RunTo T d base set asks s → IsKnown D base set → IsKnown D base s
run_denied D T gives zero base set asks s run known = absurd run
run_denied D T gives (suc d) base [] asks s run known = elim_asked T base asks s _ (IsKnown D base) (λ denied. (base, gives base denied, λ v low. sym (or-false (has base v))))
    (λ passed e. subst (λ (x : List ℕ). IsKnown D base x) (sym e) known) run
run_denied D T gives (suc d) base (v ∷ []) asks s run known = elim_asked T base asks s _ (IsKnown D base) (λ denied. (base, gives base denied, λ v low. sym (or-false (has base v))))
    (λ passed e. subst (λ (x : List ℕ). IsKnown D base x) (sym e) known) run
run_denied D T gives (suc d) base (v ∷ u ∷ set) asks s run known = elim_asked T base asks s _ (IsKnown D base) (λ denied. (base, gives base denied, λ v low. sym (or-false (has base v))))
    (λ passed (s1, s2, r1, r2, e). subst (λ (x : List ℕ). IsKnown D base x) (sym e) (join s1 s2 (run_denied D T gives d (union base s1) first (not (is_empty s1)) s2 r2
    (swap s1 (run_denied D T gives d (union base first) second true s1 r1 (split known)))))) run
  where
    first : List ℕ
    first = first_half (v ∷ u ∷ set)

    second : List ℕ
    second = second_half (v ∷ u ∷ set)

    split : IsKnown D base (v ∷ u ∷ set) → IsKnown D (union base first) second
    split (w, is, alike) = (w, is, λ z low. alike z low ∙ ap (λ x. has base z || x) (sym (has_halves (v ∷ u ∷ set) z)) ∙ sym (or_assoc (has base z) (has first z) (has second z)) ∙ (λ i. sym (has_union base first z low) i || has second z))

    swap : (s1 : List ℕ) → IsKnown D (union base first) s1 → IsKnown D (union base s1) first
    swap s1 (w, is, alike) = (w, is, λ z low. alike z low ∙ (λ i. has_union base first z low i || has s1 z) ∙ or_swap (has base z) (has first z) (has s1 z) ∙ (λ i. sym (has_union base s1 z low) i || has first z))

    join : (s1 s2 : List ℕ) → IsKnown D (union base s1) s2 → IsKnown D base (union s1 s2)
    join s1 s2 (w, is, alike) = (w, is, λ z low. alike z low ∙ (λ i. has_union base s1 z low i || has s2 z) ∙ or_assoc (has base z) (has s1 z) (has s2 z) ∙ ap (λ x. has base z || x) (sym (has_union s1 s2 z low)))

-- ---- what is got lies within each set K that lies within it and the base, where a yes to a set says that K doesn't lie in it

not_sub_empty : (K base s1 : List ℕ) → is_empty s1 ≡ true → (Sub K base → ⊥) → Sub K (union base s1) → ⊥
not_sub_empty K base [] none outside within = outside (λ v low h. pick v low (or_cases _ _ (sym (has_union base [] v low) ∙ within v low h)))
  where
    pick : (v : ℕ) → v < 128 → (has base v ≡ true) ⊎ (false ≡ true) → has base v ≡ true
    pick v low (inl h) = h
    pick v low (inr h) = cc
not_sub_empty K base (x ∷ s1) none outside within = both_ways _ refl none

pub run_least : (T : List ℕ → Bool → Type 0) (K : List ℕ) → ((w : List ℕ) → T w true → Sub K w → ⊥) → (d : ℕ) (base set : List ℕ) (asks : Bool) (s : List ℕ) →
    RunTo T d base set asks s → (asks ≡ true) ⊎ (Sub K base → ⊥) → IsOf K base s → Sub s K
run_least T K outside zero base set asks s run before within = absurd run
run_least T K outside (suc d) base [] asks s run before within = elim_asked T base asks s _ (λ x. IsOf K base x → Sub x K) (λ denied within. nothing_sub K)
    (λ passed e within. subst (λ (x : List ℕ). Sub x K) (sym e) (nothing_sub K)) run within
run_least T K outside (suc d) base (v ∷ []) asks s run before within = elim_asked T base asks s _ (λ x. IsOf K base x → Sub x K) (λ denied within. nothing_sub K)
    (λ passed e within. one (not_in passed before) (subst (λ (x : List ℕ). IsOf K base x) e within) e) run within
  where
    not_in : (asks ≡ true → T base true) → (asks ≡ true) ⊎ (Sub K base → ⊥) → Sub K base → ⊥
    not_in passed (inl e) = outside base (passed e)
    not_in passed (inr h) = h

    member : (Sub K base → ⊥) → IsOf K base (v ∷ []) → has K v ≡ true
    member out within = true_from_ne_false _ (λ lacks. out (λ z low h. pick lacks z h (or_cases _ _ (within z low h))))
      where
        pick : has K v ≡ false → (z : ℕ) → has K z ≡ true → (has base z ≡ true) ⊎ (((v == z) || false) ≡ true) → has base z ≡ true
        pick lacks z h (inl g) = g
        pick lacks z h (inr g) = absurd (both_ways _ lacks (ap (has K) (same (or_cases (v == z) false g)) ∙ h))
          where
            same : ((v == z) ≡ true) ⊎ (false ≡ true) → v ≡ z
            same (inl e) = eqb-true v z e
            same (inr e) = cc

    one : (Sub K base → ⊥) → IsOf K base (v ∷ []) → s ≡ v ∷ [] → Sub s K
    one out within e = subst (λ (x : List ℕ). Sub x K) (sym e) (λ z low h. pick z (or_cases (v == z) false h))
      where
        pick : (z : ℕ) → ((v == z) ≡ true) ⊎ (false ≡ true) → has K z ≡ true
        pick z (inl g) = ap (has K) (sym (eqb-true v z g)) ∙ member out within
        pick z (inr g) = cc
run_least T K outside (suc d) base (v ∷ u ∷ set) asks s run before within = elim_asked T base asks s _ (λ x. IsOf K base x → Sub x K) (λ denied within. nothing_sub K)
    (λ passed (s1, s2, r1, r2, e) within. subst (λ (x : List ℕ). Sub x K) (sym e) (union_sub s1 s2 K
    (run_least T K outside d (union base first) second true s1 r1 (inl refl) (wide s1 s2 r2 (subst (λ (x : List ℕ). IsOf K base x) e within)))
    (run_least T K outside d (union base s1) first (not (is_empty s1)) s2 r2 (still s1 passed (is_empty s1) refl) (narrow s1 s2 (subst (λ (x : List ℕ). IsOf K base x) e within))))) run within
  where
    first : List ℕ
    first = first_half (v ∷ u ∷ set)

    second : List ℕ
    second = second_half (v ∷ u ∷ set)

    not_in : (asks ≡ true → T base true) → (asks ≡ true) ⊎ (Sub K base → ⊥) → Sub K base → ⊥
    not_in passed (inl e) = outside base (passed e)
    not_in passed (inr h) = h

    still : (s1 : List ℕ) → (asks ≡ true → T base true) → (b : Bool) → is_empty s1 ≡ b → (not (is_empty s1) ≡ true) ⊎ (Sub K (union base s1) → ⊥)
    still s1 passed true e = inr (not_sub_empty K base s1 e (not_in passed before))
    still s1 passed false e = inl (ap not e)

    narrow : (s1 s2 : List ℕ) → IsOf K base (union s1 s2) → IsOf K (union base s1) s2
    narrow s1 s2 within = λ z low h. (λ i. has_union base s1 z low i || has s2 z) ∙ or_assoc (has base z) (has s1 z) (has s2 z) ∙ ap (λ x. has base z || x) (sym (has_union s1 s2 z low)) ∙ within z low h

    wide : (s1 s2 : List ℕ) → RunTo T d (union base s1) first (not (is_empty s1)) s2 → IsOf K base (union s1 s2) → IsOf K (union base first) s1
    wide s1 s2 r2 within = λ z low h. (λ i. has_union base first z low i || has s1 z) ∙ pick z low (or_cases _ _ (within z low h))
      where
        pick : (z : ℕ) → z < 128 → (has base z ≡ true) ⊎ (has (union s1 s2) z ≡ true) → ((has base z || has first z) || has s1 z) ≡ true
        pick z low (inl g) = or_left _ _ (or_left _ _ g)
        pick z low (inr g) = spread (or_cases _ _ (sym (has_union s1 s2 z low) ∙ g))
          where
            spread : (has s1 z ≡ true) ⊎ (has s2 z ≡ true) → ((has base z || has first z) || has s1 z) ≡ true
            spread (inl k) = or_right _ _ k
            spread (inr k) = or_left _ _ (or_right _ _ (run_within T d (union base s1) first (not (is_empty s1)) s2 r2 z low k))
