-- The first question of plan Scopes tells its scope and its tuple.
use Rattle.session_core.proofs.Prelude.{◌≡◌, ℕ, zero, suc, ◌+◌, ◌<◌, ◌≤◌, ◌^◌, Bool, true, false, cond, not, List, [], length, get_or, Option, Some, None, refl, sym, ◌∙◌, ap, subst, arith, inl, inr, ◌⊎◌, ◌≢◌, IsTrue, find, slice_index_or, range_with_len, option_map, and_parts, cases_eq, numbers, Assignment, covers, tuple_on, Scopes, place, tuple_at, tuples, Candidate, Language, IsLanguage, IsQuestion, scope_at, variable_count, place_on, IsNetwork, has_scope, scene_of, free_choices, on_scope, splitting_tuple, find_all, all_below, find_some, split_is_question, TellingRun, IsRun, run_tuple, is_just, is_lawful, is_undecided, next_scope, same_assignment, tuple_on_assigned, FirstRun}
use Rattle.rel_table.proofs.PlaceLemmas.{get_or-tuples, tuple_at-place, place-below}
use Rattle.language.proofs.Fields.{scope_is_set}
use Rattle.find_c.proofs.Starting.{free_known}
use Rattle.session_core.proofs.Scoped.{about_tuple}
use Rattle.session_core.proofs.Moving.{first_is}
use Rattle.std.proofs.lemmas.Bool.{not-true}
use Rattle.std.proofs.lemmas.Option.{cond_some}

-- the scope and the tuple of a question that may be put
record IsOpened (l : Language) (live network : List Candidate) (q : Assignment) : Type 0 where
  scope : ℕ
  tuple : List ℕ
  next : next_scope l live network ≡ Some scope
  splits : splitting_tuple (scene_of l scope) (free_choices live scope) ≡ Some tuple
  asks : on_scope l scope tuple ≡ q

opened : (l : Language) (live network : List Candidate) (q : Assignment) → IsTrue (is_lawful l Scopes live network q) → IsOpened l live network q
opened l live network q lawful = go (next_scope l live network) refl lawful
  where
    ask_on : Option ℕ → Option Assignment
    ask_on None = None
    ask_on (Some v) = option_map (on_scope l v) (splitting_tuple (scene_of l v) (free_choices live v))

    at : (s : ℕ) → next_scope l live network ≡ Some s → (o : Option (List ℕ)) → splitting_tuple (scene_of l s) (free_choices live s) ≡ o → is_just (option_map (on_scope l s) o) q ≡ true → IsOpened l live network q
    at s next None none just = absurd (let bad : false ≡ true = just in cc)
    at s next (Some u) splits just = record { scope = s; tuple = u; next = next; splits = splits; asks = same_assignment (on_scope l s u) q just }

    go : (o : Option ℕ) → next_scope l live network ≡ o → is_just (ask_on o) q ≡ true → IsOpened l live network q
    go None none just = absurd (let bad : false ≡ true = just in cc)
    go (Some s) next just = at s next (splitting_tuple (scene_of l s) (free_choices live s)) refl just

-- those before the first that passes don't
find_before : (p : ℕ → Bool) (a n s : ℕ) → find p (range_with_len a n) ≡ Some s → (k : ℕ) → a ≤ k → k < s → p k ≡ false
find_before p a zero s found k from below = absurd (let bad : None ≡ Some s = found in cc)
find_before p a (suc n) s found k from below = go (p a) refl found (λ rest past. find_before p (a + 1) n s rest k past below)
  where
    go : (b : Bool) → p a ≡ b → cond b (Some a) (find p (range_with_len (a + 1) n)) ≡ Some s → (find p (range_with_len (a + 1) n) ≡ Some s → a + 1 ≤ k → p k ≡ false) → p k ≡ false
    go true on first more = absurd (let same : a ≡ s = cc in omega arith)
    go false off rest more = here (cases_eq a k)
      where
        here : (a ≡ k) ⊎ (a ≢ k) → p k ≡ false
        here (inl same) = ap p (sym same) ∙ off
        here (inr other) = more rest (omega (arith, other))

module _ (l : Language) (lawful : IsLanguage l) (live network : List Candidate) (known : IsNetwork l live) (q : Assignment) (may : IsTrue (is_lawful l Scopes live network q)) where
  told : IsOpened l live network q
  told = opened l live network q may

  abbrev run : TellingRun
  run = record { scope = told.scope; choices = free_choices live told.scope; tuple = told.tuple }

  undecided : is_undecided l live network told.scope ≡ true
  undecided = find_some (is_undecided l live network) (numbers (length l.scopes)) told.scope told.next

  low : told.scope < length l.scopes
  low = find_all (λ v. v < length l.scopes) (is_undecided l live network) (numbers (length l.scopes)) told.scope (all_below (λ v. v < length l.scopes) (length l.scopes) (λ v low. low)) told.next

  sound : IsRun l run
  sound = record { scope = low; choices = free_known l told.scope live known; tuple = told.splits }

  -- it has values of its variables' ranges
  pub asked_question : IsQuestion l q
  asked_question =
      let tuple = run_tuple l lawful run sound in
      subst (IsQuestion l) told.asks (split_is_question l lawful told.scope low run.choices sound.choices told.tuple tuple.long tuple.values told.splits)

  -- a run on the scope that it covers, with its tuple, is the first one
  pub run_asked : (s at : ℕ) (r : TellingRun) → s < length l.scopes → place_on l s q ≡ Some at → r.scope ≡ s → r.choices ≡ free_choices live s →
      r.tuple ≡ slice_index_or (tuples l.value_count (length (scope_at l s))) at [] → FirstRun l live network (Some r)
  run_asked s at r is_s here on left asks =
      let there = cond_some (covers q (scope_at l s)) (place l.value_count (tuple_on q (scope_at l s))) at here in
      let same : s ≡ told.scope = (about_tuple l lawful run sound).alone s is_s (subst (λ e. covers e (scope_at l s) ≡ true) (sym told.asks) there.0) in
      let scope = lawful.scopes told.scope [] low in
      let tuple = run_tuple l lawful run sound in
      let values : tuple_on q (scope_at l told.scope) ≡ told.tuple =
      ap (λ e. tuple_on e (scope_at l told.scope)) (sym told.asks)
      ∙ tuple_on_assigned (variable_count l) (scope_at l told.scope) told.tuple (scope_is_set (variable_count l) (scope_at l told.scope) lawful.few_variables scope) scope.known tuple.long in
      let which : place l.value_count told.tuple ≡ at = ap (place l.value_count) (sym values) ∙ ap (λ k. place l.value_count (tuple_on q (scope_at l k))) (sym same) ∙ there.1 in
      let below : place l.value_count told.tuple < l.value_count ^ length (scope_at l told.scope) =
      subst (λ n. place l.value_count told.tuple < l.value_count ^ n) tuple.long (place-below l.value_count told.tuple tuple.values) in
      let listed : slice_index_or (tuples l.value_count (length (scope_at l told.scope))) at [] ≡ told.tuple =
      ap (λ k. get_or (tuples l.value_count (length (scope_at l told.scope))) k []) (sym which)
      ∙ get_or-tuples l.value_count (length (scope_at l told.scope)) (place l.value_count told.tuple) below
      ∙ ap (λ n. tuple_at l.value_count n (place l.value_count told.tuple)) (sym tuple.long) ∙ tuple_at-place l.value_count told.tuple tuple.values in
      let is : run ≡ r = λ i. record {
        scope = sym (on ∙ same) i;
        choices = sym (left ∙ ap (free_choices live) same) i;
        tuple = sym (asks ∙ ap (λ k. slice_index_or (tuples l.value_count (length (scope_at l k))) at []) same ∙ listed) i;
      } in
      subst (λ (x : TellingRun). FirstRun l live network (Some x)) is
      (first_is l live network told.scope run
      (record { sound = sound; scope = refl; choices = refl; free = not-true (has_scope network told.scope) (and_parts (not (has_scope network told.scope)) _ undecided).0 })
      undecided (λ k below. find_before (is_undecided l live network) 0 (length l.scopes) told.scope told.next k (omega arith) below) low)
