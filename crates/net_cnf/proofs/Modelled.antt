-- The bytes from which a solution is read are those that are a model of it.
use Rattle.net_cnf.proofs.Prelude.{◌≡◌, ℕ, ◌+◌, ◌-◌, ◌<◌, ◌≤◌, ◌&&◌, not, Bool, true, false, cond, List, [], ◌∷◌, length, map, get_or, Option, Some, None, Result, Ok, Err, zero, suc, refl, sym, ◌∙◌, ap, arith, subst, ◌⊎◌, inl, inr, find, position, is_some, is_none, nat_eq, nat_lt, range_with_len, option_map, cases_order, not-true, not-false, not_from_true, not_from_false, lt-ltb, le-ltb, ltb-false, both_ways, false_from_ne_true, and_from, and_parts, none-some, same_Some, length-map, get_or-map-range_with_len, length-map-range_with_len, fill_by_all, list_all-from_AllPass, AllPass-from_list_all, fails_before_first, numbers, Assignment, is_complete, Candidate, Language, variable_count, is_ranged, violates, IsQuestion, position_nowhere, boolean, booleans, boolean_number, gives, bits, ReadsModels, ReadModelIsNotRefused, signs_of, marks, IsMarked, positive_signs, AreNamed, AreOnes, MOST_MODEL, boolean_count, literals_of, is_named, truths_of, both_named, true_values, not_one, only_of, modelled_assignment, violated, refused_where, solution_in, solution_of, model_of, IsModel, tokens, literal_in, bad_token, Literal, ModelFault, TooLong, BadToken, Twice, NotOne, Violates, Signs}
use Rattle.std.specs.Prelude.{filter}
use Rattle.net_cnf.proofs.Encoding.{Valued, valued, given_is}
use Rattle.net_cnf.proofs.Marking.{find_nowhere}
use Rattle.net_cnf.proofs.Numbers.{truth_of, same_truths}
use Rattle.net_cnf.proofs.Runs.{first_of, size_of, values-run, value_in, value_at, place_in}
use Rattle.net_cnf.proofs.Valuing.{only_tells, only_some, one_passes, passes_one, true_of}
use Rattle.shared_lemmas.proofs.Read.{nowhere}

-- ---- nothing is found

find_fails : (p : ℕ → Bool) (a n v : ℕ) → find p (range_with_len a n) ≡ None → a ≤ v → v < a + n → p v ≡ false
find_fails p a zero v h low high = absurd (omega arith)
find_fails p a (suc n) v h low high = go (p a) refl (cases_order a v) (λ off from. find_fails p (a + 1) n v off from (omega arith))
  where
    step : (b : Bool) → p a ≡ b → find p (range_with_len a (suc n)) ≡ cond b (Some a) (find p (range_with_len (a + 1) n))
    step b is = ap (λ t. cond t (Some a) (find p (range_with_len (a + 1) n))) is

    go : (b : Bool) → p a ≡ b → (a ≡ v) ⊎ ((a < v) ⊎ (v < a)) → (find p (range_with_len (a + 1) n) ≡ None → a + 1 ≤ v → p v ≡ false) → p v ≡ false
    go true on order next = absurd (none-some a (sym h ∙ step true on))
    go false off (inl same) next = ap p (sym same) ∙ off
    go false off (inr (inl before)) next = next (sym (step false off) ∙ h) (omega arith)
    go false off (inr (inr past)) next = absurd (omega arith)

position_fails : {X : Type 0} (p : X → Bool) (xs : List X) (k : ℕ) (d : X) → position p xs ≡ None → k < length xs → p (get_or xs k d) ≡ false
position_fails p xs k d h low = fails_before_first p xs k d (let high = nowhere p xs h in omega (arith, high))

no_position : {X : Type 0} (p : X → Bool) (xs : List X) → ((k : ℕ) (d : X) → k < length xs → p (get_or xs k d) ≡ false) → position p xs ≡ None
no_position p [] h = refl
no_position p (x ∷ xs) h = position_nowhere p (x ∷ xs) (length (x ∷ xs)) x (omega arith) (λ k low. h k x low)

-- ---- what is read

record IsReadSo (l : Language) (network : List Candidate) (bytes : List ℕ) (e : Assignment) : Type 0 where
  short : length bytes ≤ MOST_MODEL
  bad : bad_token (boolean_count l) (tokens bytes) ≡ None
  both : both_named (boolean_count l) (literals_of l bytes) ≡ None
  one : not_one l (truths_of (boolean_count l) (literals_of l bytes)) ≡ None
  kept : violated l network (modelled_assignment l (truths_of (boolean_count l) (literals_of l bytes))) ≡ None
  is : modelled_assignment l (truths_of (boolean_count l) (literals_of l bytes)) ≡ e

unless_ok : {A B : Type 0} (fault : B → ModelFault) (o : Option B) (next : Result A ModelFault) (x : A) → refused_where fault o next ≡ Ok x → (o ≡ None) × (next ≡ Ok x)
unless_ok fault None next x h = (refl, h)
unless_ok fault (Some at) next x h = absurd cc

same_Ok : {A B : Type 0} (x y : A) → ◌≡◌ {A = Result A B} (Ok x) (Ok y) → x ≡ y
same_Ok x y h = cc

read_so : (l : Language) (network : List Candidate) (bytes : List ℕ) (e : Assignment) → model_of l network bytes ≡ Ok e → IsReadSo l network bytes e
unfolding model_of
read_so l network bytes e h = go (nat_lt MOST_MODEL (length bytes)) refl h
  where
    positive_signs : List Bool
    positive_signs = truths_of (boolean_count l) (literals_of l bytes)

    go : (b : Bool) → nat_lt MOST_MODEL (length bytes) ≡ b → cond b (Err TooLong) (refused_where BadToken (bad_token (boolean_count l) (tokens bytes)) (solution_of l network (literals_of l bytes))) ≡ Ok e → IsReadSo l network bytes e
    go true long is = absurd cc
    go false short is =
        let first = unless_ok BadToken (bad_token (boolean_count l) (tokens bytes)) (solution_of l network (literals_of l bytes)) e is in
        let second = unless_ok Twice (both_named (boolean_count l) (literals_of l bytes)) (solution_in l network positive_signs) e first.1 in
        let third = unless_ok NotOne (not_one l positive_signs) (refused_where Violates (violated l network (modelled_assignment l positive_signs)) (Ok (modelled_assignment l positive_signs))) e second.1 in
        let fourth = unless_ok Violates (violated l network (modelled_assignment l positive_signs)) (Ok (modelled_assignment l positive_signs)) e third.1 in
        record {
          short = ltb-false MOST_MODEL (length bytes) short;
          bad = first.0;
          both = second.0;
          one = third.0;
          kept = fourth.0;
          is = same_Ok (modelled_assignment l positive_signs) e fourth.1;
        }

so_read : (l : Language) (network : List Candidate) (bytes : List ℕ) (e : Assignment) → IsReadSo l network bytes e → model_of l network bytes ≡ Ok e
unfolding model_of
so_read l network bytes e r =
    ap (λ b. cond b (Err TooLong) (refused_where BadToken (bad_token (boolean_count l) (tokens bytes)) (solution_of l network (literals_of l bytes)))) (le-ltb MOST_MODEL (length bytes) r.short)
    ∙ (λ i. refused_where BadToken (r.bad i) (refused_where Twice (r.both i) (refused_where NotOne (r.one i) (refused_where Violates (r.kept i) (Ok (r.is i))))))

-- ---- a value for each variable

-- the value whose Boolean is true
record IsValued (l : Language) (positive_signs : List Bool) (v : ℕ) : Type 0 where
  value : ℕ
  is : true_values l positive_signs v ≡ value ∷ []

one_value : (l : Language) (positive_signs : List Bool) (v : ℕ) → not_one l positive_signs ≡ None → v < variable_count l → IsValued l positive_signs v
one_value l positive_signs v one low = go (only_of (true_values l positive_signs v)) refl
  where
    single : is_some (only_of (true_values l positive_signs v)) ≡ true
    single = only_tells (true_values l positive_signs v) ∙ not-false _ (find_fails (λ w. not (nat_eq (length (true_values l positive_signs w)) 1)) 0 (variable_count l) v one (omega arith) (omega arith))

    go : (o : Option ℕ) → only_of (true_values l positive_signs v) ≡ o → IsValued l positive_signs v
    go None none = absurd (both_ways false refl (sym (ap is_some none) ∙ single))
    go (Some y) some = record { value = y; is = only_some (true_values l positive_signs v) y some }

value_is : (l : Language) (positive_signs : List Bool) (v : ℕ) (d : Option ℕ) → v < variable_count l → get_or (modelled_assignment l positive_signs) v d ≡ only_of (true_values l positive_signs v)
value_is l positive_signs v d low = get_or-map-range_with_len (λ w. only_of (true_values l positive_signs w)) 0 (variable_count l) v v d low (omega arith)

length-assignment : (l : Language) (positive_signs : List Bool) → length (modelled_assignment l positive_signs) ≡ variable_count l
length-assignment l positive_signs = length-map-range_with_len (λ w. only_of (true_values l positive_signs w)) 0 (variable_count l)

pub assignment_fits : (l : Language) (positive_signs : List Bool) → IsQuestion l (modelled_assignment l positive_signs)
assignment_fits l positive_signs = record {
  size = length-assignment l positive_signs;
  values_fit = λ v d inside x is.
      let low : v < variable_count l = (let e = length-assignment l positive_signs in omega (arith, e, inside)) in
      (true_of l positive_signs v x low (sym (value_is l positive_signs v d low) ∙ is)).fits;
  within = λ v low. ap (is_ranged l v) (value_is l positive_signs v None low) ∙ ranged v low (only_of (true_values l positive_signs v)) refl;
}
  where
    ranged : (v : ℕ) → v < variable_count l → (o : Option ℕ) → only_of (true_values l positive_signs v) ≡ o → is_ranged l v o ≡ true
    ranged v low None is = refl
    ranged v low (Some x) is = value_in l v x (true_of l positive_signs v x low is)

assignment_complete : (l : Language) (positive_signs : List Bool) → not_one l positive_signs ≡ None → is_complete (modelled_assignment l positive_signs) ≡ true
assignment_complete l positive_signs one = list_all-from_AllPass is_some (modelled_assignment l positive_signs) (λ v d inside.
    let low : v < variable_count l = (let e = length-assignment l positive_signs in omega (arith, e, inside)) in
    ap is_some (value_is l positive_signs v d low ∙ ap only_of (one_value l positive_signs v one low).is))

assignment_bits : (l : Language) (positive_signs : List Bool) → length positive_signs ≡ boolean_count l → not_one l positive_signs ≡ None → bits l (modelled_assignment l positive_signs) ≡ positive_signs
assignment_bits l positive_signs long one = same_truths l (bits l (modelled_assignment l positive_signs)) positive_signs (length-map (booleans l) (gives (modelled_assignment l positive_signs))) long (λ v x among.
    let y = one_value l positive_signs v one among.variable in
    let from = among.from in
    let inside = place_in l v x among in
    truth_of l (gives (modelled_assignment l positive_signs)) v x among
    ∙ given_is (modelled_assignment l positive_signs) v x y.value (value_is l positive_signs v None among.variable ∙ ap only_of y.is)
    ∙ sym (one_passes (λ z. get_or positive_signs (boolean_number l (boolean v z) - 1) false) (first_of l v) (size_of l v) y.value x
    (ap (filter (λ z. get_or positive_signs (boolean_number l (boolean v z) - 1) false)) (sym (values-run l v)) ∙ y.is) from (omega (arith, from, inside))))

-- the same, from the assignment
abbrev valued_so : (l : Language) (positive_signs : List Bool) (e : Assignment) (v : ℕ) → bits l e ≡ positive_signs → Valued l e v → v < variable_count l → IsValued l positive_signs v
valued_so l positive_signs e v same y low = record {
  value = y.value;
  is =
      ap (filter (λ x. get_or positive_signs (boolean_number l (boolean v x) - 1) false)) (values-run l v)
      ∙ passes_one (λ x. get_or positive_signs (boolean_number l (boolean v x) - 1) false) (first_of l v) (size_of l v) y.value (λ x from high.
      ap (λ t. get_or t (boolean_number l (boolean v x) - 1) false) (sym same)
      ∙ truth_of l (gives e) v x (value_at l v x low from high)
      ∙ given_is e v x y.value y.is) y.among.from (let from = y.among.from in let inside = place_in l v y.value y.among in omega (arith, from, inside));
}

-- ---- both ways

length-truths : (count : ℕ) (literals : List Literal) → length (truths_of count literals) ≡ count
length-truths count literals = length-map-range_with_len (is_named literals true) 1 count

model_from : (l : Language) (network : List Candidate) (bytes : List ℕ) (e : Assignment) → IsReadSo l network bytes e → IsModel l network bytes e
model_from l network bytes e r = subst (IsModel l network bytes) r.is (record {
  short = r.short;
  literals = λ k d low. not-false (is_some (literal_in (boolean_count l) (get_or (tokens bytes) k d))) (position_fails (λ token. is_none (literal_in (boolean_count l) token)) (tokens bytes) k d r.bad low);
  once = λ number some known yes no. both_ways (is_named literals true number && is_named literals false number)
      (find_fails (λ k. is_named literals true k && is_named literals false k) 1 (boolean_count l) number r.both (omega arith) (omega arith))
      (and_from (is_named literals true number) (is_named literals false number) yes no);
  question = assignment_fits l positive_signs;
  complete = assignment_complete l positive_signs r.one;
  accepted = list_all-from_AllPass (λ c. not (violates l c (modelled_assignment l positive_signs))) network (λ k d low. not_from_false _ (position_fails (λ c. violates l c (modelled_assignment l positive_signs)) network k d r.kept low));
  given = assignment_bits l positive_signs (length-truths (boolean_count l) literals) r.one;
})
  where
    literals : List Literal
    literals = literals_of l bytes

    positive_signs : List Bool
    positive_signs = truths_of (boolean_count l) literals

from_model : (l : Language) (network : List Candidate) (bytes : List ℕ) (e : Assignment) → IsModel l network bytes e → IsReadSo l network bytes e
from_model l network bytes e m = record {
  short = m.short;
  bad = no_position (λ token. is_none (literal_in (boolean_count l) token)) (tokens bytes) (λ k d low. not_from_true _ (m.literals k d low));
  both = find_nowhere (λ number. is_named literals true number && is_named literals false number) 1 (boolean_count l) (λ j low.
      false_from_ne_true _ (λ both. let parts = and_parts (is_named literals true (1 + j)) (is_named literals false (1 + j)) both in m.once (1 + j) (omega arith) (omega arith) parts.0 parts.1));
  one = find_nowhere (λ v. not (nat_eq (length (true_values l positive_signs v)) 1)) 0 (variable_count l) (λ v low.
      ap (λ w. not (nat_eq (length (true_values l positive_signs w)) 1)) (let e : 0 + v ≡ v = omega arith in e) ∙ ap (λ xs. not (nat_eq (length xs) 1)) (at v low).is);
  kept = no_position (λ c. violates l c (modelled_assignment l positive_signs)) network (λ k d low.
      ap (violates l (get_or network k d)) is ∙ not-true _ (AllPass-from_list_all (λ c. not (violates l c e)) network m.accepted k d low));
  is = is;
}
  where
    literals : List Literal
    literals = literals_of l bytes

    positive_signs : List Bool
    positive_signs = truths_of (boolean_count l) literals

    value : (v : ℕ) → v < variable_count l → Valued l e v
    value v low = valued l e v m.question m.complete low

    at : (v : ℕ) → v < variable_count l → IsValued l positive_signs v
    at v low = valued_so l positive_signs e v m.given (value v low) low

    is : modelled_assignment l positive_signs ≡ e
    is = sym (fill_by_all (λ v. only_of (true_values l positive_signs v)) e (variable_count l) None m.question.size (λ v low. (value v low).is ∙ sym (ap only_of (at v low).is)))

pub reads_models : ReadsModels
reads_models l network bytes e = ((λ m. so_read l network bytes e (from_model l network bytes e m)), (λ h. model_from l network bytes e (read_so l network bytes e h)))

pub read_is_not_refused : ReadModelIsNotRefused
read_is_not_refused l network bytes e fault m refused = let h : Err fault ≡ Ok e = sym refused ∙ so_read l network bytes e (from_model l network bytes e m) in clash h
  where
    clash : Err fault ≡ Ok e → ⊥
    clash h = cc

-- ---- as the code goes

unless_so : {A B : Type 0} (fault : B → ModelFault) (o : Option B) (next : Result A ModelFault) (said : ModelFault) → option_map fault o ≡ Some said → refused_where fault o next ≡ Err said
unless_so fault None next said h = absurd (none-some said h)
unless_so fault (Some at) next said h = ap (λ (f : ModelFault). Err f) (same_Some (fault at) said h)

short_model : (l : Language) (network : List Candidate) (bytes : List ℕ) → length bytes ≤ MOST_MODEL →
    model_of l network bytes ≡ refused_where BadToken (bad_token (boolean_count l) (tokens bytes)) (solution_of l network (literals_of l bytes))
unfolding model_of
short_model l network bytes short =
    ap (λ b. cond b (Err TooLong) (refused_where BadToken (bad_token (boolean_count l) (tokens bytes)) (solution_of l network (literals_of l bytes)))) (le-ltb MOST_MODEL (length bytes) short)

pub long_model : (l : Language) (network : List Candidate) (bytes : List ℕ) → MOST_MODEL < length bytes → model_of l network bytes ≡ Err TooLong
unfolding model_of
long_model l network bytes long =
    ap (λ b. cond b (Err TooLong) (refused_where BadToken (bad_token (boolean_count l) (tokens bytes)) (solution_of l network (literals_of l bytes)))) (lt-ltb MOST_MODEL (length bytes) long)

pub bad_model : (l : Language) (network : List Candidate) (bytes : List ℕ) (fault : ModelFault) → length bytes ≤ MOST_MODEL → option_map BadToken (bad_token (boolean_count l) (tokens bytes)) ≡ Some fault → model_of l network bytes ≡ Err fault
bad_model l network bytes fault short bad = short_model l network bytes short ∙ unless_so BadToken (bad_token (boolean_count l) (tokens bytes)) (solution_of l network (literals_of l bytes)) fault bad

positives : (literals : List Literal) (numbers : List ℕ) → positive_signs (map (signs_of literals) numbers) ≡ map (is_named literals true) numbers
positives literals [] = refl
positives literals (number ∷ numbers) = ap (λ more. is_named literals true number ∷ more) (positives literals numbers)

module _ (l : Language) (network : List Candidate) (bytes : List ℕ) (signs : List Signs) (short : length bytes ≤ MOST_MODEL) (n : AreNamed (boolean_count l) (tokens bytes) signs) where
  pub named_long : length signs ≡ boolean_count l
  named_long = ap length n.marked ∙ length-map-range_with_len (signs_of (literals_of l bytes)) 1 (boolean_count l)

  pub named_marked : IsMarked (literals_of l bytes) signs
  named_marked = n.marked ∙ ap (marks (literals_of l bytes)) (sym named_long)

  truths_are : positive_signs signs ≡ truths_of (boolean_count l) (literals_of l bytes)
  truths_are = ap positive_signs n.marked ∙ positives (literals_of l bytes) (range_with_len 1 (boolean_count l))

  begins : model_of l network bytes ≡ solution_of l network (literals_of l bytes)
  begins = short_model l network bytes short ∙ ap (λ o. refused_where BadToken o (solution_of l network (literals_of l bytes))) n.read

  pub twice_model : (number : ℕ) → both_named (length signs) (literals_of l bytes) ≡ Some number → model_of l network bytes ≡ Err (Twice number)
  twice_model number both =
      begins ∙ ap (λ o. refused_where Twice o (solution_in l network (truths_of (boolean_count l) (literals_of l bytes)))) (ap (λ k. both_named k (literals_of l bytes)) (sym named_long) ∙ both)

  once : both_named (length signs) (literals_of l bytes) ≡ None → model_of l network bytes ≡ solution_in l network (positive_signs signs)
  once none =
      begins
      ∙ ap (λ o. refused_where Twice o (solution_in l network (truths_of (boolean_count l) (literals_of l bytes)))) (ap (λ k. both_named k (literals_of l bytes)) (sym named_long) ∙ none)
      ∙ ap (solution_in l network) (sym truths_are)

  pub not_one_model : both_named (length signs) (literals_of l bytes) ≡ None → (fault : ModelFault) → option_map NotOne (not_one l (positive_signs signs)) ≡ Some fault → model_of l network bytes ≡ Err fault
  not_one_model none fault missing = once none ∙ unless_so NotOne (not_one l (positive_signs signs)) _ fault missing

  ones : (e : Assignment) → both_named (length signs) (literals_of l bytes) ≡ None → AreOnes l (positive_signs signs) e → model_of l network bytes ≡ refused_where Violates (violated l network e) (Ok e)
  ones e none o =
      once none
      ∙ ap (λ v. refused_where NotOne v (refused_where Violates (violated l network (modelled_assignment l (positive_signs signs))) (Ok (modelled_assignment l (positive_signs signs))))) o.one
      ∙ ap (λ a. refused_where Violates (violated l network a) (Ok a)) (sym o.is)

  pub violating_model : (e : Assignment) (i : ℕ) → both_named (length signs) (literals_of l bytes) ≡ None → AreOnes l (positive_signs signs) e → violated l network e ≡ Some i → model_of l network bytes ≡ Err (Violates i)
  violating_model e i none o at = ones e none o ∙ ap (λ v. refused_where Violates v (Ok e)) at

  pub read_model : (e : Assignment) → both_named (length signs) (literals_of l bytes) ≡ None → AreOnes l (positive_signs signs) e → violated l network e ≡ None → model_of l network bytes ≡ Ok e
  read_model e none o kept = ones e none o ∙ ap (λ v. refused_where Violates v (Ok e)) kept
