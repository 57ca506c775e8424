-- The text that is made for a covered network is read as the certificate that was made, and a check confirms it.
use Rattle.cert_check.proofs.Prelude.{◌≡◌, ℕ, zero, suc, ◌+◌, ◌<◌, ◌≤◌, Bool, true, false, cond, List, [], ◌∷◌, ◌++◌, length, map, Option, Some, None, Result, Ok, Err, refl, sym, subst, arith, All, nat_lt, position, filter, flat_map, range_with_len, ltb-false, length-map, All-nil, All-cons, All-map, numbers, Candidate, Language, candidates, candidates_on, number_of, relations_on, violates, kept, assignment_of, satisfies, count, count_few, count_more, length-candidates_on, numbered, MakeFault, TooLarge, Token, Certificate, certificate_of, first_long, made_within, refutation_of, MOST_CERTIFICATE, IsRead, children, node_of, node_at, tree_from, certificate_text, IsNodeOver, MadeIsConfirmed}
use Rattle.cert_check.proofs.Listing.{is_kept}
use Rattle.cert_check.proofs.Made.{all_kept, made_is_good}
use Rattle.cert_check.proofs.Scopes.{few_items}
use Rattle.cert_check.proofs.Verdicts.{yes_is_good}
use Rattle.cert_check.proofs.WrittenBack.{Rise, certificate_back, number}
use Rattle.shared_lemmas.proofs.Read.{at_first}
use Rattle.shared_lemmas.proofs.Lists.{all_flat_map, fewer_kept}

-- ---- The numbers of the listed candidates rise

-- candidates with the numbers from k on
abbrev AreFrom : Language → ℕ → List Candidate → Type 0
AreFrom l k [] = Unit {0}
AreFrom l k (c ∷ cs) = (number_of l c ≡ k) × AreFrom l (k + 1) cs

from_as : (l : Language) (k n : ℕ) (cs : List Candidate) → k ≡ n → AreFrom l k cs → AreFrom l n cs
from_as l k n cs same = subst (λ m. AreFrom l m cs) same

abbrev candidate_of : ℕ → ℕ → Candidate
candidate_of scope rel = record { scope = scope; rel = rel }

on_scope : (l : Language) (s a n : ℕ) → AreFrom l (count l s + a) (map (candidate_of s) (range_with_len a n))
on_scope l s a zero = tt
on_scope l s a (suc n) = (refl, from_as l (count l s + (a + 1)) ((count l s + a) + 1) (map (candidate_of s) (range_with_len (a + 1) n)) (omega arith) (on_scope l s (a + 1) n))

from_both : (l : Language) (k : ℕ) (cs ds : List Candidate) → AreFrom l k cs → AreFrom l (k + length cs) ds → AreFrom l k (cs ++ ds)
from_both l k [] ds front rest = from_as l (k + 0) k ds (omega arith) rest
from_both l k (c ∷ cs) ds front rest = (front.0, from_both l (k + 1) cs ds front.1 (from_as l (k + suc (length cs)) ((k + 1) + length cs) ds (omega arith) rest))

on_scopes : (l : Language) (s n : ℕ) → AreFrom l (count l s) (flat_map (candidates_on l) (range_with_len s n))
on_scopes l s zero = tt
on_scopes l s (suc n) =
    let here = length-candidates_on l s in
    let more = count_more l s in
    from_both l (count l s) (candidates_on l s) (flat_map (candidates_on l) (range_with_len (s + 1) n))
    (from_as l (count l s + 0) (count l s) (candidates_on l s) (omega arith) (on_scope l s 0 (length (relations_on l s))))
    (from_as l (count l (s + 1)) (count l s + length (candidates_on l s)) (flat_map (candidates_on l) (range_with_len (s + 1) n)) (omega (arith, here, more)) (on_scopes l (s + 1) n))

rise_sooner : (least : ℕ) (numbers : List ℕ) → Rise (least + 1) numbers → Rise least numbers
rise_sooner least [] h = tt
rise_sooner least (n ∷ numbers) h = ((let low = h.0 in omega (arith, low)), h.1)

kept_rise : (l : Language) (network : List Candidate) (p : Candidate → Bool) (k : ℕ) (cs : List Candidate) → AreFrom l k cs → Rise k (map number (map (refutation_of l network) (filter p cs)))
kept_rise l network p k [] h = tt
kept_rise l network p k (c ∷ cs) h = go (p c) (kept_rise l network p (k + 1) cs h.1)
  where
    go : (b : Bool) → Rise (k + 1) (map number (map (refutation_of l network) (filter p cs))) → Rise k (map number (map (refutation_of l network) (cond b (c ∷ filter p cs) (filter p cs))))
    go true rest = ((let same = h.0 in omega (arith, same)), subst (λ m. Rise (m + 1) (map number (map (refutation_of l network) (filter p cs)))) (sym h.0) rest)
    go false rest = rise_sooner k (map number (map (refutation_of l network) (filter p cs))) rest

-- ---- The trees name items of the network

module _ (l : Language) (network : List Candidate) (c : Candidate) where
  node_known : (prefix : List ℕ) → IsNodeOver (length network) (node_at l network c prefix)
  node_known prefix = go (position (λ d. violates l d (assignment_of l c prefix)) network) refl (satisfies l c (assignment_of l c prefix))
    where
      go : (o : Option ℕ) → position (λ d. violates l d (assignment_of l c prefix)) network ≡ o → (b : Bool) → IsNodeOver (length network) (node_of o b)
      go (Some i) found b = (at_first (λ d. violates l d (assignment_of l c prefix)) network i found).1
      go None none true = tt
      go None none false = tt

  nodes_known : (k : ℕ) (prefix : List ℕ) → All (IsNodeOver (length network)) (tree_from l network c k prefix)
  unfolding tree_from
  nodes_known zero prefix = All-cons (IsNodeOver (length network)) (node_at l network c prefix) [] (node_known prefix) (All-nil (IsNodeOver (length network)))
  nodes_known (suc k) prefix =
      let here : Token = node_at l network c prefix in
      All-cons (IsNodeOver (length network)) here (flat_map (tree_from l network c k) (children l c prefix here)) (node_known prefix)
      (all_flat_map (IsNodeOver (length network)) (tree_from l network c k) (children l c prefix here) (λ j d low. nodes_known k _))

-- ---- What was made

-- a text that was made is the certificate's, and isn't too long
made_so : (o : Option ℕ) (whole text : List ℕ) → made_within o whole ≡ Ok text → (whole ≡ text) × (length whole ≤ MOST_CERTIFICATE)
made_so (Some number) whole text h = absurd (let no : ⊥ = cc in no)
made_so None whole text h = go (nat_lt MOST_CERTIFICATE (length whole)) refl h
  where
    go : (b : Bool) → nat_lt MOST_CERTIFICATE (length whole) ≡ b → ◌≡◌ {A = Result (List ℕ) MakeFault} (cond b (Err TooLarge) (Ok whole)) (Ok text) → (whole ≡ text) × (length whole ≤ MOST_CERTIFICATE)
    go true e h = absurd (let no : ⊥ = cc in no)
    go false e h = ((let same : whole ≡ text = cc in same), ltb-false MOST_CERTIFICATE (length whole) e)

pub made_is_confirmed : MadeIsConfirmed
made_is_confirmed voc l network t budget text lawful described legal covered asked valued few h =
    let cert : Certificate = certificate_of l network t in
    let listed : List Candidate = kept l t network in
    let so = made_so (first_long l network t budget) (certificate_text voc cert) text h in
    let most = count_few l (length l.scopes) lawful.few_relations in
    let few_scopes = lawful.few_scopes in
    let fewer = fewer_kept (is_kept l t network) (candidates l) in
    let as_many = length-map listed (refutation_of l network) in
    record {
      read = subst (λ (bytes : List ℕ). IsRead bytes cert) so.0 (certificate_back voc cert (record {
        lawful = lawful;
        described = described;
        network = legal;
        asked = asked;
        valued = valued;
        few_answers = few;
        few_items = few_items l network lawful legal covered.one_a_scope;
        few_refutations = omega (arith, most, few_scopes, fewer, as_many);
        rising = kept_rise l network (is_kept l t network) 0 (candidates l) (on_scopes l 0 (length l.scopes));
        known = All-map (λ r. r.candidate < length (candidates l)) (refutation_of l network) listed (all_kept l t network (λ c. number_of l c < length (candidates l)) (λ c is h. (numbered l).below c is));
        nodes = All-map (λ r. All (IsNodeOver (length network)) r.tokens) (refutation_of l network) listed (λ k d low. nodes_known l network _ _ []);
        short = so.1;
      }));
      yes = (yes_is_good l network t cert.refutations).1 (made_is_good l network t lawful covered);
    }
