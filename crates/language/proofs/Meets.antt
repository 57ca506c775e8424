-- The intersection of two candidates on a scope is a candidate there.
use Rattle.language.proofs.Prelude.{◌≡◌, ℕ, zero, suc, Bool, true, false, ◌||◌, ◌&&◌, not, List, [], ◌∷◌, ◌++◌, refl, sym, ◌∙◌, ap, subst, Contains, slice_index_or, All-append, All-cons, get_or_default, Candidate, covers, tuple_on, Relation, place, meet, meet_all, IsIntersection, meet_assoc, Language, IsLanguage, IsCandidate, relations_on, IsMeetOf, CandidatesAreClosed}
use Rattle.std.proofs.Math.Bool.{and-false}

pub meet_at : (r q : Relation) (k : ℕ) → slice_index_or (meet r q) k false ≡ (slice_index_or r k false && slice_index_or q k false)
meet_at [] q k = refl
meet_at (x ∷ r) [] zero = sym (and-false x)
meet_at (x ∷ r) [] (suc k) = sym (and-false (slice_index_or r k false))
meet_at (x ∷ r) (y ∷ q) zero = refl
meet_at (x ∷ r) (y ∷ q) (suc k) = meet_at r q k

meet_all-meet : (r q : Relation) (more : List Relation) → meet_all (meet r q) more ≡ meet r (meet_all q more)
meet_all-meet r q [] = refl
meet_all-meet r q (s ∷ more) = ap (λ x. meet_all x more) (meet_assoc r q s) ∙ meet_all-meet r (meet q s) more

meet_all-append : (r q : Relation) (more others : List Relation) → meet_all r (more ++ q ∷ others) ≡ meet (meet_all r more) (meet_all q others)
meet_all-append r q [] others = meet_all-meet r q others
meet_all-append r q (s ∷ more) others = meet_all-append (meet r s) q more others

-- two intersections meet in an intersection
pub intersections_meet : (file : List Relation) (r q : Relation) → IsIntersection file r → IsIntersection file q → IsIntersection file (meet r q)
intersections_meet file r q a b = record {
  first = a.first;
  more = a.more ++ b.first ∷ b.more;
  first_given = a.first_given;
  more_given = All-append (Contains file) a.more (b.first ∷ b.more) a.more_given (All-cons (Contains file) b.first b.more b.first_given b.more_given);
  is = (λ i. meet (a.is i) (b.is i)) ∙ sym (meet_all-append a.first b.first a.more b.more);
}

cut : (g a b : Bool) → (g && not (a && b)) ≡ ((g && not a) || (g && not b))
cut true true b = refl
cut true false b = refl
cut false a b = refl

-- two relations of a scope by their numbers
on_one_scope : (l : Language) → IsLanguage l → (s r q : ℕ) →
    IsCandidate l (record { scope = s; rel = r }) → IsCandidate l (record { scope = s; rel = q }) →
    (m : Candidate) × IsMeetOf l (record { scope = s; rel = r }) (record { scope = s; rel = q }) m
on_one_scope l lawful s r q c d =
    let scope : List ℕ = slice_index_or l.scopes s [] in
    let rels : List Relation = relations_on l s in
    let closing = lawful.closed s c.scope in
    let met = closing.every _ (intersections_meet _ _ _ (closing.each r [] c.rel) (closing.each q [] d.rel)) in
    let is : slice_index_or rels met.0 [] ≡ meet (slice_index_or rels r []) (slice_index_or rels q []) =
    get_or_default rels met.0 [] _ met.1 ∙ met.2 in (
      record { scope = s; rel = met.0 },
      record {
        candidate = record { scope = c.scope; rel = met.1 };
        scope = refl;
        is = λ e.
            let p : ℕ = place l.value_count (tuple_on e scope) in
            ap (λ b. covers e scope && not b) (ap (λ x. slice_index_or x p false) is ∙ meet_at (slice_index_or rels r []) (slice_index_or rels q []) p)
            ∙ cut (covers e scope) (slice_index_or (slice_index_or rels r []) p false) (slice_index_or (slice_index_or rels q []) p false);
      },
    )

pub closed_candidates : CandidatesAreClosed
closed_candidates l lawful c d is_c is_d same =
    subst (λ (s : ℕ). IsCandidate l (record { scope = s; rel = d.rel }) → (m : Candidate) × IsMeetOf l c (record { scope = s; rel = d.rel }) m)
    same (on_one_scope l lawful c.scope c.rel d.rel is_c) is_d
