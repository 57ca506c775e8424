-- A listing of items that a network has behind others.
use Rattle.multi_tree.proofs.Prelude.{◌≡◌, List, ◌++◌, length, take, map, filter, sym, ◌∙◌, ap, arith, length-append, Assignment, Candidate, Language, violates, IsListing, beside_scope}
use Rattle.std.proofs.lemmas.List.{take-append-le}
use Rattle.multi_tree.specs.declared.listing.Listing.{Listing}

-- it is right for a network that has grown
pub listing_more : (l : Language) (network more new : List Candidate) (e : Assignment) (listing : Listing) → more ≡ network ++ new → IsListing l network e listing → IsListing l more e listing
listing_more l network more new e listing is h =
    let n = listing.listed.looked_at in
    record {
      is = h.is ∙ ap (λ (xs : List Candidate). map (beside_scope l) (filter (λ c. violates l c e) xs)) (sym (ap (take n) is ∙ take-append-le n network new h.within));
      few = h.few;
      within = let long = ap length is ∙ length-append network new in let low = h.within in omega arith;
    }
