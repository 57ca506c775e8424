-- What an example violates, listed once for all sets that are taken.
use Rattle.std.specs.Prelude.{ℕ, ◌≡◌, ◌≤◌, Bool, true, false, List, [], ◌∷◌, length, take, filter}
use Rattle.std.specs.Prelude.{find, map, Option}
use Rattle.std.specs.List.{list_any}
use Rattle.std.specs.Option.{option_map}
use Rattle.assign.specs.Sets.{is_within}
use Rattle.assign.specs.Assignment.{Assignment}
use Rattle.language.specs.declared.candidates.Candidate.{Candidate}
use Rattle.language.specs.Language.{Language, scope_of, violates}
use Rattle.bias_store.specs.KeptSet.{is_struck_within}
use Rattle.multi_tree.specs.declared.listing.Listed.{Listed}
use Rattle.multi_tree.specs.declared.listing.Listing.{Listing}
use Rattle.multi_tree.specs.declared.listing.Violated.{Violated}

-- an item beside the variables of its scope
abbrev pub beside_scope : Language → Candidate → Violated
beside_scope l c = record { item = c; variables = scope_of l c }

-- the first of some items whose scope lies within a set
abbrev pub item_within : List Violated → List ℕ → Option Candidate
item_within items set = option_map (λ v. v.item) (find (λ v. is_within v.variables set) items)

-- in the first places are those that e violates among the items that were looked at
pub record AreListed (l : Language) (network : List Candidate) (e : Assignment)
    (places : List Violated) (listed : Listed) : Type 0 where
  pub is : take listed.count places
      ≡ map (beside_scope l) (filter (λ c. violates l c e) (take listed.looked_at network))
  pub few : listed.count ≤ length places
  pub within : listed.looked_at ≤ length network

-- what a listing holds is right for these items and this example
abbrev pub IsListing : Language → List Candidate → Assignment → Listing → Type 0
IsListing l network e listing = AreListed l network e listing.places.items listing.listed

-- the sets are scopes of kept candidates that e violates, and all such ones where that is said
pub record AreStruck (l : Language) (kept : List Candidate) (e : Assignment) (sets : List (List ℕ))
    (are_all : Bool) : Type 0 where
  pub some : (w : List ℕ) → list_any (λ set. is_within set w) sets ≡ true →
      is_struck_within l kept e w ≡ true
  pub all : are_all ≡ true → (w : List ℕ) → is_struck_within l kept e w ≡ true →
      list_any (λ set. is_within set w) sets ≡ true

-- where so many sets or more wait below one that waits, none of the others lies within it
abbrev pub AreBarren : List (List ℕ) → ℕ → List (List ℕ) → Type 0
AreBarren sets barren [] = Unit {0}
AreBarren sets barren (set ∷ below) = (barren ≤ length below →
    list_any (λ u. is_within u set) sets ≡ false) × AreBarren sets barren below
