-- The network that the fields stand for.
use Rattle.std.specs.Prelude.{◌<◌, ◌≤◌, map, nat_eq, All, vec_capacity}
use Rattle.std.specs.List.{IsDistinct}
use Rattle.language.specs.declared.candidates.Candidate.{Candidate}
use Rattle.network.specs.Learned.{Learned}
use Rattle.network.specs.declared.network.Network.TheInside.{Inside}

abbrev pub seen : Inside → Learned
seen a = record { scopes = a.scopes; list = a.list.items }

-- one candidate a scope at most, and room for one on each of a language's scopes
pub record FitsScopes (a : Inside) : Type 0 where
  pub few : a.scopes ≤ 8192
  pub apart : IsDistinct nat_eq (map (λ (c : Candidate). c.scope) a.list.items)
  pub known : All (λ (c : Candidate). c.scope < a.scopes) a.list.items
  pub room : a.scopes ≤ vec_capacity a.list
