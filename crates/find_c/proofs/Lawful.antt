-- What a language's laws say of one scope.
use Rattle.find_c.proofs.Prelude.{ℕ, ◌^◌, ◌<◌, ◌≤◌, [], length, Language, IsLanguage, IsScope, variable_count, scope_at}

module _ (l : Language) (lawful : IsLanguage l) (s : ℕ) (known : s < length l.scopes) where
  pub scope_is : IsScope (variable_count l) (scope_at l s)
  scope_is = lawful.scopes s [] known

  pub few_places : l.value_count ^ length (scope_at l s) ≤ 65536
  few_places = lawful.small s [] known
