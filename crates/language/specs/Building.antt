-- Which languages can be built, and of what.
use Rattle.std.specs.Prelude.{ℕ, ℤ, pos, All, not, ◌||◌, ◌++◌, ◌<◌, ◌^◌, ◌*◌, ◌%◌, position}
use Rattle.std.specs.Prelude.{option_map, find, negsuc, ◌+◌, ◌≡◌, Bool, true, false, ◌&&◌, List, []}
use Rattle.std.specs.Prelude.{◌∷◌, length, map, filter, Option, Some, None, if◌then◌else◌, ◌==◌}
use Rattle.std.specs.Prelude.{nat_lt, nat_le, int_le, ◌≤◌, ◌≤ℤ◌, ◌+ℤ◌, ◌-ℤ◌, unsigned_abs}
use Rattle.std.specs.List.{list_any, flat_map, position_or_len}
use Rattle.assign.specs.Sets.{is_within, is_same}
use Rattle.std.specs.Option.{option_or}
use Rattle.std.specs.Bool.{beq}
use Rattle.rel_table.specs.Relation.{Relation, tuples, meet}
use Rattle.rel_table.specs.declared.table.CloseFault.TheVariants.{TooMany}
use Rattle.language.specs.Language.{Language, Given, IsLanguage, AreNames}
use Rattle.language.specs.Ranges.{IsRange}
use Rattle.language.specs.declared.ranges.ValueRange.{ValueRange}
use Rattle.language.specs.declared.parts.LangFault.{LangFault}
use Rattle.language.specs.declared.parts.RelPart.{RelPart}
use Rattle.language.specs.declared.parts.LangFault.TheVariants.{NoVariables, TooManyVariables}
use Rattle.language.specs.declared.parts.LangFault.TheVariants.{BadDomain, NoRelations, ScopeOrder}
use Rattle.language.specs.declared.parts.LangFault.TheVariants.{TooManyScopes, ScopeRepeated}
use Rattle.language.specs.declared.parts.LangFault.TheVariants.{Nested, NoRelationOfArity, Closing}
use Rattle.language.specs.declared.parts.ScopePart.{ScopePart}
use Rattle.language.specs.declared.parts.ScopePart.TheVariants as part

-- the variables' names and the values, and which of these each variable may have
pub record Frame : Type 0 where
  pub names : List (List ℕ)
  pub least_value : ℤ
  pub value_count : ℕ
  pub ranges : List ValueRange

-- 1 to 128 variables, each with a name, and 1 to 64 values within a million
pub record IsFrame (f : Frame) : Type 0 where
  pub some_variable : 1 ≤ length f.names
  pub few_variables : length f.names ≤ 128
  pub names : AreNames f.names
  pub some_value : 1 ≤ f.value_count
  pub few_values : f.value_count ≤ 64
  pub low : negsuc 999999 ≤ℤ f.least_value
  pub high : (f.least_value +ℤ pos f.value_count) ≤ℤ pos 1000001
  pub ranged : length f.ranges ≡ length f.names
  pub ranges : All (IsRange f.value_count) f.ranges

-- the range from one shown value to another, where the least value is shown as this
abbrev pub range_between : ℤ → ℤ → ℤ → ValueRange
range_between least first last =
    record { first = unsigned_abs (first -ℤ least); last = unsigned_abs (last -ℤ least) }

-- the lowest value, the highest value: 1 to 64 values, each within a million
abbrev pub is_domain : ℤ → ℤ → Bool
is_domain lo hi = int_le lo hi && int_le (negsuc 999999) lo && int_le hi (pos 1000000) && int_le
    (hi -ℤ lo) (pos 63)

-- how many values there are from the lowest to the highest
abbrev pub values_between : ℤ → ℤ → ℕ
values_between lo hi = unsigned_abs (hi -ℤ lo) + 1

-- why there is no frame of these names and these bounds
abbrev pub frame_refusal : List (List ℕ) → ℤ → ℤ → Option LangFault
frame_refusal [] lo hi = Some NoVariables
frame_refusal (name ∷ names) lo hi =
    if nat_lt 128 (length (name ∷ names)) then Some TooManyVariables
    else (if is_domain lo hi then None else Some BadDomain)

-- whether each number is above the one before it
abbrev pub is_rising : List ℕ → Bool
is_rising [] = true
is_rising (v ∷ []) = true
is_rising (v ∷ w ∷ more) = nat_lt v w && is_rising (w ∷ more)

-- all strictly rising lists of so many of n variables, in lexicographic order
abbrev pub rising_lists : ℕ → ℕ → List (List ℕ)
rising_lists n size = filter is_rising (tuples n size)

-- for each arity that some relation has, rising, all such lists of that length
abbrev pub all_scopes : ℕ → List Given → List (List ℕ)
all_scopes n given = flat_map (λ arity. if list_any (λ (g : Given). g.arity == arity) given
    then rising_lists n arity else []) (1 ∷ 2 ∷ 3 ∷ 4 ∷ [])

-- whether two relations are the same
abbrev pub is_same_relation : Relation → Relation → Bool
is_same_relation [] [] = true
is_same_relation [] (y ∷ q) = false
is_same_relation (x ∷ r) [] = false
is_same_relation (x ∷ r) (y ∷ q) = beq x y && is_same_relation r q

-- whether a relation is listed
abbrev pub is_listed : List Relation → Relation → Bool
is_listed relations r = list_any (is_same_relation r) relations

-- each relation once
abbrev pub without_repeats : List Relation → List Relation
without_repeats [] = []
without_repeats (r ∷ relations) =
    if is_listed relations r then without_repeats relations else r ∷ without_repeats relations

-- the intersections of one or more of these, one for each sublist
abbrev pub intersections : List Relation → List Relation
intersections [] = []
intersections (r ∷ relations) =
    r ∷ (map (meet r) (intersections relations) ++ intersections relations)

-- the relations of the vocabulary
abbrev pub relations_given : List Given → List Relation
relations_given given = map (λ (g : Given). g.relation) given

-- those of an arity
abbrev pub relations_of_arity : List Given → ℕ → List Relation
relations_of_arity given arity = relations_given (filter (λ (g : Given). g.arity == arity) given)

-- whether those of an arity have more than 64 intersections
abbrev pub has_too_many : List Given → ℕ → Bool
has_too_many given arity =
    nat_lt 64 (length (without_repeats (intersections (relations_of_arity given arity))))

-- why the relations aren't closed: the least arity with too many intersections
abbrev pub closing_refusal : List Given → Option LangFault
closing_refusal given =
    option_map (λ arity. Closing (TooMany arity)) (find (has_too_many given) (1 ∷ 2 ∷ 3 ∷ 4 ∷ []))

-- ---- Scopes

-- the scopes that are listed, where they are
abbrev pub listed_in : ScopePart → Option (List (List ℕ))
listed_in part.All = None
listed_in (part.Listed scopes) = Some (map (λ scope. scope.items) scopes.items)

-- whether some relation has this arity
abbrev pub has_arity : List Given → ℕ → Bool
has_arity given arity = list_any (λ (g : Given). g.arity == arity) given

-- the listed scopes, and all where none are listed
abbrev pub scopes_of : ℕ → List Given → Option (List (List ℕ)) → List (List ℕ)
scopes_of n given None = all_scopes n given
scopes_of n given (Some scopes) = scopes

-- whether a scope has 1 to 4 variables, strictly rising
abbrev pub is_ordered : List ℕ → Bool
is_ordered scope = nat_le 1 (length scope) && nat_le (length scope) 4 && is_rising scope

-- whether one of two scopes lies within the other
abbrev pub are_nested : List ℕ → List ℕ → Bool
are_nested scope other = is_within scope other || is_within other scope

-- the first of these scopes that is related to one before it: the number of the first such one, and
-- its own, which counts those before
unfoldable pub pair_after : (List ℕ → List ℕ → Bool) → List (List ℕ) → List (List ℕ) →
    Option (ℕ × ℕ)
pair_after related before [] = None
pair_after related before (scope ∷ scopes) =
    if list_any (λ earlier. related earlier scope) before
    then Some (position_or_len (λ earlier. related earlier scope) before, length before)
    else pair_after related (before ++ scope ∷ []) scopes

-- numbers as the digits of one that goes on from k, of which the last 32 bits are taken
unfoldable pub digits : ℕ → List ℕ → ℕ
digits k [] = k
digits k (v ∷ vs) = digits (((k * 128) % 2 ^ 32 + v) % 2 ^ 32) vs

-- the pair of scopes so related with the least second number, and then the least first one
abbrev pub first_pair : (List ℕ → List ℕ → Bool) → List (List ℕ) → Option (ℕ × ℕ)
first_pair related scopes = pair_after related [] scopes

-- why so many scopes are too many, or why two of them can't stand side by side, or why one has no
-- relation
abbrev pub scope_list_refusal : List Given → List (List ℕ) → Option LangFault
scope_list_refusal given scopes =
    if nat_lt 8192 (length scopes) then Some TooManyScopes else
    option_or (option_map (λ pair. ScopeRepeated pair.0 pair.1) (first_pair is_same scopes)) (
    option_or (option_map (λ pair. Nested pair.0 pair.1) (first_pair are_nested scopes)) (
    option_map NoRelationOfArity (position (λ scope. not (has_arity given (length scope))) scopes)))

-- why the scopes are refused: their order comes first
abbrev pub scopes_refusal : List Given → List (List ℕ) → Option LangFault
scopes_refusal given scopes =
    option_or (option_map ScopeOrder (position (λ scope. not (is_ordered scope)) scopes))
    (scope_list_refusal given scopes)

-- ---- The language

-- a relation over d values
abbrev pub IsOver : ℕ → RelPart → Type 0
IsOver d part = part.table.value_count ≡ d

-- numbers of variables below n
abbrev pub AreKnown : ℕ → Option (List (List ℕ)) → Type 0
AreKnown n None = Unit {0}
AreKnown n (Some scopes) = All (All (λ v. v < n)) scopes

-- fewer than 2^32 scopes are listed
abbrev pub AreCountable : Option (List (List ℕ)) → Type 0
AreCountable None = Unit {0}
AreCountable (Some scopes) = length scopes < 2 ^ 32

-- why there is no language of n variables, these relations and these scopes
abbrev pub build_refusal : ℕ → List Given → Option (List (List ℕ)) → Option LangFault
build_refusal n [] listed = Some NoRelations
build_refusal n (g ∷ given) listed = option_or
    (scopes_refusal (g ∷ given) (scopes_of n (g ∷ given) listed)) (closing_refusal (g ∷ given))

-- The language of a frame, of relations and of scopes.
pub record IsBuilt (frame : Frame) (parts : List Given) (listed : Option (List (List ℕ)))
    (l : Language) : Type 0 where
  pub names : l.names ≡ frame.names
  pub least_value : l.least_value ≡ frame.least_value
  pub value_count : l.value_count ≡ frame.value_count
  pub ranges : l.ranges ≡ frame.ranges
  pub given : l.given ≡ parts
  pub scopes : l.scopes ≡ scopes_of (length frame.names) parts listed
  pub each : length l.relations ≡ length l.scopes
  pub lawful : IsLanguage l
