-- Of a frame, of relations and of scopes that nothing refuses a language is built.
use Rattle.voc_read.proofs.Prelude.{◌≡◌, ℕ, ◌^◌, ◌<◌, ◌≤◌, true, false, List, [], ◌∷◌, length, map, get_or, Option, refl, sym, ◌∙◌, subst, arith, All, AllPairs, ◌==◌, eqb-true, length-map, get_or-map, Any-from_list_any, All-map, All-weaker, Relation, meet, IsClosing, Language, Given, of_arity, given_on, given_within, relations_on, scope_at, IsLanguage, IsScope, AreNames, widened, inside, ValueRange, Frame, IsFrame, IsBuilt, has_arity, has_too_many, relations_given, relations_of_arity, over-meet, widened-over}
use Rattle.language.specs.Language.{AreApart}
use Rattle.language.specs.Building.{scopes_of}
use Rattle.language.specs.Built.{given_at}
use Rattle.language.proofs.Sizes.{of_arity_sized, closed_sized}
use Rattle.language.proofs.Within.{length-widened}
use Rattle.voc_read.proofs.ClosingsMade.{IsClosed, closing_of, few_closed, few_images}
use Rattle.shared_lemmas.proofs.Lists.{some_kept}
use Rattle.language.proofs.Built.{given_relations, some_closed}

-- a relation of d values has a truth value for each tuple, and not too many of them
pub record IsRight (d : ℕ) (g : Given) : Type 0 where
  pub sized : length g.relation ≡ d ^ g.arity
  pub fits : d ^ g.arity ≤ 65536

-- What a language asks of its parts.
pub record IsBuildable (frame : Frame) (given : List Given) (lists : List (List ℕ)) : Type 0 where
  pub is_frame : IsFrame frame
  pub names : AreNames (map (λ (g : Given). g.name) given)
  pub right : All (IsRight frame.value_count) given
  pub few_scopes : length lists ≤ 8192
  pub scopes : All (IsScope (length frame.names)) lists
  pub apart : AllPairs AreApart lists
  pub used : All (λ scope. has_arity given (length scope) ≡ true) lists
  pub few : (arity : ℕ) → 1 ≤ arity → arity ≤ 4 → has_too_many given arity ≡ false

module _ (frame : Frame) (given : List Given) (scopes : List (List ℕ)) (able : IsBuildable frame given scopes) where
  abbrev d : ℕ
  d = frame.value_count

  given_sized : All (λ (g : Given). length g.relation ≡ d ^ g.arity) given
  given_sized = All-weaker (IsRight d) (λ (g : Given). length g.relation ≡ d ^ g.arity) (λ g right. right.sized) given able.right

  -- those of an arity
  file_long : (arity : ℕ) → All (λ (r : Relation). length r ≡ d ^ arity) (relations_of_arity given arity)
  file_long arity = All-map (λ (r : Relation). length r ≡ d ^ arity) (λ (g : Given). g.relation) (of_arity arity given) (of_arity_sized d arity given given_sized)

  -- those on a scope
  at_long : (scope : List ℕ) → All (λ (r : Relation). length r ≡ d ^ length scope) (given_at frame.ranges d given scope)
  at_long scope =
      All-map (λ (r : Relation). length r ≡ d ^ length scope) (widened frame.ranges d scope) (relations_of_arity given (length scope))
      (All-weaker (λ (r : Relation). length r ≡ d ^ length scope) (λ (r : Relation). length (widened frame.ranges d scope r) ≡ d ^ length scope)
      (λ r long. length-widened frame.ranges d scope r long) (relations_of_arity given (length scope)) (file_long (length scope)))

  closed_on : (scope : List ℕ) → (closed : List Relation) × IsClosed (d ^ length scope) (given_at frame.ranges d given scope) closed
  closed_on scope = closing_of (d ^ length scope) (given_at frame.ranges d given scope) (at_long scope)

  keeps : (scope : List ℕ) (r q : Relation) → widened frame.ranges d scope (meet r q) ≡ meet (widened frame.ranges d scope r) (widened frame.ranges d scope q)
  keeps scope r q =
      widened-over frame.ranges d scope (meet r q) ∙ over-meet (inside frame.ranges d scope) r q
      ∙ (λ i. meet (sym (widened-over frame.ranges d scope r) i) (sym (widened-over frame.ranges d scope q) i))

  few_on : (scope : List ℕ) → 1 ≤ length scope → length scope ≤ 4 → length (closed_on scope).0 ≤ 64
  few_on scope some short =
      let file : List Relation = relations_of_arity given (length scope) in
      let closed = closing_of (d ^ length scope) file (file_long (length scope)) in
      few_images (widened frame.ranges d scope) (keeps scope) file closed.0 (closed_on scope).0 closed.1.closing
      (few_closed (d ^ length scope) file closed.0 closed.1 (able.few (length scope) some short)) (closed_on scope).1.closing

  abbrev relations_for : List ℕ → List Relation
  relations_for scope = (closed_on scope).0

  abbrev l : Language
  l = record {
    names = frame.names;
    least_value = frame.least_value;
    value_count = frame.value_count;
    ranges = frame.ranges;
    given = given;
    scopes = scopes;
    relations = map relations_for scopes;
  }

  relations_are : (s : ℕ) → s < length scopes → relations_on l s ≡ relations_for (scope_at l s)
  relations_are s low = get_or-map relations_for scopes s [] [] low

  closed : (s : ℕ) → s < length scopes → IsClosing (map (λ (g : Given). g.relation) (given_on l s)) (relations_on l s)
  closed s low =
      subst (λ rs. IsClosing rs (relations_on l s)) (given_relations frame.ranges d (scope_at l s) (of_arity (length (scope_at l s)) given))
      (subst (IsClosing (given_at frame.ranges d given (scope_at l s))) (sym (relations_are s low)) (closed_on (scope_at l s)).1.closing)

  -- some relation has this arity, so there aren't too many tuples
  small : (arity : ℕ) → has_arity given arity ≡ true → d ^ arity ≤ 65536
  small arity has =
      let found = Any-from_list_any (λ (g : Given). g.arity == arity) given has in
      let fits : d ^ (found.1).arity ≤ 65536 = subst (λ (g : Given). d ^ g.arity ≤ 65536) found.3 (able.right found.0 found.1 found.2).fits in
      subst (λ n. d ^ n ≤ 65536) (eqb-true (found.1).arity arity found.4) fits

  lawful : IsLanguage l
  lawful = record {
    some_variable = able.is_frame.some_variable;
    few_variables = able.is_frame.few_variables;
    names = able.is_frame.names;
    some_value = able.is_frame.some_value;
    few_values = able.is_frame.few_values;
    low = able.is_frame.low;
    high = able.is_frame.high;
    ranged = able.is_frame.ranged;
    ranges = able.is_frame.ranges;
    relation_names = able.names;
    given_sized = given_sized;
    few_scopes = able.few_scopes;
    scopes = able.scopes;
    apart = able.apart;
    closed = closed;
    sized = λ s low. closed_sized frame.ranges d (scope_at l s) given (relations_on l s) given_sized (closed s low);
    few_relations = λ s low.
        subst (λ (rs : List Relation). length rs ≤ 64) (sym (relations_are s low))
        (let scope = able.scopes s [] low in few_on (scope_at l s) scope.not_empty scope.short);
    small = λ k scope low. small (length (get_or scopes k scope)) (able.used k scope low);
    used = λ s low.
        some_closed (map (λ (g : Given). g.relation) (given_on l s)) (relations_on l s)
        (let some = some_kept (λ (g : Given). g.arity == length (scope_at l s)) given (able.used s [] low) in
        omega (arith, some, length-map (given_on l s) (λ (g : Given). g.relation), length-map (of_arity (length (scope_at l s)) given) (given_within frame.ranges d (scope_at l s)))) (closed s low);
  }

pub built : (frame : Frame) (given : List Given) (listed : Option (List (List ℕ))) → IsBuildable frame given (scopes_of (length frame.names) given listed) → (l : Language) × IsBuilt frame given listed l
built frame given listed able =
    let scopes : List (List ℕ) = scopes_of (length frame.names) given listed in (
      l frame given scopes able,
      record {
        names = refl;
        least_value = refl;
        value_count = refl;
        ranges = refl;
        given = refl;
        scopes = refl;
        each = length-map scopes (relations_for frame given scopes able);
        lawful = lawful frame given scopes able;
      },
    )
