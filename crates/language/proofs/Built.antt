-- A language that is built keeps what each language keeps.
use Rattle.language.proofs.Prelude.{◌≡◌, ℕ, zero, ◌+◌, ◌-◌, ◌^◌, ◌<◌, ◌≤◌, Option, Some, true, List, [], ◌∷◌, length, map, get_or, take, refl, sym, ◌∙◌, ap, subst, arith, All, string_bytes, ◌==◌, list_all, option_or, eqb-true, length-map, get_or-map, length-range_with_len, get_or-map-range_with_len, Any-from_list_any, All-head, All-map, Relation, IsClosing, IsTable, IsOfKind, one_given, RelPart, LangFault, Scope, Inside, Language, Given, of_arity, given_on, given_within, relations_on, scope_at, IsLanguage, AreNames, is_whole_range, widened, ValueRange, Frame, IsFrame, IsOver, IsBuilt, has_arity, relations_of_arity, relations_given, scopes_of, scopes_refusal, closing_refusal, build_refusal, AreScopes, IsClosedOf, AreAll, given_at, variables_in, seen, given_by, ranges_in, scope_in, relations_at, pairs_in, IsSound, ArePairMasks, numbers}
use Rattle.language.proofs.Sizes.{closed_sized}
use Rattle.language.proofs.Members.{any-map}
use Rattle.shared_lemmas.proofs.Lists.{some_kept}

-- how many values the first relation is over
abbrev pub values_of : List RelPart → ℕ
values_of [] = 0
values_of (part ∷ parts) = part.table.value_count

pub values_of-over : (d : ℕ) (parts : List RelPart) → 1 ≤ length parts → All (IsOver d) parts → values_of parts ≡ d
values_of-over d [] some over = absurd (omega arith)
values_of-over d (part ∷ parts) some over = All-head (IsOver d) part parts over

-- ---- The relations of an arity that is used

pub some_closed : (file closed : List Relation) → 1 ≤ length file → IsClosing file closed → 1 ≤ length closed
some_closed [] closed some closing = absurd (omega arith)
some_closed (r ∷ file) closed some closing = let has = closing.every r (one_given (r ∷ file) r (zero, omega arith, refl)) in let low = has.1 in omega arith

-- the vocabulary's relations on a scope, one by one
pub given_relations : (ranges : List ValueRange) (d : ℕ) (scope : List ℕ) (given : List Given) →
    map (widened ranges d scope) (relations_given given) ≡ map (λ (g : Given). g.relation) (map (given_within ranges d scope) given)
given_relations ranges d scope [] = refl
given_relations ranges d scope (g ∷ given) = λ i. widened ranges d scope g.relation ∷ given_relations ranges d scope given i

-- some table has a place for each tuple of this length
few_places : (d : ℕ) (parts : List RelPart) → All (IsOver d) parts → All (λ (part : RelPart). IsTable part.table) parts → (arity : ℕ) → has_arity (map given_by parts) arity ≡ true → d ^ arity ≤ 65536
few_places d parts over tables arity has =
    let found = Any-from_list_any (λ (part : RelPart). part.table.arity == arity) parts (sym (any-map (λ (g : Given). g.arity == arity) given_by parts) ∙ has) in
    let part : RelPart = found.1 in
    let table : IsTable part.table = subst (λ (p : RelPart). IsTable p.table) found.3 (tables found.0 found.1 found.2) in
    let values : part.table.value_count ≡ d = subst (IsOver d) found.3 (over found.0 found.1 found.2) in
    let same : part.table.value_count ^ part.table.arity ≡ d ^ arity = λ i. values i ^ eqb-true part.table.arity arity found.4 i in
    omega (arith, same, table.each, table.fits)

pub scopes_fit : (d : ℕ) (parts : List RelPart) (scopes : List Scope) → All (IsOver d) parts → All (λ (part : RelPart). IsTable part.table) parts →
    All (λ scope. has_arity (map given_by parts) (length scope) ≡ true) (map variables_in scopes) → All (λ scope. d ^ length scope ≤ 65536) (map variables_in scopes)
scopes_fit d parts scopes over tables used k scope low = few_places d parts over tables (length (get_or (map variables_in scopes) k scope)) (used k scope low)

-- ---- The language

-- what a language is made of
pub record IsMadeOf (frame : Frame) (parts : List RelPart) (a : Inside) : Type 0 where
  pub names : map string_bytes a.names.items ≡ frame.names
  pub least_value : a.least_value ≡ frame.least_value
  pub value_count : a.value_count ≡ frame.value_count
  pub ranges : take (length a.names.items) a.ranges ≡ frame.ranges
  pub given : a.given.items ≡ parts
  pub over : All (IsOver frame.value_count) parts
  pub tables : All (λ (part : RelPart). IsTable part.table) parts
  pub relation_names : AreNames (map (λ (g : Given). g.name) (map given_by parts))
  pub scopes : AreScopes (length frame.names) (map given_by parts) a.scopes.items
  pub sized : All (λ (scope : Scope). length (variables_in scope) ≡ scope.size) a.scopes.items
  pub relations : (arity : ℕ) → 1 ≤ arity → arity ≤ 4 → IsClosedOf frame.value_count arity (map given_by parts) (get_or a.relations (arity - 1) [])
  pub four : length a.relations ≡ 4
  pub all : AreAll (ranges_in a) a.value_count (map given_by parts) a.relations a.scopes.items a.on.items a.numbers.items
  pub is_whole : a.is_whole ≡ list_all (is_whole_range a.value_count) (ranges_in a)
  pub masks : ArePairMasks a.value_count (pairs_in a) a.pairs

-- the language over a frame
abbrev over_frame : Frame → List RelPart → Inside → Language
over_frame frame parts a = record {
  names = frame.names;
  least_value = frame.least_value;
  value_count = frame.value_count;
  ranges = frame.ranges;
  given = map given_by parts;
  scopes = map variables_in a.scopes.items;
  relations = map (relations_at frame.ranges frame.value_count a.relations a.scopes.items a.on.items a.numbers.items) (numbers (length a.scopes.items));
}

seen-made : (frame : Frame) (parts : List RelPart) (a : Inside) → IsMadeOf frame parts a → seen a ≡ over_frame frame parts a
seen-made frame parts a made = λ i. record {
  names = made.names i;
  least_value = made.least_value i;
  value_count = made.value_count i;
  ranges = made.ranges i;
  given = map given_by (made.given i);
  scopes = map variables_in a.scopes.items;
  relations = map (relations_at (made.ranges i) (made.value_count i) a.relations a.scopes.items a.on.items a.numbers.items) (numbers (length a.scopes.items));
}

module _ (frame : Frame) (parts : List RelPart) (a : Inside) (is_frame : IsFrame frame) (made : IsMadeOf frame parts a) where
  abbrev d : ℕ
  d = frame.value_count

  abbrev l : Language
  l = over_frame frame parts a

  -- what holds of the scopes in the fields, by the frame
  all : AreAll frame.ranges d (map given_by parts) a.relations a.scopes.items a.on.items a.numbers.items
  all = subst (λ (rs : List ValueRange). AreAll rs d (map given_by parts) a.relations a.scopes.items a.on.items a.numbers.items) made.ranges
      (subst (λ (n : ℕ). AreAll (ranges_in a) n (map given_by parts) a.relations a.scopes.items a.on.items a.numbers.items) made.value_count made.all)

  -- a scope, as it stands in the fields
  record IsScopeAt (s : ℕ) : Type 0 where
    pub inside : s < length a.scopes.items
    pub scope_is : scope_at l s ≡ variables_in (scope_in a.scopes.items s)
    pub relations_is : relations_on l s ≡ relations_at frame.ranges d a.relations a.scopes.items a.on.items a.numbers.items s

  scope_there : (s : ℕ) → s < length l.scopes → IsScopeAt s
  scope_there s low =
      let inside : s < length a.scopes.items = omega (arith, low, length-map a.scopes.items variables_in) in
      record {
        inside = inside;
        scope_is = get_or-map variables_in a.scopes.items s (record { size = 0; variables = [] }) [] inside;
        relations_is = get_or-map-range_with_len (relations_at frame.ranges d a.relations a.scopes.items a.on.items a.numbers.items) 0 (length a.scopes.items) s s [] inside (let e : 0 + s ≡ s = omega arith in e);
      }

  given_sized : All (λ (g : Given). length g.relation ≡ d ^ g.arity) (map given_by parts)
  given_sized = All-map (λ (g : Given). length g.relation ≡ d ^ g.arity) given_by parts
      (λ k part low. (made.tables k part low).each ∙ ap (λ n. n ^ (get_or parts k part).table.arity) (made.over k part low))

  closed : (s : ℕ) → s < length l.scopes → IsClosing (map (λ (g : Given). g.relation) (given_on l s)) (relations_on l s)
  closed s low =
      let at = scope_there s low in
      subst (λ rs. IsClosing rs (relations_on l s)) (given_relations frame.ranges d (scope_at l s) (of_arity (length (scope_at l s)) (map given_by parts)))
      (subst (λ (scope : List ℕ). IsClosing (given_at frame.ranges d (map given_by parts) scope) (relations_on l s)) (sym at.scope_is)
      (subst (IsClosing (given_at frame.ranges d (map given_by parts) (variables_in (scope_in a.scopes.items s)))) (sym at.relations_is) (all.closing s at.inside)))

  -- each relation on a scope has a truth value for each tuple
  sized : (s : ℕ) → s < length l.scopes → All (λ (r : Relation). length r ≡ d ^ length (scope_at l s)) (relations_on l s)
  sized s low =
      let at = scope_there s low in
      closed_sized frame.ranges d (scope_at l s) (map given_by parts) (relations_on l s) given_sized (closed s low)

  lawful_over : IsLanguage l
  lawful_over = record {
    some_variable = is_frame.some_variable;
    few_variables = is_frame.few_variables;
    names = is_frame.names;
    some_value = is_frame.some_value;
    few_values = is_frame.few_values;
    low = is_frame.low;
    high = is_frame.high;
    ranged = is_frame.ranged;
    ranges = is_frame.ranges;
    relation_names = made.relation_names;
    given_sized = given_sized;
    few_scopes = let few = made.scopes.few in omega (arith, few, length-map a.scopes.items variables_in);
    scopes = made.scopes.lawful;
    apart = made.scopes.apart;
    closed = closed;
    sized = sized;
    few_relations = λ s low. let at = scope_there s low in let few = all.few s at.inside in omega (arith, few, ap length at.relations_is);
    small = λ k scope low. few_places d parts made.over made.tables (length (get_or (map variables_in a.scopes.items) k scope)) (made.scopes.used k scope low);
    used = λ s low.
        some_closed (map (λ (g : Given). g.relation) (given_on l s)) (relations_on l s)
        (let some = some_kept (λ (g : Given). g.arity == length (scope_at l s)) (map given_by parts) (made.scopes.used s [] low) in
        omega (arith, some, length-map (given_on l s) (λ (g : Given). g.relation), length-map (of_arity (length (scope_at l s)) (map given_by parts)) (given_within frame.ranges d (scope_at l s)))) (closed s low);
  }

pub sound : (frame : Frame) (parts : List RelPart) (a : Inside) → IsFrame frame → IsMadeOf frame parts a → IsSound a
sound frame parts a is_frame made = record {
  lawful = subst IsLanguage (sym (seen-made frame parts a made)) (lawful_over frame parts a is_frame made);
  sized = made.sized;
  kinds = λ arity some short. subst (λ (d : ℕ). All (IsOfKind arity d) (get_or a.relations (arity - 1) [])) (sym made.value_count) (made.relations arity some short).kinds;
  is_whole = made.is_whole;
  parts = made.all.parts;
  pairs = subst (λ (given : List RelPart). IsClosing (relations_of_arity (map given_by given) 2) (pairs_in a)) (sym made.given) (made.relations 2 (omega arith) (omega arith)).closing;
  masks = made.masks;
}

pub built : (frame : Frame) (parts : List RelPart) (listed : Option (List (List ℕ))) (a : Inside) → IsFrame frame → IsMadeOf frame parts a →
    map variables_in a.scopes.items ≡ scopes_of (length frame.names) (map given_by parts) listed → IsBuilt frame (map given_by parts) listed (seen a)
built frame parts listed a is_frame made scopes = record {
  names = made.names;
  least_value = made.least_value;
  value_count = made.value_count;
  ranges = made.ranges;
  given = ap (map given_by) made.given;
  scopes = scopes;
  each = length-map (numbers (length a.scopes.items)) (relations_at (ranges_in a) a.value_count a.relations a.scopes.items a.on.items a.numbers.items) ∙ length-range_with_len 0 (length a.scopes.items) ∙ sym (length-map a.scopes.items variables_in);
  lawful = (sound frame parts a is_frame made).lawful;
}

-- ---- Refusals

pub refused_scopes : (n : ℕ) (given : List Given) (listed : Option (List (List ℕ))) (e : LangFault) → 1 ≤ length given → scopes_refusal given (scopes_of n given listed) ≡ Some e → build_refusal n given listed ≡ Some e
refused_scopes n [] listed e some told = absurd (omega arith)
refused_scopes n (g ∷ given) listed e some told = ap (λ first. option_or first (closing_refusal (g ∷ given))) told
