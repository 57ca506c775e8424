-- No bytes are refused for want of memory.
use Rattle.voc_read.proofs.Prelude.{◌≡◌, ℕ, ◌+◌, ◌^◌, ◌&&◌, Bool, true, false, cond, nat_eq, nat_le, nat_lt, not, List, [], ◌∷◌, length, Option, Some, None, ℤ, pos, negsuc, Result, Ok, Err, refl, codes, find, position, list_all, ok_or, option_map, option_map_or, option_or, Data, Items, no_items, item, Members, as_object, as_array, as_str, get, size_for, is_shown, tuple_fault, first_fault, TableFault, Truth, first_too_big, formula_in, FormulaFault, TooBig, Given, is_name, values_between, frame_refusal, is_domain, is_ordered, are_nested, first_pair, has_arity, has_too_many, scope_list_refusal, scopes_refusal, closing_refusal, build_refusal, scopes_built, LangFault, VocFault, TooLong, NotJson, Missing, WrongKind, UnknownKey, BadName, NameRepeated, BadRelName, RelRepeated, UnknownVariable, RangeName, BadRange, RangeRepeated, Table, TableOf, Lang, then_on, unless, keys_refusal, has_other_key, under, names_refusal, first_bad, first_repeat, variable_number, HeldData, OutlineData, held_by, outline_of, listed_under, ranges_under, is_all, vocabulary_keys, RangeData, range_data, bounds_refusal, range_for, range_stated, ranges_from, ranged_names, ranges_refusal, ranges_of, RuleData, formula, one_of, stated_under, rule_in, relation_of_rule, rule_formula, RelationData, relation_keys, relation_data, counted_arity, small_arity, name_refusal, made_of, relation_stated, relations_from, given_names, relation_names_refusal, listed_relations, numbers_of, scope_stated, scopes_from, scopes_stated, text_list, tuple_list, number_pair, whole_number, table_wants, lang_wants, wants_memory, outline_refusal, parts_from, parts_in, json_of, vocabulary_parts, MOST_VOCABULARY}
use Rattle.rel_table.specs.declared.table.CloseFault.TheVariants as closing
use Rattle.rel_table.specs.declared.table.TableFault.TheVariants as table
use Rattle.language.specs.declared.parts.LangFault.TheVariants as lang
use Rattle.voc_read.specs.declared.fault.Spot.{Spot}
use Rattle.voc_read.specs.declared.fault.Spot.TheVariants as spot
use Rattle.voc_read.specs.Rules.{tuples}
use Rattle.voc_read.proofs.FormulaFaults.{formula_read, OfErr as OfFormulaErr}

-- none is told, or one that isn't want of memory
abbrev pub NoWant : {F : Type 0} → (F → Bool) → Option F → Type 0
NoWant wants None = Unit {0}
NoWant wants (Some fault) = wants fault ≡ false

abbrev pub OfErr : {A : Type 0} → Result A VocFault → Type 0
OfErr (Ok x) = Unit {0}
OfErr (Err fault) = wants_memory fault ≡ false

-- ---- How readings are put together

after : {A B : Type 0} (r : Result A VocFault) (next : A → Result B VocFault) → OfErr r → ((x : A) → OfErr (next x)) → OfErr (then_on r next)
after (Ok x) next first rest = rest x
after (Err fault) next first rest = first

behind : {A : Type 0} (refusal : Option VocFault) (next : Result A VocFault) → NoWant wants_memory refusal → OfErr next → OfErr (unless refusal next)
behind None next first rest = rest
behind (Some fault) next first rest = first

or_else : {A : Type 0} (o : Option A) (fault : VocFault) → wants_memory fault ≡ false → OfErr (ok_or o fault)
or_else None fault own = own
or_else (Some x) fault own = tt

mapped : {A F : Type 0} (wants : F → Bool) (f : A → F) (o : Option A) → ((x : A) → wants (f x) ≡ false) → NoWant wants (option_map f o)
mapped wants f None own = tt
mapped wants f (Some x) own = own x

-- a fault of a part, told as a fault of the whole
within : {G F : Type 0} (inner : G → Bool) (wants : F → Bool) (f : G → F) (o : Option G) → ((x : G) → inner x ≡ false → wants (f x) ≡ false) → NoWant inner o → NoWant wants (option_map f o)
within inner wants f None own told = tt
within inner wants f (Some x) own told = own x told

either : {F : Type 0} (wants : F → Bool) (a b : Option F) → NoWant wants a → NoWant wants b → NoWant wants (option_or a b)
either wants None b x y = y
either wants (Some fault) b x y = x

tested : (b : Bool) (fault : VocFault) → wants_memory fault ≡ false → NoWant wants_memory (cond b None (Some fault))
tested true fault own = tt
tested false fault own = own

-- ---- Tables and languages

right_tuple : (b : Bool) (i : ℕ) → NoWant table_wants (cond b None (Some (table.ValueOut i)))
right_tuple true i = tt
right_tuple false i = refl

long_tuple : (b : Bool) (i : ℕ) (rest : Option TableFault) → NoWant table_wants rest → NoWant table_wants (cond b rest (Some (table.TupleLength i)))
long_tuple true i rest h = h
long_tuple false i rest h = refl

tuples_read : (a : ℕ) (lo : ℤ) (d i : ℕ) (given : List (List ℤ)) → NoWant table_wants (first_fault a lo d i given)
tuples_read a lo d i [] = tt
tuples_read a lo d i (tuple ∷ given) =
    either table_wants (tuple_fault a lo d i tuple) (first_fault a lo d (i + 1) given)
    (long_tuple (nat_eq (length tuple) a) i _ (right_tuple (list_all (is_shown lo d) tuple) i)) (tuples_read a lo d (i + 1) given)

few_values : (many right : Bool) → NoWant lang_wants (cond many (Some lang.TooManyVariables) (cond right None (Some lang.BadDomain)))
few_values true right = refl
few_values false true = tt
few_values false false = refl

frame_read : (names : List (List ℕ)) (lo hi : ℤ) → NoWant lang_wants (frame_refusal names lo hi)
frame_read [] lo hi = refl
frame_read (name ∷ names) lo hi = few_values (nat_lt 128 (length (name ∷ names))) (is_domain lo hi)

not_many : (b : Bool) (rest : Option LangFault) → NoWant lang_wants rest → NoWant lang_wants (cond b (Some lang.TooManyScopes) rest)
not_many true rest h = refl
not_many false rest h = h

-- scopes that are listed, where two are repeated that are so related
abbrev listed_refusal : (List ℕ → List ℕ → Bool) → List Given → List (List ℕ) → Option LangFault
listed_refusal related given scopes = cond (nat_lt 8192 (length scopes)) (Some lang.TooManyScopes) (
    option_or (option_map (λ pair. lang.ScopeRepeated pair.0 pair.1) (first_pair related scopes)) (
    option_or (option_map (λ pair. lang.Nested pair.0 pair.1) (first_pair are_nested scopes)) (
    option_map lang.NoRelationOfArity (position (λ scope. not (has_arity given (length scope))) scopes))))

listed_right : (related : List ℕ → List ℕ → Bool) (given : List Given) (scopes : List (List ℕ)) → NoWant lang_wants (listed_refusal related given scopes)
listed_right related given scopes =
    let unused : Option LangFault = option_map lang.NoRelationOfArity (position (λ scope. not (has_arity given (length scope))) scopes) in
    let nested : Option LangFault = option_map (λ pair. lang.Nested pair.0 pair.1) (first_pair are_nested scopes) in
    let repeated : Option LangFault = option_map (λ pair. lang.ScopeRepeated pair.0 pair.1) (first_pair related scopes) in
    not_many (nat_lt 8192 (length scopes)) (option_or repeated (option_or nested unused))
    (either lang_wants repeated (option_or nested unused) (mapped lang_wants (λ pair. lang.ScopeRepeated pair.0 pair.1) (first_pair related scopes) (λ pair. refl))
    (either lang_wants nested unused (mapped lang_wants (λ pair. lang.Nested pair.0 pair.1) (first_pair are_nested scopes) (λ pair. refl))
    (mapped lang_wants lang.NoRelationOfArity (position (λ scope. not (has_arity given (length scope))) scopes) (λ i. refl))))

scopes_right : (given : List Given) (scopes : List (List ℕ)) → NoWant lang_wants (scopes_refusal given scopes)
scopes_right given scopes =
    either lang_wants (option_map lang.ScopeOrder (position (λ scope. not (is_ordered scope)) scopes)) (scope_list_refusal given scopes)
    (mapped lang_wants lang.ScopeOrder (position (λ scope. not (is_ordered scope)) scopes) (λ i. refl)) (listed_right _ given scopes)

closing_read : (given : List Given) → NoWant lang_wants (closing_refusal given)
closing_read given = mapped lang_wants (λ arity. lang.Closing (closing.TooMany arity)) (find (has_too_many given) (1 ∷ 2 ∷ 3 ∷ 4 ∷ [])) (λ arity. refl)

pub build_read : (n : ℕ) (given : List Given) (listed : Option (List (List ℕ))) → NoWant lang_wants (build_refusal n given listed)
build_read n [] listed = refl
build_read n (g ∷ given) listed =
    either lang_wants (scopes_refusal (g ∷ given) (scopes_built n (g ∷ given) listed)) (closing_refusal (g ∷ given))
    (scopes_right (g ∷ given) (scopes_built n (g ∷ given) listed)) (closing_read (g ∷ given))

-- ---- The outline

other_key : (b : Bool) (spot : Spot) → NoWant wants_memory (cond b (Some (UnknownKey spot)) None)
other_key true spot = refl
other_key false spot = tt

keys_of : (known : List (List ℕ)) (spot : Spot) (members : Option Members) → NoWant wants_memory (option_map_or (λ ms. cond (has_other_key known ms) (Some (UnknownKey spot)) None) members (Some (WrongKind spot)))
keys_of known spot None = refl
keys_of known spot (Some members) = other_key (has_other_key known members) spot

keys : (known : List (List ℕ)) (spot : Spot) (value : Data) → NoWant wants_memory (keys_refusal known spot value)
keys known spot value = keys_of known spot (as_object value)

found : (key : List ℕ) (spot : Spot) (value : Data) → OfErr (under key spot value)
found key spot value = or_else (get key value) (Missing spot) refl

held : (whole : Data) → OfErr (held_by whole)
held whole =
    behind (keys_refusal vocabulary_keys spot.Whole whole) _ (keys vocabulary_keys spot.Whole whole)
    (after (under (codes "variables") spot.Variables whole) _ (found (codes "variables") spot.Variables whole) (λ variables.
    after (under (codes "domain") spot.Domain whole) _ (found (codes "domain") spot.Domain whole) (λ domain.
    after (under (codes "relations") spot.Relations whole) _ (found (codes "relations") spot.Relations whole) (λ relations.
    after (under (codes "scopes") spot.Scopes whole) _ (found (codes "scopes") spot.Scopes whole) (λ scopes. tt)))))

listed_so : (b : Bool) (items : Result (Option Items) VocFault) → OfErr items → OfErr (cond b (Ok None) items)
listed_so true items real = tt
listed_so false items real = real

ranged : (ranges : Option Data) → OfErr (ranges_under ranges)
ranged None = tt
ranged (Some ranges) = or_else (as_array ranges) (WrongKind spot.Ranges) refl

list_read : (scopes : Data) → OfErr (listed_under scopes)
list_read scopes =
    listed_so (is_all scopes) _ (after (ok_or (as_array scopes) (WrongKind spot.Scopes)) _ (or_else (as_array scopes) (WrongKind spot.Scopes) refl) (λ items. tt))

outlined : (h : HeldData) → OfErr (outline_of h)
outlined h =
    after (ok_or (text_list h.variables) (WrongKind spot.Variables)) _ (or_else (text_list h.variables) (WrongKind spot.Variables) refl) (λ names.
    after (ok_or (number_pair h.domain) (WrongKind spot.Domain)) _ (or_else (number_pair h.domain) (WrongKind spot.Domain) refl) (λ bounds.
    after (ok_or (as_array h.relations) (WrongKind spot.Relations)) _ (or_else (as_array h.relations) (WrongKind spot.Relations) refl) (λ relations.
    after (listed_under h.scopes) _ (list_read h.scopes) (λ listed.
    after (ranges_under h.ranges) _ (ranged h.ranges) (λ ranges. tt)))))

-- ---- The ranges

range_read : (i : ℕ) (lo : ℤ) (count : ℕ) (names : List (List ℕ)) (stated : RangeData) → OfErr (range_for i lo count names stated)
range_read i lo count names stated =
    after (ok_or (variable_number names stated.name) (RangeName i)) _ (or_else (variable_number names stated.name) (RangeName i) refl) (λ v.
    behind (bounds_refusal i lo count stated) _ (tested _ (BadRange i) refl) tt)

ranges_read : (i : ℕ) (lo : ℤ) (count : ℕ) (names : List (List ℕ)) (items : Items) → OfErr (ranges_from i lo count names items)
ranges_read i lo count names no_items = tt
ranges_read i lo count names (item value values) =
    after (range_stated i lo count names value) _ (after (ok_or (range_data value) (WrongKind (spot.Range i))) (range_for i lo count names) (or_else (range_data value) (WrongKind (spot.Range i)) refl) (range_read i lo count names)) (λ range.
    after (ranges_from (i + 1) lo count names values) _ (ranges_read (i + 1) lo count names values) (λ ranges. tt))

-- ---- The relations

ruled : (here : Spot) (a b : Option Data) → OfErr (one_of here a b)
ruled here None None = refl
ruled here (Some a) None = tt
ruled here None (Some b) = tt
ruled here (Some a) (Some b) = refl

rule_read : (here : Spot) (stated : RuleData Data) → OfErr (rule_in here stated)
rule_read here (tuples value) = after (ok_or (tuple_list value) (WrongKind here)) _ (or_else (tuple_list value) (WrongKind here) refl) (λ list. tt)
rule_read here (formula value) = tt

stated : (here : Spot) (value : Data) → OfErr (relation_data here value)
stated here value =
    behind (keys_refusal relation_keys here value) _ (keys relation_keys here value)
    (after (under (codes "name") here value) _ (found (codes "name") here value) (λ name.
    after (under (codes "arity") here value) _ (found (codes "arity") here value) (λ arity.
    after (stated_under here value) _ (ruled here (get (codes "tuples") value) (get (codes "formula") value)) (λ rule.
    after (ok_or (as_str name) (WrongKind here)) _ (or_else (as_str name) (WrongKind here) refl) (λ text.
    after (ok_or (whole_number arity) (WrongKind here)) _ (or_else (whole_number arity) (WrongKind here) refl) (λ count.
    after (rule_in here rule) _ (rule_read here rule) (λ read. tt)))))))

by_size : (i d a : ℕ) (fits : Bool) → OfErr (counted_arity i (pos a) (cond fits (Ok (d ^ a)) (Err table.TooLarge)))
by_size i d a true = tt
by_size i d a false = refl

by_arity : (i d a : ℕ) (short : Bool) → OfErr (counted_arity i (pos a) (size_for (cond short (Some a) None) d))
by_arity i d a true = by_size i d a (nat_le (d ^ a) 65536)
by_arity i d a false = refl

counted : (i d : ℕ) (arity : ℤ) → OfErr (small_arity i d arity)
counted i d (pos a) = by_arity i d a (nat_le 1 a && nat_le a 4)
counted i d (negsuc a) = refl

formula_told : (i : ℕ) (truth : Result Truth FormulaFault) → OfFormulaErr truth → OfErr (rule_formula i truth)
formula_told i (Ok truth) own = tt
formula_told i (Err fault) own = own

relation_read : (i : ℕ) (lo : ℤ) (count arity : ℕ) (rule : RuleData (List (List ℤ))) → OfErr (relation_of_rule i lo count arity rule)
relation_read i lo count arity (tuples given) =
    behind (option_map (Table i) (first_fault arity lo count 0 given)) _ (within table_wants wants_memory (Table i) (first_fault arity lo count 0 given) (λ fault own. own) (tuples_read arity lo count 0 given)) tt
relation_read i lo count arity (formula value) =
    after (rule_formula i (formula_in arity value)) _ (formula_told i (formula_in arity value) (formula_read arity value)) (λ truth.
    behind (option_map (λ place. TableOf i (TooBig place)) (first_too_big truth arity lo count)) _ (mapped wants_memory (λ place. TableOf i (TooBig place)) (first_too_big truth arity lo count) (λ place. refl)) tt)

made : (i : ℕ) (lo : ℤ) (count : ℕ) (r : RelationData) → OfErr (made_of i lo count r)
made i lo count r =
    behind (name_refusal i r.name) _ (tested (is_name r.name) (BadRelName i) refl)
    (after (small_arity i count r.arity) _ (counted i count r.arity) (λ arity.
    after (relation_of_rule i lo count arity r.rule) _ (relation_read i lo count arity r.rule) (λ relation. tt)))

relations_read : (i : ℕ) (lo : ℤ) (count : ℕ) (items : Items) → OfErr (relations_from i lo count items)
relations_read i lo count no_items = tt
relations_read i lo count (item value values) =
    after (relation_stated i lo count value) _ (after (relation_data (spot.Relation i) value) (made_of i lo count) (stated (spot.Relation i) value) (made i lo count)) (λ relation.
    after (relations_from (i + 1) lo count values) _ (relations_read (i + 1) lo count values) (λ relations. tt))

-- ---- The scopes

scopes_read : (i : ℕ) (names : List (List ℕ)) (items : Items) → OfErr (scopes_from i names items)
scopes_read i names no_items = tt
scopes_read i names (item value values) =
    after (scope_stated i names value) _ (after (ok_or (text_list value) (WrongKind (spot.Scope i))) _ (or_else (text_list value) (WrongKind (spot.Scope i)) refl)
    (λ listed. or_else (numbers_of names listed) (UnknownVariable i) refl)) (λ scope.
    after (scopes_from (i + 1) names values) _ (scopes_read (i + 1) names values) (λ scopes. tt))

all_scopes_read : (names : List (List ℕ)) (listed : Option Items) → OfErr (scopes_stated names listed)
all_scopes_read names None = tt
all_scopes_read names (Some items) = after (scopes_from 0 names items) _ (scopes_read 0 names items) (λ scopes. tt)

-- ---- The whole

all_ranges_read : (lo : ℤ) (count : ℕ) (names : List (List ℕ)) (items : Items) → OfErr (ranges_of lo count names items)
all_ranges_read lo count names items =
    after (ranges_from 0 lo count names items) _ (ranges_read 0 lo count names items) (λ ranges.
    behind (ranges_refusal ranges) _ (mapped wants_memory (λ pair. RangeRepeated pair.0 pair.1) (first_repeat (ranged_names ranges)) (λ pair. refl)) tt)

all_relations_read : (lo : ℤ) (count : ℕ) (items : Items) → OfErr (listed_relations lo count items)
all_relations_read lo count items =
    after (relations_from 0 lo count items) _ (relations_read 0 lo count items) (λ given.
    behind (relation_names_refusal given) _ (mapped wants_memory (λ pair. RelRepeated pair.0 pair.1) (first_repeat (given_names given)) (λ pair. refl)) tt)

names_read : (names : List (List ℕ)) → NoWant wants_memory (names_refusal names)
names_read names =
    either wants_memory (option_map BadName (first_bad names)) (option_map (λ pair. NameRepeated pair.0 pair.1) (first_repeat names))
    (mapped wants_memory BadName (first_bad names) (λ i. refl)) (mapped wants_memory (λ pair. NameRepeated pair.0 pair.1) (first_repeat names) (λ pair. refl))

parts_read : (o : OutlineData) → OfErr (parts_from o)
parts_read o =
    let count : ℕ = values_between o.least_value o.greatest_value in
    behind (names_refusal o.names) _ (names_read o.names)
    (behind (outline_refusal o) _ (within lang_wants wants_memory Lang (frame_refusal o.names o.least_value o.greatest_value) (λ fault own. own) (frame_read o.names o.least_value o.greatest_value))
    (after (ranges_of o.least_value count o.names o.ranges) _ (all_ranges_read o.least_value count o.names o.ranges) (λ ranges.
    after (listed_relations o.least_value count o.relations) _ (all_relations_read o.least_value count o.relations) (λ given.
    after (scopes_stated o.names o.listed) _ (all_scopes_read o.names o.listed) (λ listed. tt)))))

whole_read : (whole : Data) → OfErr (parts_in whole)
whole_read whole = after (held_by whole) _ (held whole) (λ h. after (outline_of h) parts_from (outlined h) parts_read)

when_short : (b : Bool) (bytes : List ℕ) → OfErr (cond b (Err TooLong) (then_on (ok_or (json_of bytes) NotJson) parts_in))
when_short true bytes = refl
when_short false bytes = after (ok_or (json_of bytes) NotJson) parts_in (or_else (json_of bytes) NotJson refl) whole_read

pub real : (bytes : List ℕ) → OfErr (vocabulary_parts bytes)
unfolding vocabulary_parts
real bytes = when_short (nat_lt MOST_VOCABULARY (length bytes)) bytes
