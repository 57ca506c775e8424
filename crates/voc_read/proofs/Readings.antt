-- What holds of each relation that is read.
use Rattle.voc_read.proofs.Prelude.{◌≡◌, ℕ, ◌+◌, ◌^◌, ◌≤◌, Bool, true, false, cond, ◌&&◌, nat_le, nat_eq, List, [], ◌∷◌, length, map, Option, Some, None, ℤ, pos, negsuc, Result, Ok, Err, refl, ◌∙◌, All, list_all, list_any, option_map, leb-true, and_from, length-map, All-nil, All-cons, All-head, All-tail, All-weaker, length-map-range_with_len, Relation, tuples, size_for, first_fault, place_of_shown, is_true, shown_tuple, first_too_big, formula_in, TooBig, Items, no_items, item, Given, is_name, AreNames, VocFault, BadRelName, RelRepeated, Table, TableOf, then_on, unless, first_repeat, RuleData, tuples_data, formula, accepting, rule_formula, relation_of_rule, RelationData, relation_data, counted_arity, small_arity, made_of, relation_stated, relations_from, given_names, relation_names_refusal, listed_relations}
use Rattle.rel_table.specs.declared.table.TableFault.TheVariants.{TooLarge}
use Rattle.rel_table.proofs.PlaceLemmas.{length-tuples}
use Rattle.voc_read.specs.declared.fault.Spot.TheVariants as spot
use Rattle.voc_read.proofs.NameForms.{apart}
use Rattle.voc_read.proofs.Buildable.{IsRight}

-- what holds of what is read, where something is
abbrev pub OfOk : {A : Type 0} → (A → Type 0) → Result A VocFault → Type 0
OfOk P (Err fault) = Unit {0}
OfOk P (Ok x) = P x

pub after : {A B : Type 0} (P : B → Type 0) (r : Result A VocFault) (next : A → Result B VocFault) → ((x : A) → OfOk P (next x)) → OfOk P (then_on r next)
after P (Err fault) next h = tt
after P (Ok x) next h = h x

-- and with what holds of the first
pub after_such : {A B : Type 0} (Q : A → Type 0) (P : B → Type 0) (r : Result A VocFault) (next : A → Result B VocFault) → OfOk Q r → ((x : A) → Q x → OfOk P (next x)) → OfOk P (then_on r next)
after_such Q P (Err fault) next q h = tt
after_such Q P (Ok x) next q h = h x q

unrefused : {A : Type 0} (P : A → Type 0) (refusal : Option VocFault) (next : Result A VocFault) → OfOk P next → OfOk P (unless refusal next)
unrefused P None next h = h
unrefused P (Some fault) next h = tt

-- ---- One relation

by_size : (i d a : ℕ) (fits : Bool) → nat_le (d ^ a) 65536 ≡ fits → OfOk (λ n. d ^ n ≤ 65536) (counted_arity i (pos a) (cond fits (Ok (d ^ a)) (Err TooLarge)))
by_size i d a true is = leb-true (d ^ a) 65536 is
by_size i d a false is = tt

by_arity : (i d a : ℕ) (short : Bool) → OfOk (λ n. d ^ n ≤ 65536) (counted_arity i (pos a) (size_for (cond short (Some a) None) d))
by_arity i d a true = by_size i d a (nat_le (d ^ a) 65536) refl
by_arity i d a false = tt

fitting : (i d : ℕ) (arity : ℤ) → OfOk (λ n. d ^ n ≤ 65536) (small_arity i d arity)
fitting i d (pos a) = by_arity i d a (nat_le 1 a && nat_le a 4)
fitting i d (negsuc a) = tt

sized : (i : ℕ) (lo : ℤ) (d a : ℕ) (rule : RuleData (List (List ℤ))) → OfOk (λ (r : Relation). length r ≡ d ^ a) (relation_of_rule i lo d a rule)
sized i lo d a (tuples_data given) =
    unrefused (λ (r : Relation). length r ≡ d ^ a) (option_map (Table i) (first_fault a lo d 0 given)) (Ok (accepting lo d a given))
    (length-map-range_with_len (λ at. list_any (λ tuple. nat_eq (place_of_shown lo d tuple) at) given) 0 (d ^ a))
sized i lo d a (formula value) =
    after (λ (r : Relation). length r ≡ d ^ a) (rule_formula i (formula_in a value)) _ (λ truth.
    unrefused (λ (r : Relation). length r ≡ d ^ a) (option_map (λ place. TableOf i (TooBig place)) (first_too_big truth a lo d)) _
    (length-map (tuples d a) (λ tuple. is_true (shown_tuple lo tuple) truth) ∙ length-tuples d a))

-- a relation with its name
pub record IsGiven (d : ℕ) (g : Given) : Type 0 where
  pub right : IsRight d g
  pub named : is_name g.name ≡ true

when_named : (d i : ℕ) (name : List ℕ) (next : Result Given VocFault) (named : Bool) → is_name name ≡ named → (is_name name ≡ true → OfOk (IsGiven d) next) →
    OfOk (IsGiven d) (unless (cond named None (Some (BadRelName i))) next)
when_named d i name next true is h = h is
when_named d i name next false is h = tt

made : (i : ℕ) (lo : ℤ) (d : ℕ) (stated : RelationData) → OfOk (IsGiven d) (made_of i lo d stated)
made i lo d stated =
    when_named d i stated.name _ (is_name stated.name) refl (λ named.
    after_such (λ n. d ^ n ≤ 65536) (IsGiven d) (small_arity i d stated.arity) _ (fitting i d stated.arity) (λ arity fits.
    after_such (λ (r : Relation). length r ≡ d ^ arity) (IsGiven d) (relation_of_rule i lo d arity stated.rule) _ (sized i lo d arity stated.rule) (λ relation long.
    record { right = record { sized = long; fits = fits }; named = named })))

-- ---- All of them

one_more : (d : ℕ) (g : Result Given VocFault) (rest : Result (List Given) VocFault) → OfOk (IsGiven d) g → OfOk (All (IsGiven d)) rest
    → OfOk (All (IsGiven d)) (then_on g (λ x. then_on rest (λ more. Ok (x ∷ more))))
one_more d (Err fault) rest x y = tt
one_more d (Ok g) (Err fault) x y = tt
one_more d (Ok g) (Ok more) x y = All-cons (IsGiven d) g more x y

each : (i : ℕ) (lo : ℤ) (d : ℕ) (items : Items) → OfOk (All (IsGiven d)) (relations_from i lo d items)
each i lo d no_items = All-nil (IsGiven d)
each i lo d (item value values) =
    one_more d (relation_stated i lo d value) (relations_from (i + 1) lo d values) (after (IsGiven d) (relation_data (spot.Relation i) value) (made_of i lo d) (made i lo d)) (each (i + 1) lo d values)

all_named : (given : List Given) → All (λ (g : Given). is_name g.name ≡ true) given → list_all is_name (given_names given) ≡ true
all_named [] h = refl
all_named (g ∷ given) h = and_from _ _ (All-head (λ (g : Given). is_name g.name ≡ true) g given h) (all_named given (All-tail (λ (g : Given). is_name g.name ≡ true) g given h))

-- the relations are right, and their names are names
pub record AreGiven (d : ℕ) (given : List Given) : Type 0 where
  pub right : All (IsRight d) given
  pub names : AreNames (map (λ (g : Given). g.name) given)

no_repeat : (pair : Option (ℕ × ℕ)) → option_map (λ p. RelRepeated p.0 p.1) pair ≡ None → pair ≡ None
no_repeat None h = refl
no_repeat (Some p) h = absurd (cc)

are_given : (d : ℕ) (given : List Given) → All (IsGiven d) given → relation_names_refusal given ≡ None → AreGiven d given
are_given d given all none = record {
  right = All-weaker (IsGiven d) (IsRight d) (λ g is. is.right) given all;
  names = record {
    formed = all_named given (All-weaker (IsGiven d) (λ (g : Given). is_name g.name ≡ true) (λ g is. is.named) given all);
    apart = apart (given_names given) (no_repeat (first_repeat (given_names given)) none);
  };
}

when_apart : (d : ℕ) (given : List Given) (refusal : Option VocFault) → relation_names_refusal given ≡ refusal → All (IsGiven d) given → OfOk (AreGiven d) (unless refusal (Ok given))
when_apart d given None none all = are_given d given all none
when_apart d given (Some fault) some all = tt

pub given_right : (lo : ℤ) (d : ℕ) (items : Items) → OfOk (AreGiven d) (listed_relations lo d items)
given_right lo d items =
    after_such (All (IsGiven d)) (AreGiven d) (relations_from 0 lo d items) _ (each 0 lo d items) (λ given all. when_apart d given (relation_names_refusal given) refl all)
