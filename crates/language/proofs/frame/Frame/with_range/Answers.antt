use Rattle.language.proofs.Prelude.{◌≡◌, ◌<◌, pos, ◌+ℤ◌, ◌-ℤ◌, unsigned_abs, take, set, length, sym, ◌∙◌, ap, subst, arith, rules, to_z, of_z, w64, All, String, string_bytes, Global, take-set-lt, to_z-of_z, ints, length-set, length-map, All-set, ValueRange, IsRange, Frame, is_domain}
use Rattle.language.proofs.Domains.{domain_within}
use Rattle.language.proofs.Wording.{least_fits}
use Rattle.language.proofs.frame.Frame.with_range.Goals as goal
use Rattle.language.proofs.frame.Frame.with_range.Goals.{After-index_of-2}

abbrev given : (c : After-index_of-2) → ValueRange
given c = record { first = c.index_of.result; last = c.index_of-2.result }

least_is : (c : After-index_of-2) → to_z w64 (of_z w64 c.self.inside.least_value) ≡ c.self.inside.least_value
least_is c = to_z-of_z w64 c.self.inside.least_value (least_fits c.self.inside.least_value c.self.inside.value_count c.self.invariant.some_value c.self.invariant.low c.self.invariant.high)

first_is : (c : After-index_of-2) → to_z w64 (of_z w64 c.args.first) ≡ c.args.first
first_is c = search (rules, to_z-of_z)

last_is : (c : After-index_of-2) → to_z w64 (of_z w64 c.args.last) ≡ c.args.last
last_is c = search (rules, to_z-of_z)

own : (c : After-index_of-2) → c.args.v < length c.self.inside.names.items
own c =
    let names = ap (λ (f : Frame). length f.names) c.self.view_is in
    let low = c.requires.variable in omega (arith, low, names, length-map c.self.inside.names.items (λ (s : String Global). string_bytes s))

ranges_are : (c : After-index_of-2) → take (length c.self.inside.names.items) (set c.self.inside.ranges c.args.v (given c)) ≡ set (take (length c.self.inside.names.items) c.self.inside.ranges) c.args.v (given c)
ranges_are c = take-set-lt (length c.self.inside.names.items) c.self.inside.ranges c.args.v (given c) (own c)

is_range : (c : After-index_of-2) → IsRange c.self.inside.value_count (given c)
is_range c =
    let first : (c.self.inside.least_value +ℤ pos c.index_of.result) ≡ c.args.first = (λ i. sym (least_is c) i +ℤ pos c.index_of.result) ∙ c.index_of.ensures.shown ∙ first_is c in
    let last : (c.self.inside.least_value +ℤ pos c.index_of-2.result) ≡ c.args.last = (λ i. sym (least_is c) i +ℤ pos c.index_of-2.result) ∙ c.index_of-2.ensures.shown ∙ last_is c in
    let least : c.self.inside.least_value ≡ c.args.self.now.least_value = ap (λ (f : Frame). f.least_value) c.self.view_is in
    let values : c.self.inside.value_count ≡ c.args.self.now.value_count = ap (λ (f : Frame). f.value_count) c.self.view_is in
    let order = c.requires.some in
    let high = c.requires.high in
    record { some = omega (arith, ints, first, last, order); known = omega (arith, ints, last, least, values, high) }

pub index_of-requires : goal.index_of-requires
index_of-requires c =
    let kept = c.self.invariant in
    let least : c.self.inside.least_value ≡ c.args.self.now.least_value = ap (λ (f : Frame). f.least_value) c.self.view_is in
    let values : c.self.inside.value_count ≡ c.args.self.now.value_count = ap (λ (f : Frame). f.value_count) c.self.view_is in
    let low = c.requires.low in
    let order = c.requires.some in
    let high = c.requires.high in
    (λ i. is_domain (to_z-of_z w64 c.self.inside.least_value (least_fits c.self.inside.least_value c.self.inside.value_count kept.some_value kept.low kept.high) i) (to_z-of_z w64 c.args.first c.ranges.first i))
    ∙ domain_within c.self.inside.least_value c.args.first c.self.inside.value_count kept.low kept.high kept.few_values (omega (arith, ints, least, low)) (omega (arith, ints, least, values, order, high))

pub index_of-requires-2 : goal.index_of-requires-2
index_of-requires-2 c =
    let kept = c.self.invariant in
    let least : c.self.inside.least_value ≡ c.args.self.now.least_value = ap (λ (f : Frame). f.least_value) c.self.view_is in
    let values : c.self.inside.value_count ≡ c.args.self.now.value_count = ap (λ (f : Frame). f.value_count) c.self.view_is in
    let low = c.requires.low in
    let order = c.requires.some in
    let high = c.requires.high in
    (λ i. is_domain (to_z-of_z w64 c.self.inside.least_value (least_fits c.self.inside.least_value c.self.inside.value_count kept.some_value kept.low kept.high) i) (to_z-of_z w64 c.args.last c.ranges.last i))
    ∙ domain_within c.self.inside.least_value c.args.last c.self.inside.value_count kept.low kept.high kept.few_values (omega (arith, ints, least, low, order)) (omega (arith, ints, least, values, high))

pub invariant_of-self : goal.invariant_of-self
invariant_of-self c =
    let at = (goal.at.invariant_of-self c).After-index_of-2 in
    let kept = c.self.invariant in
    record {
      some_variable = kept.some_variable;
      few_variables = kept.few_variables;
      names = kept.names;
      some_value = kept.some_value;
      few_values = kept.few_values;
      low = kept.low;
      high = kept.high;
      ranged = ap length (ranges_are at) ∙ length-set (take (length c.self.inside.names.items) c.self.inside.ranges) c.args.v (given at) ∙ kept.ranged;
      ranges = subst (All (IsRange c.self.inside.value_count)) (sym (ranges_are at)) (All-set (IsRange c.self.inside.value_count) (take (length c.self.inside.names.items) c.self.inside.ranges) c.args.v (given at) (is_range at) kept.ranges);
    }

pub returns-clause-ranges : goal.returns-clause-ranges
returns-clause-ranges c =
    let at = (goal.at.returns-clause-ranges c).After-index_of-2 in
    let least : to_z w64 (of_z w64 c.self.inside.least_value) ≡ c.args.self.now.least_value = least_is at ∙ ap (λ (f : Frame). f.least_value) c.self.view_is in
    ranges_are at
    ∙ (λ i. set (ap (λ (f : Frame). f.ranges) c.self.view_is i) c.args.v (record {
      first = (c.index_of.ensures.is ∙ (λ j. unsigned_abs (first_is at j -ℤ least j))) i;
      last = (c.index_of-2.ensures.is ∙ (λ j. unsigned_abs (last_is at j -ℤ least j))) i;
    }))
