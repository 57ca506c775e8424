use Rattle.language.proofs.Prelude.{◌≡◌, ℕ, map, take, replicate, length, sym, ◌∙◌, ap, subst, arith, rules, to_z, of_z, w64, All, String, string_bytes, Global, to_z-of_z, length-map, length-replicate, take-replicate, All-replicate, eqb-false, whole_range, IsRange, is_domain, values_between}
use Rattle.language.proofs.Refusals.{bad_domain, good_domain, too_many}
use Rattle.language.proofs.frame.Frame.new.Goals as goal
use Rattle.language.proofs.frame.Frame.new.Goals.{After-whole_ranges}

pub returns-then-len-clause-refused : goal.returns-then-len-clause-refused
returns-then-len-clause-refused c =
    too_many (map (λ (s : String Global). string_bytes s) c.args.names.items) c.args.lo c.args.hi (omega (arith, length-map c.args.names.items (λ (s : String Global). string_bytes s)))

pub returns-clause-made : goal.returns-clause-made
returns-clause-made c =
    let some = eqb-false _ _ (sym c.is_empty.ensures ∙ c.if-is_empty.false) in
    let long = length-map c.args.names.items (λ (s : String Global). string_bytes s) in
    let lo_is : to_z w64 (of_z w64 c.args.lo) ≡ c.args.lo = search (rules, to_z-of_z) in
    let hi_is : to_z w64 (of_z w64 c.args.hi) ≡ c.args.hi = search (rules, to_z-of_z) in
    good_domain (map (λ (s : String Global). string_bytes s) c.args.names.items) c.args.lo c.args.hi (omega (arith, some, long)) (omega (arith, long))
    ((λ i. is_domain (sym lo_is i) (sym hi_is i)) ∙ sym c.is_domain.ensures ∙ c.if-not-is_domain.false)

pub returns-clause-values : goal.returns-clause-values
returns-clause-values c =
    let lo_is : to_z w64 (of_z w64 c.args.lo) ≡ c.args.lo = search (rules, to_z-of_z) in
    let hi_is : to_z w64 (of_z w64 c.args.hi) ≡ c.args.hi = search (rules, to_z-of_z) in
    c.values_between-value_count.ensures.is ∙ (λ i. values_between (lo_is i) (hi_is i))

pub returns-then-not-is_domain-clause-refused : goal.returns-then-not-is_domain-clause-refused
returns-then-not-is_domain-clause-refused c =
    let some = eqb-false _ _ (sym c.is_empty.ensures ∙ c.if-is_empty.false) in
    let long = length-map c.args.names.items (λ (s : String Global). string_bytes s) in
    let lo_is : to_z w64 (of_z w64 c.args.lo) ≡ c.args.lo = search (rules, to_z-of_z) in
    let hi_is : to_z w64 (of_z w64 c.args.hi) ≡ c.args.hi = search (rules, to_z-of_z) in
    bad_domain (map (λ (s : String Global). string_bytes s) c.args.names.items) c.args.lo c.args.hi (omega (arith, some, long)) (omega (arith, long))
    ((λ i. is_domain (sym lo_is i) (sym hi_is i)) ∙ sym c.is_domain.ensures ∙ c.if-not-is_domain.true)

ranges : (c : After-whole_ranges) → take (length c.args.names.items) c.whole_ranges.result ≡ replicate (length c.args.names.items) (whole_range c.values_between-value_count.result)
ranges c = ap (take (length c.args.names.items)) c.whole_ranges.ensures ∙ take-replicate (length c.args.names.items) 128 (whole_range c.values_between-value_count.result) (omega arith)

pub invariant_of-result : goal.invariant_of-result
invariant_of-result c =
    let some = eqb-false _ _ (sym c.is_empty.ensures ∙ c.if-is_empty.false) in
    let long = length-map c.args.names.items (λ (s : String Global). string_bytes s) in
    let value = c.values_between-value_count.ensures.some in
    let n : ℕ = length c.args.names.items in
    let d : ℕ = c.values_between-value_count.result in
    record {
      some_variable = omega (arith, some, long);
      few_variables = omega (arith, long);
      names = c.requires.names;
      some_value = value;
      few_values = c.values_between-value_count.ensures.few;
      low = c.values_between-value_count.ensures.low;
      high = c.values_between-value_count.ensures.high;
      ranged = ap length (ranges c) ∙ length-replicate n (whole_range d) ∙ sym long;
      ranges = subst (All (IsRange d)) (sym (ranges c)) (All-replicate (IsRange d) n (whole_range d) (record { some = omega arith; known = omega (arith, value) }));
    }

pub returns-clause-ranges : goal.returns-clause-ranges
returns-clause-ranges c =
    let at = (goal.at.returns-clause-ranges c).After-whole_ranges in
    let lo_is : to_z w64 (of_z w64 c.args.lo) ≡ c.args.lo = search (rules, to_z-of_z) in
    let hi_is : to_z w64 (of_z w64 c.args.hi) ≡ c.args.hi = search (rules, to_z-of_z) in
    ranges at ∙ ap (λ d. replicate (length c.args.names.items) (whole_range d)) (c.values_between-value_count.ensures.is ∙ (λ i. values_between (lo_is i) (hi_is i)))
