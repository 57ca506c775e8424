use Rattle.language.proofs.Prelude.{◌≡◌, ℕ, ◌-◌, ◌≤◌, List, [], get_or, take, length, map, ◌^◌, true, sym, ◌∙◌, ap, subst, arith, refl, to_z, of_z, w64, String, string_bytes, Some, All, Global, to_z-of_z, eqb-false, length-map, RelPart, TruthTable, IsTable, IsOfKind, Scope, Inside, AreScopes, IsClosedOf, AreAll, list_all, is_whole_range, variables_in, has_arity, Frame, IsFrame, listed_in, scopes_of, scopes_refusal, closing_refusal, build_refusal, given_by, truths, ArePairMasks, ◌∷◌, Option, None, option_or, LangFault, Given, IsScope, IsRange, IsOver, AreKnown}
use Rattle.std.proofs.lemmas.Result.{err_from_is_err_and}
use Rattle.language.proofs.Wording.{least_fits}
use Rattle.language.proofs.Built.{IsMadeOf, sound, built, scopes_fit, refused_scopes, values_of, values_of-over}
use Rattle.language.proofs.lang.Language.build.Goals as goal
use Rattle.language.proofs.lang.Language.build.Goals.{In_ok-pairs}

abbrev fields : (c : In_ok-pairs) → Inside
fields c = record {
  names = c.frame.inside.names;
  least_value = to_z w64 (of_z w64 c.frame.inside.least_value);
  value_count = c.frame.inside.value_count;
  ranges = c.frame.inside.ranges;
  is_whole = c.are_all-is_whole.result;
  given = c.args.rels;
  scopes = c.in_ok-scopes.scopes;
  relations = c.in_ok-relations.relations;
  on = c.in_ok-numbers.numbers.on;
  numbers = c.in_ok-numbers.numbers.starts;
  pairs = c.in_ok-pairs.pairs;
}

count : (c : In_ok-pairs) → c.len.result ≡ length c.args.frame.names
count c =
    (let long : c.len.result ≡ length c.frame.inside.names.items = omega arith in long) ∙ sym (length-map c.frame.inside.names.items (λ (s : String Global). string_bytes s)) ∙ ap (λ (f : Frame). length f.names) c.frame.view_is

own : (c : In_ok-pairs) → c.len-2.result ≡ length c.frame.inside.names.items
own c = omega arith

is_frame : (c : In_ok-pairs) → IsFrame c.args.frame
is_frame c = subst IsFrame c.frame.view_is c.frame.invariant

made : (c : In_ok-pairs) → IsMadeOf c.args.frame c.args.rels.items (fields c)
made c =
    let some : 1 ≤ length c.args.rels.items = (let e = eqb-false _ _ (sym c.is_empty.ensures ∙ c.if-is_empty.false) in omega (arith, e)) in
    let small = to_z-of_z w64 c.frame.inside.least_value (least_fits c.frame.inside.least_value c.frame.inside.value_count c.frame.invariant.some_value c.frame.invariant.low c.frame.invariant.high) in
    let d : values_of c.deref-2.result.now ≡ c.args.frame.value_count = ap values_of c.deref-2.ensures.value ∙ values_of-over c.args.frame.value_count c.args.rels.items some c.requires.tables in
    record {
      names = ap (λ (f : Frame). f.names) c.frame.view_is;
      least_value = small ∙ ap (λ (f : Frame). f.least_value) c.frame.view_is;
      value_count = ap (λ (f : Frame). f.value_count) c.frame.view_is;
      ranges = ap (λ (f : Frame). f.ranges) c.frame.view_is;
      given = refl;
      over = c.requires.tables;
      tables = subst (All (λ (part : RelPart). IsTable part.table)) c.deref-2.ensures.value c.in_ok-relations.ensures.lawful;
      relation_names = c.requires.names;
      scopes = subst (λ (n : ℕ). AreScopes n (map given_by c.args.rels.items) c.in_ok-scopes.scopes.items) (count c)
          (subst (λ (parts : List RelPart). AreScopes c.len.result (map given_by parts) c.in_ok-scopes.scopes.items) c.deref.ensures.value c.in_ok-scopes.ensures.sound);
      sized = subst (All (λ (scope : Scope). length (variables_in scope) ≡ scope.size)) c.deref-4.ensures.value c.in_ok-numbers.ensures.sized;
      relations = λ arity some short. subst (λ (d : ℕ). IsClosedOf d arity (map given_by c.args.rels.items) (get_or c.in_ok-relations.relations (arity - 1) [])) d
          (subst (λ (parts : List RelPart). IsClosedOf (values_of c.deref-2.result.now) arity (map given_by parts) (get_or c.in_ok-relations.relations (arity - 1) [])) c.deref-2.ensures.value
          (c.in_ok-relations.ensures.closed arity some short));
      four = c.in_ok-relations.ensures.four;
      all = subst (λ (n : ℕ). AreAll (take n c.frame.inside.ranges) c.frame.inside.value_count (map given_by c.args.rels.items) c.in_ok-relations.relations c.in_ok-scopes.scopes.items c.in_ok-numbers.numbers.on.items c.in_ok-numbers.numbers.starts.items) (own c)
          (subst (λ (scopes : List Scope). AreAll (take c.len-2.result c.frame.inside.ranges) c.frame.inside.value_count (map given_by c.args.rels.items) c.in_ok-relations.relations scopes c.in_ok-numbers.numbers.on.items c.in_ok-numbers.numbers.starts.items) c.deref-4.ensures.value
          (subst (λ (parts : List RelPart). AreAll (take c.len-2.result c.frame.inside.ranges) c.frame.inside.value_count (map given_by parts) c.in_ok-relations.relations c.deref-4.result.now c.in_ok-numbers.numbers.on.items c.in_ok-numbers.numbers.starts.items) c.deref-3.ensures.value
          c.in_ok-numbers.ensures.all));
      is_whole =
          (let is : c.are_all-is_whole.result ≡ list_all (is_whole_range c.frame.inside.value_count) (take c.len-2.result c.frame.inside.ranges) = c.are_all-is_whole.ensures in is)
          ∙ ap (λ (n : ℕ). list_all (is_whole_range c.frame.inside.value_count) (take n c.frame.inside.ranges)) (own c);
      masks = subst (λ (tables : List TruthTable). ArePairMasks c.frame.inside.value_count (truths tables) c.in_ok-pairs.pairs) c.list.ensures c.in_ok-pairs.ensures;
    }

pub numbers_of-requires-clause-fits : goal.numbers_of-requires-clause-fits
numbers_of-requires-clause-fits c =
    let values : c.frame.inside.value_count ≡ c.args.frame.value_count = ap (λ (f : Frame). f.value_count) c.frame.view_is in
    let used = subst (λ (parts : List RelPart). All (λ scope. has_arity (map given_by parts) (length scope) ≡ true) (map variables_in c.in_ok-scopes.scopes.items)) c.deref.ensures.value c.in_ok-scopes.ensures.sound.used in
    subst (λ (scopes : List Scope). All (λ scope. c.frame.inside.value_count ^ length scope ≤ 65536) (map variables_in scopes)) (sym c.deref-4.ensures.value)
    (subst (λ (d : ℕ). All (λ scope. d ^ length scope ≤ 65536) (map variables_in c.in_ok-scopes.scopes.items)) (sym values)
    (scopes_fit c.args.frame.value_count c.args.rels.items c.in_ok-scopes.scopes.items c.requires.tables
    (subst (All (λ (part : RelPart). IsTable part.table)) c.deref-2.ensures.value c.in_ok-relations.ensures.lawful) used))

pub numbers_of-requires-clause-closed : goal.numbers_of-requires-clause-closed
numbers_of-requires-clause-closed c = λ arity few short.
    let some : 1 ≤ length c.args.rels.items = (let e = eqb-false _ _ (sym c.is_empty.ensures ∙ c.if-is_empty.false) in omega (arith, e)) in
    let d : values_of c.deref-2.result.now ≡ c.frame.inside.value_count =
    ap values_of c.deref-2.ensures.value ∙ values_of-over c.args.frame.value_count c.args.rels.items some c.requires.tables ∙ ap (λ (f : Frame). f.value_count) (sym c.frame.view_is) in
    subst (λ (parts : List RelPart). IsClosedOf c.frame.inside.value_count arity (map given_by parts) (get_or c.in_ok-relations.relations (arity - 1) [])) (c.deref-2.ensures.value ∙ sym c.deref-3.ensures.value)
    (subst (λ (d : ℕ). IsClosedOf d arity (map given_by c.deref-2.result.now) (get_or c.in_ok-relations.relations (arity - 1) [])) d (c.in_ok-relations.ensures.closed arity few short))

pub of-requires-clause-kinds : goal.of-requires-clause-kinds
of-requires-clause-kinds c =
    let some : 1 ≤ length c.args.rels.items = (let e = eqb-false _ _ (sym c.is_empty.ensures ∙ c.if-is_empty.false) in omega (arith, e)) in
    let d : values_of c.deref-2.result.now ≡ c.frame.inside.value_count =
    ap values_of c.deref-2.ensures.value ∙ values_of-over c.args.frame.value_count c.args.rels.items some c.requires.tables ∙ ap (λ (f : Frame). f.value_count) (sym c.frame.view_is) in
    subst (All (IsOfKind 2 c.frame.inside.value_count)) (sym c.list.ensures)
    (subst (λ (d : ℕ). All (IsOfKind 2 d) (get_or c.in_ok-relations.relations 1 [])) d (c.in_ok-relations.ensures.closed 2 (omega arith) (omega arith)).kinds)

pub of-requires-clause-few : goal.of-requires-clause-few
of-requires-clause-few c = subst (λ (tables : List TruthTable). length tables ≤ 64) (sym c.list.ensures) (c.in_ok-relations.ensures.closed 2 (omega arith) (omega arith)).few

pub invariant_of-result : goal.invariant_of-result
invariant_of-result c = let at = (goal.at.invariant_of-result c).In_ok-pairs in sound at.args.frame at.args.rels.items (fields at) (is_frame at) (made at)

pub returns-clause-built : goal.returns-clause-built
returns-clause-built c =
    let at = (goal.at.returns-clause-built c).In_ok-pairs in
    built at.args.frame at.args.rels.items (listed_in at.args.scopes) (fields at) (is_frame at) (made at)
    (subst (λ (n : ℕ). map variables_in at.in_ok-scopes.scopes.items ≡ scopes_of n (map given_by at.args.rels.items) (listed_in at.args.scopes)) (count at)
    (subst (λ (parts : List RelPart). map variables_in at.in_ok-scopes.scopes.items ≡ scopes_of at.len.result (map given_by parts) (listed_in at.args.scopes)) at.deref.ensures.value at.in_ok-scopes.ensures.is))

pub returns-in_err-scopes-clause-refused : goal.returns-in_err-scopes-clause-refused
returns-in_err-scopes-clause-refused c =
    let some : 1 ≤ length c.args.rels.items = (let e = eqb-false _ _ (sym c.is_empty.ensures ∙ c.if-is_empty.false) in omega (arith, e)) in
    let names : c.len.result ≡ length c.args.frame.names =
    (let long : c.len.result ≡ length c.frame.inside.names.items = omega arith in long) ∙ sym (length-map c.frame.inside.names.items (λ (s : String Global). string_bytes s)) ∙ ap (λ (f : Frame). length f.names) c.frame.view_is in
    let p = err_from_is_err_and c.from_residual.result c.from_residual.ensures.1 in
    rw (p.1, p.2) (λ other.
    refused_scopes (length c.args.frame.names) (map given_by c.args.rels.items) (listed_in c.args.scopes) c.in_err-scopes.field-0.0 (omega (arith, some, length-map c.args.rels.items given_by))
    (subst (λ (n : ℕ). scopes_refusal (map given_by c.args.rels.items) (scopes_of n (map given_by c.args.rels.items) (listed_in c.args.scopes)) ≡ Some c.in_err-scopes.field-0.0) names
    (subst (λ (parts : List RelPart). scopes_refusal (map given_by parts) (scopes_of c.len.result (map given_by parts) (listed_in c.args.scopes)) ≡ Some c.in_err-scopes.field-0.0) c.deref.ensures.value
    (c.in_err-scopes.ensures.refused other))))

-- where the scopes aren't refused, the relations decide
closing_left : (n : ℕ) (given : List Given) (listed : Option (List (List ℕ))) (o : Option LangFault) → 1 ≤ length given → scopes_refusal given (scopes_of n given listed) ≡ None → closing_refusal given ≡ o → build_refusal n given listed ≡ o
closing_left n [] listed o some made is = absurd (omega arith)
closing_left n (g ∷ given) listed o some made is = ap (λ first. option_or first (closing_refusal (g ∷ given))) made ∙ is

pub returns-clause-made : goal.returns-clause-made
returns-clause-made c =
    let some : 1 ≤ length c.args.rels.items = (let e = eqb-false _ _ (sym c.is_empty.ensures ∙ c.if-is_empty.false) in omega (arith, e)) in
    closing_left (length c.args.frame.names) (map given_by c.args.rels.items) (listed_in c.args.scopes) None (omega (arith, some, length-map c.args.rels.items given_by))
    (subst (λ (n : ℕ). scopes_refusal (map given_by c.args.rels.items) (scopes_of n (map given_by c.args.rels.items) (listed_in c.args.scopes)) ≡ None) (count c)
    (subst (λ (parts : List RelPart). scopes_refusal (map given_by parts) (scopes_of c.len.result (map given_by parts) (listed_in c.args.scopes)) ≡ None) c.deref.ensures.value c.in_ok-scopes.ensures.made))
    (subst (λ (parts : List RelPart). closing_refusal (map given_by parts) ≡ None) c.deref-2.ensures.value c.in_ok-relations.ensures.made)

pub returns-in_err-relations-clause-refused : goal.returns-in_err-relations-clause-refused
returns-in_err-relations-clause-refused c =
    let some : 1 ≤ length c.args.rels.items = (let e = eqb-false _ _ (sym c.is_empty.ensures ∙ c.if-is_empty.false) in omega (arith, e)) in
    let names : c.len.result ≡ length c.args.frame.names =
    (let long : c.len.result ≡ length c.frame.inside.names.items = omega arith in long) ∙ sym (length-map c.frame.inside.names.items (λ (s : String Global). string_bytes s)) ∙ ap (λ (f : Frame). length f.names) c.frame.view_is in
    let p = err_from_is_err_and c.from_residual-in_err-relations.result c.from_residual-in_err-relations.ensures.1 in
    rw (p.1, p.2) (λ other.
    closing_left (length c.args.frame.names) (map given_by c.args.rels.items) (listed_in c.args.scopes) (Some c.in_err-relations.field-0.0) (omega (arith, some, length-map c.args.rels.items given_by))
    (subst (λ (n : ℕ). scopes_refusal (map given_by c.args.rels.items) (scopes_of n (map given_by c.args.rels.items) (listed_in c.args.scopes)) ≡ None) names
    (subst (λ (parts : List RelPart). scopes_refusal (map given_by parts) (scopes_of c.len.result (map given_by parts) (listed_in c.args.scopes)) ≡ None) c.deref.ensures.value c.in_ok-scopes.ensures.made))
    (subst (λ (parts : List RelPart). closing_refusal (map given_by parts) ≡ Some c.in_err-relations.field-0.0) c.deref-2.ensures.value (c.in_err-relations.ensures.refused other)))

pub stated_scopes-requires-clause-known : goal.stated_scopes-requires-clause-known
stated_scopes-requires-clause-known c =
    let names : c.len.result ≡ length c.args.frame.names =
    (let long : c.len.result ≡ length c.frame.inside.names.items = omega arith in long) ∙ sym (length-map c.frame.inside.names.items (λ (s : String Global). string_bytes s)) ∙ ap (λ (f : Frame). length f.names) c.frame.view_is in
    subst (λ (n : ℕ). AreKnown n (listed_in c.args.scopes)) (sym names) c.requires.known

pub stated_scopes-requires-clause-few : goal.stated_scopes-requires-clause-few
stated_scopes-requires-clause-few c = omega (arith, length-map c.frame.inside.names.items (λ (s : String Global). string_bytes s), c.frame.invariant.few_variables)

pub slice_bounds-own-end : goal.slice_bounds-own-end
slice_bounds-own-end c =
    let own : c.len-2.result ≡ length c.frame.inside.names.items = omega arith in
    own ∙ sym (length-map c.frame.inside.names.items (λ (s : String Global). string_bytes s)) ∙ sym c.frame.invariant.ranged ∙ ap (λ (n : ℕ). length (take n c.frame.inside.ranges)) (sym own)

pub numbers_of-requires-clause-ranges : goal.numbers_of-requires-clause-ranges
numbers_of-requires-clause-ranges c =
    let own : c.len-2.result ≡ length c.frame.inside.names.items = omega arith in
    record {
      some_value = c.frame.invariant.some_value;
      few_values = c.frame.invariant.few_values;
      some = subst (λ (n : ℕ). All (IsRange c.frame.inside.value_count) (take n c.frame.inside.ranges)) (sym own) c.frame.invariant.ranges;
    }

pub numbers_of-requires-clause-over : goal.numbers_of-requires-clause-over
numbers_of-requires-clause-over c =
    subst (All (IsOver c.frame.inside.value_count)) (sym c.deref-3.ensures.value) (subst (λ (d : ℕ). All (IsOver d) c.args.rels.items) (sym (ap (λ (f : Frame). f.value_count) c.frame.view_is)) c.requires.tables)

pub numbers_of-requires-clause-sized : goal.numbers_of-requires-clause-sized
numbers_of-requires-clause-sized c = subst (All (λ (scope : Scope). (1 ≤ scope.size) × (scope.size ≤ 4))) (sym c.deref-4.ensures.value) c.in_ok-scopes.ensures.sound.sized

pub numbers_of-requires-clause-few : goal.numbers_of-requires-clause-few
numbers_of-requires-clause-few c = subst (λ (scopes : List Scope). length scopes ≤ 8192) (sym c.deref-4.ensures.value) c.in_ok-scopes.ensures.sound.few

pub numbers_of-requires-clause-lawful : goal.numbers_of-requires-clause-lawful
numbers_of-requires-clause-lawful c =
    let own : c.len-2.result ≡ length c.frame.inside.names.items = omega arith in
    let long : c.len.result ≡ length c.frame.inside.names.items = omega arith in
    let names : c.len.result ≡ length (take c.len-2.result c.frame.inside.ranges) =
    long ∙ sym (length-map c.frame.inside.names.items (λ (s : String Global). string_bytes s)) ∙ sym c.frame.invariant.ranged ∙ ap (λ (n : ℕ). length (take n c.frame.inside.ranges)) (sym own) in
    subst (λ (scopes : List Scope). All (IsScope (length (take c.len-2.result c.frame.inside.ranges))) (map variables_in scopes)) (sym c.deref-4.ensures.value)
    (subst (λ (n : ℕ). All (IsScope n) (map variables_in c.in_ok-scopes.scopes.items)) names c.in_ok-scopes.ensures.sound.lawful)
