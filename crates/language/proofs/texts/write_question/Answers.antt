use Rattle.language.proofs.Prelude.{◌≡◌, ◌≤◌, ◌<◌, [], ◌∷◌, ◌++◌, ℕ, ℤ, List, length, map, sym, ◌∙◌, ap, arith, subst, to_z, of_z, w64, String, string_bytes, decimal, Global, to_z-of_z, length-map, get_or-map, get_or, is_some, IsSet, value_of, values_text}
use Rattle.assign.proofs.Masks.{rises_where}
use Rattle.language.proofs.InOrder.{shorter}
use Rattle.language.proofs.Wording.{pieces, all_written, values_are_pieces, piece_written, no_pieces, nameless_pieces, small_fits}
use Rattle.language.proofs.texts.write_question.Goals as goal

pub loop-v-init : goal.loop-v-init
loop-v-init c =
    let names : List (List ℕ) = map string_bytes c.args.names.now in
    let few : length names ≤ 128 = omega (arith, c.requires.few, length-map c.args.names.now (λ (s : String Global). string_bytes s)) in
    let least = to_z w64 (of_z w64 c.args.least_value) in (
      subst (λ (set : List ℕ). IsSet set) (sym c.vars-left.ensures) (rises_where (λ v. is_some (value_of c.args.q.now v))),
      ap (λ (t : List ℕ). 113 ∷ (decimal c.args.k ++ t)) (values_are_pieces least names c.args.q.now few ∙ ap (pieces least names c.args.q.now) (sym c.vars-left.ensures))
          ∙ ap (λ t. t ++ pieces least names c.args.q.now c.vars-left.result) (sym (c.in_ok-add_mark.ensures ∙ ap (λ t. t ++ 113 ∷ decimal c.args.k) c.clear.ensures.bytes)),
    )

pub loop-v-preserved : goal.loop-v-preserved
loop-v-preserved c =
    let least = to_z w64 (of_z w64 c.args.least_value) in
    let name = get_or-map (λ (s : String Global). string_bytes s) c.args.names.now c.from-at.result c.index-names-at.result [] c.if-at-names.false in (
      subst (λ (set : List ℕ). IsSet set) (sym c.without-left.ensures) (rises_where _),
      piece_written least (map string_bytes c.args.names.now) c.args.q.now c.in-Some.v c.loop-v.left c.without-left.result _ _ _ c.as_str.result.now c.get.result
          (omega (arith, c.if-at-names.false, c.from-at.ensures, length-map c.args.names.now (λ (s : String Global). string_bytes s)))
          c.loop-v.invariant.0 (sym c.least.ensures.least ∙ c.in-Some.is) c.without-left.ensures
          (c.as_str.ensures.value ∙ ap (λ (s : String Global). string_bytes s) c.index-names-at.is ∙ sym name ∙ ap (λ i. get_or (map string_bytes c.args.names.now) i []) c.from-at.ensures)
          c.get.ensures c.in_ok-add_value.ensures c.loop-v.invariant.1,
    )

pub loop-v-smaller : goal.loop-v-smaller
loop-v-smaller c = shorter c.in-Some.v c.loop-v.left c.without-left.result c.loop-v.invariant.0 (sym c.least.ensures.least ∙ c.in-Some.is) c.without-left.ensures

pub returns-then-at-names : goal.returns-then-at-names
returns-then-at-names c =
    let least = to_z w64 (of_z w64 c.args.least_value) in
    let least_is : least ≡ c.args.least_value = to_z-of_z w64 c.args.least_value (small_fits c.args.least_value c.requires.low c.requires.high) in
    let past : length (map string_bytes c.args.names.now) ≤ c.in-Some.v = omega (arith, c.if-at-names.true, c.from-at.ensures, length-map c.args.names.now (λ (s : String Global). string_bytes s)) in
    let P : ℤ → Type 0 = λ z. string_bytes c.loop-v.text ≡ 113 ∷ (decimal c.args.k ++ values_text z (map string_bytes c.args.names.now) c.args.q.now) in
    subst P least_is (all_written _ _ _ c.loop-v.invariant.1 (nameless_pieces least (map string_bytes c.args.names.now) c.args.q.now c.in-Some.v c.loop-v.left c.loop-v.invariant.0 (sym c.least.ensures.least ∙ c.in-Some.is) past))

pub returns : goal.returns
returns c =
    let least = to_z w64 (of_z w64 c.args.least_value) in
    let least_is : least ≡ c.args.least_value = to_z-of_z w64 c.args.least_value (small_fits c.args.least_value c.requires.low c.requires.high) in
    let P : ℤ → Type 0 = λ z. string_bytes c.loop-v.text ≡ 113 ∷ (decimal c.args.k ++ values_text z (map string_bytes c.args.names.now) c.args.q.now) in
    subst P least_is (all_written _ _ _ c.loop-v.invariant.1 (no_pieces least (map string_bytes c.args.names.now) c.args.q.now c.loop-v.left (sym c.least.ensures.least ∙ c.in_default.is)))
