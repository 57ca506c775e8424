use Rattle.voc_read.proofs.Prelude.{◌≡◌, length, sym, ap, subst, ◌∙◌, option_map, replicate, length-map, string_bytes, String, Global, texts_of, whole_range, AreNames, frame_refusal, values_between, Lang, SFits, w64, to_z-of_z, rules}
use Rattle.voc_read.proofs.making.frame_of.Goals as goal

pub new-requires : goal.new-requires
new-requires c = record { names = subst AreNames (sym (c.in_ok-names.ensures ∙ ap texts_of c.deref.ensures.value)) c.requires }

pub returns-in-Err-clause-refused : goal.returns-in-Err-clause-refused
returns-in-Err-clause-refused c = λ _.
    let texts = c.in_ok-names.ensures ∙ ap texts_of c.deref.ensures.value in
    let least : SFits w64 c.args.outline.now.least_value = search rules in
    let greatest : SFits w64 c.args.outline.now.greatest_value = search rules in
    ap (option_map Lang) ((λ i. frame_refusal (sym texts i) (sym (to_z-of_z w64 c.args.outline.now.least_value least) i) (sym (to_z-of_z w64 c.args.outline.now.greatest_value greatest) i)) ∙ c.in-Err.ensures.refused)

pub returns-in-Ok-clause-refused : goal.returns-in-Ok-clause-refused
returns-in-Ok-clause-refused c =
    let texts = c.in_ok-names.ensures ∙ ap texts_of c.deref.ensures.value in
    let least : SFits w64 c.args.outline.now.least_value = search rules in
    let greatest : SFits w64 c.args.outline.now.greatest_value = search rules in
    ap (option_map Lang) ((λ i. frame_refusal (sym texts i) (sym (to_z-of_z w64 c.args.outline.now.least_value least) i) (sym (to_z-of_z w64 c.args.outline.now.greatest_value greatest) i)) ∙ c.in-Ok.ensures.made)

pub returns-in-Ok-clause-frame : goal.returns-in-Ok-clause-frame
returns-in-Ok-clause-frame c =
    let texts = c.in_ok-names.ensures ∙ ap texts_of c.deref.ensures.value in
    let many : length c.in_ok-names.names.items ≡ length c.in-Ok.frame.names =
    sym (length-map c.in_ok-names.names.items (λ (s : String Global). string_bytes s)) ∙ ap length (sym c.in-Ok.ensures.names) in
    let low : SFits w64 c.args.outline.now.least_value = search rules in
    let high : SFits w64 c.args.outline.now.greatest_value = search rules in
    let least = to_z-of_z w64 c.args.outline.now.least_value low in
    let greatest = to_z-of_z w64 c.args.outline.now.greatest_value high in
    record {
      names = c.in-Ok.ensures.names ∙ texts;
      least_value = c.in-Ok.ensures.least ∙ least;
      value_count = c.in-Ok.ensures.values ∙ (λ i. values_between (least i) (greatest i));
      whole = c.in-Ok.ensures.ranges ∙ (λ i. replicate (many i) (whole_range (sym c.in-Ok.ensures.values i)));
    }
