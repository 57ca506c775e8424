use Rattle.voc_read.proofs.Prelude.{◌≡◌, ◌≢◌, None, Ok, Err, map, subst, sym, ap, ◌∙◌, Some, err_from_is_err_and, items_view, listed_in, names_refusal, listed_items, outline_data, named_range, ranges_of, with_ranges, HaveDistinctVariables, scopes_stated, texts_of, Bor, List, ℕ, ◌≤◌, All, length, length-map, Frame, IsFrame, IsOver, AreKnown, first_repeat}
use Rattle.language.specs.declared.parts.LangFault.TheVariants as lang
use Rattle.voc_read.proofs.KnownRanges.{are_known, known_as}
use Rattle.voc_read.proofs.LanguageMade.{is_language, is_refused, names_refused, outline_refused, ranges_refused, relations_refused, scopes_refused}
use Rattle.voc_read.proofs.making.language_of.Goals as goal

pub set_ranges-requires-clause-known : goal.set_ranges-requires-clause-known
set_ranges-requires-clause-known c =
    known_as _ _ _ _ _ _ _ _ (ap texts_of c.deref-2.ensures.value ∙ sym c.in_ok-frame.ensures.frame.names) c.domain_of-domain.ensures.least c.domain_of-domain.ensures.count
    (ap (map named_range) (sym c.deref-3.ensures.value)) (are_known _ _ _ (items_view c.args.outline.now.ranges.now) _ c.in_ok-ranges.ensures).0

pub set_ranges-requires-clause-apart : goal.set_ranges-requires-clause-apart
set_ranges-requires-clause-apart c =
    subst (λ rs. HaveDistinctVariables (map named_range rs)) (sym c.deref-3.ensures.value) (are_known _ _ _ (items_view c.args.outline.now.ranges.now) _ c.in_ok-ranges.ensures).1

pub returns-in-Ok-clause-ok : goal.returns-in-Ok-clause-ok
returns-in-Ok-clause-ok c =
    is_language _ _ _ _ _ _ _ _ record {
      named = subst (λ names. names_refusal (texts_of names) ≡ None) c.deref.ensures.value c.in_ok-check_names.ensures.refused;
      outlined = c.in_ok-frame.ensures.refused;
      framed = c.in_ok-frame.ensures.frame;
      least = c.domain_of-domain.ensures.least;
      count = c.domain_of-domain.ensures.count;
      ranges = subst (λ names. ranges_of c.domain_of-domain.result.least_value c.domain_of-domain.result.value_count (texts_of names) (items_view c.args.outline.now.ranges.now) ≡ Ok (map named_range c.in_ok-ranges.ranges.items)) c.deref-2.ensures.value c.in_ok-ranges.ensures;
      relations = c.in_ok-given.ensures.is;
      scopes = subst (λ names. scopes_stated (texts_of names) (listed_items c.args.outline.now.listed) ≡ Ok (listed_in c.in_ok-scopes.scopes)) c.deref-4.ensures.value c.in_ok-scopes.ensures.is;
      sets = c.set_ranges.ensures ∙ ap (λ rs. with_ranges c.in_ok-frame.frame (map named_range rs)) c.deref-3.ensures.value;
    } _ c.in-Ok.ensures.made c.in-Ok.ensures.built

pub returns-clause-refused : goal.returns-clause-refused
returns-clause-refused c =
    λ real. let other : c.in-Err.fault ≢ lang.Memory = λ memory. real (c.lang_fault.ensures.memory memory) in
    is_refused _ _ _ _ _ _ _ _ record {
      named = subst (λ names. names_refusal (texts_of names) ≡ None) c.deref.ensures.value c.in_ok-check_names.ensures.refused;
      outlined = c.in_ok-frame.ensures.refused;
      framed = c.in_ok-frame.ensures.frame;
      least = c.domain_of-domain.ensures.least;
      count = c.domain_of-domain.ensures.count;
      ranges = subst (λ names. ranges_of c.domain_of-domain.result.least_value c.domain_of-domain.result.value_count (texts_of names) (items_view c.args.outline.now.ranges.now) ≡ Ok (map named_range c.in_ok-ranges.ranges.items)) c.deref-2.ensures.value c.in_ok-ranges.ensures;
      relations = c.in_ok-given.ensures.is;
      scopes = subst (λ names. scopes_stated (texts_of names) (listed_items c.args.outline.now.listed) ≡ Ok (listed_in c.in_ok-scopes.scopes)) c.deref-4.ensures.value c.in_ok-scopes.ensures.is;
      sets = c.set_ranges.ensures ∙ ap (λ rs. with_ranges c.in_ok-frame.frame (map named_range rs)) c.deref-3.ensures.value;
    } c.in-Err.fault (c.in-Err.ensures.refused other) ∙ ap Some (sym (c.lang_fault.ensures.other other))

pub returns-in_err-check_names-clause-refused : goal.returns-in_err-check_names-clause-refused
returns-in_err-check_names-clause-refused c =
    let p = err_from_is_err_and c.from_residual.result c.from_residual.ensures.1 in
    rw (p.1, p.2) (λ real. names_refused (outline_data c.args.outline.now) _ (subst (λ names. names_refusal (texts_of names) ≡ Some c.in_err-check_names.field-0.0) c.deref.ensures.value (c.in_err-check_names.ensures.refused real)))

pub returns-in_err-frame-clause-refused : goal.returns-in_err-frame-clause-refused
returns-in_err-frame-clause-refused c =
    let p = err_from_is_err_and c.from_residual-in_err-frame.result c.from_residual-in_err-frame.ensures.1 in
    rw (p.1, p.2) (λ real. outline_refused (outline_data c.args.outline.now) _
    (subst (λ names. names_refusal (texts_of names) ≡ None) c.deref.ensures.value c.in_ok-check_names.ensures.refused) (c.in_err-frame.ensures.refused real))

pub returns-in_err-ranges-clause-refused : goal.returns-in_err-ranges-clause-refused
returns-in_err-ranges-clause-refused c =
    let p = err_from_is_err_and c.from_residual-in_err-ranges.result c.from_residual-in_err-ranges.ensures.1 in
    rw (p.1, p.2) (λ real. ranges_refused (outline_data c.args.outline.now) c.in_ok-frame.frame c.domain_of-domain.result.least_value c.domain_of-domain.result.value_count _
    (subst (λ names. names_refusal (texts_of names) ≡ None) c.deref.ensures.value c.in_ok-check_names.ensures.refused) c.in_ok-frame.ensures.refused c.in_ok-frame.ensures.frame c.domain_of-domain.ensures.least c.domain_of-domain.ensures.count
    (subst (λ names. ranges_of c.domain_of-domain.result.least_value c.domain_of-domain.result.value_count (texts_of names) (items_view c.args.outline.now.ranges.now) ≡ Err c.in_err-ranges.field-0.0) c.deref-2.ensures.value (c.in_err-ranges.ensures real)))

pub returns-in_err-given-clause-refused : goal.returns-in_err-given-clause-refused
returns-in_err-given-clause-refused c =
    let p = err_from_is_err_and c.from_residual-in_err-given.result c.from_residual-in_err-given.ensures.1 in
    rw (p.1, p.2) (λ real. relations_refused (outline_data c.args.outline.now) c.in_ok-frame.frame c.domain_of-domain.result.least_value c.domain_of-domain.result.value_count _
    (subst (λ names. names_refusal (texts_of names) ≡ None) c.deref.ensures.value c.in_ok-check_names.ensures.refused) c.in_ok-frame.ensures.refused c.in_ok-frame.ensures.frame c.domain_of-domain.ensures.least c.domain_of-domain.ensures.count
    _ (subst (λ names. ranges_of c.domain_of-domain.result.least_value c.domain_of-domain.result.value_count (texts_of names) (items_view c.args.outline.now.ranges.now) ≡ Ok (map named_range c.in_ok-ranges.ranges.items)) c.deref-2.ensures.value c.in_ok-ranges.ensures) (c.in_err-given.ensures.is real))

pub returns-in_err-scopes-clause-refused : goal.returns-in_err-scopes-clause-refused
returns-in_err-scopes-clause-refused c =
    let p = err_from_is_err_and c.from_residual-in_err-scopes.result c.from_residual-in_err-scopes.ensures.1 in
    rw (p.1, p.2) (λ real. scopes_refused (outline_data c.args.outline.now) c.in_ok-frame.frame c.domain_of-domain.result.least_value c.domain_of-domain.result.value_count _
    (subst (λ names. names_refusal (texts_of names) ≡ None) c.deref.ensures.value c.in_ok-check_names.ensures.refused) c.in_ok-frame.ensures.refused c.in_ok-frame.ensures.frame c.domain_of-domain.ensures.least c.domain_of-domain.ensures.count
    _ _ (subst (λ names. ranges_of c.domain_of-domain.result.least_value c.domain_of-domain.result.value_count (texts_of names) (items_view c.args.outline.now.ranges.now) ≡ Ok (map named_range c.in_ok-ranges.ranges.items)) c.deref-2.ensures.value c.in_ok-ranges.ensures) c.in_ok-given.ensures.is
    (subst (λ names. scopes_stated (texts_of names) (listed_items c.args.outline.now.listed) ≡ Err c.in_err-scopes.field-0.0) c.deref-4.ensures.value (c.in_err-scopes.ensures.is real)))

pub set_ranges-requires-clause-whole : goal.set_ranges-requires-clause-whole
set_ranges-requires-clause-whole c = c.in_ok-frame.ensures.frame.whole

pub ranges_of-requires-clause-apart : goal.ranges_of-requires-clause-apart
ranges_of-requires-clause-apart c = subst (λ names. first_repeat (texts_of names) ≡ None) (c.deref.ensures.value ∙ sym c.deref-2.ensures.value) c.in_ok-check_names.ensures.apart

pub ranges_of-requires-clause-variables : goal.ranges_of-requires-clause-variables
ranges_of-requires-clause-variables c =
    let frame : IsFrame c.in_ok-frame.frame = subst IsFrame c.frame.view_is c.frame.invariant in
    let names = c.args.outline.now.names.items in
    let long : length c.in_ok-frame.frame.names ≡ length c.deref-2.result.now =
    ap length c.in_ok-frame.ensures.frame.names ∙ length-map names (λ (text : Bor (List ℕ)). text.now) ∙ ap length (sym c.deref-2.ensures.value) in
    subst (λ n. n ≤ 128) long frame.few_variables

pub scopes_of-requires-clause-apart : goal.scopes_of-requires-clause-apart
scopes_of-requires-clause-apart c = subst (λ names. first_repeat (texts_of names) ≡ None) (c.deref.ensures.value ∙ sym c.deref-4.ensures.value) c.in_ok-check_names.ensures.apart

pub scopes_of-requires-clause-variables : goal.scopes_of-requires-clause-variables
scopes_of-requires-clause-variables c =
    let frame : IsFrame c.in_ok-frame.frame = subst IsFrame c.frame.view_is c.frame.invariant in
    let names = c.args.outline.now.names.items in
    let long : length c.in_ok-frame.frame.names ≡ length c.deref-4.result.now =
    ap length c.in_ok-frame.ensures.frame.names ∙ length-map names (λ (text : Bor (List ℕ)). text.now) ∙ ap length (sym c.deref-4.ensures.value) in
    subst (λ n. n ≤ 128) long frame.few_variables

pub build-requires-clause-known : goal.build-requires-clause-known
build-requires-clause-known c =
    let names = c.args.outline.now.names.items in
    let long : length c.deref-4.result.now ≡ length c.set_ranges.new.frame.names =
    ap length c.deref-4.ensures.value ∙ sym (length-map names (λ (text : Bor (List ℕ)). text.now)) ∙ ap length (sym c.in_ok-frame.ensures.frame.names) ∙ ap (λ (f : Frame). length f.names) (sym c.set_ranges.ensures) in
    subst (λ n. AreKnown n (listed_in c.in_ok-scopes.scopes)) long c.in_ok-scopes.ensures.known

pub build-requires-clause-tables : goal.build-requires-clause-tables
build-requires-clause-tables c =
    subst (λ d. All (IsOver d) c.in_ok-given.given.items) (c.domain_of-domain.ensures.count ∙ ap (λ (f : Frame). f.value_count) (sym c.set_ranges.ensures)) c.in_ok-given.ensures.kinds

pub build-requires-clause-names : goal.build-requires-clause-names
build-requires-clause-names c = c.in_ok-given.ensures.names
