use Rattle.language.proofs.Prelude.{◌≡◌, ◌^◌, ℕ, length, map, sym, ap, subst, ◌∙◌, All, String, string_bytes, Global, Language, given_by, RelPart}
use Rattle.language.proofs.Fields.{some_name, parts_sized, text_here}
use Rattle.language.proofs.lang.Language.candidate_text.Goals as goal

pub text_of_candidate-requires-clause-names : goal.text_of_candidate-requires-clause-names
text_of_candidate-requires-clause-names c = some_name c.self.inside c.self.invariant c.deref.result.now c.deref.ensures.value

pub text_of_candidate-requires-clause-sized : goal.text_of_candidate-requires-clause-sized
text_of_candidate-requires-clause-sized c =
    subst (λ (d : ℕ). All (λ (part : RelPart). length part.table.truth ≡ d ^ part.table.arity) c.deref.result.now) (ap (λ (l : Language). l.value_count) c.self.view_is ∙ sym c.table_on-table.ensures.values)
    (parts_sized c.self.inside c.self.invariant c.deref.result.now c.deref.ensures.value)

pub returns : goal.returns
returns c =
    text_here c.args.self.now c.args.c c.table_on-table.result.now.value_count c.own_ranges-ranges.result.now c.table_on-table.result.now.truth c.scope-scope.result.now
    (map given_by c.deref.result.now) (map (λ (s : String Global). string_bytes s) c.deref-2.result.now) (string_bytes c.in_ok-text.text)
    c.table_on-table.ensures.values c.own_ranges-ranges.ensures.is c.table_on-table.ensures.widened c.scope-scope.ensures.is
    (ap (map given_by) c.deref.ensures.value ∙ ap (λ (l : Language). l.given) c.self.view_is)
    (ap (map (λ (s : String Global). string_bytes s)) c.deref-2.ensures.value ∙ ap (λ (l : Language). l.names) c.self.view_is)
    c.in_ok-text.ensures
