use Rattle.bias_store.proofs.Prelude.{length, subst, sym, ap, ◌∙◌, All, length-replicate, All-nil, IsCandidate, members_from, ones_of-zero}
use Rattle.bias_store.proofs.Members.{members_from-none}
use Rattle.bias_store.proofs.kept.Kept.of.Goals as goal

pub invariant_of-kept : goal.invariant_of-kept
invariant_of-kept c = sym (ap (λ masks. length (members_from 0 masks)) c.in-Ok.ensures ∙ ap length (members_from-none 0 c.scopes.result 0 ones_of-zero))

pub reset-requires : goal.reset-requires
reset-requires c = record {
  scopes = ap length c.in-Ok.ensures ∙ length-replicate c.scopes.result 0 ∙ c.scopes.ensures.is;
  known = subst (All (IsCandidate c.args.lang.now))
      (sym (ap (members_from 0) c.in-Ok.ensures ∙ members_from-none 0 c.scopes.result 0 ones_of-zero)) (All-nil (IsCandidate c.args.lang.now));
  accepting = c.in_ok-of.ensures;
}
