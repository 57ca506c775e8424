-- What `play` has done, of what its target said.
use Rattle.acq_cli.proofs.Prelude.{All, All-cons, All-head, All-nil, All-tail, Answer, Assignment, Bool, Candidate, Drove, Ending, Err, Event, HasEnded, HasSameSolutions, IfOk, IsAdded, IsAnsweredBy, IsDone, IsLanguage, IsNetwork, Language, List, MayAdd, MayEnd, Ok, Option, Plan, Put, Result, Some, TellsFull, Terms, Tries, Turns, [], accepts, agrees, answer, ap, append-nil, append_assoc, arith, cut_to-standing-push, due_reached, false, few_answers, inl, inr, learned_after, learned_in, length, loop_end, loops_by, net_may_say, okay, refl, standing_on, subst, suc, sym, told_of_answer, true, variable_count, ℕ, ⊎_elim, ◌&&◌, ◌++◌, ◌∙◌, ◌∷◌, ◌≡◌, ◌≢◌}
use Rattle.std.specs.Bool.{beq}
use Rattle.acq_loop.specs.declared.driving.Drove.TheVariants as drove
use Rattle.acq_loop.specs.declared.ending.Ending.TheVariants as ending

-- no answers
pub none_at_all : (t : List Answer) → length t ≡ 0 → t ≡ []
none_at_all [] none = refl
none_at_all (a ∷ t) none = absurd (let no : ⊥ = cc in no)

-- what it may say of an answer is that it gives it
says_so : (l : Language) (target : List Candidate) (q : Assignment) (yes : Bool) → net_may_say target l q (told_of_answer yes) → beq (accepts l target q) yes ≡ true
says_so l target q true said = ap (λ b. beq b true) said
says_so l target q false said = ap (λ b. beq b false) said

abbrev Given : Language → List Candidate → Answer → Type 0
Given l target a = net_may_say target l a.question (told_of_answer a.yes)

agreeing_all : (l : Language) (target : List Candidate) (t : List Answer) → All (Given l target) t → agrees l target t ≡ true
agreeing_all l target [] given = refl
agreeing_all l target (a ∷ t) given =
    ap (λ b. b && agrees l target t) (says_so l target a.question a.yes (All-head (Given l target) a t given)) ∙ agreeing_all l target t (All-tail (Given l target) a t given)

-- the events that such a network adds are those of its own answers, which stand behind those from before
record IsOwnGrowth (l : Language) (target : List Candidate) (past more : List Event) : Type 0 where
  answers : List Answer
  given : All (Given l target) answers
  stand : standing_on l (past ++ more) ≡ standing_on l past ++ answers
  count : length answers ≡ length more

abbrev OwnEvent : Language → List Candidate → Event → Type 0
OwnEvent l target e = MayAdd l (net_may_say target l) e

own_growth : (l : Language) (target : List Candidate) (more past : List Event) → All (OwnEvent l target) more → IsOwnGrowth l target past more
own_growth l target [] past each = record {
  answers = [];
  given = All-nil (Given l target);
  stand = ap (standing_on l) (append-nil past) ∙ sym (append-nil (standing_on l past));
  count = refl;
}
own_growth l target (e ∷ more) past each = go (All-head (OwnEvent l target) e more each) (own_growth l target more (past ++ e ∷ []) (All-tail (OwnEvent l target) e more each))
  where
    go : OwnEvent l target e → IsOwnGrowth l target (past ++ e ∷ []) more → IsOwnGrowth l target past (e ∷ more)
    go (inl own) rest =
        let q : Assignment = own.0.question in
        let a : Answer = answer q own.0.yes in
        let one : standing_on l (past ++ e ∷ []) ≡ standing_on l past ++ a ∷ [] =
        ap (λ (x : Event). standing_on l (past ++ x ∷ [])) own.1 ∙ cut_to-standing-push (variable_count l) past q own.0.yes own.2.size in
        record {
          answers = a ∷ rest.answers;
          given = All-cons (Given l target) a rest.answers own.3 rest.given;
          stand = ap (standing_on l) (sym (append_assoc past (e ∷ []) more)) ∙ rest.stand ∙ ap (λ (t : List Answer). t ++ rest.answers) one ∙ append_assoc (standing_on l past) (a ∷ []) rest.answers;
          count = ap (λ n. suc n) rest.count;
        }
    go (inr back) rest = absurd back.2

-- answers that were added to none are its own
pub agreeing_added : (l : Language) (plan : Plan) (target : List Candidate) (before after : List Event) → standing_on l before ≡ [] → IsAdded l plan (net_may_say target l) before after → agrees l target (standing_on l after) ≡ true
agreeing_added l plan target before after none added =
    let own = own_growth l target added.more before added.each in
    ap (agrees l target) (ap (standing_on l) added.is ∙ own.stand ∙ ap (λ (t : List Answer). t ++ own.answers) none) ∙ agreeing_all l target own.answers own.given

-- where it added all events, they are fewer than a journal takes
pub not_filled : (l : Language) (terms : Terms) (target : List Candidate) (before after : List Event) (how : Drove) → IsLanguage l → before ≡ [] → IsAdded l terms.plan (net_may_say target l) before after → TellsFull l terms after how → how ≡ drove.JournalFull → ⊥
not_filled l terms target before after how lawful none added tells is =
    let full = tells.0 is in
    let own = own_growth l target added.more before added.each in
    let few = few_answers l terms.plan (standing_on l after) lawful (due_reached l terms (standing_on l after) _ full.0.1) in
    let start : standing_on l before ≡ [] = ap (standing_on l) none in
    let stand : length (standing_on l after) ≡ length own.answers =
    ap (λ (t : List Answer). length t) (ap (standing_on l) added.is ∙ own.stand ∙ ap (λ (t : List Answer). t ++ own.answers) start) in
    let all : length after ≡ length added.more = ap (λ (es : List Event). length es) (added.is ∙ ap (λ (es : List Event). es ++ added.more) none) in
    omega (arith, few, stand, own.count, all, full.1)

-- what was found is true of it
pub has_same : (l : Language) (terms : Terms) (t : List Answer) (target : List Candidate) → IsNetwork l target → agrees l target t ≡ true → IsDone l terms t → HasSameSolutions l target (learned_after l terms t)
has_same l terms t target lawful agreeing done =
    subst (HasSameSolutions l target) (sym (ap learned_in done.idle)) (done.converged.only target lawful agreeing)

-- what it may say stops nothing
abbrev pub IsUnstopped : Ending → Type 0
IsUnstopped end = ((m : ℕ) → end ≢ ending.Suspended m) × (end ≢ ending.LineTooLong) × (end ≢ ending.Unreadable) × (end ≢ ending.ReadFault)

pub unstopped : (l : Language) (target : List Candidate) (got : Result Ending Put) → MayEnd (net_may_say target l) got → IfOk got IsUnstopped
unstopped l target (Err e) said = tt
unstopped l target (Ok end) said =
    let May : Ending → Type 0 = λ x. MayEnd (net_may_say target l) (okay x) in
    (λ m is. ⊎_elim (λ no. no) (λ no. no) (subst May is said).1, λ is. (subst May is said).1, λ is. (subst May is said).1, λ is. (subst May is said).1)

pub answered : (turns : Turns) (l : Language) (terms : Terms) (target : List Candidate) (before after : List Event) (left written left' written' : Option (List ℕ)) (got : Result Ending Put) → IsNetwork l target → standing_on l before ≡ [] →
    IsAdded l terms.plan (net_may_say target l) before after → MayEnd (net_may_say target l) got → IfOk got (Tries turns l terms before after left written left' written') → IsAnsweredBy target l terms (standing_on l after) got
answered turns l terms target before after left written left' written' got lawful none added said tries = record {
  agreeing = agreeing;
  no_collapse = λ m is. (found (ending.Collapsed m) (drove.Collapsed m) is refl).found.none target lawful agreeing;
  unstopped = unstopped l target got said;
  same = λ m is. has_same l terms (standing_on l after) target lawful agreeing (found (ending.Converged m) (drove.Converged m) is refl).found;
}
  where
    agreeing : agrees l target (standing_on l after) ≡ true
    agreeing = agreeing_added l terms.plan target before after none added

    -- what it has found, where it ended so
    found : (end : Ending) (was : Drove) → got ≡ okay end → loop_end end ≡ Some was → HasEnded l terms (standing_on l after) was
    found end was is so =
        let Tried : Result Ending Put → Type 0 = λ r. IfOk r (Tries turns l terms before after left written left' written') in
        let tried = subst Tried is tries in
        subst (HasEnded l terms (standing_on l after)) (loops_by tried.how was end tried.is so) tried.ended.says
