-- A question that is asked is one that a record can hold.
use Rattle.session_store.proofs.Prelude.{◌≡◌, Bool, IsSome, refl, sym, subst, ℕ, zero, suc, ◌+◌, ◌-◌, ◌<◌, ◌≤◌, List, length, replicate, Option, Some, None, ◌∙◌, ap, arith, length-append, All, ForSome, length-replicate, All-nil, All-cons, All-append, All-weaker, Assignment, widened, Answer, Plan, Language, IsLanguage, IsQuestion, IsAskedAfter, Event, IsWide, IsStorable, IsStorableEvent, answer_event}
use Rattle.assign.specs.declared.events.Event.TheVariants as events
use Rattle.answer_journal.specs.Records.{HasPlace}
use Rattle.session_store.proofs.Asked.{asked_has, widened_has, value_counts}

-- the values that a record can hold
abbrev Small : Option ℕ → Type 0
Small o = ForSome o (λ x. x < 64)

none_small : Small None
none_small x e = absurd (let bad : None ≡ Some x = e in cc)

nones_small : (k : ℕ) → All Small (replicate k None)
nones_small zero = All-nil Small
nones_small (suc k) = All-cons Small None (replicate k None) none_small (nones_small k)

smaller : (d : ℕ) → d ≤ 64 → (o : Option ℕ) → ForSome o (λ x. x < d) → Small o
smaller d few o fits x e = let low = fits x e in omega arith

pub storable : (l : Language) → IsLanguage l → (plan : Plan) (t : List Answer) (q : Assignment) → IsQuestion l q → IsAskedAfter l plan t q → IsStorable (widened q)
storable l lawful plan t q fits asked = record {
  size = length-append q (replicate (128 - length q) None) ∙ ap (λ n. length q + n) (length-replicate (128 - length q) None) ∙ (let size = fits.size in let few = lawful.few_variables in let all : length q + (128 - length q) ≡ 128 = omega arith in all);
  some = value_counts (widened q) (widened_has q (asked_has l lawful plan t q asked));
  values_fit = All-append Small q (replicate (128 - length q) None) (All-weaker (λ o. ForSome o (λ x. x < l.value_count)) Small (smaller l.value_count lawful.few_values) q fits.values_fit) (nones_small (128 - length q));
}

pub storable_wide : (e : Event) → IsStorableEvent e → IsWide e
storable_wide (events.Answer q reply) fits = fits.size
storable_wide events.Back fits = tt

-- an answer has its place in every journal
pub answer_has_room : (raised : Bool) (put : Option Assignment) (said : Bool) (e : Event) → IsSome put → ForSome put (λ q. e ≡ answer_event q said) → HasPlace raised e
answer_has_room raised None said e some is = absurd (let no : ⊥ = cc in no)
answer_has_room raised (Some q) said e some is = subst (HasPlace raised) (sym (is q refl)) tt
