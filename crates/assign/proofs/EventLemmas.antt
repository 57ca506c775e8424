-- What a further answer adds to those that stand.
use Rattle.assign.proofs.Prelude.{◌≡◌, ℕ, ◌-◌, Bool, List, [], ◌∷◌, ◌++◌, length, take, replicate, None, refl, ◌∙◌, ap, take_at, map-append, Assignment, widened}
use Rattle.assign.specs.Events.{Answer, standing, standing_from, without_last, cut_to}
use Rattle.assign.specs.declared.events.Event.{Event}
use Rattle.assign.specs.declared.events.Event.TheVariants as events

-- the variables of an assignment, after it was widened
pub take-widened : (e : Assignment) (n : ℕ) → length e ≡ n → take n (widened e) ≡ e
take-widened e n size = take_at e (replicate (128 - length e) None) n size

pub standing_from-append : (before : List Answer) (past more : List Event) →
    standing_from before (past ++ more) ≡ standing_from (standing_from before past) more
standing_from-append before [] more = refl
standing_from-append before (events.Answer q y ∷ past) more =
    standing_from-append (before ++ (let a : Answer = record { question = q; yes = y } in a) ∷ []) past more
standing_from-append before (events.Back ∷ past) more = standing_from-append (without_last before) past more

pub standing-push : (past : List Event) (question : Assignment) (reply : Bool) →
    standing (past ++ events.Answer question reply ∷ []) ≡ standing past ++ (let a : Answer = record { question = question; yes = reply } in a) ∷ []
standing-push past question reply = standing_from-append [] past (events.Answer question reply ∷ [])

-- a take-back removes the last answer that stands
pub standing-back : (past : List Event) → standing (past ++ events.Back ∷ []) ≡ without_last (standing past)
standing-back past = standing_from-append [] past (events.Back ∷ [])

-- an answer that is recorded stands after those before it, its question as it was asked
pub cut_to-standing-push : (n : ℕ) (past : List Event) (question : Assignment) (reply : Bool) → length question ≡ n →
    cut_to n (standing (past ++ events.Answer (widened question) reply ∷ []))
    ≡ cut_to n (standing past) ++ (let a : Answer = record { question = question; yes = reply } in a) ∷ []
cut_to-standing-push n past question reply size =
    ap (cut_to n) (standing-push past (widened question) reply)
    ∙ map-append (λ (a : Answer). record { question = take n a.question; yes = a.yes }) (standing past) _
    ∙ ap (λ q. cut_to n (standing past) ++ (let a : Answer = record { question = q; yes = reply } in a) ∷ []) (take-widened question n size)
