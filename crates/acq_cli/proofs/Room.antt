-- Journals with a record for each answer that their session may still take.
use Rattle.acq_cli.proofs.Prelude.{All, All-head, All-tail, Answer, Event, IsAnswer, List, RoomIsLeft, [], answers_fit, arith, inl, inr, length, length-append, standing_from, standing_size, ◌++◌, ◌+◌, ◌∷◌, ◌≡◌}
use Rattle.assign.specs.declared.events.Event.TheVariants as event

-- where nothing was taken back each answer stands
all_stand : (events : List Event) (before : List Answer) → All IsAnswer events → length (standing_from before events) ≡ length before + length events
all_stand [] before each = omega arith
all_stand (event.Answer q reply ∷ more) before each =
    let a : Answer = record { question = q; yes = reply } in
    omega (arith, all_stand more (before ++ a ∷ []) (All-tail IsAnswer (event.Answer q reply) more each), length-append before (a ∷ []))
all_stand (event.Back ∷ more) before each = absurd (All-head IsAnswer event.Back more each)

pub room_is_left : RoomIsLeft
room_is_left l events lawful (inl answers) = let fit = answers_fit l lawful in let all = all_stand events [] answers in omega (arith, fit, all, standing_size l events)
room_is_left l events lawful (inr left) = omega (arith, left)
