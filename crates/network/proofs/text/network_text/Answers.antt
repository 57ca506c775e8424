use Rattle.network.proofs.Prelude.{◌≡◌, ℕ, ◌<◌, ◌≤◌, List, [], ◌∷◌, ◌++◌, get_or, length, take, sym, ◌∙◌, ap, subst, string_bytes, flat_map, flat_map_more, take_all, take_more, Candidate, IsCandidate, candidate_text, network_text}
use Rattle.network.proofs.text.network_text.Goals as goal

-- what an index past the end would read
abbrev past_end : Candidate
past_end = record { scope = 0; rel = 0 }

pub candidate_text-requires : goal.candidate_text-requires
candidate_text-requires c =
    let i : ℕ = c.loop-c.c-index in
    subst (λ (list : List Candidate). IsCandidate c.args.lang.now (get_or list i past_end)) (sym c.list-c-items.ensures)
    (c.requires i past_end (subst (λ (list : List Candidate). i < length list) c.list-c-items.ensures c.loop-c-test.true))

pub loop-c-preserved : goal.loop-c-preserved
loop-c-preserved c =
    let list : List Candidate = c.args.net.now.list in
    let i : ℕ = c.loop-c.c-index in
    let low : i < length list = subst (λ (xs : List Candidate). i < length xs) c.list-c-items.ensures c.loop-c-test.true in
    let line : Candidate → List ℕ = λ x. candidate_text c.args.lang.now x ++ 10 ∷ [] in
    let here = c.deref.ensures ∙ c.in_ok-line.ensures ∙ ap (λ (xs : List Candidate). candidate_text c.args.lang.now (get_or xs i past_end)) c.list-c-items.ensures in
    let whole : string_bytes c.add_line.new.text ≡ string_bytes c.loop-c.text ++ (c.deref.result.now ++ 10 ∷ []) = c.in_ok-add_line.ensures in
    whole ∙ (λ k. c.loop-c.invariant k ++ (here k ++ 10 ∷ []))
    ∙ flat_map_more line [] (take i list) (get_or list i past_end)
    ∙ sym (ap (flat_map line) (take_more list i past_end low))

pub returns : goal.returns
returns c =
    let all = subst (λ (xs : List Candidate). length xs ≤ c.loop-c.c-index) c.list-c-items.ensures c.loop-c-test.false in
    c.loop-c.invariant ∙ ap (network_text c.args.lang.now) (take_all c.loop-c.c-index c.args.net.now.list all)
