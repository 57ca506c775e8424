-- Runs in which each reply is an answer. They end by themselves: nothing is left to ask, or no network agrees, or the budget was too small.
use Rattle.acq_cli.proofs.Prelude.{◌≡◌, ◌∙◌, ℕ, zero, suc, ◌+◌, ◌<◌, ◌≤◌, Bool, true, List, [], ◌∷◌, ◌++◌, length, Option, Some, None, ap, subst, sym, refl, arith, append_assoc, length-append, All, flat_map, option_map, All-head, All-tail, Assignment, Answer, Event, Plan, Scopes, cut_to-standing-push, Candidate, Language, IsLanguage, accepts, variable_count, kept, standing_on, Undecided, next_query, most_answers, State, Idle, Over, open_question, scope_question, answer_event, Spoken, spoken, spoken_in, no_answer_text, turned_by, hear_line, hear, line_turn, net_turn, Turns, Turned, turned_after, Said, Unread, IsAnswerLine, HasRecordsLeft, Closing, Converged, Collapsed, Next, Puts, Ends, puts_or, searched, idle_next, next_at, next_in, next_after, next_on, number_on, Ran, after_text, answer, ended, heard_on, turned_on, put_on, ran, Terms, IsReached, next_ends, next_put, placed, puts_next, room_not_full, sized_at, run_laws}
use Rattle.acq_io.specs.Lines.{newline}
use Rattle.acq_io.proofs.LineLemmas.{line_of-line}
use Rattle.query_gen.specs.declared.query.Query.{Query}
use Rattle.query_gen.specs.declared.query.Query.TheVariants.{Ask, Undecided}
use Rattle.session_laws.proofs.Counted.{answers_are_at_most}

-- ---- how a run ends where nothing is put

-- it ends by itself
abbrev pub EndsItself : Closing → Type 0
EndsItself Converged = Unit {0}
EndsItself Collapsed = Unit {0}
EndsItself Undecided = Unit {0}
EndsItself closing = ⊥

abbrev NextIsFine : Next → Type 0
NextIsFine (Puts q) = Unit {0}
NextIsFine (Ends closing) = EndsItself closing

puts_fine : (closing : Closing) (o : Option Assignment) → EndsItself closing → NextIsFine (puts_or closing o)
puts_fine closing None fine = fine
puts_fine closing (Some q) fine = tt

searched_fine : (x : Query) → NextIsFine (searched x)
searched_fine (Ask q) = tt
searched_fine x = tt

idle_fine : (l : Language) (plan : Plan) (budget : ℕ) (live network : List Candidate) → NextIsFine (idle_next l plan budget live network)
idle_fine l Scopes budget live network = puts_fine Converged (scope_question l live network) tt
idle_fine l plan budget live network = searched_fine (next_query l network live budget)

next_fine : (l : Language) (terms : Terms) (t : List Answer) (state : State) → NextIsFine (next_at l terms t state)
next_fine l terms t (Idle network end) = idle_fine l terms.plan terms.budget (kept l t network) network
next_fine l terms t (Over network) = tt
next_fine l terms t state = puts_fine Collapsed (open_question l state) tt

-- a question that is due has a number below the most
one_more_fits : (l : Language) → IsLanguage l → (plan : Plan) (t : List Answer) (a : Answer) → IsReached l plan (t ++ a ∷ []) → length t + 1 ≤ most_answers l
one_more_fits l lawful plan t a (state, at) = let most = answers_are_at_most l plan (t ++ a ∷ []) state lawful at in omega (arith, length-append t (a ∷ []))

-- so there is a record for what is said to it
due_has_room : (l : Language) → IsLanguage l → (terms : Terms) (events : List Event) (q : Assignment) → IsReached l terms.plan (standing_on l events) → HasRecordsLeft l events → next_after l terms (standing_on l events) ≡ Some (Puts q) → length events + 1 < 1000000
due_has_room l lawful terms events q reached room due =
    let t : List Answer = standing_on l events in
    let more = one_more_fits l lawful terms.plan t (answer q true) (placed run_laws l lawful terms t q true reached due) in
    omega (arith, more, room)

-- a run that ends where the answers have a place and there is room ends by itself
ends_fine : (l : Language) → IsLanguage l → (terms : Terms) (events : List Event) (closing : Closing) → IsReached l terms.plan (standing_on l events) → HasRecordsLeft l events → next_on l terms events ≡ Some (Ends closing) → EndsItself closing
ends_fine l lawful terms events closing (state, at) room due = go (next_at l terms (standing_on l events) state) refl
  where
    next_is : (n : Next) → next_at l terms (standing_on l events) state ≡ n → next_after l terms (standing_on l events) ≡ Some n
    next_is n is = ap (next_in l terms (standing_on l events)) at ∙ ap (λ (x : Next). Some x) is

    go : (n : Next) → next_at l terms (standing_on l events) state ≡ n → EndsItself closing
    go (Ends other) is =
        let ends = next_ends l terms events other (next_is (Ends other) is) in
        let same : other ≡ closing = cc in
        subst EndsItself same (subst NextIsFine is (next_fine l terms (standing_on l events) state))
    go (Puts q) is =
        let puts = next_is (Puts q) is in
        let left = due_has_room l lawful terms events q (state, at) room puts in
        let put = next_put l terms events q puts (room_not_full events left) in
        absurd (let no : ⊥ = cc in no)

-- ---- turns that hear an answer

-- the turn hears an answer, and leaves as much as is said
pub record Answers (turned : Turned) (Left : List ℕ → Type 0) : Type 0 where
  pub said : Bool
  pub hears : turned.heard.reply ≡ Said said
  pub left : Left turned.heard.rest

-- each turn takes one answer of those that are left
abbrev pub AnswersEach : Turns → (ℕ → List ℕ → Type 0) → Type 0
AnswersEach turns Left = (l : Language) (k : ℕ) (q : Assignment) (n : ℕ) (bytes : List ℕ) → Left (suc n) bytes → Answers (turns l k q bytes) (Left n)

-- a run, of what comes after its first turn
goes : (text : List ℕ) (o : Option Ran) (run : Ran) → option_map (after_text text) o ≡ Some run → (first : Ran) × (o ≡ Some first) × (first.closing ≡ run.closing)
goes text None run h = absurd (let no : ⊥ = cc in no)
goes text (Some first) run h = (first, refl, let e : after_text text first ≡ run = cc in ap (λ (r : Ran). r.closing) e)

module _ (turns : Turns) (Left : ℕ → List ℕ → Type 0) (each : AnswersEach turns Left) (l : Language) (lawful : IsLanguage l) (terms : Terms) where
  -- there are enough answers left, and records for them
  abbrev HasLeft : ℕ → List Event → List ℕ → Type 0
  HasLeft n events bytes = IsReached l terms.plan (standing_on l events) × (most_answers l ≤ length (standing_on l events) + n) × Left n bytes × HasRecordsLeft l events

  abbrev Fine : ℕ → Type 0
  Fine count = (n : ℕ) (events : List Event) (bytes : List ℕ) (run : Ran) → HasLeft n events bytes → ran turns l terms count events bytes ≡ Some run → EndsItself run.closing

  -- a turn, and what follows
  put_fine : (count n : ℕ) (events : List Event) (bytes : List ℕ) (q : Assignment) (run : Ran) → Fine count → HasLeft n events bytes → next_on l terms events ≡ Some (Puts q) →
      turned_on (ran turns l terms count) events q (turns l (number_on l events) q bytes) ≡ Some run → EndsItself run.closing
  put_fine count zero events bytes q run again (reached, enough, left, room) due is =
      let t : List Answer = standing_on l events in
      let puts = puts_next l terms events q due in
      let more = one_more_fits l lawful terms.plan t (answer q true) (placed run_laws l lawful terms t q true reached puts.due) in
      absurd (omega (arith, more, enough))
  put_fine count (suc n) events bytes q run again (reached, enough, left, room) due is =
      let t : List Answer = standing_on l events in
      let puts = puts_next l terms events q due in
      let turned : Turned = turns l (number_on l events) q bytes in
      let heard = each l (number_on l events) q n bytes left in
      let said : Bool = heard.said in
      let here : next_at l terms t reached.0 ≡ Puts q = (let at = ap (next_in l terms t) reached.1 in let due = puts.due in cc) in
      let size : length q ≡ variable_count l = sized_at run_laws l lawful terms t reached.0 q reached.1 here in
      let grown : standing_on l (events ++ answer_event q said ∷ []) ≡ t ++ answer q said ∷ [] = cut_to-standing-push (variable_count l) events q said size in
      let on = goes turned.text (heard_on (ran turns l terms count) events q turned.heard.rest turned.heard.reply) run is in
      let next : ran turns l terms count (events ++ answer_event q said ∷ []) turned.heard.rest ≡ Some on.0 =
      sym (ap (heard_on (ran turns l terms count) events q turned.heard.rest) heard.hears) ∙ on.1 in
      let long : length (standing_on l (events ++ answer_event q said ∷ [])) ≡ length t + 1 = ap length grown ∙ length-append t (answer q said ∷ []) in
      subst EndsItself on.2
      (again n (events ++ answer_event q said ∷ []) turned.heard.rest on.0
      (subst (IsReached l terms.plan) (sym grown) (placed run_laws l lawful terms t q said reached puts.due), omega (arith, enough, long), heard.left, omega (arith, room, long, length-append events (answer_event q said ∷ []))) next)

  -- what comes next is put, or ends the run
  next_by : (count n : ℕ) (events : List Event) (bytes : List ℕ) (run : Ran) (o : Option Next) → Fine count → HasLeft n events bytes → next_on l terms events ≡ o →
      put_on (λ q. turned_on (ran turns l terms count) events q (turns l (number_on l events) q bytes)) events bytes o ≡ Some run → EndsItself run.closing
  next_by count n events bytes run None again has due is = absurd (let no : ⊥ = cc in no)
  next_by count n events bytes run (Some (Ends closing)) again has due is =
      let same : ended closing events bytes ≡ run = cc in
      subst EndsItself (ap (λ (r : Ran). r.closing) same) (ends_fine l lawful terms events closing has.0 has.3 due)
  next_by count n events bytes run (Some (Puts q)) again has due is = put_fine count n events bytes q run again has due is

  -- a run with enough answers ends by itself
  pub ends_itself : (count : ℕ) → Fine count
  unfolding ran
  ends_itself zero n events bytes run has is = absurd (let no : ⊥ = cc in no)
  ends_itself (suc count) n events bytes run has is = next_by count n events bytes run (next_on l terms events) (ends_itself count) has refl is

-- ---- lines

-- so many lines that are answers
pub record HasLines (n : ℕ) (bytes : List ℕ) : Type 0 where
  pub lines : List (List ℕ)
  pub rest : List ℕ
  pub is : bytes ≡ flat_map (λ line. line ++ newline ∷ []) lines ++ rest
  pub each : All IsAnswerLine lines
  pub many : n ≤ length lines

-- what a line that is an answer says
speaks : (k : ℕ) (line rest : List ℕ) (a : IsAnswerLine line) → spoken k (line ++ newline ∷ rest) ≡ (let s : Spoken = record { says = Some (Said a.said); rest = rest } in s)
speaks k line rest a =
    ap (spoken_in k) (line_of-line line rest a.one a.short) ∙ ap (λ r. let s : Spoken = record { says = r; rest = rest } in s) (a.says k)

hears_said : (k : ℕ) (bytes : List ℕ) (said : Bool) (patience : ℕ) → (spoken k bytes).says ≡ Some (Said said) → hear k patience bytes ≡ turned_by (Said said) (spoken k bytes).rest
unfolding hear
hears_said k bytes said zero h = ap (hear_line (turned_by Unread) (spoken k bytes).rest) h
hears_said k bytes said (suc patience) h = ap (hear_line (λ rest. turned_after no_answer_text (hear k patience rest)) (spoken k bytes).rest) h

pub lines_answer : AnswersEach line_turn HasLines
lines_answer l k q n bytes has = go has.lines has.is has.each has.many
  where
    go : (lines : List (List ℕ)) → bytes ≡ flat_map (λ line. line ++ newline ∷ []) lines ++ has.rest → All IsAnswerLine lines → suc n ≤ length lines → Answers (line_turn l k q bytes) (HasLines n)
    go [] is each many = absurd (omega (arith, many))
    go (line ∷ lines) is each many =
        let a : IsAnswerLine line = All-head IsAnswerLine line lines each in
        let later : List ℕ = flat_map (λ x. x ++ newline ∷ []) lines ++ has.rest in
        let first : bytes ≡ line ++ newline ∷ later = is ∙ append_assoc (line ++ newline ∷ []) (flat_map (λ x. x ++ newline ∷ []) lines) has.rest ∙ append_assoc line (newline ∷ []) later in
        let told : spoken k bytes ≡ (let s : Spoken = record { says = Some (Said a.said); rest = later } in s) = ap (spoken k) first ∙ speaks k line later a in
        let heard : hear k 999 bytes ≡ turned_by (Said a.said) (spoken k bytes).rest = hears_said k bytes a.said 999 (ap (λ (s : Spoken). s.says) told) in
        record {
          said = a.said;
          hears = ap (λ (t : Turned). t.heard.reply) heard;
          left = subst (HasLines n) (sym (ap (λ (t : Turned). t.heard.rest) heard ∙ ap (λ (s : Spoken). s.rest) told))
              (record { lines = lines; rest = has.rest; is = refl; each = All-tail IsAnswerLine line lines each; many = omega (arith, many) });
        }

-- ---- a network

abbrev pub AsMany : ℕ → List ℕ → Type 0
AsMany n bytes = Unit {0}

pub network_answers : (target : List Candidate) (quiet : Bool) → AnswersEach (net_turn target quiet) AsMany
network_answers target quiet l k q n bytes has = record { said = accepts l target q; hears = refl; left = tt }
