-- A whole list of words with options.
use Rattle.acq_words.proofs.Prelude.{◌≡◌, ℕ, ◌==◌, Bool, true, false, not, List, [], ◌∷◌, ◌++◌, refl, ap, ap₂, ◌∙◌, ◌||◌, ◌&&◌, sym, append-nil, append_assoc, map, codes, Some, fold, subst, if◌then◌else◌, is_some, list_all, list_any, bytes_eq, parser_of_value, check_fault, default_fault, entered_fault, settle_fault, turn_fault, use_fault, given_default_fault, Kinds, or_else, built, entered, accepts, Held, Row, Rule, Text, Walk, default_rows, finished, has_row, is_empty, nothing_held, reacted, reading_by, settled, used, walk, walk_from, walked, with_default, ListsAreParsed, positional_row, positional_rows, row_of, faults_in, line, rows_in, Name, Written, are_once, begins_bare, budget, dashed, id_of, is_accepted, is_option_named, number, plan, rule_named, words_of_option, words_of_options}
use Rattle.clap.specs.Faults.{defaults_fault, walk_fault}
use Rattle.acq_words.proofs.Steps.{at_options, between, given, joined_step, joined_turn, name_step, name_turn, positional_step, positional_turn, row_at, rule_at, rules, top, use_fresh, used_fresh, value_step, value_turn}
use Rattle.std.proofs.lemmas.Bool.{and_from, and_parts, not-true, or_parts}

-- ---- What is held between two options

-- all that was said so far is taken, and it comes to these rows
pub record Holds (h : Held) (rows : List Row) : Type 0 where
  pub taken : settle_fault rules false h ≡ []
  pub come : (settled rules h).rows ≡ rows

abbrev pub accepts_at : Name → Text → Bool
accepts_at name v = accepts false (parser_of_value (rule_named name).parser) v

module _ (name : Name) (h : Held) (rows : List Row) (holds : Holds h rows) (fresh : has_row (id_of name) rows ≡ false) where
  joined_holds : (v : Text) → Holds (reacted rules (rule_at name) (v ∷ []) h) (rows ++ row_at name v ∷ [])
  joined_holds v = record {
    taken = refl;
    come = ap (used (rule_at name) (v ∷ [])) holds.come ∙ used_fresh name v rows fresh;
  }

  no_fault : (v : Text) → accepts_at name v ≡ true → use_fault false (rule_at name) (v ∷ []) (settled rules h).rows ≡ []
  no_fault v passes = ap (use_fault false (rule_at name) (v ∷ [])) holds.come ∙ use_fresh name v rows fresh passes

  joined_taken : (v : Text) → accepts_at name v ≡ true → turn_fault top [] (at_options h) (dashed name ++ 61 ∷ v) ≡ []
  joined_taken v passes = joined_turn name v h ∙ ap₂ (λ f g. or_else (or_else f g) []) holds.taken (no_fault v passes)

  name_taken : turn_fault top [] (at_options h) (dashed name) ≡ []
  name_taken = name_turn name h ∙ ap (λ f. or_else f []) holds.taken

-- where its value came as the next word, it waits to be used
settles_given : (name : Name) (v : Text) (h : Held) → settle_fault rules false (given name v h) ≡ use_fault false (rule_at name) (v ∷ []) (settled rules h).rows
settles_given plan v h = refl
settles_given budget v h = refl
settles_given number v h = refl

settled_given : (name : Name) (v : Text) (h : Held) → (settled rules (given name v h)).rows ≡ used (rule_at name) (v ∷ []) (settled rules h).rows
settled_given plan v h = refl
settled_given budget v h = refl
settled_given number v h = refl

given_holds : (name : Name) (h : Held) (rows : List Row) → Holds h rows → has_row (id_of name) rows ≡ false → (v : Text) → accepts_at name v ≡ true → Holds (given name v h) (rows ++ row_at name v ∷ [])
given_holds name h rows holds fresh v passes = record {
  taken = settles_given name v h ∙ no_fault name h rows holds fresh v passes;
  come = settled_given name v h ∙ ap (used (rule_at name) (v ∷ [])) holds.come ∙ used_fresh name v rows fresh;
}

-- ---- One option

-- the words lead from one place between options to another, and no fault is found in them
pub record Leads (h : Held) (words : List Text) (end : Held) : Type 0 where
  pub walks : fold (walked rules []) (at_options h) words ≡ at_options end
  pub taken : walk_fault top [] (at_options h) words ≡ []

-- and the words after these are met there
pub record LeadsOn (h : Held) (words : List Text) (end : Held) : Type 0 where
  pub walks : (rest : List Text) → fold (walked rules []) (at_options h) (words ++ rest) ≡ fold (walked rules []) (at_options end) rest
  pub taken : (rest : List Text) → walk_fault top [] (at_options h) (words ++ rest) ≡ walk_fault top [] (at_options end) rest

pub record Moves (h : Held) (words : List Text) (rows : List Row) : Type 0 where
  pub end : Held
  pub leads : LeadsOn h words end
  pub holds : Holds end rows

joined_leads : (name : Name) (v : Text) (h : Held) → turn_fault top [] (at_options h) (dashed name ++ 61 ∷ v) ≡ [] → LeadsOn h ((dashed name ++ 61 ∷ v) ∷ []) (reacted rules (rule_at name) (v ∷ []) h)
unfolding walk_fault
joined_leads name v h none = record {
  walks = λ rest. ap (λ w. fold (walked rules []) w rest) (joined_step name v h);
  taken = λ rest. ap₂ (λ f w. or_else f (walk_fault top [] w rest)) none (joined_step name v h);
}

given_leads : (name : Name) (x : ℕ) (j : Text) (h : Held) → (x == 45) ≡ false → turn_fault top [] (at_options h) (dashed name) ≡ [] → LeadsOn h (dashed name ∷ (x ∷ j) ∷ []) (given name (x ∷ j) h)
unfolding walk_fault
given_leads name x j h bare none = record {
  walks = λ rest. ap (λ w. fold (walked rules []) (walked rules [] w (x ∷ j)) rest) (name_step name h) ∙ ap (λ w. fold (walked rules []) w rest) (value_step name x j h bare);
  taken = λ rest. ap₂ (λ f w. or_else f (or_else (turn_fault top [] w (x ∷ j)) (walk_fault top [] (walked rules [] w (x ∷ j)) rest))) none (name_step name h)
      ∙ ap₂ (λ f w. or_else f (walk_fault top [] w rest)) (value_turn name x j h bare) (value_step name x j h bare);
}

one_option : (name : Name) (v : Text) (is_joined : Bool) (h : Held) (rows : List Row) → Holds h rows → has_row (id_of name) rows ≡ false → accepts_at name v ≡ true → (is_joined || begins_bare v) ≡ true →
    Moves h (words_of_option (record { name = name; value = v; is_joined = is_joined })) (rows ++ row_at name v ∷ [])
one_option name v true h rows holds fresh passes bare = record {
  end = reacted rules (rule_at name) (v ∷ []) h;
  leads = joined_leads name v h (joined_taken name h rows holds fresh v passes);
  holds = joined_holds name h rows holds fresh v;
}
one_option name [] false h rows holds fresh passes bare = cc
one_option name (x ∷ j) false h rows holds fresh passes bare = record {
  end = given name (x ∷ j) h;
  leads = given_leads name x j h (not-true (x == 45) bare) (name_taken name h rows holds fresh);
  holds = given_holds name h rows holds fresh (x ∷ j) passes;
}

-- ---- All options

-- no row stands there for any of the options
abbrev pub are_fresh : List Row → List Written → Bool
are_fresh rows = list_all (λ o. not (has_row (id_of o.name) rows))

or_false : (b : Bool) → (b || false) ≡ b
or_false true = refl
or_false false = refl

has_one_more : (id : Text) (rows : List Row) (r : Row) → has_row id rows ≡ false → bytes_eq r.id id ≡ false → has_row id (rows ++ r ∷ []) ≡ false
has_one_more id [] r none other = or_false (bytes_eq r.id id) ∙ other
has_one_more id (s ∷ rows) r none other = go (bytes_eq s.id id) refl (λ rest. has_one_more id rows r rest other)
  where
    go : (b : Bool) → bytes_eq s.id id ≡ b → (has_row id rows ≡ false → has_row id (rows ++ r ∷ []) ≡ false) → has_row id (s ∷ rows ++ r ∷ []) ≡ false
    go true e more =
        let no : true ≡ false = rw e at none in
        cc
    go false e more = rw e (more (rw e at none))

fresh_after : (o : Written) (options : List Written) (rows : List Row) → are_fresh rows options ≡ true → list_any (is_option_named o.name) options ≡ false → are_fresh (rows ++ row_of o ∷ []) options ≡ true
fresh_after o [] rows fresh other = refl
fresh_after o (p ∷ options) rows fresh other =
    let here = and_parts (not (has_row (id_of p.name) rows)) _ fresh in
    let there = or_parts (is_option_named o.name p) _ other in
    and_from _ _ (ap not (has_one_more (id_of p.name) rows (row_of o) (not-true _ here.0) there.0)) (fresh_after o options rows here.1 there.1)

pub options_lead : (options : List Written) (h : Held) (rows : List Row) → Holds h rows → are_fresh rows options ≡ true → are_once options ≡ true → list_all is_accepted options ≡ true →
    (end : Held) × Leads h (words_of_options options) end × Holds end (rows ++ map row_of options)
unfolding walk_fault
options_lead [] h rows holds fresh once accepted = (h, record { walks = refl; taken = refl }, subst (Holds h) (sym (append-nil rows)) holds)
options_lead (o ∷ options) h rows holds fresh once accepted =
    let here = and_parts (not (has_row (id_of o.name) rows)) _ fresh in
    let first = and_parts (not (list_any (is_option_named o.name) options)) _ once in
    let passes = and_parts (is_accepted o) _ accepted in
    let value = and_parts (accepts_at o.name o.value) _ passes.0 in
    let moves = one_option o.name o.value o.is_joined h rows holds (not-true _ here.0) value.0 value.1 in
    let rest = options_lead options moves.end (rows ++ row_of o ∷ []) moves.holds (fresh_after o options rows here.1 (not-true _ first.0)) first.1 passes.1 in (
      rest.0,
      record {
        walks = moves.leads.walks (words_of_options options) ∙ rest.1.walks;
        taken = moves.leads.taken (words_of_options options) ∙ rest.1.taken;
      },
      subst (Holds rest.0) (append_assoc rows (row_of o ∷ []) (map row_of options)) rest.2,
    )

-- ---- The journal, the command and the options

abbrev after_journal : Text → Held
after_journal w = record { rows = []; pending = Some (codes "JOURNAL", w ∷ []); skip = 0 }

abbrev pub after_both : Text → Text → Held
after_both w v = record { rows = positional_row (codes "JOURNAL") w ∷ []; pending = Some (codes "COMMAND", v ∷ []); skip = 0 }

journal_step : (x : ℕ) (j : Text) → (x == 45) ≡ false → walked rules [] (walk_from nothing_held) (x ∷ j) ≡ between (after_journal (x ∷ j)) 2
journal_step x j bare = positional_step rules 1 x j nothing_held bare

journal_taken : (x : ℕ) (j : Text) → (x == 45) ≡ false → turn_fault top [] (walk_from nothing_held) (x ∷ j) ≡ []
journal_taken x j bare = positional_turn top 1 x j nothing_held bare

command_step : (w : Text) (x : ℕ) (k : Text) → (x == 45) ≡ false → walked rules [] (between (after_journal w) 2) (x ∷ k) ≡ at_options (after_both w (x ∷ k))
command_step w x k bare = positional_step rules 2 x k (after_journal w) bare

command_taken : (w : Text) (x : ℕ) (k : Text) → (x == 45) ≡ false → turn_fault top [] (between (after_journal w) 2) (x ∷ k) ≡ []
command_taken w x k bare = positional_turn top 2 x k (after_journal w) bare

both_hold : (w v : Text) → Holds (after_both w v) (positional_rows w v)
both_hold w v = record { taken = refl; come = refl }

no_row_yet : (w v : Text) (name : Name) → has_row (id_of name) (positional_rows w v) ≡ false
no_row_yet w v plan = refl
no_row_yet w v budget = refl
no_row_yet w v number = refl

all_fresh : (w v : Text) (options : List Written) → are_fresh (positional_rows w v) options ≡ true
all_fresh w v [] = refl
all_fresh w v (o ∷ options) = and_from _ _ (ap not (no_row_yet w v o.name)) (all_fresh w v options)

walk_of : (x : ℕ) (j : Text) (y : ℕ) (k : Text) (ws : List Text) → (x == 45) ≡ false → (y == 45) ≡ false →
    walk rules [] nothing_held ((x ∷ j) ∷ (y ∷ k) ∷ ws) ≡ fold (walked rules []) (at_options (after_both (x ∷ j) (y ∷ k))) ws
walk_of x j y k ws bare bare' =
    ap (λ w. fold (walked rules []) (walked rules [] w (y ∷ k)) ws) (journal_step x j bare) ∙ ap (λ w. fold (walked rules []) w ws) (command_step (x ∷ j) y k bare')

faults_of : (x : ℕ) (j : Text) (y : ℕ) (k : Text) (ws : List Text) → (x == 45) ≡ false → (y == 45) ≡ false →
    walk_fault top [] (walk_from nothing_held) ((x ∷ j) ∷ (y ∷ k) ∷ ws) ≡ walk_fault top [] (at_options (after_both (x ∷ j) (y ∷ k))) ws
unfolding walk_fault
faults_of x j y k ws bare bare' =
    ap₂ (λ f w. or_else f (or_else (turn_fault top [] w (y ∷ k)) (walk_fault top [] (walked rules [] w (y ∷ k)) ws))) (journal_taken x j bare) (journal_step x j bare)
    ∙ ap₂ (λ f w. or_else f (walk_fault top [] w ws)) (command_taken (x ∷ j) y k bare') (command_step (x ∷ j) y k bare')

-- ---- After the walk

abbrev HaveNoDefaults : List Rule → Type 0
HaveNoDefaults [] = Unit {0}
HaveNoDefaults (a ∷ rest) = (a.defaults ≡ []) × HaveNoDefaults rest

either_way : {A : Type 0} (b : Bool) (x : A) → (if b then x else x) ≡ x
either_way true x = refl
either_way false x = refl

or_true : (b : Bool) → (b || true) ≡ true
or_true true = refl
or_true false = refl

no_default : (rows : List Row) (a : Rule) → a.defaults ≡ [] → with_default rows a ≡ rows
no_default rows a none = ap (λ ds. if has_row a.id rows then rows else default_rows a.id (reading_by a) ds rows) none ∙ either_way (has_row a.id rows) rows

no_default_fault : (rows : List Row) (a : Rule) → a.defaults ≡ [] → default_fault rows a ≡ []
no_default_fault rows a none =
    ap (λ ds. if has_row a.id rows || is_empty ds then [] else given_default_fault a ds) none ∙ ap (λ b. if b then [] else given_default_fault a []) (or_true (has_row a.id rows))

no_defaults : (rows : List Row) (rest : List Rule) → HaveNoDefaults rest → fold with_default rows rest ≡ rows
no_defaults rows [] none = refl
no_defaults rows (a ∷ rest) none = ap (λ r. fold with_default r rest) (no_default rows a none.0) ∙ no_defaults rows rest none.1

no_defaults_fault : (rows : List Row) (rest : List Rule) → HaveNoDefaults rest → defaults_fault rows rest ≡ []
unfolding defaults_fault
no_defaults_fault rows [] none = refl
no_defaults_fault rows (a ∷ rest) none =
    ap₂ (λ f r. or_else f (defaults_fault r rest)) (no_default_fault rows a none.0) (no_default rows a none.0) ∙ no_defaults_fault rows rest none.1

none_here : HaveNoDefaults rules
none_here = (refl, (refl, (refl, (refl, (refl, (refl, tt))))))

-- the journal and the command are there
check_passes : (w v : Text) (rows : List Row) → check_fault top (positional_rows w v ++ rows) false ≡ []
check_passes w v rows = refl

abbrev after_walk : Walk → Kinds
after_walk w = or_else (entered_fault (built line) w.stopped)
    (or_else (settle_fault rules false w.held) (or_else (defaults_fault (settled rules w.held).rows rules) (check_fault top (finished rules w.held) (is_some (entered (built line) w.stopped)))))

abbrev at_end : List Row → Kinds
at_end rows = or_else (defaults_fault rows rules) (check_fault top (fold with_default rows rules) false)

end_taken : (w v : Text) (rows : List Row) (end : Held) → Holds end (positional_rows w v ++ rows) → after_walk (at_options end) ≡ []
end_taken w v rows end holds =
    ap₂ (λ f rs. or_else f (at_end rs)) holds.taken holds.come
    ∙ ap₂ (λ f rs. or_else f (check_fault top rs false)) (no_defaults_fault (positional_rows w v ++ rows) rules none_here) (no_defaults (positional_rows w v ++ rows) rules none_here)
    ∙ check_passes w v rows

-- ---- All of it

module _ (x : ℕ) (j : Text) (y : ℕ) (k : Text) (options : List Written) (bare : (x == 45) ≡ false) (bare' : (y == 45) ≡ false) (once : are_once options ≡ true) (accepted : list_all is_accepted options ≡ true) where
  leads : (end : Held) × Leads (after_both (x ∷ j) (y ∷ k)) (words_of_options options) end × Holds end (positional_rows (x ∷ j) (y ∷ k) ++ map row_of options)
  leads = options_lead options (after_both (x ∷ j) (y ∷ k)) (positional_rows (x ∷ j) (y ∷ k)) (both_hold (x ∷ j) (y ∷ k)) (all_fresh (x ∷ j) (y ∷ k) options) once accepted

  pub plain_taken : faults_in ((x ∷ j) ∷ (y ∷ k) ∷ words_of_options options) ≡ []
  unfolding faults_in
  plain_taken =
      let words = words_of_options options in
      ap₂ (λ f w. or_else f (after_walk w)) (faults_of x j y k words bare bare' ∙ leads.1.taken) (walk_of x j y k words bare bare' ∙ leads.1.walks)
      ∙ end_taken (x ∷ j) (y ∷ k) (map row_of options) leads.0 leads.2

  pub plain_rows : rows_in ((x ∷ j) ∷ (y ∷ k) ∷ words_of_options options) ≡ positional_rows (x ∷ j) (y ∷ k) ++ map row_of options
  unfolding rows_in
  plain_rows =
      let words = words_of_options options in
      ap (λ (w : Walk). finished rules w.held) (walk_of x j y k words bare bare' ∙ leads.1.walks)
      ∙ no_defaults (settled rules leads.0).rows rules none_here
      ∙ leads.2.come

pub lists_are_parsed : ListsAreParsed
lists_are_parsed [] command options journal_bare command_bare once accepted = cc
lists_are_parsed (x ∷ j) [] options journal_bare command_bare once accepted = cc
lists_are_parsed (x ∷ j) (y ∷ k) options journal_bare command_bare once accepted =
    let bare = not-true (x == 45) journal_bare in
    let bare' = not-true (y == 45) command_bare in
    (ap is_empty (plain_taken x j y k options bare bare' once accepted), plain_rows x j y k options bare bare' once accepted)
