-- A word more, where all that was said so far is taken.
use Rattle.acq_words.proofs.Prelude.{◌≡◌, ℕ, ◌==◌, Bool, true, false, List, [], ◌∷◌, ◌++◌, refl, ap, ◌∙◌, append-nil, codes, Some, None, if◌then◌else◌, option_and_then, bytes_eq, parser_of_value, flag_word_fault, other_fault, react_fault, settle_fault, step_fault, turn_fault, use_fault, bundle_fault, or_else, long_of, long_of_rest, short_of, short_of_rest, strip_byte, Shape, built, filled, accepts, Held, Row, Rule, Text, Waiting, Walk, after_step, arg_by_index, at_row, has_row, idle, long_or_other, more_values, next, option, plain_word, reacted, reading_by, settled, short_or_plain, to_positional, trailing, used, used_as, value, with_values, without, word_met, Reading, line, Name, budget, dashed, id_of, number, plan, rule_named}
use Rattle.std.specs.Option.{option_map_or}
use Rattle.clap.specs.Walk.{walked}
use Rattle.clap.specs.declared.builder.action.ArgAction.TheVariants.{Set}
use Rattle.clap.specs.declared.parser.matches.ValueSource.TheVariants.{CommandLine}

abbrev pub top : Shape
top = (built line).top

abbrev pub rules : List Rule
rules = top.rules

abbrev pub rule_at : Name → Rule
rule_at name = filled (rule_named name)

-- ---- Rows

-- the row of an option with this value
abbrev pub row_at : Name → Text → Row
row_at name v = record { id = id_of name; values = v ∷ []; count = None; source = Some CommandLine; reading = reading_by (rule_at name) }

at_fresh : (id : Text) (change : Row → List Row) (missing rows : List Row) → has_row id rows ≡ false → at_row id change missing rows ≡ rows ++ missing
at_fresh id change missing [] fresh = refl
at_fresh id change missing (r ∷ rs) fresh = go (bytes_eq r.id id) refl (λ rest. at_fresh id change missing rs rest)
  where
    go : (b : Bool) → bytes_eq r.id id ≡ b → (has_row id rs ≡ false → at_row id change missing rs ≡ rs ++ missing) → at_row id change missing (r ∷ rs) ≡ (r ∷ rs) ++ missing
    go true e more =
        let no : true ≡ false = rw e at fresh in
        cc
    go false e more = rw e (ap (λ rest. r ∷ rest) (more (rw e at fresh)))

without_fresh : (id : Text) (rows : List Row) → has_row id rows ≡ false → without id rows ≡ rows
without_fresh id rows fresh = at_fresh id (λ _. []) [] rows fresh ∙ append-nil rows

used_once : (id : Text) (how : Reading) (v : Text) (rows : List Row) → has_row id rows ≡ false →
    used_as Set id how (v ∷ []) rows ≡ rows ++ (record { id = id; values = v ∷ []; count = None; source = Some CommandLine; reading = how }) ∷ []
used_once id how v rows fresh = ap (with_values id how CommandLine (v ∷ [])) (without_fresh id rows fresh) ∙ at_fresh id (more_values CommandLine (v ∷ [])) _ rows fresh

-- an option that wasn't used gets its row
pub used_fresh : (name : Name) (v : Text) (rows : List Row) → has_row (id_of name) rows ≡ false → used (rule_at name) (v ∷ []) rows ≡ rows ++ row_at name v ∷ []
used_fresh plan v rows fresh = used_once (codes "plan") (reading_by (rule_at plan)) v rows fresh
used_fresh budget v rows fresh = used_once (codes "budget") (reading_by (rule_at budget)) v rows fresh
used_fresh number v rows fresh = used_once (codes "number") (reading_by (rule_at number)) v rows fresh

-- and is used without a fault, where its value is accepted
pub use_fresh : (name : Name) (v : Text) (rows : List Row) → has_row (id_of name) rows ≡ false → accepts false (parser_of_value (rule_named name).parser) v ≡ true → use_fault false (rule_at name) (v ∷ []) rows ≡ []
use_fresh plan v rows fresh passes = rw fresh refl
use_fresh budget v rows fresh passes = rw (fresh, passes) refl
use_fresh number v rows fresh passes = rw (fresh, passes) refl

-- ---- A word that begins with no hyphen

strip_none : (x : ℕ) (j : Text) → (x == 45) ≡ false → strip_byte 45 (x ∷ j) ≡ None
strip_none x j bare = rw bare refl

two_dashes : (x : ℕ) (j : Text) → (x == 45) ≡ false → bytes_eq (x ∷ j) (45 ∷ 45 ∷ []) ≡ false
two_dashes x j bare = rw bare refl

long_none : (x : ℕ) (j : Text) → (x == 45) ≡ false → long_of (x ∷ j) ≡ None
long_none x j bare = ap (λ o. option_and_then long_of_rest (option_and_then (strip_byte 45) o)) (strip_none x j bare)

short_none : (x : ℕ) (j : Text) → (x == 45) ≡ false → short_of (x ∷ j) ≡ None
short_none x j bare = ap (λ o. option_and_then short_of_rest o) (strip_none x j bare)

bare_met : (rs : List Rule) (waiting : Waiting) (position x : ℕ) (j : Text) (h : Held) → (x == 45) ≡ false → long_or_other rs waiting (x ∷ j) (long_of (x ∷ j)) h ≡ plain_word rs waiting (x ∷ j) h
bare_met rs waiting position x j h bare =
    ap (λ o. long_or_other rs waiting (x ∷ j) o h) (long_none x j bare) ∙ ap (λ o. short_or_plain rs waiting (x ∷ j) o h) (short_none x j bare)

bare_fault : (s : Shape) (x : ℕ) (j : Text) (h : Held) → (x == 45) ≡ false → other_fault s None (x ∷ j) h ≡ []
bare_fault s x j h bare =
    ap (λ b. if b then [] else flag_word_fault s.rules s.args_override_self (long_of (x ∷ j)) (x ∷ j) h) (two_dashes x j bare)
    ∙ ap (λ o. flag_word_fault s.rules s.args_override_self o (x ∷ j) h) (long_none x j bare)
    ∙ ap (λ o. option_map_or (λ flags. bundle_fault s.rules s.args_override_self flags h) o []) (short_none x j bare)

-- where nothing waits, it is a positional's
idle_met : (rs : List Rule) (position x : ℕ) (j : Text) (h : Held) → (x == 45) ≡ false → word_met rs [] false idle position (x ∷ j) h ≡ (h, value)
idle_met rs position x j h bare =
    ap (λ b. if b then (h, trailing position) else long_or_other rs idle (x ∷ j) (long_of (x ∷ j)) h) (two_dashes x j bare) ∙ bare_met rs idle position x j h bare

-- and where an option waits, its value
option_met : (rs : List Rule) (id : Text) (position x : ℕ) (j : Text) (h : Held) → (x == 45) ≡ false → word_met rs [] false (option id) position (x ∷ j) h ≡ plain_word rs (option id) (x ∷ j) h
option_met rs id position x j h bare =
    ap (λ b. if b then (h, trailing position) else long_or_other rs (option id) (x ∷ j) (long_of (x ∷ j)) h) (two_dashes x j bare) ∙ bare_met rs (option id) position x j h bare

-- ---- The walk at a positional

abbrev pub between : Held → ℕ → Walk
between h position = record { held = h; waiting = idle; position = position; is_trailing = false; stopped = None }

pub positional_step : (rs : List Rule) (position x : ℕ) (j : Text) (h : Held) → (x == 45) ≡ false →
    walked rs [] (between h position) (x ∷ j) ≡ to_positional rs (arg_by_index rs position) (x ∷ j) (between h position) h
unfolding walked
positional_step rs position x j h bare = ap (λ met. after_step rs (x ∷ j) (between h position) met.0 met.1) (idle_met rs position x j h bare)

pub positional_turn : (s : Shape) (position x : ℕ) (j : Text) (h : Held) → (x == 45) ≡ false →
    turn_fault s [] (between h position) (x ∷ j) ≡ step_fault s position h value
positional_turn s position x j h bare =
    ap (λ f. or_else f (step_fault s position (word_met s.rules [] false idle position (x ∷ j) h).0 (word_met s.rules [] false idle position (x ∷ j) h).1)) (bare_fault s x j h bare)
    ∙ ap (λ met. step_fault s position met.0 met.1) (idle_met s.rules position x j h bare)

-- ---- The walk at an option

abbrev pub at_options : Held → Walk
at_options h = between h 3

-- its name and its value in one word
pub joined_step : (name : Name) (v : Text) (h : Held) → walked rules [] (at_options h) (dashed name ++ 61 ∷ v) ≡ at_options (reacted rules (rule_at name) (v ∷ []) h)
unfolding walked
joined_step plan v h = refl
joined_step budget v h = refl
joined_step number v h = refl

pub joined_turn : (name : Name) (v : Text) (h : Held) → turn_fault top [] (at_options h) (dashed name ++ 61 ∷ v) ≡ or_else (react_fault rules false (rule_at name) (v ∷ []) h) []
joined_turn plan v h = refl
joined_turn budget v h = refl
joined_turn number v h = refl

-- its name alone
abbrev pub waits : Name → Held → Walk
waits name h = record (at_options (record (settled rules h) { pending = Some (id_of name, []) })) { waiting = option (id_of name) }

pub name_step : (name : Name) (h : Held) → walked rules [] (at_options h) (dashed name) ≡ waits name h
unfolding walked
name_step plan h = refl
name_step budget h = refl
name_step number h = refl

pub name_turn : (name : Name) (h : Held) → turn_fault top [] (at_options h) (dashed name) ≡ or_else (settle_fault rules false h) []
name_turn plan h = refl
name_turn budget h = refl
name_turn number h = refl

-- its value, as the next word
abbrev pub given : Name → Text → Held → Held
given name v h = record (settled rules h) { pending = Some (id_of name, v ∷ []) }

met_in : (name : Name) (x : ℕ) (j : Text) (h : Held) → (x == 45) ≡ false → word_met rules [] false (option (id_of name)) 3 (x ∷ j) (waits name h).held ≡ (given name (x ∷ j) h, next idle)
met_in plan x j h bare = option_met rules (codes "plan") 3 x j (waits plan h).held bare
met_in budget x j h bare = option_met rules (codes "budget") 3 x j (waits budget h).held bare
met_in number x j h bare = option_met rules (codes "number") 3 x j (waits number h).held bare

pub value_step : (name : Name) (x : ℕ) (j : Text) (h : Held) → (x == 45) ≡ false → walked rules [] (waits name h) (x ∷ j) ≡ at_options (given name (x ∷ j) h)
unfolding walked
value_step name x j h bare = ap (λ met. after_step rules (x ∷ j) (waits name h) met.0 met.1) (met_in name x j h bare)

pub value_turn : (name : Name) (x : ℕ) (j : Text) (h : Held) → (x == 45) ≡ false → turn_fault top [] (waits name h) (x ∷ j) ≡ []
value_turn name x j h bare =
    ap (λ f. or_else f (step_fault top 3 (word_met rules [] false (option (id_of name)) 3 (x ∷ j) (waits name h).held).0 (word_met rules [] false (option (id_of name)) 3 (x ∷ j) (waits name h).held).1)) (bare_fault top x j (waits name h).held bare)
    ∙ ap (λ met. step_fault top 3 met.0 met.1) (met_in name x j h bare)
