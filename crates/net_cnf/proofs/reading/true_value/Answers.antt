use Rattle.net_cnf.proofs.Prelude.{◌≡◌, ℕ, ◌+◌, ◌-◌, ◌<◌, ◌≤◌, Bool, true, false, List, Option, get_or, sym, ◌∙◌, ap, arith, range_with_len, option_to_list, Language, boolean, boolean_number, positive_signs, true_values, only_of}
use Rattle.std.specs.Prelude.{filter}
use Rattle.net_cnf.proofs.Numbers.{number_fits}
use Rattle.net_cnf.proofs.Runs.{IsValue, first_of, size_of, values-run}
use Rattle.net_cnf.proofs.Valuing.{truth_there, two_leave_none_of, first_listed, none_listed, only_listed, value_below}
use Rattle.net_cnf.proofs.reading.true_value.Goals as goal
use Rattle.net_cnf.proofs.reading.true_value.Goals.{then-signs-number_of+else-is_some, else-signs-number_of, After-number_of}

among : (c : After-number_of) → IsValue c.args.lang.now c.args.v c.loop-x.x
among c =
    let range = c.range-first.ensures in
    record {
      variable = c.requires.variable;
      from = omega (arith, range.first);
      to = omega (arith, range.last);
      fits = omega (arith, range.known);
    }

from_first : (c : After-number_of) → first_of c.args.lang.now c.args.v ≤ c.loop-x.x
from_first c = (among c).from

pub overflow_sub-number_of : goal.overflow_sub-number_of
overflow_sub-number_of c =
    let fits = number_fits c.args.lang.now c.args.v c.loop-x.x (among c) in
    let is = c.number_of.ensures in
    omega (arith, is, fits.0)

pub bounds-signs-number_of : goal.bounds-signs-number_of
bounds-signs-number_of c =
    let fits = number_fits c.args.lang.now c.args.v c.loop-x.x (among c) in
    let is = c.number_of.ensures in
    let long = c.requires.long in
    omega (arith, is, fits.1, long)

-- whether the Boolean of the value is true
truth : (c : After-number_of) (b : Bool) → (get_or c.args.signs.now (c.number_of.result - 1) (record { positive = false; negative = false })).positive ≡ b →
    get_or (positive_signs c.args.signs.now) (boolean_number c.args.lang.now (boolean c.args.v c.loop-x.x) - 1) false ≡ b
truth c b is = truth_there c.args.lang.now c.args.signs.now c.args.v c.loop-x.x c.number_of.result (record { positive = false; negative = false }) b (among c) c.requires.long c.number_of.ensures is

pub returns-then-is_some-clause-is : goal.returns-then-is_some-clause-is
returns-then-is_some-clause-is c =
    let l = c.args.lang.now in
    let p : ℕ → Bool = λ x. get_or (positive_signs c.args.signs.now) (boolean_number l (boolean c.args.v x) - 1) false in
    let at = (goal.at.returns-then-is_some-clause-is c).After-number_of in
    let range = c.range-first.ensures in
    let low : c.loop-x.x < first_of l c.args.v + size_of l c.args.v = omega (arith, range.first, range.last, range.some, range.known) in
    sym (ap (λ xs. only_of (filter p xs)) (values-run l c.args.v)
    ∙ two_leave_none_of p (first_of l c.args.v) c.loop-x.x (size_of l c.args.v) c.loop-x.value (from_first at) low c.loop-x.invariant (sym c.is_some.ensures ∙ c.if-is_some.true) (truth at true c.if-signs-number_of.true))

pub loop-x-preserved : goal.loop-x-preserved
loop-x-preserved c =
    let l = c.args.lang.now in
    let p : ℕ → Bool = λ x. get_or (positive_signs c.args.signs.now) (boolean_number l (boolean c.args.v x) - 1) false in
    let at = (goal.at.loop-x-preserved c).After-number_of in
    elim c.if-signs-number_of.branch [
      | then-signs-number_of+else-is_some w ↦
          first_listed p (first_of l c.args.v) c.loop-x.x c.loop-x.value (from_first at) c.loop-x.invariant (sym w.is_some.ensures ∙ w.if-is_some.false) (truth at true w.if-signs-number_of.true) ∙ ap option_to_list (sym w.value-is)
      | else-signs-number_of w ↦ none_listed p (first_of l c.args.v) c.loop-x.x c.loop-x.value (from_first at) c.loop-x.invariant (truth at false w.if-signs-number_of.false) ∙ ap option_to_list (sym w.value-is)
    ]

-- the values that were all looked at are the variable's
whole : (l : Language) (positive_signs : List Bool) (v x : ℕ) (value : Option ℕ) → x - first_of l v ≡ size_of l v →
    filter (λ y. get_or positive_signs (boolean_number l (boolean v y) - 1) false) (range_with_len (first_of l v) (x - first_of l v)) ≡ option_to_list value → value ≡ only_of (true_values l positive_signs v)
whole l positive_signs v x value all listed =
    let p : ℕ → Bool = λ y. get_or positive_signs (boolean_number l (boolean v y) - 1) false in
    sym (ap only_of (ap (filter p) (values-run l v) ∙ ap (λ n. filter p (range_with_len (first_of l v) n)) (sym all) ∙ listed) ∙ only_listed value)

pub returns-clause-is : goal.returns-clause-is
returns-clause-is c =
    let l = c.args.lang.now in
    let range = c.range-first.ensures in
    let all : c.loop-x.x - first_of l c.args.v ≡ size_of l c.args.v = omega (arith, range.first, range.last, range.some, range.known) in
    whole l (positive_signs c.args.signs.now) c.args.v c.loop-x.x c.loop-x.value all c.loop-x.invariant

pub returns-clause-fits : goal.returns-clause-fits
returns-clause-fits c =
    let l = c.args.lang.now in
    let range = c.range-first.ensures in
    let all : c.loop-x.x - first_of l c.args.v ≡ size_of l c.args.v = omega (arith, range.first, range.last, range.some, range.known) in
    value_below l (positive_signs c.args.signs.now) c.args.v c.loop-x.value c.requires.variable (whole l (positive_signs c.args.signs.now) c.args.v c.loop-x.x c.loop-x.value all c.loop-x.invariant)
