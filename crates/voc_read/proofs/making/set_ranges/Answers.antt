use Rattle.voc_read.proofs.Prelude.{◌≡◌, ◌<◌, [], length, get_or, map, sym, ap, ◌∙◌, pos, w64, SFits, rules, arith, subst, to_z-of_z, length-map, get_or-map, take_all, NamedRange, VariableRange, named_range, with_ranges, IsKnown}
use Rattle.voc_read.proofs.KnownRanges.{numbered}
use Rattle.voc_read.proofs.RangesSet.{Sets, at_first, known_at, one_more}
use Rattle.voc_read.proofs.making.set_ranges.Goals as goal

abbrev none : NamedRange
none = record { name = record { ref_ptr = (0, 0); now = [] }; variable = 0; lowest = pos 0; highest = pos 0 }

pub loop-range-init : goal.loop-range-init
loop-range-init c = at_first c.args.frame.now c.requires.whole

pub with_range-requires : goal.with_range-requires
with_range-requires c =
    let i = c.loop-range.range-index in
    let range : NamedRange = get_or c.args.ranges.now i none in
    let lowest_fits : SFits w64 range.lowest = search rules in
    let highest_fits : SFits w64 range.highest = search rules in
    let within : i < length (map named_range c.args.ranges.now) = omega (arith, length-map c.args.ranges.now named_range, c.loop-range-test.true) in
    let same : get_or (map named_range c.args.ranges.now) i (named_range none) ≡ named_range range = get_or-map named_range c.args.ranges.now i none (named_range none) c.loop-range-test.true in
    let P : VariableRange → Type 0 = IsKnown c.loop-range.frame.names c.loop-range.frame.least_value c.loop-range.frame.value_count in
    let known : P (named_range range) = subst P same (known_at c.args.frame.now c.loop-range.frame (map named_range c.args.ranges.now) _ i (named_range none) c.loop-range.invariant within c.requires.known) in
    simp to_z-of_z record {
      variable = (numbered c.loop-range.frame.names range.name.now range.variable known.numbered).0;
      low = known.low;
      some = known.some;
      high = known.high;
    }

pub loop-range-preserved : goal.loop-range-preserved
loop-range-preserved c =
    let i = c.loop-range.range-index in
    let range : NamedRange = get_or c.args.ranges.now i none in
    let lowest_fits : SFits w64 range.lowest = search rules in
    let highest_fits : SFits w64 range.highest = search rules in
    let within : i < length (map named_range c.args.ranges.now) = omega (arith, length-map c.args.ranges.now named_range, c.loop-range-test.true) in
    let same : get_or (map named_range c.args.ranges.now) i (named_range none) ≡ named_range range = get_or-map named_range c.args.ranges.now i none (named_range none) c.loop-range-test.true in
    let ranges = simp to_z-of_z at c.with_range.ensures.ranges in
    let sets : Sets c.loop-range.frame c.with_range.new.self (named_range range) = record {
      names = c.with_range.ensures.names;
      least_value = c.with_range.ensures.least;
      value_count = c.with_range.ensures.values;
      ranges = ranges;
    } in
    one_more c.args.frame.now c.loop-range.frame c.with_range.new.self (map named_range c.args.ranges.now) i (named_range none) within c.requires.known c.requires.apart c.loop-range.invariant
    (subst (Sets c.loop-range.frame c.with_range.new.self) (sym same) sets)

pub returns : goal.returns
returns c =
    c.loop-range.invariant
    ∙ ap (with_ranges c.args.frame.now) (take_all c.loop-range.range-index (map named_range c.args.ranges.now) (omega (arith, length-map c.args.ranges.now named_range, c.loop-range-test.false)))
