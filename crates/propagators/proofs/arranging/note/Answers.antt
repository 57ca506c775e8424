use Rattle.propagators.proofs.Prelude.{◌≡◌, ◌<◌, ◌+◌, ◌*◌, ◌/◌, ◌%◌, ◌∙◌, length, arith, length-set, mul-add-lt, div_below}
use Rattle.propagators.proofs.Parting.{set_grows, noted_more, noted_only}
use Rattle.propagators.proofs.arranging.note.Goals as goal

pub loop-v-preserved : goal.loop-v-preserved
loop-v-preserved c =
    let small = c.requires.known c.loop-v.v-index 0 c.loop-v-test.true in
    let is = c.from.ensures in
    let v : c.from.result < 128 = omega arith in
    let word : c.args.i / 64 < c.args.words = div_below c.args.i 64 c.args.words (omega arith) c.requires.low in
    let fits = mul-add-lt (c.args.i / 64) 128 c.from.result c.args.words word v in
    let long = c.loop-v.invariant.long in
    let low : c.args.i / 64 * 128 + c.from.result < length c.loop-v.sets = omega arith in
    record {
      long = length-set c.loop-v.sets (c.args.i / 64 * 128 + c.from.result) c.add_value.result ∙ c.loop-v.invariant.long;
      grows = λ q b h. set_grows c.loop-v.sets (c.args.i / 64 * 128 + c.from.result) c.add_value.result (c.args.i % 64) low c.add_value.ensures q b (c.loop-v.invariant.grows q b h);
      there = noted_more c.args.scope.now c.args.words c.args.i c.loop-v.v-index c.loop-v.sets (c.args.i / 64 * 128 + c.from.result) c.add_value.result c.from.result (let e : c.args.i / 64 * 128 + c.from.result ≡ c.args.i / 64 * 128 + c.from.result = cc in e) c.from.ensures low c.add_value.ensures c.loop-v.invariant.there;
      only = noted_only c.args.scope.now c.args.sets.now c.args.i c.loop-v.v-index c.loop-v.sets (c.args.i / 64 * 128 + c.from.result) c.add_value.result c.from.result (let e : c.args.i / 64 * 128 + c.from.result ≡ c.args.i / 64 * 128 + c.from.result = cc in e) c.from.ensures v c.loop-v-test.true low c.add_value.ensures c.loop-v.invariant.only;
    }
