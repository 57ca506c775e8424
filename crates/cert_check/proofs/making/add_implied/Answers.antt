use Rattle.cert_check.proofs.Prelude.{◌≡◌, false, length, get_or, codes, Some, sym, ◌∙◌, ap, subst, All, flat_map, take_all, Candidate, number_of, Long, is_long, refutation_of, count_line, listed_line}
use Rattle.std.specs.Prelude.{option_map}
use Rattle.cert_check.proofs.Finding.{within, fails_more}
use Rattle.cert_check.proofs.Listing.{find_none, find_at, section_added}
use Rattle.cert_check.proofs.Sheets.{adds_more, adds_next, adds_all}
use Rattle.cert_check.proofs.making.add_implied.Goals as goal

pub loop-c-preserved : goal.loop-c-preserved
loop-c-preserved c =
    let d : Candidate = get_or c.args.listed.now c.loop-c.c-index (record { scope = 0; rel = 0 }) in
    let is : d ≡ get_or c.args.listed.now c.loop-c.c-index d = within c.args.listed.now c.loop-c.c-index (record { scope = 0; rel = 0 }) d c.loop-c-test.true in
    record {
      added = adds_next (λ b. listed_line (refutation_of c.args.lang.now c.args.net.now b)) c.args.listed.now c.loop-c.c-index d c.add_count.new.sheet c.loop-c.sheet c.add_listed.new.sheet c.loop-c-test.true is
          c.loop-c.invariant.added (c.in_ok-add_listed.ensures.added c.if-branch.false);
      within = fails_more (is_long c.args.lang.now c.args.net.now c.args.budget) c.args.listed.now c.loop-c.c-index d c.loop-c-test.true is
          (sym c.in_ok-add_listed.ensures.long ∙ c.if-branch.false) c.loop-c.invariant.within;
    }

pub returns-then-branch-clause-long : goal.returns-then-branch-clause-long
returns-then-branch-clause-long c = λ _.
    let d : Candidate = get_or c.args.listed.now c.loop-c.c-index (record { scope = 0; rel = 0 }) in
    let is : d ≡ get_or c.args.listed.now c.loop-c.c-index d = within c.args.listed.now c.loop-c.c-index (record { scope = 0; rel = 0 }) d c.loop-c-test.true in
    ap (option_map (λ b. Long (number_of c.args.lang.now b)))
    (find_at (is_long c.args.lang.now c.args.net.now c.args.budget) c.args.listed.now c.loop-c.c-index d c.loop-c-test.true is
    (sym c.in_ok-add_listed.ensures.long ∙ c.if-branch.true) c.loop-c.invariant.within)
    ∙ ap (λ n. Some (Long n)) (sym c.number_of.ensures.is)

pub returns-clause-within : goal.returns-clause-within
returns-clause-within c =
    find_none (is_long c.args.lang.now c.args.net.now c.args.budget) c.args.listed.now
    (subst (All (λ b. is_long c.args.lang.now c.args.net.now c.args.budget b ≡ false)) (take_all c.loop-c.c-index c.args.listed.now c.loop-c-test.false) c.loop-c.invariant.within)

pub returns-clause-added : goal.returns-clause-added
returns-clause-added c =
    section_added c.args.lang.now c.args.net.now c.args.listed.now c.args.sheet.now c.loop-c.sheet
    (adds_more c.args.sheet.now c.add_count.new.sheet c.loop-c.sheet (count_line (codes "implied") (length c.args.listed.now)) (flat_map (λ b. listed_line (refutation_of c.args.lang.now c.args.net.now b)) c.args.listed.now) c.in_ok-add_count.ensures
    (adds_all (λ b. listed_line (refutation_of c.args.lang.now c.args.net.now b)) c.args.listed.now c.loop-c.c-index c.add_count.new.sheet c.loop-c.sheet c.loop-c-test.false c.loop-c.invariant.added))
