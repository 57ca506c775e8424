use Rattle.acq_said.proofs.Prelude.{◌∙◌, refl, ap, subst, ℕ, List, Err, voc_refused}
use Rattle.acq_said.proofs.Journals.{MakesOf}
use Rattle.acq_io.specs.declared.whole.AllFault.TheVariants as all
use Rattle.voc_read.specs.declared.fault.VocFault.TheVariants as vocs
use Rattle.acq_said.proofs.Spoken.{fault_of, fine, long_one, said_as}
use Rattle.acq_said.proofs.making.new_journal.Goals as goal

pub returns-in-Ok-clause-news : goal.returns-in-Ok-clause-news
returns-in-Ok-clause-news g c =
    let Made : List ℕ → Type 0 = λ v. MakesOf g.D.Disk c.args.plan c.args.disk.now c.make_journal.new.disk (fine v) c.make_journal.result in
    record { read = fine c.in-Ok.voc.items; says = (c.in-Ok.ensures.all, subst Made c.deref.ensures.value c.make_journal.ensures.makes); untouched = λ none. absurd (let no : ⊥ = cc in no) }

pub returns-in-Err-TooLong-clause-news : goal.returns-in-Err-TooLong-clause-news
returns-in-Err-TooLong-clause-news g c =
    let what = voc_refused vocs.TooLong in
    record {
      read = long_one;
      says = (
        c.read_all.ensures.too_long (c.in-Err-TooLong.is ∙ ap fault_of c.in-Err-TooLong.field-0-is),
        said_as c.refused_voc.result c.or_silent.result what what c.or_silent.ensures.is refl c.refused_voc.ensures,
      );
      untouched = λ none. refl;
    }

pub returns-in-Err-Fault-clause-news : goal.returns-in-Err-Fault-clause-news
returns-in-Err-Fault-clause-news g c = record { read = Err all.Fault; says = refl; untouched = λ none. refl }

pub returns-in-Err-Memory-clause-news : goal.returns-in-Err-Memory-clause-news
returns-in-Err-Memory-clause-news g c = record { read = Err all.Memory; says = refl; untouched = λ none. refl }
