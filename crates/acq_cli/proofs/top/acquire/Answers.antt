use Rattle.acq_cli.proofs.Prelude.{Command, Completes, DiskOf, Does, Ending, EndsExactly, Err, IfOk, IsBrokenOff, List, Ok, Option, Put, ReadOnce, Result, UsageFault, command_asked, ended_as, inl, inr, map, refl, string_bytes, sym, ℕ, ⊎_elim, ⊎_map, transport, ◌∙◌, ◌⊎◌}
use Rattle.acq_io.specs.declared.streams.Put.TheVariants as put
use Rattle.acq_loop.specs.declared.ending.Ending.TheVariants as ending
use Rattle.acq_said.proofs.SaidOver.{broken_own}
use Rattle.acq_cli.proofs.Acknowledged.{acknowledges}
use Rattle.acq_cli.proofs.Completing.{completes}
use Rattle.acq_cli.proofs.Exactly.{broken_or, ends_exactly}
use Rattle.acq_cli.proofs.Headline.{Finds, finds, own_finds}
use Rattle.acq_cli.proofs.top.acquire.Goals as goal

-- what is known of how a command ended
record IsTold (asked : Result Command UsageFault) (left content written' : Option (List ℕ)) (end : Ending) : Type 0 where
  found : Finds asked left content written' end
  exactly : IsBrokenOff end ⊎ IfOk asked (λ c. EndsExactly c left content end)
  completes : (IsBrokenOff end → ⊥) → IfOk asked (λ c. Completes c left content end)

broke_off : (asked : Result Command UsageFault) (left content written' : Option (List ℕ)) (end : Ending) → IsBrokenOff end → IsTold asked left content written' end
broke_off asked left content written' end broken = record { found = own_finds asked left content written' end (broken_own end broken); exactly = inl broken; completes = λ calm. absurd (calm broken) }

module _ {D : Type 0} (disk : DiskOf D) (once : ReadOnce) (left written left' written' : Option (List ℕ)) (old new : D) (asked : Result Command UsageFault) where
  told : (got : Result Ending Put) → Does disk asked left written left' written' old new got → IsTold asked left (disk.content old) written' (ended_as got)
  told (Err put.Failed) does = broke_off asked left (disk.content old) written' ending.WriteFault (inr (inl refl))
  told (Err put.Memory) does = broke_off asked left (disk.content old) written' ending.Memory (inr (inr (inr refl)))
  told (Ok end) does =
      let exact = λ (calm : IsBrokenOff end → ⊥). ends_exactly disk once left written left' written' old new end calm asked does in
      record {
        found = finds disk left written left' written' old new asked end does;
        exactly = ⊎_map (λ broken. broken) exact (broken_or end);
        completes = λ calm. completes disk once left written left' written' old new end calm asked does (exact calm);
      }

pub returns : goal.returns
returns g c =
    let D = g.D.Disk in
    let asked : Result Command UsageFault = command_asked (map string_bytes c.args.words.now) in
    let left = g.S.Source.left c.args.input.now in
    let written = g.K.Sink.written c.args.out.now in
    let left' = g.S.Source.left c.perform.new.input in
    let written' = g.K.Sink.written c.perform.new.out in
    let got = c.perform.result in
    let does = c.perform.ensures.does in
    let causes = c.perform.ensures.causes in
    let is = c.ended.ensures in
    let so = told D c.no_two_readings.ensures left written left' written' c.args.disk.now c.perform.new.disk asked got does in
    record {
      converged = λ m e. so.found.network m (sym is ∙ e);
      collapsed = λ m e. so.found.none m (sym is ∙ e);
      undecided = λ m e. so.found.some_open m (sym is ∙ e);
      does = (got, is, does);
      acknowledged = acknowledges D c.no_two_readings.ensures g.met.D.Disk.only_now left written left' written' c.args.disk.now c.perform.new.disk asked got does c.perform.ensures.spares.untouched;
      spares = c.perform.ensures.spares;
      refuses = λ fault. (λ e. (got, is, transport (λ i. Does D (e i) left written left' written' c.args.disk.now c.perform.new.disk got) does), λ e. so.found.usage fault (sym is ∙ e));
      causes = rw is causes;
      exactly = rw is so.exactly;
      completes = λ read write kept memory. rw is (so.completes (⊎_elim (λ e. read (causes.read e)) (⊎_elim (λ e. write (causes.write e)) (⊎_elim (λ e. kept (causes.lost e)) (λ e. memory (is ∙ e))))));
    }
