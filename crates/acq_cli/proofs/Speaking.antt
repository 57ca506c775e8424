-- How the commands end that say something, where they ask nothing.
use Rattle.acq_cli.proofs.Prelude.{AllFault, Command, DiskOf, Ending, Err, HasWritten, Language, List, Ok, Opened, Option, Result, SFault, SaidSo, Saying, SaysNoNetwork, SaysSo, SaysUnplayed, Spoke, Unsaid, asked_own, asked_said, back_own, check_own, inl, inr, is_own, length, okay, opening_own, own_said, read_own, refl, refuses_own, so_own, solves_own, stale_said, standing_on, target_refused, true, ℕ, ◌≡◌}
use Rattle.acq_said.proofs.Spoken.{IsCheckOf}
use Rattle.acq_words.specs.declared.request.Command.TheVariants as command
use Rattle.acq_said.specs.declared.ask.Ask.TheVariants as ask
use Rattle.network.specs.declared.fault.NetFault.TheVariants as net
use Rattle.acq_cli.proofs.Exactly.{new_own}

module _ {D : Type 0} (disk : DiskOf D) (left written left' written' : Option (List ℕ)) (old new : D) (end : Ending) where
  spoke_own : (c : Command) (said : Result Saying Unsaid) → Spoke disk c left left' old new said → HasWritten said written written' (okay end) → is_own end ≡ true
  spoke_own command.Show said over has = opening_own (asked_said ask.Show) (asked_own ask.Show) over.opening said written written' end over.says has
  spoke_own (command.Reduce budget) said over has = opening_own (asked_said (ask.Reduce budget)) (asked_own (ask.Reduce budget)) over.opening said written written' end over.says has
  spoke_own command.Cnf said over has = opening_own (asked_said ask.Cnf) (asked_own ask.Cnf) over.opening said written written' end over.says has
  spoke_own command.Model said over has = solves_own left left' said written written' end has over.opening over.says
  spoke_own (command.Certify budget) said over has = opening_own (asked_said (ask.Certify budget)) (asked_own (ask.Certify budget)) over.opening said written written' end over.says has
  spoke_own command.Check said (read, says) has =
      read_own left left' said written written' end has 67108864 (λ r. SaidSo (IsCheckOf r)) (λ r so. so_own (IsCheckOf r) (check_own r) said written written' end so has) read says
  spoke_own (command.New plan) said news has = new_own disk plan left written left' written' old new end said has news
  spoke_own command.Back said backs has = back_own disk written written' old new end said backs has
  spoke_own c said never has = absurd never

  -- no command that says something ends otherwise
  pub speaks_own : (c : Command) → SaysSo (Spoke disk c left left' old new) written written' (okay end) → is_own end ≡ true
  speaks_own c (said, spoke, has) = spoke_own c said spoke has

-- nor does `play` where it doesn't come to a run
module _ (left written left' written' : Option (List ℕ)) (end : Ending) (said : Result Saying Unsaid) (has : HasWritten said written written' (okay end)) where
  untaken_own : (l : Language) (read : Result (List ℕ) AllFault) → SaysNoNetwork l read said → is_own end ≡ true
  untaken_own l (Ok bytes) (fault, refused, is) = own_said (target_refused fault) said written written' end refl is has
  untaken_own l (Err e) is = own_said (target_refused net.TooLong) said written written' end refl is has

  pub unplayed_own : (opening : Result Opened SFault) → SaysUnplayed left left' opening said → is_own end ≡ true
  unplayed_own (Ok o) (inl stale) = own_said (stale_said (length (standing_on o.lang o.events))) said written written' end refl stale.1 has
  unplayed_own (Ok o) (inr none) = read_own left left' said written written' end has 4194304 (SaysNoNetwork o.lang) (untaken_own o.lang) none.1.0 none.1.1
  unplayed_own (Err f) says = refuses_own written written' end f (said, says.0, has)
