-- What was done about the words.
use Rattle.acq_cli.proofs.Prelude.{Asks, AsksTruly, Command, DiskOf, Does, Ending, Err, IsCommandOf, List, Ok, Opened, Option, Put, Result, SFault, Saying, SaysOpening, SaysOver, SaysSo, SaysUnplayed, Solves, Spoke, Unsaid, UsageFault, [], ap, arith, asked_said, command_asked, command_in, failed, inl, inr, over_refused, refl, takes_none, terms_with, unbegun, ℕ, ◌≡◌}
use Rattle.acq_io.specs.declared.streams.Put.TheVariants as put
use Rattle.acq_io.specs.declared.whole.AllFault.TheVariants as all
use Rattle.acq_words.specs.Request.{IsRequestOf, request_of_words, contents_of}
use Rattle.acq_words.specs.declared.request.Command.TheVariants as command
use Rattle.acq_words.specs.declared.request.Request.{Request}
use Rattle.acq_words.specs.declared.request.WordsFault.{WordsFault}
use Rattle.acq_words.specs.declared.request.WordsFault.TheVariants.{Usage, Memory}
use Rattle.disk_model.specs.Moments.{started}
use Rattle.session_store.specs.declared.fault.SFault.TheVariants as store
use Rattle.acq_said.proofs.Spoken.{silent}
use Rattle.acq_said.specs.declared.said.Unsaid.TheVariants as unsaid
use Rattle.acq_said.specs.declared.ask.Ask.{Ask}
use Rattle.acq_said.specs.declared.ask.Ask.TheVariants as ask

-- ---- What is asked for

pub is_asked : (words : List (List ℕ)) (request : Request) → request_of_words words ≡ Ok (contents_of request) → command_asked words ≡ Ok request.command
unfolding command_asked
is_asked words request is = ap command_in is

pub is_refused : (words : List (List ℕ)) (fault : WordsFault) → IsRequestOf (request_of_words words) (Err fault) → IsCommandOf (command_asked words) (Err fault)
unfolding command_asked
is_refused words (Usage fault) is = ap command_in is
is_refused words Memory is = tt

-- ---- Want of memory, before anything is done

module _ {D : Type 0} (disk : DiskOf D) where
  module _ (only_now : (d : D) (c : List ℕ) → disk.left_since d (disk.moment d) c → disk.may_leave d c) (left written : Option (List ℕ)) (d : D) where
    -- not a word was said
    over_nothing : (Says : Result Opened SFault → Result Saying Unsaid → Type 0) (IsTrueOf : Opened → Type 0) → Says (Err store.Memory) (silent unsaid.Memory) → SaysOver disk Says IsTrueOf d d (silent unsaid.Memory)
    over_nothing Says IsTrueOf says =
        over_refused disk Says IsTrueOf d d (silent unsaid.Memory) refl (started disk d (disk.may_leave d) (only_now d)) (λ bytes told. omega arith) store.Memory (λ bytes told. tt) ([], tt) (inr (refl, refl)) says

    asks_nothing : (a : Ask) → SaysSo (Asks disk a d d) written written (failed put.Memory)
    asks_nothing a = ((silent unsaid.Memory), over_nothing (SaysOpening (asked_said a)) (AsksTruly a) refl, (refl, refl))

    pub does_nothing : (asked : Result Command UsageFault) → Does disk asked left written left written d d (failed put.Memory)
    does_nothing (Ok (command.New plan)) = ((silent unsaid.Memory), record { read = Err all.Memory; says = refl; untouched = λ none. refl }, (refl, refl))
    does_nothing (Ok (command.Run budget)) = inl ((silent unsaid.Memory), over_nothing _ (λ o. Unit {0}) (store.Memory, refl, refl, refl), (refl, refl))
    does_nothing (Ok (command.Try plan budget)) = unbegun (terms_with plan budget) left left written (inl ([], omega arith, λ k d low. absurd (omega (arith, low)), takes_none left))
    does_nothing (Ok (command.Play budget)) = inl ((silent unsaid.Memory), over_nothing (SaysUnplayed left left) (λ o. Unit {0}) (refl, refl), (refl, refl))
    does_nothing (Ok command.Show) = asks_nothing ask.Show
    does_nothing (Ok command.Back) = ((silent unsaid.Memory), inl (over_nothing _ (λ o. Unit {0}) refl), (refl, refl))
    does_nothing (Ok (command.Demo number budget)) = inl (refl, refl)
    does_nothing (Ok (command.Reduce budget)) = asks_nothing (ask.Reduce budget)
    does_nothing (Ok command.Cnf) = asks_nothing ask.Cnf
    does_nothing (Ok command.Model) = ((silent unsaid.Memory), over_nothing (Solves left left) (λ o. Unit {0}) (refl, refl), (refl, refl))
    does_nothing (Ok (command.Certify budget)) = asks_nothing (ask.Certify budget)
    does_nothing (Ok command.Check) = ((silent unsaid.Memory), (Err all.Memory, refl), (refl, refl))
    does_nothing (Err fault) = refl

-- ---- A command that only says something

module _ {D : Type 0} (disk : DiskOf D) (left written left' written' : Option (List ℕ)) (old new : D) (got : Result Ending Put) where
  pub does_speak : (c : Command) → SaysSo (Spoke disk c left left' old new) written written' got → Does disk (Ok c) left written left' written' old new got
  does_speak (command.Run budget) speaks = absurd speaks.1
  does_speak (command.Try plan budget) speaks = absurd speaks.1
  does_speak (command.Play budget) speaks = absurd speaks.1
  does_speak (command.Demo number budget) speaks = absurd speaks.1
  does_speak c speaks = speaks
