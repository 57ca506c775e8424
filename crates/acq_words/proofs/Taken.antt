-- What is known of a parse by the command.
use Rattle.acq_words.proofs.Prelude.{◌≡◌, true, List, [], ◌∷◌, ap, ap₂, refl, ◌∙◌, sym, inl, inr, ◌≢◌, App, HasMatchesOf, Text, fault_of, found_of, is_simple, kind_of, matches_of, rows_of, HasKind, IsAmong, Kinds, is_simple_and_free, ArgMatches, faults_in, line, rows_in}
use Rattle.clap.specs.declared.error.Error.{Error}
use Rattle.clap.specs.declared.error.kind.ErrorKind.TheVariants as kind

pub is_plain_app : (a : App) → a ≡ line → is_simple_and_free a ≡ true
is_plain_app a e = ap is_simple_and_free e

pub rows_are : (a : App) (words : List Text) (m : ArgMatches) → a ≡ line → HasMatchesOf a words m → rows_of (found_of m) ≡ rows_in words
unfolding rows_in
rows_are a words m e h = (h (ap is_simple e)).0 ∙ ap₂ matches_of e refl

pub are_taken : (a : App) (words : List Text) → a ≡ line → fault_of a words ≡ [] → faults_in words ≡ []
unfolding faults_in
are_taken a words e none = sym (ap₂ fault_of e refl) ∙ none

some_kind : (k : _) (kinds : Kinds) → IsAmong k kinds → kinds ≡ [] → ⊥
some_kind k [] among none = among
some_kind k (x ∷ xs) among none = cc

pub are_refused : (a : App) (words : List Text) (e : Error) → a ≡ line → HasKind (fault_of a words) e → kind_of e ≢ kind.OutOfMemory → faults_in words ≢ []
unfolding faults_in
are_refused a words e is (inl memory) other none = other memory
are_refused a words e is (inr among) other none = some_kind (kind_of e) (fault_of a words) among (ap₂ fault_of is refl ∙ none)
