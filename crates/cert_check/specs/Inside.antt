-- The certificate that the fields stand for.
use Rattle.cert_check.specs.Certificate.{Certificate}
use Rattle.cert_check.specs.Sound.{IsSound}
use Rattle.cert_check.specs.declared.cert.Cert.TheInside.{Inside}

abbrev pub seen : Inside → Certificate
seen a = record {
  language = a.language;
  answers = a.answers.items;
  network = a.network.items;
  refutations = a.items.items;
}

abbrev pub IsSoundInside : Inside → Type 0
IsSoundInside a = IsSound (seen a)
