use Rattle.voc_read.proofs.Prelude.{◌≡◌, map, take, string_bytes, String, Global, texts_of}
use Rattle.voc_read.proofs.names.to_strings.Given as goal

abbrev pub invariant-loop-name : goal.invariant-loop-name
invariant-loop-name l = map (λ (copy : String Global). string_bytes copy) l.copies.items ≡ texts_of (take l.name-index l.names)
