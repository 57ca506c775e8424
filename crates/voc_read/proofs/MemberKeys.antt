-- The keys of a map, and those of the object that it stands for.
use Rattle.voc_read.proofs.Prelude.{◌≡◌, ℕ, List, [], ◌∷◌, Bool, not, ◌||◌, map, string_bytes, String, Global, Bor, refl, sym, ap₂, list_any, bytes_eq, members_view, Value, is_known, has_other_key, texts_of}
use Rattle.language.proofs.Members.{any-map}

pub other_keys : (known : List (Bor (List ℕ))) (entries : List (String Global × Value))
    → list_any (λ key. not (list_any (λ name. bytes_eq name.now (string_bytes key)) known)) (map (λ entry. entry.0) entries) ≡ has_other_key (texts_of known) (members_view entries)
other_keys known [] = refl
other_keys known (entry ∷ entries) =
    let here : list_any (λ name. bytes_eq name.now (string_bytes entry.0)) known ≡ is_known (texts_of known) (string_bytes entry.0) =
    sym (any-map (λ name. bytes_eq name (string_bytes entry.0)) (λ (name : Bor (List ℕ)). name.now) known) in
    ap₂ (λ (known : Bool) (rest : Bool). not known || rest) here (other_keys known entries)
