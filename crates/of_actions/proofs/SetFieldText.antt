-- A set field as it is written, part by part.
use Rattle.std.proofs.Common.{◌≡◌, ℕ, ◌+◌, ◌-◌, ◌*◌, List, [], ◌∷◌, ◌++◌, replicate, Result, Ok, Err, ap, ◌∙◌}
use Rattle.std.{specs.Prelude.OnOk, proofs.lemmas.List.append_assoc}
use Rattle.byteorder.specs.Endian.{big_bytes}
use Rattle.of_layers.specs.{declared.field.Field.Field, Fields.number_of, Fields.bytes_of}
use Rattle.of_actions.specs.{SetField.set_len, CanonicalActions.canonical_set_field}

pub set_text : (f : Field) (v : ℕ) (out a b c d : List ℕ) → a ≡ out ++ 0 ∷ 25 ∷ 0 ∷ set_len f ∷ [] → b ≡ a ++ 128 ∷ 0 ∷ 2 * number_of f ∷ bytes_of f ∷ [] → c ≡ b ++ big_bytes (bytes_of f) v → d ≡ c ++ replicate (set_len f - (8 + bytes_of f)) 0
    → d ≡ out ++ canonical_set_field f v
unfolding canonical_set_field
set_text f v out a b c d ea eb ec ed =
    let value = big_bytes (bytes_of f) v in
    let zeros = replicate (set_len f - (8 + bytes_of f)) 0 in
    let first = 0 ∷ 25 ∷ 0 ∷ set_len f ∷ [] in
    let second = 128 ∷ 0 ∷ 2 * number_of f ∷ bytes_of f ∷ [] in
    ed ∙ ap (λ (x : List ℕ). x ++ zeros) (ec ∙ ap (λ (x : List ℕ). x ++ value) (eb ∙ ap (λ (x : List ℕ). x ++ second) ea))
    ∙ (append_assoc ((out ++ first) ++ second) value zeros ∙ (append_assoc (out ++ first) second (value ++ zeros) ∙ append_assoc out first (second ++ (value ++ zeros))))

pub set_text_if : {V E : Type 0} (r : Result V E) (f : Field) (v : ℕ) (out a b c d : List ℕ) → a ≡ out ++ 0 ∷ 25 ∷ 0 ∷ set_len f ∷ [] → b ≡ a ++ 128 ∷ 0 ∷ 2 * number_of f ∷ bytes_of f ∷ [] → c ≡ b ++ big_bytes (bytes_of f) v
    → OnOk r (d ≡ c ++ replicate (set_len f - (8 + bytes_of f)) 0) → OnOk r (d ≡ out ++ canonical_set_field f v)
set_text_if (Ok x) f v out a b c d ea eb ec ed = set_text f v out a b c d ea eb ec ed
set_text_if (Err e) f v out a b c d ea eb ec ed = tt
