-- Items with commas between them.
use Rattle.std.proofs.Common.{◌≡◌, ℕ, ◌+◌, ◌<◌, ◌≤◌, List, [], ◌∷◌, ◌++◌, length, drop, get_or, refl, sym, ap, ◌∙◌, append_assoc, drop_of_length-le}
use Rattle.std.{specs.Global.Vec, specs.List.flat_map, proofs.lemmas.List.append-nil, proofs.lemmas.List.drop_more}
use Rattle.of_values.specs.Origins.{view_words}
use Rattle.of_json.specs.Parts.{listed}

abbrev behind_comma : {A : Type 0} → (A → List ℕ) → A → List ℕ
behind_comma text x = 44 ∷ text x

pub next_item : {A : Type 0} (text : A → List ℕ) (items : List A) (i : ℕ) (x : A) (out mid new all : List ℕ) → i < length items → x ≡ get_or items i x → mid ≡ out ++ 44 ∷ [] → new ≡ mid ++ text x
    → out ++ flat_map (behind_comma text) (drop i items) ≡ all → new ++ flat_map (behind_comma text) (drop (i + 1) items) ≡ all
next_item {A} text items i x out mid new all h is m n so_far =
    let rest = flat_map (behind_comma text) (drop (i + 1) items) in
    let e : drop i items ≡ x ∷ drop (i + 1) items = drop_more items i x h ∙ ap (λ (y : A). y ∷ drop (i + 1) items) (sym is) in
    rw (n, m) (append_assoc (out ++ 44 ∷ []) (text x) rest ∙ (append_assoc out (44 ∷ []) (text x ++ rest) ∙ (ap (λ (xs : List A). out ++ flat_map (behind_comma text) xs) (sym e) ∙ so_far)))

pub no_item : {A : Type 0} (text : A → List ℕ) (items : List A) (i : ℕ) (out all : List ℕ) → length items ≤ i → out ++ flat_map (behind_comma text) (drop i items) ≡ all → out ≡ all
no_item {A} text items i out all h so_far = sym (append-nil out) ∙ (ap (λ (xs : List A). out ++ flat_map (behind_comma text) xs) (sym (drop_of_length-le items h)) ∙ so_far)

-- ---- of lists of bytes, as they lie in memory

further_words : (text : List ℕ → List ℕ) (words : List (Vec ℕ)) → flat_map (behind_comma (λ (w : Vec ℕ). text w.items)) words ≡ flat_map (behind_comma text) (view_words words)
further_words text [] = refl
further_words text (w ∷ words) = ap (λ (rest : List ℕ). (44 ∷ text w.items) ++ rest) (further_words text words)

pub listed_words : (text : List ℕ → List ℕ) (words : List (Vec ℕ)) → listed (λ w. text w.items) words ≡ listed text (view_words words)
listed_words text [] = refl
listed_words text (w ∷ words) = ap (λ (rest : List ℕ). text w.items ++ rest) (further_words text words)
