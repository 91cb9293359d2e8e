-- One step more of a loop that counts down.
use Rattle.std.proofs.Common.{◌≡◌, ℕ, suc, ◌+◌, List, [], ◌∷◌, ◌++◌, refl, ◌∙◌, append_assoc}
use Rattle.std.proofs.lemmas.Bool.{ne_eqb}
use Rattle.of_values.specs.{Numbers.digit_at, Numbers.digits, Ipv6.group_digits, Ipv6.further_groups, Masks.first_bits, Masks.prefix_below}

pub prefix_next : (ones mask n m r : ℕ) → n ≡ suc m → r ≡ first_bits ones m → (r ≡ mask → ⊥) → prefix_below ones mask n ≡ prefix_below ones mask m
unfolding prefix_below
prefix_next ones mask n m r e is other = rw (e, ne_eqb (first_bits ones m) mask (λ i. other (is ∙ i))) refl

pub digits_next : (least place m n : ℕ) (out new all : List ℕ) → place ≡ suc m → new ≡ out ++ digit_at least m n → out ++ digits least place n ≡ all → new ++ digits least m n ≡ all
unfolding digits
digits_next least place m n out new all p e so_far = rw e (append_assoc out (digit_at least m n) (digits least m n) ∙ (rw p at so_far))

pub groups_next : (low count m n : ℕ) (out mid new all : List ℕ) → count ≡ suc m → mid ≡ out ++ 58 ∷ [] → new ≡ mid ++ group_digits (low + m) n → out ++ further_groups low count n ≡ all → new ++ further_groups low m n ≡ all
unfolding further_groups
groups_next low count m n out mid new all p h e so_far =
    rw (e, h)
    (append_assoc (out ++ 58 ∷ []) (group_digits (low + m) n) (further_groups low m n)
    ∙ (append_assoc out (58 ∷ []) (group_digits (low + m) n ++ further_groups low m n) ∙ (rw p at so_far)))
