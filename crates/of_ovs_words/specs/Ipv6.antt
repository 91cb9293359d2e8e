-- IPv6 ADDRESSES IN WORDS: eight groups of 16 bits in hexadecimal digits with colons between them, or fewer and `::` once for the others, which are zeros.
use Rattle.std.specs.Prelude.{ℕ, zero, suc, ◌+◌, ◌-◌, ◌*◌, ◌^◌, ◌==◌, ◌&&◌, not, nat_le, nat_lt, Bool, List, [], ◌∷◌, length, filter, Option, Some, None, if◌then◌else◌}
use Rattle.of_lines.specs.{Lines.prepended, Lines.before, Lines.behind, Reading.below, Reading.◌>>=◌}
use Rattle.of_ovs_words.specs.Numbers.{some_digits}

-- WHAT STANDS BETWEEN COLONS
unfoldable pub pieces : List ℕ → List (List ℕ)
pieces [] = []
pieces (b ∷ bs) = if b == 58 then [] ∷ pieces bs else prepended b (pieces bs)

-- a value of 128 bits with one more group
abbrev pub grown : ℕ → ℕ → Option ℕ
grown value group = below (2 ^ 128) (65536 * value + group)

abbrev pub with_zeros : ℕ → ℕ → Option ℕ
with_zeros zero value = Some value
with_zeros (suc n) value = grown value 0 >>= with_zeros n

-- one more piece: a group, or, where there is nothing and zeros are still wanted, so many groups of zeros
abbrev pub with_piece : ℕ → Bool → ℕ → List ℕ → Option ℕ
with_piece missing wanted value p =
    if not (length p == 0) then (some_digits 16 65536 p >>= λ group. grown value group)
    else if wanted then with_zeros missing value
    else None

abbrev pub with_groups : ℕ → Bool → ℕ → List (List ℕ) → Option ℕ
with_groups missing wanted value [] = if wanted then None else Some value
with_groups missing wanted value (p ∷ ps) = with_piece missing wanted value p >>= λ next. with_groups missing (wanted && not (length p == 0)) next ps

abbrev pub group_count : List (List ℕ) → ℕ
group_count ps = length (filter (λ p. not (length p == 0)) ps)

abbrev pub address_in_groups : List (List ℕ) → Option ℕ
address_in_groups ps = if nat_le (group_count ps) 8 then with_groups (8 - group_count ps) (nat_lt (group_count ps) 8) 0 ps else None

-- of two colons at the beginning one counts
abbrev pub without_colon : List ℕ → List ℕ
without_colon word = if length (before 58 word) == 0 then behind 58 word else word

unfoldable pub ipv6_in : List ℕ → Option ℕ
ipv6_in word = address_in_groups (pieces (without_colon word))
