-- MASKS OF ADDRESSES IN WORDS: the length of a prefix, or an address.
use Rattle.std.specs.Prelude.{ℕ, zero, suc, ◌-◌, ◌/◌, ◌^◌, ◌==◌, List, decimal, Option, Some, None, if◌then◌else◌}
use Rattle.of_values.specs.{Numbers.ipv4_address, Ipv6.ipv6_address}

-- the mask of the first n bits of as many as `ones` has
abbrev pub first_bits : ℕ → ℕ → ℕ
first_bits ones n = ones - ones / 2 ^ n

-- the greatest n below the limit of which it is the mask
unfoldable pub prefix_below : ℕ → ℕ → ℕ → Option ℕ
prefix_below ones mask zero = None
prefix_below ones mask (suc n) = if first_bits ones n == mask then Some n else prefix_below ones mask n

-- the length of the prefix, or these words for a mask that is none
abbrev pub length_or : List ℕ → Option ℕ → List ℕ
length_or words None = words
length_or words (Some n) = decimal n

unfoldable pub ipv4_mask : ℕ → List ℕ
ipv4_mask mask = length_or (ipv4_address mask) (prefix_below 0xffffffff mask 32)

unfoldable pub ipv6_mask : ℕ → List ℕ
ipv6_mask mask = length_or (ipv6_address mask) (prefix_below 0xffffffffffffffffffffffffffffffff mask 128)
