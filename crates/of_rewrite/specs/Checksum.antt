-- How a checksum follows a change of the words that it covers (RFC 1624, 3; UDP: RFC 768 and RFC 8200, 8.1).
use Rattle.std.specs.Prelude.{ℕ, zero, suc, ◌+◌, ◌-◌, ◌*◌, ◌%◌, ◌^◌, ◌<◌, Bool, false, not, ◌&&◌, ◌||◌, ◌==◌, if◌then◌else◌, List, [], ◌∷◌, length, take, drop, sum, slice_index}
use Rattle.of_layers.specs.{declared.transport.Transport.Transport, declared.transport.Transport.TheVariants.Udp}

-- ---- the words of 16 bits that bits are, the highest bit of each first

unfoldable pub number_of_bits : List ℕ → ℕ
number_of_bits [] = 0
number_of_bits (b ∷ bs) = b * 2 ^ length bs + number_of_bits bs

unfoldable pub words_of : ℕ → List ℕ → List ℕ
words_of zero s = []
words_of (suc n) s = number_of_bits (take 16 s) ∷ words_of n (drop 16 s)

-- ---- sums in one's complement

-- a sum folded to 16 bits, its carries added until none is left
abbrev pub fold : ℕ → ℕ
fold s = if s == 0 then 0 else 1 + (s - 1) % 65535

-- what a change of words adds: words that do not change do not count
abbrev pub change : List ℕ → List ℕ → ℕ
change [] new = 0
change (o ∷ old) [] = 0
change (o ∷ old) (n ∷ new) = (if o == n then 0 else 65535 - o + n) + change old new

-- the checksum after the change
abbrev pub updated : ℕ → List ℕ → List ℕ → ℕ
updated c old new = 65535 - fold (65535 - c + change old new)

-- ---- UDP

abbrev pub differ : List ℕ → List ℕ → Bool
differ [] new = false
differ (o ∷ old) [] = false
differ (o ∷ old) (n ∷ new) = not (o == n) || differ old new

-- a computed 0 is written as 65535
abbrev pub never_zero : ℕ → ℕ
never_zero c = if c == 0 then 65535 else c

-- where it may be left out, as over IPv4, a checksum of 0 says that none was computed
abbrev pub udp_updated : Bool → ℕ → List ℕ → List ℕ → ℕ
udp_updated may_lack c old new = if (may_lack && (c == 0)) || not (differ old new) then c else never_zero (updated c old new)

-- the checksum in the header of what an IP packet carries
abbrev pub carried_updated : Bool → Transport → ℕ → List ℕ → List ℕ → ℕ
carried_updated may_lack Udp = udp_updated may_lack
carried_updated may_lack other = updated

-- ---- the purpose of a checksum: the words, itself among them, sum up to all ones (RFC 1071, 1)
abbrev pub sums_to_ones : List ℕ → Bool
sums_to_ones ws = fold (sum ws) == 65535

abbrev pub AreWords : List ℕ → Type 0
AreWords s = (i : ℕ) → slice_index s i < 65536
