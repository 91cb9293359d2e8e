-- VXLAN (RFC 7348, 5): a frame behind eight bytes, in a datagram.
use Rattle.std.specs.Prelude.{◌≡◌, ℕ, ◌/◌, ◌%◌, ◌==◌, ◌||◌, nat_lt, List, [], ◌∷◌, ◌++◌, length, drop, get_or, Option, Some, None, if◌then◌else◌}
use Rattle.byteorder.specs.Endian.{big_bytes, big_number}

-- THE HEADER: flags; 24 reserved bits; the VXLAN network identifier (VNI) in 24 bits, the most significant byte first; 8 reserved bits
abbrev pub vxlan_header : (flags : ℕ) (reserved vni : List ℕ) (last : ℕ) → List ℕ
vxlan_header flags reserved vni last = flags ∷ reserved ++ vni ++ last ∷ []

-- as it is sent: of the flags I alone is set, which says that there is a VNI, and what is reserved is 0
abbrev pub sent_header : ℕ → List ℕ
sent_header vni = vxlan_header 8 (0 ∷ 0 ∷ 0 ∷ []) (big_bytes 3 vni) 0

-- whether the flag I is set; a receiver ignores the others
abbrev pub has_vni : ℕ → ℕ
has_vni flags = flags / 8 % 2

pub record Encapsulated : Type 0 where
  pub vni : ℕ
  pub frame : List ℕ

-- what a datagram carries: nothing if it is shorter than a header, or has no VNI
abbrev pub carried : List ℕ → Option Encapsulated
carried bytes = if nat_lt (length bytes) 8 || has_vni (get_or bytes 0 0) == 0
    then None
    else Some (record { vni = big_number 3 (drop 4 bytes); frame = drop 8 bytes })

-- BYTES BEGIN WITH A HEADER that says this network, whatever is reserved
pub record BeginsWithHeader (bytes : List ℕ) (vni : ℕ) (frame : List ℕ) : Type 0 where
  pub flags : ℕ
  pub reserved : List ℕ
  pub number : List ℕ
  pub last : ℕ
  pub valid : has_vni flags ≡ 1
  pub three : (length reserved ≡ 3) × (length number ≡ 3)
  pub vni_is : vni ≡ big_number 3 number
  pub bytes_are : bytes ≡ vxlan_header flags reserved number last ++ frame
