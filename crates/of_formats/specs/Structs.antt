-- THE STRUCTS OF THE STANDARD AS DATA (OpenFlow 1.3.5, 7): a list of fields, one after the other, numbers in big-endian order. Reading, writing and sizes follow from the list.
use Prim.Native.String.{String}
use Rattle.std.specs.Prelude.{◌≡◌, ◌<◌, ℕ, zero, suc, ◌+◌, ◌^◌, List, [], ◌∷◌, ◌++◌, length, take, drop, replicate, slice_index}
use Rattle.byteorder.specs.Endian.{big_number, big_bytes}

-- A field: a number of one byte; a number of so many bytes; so many bytes as they are; and so many bytes of padding, which are ignored, and are written as zeros.
pub data Slot : Type 0 where
  byte : String → Slot
  number : String → ℕ → Slot
  plain : String → ℕ → Slot
  pad : ℕ → Slot

abbrev pub Struct : Type 0
Struct = List Slot

abbrev pub u8 : String → Slot
u8 name = byte name

abbrev pub u16 : String → Slot
u16 name = number name 2

abbrev pub u32 : String → Slot
u32 name = number name 4

abbrev pub u64 : String → Slot
u64 name = number name 8

abbrev pub slot_width : Slot → ℕ
slot_width (byte name) = 1
slot_width (number name w) = w
slot_width (plain name w) = w
slot_width (pad w) = w

abbrev pub size : Struct → ℕ
size [] = 0
size (slot ∷ s) = slot_width slot + size s

-- READ: the numbers of the fields of a struct that begins there, one for each field that is a number. So where a reader names them all, its last case, `other`, never applies.
abbrev pub numbers : Struct → ℕ → List ℕ → List ℕ
numbers [] at m = []
numbers (byte name ∷ s) at m = slice_index m at ∷ numbers s (at + 1) m
numbers (number name w ∷ s) at m = big_number w (drop at m) ∷ numbers s (at + w) m
numbers (plain name w ∷ s) at m = numbers s (at + w) m
numbers (pad w ∷ s) at m = numbers s (at + w) m

-- n bytes from a place on
abbrev pub bytes_from : ℕ → ℕ → List ℕ → List ℕ
bytes_from at zero m = []
bytes_from at (suc n) m = slice_index m at ∷ bytes_from (suc at) n m

-- and the bytes that are fields as they are
abbrev pub texts : Struct → ℕ → List ℕ → List (List ℕ)
texts [] at m = []
texts (byte name ∷ s) at m = texts s (at + 1) m
texts (number name w ∷ s) at m = texts s (at + w) m
texts (plain name w ∷ s) at m = bytes_from at w m ∷ texts s (at + w) m
texts (pad w ∷ s) at m = texts s (at + w) m

-- WRITTEN: the numbers, and the bytes that are fields as they are, in their places
abbrev pub written_with : Struct → List ℕ → List (List ℕ) → List ℕ
written_with [] ns xs = []
written_with (byte name ∷ s) [] xs = []
written_with (byte name ∷ s) (n ∷ ns) xs = n ∷ written_with s ns xs
written_with (number name w ∷ s) [] xs = []
written_with (number name w ∷ s) (n ∷ ns) xs = big_bytes w n ++ written_with s ns xs
written_with (plain name w ∷ s) ns [] = []
written_with (plain name w ∷ s) ns (x ∷ xs) = x ++ written_with s ns xs
written_with (pad w ∷ s) ns xs = replicate w 0 ++ written_with s ns xs

abbrev pub written : Struct → List ℕ → List ℕ
written s ns = written_with s ns []

-- the numbers fit their bytes, and the bytes have their width
abbrev pub FitsStruct : Struct → List ℕ → List (List ℕ) → Type 0
FitsStruct [] [] [] = Unit {0}
FitsStruct [] ns xs = ⊥
FitsStruct (byte name ∷ s) [] xs = ⊥
FitsStruct (byte name ∷ s) (n ∷ ns) xs = (n < 256) × FitsStruct s ns xs
FitsStruct (number name w ∷ s) [] xs = ⊥
FitsStruct (number name w ∷ s) (n ∷ ns) xs = (n < 256 ^ w) × FitsStruct s ns xs
FitsStruct (plain name w ∷ s) ns [] = ⊥
FitsStruct (plain name w ∷ s) ns (x ∷ xs) = (length x ≡ w) × FitsStruct s ns xs
FitsStruct (pad w ∷ s) ns xs = FitsStruct s ns xs

-- the bytes of a struct with its padding cleared
abbrev pub cleared : Struct → List ℕ → List ℕ
cleared [] m = []
cleared (byte name ∷ s) m = take 1 m ++ cleared s (drop 1 m)
cleared (number name w ∷ s) m = take w m ++ cleared s (drop w m)
cleared (plain name w ∷ s) m = take w m ++ cleared s (drop w m)
cleared (pad w ∷ s) m = replicate w 0 ++ cleared s (drop w m)
