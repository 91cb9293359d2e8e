-- FIELDS IN WORDS: the word before a field, and its number, its name or its digits. Where a field is, and how long, is looked up in its struct.
use Prim.Native.String.{String}
use Rattle.std.specs.Prelude.{ℕ, ◌+◌, ◌==◌, ◌&&◌, nat_le, Bool, List, [], ◌∷◌, ◌++◌, length, map, take, drop, codes, bytes_eq, decimal, Option, Some, None, option_and_then, option_to_list, if◌then◌else◌}
use Rattle.std.specs.List.{flat_map, list_all}
use Rattle.byteorder.specs.Endian.{big_number}
use Rattle.hex.specs.Hex.{encode_lower}
use Rattle.of_wire.specs.declared.limits.TheConstants.{OFPP_ANY}
use Rattle.of_formats.specs.Structs.{Struct, byte, number, plain, pad}
use Rattle.of_explain.specs.declared.fields.Form.TheVariants.{Plainly, Named, InHex, UnlessAny, UnlessZero}
use Rattle.of_explain.specs.{declared.fields.Field.Field as Row, declared.fields.Form.Form, declared.names.Names.Names, Names.name_in}

-- ---- the forms

-- a number of `size` bytes at a place; None where the message ends before it
abbrev pub big_number_at : ℕ → ℕ → List ℕ → Option ℕ
big_number_at at size m = if nat_le (at + size) (length m) then Some (big_number size (drop at m)) else None

-- a word, and the number in decimal
abbrev pub and_number : List ℕ → Option ℕ → List ℕ
and_number word None = []
and_number word (Some n) = word ++ 32 ∷ decimal n

-- a word, and the number by its name
abbrev pub and_name : List ℕ → Names → Option ℕ → List ℕ
and_name word names None = []
and_name word names (Some n) = word ++ 32 ∷ name_in names n

-- a word, and `size` bytes in hex digits
unfoldable pub in_hex : List ℕ → ℕ → ℕ → List ℕ → List ℕ
in_hex word at size m = if nat_le (at + size) (length m) then word ++ codes " 0x" ++ encode_lower (take size (drop at m)) else []

-- a word, and the number; nothing where it is 0xffffffff: OFP_NO_BUFFER, OFPP_ANY and OFPG_ANY name none
abbrev pub words_unless_any : List ℕ → Option ℕ → List ℕ
words_unless_any word None = []
words_unless_any word (Some n) = if n == OFPP_ANY then [] else word ++ 32 ∷ decimal n

-- words, but nothing where the number is 0
abbrev pub unless_zero : Option ℕ → List ℕ → List ℕ
unless_zero None words = words
unless_zero (Some n) words = if n == 0 then [] else words

-- ---- A FIELD: the word before it, where it begins, how many bytes it has, and its form

pub record Field : Type 0 where
  pub word : List ℕ
  pub at : ℕ
  pub size : ℕ
  pub form : Form

abbrev pub field_in_form : List ℕ → ℕ → ℕ → List ℕ → Form → List ℕ
field_in_form word at size m Plainly = and_number word (big_number_at at size m)
field_in_form word at size m (Named names) = and_name word names (big_number_at at size m)
field_in_form word at size m InHex = in_hex word at size m
field_in_form word at size m UnlessAny = words_unless_any word (big_number_at at size m)
field_in_form word at size m UnlessZero = unless_zero (big_number_at at size m) (in_hex word at size m)

abbrev pub message_field_words : List ℕ → Field → List ℕ
message_field_words m f = field_in_form f.word f.at f.size m f.form

-- fields, one after the other
unfoldable pub fields_words : List Field → List ℕ → List ℕ
fields_words fields m = flat_map (message_field_words m) fields

-- ---- the fields of a struct

abbrev pub same : String → String → Bool
same a b = bytes_eq (codes a) (codes b)

-- where the first field of that name is, in a struct that begins there, and how many bytes it has
abbrev pub place_in_struct : String → ℕ → Struct → Option (ℕ × ℕ)
place_in_struct name at [] = None
place_in_struct name at (byte other ∷ s) = if same name other then Some (at, 1) else place_in_struct name (at + 1) s
place_in_struct name at (number other w ∷ s) = if same name other then Some (at, w) else place_in_struct name (at + w) s
place_in_struct name at (plain other w ∷ s) = if same name other then Some (at, w) else place_in_struct name (at + w) s
place_in_struct name at (pad w ∷ s) = place_in_struct name (at + w) s

-- its number in a message
abbrev pub field_number : String → ℕ → Struct → List ℕ → Option ℕ
field_number name at s m = option_and_then (λ p. big_number_at p.0 p.1 m) (place_in_struct name at s)

-- a field by its name, with the word before it and its form
abbrev pub labelled_field : String → String → Form → ℕ → Struct → List Field
labelled_field name word form at s = map (λ p. record { word = codes word; at = p.0; size = p.1; form = form }) (option_to_list (place_in_struct name at s))

-- fields of a struct that begins there, in the order of the text
abbrev pub fields : ℕ → Struct → List (ℕ → Struct → List Field) → List Field
fields at s ts = flat_map (λ t. t at s) ts

-- ---- for contracts inside this crate: a row of the code's tables

abbrev pub field_of : Row → Field
field_of row = record { word = row.0.now; at = row.1; size = row.2; form = row.3 }

-- each has 1 to 8 bytes
abbrev pub are_short : List Field → Bool
are_short fs = list_all (λ f. nat_le 1 f.size && nat_le f.size 8) fs
