-- NUMBERS IN WORDS: hexadecimal digits, Ethernet and IPv4 addresses, ports.
use Rattle.std.specs.Prelude.{ℕ, zero, suc, ◌+◌, ◌*◌, ◌/◌, ◌%◌, ◌^◌, ◌==◌, ◌||◌, not, nat_lt, List, [], ◌∷◌, ◌++◌, codes, decimal, Option, Some, None, find, if◌then◌else◌}
use Rattle.of_wire.specs.Parts.{keyword}
use Rattle.of_values.specs.{declared.ports.PortName.PortName, declared.ports.TheConstants.PORT_NAMES}

-- ---- hexadecimal digits

-- 0 to 9, then a to f
abbrev pub digit_byte : ℕ → ℕ
digit_byte d = if nat_lt d 10 then 48 + d else 87 + d

-- the digit at a place, from 0 for the last one; nothing where it and all before it are 0, but at the `least` last places
abbrev pub digit_at : ℕ → ℕ → ℕ → List ℕ
digit_at least place n = if nat_lt place least || not (n / 2 ^ (4 * place) == 0) then digit_byte (n / 2 ^ (4 * place) % 16) ∷ [] else []

-- those of the last `most` places
unfoldable pub digits : ℕ → ℕ → ℕ → List ℕ
digits least zero n = []
digits least (suc place) n = digit_at least place n ++ digits least place n

-- 0x and the digits of a number of 128 bits, so many at least
unfoldable pub hexadecimal : ℕ → ℕ → List ℕ
hexadecimal least n = codes "0x" ++ digits least 32 n

-- ---- addresses

-- the byte that begins at a bit, from 0 for the last one
abbrev pub byte_at : ℕ → ℕ → ℕ
byte_at bit n = n / 2 ^ bit % 256

-- 02:00:00:00:00:a1
abbrev pub byte_digits : ℕ → ℕ → List ℕ
byte_digits bit n = digits 2 2 (byte_at bit n)

abbrev pub colon_byte : ℕ → ℕ → List ℕ
colon_byte bit n = 58 ∷ byte_digits bit n

unfoldable pub ethernet : ℕ → List ℕ
ethernet n = byte_digits 40 n ++ colon_byte 32 n ++ colon_byte 24 n ++ colon_byte 16 n ++ colon_byte 8 n ++ colon_byte 0 n

-- 10.0.0.1
abbrev pub dot_byte : ℕ → ℕ → List ℕ
dot_byte bit n = 46 ∷ decimal (byte_at bit n)

unfoldable pub ipv4_address : ℕ → List ℕ
ipv4_address n = decimal (byte_at 24 n) ++ dot_byte 16 n ++ dot_byte 8 n ++ dot_byte 0 n

-- ---- ports (7.2.1): the reserved ones by their names

abbrev pub port_word : ℕ → Option PortName → List ℕ
port_word n None = decimal n
port_word n (Some row) = keyword row.1

unfoldable pub port_in_words : ℕ → List ℕ
port_in_words n = port_word n (find (λ row. n == row.0) PORT_NAMES)
