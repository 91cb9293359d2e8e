-- VALUES OF FIELDS IN WORDS (ovs-fields(7)): numbers, Ethernet addresses, IPv4 addresses, ports.
use Rattle.std.specs.Prelude.{ℕ, ◌+◌, ◌-◌, ◌*◌, ◌/◌, ◌^◌, List, Option, Some}
use Rattle.of_lines.specs.{Lines.before, Lines.behind}
use Rattle.of_ovs_words.specs.Numbers.{some_digits}
use Rattle.of_lines.specs.Reading.{◌>>=◌}

-- 02:00:00:00:00:01
abbrev pub mac_in : List ℕ → Option ℕ
mac_in word = do
  a ← some_digits 16 256 (before 58 word)
  let bs = behind 58 word
  b ← some_digits 16 256 (before 58 bs)
  let cs = behind 58 bs
  c ← some_digits 16 256 (before 58 cs)
  let ds = behind 58 cs
  d ← some_digits 16 256 (before 58 ds)
  let es = behind 58 ds
  e ← some_digits 16 256 (before 58 es)
  f ← some_digits 16 256 (behind 58 es)
  Some (1099511627776 * a + 4294967296 * b + 16777216 * c + 65536 * d + 256 * e + f)

-- 10.0.0.1
abbrev pub ipv4_in : List ℕ → Option ℕ
ipv4_in word = do
  a ← some_digits 10 256 (before 46 word)
  let bs = behind 46 word
  b ← some_digits 10 256 (before 46 bs)
  let cs = behind 46 bs
  c ← some_digits 10 256 (before 46 cs)
  d ← some_digits 10 256 (behind 46 cs)
  Some (16777216 * a + 65536 * b + 256 * c + d)

-- the mask of the first n bits, of as many as `ones` has
abbrev pub first_bits_mask : ℕ → ℕ → ℕ
first_bits_mask ones n = ones - ones / 2 ^ n
