-- For contracts inside this crate: the outermost tag in a frame's bytes, after two addresses of six bytes.
use Rattle.std.specs.Prelude.{ℕ, ◌+◌, ◌*◌, ◌/◌, ◌%◌, Bool, ◌&&◌, nat_le, if◌then◌else◌, List, length}
use Rattle.of_layers.specs.Reading.{word, is_tag_type}

abbrev pub has_tag : List ℕ → Bool
has_tag s = nat_le 18 (length s) && is_tag_type (word s 12)

-- PCP and VID in their places, with a DEI of 0
abbrev pub control_in : List ℕ → ℕ
control_in s = if has_tag s then word s 14 / 8192 * 8192 + word s 14 % 4096 else 0
