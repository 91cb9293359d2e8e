-- Headers as the reader keeps them, and what it knows of them.
use Rattle.std.specs.Prelude.{ℕ, ◌^◌, nat_lt, Bool, true, ◌&&◌}
use Rattle.of_actions.specs.declared.unread.Header.TheVariants.{Goto, Metadata, Write, Apply, Clear}
use Rattle.of_actions.specs.declared.unread.Header.{Header}
use Rattle.of_actions.specs.Headers as seen

abbrev pub header_of : Header → seen.Header
header_of (Goto table) = seen.goto table
header_of (Metadata value mask) = seen.metadata value mask
header_of (Write bytes) = seen.write bytes.now
header_of (Apply bytes) = seen.apply bytes.now
header_of Clear = seen.clear

-- numbers fit their bytes, and the table exists
abbrev pub is_sound_header : seen.Header → Bool
is_sound_header (seen.goto to) = nat_lt to 16
is_sound_header (seen.metadata value mask) = nat_lt value (2 ^ 64) && nat_lt mask (2 ^ 64)
is_sound_header (seen.write bytes) = true
is_sound_header (seen.apply bytes) = true
is_sound_header seen.clear = true

-- a GOTO_TABLE leads to a later table than this one
abbrev pub leads_on : ℕ → seen.Header → Bool
leads_on table (seen.goto to) = nat_lt table to
leads_on table (seen.metadata value mask) = true
leads_on table (seen.write bytes) = true
leads_on table (seen.apply bytes) = true
leads_on table seen.clear = true
