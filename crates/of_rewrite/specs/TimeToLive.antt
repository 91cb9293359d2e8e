-- The TTL decremented by one: IPv4's time to live, or IPv6's hop limit (OpenFlow 1.3.5, 5.12; RFC 791, 3.1; RFC 8200, 3).
use Rattle.std.specs.Prelude.{ℕ, ◌-◌, nat_le, if◌then◌else◌, List, Option, Some, None}
use Rattle.of_layers.specs.{Layers.Layers, Layers.Cell, Layers.cells, Layers.ttl, Looking.look_up}
use Rattle.of_rewrite.specs.{Rewriting.number_set, Replaced.layers_set, declared.frame.Ttl.Ttl}
use Rattle.of_rewrite.specs.declared.frame.Ttl.TheVariants.{Done, Expired, Absent}

abbrev pub ttl_of : Layers → Option ℕ
ttl_of l = look_up ttl (cells l)

-- a TTL of 1 would become 0
abbrev pub dec_ttl_result : Option ℕ → Ttl
dec_ttl_result None = Absent
dec_ttl_result (Some t) = if nat_le t 1 then Expired else Done

abbrev pub ttl_decremented_from : Option ℕ → Layers → List Cell
ttl_decremented_from None l = cells l
ttl_decremented_from (Some t) l = if nat_le t 1 then cells l else number_set ttl (t - 1) l

abbrev pub layers_ttl_decremented : Option ℕ → Layers → Layers
layers_ttl_decremented None l = l
layers_ttl_decremented (Some t) l = if nat_le t 1 then l else layers_set ttl (t - 1) l
