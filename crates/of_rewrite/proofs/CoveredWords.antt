-- The words that checksums cover, in the bits of a frame.
use Rattle.std.specs.Prelude.{ℕ, ◌*◌, true, false, List, ◌++◌, drop}
use Rattle.of_headers.specs.{declared.layout.Layout.Layout, declared.layout.Network.Network}
use Rattle.of_headers.specs.declared.layout.Network.TheVariants.{Ipv4, Ipv6}
use Rattle.of_rewrite.specs.{declared.sums.Span.Span, Checksum.words_of, Checksum.updated, Checksum.carried_updated}
use Rattle.of_rewrite.specs.Renewal.{packet_at, header_span, address_span, carried_span}

-- a span's words in the bits of a frame
abbrev pub words_in : Span → List ℕ → List ℕ
words_in p s = words_of p.words (drop (8 * p.at) s)

abbrev pub header_words : Layout → List ℕ → List ℕ
header_words l s = words_in (header_span (packet_at l) l.network) s

abbrev pub carried_words : Layout → List ℕ → List ℕ
carried_words l s = words_in (address_span (packet_at l) l.network) s ++ words_in (carried_span (packet_at l) l.network) s

-- how the checksum of what is carried is updated: over IPv4 that of UDP is optional
abbrev pub carried_rule : Network → ℕ → List ℕ → List ℕ → ℕ
carried_rule (Ipv4 p) = carried_updated true p.transport
carried_rule (Ipv6 named p) = carried_updated false p.transport
carried_rule other = updated
