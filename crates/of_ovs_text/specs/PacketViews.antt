-- The words of a PACKET_OUT, apart from their layout in memory.
use Rattle.std.specs.Option.{option_map}
use Rattle.of_ovs_text.specs.{declared.packet_out.PacketWords.PacketWords as Declared, PacketOuts.PacketWords}

abbrev pub view_packet_words : Declared → PacketWords
view_packet_words s = record { frame = option_map (λ f. f.items) s.frame; others = s.others.items }
