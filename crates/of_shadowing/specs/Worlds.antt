-- WORLDS: a packet, and which words hold that OpenFlow 1.3 has no meaning for. Each such word is a condition of its own, named by its text.
use Rattle.std.specs.{Prelude.ℕ, Prelude.◌&&◌, Prelude.Bool, Prelude.List, List.list_all, List.list_any, Str.bytes_eq}
use Rattle.of_oxm.specs.Relations.{matches_map}
use Rattle.of_check.specs.Verdicts.{Packet, fields_of}
use Rattle.of_shadowing.specs.declared.listed_flow.ListedFlow.{ListedFlow}

pub record World : Type 0 where
  pub packet : Packet
  pub holds : List ℕ → Bool

-- each word of the flow holds
abbrev pub all_hold : (List ℕ → Bool) → ListedFlow → Bool
all_hold holds f = list_all (λ w. holds w.items) f.words.items

-- THE FLOW TAKES THE WORLD: its match matches the packet, and its words hold
abbrev pub takes_world : ListedFlow → World → Bool
takes_world f w = matches_map f.fields (fields_of w.packet) && all_hold w.holds f

-- the text is a word of the flow
abbrev pub says_word : ListedFlow → List ℕ → Bool
says_word f text = list_any (λ w. bytes_eq w.items text) f.words.items

-- the world of a packet in which the words of the flow hold, and no others
abbrev pub own_world : ListedFlow → Packet → World
own_world f p = record { packet = p; holds = says_word f }
