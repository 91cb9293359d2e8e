-- DESC (OpenFlow 1.3.5, 7.3.5.1): what the switch is, in words.
use Rattle.std.specs.Prelude.{ℕ, ◌-◌, List, [], ◌∷◌, ◌++◌, length, replicate, codes}
use Rattle.of_formats.specs.Structs.{Struct, slot_width, written_with}
use Rattle.of_formats.specs.Tables as tables
use Rattle.of_statistics.specs.Replies.{reply}

-- a text, padded with zeros
abbrev pub padded_text : ℕ → List ℕ → List ℕ
padded_text size text = text ++ replicate (size - length text) 0

-- texts, each as long as its field
abbrev pub padded_to : Struct → List (List ℕ) → List (List ℕ)
padded_to [] texts = []
padded_to (slot ∷ s) [] = []
padded_to (slot ∷ s) (text ∷ texts) = padded_text (slot_width slot) text ∷ padded_to s texts

-- the manufacturer, the hardware, the software, the serial number, and what a person would call this datapath
unfoldable pub description : List ℕ
description = written_with tables.desc [] (padded_to tables.desc (codes "ofswitch" ∷ codes "software" ∷ codes "1" ∷ codes "0" ∷ codes "ofswitch" ∷ []))

abbrev pub description_bytes : ℕ → List ℕ
description_bytes xid = reply xid 0 0 description
