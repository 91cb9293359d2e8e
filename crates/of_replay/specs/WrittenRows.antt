-- THE TEXT OF A ROW of an event file, as it is written: words, separated by one space.
use Rattle.std.specs.Prelude.{◌≡◌, ℕ, ◌-◌, ◌^◌, ◌<◌, ◌≤◌, ⊤, Bool, true, false, List, [], ◌∷◌, ◌++◌, length, codes, decimal, replicate, Option, Some, None}
use Rattle.std.specs.List.{flat_map, list_all}
use Rattle.hex.specs.Hex.{encode_lower, IsBytes}
use Rattle.of_switch.specs.declared.event.Event.TheVariants.{Connect, Lost, Chunk, Frame, Moment, Ports}
use Rattle.of_switch.specs.declared.port_change.PortChange.{PortChange}
use Rattle.of_switch.specs.declared.port_change.PortChange.TheVariants.{Add, Remove, Link}
use Rattle.of_switch.specs.declared.event.Event.{Event}
use Rattle.of_text.specs.Lines.{before, joined}
use Rattle.of_replay.specs.Lexing.{is_name_byte}

-- hex digits in lower case, or `-` for no bytes
abbrev pub bytes_word : List ℕ → List ℕ
bytes_word [] = codes "-"
bytes_word (b ∷ bs) = encode_lower (b ∷ bs)

-- a port's name, without the zeros behind it
abbrev pub name_word : List ℕ → List ℕ
name_word name = before 0 name

abbrev pub state_word : Bool → List ℕ
state_word true = codes "up"
state_word false = codes "down"

abbrev pub change_words : PortChange → List (List ℕ)
change_words (Add number hw name up) = codes "add" ∷ decimal number ∷ encode_lower hw ∷ name_word name ∷ state_word up ∷ []
change_words (Remove number) = codes "remove" ∷ decimal number ∷ []
change_words (Link number up) = codes "link" ∷ decimal number ∷ state_word up ∷ []

abbrev pub row_words : Option Event → List (List ℕ)
row_words None = []
row_words (Some Connect) = codes "connect" ∷ []
row_words (Some Lost) = codes "lost" ∷ []
row_words (Some (Chunk bytes)) = codes "c" ∷ bytes_word bytes ∷ []
row_words (Some (Frame port bytes)) = codes "f" ∷ decimal port ∷ bytes_word bytes ∷ []
row_words (Some (Moment nanos)) = codes "t" ∷ decimal nanos ∷ []
row_words (Some (Ports change)) = codes "port" ∷ change_words change

abbrev pub row_text : Option Event → List ℕ
row_text row = joined (row_words row)

-- WHAT HAS A TEXT: numbers of 32 and 64 bits, bytes, hardware addresses of six bytes, and names of 1 to 15 letters and digits

pub record IsName (name : List ℕ) : Type 0 where
  pub word : List ℕ
  pub some : 1 ≤ length word
  pub few : length word ≤ 15
  pub letters : list_all is_name_byte word ≡ true
  pub padded : name ≡ word ++ replicate (16 - length word) 0

abbrev pub HasChangeText : PortChange → Type 0
HasChangeText (Add number hw name up) = (number < 2 ^ 32) × (length hw ≡ 6) × IsBytes hw × IsName name
HasChangeText (Remove number) = number < 2 ^ 32
HasChangeText (Link number up) = number < 2 ^ 32

abbrev pub HasText : Option Event → Type 0
HasText None = ⊤
HasText (Some Connect) = ⊤
HasText (Some Lost) = ⊤
HasText (Some (Chunk bytes)) = IsBytes bytes
HasText (Some (Frame port bytes)) = (port < 2 ^ 32) × IsBytes bytes
HasText (Some (Moment nanos)) = nanos < 2 ^ 64
HasText (Some (Ports change)) = HasChangeText change

-- a line has at most 1,048,576 bytes
pub record HasLine (row : Option Event) : Type 0 where
  pub has : HasText row
  pub short : length (row_text row) ≤ 1048576

-- THE TEXT OF A FILE: each row is a line, which ends with LF
abbrev pub file_text : List (Option Event) → List ℕ
file_text rows = flat_map (λ row. row_text row ++ 10 ∷ []) rows
