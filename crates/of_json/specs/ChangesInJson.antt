-- WHAT CHANGED IN WHAT LEAVES A SWITCH, AS JSON (RFC 8259): for each item an array of the changes in its frame.
use Rattle.std.specs.Prelude.{ℕ, List, ◌∷◌, ◌++◌, [], codes, Option, Some, None}
use Rattle.of_machine.specs.declared.data.Item.{Item}
use Rattle.of_json.specs.{Parts.key, Parts.listed, Parts.quoted, Strings.array_member, declared.altered.Change.Change, declared.altered.Property.Property, Changes.changes}
use Rattle.of_json.specs.ChangesInWords.{item_frame, property_name, property_value}

-- null if the frame does not have it
abbrev pub value_in_json : Property → Option ℕ → List ℕ
value_in_json p None = codes "null"
value_in_json p (Some n) = quoted (property_value p n)

unfoldable pub value_member : List ℕ → Property → Option ℕ → List ℕ
value_member name p n = 44 ∷ key name ++ value_in_json p n

unfoldable pub value_change_object : Change → List ℕ
value_change_object c =
    123 ∷ key (codes "field") ++ quoted (property_name c.property) ++ value_member (codes "before") c.property c.before
    ++ value_member (codes "after") c.property c.after ++ 125 ∷ []

unfoldable pub changes_array : List ℕ → Item → List ℕ
changes_array came item = 91 ∷ listed value_change_object (changes came (item_frame item)) ++ 93 ∷ []

-- a further member: an array for each item that leaves for the frame that came in
unfoldable pub changes_member : List ℕ → List ℕ → List Item → List ℕ
changes_member name came items = array_member name (listed (changes_array came) items)
