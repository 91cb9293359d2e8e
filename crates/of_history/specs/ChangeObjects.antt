-- CHANGES AS JSON LINES (RFC 8259): an object for each, in a line of its own.
use Rattle.std.specs.Prelude.{ℕ, ◌==◌, if◌then◌else◌, length, List, [], ◌∷◌, ◌++◌, codes, decimal, Option, Some, None}
use Rattle.of_text.specs.Lines.{lines_of}
use Rattle.of_json.specs.{Parts.key, Parts.listed, Parts.number_member, Strings.array_member, Strings.line_string, Strings.string_member}
use Rattle.of_explain.specs.Requests.{request_notes}
use Rattle.of_history.specs.{declared.reason.Reason.Reason, Causes.By, Causes.Message, Causes.Moment, Causes.Cause, Reasons.fate_reason_words, Changes.ChangeText}

-- a further member: the lines of a text without so many bytes before each
unfoldable pub lines_member : List ℕ → ℕ → List ℕ → List ℕ
lines_member name indent text = array_member name (listed (line_string indent) (lines_of text))

-- the lines about what expires, without their first 13 bytes: `    expired: `
abbrev pub expired_member : List ℕ → List ℕ
expired_member expired = if length expired == 0 then [] else lines_member (codes "expired") 13 expired

-- `"row":"t 4000000000","expired":["table 0, priority 1, ..",..]`, or `"message":3,"by":["from the controller: FLOW_MOD xid 6 ..",..]`
abbrev pub by_members : List ℕ → By → List ℕ
by_members line (Message k m) = number_member (codes "message") k ++ lines_member (codes "by") 4 (request_notes m)
by_members line (Moment expired) = string_member (codes "row") line ++ expired_member expired
by_members line other = string_member (codes "row") line

unfoldable pub cause_members : Cause → List ℕ
cause_members c = by_members c.line c.by

abbrev pub reason_member : Option Reason → List ℕ
reason_member None = []
reason_member (Some r) = string_member (codes "reason") (fate_reason_words r)

-- `{"line":24,"message":3,"by":[..],"reason":"..","before":[..],"after":[..]}`: what the view was before and after it
unfoldable pub change_object : ChangeText
change_object c reason old new =
    123 ∷ key (codes "line") ++ decimal c.number ++ cause_members c ++ reason_member reason
    ++ lines_member (codes "before") 0 old ++ lines_member (codes "after") 0 new ++ 125 ∷ 10 ∷ []
