-- THE REPORT ON REQUIREMENTS AS JSON (RFC 8259): a member of the report of `check`.
use Rattle.std.specs.Prelude.{ℕ, List, [], ◌∷◌, ◌++◌, codes, decimal}
use Rattle.hex.specs.Hex.{encode_lower}
use Rattle.of_json.specs.{LeavingJson.items_member, ChangesInJson.changes_member, Parts.listed, Parts.number_member, Parts.text_member, Parts.truth_member}
use Rattle.of_json.specs.Strings.{array_member, string_member}
use Rattle.of_values.specs.Filled.{filled}
use Rattle.of_require.specs.{declared.answers.Answer.Answer, declared.deciding.Decision.Decision}
use Rattle.of_require.specs.{declared.deciding.Decision.TheVariants.Frame, declared.deciding.Decision.TheVariants.Undecided as NotKnown, declared.deciding.Verdict.Verdict}
use Rattle.of_require.specs.declared.deciding.Verdict.TheVariants.{Fails, Holds, Undecided}
use Rattle.of_require.specs.{declared.json.TheConstants.LINE, Answers.may_match, Answers.verdict_of}

abbrev pub verdict_name : Verdict → List ℕ
verdict_name Holds = codes "holds"
verdict_name Fails = codes "fails"
verdict_name Undecided = codes "undecided"

-- the frame that decides, and what leaves and changed; or the port of frames of which it is not known
unfoldable pub shown_members : Decision → List ℕ
shown_members (Frame s) =
    number_member (codes "in_port") s.in_port ++ text_member (codes "frame") (encode_lower s.frame.items) ++ items_member (codes "items") s.items.items
    ++ changes_member (codes "changes") s.frame.items s.items.items
shown_members (NotKnown port) = number_member (codes "in_port") port
shown_members other = []

unfoldable pub line_members : Answer → List ℕ
line_members a = filled LINE (decimal a.line.number ∷ []) ++ string_member (codes "requirement") a.line.text.items

unfoldable pub requirement_verdict_members : Answer → List ℕ
requirement_verdict_members a = text_member (codes "verdict") (verdict_name (verdict_of a)) ++ truth_member (codes "matches") (may_match a.decision) ++ shown_members a.decision

unfoldable pub answer_object : Answer → List ℕ
answer_object a = line_members a ++ requirement_verdict_members a ++ 125 ∷ []

unfoldable pub requirements_member : List Answer → List ℕ
requirements_member answers = array_member (codes "requirements") (listed answer_object answers)
