-- MESSAGES OF EITHER SIDE IN WORDS, one after the other.
use Rattle.std.specs.Prelude.{◌≡◌, ℕ, List, [], ◌∷◌, ◌++◌, length}
use Rattle.std.specs.List.{flat_map}
use Rattle.of_messages.specs.Messages.{message_of}
use Rattle.of_session.specs.Stream.{Splits}
use Rattle.of_explain.specs.{Messages.message_words, Requests.row_lines, Requests.rows_said, Replies.answer_lines}

-- a line of words, and below it what it says in flow text, or the rows of a reply
unfoldable pub message_lines : List ℕ → List ℕ
message_lines m = message_words m ++ 10 ∷ [] ++ row_lines (rows_said (message_of m)) ++ answer_lines m

-- THE LINES OF THE MESSAGES into which bytes split (OpenFlow 1.3.5, 7.1), behind a text; so many bytes are left after the last of them
pub record Says (bytes : List ℕ) (left : ℕ) (old new : List ℕ) : Type 0 where
  pub messages : List (List ℕ)
  pub rest : List ℕ
  pub split : Splits bytes messages rest
  pub text_is : new ≡ old ++ flat_map message_lines messages
  pub left_is : left ≡ length rest
