-- The row that marks where the text of the rows before it ends.
use Rattle.std.proofs.Common.{◌≡◌, ℕ, ◌++◌, ◌∷◌, [], Some, codes, refl}
use Rattle.std.specs.{Fmt.digits, Str.is_utf8, Str.chars}
use lib.Utf8.{encode}
use Rattle.of_switch.specs.{State.State, declared.port_change.PortChange.TheVariants.Remove, declared.event.Event.TheVariants.Ports}
use Rattle.of_replay.specs.{Rows.row_of_line, RowTexts.plain_row_text}

pub mark_row : row_of_line (codes "port remove 0") ≡ Some (Some (Ports (Remove 0)))
unfolding is_utf8 chars encode
mark_row = refl

pub mark_text : (n : ℕ) (s : State) → plain_row_text n s (codes "port remove 0") (Some (Ports (Remove 0))) ≡ codes "refused 8" ++ 10 ∷ []
unfolding digits
mark_text n s = refl
