-- The lines that are printed for what a switch gives.
use Rattle.std.specs.Prelude.{ℕ, List, [], ◌∷◌, ◌++◌, codes, decimal}
use Rattle.std.specs.List.{flat_map}
use Rattle.hex.specs.Hex.{encode_lower}
use Rattle.of_datapath.specs.{declared.effect.Effect.Effect, declared.effect.Effect.TheVariants.Answer, declared.effect.Effect.TheVariants.Sent, declared.effect.Effect.TheVariants.Closed}
use Rattle.of_switch.specs.{declared.switch_error.SwitchError.SwitchError, Calls.error_number, declared.event.Event.Event, State.State, Runs.Report, Runs.Gives, Runs.IsRefused, Runs.run}

-- `a HEX`, `s PORT HEX` or `closed`
abbrev pub line_of : Effect → List ℕ
line_of (Answer bytes) = codes "a " ++ encode_lower bytes ++ 10 ∷ []
line_of (Sent port frame) = codes "s " ++ decimal port ++ 32 ∷ encode_lower frame ++ 10 ∷ []
line_of Closed = codes "closed" ++ 10 ∷ []

abbrev pub text_of : List Effect → List ℕ
text_of effects = flat_map line_of effects

-- `refused N`
abbrev pub refused_line : SwitchError → List ℕ
refused_line refusal = codes "refused " ++ decimal (error_number refusal) ++ 10 ∷ []

abbrev pub report_text : Report → List ℕ
report_text (Gives effects) = text_of effects
report_text (IsRefused refusal) = refused_line refusal

-- THE OUTPUT of events: the text of the reports of the abstract switch's run, from a state of it on
abbrev pub printed_from : State → List Event → List ℕ
printed_from s events = flat_map report_text (run events s).reports
