-- THE TRACE OF A FLOW TEXT: that of a frame on a new switch with ports 1 to 64, whose links are up, and with the groups and flows of the text.
use Rattle.std.specs.Prelude.{ℕ, List}
use Rattle.of_text.specs.Configs.{Configuration}
use Rattle.of_switch.specs.{State.State, Steps.frame_in}
use Rattle.of_datapath.specs.DryRun.{steps_in}
use Rattle.of_replay.specs.Loaded.{switch_with}
use Rattle.of_trace.specs.{declared.tracing_file.TheConstants.TRACED_PORTS, declared.form.Output.Output, Notes.trace_output}

-- what is written of the trace on a switch
abbrev pub trace_on : Output → ℕ → List ℕ → State → List ℕ
trace_on output port frame s = trace_output output s.core.forwarding port frame (steps_in port frame s.core.forwarding) (frame_in port frame s).effects

abbrev pub trace_of : Output → ℕ → List ℕ → Configuration → List ℕ
trace_of output port frame config = trace_on output port frame (switch_with TRACED_PORTS config)
