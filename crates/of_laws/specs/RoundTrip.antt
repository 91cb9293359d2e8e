-- THE ROUND TRIP of a flow text: what `asm` writes for it, run on a new switch, ends with its configuration.
use Rattle.std.specs.Prelude.{◌≡◌, ℕ, List, [], ◌∷◌, None, replicate}
use Rattle.of_text.specs.Configs.{Configuration}
use Rattle.of_messages.specs.Written.{hello_bytes}
use Rattle.of_datapath.specs.declared.effect.Effect.TheVariants.{Answer}
use Rattle.of_switch.specs.{State.start, Runs.Gives, Runs.Run, Runs.run, Loading.config_of, Loading.loaded}
use Rattle.of_replay.specs.{Lexing.lines_of_file, Rows.rows_of_lines}

-- the run of a file's events on a new switch with that datapath_id
abbrev pub run_of_file : ℕ → List ℕ → Run
run_of_file dpid file = run (rows_of_lines (lines_of_file file)).events (start dpid)

-- THE FILE GIVES THE CONFIGURATION to a new switch
pub record ComesBack (dpid : ℕ) (file : List ℕ) (config : Configuration) : Type 0 where
  -- no row is bad
  pub good : (rows_of_lines (lines_of_file file)).bad ≡ None
  -- the switch says its HELLO, and has nothing to say to what follows: no event is refused, and no message is answered by an ERROR
  pub others : ℕ
  pub quiet : (run_of_file dpid file).reports ≡ Gives (Answer hello_bytes ∷ []) ∷ replicate others (Gives [])
  -- but for its connection the switch is a new one that the configuration was loaded into
  pub core_is : (run_of_file dpid file).state.core ≡ (loaded config (start dpid)).core
  -- so it has the configuration
  pub config_is : config_of (run_of_file dpid file).state ≡ config
