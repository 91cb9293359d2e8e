-- One event of a run, as the code does it.
use Rattle.std.specs.Prelude.{◌≡◌, List, [], ◌∷◌, ◌++◌, Result, Ok, Err}
use Rattle.std.specs.declared.alloc.AllocError.{AllocError}
use Rattle.smallvec.specs.SmallVec.{SmallVec}
use Rattle.of_datapath.specs.declared.effect.Effect.{Effect}
use Rattle.of_switch.specs.declared.switch_error.SwitchError.TheVariants.{NoMemory, NotConnected, Connected, PortExists, NoSuchPort, TooManyPorts, BadPortNumber}
use Rattle.of_switch.specs.Runs.{Report, Gives, IsRefused, happened, drained, behind_effects, effects_in, IsReported, IsInterrupted}
use Rattle.of_switch.specs.{declared.event.Event.Event, declared.switch_error.SwitchError.SwitchError, State.State}

-- the report of a refusal; running out of memory has none
abbrev pub TellsRefusal : SwitchError → List Report → Result (Unit {0}) AllocError → List Report → Type 0
TellsRefusal NoMemory old (Ok u) new = ⊥
TellsRefusal NoMemory old (Err x) new = new ≡ old
TellsRefusal NotConnected old (Ok u) new = new ≡ old ++ IsRefused NotConnected ∷ []
TellsRefusal NotConnected old (Err x) new = ⊥
TellsRefusal Connected old (Ok u) new = new ≡ old ++ IsRefused Connected ∷ []
TellsRefusal Connected old (Err x) new = ⊥
TellsRefusal PortExists old (Ok u) new = new ≡ old ++ IsRefused PortExists ∷ []
TellsRefusal PortExists old (Err x) new = ⊥
TellsRefusal NoSuchPort old (Ok u) new = new ≡ old ++ IsRefused NoSuchPort ∷ []
TellsRefusal NoSuchPort old (Err x) new = ⊥
TellsRefusal TooManyPorts old (Ok u) new = new ≡ old ++ IsRefused TooManyPorts ∷ []
TellsRefusal TooManyPorts old (Err x) new = ⊥
TellsRefusal BadPortNumber old (Ok u) new = new ≡ old ++ IsRefused BadPortNumber ∷ []
TellsRefusal BadPortNumber old (Err x) new = ⊥

-- the report of a call
abbrev pub TellsCall : Result (SmallVec Effect) SwitchError → List Report → Result (Unit {0}) AllocError → List Report → Type 0
TellsCall (Ok effects) old (Ok u) new = new ≡ old ++ Gives effects.items ∷ []
TellsCall (Ok effects) old (Err x) new = ⊥
TellsCall (Err refusal) old result new = TellsRefusal refusal old result new

-- an event happens and is reported, or is interrupted
abbrev pub Happens : Result (Unit {0}) AllocError → Event → State → State → List Report → List Report → Type 0
Happens (Ok u) event s t old new = (t ≡ (happened event s).state) × (new ≡ old ++ (happened event s).report ∷ [])
Happens (Err x) event s t old new = (more : List Report) × (new ≡ old ++ more) × IsInterrupted event s t more

-- all messages are handled, or those before one that ran out of memory
abbrev pub Drains : Result (Unit {0}) AllocError → State → State → List Report → List Report → Type 0
Drains (Ok u) s t old new = (t ≡ (drained s).state) × (new ≡ old ++ Gives (drained s).effects ∷ [])
Drains (Err x) s t old new = (more : List Report) × (new ≡ old ++ more) × IsReported more × (drained s ≡ behind_effects (effects_in more) (drained t))
