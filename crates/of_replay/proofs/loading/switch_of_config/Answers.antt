use Rattle.std.proofs.Common.{◌∙◌, ap, map, List}
use Rattle.of_switch.specs.{declared.event.Event.Event, State.State, Runs.run, Loading.loaded}
use Rattle.of_replay.specs.Loaded.{port_up}
use Rattle.of_replay.proofs.loading.switch_of_config.Goals as goal

pub returns-in-Ok : goal.returns-in-Ok
returns-in-Ok g c =
    let ran = c.in_ok-run.ensures.ok.state in
    let ports = map port_up c.args.ports.now in
    c.in-Ok.ensures ∙ ap (loaded c.args.config.now) (ran ∙ (ap (λ (events : List Event). (run events c.in_ok-switch.switch).state) (c.deref.ensures.value ∙ c.in_ok-ports_up.ensures) ∙ ap (λ (s : State). (run ports s).state) c.in_ok-switch.ensures))
