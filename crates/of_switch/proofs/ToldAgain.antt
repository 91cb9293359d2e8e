-- A configuration that was loaded is returned.
use Rattle.std.proofs.Common.{◌≡◌}
use Rattle.of_text.specs.Configs.{Configuration, IsConfig}
use Rattle.of_datapath.proofs.ConfiguringLemmas.{loaded_is_configuration}
use Rattle.of_switch.specs.{Loading.config_of, Loading.loaded, State.State}

pub told_again : (c : Configuration) (s : State) → IsConfig c → config_of (loaded c s) ≡ c
told_again c s k =
    let f = s.core.forwarding in
    loaded_is_configuration c f.tables.latest f.ports f.held k
