use Rattle.of_datapath.proofs.ConfiguringLemmas.{kept_config}
use Rattle.of_datapath.proofs.configuring.config_from.Goals as goal

pub of-requires : goal.of-requires
of-requires g c =
    kept_config c.args.datapath.now.tables c.args.datapath.now.groups c.args.datapath.now.ports c.args.datapath.now.held _ _ c.known.ensures.sixteen c.known.ensures.sound c.groups.ensures.sound c.requires
    (rw c.groups.ensures.groups at c.in_ok-groups.ensures.text) c.in_ok-groups.ensures.fits c.in_ok-flows.ensures.text c.in_ok-flows.ensures.kept
