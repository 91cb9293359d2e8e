use Rattle.of_text.{specs.Configs.view_config, proofs.StandLemmas.kept_config}
use Rattle.of_text.proofs.config.Config.of.Goals as goal

pub invariant_of-result : goal.invariant_of-result
invariant_of-result c = kept_config (view_config c.args.groups c.args.tables) c.requires
