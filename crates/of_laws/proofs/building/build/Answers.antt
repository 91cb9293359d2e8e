use Rattle.std.proofs.Common.{◌≡◌, Ok, Err, IfOk, IfErr, subst}
use Rattle.std.specs.Prelude.{◌⊎◌}
use Rattle.of_laws.specs.{declared.fault.ConfigFault.TheVariants.NoMemory, Built.Listed, Built.config_listed, Built.config_said}
use Rattle.of_laws.proofs.building.build.Goals as goal

pub returns-clause-given : goal.returns-clause-given
unfolding config_said
returns-clause-given c = subst (λ (x : Listed). IfOk c.configured.result (λ config. config_listed x ≡ Ok config)) c.in_ok-all.ensures.listed c.configured.ensures.given

pub returns-clause-failed : goal.returns-clause-failed
unfolding config_said
returns-clause-failed c = subst (λ (x : Listed). IfErr c.configured.result (λ fault. (fault ≡ NoMemory) ⊎ (config_listed x ≡ Err fault))) c.in_ok-all.ensures.listed c.configured.ensures.failed
