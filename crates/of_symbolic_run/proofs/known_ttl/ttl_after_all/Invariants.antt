use Rattle.std.proofs.Common.{◌≡◌, take}
use Rattle.of_symbolic_run.{specs.TimesToLive.known_ttl, proofs.TtlLemmas.IsWithin}
use Rattle.of_symbolic_run.proofs.known_ttl.ttl_after_all.Given as goal

abbrev pub invariant-loop-action : goal.invariant-loop-action
invariant-loop-action l = (l.known ≡ known_ttl (take l.action-index l.actions)) × IsWithin l.action-index l.known
