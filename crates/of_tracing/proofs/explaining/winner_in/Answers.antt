use Rattle.std.proofs.Common.{sym}
use Rattle.of_headers.specs.FieldMap.{value}
use Rattle.of_tracing.proofs.WhyLemmas.{lent_winner}
use Rattle.of_tracing.proofs.explaining.winner_in.Goals as goal

pub returns : goal.returns
returns g c = sym (lent_winner c.args.table (value c.args.key.now) c.datapath.ensures c.winner.ensures)
