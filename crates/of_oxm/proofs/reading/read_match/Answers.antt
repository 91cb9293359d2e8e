use Rattle.of_oxm.proofs.Laws.{is_only, is_exact}
use Rattle.of_oxm.proofs.reading.read_match.Goals as goal

pub returns-clause-only : goal.returns-clause-only
returns-clause-only c = is_only c.args.bytes.now c.parse.result c.parse.ensures.size c.parse.ensures.found c.parse.ensures.refused

pub returns-clause-exact : goal.returns-clause-exact
returns-clause-exact c = is_exact c.args.bytes.now c.parse.result c.parse.ensures.found c.parse.ensures.refused
