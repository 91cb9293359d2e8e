use Rattle.std.proofs.Common.{ap}
use Rattle.of_headers.specs.FieldMap.{value}
use Rattle.of_symbolic.proofs.Following.{set_low}
use Rattle.of_symbolic.proofs.overlay.Overlay.set_field.Goals as goal

pub returns-in-Some-clause-set : goal.returns-in-Some-clause-set
returns-in-Some-clause-set c = set_low c.args.field c.args.value c.row.result.ones (value c.args.self.now.set) (value c.put.new.self) (ap (λ r. r.ones) c.row.ensures.row) c.put.ensures

pub returns-in-None-clause-set : goal.returns-in-None-clause-set
returns-in-None-clause-set c = set_low c.args.field c.args.value c.row.result.ones (value c.args.self.now.set) (value c.put.new.self) (ap (λ r. r.ones) c.row.ensures.row) c.put.ensures
