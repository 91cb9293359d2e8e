use Rattle.std.proofs.Common.{rules}
use Rattle.of_values.specs.Origins.{view_origins}
use Rattle.of_report.specs.Json.{entry_object, shadows_member}
use Rattle.of_report.proofs.json.push_shadows.Goals as goal

pub returns : goal.returns
unfolding shadows_member
returns c = c.push_array_member.ensures (entry_object (view_origins c.args.origins.now) c.args.config.now.tables c.args.table) (λ out place r left k. search rules)
