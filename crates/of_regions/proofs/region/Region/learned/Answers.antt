use Rattle.of_layers.specs.Fields.{ones_of}
use Rattle.std.proofs.Common.{Some}
use Rattle.of_headers.specs.FieldMap.{value}
use Rattle.of_oxm.specs.Masks.{mask_at}
use Rattle.of_regions.{specs.Known.rule_in, proofs.BuildingLemmas.known_within, proofs.LearningLemmas.set_known}
use Rattle.of_regions.proofs.region.Region.learned.Goals as goal

pub with-requires : goal.with-requires
with-requires c = (known_within (ones_of c.args.field) (rule_in c.args.self.shape c.args.self.tagging c.args.field) (Some c.args.mask) (Some c.args.known) c.requires).0

pub with-requires-2 : goal.with-requires-2
with-requires-2 c = (known_within (ones_of c.args.field) (rule_in c.args.self.shape c.args.self.tagging c.args.field) (Some c.args.mask) (Some c.args.known) c.requires).1

pub invariant_of-result : goal.invariant_of-result
invariant_of-result c = record {
  each = set_known (mask_at c.args.self.masks) (value c.args.self.known) _ (value c.with-2.result) c.args.field (Some c.args.mask) (Some c.args.known) c.with.ensures c.with-2.ensures (rule_in c.args.self.shape c.args.self.tagging) c.args.self.each c.requires;
}
