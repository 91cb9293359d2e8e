use Rattle.std.{specs.Prelude.◌⊎◌, proofs.Common.inl, proofs.Common.inr}
use Rattle.of_layers.specs.declared.field.Field.TheVariants.{VlanVid}
use Rattle.of_frames.specs.{declared.shape.Tagging.TheVariants.Untagged, declared.shape.Tagging.TheVariants.Tagged, Rules.IsTagging}
use Rattle.of_regions.specs.{Dividing.IsByTag, Regions.InRegion}
use Rattle.of_regions.proofs.TaggingLemmas.{either_way, not_both_tags, parts_either}
use Rattle.of_regions.proofs.region.Region.by_tag.Goals as goal

pub returns-clause-parts : goal.returns-clause-parts
returns-clause-parts c = parts_either c.args.self c.tagged.result c.untagged.result _ _ (record {
  within = λ map h. elim h as (λ x. InRegion c.args.self map) [ inl a ↦ c.tagged.ensures.within map a | inr b ↦ c.untagged.ensures.within map b ];
  all = λ map t h. elim t.0 as (λ x. IsTagging x map → InRegion c.tagged.result map ⊎ InRegion c.untagged.result map) [ Untagged ↦ λ g. inr (c.untagged.ensures.all map g h) | Tagged ↦ λ g. inl (c.tagged.ensures.all map g h) ] t.1;
  apart = λ map a b. not_both_tags (map VlanVid) (c.tagged.ensures.vid map a) (c.untagged.ensures.vid map b);
}) c.in_order.ensures

pub returns-clause-tag : goal.returns-clause-tag
returns-clause-tag c = either_way IsByTag c.tagged.result c.untagged.result _ _ (record { tagged = c.tagged.ensures.vid; untagged = c.untagged.ensures.vid }) c.in_order.ensures
