use Rattle.std.proofs.Common.{◌≡◌, ◌∙◌, None, sym, inl, inr}
use Rattle.std.specs.Prelude.{◌⊎◌}
use Rattle.of_headers.specs.FieldMap.{value}
use Rattle.of_oxm.specs.Masks.{mask_at}
use Rattle.of_regions.{specs.Dividing.IsDivision, proofs.TaggingLemmas.either_way, proofs.TaggingLemmas.parts_either, proofs.TaggingLemmas.unknown_untagged}
use Rattle.of_regions.proofs.region.Region.divided.Goals as goal

pub by_tag-requires : goal.by_tag-requires
by_tag-requires c = unknown_untagged c.args.self.shape c.args.self.tagging (mask_at c.args.self.masks) (value c.args.self.known) c.args.self.each c.args.e.now.field (sym c.get.ensures ∙ c.in-None-default.is-0)

pub returns-after-ne : goal.returns-after-ne
returns-after-ne c =
    let e = c.args.e.now in
    let whole = c.args.self in
    let unknown : mask_at whole.masks e.field ≡ None = sym c.get.ensures ∙ c.in-None-default.is-0 in
    let a = c.by_tag.result.0 in
    let b = c.by_tag.result.1 in
    record {
      parts = c.by_tag.ensures.parts;
      division = elim c.by_tag.ensures.tag as (λ x. IsDivision e whole a b ⊎ IsDivision e whole b a) [ inl t ↦ inl (inr (unknown, t)) | inr t ↦ inr (inr (unknown, t)) ];
    }

pub returns-in-Some-Some : goal.returns-in-Some-Some
returns-in-Some-Some c = record {
  parts = parts_either c.args.self c.by_bit.result.0 c.by_bit.result.1 _ _ (record {
    within = c.by_bit.ensures.within;
    all = λ map t h. c.by_bit.ensures.all map h;
    apart = c.by_bit.ensures.apart;
  }) c.in_order.ensures;
  division = either_way (IsDivision c.args.e.now c.args.self) c.by_bit.result.0 c.by_bit.result.1 _ _ (inl c.by_bit.ensures.bit) c.in_order.ensures;
}
