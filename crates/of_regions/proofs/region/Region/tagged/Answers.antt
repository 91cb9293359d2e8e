use Rattle.std.proofs.Common.{Option, Some, None, refl, subst, arith}
use Rattle.of_layers.specs.{declared.field.Field.TheVariants.VlanPcp, declared.field.Field.TheVariants.VlanVid, Fields.row_of}
use Rattle.of_headers.specs.FieldMap.{value}
use Rattle.of_oxm.specs.Masks.{mask_at}
use Rattle.of_frames.specs.{declared.shape.Tagging.Tagging, declared.shape.Tagging.TheVariants.Tagged}
use Rattle.of_regions.proofs.TaggingLemmas.{masks_set, tag_all, tag_known, tag_vid, tag_within}
use Rattle.of_regions.specs.Known.{AllKnown}
use Rattle.of_regions.proofs.region.Region.tagged.Goals as goal

pub with-requires : goal.with-requires
unfolding row_of
with-requires c = omega arith

pub with-requires-3 : goal.with-requires-3
unfolding row_of
with-requires-3 c = omega arith

pub invariant_of-result : goal.invariant_of-result
unfolding row_of
invariant_of-result c =
    let each : AllKnown c.args.self.shape None (mask_at c.args.self.masks) (value c.args.self.known) = subst (λ (t : Option Tagging). AllKnown c.args.self.shape t (mask_at c.args.self.masks) (value c.args.self.known)) c.requires c.args.self.each in
    record { each = tag_known c.args.self.shape (mask_at c.args.self.masks) (value c.args.self.known) (value c.with-2.result) (value c.with-4.result) each 0x1000 0x1000 (Some 0) (masks_set (mask_at c.args.self.masks) (value c.with.result) (value c.with-2.result) (Some 0x1000) (Some 0) c.with.ensures c.with-2.ensures) (masks_set (value c.args.self.known) (value c.with-3.result) (value c.with-4.result) (Some 0x1000) (Some 0) c.with-3.ensures c.with-4.ensures) Tagged refl refl }

pub returns-clause-within : goal.returns-clause-within
returns-clause-within c =
    let each : AllKnown c.args.self.shape None (mask_at c.args.self.masks) (value c.args.self.known) = subst (λ (t : Option Tagging). AllKnown c.args.self.shape t (mask_at c.args.self.masks) (value c.args.self.known)) c.requires c.args.self.each in
    tag_within c.args.self.shape (mask_at c.args.self.masks) (value c.args.self.known) (value c.with-2.result) (value c.with-4.result) each 0x1000 0x1000 (Some 0) (masks_set (mask_at c.args.self.masks) (value c.with.result) (value c.with-2.result) (Some 0x1000) (Some 0) c.with.ensures c.with-2.ensures) (masks_set (value c.args.self.known) (value c.with-3.result) (value c.with-4.result) (Some 0x1000) (Some 0) c.with-3.ensures c.with-4.ensures)

pub returns-clause-all : goal.returns-clause-all
returns-clause-all c map g h =
    let each : AllKnown c.args.self.shape None (mask_at c.args.self.masks) (value c.args.self.known) = subst (λ (t : Option Tagging). AllKnown c.args.self.shape t (mask_at c.args.self.masks) (value c.args.self.known)) c.requires c.args.self.each in
    tag_all c.args.self.shape (mask_at c.args.self.masks) (value c.args.self.known) (value c.with-2.result) (value c.with-4.result) each 0x1000 0x1000 (Some 0) (masks_set (mask_at c.args.self.masks) (value c.with.result) (value c.with-2.result) (Some 0x1000) (Some 0) c.with.ensures c.with-2.ensures) (masks_set (value c.args.self.known) (value c.with-3.result) (value c.with-4.result) (Some 0x1000) (Some 0) c.with-3.ensures c.with-4.ensures) map (g VlanVid) (g VlanPcp) h

pub returns-clause-vid : goal.returns-clause-vid
returns-clause-vid c =
    let each : AllKnown c.args.self.shape None (mask_at c.args.self.masks) (value c.args.self.known) = subst (λ (t : Option Tagging). AllKnown c.args.self.shape t (mask_at c.args.self.masks) (value c.args.self.known)) c.requires c.args.self.each in
    tag_vid c.args.self.shape (mask_at c.args.self.masks) (value c.args.self.known) (value c.with-2.result) (value c.with-4.result) each 0x1000 0x1000 (Some 0) (masks_set (mask_at c.args.self.masks) (value c.with.result) (value c.with-2.result) (Some 0x1000) (Some 0) c.with.ensures c.with-2.ensures) (masks_set (value c.args.self.known) (value c.with-3.result) (value c.with-4.result) (Some 0x1000) (Some 0) c.with-3.ensures c.with-4.ensures)
