use Rattle.std.proofs.Common.{ℕ, ◌∙◌, Option, Some, None, refl, sym, ap, subst, arith}
use Rattle.of_layers.specs.{declared.field.Field.TheVariants.VlanPcp, declared.field.Field.TheVariants.VlanVid, Fields.ones_of, Fields.row_of}
use Rattle.of_headers.specs.FieldMap.{seen, value}
use Rattle.of_oxm.specs.Masks.{mask_at}
use Rattle.of_frames.specs.{declared.shape.Tagging.Tagging, declared.shape.Tagging.TheVariants.Untagged}
use Rattle.of_regions.proofs.TaggingLemmas.{masks_set, no_pcp, tag_all, tag_known, tag_vid, tag_within, vid_set}
use Rattle.of_regions.specs.Known.{AllKnown, is_known_by, rule_in}
use Rattle.of_regions.proofs.region.Region.untagged.Goals as goal

pub with-requires : goal.with-requires
unfolding row_of
with-requires c = omega arith

pub invariant_of-result : goal.invariant_of-result
unfolding row_of
invariant_of-result c =
    let each : AllKnown c.args.self.shape None (mask_at c.args.self.masks) (value c.args.self.known) = subst (λ (t : Option Tagging). AllKnown c.args.self.shape t (mask_at c.args.self.masks) (value c.args.self.known)) c.requires c.args.self.each in
    record { each = tag_known c.args.self.shape (mask_at c.args.self.masks) (value c.args.self.known) (value c.with-2.result) (value c.with-3.result) each 0x1fff 0 (value c.args.self.known VlanPcp) (masks_set (mask_at c.args.self.masks) (value c.with.result) (value c.with-2.result) (Some 0x1fff) (Some 0) c.with.ensures c.with-2.ensures) (vid_set (value c.args.self.known) (value c.with-3.result) (Some 0) c.with-3.ensures) Untagged refl (let none = no_pcp c.args.self.shape (mask_at c.args.self.masks) (value c.args.self.known) (value c.with-2.result) (value c.with-3.result) each in ap (λ (k : Option ℕ). is_known_by (ones_of VlanPcp) (rule_in c.args.self.shape (Some Untagged) VlanPcp) (Some 0) k) none) }

pub returns-clause-within : goal.returns-clause-within
returns-clause-within c =
    let each : AllKnown c.args.self.shape None (mask_at c.args.self.masks) (value c.args.self.known) = subst (λ (t : Option Tagging). AllKnown c.args.self.shape t (mask_at c.args.self.masks) (value c.args.self.known)) c.requires c.args.self.each in
    tag_within c.args.self.shape (mask_at c.args.self.masks) (value c.args.self.known) (value c.with-2.result) (value c.with-3.result) each 0x1fff 0 (value c.args.self.known VlanPcp) (masks_set (mask_at c.args.self.masks) (value c.with.result) (value c.with-2.result) (Some 0x1fff) (Some 0) c.with.ensures c.with-2.ensures) (vid_set (value c.args.self.known) (value c.with-3.result) (Some 0) c.with-3.ensures)

pub returns-clause-all : goal.returns-clause-all
returns-clause-all c map g h =
    let each : AllKnown c.args.self.shape None (mask_at c.args.self.masks) (value c.args.self.known) = subst (λ (t : Option Tagging). AllKnown c.args.self.shape t (mask_at c.args.self.masks) (value c.args.self.known)) c.requires c.args.self.each in
    tag_all c.args.self.shape (mask_at c.args.self.masks) (value c.args.self.known) (value c.with-2.result) (value c.with-3.result) each 0x1fff 0 (value c.args.self.known VlanPcp) (masks_set (mask_at c.args.self.masks) (value c.with.result) (value c.with-2.result) (Some 0x1fff) (Some 0) c.with.ensures c.with-2.ensures) (vid_set (value c.args.self.known) (value c.with-3.result) (Some 0) c.with-3.ensures) map (g VlanVid) (let none = no_pcp c.args.self.shape (mask_at c.args.self.masks) (value c.args.self.known) (value c.with-2.result) (value c.with-3.result) each in ap (seen (Some 0)) (g VlanPcp) ∙ sym none) h

pub returns-clause-vid : goal.returns-clause-vid
returns-clause-vid c =
    let each : AllKnown c.args.self.shape None (mask_at c.args.self.masks) (value c.args.self.known) = subst (λ (t : Option Tagging). AllKnown c.args.self.shape t (mask_at c.args.self.masks) (value c.args.self.known)) c.requires c.args.self.each in
    tag_vid c.args.self.shape (mask_at c.args.self.masks) (value c.args.self.known) (value c.with-2.result) (value c.with-3.result) each 0x1fff 0 (value c.args.self.known VlanPcp) (masks_set (mask_at c.args.self.masks) (value c.with.result) (value c.with-2.result) (Some 0x1fff) (Some 0) c.with.ensures c.with-2.ensures) (vid_set (value c.args.self.known) (value c.with-3.result) (Some 0) c.with-3.ensures)
