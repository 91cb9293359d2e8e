-- Tags alone decide VLAN_VID and VLAN_PCP, and no other field.
use Rattle.std.proofs.Common.{◌≡◌, ℕ, List, [], ◌∷◌, Some, refl, ap, ◌∙◌}
use Rattle.of_layers.specs.declared.field.Field.{Field}
use Rattle.of_layers.specs.declared.field.Field.TheVariants.{InPort, Metadata, VlanVid, VlanPcp}
use Rattle.of_layers.specs.{Fields.row_of, Fields.number_of, Layers.Layers, Layers.cells, Looking.look_up, WellFormed.IsLayers}
use Rattle.of_headers.specs.FieldMap.{field_map, vid}
use Rattle.of_rewrite.proofs.Looking.{in_outermost, vid_found, pcp_found, look_untagged}
use Rattle.of_laws.specs.Rewritten.{vid_of, pcp_of, fields_tagged}

vid_in : (ts : List (List ℕ)) → vid (in_outermost 3 ts) ≡ vid_of ts
vid_in [] = refl
vid_in (t ∷ ts) = refl

pcp_in : (ts : List (List ℕ)) → in_outermost 1 ts ≡ pcp_of ts
pcp_in [] = refl
pcp_in (t ∷ ts) = refl

-- LAYERS WITH OTHER TAGS, both of frames
pub other_tags : (l m : Layers) (port metadata : ℕ) (g : Field) → IsLayers m → m ≡ record l { tags = m.tags } → field_map m port metadata g ≡ fields_tagged m.tags (field_map l port metadata) g
unfolding row_of
other_tags l m port metadata InPort h same = refl
other_tags l m port metadata Metadata h same = refl
other_tags l m port metadata VlanVid h same = ap Some (ap vid (vid_found m h) ∙ vid_in m.tags)
other_tags l m port metadata VlanPcp h same = pcp_found m h ∙ pcp_in m.tags
other_tags l m port metadata g h same = ap (λ (x : Layers). look_up (number_of g) (cells x)) same ∙ look_untagged (number_of g) m.tags l refl
