-- The fields of a frame of which a number was replaced.
use Rattle.std.proofs.Common.{◌≡◌, ℕ, ◌+◌, ◌-◌, ◌%◌, ◌^◌, Bool, true, false, cond, eqb, List, Option, Some, None, refl, ap, ◌∙◌, arith}
use Rattle.std.{specs.Prelude.IsTrue, specs.Prelude.nat_le, specs.Option.option_map, proofs.lemmas.Bool.ne_eqb}
use Rattle.of_layers.specs.{declared.field.Field.Field, declared.field.Field.TheVariants.InPort, declared.field.Field.TheVariants.Metadata, declared.field.Field.TheVariants.VlanVid}
use Rattle.of_layers.specs.{Fields.row_of, Fields.number_of, Fields.is_settable, Layers.Layers, Layers.cells, Layers.ttl, Looking.look_up, Reading.layers_of}
use Rattle.of_headers.specs.FieldMap.{field_map, vid}
use Rattle.of_rewrite.specs.{Frames.IsFrame, Frames.frame_set, Frames.frame_ttl, Frames.frame_ttl_decremented, Replaced.layers_set, TimeToLive.ttl_of, TimeToLive.layers_ttl_decremented}
use Rattle.of_rewrite.proofs.{Layering.layers_after_set, Layering.layers_after_ttl, Layering.layers_after_decrement, Looking.field_found, Looking.not_set, Looking.field_kept}
use Rattle.of_laws.specs.Rewritten.{vid_after, value_after, fields_set}

-- ---- a field is set

vid_by : (v : ℕ) (t : Bool) (old new : Option ℕ) → new ≡ cond t (option_map (λ x. v % 2 ^ 12) old) old → Some (vid new) ≡ cond t (Some (vid_after v (vid old))) (Some (vid old))
vid_by v true None new e = rw e refl
vid_by v true (Some x) new e =
    let some : eqb (4096 + x) 0 ≡ false = ne_eqb (4096 + x) 0 (omega arith) in
    rw (e, some) refl
vid_by v false old new e = rw e refl

set_fields : (f : Field) (v : ℕ) (l : Layers) → IsTrue (is_settable f) → (port metadata : ℕ) (g : Field) → field_map (layers_set (number_of f) v l) port metadata g ≡ fields_set f v (field_map l port metadata) g
unfolding row_of
set_fields f v l settable port metadata InPort = not_set f v settable InPort (Some port) (value_after InPort v (Some port)) refl
set_fields f v l settable port metadata Metadata = not_set f v settable Metadata (Some metadata) (value_after Metadata v (Some metadata)) refl
set_fields f v l settable port metadata VlanVid =
    vid_by v (eqb (number_of VlanVid) (number_of f)) (look_up (number_of VlanVid) (cells l)) (look_up (number_of VlanVid) (cells (layers_set (number_of f) v l))) (field_found f v settable l VlanVid)
set_fields f v l settable port metadata g = field_found f v settable l g

pub after_set : (f : Field) (v : ℕ) (frame : List ℕ) (port metadata : ℕ) (g : Field) → IsFrame frame → IsTrue (is_settable f) →
    field_map (layers_of (frame_set f v frame)) port metadata g ≡ fields_set f v (field_map (layers_of frame) port metadata) g
after_set f v frame port metadata g h settable =
    ap (λ (x : Layers). field_map x port metadata g) (layers_after_set f v frame h settable) ∙ set_fields f v (layers_of frame) settable port metadata g

-- ---- the TTL is set

ttl_fields : (v : ℕ) (l : Layers) (port metadata : ℕ) (g : Field) → field_map (layers_set ttl v l) port metadata g ≡ field_map l port metadata g
ttl_fields v l port metadata InPort = refl
ttl_fields v l port metadata Metadata = refl
ttl_fields v l port metadata VlanVid = ap (λ (x : Option ℕ). Some (vid x)) (field_kept v l VlanVid)
ttl_fields v l port metadata g = field_kept v l g

pub after_ttl : (v : ℕ) (frame : List ℕ) (port metadata : ℕ) (g : Field) → IsFrame frame →
    field_map (layers_of (frame_ttl v frame)) port metadata g ≡ field_map (layers_of frame) port metadata g
after_ttl v frame port metadata g h = ap (λ (x : Layers). field_map x port metadata g) (layers_after_ttl v frame h) ∙ ttl_fields v (layers_of frame) port metadata g

decrement_fields : (o : Option ℕ) (l : Layers) (port metadata : ℕ) (g : Field) → field_map (layers_ttl_decremented o l) port metadata g ≡ field_map l port metadata g
decrement_fields None l port metadata g = refl
decrement_fields (Some t) l port metadata g = elim (nat_le t 1) as (λ b. field_map (cond b l (layers_set ttl (t - 1) l)) port metadata g ≡ field_map l port metadata g) [
  | true ↦ refl
  | false ↦ ttl_fields (t - 1) l port metadata g
]

pub after_decrement : (frame : List ℕ) (port metadata : ℕ) (g : Field) → IsFrame frame →
    field_map (layers_of (frame_ttl_decremented frame)) port metadata g ≡ field_map (layers_of frame) port metadata g
after_decrement frame port metadata g h = ap (λ (x : Layers). field_map x port metadata g) (layers_after_decrement frame h) ∙ decrement_fields (ttl_of (layers_of frame)) (layers_of frame) port metadata g
