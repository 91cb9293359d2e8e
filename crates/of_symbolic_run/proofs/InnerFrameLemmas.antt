-- Frames with the inner tags of descriptions.
use Rattle.std.proofs.Common.{◌≡◌, ◌≤◌, ◌+◌, ◌/◌, ◌%◌, ◌^◌, ℕ, Bool, true, false, List, [], ◌∷◌, length, Option, Some, refl, sym, ap, subst, ◌∙◌, arith}
use Rattle.std.{specs.Prelude.map, specs.Prelude.unwrap_or, specs.Option.option_map, proofs.Math.Path.fun_ext}
use Rattle.of_layers.specs.declared.field.Field.{Field}
use Rattle.of_layers.specs.declared.field.Field.TheVariants.{InPort, Metadata, VlanVid, VlanPcp}
use Rattle.of_layers.{specs.Fields.row_of, specs.Reading.layers_of, specs.WellFormed.AreTags, proofs.FrameLemmas.are_layers}
use Rattle.of_headers.specs.FieldMap.{field_map, vid}
use Rattle.of_rewrite.specs.Views.{IsView, Tag, View, fields_seen, outermost, tag_of_numbers, view_of}
use Rattle.of_rewrite.{specs.Frames.IsFrame, proofs.Viewing.seen}
use Rattle.of_regions.specs.Witness.{IsShortFrame}
use Rattle.of_symbolic.specs.{Actions.AreRewriting, Actions.frame_of_actions, Actions.view_of_actions, InnerTags.description_of, InnerTags.inner_told, InnerTags.number_of_tag, Parts.may_tell}
use Rattle.of_symbolic.proofs.{Rewriting.stays_frame, Rewriting.views_follow_all, Vids.four_small, WholeLemmas.IsNumberOfTag, WholeLemmas.number_not_zero, WholeLemmas.pcp_small}
use Rattle.of_symbolic_run.{specs.FrameSets.actions_put_below, proofs.FrameLemmas.own_view}

-- ---- a frame with one tag at most

-- METADATA tells nothing of it
nothing_below : (told : Bool) (ts : List (List ℕ)) → length ts ≤ 1 → inner_told told (map tag_of_numbers ts) ≡ 0
nothing_below false ts few = refl
nothing_below true [] few = refl
nothing_below true (t ∷ []) few = refl
nothing_below true (t ∷ u ∷ ts) few = absurd (omega (arith, few))

pub plain_described : (told : Bool) (frame : List ℕ) (port n : ℕ) → length (layers_of frame).tags ≤ 1 → n ≡ 0 → description_of told frame port ≡ field_map (layers_of frame) port n
plain_described told frame port n few none = ap (λ (x : ℕ). field_map (layers_of frame) port x) (nothing_below told (layers_of frame).tags few ∙ sym none)

-- ---- a tag that is put below it

rewriting : (n vid pcp : ℕ) → AreRewriting (actions_put_below n vid pcp)
unfolding row_of
rewriting n vid pcp = (refl, (refl, (refl, (refl, (refl, tt)))))

abbrev one_tag : (Field → Option ℕ) → Option ℕ → Tag → View
one_tag fields ttl t = record { fields = fields; tags = t ∷ []; ttl = ttl }

-- the view of the frame after it, and the fields of the packet
view_below : (fields : Field → Option ℕ) (ttl : Option ℕ) (t : Tag) (n vid pcp port : ℕ) → vid % 2 ^ 12 ≡ t.vid → pcp % 2 ^ 3 ≡ t.pcp → number_of_tag (Some (record { vid = n % 4096 % 2 ^ 12; pcp = n / 8192 % 8 % 2 ^ 3 })) ≡ n → (f : Field) →
    fields_seen (view_of_actions (actions_put_below n vid pcp) (one_tag fields ttl t)) port (inner_told true (view_of_actions (actions_put_below n vid pcp) (one_tag fields ttl t)).tags) f ≡ fields_seen (one_tag fields ttl t) port n f
unfolding row_of
view_below fields ttl t n vid pcp port v p m f = elim f as (λ f. fields_seen (view_of_actions (actions_put_below n vid pcp) (one_tag fields ttl t)) port (inner_told true (view_of_actions (actions_put_below n vid pcp) (one_tag fields ttl t)).tags) f ≡ fields_seen (one_tag fields ttl t) port n f) [
  | InPort ↦ refl
  | Metadata ↦ ap Some m
  | VlanVid ↦ ap (λ (x : ℕ). Some (4096 + x)) v
  | VlanPcp ↦ ap Some p
  | f ↦ refl
]

number_back : (frame : List ℕ) (n : ℕ) → IsNumberOfTag frame n → number_of_tag (Some (record { vid = n % 4096 % 2 ^ 12; pcp = n / 8192 % 8 % 2 ^ 3 })) ≡ n
number_back frame n k = omega (arith, k.is, k.vid_fits, k.pcp_fits)

module _ (frame : List ℕ) (h : IsFrame frame) (n port : ℕ) (k : IsNumberOfTag frame n) (tagged : ¬ ((layers_of frame).tags ≡ [])) where
  abbrev pub vid_was : ℕ
  vid_was = unwrap_or (field_map (layers_of frame) 0 0 VlanVid) 0 % 4096

  abbrev pub pcp_was : ℕ
  pcp_was = unwrap_or (field_map (layers_of frame) 0 0 VlanPcp) 0 % 8

  abbrev pub made : List ℕ
  made = frame_of_actions (actions_put_below n vid_was pcp_was) frame

  pub made_frame : IsFrame made
  made_frame = stays_frame (actions_put_below n vid_was pcp_was) frame h (rewriting n vid_was pcp_was)

  by_tags : (ts : List (List ℕ)) → (layers_of frame).tags ≡ ts → AreTags ts → length ts ≤ 1 → description_of true made port ≡ field_map (layers_of frame) port n
  by_tags [] is fits few = absurd (tagged is)
  by_tags (x ∷ []) is fits few = fun_ext each
    where
      t : Tag
      t = tag_of_numbers x

      tags : (view_of frame).tags ≡ t ∷ []
      tags = ap (map tag_of_numbers) is

      vid_back : vid_was % 2 ^ 12 ≡ t.vid
      vid_back =
          let there : field_map (layers_of frame) 0 0 VlanVid ≡ Some (4096 + t.vid) = seen frame (view_of frame) 0 0 VlanVid h (own_view frame) ∙ ap (λ (ts : List Tag). Some (vid (option_map (λ (t : Tag). t.vid) (outermost ts)))) tags in
          let was : vid_was ≡ (4096 + t.vid) % 4096 = ap (λ (o : Option ℕ). unwrap_or o 0 % 4096) there in
          omega (arith, was, four_small x fits.0)

      pcp_back : pcp_was % 2 ^ 3 ≡ t.pcp
      pcp_back =
          let there : field_map (layers_of frame) 0 0 VlanPcp ≡ Some t.pcp = seen frame (view_of frame) 0 0 VlanPcp h (own_view frame) ∙ ap (λ (ts : List Tag). option_map (λ (t : Tag). t.pcp) (outermost ts)) tags in
          let was : pcp_was ≡ t.pcp % 8 = ap (λ (o : Option ℕ). unwrap_or o 0 % 8) there in
          omega (arith, was, pcp_small x fits.0)

      v : View
      v = one_tag (view_of frame).fields (view_of frame).ttl t

      is_view : IsView v frame
      is_view = record { fields = λ f. refl; tags = sym tags; ttl = refl }

      after : View
      after = view_of_actions (actions_put_below n vid_was pcp_was) v

      after_view : IsView after made
      after_view = views_follow_all (actions_put_below n vid_was pcp_was) frame v h (rewriting n vid_was pcp_was) is_view

      each : (f : Field) → description_of true made port f ≡ field_map (layers_of frame) port n f
      each f =
          ap (λ (ts : List Tag). field_map (layers_of made) port (inner_told true ts) f) (sym after_view.tags)
          ∙ seen made after port (inner_told true after.tags) f made_frame after_view
          ∙ view_below (view_of frame).fields (view_of frame).ttl t n vid_was pcp_was port vid_back pcp_back (number_back frame n k) f
          ∙ sym (seen frame v port n f h is_view)
  by_tags (x ∷ y ∷ ts) is fits few = absurd (omega (arith, few))

  pub below_described : length (layers_of frame).tags ≤ 1 → description_of true made port ≡ field_map (layers_of frame) port n
  below_described few = by_tags (layers_of frame).tags refl (are_layers frame h.1 h.0).tags few

-- ---- the frame of a packet

-- it is as it was, or has the number of its inner tag put below its own tag
pub number_put : (told : Bool) (frame new : List ℕ) (port n : ℕ) → IsFrame frame → IsShortFrame frame → may_tell told (layers_of frame).tags n ≡ true → ¬ (n ≡ 0)
    → new ≡ frame_of_actions (actions_put_below n (unwrap_or (field_map (layers_of frame) 0 0 VlanVid) 0 % 4096) (unwrap_or (field_map (layers_of frame) 0 0 VlanPcp) 0 % 8)) frame → IsFrame new × (description_of told new port ≡ field_map (layers_of frame) port n)
number_put told frame new port n h few may other is =
    let k = number_not_zero told frame n may other in
    (subst IsFrame (sym is) (made_frame frame h n port k.1 k.2), ap (λ (b : Bool). description_of b new port) k.0 ∙ ap (λ (l : List ℕ). description_of true l port) is ∙ below_described frame h n port k.1 k.2 few.tags)

pub nothing_put : (told : Bool) (frame new : List ℕ) (port n : ℕ) → IsFrame frame → IsShortFrame frame → n ≡ 0 → new ≡ frame → IsFrame new × (description_of told new port ≡ field_map (layers_of frame) port n)
nothing_put told frame new port n h few none is = (subst IsFrame (sym is) h, ap (λ (l : List ℕ). description_of told l port) is ∙ plain_described told frame port n few.tags none)
