-- Sets of frames.
use Rattle.std.proofs.Common.{◌≡◌, ◌≤◌, ◌<◌, ◌%◌, ◌^◌, ℕ, Bool, List, length, Option, Some, None, refl, sym, ap, subst, ◌∙◌, arith, inl, inr}
use Rattle.std.{specs.Prelude.IfSome, proofs.Math.Nat.mod-eq_of_lt, proofs.Math.Path.fun_ext}
use Rattle.of_layers.specs.declared.field.Field.{Field}
use Rattle.of_layers.specs.declared.field.Field.TheVariants.{InPort, Metadata, VlanVid, VlanPcp}
use Rattle.of_layers.specs.{Layers.cells, Layers.ttl, Reading.layers_of}
use Rattle.of_headers.specs.FieldMap.{field_map}
use Rattle.of_oxm.specs.declared.match_field.MatchField.{MatchField}
use Rattle.of_rewrite.specs.Views.{IsView, View, fields_seen, replaced_if_there, view_of, view_ttl}
use Rattle.of_rewrite.{specs.Calls.SetTtl, specs.Frames.IsFrame, specs.Frames.frame_ttl, specs.TimeToLive.ttl_of, proofs.Calling.still_frame, proofs.Unset.frame_stands}
use Rattle.of_rewrite.proofs.{Viewing.seen, Viewing.view_follows, Widths.found_small, Widths.layers_wide, Widths.ttl_wide}
use Rattle.of_regions.specs.{declared.searching.Found.Found, Witness.IsIngressPort}
use Rattle.of_regions.specs.declared.searching.Found.TheVariants as found
use Rattle.of_symbolic.specs.Parts.{AreDescriptions, FindsInPart, InPart, IsMatchedPart, IsUnmatchedPart, IsWholePart}
use Rattle.of_symbolic.{specs.declared.part.Part.Part, specs.InnerTags.description_of, specs.InnerTags.inner_told, proofs.PartLemmas.some_tagging}
use Rattle.of_symbolic_run.specs.FrameSets.{AreFramesMatching, AreFramesWithout, FindsFrame, HasTtlIn, InFrames}
use Rattle.of_symbolic_run.specs.{declared.frame_set.FrameSet.FrameSet, declared.finding.FrameFound.TheVariants.Empty, declared.finding.FrameFound.TheVariants.Undecided}

-- ---- the TTL

pub ttl_small : (frame : List ℕ) (t : ℕ) → IsFrame frame → ttl_of (layers_of frame) ≡ Some t → t < 2 ^ 8
ttl_small frame t h is = found_small ttl 8 t (cells (layers_of frame)) (layers_wide ttl 8 ttl_wide (layers_of frame)) (frame_stands frame h.1 h.0).is_sound is

pub any_ttl : (frame : List ℕ) → IsFrame frame → HasTtlIn 0 255 frame
any_ttl frame h = by_ttl (ttl_of (layers_of frame)) refl
  where
    by_ttl : (o : Option ℕ) → ttl_of (layers_of frame) ≡ o → IfSome o (λ t. (0 ≤ t) × (t ≤ 255))
    by_ttl None is = tt
    by_ttl (Some t) is = let small = ttl_small frame t h is in (omega arith, omega (arith, small))

-- ---- a TTL that is set

pub own_view : (frame : List ℕ) → IsView (view_of frame) frame
own_view frame = record { fields = λ f. refl; tags = refl; ttl = refl }

seen_alike : (v : View) (value port metadata : ℕ) (f : Field) → fields_seen (view_ttl value v) port metadata f ≡ fields_seen v port metadata f
seen_alike v value port metadata InPort = refl
seen_alike v value port metadata Metadata = refl
seen_alike v value port metadata VlanVid = refl
seen_alike v value port metadata VlanPcp = refl
seen_alike v value port metadata f = refl

pub ttl_fields : (told : Bool) (frame : List ℕ) (value port : ℕ) → IsFrame frame → IsFrame (frame_ttl value frame) → description_of told (frame_ttl value frame) port ≡ description_of told frame port
ttl_fields told frame value port h after =
    ap (λ (n : ℕ). field_map (layers_of (frame_ttl value frame)) port n) (ap (inner_told told) (sym after_view.tags)) ∙ fun_ext (λ f. seen (frame_ttl value frame) (view_ttl value (view_of frame)) port number f after after_view
    ∙ seen_alike (view_of frame) value port number f ∙ sym (seen frame (view_of frame) port number f h (own_view frame)))
  where
    number : ℕ
    number = inner_told told (view_of frame).tags

    after_view : IsView (view_ttl value (view_of frame)) (frame_ttl value frame)
    after_view = view_follows (SetTtl value) frame (view_of frame) h tt tt (own_view frame)

pub ttl_fits : (frame : List ℕ) (t low high : ℕ) → IsFrame frame → ttl_of (layers_of frame) ≡ Some t → low ≤ high → low < 2 ^ 8 → HasTtlIn low high (frame_ttl low frame)
ttl_fits frame t low high h is le fits =
    let v = view_follows (SetTtl low) frame (view_of frame) h tt tt (own_view frame) in
    let cut : low % 2 ^ 8 ≡ low = mod-eq_of_lt fits in
    let after : ttl_of (layers_of (frame_ttl low frame)) ≡ Some low = sym v.ttl ∙ ap (replaced_if_there 8 low) is ∙ ap (λ (x : ℕ). Some x) cut in
    subst (λ (o : Option ℕ). IfSome o (λ x. (low ≤ x) × (x ≤ high))) (sym after) (omega arith, le)

pub ttl_is_frame : (frame : List ℕ) (value : ℕ) → IsFrame frame → IsFrame (frame_ttl value frame)
ttl_is_frame frame value h = still_frame (SetTtl value) frame h tt

-- ---- sets

pub in_whole : (s : FrameSet) → IsWholePart s.inner s.part → s.ttl_from ≡ 0 → s.ttl_to ≡ 255 → (frame : List ℕ) (port : ℕ) → IsFrame frame → InFrames s frame port
in_whole s whole from to frame port h = record { part = whole.all frame port h; ttl = rw (from, to) (any_ttl frame h) }

in_other : (part : Part) (told other : Bool) (frame : List ℕ) (port : ℕ) → told ≡ other → InPart part (description_of told frame port) → InPart part (description_of other frame port)
in_other part told other frame port e h = subst (λ (b : Bool). InPart part (description_of b frame port)) e h

pub without_is : (m : List MatchField) (old new : FrameSet) → IsUnmatchedPart m old.part new.part → new.inner ≡ old.inner → new.ttl_from ≡ old.ttl_from → new.ttl_to ≡ old.ttl_to → AreFramesWithout m old new
without_is m old new less inner from to = record {
  inner = inner;
  within = λ frame port h. (let w = less.within (description_of old.inner frame port) (in_other new.part new.inner old.inner frame port inner h.part) in (record { part = w.0; ttl = rw (sym from, sym to) h.ttl }, w.1));
  all = λ frame port h no. record { part = in_other new.part old.inner new.inner frame port (sym inner) (less.all (description_of old.inner frame port) h.part no); ttl = rw (from, to) h.ttl };
}

pub matching_is : (m : List MatchField) (old new : FrameSet) → IsMatchedPart m old.part new.part → new.inner ≡ old.inner → new.ttl_from ≡ old.ttl_from → new.ttl_to ≡ old.ttl_to → AreFramesMatching m old new
matching_is m old new less inner from to = record {
  inner = inner;
  least = from;
  most = to;
  within = λ frame port h. (let w = less.within (description_of old.inner frame port) (in_other new.part new.inner old.inner frame port inner h.part) in (record { part = w.0; ttl = rw (sym from, sym to) h.ttl }, w.1));
  all = λ frame port is h yes_it_is. record {
    part = in_other new.part old.inner new.inner frame port (sym inner) (less.all (description_of old.inner frame port) (some_tagging frame port (inner_told old.inner (view_of frame).tags) is) h.part yes_it_is);
    ttl = rw (from, to) h.ttl;
  };
}

-- a part of descriptions
pub descriptions_within : (told : Bool) (old new : Part) → ((fields : Field → Option ℕ) → InPart new fields → InPart old fields) → AreDescriptions told old → AreDescriptions told new
descriptions_within told old new within are frame port metadata is fits h = are frame port metadata is fits (within (field_map (layers_of frame) port metadata) h)

-- ---- a packet of a part

-- a packet of the part whose frame, rewritten, is described by it
pub made_frame : (s : FrameSet) (port : ℕ) (packet : Field → Option ℕ) (made fitted copy : List ℕ) → InPart s.part packet → description_of s.inner made port ≡ packet → length made ≤ 9216 → IsFrame fitted → length fitted ≡ length made → IsIngressPort port
    → HasTtlIn s.ttl_from s.ttl_to fitted → description_of s.inner fitted port ≡ description_of s.inner made port → copy ≡ fitted → IsFrame copy × (length copy ≤ 9216) × InFrames s copy port × IsIngressPort port
made_frame s port packet made fitted copy h is short fits long ingress in_range same copied =
    let within : InPart s.part (description_of s.inner fitted port) = subst (InPart s.part) (sym (same ∙ is)) h in
    rw copied (fits, omega (arith, long, short), record { part = within; ttl = in_range }, ingress)

-- what a search finds in a set
abbrev pub IsSetFound : FrameSet → ℕ → Found → Type 0
IsSetFound s steps (found.Free p) = FindsInPart s.part steps (found.Free p)
IsSetFound s steps (found.Taken names) = FindsFrame s steps Empty
IsSetFound s steps other = FindsFrame s steps Undecided

pub finds_in : (s : FrameSet) (steps : ℕ) (f : Found) → FindsInPart s.part steps f → IsSetFound s steps f
finds_in s steps (found.Free p) h = h
finds_in s steps (found.Taken names) h = λ frame port is i. h frame port (inner_told s.inner (view_of frame).tags) is i.part
finds_in s steps (found.Unreceived r) h = inr (r, h)
finds_in s steps found.Undecided h = inl h
