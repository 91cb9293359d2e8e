-- The layers of frames after calls, and where they begin.
use Rattle.std.proofs.Common.{◌≡◌, ℕ, suc, ◌+◌, ◌-◌, ◌*◌, ◌/◌, ◌≤◌, Bool, true, false, cond, List, [], ◌∷◌, ◌++◌, length, take, drop, Option, Some, None, refl, sym, ap, subst, ◌∙◌, arith}
use Rattle.std.specs.Prelude.{nat_le, IsTrue}
use Rattle.of_layers.specs.{declared.field.Field.Field, declared.place.Place.Place, Fields.number_of, Fields.is_settable, Layers.Layers, Layers.cells, Layers.ttl, Looking.locate}
use Rattle.of_layers.{specs.Reading.layers_of, specs.Reading.is_tag_type, specs.WellFormed.AreBytes, proofs.EncodingLemmas.AreBytes-take, proofs.EncodingLemmas.AreBytes-drop}
use Rattle.of_headers.specs.{declared.layout.Layout.Layout, declared.known.Known.Known}
use Rattle.of_headers.specs.{declared.known.Known.TheVariants.Nothing, declared.known.Known.TheVariants.Places, declared.known.Known.TheVariants.Fields, Known.IsKnownOf, Places.layout_of}
use Rattle.of_headers.specs.Tags.{inner_tags}
use Rattle.of_rewrite.specs.Frames.{IsFrame, frame_set, frame_pushed, frame_popped, frame_ttl, frame_ttl_decremented}
use Rattle.of_rewrite.specs.Calls.{FrameCall, PushVlan, PopVlan, Set, SetTtl, DecTtl, Lend, IsAllowed, frame_after, places_after, with_places, known_after, AreAllowed, frame_after_all, known_after_all}
use Rattle.of_rewrite.proofs.Framing.{set_frame, ttl_frame, aged_frame, pushed_frame, popped_frame}
use Rattle.of_rewrite.proofs.Layering.{layers_after_set, layers_after_ttl, layers_after_decrement, layers_after_push, layers_after_pop}
use Rattle.of_rewrite.specs.{Loans.lent, Loans.with_bytes_at, Loans.is_whole_bytes, Loans.bytes_at, Replaced.layers_set, Tagging.has_tag, TimeToLive.ttl_of, TimeToLive.layers_ttl_decremented}
use Rattle.of_rewrite.proofs.{KeptPlaces.layout_set, Lending.length_with, TagFrames.bytes_append, TagFrames.none_popped, Unset.place_inside}

-- ---- where the layers begin once a number is replaced

places_set : (f : Field) (v : ℕ) (s : List ℕ) → IsFrame s → IsTrue (is_settable f) → layout_of (layers_of s) ≡ layout_of (layers_of (frame_set f v s))
places_set f v s h settable = sym (ap layout_of (layers_after_set f v s h settable) ∙ layout_set (number_of f) v (layers_of s))

places_ttl : (v : ℕ) (s : List ℕ) → IsFrame s → layout_of (layers_of s) ≡ layout_of (layers_of (frame_ttl v s))
places_ttl v s h = sym (ap layout_of (layers_after_ttl v s h) ∙ layout_set ttl v (layers_of s))

layout_decremented : (o : Option ℕ) (l : Layers) → layout_of (layers_ttl_decremented o l) ≡ layout_of l
layout_decremented None l = refl
layout_decremented (Some t) l = elim (nat_le t 1) as (λ b. layout_of (cond b l (layers_set ttl (t - 1) l)) ≡ layout_of l) [ true ↦ refl | false ↦ layout_set ttl (t - 1) l ]

places_aged : (s : List ℕ) → IsFrame s → layout_of (layers_of s) ≡ layout_of (layers_of (frame_ttl_decremented s))
places_aged s h = sym (ap layout_of (layers_after_decrement s h) ∙ layout_decremented (ttl_of (layers_of s)) (layers_of s))

-- ---- once a tag is pushed or popped

places_pushed : (type : ℕ) (s : List ℕ) → IsFrame s → IsTrue (is_tag_type type) → record (layout_of (layers_of s)) { tags = length (layers_of s).tags + 1 } ≡ layout_of (layers_of (frame_pushed type s))
places_pushed type s h t =
    let one : length (layers_of s).tags + 1 ≡ suc (length (layers_of s).tags) = omega arith in
    sym (ap layout_of (layers_after_push type s h t) ∙ sym (λ j. record (layout_of (layers_of s)) { tags = one j }))

fewer : (ts : List (List ℕ)) → length ts - 1 ≡ length (inner_tags ts)
fewer [] = refl
fewer (t ∷ ts) = omega arith

places_popped : (s : List ℕ) → IsFrame s → record (layout_of (layers_of s)) { tags = length (layers_of s).tags - 1 } ≡ layout_of (layers_of (frame_popped s))
places_popped s h = (λ j. record (layout_of (layers_of s)) { tags = fewer (layers_of s).tags j }) ∙ sym (ap layout_of (layers_after_pop s h))

-- ---- each call leaves a frame

lent_inside : (f : Field) (s : List ℕ) → IsFrame s → (lent f s).0 ≤ length s
unfolding lent
lent_inside f s h = by_place (locate f (cells (layers_of s))) refl
  where
    by_place : (o : Option Place) → locate f (cells (layers_of s)) ≡ o → (bytes_at o).0 ≤ length s
    by_place None e = omega arith
    by_place (Some p) e =
        let room : p.first + p.bits ≤ 8 * length s = place_inside (number_of f) s p h.1 h.0 e in
        elim (is_whole_bytes p) as (λ b. (cond {A = ℕ × ℕ} b (p.first / 8, (p.first + p.bits) / 8) (0, 0)).0 ≤ length s) [ true ↦ omega (arith, room) | false ↦ omega arith ]

bytes_lent : (i : ℕ) (s w : List ℕ) → AreBytes s → AreBytes w → AreBytes (with_bytes_at i s w)
bytes_lent i s w b c = AreBytes-take (length s) (take i s ++ (w ++ drop (i + length w) s)) (bytes_append (take i s) (w ++ drop (i + length w) s) (AreBytes-take i s b) (bytes_append w (drop (i + length w) s) c (AreBytes-drop (i + length w) s b)))

pub still_frame : (call : FrameCall) (s : List ℕ) → IsFrame s → IsAllowed call s → IsFrame (frame_after call s)
still_frame (PushVlan type) s h a = (pushed_frame type s h).1
still_frame PopVlan s h a = (popped_frame s h).1
still_frame (Set f v) s h a = (set_frame f v s h).1
still_frame (SetTtl v) s h a = (ttl_frame v s h).1
still_frame DecTtl s h a = (aged_frame s h).1
still_frame (Lend f w) s h a =
    let long : length (with_bytes_at (lent f s).0 s w) ≡ length s = length_with (lent f s).0 s w (lent_inside f s h) in
    (omega (arith, long, h.0), bytes_lent (lent f s).0 s w h.1 a.0)

-- ---- what is known

by_places : (moved : Layout → Layout) (known : Known) (s t : List ℕ) → moved (layout_of (layers_of s)) ≡ layout_of (layers_of t) → IsKnownOf known s → IsKnownOf (with_places moved known) t
by_places moved Nothing s t e k = tt
by_places moved (Places y) s t e k = ap moved k ∙ e
by_places moved (Fields h) s t e k = ap moved k.0 ∙ e

popped_known : (known : Known) (s : List ℕ) → IsFrame s → IsKnownOf known s → (b : Bool) → has_tag s ≡ b → IsKnownOf (cond b (with_places (places_after PopVlan) known) known) (frame_popped s)
popped_known known s h k true e = by_places (places_after PopVlan) known s (frame_popped s) (places_popped s h) k
popped_known known s h k false e = subst (λ (x : List ℕ). IsKnownOf known x) (none_popped s h.0 h.1 e) k

still_known : (call : FrameCall) (known : Known) (s : List ℕ) → IsFrame s → IsAllowed call s → IsKnownOf known s → IsKnownOf (known_after call s known) (frame_after call s)
still_known (PushVlan type) known s h a k = by_places (places_after (PushVlan type)) known s (frame_pushed type s) (places_pushed type s h a) k
still_known PopVlan known s h a k = popped_known known s h k (has_tag s) refl
still_known (Set f v) known s h a k = places_set f v s h a
still_known (SetTtl v) known s h a k = places_ttl v s h
still_known DecTtl known s h a k = places_aged s h
still_known (Lend f w) known s h a k = tt

pub all_known : (calls : List FrameCall) (known : Known) (s : List ℕ) → IsFrame s → AreAllowed calls s → IsKnownOf known s → IsKnownOf (known_after_all calls s known) (frame_after_all calls s)
all_known [] known s h a k = k
all_known (call ∷ calls) known s h a k = all_known calls (known_after call s known) (frame_after call s) (still_frame call s h a.0) a.1 (still_known call known s h a.0 k)
