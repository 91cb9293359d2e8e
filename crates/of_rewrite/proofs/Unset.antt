-- Numbers that do not occur, and numbers of one byte.
use Rattle.std.proofs.Common.{◌≡◌, ℕ, ◌+◌, ◌*◌, ◌/◌, ◌^◌, ◌<◌, ◌≤◌, Bool, true, false, cond, List, [], ◌∷◌, ◌++◌, length, take, drop, get_or, Option, Some, None, refl, sym, ap, ◌∙◌, arith}
use Rattle.std.{specs.Prelude.◌==◌, specs.Prelude.◌&&◌, specs.Prelude.◌||◌, proofs.lemmas.List.take-append-drop, proofs.lemmas.List.length-take-le}
use Rattle.of_layers.specs.declared.transport.Transport.TheVariants.{Udp}
use Rattle.of_layers.specs.Layers.{Cell, Layers, cells, encoded, size_of, ttl}
use Rattle.of_layers.specs.{declared.place.Place.Place, declared.transport.Transport.Transport, Bits.bits, Bits.bits_of, Reading.layers_of, WellFormed.AreBytes}
use Rattle.of_layers.specs.{Looking.name_is, Looking.look_up, Looking.locate_at, declared.field.Field.Field, Fields.number_of}
use Rattle.of_layers.proofs.{BitLemmas.length-bits_of, BitLemmas.bits_of-append, BitLemmas.append_same, BitLemmas.bits_front, EncodingLemmas.byte_from}
use Rattle.of_layers.proofs.{FrameLemmas.frame_encoded, FrameLemmas.are_layers, Table.number_below}
use Rattle.of_headers.specs.{declared.layout.Layout.Layout, declared.layout.Network.Network, Places.layout_of}
use Rattle.of_headers.specs.declared.layout.Network.TheVariants as network
use Rattle.of_rewrite.specs.Renewal.{header_checksum_at, carried_at, ttl_at, HasRoomIn, packet_at}
use Rattle.of_rewrite.specs.{Checksum.updated, Checksum.carried_updated, Rewriting.change_at, Rewriting.replace_at, Rewriting.number_set, Replaced.Replaceable}
use Rattle.of_rewrite.proofs.{CoveredWords.header_words, CoveredWords.carried_words, CoveredWords.carried_rule, Changes.renewed_same, Changes.differ_none}
use Rattle.of_rewrite.proofs.{Finding.Sound, Finding.Found, Finding.found, Finding.not_found, Covering.set_in_place, Covering.set_where, Standing.Stands, Standing.stands, Standing.number_place}
use Rattle.of_rewrite.proofs.{Narrow.at_most_128, Renewing.Small, Renewing.small_at, Renewing.room_for}

fixed : (k : ℕ) (cs : List Cell) (f : ℕ → ℕ) → ((x : ℕ) → look_up k cs ≡ Some x → f x ≡ x) → change_at k f cs ≡ cs
fixed k [] f h = refl
fixed k (c ∷ cs) f h =
    elim (name_is k c.name) as (λ t. ((x : ℕ) → cond t (Some c.value) (look_up k cs) ≡ Some x → f x ≡ x) → cond t (record c { value = f c.value } ∷ cs) (c ∷ change_at k f cs) ≡ c ∷ cs) [
      | true ↦ λ g. let e : f c.value ≡ c.value = g c.value refl in (λ j. record c { value = e j } ∷ cs)
      | false ↦ λ g. let r = fixed k cs f g in (λ j. c ∷ r j)
    ] h

or_true : (a : Bool) → (a || true) ≡ true
or_true true = refl
or_true false = refl

kind_same : (t : Bool) (k : Transport) (x : ℕ) (a : List ℕ) → x ≤ 65535 → carried_updated t k x a a ≡ x
kind_same t Udp x a h = rw (differ_none a, or_true (t && (x == 0))) refl
kind_same t other x a h = renewed_same x a h

rule_same : (net : Network) (x : ℕ) (a : List ℕ) → x ≤ 65535 → carried_rule net x a a ≡ x
rule_same (network.Ipv4 p) x a h = kind_same true p.transport x a h
rule_same (network.Ipv6 named p) x a h = kind_same false p.transport x a h
rule_same other x a h = renewed_same x a h

-- without a number of that name all cells stay
pub unset : (n v : ℕ) (l : Layers) (s : List ℕ) → Stands l s → locate_at 0 n (cells l) ≡ None → set_in_place n v l ≡ cells l
unset n v l s st none =
    let y : Layout = layout_of l in
    let cs : List Cell = cells l in
    let oh : Option ℕ = header_checksum_at (packet_at (layout_of l)) (layout_of l).network in
    let oc : Option ℕ = carried_at (packet_at (layout_of l)) (layout_of l).network in
    let same : replace_at n v cs ≡ cs = (not_found n 0 cs (λ x. v) none).0 in
    let small_h : Small 102 cs = small_at 102 cs oh st.is_sound st.header in
    let small_c : Small 103 cs = small_at 103 cs oc st.is_sound st.carried in
    let rule : List Cell → ℕ → ℕ = λ ds k. updated k (header_words y (encoded cs)) (header_words y (encoded ds)) in
    let last : List Cell → ℕ → ℕ = λ ds k. carried_rule y.network k (carried_words y (encoded cs)) (carried_words y (encoded ds)) in
    let head : change_at 102 (rule cs) cs ≡ cs = fixed 102 cs (rule cs) (λ x e. let b : x < 65536 = small_h x e in renewed_same x (header_words y (encoded cs)) (omega arith)) in
    let tail : change_at 103 (last cs) cs ≡ cs = fixed 103 cs (last cs) (λ x e. let b : x < 65536 = small_c x e in rule_same y.network x (carried_words y (encoded cs)) (omega arith)) in
    ap (λ (ds : List Cell). change_at 103 (last ds) (change_at 102 (rule ds) ds)) same ∙ ap (change_at 103 (last cs)) head ∙ tail

-- ---- a number of one byte

byte_parts : (at : ℕ) (s : List ℕ) → at < length s → bits_of s ≡ bits_of (take at s) ++ (bits 8 (get_or s at 0) ++ bits_of (drop (at + 1) s))
byte_parts at s h = ap bits_of (sym (take-append-drop at s)) ∙ bits_of-append (take at s) (drop at s) ∙ ap (λ (t : List ℕ). bits_of (take at s) ++ t) (byte_from s at h)

pub byte_is : (n at : ℕ) (cs : List Cell) (s : List ℕ) → Sound cs → AreBytes s → at < length s → bits_of s ≡ encoded cs → locate_at 0 n cs ≡ Some (record { first = 8 * at; bits = 8 }) → Some (get_or s at 0) ≡ look_up n cs
byte_is n at cs s h b room is e =
    let r : Found n 0 cs (record { first = 8 * at; bits = 8 }) = found n 0 cs (record { first = 8 * at; bits = 8 }) e in
    let l : length (bits_of (take at s)) ≡ 8 * at = length-bits_of (take at s) ∙ ap (λ (k : ℕ). 8 * k) (length-take-le at s (omega arith)) in
    let m : length r.front ≡ length (bits_of (take at s)) = omega (arith, r.below) in
    let same = append_same r.front (bits_of (take at s)) (bits 8 r.value ++ r.back) (bits 8 (get_or s at 0) ++ bits_of (drop (at + 1) s)) m (sym r.is ∙ sym is ∙ byte_parts at s room) in
    let v : r.value ≡ get_or s at 0 = (bits_front 8 r.value (get_or s at 0) r.back (bits_of (drop (at + 1) s)) (r.small h) (b at) same.1).0 in
    sym (r.look ∙ ap (λ (x : ℕ). Some x) v)

-- ---- what is known of a frame

pub frame_stands : (s : List ℕ) → AreBytes s → 14 ≤ length s → Stands (layers_of s) s
frame_stands s b h = stands (layers_of s) s (are_layers s b h) (frame_encoded s b h)

-- the byte of the TTL is in the frame
pub ttl_room : (n q : ℕ) (net : Network) (at : ℕ) → HasRoomIn n q net → ttl_at q net ≡ Some at → at < n
ttl_room n q (network.Ipv4 p) at h e = let f : q + 8 ≡ at = cc in let a : 20 ≤ p.at = h.0 in let b : q + p.at + size_of p.transport ≤ n = h.1 in omega arith
ttl_room n q (network.Ipv6 named p) at h e = let f : q + 7 ≡ at = cc in let a : 40 ≤ p.at = h.0 in let b : q + p.at + size_of p.transport ≤ n = h.1 in omega arith
ttl_room n q other at h e = absurd cc

pub record TtlIs (s : List ℕ) (at : ℕ) : Type 0 where
  pub inside : at < length s
  pub place : locate_at 0 ttl (cells (layers_of s)) ≡ Some (record { first = 8 * at; bits = 8 })
  pub words : (8 * at + 8 + 15) / 16 * 2 ≤ length s
  pub value : Some (get_or s at 0) ≡ look_up ttl (cells (layers_of s))

pub ttl_is : (s : List ℕ) (y : Layout) (o : Option ℕ) (at : ℕ) → AreBytes s → 14 ≤ length s → y ≡ layout_of (layers_of s) → o ≡ ttl_at (packet_at y) y.network → o ≡ Some at → TtlIs s at
ttl_is s y o at b h e f g =
    let st = frame_stands s b h in
    let l : Layers = layers_of s in
    let is : ttl_at (packet_at (layout_of (layers_of s))) (layout_of (layers_of s)).network ≡ Some at = ap (λ (k : Layout). ttl_at (packet_at k) k.network) (sym e) ∙ sym f ∙ g in
    let inside : at < length s = ttl_room (length s) (packet_at (layout_of (layers_of s))) (layout_of (layers_of s)).network at st.room.1 is in
    let place : locate_at 0 ttl (cells (layers_of s)) ≡ Some (record { first = 8 * at; bits = 8 }) = st.ttl_is ∙ ap (number_place 8) is in
    record { inside = inside; place = place; words = st.words ttl (record { first = 8 * at; bits = 8 }) place; value = byte_is ttl at (cells (layers_of s)) s st.is_sound b inside (frame_encoded s b h) place }

pub no_ttl : (s : List ℕ) (y : Layout) (o : Option ℕ) → AreBytes s → 14 ≤ length s → y ≡ layout_of (layers_of s) → o ≡ ttl_at (packet_at y) y.network → o ≡ None → locate_at 0 ttl (cells (layers_of s)) ≡ None
no_ttl s y o b h e f g =
    let st = frame_stands s b h in
    st.ttl_is ∙ ap (number_place 8) (ap (λ (k : Layout). ttl_at (packet_at k) k.network) (sym e) ∙ sym f ∙ g)

pub packet_below : (s : List ℕ) (y : Layout) → AreBytes s → 14 ≤ length s → y ≡ layout_of (layers_of s) → packet_at y ≤ length s
packet_below s y b h e = (room_for (layers_of s) y s (length s) (frame_stands s b h) e refl).0

pub place_facts : (n : ℕ) (s : List ℕ) (p : Place) → AreBytes s → 14 ≤ length s → length s < 2 ^ 61 → locate_at 0 n (cells (layers_of s)) ≡ Some p →
    (p.bits ≤ 128) × (p.first + p.bits < 2 ^ 64) × ((p.first + p.bits + 15) / 16 * 2 ≤ length s)
place_facts n s p b h short e =
    let st = frame_stands s b h in
    let i : p.first + p.bits ≤ 8 * length s = st.inside n p e in
    (at_most_128 n (layers_of s) p e, omega arith, st.words n p e)

pub replaceable : (f : Field) → Replaceable (number_of f)
replaceable f = let b : number_of f < 31 = number_below f in (omega arith, omega arith)

pub unset_frame : (n v : ℕ) (s : List ℕ) → AreBytes s → 14 ≤ length s → locate_at 0 n (cells (layers_of s)) ≡ None → bits_of s ≡ encoded (number_set n v (layers_of s))
unset_frame n v s b h e = frame_encoded s b h ∙ ap encoded (sym (set_where n v (layers_of s) (are_layers s b h) ∙ unset n v (layers_of s) s (frame_stands s b h) e))

pub place_inside : (n : ℕ) (s : List ℕ) (p : Place) → AreBytes s → 14 ≤ length s → locate_at 0 n (cells (layers_of s)) ≡ Some p → p.first + p.bits ≤ 8 * length s
place_inside n s p b h e = (frame_stands s b h).inside n p e
