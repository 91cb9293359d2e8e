-- Where the layers of a packet begin, and of a frame.
use Rattle.std.proofs.Common.{◌≡◌, ℕ, ◌+◌, ◌-◌, ◌*◌, ◌%◌, ◌/◌, ◌≤◌, ◌≢◌, min, Bool, true, false, cond, ◌&&◌, List, length, get_or, take, drop, refl, sym, ap, ◌∙◌, arith}
use Rattle.std.{specs.Prelude.nat_le, specs.Prelude.◌==◌, proofs.lemmas.Bool.leb-true, proofs.lemmas.Bool.eq-eqb, proofs.lemmas.Bool.ne_eqb}
use Rattle.std.proofs.lemmas.List.{length-drop, length-take}
use Rattle.of_layers.specs.Reading.{word, header_size, is_arp, arp_of, is_ipv4, ipv4_of, ipv4_kind, ipv4_inside, over_ipv4, whole_in, is_ipv6, ipv6_of, chain_of, body_of, tag_count, tags_of, layers_of}
use Rattle.of_layers.{specs.declared.transport.Transport.Transport, specs.declared.transport.Transport.TheVariants.Nothing, specs.Layers.Plain, proofs.TagLemmas.length-tags_of}
use Rattle.of_headers.specs.{declared.layout.Network.Network, declared.layout.Layout.Layout, Places.network_behind, Places.network_of, Places.layout_of}
use Rattle.of_headers.proofs.ChainLemmas.{and_left, nothing_in}
use Rattle.of_headers.specs.declared.layout.Network.TheVariants as network

-- ---- IPv4

pub record IsWhole (p : List ℕ) : Type 0 where
  pub least : 20 ≤ length p
  pub header : 20 ≤ header_size p
  pub room : header_size p ≤ length p
  pub total : header_size p ≤ word p 2

five : (a b c d e : Bool) → ((((a && b) && c) && d) && e) ≡ true → (a ≡ true) × (c ≡ true) × (d ≡ true) × (e ≡ true)
five true true true true true h = (refl, refl, refl, refl)
five true true true true false h = absurd cc
five true true true false e h = absurd cc
five true true false d e h = absurd cc
five true false c d e h = absurd cc
five false b c d e h = absurd cc

pub whole_ipv4 : (p : List ℕ) → is_ipv4 p ≡ true → IsWhole p
whole_ipv4 p h =
    let t = five (nat_le 20 (length p)) ((get_or p 0 0 / 16) == 4) (nat_le 20 (header_size p)) (nat_le (header_size p) (length p)) (nat_le (header_size p) (word p 2)) h in
    record {
      least = leb-true 20 (length p) t.0;
      header = leb-true 20 (header_size p) t.1;
      room = leb-true (header_size p) (length p) t.2;
      total = leb-true (header_size p) (word p 2) t.3;
    }

pub inside_room : (p : List ℕ) → length (ipv4_inside p) ≡ min (word p 2) (length p) - header_size p
inside_room p = omega (arith, length-drop (header_size p) (take (word p 2) p), length-take (word p 2) p)

ipv4_network : (p : List ℕ) (t : Transport) → IsWhole p → t ≡ whole_in (ipv4_kind p) (length (ipv4_inside p)) → network.Ipv4 (record { transport = t; at = header_size p }) ≡ network_of (ipv4_of p)
unfolding ipv4_of
ipv4_network p t h e =
    let size : header_size p ≡ 20 + length (drop 20 (take (header_size p) p)) = omega (arith, length-drop 20 (take (header_size p) p), length-take (header_size p) p, h.header, h.room) in
    λ i. network.Ipv4 (record { transport = e i; at = size i })

pub first_network : (p : List ℕ) (t : Transport) → is_ipv4 p ≡ true → word p 6 % 8192 ≡ 0 → t ≡ whole_in (over_ipv4 (get_or p 9 0)) (min (word p 2) (length p) - header_size p) →
    network.Ipv4 (record { transport = t; at = header_size p }) ≡ network_of (ipv4_of p)
first_network p t h z e =
    let first : ((word p 6 % 8192) == 0) ≡ true = eq-eqb (word p 6 % 8192) 0 z in
    let kind : over_ipv4 (get_or p 9 0) ≡ ipv4_kind p = ap (λ (b : Bool). cond b (over_ipv4 (get_or p 9 0)) Nothing) (sym first) in
    ipv4_network p t (whole_ipv4 p h) (e ∙ (λ i. whole_in (kind i) (sym (inside_room p) i)))

pub later_network : (p : List ℕ) → is_ipv4 p ≡ true → word p 6 % 8192 ≢ 0 → network.Ipv4 (record { transport = Nothing; at = header_size p }) ≡ network_of (ipv4_of p)
later_network p h z =
    let later : ((word p 6 % 8192) == 0) ≡ false = ne_eqb (word p 6 % 8192) 0 z in
    let kind : Nothing ≡ ipv4_kind p = ap (λ (b : Bool). cond b (over_ipv4 (get_or p 9 0)) Nothing) (sym later) in
    ipv4_network p Nothing (whole_ipv4 p h) (sym (nothing_in (length (ipv4_inside p))) ∙ ap (λ (k : Transport). whole_in k (length (ipv4_inside p))) kind)

-- ---- IPv6

pub least_ipv6 : (p : List ℕ) → is_ipv6 p ≡ true → 40 ≤ length p
least_ipv6 p h = leb-true 40 (length p) (and_left (nat_le 40 (length p)) ((get_or p 0 0 / 16) == 6) h)

pub ipv6_network : (p q : List ℕ) → q ≡ take (40 + word p 4) p → network_behind 6 40 (chain_of (length (drop 40 q)) (get_or p 6 0) (drop 40 q)) ≡ network_of (ipv6_of p)
unfolding ipv6_of
ipv6_network p q e = ap (λ (r : List ℕ). network_behind 6 40 (chain_of (length (drop 40 r)) (get_or p 6 0) (drop 40 r))) e

-- ---- what follows a type

pub body_arp : (kind : ℕ) (p : List ℕ) → ((kind == 0x0806) && is_arp p) ≡ true → body_of kind p ≡ arp_of p
unfolding body_of
body_arp kind p a = rw a refl

pub body_ipv4 : (kind : ℕ) (p : List ℕ) → ((kind == 0x0806) && is_arp p) ≡ false → ((kind == 0x0800) && is_ipv4 p) ≡ true → body_of kind p ≡ ipv4_of p
unfolding body_of
body_ipv4 kind p a b = rw (a, b) refl

pub body_ipv6 : (kind : ℕ) (p : List ℕ) → ((kind == 0x0806) && is_arp p) ≡ false → ((kind == 0x0800) && is_ipv4 p) ≡ false → ((kind == 0x86dd) && is_ipv6 p) ≡ true → body_of kind p ≡ ipv6_of p
unfolding body_of
body_ipv6 kind p a b d = rw (a, b, d) refl

pub body_plain : (kind : ℕ) (p : List ℕ) → ((kind == 0x0806) && is_arp p) ≡ false → ((kind == 0x0800) && is_ipv4 p) ≡ false → ((kind == 0x86dd) && is_ipv6 p) ≡ false → body_of kind p ≡ Plain p
unfolding body_of
body_plain kind p a b d = rw (a, b, d) refl

pub arp_network : (p : List ℕ) → network.Arp ≡ network_of (arp_of p)
unfolding arp_of
arp_network p = refl

-- ---- the frame

pub layout_is : (frame : List ℕ) (n : ℕ) (y : Network) → n ≡ tag_count (drop 12 frame) → y ≡ network_of (body_of (word frame (12 + 4 * n)) (drop (12 + 4 * n + 2) frame)) →
    ◌≡◌ {A = Layout} (record { tags = n; network = y }) (layout_of (layers_of frame))
unfolding layers_of
layout_is frame n y e h =
    let tags : n ≡ length (tags_of (tag_count (drop 12 frame)) (drop 12 frame)) = e ∙ sym (length-tags_of (tag_count (drop 12 frame)) (drop 12 frame)) in
    let network : y ≡ network_of (body_of (word frame (12 + 4 * tag_count (drop 12 frame))) (drop (12 + 4 * tag_count (drop 12 frame) + 2) frame)) =
    h ∙ ap (λ (k : ℕ). network_of (body_of (word frame (12 + 4 * k)) (drop (12 + 4 * k + 2) frame))) e in
    λ i. record { tags = tags i; network = network i }
