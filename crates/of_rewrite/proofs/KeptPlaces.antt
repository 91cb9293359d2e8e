-- Where the layers of a frame begin stays where a number is replaced.
use Rattle.std.proofs.Common.{◌≡◌, ℕ, ◌+◌, ◌-◌, ◌*◌, ◌^◌, ◌<◌, ◌≤◌, List, [], ◌∷◌, ◌++◌, length, take, drop, Option, Some, None, refl, sym, ap, subst, ◌∙◌, arith, true, false, cond}
use Rattle.std.{specs.Prelude.nat_le, proofs.lemmas.List.append-nil, proofs.lemmas.List.take_all, proofs.lemmas.List.drop_all}
use Rattle.of_layers.specs.Layers.{Layers, Body, Plain, header_checksum, checksum, ttl}
use Rattle.of_layers.specs.{Reading.layers_of, WellFormed.AreBytes}
use Rattle.of_headers.specs.{declared.layout.Layout.Layout, Places.network_of, Places.layout_of}
use Rattle.of_rewrite.specs.{Rewriting.header_updated, Rewriting.carried_after, Replaced.tags_with, Replaced.body_with, Replaced.layers_with, Replaced.layers_set, TimeToLive.layers_ttl_decremented}
use Rattle.of_rewrite.proofs.Unset.{packet_below}

tags_same : (n : ℕ) (f : ℕ → ℕ) (ts : List (List ℕ)) → length (tags_with n f ts) ≡ length ts
tags_same n f [] = refl
tags_same n f (t ∷ ts) = refl

network_same : (n : ℕ) (f : ℕ → ℕ) (b : Body) → network_of (body_with n f b) ≡ network_of b
network_same n f (Plain rest) = refl
network_same n f other = refl

pub layout_with : (n : ℕ) (f : ℕ → ℕ) (l : Layers) → layout_of (layers_with n f l) ≡ layout_of l
layout_with n f l = λ i. record { tags = tags_same n f l.tags i; network = network_same n f l.body i }

pub layout_set : (n v : ℕ) (l : Layers) → layout_of (layers_set n v l) ≡ layout_of l
unfolding layers_set
layout_set n v l =
    let one : Layers = layers_with n (λ x. v) l in
    let two : Layers = layers_with header_checksum (header_updated l.body n v) (layers_with n (λ x. v) l) in
    layout_with checksum (carried_after l.body n v) two ∙ layout_with header_checksum (header_updated l.body n v) one ∙ layout_with n (λ x. v) l

pub layout_aged : (o : Option ℕ) (l : Layers) → layout_of (layers_ttl_decremented o l) ≡ layout_of l
layout_aged None l = refl
layout_aged (Some t) l = elim (nat_le t 1) as (λ b. layout_of (cond b l (layers_set ttl (t - 1) l)) ≡ layout_of l) [
  | true ↦ refl
  | false ↦ layout_set ttl (t - 1) l
]

-- the places of a frame are those of the one that it became
pub stays_set : (n v : ℕ) (s t : List ℕ) (y : Layout) → y ≡ layout_of (layers_of s) → layers_of t ≡ layers_set n v (layers_of s) → y ≡ layout_of (layers_of t)
stays_set n v s t y e h = e ∙ sym (ap layout_of h ∙ layout_set n v (layers_of s))

pub stays_aged : (o : Option ℕ) (s t : List ℕ) (y : Layout) → y ≡ layout_of (layers_of s) → layers_of t ≡ layers_ttl_decremented o (layers_of s) → y ≡ layout_of (layers_of t)
stays_aged o s t y e h = e ∙ sym (ap layout_of h ∙ layout_aged o (layers_of s))

-- ---- a frame whose bytes were written in place

written_back : (len : ℕ) (old new : List ℕ) → len ≡ length old → length new ≡ length old → take len (new ++ drop (length new) old) ≡ new
written_back len old new e h =
    let none : drop (length new) old ≡ [] = drop_all (length new) old (omega (arith, h)) in
    ap (λ (r : List ℕ). take len (new ++ r)) none ∙ ap (take len) (append-nil new) ∙ take_all len new (omega (arith, e, h))

-- what holds of the bytes that were lent and what was written to them holds of the frame before and after
pub written : (P : List ℕ → List ℕ → Type 0) (len : ℕ) (frame old lent new : List ℕ) → old ≡ frame → lent ≡ old → len ≡ length old → length new ≡ length old → P lent new →
    P frame (take len (new ++ drop (length new) old))
written P len frame old lent new is same e h p = subst (λ (s : List ℕ). P frame s) (sym (written_back len old new e h)) (subst (λ (s : List ℕ). P s new) (same ∙ is) p)

pub kept : (len : ℕ) (old new : List ℕ) (y : Layout) → len ≡ length old → length new ≡ length old → 14 ≤ length old → length old < 2 ^ 61 → y ≡ layout_of (layers_of new) →
    (14 ≤ length (take len (new ++ drop (length new) old))) × (length (take len (new ++ drop (length new) old)) < 2 ^ 61) × (y ≡ layout_of (layers_of (take len (new ++ drop (length new) old))))
kept len old new y e h long most places = rw (written_back len old new e h) (omega (arith, h, long), omega (arith, h, most), places)

-- a tag has bytes
pub tags_room : (s : List ℕ) → AreBytes s → 14 ≤ length s → length s < 2 ^ 61 → length (layers_of s).tags + 1 < 2 ^ 64
tags_room s b long most = let below : 14 + 4 * length (layers_of s).tags ≤ length s = packet_below s (layout_of (layers_of s)) b long refl in omega (arith, below, most)
