-- Checksums of a frame that were wrong stay off by as much where a number is replaced.
use Rattle.std.proofs.Common.{◌≡◌, ℕ, ◌≤◌, ◌%◌, Bool, true, false, List, ◌++◌, length, sum, refl, ap, ◌∙◌}
use Rattle.std.specs.Prelude.{◌&&◌}
use Rattle.of_layers.specs.Layers.{Cell, Layers, Carried, Body, Ipv4, Ipv6, cells_in, byte_cells, ipv4, items_of}
use Rattle.of_layers.{specs.Looking.look_up, specs.Reading.layers_of, specs.WellFormed.AreBytes, specs.WellFormed.IsLayers, proofs.FrameLemmas.are_layers}
use Rattle.of_rewrite.specs.Rewriting.{replace_at, words, address_cover, carried_cover, header_updated, carried_after}
use Rattle.of_rewrite.specs.Right.{is_left_out, left_out, header_off, carried_off, StayOff}
use Rattle.of_rewrite.proofs.StayingRight.{frame_with, body_set, HeaderSet, header_set, CarriedSet, carried_set_4, carried_set_6}
use Rattle.of_rewrite.specs.Replaced.{Replaceable, LeavesLayers, numbers_with, layers_set}
use Rattle.of_rewrite.proofs.OffLayers.{header_off_step, kinds_off, kinds_left_out}

header_same_off : (ends : List ℕ) (tags : List (List ℕ)) (type : ℕ) (b : Body) (n v : ℕ) → IsLayers (frame_with ends tags type b) → Replaceable n → LeavesLayers n → header_off (body_set n v b) ≡ header_off b
header_same_off ends tags type (Ipv4 ns o c rest) n v h free leaves =
    let s : HeaderSet n v ns o c rest = header_set ends tags type ns o c rest n v h free leaves in
    ap (λ (x : List ℕ). sum x % 65535) s.set ∙ header_off_step (cells_in ipv4 ns ++ byte_cells o) (cells_in ipv4 (numbers_with n (λ x. v) ipv4 ns) ++ byte_cells o) (header_updated (Ipv4 ns o c rest) n v) s.are
header_same_off ends tags type other n v h free leaves = refl

-- over either network
same_off : (lack : Bool) (c : Carried) (a : List Cell) (n v : ℕ) (g k : ℕ → ℕ) (p q more : List ℕ) → CarriedSet lack c a n v g k p q → (lack && is_left_out c.kind (look_up 103 (cells_in (items_of c.kind) c.numbers))) ≡ false →
    sum (more ++ (p ++ q)) % 65535 ≡ sum (more ++ (words a ++ words (cells_in (items_of c.kind) c.numbers))) % 65535
same_off lack c a n v g k p q more s there =
    ap (λ (x : List ℕ). sum (more ++ x) % 65535) s.set ∙ kinds_off lack c.kind c.numbers (numbers_with n (λ x. v) (items_of c.kind) c.numbers) (words a) (words (replace_at n v a)) more k s.none s.are there

same_lack : (lack : Bool) (c : Carried) (a : List Cell) (n v : ℕ) (g k : ℕ → ℕ) (p q : List ℕ) → CarriedSet lack c a n v g k p q →
    (lack && is_left_out c.kind (look_up 103 (cells_in (items_of c.kind) (numbers_with 103 k (items_of c.kind) (numbers_with 102 g (items_of c.kind) (numbers_with n (λ x. v) (items_of c.kind) c.numbers)))))) ≡
    (lack && is_left_out c.kind (look_up 103 (cells_in (items_of c.kind) c.numbers)))
same_lack lack c a n v g k p q s =
    ap (λ (x : List Cell). lack && is_left_out c.kind (look_up 103 x)) s.looked ∙ kinds_left_out lack c.kind c.numbers (numbers_with n (λ x. v) (items_of c.kind) c.numbers) (words a) (words (replace_at n v a)) k s.are

carried_same_off : (ends : List ℕ) (tags : List (List ℕ)) (type : ℕ) (b : Body) (n v : ℕ) → IsLayers (frame_with ends tags type b) → Replaceable n → LeavesLayers n → (more : List ℕ) → left_out b ≡ false → carried_off more (body_set n v b) ≡ carried_off more b
carried_same_off ends tags type (Ipv4 ns o c rest) n v h free leaves more there =
    let b : Body = Ipv4 ns o c rest in
    same_off true c (address_cover b) n v (header_updated b n v) (carried_after b n v) (words (address_cover (body_set n v b))) (words (carried_cover (body_set n v b))) more (carried_set_4 ends tags type ns o c rest n v h free leaves) there
carried_same_off ends tags type (Ipv6 ns es c rest) n v h free leaves more there =
    let b : Body = Ipv6 ns es c rest in
    same_off false c (address_cover b) n v (header_updated b n v) (carried_after b n v) (words (address_cover (body_set n v b))) (words (carried_cover (body_set n v b))) more (carried_set_6 ends tags type ns es c rest n v h free leaves) there
carried_same_off ends tags type other n v h free leaves more there = refl

left_out_same : (ends : List ℕ) (tags : List (List ℕ)) (type : ℕ) (b : Body) (n v : ℕ) → IsLayers (frame_with ends tags type b) → Replaceable n → LeavesLayers n → left_out (body_set n v b) ≡ left_out b
left_out_same ends tags type (Ipv4 ns o c rest) n v h free leaves =
    let b : Body = Ipv4 ns o c rest in
    same_lack true c (address_cover b) n v (header_updated b n v) (carried_after b n v) (words (address_cover (body_set n v b))) (words (carried_cover (body_set n v b))) (carried_set_4 ends tags type ns o c rest n v h free leaves)
left_out_same ends tags type other n v h free leaves = refl

-- ---- frames

pub stay_off : (n v : ℕ) (s t : List ℕ) → AreBytes s → 14 ≤ length s → Replaceable n → LeavesLayers n → layers_of t ≡ layers_set n v (layers_of s) → StayOff s t
unfolding layers_set
stay_off n v s t b h free leaves e =
    let l : Layers = layers_of s in
    let i : IsLayers (layers_of s) = are_layers s b h in
    let body : (layers_of t).body ≡ body_set n v (layers_of s).body = ap (λ (k : Layers). k.body) e in (
      ap header_off body ∙ header_same_off l.ends l.tags l.type l.body n v i free leaves,
      (λ more there. ap (carried_off more) body ∙ carried_same_off l.ends l.tags l.type l.body n v i free leaves more there),
      ap left_out body ∙ left_out_same l.ends l.tags l.type l.body n v i free leaves,
    )
