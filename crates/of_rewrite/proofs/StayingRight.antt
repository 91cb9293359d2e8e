-- Checksums of a frame that were right stay so where a number is replaced.
use Rattle.std.proofs.Common.{◌≡◌, ℕ, ◌<◌, ◌≤◌, Bool, true, false, cond, List, [], ◌++◌, length, drop, sum, ◌⊎◌, refl, sym, ap, ◌∙◌, arith}
use Rattle.std.specs.Prelude.{◌&&◌, ◌||◌}
use Rattle.of_layers.specs.Layers.{Item, Cell, Layers, Carried, Extension, Body, Ipv4, Ipv6, cells_in, byte_cells, ipv4, ipv6, plain, items_of}
use Rattle.of_layers.specs.{declared.transport.Transport.Transport, declared.transport.Transport.TheVariants.Nothing, Fields.row_of, Looking.look_up, Reading.layers_of}
use Rattle.of_layers.{specs.WellFormed.AreBytes, specs.WellFormed.FitsItems, specs.WellFormed.IsIpv4, specs.WellFormed.IsLayers, proofs.FrameLemmas.are_layers}
use Rattle.of_rewrite.specs.Rewriting.{change_at, replace_at, words, without_addresses, header_cover, address_cover, carried_cover, header_updated, carried_after}
use Rattle.of_rewrite.specs.Replaced.{Replaceable, LeavesLayers, numbers_with, carried_with, body_with, layers_with, layers_set}
use Rattle.of_rewrite.proofs.RightLayers.{CoversWith, covers_with, HeaderWords, header_words, header_step, PacketWords, kinds_words, kinds_step, addresses_kept, no_header_checksum, look_other, header_same, words_long, are_words}
use Rattle.of_rewrite.specs.{Checksum.updated, Checksum.carried_updated, Checksum.sums_to_ones, Right.header_is_right, Right.is_left_out, Right.carried_is_right, Right.StayRight}
use Rattle.of_rewrite.proofs.{Kept.cut_at, Kept.cut_cells, Kept.cut_named, Kept.bytes_nameless, KeptLayers.fits_with, KeptLayers.layers_kept, KeptLayers.ipv4_kept, Parts.length_changed}
use Rattle.of_rewrite.proofs.{Standing.no_header, Structure.Chained, Structure.chained}

abbrev pub frame_with : List ℕ → List (List ℕ) → ℕ → Body → Layers
frame_with ends tags type body = record { ends = ends; tags = tags; type = type; body = body }

abbrev pub body_set : ℕ → ℕ → Body → Body
body_set n v b = body_with 103 (carried_after b n v) (body_with 102 (header_updated b n v) (body_with n (λ x. v) b))

-- what the checksums of the new layers cover
record Covered (n v : ℕ) (l : Layers) : Type 0 where
  pub first : CoversWith n (λ x. v) l.body
  pub second : CoversWith 102 (header_updated l.body n v) (body_with n (λ x. v) l.body)
  pub third : CoversWith 103 (carried_after l.body n v) (body_with 102 (header_updated l.body n v) (body_with n (λ x. v) l.body))

covered : (n v : ℕ) (l : Layers) → LeavesLayers n → IsLayers l → Covered n v l
unfolding row_of
covered n v l leaves h =
    let one : Layers = layers_with n (λ x. v) l in
    let g : ℕ → ℕ = header_updated l.body n v in
    let h1 : IsLayers (layers_with n (λ x. v) l) = layers_kept n (λ x. v) l leaves.1 h in
    let h2 : IsLayers (layers_with 102 (header_updated l.body n v) (layers_with n (λ x. v) l)) = layers_kept 102 g one (omega arith) h1 in
    record {
      first = covers_with n (λ x. v) l leaves.0 leaves.1 h;
      second = covers_with 102 g one (omega arith) (omega arith) h1;
      third = covers_with 103 (carried_after l.body n v) (layers_with 102 g one) (omega arith) (omega arith) h2;
    }

-- the addresses: no checksum is among them
addresses_set : (n v : ℕ) (l : Layers) → Covered n v l → words (address_cover (body_set n v l.body)) ≡ words (replace_at n v (address_cover l.body))
addresses_set n v l c =
    let one : Body = body_with n (λ x. v) l.body in
    let g : ℕ → ℕ = header_updated l.body n v in
    c.third.addresses ∙ addresses_kept 103 (carried_after l.body n v) (body_with 102 g one) refl ∙ c.second.addresses ∙ addresses_kept 102 g one refl ∙ c.first.addresses

-- ---- the IPv4 header

-- the words of the header before and after
pub record HeaderSet (n v : ℕ) (ns o : List ℕ) (c : Carried) (rest : List ℕ) : Type 0 where
  pub are : HeaderWords (cells_in ipv4 ns ++ byte_cells o) (cells_in ipv4 (numbers_with n (λ x. v) ipv4 ns) ++ byte_cells o) (header_updated (Ipv4 ns o c rest) n v)
  pub well_formed : IsIpv4 (numbers_with n (λ x. v) ipv4 ns) o (carried_with n (λ x. v) c) rest
  pub set : words (header_cover (body_set n v (Ipv4 ns o c rest))) ≡ words (change_at 102 (header_updated (Ipv4 ns o c rest) n v) (cells_in ipv4 (numbers_with n (λ x. v) ipv4 ns) ++ byte_cells o))

pub header_set : (ends : List ℕ) (tags : List (List ℕ)) (type : ℕ) (ns o : List ℕ) (c : Carried) (rest : List ℕ) (n v : ℕ) → IsLayers (frame_with ends tags type (Ipv4 ns o c rest)) → Replaceable n → LeavesLayers n → HeaderSet n v ns o c rest
unfolding row_of
header_set ends tags type ns o c rest n v h free leaves =
    let b : Body = Ipv4 ns o c rest in
    let f : ℕ → ℕ = λ x. v in
    let g : ℕ → ℕ = header_updated (Ipv4 ns o c rest) n v in
    let k : Covered n v (frame_with ends tags type (Ipv4 ns o c rest)) = covered n v (frame_with ends tags type b) leaves h in
    let i : IsIpv4 ns o c rest = h.body.1 in
    let ms : List ℕ = numbers_with n (λ x. v) ipv4 ns in
    let j : IsIpv4 (numbers_with n (λ x. v) ipv4 ns) o (carried_with n (λ x. v) c) rest = ipv4_kept n f ns o c rest leaves.1 i in
    let cut : cells_in ipv4 (numbers_with n (λ x. v) ipv4 ns) ++ byte_cells o ≡ cut_at n (λ x. v) (cells_in ipv4 ns ++ byte_cells o) = sym (cut_named n f (cells_in ipv4 ns) (byte_cells o) (bytes_nameless n o) ∙ ap (λ (x : List Cell). x ++ byte_cells o) (cut_cells n f ipv4 ns)) in
    let same : look_up 102 (cells_in ipv4 (numbers_with n (λ x. v) ipv4 ns) ++ byte_cells o) ≡ look_up 102 (cells_in ipv4 ns ++ byte_cells o) = ap (look_up 102) cut ∙ look_other 102 n f (cells_in ipv4 ns ++ byte_cells o) (λ e. free.0 (sym e)) in
    let rule : (x : ℕ) → header_updated (Ipv4 ns o c rest) n v x ≡ updated x (words (cells_in ipv4 ns ++ byte_cells o)) (words (cells_in ipv4 (numbers_with n (λ x. v) ipv4 ns) ++ byte_cells o)) = λ x. ap (updated x (words (cells_in ipv4 ns ++ byte_cells o))) (sym k.first.header) in
    record {
      are = header_words ns o ms o c (carried_with n f c) rest rest g i j refl same rule;
      well_formed = j;
      set = ap (λ (x : List Cell). words x) (header_same (carried_after b n v) (numbers_with 102 g ipv4 ms) o) ∙ k.second.header;
    }

header_stays : (ends : List ℕ) (tags : List (List ℕ)) (type : ℕ) (b : Body) (n v : ℕ) → IsLayers (frame_with ends tags type b) → Replaceable n → LeavesLayers n → header_is_right b ≡ true → header_is_right (body_set n v b) ≡ true
header_stays ends tags type (Ipv4 ns o c rest) n v h free leaves r =
    let s : HeaderSet n v ns o c rest = header_set ends tags type ns o c rest n v h free leaves in
    ap sums_to_ones s.set ∙ header_step (numbers_with n (λ x. v) ipv4 ns) o (carried_with n (λ x. v) c) rest (header_updated (Ipv4 ns o c rest) n v) (cells_in ipv4 ns ++ byte_cells o) s.well_formed s.are r
header_stays ends tags type other n v h free leaves r = r

-- ---- what is carried

-- over either network, with these cells of addresses; `lack` says whether a checksum may be left out
pub record CarriedSet (lack : Bool) (c : Carried) (a : List Cell) (n v : ℕ) (g k : ℕ → ℕ) (p q : List ℕ) : Type 0 where
  pub are : (c.kind ≡ Nothing) ⊎ PacketWords lack c.kind c.numbers (numbers_with n (λ x. v) (items_of c.kind) c.numbers) (words a) (words (replace_at n v a)) k
  pub none : c.kind ≡ Nothing → words a ≡ words (replace_at n v a)
  pub looked : cells_in (items_of c.kind) (numbers_with 103 k (items_of c.kind) (numbers_with 102 g (items_of c.kind) (numbers_with n (λ x. v) (items_of c.kind) c.numbers))) ≡ cut_at 103 k (cells_in (items_of c.kind) (numbers_with n (λ x. v) (items_of c.kind) c.numbers))
  pub set : p ++ q ≡ words (replace_at n v a) ++ words (change_at 103 k (cells_in (items_of c.kind) (numbers_with n (λ x. v) (items_of c.kind) c.numbers)))

carried_set : (lack : Bool) (c : Carried) (a : List Cell) (n v : ℕ) (g k : ℕ → ℕ) → Replaceable n → FitsItems (items_of c.kind) c.numbers → (c.kind ≡ Nothing → a ≡ []) →
    ((z : ℕ) → k z ≡ carried_updated lack c.kind z (words a ++ words (cells_in (items_of c.kind) c.numbers)) (words (replace_at n v a) ++ words (replace_at n v (cells_in (items_of c.kind) c.numbers)))) →
    words (cells_in (items_of c.kind) (numbers_with n (λ x. v) (items_of c.kind) c.numbers)) ≡ words (replace_at n v (cells_in (items_of c.kind) c.numbers)) → (p q : List ℕ) → p ≡ words (replace_at n v a) →
    q ≡ words (change_at 103 k (cells_in (items_of c.kind) (numbers_with 102 g (items_of c.kind) (numbers_with n (λ x. v) (items_of c.kind) c.numbers)))) → CarriedSet lack c a n v g k p q
carried_set lack c a n v g k free fits none rule first p q pe qe =
    let is : List Item = items_of c.kind in
    let ns : List ℕ = c.numbers in
    let f : ℕ → ℕ = λ x. v in
    let ms : List ℕ = numbers_with n (λ x. v) (items_of c.kind) c.numbers in
    let two : cells_in (items_of c.kind) (numbers_with 102 g (items_of c.kind) (numbers_with n (λ x. v) (items_of c.kind) c.numbers)) ≡ cells_in (items_of c.kind) (numbers_with n (λ x. v) (items_of c.kind) c.numbers) = no_header_checksum c.kind g ms in
    let same : look_up 103 (cells_in (items_of c.kind) (numbers_with n (λ x. v) (items_of c.kind) c.numbers)) ≡ look_up 103 (cells_in (items_of c.kind) c.numbers) = ap (look_up 103) (sym (cut_cells n f is ns)) ∙ look_other 103 n f (cells_in is ns) (λ e. free.1 (sym e)) in
    let long : length (words a) ≡ length (words (replace_at n v a)) = words_long a (replace_at n v a) (sym (length_changed n f a)) in
    record {
      are = kinds_words lack c.kind ns ms (words a) (words (replace_at n v a)) k fits (fits_with n f is ns fits) same long (are_words a)
          (λ z. rule z ∙ ap (λ (x : List ℕ). carried_updated lack c.kind z (words a ++ words (cells_in (items_of c.kind) c.numbers)) (words (replace_at n v a) ++ x)) (sym first));
      none = λ e. (λ j. words (none e j)) ∙ (λ j. words (replace_at n v (sym (none e) j)));
      looked = sym (cut_cells 103 k is (numbers_with 102 g is ms)) ∙ ap (cut_at 103 k) two;
      set = λ j. pe j ++ (qe ∙ ap (λ (x : List Cell). words (change_at 103 k x)) two) j;
    }

pub carried_set_4 : (ends : List ℕ) (tags : List (List ℕ)) (type : ℕ) (ns o : List ℕ) (c : Carried) (rest : List ℕ) (n v : ℕ) → IsLayers (frame_with ends tags type (Ipv4 ns o c rest)) → Replaceable n → LeavesLayers n →
    CarriedSet true c (address_cover (Ipv4 ns o c rest)) n v (header_updated (Ipv4 ns o c rest) n v) (carried_after (Ipv4 ns o c rest) n v) (words (address_cover (body_set n v (Ipv4 ns o c rest)))) (words (carried_cover (body_set n v (Ipv4 ns o c rest))))
unfolding row_of
carried_set_4 ends tags type ns o c rest n v h free leaves =
    let b : Body = Ipv4 ns o c rest in
    let l : Layers = frame_with ends tags type (Ipv4 ns o c rest) in
    let k : Covered n v (frame_with ends tags type (Ipv4 ns o c rest)) = covered n v (frame_with ends tags type b) leaves h in
    carried_set true c (address_cover b) n v (header_updated b n v) (carried_after b n v) free h.body.1.carries.numbers
    (λ e. ap (λ (t : Transport). cond (without_addresses t) [] (drop 11 (cells_in ipv4 ns))) e) (λ z. refl) k.first.carried (words (address_cover (body_set n v b))) (words (carried_cover (body_set n v b))) (addresses_set n v l k) k.third.carried

pub carried_set_6 : (ends : List ℕ) (tags : List (List ℕ)) (type : ℕ) (ns : List ℕ) (es : List Extension) (c : Carried) (rest : List ℕ) (n v : ℕ) → IsLayers (frame_with ends tags type (Ipv6 ns es c rest)) → Replaceable n → LeavesLayers n →
    CarriedSet false c (address_cover (Ipv6 ns es c rest)) n v (header_updated (Ipv6 ns es c rest) n v) (carried_after (Ipv6 ns es c rest) n v) (words (address_cover (body_set n v (Ipv6 ns es c rest)))) (words (carried_cover (body_set n v (Ipv6 ns es c rest))))
unfolding row_of
carried_set_6 ends tags type ns es c rest n v h free leaves =
    let b : Body = Ipv6 ns es c rest in
    let l : Layers = frame_with ends tags type (Ipv6 ns es c rest) in
    let k : Covered n v (frame_with ends tags type (Ipv6 ns es c rest)) = covered n v (frame_with ends tags type b) leaves h in
    let q : Chained es c 102 = chained 102 no_header _ es c h.body.1.chain in
    carried_set false c (address_cover b) n v (header_updated b n v) (carried_after b n v) free q.fits
    (λ e. ap (λ (t : Transport). cond (without_addresses t) [] (drop 7 (cells_in (ipv6 (plain 8)) ns))) e) (λ z. refl) k.first.carried (words (address_cover (body_set n v b))) (words (carried_cover (body_set n v b))) (addresses_set n v l k) k.third.carried

stays : (lack : Bool) (c : Carried) (a : List Cell) (n v : ℕ) (g k : ℕ → ℕ) (p q more : List ℕ) → CarriedSet lack c a n v g k p q → 0 < sum more →
    ((lack && is_left_out c.kind (look_up 103 (cells_in (items_of c.kind) c.numbers))) || sums_to_ones (more ++ (words a ++ words (cells_in (items_of c.kind) c.numbers)))) ≡ true →
    ((lack && is_left_out c.kind (look_up 103 (cells_in (items_of c.kind) (numbers_with 103 k (items_of c.kind) (numbers_with 102 g (items_of c.kind) (numbers_with n (λ x. v) (items_of c.kind) c.numbers)))))) || sums_to_ones (more ++ (p ++ q))) ≡ true
stays lack c a n v g k p q more s some r =
    (λ j. (lack && is_left_out c.kind (look_up 103 (s.looked j))) || sums_to_ones (more ++ s.set j)) ∙
    kinds_step lack c.kind c.numbers (numbers_with n (λ x. v) (items_of c.kind) c.numbers) (words a) (words (replace_at n v a)) more k s.none some s.are r

carried_stays : (ends : List ℕ) (tags : List (List ℕ)) (type : ℕ) (b : Body) (n v : ℕ) → IsLayers (frame_with ends tags type b) → Replaceable n → LeavesLayers n → (more : List ℕ) → 0 < sum more → carried_is_right more b ≡ true → carried_is_right more (body_set n v b) ≡ true
carried_stays ends tags type (Ipv4 ns o c rest) n v h free leaves more some r =
    let b : Body = Ipv4 ns o c rest in
    stays true c (address_cover b) n v (header_updated b n v) (carried_after b n v) (words (address_cover (body_set n v b))) (words (carried_cover (body_set n v b))) more (carried_set_4 ends tags type ns o c rest n v h free leaves) some r
carried_stays ends tags type (Ipv6 ns es c rest) n v h free leaves more some r =
    let b : Body = Ipv6 ns es c rest in
    stays false c (address_cover b) n v (header_updated b n v) (carried_after b n v) (words (address_cover (body_set n v b))) (words (carried_cover (body_set n v b))) more (carried_set_6 ends tags type ns es c rest n v h free leaves) some r
carried_stays ends tags type other n v h free leaves more some r = r

-- ---- frames

pub stay_right : (n v : ℕ) (s t : List ℕ) → AreBytes s → 14 ≤ length s → Replaceable n → LeavesLayers n → layers_of t ≡ layers_set n v (layers_of s) → StayRight s t
unfolding layers_set
stay_right n v s t b h free leaves e =
    let l : Layers = layers_of s in
    let i : IsLayers (layers_of s) = are_layers s b h in
    let body : (layers_of t).body ≡ body_set n v (layers_of s).body = ap (λ (k : Layers). k.body) e in (
      (λ r. ap header_is_right body ∙ header_stays l.ends l.tags l.type l.body n v i free leaves r),
      (λ more some r. ap (carried_is_right more) body ∙ carried_stays l.ends l.tags l.type l.body n v i free leaves more some r),
    )
