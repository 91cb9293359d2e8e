-- The words that a checksum covers are those of its parts of the layers.
use Rattle.std.proofs.Common.{◌≡◌, ℕ, zero, suc, ◌+◌, ◌*◌, ◌/◌, ◌%◌, Bool, true, false, cond, List, [], ◌∷◌, ◌++◌, length, take, drop, refl, sym, ap, ◌∙◌, arith, append_assoc, slice_index}
use Rattle.std.{specs.Prelude.◌==◌, specs.Prelude.◌||◌, specs.Prelude.not, specs.Prelude.nat_lt, proofs.lemmas.List.length-append, proofs.lemmas.List.take-append-drop}
use Rattle.of_layers.specs.Layers.{Item, Cell, plain, Layers, Carried, Extension, Options, Fragment, Body, Plain, Ipv4, Ipv6, cells_in, byte_cells, inner_cells, tag_cells, extension_cells, cells, encoded, addresses, outer_tag, inner_tag, ether_type, ipv4, ipv6, options, fragment, items_of, size_of, all_bytes, next_before, header_checksum, checksum}
use Rattle.of_layers.specs.{declared.transport.Transport.Transport, declared.transport.Transport.TheVariants.Nothing, Fields.row_of}
use Rattle.of_layers.{specs.WellFormed.FitsItems, specs.WellFormed.IsIpv4, specs.WellFormed.IsIpv6, specs.WellFormed.IsLayers, specs.Looking.name_is, proofs.EncodingLemmas.encoded-append}
use Rattle.of_headers.{specs.Places.width, specs.Places.network_of, specs.Places.layout_of, specs.declared.layout.Layout.Layout, proofs.LocateLemmas.width-append, proofs.LocateLemmas.width_bytes}
use Rattle.of_rewrite.specs.Rewriting.{change_at, replace_at, number_set, checksum_rule, words, without_addresses, header_cover, address_cover, carried_cover}
use Rattle.of_rewrite.proofs.Structure.{wide, tags_part, Chained, chained, items_total, ipv6_total}
use Rattle.of_rewrite.proofs.Parts.{part_words, All, apart_by, all_append, all_bytes as all_byte_cells, passes, all_in}
use Rattle.of_rewrite.specs.{declared.sums.Span.Span, Checksum.words_of, Checksum.updated, Renewal.packet_at, Renewal.header_span, Renewal.address_span, Renewal.carried_span}
use Rattle.of_rewrite.proofs.CoveredWords.{words_in, header_words, carried_words, carried_rule}
use Rattle.of_rewrite.proofs.Standing.{own_header, no_header, length_encoded, size_even}

-- ---- parts of a format

take_cells : (k : ℕ) (is : List Item) (ns : List ℕ) → take k (cells_in is ns) ≡ cells_in (take k is) (take k ns)
take_cells zero is ns = refl
take_cells (suc k) [] ns = refl
take_cells (suc k) (i ∷ is) [] = refl
take_cells (suc k) (i ∷ is) (m ∷ ns) = ap (λ (x : List Cell). record { name = i.name; width = i.width; value = m } ∷ x) (take_cells k is ns)

empty_cells : (is : List Item) → cells_in is [] ≡ []
empty_cells [] = refl
empty_cells (i ∷ is) = refl

pub drop_cells : (k : ℕ) (is : List Item) (ns : List ℕ) → drop k (cells_in is ns) ≡ cells_in (drop k is) (drop k ns)
drop_cells zero is ns = refl
drop_cells (suc k) [] ns = refl
drop_cells (suc k) (i ∷ is) [] = sym (empty_cells (drop k is))
drop_cells (suc k) (i ∷ is) (m ∷ ns) = drop_cells k is ns

fits_take : (k : ℕ) (is : List Item) (ns : List ℕ) → FitsItems is ns → FitsItems (take k is) (take k ns)
fits_take zero is ns h = tt
fits_take (suc k) [] [] h = tt
fits_take (suc k) [] (m ∷ ns) h = absurd h
fits_take (suc k) (i ∷ is) [] h = absurd h
fits_take (suc k) (i ∷ is) (m ∷ ns) h = (h.0, fits_take k is ns h.1)

fits_drop : (k : ℕ) (is : List Item) (ns : List ℕ) → FitsItems is ns → FitsItems (drop k is) (drop k ns)
fits_drop zero is ns h = h
fits_drop (suc k) [] [] h = tt
fits_drop (suc k) [] (m ∷ ns) h = absurd h
fits_drop (suc k) (i ∷ is) [] h = absurd h
fits_drop (suc k) (i ∷ is) (m ∷ ns) h = fits_drop k is ns h.1

-- ---- the front of a frame

abbrev pub front_of : Layers → List Cell
front_of l = cells_in addresses l.ends ++ (tag_cells l.tags ++ cells_in ether_type (l.type ∷ []))

front_long : (l : Layers) → IsLayers l → length (encoded (front_of l)) ≡ 8 * packet_at (layout_of l)
front_long l h =
    let a : List Cell = cells_in addresses l.ends in
    let t : List Cell = tag_cells l.tags in
    let y : List Cell = cells_in ether_type (l.type ∷ []) in
    length_encoded (front_of l) ∙ width-append a (t ++ y) ∙ omega (arith, wide addresses l.ends h.ends, width-append t y, (tags_part 102 l.tags own_header.inner own_header.outer h.tags).is_wide)

pub all_inner : (q : ℕ → Bool) (ts : List (List ℕ)) → All q (inner_cells ts)
all_inner q [] = tt
all_inner q (t ∷ ts) = all_append q (cells_in inner_tag t) (inner_cells ts) (all_in q inner_tag t refl) (all_inner q ts)

pub all_tags : (q : ℕ → Bool) (ts : List (List ℕ)) → passes q outer_tag ≡ true → All q (tag_cells ts)
all_tags q [] h = tt
all_tags q (t ∷ ts) h = all_append q (cells_in outer_tag t) (inner_cells ts) (all_in q outer_tag t h) (all_inner q ts)

all_front : (q : ℕ → Bool) (l : Layers) → passes q addresses ≡ true → passes q outer_tag ≡ true → passes q ether_type ≡ true → All q (front_of l)
all_front q l a t y = all_append q (cells_in addresses l.ends) (tag_cells l.tags ++ cells_in ether_type (l.type ∷ [])) (all_in q addresses l.ends a)
    (all_append q (tag_cells l.tags) (cells_in ether_type (l.type ∷ [])) (all_tags q l.tags t) (all_in q ether_type (l.type ∷ []) y))

-- ---- names: of Ethernet and tags; of IP but the addresses; of all but what IP carries

abbrev pub outside : ℕ → Bool
outside n = nat_lt n 8

abbrev no_address : ℕ → Bool
no_address n = not (((n == 11) || (n == 12)) || ((n == 26) || (n == 27)))

abbrev pub no_carried : ℕ → Bool
no_carried n = nat_lt n 13 || ((n == 101) || ((n == 102) || ((n == 26) || ((n == 27) || (n == 28)))))

pub front_outside : (l : Layers) → All outside (front_of l)
unfolding row_of
front_outside l = all_front outside l refl refl refl

front_no_address : (l : Layers) → All no_address (front_of l)
unfolding row_of
front_no_address l = all_front no_address l refl refl refl

front_no_carried : (l : Layers) → All no_carried (front_of l)
unfolding row_of
front_no_carried l = all_front no_carried l refl refl refl

pub items_carried : (k : Transport) → passes (λ n. not (no_carried n)) (items_of k) ≡ true
unfolding row_of
items_carried k = elim k as (λ k. passes (λ n. not (no_carried n)) (items_of k) ≡ true) [ Nothing ↦ refl | _ ↦ refl ]

pub extensions_pass : (es : List Extension) → All no_carried (extension_cells es)
unfolding row_of
extensions_pass [] = tt
extensions_pass (Options ns bytes ∷ []) = all_append no_carried (cells_in (options (next_before [])) ns) (byte_cells bytes ++ []) (all_in no_carried (options (next_before [])) ns refl) (all_append no_carried (byte_cells bytes) [] (all_byte_cells no_carried bytes) tt)
extensions_pass (Options ns bytes ∷ (e ∷ es)) = all_append no_carried (cells_in (options (next_before (e ∷ es))) ns) (byte_cells bytes ++ extension_cells (e ∷ es)) (all_in no_carried (options (next_before (e ∷ es))) ns refl) (all_append no_carried (byte_cells bytes) (extension_cells (e ∷ es)) (all_byte_cells no_carried bytes) (extensions_pass (e ∷ es)))
extensions_pass (Fragment ns ∷ []) = all_append no_carried (cells_in (fragment (next_before [])) ns) [] (all_in no_carried (fragment (next_before [])) ns refl) tt
extensions_pass (Fragment ns ∷ (e ∷ es)) = all_append no_carried (cells_in (fragment (next_before (e ∷ es))) ns) (extension_cells (e ∷ es)) (all_in no_carried (fragment (next_before (e ∷ es))) ns refl) (extensions_pass (e ∷ es))

pub ipv6_pass : (es : List Extension) → passes no_carried (ipv6 (next_before es)) ≡ true
unfolding row_of
ipv6_pass [] = refl
ipv6_pass (e ∷ es) = refl

ipv6_front_pass : (es : List Extension) → passes no_address (take 7 (ipv6 (next_before es))) ≡ true
unfolding row_of
ipv6_front_pass [] = refl
ipv6_front_pass (e ∷ es) = refl

-- ---- a frame's cells, cut

cut_two : {A : Type 0} (a t y h o z : List A) → a ++ (t ++ (y ++ (h ++ (o ++ z)))) ≡ (a ++ (t ++ y)) ++ ((h ++ o) ++ z)
cut_two a t y h o z = simp append_assoc

cut_half : {A : Type 0} (a t y g d z : List A) → a ++ (t ++ (y ++ ((g ++ d) ++ z))) ≡ ((a ++ (t ++ y)) ++ g) ++ (d ++ z)
cut_half a t y g d z = simp append_assoc

cut_last : {A : Type 0} (a t y h o c r z : List A) → a ++ (t ++ (y ++ (h ++ (o ++ ((c ++ r) ++ z))))) ≡ ((a ++ (t ++ y)) ++ (h ++ o)) ++ (c ++ (r ++ z))
cut_last a t y h o c r z = simp append_assoc

-- what each checksum covers
pub record Covers (l : Layers) (n : ℕ) (f : ℕ → ℕ) : Type 0 where
  pub in_header : words_in (header_span (packet_at (layout_of l)) (network_of l.body)) (encoded (change_at n f (cells l))) ≡ words (change_at n f (header_cover l.body))
  pub in_addresses : words_in (address_span (packet_at (layout_of l)) (network_of l.body)) (encoded (change_at n f (cells l))) ≡ words (change_at n f (address_cover l.body))
  pub in_carried : words_in (carried_span (packet_at (layout_of l)) (network_of l.body)) (encoded (change_at n f (cells l))) ≡ words (change_at n f (carried_cover l.body))

none_covered : (s : List ℕ) → words_of 0 s ≡ words []
unfolding words_of
none_covered s = refl

either_covered : (t : Bool) (n : ℕ) (f : ℕ → ℕ) (cs : List Cell) (at k : ℕ) (s : List ℕ) → words_of k (drop (8 * at) s) ≡ words (change_at n f cs) →
    words_in (cond t (record { at = 0; words = 0 }) (record { at = at; words = k })) s ≡ words (change_at n f (cond t [] cs))
either_covered true n f cs at k s h = none_covered (drop (8 * 0) s)
either_covered false n f cs at k s h = h

abbrev frame_with : List ℕ → List (List ℕ) → ℕ → Body → Layers
frame_with ends tags type body = record { ends = ends; tags = tags; type = type; body = body }

covers_ipv4 : (ends : List ℕ) (tags : List (List ℕ)) (type : ℕ) (ns o : List ℕ) (c : Carried) (rest : List ℕ) → IsLayers (frame_with ends tags type (Ipv4 ns o c rest)) → (n : ℕ) (f : ℕ → ℕ) → Covers (frame_with ends tags type (Ipv4 ns o c rest)) n f
unfolding row_of
covers_ipv4 ends tags type ns o c rest h n f =
    let l : Layers = frame_with ends tags type (Ipv4 ns o c rest) in
    let i : IsIpv4 ns o c rest = h.body.1 in
    let q : ℕ = packet_at (layout_of l) in
    let hs : List Cell = cells_in ipv4 ns in
    let os : List Cell = byte_cells o in
    let cs : List Cell = cells_in (items_of c.kind) c.numbers in
    let rs : List Cell = byte_cells c.rest in
    let zs : List Cell = byte_cells rest in
    let a : List Cell = cells_in addresses ends in
    let t : List Cell = tag_cells tags in
    let y : List Cell = cells_in ether_type (type ∷ []) in
    let fl : length (encoded (front_of l)) ≡ 8 * q = front_long l h in
    let hw : width (cells_in ipv4 ns) ≡ 160 = wide ipv4 ns i.numbers in
    let ow : width (byte_cells o) ≡ 8 * length o = width_bytes o in
    let ho : length (encoded (cells_in ipv4 ns ++ byte_cells o)) ≡ 160 + 8 * length o = length_encoded (hs ++ os) ∙ width-append hs os ∙ omega arith in
    let even : 20 + length o ≡ 4 * slice_index ns 1 = i.words in
    let gs : List Cell = cells_in (take 11 ipv4) (take 11 ns) in
    let ds : List Cell = cells_in (drop 11 ipv4) (drop 11 ns) in
    let gw : length (encoded (cells_in (take 11 ipv4) (take 11 ns))) ≡ 96 = length_encoded gs ∙ wide (take 11 ipv4) (take 11 ns) (fits_take 11 ipv4 ns i.numbers) in
    let dw : length (encoded (cells_in (drop 11 ipv4) (drop 11 ns))) ≡ 64 = length_encoded ds ∙ wide (drop 11 ipv4) (drop 11 ns) (fits_drop 11 ipv4 ns i.numbers) in
    let halves : cells_in ipv4 ns ≡ gs ++ ds = sym (take-append-drop 11 hs) ∙ (λ j. take_cells 11 ipv4 ns j ++ drop_cells 11 ipv4 ns j) in
    let cw : length (encoded (cells_in (items_of c.kind) c.numbers)) ≡ 8 * size_of c.kind = length_encoded cs ∙ wide (items_of c.kind) c.numbers i.carries.numbers ∙ items_total c.kind in
    let half : size_of c.kind % 2 ≡ 0 = size_even c.kind in
    record {
      in_header =
          ap (λ (x : List Cell). words_of ((20 + length o) / 2) (drop (8 * q) (encoded (change_at n f x)))) (cut_two a t y hs os ((cs ++ rs) ++ zs))
          ∙ part_words n f (front_of l) (hs ++ os) ((cs ++ rs) ++ zs) q ((20 + length o) / 2)
          (apart_by outside (front_of l) (hs ++ os) (front_outside l) (all_append (λ n. not (outside n)) hs os (all_in (λ n. not (outside n)) ipv4 ns refl) (all_byte_cells (λ n. not (outside n)) o)) n) fl (omega arith);
      in_addresses =
          either_covered (without_addresses c.kind) n f (drop 11 hs) (q + 12) 4 (encoded (change_at n f (cells l)))
          (ap (λ (x : List Cell). words_of 4 (drop (8 * (q + 12)) (encoded (change_at n f (a ++ (t ++ (y ++ (x ++ (os ++ ((cs ++ rs) ++ zs)))))))))) halves
          ∙ ap (λ (x : List Cell). words_of 4 (drop (8 * (q + 12)) (encoded (change_at n f x)))) (cut_half a t y gs ds (os ++ ((cs ++ rs) ++ zs)))
          ∙ part_words n f (front_of l ++ gs) ds (os ++ ((cs ++ rs) ++ zs)) (q + 12) 4
          (apart_by no_address (front_of l ++ gs) ds (all_append no_address (front_of l) gs (front_no_address l) (all_in no_address (take 11 ipv4) (take 11 ns) refl)) (all_in (λ n. not (no_address n)) (drop 11 ipv4) (drop 11 ns) refl) n)
          (ap length (encoded-append (front_of l) gs) ∙ length-append (encoded (front_of l)) (encoded gs) ∙ omega arith) dw
          ∙ ap (λ (x : List Cell). words (change_at n f x)) (sym (drop_cells 11 ipv4 ns)));
      in_carried =
          ap (λ (x : List Cell). words_of (size_of c.kind / 2) (drop (8 * (q + (20 + length o))) (encoded (change_at n f x)))) (cut_last a t y hs os cs rs zs)
          ∙ part_words n f (front_of l ++ (hs ++ os)) cs (rs ++ zs) (q + (20 + length o)) (size_of c.kind / 2)
          (apart_by no_carried (front_of l ++ (hs ++ os)) cs (all_append no_carried (front_of l) (hs ++ os) (front_no_carried l) (all_append no_carried hs os (all_in no_carried ipv4 ns refl) (all_byte_cells no_carried o))) (all_in (λ n. not (no_carried n)) (items_of c.kind) c.numbers (items_carried c.kind)) n)
          (ap length (encoded-append (front_of l) (hs ++ os)) ∙ length-append (encoded (front_of l)) (encoded (hs ++ os)) ∙ omega arith) (omega arith);
    }

covers_ipv6 : (ends : List ℕ) (tags : List (List ℕ)) (type : ℕ) (ns : List ℕ) (es : List Extension) (c : Carried) (rest : List ℕ) → IsLayers (frame_with ends tags type (Ipv6 ns es c rest)) → (n : ℕ) (f : ℕ → ℕ) → Covers (frame_with ends tags type (Ipv6 ns es c rest)) n f
unfolding row_of
covers_ipv6 ends tags type ns es c rest h n f =
    let l : Layers = frame_with ends tags type (Ipv6 ns es c rest) in
    let i : IsIpv6 ns es c rest = h.body.1 in
    let k : Chained es c 102 = chained 102 no_header _ es c i.chain in
    let q : ℕ = packet_at (layout_of l) in
    let is : List Item = ipv6 (next_before es) in
    let hs : List Cell = cells_in (ipv6 (next_before es)) ns in
    let os : List Cell = extension_cells es in
    let cs : List Cell = cells_in (items_of c.kind) c.numbers in
    let rs : List Cell = byte_cells c.rest in
    let zs : List Cell = byte_cells rest in
    let a : List Cell = cells_in addresses ends in
    let t : List Cell = tag_cells tags in
    let y : List Cell = cells_in ether_type (type ∷ []) in
    let fl : length (encoded (front_of l)) ≡ 8 * q = front_long l h in
    let hw : width (cells_in (ipv6 (next_before es)) ns) ≡ 320 = wide is ns i.numbers ∙ ipv6_total es in
    let ow : width (extension_cells es) ≡ 8 * all_bytes es = k.part.is_wide in
    let ho : length (encoded (hs ++ os)) ≡ 320 + 8 * all_bytes es = length_encoded (hs ++ os) ∙ width-append hs os ∙ omega arith in
    let gs : List Cell = cells_in (take 7 (ipv6 (next_before es))) (take 7 ns) in
    let ds : List Cell = cells_in (drop 7 (ipv6 (next_before es))) (drop 7 ns) in
    let dw : length (encoded (cells_in (drop 7 (ipv6 (next_before es))) (drop 7 ns))) ≡ 256 = length_encoded ds ∙ wide (drop 7 (ipv6 (next_before es))) (drop 7 ns) (fits_drop 7 is ns i.numbers) in
    let halves : cells_in (ipv6 (next_before es)) ns ≡ gs ++ ds = sym (take-append-drop 7 hs) ∙ (λ j. take_cells 7 is ns j ++ drop_cells 7 is ns j) in
    let gd : 320 ≡ width gs + width ds = sym hw ∙ ap width halves ∙ width-append gs ds in
    let gw : length (encoded (cells_in (take 7 (ipv6 (next_before es))) (take 7 ns))) ≡ 64 = omega (arith, length_encoded gs, length_encoded ds) in
    let cw : length (encoded (cells_in (items_of c.kind) c.numbers)) ≡ 8 * size_of c.kind = length_encoded cs ∙ wide (items_of c.kind) c.numbers k.fits ∙ items_total c.kind in
    let half : size_of c.kind % 2 ≡ 0 = size_even c.kind in
    record {
      in_header = none_covered (drop (8 * 0) (encoded (change_at n f (cells l))));
      in_addresses =
          either_covered (without_addresses c.kind) n f (drop 7 (cells_in (ipv6 (plain 8)) ns)) (q + 8) 16 (encoded (change_at n f (cells l)))
          (ap (λ (x : List Cell). words_of 16 (drop (8 * (q + 8)) (encoded (change_at n f (a ++ (t ++ (y ++ (x ++ (os ++ ((cs ++ rs) ++ zs)))))))))) halves
          ∙ ap (λ (x : List Cell). words_of 16 (drop (8 * (q + 8)) (encoded (change_at n f x)))) (cut_half a t y gs ds (os ++ ((cs ++ rs) ++ zs)))
          ∙ part_words n f (front_of l ++ gs) ds (os ++ ((cs ++ rs) ++ zs)) (q + 8) 16
          (apart_by no_address (front_of l ++ gs) ds (all_append no_address (front_of l) gs (front_no_address l) (all_in no_address (take 7 (ipv6 (next_before es))) (take 7 ns) (ipv6_front_pass es))) (all_in (λ n. not (no_address n)) (drop 7 (ipv6 (next_before es))) (drop 7 ns) refl) n)
          (ap length (encoded-append (front_of l) gs) ∙ length-append (encoded (front_of l)) (encoded gs) ∙ omega arith) dw
          ∙ ap (λ (x : List Cell). words (change_at n f x)) (sym (drop_cells 7 (ipv6 (plain 8)) ns)));
      in_carried =
          ap (λ (x : List Cell). words_of (size_of c.kind / 2) (drop (8 * (q + (40 + all_bytes es))) (encoded (change_at n f x)))) (cut_last a t y hs os cs rs zs)
          ∙ part_words n f (front_of l ++ (hs ++ os)) cs (rs ++ zs) (q + (40 + all_bytes es)) (size_of c.kind / 2)
          (apart_by no_carried (front_of l ++ (hs ++ os)) cs (all_append no_carried (front_of l) (hs ++ os) (front_no_carried l) (all_append no_carried hs os (all_in no_carried (ipv6 (next_before es)) ns (ipv6_pass es)) (extensions_pass es))) (all_in (λ n. not (no_carried n)) (items_of c.kind) c.numbers (items_carried c.kind)) n)
          (ap length (encoded-append (front_of l) (hs ++ os)) ∙ length-append (encoded (front_of l)) (encoded (hs ++ os)) ∙ omega arith) (omega arith);
    }

covers_at : (ends : List ℕ) (tags : List (List ℕ)) (type : ℕ) (b : Body) → IsLayers (frame_with ends tags type b) → (n : ℕ) (f : ℕ → ℕ) → Covers (frame_with ends tags type b) n f
covers_at ends tags type (Ipv4 ns o c rest) h n f = covers_ipv4 ends tags type ns o c rest h n f
covers_at ends tags type (Ipv6 ns es c rest) h n f = covers_ipv6 ends tags type ns es c rest h n f
covers_at ends tags type other h n f = record { in_header = none_covered _; in_addresses = none_covered _; in_carried = none_covered _ }

pub covers : (l : Layers) → IsLayers l → (n : ℕ) (f : ℕ → ℕ) → Covers l n f
covers l h n f = covers_at l.ends l.tags l.type l.body h n f

-- ---- the same by where layers begin

pub change_id : (n : ℕ) (cs : List Cell) → change_at n (λ x. x) cs ≡ cs
change_id n [] = refl
change_id n (c ∷ cs) =
    elim (name_is n c.name) as (λ t. cond t (record c { value = c.value } ∷ cs) (c ∷ change_at n (λ x. x) cs) ≡ c ∷ cs) [
      | true ↦ refl
      | false ↦ ap (λ (x : List Cell). c ∷ x) (change_id n cs)
    ]

-- the checksums, where the bits of a frame with this layout were these and become those
abbrev pub renew_in : Layout → List ℕ → List ℕ → List Cell → List Cell
renew_in l old new cs =
    change_at checksum (λ c. carried_rule l.network c (carried_words l old) (carried_words l new))
    (change_at header_checksum (λ c. updated c (header_words l old) (header_words l new)) cs)

abbrev pub set_in_place : ℕ → ℕ → Layers → List Cell
set_in_place n v l = renew_in (layout_of l) (encoded (cells l)) (encoded (replace_at n v (cells l))) (replace_at n v (cells l))

rule_is_that : (b : Body) → checksum_rule b ≡ carried_rule (network_of b)
rule_is_that (Plain rest) = refl
rule_is_that other = refl

pub set_where : (n v : ℕ) (l : Layers) → IsLayers l → number_set n v l ≡ set_in_place n v l
unfolding number_set
set_where n v l h =
    let b : Body = l.body in
    let o : Covers l n (λ x. x) = covers l h n (λ x. x) in
    let w : Covers l n (λ x. v) = covers l h n (λ x. v) in
    let same : (cs : List Cell) → change_at n (λ x. x) cs ≡ cs = λ cs. change_id n cs in
    let q : ℕ = packet_at (layout_of l) in
    let old : (p : Span) (cs : List Cell) → words_in p (encoded (change_at n (λ x. x) (cells l))) ≡ words (change_at n (λ x. x) cs) → words cs ≡ words_in p (encoded (cells l)) =
    λ p cs e. sym (ap words (same cs)) ∙ sym e ∙ ap (λ (x : List Cell). words_in p (encoded x)) (same (cells l)) in
    let oh = old (header_span q (network_of b)) (header_cover b) o.in_header in
    let oa = old (address_span q (network_of b)) (address_cover b) o.in_addresses in
    let oc = old (carried_span q (network_of b)) (carried_cover b) o.in_carried in
    let nh = sym w.in_header in
    let na = sym w.in_addresses in
    let nc = sym w.in_carried in
    let rule = rule_is_that b in
    λ j. change_at checksum (λ c. rule j c (oa j ++ oc j) (na j ++ nc j)) (change_at header_checksum (λ c. updated c (oh j) (nh j)) (replace_at n v (cells l)))
