-- Where the layers of a frame begin, and which words are whole.
use Rattle.std.proofs.Common.{◌≡◌, ℕ, suc, ◌+◌, ◌*◌, ◌%◌, true, false, cond, List, [], ◌∷◌, ◌++◌, length, Option, Some, None, refl, sym, ap, ◌∙◌, arith, slice_index, subst}
use Rattle.std.specs.{Prelude.◌==◌, Prelude.if◌then◌else◌, Option.option_or}
use Rattle.of_layers.specs.Layers.{Item, Cell, Carried, Extension, Options, Fragment, Body, Ipv4, Ipv6, cells_in, byte_cells, inner_cells, tag_cells, extension_cells, carried_cells, body_cells, outer_tag, inner_tag, ipv4, ipv6, options, fragment, items_of, size_of, all_bytes, next_before}
use Rattle.of_layers.specs.WellFormed.{AreBytes, FitsItems, AreTags, IsIpv4, IsIpv6, AreExtensions}
use Rattle.of_layers.specs.{declared.place.Place.Place, declared.transport.Transport.Transport, declared.transport.Transport.TheVariants.Nothing, Looking.name_is, Looking.locate_at}
use Rattle.of_layers.proofs.FrontLemmas.{total}
use Rattle.of_headers.proofs.LocateLemmas.{locate-append, locate_bytes, locate_front, locate_behind, width-append, width_bytes}
use Rattle.of_headers.specs.Places.{width}
use Rattle.of_rewrite.proofs.Finding.{Sound}

-- ---- formats

-- the place of a name in a format
abbrev pub placed : ℕ → ℕ → List Item → Option Place
placed at n [] = None
placed at n (i ∷ is) = if name_is n i.name then Some (record { first = at; bits = i.width }) else placed (at + i.width) n is

pub located : (at n : ℕ) (is : List Item) (ns : List ℕ) → FitsItems is ns → locate_at at n (cells_in is ns) ≡ placed at n is
located at n [] [] h = refl
located at n [] (m ∷ ns) h = absurd h
located at n (i ∷ is) [] h = absurd h
located at n (i ∷ is) (m ∷ ns) h = ap (λ (x : Option Place). cond (name_is n i.name) (Some (record { first = at; bits = i.width })) x) (located (at + i.width) n is ns h.1)

pub wide : (is : List Item) (ns : List ℕ) → FitsItems is ns → width (cells_in is ns) ≡ total is
wide [] [] h = refl
wide [] (m ∷ ns) h = absurd h
wide (i ∷ is) [] h = absurd h
wide (i ∷ is) (m ∷ ns) h = ap (λ (k : ℕ). i.width + k) (wide is ns h.1)

pub sound : (is : List Item) (ns : List ℕ) → FitsItems is ns → Sound (cells_in is ns)
sound [] [] h = tt
sound [] (m ∷ ns) h = absurd h
sound (i ∷ is) [] h = absurd h
sound (i ∷ is) (m ∷ ns) h = (h.0, sound is ns h.1)

pub sound_bytes : (s : List ℕ) → AreBytes s → Sound (byte_cells s)
sound_bytes [] h = tt
sound_bytes (b ∷ s) h = (h 0, sound_bytes s (λ i. h (suc i)))

pub sound_append : (a b : List Cell) → Sound a → Sound b → Sound (a ++ b)
sound_append [] b h k = k
sound_append (c ∷ a) b h k = (h.0, sound_append a b h.1 k)

pub outer_fits : (t : List ℕ) → FitsItems inner_tag t → FitsItems outer_tag t
outer_fits [] h = h
outer_fits (a ∷ []) h = h
outer_fits (a ∷ b ∷ []) h = h
outer_fits (a ∷ b ∷ c ∷ []) h = h
outer_fits (a ∷ b ∷ c ∷ d ∷ []) h = h
outer_fits (a ∷ b ∷ c ∷ d ∷ e ∷ r) h = h

-- ---- parts: how many bits they have, that their numbers are within their bits, and what they do not name

pub record Part (cs : List Cell) (bits_in : ℕ) (m : ℕ) : Type 0 where
  pub is_wide : width cs ≡ bits_in
  pub is_sound : Sound cs
  pub none : (at : ℕ) → locate_at at m cs ≡ None

inner_part : (m : ℕ) (ts : List (List ℕ)) → ((at : ℕ) → placed at m inner_tag ≡ None) → AreTags ts → Part (inner_cells ts) (32 * length ts) m
inner_part m [] l h = record { is_wide = refl; is_sound = tt; none = λ at. refl }
inner_part m (t ∷ ts) l h =
    let r = inner_part m ts l h.2 in
    record {
      is_wide = width-append (cells_in inner_tag t) (inner_cells ts) ∙ omega (arith, wide inner_tag t h.0, r.is_wide);
      is_sound = sound_append (cells_in inner_tag t) (inner_cells ts) (sound inner_tag t h.0) r.is_sound;
      none = λ at. locate-append at m (cells_in inner_tag t) (inner_cells ts) ∙ (λ j. option_or ((located at m inner_tag t h.0 ∙ l at) j) (r.none (at + width (cells_in inner_tag t)) j));
    }

pub tags_part : (m : ℕ) (ts : List (List ℕ)) → ((at : ℕ) → placed at m inner_tag ≡ None) → ((at : ℕ) → placed at m outer_tag ≡ None) → AreTags ts → Part (tag_cells ts) (32 * length ts) m
tags_part m [] l k h = record { is_wide = refl; is_sound = tt; none = λ at. refl }
tags_part m (t ∷ ts) l k h =
    let r = inner_part m ts l h.2 in
    let f = outer_fits t h.0 in
    record {
      is_wide = width-append (cells_in outer_tag t) (inner_cells ts) ∙ omega (arith, wide outer_tag t f, r.is_wide);
      is_sound = sound_append (cells_in outer_tag t) (inner_cells ts) (sound outer_tag t f) r.is_sound;
      none = λ at. locate-append at m (cells_in outer_tag t) (inner_cells ts) ∙ (λ j. option_or ((located at m outer_tag t f ∙ k at) j) (r.none (at + width (cells_in outer_tag t)) j));
    }

-- extension headers, and what follows them
pub record Chained (es : List Extension) (c : Carried) (m : ℕ) : Type 0 where
  pub part : Part (extension_cells es) (8 * all_bytes es) m
  pub even : all_bytes es % 8 ≡ 0
  pub fits : FitsItems (items_of c.kind) c.numbers
  pub rest : AreBytes c.rest

-- the format of an extension header lacks a name
abbrev pub NoExtension : ℕ → Type 0
NoExtension m = (es : List Extension) (at : ℕ) → (placed at m (options (next_before es)) ≡ None) × (placed at m (fragment (next_before es)) ≡ None)

options_total : (es : List Extension) → total (options (next_before es)) ≡ 16
options_total [] = refl
options_total (e ∷ es) = refl

fragment_total : (es : List Extension) → total (fragment (next_before es)) ≡ 64
fragment_total [] = refl
fragment_total (e ∷ es) = refl

pub ipv6_total : (es : List Extension) → total (ipv6 (next_before es)) ≡ 320
ipv6_total [] = refl
ipv6_total (e ∷ es) = refl

pub chained : (m : ℕ) → NoExtension m → (kind : ℕ) (es : List Extension) (c : Carried) → AreExtensions kind es c → Chained es c m
chained m l kind [] c h = record { part = record { is_wide = refl; is_sound = tt; none = λ at. refl }; even = refl; fits = h.0.numbers; rest = h.0.rest }
chained m l kind (Options ns bytes ∷ es) c h =
    let r = chained m l _ es c h.4 in
    let p = r.part in
    let items = options (next_before es) in
    let tail : width (byte_cells bytes ++ extension_cells es) ≡ 8 * length bytes + 8 * all_bytes es = width-append (byte_cells bytes) (extension_cells es) ∙ omega (arith, width_bytes bytes, p.is_wide) in
    let head : width (cells_in (options (next_before es)) ns) ≡ total (options (next_before es)) = wide (options (next_before es)) ns h.1 in
    record {
      part = record {
        is_wide = width-append (cells_in (options (next_before es)) ns) (byte_cells bytes ++ extension_cells es) ∙ omega (arith, head, tail, options_total es);
        is_sound = sound_append (cells_in (options (next_before es)) ns) (byte_cells bytes ++ extension_cells es) (sound (options (next_before es)) ns h.1) (sound_append (byte_cells bytes) (extension_cells es) (sound_bytes bytes h.3) p.is_sound);
        none = λ at.
            locate-append at m (cells_in (options (next_before es)) ns) (byte_cells bytes ++ extension_cells es)
            ∙ (λ j. option_or ((located at m (options (next_before es)) ns h.1 ∙ (l es at).0) j) (locate-append (at + width (cells_in (options (next_before es)) ns)) m (byte_cells bytes) (extension_cells es) j))
            ∙ (λ j. option_or (locate_bytes (at + width (cells_in (options (next_before es)) ns)) m bytes j) (p.none (at + width (cells_in (options (next_before es)) ns) + width (byte_cells bytes)) j));
      };
      even = omega (arith, r.even, h.2);
      fits = r.fits;
      rest = r.rest;
    }
chained m l kind (Fragment ns ∷ es) c h =
    let r : Chained es c m = elim (slice_index ns 2 == 0) as (λ t. (slice_index ns 2 == 0) ≡ t → Chained es c m) [
      | true ↦ λ z. chained m l (slice_index ns 0) es c (h.2 z)
      | false ↦ λ z. let q = h.3 z in subst (λ (x : List Extension). Chained x c m) (sym q.0) (record { part = record { is_wide = refl; is_sound = tt; none = λ at. refl }; even = refl; fits = q.1.numbers; rest = q.1.rest })
    ] refl in
    let p = r.part in
    let head : width (cells_in (fragment (next_before es)) ns) ≡ total (fragment (next_before es)) = wide (fragment (next_before es)) ns h.1 in
    record {
      part = record {
        is_wide = width-append (cells_in (fragment (next_before es)) ns) (extension_cells es) ∙ omega (arith, head, p.is_wide, fragment_total es);
        is_sound = sound_append (cells_in (fragment (next_before es)) ns) (extension_cells es) (sound (fragment (next_before es)) ns h.1) p.is_sound;
        none = λ at.
            locate-append at m (cells_in (fragment (next_before es)) ns) (extension_cells es)
            ∙ (λ j. option_or ((located at m (fragment (next_before es)) ns h.1 ∙ (l es at).1) j) (p.none (at + width (cells_in (fragment (next_before es)) ns)) j));
      };
      even = omega (arith, r.even);
      fits = r.fits;
      rest = r.rest;
    }

-- ---- what an IP packet carries, with bytes after it

pub items_total : (k : Transport) → total (items_of k) ≡ 8 * size_of k
items_total k = elim k as (λ k. total (items_of k) ≡ 8 * size_of k) [ Nothing ↦ refl | _ ↦ refl ]

pub record Ended (c : Carried) (rest : List ℕ) (m : ℕ) : Type 0 where
  pub is_wide : width (carried_cells c ++ byte_cells rest) ≡ 8 * size_of c.kind + 8 * length c.rest + 8 * length rest
  pub is_sound : Sound (carried_cells c ++ byte_cells rest)
  pub there : (at : ℕ) → locate_at at m (carried_cells c ++ byte_cells rest) ≡ placed at m (items_of c.kind)

pub ended : (c : Carried) (rest : List ℕ) (m : ℕ) → FitsItems (items_of c.kind) c.numbers → AreBytes c.rest → AreBytes rest → Ended c rest m
ended c rest m f a b =
    let items : List Cell = cells_in (items_of c.kind) c.numbers in
    let w : width (cells_in (items_of c.kind) c.numbers) ≡ 8 * size_of c.kind = wide (items_of c.kind) c.numbers f ∙ items_total c.kind in
    record {
      is_wide = width-append (carried_cells c) (byte_cells rest) ∙ omega (arith, width-append (cells_in (items_of c.kind) c.numbers) (byte_cells c.rest), w, width_bytes c.rest, width_bytes rest);
      is_sound = sound_append (carried_cells c) (byte_cells rest) (sound_append items (byte_cells c.rest) (sound (items_of c.kind) c.numbers f) (sound_bytes c.rest a)) (sound_bytes rest b);
      there = λ at. locate_front at m (carried_cells c) rest ∙ locate_front at m items c.rest ∙ located at m (items_of c.kind) c.numbers f;
    }

-- ---- bodies

pub record Ipv4Stands (o : List ℕ) (c : Carried) (rest : List ℕ) (m : ℕ) (b : Body) : Type 0 where
  pub is_wide : width (body_cells b) ≡ 160 + 8 * length o + 8 * size_of c.kind + 8 * length c.rest + 8 * length rest
  pub is_sound : Sound (body_cells b)
  pub there : (at : ℕ) → locate_at at m (body_cells b) ≡ option_or (placed at m ipv4) (placed (at + 160 + 8 * length o) m (items_of c.kind))

pub ipv4_stands : (ns o : List ℕ) (c : Carried) (rest : List ℕ) (m : ℕ) → IsIpv4 ns o c rest → Ipv4Stands o c rest m (Ipv4 ns o c rest)
ipv4_stands ns o c rest m h =
    let r : Ended c rest m = ended c rest m h.carries.numbers h.carries.rest h.rest_fits in
    let w : width (cells_in ipv4 ns) ≡ 160 = wide ipv4 ns h.numbers in
    let tail : List Cell = carried_cells c ++ byte_cells rest in
    let e : (at : ℕ) → at + width (cells_in ipv4 ns) + 8 * length o ≡ at + 160 + 8 * length o = λ at. omega (arith, w) in
    record {
      is_wide = width-append (cells_in ipv4 ns) (byte_cells o ++ tail) ∙ omega (arith, w, width-append (byte_cells o) tail, width_bytes o, r.is_wide);
      is_sound = sound_append (cells_in ipv4 ns) (byte_cells o ++ tail) (sound ipv4 ns h.numbers) (sound_append (byte_cells o) tail (sound_bytes o h.options_fit) r.is_sound);
      there = λ at. locate-append at m (cells_in ipv4 ns) (byte_cells o ++ tail)
          ∙ (λ j. option_or (located at m ipv4 ns h.numbers j) ((locate_behind (at + width (cells_in ipv4 ns)) m o tail ∙ r.there (at + width (cells_in ipv4 ns) + 8 * length o) ∙ ap (λ (k : ℕ). placed k m (items_of c.kind)) (e at)) j));
    }

pub record Ipv6Stands (es : List Extension) (c : Carried) (rest : List ℕ) (m : ℕ) (b : Body) : Type 0 where
  pub is_wide : width (body_cells b) ≡ 320 + 8 * all_bytes es + 8 * size_of c.kind + 8 * length c.rest + 8 * length rest
  pub is_sound : Sound (body_cells b)
  pub even : all_bytes es % 8 ≡ 0
  pub there : (at : ℕ) → locate_at at m (body_cells b) ≡ option_or (placed at m (ipv6 (next_before es))) (placed (at + 320 + 8 * all_bytes es) m (items_of c.kind))

pub ipv6_stands : (ns : List ℕ) (es : List Extension) (c : Carried) (rest : List ℕ) (m : ℕ) → NoExtension m → IsIpv6 ns es c rest → Ipv6Stands es c rest m (Ipv6 ns es c rest)
ipv6_stands ns es c rest m l h =
    let q : Chained es c m = chained m l _ es c h.chain in
    let p = q.part in
    let r : Ended c rest m = ended c rest m q.fits q.rest h.rest_fits in
    let head : List Cell = cells_in (ipv6 (next_before es)) ns in
    let w : width (cells_in (ipv6 (next_before es)) ns) ≡ 320 = wide (ipv6 (next_before es)) ns h.numbers ∙ ipv6_total es in
    let tail : List Cell = carried_cells c ++ byte_cells rest in
    let e : (at : ℕ) → at + width (cells_in (ipv6 (next_before es)) ns) + width (extension_cells es) ≡ at + 320 + 8 * all_bytes es = λ at. omega (arith, w, p.is_wide) in
    record {
      is_wide = width-append head (extension_cells es ++ tail) ∙ omega (arith, w, width-append (extension_cells es) tail, p.is_wide, r.is_wide);
      is_sound = sound_append head (extension_cells es ++ tail) (sound (ipv6 (next_before es)) ns h.numbers) (sound_append (extension_cells es) tail p.is_sound r.is_sound);
      even = q.even;
      there = λ at. locate-append at m head (extension_cells es ++ tail)
          ∙ (λ j. option_or (located at m (ipv6 (next_before es)) ns h.numbers j) ((locate-append (at + width head) m (extension_cells es) tail
          ∙ (λ i. option_or (p.none (at + width head) i) (r.there (at + width head + width (extension_cells es)) i)) ∙ ap (λ (k : ℕ). placed k m (items_of c.kind)) (e at)) j));
    }
