-- Where a number of layers is replaced, checksums that were right stay so.
use Rattle.std.proofs.Common.{◌≡◌, ◌≢◌, ℕ, zero, suc, ◌+◌, ◌-◌, ◌*◌, ◌/◌, ◌%◌, ◌^◌, ◌<◌, ◌≤◌, Bool, true, false, cond, List, [], ◌∷◌, ◌++◌, length, get_or, take, drop, sum, Option, Some, ◌⊎◌, inl, inr, refl, sym, ap, ◌∙◌, arith, subst, append_assoc, zero-add}
use Rattle.std.specs.Prelude.{◌==◌, ◌&&◌, ◌||◌, not, nat_lt}
use Rattle.std.proofs.{lemmas.List.length-append, lemmas.List.Sums.sum_by-cons, lemmas.List.Sums.sum_by-append, Math.Nat.mod-eq_of_lt, lemmas.Nat.pow_pos}
use Rattle.of_layers.specs.declared.transport.Transport.TheVariants.{Nothing, Tcp, Udp}
use Rattle.of_layers.specs.Layers.{Cell, Layers, Carried, Body, Plain, Ipv4, Ipv6, cells_in, byte_cells, cells, encoded, ipv4, ipv6, plain, items_of, size_of}
use Rattle.of_layers.specs.{declared.place.Place.Place, declared.transport.Transport.Transport, Bits.bits, Fields.row_of, Looking.name_is, Looking.look_up, Looking.locate_at}
use Rattle.of_layers.specs.WellFormed.{FitsItems, IsIpv4, IsLayers}
use Rattle.of_headers.{specs.Places.width, specs.Places.network_of, specs.Places.layout_of, proofs.LocateLemmas.width-append, proofs.LocateLemmas.width_bytes, proofs.LocateLemmas.locate_front}
use Rattle.of_rewrite.specs.Checksum.{fold, words_of, number_of_bits, differ, updated, never_zero, udp_updated, carried_updated, AreWords, sums_to_ones}
use Rattle.of_rewrite.specs.Rewriting.{change_at, words, without_addresses, header_cover, address_cover, carried_cover}
use Rattle.of_rewrite.proofs.Kept.{cut_at, cut_cells, cut_none, cut_layers, absent_by}
use Rattle.of_rewrite.proofs.Parts.{has, All, all_in, passes, change_none_in}
use Rattle.of_rewrite.proofs.Righting.{Ones, ones, folded, renewed_ones, never_zero_ones, differ_same, words_below, length_words, Split, split}
use Rattle.of_rewrite.proofs.Structure.{placed, located, wide, sound, sound_bytes, sound_append, items_total}
use Rattle.of_rewrite.specs.{Renewal.packet_at, Renewal.header_span, Renewal.address_span, Renewal.carried_span, Replaced.numbers_with, Replaced.tags_with, Replaced.body_with, Replaced.layers_with}
use Rattle.of_rewrite.{specs.Right.is_left_out, proofs.CoveredWords.words_in, proofs.Changes.renewed_below}
use Rattle.of_rewrite.proofs.{Covering.Covers, Covering.covers, Covering.change_id, Covering.drop_cells, Finding.Sound, Finding.Found, Finding.found, Finding.names_apart, Framing.encoded_bits}
use Rattle.of_rewrite.proofs.{KeptLayers.layers_kept, Narrow.some_is, Putting.bits_low, Standing.length_encoded}

-- ---- what is covered, where a number changes

encoded_cut : (n : ℕ) (f : ℕ → ℕ) (cs : List Cell) → encoded (cut_at n f cs) ≡ encoded (change_at n f cs)
encoded_cut n f [] = refl
encoded_cut n f (c ∷ cs) =
    elim (name_is n c.name) as (λ t. encoded (cond t (record c { value = f c.value % 2 ^ c.width } ∷ cs) (c ∷ cut_at n f cs)) ≡ encoded (cond t (record c { value = f c.value } ∷ cs) (c ∷ change_at n f cs))) [
      | true ↦ ap (λ (x : List ℕ). x ++ encoded cs) (bits_low c.width (f c.value))
      | false ↦ ap (λ (x : List ℕ). bits c.width c.value ++ x) (encoded_cut n f cs)
    ]

same_network : (n : ℕ) (f : ℕ → ℕ) (b : Body) → network_of (body_with n f b) ≡ network_of b
same_network n f (Plain rest) = refl
same_network n f other = refl

same_tags : (n : ℕ) (f : ℕ → ℕ) (ts : List (List ℕ)) → length (tags_with n f ts) ≡ length ts
same_tags n f [] = refl
same_tags n f (t ∷ ts) = refl

pub record CoversWith (n : ℕ) (f : ℕ → ℕ) (b : Body) : Type 0 where
  pub header : words (header_cover (body_with n f b)) ≡ words (change_at n f (header_cover b))
  pub addresses : words (address_cover (body_with n f b)) ≡ words (change_at n f (address_cover b))
  pub carried : words (carried_cover (body_with n f b)) ≡ words (change_at n f (carried_cover b))

pub covers_with : (n : ℕ) (f : ℕ → ℕ) (l : Layers) → n ≢ 5 → n ≢ 10 → IsLayers l → CoversWith n f l.body
covers_with n f l x y h =
    let m : Layers = layers_with n f l in
    let id : ℕ → ℕ = λ k. k in
    let o : Covers (layers_with n f l) n (λ k. k) = covers (layers_with n f l) (layers_kept n f l y h) n (λ k. k) in
    let w : Covers l n f = covers l h n f in
    let same : (cs : List Cell) → words (change_at n (λ k. k) cs) ≡ words cs = λ cs. ap words (change_id n cs) in
    let s : encoded (change_at n (λ k. k) (cells (layers_with n f l))) ≡ encoded (change_at n f (cells l)) = ap encoded (change_id n (cells m) ∙ sym (cut_layers n f l x y)) ∙ encoded_cut n f (cells l) in
    let q : packet_at (layout_of (layers_with n f l)) ≡ packet_at (layout_of l) = ap (λ (k : ℕ). 14 + 4 * k) (same_tags n f l.tags) in
    let net : network_of (body_with n f l.body) ≡ network_of l.body = same_network n f l.body in
    record {
      header = sym (same (header_cover (body_with n f l.body))) ∙ sym o.in_header ∙ (λ j. words_in (header_span (q j) (net j)) (s j)) ∙ w.in_header;
      addresses = sym (same (address_cover (body_with n f l.body))) ∙ sym o.in_addresses ∙ (λ j. words_in (address_span (q j) (net j)) (s j)) ∙ w.in_addresses;
      carried = sym (same (carried_cover (body_with n f l.body))) ∙ sym o.in_carried ∙ (λ j. words_in (carried_span (q j) (net j)) (s j)) ∙ w.in_carried;
    }

-- ---- numbers looked up

pub look_other : (m n : ℕ) (f : ℕ → ℕ) (cs : List Cell) → m ≢ n → look_up m (cut_at n f cs) ≡ look_up m cs
look_other m n f [] ne = refl
look_other m n f (c ∷ cs) ne =
    elim (name_is n c.name) as (λ t. name_is n c.name ≡ t → look_up m (cond t (record c { value = f c.value % 2 ^ c.width } ∷ cs) (c ∷ cut_at n f cs)) ≡ look_up m (c ∷ cs)) [
      | true ↦ λ t. let k : name_is m c.name ≡ false = names_apart m n c.name ne t in rw k refl
      | false ↦ λ t. ap (λ (x : Option ℕ). cond (name_is m c.name) (Some c.value) x) (look_other m n f cs ne)
    ] refl

look_cut : (n at first b v : ℕ) (f : ℕ → ℕ) (cs : List Cell) → locate_at at n cs ≡ Some (record { first = first; bits = b }) → look_up n cs ≡ Some v → look_up n (cut_at n f cs) ≡ Some (f v % 2 ^ b)
look_cut n at first b v f [] e l = absurd cc
look_cut n at first b v f (c ∷ cs) e l =
    elim (name_is n c.name) as (λ t. name_is n c.name ≡ t → cond t (Some (record { first = at; bits = c.width })) (locate_at (at + c.width) n cs) ≡ Some (record { first = first; bits = b }) → cond t (Some c.value) (look_up n cs) ≡ Some v →
    look_up n (cond t (record c { value = f c.value % 2 ^ c.width } ∷ cs) (c ∷ cut_at n f cs)) ≡ Some (f v % 2 ^ b)) [
      | true ↦ λ t p q. let w : c.width ≡ b = ap (λ (y : Place). y.bits) (some_is (record { first = at; bits = c.width }) (record { first = first; bits = b }) p) in let x : c.value ≡ v = cc in rw t (λ j. Some (f (x j) % 2 ^ w j))
      | false ↦ λ t p q. rw t (look_cut n (at + c.width) first b v f cs p q)
    ] refl e l

-- ---- the IPv4 header

pub header_same : (k : ℕ → ℕ) (ms o : List ℕ) → cells_in ipv4 (numbers_with 103 k ipv4 ms) ++ byte_cells o ≡ cells_in ipv4 ms ++ byte_cells o
unfolding row_of
header_same k ms o = ap (λ (x : List Cell). x ++ byte_cells o) (sym (cut_cells 103 k ipv4 ms) ∙ cut_none 103 k (cells_in ipv4 ms) (absent_by (λ n. not (n == 103)) 103 (cells_in ipv4 ms) (all_in (λ n. not (n == 103)) ipv4 ms refl) refl))

-- the place of the header's checksum among its words
header_split : (ns o : List ℕ) (c : Carried) (rest : List ℕ) (v : ℕ) → IsIpv4 ns o c rest → look_up 102 (cells_in ipv4 ns ++ byte_cells o) ≡ Some v → Split 102 (cells_in ipv4 ns ++ byte_cells o) v 5 (4 + length o / 2)
unfolding row_of
header_split ns o c rest v h e =
    let hs : List Cell = cells_in ipv4 ns in
    let w : width (cells_in ipv4 ns) ≡ 160 = wide ipv4 ns h.numbers in
    let even : 20 + length o ≡ 4 * get_or ns 1 0 = h.words in
    split 102 5 (4 + length o / 2) (hs ++ byte_cells o) v (sound_append hs (byte_cells o) (sound ipv4 ns h.numbers) (sound_bytes o h.options_fit))
    (locate_front 0 102 hs o ∙ located 0 102 ipv4 ns h.numbers)
    (length_encoded (hs ++ byte_cells o) ∙ width-append hs (byte_cells o) ∙ omega (arith, width_bytes o)) e

-- its first word is not 0: it begins with the version
record Begins (ws : List ℕ) : Type 0 where
  pub word : ℕ
  pub rest : List ℕ
  pub is : ws ≡ word ∷ rest
  pub some : 0 < word

begins_so : (n : ℕ) (s : List ℕ) → Begins (words_of (suc n) (0 ∷ 1 ∷ s))
unfolding words_of number_of_bits
begins_so n s =
    let p : 0 < 2 ^ length (take 14 s) = pow_pos (length (take 14 s)) in
    let e : number_of_bits (take 16 (0 ∷ 1 ∷ s)) ≡ 0 * 2 ^ length (1 ∷ take 14 s) + (1 * 2 ^ length (take 14 s) + number_of_bits (take 14 s)) = refl in
    record { word = number_of_bits (take 16 (0 ∷ 1 ∷ s)); rest = words_of n (drop 16 (0 ∷ 1 ∷ s)); is = refl; some = omega arith }

header_begins : (ns o : List ℕ) (c : Carried) (rest : List ℕ) → IsIpv4 ns o c rest → Begins (words (cells_in ipv4 ns ++ byte_cells o))
unfolding bits
header_begins [] o c rest h = absurd h.numbers
header_begins (x ∷ ns) o c rest h =
    let hs : List Cell = cells_in ipv4 (x ∷ ns) in
    let s : List ℕ = encoded (cells_in ipv4 (x ∷ ns) ++ byte_cells o) in
    let size : length (encoded (cells_in ipv4 (x ∷ ns) ++ byte_cells o)) ≡ 160 + 8 * length o = length_encoded (hs ++ byte_cells o) ∙ width-append hs (byte_cells o) ∙ omega (arith, wide ipv4 (x ∷ ns) h.numbers, width_bytes o) in
    let n : ℕ = length (encoded (cells_in ipv4 (x ∷ ns) ++ byte_cells o)) / 16 - 1 in
    let count : length (encoded (cells_in ipv4 (x ∷ ns) ++ byte_cells o)) / 16 ≡ suc n = omega arith in
    let four : bits 4 x ≡ bits 4 4 = ap (bits 4) h.version in
    let begins : encoded (cells_in ipv4 (x ∷ ns) ++ byte_cells o) ≡ 0 ∷ 1 ∷ 0 ∷ 0 ∷ drop 4 (encoded (cells_in ipv4 (x ∷ ns) ++ byte_cells o)) = λ j. four j ++ drop 4 (encoded (cells_in ipv4 (x ∷ ns) ++ byte_cells o)) in
    let b : Begins (words_of (suc n) (0 ∷ 1 ∷ 0 ∷ 0 ∷ drop 4 (encoded (cells_in ipv4 (x ∷ ns) ++ byte_cells o)))) = begins_so n (0 ∷ 0 ∷ drop 4 (encoded (cells_in ipv4 (x ∷ ns) ++ byte_cells o))) in
    record { word = b.word; rest = b.rest; is = (λ j. words_of (count j) (begins j)) ∙ b.is; some = b.some }

-- some word beside that of the checksum is not 0
others_some : (w : ℕ) (ws front back : List ℕ) (c : ℕ) → 0 < w → 0 < length front → w ∷ ws ≡ front ++ (c ∷ back) → 0 < sum (front ++ back)
others_some w ws [] back c h l e = absurd (omega arith)
others_some w ws (x ∷ front) back c h l e =
    let same : w ≡ x = ap (λ (s : List ℕ). get_or s 0 0) e in
    omega (arith, sum_by-cons (λ (k : ℕ). k) x (front ++ back))

without_one : (a b : List ℕ) (c : ℕ) → AreWords (a ++ (c ∷ b)) → AreWords (a ++ b)
without_one [] b c h i = h (suc i)
without_one (x ∷ a) b c h zero = h 0
without_one (x ∷ a) b c h (suc i) = without_one a b c (λ i. h (suc i)) i

-- the words of the header before and after, with its checksum v among them
pub record HeaderWords (old new : List Cell) (g : ℕ → ℕ) : Type 0 where
  pub v : ℕ
  pub a : List ℕ
  pub b : List ℕ
  pub x : List ℕ
  pub y : List ℕ
  pub small : v < 65536
  pub are : AreWords (a ++ b)
  pub front : length a ≡ length x
  pub back : length b ≡ length y
  pub many : 0 < length x
  pub before : words old ≡ a ++ (v ∷ b)
  pub between : words new ≡ x ++ (v ∷ y)
  pub after : words (change_at 102 g new) ≡ x ++ (g v ∷ y)
  pub rule : g v ≡ updated v (a ++ (v ∷ b)) (x ++ (v ∷ y))

pub header_words : (ns o ms p : List ℕ) (c d : Carried) (rest more : List ℕ) (g : ℕ → ℕ) → IsIpv4 ns o c rest → IsIpv4 ms p d more → length p ≡ length o → look_up 102 (cells_in ipv4 ms ++ byte_cells p) ≡ look_up 102 (cells_in ipv4 ns ++ byte_cells o) →
    ((x : ℕ) → g x ≡ updated x (words (cells_in ipv4 ns ++ byte_cells o)) (words (cells_in ipv4 ms ++ byte_cells p))) → HeaderWords (cells_in ipv4 ns ++ byte_cells o) (cells_in ipv4 ms ++ byte_cells p) g
unfolding row_of
header_words ns o ms p c d rest more g h i same_long same e =
    let old : List Cell = cells_in ipv4 ns ++ byte_cells o in
    let r : Found 102 0 (cells_in ipv4 ns ++ byte_cells o) (record { first = 80; bits = 16 }) = found 102 0 old (record { first = 80; bits = 16 }) (locate_front 0 102 (cells_in ipv4 ns) o ∙ located 0 102 ipv4 ns h.numbers) in
    let v : ℕ = r.value in
    let s : Split 102 (cells_in ipv4 ns ++ byte_cells o) v 5 (4 + length o / 2) = header_split ns o c rest v h r.look in
    let t : Split 102 (cells_in ipv4 ms ++ byte_cells p) v 5 (4 + length p / 2) = header_split ms p d more v i (same ∙ r.look) in
    let over_bits : g v ≡ updated v (s.front ++ (v ∷ s.back)) (t.front ++ (v ∷ t.back)) = e v ∙ (λ j. updated v (s.is j) (t.is j)) in
    let low : g v ≤ 65535 = subst (λ (k : ℕ). k ≤ 65535) (sym over_bits) (renewed_below v (s.front ++ (v ∷ s.back)) (t.front ++ (v ∷ t.back))) in
    record {
      v = v;
      a = s.front;
      b = s.back;
      x = t.front;
      y = t.back;
      small = r.small (sound_append (cells_in ipv4 ns) (byte_cells o) (sound ipv4 ns h.numbers) (sound_bytes o h.options_fit));
      are = without_one s.front s.back v (subst AreWords s.is (words_below (length (encoded old) / 16) (encoded old) (encoded_bits old)));
      front = s.front_long ∙ sym t.front_long;
      back = s.back_long ∙ ap (λ (k : ℕ). 4 + k / 2) (sym same_long) ∙ sym t.back_long;
      many = omega (arith, t.front_long);
      before = s.is;
      between = t.is;
      after = t.changed g ∙ ap (λ (k : ℕ). t.front ++ (k ∷ t.back)) (mod-eq_of_lt (omega arith));
      rule = over_bits;
    }

pub header_step : (ms p : List ℕ) (d : Carried) (more : List ℕ) (g : ℕ → ℕ) (old : List Cell) → IsIpv4 ms p d more → HeaderWords old (cells_in ipv4 ms ++ byte_cells p) g → sums_to_ones (words old) ≡ true → sums_to_ones (words (change_at 102 g (cells_in ipv4 ms ++ byte_cells p))) ≡ true
header_step ms p d more g old i w right =
    let new : List Cell = cells_in ipv4 ms ++ byte_cells p in
    let b : Begins (words (cells_in ipv4 ms ++ byte_cells p)) = header_begins ms p d more i in
    let some : 0 < sum (w.x ++ w.y) = others_some b.word b.rest w.x w.y w.v b.some w.many (sym b.is ∙ w.between) in
    let was : Ones (0 + sum (w.a ++ (w.v ∷ w.b))) = subst Ones (ap sum w.before ∙ sym (zero-add (sum (w.a ++ (w.v ∷ w.b))))) (ones (sum (words old)) right) in
    let now : Ones (0 + sum (w.x ++ (g w.v ∷ w.y))) = renewed_ones 0 w.v (g w.v) w.a w.b w.x w.y w.small w.are w.front w.back (omega arith) was w.rule in
    folded (sum (words (change_at 102 g new))) (subst Ones (sym (ap sum w.after ∙ sym (zero-add (sum (w.x ++ (g w.v ∷ w.y)))))) now)

-- ---- what an IP packet carries

or_right : (a b : Bool) → b ≡ true → (a || b) ≡ true
or_right true b h = refl
or_right false b h = h

or_left : (a b : Bool) → a ≡ true → (a || b) ≡ true
or_left true b h = refl
or_left false b h = absurd cc

or_false_left : (a b : Bool) → a ≡ false → (a || b) ≡ true → b ≡ true
or_false_left true b h e = absurd cc
or_false_left false b h e = e

and_none : (a : Bool) → (a && false) ≡ false
and_none true = refl
and_none false = refl

-- the sum of the words around the header of what is carried is m
abbrev RightAt : Bool → Transport → ℕ → ℕ → List ℕ → List ℕ → Type 0
RightAt lack t m c a b = ((lack && is_left_out t (Some c)) || (fold (m + sum (a ++ (c ∷ b))) == 65535)) ≡ true

plain_step : (lack : Bool) (t : Transport) (m c w : ℕ) (a b x y : List ℕ) → is_left_out t (Some c) ≡ false → c < 65536 → AreWords (a ++ b) → length a ≡ length x → length b ≡ length y → 0 < m + sum (x ++ y) →
    w ≡ updated c (a ++ (c ∷ b)) (x ++ (c ∷ y)) → RightAt lack t m c a b → RightAt lack t m w x y
plain_step lack t m c w a b x y none small are f g some e h =
    let right : (fold (m + sum (a ++ (c ∷ b))) == 65535) ≡ true = or_false_left (lack && is_left_out t (Some c)) (fold (m + sum (a ++ (c ∷ b))) == 65535) (ap (λ (k : Bool). lack && k) none ∙ and_none lack) h in
    let now : Ones (m + sum (x ++ (w ∷ y))) = renewed_ones m c w a b x y small are f g some (ones (m + sum (a ++ (c ∷ b))) right) e in
    or_right (lack && is_left_out t (Some w)) (fold (m + sum (x ++ (w ∷ y))) == 65535) (folded (m + sum (x ++ (w ∷ y))) now)

-- a UDP checksum that was computed
udp_done : (lack : Bool) (m c w : ℕ) (a b x y : List ℕ) → c < 65536 → AreWords (a ++ b) → length a ≡ length x → length b ≡ length y → 0 < m + sum (x ++ y) →
    (fold (m + sum (a ++ (c ∷ b))) == 65535) ≡ true → w ≡ cond (not (differ (a ++ (c ∷ b)) (x ++ (c ∷ y)))) c (never_zero (updated c (a ++ (c ∷ b)) (x ++ (c ∷ y)))) → RightAt lack Udp m w x y
udp_done lack m c w a b x y small are f g some right e =
    let l : length (a ++ (c ∷ b)) ≡ length (x ++ (c ∷ y)) = omega (arith, length-append a (c ∷ b), length-append x (c ∷ y)) in
    or_right (lack && is_left_out Udp (Some w)) (fold (m + sum (x ++ (w ∷ y))) == 65535)
    (elim (differ (a ++ (c ∷ b)) (x ++ (c ∷ y))) as (λ t. differ (a ++ (c ∷ b)) (x ++ (c ∷ y)) ≡ t → w ≡ cond (not t) c (never_zero (updated c (a ++ (c ∷ b)) (x ++ (c ∷ y)))) → (fold (m + sum (x ++ (w ∷ y))) == 65535) ≡ true) [
      | true ↦ λ d k.
          let n : ℕ = updated c (a ++ (c ∷ b)) (x ++ (c ∷ y)) in
          let now : Ones (m + sum (x ++ (updated c (a ++ (c ∷ b)) (x ++ (c ∷ y)) ∷ y))) = renewed_ones m c n a b x y small are f g some (ones (m + sum (a ++ (c ∷ b))) right) refl in
          folded (m + sum (x ++ (w ∷ y))) (subst (λ (z : ℕ). Ones (m + sum (x ++ (z ∷ y)))) (sym k) (never_zero_ones m n x y now))
      | false ↦ λ d k.
          let same : a ++ (c ∷ b) ≡ x ++ (c ∷ y) = differ_same (a ++ (c ∷ b)) (x ++ (c ∷ y)) l d in
          let all : m + sum (a ++ (c ∷ b)) ≡ m + sum (x ++ (w ∷ y)) = ap (λ (z : List ℕ). m + sum z) same ∙ ap (λ (z : ℕ). m + sum (x ++ (z ∷ y))) (sym k) in
          ap (λ (z : ℕ). fold z == 65535) (sym all) ∙ right
    ] refl e)

udp_step : (lack : Bool) (m c w : ℕ) (a b x y : List ℕ) → c < 65536 → AreWords (a ++ b) → length a ≡ length x → length b ≡ length y → 0 < m + sum (x ++ y) →
    w ≡ udp_updated lack c (a ++ (c ∷ b)) (x ++ (c ∷ y)) → RightAt lack Udp m c a b → RightAt lack Udp m w x y
udp_step lack m c w a b x y small are f g some e h =
    elim (lack && (c == 0)) as (λ t. (lack && (c == 0)) ≡ t → w ≡ cond (t || not (differ (a ++ (c ∷ b)) (x ++ (c ∷ y)))) c (never_zero (updated c (a ++ (c ∷ b)) (x ++ (c ∷ y)))) → (t || (fold (m + sum (a ++ (c ∷ b))) == 65535)) ≡ true → RightAt lack Udp m w x y) [
      | true ↦ λ z k right. or_left (lack && (w == 0)) (fold (m + sum (x ++ (w ∷ y))) == 65535) (ap (λ (n : ℕ). lack && (n == 0)) k ∙ z)
      | false ↦ λ z k right. udp_done lack m c w a b x y small are f g some right k
    ] refl e h

kind_step : (lack : Bool) (t : Transport) (m c w : ℕ) (a b x y : List ℕ) → c < 65536 → AreWords (a ++ b) → length a ≡ length x → length b ≡ length y → 0 < m + sum (x ++ y) →
    w ≡ carried_updated lack t c (a ++ (c ∷ b)) (x ++ (c ∷ y)) → RightAt lack t m c a b → RightAt lack t m w x y
kind_step lack Udp m c w a b x y small are f g some e h = udp_step lack m c w a b x y small are f g some e h
kind_step lack other m c w a b x y small are f g some e h = plain_step lack other m c w a b x y refl small are f g some e h

-- an updated checksum fits a word
either_low : (t : Bool) (a b : ℕ) → a < 65536 → b < 65536 → cond t a b < 65536
either_low true a b h k = h
either_low false a b h k = k

never_low : (k : ℕ) → k < 65536 → never_zero k < 65536
never_low k h = either_low (k == 0) 65535 k (omega arith) h

kind_low : (lack : Bool) (t : Transport) (c : ℕ) (old new : List ℕ) → c < 65536 → carried_updated lack t c old new < 65536
kind_low lack Udp c old new h = let r : updated c old new ≤ 65535 = renewed_below c old new in either_low ((lack && (c == 0)) || not (differ old new)) c (never_zero (updated c old new)) h (never_low (updated c old new) (omega arith))
kind_low lack other c old new h = let r : updated c old new ≤ 65535 = renewed_below c old new in omega arith

-- ---- one packet

pub words_long : (cs ds : List Cell) → length (encoded cs) ≡ length (encoded ds) → length (words cs) ≡ length (words ds)
words_long cs ds h = length_words (length (encoded cs) / 16) (encoded cs) ∙ ap (λ (k : ℕ). k / 16) h ∙ sym (length_words (length (encoded ds) / 16) (encoded ds))

pub are_words : (cs : List Cell) → AreWords (words cs)
are_words cs = words_below (length (encoded cs) / 16) (encoded cs) (encoded_bits cs)

words_append : (a b : List ℕ) → AreWords a → AreWords b → AreWords (a ++ b)
words_append [] b h k i = k i
words_append (x ∷ a) b h k zero = h 0
words_append (x ∷ a) b h k (suc i) = words_append a b (λ i. h (suc i)) k i

-- the words around and in the header of what is carried before and after, with its checksum c among them
pub record PacketWords (lack : Bool) (t : Transport) (ns ms p q : List ℕ) (k : ℕ → ℕ) : Type 0 where
  pub c : ℕ
  pub a : List ℕ
  pub b : List ℕ
  pub x : List ℕ
  pub y : List ℕ
  pub small : c < 65536
  pub are : AreWords (a ++ b)
  pub front : length a ≡ length x
  pub back : length b ≡ length y
  pub look : look_up 103 (cells_in (items_of t) ns) ≡ Some c
  pub looked : look_up 103 (cut_at 103 k (cells_in (items_of t) ms)) ≡ Some (k c)
  pub before : p ++ words (cells_in (items_of t) ns) ≡ a ++ (c ∷ b)
  pub after : q ++ words (change_at 103 k (cells_in (items_of t) ms)) ≡ x ++ (k c ∷ y)
  pub rule : k c ≡ carried_updated lack t c (a ++ (c ∷ b)) (x ++ (c ∷ y))

packet_words : (lack : Bool) (t : Transport) (ns ms p q : List ℕ) (k : ℕ → ℕ) (a m : ℕ) → FitsItems (items_of t) ns → FitsItems (items_of t) ms → placed 0 103 (items_of t) ≡ Some (record { first = 16 * a; bits = 16 }) → 8 * size_of t ≡ 16 * (a + (1 + m)) →
    look_up 103 (cells_in (items_of t) ms) ≡ look_up 103 (cells_in (items_of t) ns) → length p ≡ length q → AreWords p →
    ((z : ℕ) → k z ≡ carried_updated lack t z (p ++ words (cells_in (items_of t) ns)) (q ++ words (cells_in (items_of t) ms))) → PacketWords lack t ns ms p q k
packet_words lack t ns ms p q k a m fn fm at size same long are rule =
    let old : List Cell = cells_in (items_of t) ns in
    let new : List Cell = cells_in (items_of t) ms in
    let so : Sound (cells_in (items_of t) ns) = sound (items_of t) ns fn in
    let sn : Sound (cells_in (items_of t) ms) = sound (items_of t) ms fm in
    let eo : locate_at 0 103 (cells_in (items_of t) ns) ≡ Some (record { first = 16 * a; bits = 16 }) = located 0 103 (items_of t) ns fn ∙ at in
    let en : locate_at 0 103 (cells_in (items_of t) ms) ≡ Some (record { first = 16 * a; bits = 16 }) = located 0 103 (items_of t) ms fm ∙ at in
    let lo : length (encoded (cells_in (items_of t) ns)) ≡ 16 * (a + (1 + m)) = length_encoded old ∙ wide (items_of t) ns fn ∙ items_total t ∙ size in
    let ln : length (encoded (cells_in (items_of t) ms)) ≡ 16 * (a + (1 + m)) = length_encoded new ∙ wide (items_of t) ms fm ∙ items_total t ∙ size in
    let r : Found 103 0 (cells_in (items_of t) ns) (record { first = 16 * a; bits = 16 }) = found 103 0 old (record { first = 16 * a; bits = 16 }) eo in
    let v : ℕ = r.value in
    let small : r.value < 65536 = r.small so in
    let x : Split 103 (cells_in (items_of t) ns) r.value a m = split 103 a m old r.value so eo lo r.look in
    let y : Split 103 (cells_in (items_of t) ms) r.value a m = split 103 a m new r.value sn en ln (same ∙ r.look) in
    let before : p ++ words (cells_in (items_of t) ns) ≡ (p ++ x.front) ++ (v ∷ x.back) = ap (λ (z : List ℕ). p ++ z) x.is ∙ sym (append_assoc p x.front (v ∷ x.back)) in
    let over_bits : k v ≡ carried_updated lack t v ((p ++ x.front) ++ (v ∷ x.back)) ((q ++ y.front) ++ (v ∷ y.back)) =
    rule v ∙ (λ j. carried_updated lack t v (before j) ((ap (λ (z : List ℕ). q ++ z) y.is ∙ sym (append_assoc q y.front (v ∷ y.back))) j)) in
    let low : k v < 65536 = subst (λ (z : ℕ). z < 65536) (sym over_bits) (kind_low lack t v ((p ++ x.front) ++ (v ∷ x.back)) ((q ++ y.front) ++ (v ∷ y.back)) small) in
    let whole : words (change_at 103 k (cells_in (items_of t) ms)) ≡ y.front ++ (k v ∷ y.back) = y.changed k ∙ ap (λ (z : ℕ). y.front ++ (z ∷ y.back)) (mod-eq_of_lt low) in
    record {
      c = v;
      a = p ++ x.front;
      b = x.back;
      x = q ++ y.front;
      y = y.back;
      small = small;
      are = without_one (p ++ x.front) x.back v (subst AreWords (sym (append_assoc p x.front (v ∷ x.back))) (words_append p (x.front ++ (v ∷ x.back)) are (subst AreWords x.is (are_words old))));
      front = omega (arith, length-append p x.front, length-append q y.front, x.front_long, y.front_long, long);
      back = x.back_long ∙ sym y.back_long;
      look = r.look;
      looked = look_cut 103 0 (16 * a) 16 v k new en (same ∙ r.look) ∙ ap (λ (z : ℕ). Some z) (mod-eq_of_lt low);
      before = before;
      after = ap (λ (z : List ℕ). q ++ z) whole ∙ sym (append_assoc q y.front (k v ∷ y.back));
      rule = over_bits;
    }

-- for each kind: what is carried may be nothing that has a checksum
pub kinds_words : (lack : Bool) (t : Transport) (ns ms p q : List ℕ) (k : ℕ → ℕ) → FitsItems (items_of t) ns → FitsItems (items_of t) ms →
    look_up 103 (cells_in (items_of t) ms) ≡ look_up 103 (cells_in (items_of t) ns) → length p ≡ length q → AreWords p →
    ((z : ℕ) → k z ≡ carried_updated lack t z (p ++ words (cells_in (items_of t) ns)) (q ++ words (cells_in (items_of t) ms))) → (t ≡ Nothing) ⊎ PacketWords lack t ns ms p q k
unfolding row_of
kinds_words lack Nothing ns ms p q k fn fm same long are rule = inl refl
kinds_words lack Tcp ns ms p q k fn fm same long are rule = inr (packet_words lack Tcp ns ms p q k 8 1 fn fm refl refl same long are rule)
kinds_words lack Udp ns ms p q k fn fm same long are rule = inr (packet_words lack Udp ns ms p q k 3 0 fn fm refl refl same long are rule)
kinds_words lack other ns ms p q k fn fm same long are rule = inr (packet_words lack other ns ms p q k 1 0 fn fm refl refl same long are rule)

-- what is carried and has no checksum has no words
pub nothing_carried : (t : Transport) (ns ms p q : List ℕ) (k : ℕ → ℕ) → t ≡ Nothing → (t ≡ Nothing → p ≡ q) → q ++ words (change_at 103 k (cells_in (items_of t) ms)) ≡ p ++ words (cells_in (items_of t) ns)
nothing_carried Nothing ns ms p q k is none = ap (λ (z : List ℕ). z ++ words []) (sym (none refl))
nothing_carried other ns ms p q k is none = absurd cc

pub never_left_out : (t : Transport) (o o' : Option ℕ) → t ≡ Nothing → is_left_out t o ≡ is_left_out t o'
never_left_out t o o' is = (λ j. is_left_out (is j) o) ∙ sym (λ j. is_left_out (is j) o')

pub sum_more : (more s t : List ℕ) → s ≡ t → sum (more ++ s) ≡ sum more + sum t
sum_more more s t e = sum_by-append (λ (k : ℕ). k) more s ∙ ap (λ (z : List ℕ). sum more + sum z) e

pub kinds_step : (lack : Bool) (t : Transport) (ns ms p q more : List ℕ) (k : ℕ → ℕ) → (t ≡ Nothing → p ≡ q) → 0 < sum more → (t ≡ Nothing) ⊎ PacketWords lack t ns ms p q k →
    ((lack && is_left_out t (look_up 103 (cells_in (items_of t) ns))) || sums_to_ones (more ++ (p ++ words (cells_in (items_of t) ns)))) ≡ true →
    ((lack && is_left_out t (look_up 103 (cut_at 103 k (cells_in (items_of t) ms)))) || sums_to_ones (more ++ (q ++ words (change_at 103 k (cells_in (items_of t) ms))))) ≡ true
kinds_step lack t ns ms p q more k none some (inl is) h =
    (λ j. (lack && never_left_out t (look_up 103 (cut_at 103 k (cells_in (items_of t) ms))) (look_up 103 (cells_in (items_of t) ns)) is j) || sums_to_ones (more ++ nothing_carried t ns ms p q k is none j)) ∙ h
kinds_step lack t ns ms p q more k none some (inr w) h =
    let was : RightAt lack t (sum more) w.c w.a w.b = (λ j. (lack && is_left_out t (sym w.look j)) || (fold (sym (sum_more more (p ++ words (cells_in (items_of t) ns)) (w.a ++ (w.c ∷ w.b)) w.before) j) == 65535)) ∙ h in
    let now : RightAt lack t (sum more) (k w.c) w.x w.y = kind_step lack t (sum more) w.c (k w.c) w.a w.b w.x w.y w.small w.are w.front w.back (omega arith) w.rule was in
    (λ j. (lack && is_left_out t (w.looked j)) || (fold (sum_more more (q ++ words (change_at 103 k (cells_in (items_of t) ms))) (w.x ++ (k w.c ∷ w.y)) w.after j) == 65535)) ∙ now

-- ---- numbers that do not occur

below_100 : (k : ℕ) (cs : List Cell) → All (λ n. nat_lt n 100) cs → nat_lt k 100 ≡ false → has k cs ≡ false
below_100 k cs h e = absent_by (λ n. nat_lt n 100) k cs h e

ipv4_addresses : (k : ℕ) (ns : List ℕ) → nat_lt k 100 ≡ false → has k (drop 11 (cells_in ipv4 ns)) ≡ false
unfolding row_of
ipv4_addresses k ns e = ap (has k) (drop_cells 11 ipv4 ns) ∙ below_100 k (cells_in (drop 11 ipv4) (drop 11 ns)) (all_in (λ n. nat_lt n 100) (drop 11 ipv4) (drop 11 ns) refl) e

ipv6_addresses : (k : ℕ) (ns : List ℕ) → nat_lt k 100 ≡ false → has k (drop 7 (cells_in (ipv6 (plain 8)) ns)) ≡ false
unfolding row_of
ipv6_addresses k ns e = ap (has k) (drop_cells 7 (ipv6 (plain 8)) ns) ∙ below_100 k (cells_in (drop 7 (ipv6 (plain 8))) (drop 7 ns)) (all_in (λ n. nat_lt n 100) (drop 7 (ipv6 (plain 8))) (drop 7 ns) refl) e

either_absent : (t : Bool) (k : ℕ) (cs : List Cell) → has k cs ≡ false → has k (cond t [] cs) ≡ false
either_absent true k cs h = refl
either_absent false k cs h = h

addresses_absent : (k : ℕ) (b : Body) → nat_lt k 100 ≡ false → has k (address_cover b) ≡ false
addresses_absent k (Ipv4 ns o c rest) e = either_absent (without_addresses c.kind) k (drop 11 (cells_in ipv4 ns)) (ipv4_addresses k ns e)
addresses_absent k (Ipv6 ns es c rest) e = either_absent (without_addresses c.kind) k (drop 7 (cells_in (ipv6 (plain 8)) ns)) (ipv6_addresses k ns e)
addresses_absent k other e = refl

pub addresses_kept : (k : ℕ) (f : ℕ → ℕ) (b : Body) → nat_lt k 100 ≡ false → words (change_at k f (address_cover b)) ≡ words (address_cover b)
addresses_kept k f b e = ap words (change_none_in k f (address_cover b) (addresses_absent k b e))

not_102 : (t : Transport) → passes (λ n. not (n == 102)) (items_of t) ≡ true
unfolding row_of
not_102 t = elim t as (λ t. passes (λ n. not (n == 102)) (items_of t) ≡ true) [ Nothing ↦ refl | _ ↦ refl ]

pub no_header_checksum : (t : Transport) (g : ℕ → ℕ) (ns : List ℕ) → cells_in (items_of t) (numbers_with 102 g (items_of t) ns) ≡ cells_in (items_of t) ns
no_header_checksum t g ns = sym (cut_cells 102 g (items_of t) ns) ∙ cut_none 102 g (cells_in (items_of t) ns) (absent_by (λ n. not (n == 102)) 102 (cells_in (items_of t) ns) (all_in (λ n. not (n == 102)) (items_of t) ns (not_102 t)) refl)
