-- Checksums that followed are those that are updated.
use Rattle.std.proofs.Common.{◌≡◌, ℕ, zero, suc, ◌+◌, ◌*◌, ◌/◌, ◌%◌, ◌^◌, ◌<◌, ◌≤◌, ◌≢◌, Bool, true, false, cond, List, ◌∷◌, ◌++◌, length, take, drop, set, subst, Option, Some, None, refl, sym, ap, ◌∙◌, arith}
use Rattle.std.proofs.lemmas.List.{append-nil, take_at, drop_at, length-take-le, take-append-drop, drop-drop}
use Rattle.std.{specs.Prelude.◌==◌, specs.Prelude.◌&&◌, specs.Prelude.◌||◌, specs.Prelude.not, proofs.Math.ListN.length-set, proofs.lemmas.Nat.mod-pow-add, proofs.Math.Nat.mod-eq_of_lt}
use Rattle.of_layers.specs.declared.transport.Transport.TheVariants.{Nothing, Udp}
use Rattle.of_layers.specs.Layers.{Cell, Layers, cells, encoded, size_of}
use Rattle.of_layers.specs.{declared.place.Place.Place, declared.transport.Transport.Transport, Bits.bits, Bits.bits_of, Looking.look_up, Looking.locate_at, Reading.word, WellFormed.AreBytes}
use Rattle.of_layers.proofs.{BitLemmas.length-bits, BitLemmas.length-bits_of, BitLemmas.bits_of-append, EncodingLemmas.word_from}
use Rattle.of_headers.specs.{declared.layout.Layout.Layout, declared.layout.Network.Network, Places.layout_of}
use Rattle.of_headers.specs.declared.layout.Network.TheVariants as network
use Rattle.of_rewrite.specs.Checksum.{number_of_bits, words_of, differ, updated, never_zero, carried_updated}
use Rattle.of_rewrite.specs.Spans.{over_bits, words_at, span_words, covered_words, both_followed, AreEven}
use Rattle.of_rewrite.specs.Renewal.{checksum_byte, word_or_zero, moved, header_checksum_at, carried_at, sums_of, settled, settled_in, written_at, with_header, with_carried, HasRoomIn, HasRoom, no_words, packet_at, header_span, address_span, carried_span}
use Rattle.of_rewrite.proofs.Finding.{Sound, Found, found, not_found, put_changed, others, word_put, word_found, bytes_with_word}
use Rattle.of_rewrite.specs.{declared.sums.Span.Span, declared.sums.Sum.Sum, declared.sums.Sums.Sums, Rewriting.change_at, Rewriting.replace_at, Rewriting.without_addresses, Replaced.Replaceable}
use Rattle.of_rewrite.proofs.{CoveredWords.words_in, CoveredWords.header_words, CoveredWords.carried_words, CoveredWords.carried_rule, Changes.renewed_below, Covering.set_in_place}
use Rattle.of_rewrite.proofs.Standing.{number_place, Stands, IsEvenIn}

-- ---- words of bits and of bytes

pub number-bits : (n v : ℕ) → number_of_bits (bits n v) ≡ v % 2 ^ n
unfolding bits number_of_bits
number-bits zero v = omega arith
number-bits (suc n) v =
    let a : v % 2 ^ (1 + n) ≡ (v / 2 ^ n % 2 ^ 1) * 2 ^ n + v % 2 ^ n = mod-pow-add v 1 n in
    let b : 1 + n ≡ suc n = omega arith in
    let l : length (bits n v) ≡ n = length-bits n v in
    rw (l, number-bits n v) (sym (rw b at a))

drop_bits : (i : ℕ) (s : List ℕ) → i ≤ length s → drop (8 * i) (bits_of s) ≡ bits_of (drop i s)
drop_bits i s h =
    let l : length (bits_of (take i s)) ≡ 8 * i = length-bits_of (take i s) ∙ (let k : length (take i s) ≡ i = length-take-le i s h in rw k refl) in
    ap (λ (t : List ℕ). drop (8 * i) (bits_of t)) (sym (take-append-drop i s)) ∙ ap (drop (8 * i)) (bits_of-append (take i s) (drop i s)) ∙ drop_at (bits_of (take i s)) (bits_of (drop i s)) (8 * i) l

words_are : (k at : ℕ) (s : List ℕ) → AreBytes s → at + 2 * k ≤ length s → words_of k (drop (8 * at) (bits_of s)) ≡ words_at k at s
unfolding words_of
words_are zero at s b h = refl
words_are (suc k) at s b h =
    let w : ℕ = word s at in
    let here : drop (8 * at) (bits_of s) ≡ bits 16 (word s at) ++ bits_of (drop (at + 2) s) = drop_bits at s (omega arith) ∙ word_from s at b (omega arith) in
    let small : word s at < 2 ^ 16 = omega (arith, b at, b (at + 1)) in
    let front : take 16 (drop (8 * at) (bits_of s)) ≡ bits 16 (word s at) = ap (take 16) here ∙ take_at (bits 16 (word s at)) (bits_of (drop (at + 2) s)) 16 (length-bits 16 (word s at)) in
    let back : drop 16 (drop (8 * at) (bits_of s)) ≡ drop (8 * (at + 2)) (bits_of s) = drop-drop 16 (8 * at) (bits_of s) ∙ ap (λ (n : ℕ). drop n (bits_of s)) (omega arith) in
    let value : number_of_bits (take 16 (drop (8 * at) (bits_of s))) ≡ word s at = ap number_of_bits front ∙ number-bits 16 (word s at) ∙ mod-eq_of_lt small in
    let rest : words_of k (drop 16 (drop (8 * at) (bits_of s))) ≡ words_at k (at + 2) s = ap (words_of k) back ∙ words_are k (at + 2) s b (omega arith) in
    λ j. value j ∷ rest j

span_is : (p : Span) (s : List ℕ) → AreBytes s → p.at + 2 * p.words ≤ length s → words_in p (bits_of s) ≡ span_words p s
span_is p s b h = words_are p.words p.at s b h

-- ---- what is covered is in the frame

record SpanRoom (n q : ℕ) (net : Network) : Type 0 where
  pub in_header : (header_span q net).at + 2 * (header_span q net).words ≤ n
  pub in_addresses : (address_span q net).at + 2 * (address_span q net).words ≤ n
  pub in_carried : (carried_span q net).at + 2 * (carried_span q net).words ≤ n

either_room : (t : Bool) (a k n : ℕ) → a + 2 * k ≤ n → (cond t no_words (record { at = a; words = k })).at + 2 * (cond t no_words (record { at = a; words = k })).words ≤ n
either_room true a k n h = omega arith
either_room false a k n h = h

span_room : (n q : ℕ) (net : Network) → HasRoomIn n q net → SpanRoom n q net
span_room n q (network.Ipv4 p) h =
    let a : 20 ≤ p.at = h.0 in
    let b : q + p.at + size_of p.transport ≤ n = h.1 in
    record { in_header = omega arith; in_addresses = either_room (without_addresses p.transport) (q + 12) 4 n (omega arith); in_carried = omega arith }
span_room n q (network.Ipv6 named p) h =
    let a : 40 ≤ p.at = h.0 in
    let b : q + p.at + size_of p.transport ≤ n = h.1 in
    record { in_header = omega arith; in_addresses = either_room (without_addresses p.transport) (q + 8) 16 n (omega arith); in_carried = omega arith }
span_room n q other h = record { in_header = omega arith; in_addresses = omega arith; in_carried = omega arith }

header_covered : (l : Layout) (s : List ℕ) → AreBytes s → HasRoom l (length s) → (t : List ℕ) → header_words l (bits_of s) ≡ covered_words (sums_of l t).header s
header_covered l s b h t = span_is (header_span (packet_at l) l.network) s b (span_room (length s) (packet_at l) l.network h.1).in_header ∙ sym (append-nil (span_words (header_span (packet_at l) l.network) s))

carried_covered : (l : Layout) (s : List ℕ) → AreBytes s → HasRoom l (length s) → (t : List ℕ) → carried_words l (bits_of s) ≡ covered_words (sums_of l t).carried s
carried_covered l s b h t =
    let r = span_room (length s) (packet_at l) l.network h.1 in
    λ j. span_is (address_span (packet_at l) l.network) s b r.in_addresses j ++ span_is (carried_span (packet_at l) l.network) s b r.in_carried j

-- ---- one checksum written

abbrev IsIn : Option ℕ → ℕ → Type 0
IsIn None n = Unit {0}
IsIn (Some at) n = at + 2 ≤ n

abbrev word_place : ℕ → Place
word_place at = record { first = 8 * at; bits = 16 }

-- what the cell of that name has fits a word
abbrev pub Small : ℕ → List Cell → Type 0
Small k cs = (x : ℕ) → look_up k cs ≡ Some x → x < 65536

pub small_at : (k : ℕ) (cs : List Cell) (o : Option ℕ) → Sound cs → locate_at 0 k cs ≡ number_place 16 o → Small k cs
small_at k cs None h e x l = absurd (let f : None ≡ Some x = sym (not_found k 0 cs (λ z. z) e).1 ∙ l in cc)
small_at k cs (Some at) h e x l =
    let r : Found k 0 cs (word_place at) = found k 0 cs (word_place at) e in
    let z : Some r.value ≡ Some x = sym r.look ∙ l in
    let v : r.value ≡ x = cc in
    let b : r.value < 65536 = r.small h in
    omega arith

step : (k : ℕ) (cs : List Cell) (t : List ℕ) (o : Option ℕ) (f : ℕ → ℕ) (w : ℕ) → Small k cs → AreBytes t → bits_of t ≡ encoded cs → locate_at 0 k cs ≡ number_place 16 o → IsIn o (length t) →
    f (word_or_zero t o) ≡ w → w < 65536 → bits_of (written_at o w t) ≡ encoded (change_at k f cs)
step k cs t None f w h b is e room g small = is ∙ ap encoded (sym (not_found k 0 cs f e).0)
step k cs t (Some at) f w h b is e room g small =
    let r : Found k 0 cs (word_place at) = found k 0 cs (word_place at) e in
    let value : r.value ≡ word t at = word_found k at cs t (word_place at) r refl b room is (h r.value r.look) in
    word_put at w t b room small ∙ ap (over_bits (8 * at) 16 w) is
    ∙ sym (put_changed k cs (word_place at) f r ∙ ap (λ (z : ℕ). over_bits (8 * at) 16 z (encoded cs)) (ap f value ∙ g))

-- the same number in other bytes
same_value : (k : ℕ) (cs ds : List Cell) (t u : List ℕ) (o : Option ℕ) → Small k cs → Small k ds → AreBytes t → AreBytes u → bits_of t ≡ encoded cs → bits_of u ≡ encoded ds →
    locate_at 0 k cs ≡ number_place 16 o → locate_at 0 k ds ≡ number_place 16 o → look_up k cs ≡ look_up k ds → IsIn o (length t) → IsIn o (length u) → word_or_zero t o ≡ word_or_zero u o
same_value k cs ds t u None h i b c is js e f same room inside = refl
same_value k cs ds t u (Some at) h i b c is js e f same room inside =
    let r : Found k 0 cs (word_place at) = found k 0 cs (word_place at) e in
    let q : Found k 0 ds (word_place at) = found k 0 ds (word_place at) f in
    let x : r.value ≡ word t at = word_found k at cs t (word_place at) r refl b room is (h r.value r.look) in
    let y : q.value ≡ word u at = word_found k at ds u (word_place at) q refl c inside js (i q.value q.look) in
    let z : Some r.value ≡ Some q.value = sym r.look ∙ same ∙ q.look in
    let v : r.value ≡ q.value = cc in
    sym x ∙ v ∙ y

-- ---- both

in_carried : (n q : ℕ) (k : Transport) → q + size_of k ≤ n → IsIn (moved q (checksum_byte k)) n
in_carried n q Nothing h = tt
in_carried n q other h = omega arith

kind_rule : (t : Bool) (k : Transport) (z x : ℕ) (a b : List ℕ) (f g : Span) → z ≡ x → carried_updated t k z a b ≡ settled t k z (record { value = updated x a b; differs = false || differ a b; front = f; back = g })
kind_rule t Udp z x a b f g e = ap (λ (k : ℕ). cond ((t && (z == 0)) || not (differ a b)) z (never_zero (updated k a b))) e
kind_rule t other z x a b f g e = ap (λ (k : ℕ). updated k a b) e

never_below : (k : ℕ) → k < 65536 → never_zero k < 65536
never_below k h = elim (k == 0) as (λ t. cond t 65535 k < 65536) [ true ↦ omega arith | false ↦ h ]

either_below : (t : Bool) (a b : ℕ) → a < 65536 → b < 65536 → cond t a b < 65536
either_below true a b h k = h
either_below false a b h k = k

kind_below : (t : Bool) (k : Transport) (z : ℕ) (m : Sum) → z < 65536 → m.value < 65536 → settled t k z m < 65536
kind_below t Udp z m h j = either_below ((t && (z == 0)) || not m.differs) z (never_zero m.value) h (never_below m.value j)
kind_below t other z m h j = j

rooms : (n q : ℕ) (net : Network) → HasRoomIn n q net → IsIn (header_checksum_at q net) n × IsIn (carried_at q net) n
rooms n q (network.Ipv4 p) h = let a : 20 ≤ p.at = h.0 in let b : q + p.at + size_of p.transport ≤ n = h.1 in (omega arith, in_carried n (q + p.at) p.transport b)
rooms n q (network.Ipv6 named p) h = (tt, in_carried n (q + p.at) p.transport h.1)
rooms n q other h = (tt, tt)

rule_is : (net : Network) (z x : ℕ) (a b : List ℕ) (f g : Span) → z ≡ x → carried_rule net z a b ≡ settled_in net z (record { value = updated x a b; differs = false || differ a b; front = f; back = g })
rule_is (network.Ipv4 p) z x a b f g e = kind_rule true p.transport z x a b f g e
rule_is (network.Ipv6 named p) z x a b f g e = kind_rule false p.transport z x a b f g e
rule_is other z x a b f g e = ap (λ (k : ℕ). updated k a b) e

settled_below : (net : Network) (z : ℕ) (m : Sum) → z < 65536 → m.value < 65536 → settled_in net z m < 65536
settled_below (network.Ipv4 p) z m h k = kind_below true p.transport z m h k
settled_below (network.Ipv6 named p) z m h k = kind_below false p.transport z m h k
settled_below other z m h k = k

word_below : (s : List ℕ) (o : Option ℕ) → AreBytes s → word_or_zero s o < 65536
word_below s None b = omega arith
word_below s (Some at) b = omega (arith, b at, b (at + 1))

bytes_written : (o : Option ℕ) (w : ℕ) (s : List ℕ) → AreBytes s → w < 65536 → AreBytes (written_at o w s)
bytes_written None w s b h = b
bytes_written (Some at) w s b h = bytes_with_word at w s b h

pub length_written : (o : Option ℕ) (w : ℕ) (s : List ℕ) → length (written_at o w s) ≡ length s
length_written None w s = refl
length_written (Some at) w s = length-set (set s at (w / 256)) (at + 1) (w % 256) ∙ length-set s at (w / 256)

either_even : (t : Bool) (a k : ℕ) → a % 2 ≡ 0 → (cond t no_words (record { at = a; words = k })).at % 2 ≡ 0
either_even true a k h = refl
either_even false a k h = h

pub evens : (q : ℕ) (net : Network) → q % 2 ≡ 0 → IsEvenIn net → ((header_span q net).at % 2 ≡ 0) × ((address_span q net).at % 2 ≡ 0) × ((carried_span q net).at % 2 ≡ 0)
evens q (network.Ipv4 p) h e = (h, either_even (without_addresses p.transport) (q + 12) 4 (omega arith), omega arith)
evens q (network.Ipv6 named p) h e = (refl, either_even (without_addresses p.transport) (q + 8) 16 (omega arith), omega arith)
evens q other h e = (refl, refl, refl)

-- the same for a layout that is known to be that of the layers
pub sums_even : (l : Layers) (y : Layout) (s t : List ℕ) → Stands l t → y ≡ layout_of l → AreEven (sums_of y s)
sums_even l y s t st e =
    let P : Layout → Type 0 = λ k. AreEven (sums_of k s) in
    let q : packet_at (layout_of l) % 2 ≡ 0 = omega arith in
    let r = evens (packet_at (layout_of l)) (layout_of l).network q st.even in
    let z : 0 % 2 ≡ 0 = refl in
    subst P (sym e) ((r.0, z), (r.1, r.2))

pub room_for : (l : Layers) (y : Layout) (s : List ℕ) (n : ℕ) → Stands l s → y ≡ layout_of l → n ≡ length s → HasRoom y n
room_for l y s n st e f =
    let P : Layout → Type 0 = λ k. HasRoom k n in
    let Q : ℕ → Type 0 = λ k. HasRoom (layout_of l) k in
    subst P (sym e) (subst Q (sym f) st.room)

pub renewed_all : (n v : ℕ) (p : Place) (l : Layers) (s t : List ℕ) → Stands l s → bits_of s ≡ encoded (cells l) → AreBytes s → AreBytes t → length t ≡ length s → Replaceable n → locate_at 0 n (cells l) ≡ Some p →
    bits_of t ≡ over_bits p.first p.bits v (bits_of s) → (m : Sums) → m ≡ both_followed (sums_of (layout_of l) s) s t →
    bits_of (with_carried (layout_of l) m (with_header (layout_of l) m t)) ≡ encoded (set_in_place n v l)
renewed_all n v p l s t st is b c long free place put_is m e =
    let y : Layout = layout_of l in
    let oh : Option ℕ = header_checksum_at (packet_at (layout_of l)) (layout_of l).network in
    let oc : Option ℕ = carried_at (packet_at (layout_of l)) (layout_of l).network in
    let cs : List Cell = cells l in
    let ds : List Cell = replace_at n v (cells l) in
    let js : bits_of t ≡ encoded (replace_at n v (cells l)) = put_is ∙ ap (over_bits p.first p.bits v) is ∙ sym (put_changed n (cells l) p (λ x. v) (found n 0 (cells l) p place)) in
    let room_t : HasRoom (layout_of l) (length t) = let P : ℕ → Type 0 = λ k. HasRoom (layout_of l) k in subst P (sym long) st.room in
    let in_s = rooms (length s) (packet_at (layout_of l)) (layout_of l).network st.room.1 in
    let in_t = rooms (length t) (packet_at (layout_of l)) (layout_of l).network room_t.1 in
    let oth = others 102 n 0 (λ x. v) (cells l) (λ q. free.0 (sym q)) in
    let there : locate_at 0 102 (replace_at n v (cells l)) ≡ number_place 16 oh = oth.0 ∙ st.header in
    let small_h : Small 102 (cells l) = small_at 102 (cells l) oh st.is_sound st.header in
    let small_d : Small 102 (replace_at n v (cells l)) = λ x g. small_h x (sym oth.1 ∙ g) in
    let f : ℕ → ℕ = λ k. updated k (header_words (layout_of l) (encoded (cells l))) (header_words (layout_of l) (encoded (replace_at n v (cells l)))) in
    let w : ℕ = m.header.value in
    let same : word_or_zero t oh ≡ word_or_zero s oh = same_value 102 ds cs t s oh small_d small_h c b js is there st.header oth.1 in_t.0 in_s.0 in
    let old_h : header_words y (encoded cs) ≡ covered_words (sums_of y s).header s = ap (header_words y) (sym is) ∙ header_covered y s b st.room s in
    let new_h : header_words y (encoded ds) ≡ covered_words (sums_of y s).header t = ap (header_words y) (sym js) ∙ header_covered y t c room_t s in
    let value_h : m.header.value ≡ updated (word_or_zero s oh) (covered_words (sums_of y s).header s) (covered_words (sums_of y s).header t) = ap (λ (k : Sums). k.header.value) e in
    let gives : f (word_or_zero t oh) ≡ m.header.value = (λ j. updated (same j) (old_h j) (new_h j)) ∙ sym value_h in
    let below : updated (word_or_zero s oh) (covered_words (sums_of y s).header s) (covered_words (sums_of y s).header t) ≤ 65535 = renewed_below (word_or_zero s oh) (covered_words (sums_of y s).header s) (covered_words (sums_of y s).header t) in
    let small_w : m.header.value < 65536 = omega arith in
    let u : List ℕ = with_header y m t in
    let ks : bits_of (with_header y m t) ≡ encoded (change_at 102 f ds) = step 102 ds t oh f m.header.value small_d c js there in_t.0 gives small_w in
    let d : AreBytes (with_header y m t) = bytes_written oh m.header.value t c small_w in
    let long_u : length (with_header y m t) ≡ length s = length_written oh m.header.value t ∙ long in
    let room_u : HasRoom y (length (with_header y m t)) = let P : ℕ → Type 0 = λ k. HasRoom (layout_of l) k in subst P (sym long_u) st.room in
    let in_u = rooms (length (with_header y m t)) (packet_at (layout_of l)) (layout_of l).network room_u.1 in
    let apart : 103 ≢ 102 = omega arith in
    let otn = others 103 n 0 (λ x. v) (cells l) (λ q. free.1 (sym q)) in
    let otc = others 103 102 0 f ds apart in
    let there_c : locate_at 0 103 (change_at 102 f ds) ≡ number_place 16 oc = otc.0 ∙ otn.0 ∙ st.carried in
    let small_c : Small 103 (cells l) = small_at 103 (cells l) oc st.is_sound st.carried in
    let small_e : Small 103 (change_at 102 f ds) = λ x g. small_c x (sym (otc.1 ∙ otn.1) ∙ g) in
    let same_c : word_or_zero (with_header y m t) oc ≡ word_or_zero s oc = same_value 103 (change_at 102 f ds) cs (with_header y m t) s oc small_e small_c d b ks is there_c st.carried (otc.1 ∙ otn.1) in_u.1 in_s.1 in
    let old_c : carried_words y (encoded cs) ≡ covered_words (sums_of y s).carried s = ap (carried_words y) (sym is) ∙ carried_covered y s b st.room s in
    let new_c : carried_words y (encoded ds) ≡ covered_words (sums_of y s).carried t = ap (carried_words y) (sym js) ∙ carried_covered y t c room_t s in
    let h : ℕ → ℕ = λ k. carried_rule y.network k (carried_words y (encoded cs)) (carried_words y (encoded ds)) in
    let z : ℕ = word_or_zero (with_header y m t) oc in
    let carried_is : both_followed (sums_of y s) s t ≡ m = sym e in
    let gives_c : h z ≡ settled_in y.network z m.carried =
    (λ j. carried_rule y.network z (old_c j) (new_c j))
    ∙ rule_is y.network z (word_or_zero s oc) (covered_words (sums_of y s).carried s) (covered_words (sums_of y s).carried t) (address_span (packet_at y) y.network) (carried_span (packet_at y) y.network) same_c
    ∙ ap (λ (k : Sums). settled_in y.network z k.carried) carried_is in
    let value_c : m.carried.value ≡ updated (word_or_zero s oc) (covered_words (sums_of y s).carried s) (covered_words (sums_of y s).carried t) = ap (λ (k : Sums). k.carried.value) e in
    let low : updated (word_or_zero s oc) (covered_words (sums_of y s).carried s) (covered_words (sums_of y s).carried t) ≤ 65535 = renewed_below (word_or_zero s oc) (covered_words (sums_of y s).carried s) (covered_words (sums_of y s).carried t) in
    let small_v : m.carried.value < 65536 = omega arith in
    let small_z : settled_in y.network z m.carried < 65536 = settled_below y.network z m.carried (word_below (with_header y m t) oc d) small_v in
    step 103 (change_at 102 f ds) (with_header y m t) oc h (settled_in y.network z m.carried) small_e d ks there_c in_u.1 gives_c small_z
