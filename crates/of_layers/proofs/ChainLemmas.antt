-- The extension headers of IPv6: encoded one by one, by no others, and well formed.
use Rattle.std.proofs.Common.{◌≡◌, ℕ, zero, suc, ◌+◌, ◌*◌, ◌/◌, ◌%◌, ◌≤◌, Bool, true, false, cond, List, [], ◌∷◌, ◌++◌, length, get_or, take, drop, refl, sym, ap, subst, ◌∙◌, arith, append_assoc}
use Rattle.std.specs.Prelude.{◌==◌, ◌&&◌, ◌||◌, not, nat_le}
use Rattle.std.proofs.lemmas.List.{length-append, length-drop, length-take, drop-drop, drop-take}
use Rattle.std.proofs.lemmas.Bool.{leb-true, le-leb, lt-leb, eqb-true}
use Rattle.of_layers.specs.Layers.{Cell, Carried, Extension, Options, Fragment, plain, options, fragment, size_of, cells_in, byte_cells, next_before, all_bytes, extension_cells, carried_cells, encoded}
use Rattle.of_layers.specs.Reading.{word, over_ipv6, carried_of, has_options, is_fragment, extension_size, has_extension, is_later, options_numbers, fragment_numbers, extension_of, Chain, behind_extension, ends_as, chain_of}
use Rattle.of_layers.specs.WellFormed.{AreBytes, FitsItems, IsCarried, AreExtensions, carried_size}
use Rattle.of_layers.proofs.EncodingLemmas.{AreBytes-drop, AreBytes-take, then_bits, byte_from, word_from, double_from, word_small, double_small, encoded-append, encoded_bytes}
use Rattle.of_layers.specs.{declared.transport.Transport.Transport, declared.transport.Transport.TheVariants.Nothing, Bits.bits, Bits.bits_of}
use Rattle.of_layers.proofs.{BitLemmas.bits_cut, BitLemmas.length-bits_of, BitLemmas.bits_of-append, FrontLemmas.front_same, FrontLemmas.take_front, FrontLemmas.drop_parts, FrontLemmas.length_fits}
use Rattle.of_layers.proofs.CarriedLemmas.{carried_encoded, carries, length_carried, carried_is}
use Rattle.of_layers.proofs.TestLemmas.{and_true, or_then, same_either}

-- ---- one header

plain_options : (s : List ℕ) → 2 ≤ length s → bits_of s ≡ encoded (cells_in (options (plain 8)) (options_numbers s)) ++ bits_of (drop 2 s)
plain_options s h = simp append_assoc (then_bits (bits 8 (get_or s 0 0)) (byte_from s 0 (omega arith)) (byte_from s 1 (omega arith)))

options_encoded : (es : List Extension) (s : List ℕ) → 2 ≤ length s → bits_of s ≡ encoded (cells_in (options (next_before es)) (options_numbers s)) ++ bits_of (drop 2 s)
options_encoded [] s h = plain_options s h
options_encoded (e ∷ es) s h = plain_options s h

options_fit : (es : List Extension) (s : List ℕ) → AreBytes s → FitsItems (options (next_before es)) (options_numbers s)
options_fit [] s b = (b 0, (b 1, tt))
options_fit (e ∷ es) s b = (b 0, (b 1, tt))

length_options : (es : List Extension) (ns : List ℕ) → FitsItems (options (next_before es)) ns → length (encoded (cells_in (options (next_before es)) ns)) ≡ 16
length_options [] ns f = length_fits (options (next_before [])) ns f
length_options (e ∷ es) ns f = length_fits (options (plain 8)) ns f

offset_bits : (w : ℕ) → bits 16 w ≡ bits 13 (w / 8) ++ (bits 2 (w / 2 % 4) ++ bits 1 (w % 2))
offset_bits w =
    let e : w / 2 / 4 ≡ w / 8 = omega arith in
    bits_cut 15 1 w ∙ ap (λ (t : List ℕ). t ++ bits 1 (w % 2)) (bits_cut 13 2 (w / 2) ∙ ap (λ (x : ℕ). bits 13 x ++ bits 2 (w / 2 % 4)) e)
    ∙ append_assoc (bits 13 (w / 8)) (bits 2 (w / 2 % 4)) (bits 1 (w % 2))

plain_fragment : (s : List ℕ) → AreBytes s → 8 ≤ length s → bits_of s ≡ encoded (cells_in (fragment (plain 8)) (fragment_numbers s)) ++ bits_of (drop 8 s)
plain_fragment s b h = simp append_assoc
    (then_bits (bits 8 (get_or s 0 0)) (byte_from s 0 (omega arith))
    (then_bits (bits 8 (get_or s 1 0)) (byte_from s 1 (omega arith))
    (word_from s 2 b (omega arith) ∙ ap (λ (t : List ℕ). t ++ bits_of (drop 4 s)) (offset_bits (word s 2))
    ∙ ap (λ (t : List ℕ). (bits 13 (word s 2 / 8) ++ (bits 2 (word s 2 / 2 % 4) ++ bits 1 (word s 2 % 2))) ++ t) (double_from s 4 b (omega arith)) ∙ simp append_assoc)))

fragment_encoded : (es : List Extension) (s : List ℕ) → AreBytes s → 8 ≤ length s → bits_of s ≡ encoded (cells_in (fragment (next_before es)) (fragment_numbers s)) ++ bits_of (drop 8 s)
fragment_encoded [] s b h = plain_fragment s b h
fragment_encoded (e ∷ es) s b h = plain_fragment s b h

plain_fits : (s : List ℕ) → AreBytes s → FitsItems (fragment (plain 8)) (fragment_numbers s)
plain_fits s b = (b 0, (b 1, (omega (arith, word_small s 2 b), (omega arith, (omega arith, (double_small s 4 b, tt))))))

fragment_fits : (es : List Extension) (s : List ℕ) → AreBytes s → FitsItems (fragment (next_before es)) (fragment_numbers s)
fragment_fits [] s b = plain_fits s b
fragment_fits (e ∷ es) s b = plain_fits s b

length_fragment : (es : List Extension) (ns : List ℕ) → FitsItems (fragment (next_before es)) ns → length (encoded (cells_in (fragment (next_before es)) ns)) ≡ 64
length_fragment [] ns f = length_fits (fragment (next_before [])) ns f
length_fragment (e ∷ es) ns f = length_fits (fragment (plain 8)) ns f

-- ---- is one there

record HasExtension (kind : ℕ) (s : List ℕ) : Type 0 where
  is : (is_fragment kind || has_options kind) ≡ true
  least : 8 ≤ length s
  whole : extension_size kind s ≤ length s

extension_there : (kind : ℕ) (s : List ℕ) → has_extension kind s ≡ true → HasExtension kind s
extension_there kind s e =
    let a = and_true ((is_fragment kind || has_options kind) && nat_le 8 (length s)) (nat_le (extension_size kind s) (length s)) e in
    let b = and_true (is_fragment kind || has_options kind) (nat_le 8 (length s)) a.0 in
    record { is = b.0; least = leb-true 8 (length s) b.1; whole = leb-true (extension_size kind s) (length s) a.1 }

three_true : {a b c : Bool} → a ≡ true → b ≡ true → c ≡ true → (a && b && c) ≡ true
three_true p q r = λ j. p j && q j && r j

right_true : (a b : Bool) → b ≡ true → (a || b) ≡ true
right_true true b e = refl
right_true false b e = e

by_options : (P : ℕ → Type 0) (kind : ℕ) → has_options kind ≡ true → P 0 → P 43 → P 60 → P kind
by_options P kind e x y z =
    or_then {P = P kind} (kind == 0 || kind == 43) (kind == 60) e
    (λ f. or_then {P = P kind} (kind == 0) (kind == 43) f (λ g. subst P (sym (eqb-true kind 0 g)) x) (λ g. subst P (sym (eqb-true kind 43 g)) y))
    (λ f. subst P (sym (eqb-true kind 60 f)) z)

no_fragment : (kind : ℕ) → has_options kind ≡ true → is_fragment kind ≡ false
no_fragment kind e = by_options (λ k. is_fragment k ≡ false) kind e refl refl refl

-- extension headers are no transport
no_transport : (kind : ℕ) → (is_fragment kind || has_options kind) ≡ true → over_ipv6 kind ≡ Nothing
no_transport kind e =
    or_then {P = over_ipv6 kind ≡ Nothing} (is_fragment kind) (has_options kind) e
    (λ f. ap over_ipv6 (eqb-true kind 44 f))
    (λ f. by_options (λ k. over_ipv6 k ≡ Nothing) kind f refl refl refl)

-- so what is left where none is read is all of the bytes
left_by : (x : Bool) (kind : ℕ) (s : List ℕ) → (is_fragment kind || has_options kind) ≡ x → has_extension kind (carried_of (over_ipv6 kind) s).rest ≡ has_extension kind s
left_by true kind s e =
    let none : over_ipv6 kind ≡ Nothing = no_transport kind e in
    let all : (carried_of (over_ipv6 kind) s).rest ≡ s = ap (λ (k : Transport). (carried_of k s).rest) none ∙ ap (λ (k : Transport). drop (size_of k) s) (same_either (nat_le 0 (length s)) Nothing) in
    ap (has_extension kind) all
left_by false kind s e = rw e refl

left : (kind : ℕ) (s : List ℕ) → has_extension kind (carried_of (over_ipv6 kind) s).rest ≡ has_extension kind s
left kind s = left_by (is_fragment kind || has_options kind) kind s refl

-- ---- what is read encodes

abbrev pub chain_cells : Chain → List Cell
chain_cells c = extension_cells c.extensions ++ carried_cells c.carried

front_encoded : (a b c : List Cell) → encoded ((a ++ b) ++ c) ≡ encoded a ++ encoded (b ++ c)
front_encoded a b c = ap encoded (append_assoc a b c) ∙ encoded-append a (b ++ c)

-- the three ways to go on
by_chain : (P : Chain → Type 0) (h l : Bool) (e : Extension) (x y z : Chain) → (h ≡ true → l ≡ true → P (behind_extension e x)) → (h ≡ true → l ≡ false → P (behind_extension e y)) → (h ≡ false → P z) → P (cond h (behind_extension e (cond l x y)) z)
by_chain P true true e x y z f g k = f refl refl
by_chain P true false e x y z f g k = g refl refl
by_chain P false l e x y z f g k = k refl

extension_by : (f : Bool) (s : List ℕ) (c : Chain) → AreBytes s → 8 ≤ length s → cond f 8 (8 * (get_or s 1 0 + 1)) ≤ length s → bits_of (drop (cond f 8 (8 * (get_or s 1 0 + 1))) s) ≡ encoded (chain_cells c) →
    bits_of s ≡ encoded (chain_cells (behind_extension (cond f (Fragment (fragment_numbers s)) (Options (options_numbers s) (drop 2 (take (cond f 8 (8 * (get_or s 1 0 + 1))) s)))) c))
extension_by true s c b h k e =
    fragment_encoded c.extensions s b h ∙ ap (λ (t : List ℕ). encoded (cells_in (fragment (next_before c.extensions)) (fragment_numbers s)) ++ t) e
    ∙ sym (front_encoded (cells_in (fragment (next_before c.extensions)) (fragment_numbers s)) (extension_cells c.extensions) (carried_cells c.carried))
extension_by false s c b h k e =
    let n : ℕ = 8 * (get_or s 1 0 + 1) in
    let bytes : List ℕ = drop 2 (take (8 * (get_or s 1 0 + 1)) s) in
    let header : List Cell = cells_in (options (next_before c.extensions)) (options_numbers s) in
    let tail : bits_of (drop 2 s) ≡ encoded ((byte_cells bytes ++ extension_cells c.extensions) ++ carried_cells c.carried) =
    ap bits_of (drop_parts 2 n s (omega arith) (omega arith)) ∙ bits_of-append bytes (drop n s) ∙ ap (λ (t : List ℕ). bits_of bytes ++ t) e
    ∙ ap (λ (t : List ℕ). t ++ encoded (chain_cells c)) (sym (encoded_bytes bytes)) ∙ sym (front_encoded (byte_cells bytes) (extension_cells c.extensions) (carried_cells c.carried)) in
    options_encoded c.extensions s (omega arith) ∙ ap (λ (t : List ℕ). encoded header ++ t) tail
    ∙ sym (front_encoded header (byte_cells bytes ++ extension_cells c.extensions) (carried_cells c.carried))

extension_encoded : (kind : ℕ) (s : List ℕ) (c : Chain) → AreBytes s → has_extension kind s ≡ true → bits_of (drop (extension_size kind s) s) ≡ encoded (chain_cells c) → bits_of s ≡ encoded (chain_cells (behind_extension (extension_of kind s) c))
extension_encoded kind s c b h e = let x : HasExtension kind s = extension_there kind s h in extension_by (is_fragment kind) s c b x.least x.whole e

later_size : (kind : ℕ) (s : List ℕ) → is_later kind s ≡ true → extension_size kind s ≡ 8
later_size kind s l = ap (λ (f : Bool). cond f 8 (8 * (get_or s 1 0 + 1))) (and_true (is_fragment kind) (not ((word s 2 / 8) == 0)) l).0

pub chain_encoded : (most kind : ℕ) (s : List ℕ) → AreBytes s → bits_of s ≡ encoded (chain_cells (chain_of most kind s))
unfolding chain_of
chain_encoded zero kind s b = carried_encoded (over_ipv6 kind) s b
chain_encoded (suc most) kind s b =
    let size : ℕ = extension_size kind s in
    by_chain (λ c. bits_of s ≡ encoded (chain_cells c)) (has_extension kind s) (is_later kind s) (extension_of kind s) (ends_as Nothing (drop 8 s)) (chain_of most (get_or s 0 0) (drop size s)) (ends_as (over_ipv6 kind) s)
    (λ h l. extension_encoded kind s (ends_as Nothing (drop 8 s)) b h (ap (λ (k : ℕ). bits_of (drop k s)) (later_size kind s l) ∙ carried_encoded Nothing (drop 8 s) (AreBytes-drop 8 s b)))
    (λ h l. extension_encoded kind s (chain_of most (get_or s 0 0) (drop size s)) b h (chain_encoded most (get_or s 0 0) (drop size s) (AreBytes-drop size s b)))
    (λ h. carried_encoded (over_ipv6 kind) s b)

-- ---- it is well formed

least_by : (f : Bool) (n : ℕ) → 8 ≤ cond f 8 (8 * (n + 1))
least_by true n = omega arith
least_by false n = omega arith

least_size : (kind : ℕ) (s : List ℕ) → 8 ≤ extension_size kind s
least_size kind s = least_by (is_fragment kind) (get_or s 1 0)

fits_by : (f : Bool) (kind : ℕ) (s : List ℕ) (es : List Extension) (c : Carried) → is_fragment kind ≡ f → (f || has_options kind) ≡ true → AreBytes s → 8 ≤ length s → cond f 8 (8 * (get_or s 1 0 + 1)) ≤ length s →
    ((f && not ((word s 2 / 8) == 0)) ≡ true → (es ≡ []) × IsCarried Nothing c) → ((f && not ((word s 2 / 8) == 0)) ≡ false → AreExtensions (get_or s 0 0) es c) →
    AreExtensions kind (cond f (Fragment (fragment_numbers s)) (Options (options_numbers s) (drop 2 (take (cond f 8 (8 * (get_or s 1 0 + 1))) s))) ∷ es) c
fits_by true kind s es c p o b h k last next = (p, fragment_fits es s b, λ z. next (ap not z), λ z. last (ap not z))
fits_by false kind s es c p o b h k last next =
    let n : ℕ = 8 * (get_or s 1 0 + 1) in
    (o, options_fit es s b, omega (arith, length-drop 2 (take n s), length-take n s), AreBytes-drop 2 (take n s) (AreBytes-take n s b), next refl)

extension_fits : (kind : ℕ) (s : List ℕ) (es : List Extension) (c : Carried) → AreBytes s → has_extension kind s ≡ true →
    (is_later kind s ≡ true → (es ≡ []) × IsCarried Nothing c) → (is_later kind s ≡ false → AreExtensions (get_or s 0 0) es c) → AreExtensions kind (extension_of kind s ∷ es) c
extension_fits kind s es c b h last next = let x : HasExtension kind s = extension_there kind s h in fits_by (is_fragment kind) kind s es c refl x.is b x.least x.whole last next

not_both : {P : Type 0} (b : Bool) → b ≡ true → b ≡ false → P
not_both true e f = absurd cc
not_both false e f = absurd cc

none_short : (a b c : Bool) → b ≡ false → (a && b && c) ≡ false
none_short true b c e = rw e refl
none_short false b c e = refl

end_fits : (kind : ℕ) (s : List ℕ) → AreBytes s → has_extension kind s ≡ false → AreExtensions kind [] (carried_of (over_ipv6 kind) s)
end_fits kind s b h = (carries (over_ipv6 kind) s b, left kind s ∙ h)

pub chain_fits : (most kind : ℕ) (s : List ℕ) → length s ≤ most → AreBytes s → AreExtensions kind (chain_of most kind s).extensions (chain_of most kind s).carried
unfolding chain_of
chain_fits zero kind s l b = end_fits kind s b (none_short (is_fragment kind || has_options kind) (nat_le 8 (length s)) (nat_le (extension_size kind s) (length s)) (lt-leb 8 (length s) (omega arith)))
chain_fits (suc most) kind s l b =
    let size : ℕ = extension_size kind s in
    let least : 8 ≤ size = least_size kind s in
    let next : Chain = chain_of most (get_or s 0 0) (drop size s) in
    by_chain (λ c. AreExtensions kind c.extensions c.carried) (has_extension kind s) (is_later kind s) (extension_of kind s) (ends_as Nothing (drop 8 s)) next (ends_as (over_ipv6 kind) s)
    (λ h l. extension_fits kind s [] (carried_of Nothing (drop 8 s)) b h (λ _. (refl, carries Nothing (drop 8 s) (AreBytes-drop 8 s b))) (λ n. not_both (is_later kind s) l n))
    (λ h n. extension_fits kind s next.extensions next.carried b h (λ l. not_both (is_later kind s) l n) (λ _. chain_fits most (get_or s 0 0) (drop size s) (omega (arith, length-drop size s, least)) (AreBytes-drop size s b)))
    (λ h. end_fits kind s b h)

-- how many bits well-formed ones have
pub length_chain : (kind : ℕ) (es : List Extension) (c : Carried) → AreExtensions kind es c → length (encoded (extension_cells es ++ carried_cells c)) ≡ 8 * (all_bytes es + carried_size c)
length_chain kind [] c h = omega (arith, length_carried (over_ipv6 kind) c h.0)
length_chain kind (Options ns bytes ∷ es) c h =
    let header : List Cell = cells_in (options (next_before es)) ns in
    omega (
      arith,
      ap length (front_encoded header (byte_cells bytes ++ extension_cells es) (carried_cells c)),
      length-append (encoded header) (encoded ((byte_cells bytes ++ extension_cells es) ++ carried_cells c)),
      length_options es ns h.1,
      ap length (front_encoded (byte_cells bytes) (extension_cells es) (carried_cells c)),
      length-append (encoded (byte_cells bytes)) (encoded (extension_cells es ++ carried_cells c)),
      ap length (encoded_bytes bytes),
      length-bits_of bytes,
      length_chain (get_or ns 0 0) es c h.4,
    )
length_chain kind (Fragment ns ∷ es) c h =
    let header : List Cell = cells_in (fragment (next_before es)) ns in
    let tail : length (encoded (extension_cells es ++ carried_cells c)) ≡ 8 * (all_bytes es + carried_size c) =
    elim (get_or ns 2 0 == 0) as (λ t. (get_or ns 2 0 == 0) ≡ t → length (encoded (extension_cells es ++ carried_cells c)) ≡ 8 * (all_bytes es + carried_size c)) [
      | true ↦ λ z. length_chain (get_or ns 0 0) es c (h.2 z)
      | false ↦ λ z. let r = h.3 z in subst (λ x. length (encoded (extension_cells x ++ carried_cells c)) ≡ 8 * (all_bytes x + carried_size c)) (sym r.0) (omega (arith, length_carried Nothing c r.1))
    ] refl in
    omega (
      arith,
      ap length (front_encoded header (extension_cells es) (carried_cells c)),
      length-append (encoded header) (encoded (extension_cells es ++ carried_cells c)),
      length_fragment es ns h.1,
      tail,
    )

pub chain_bytes : (most kind : ℕ) (s : List ℕ) → length s ≤ most → AreBytes s → all_bytes (chain_of most kind s).extensions + carried_size (chain_of most kind s).carried ≡ length s
chain_bytes most kind s l b =
    let c : Chain = chain_of most kind s in
    omega (arith, length_chain kind c.extensions c.carried (chain_fits most kind s l b), ap length (chain_encoded most kind s b), length-bits_of s)

-- ---- no others

chain_end : (most kind : ℕ) (s : List ℕ) → has_extension kind s ≡ false → chain_of most kind s ≡ ends_as (over_ipv6 kind) s
unfolding chain_of
chain_end zero kind s h = refl
chain_end (suc most) kind s h = rw h refl

chain_later : (most kind : ℕ) (s : List ℕ) → has_extension kind s ≡ true → is_later kind s ≡ true → chain_of (suc most) kind s ≡ behind_extension (extension_of kind s) (ends_as Nothing (drop 8 s))
unfolding chain_of
chain_later most kind s h l = rw (h, l) refl

chain_next : (most kind : ℕ) (s : List ℕ) → has_extension kind s ≡ true → is_later kind s ≡ false → chain_of (suc most) kind s ≡ behind_extension (extension_of kind s) (chain_of most (get_or s 0 0) (drop (extension_size kind s) s))
unfolding chain_of
chain_next most kind s h l = rw (h, l) refl

-- an extension header that bytes begin with
record ExtensionIs (kind : ℕ) (ns : List ℕ) (x : Extension) (rest s : List ℕ) : Type 0 where
  there : has_extension kind s ≡ true
  least : 8 ≤ length s
  is : x ≡ extension_of kind s
  next : get_or ns 0 0 ≡ get_or s 0 0
  rest_is : rest ≡ bits_of (drop (extension_size kind s) s)

le_of : (a b c : ℕ) → a ≡ b → a ≤ c → b ≤ c
le_of a b c e h = omega arith

options_is : (kind : ℕ) (ns bytes : List ℕ) (es : List Extension) (rest s : List ℕ) → has_options kind ≡ true → FitsItems (options (next_before es)) ns → 2 + length bytes ≡ 8 * (get_or ns 1 0 + 1) → AreBytes bytes → AreBytes s →
    bits_of s ≡ encoded (cells_in (options (next_before es)) ns) ++ (bits_of bytes ++ rest) → ExtensionIs kind ns (Options ns bytes) rest s
options_is kind ns bytes es rest s o f l g b e =
    let none : is_fragment kind ≡ false = no_fragment kind o in
    let long : 16 + 8 * length bytes + length rest ≡ 8 * length s =
    omega (arith, ap length e, length-bits_of s, length-append (encoded (cells_in (options (next_before es)) ns)) (bits_of bytes ++ rest), length_options es ns f, length-append (bits_of bytes) rest, length-bits_of bytes) in
    let r = front_same (options (next_before es)) ns (options_numbers s) (bits_of bytes ++ rest) (bits_of (drop 2 s)) f (options_fit es s b) (sym e ∙ options_encoded es s (omega arith)) in
    let t = take_front bytes (drop 2 s) rest g (AreBytes-drop 2 s b) r.1 in
    let size : 2 + length bytes ≡ extension_size kind s = l ∙ ap (λ (x : List ℕ). 8 * (get_or x 1 0 + 1)) r.0 ∙ sym (ap (λ (x : Bool). cond x 8 (8 * (get_or s 1 0 + 1))) none) in
    let all : bytes ≡ drop 2 (take (extension_size kind s) s) = t.0 ∙ sym (drop-take 2 (length bytes) s) ∙ ap (λ (n : ℕ). drop 2 (take n s)) size in
    let least : 8 ≤ length s = omega arith in
    let whole : extension_size kind s ≤ length s = le_of (2 + length bytes) (extension_size kind s) (length s) size (omega arith) in
    record {
      there = three_true (right_true (is_fragment kind) (has_options kind) o) (le-leb 8 (length s) least) (le-leb (extension_size kind s) (length s) whole);
      least = least;
      is = (λ j. Options (r.0 j) (all j)) ∙ sym (ap (λ (x : Bool). cond x (Fragment (fragment_numbers s)) (Options (options_numbers s) (drop 2 (take (extension_size kind s) s)))) none);
      next = ap (λ (x : List ℕ). get_or x 0 0) r.0;
      rest_is = t.1 ∙ ap bits_of (drop-drop (length bytes) 2 s) ∙ ap (λ (n : ℕ). bits_of (drop n s)) size;
    }

record FragmentIs (kind : ℕ) (ns rest s : List ℕ) : Type 0 where
  front : ExtensionIs kind ns (Fragment ns) rest s
  offset : get_or ns 2 0 ≡ word s 2 / 8

fragment_is : (kind : ℕ) (ns : List ℕ) (es : List Extension) (rest s : List ℕ) → is_fragment kind ≡ true → FitsItems (fragment (next_before es)) ns → AreBytes s →
    bits_of s ≡ encoded (cells_in (fragment (next_before es)) ns) ++ rest → FragmentIs kind ns rest s
fragment_is kind ns es rest s o f b e =
    let long : 64 + length rest ≡ 8 * length s = omega (arith, ap length e, length-bits_of s, length-append (encoded (cells_in (fragment (next_before es)) ns)) rest, length_fragment es ns f) in
    let least : 8 ≤ length s = omega arith in
    let r = front_same (fragment (next_before es)) ns (fragment_numbers s) rest (bits_of (drop 8 s)) f (fragment_fits es s b) (sym e ∙ fragment_encoded es s b least) in
    let size : 8 ≡ extension_size kind s = sym (ap (λ (x : Bool). cond x 8 (8 * (get_or s 1 0 + 1))) o) in
    record {
      front = record {
        there = three_true (ap (λ (x : Bool). x || has_options kind) o) (le-leb 8 (length s) least) (le-leb (extension_size kind s) (length s) (le_of 8 (extension_size kind s) (length s) size least));
        least = least;
        is = ap Fragment r.0 ∙ sym (ap (λ (x : Bool). cond x (Fragment (fragment_numbers s)) (Options (options_numbers s) (drop 2 (take (extension_size kind s) s)))) o);
        next = ap (λ (x : List ℕ). get_or x 0 0) r.0;
        rest_is = r.1 ∙ ap (λ (n : ℕ). bits_of (drop n s)) size;
      };
      offset = ap (λ (x : List ℕ). get_or x 2 0) r.0;
    }

same_behind : (x y : Extension) (es : List Extension) (c : Carried) (d : Chain) → x ≡ y → ◌≡◌ {A = Chain} (record { extensions = es; carried = c }) d → ◌≡◌ {A = Chain} (record { extensions = x ∷ es; carried = c }) (behind_extension y d)
same_behind x y es c d p q = λ j. behind_extension (p j) (q j)

later_is : (kind : ℕ) (s ns : List ℕ) (t : Bool) → is_fragment kind ≡ true → get_or ns 2 0 ≡ word s 2 / 8 → (get_or ns 2 0 == 0) ≡ t → is_later kind s ≡ not t
later_is kind s ns t f o z = ap (λ (x : Bool). x && not ((word s 2 / 8) == 0)) f ∙ ap (λ (n : ℕ). not (n == 0)) (sym o) ∙ ap not z

-- after a later fragment
later_same : (most kind : ℕ) (ns : List ℕ) (es : List Extension) (c : Carried) (s : List ℕ) → AreBytes s → ExtensionIs kind ns (Fragment ns) (encoded (extension_cells es ++ carried_cells c)) s → is_later kind s ≡ true → es ≡ [] → IsCarried Nothing c →
    ◌≡◌ {A = Chain} (record { extensions = Fragment ns ∷ es; carried = c }) (chain_of (suc most) kind s)
later_same most kind ns es c s b x later none h =
    let bytes : bits_of (drop 8 s) ≡ encoded (carried_cells c) =
    ap (λ (n : ℕ). bits_of (drop n s)) (sym (later_size kind s later)) ∙ sym x.rest_is ∙ ap (λ (fs : List Extension). encoded (extension_cells fs ++ carried_cells c)) none in
    let same : c ≡ carried_of Nothing (drop 8 s) = carried_is Nothing c (drop 8 s) h (AreBytes-drop 8 s b) bytes in
    same_behind (Fragment ns) (extension_of kind s) es c (ends_as Nothing (drop 8 s)) x.is (λ j. record { extensions = none j; carried = same j }) ∙ sym (chain_later most kind s x.there later)

-- after any other extension header
next_same : (most kind : ℕ) (ns : List ℕ) (e : Extension) (es : List Extension) (c : Carried) (s : List ℕ) → ExtensionIs kind ns e (encoded (extension_cells es ++ carried_cells c)) s → is_later kind s ≡ false →
    ◌≡◌ {A = Chain} (record { extensions = es; carried = c }) (chain_of most (get_or s 0 0) (drop (extension_size kind s) s)) → ◌≡◌ {A = Chain} (record { extensions = e ∷ es; carried = c }) (chain_of (suc most) kind s)
next_same most kind ns e es c s x first i =
    same_behind e (extension_of kind s) es c (chain_of most (get_or s 0 0) (drop (extension_size kind s) s)) x.is i ∙ sym (chain_next most kind s x.there first)

shorter : (most kind : ℕ) (s : List ℕ) → 8 ≤ length s → length s ≤ suc most → length (drop (extension_size kind s) s) ≤ most
shorter most kind s h l = let least : 8 ≤ extension_size kind s = least_size kind s in omega (arith, length-drop (extension_size kind s) s, least)

options_front : (kind : ℕ) (ns bytes : List ℕ) (es : List Extension) (c : Carried) (s : List ℕ) → AreExtensions kind (Options ns bytes ∷ es) c → AreBytes s → bits_of s ≡ encoded (extension_cells (Options ns bytes ∷ es) ++ carried_cells c) →
    ExtensionIs kind ns (Options ns bytes) (encoded (extension_cells es ++ carried_cells c)) s
options_front kind ns bytes es c s h b e =
    let header : List Cell = cells_in (options (next_before es)) ns in
    let rest : List ℕ = encoded (extension_cells es ++ carried_cells c) in
    let parts : bits_of s ≡ encoded header ++ (bits_of bytes ++ rest) =
    e ∙ front_encoded header (byte_cells bytes ++ extension_cells es) (carried_cells c)
    ∙ ap (λ (t : List ℕ). encoded header ++ t) (front_encoded (byte_cells bytes) (extension_cells es) (carried_cells c) ∙ ap (λ (t : List ℕ). t ++ rest) (encoded_bytes bytes)) in
    options_is kind ns bytes es rest s h.0 h.1 h.2 h.3 b parts

fragment_front : (kind : ℕ) (ns : List ℕ) (es : List Extension) (c : Carried) (s : List ℕ) → AreExtensions kind (Fragment ns ∷ es) c → AreBytes s → bits_of s ≡ encoded (extension_cells (Fragment ns ∷ es) ++ carried_cells c) →
    FragmentIs kind ns (encoded (extension_cells es ++ carried_cells c)) s
fragment_front kind ns es c s h b e = fragment_is kind ns es (encoded (extension_cells es ++ carried_cells c)) s h.0 h.1 b (e ∙ front_encoded (cells_in (fragment (next_before es)) ns) (extension_cells es) (carried_cells c))

pub chain_is : (es : List Extension) (c : Carried) (most kind : ℕ) (s : List ℕ) → length s ≤ most → AreExtensions kind es c → AreBytes s → bits_of s ≡ encoded (extension_cells es ++ carried_cells c) →
    ◌≡◌ {A = Chain} (record { extensions = es; carried = c }) (chain_of most kind s)
chain_is [] c most kind s l h b e =
    let same : c ≡ carried_of (over_ipv6 kind) s = carried_is (over_ipv6 kind) c s h.0 b e in
    let none : has_extension kind s ≡ false = sym (left kind s) ∙ ap (λ (x : Carried). has_extension kind x.rest) (sym same) ∙ h.1 in
    (λ j. record { extensions = []; carried = same j }) ∙ sym (chain_end most kind s none)
chain_is (Options ns bytes ∷ es) c zero kind s l h b e = absurd (let x = options_front kind ns bytes es c s h b e in omega (arith, x.least))
chain_is (Options ns bytes ∷ es) c (suc most) kind s l h b e =
    let x = options_front kind ns bytes es c s h b e in
    let first : is_later kind s ≡ false = ap (λ (f : Bool). f && not ((word s 2 / 8) == 0)) (no_fragment kind h.0) in
    next_same most kind ns (Options ns bytes) es c s x first
    (chain_is es c most (get_or s 0 0) (drop (extension_size kind s) s) (shorter most kind s x.least l) (subst (λ k. AreExtensions k es c) x.next h.4) (AreBytes-drop (extension_size kind s) s b) (sym x.rest_is))
chain_is (Fragment ns ∷ es) c zero kind s l h b e = absurd (let x = fragment_front kind ns es c s h b e in omega (arith, x.front.least))
chain_is (Fragment ns ∷ es) c (suc most) kind s l h b e =
    let f = fragment_front kind ns es c s h b e in
    let x = f.front in
    elim (get_or ns 2 0 == 0) as (λ t. (get_or ns 2 0 == 0) ≡ t → ◌≡◌ {A = Chain} (record { extensions = Fragment ns ∷ es; carried = c }) (chain_of (suc most) kind s)) [
      | true ↦ λ z. next_same most kind ns (Fragment ns) es c s x (later_is kind s ns true h.0 f.offset z)
          (chain_is es c most (get_or s 0 0) (drop (extension_size kind s) s) (shorter most kind s x.least l) (subst (λ k. AreExtensions k es c) x.next (h.2 z)) (AreBytes-drop (extension_size kind s) s b) (sym x.rest_is))
      | false ↦ λ z. let r = h.3 z in later_same most kind ns es c s b x (later_is kind s ns false h.0 f.offset z) r.0 r.1
    ] refl
