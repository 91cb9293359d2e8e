-- Numbers and bytes that the same bits begin with are the same.
use Rattle.std.proofs.Common.{◌≡◌, ℕ, suc, ◌+◌, ◌*◌, ◌≤◌, List, [], ◌∷◌, ◌++◌, length, get_or, take, drop, refl, sym, ap, ◌∙◌, arith, append_assoc}
use Rattle.std.proofs.lemmas.List.{get_or-drop, length-append, append-nil, take_all, length-take, length-take-le, take-append-drop, drop-append-le}
use Rattle.of_layers.specs.Layers.{Item, cells_in, addresses, inner_tag, encoded}
use Rattle.of_layers.proofs.BitLemmas.{bits_front, append_same, length-bits, length-bits_of, bits_of-append}
use Rattle.of_layers.specs.{Bits.bits, Bits.bits_of, Reading.word, Reading.six, Reading.tag_numbers, WellFormed.AreBytes, WellFormed.FitsItems}
use Rattle.of_layers.proofs.EncodingLemmas.{AreBytes-drop}

pub front_same : (is : List Item) (ns ms : List ℕ) (x y : List ℕ) → FitsItems is ns → FitsItems is ms → encoded (cells_in is ns) ++ x ≡ encoded (cells_in is ms) ++ y → (ns ≡ ms) × (x ≡ y)
front_same [] [] [] x y f g e = (refl, e)
front_same [] [] (m ∷ ms) x y f g e = absurd g
front_same [] (n ∷ ns) ms x y f g e = absurd f
front_same (i ∷ is) [] ms x y f g e = absurd f
front_same (i ∷ is) (n ∷ ns) [] x y f g e = absurd g
front_same (i ∷ is) (n ∷ ns) (m ∷ ms) x y f g e =
    let a : bits i.width n ++ (encoded (cells_in is ns) ++ x) ≡ bits i.width m ++ (encoded (cells_in is ms) ++ y) = sym (append_assoc (bits i.width n) (encoded (cells_in is ns)) x) ∙ e ∙ append_assoc (bits i.width m) (encoded (cells_in is ms)) y in
    let r = bits_front i.width n m (encoded (cells_in is ns) ++ x) (encoded (cells_in is ms) ++ y) f.0 g.0 a in
    let t = front_same is ns ms x y f.1 g.1 r.1 in
    (λ j. r.0 j ∷ t.0 j, t.1)

pub take_front : (q s x : List ℕ) → AreBytes q → AreBytes s → bits_of q ++ x ≡ bits_of s → (q ≡ take (length q) s) × (x ≡ bits_of (drop (length q) s))
unfolding bits_of
take_front [] s x f g e = (refl, e)
take_front (a ∷ q) [] x f g e = absurd (omega (arith, ap length e, length-append (bits 8 a ++ bits_of q) x, length-append (bits 8 a) (bits_of q), length-bits 8 a))
take_front (a ∷ q) (b ∷ s) x f g e =
    let r = bits_front 8 a b (bits_of q ++ x) (bits_of s) (f 0) (g 0) (sym (append_assoc (bits 8 a) (bits_of q) x) ∙ e) in
    let t = take_front q s x (λ i. f (suc i)) (λ i. g (suc i)) r.1 in
    (λ j. r.0 j ∷ t.0 j, t.1)

-- how many bits a header has
abbrev pub total : List Item → ℕ
total [] = 0
total (i ∷ is) = i.width + total is

pub length_fits : (is : List Item) (ns : List ℕ) → FitsItems is ns → length (encoded (cells_in is ns)) ≡ total is
length_fits [] [] f = refl
length_fits [] (n ∷ ns) f = absurd f
length_fits (i ∷ is) [] f = absurd f
length_fits (i ∷ is) (n ∷ ns) f = length-append (bits i.width n) (encoded (cells_in is ns)) ∙ omega (arith, length-bits i.width n, length_fits is ns f.1)

pub bytes_same : (q s : List ℕ) → AreBytes q → AreBytes s → bits_of q ≡ bits_of s → q ≡ s
bytes_same q s f g e =
    let r = take_front q s [] f g (append-nil (bits_of q) ∙ e) in
    let l : length q ≡ length s = omega (arith, ap length e, length-bits_of q, length-bits_of s) in
    r.0 ∙ take_all (length q) s (omega arith)

-- bytes from m on are those up to n and those after it
pub drop_parts : (m n : ℕ) (s : List ℕ) → m ≤ n → m ≤ length s → drop m s ≡ drop m (take n s) ++ drop n s
drop_parts m n s h l = ap (drop m) (sym (take-append-drop n s)) ∙ drop-append-le m (take n s) (drop n s) (omega (arith, length-take n s))

-- n bytes, and bytes after them
pub cut_bits : (a rest s : List ℕ) (n : ℕ) → length a ≡ 8 * n → AreBytes rest → AreBytes s → a ++ bits_of rest ≡ bits_of s → (a ≡ bits_of (take n s)) × (rest ≡ drop n s)
cut_bits a rest s n l f g e =
    let all : 8 * n + 8 * length rest ≡ 8 * length s = omega (arith, ap length e, length-append a (bits_of rest), length-bits_of rest, length-bits_of s, l) in
    let len : length (take n s) ≡ n = length-take-le n s (omega arith) in
    let cut : bits_of s ≡ bits_of (take n s) ++ bits_of (drop n s) = ap bits_of (sym (take-append-drop n s)) ∙ bits_of-append (take n s) (drop n s) in
    let r = append_same a (bits_of (take n s)) (bits_of rest) (bits_of (drop n s)) (omega (arith, l, length-bits_of (take n s), len)) (e ∙ cut) in
    (r.0, bytes_same rest (drop n s) f (AreBytes-drop n s g) r.1)

pub word_behind : (s : List ℕ) (m i : ℕ) → word (drop m s) i ≡ word s (m + i)
word_behind s m i =
    let a : get_or (drop m s) i 0 ≡ get_or s (m + i) 0 = get_or-drop m s i 0 in
    let b : get_or (drop m s) (i + 1) 0 ≡ get_or s (m + (i + 1)) 0 = get_or-drop m s (i + 1) 0 in
    let e : m + (i + 1) ≡ m + i + 1 = omega arith in
    rw (a, b, e) refl

pub tag_fits : (s : List ℕ) → AreBytes s → FitsItems inner_tag (tag_numbers s)
tag_fits s b = (omega (arith, b 0, b 1), (omega (arith, b 2, b 3), (omega arith, (omega arith, tt))))

pub ends_fit : (frame : List ℕ) → AreBytes frame → FitsItems addresses (six frame 0 ∷ six frame 6 ∷ [])
ends_fit frame b = (omega (arith, b 0, b 1, b 2, b 3, b 4, b 5), (omega (arith, b 6, b 7, b 8, b 9, b 10, b 11), tt))
