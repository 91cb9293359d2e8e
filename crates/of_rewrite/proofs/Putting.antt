-- Bits that are written over others, word by word.
use Rattle.std.proofs.Common.{◌≡◌, ℕ, ◌+◌, ◌-◌, ◌*◌, ◌/◌, ◌%◌, ◌^◌, ◌<◌, ◌≤◌, List, ◌∷◌, ◌++◌, length, take, drop, set, sym, ap, ◌∙◌, arith, append_assoc, subst}
use Rattle.std.proofs.lemmas.List.{drop_at, length-append, take-append-drop, length-take-le, drop-set, drop-set-add, take-set-le, drop_more, drop-drop}
use Rattle.std.proofs.lemmas.Nat.{pow_pos, mod_below, shr-shr, shr_below, mul-add-lt, pow-add}
use Rattle.std.proofs.Math.Seq.{take-append-add, drop-append-add}
use Rattle.of_layers.proofs.BitLemmas.{length-bits, length-bits_of, bits_of-append, bits_parts, bits_cut, word_bits, append_same}
use Rattle.of_layers.{specs.Bits.bits, specs.Bits.bits_of, specs.Reading.word, specs.WellFormed.AreBytes, proofs.EncodingLemmas.word_from}
use Rattle.of_rewrite.specs.Spans.{over_bits, with_word, part_over_bits}

-- ---- places

pub put_behind : (a : List ℕ) (q m v : ℕ) (b : List ℕ) → over_bits (length a + q) m v (a ++ b) ≡ a ++ over_bits q m v b
put_behind a q m v b =
    let e : length a + q + m ≡ length a + (q + m) = omega arith in
    rw (e, take-append-add a b q, drop-append-add a b (q + m)) (append_assoc a (take q b) (bits m v ++ drop (q + m) b))

pub put_here : (m v w : ℕ) (b : List ℕ) → over_bits 0 m v (bits m w ++ b) ≡ bits m v ++ b
put_here m v w b = ap (λ (t : List ℕ). bits m v ++ t) (drop_at (bits m w) b (0 + m) (length-bits m w ∙ omega arith))

-- after so many bits
pub put_after : (a : List ℕ) (p m v w : ℕ) (b : List ℕ) → length a ≡ p → over_bits p m v (a ++ (bits m w ++ b)) ≡ a ++ (bits m v ++ b)
put_after a p m v w b l =
    let e : p ≡ length a + 0 = omega arith in
    ap (λ (k : ℕ). over_bits k m v (a ++ (bits m w ++ b))) e ∙ put_behind a 0 m v (bits m w ++ b) ∙ ap (λ (t : List ℕ). a ++ t) (put_here m v w b)

-- ---- low bits

pub bits_low : (n v : ℕ) → bits n (v % 2 ^ n) ≡ bits n v
unfolding bits
bits_low n v =
    let e : 0 + n ≡ n = omega arith in
    sym (ap (λ (k : ℕ). bits k v) (sym e) ∙ bits_cut 0 n v)

-- of more low bits, the lower ones
pub bits_lower : (n m v : ℕ) → n ≤ m → bits n (v % 2 ^ m) ≡ bits n v
bits_lower n m v h =
    let e : m - n + n ≡ m = omega arith in
    let same : bits (m - n + n) (v % 2 ^ m) ≡ bits (m - n + n) v = rw e (bits_low m v) in
    let r = append_same (bits (m - n) (v % 2 ^ m / 2 ^ n)) (bits (m - n) (v / 2 ^ n)) (bits n (v % 2 ^ m % 2 ^ n)) (bits n (v % 2 ^ n))
    (length-bits (m - n) (v % 2 ^ m / 2 ^ n) ∙ sym (length-bits (m - n) (v / 2 ^ n)))
    (sym (bits_cut (m - n) n (v % 2 ^ m)) ∙ same ∙ bits_cut (m - n) n v) in
    sym (bits_low n (v % 2 ^ m)) ∙ r.1 ∙ bits_low n v

-- a number in two parts, the one after the other
pub put_parts : (p m n v : ℕ) (b : List ℕ) → p + (m + n) ≤ length b → over_bits p (m + n) v b ≡ over_bits (p + m) n v (over_bits p m (v / 2 ^ n) b)
put_parts p m n v b h =
    let a : List ℕ = take p b ++ bits m (v / 2 ^ n) in
    let la : length (take p b ++ bits m (v / 2 ^ n)) ≡ p + m = length-append (take p b) (bits m (v / 2 ^ n)) ∙ (let x : length (take p b) ≡ p = length-take-le p b (omega arith) in let y : length (bits m (v / 2 ^ n)) ≡ m = length-bits m (v / 2 ^ n) in omega arith) in
    let e : p + m ≡ length (take p b ++ bits m (v / 2 ^ n)) + 0 = omega arith in
    let z : p + m + n ≡ p + (m + n) = omega arith in
    let zn : 0 + n ≡ n = omega arith in
    let left : over_bits (p + m) n v (over_bits p m (v / 2 ^ n) b) ≡ (take p b ++ bits m (v / 2 ^ n)) ++ (bits n v ++ drop (p + (m + n)) b) =
    ap (over_bits (p + m) n v) (sym (append_assoc (take p b) (bits m (v / 2 ^ n)) (drop (p + m) b)))
    ∙ ap (λ (k : ℕ). over_bits k n v ((take p b ++ bits m (v / 2 ^ n)) ++ drop (p + m) b)) e
    ∙ put_behind (take p b ++ bits m (v / 2 ^ n)) 0 n v (drop (p + m) b)
    ∙ ap (λ (t : List ℕ). (take p b ++ bits m (v / 2 ^ n)) ++ (bits n v ++ t)) (ap (λ (k : ℕ). drop k (drop (p + m) b)) zn ∙ drop-drop n (p + m) b ∙ ap (λ (k : ℕ). drop k b) z) in
    let cut : bits (m + n) v ≡ bits m (v / 2 ^ n) ++ bits n v = bits_cut m n v ∙ ap (λ (t : List ℕ). bits m (v / 2 ^ n) ++ t) (bits_low n v) in
    ap (λ (t : List ℕ). take p b ++ (t ++ drop (p + (m + n)) b)) cut
    ∙ ap (λ (t : List ℕ). take p b ++ t) (append_assoc (bits m (v / 2 ^ n)) (bits n v) (drop (p + (m + n)) b))
    ∙ sym (append_assoc (take p b) (bits m (v / 2 ^ n)) (bits n v ++ drop (p + (m + n)) b))
    ∙ sym left

-- ---- a part of a word

join_below : (a j b k : ℕ) → a < 2 ^ j → b < 2 ^ k → a * 2 ^ k + b < 2 ^ (j + k)
join_below a j b k f g =
    let e : k + j ≡ j + k = omega arith in
    let l : a * 2 ^ k + b < 2 ^ k * 2 ^ j = mul-add-lt a (2 ^ k) b (2 ^ j) f g in
    let p : 2 ^ (k + j) ≡ 2 ^ k * 2 ^ j = pow-add 2 k j in
    rw (← e, p) l

high_below : (top width below w : ℕ) → top + width + below ≡ 16 → w < 65536 → w / 2 ^ below / 2 ^ width < 2 ^ top
high_below top width below w e h =
    let s : top + (below + width) ≡ 16 = omega arith in
    rw shr-shr (shr_below w top (below + width) (rw s h))

pub middle_below : (top width below v w : ℕ) → top + width + below ≡ 16 → w < 65536 → w / 2 ^ below / 2 ^ width * 2 ^ width + v % 2 ^ width < 2 ^ (top + width)
middle_below top width below v w e h = join_below (w / 2 ^ below / 2 ^ width) top (v % 2 ^ width) width (high_below top width below w e h) (mod_below v (2 ^ width) (pow_pos width))

pub part_below : (top width below v w : ℕ) → top + width + below ≡ 16 → w < 65536 → part_over_bits width below v w < 65536
part_below top width below v w e h =
    let j = join_below (w / 2 ^ below / 2 ^ width * 2 ^ width + v % 2 ^ width) (top + width) (w % 2 ^ below) below (middle_below top width below v w e h) (mod_below w (2 ^ below) (pow_pos below)) in
    let P : ℕ → Type 0 = λ k. part_over_bits width below v w < 2 ^ k in subst P e j

part_bits : (top width below v w : ℕ) → top + width + below ≡ 16 → bits 16 (part_over_bits width below v w) ≡ bits top (w / 2 ^ below / 2 ^ width) ++ (bits width v ++ bits below (w % 2 ^ below))
part_bits top width below v w e =
    ap (λ (k : ℕ). bits k (part_over_bits width below v w)) (sym e)
    ∙ bits_parts (top + width) below (w / 2 ^ below / 2 ^ width * 2 ^ width + v % 2 ^ width) (w % 2 ^ below) (mod_below w (2 ^ below) (pow_pos below))
    ∙ ap (λ (t : List ℕ). t ++ bits below (w % 2 ^ below)) (bits_parts top width (w / 2 ^ below / 2 ^ width) (v % 2 ^ width) (mod_below v (2 ^ width) (pow_pos width)) ∙ ap (λ (t : List ℕ). bits top (w / 2 ^ below / 2 ^ width) ++ t) (bits_low width v))
    ∙ append_assoc (bits top (w / 2 ^ below / 2 ^ width)) (bits width v) (bits below (w % 2 ^ below))

word_parts : (top width below w : ℕ) → top + width + below ≡ 16 → bits 16 w ≡ bits top (w / 2 ^ below / 2 ^ width) ++ (bits width (w / 2 ^ below % 2 ^ width) ++ bits below (w % 2 ^ below))
word_parts top width below w e =
    ap (λ (k : ℕ). bits k w) (sym e) ∙ bits_cut (top + width) below w
    ∙ ap (λ (t : List ℕ). t ++ bits below (w % 2 ^ below)) (bits_cut top width (w / 2 ^ below))
    ∙ append_assoc (bits top (w / 2 ^ below / 2 ^ width)) (bits width (w / 2 ^ below % 2 ^ width)) (bits below (w % 2 ^ below))

pub put_in_word : (top width below v w : ℕ) (z : List ℕ) → top + width + below ≡ 16 → over_bits top width v (bits 16 w ++ z) ≡ bits 16 (part_over_bits width below v w) ++ z
put_in_word top width below v w z e =
    let a : List ℕ = bits top (w / 2 ^ below / 2 ^ width) in
    let l : List ℕ = bits below (w % 2 ^ below) in
    let cut : bits 16 w ++ z ≡ bits top (w / 2 ^ below / 2 ^ width) ++ (bits width (w / 2 ^ below % 2 ^ width) ++ (bits below (w % 2 ^ below) ++ z)) =
    ap (λ (t : List ℕ). t ++ z) (word_parts top width below w e) ∙ simp append_assoc in
    let new : bits 16 (part_over_bits width below v w) ++ z ≡ bits top (w / 2 ^ below / 2 ^ width) ++ (bits width v ++ (bits below (w % 2 ^ below) ++ z)) =
    ap (λ (t : List ℕ). t ++ z) (part_bits top width below v w e) ∙ simp append_assoc in
    ap (over_bits top width v) cut
    ∙ put_after (bits top (w / 2 ^ below / 2 ^ width)) top width v (w / 2 ^ below % 2 ^ width) (bits below (w % 2 ^ below) ++ z) (length-bits top (w / 2 ^ below / 2 ^ width))
    ∙ sym new

-- ---- bytes

with_word_is : (at w : ℕ) (s : List ℕ) → at + 2 ≤ length s → with_word at w s ≡ take at s ++ ((w / 256) ∷ (w % 256) ∷ drop (at + 2) s)
with_word_is at w s h =
    let h' : ℕ = w / 256 in
    let x : List ℕ = with_word at w s in
    let front : take at (with_word at w s) ≡ take at s = take-set-le at (set s at (w / 256)) (at + 1) (w % 256) (omega arith) ∙ take-set-le at s at (w / 256) (omega arith) in
    let e : at + 1 + 1 ≡ at + 2 = omega arith in
    let back : drop at (with_word at w s) ≡ (w / 256) ∷ (w % 256) ∷ drop (at + 2) s =
    drop-set-add at (set s at (w / 256)) 1 (w % 256) ∙ ap (λ (t : List ℕ). set t 1 (w % 256)) (drop-set s at (w / 256) (omega arith) ∙ ap (λ (t : List ℕ). (w / 256) ∷ t) (drop_more s (at + 1) 0 (omega arith)))
    ∙ ap (λ (k : ℕ). (w / 256) ∷ (w % 256) ∷ drop k s) e in
    sym (take-append-drop at (with_word at w s)) ∙ (λ j. front j ++ back j)

two_bits : (w : ℕ) (z : List ℕ) → w < 65536 → bits_of ((w / 256) ∷ (w % 256) ∷ z) ≡ bits 16 w ++ bits_of z
unfolding bits_of
two_bits w z h =
    let e : 256 * (w / 256) + w % 256 ≡ w = omega arith in
    sym (append_assoc (bits 8 (w / 256)) (bits 8 (w % 256)) (bits_of z)) ∙ ap (λ (t : List ℕ). t ++ bits_of z) (sym (word_bits (w / 256) (w % 256) (omega arith)) ∙ ap (bits 16) e)

pub word_bits_of : (at w : ℕ) (s : List ℕ) → at + 2 ≤ length s → w < 65536 → bits_of (with_word at w s) ≡ bits_of (take at s) ++ (bits 16 w ++ bits_of (drop (at + 2) s))
word_bits_of at w s h small = ap bits_of (with_word_is at w s h) ∙ bits_of-append (take at s) ((w / 256) ∷ (w % 256) ∷ drop (at + 2) s) ∙ ap (λ (t : List ℕ). bits_of (take at s) ++ t) (two_bits w (drop (at + 2) s) small)

pub frame_parts : (at : ℕ) (s : List ℕ) → AreBytes s → at + 2 ≤ length s → bits_of s ≡ bits_of (take at s) ++ (bits 16 (word s at) ++ bits_of (drop (at + 2) s))
frame_parts at s b h = ap bits_of (sym (take-append-drop at s)) ∙ bits_of-append (take at s) (drop at s) ∙ ap (λ (t : List ℕ). bits_of (take at s) ++ t) (word_from s at b h)

pub piece_put : (first width v : ℕ) (s : List ℕ) → AreBytes s → first / 16 * 2 + 2 ≤ length s → first % 16 + width ≤ 16 →
    bits_of (with_word (first / 16 * 2) (part_over_bits width (16 - width - first % 16) v (word s (first / 16 * 2))) s) ≡ over_bits first width v (bits_of s)
piece_put first width v s b h r =
    let at : ℕ = first / 16 * 2 in
    let below : ℕ = 16 - width - first % 16 in
    let w : ℕ = word s (first / 16 * 2) in
    let small : word s (first / 16 * 2) < 65536 = omega (arith, b (first / 16 * 2), b (first / 16 * 2 + 1)) in
    let all : first % 16 + width + (16 - width - first % 16) ≡ 16 = omega arith in
    let l : length (bits_of (take (first / 16 * 2) s)) ≡ 8 * (first / 16 * 2) = length-bits_of (take (first / 16 * 2) s) ∙ ap (λ (k : ℕ). 8 * k) (length-take-le (first / 16 * 2) s (omega arith)) in
    let place : first ≡ length (bits_of (take (first / 16 * 2) s)) + first % 16 = omega arith in
    let z : List ℕ = bits_of (drop (first / 16 * 2 + 2) s) in
    word_bits_of (first / 16 * 2) (part_over_bits width (16 - width - first % 16) v (word s (first / 16 * 2))) s h (part_below (first % 16) width (16 - width - first % 16) v (word s (first / 16 * 2)) all small)
    ∙ ap (λ (t : List ℕ). bits_of (take (first / 16 * 2) s) ++ t) (sym (put_in_word (first % 16) width (16 - width - first % 16) v (word s (first / 16 * 2)) (bits_of (drop (first / 16 * 2 + 2) s)) all))
    ∙ sym (put_behind (bits_of (take (first / 16 * 2) s)) (first % 16) width v (bits 16 (word s (first / 16 * 2)) ++ bits_of (drop (first / 16 * 2 + 2) s)))
    ∙ ap (λ (k : ℕ). over_bits k width v (bits_of (take (first / 16 * 2) s) ++ (bits 16 (word s (first / 16 * 2)) ++ bits_of (drop (first / 16 * 2 + 2) s)))) (sym place)
    ∙ ap (over_bits first width v) (sym (frame_parts (first / 16 * 2) s b h))
