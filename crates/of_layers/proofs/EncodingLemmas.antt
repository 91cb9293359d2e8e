-- The bits of a frame, part by part.
use Rattle.std.proofs.Common.{◌≡◌, ℕ, zero, suc, ◌+◌, ◌*◌, ◌/◌, ◌%◌, ◌^◌, ◌<◌, ◌≤◌, List, [], ◌∷◌, ◌++◌, length, get_or, take, drop, refl, sym, ap, ◌∙◌, arith, append_assoc, inl, inr}
use Rattle.std.proofs.lemmas.List.{get_or-drop, get_or-take, get_or_past, drop-drop, length-drop, length-take, drop_more}
use Rattle.std.proofs.lemmas.Bool.{cases_lt}
use Rattle.of_layers.specs.Layers.{Cell, cells_in, byte_cells, inner_cells, tag_cells, addresses, outer_tag, inner_tag, encoded}
use Rattle.of_layers.specs.Reading.{word, double, six, eight, sixteen, tags_of, tag_numbers}
use Rattle.of_layers.{specs.Bits.bits, specs.Bits.bits_of, specs.WellFormed.AreBytes, proofs.BitLemmas.bits_parts, proofs.BitLemmas.bits_cut, proofs.BitLemmas.word_bits}

pub AreBytes-drop : (n : ℕ) (s : List ℕ) → AreBytes s → AreBytes (drop n s)
AreBytes-drop n s h i = rw get_or-drop (h (n + i))

pub AreBytes-take : (n : ℕ) (s : List ℕ) → AreBytes s → AreBytes (take n s)
AreBytes-take n s h i = elim (cases_lt i n) [
  | inl lt ↦ rw (get_or-take n s i 0 lt) (h i)
  | inr le ↦ rw (get_or_past (take n s) i 0 (omega (arith, length-take n s))) (omega arith)
]

pub byte_from : (s : List ℕ) (i : ℕ) → i < length s → bits_of (drop i s) ≡ bits 8 (get_or s i 0) ++ bits_of (drop (i + 1) s)
unfolding bits_of
byte_from s i h = ap bits_of (drop_more s i 0 h)

pub then_bits : (a : List ℕ) {x y z : List ℕ} → x ≡ a ++ y → y ≡ z → x ≡ a ++ z
then_bits a e f = e ∙ ap (λ (t : List ℕ). a ++ t) f

pub word_from : (s : List ℕ) (i : ℕ) → AreBytes s → i + 2 ≤ length s → bits_of (drop i s) ≡ bits 16 (word s i) ++ bits_of (drop (i + 2) s)
word_from s i b h =
    let e : bits_of (drop (i + 1) s) ≡ bits 8 (get_or s (i + 1) 0) ++ bits_of (drop (i + 2) s) = byte_from s (i + 1) (omega arith) ∙ ap (λ (k : ℕ). bits 8 (get_or s (i + 1) 0) ++ bits_of (drop k s)) (omega arith) in
    byte_from s i (omega arith) ∙ ap (λ (t : List ℕ). bits 8 (get_or s i 0) ++ t) e
    ∙ sym (append_assoc (bits 8 (get_or s i 0)) (bits 8 (get_or s (i + 1) 0)) (bits_of (drop (i + 2) s)))
    ∙ ap (λ (t : List ℕ). t ++ bits_of (drop (i + 2) s)) (sym (word_bits (get_or s i 0) (get_or s (i + 1) 0) (b (i + 1))))

pub word_small : (s : List ℕ) (i : ℕ) → AreBytes s → word s i < 2 ^ 16
word_small s i b = omega (arith, b i, b (i + 1))

pub double_from : (s : List ℕ) (i : ℕ) → AreBytes s → i + 4 ≤ length s → bits_of (drop i s) ≡ bits 32 (double s i) ++ bits_of (drop (i + 4) s)
double_from s i b h =
    let e : bits_of (drop (i + 2) s) ≡ bits 16 (word s (i + 2)) ++ bits_of (drop (i + 4) s) = word_from s (i + 2) b (omega arith) ∙ ap (λ (k : ℕ). bits 16 (word s (i + 2)) ++ bits_of (drop k s)) (omega arith) in
    let j : bits 32 (double s i) ≡ bits 16 (word s i) ++ bits 16 (word s (i + 2)) = ap (bits 32) (omega arith) ∙ bits_parts 16 16 (word s i) (word s (i + 2)) (word_small s (i + 2) b) in
    word_from s i b (omega arith) ∙ ap (λ (t : List ℕ). bits 16 (word s i) ++ t) e
    ∙ sym (append_assoc (bits 16 (word s i)) (bits 16 (word s (i + 2))) (bits_of (drop (i + 4) s)))
    ∙ ap (λ (t : List ℕ). t ++ bits_of (drop (i + 4) s)) (sym j)

pub six_from : (s : List ℕ) (i : ℕ) → AreBytes s → i + 6 ≤ length s → bits_of (drop i s) ≡ bits 48 (six s i) ++ bits_of (drop (i + 6) s)
six_from s i b h =
    let e : bits_of (drop (i + 4) s) ≡ bits 16 (word s (i + 4)) ++ bits_of (drop (i + 6) s) = word_from s (i + 4) b (omega arith) ∙ ap (λ (k : ℕ). bits 16 (word s (i + 4)) ++ bits_of (drop k s)) (omega arith) in
    let j : bits 48 (six s i) ≡ bits 32 (double s i) ++ bits 16 (word s (i + 4)) = ap (bits 48) (omega arith) ∙ bits_parts 32 16 (double s i) (word s (i + 4)) (word_small s (i + 4) b) in
    double_from s i b (omega arith) ∙ ap (λ (t : List ℕ). bits 32 (double s i) ++ t) e
    ∙ sym (append_assoc (bits 32 (double s i)) (bits 16 (word s (i + 4))) (bits_of (drop (i + 6) s)))
    ∙ ap (λ (t : List ℕ). t ++ bits_of (drop (i + 6) s)) (sym j)

pub double_small : (s : List ℕ) (i : ℕ) → AreBytes s → double s i < 2 ^ 32
double_small s i b = omega (arith, word_small s i b, word_small s (i + 2) b)

pub six_small : (s : List ℕ) (i : ℕ) → AreBytes s → six s i < 2 ^ 48
six_small s i b = omega (arith, double_small s i b, word_small s (i + 4) b)

eight_bits : (a b : ℕ) → b < 2 ^ 32 → bits 64 (4294967296 * a + b) ≡ bits 32 a ++ bits 32 b
eight_bits a b h = ap (bits 64) (omega arith) ∙ bits_parts 32 32 a b h

eight_below : (a b : ℕ) → a < 2 ^ 32 → b < 2 ^ 32 → 4294967296 * a + b < 2 ^ 64
eight_below a b f g = omega arith

sixteen_bits : (a b : ℕ) → b < 2 ^ 64 → bits 128 (18446744073709551616 * a + b) ≡ bits 64 a ++ bits 64 b
sixteen_bits a b h = ap (bits 128) (omega arith) ∙ bits_parts 64 64 a b h

sixteen_below : (a b : ℕ) → a < 2 ^ 64 → b < 2 ^ 64 → 18446744073709551616 * a + b < 2 ^ 128
sixteen_below a b f g = omega arith

eight_small : (s : List ℕ) (i : ℕ) → AreBytes s → eight s i < 2 ^ 64
eight_small s i b = eight_below (double s i) (double s (i + 4)) (double_small s i b) (double_small s (i + 4) b)

pub sixteen_small : (s : List ℕ) (i : ℕ) → AreBytes s → sixteen s i < 2 ^ 128
sixteen_small s i b = sixteen_below (eight s i) (eight s (i + 8)) (eight_small s i b) (eight_small s (i + 8) b)

-- two numbers behind one another as one
joined : {x y : List ℕ} (a b c z : List ℕ) → x ≡ a ++ y → y ≡ b ++ z → c ≡ a ++ b → x ≡ c ++ z
joined a b c z e f g = e ∙ ap (λ (t : List ℕ). a ++ t) f ∙ sym (append_assoc a b z) ∙ ap (λ (t : List ℕ). t ++ z) (sym g)

eight_from : (s : List ℕ) (i : ℕ) → AreBytes s → i + 8 ≤ length s → bits_of (drop i s) ≡ bits 64 (eight s i) ++ bits_of (drop (i + 8) s)
eight_from s i b h =
    joined (bits 32 (double s i)) (bits 32 (double s (i + 4))) (bits 64 (eight s i)) (bits_of (drop (i + 8) s))
    (double_from s i b (omega arith))
    (double_from s (i + 4) b (omega arith) ∙ ap (λ (k : ℕ). bits 32 (double s (i + 4)) ++ bits_of (drop k s)) (omega arith))
    (eight_bits (double s i) (double s (i + 4)) (double_small s (i + 4) b))

pub sixteen_from : (s : List ℕ) (i : ℕ) → AreBytes s → i + 16 ≤ length s → bits_of (drop i s) ≡ bits 128 (sixteen s i) ++ bits_of (drop (i + 16) s)
sixteen_from s i b h =
    joined (bits 64 (eight s i)) (bits 64 (eight s (i + 8))) (bits 128 (sixteen s i)) (bits_of (drop (i + 16) s))
    (eight_from s i b (omega arith))
    (eight_from s (i + 8) b (omega arith) ∙ ap (λ (k : ℕ). bits 64 (eight s (i + 8)) ++ bits_of (drop k s)) (omega arith))
    (sixteen_bits (eight s i) (eight s (i + 8)) (eight_small s (i + 8) b))

-- a byte or a word in two parts
pub cut_byte : (m n : ℕ) (s : List ℕ) (i : ℕ) → m + n ≡ 8 → i < length s → bits_of (drop i s) ≡ bits m (get_or s i 0 / 2 ^ n) ++ (bits n (get_or s i 0 % 2 ^ n) ++ bits_of (drop (i + 1) s))
cut_byte m n s i e h = byte_from s i h
    ∙ ap (λ (t : List ℕ). t ++ bits_of (drop (i + 1) s)) (ap (λ (k : ℕ). bits k (get_or s i 0)) (sym e) ∙ bits_cut m n (get_or s i 0))
    ∙ append_assoc (bits m (get_or s i 0 / 2 ^ n)) (bits n (get_or s i 0 % 2 ^ n)) (bits_of (drop (i + 1) s))

pub cut_word : (m n : ℕ) (s : List ℕ) (i : ℕ) → m + n ≡ 16 → AreBytes s → i + 2 ≤ length s → bits_of (drop i s) ≡ bits m (word s i / 2 ^ n) ++ (bits n (word s i % 2 ^ n) ++ bits_of (drop (i + 2) s))
cut_word m n s i e b h = word_from s i b h
    ∙ ap (λ (t : List ℕ). t ++ bits_of (drop (i + 2) s)) (ap (λ (k : ℕ). bits k (word s i)) (sym e) ∙ bits_cut m n (word s i))
    ∙ append_assoc (bits m (word s i / 2 ^ n)) (bits n (word s i % 2 ^ n)) (bits_of (drop (i + 2) s))

pub encoded-append : (a b : List Cell) → encoded (a ++ b) ≡ encoded a ++ encoded b
encoded-append [] b = refl
encoded-append (c ∷ a) b = ap (λ (t : List ℕ). bits c.width c.value ++ t) (encoded-append a b) ∙ sym (append_assoc (bits c.width c.value) (encoded a) (encoded b))

pub encoded_bytes : (s : List ℕ) → encoded (byte_cells s) ≡ bits_of s
unfolding bits_of
encoded_bytes [] = refl
encoded_bytes (b ∷ s) = ap (λ (t : List ℕ). bits 8 b ++ t) (encoded_bytes s)

tag_control : (w : ℕ) → bits 16 w ≡ bits 3 (w / 8192) ++ (bits 1 (w / 4096 % 2) ++ bits 12 (w % 4096))
tag_control w =
    let e : w / 4096 / 2 ≡ w / 8192 = omega arith in
    bits_cut 4 12 w ∙ ap (λ (t : List ℕ). t ++ bits 12 (w % 4096)) (bits_cut 3 1 (w / 4096) ∙ ap (λ (x : ℕ). bits 3 x ++ bits 1 (w / 4096 % 2)) e)
    ∙ append_assoc (bits 3 (w / 8192)) (bits 1 (w / 4096 % 2)) (bits 12 (w % 4096))

pub tag_encoded : (s : List ℕ) → AreBytes s → 4 ≤ length s → bits_of s ≡ encoded (cells_in inner_tag (tag_numbers s)) ++ bits_of (drop 4 s)
tag_encoded s b h = simp append_assoc
    (then_bits (bits 16 (word s 0)) (word_from s 0 b (omega arith))
    (word_from s 2 b (omega arith) ∙ ap (λ (t : List ℕ). t ++ bits_of (drop 4 s)) (tag_control (word s 2)) ∙ simp append_assoc))

pub inner_encoded : (n : ℕ) (s : List ℕ) → 4 * n ≤ length s → AreBytes s → bits_of s ≡ encoded (inner_cells (tags_of n s)) ++ bits_of (drop (4 * n) s)
inner_encoded zero s h b = refl
inner_encoded (suc n) s h b =
    let e : drop (4 * n) (drop 4 s) ≡ drop (4 * suc n) s = drop-drop (4 * n) 4 s ∙ ap (λ (k : ℕ). drop k s) (omega arith) in
    let i : bits_of (drop 4 s) ≡ encoded (inner_cells (tags_of n (drop 4 s))) ++ bits_of (drop (4 * n) (drop 4 s)) = inner_encoded n (drop 4 s) (omega (arith, length-drop 4 s)) (AreBytes-drop 4 s b) in
    tag_encoded s b (omega arith) ∙ ap (λ (t : List ℕ). encoded (cells_in inner_tag (tag_numbers s)) ++ t) (i ∙ ap (λ (t : List ℕ). encoded (inner_cells (tags_of n (drop 4 s))) ++ bits_of t) e)
    ∙ sym (append_assoc (encoded (cells_in inner_tag (tag_numbers s))) (encoded (inner_cells (tags_of n (drop 4 s)))) (bits_of (drop (4 * suc n) s)))
    ∙ ap (λ (t : List ℕ). t ++ bits_of (drop (4 * suc n) s)) (sym (encoded-append (cells_in inner_tag (tag_numbers s)) (inner_cells (tags_of n (drop 4 s)))))

-- the names of the outermost tag are not encoded
pub encoded_tags : (n : ℕ) (s : List ℕ) → encoded (tag_cells (tags_of n s)) ≡ encoded (inner_cells (tags_of n s))
encoded_tags zero s = refl
encoded_tags (suc n) s = encoded-append (cells_in outer_tag (tag_numbers s)) (inner_cells (tags_of n (drop 4 s))) ∙ sym (encoded-append (cells_in inner_tag (tag_numbers s)) (inner_cells (tags_of n (drop 4 s))))

pub ends_encoded : (frame : List ℕ) → AreBytes frame → 12 ≤ length frame → bits_of frame ≡ encoded (cells_in addresses (six frame 0 ∷ six frame 6 ∷ [])) ++ bits_of (drop 12 frame)
ends_encoded frame b h = simp append_assoc (six_from frame 0 b (omega arith) ∙ ap (λ (x : List ℕ). bits 48 (six frame 0) ++ x) (six_from frame 6 b (omega arith)))
