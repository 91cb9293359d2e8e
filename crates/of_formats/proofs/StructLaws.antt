-- What holds of every struct: what is written is read again, numbers that are read fit, and bytes with the same numbers are the same but for padding.
use Rattle.std.proofs.Common.{◌≡◌, ℕ, zero, suc, ◌+◌, ◌≤◌, List, [], ◌∷◌, ◌++◌, length, get_or, take, drop, drop-cons, refl, sym, ap, ◌∙◌, arith}
use Rattle.std.proofs.lemmas.List.{append_assoc, length-append, length-drop, length-replicate, drop-drop, drop_at, get_or-drop}
use Rattle.std.specs.Prelude.{replicate}
use Rattle.byteorder.specs.{Endian.big_number, Endian.big_bytes, Numbers.big_from-lt, Numbers.big_number-reads_back, Numbers.length-bytes_high_first}
use Rattle.of_wire.proofs.Numbers.{IsBytes, IsBytes-drop, big_bytes-big_number}
use Rattle.of_formats.specs.Structs.{Struct, byte, number, plain, pad, size, numbers, texts, bytes_from, written_with, FitsStruct, cleared}

-- ---- a struct at a place is a struct at the front of what begins there

place : (s : Struct) (k at w : ℕ) (m : List ℕ) → numbers s (k + (at + w)) m ≡ numbers s (k + at + w) m
place s k at w m = ap (λ (i : ℕ). numbers s i m) (omega arith)

pub numbers_at : (s : Struct) (k at : ℕ) (m : List ℕ) → numbers s at (drop k m) ≡ numbers s (k + at) m
numbers_at [] k at m = refl
numbers_at (byte name ∷ s) k at m = cc (get_or-drop k m at 0, numbers_at s k (at + 1) m, place s k at 1 m)
numbers_at (number name w ∷ s) k at m =
    let rest : numbers s (at + w) (drop k m) ≡ numbers s (k + at + w) m = numbers_at s k (at + w) m ∙ place s k at w m in
    let here : drop at (drop k m) ≡ drop (k + at) m = drop-drop at k m in
    ap (λ (x : List ℕ). big_number w x ∷ numbers s (at + w) (drop k m)) here ∙ ap (λ (ns : List ℕ). big_number w (drop (k + at) m) ∷ ns) rest
numbers_at (plain name w ∷ s) k at m = numbers_at s k (at + w) m ∙ place s k at w m
numbers_at (pad w ∷ s) k at m = numbers_at s k (at + w) m ∙ place s k at w m

bytes_at : (n k at : ℕ) (m : List ℕ) → bytes_from at n (drop k m) ≡ bytes_from (k + at) n m
bytes_at zero k at m = refl
bytes_at (suc n) k at m =
    let next : k + suc at ≡ suc (k + at) = omega arith in
    let rest : bytes_from (suc at) n (drop k m) ≡ bytes_from (suc (k + at)) n m = bytes_at n k (suc at) m ∙ ap (λ (i : ℕ). bytes_from i n m) next in
    cc (get_or-drop k m at 0, rest)

text_place : (s : Struct) (k at w : ℕ) (m : List ℕ) → texts s (k + (at + w)) m ≡ texts s (k + at + w) m
text_place s k at w m = ap (λ (i : ℕ). texts s i m) (omega arith)

pub texts_at : (s : Struct) (k at : ℕ) (m : List ℕ) → texts s at (drop k m) ≡ texts s (k + at) m
texts_at [] k at m = refl
texts_at (byte name ∷ s) k at m = texts_at s k (at + 1) m ∙ text_place s k at 1 m
texts_at (number name w ∷ s) k at m = texts_at s k (at + w) m ∙ text_place s k at w m
texts_at (plain name w ∷ s) k at m =
    let rest : texts s (at + w) (drop k m) ≡ texts s (k + at + w) m = texts_at s k (at + w) m ∙ text_place s k at w m in
    cc (bytes_at w k at m, rest)
texts_at (pad w ∷ s) k at m = texts_at s k (at + w) m ∙ text_place s k at w m

-- ---- what follows a part

behind : (s : Struct) (i : ℕ) (part more : List ℕ) → length part ≡ i → numbers s i (part ++ more) ≡ numbers s 0 more
behind s i part more e =
    let here : numbers s i (part ++ more) ≡ numbers s (i + 0) (part ++ more) = ap (λ (j : ℕ). numbers s j (part ++ more)) (omega arith) in
    here ∙ sym (numbers_at s i 0 (part ++ more)) ∙ ap (numbers s 0) (drop_at part more i e)

texts_behind : (s : Struct) (i : ℕ) (part more : List ℕ) → length part ≡ i → texts s i (part ++ more) ≡ texts s 0 more
texts_behind s i part more e =
    let here : texts s i (part ++ more) ≡ texts s (i + 0) (part ++ more) = ap (λ (j : ℕ). texts s j (part ++ more)) (omega arith) in
    here ∙ sym (texts_at s i 0 (part ++ more)) ∙ ap (texts s 0) (drop_at part more i e)

-- ---- what is written is read again

pub written_is_read : (s : Struct) (ns : List ℕ) (xs : List (List ℕ)) (rest : List ℕ) → FitsStruct s ns xs → numbers s 0 (written_with s ns xs ++ rest) ≡ ns
written_is_read [] [] [] rest f = refl
written_is_read [] [] (x ∷ xs) rest f = absurd f
written_is_read [] (n ∷ ns) xs rest f = absurd f
written_is_read (byte name ∷ s) [] xs rest f = absurd f
written_is_read (byte name ∷ s) (n ∷ ns) xs rest f =
    ap (λ (l : List ℕ). n ∷ l) (behind s 1 (n ∷ []) (written_with s ns xs ++ rest) refl ∙ written_is_read s ns xs rest f.1)
written_is_read (number name w ∷ s) [] xs rest f = absurd f
written_is_read (number name w ∷ s) (n ∷ ns) xs rest f =
    let more = written_with s ns xs ++ rest in
    let whole : (big_bytes w n ++ written_with s ns xs) ++ rest ≡ big_bytes w n ++ more = append_assoc (big_bytes w n) (written_with s ns xs) rest in
    let len : length (big_bytes w n) ≡ 0 + w = omega (arith, length-bytes_high_first w n) in
    let head : big_number w (big_bytes w n ++ more) ≡ n = big_number-reads_back w n more f.0 in
    let tail : numbers s (0 + w) (big_bytes w n ++ more) ≡ ns = behind s (0 + w) (big_bytes w n) more len ∙ written_is_read s ns xs rest f.1 in
    ap (λ (m : List ℕ). big_number w m ∷ numbers s (0 + w) m) whole ∙ ap (λ (k : ℕ). k ∷ numbers s (0 + w) (big_bytes w n ++ more)) head ∙ ap (λ (l : List ℕ). n ∷ l) tail
written_is_read (plain name w ∷ s) ns [] rest f = absurd f
written_is_read (plain name w ∷ s) ns (x ∷ xs) rest f =
    let more = written_with s ns xs ++ rest in
    ap (numbers s (0 + w)) (append_assoc x (written_with s ns xs) rest) ∙ behind s (0 + w) x more (omega (arith, f.0)) ∙ written_is_read s ns xs rest f.1
written_is_read (pad w ∷ s) ns xs rest f =
    let more = written_with s ns xs ++ rest in
    ap (numbers s (0 + w)) (append_assoc (replicate w 0) (written_with s ns xs) rest) ∙ behind s (0 + w) (replicate w 0) more (omega (arith, length-replicate {A = ℕ} w 0)) ∙ written_is_read s ns xs rest f

bytes_read : (x rest : List ℕ) (w : ℕ) → length x ≡ w → bytes_from 0 w (x ++ rest) ≡ x
bytes_read [] rest zero e = refl
bytes_read [] rest (suc w) e = absurd (omega arith)
bytes_read (b ∷ x) rest zero e = absurd (omega arith)
bytes_read (b ∷ x) rest (suc w) e = ap (λ (l : List ℕ). b ∷ l) (sym (bytes_at w 1 0 (b ∷ (x ++ rest))) ∙ bytes_read x rest w (omega arith))

pub written_texts : (s : Struct) (ns : List ℕ) (xs : List (List ℕ)) (rest : List ℕ) → FitsStruct s ns xs → texts s 0 (written_with s ns xs ++ rest) ≡ xs
written_texts [] [] [] rest f = refl
written_texts [] [] (x ∷ xs) rest f = absurd f
written_texts [] (n ∷ ns) xs rest f = absurd f
written_texts (byte name ∷ s) [] xs rest f = absurd f
written_texts (byte name ∷ s) (n ∷ ns) xs rest f = texts_behind s 1 (n ∷ []) (written_with s ns xs ++ rest) refl ∙ written_texts s ns xs rest f.1
written_texts (number name w ∷ s) [] xs rest f = absurd f
written_texts (number name w ∷ s) (n ∷ ns) xs rest f =
    let more = written_with s ns xs ++ rest in
    ap (texts s (0 + w)) (append_assoc (big_bytes w n) (written_with s ns xs) rest) ∙ texts_behind s (0 + w) (big_bytes w n) more (omega (arith, length-bytes_high_first w n)) ∙ written_texts s ns xs rest f.1
written_texts (plain name w ∷ s) ns [] rest f = absurd f
written_texts (plain name w ∷ s) ns (x ∷ xs) rest f =
    let more = written_with s ns xs ++ rest in
    let whole : (x ++ written_with s ns xs) ++ rest ≡ x ++ more = append_assoc x (written_with s ns xs) rest in
    let head : bytes_from 0 w (x ++ more) ≡ x = bytes_read x more w f.0 in
    let tail : texts s (0 + w) (x ++ more) ≡ xs = texts_behind s (0 + w) x more (omega (arith, f.0)) ∙ written_texts s ns xs rest f.1 in
    ap (λ (m : List ℕ). bytes_from 0 w m ∷ texts s (0 + w) m) whole ∙ cc (head, tail)
written_texts (pad w ∷ s) ns xs rest f =
    let more = written_with s ns xs ++ rest in
    ap (texts s (0 + w)) (append_assoc (replicate w 0) (written_with s ns xs) rest) ∙ texts_behind s (0 + w) (replicate w 0) more (omega (arith, length-replicate {A = ℕ} w 0)) ∙ written_texts s ns xs rest f

-- ---- its length

pub length_written : (s : Struct) (ns : List ℕ) (xs : List (List ℕ)) → FitsStruct s ns xs → length (written_with s ns xs) ≡ size s
length_written [] [] [] f = refl
length_written [] [] (x ∷ xs) f = absurd f
length_written [] (n ∷ ns) xs f = absurd f
length_written (byte name ∷ s) [] xs f = absurd f
length_written (byte name ∷ s) (n ∷ ns) xs f = let rest = length_written s ns xs f.1 in omega arith
length_written (number name w ∷ s) [] xs f = absurd f
length_written (number name w ∷ s) (n ∷ ns) xs f = omega (arith, length-append (big_bytes w n) (written_with s ns xs), length-bytes_high_first w n, length_written s ns xs f.1)
length_written (plain name w ∷ s) ns [] f = absurd f
length_written (plain name w ∷ s) ns (x ∷ xs) f = omega (arith, length-append x (written_with s ns xs), f.0, length_written s ns xs f.1)
length_written (pad w ∷ s) ns xs f = omega (arith, length-append (replicate w 0) (written_with s ns xs), length-replicate {A = ℕ} w 0, length_written s ns xs f)

-- ---- what is read fits

length_bytes : (n at : ℕ) (m : List ℕ) → length (bytes_from at n m) ≡ n
length_bytes zero at m = refl
length_bytes (suc n) at m = let rest = length_bytes n (suc at) m in omega arith

pub numbers_fit : (s : Struct) (at : ℕ) (m : List ℕ) → IsBytes m → FitsStruct s (numbers s at m) (texts s at m)
numbers_fit [] at m b = tt
numbers_fit (byte name ∷ s) at m b = (b at, numbers_fit s (at + 1) m b)
numbers_fit (number name w ∷ s) at m b = (big_from-lt 0 w (drop at m) (IsBytes-drop at m b), numbers_fit s (at + w) m b)
numbers_fit (plain name w ∷ s) at m b = (length_bytes w at m, numbers_fit s (at + w) m b)
numbers_fit (pad w ∷ s) at m b = numbers_fit s (at + w) m b

-- ---- the same numbers are the same bytes, but for padding

pub bytes_taken : (n at : ℕ) (m : List ℕ) → at + n ≤ length m → bytes_from at n m ≡ take n (drop at m)
bytes_taken zero at m h = refl
bytes_taken (suc n) at m h =
    let here : drop at m ≡ get_or m at 0 ∷ drop (suc at) m = drop-cons m at 0 (omega arith) in
    let rest = bytes_taken n (suc at) m (omega arith) in
    ap (λ (l : List ℕ). get_or m at 0 ∷ l) rest ∙ sym (ap (take (suc n)) here)

onward : (s : Struct) (at w : ℕ) (m : List ℕ) → cleared s (drop (at + w) m) ≡ cleared s (drop w (drop at m))
onward s at w m = ap (cleared s) (sym (drop-drop w at m))

pub written_again : (s : Struct) (at : ℕ) (m : List ℕ) → IsBytes m → at + size s ≤ length m → written_with s (numbers s at m) (texts s at m) ≡ cleared s (drop at m)
written_again [] at m b h = refl
written_again (byte name ∷ s) at m b h =
    let here : drop at m ≡ get_or m at 0 ∷ drop (suc at) m = drop-cons m at 0 (omega arith) in
    let first : take 1 (drop at m) ≡ get_or m at 0 ∷ [] = ap (take 1) here in
    let rest = written_again s (at + 1) m b (omega arith) ∙ onward s at 1 m in
    ap (λ (l : List ℕ). get_or m at 0 ∷ l) rest ∙ sym (ap (λ (l : List ℕ). l ++ cleared s (drop 1 (drop at m))) first)
written_again (number name w ∷ s) at m b h =
    let first : big_bytes w (big_number w (drop at m)) ≡ take w (drop at m) = big_bytes-big_number w (drop at m) (omega (arith, length-drop at m)) (IsBytes-drop at m b) in
    let rest = written_again s (at + w) m b (omega arith) ∙ onward s at w m in
    ap (λ (l : List ℕ). big_bytes w (big_number w (drop at m)) ++ l) rest ∙ ap (λ (l : List ℕ). l ++ cleared s (drop w (drop at m))) first
written_again (plain name w ∷ s) at m b h =
    let first = bytes_taken w at m (omega arith) in
    let rest = written_again s (at + w) m b (omega arith) ∙ onward s at w m in
    ap (λ (l : List ℕ). bytes_from at w m ++ l) rest ∙ ap (λ (l : List ℕ). l ++ cleared s (drop w (drop at m))) first
written_again (pad w ∷ s) at m b h = ap (λ (l : List ℕ). replicate w 0 ++ l) (written_again s (at + w) m b (omega arith) ∙ onward s at w m)

pub same_but_padding : (s : Struct) (a b : List ℕ) → IsBytes a → IsBytes b → size s ≤ length a → size s ≤ length b → numbers s 0 a ≡ numbers s 0 b → texts s 0 a ≡ texts s 0 b → cleared s a ≡ cleared s b
same_but_padding s a b ia ib la lb ns xs =
    sym (written_again s 0 a ia (omega arith)) ∙ ap (λ (l : List ℕ). written_with s l (texts s 0 a)) ns ∙ ap (written_with s (numbers s 0 b)) xs ∙ written_again s 0 b ib (omega arith)
