-- What is written begins with its fields.
use Rattle.std.proofs.Common.{◌≡◌, ℕ, ◌+◌, ◌*◌, ◌%◌, ◌^◌, ◌<◌, ◌≤◌, zero, suc, List, [], ◌∷◌, ◌++◌, length, take, drop, refl, sym, ap, subst, ◌∙◌, arith}
use Rattle.std.proofs.lemmas.List.{append-nil, append_assoc, length-append, length-replicate, drop_at, take-append-le, take_all}
use Rattle.byteorder.specs.{Endian.big_number, Endian.big_bytes, Numbers.big_number-reads_back, Numbers.length-bytes_high_first}
use Rattle.of_messages.specs.Written.{message}
use Rattle.of_laws.specs.Cells.{StructCell, byte, number, plain, pad, even, u16_cell, u32_cell, cell_width, IsCell, Begins, FitsCells, canonical_cell as text}
use Rattle.of_laws.proofs.Places.{size}
pub use Rattle.of_laws.specs.Cells.{canonical_cells as encoding}

length-text : (c : StructCell) (cs : List StructCell) → FitsCells (c ∷ cs) → length (text c) ≡ cell_width c
length-text (byte n) cs f = refl
length-text (number w n) cs f = length-bytes_high_first w n
length-text (plain w xs) cs f = f.0
length-text (pad w) cs f = length-replicate w 0
length-text (even w) cs f = length-bytes_high_first w 0

fits_rest : (c : StructCell) (cs : List StructCell) → FitsCells (c ∷ cs) → FitsCells cs
fits_rest (byte n) cs f = f.1
fits_rest (number w n) cs f = f.1
fits_rest (plain w xs) cs f = f.1
fits_rest (pad w) cs f = f
fits_rest (even w) cs f = f

some : (w : ℕ) → 0 < 256 ^ w
some zero = omega arith
some (suc w) = let less = some w in omega (arith, pow_suc w)
  where
    pow_suc : (w : ℕ) → 256 ^ suc w ≡ 256 * 256 ^ w
    pow_suc w = omega arith

zeros : (w : ℕ) → big_number w (big_bytes w 0) ≡ 0
zeros w = ap (big_number w) (sym (append-nil (big_bytes w 0))) ∙ big_number-reads_back w 0 [] (some w)

text_is : (c : StructCell) (cs : List StructCell) → FitsCells (c ∷ cs) → IsCell c (text c)
text_is (byte n) cs f = (f.0, refl)
text_is (number w n) cs f = (f.0, refl)
text_is (plain w xs) cs f = (f.0, refl)
text_is (pad w) cs f = tt
text_is (even w) cs f = ap (λ (n : ℕ). n % 2) (zeros w)

-- whatever follows
pub written : (cs : List StructCell) (rest : List ℕ) → FitsCells cs → Begins cs (encoding cs ++ rest) rest
written [] rest f = refl
written (c ∷ cs) rest f =
    let len = length-text c cs f in
    let whole : encoding (c ∷ cs) ++ rest ≡ text c ++ (encoding cs ++ rest) = append_assoc (text c) (encoding cs) rest in
    let front : take (cell_width c) (text c ++ (encoding cs ++ rest)) ≡ text c = take-append-le (cell_width c) (text c) (encoding cs ++ rest) (omega arith) ∙ take_all (cell_width c) (text c) (omega arith) in
    let behind : drop (cell_width c) (text c ++ (encoding cs ++ rest)) ≡ encoding cs ++ rest = drop_at (text c) (encoding cs ++ rest) (cell_width c) len in
    rw (whole, front, behind) (omega (arith, length-append (text c) (encoding cs ++ rest)), text_is c cs f, written cs rest (fits_rest c cs f))

pub length-encoding : (cs : List StructCell) → FitsCells cs → length (encoding cs) ≡ size cs
length-encoding [] f = refl
length-encoding (c ∷ cs) f = omega (arith, length-append (text c) (encoding cs), length-text c cs f, length-encoding cs (fits_rest c cs f))

-- a message of version 4 begins with its header and its fields
pub fronted : (k xid : ℕ) (cs : List StructCell) (body tail : List ℕ) → body ≡ encoding cs ++ tail → k < 256 → xid < 256 ^ 4 → FitsCells cs → length body ≤ 65527
    → Begins (byte 4 ∷ byte k ∷ u16_cell (length (message k xid body)) ∷ u32_cell xid ∷ cs) (message k xid body) tail
fronted k xid cs body tail e kind x fits short =
    let n = 8 + length body in
    let long : length (message k xid body) ≡ n = omega arith in
    let front : List StructCell = byte 4 ∷ byte k ∷ u16_cell n ∷ u32_cell xid ∷ cs in
    let all : FitsCells front = (omega arith, (kind, (omega arith, (x, fits)))) in
    let parts : encoding front ++ tail ≡ message k xid body = ap (λ (b : List ℕ). 4 ∷ k ∷ (big_bytes 2 n ++ (big_bytes 4 xid ++ b))) (sym e) in
    let begun : Begins front (message k xid body) tail = subst (λ (b : List ℕ). Begins front b tail) parts (written front tail all) in
    subst (λ (j : ℕ). Begins (byte 4 ∷ byte k ∷ u16_cell j ∷ u32_cell xid ∷ cs) (message k xid body) tail) (sym long) begun
