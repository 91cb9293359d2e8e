-- Fields one after the other, and the same by places; and what is written begins with its fields.
use Rattle.std.proofs.Common.{◌≡◌, ℕ, suc, ◌+◌, ◌%◌, ◌^◌, ◌<◌, ◌≤◌, List, [], ◌∷◌, length, get_or, take, drop, drop-cons, sym, ap, subst, ◌∙◌, arith}
use Rattle.std.proofs.lemmas.List.{append-nil, length-drop, length-take-le, drop-drop, get_or-take, get_or-drop}
use Rattle.std.specs.Prelude.{slice_index}
use Rattle.byteorder.specs.{Endian.big_number, Endian.big_bytes, Numbers.big_from-take, Numbers.big_from-lt, Numbers.big_number-reads_back}
use Rattle.of_wire.proofs.Numbers.{IsBytes, IsBytes-drop, big_bytes-big_number}
use Rattle.of_laws.specs.Cells.{StructCell, byte, number, pad, plain, even, cell_width, IsCell, Begins}

abbrev pub size : List StructCell → ℕ
size [] = 0
size (c ∷ cs) = cell_width c + size cs

-- from the place `o` on, the bytes say these fields
abbrev pub Says : ℕ → List StructCell → List ℕ → Type 0
Says o [] bytes = Unit {0}
Says o (byte n ∷ cs) bytes = (slice_index bytes o ≡ n) × Says (o + 1) cs bytes
Says o (number w n ∷ cs) bytes = (big_number w (drop o bytes) ≡ n) × Says (o + w) cs bytes
Says o (plain w xs ∷ cs) bytes = (take w (drop o bytes) ≡ xs) × Says (o + w) cs bytes
Says o (pad w ∷ cs) bytes = Says (o + w) cs bytes
Says o (even w ∷ cs) bytes = (big_number w (drop o bytes) % 2 ≡ 0) × Says (o + w) cs bytes

-- ---- from fields to what is in their places

number_read : (w n : ℕ) (bytes : List ℕ) → n < 256 ^ w → take w bytes ≡ big_bytes w n → big_number w bytes ≡ n
number_read w n bytes lt h =
    sym (big_from-take 0 w w bytes (omega arith)) ∙ ap (λ (x : List ℕ). big_number w x) (h ∙ sym (append-nil (big_bytes w n))) ∙ big_number-reads_back w n [] lt

byte_read : (o n : ℕ) (whole : List ℕ) → take 1 (drop o whole) ≡ n ∷ [] → slice_index whole o ≡ n
byte_read o n whole h =
    let first : get_or (take 1 (drop o whole)) 0 0 ≡ n = ap (λ (x : List ℕ). get_or x 0 0) h in
    let taken : get_or (take 1 (drop o whole)) 0 0 ≡ get_or (drop o whole) 0 0 = get_or-take 1 (drop o whole) 0 0 (omega arith) in
    let there : get_or (drop o whole) 0 0 ≡ get_or whole o 0 = get_or-drop o whole 0 0 ∙ ap (λ (k : ℕ). get_or whole k 0) (omega arith) in
    sym there ∙ sym taken ∙ first

even_read : (w : ℕ) (bytes : List ℕ) → big_number w (take w bytes) ≡ big_number w bytes
even_read w bytes = big_from-take 0 w w bytes (omega arith)

next_place : (o w : ℕ) (whole bytes : List ℕ) → bytes ≡ drop o whole → drop w bytes ≡ drop (o + w) whole
next_place o w whole bytes e = ap (λ (x : List ℕ). drop w x) e ∙ drop-drop w o whole

pub says : (o : ℕ) (cs : List StructCell) (whole bytes rest : List ℕ) → bytes ≡ drop o whole → Begins cs bytes rest → Says o cs whole
says o [] whole bytes rest e h = tt
says o (byte n ∷ cs) whole bytes rest e h =
    (byte_read o n whole (ap (λ (x : List ℕ). take 1 x) (sym e) ∙ h.1.1), says (o + 1) cs whole (drop 1 bytes) rest (next_place o 1 whole bytes e) h.2)
says o (number w n ∷ cs) whole bytes rest e h =
    (ap (λ (x : List ℕ). big_number w x) (sym e) ∙ number_read w n bytes h.1.0 h.1.1, says (o + w) cs whole (drop w bytes) rest (next_place o w whole bytes e) h.2)
says o (plain w xs ∷ cs) whole bytes rest e h =
    (ap (λ (x : List ℕ). take w x) (sym e) ∙ h.1.1, says (o + w) cs whole (drop w bytes) rest (next_place o w whole bytes e) h.2)
says o (pad w ∷ cs) whole bytes rest e h = says (o + w) cs whole (drop w bytes) rest (next_place o w whole bytes e) h.2
says o (even w ∷ cs) whole bytes rest e h =
    (ap (λ (x : List ℕ). big_number w x % 2) (sym e) ∙ ap (λ (n : ℕ). n % 2) (sym (even_read w bytes)) ∙ h.1, says (o + w) cs whole (drop w bytes) rest (next_place o w whole bytes e) h.2)

-- the rest follows the fields
pub rest_is : (cs : List StructCell) (bytes rest : List ℕ) → Begins cs bytes rest → rest ≡ drop (size cs) bytes
rest_is [] bytes rest h = sym h
rest_is (c ∷ cs) bytes rest h = rest_is cs (drop (cell_width c) bytes) rest h.2 ∙ drop-drop (size cs) (cell_width c) bytes

pub size_is : (cs : List StructCell) (bytes rest : List ℕ) → Begins cs bytes rest → length bytes ≡ size cs + length rest
size_is [] bytes rest h = let e : length bytes ≡ length rest = ap length h in omega arith
size_is (c ∷ cs) bytes rest h =
    let others = size_is cs (drop (cell_width c) bytes) rest h.2 in
    let cut = length-drop (cell_width c) bytes in
    let fits = h.0 in
    omega arith

-- ---- from places to fields

byte_front : (o n : ℕ) (whole : List ℕ) → IsBytes whole → o + 1 ≤ length whole → slice_index whole o ≡ n → IsCell (byte n) (take 1 (drop o whole))
byte_front o n whole b long h =
    let e : drop o whole ≡ get_or whole o 0 ∷ drop (suc o) whole = drop-cons whole o 0 (omega arith) in
    (omega (arith, b o, h), ap (λ (x : List ℕ). take 1 x) e ∙ ap (λ (k : ℕ). k ∷ []) h)

number_front : (o w n : ℕ) (whole : List ℕ) → IsBytes whole → o + w ≤ length whole → big_number w (drop o whole) ≡ n → IsCell (number w n) (take w (drop o whole))
number_front o w n whole b long h =
    let fits : IsBytes (drop o whole) = IsBytes-drop o whole b in
    let lt : big_number w (drop o whole) < 256 ^ w = big_from-lt 0 w (drop o whole) fits in
    (omega (arith, lt, h), sym (big_bytes-big_number w (drop o whole) (omega (arith, length-drop o whole)) fits) ∙ ap (big_bytes w) h)

next_begins : (o w : ℕ) (cs : List StructCell) (whole : List ℕ) → Begins cs (drop (o + w) whole) (drop (o + w + size cs) whole) → Begins cs (drop w (drop o whole)) (drop (o + (w + size cs)) whole)
next_begins o w cs whole h =
    let there : drop (o + w + size cs) whole ≡ drop (o + (w + size cs)) whole = ap (λ (k : ℕ). drop k whole) (omega arith) in
    rw (drop-drop w o whole, ← there) h

pub begins : (o : ℕ) (cs : List StructCell) (whole : List ℕ) → IsBytes whole → o + size cs ≤ length whole → Says o cs whole → Begins cs (drop o whole) (drop (o + size cs) whole)
begins o [] whole b long h = ap (λ (k : ℕ). drop k whole) (omega arith)
begins o (byte n ∷ cs) whole b long h =
    (omega (arith, length-drop o whole), byte_front o n whole b (omega arith) h.0, next_begins o 1 cs whole (begins (o + 1) cs whole b (omega arith) h.1))
begins o (number w n ∷ cs) whole b long h =
    (omega (arith, length-drop o whole), number_front o w n whole b (omega arith) h.0, next_begins o w cs whole (begins (o + w) cs whole b (omega arith) h.1))
begins o (plain w xs ∷ cs) whole b long h =
    let room : w ≤ length (drop o whole) = omega (arith, length-drop o whole) in
    let len : length xs ≡ w = sym (ap length h.0) ∙ length-take-le w (drop o whole) room in
    (room, (len, h.0), next_begins o w cs whole (begins (o + w) cs whole b (omega arith) h.1))
begins o (pad w ∷ cs) whole b long h =
    (omega (arith, length-drop o whole), tt, next_begins o w cs whole (begins (o + w) cs whole b (omega arith) h))
begins o (even w ∷ cs) whole b long h =
    (omega (arith, length-drop o whole), ap (λ (n : ℕ). n % 2) (even_read w (drop o whole)) ∙ h.0, next_begins o w cs whole (begins (o + w) cs whole b (omega arith) h.1))

-- the fields that all the bytes begin with
pub front_of : (cs : List StructCell) (whole : List ℕ) → IsBytes whole → size cs ≤ length whole → Says 0 cs whole → Begins cs whole (drop (size cs) whole)
front_of cs whole b long h =
    let place : 0 + size cs ≡ size cs = omega arith in
    subst (λ (k : ℕ). Begins cs whole (drop k whole)) place (begins 0 cs whole b (omega arith) h)
