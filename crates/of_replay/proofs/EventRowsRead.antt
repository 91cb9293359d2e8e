-- The rows of a file of chunks.
use Rattle.std.proofs.Common.{◌≡◌, ℕ, ◌+◌, ◌<◌, ◌≤◌, ◌/◌, ◌%◌, suc, zero, eqb, Bool, true, false, not, List, [], ◌∷◌, ◌++◌, length, codes, Option, Some, None, refl, sym, ◌∙◌, ap, subst, append_assoc, arith}
use Rattle.std.proofs.lemmas.Bool.{and_from, and_parts, le-leb, ltb-true, ne_eqb, and_right}
use Rattle.std.specs.{Prelude.nat_le, Prelude.nat_lt, Prelude.position, Prelude.slice_index, List.AllByRecursion, List.list_all, Option.option_map, Str.IsAscii, Str.bytes_eq, Str.chars, Str.is_utf8}
use Rattle.std.proofs.{lemmas.List.append-nil, lemmas.Str.IsUtf8-from_ascii, lemmas.Str.is_utf8-from_IsUtf8, lemmas.Str.Ascii.IsAscii-cons}
use lib.Utf8.{encode}
use Rattle.hex.specs.Hex.{IsBytes, encode_lower, encode_with, lower_digits}
use Rattle.hex.proofs.HexLemmas.{IsAscii-encode_with, decode_of-encode_lower, length-encode_with}
use Rattle.of_table.proofs.PlaceLemmas.{position-first, position-later}
use Rattle.of_build.specs.Building.{chunk_line}
use Rattle.of_switch.specs.{declared.event.Event.Event, declared.event.Event.TheVariants.Chunk, declared.event.Event.TheVariants.Connect}
use Rattle.of_replay.specs.Lexing.{whole_from, last_from, lines_of_file, is_line, hex_bytes}
use Rattle.of_replay.specs.Rows.{events_in, row_of_line, rows_of_lines}

-- ---- lines

-- without LF
abbrev pub IsOne : List ℕ → Type 0
IsOne line = AllByRecursion (λ (b : ℕ). eqb b 10 ≡ false) line

whole_line : (front line rest : List ℕ) → IsOne line → whole_from front (line ++ 10 ∷ rest) ≡ (front ++ line) ∷ whole_from [] rest
whole_line front [] rest h = ap (λ (x : List ℕ). x ∷ whole_from [] rest) (sym (append-nil front))
whole_line front (b ∷ bs) rest h = rw h.0 (whole_line (front ++ b ∷ []) bs rest h.1 ∙ ap (λ (x : List ℕ). x ∷ whole_from [] rest) (append_assoc front (b ∷ []) bs))

last_line : (front line rest : List ℕ) → IsOne line → last_from front (line ++ 10 ∷ rest) ≡ last_from [] rest
last_line front [] rest h = refl
last_line front (b ∷ bs) rest h = rw h.0 (last_line (front ++ b ∷ []) bs rest h.1)

-- a line, and then the lines of the rest
next_line : (line rest : List ℕ) → IsOne line → lines_of_file (line ++ 10 ∷ rest) ≡ line ∷ lines_of_file rest
next_line line rest h = rw (whole_line [] line rest h, last_line [] line rest h) refl

-- ---- the digits

each_place : (p : ℕ → Bool) (xs : List ℕ) → p 0 ≡ true → list_all p xs ≡ true → (d : ℕ) → p (slice_index xs d) ≡ true
each_place p [] none all d = none
each_place p (x ∷ xs) none all zero = (and_parts (p x) (list_all p xs) all).0
each_place p (x ∷ xs) none all (suc d) = each_place p xs none (and_parts (p x) (list_all p xs) all).1 d

digits_ascii : (d : ℕ) → slice_index lower_digits d < 128
digits_ascii d = ltb-true (slice_index lower_digits d) 128 (each_place (λ b. nat_lt b 128) lower_digits refl refl d)

no_lf : (d : ℕ) → eqb (slice_index lower_digits d) 10 ≡ false
no_lf d = not-true (eqb (slice_index lower_digits d) 10) (each_place (λ b. not (eqb b 10)) lower_digits refl refl d)
  where
    not-true : (b : Bool) → not b ≡ true → b ≡ false
    not-true true h = absurd cc
    not-true false h = refl

hex_one : (bytes : List ℕ) → IsOne (encode_lower bytes)
unfolding encode_with
hex_one [] = tt
hex_one (b ∷ bs) = (no_lf (b / 16), (no_lf (b % 16), hex_one bs))

-- ---- the row of a chunk

-- bytes that are written as one row
pub record IsShown (bytes : List ℕ) : Type 0 where
  pub each : IsBytes bytes
  pub some : 0 < length bytes
  pub few : length bytes ≤ 65535

abbrev pub shown : List ℕ → List ℕ
shown bytes = codes "c " ++ encode_lower bytes

shown_ascii : (bytes : List ℕ) → IsAscii (shown bytes)
shown_ascii bytes = IsAscii-cons 99 (32 ∷ encode_lower bytes) (omega arith) (IsAscii-cons 32 (encode_lower bytes) (omega arith) (IsAscii-encode_with lower_digits bytes digits_ascii))

shown_line : (bytes : List ℕ) → length bytes ≤ 65535 → is_line (shown bytes) ≡ true
shown_line bytes few =
    let size = length-encode_with lower_digits bytes in
    and_from (nat_le (length (shown bytes)) 1048576) (is_utf8 (shown bytes)) (le-leb (length (shown bytes)) 1048576 (omega (arith, size, few))) (is_utf8-from_IsUtf8 (shown bytes) (IsUtf8-from_ascii (shown bytes) (shown_ascii bytes)))

space : (bytes : List ℕ) → position (λ (b : ℕ). eqb b 32) (shown bytes) ≡ Some 1
space bytes =
    position-later (λ (b : ℕ). eqb b 32) 99 (32 ∷ encode_lower bytes) refl
    ∙ ap (option_map (λ n. n + 1)) (position-first (λ (b : ℕ). eqb b 32) 32 (encode_lower bytes) refl)

pub bytes_again : (bytes : List ℕ) → 0 < length bytes → IsBytes bytes → hex_bytes (encode_lower bytes) ≡ Some bytes
unfolding encode_with
bytes_again [] some each = absurd (omega (arith, some))
bytes_again (b ∷ bs) some each =
    let other : bytes_eq (encode_lower (b ∷ bs)) (codes "-") ≡ false = and_right (eqb (slice_index lower_digits (b / 16)) 45) _ refl in
    let size = length-encode_with lower_digits (b ∷ bs) in
    let long : eqb (length (encode_lower (b ∷ bs))) 0 ≡ false = ne_eqb (length (encode_lower (b ∷ bs))) 0 (λ e. omega (arith, e, size)) in
    rw (other, long, decode_of-encode_lower (b ∷ bs) each) refl

row_shown : (bytes : List ℕ) → IsShown bytes → row_of_line (shown bytes) ≡ Some (Some (Chunk bytes))
row_shown bytes h = rw (shown_line bytes h.few, space bytes, bytes_again bytes h.some h.each) refl

-- ---- files

-- the lines of the file mean these events, and none of them is bad
abbrev pub Means : List ℕ → List Event → Type 0
Means file events = rows_of_lines (lines_of_file file) ≡ record { events = events; bad = None }

pub means_row : (line rest : List ℕ) (row : Option Event) (events : List Event) → IsOne line → row_of_line line ≡ Some row → Means rest events → Means (line ++ 10 ∷ rest) (events_in row ++ events)
means_row line rest row events one is others = rw (next_line line rest one, is, others) refl

pub means_chunk : (bytes rest : List ℕ) (events : List Event) → IsShown bytes → Means rest events → Means (chunk_line bytes ++ rest) (Chunk bytes ∷ events)
means_chunk bytes rest events h others =
    let text : chunk_line bytes ++ rest ≡ shown bytes ++ 10 ∷ rest = ap (λ (x : List ℕ). 99 ∷ 32 ∷ x) (append_assoc (encode_lower bytes) (10 ∷ []) rest) in
    subst (λ (file : List ℕ). Means file (Chunk bytes ∷ events)) (sym text) (means_row (shown bytes) rest (Some (Chunk bytes)) events (refl, (refl, hex_one bytes)) (row_shown bytes h) others)

pub connect_is : row_of_line (codes "connect") ≡ Some (Some Connect)
unfolding is_utf8 chars encode
connect_is = refl

pub means_connect : (rest : List ℕ) (events : List Event) → Means rest events → Means (codes "connect\n" ++ rest) (Connect ∷ events)
means_connect rest events others = means_row (codes "connect") rest (Some Connect) events (refl, (refl, (refl, (refl, (refl, (refl, (refl, tt))))))) connect_is others

pub means_end : Means [] []
unfolding is_utf8 chars encode
means_end = refl
