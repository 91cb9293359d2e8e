-- Rows that are written are read again.
use Rattle.std.proofs.Common.{◌≡◌, ℕ, ◌+◌, ◌-◌, ◌*◌, ◌/◌, ◌%◌, ◌^◌, ◌<◌, ◌≤◌, zero, suc, Bool, true, false, eqb, leb, ltb, cond, List, [], ◌∷◌, ◌++◌, length, drop, get_or, codes, Option, Some, None, refl, sym, ap, subst, ◌∙◌, arith, append_assoc}
use Rattle.std.specs.Prelude.{decimal, position, replicate, slice_index, ◌&&◌}
use Rattle.std.proofs.lemmas.Bool.{and_from, and_parts, le-leb, lt-ltb, ltb-false, ltb-true, ne_eqb}
use Rattle.std.specs.{List.AllByRecursion, List.flat_map, List.list_all, Option.option_map, Result.result_ok, Str.IsAscii, Str.chars, Str.is_utf8}
use Rattle.std.proofs.{lemmas.Bool.Decides.nat_tests, lemmas.Fmt.decimal_by_steps, lemmas.Fmt.decimal_digit, lemmas.Fmt.decimal_nonempty, lemmas.Fmt.first_decimal}
use Rattle.std.proofs.{lemmas.List.append-nil, lemmas.List.drop_at, lemmas.List.length-append, lemmas.List.take_at, lemmas.Str.IsUtf8-from_ascii, lemmas.Str.is_utf8-from_IsUtf8}
use Rattle.std.proofs.lemmas.Str.Ascii.{IsAscii-cons, IsAscii-nil}
use lib.Utf8.{encode}
use Rattle.hex.{specs.Hex.IsBytes, specs.Hex.encode_lower, specs.Hex.encode_with, specs.Hex.lower_digits, proofs.HexLemmas.decode_sized-encode_lower}
use Rattle.of_table.proofs.PlaceLemmas.{position-first, position-later}
use Rattle.of_switch.specs.declared.event.Event.TheVariants.{Connect, Lost, Chunk, Frame, Moment, Ports}
use Rattle.of_switch.specs.declared.port_change.PortChange.{PortChange}
use Rattle.of_switch.specs.declared.port_change.PortChange.TheVariants.{Add, Remove, Link}
use Rattle.of_switch.specs.declared.event.Event.{Event}
use Rattle.of_text.specs.Lines.{before, further, is_passed, joined}
use Rattle.of_replay.specs.Lexing.{after_first_word, below_limit, hex_bytes, decimal as decimal_in, value_of_decimal, first_word, hw_of, is_digit, is_line, is_name_byte, moment_of, name_in_word, word_number, state_of}
use Rattle.of_replay.specs.Rows.{added_port, change_of, events_in, frame_row, linked_port, named_row, chunk_row, port_of, removed_port, row_of_line}
use Rattle.of_replay.specs.WrittenRows.{HasChangeText, HasLine, HasText, IsName, bytes_word, change_words, file_text, name_word, row_text, row_words, state_word}
use Rattle.of_replay.proofs.EventRowsRead.{IsOne, Means, bytes_again, connect_is, means_end, means_row}

-- ---- words: bytes from 33 to 127; and lines of them

abbrev IsWord : List ℕ → Type 0
IsWord word = AllByRecursion (λ (b : ℕ). (32 < b) × (b < 128)) word

abbrev InLine : List ℕ → Type 0
InLine line = AllByRecursion (λ (b : ℕ). (31 < b) × (b < 128)) line

word-append : (v w : List ℕ) → IsWord v → IsWord w → IsWord (v ++ w)
word-append [] w a b = b
word-append (x ∷ v) w a b = (a.0, word-append v w a.1 b)

line-append : (v w : List ℕ) → InLine v → InLine w → InLine (v ++ w)
line-append [] w a b = b
line-append (x ∷ v) w a b = (a.0, line-append v w a.1 b)

in_line : (word : List ℕ) → IsWord word → InLine word
in_line [] h = tt
in_line (b ∷ bs) h = let low = h.0.0 in ((omega arith, h.0.1), in_line bs h.1)

abbrev AreWords : List (List ℕ) → Type 0
AreWords [] = Unit {0}
AreWords (w ∷ ws) = IsWord w × AreWords ws

further_line : (ws : List (List ℕ)) → AreWords ws → InLine (further ws)
further_line [] h = tt
further_line (w ∷ ws) h = ((omega arith, omega arith), line-append w (further ws) (in_line w h.0) (further_line ws h.1))

joined_line : (ws : List (List ℕ)) → AreWords ws → InLine (joined ws)
joined_line [] h = tt
joined_line (w ∷ ws) h = line-append w (further ws) (in_line w h.0) (further_line ws h.1)

-- a word that is given
word_tested : (w : List ℕ) → list_all (λ b. ltb 32 b && ltb b 128) w ≡ true → IsWord w
word_tested [] h = tt
word_tested (b ∷ bs) h =
    let both = and_parts (ltb 32 b && ltb b 128) (list_all (λ c. ltb 32 c && ltb c 128) bs) h in
    let this = and_parts (ltb 32 b) (ltb b 128) both.0 in
    ((ltb-true 32 b this.0, ltb-true b 128 this.1), word_tested bs both.1)

-- ---- a line of words

line_ascii : (line : List ℕ) → InLine line → IsAscii line
line_ascii [] h = IsAscii-nil
line_ascii (b ∷ bs) h = IsAscii-cons b bs h.0.1 (line_ascii bs h.1)

line_is : (line : List ℕ) → InLine line → length line ≤ 1048576 → is_line line ≡ true
line_is line h few =
    and_from (leb (length line) 1048576) (is_utf8 line) (le-leb (length line) 1048576 few) (is_utf8-from_IsUtf8 line (IsUtf8-from_ascii line (line_ascii line h)))

not_space : (b : ℕ) → 32 < b → eqb b 32 ≡ false
not_space b h = ne_eqb b 32 (λ e. omega (arith, h, e))

space_at : (w rest : List ℕ) → IsWord w → position (λ (b : ℕ). eqb b 32) (w ++ 32 ∷ rest) ≡ Some (length w)
space_at [] rest h = position-first (λ (b : ℕ). eqb b 32) 32 rest refl
space_at (b ∷ bs) rest h =
    position-later (λ (c : ℕ). eqb c 32) b (bs ++ 32 ∷ rest) (not_space b h.0.0)
    ∙ ap (option_map (λ n. n + 1)) (space_at bs rest h.1)
    ∙ ap Some (omega arith)

first_is : (w rest : List ℕ) → IsWord w → first_word (w ++ 32 ∷ rest) ≡ w
first_is w rest h = rw (space_at w rest h) (take_at w (32 ∷ rest) (length w) refl)

after_is : (w rest : List ℕ) → IsWord w → after_first_word (w ++ 32 ∷ rest) ≡ Some rest
after_is w rest h =
    let parts : w ++ 32 ∷ rest ≡ (w ++ 32 ∷ []) ++ rest = sym (append_assoc w (32 ∷ []) rest) in
    let behind : drop (length w + 1) (w ++ 32 ∷ rest) ≡ rest = ap (drop (length w + 1)) parts ∙ drop_at (w ++ 32 ∷ []) rest (length w + 1) (omega (arith, length-append w (32 ∷ []))) in
    rw (space_at w rest h, behind) refl

named : (w rest : List ℕ) → IsWord w → is_line (w ++ 32 ∷ rest) ≡ true → is_passed (w ++ 32 ∷ rest) ≡ false → row_of_line (w ++ 32 ∷ rest) ≡ option_map Some (named_row w rest)
named w rest h line passed = rw (line, passed, first_is w rest h, after_is w rest h) refl

-- ---- numbers

digit_test : (k : ℕ) → k < 10 → is_digit (48 + k) ≡ true
digit_test k lt = grind (arith, nat_tests)

digit_more : (v w d : ℕ) (ds : List ℕ) → value_of_decimal v ds ≡ Some w → is_digit d ≡ true → value_of_decimal v (ds ++ d ∷ []) ≡ Some (10 * w + (d - 48))
digit_more v w d [] h is = let same : v ≡ w = cc in rw is (ap (λ (n : ℕ). Some (10 * n + (d - 48))) same)
digit_more v w d (x ∷ xs) h is = by_digit (is_digit x) h (digit_more (10 * v + (x - 48)) w d xs)
  where
    by_digit : (t : Bool) → cond t (value_of_decimal (10 * v + (x - 48)) xs) None ≡ Some w → (value_of_decimal (10 * v + (x - 48)) xs ≡ Some w → is_digit d ≡ true → value_of_decimal (10 * v + (x - 48)) (xs ++ d ∷ []) ≡ Some (10 * w + (d - 48)))
        → cond t (value_of_decimal (10 * v + (x - 48)) (xs ++ d ∷ [])) None ≡ Some (10 * w + (d - 48))
    by_digit false e more = absurd cc
    by_digit true e more = more e is

abbrev Digits : ℕ → List ℕ → Type 0
Digits n ds = IsWord ds × (value_of_decimal 0 ds ≡ Some n)

one_digit : (n : ℕ) → n < 10 → Digits n ((48 + n) ∷ [])
one_digit n lt = (((omega arith, omega arith), tt), rw (digit_test n lt) (ap Some (omega arith)))

digits_more : (n : ℕ) (ds : List ℕ) → 10 ≤ n → Digits (n / 10) ds → Digits n (ds ++ ((48 + n % 10) ∷ []))
digits_more n ds some h = (
  word-append ds ((48 + n % 10) ∷ []) h.0 ((omega arith, omega arith), tt),
  digit_more 0 (n / 10) (48 + n % 10) ds h.1 (digit_test (n % 10) (omega arith)) ∙ ap Some (omega arith),
)

digits : (n : ℕ) → n < 2 ^ 64 → Digits n (decimal n)
digits n lt = decimal_by_steps Digits one_digit digits_more n lt

two_digits : (n d e : ℕ) (ds : List ℕ) → decimal n ≡ d ∷ e ∷ ds → 10 ≤ n
two_digits n d e ds is = by_low (ltb n 10) refl
  where
    by_low : (b : Bool) → ltb n 10 ≡ b → 10 ≤ n
    by_low true low = let one : suc (suc (length ds)) ≡ 1 = ap length (sym is ∙ decimal_digit n (ltb-true n 10 low)) in absurd (omega (arith, one))
    by_low false high = ltb-false n 10 high

number_again : (limit n : ℕ) → n < limit → n < 2 ^ 64 → decimal_in limit (decimal n) ≡ Some n
number_again limit n low lt = by_digits (decimal n) refl (digits n lt).1
  where
    under : ltb n limit ≡ true
    under = lt-ltb n limit low

    by_digits : (ds : List ℕ) → decimal n ≡ ds → value_of_decimal 0 ds ≡ Some n → decimal_in limit ds ≡ Some n
    by_digits [] is h = let some = decimal_nonempty n lt in let none : length (decimal n) ≡ 0 = ap length is in absurd (omega arith)
    by_digits (d ∷ []) is h = rw h (rw under refl)
    by_digits (d ∷ e ∷ ds) is h =
        let long : 10 ≤ n = two_digits n d e ds is in
        let high = first_decimal n (omega arith) lt in
        let first : get_or (decimal n) 0 0 ≡ d = ap (λ (x : List ℕ). get_or x 0 0) is in
        let other : eqb d 48 ≡ false = ne_eqb d 48 (λ same. omega (arith, high, first, same)) in
        rw other (ap (below_limit limit) h ∙ rw under refl)

-- ---- bytes

within_place : (p : ℕ → Bool) (xs : List ℕ) → list_all p xs ≡ true → (d : ℕ) → d < length xs → p (slice_index xs d) ≡ true
within_place p [] all d lt = absurd (omega arith)
within_place p (x ∷ xs) all zero lt = (and_parts (p x) (list_all p xs) all).0
within_place p (x ∷ xs) all (suc d) lt = within_place p xs (and_parts (p x) (list_all p xs) all).1 d (omega arith)

digit_word : (d : ℕ) → d < 16 → (32 < slice_index lower_digits d) × (slice_index lower_digits d < 128)
digit_word d lt =
    let both = and_parts (ltb 32 (slice_index lower_digits d)) (ltb (slice_index lower_digits d) 128) (within_place (λ b. ltb 32 b && ltb b 128) lower_digits refl d lt) in
    (ltb-true _ _ both.0, ltb-true _ _ both.1)

tail_bytes : (b : ℕ) (bs : List ℕ) → IsBytes (b ∷ bs) → IsBytes bs
tail_bytes b bs h i = h (suc i)

hex_word : (bytes : List ℕ) → IsBytes bytes → IsWord (encode_lower bytes)
unfolding encode_with
hex_word [] h = tt
hex_word (b ∷ bs) h =
    let low : b < 256 = h 0 in
    (digit_word (b / 16) (omega arith), (digit_word (b % 16) (omega arith), hex_word bs (tail_bytes b bs h)))

bytes_word_is : (bytes : List ℕ) → IsBytes bytes → IsWord (bytes_word bytes)
bytes_word_is [] h = word_tested (codes "-") refl
bytes_word_is (b ∷ bs) h = hex_word (b ∷ bs) h

bytes_word_again : (bytes : List ℕ) → IsBytes bytes → hex_bytes (bytes_word bytes) ≡ Some bytes
bytes_word_again [] h = refl
bytes_word_again (b ∷ bs) h = bytes_again (b ∷ bs) (omega arith) h

hw_again : (hw : List ℕ) → length hw ≡ 6 → IsBytes hw → hw_of (encode_lower hw) ≡ Some hw
hw_again hw six each = ap result_ok (decode_sized-encode_lower hw 6 six each)

-- ---- names

letter : (b : ℕ) → is_name_byte b ≡ true → (32 < b) × (b < 128)
letter b h = (grind (arith, nat_tests), grind (arith, nat_tests))

letters_word : (word : List ℕ) → list_all is_name_byte word ≡ true → IsWord word
letters_word [] h = tt
letters_word (b ∷ bs) h = let both = and_parts (is_name_byte b) (list_all is_name_byte bs) h in (letter b both.0, letters_word bs both.1)

zeros_none : (k : ℕ) → before 0 (replicate k 0) ≡ []
zeros_none zero = refl
zeros_none (suc k) = refl

until_zeros : (word : List ℕ) (k : ℕ) → IsWord word → before 0 (word ++ replicate k 0) ≡ word
until_zeros [] k h = zeros_none k
until_zeros (b ∷ bs) k h =
    let some : eqb b 0 ≡ false = let low = h.0.0 in ne_eqb b 0 (λ e. omega (arith, e, low)) in
    rw some (ap (λ (x : List ℕ). b ∷ x) (until_zeros bs k h.1))

name_word_is : (name : List ℕ) (n : IsName name) → name_word name ≡ n.word
name_word_is name n = ap name_word n.padded ∙ until_zeros n.word (16 - length n.word) (letters_word n.word n.letters)

name_again : (name : List ℕ) → IsName name → name_in_word (name_word name) ≡ Some name
name_again name n =
    let some : leb 1 (length n.word) ≡ true = le-leb 1 (length n.word) n.some in
    let few : leb (length n.word) 15 ≡ true = le-leb (length n.word) 15 n.few in
    let letters = n.letters in
    let padded : name_in_word n.word ≡ Some (n.word ++ replicate (16 - length n.word) 0) = rw (some, few, letters) refl in
    ap name_in_word (name_word_is name n) ∙ padded ∙ ap Some (sym n.padded)

name_is_word : (name : List ℕ) → IsName name → IsWord (name_word name)
name_is_word name n = subst (λ (w : List ℕ). IsWord w) (sym (name_word_is name n)) (letters_word n.word n.letters)

state_again : (up : Bool) → state_of (state_word up) ≡ Some up
state_again true = refl
state_again false = refl

state_is_word : (up : Bool) → IsWord (state_word up)
state_is_word true = word_tested (codes "up") refl
state_is_word false = word_tested (codes "down") refl

-- ---- the last word

last_again : {V : Type 0} (f : List ℕ → Option V) (w : List ℕ) (v : V) → f w ≡ Some v → f (w ++ []) ≡ Some v
last_again f w v h = ap f (append-nil w) ∙ h

-- ---- rows

frame_again : (words more bytes : List ℕ) (port : ℕ) → word_number (first_word words) ≡ Some port → after_first_word words ≡ Some more → hex_bytes more ≡ Some bytes → frame_row words ≡ Some (Frame port bytes)
frame_again words more bytes port a b c = rw (a, b, c) refl

chunk_again : (word bytes : List ℕ) → hex_bytes word ≡ Some bytes → chunk_row word ≡ Some (Chunk bytes)
chunk_again word bytes a = rw a refl

added_again : (words more last word hw name : List ℕ) (number : ℕ) (up : Bool) → word_number (first_word words) ≡ Some number → after_first_word words ≡ Some more → hw_of (first_word more) ≡ Some hw → after_first_word more ≡ Some last
    → name_in_word (first_word last) ≡ Some name → after_first_word last ≡ Some word → state_of word ≡ Some up → added_port words ≡ Some (Add number hw name up)
added_again words more last word hw name number up a b c d e f g = rw (a, b, c, d, e, f, g) refl

linked_again : (words word : List ℕ) (number : ℕ) (up : Bool) → word_number (first_word words) ≡ Some number → after_first_word words ≡ Some word → state_of word ≡ Some up → linked_port words ≡ Some (Link number up)
linked_again words word number up a b c = rw (a, b, c) refl

removed_again : (word : List ℕ) (number : ℕ) → word_number word ≡ Some number → removed_port word ≡ Some (Remove number)
removed_again word number a = rw a refl

port_again : (words name more : List ℕ) (c : PortChange) → after_first_word words ≡ Some more → first_word words ≡ name → change_of name more ≡ Some c → port_of words ≡ Some c
port_again words name more c a b e = rw (a, b, e) refl

-- a number of 32 bits, and what follows it
number_first : (n : ℕ) (rest : List ℕ) → n < 2 ^ 32 → word_number (first_word (decimal n ++ 32 ∷ rest)) ≡ Some n
number_first n rest lt = ap word_number (first_is (decimal n) rest (digits n (omega arith)).0) ∙ number_again (2 ^ 32) n lt (omega arith)

number_behind : (n : ℕ) (rest : List ℕ) → n < 2 ^ 32 → after_first_word (decimal n ++ 32 ∷ rest) ≡ Some rest
number_behind n rest lt = after_is (decimal n) rest (digits n (omega arith)).0

change_again : (change : PortChange) → HasChangeText change → port_of (joined (change_words change)) ≡ Some change
change_again (Add number hw name up) h =
    let behind_name = state_word up ++ [] in
    let behind_hw = name_word name ++ 32 ∷ behind_name in
    let behind_number = encode_lower hw ++ 32 ∷ behind_hw in
    let words = decimal number ++ 32 ∷ behind_number in
    let hw_is = hex_word hw h.2 in
    let name_is = name_is_word name h.3 in
    let added = added_again words behind_number behind_hw behind_name hw name number up (number_first number behind_number h.0) (number_behind number behind_number h.0)
    (ap hw_of (first_is (encode_lower hw) behind_hw hw_is) ∙ hw_again hw h.1 h.2) (after_is (encode_lower hw) behind_hw hw_is)
    (ap name_in_word (first_is (name_word name) behind_name name_is) ∙ name_again name h.3) (after_is (name_word name) behind_name name_is)
    (last_again state_of (state_word up) up (state_again up)) in
    port_again (codes "add" ++ 32 ∷ words) (codes "add") words (Add number hw name up) (after_is (codes "add") words (word_tested (codes "add") refl)) (first_is (codes "add") words (word_tested (codes "add") refl)) added
change_again (Remove number) h =
    let word = decimal number ++ [] in
    port_again (codes "remove" ++ 32 ∷ word) (codes "remove") word (Remove number) (after_is (codes "remove") word (word_tested (codes "remove") refl)) (first_is (codes "remove") word (word_tested (codes "remove") refl))
    (removed_again word number (last_again word_number (decimal number) number (number_again (2 ^ 32) number h (omega arith))))
change_again (Link number up) h =
    let word = state_word up ++ [] in
    let words = decimal number ++ 32 ∷ word in
    port_again (codes "link" ++ 32 ∷ words) (codes "link") words (Link number up) (after_is (codes "link") words (word_tested (codes "link") refl)) (first_is (codes "link") words (word_tested (codes "link") refl))
    (linked_again words word number up (number_first number word h) (number_behind number word h) (last_again state_of (state_word up) up (state_again up)))

change_are_words : (change : PortChange) → HasChangeText change → AreWords (change_words change)
change_are_words (Add number hw name up) h = (word_tested (codes "add") refl, ((digits number (let lt = h.0 in omega arith)).0, (hex_word hw h.2, (name_is_word name h.3, (state_is_word up, tt)))))
change_are_words (Remove number) h = (word_tested (codes "remove") refl, ((digits number (omega arith)).0, tt))
change_are_words (Link number up) h = (word_tested (codes "link") refl, ((digits number (omega arith)).0, (state_is_word up, tt)))

are_words : (row : Option Event) → HasText row → AreWords (row_words row)
are_words None h = tt
are_words (Some Connect) h = (word_tested (codes "connect") refl, tt)
are_words (Some Lost) h = (word_tested (codes "lost") refl, tt)
are_words (Some (Chunk bytes)) h = (word_tested (codes "c") refl, (bytes_word_is bytes h, tt))
are_words (Some (Frame port bytes)) h = (word_tested (codes "f") refl, ((digits port (let lt = h.0 in omega arith)).0, (bytes_word_is bytes h.1, tt)))
are_words (Some (Moment nanos)) h = (word_tested (codes "t") refl, ((digits nanos h).0, tt))
are_words (Some (Ports change)) h = (word_tested (codes "port") refl, change_are_words change h)

lost_is : row_of_line (codes "lost") ≡ Some (Some Lost)
unfolding is_utf8 chars encode
lost_is = refl

passed_is : is_line [] ≡ true → row_of_line [] ≡ Some None
passed_is h = rw h refl

pub row_again : (row : Option Event) → HasText row → length (row_text row) ≤ 1048576 → row_of_line (row_text row) ≡ Some row
row_again None h few = passed_is (line_is [] tt few)
row_again (Some Connect) h few = connect_is
row_again (Some Lost) h few = lost_is
row_again (Some (Chunk bytes)) h few =
    let line = line_is (row_text (Some (Chunk bytes))) (joined_line (row_words (Some (Chunk bytes))) (are_words (Some (Chunk bytes)) h)) few in
    named (codes "c") (bytes_word bytes ++ []) (word_tested (codes "c") refl) line refl
    ∙ ap (option_map Some) (chunk_again (bytes_word bytes ++ []) bytes (last_again hex_bytes (bytes_word bytes) bytes (bytes_word_again bytes h)))
row_again (Some (Frame port bytes)) h few =
    let line = line_is (row_text (Some (Frame port bytes))) (joined_line (row_words (Some (Frame port bytes))) (are_words (Some (Frame port bytes)) h)) few in
    let word = bytes_word bytes ++ [] in
    let words = decimal port ++ 32 ∷ word in
    named (codes "f") words (word_tested (codes "f") refl) line refl
    ∙ ap (option_map Some) (frame_again words word bytes port (number_first port word h.0) (number_behind port word h.0) (last_again hex_bytes (bytes_word bytes) bytes (bytes_word_again bytes h.1)))
row_again (Some (Moment nanos)) h few =
    let line = line_is (row_text (Some (Moment nanos))) (joined_line (row_words (Some (Moment nanos))) (are_words (Some (Moment nanos)) h)) few in
    named (codes "t") (decimal nanos ++ []) (word_tested (codes "t") refl) line refl
    ∙ ap (λ (n : Option ℕ). option_map Some (option_map Moment n)) (last_again moment_of (decimal nanos) nanos (number_again (2 ^ 64) nanos h h))
row_again (Some (Ports change)) h few =
    let line = line_is (row_text (Some (Ports change))) (joined_line (row_words (Some (Ports change))) (are_words (Some (Ports change)) h)) few in
    let words = joined (change_words change) in
    let further_is = further_change change in
    let parts : row_text (Some (Ports change)) ≡ codes "port" ++ 32 ∷ words = ap (λ (x : List ℕ). codes "port" ++ x) further_is in
    let line' : is_line (codes "port" ++ 32 ∷ words) ≡ true = subst (λ (x : List ℕ). is_line x ≡ true) parts line in
    ap row_of_line parts ∙ named (codes "port") words (word_tested (codes "port") refl) line' refl ∙ ap (λ (c : Option PortChange). option_map Some (option_map Ports c)) (change_again change h)
  where
    further_change : (change : PortChange) → further (change_words change) ≡ 32 ∷ joined (change_words change)
    further_change (Add number hw name up) = refl
    further_change (Remove number) = refl
    further_change (Link number up) = refl

-- ---- files

line_one : (line : List ℕ) → InLine line → IsOne line
line_one [] h = tt
line_one (b ∷ bs) h = let low = h.0.0 in (ne_eqb b 10 (λ e. omega (arith, e, low)), line_one bs h.1)

pub file_again : (rows : List (Option Event)) → AllByRecursion HasLine rows → Means (file_text rows) (flat_map events_in rows)
file_again [] h = means_end
file_again (row ∷ rows) h =
    let text = row_text row in
    let one = line_one text (joined_line (row_words row) (are_words row h.0.has)) in
    let parts : file_text (row ∷ rows) ≡ text ++ 10 ∷ file_text rows = append_assoc text (10 ∷ []) (file_text rows) in
    subst (λ (file : List ℕ). Means file (events_in row ++ flat_map events_in rows)) (sym parts) (means_row text (file_text rows) row (flat_map events_in rows) one (row_again row h.0.has h.0.short) (file_again rows h.1))
