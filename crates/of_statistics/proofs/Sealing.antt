-- Replies as bytes: a head that is written before a body, and rows that are put after it.
use Rattle.std.proofs.Common.{◌≡◌, ◌≤◌, ◌<◌, ℕ, ◌+◌, true, false, List, [], ◌∷◌, ◌++◌, length, take, drop, refl, ap, ◌∙◌, arith, Result, Ok, Err}
use Rattle.std.specs.Prelude.{OnOk, nat_le, is_ok, replicate, if◌then◌else◌}
use Rattle.std.proofs.{lemmas.List.length-drop, lemmas.List.drop-append-le, lemmas.List.take-append-le, lemmas.List.take_all, lemmas.Bool.Decides.nat_tests}
use Rattle.of_formats.specs.Structs.{written}
use Rattle.of_formats.specs.Tables as tables
use Rattle.of_messages.{specs.Written.message_header, specs.Written.IsMessage, proofs.Lengths.is_message}
use Rattle.of_statistics.specs.Replies.{head_bytes, reply, more, most, with_row}

pub length_head : (size xid kind flags : ℕ) → length (head_bytes size xid kind flags) ≡ 16
unfolding head_bytes
length_head size xid kind flags = refl

head_is : (xid kind flags : ℕ) (body : List ℕ) → head_bytes (16 + length body) xid kind flags ++ body ≡ reply xid kind flags body
unfolding head_bytes reply
head_is xid kind flags body =
    let behind = written tables.multipart (kind ∷ flags ∷ []) ++ body in
    let total : 16 + length body ≡ 8 + length behind = omega arith in
    ap (λ (n : ℕ). message_header 19 n xid ++ behind) total

pub sealed_is : (xid kind flags size : ℕ) (bytes head whole : List ℕ) → head ≡ head_bytes size xid kind flags → size ≡ length bytes → 16 ≤ length bytes → whole ≡ head ++ drop (length head) bytes → whole ≡ reply xid kind flags (drop 16 bytes)
sealed_is xid kind flags size bytes head whole is size_is le whole_is =
    let sixteen : length head ≡ 16 = ap length is ∙ length_head size xid kind flags in
    let total : size ≡ 16 + length (drop 16 bytes) = omega (arith, size_is, le, length-drop 16 bytes) in
    whole_is ∙ ap (λ (k : ℕ). head ++ drop k bytes) sixteen ∙ ap (λ (h : List ℕ). h ++ drop 16 bytes) (is ∙ ap (λ (n : ℕ). head_bytes n xid kind flags) total) ∙ head_is xid kind flags (drop 16 bytes)

-- bytes of a vector that were changed in place
pub written_back : (n : ℕ) (new old : List ℕ) → length new ≡ n → take n (new ++ drop (length new) old) ≡ new
written_back n new old is = take-append-le n new (drop (length new) old) (omega (arith, is)) ∙ take_all n new (omega (arith, is))

pub reply_is_message : (xid kind flags : ℕ) (body : List ℕ) → length body ≤ 65519 → IsMessage (reply xid kind flags body)
unfolding reply
reply_is_message xid kind flags body le = is_message 19 xid (written tables.multipart (kind ∷ flags ∷ []) ++ body) (omega (arith, le))

-- a row that fits the open reply
pub row_fits : {A E : Type 0} (r : Result A E) (xid kind : ℕ) (full : List (List ℕ)) (before after row : List ℕ) → 16 ≤ length before → length before + length row ≤ 65535 → after ≡ (if is_ok r then before ++ row else before)
    → OnOk r (record { xid = xid; kind = kind; full = full; rows = drop 16 after } ≡ with_row (record { xid = xid; kind = kind; full = full; rows = drop 16 before }) row)
row_fits (Err e) xid kind full before after row head fits is = tt
row_fits (Ok x) xid kind full before after row head fits is =
    let test : nat_le (length (drop 16 before) + length row) most ≡ true = grind (arith, nat_tests, length-drop 16 before) in
    let rows : drop 16 after ≡ drop 16 before ++ row = ap (drop 16) is ∙ drop-append-le 16 before row head in
    rw test (λ i. record { xid = xid; kind = kind; full = full; rows = rows i })

-- and one that begins another
pub row_begins : {A E : Type 0} (r : Result A E) (xid kind : ℕ) (full full' : List (List ℕ)) (before fresh after row : List ℕ) → 16 ≤ length before → 65535 < length before + length row → fresh ≡ replicate 16 0
    → full' ≡ full ++ reply xid kind more (drop 16 before) ∷ [] → after ≡ (if is_ok r then fresh ++ row else fresh)
    → OnOk r (record { xid = xid; kind = kind; full = full'; rows = drop 16 after } ≡ with_row (record { xid = xid; kind = kind; full = full; rows = drop 16 before }) row)
row_begins (Err e) xid kind full full' before fresh after row head over fresh_is full_is is = tt
row_begins (Ok x) xid kind full full' before fresh after row head over fresh_is full_is is =
    let test : nat_le (length (drop 16 before) + length row) most ≡ false = grind (arith, nat_tests, length-drop 16 before) in
    let rows : drop 16 after ≡ row = ap (drop 16) (is ∙ ap (λ (t : List ℕ). t ++ row) fresh_is) in
    rw test (λ i. record { xid = xid; kind = kind; full = full_is i; rows = rows i })
