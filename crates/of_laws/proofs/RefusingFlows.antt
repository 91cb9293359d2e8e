-- A FLOW_MOD of a flow of a text is refused with the text's code.
use Rattle.std.proofs.Common.{◌≡◌, ℕ, ◌+◌, ◌-◌, ◌%◌, ◌^◌, ◌<◌, Bool, true, false, not, eqb, List, [], ◌∷◌, ◌++◌, length, map, take, drop, Option, Some, None, Result, Ok, Err, refl, sym, ap, ◌∙◌, arith}
use Rattle.std.{specs.Prelude.replicate, specs.List.AllByRecursion, specs.List.flat_map, specs.List.list_all, proofs.lemmas.Bool.Decides.nat_tests, proofs.lemmas.Bool.Decides.eqb_tells}
use Rattle.std.proofs.{lemmas.List.length-append, lemmas.List.take_at, lemmas.List.Folds.list_any-append}
use Rattle.byteorder.specs.{Endian.big_bytes, Endian.big_number, Numbers.big_number-reads_back}
use Rattle.of_wire.specs.{declared.code.Code.Code, Items.items_from, Items.outcome, Numbered.is_distinct, Numbered.is_used, Refusals.first_of, Refusals.refusal}
use Rattle.of_actions.specs.declared.instruction.Instruction.TheVariants.{Apply, Clear, Write, Metadata, Goto}
use Rattle.of_actions.specs.Headers.{Header, goto, metadata, write, apply, clear, header_at, headers_of, is_next, kind_of}
use Rattle.of_actions.specs.InstructionReading.{bodies_of, instruction_of_header, instructions_in_bytes, instruction_prepended, then_bodies, then_ordered, with_actions_read}
use Rattle.of_actions.specs.{declared.instruction.Instruction.Instruction, Beginnings.len_at, CanonicalActions.canonical_actions}
use Rattle.of_actions.specs.CanonicalInstructions.{after_type, canonical_instruction, canonical_instructions}
use Rattle.of_actions.{specs.InstructionLists.run_place, specs.InstructionLists.type_of_instruction, specs.Rising.is_ascending, proofs.ActionsAgain.length-canonical, proofs.Bodies.distinct_place}
use Rattle.of_actions.proofs.RunOrders.{order_same, rising_once}
use Rattle.of_text.{specs.Refusals.goto_refusals, specs.Refusals.instruction_refusals, specs.Refusals.list_refusals, specs.Refusals.or_else, proofs.RefusalLemmas.first_append}
use Rattle.of_laws.proofs.Refusing.{AreSteps, IsStep, actions_told, walk, walked}
use Rattle.of_laws.{specs.Refused.InstructionFits, proofs.InstructionStructs.last_left, proofs.InstructionStructs.served_as}

-- ---- headers

-- the header of an instruction, and what it is written as
abbrev header_of : Instruction → Header
header_of (Apply actions) = apply (canonical_actions actions)
header_of Clear = clear
header_of (Write actions) = write (canonical_actions actions)
header_of (Metadata value mask) = metadata value mask
header_of (Goto table) = goto table

unfoldable text_of : Header → List ℕ
text_of (goto table) = 0 ∷ 1 ∷ 0 ∷ 8 ∷ table ∷ replicate 3 0
text_of (metadata value mask) = 0 ∷ 2 ∷ 0 ∷ 24 ∷ (replicate 4 0 ++ (big_bytes 8 value ++ big_bytes 8 mask))
text_of (write bytes) = 0 ∷ 3 ∷ after_type bytes
text_of (apply bytes) = 0 ∷ 4 ∷ after_type bytes
text_of clear = 0 ∷ 5 ∷ 0 ∷ 8 ∷ replicate 4 0

-- its numbers fit their bytes
abbrev HeaderFits : Header → Type 0
HeaderFits (goto table) = table < 256
HeaderFits (metadata value mask) = (value < 256 ^ 8) × (mask < 256 ^ 8)
HeaderFits (write bytes) = (length bytes < 65528) × (length bytes % 8 ≡ 0)
HeaderFits (apply bytes) = (length bytes < 65528) × (length bytes % 8 ≡ 0)
HeaderFits clear = Unit {0}

abbrev next_refusals : ℕ → Header → List (Bool × Code)
next_refusals table (goto to) = (not (is_next table to), refusal 3 2) ∷ []
next_refusals table (metadata value mask) = []
next_refusals table (write bytes) = []
next_refusals table (apply bytes) = []
next_refusals table clear = []

unfoldable own_header : ℕ → List Header → Header → List (Bool × Code)
own_header table seen h = next_refusals table h

goto_step : (table to : ℕ) (seen : List Header) (x : List ℕ) → is_used kind_of 1 seen ≡ false → IsStep (headers_of table) text_of (own_header table) seen (goto to) x
unfolding text_of header_at own_header
goto_step table to seen x unused =
    let rest = text_of (goto to) ++ x in
    record { some = omega arith; first = last_left table seen rest 8 1 refl (omega arith) refl (omega arith) refl (served_as 1 8 refl refl refl refl) unused; at = λ none. refl; size = λ none. refl }

clear_step : (table : ℕ) (seen : List Header) (x : List ℕ) → is_used kind_of 5 seen ≡ false → IsStep (headers_of table) text_of (own_header table) seen clear x
unfolding text_of header_at own_header
clear_step table seen x unused =
    let rest = text_of clear ++ x in
    record { some = omega arith; first = last_left table seen rest 8 5 refl (omega arith) refl (omega arith) refl (served_as 5 8 refl refl refl refl) unused; at = λ none. refl; size = λ none. refl }

metadata_step : (table value mask : ℕ) (seen : List Header) (x : List ℕ) → value < 256 ^ 8 → mask < 256 ^ 8 → is_used kind_of 2 seen ≡ false → IsStep (headers_of table) text_of (own_header table) seen (metadata value mask) x
unfolding text_of header_at own_header
metadata_step table value mask seen x v m unused =
    let rest = text_of (metadata value mask) ++ x in
    let value_is : big_number 8 (drop 8 rest) ≡ value = big_number-reads_back 8 value (big_bytes 8 mask ++ x) v in
    let mask_is : big_number 8 (drop 16 rest) ≡ mask = big_number-reads_back 8 mask x m in
    record {
      some = omega arith;
      first = last_left table seen rest 24 2 refl (omega arith) refl (omega arith) refl (served_as 2 24 refl refl refl refl) unused;
      at = λ none. ap (λ (n : ℕ). Some (metadata n (big_number 8 (drop 16 rest)))) value_is ∙ ap (λ (n : ℕ). Some (metadata value n)) mask_is;
      size = λ none. refl;
    }

-- what an instruction with actions says
record Says (bytes rest : List ℕ) (x : List ℕ) : Type 0 where
  len_is : len_at rest ≡ 8 + length bytes
  long : length rest ≡ 8 + length bytes + length x
  cut : take (len_at rest - 8) (bytes ++ x) ≡ bytes

write_says : (bytes x : List ℕ) → length bytes < 65528 → Says bytes (text_of (write bytes) ++ x) x
unfolding text_of
write_says bytes x short =
    let rest = text_of (write bytes) ++ x in
    let len_is : len_at rest ≡ 8 + length bytes = big_number-reads_back 2 (8 + length bytes) (replicate 4 0 ++ (bytes ++ x)) (omega (arith, short)) in
    record { len_is = len_is; long = omega (arith, length-append bytes x); cut = take_at bytes x (len_at rest - 8) (omega (arith, len_is)) }

apply_says : (bytes x : List ℕ) → length bytes < 65528 → Says bytes (text_of (apply bytes) ++ x) x
unfolding text_of
apply_says bytes x short =
    let rest = text_of (apply bytes) ++ x in
    let len_is : len_at rest ≡ 8 + length bytes = big_number-reads_back 2 (8 + length bytes) (replicate 4 0 ++ (bytes ++ x)) (omega (arith, short)) in
    record { len_is = len_is; long = omega (arith, length-append bytes x); cut = take_at bytes x (len_at rest - 8) (omega (arith, len_is)) }

write_step : (table : ℕ) (bytes : List ℕ) (seen : List Header) (x : List ℕ) → length bytes < 65528 → length bytes % 8 ≡ 0 → is_used kind_of 3 seen ≡ false → IsStep (headers_of table) text_of (own_header table) seen (write bytes) x
unfolding text_of header_at own_header
write_step table bytes seen x short eights unused =
    let rest = text_of (write bytes) ++ x in
    let s = write_says bytes x short in
    let len = s.len_is in
    let long = s.long in
    record {
      some = omega arith;
      first = last_left table seen rest (8 + length bytes) 3 len (omega arith) (omega (arith, eights)) (omega (arith, long)) refl (served_as 3 (8 + length bytes) refl refl refl refl) unused;
      at = λ none. ap (λ (b : List ℕ). Some (write b)) s.cut;
      size = λ none. len ∙ omega arith;
    }

apply_step : (table : ℕ) (bytes : List ℕ) (seen : List Header) (x : List ℕ) → length bytes < 65528 → length bytes % 8 ≡ 0 → is_used kind_of 4 seen ≡ false → IsStep (headers_of table) text_of (own_header table) seen (apply bytes) x
unfolding text_of header_at own_header
apply_step table bytes seen x short eights unused =
    let rest = text_of (apply bytes) ++ x in
    let s = apply_says bytes x short in
    let len = s.len_is in
    let long = s.long in
    record {
      some = omega arith;
      first = last_left table seen rest (8 + length bytes) 4 len (omega arith) (omega (arith, eights)) (omega (arith, long)) refl (served_as 4 (8 + length bytes) refl refl refl refl) unused;
      at = λ none. ap (λ (b : List ℕ). Some (apply b)) s.cut;
      size = λ none. len ∙ omega arith;
    }

header_step : (table : ℕ) (h : Header) (seen : List Header) (x : List ℕ) → HeaderFits h → is_used kind_of (kind_of h) seen ≡ false → IsStep (headers_of table) text_of (own_header table) seen h x
header_step table (goto to) seen x fits unused = goto_step table to seen x unused
header_step table (metadata value mask) seen x fits unused = metadata_step table value mask seen x fits.0 fits.1 unused
header_step table (write bytes) seen x fits unused = write_step table bytes seen x fits.0 fits.1 unused
header_step table (apply bytes) seen x fits unused = apply_step table bytes seen x fits.0 fits.1 unused
header_step table clear seen x fits unused = clear_step table seen x unused

-- none of these is of the type of one before
abbrev are_new : List Header → List Header → Bool
are_new seen hs = list_all (λ h. not (is_used kind_of (kind_of h) seen)) hs

new_more : (seen : List Header) (h : Header) (hs : List Header) → are_new seen hs ≡ true → is_used kind_of (kind_of h) hs ≡ false → are_new (seen ++ h ∷ []) hs ≡ true
new_more seen h [] new unused = refl
new_more seen h (g ∷ hs) new unused =
    grind (arith, nat_tests, new_more seen h hs, list_any-append (λ y. eqb (kind_of y) (kind_of g)) seen (h ∷ []), eqb_tells (kind_of h) (kind_of g), eqb_tells (kind_of g) (kind_of h))

all_new : (hs : List Header) → are_new [] hs ≡ true
all_new [] = refl
all_new (h ∷ hs) = all_new hs

header_steps : (table : ℕ) (seen hs : List Header) → AllByRecursion HeaderFits hs → are_new seen hs ≡ true → is_distinct kind_of hs ≡ true → AreSteps (headers_of table) text_of (own_header table) seen hs
header_steps table seen [] fits new once = tt
header_steps table seen (h ∷ hs) fits new once =
    let unused : is_used kind_of (kind_of h) seen ≡ false = grind (arith, nat_tests, new) in
    let new' : are_new seen hs ≡ true = grind (arith, nat_tests, new) in
    let later : is_used kind_of (kind_of h) hs ≡ false = grind (arith, nat_tests, once) in
    let once' : is_distinct kind_of hs ≡ true = grind (arith, nat_tests, once) in
    (λ x. header_step table h seen x fits.0 unused, header_steps table (seen ++ h ∷ []) hs fits.1 (new_more seen h hs new' later) once')

-- the refusals of headers are those of GOTO_TABLE
next_same : (table : ℕ) (seen : List Header) (is : List Instruction) → walked (own_header table) seen (map header_of is) ≡ flat_map (goto_refusals table) is
unfolding own_header
next_same table seen [] = refl
next_same table seen (Apply actions ∷ is) = next_same table (seen ++ header_of (Apply actions) ∷ []) is
next_same table seen (Clear ∷ is) = next_same table (seen ++ header_of Clear ∷ []) is
next_same table seen (Write actions ∷ is) = next_same table (seen ++ header_of (Write actions) ∷ []) is
next_same table seen (Metadata value mask ∷ is) = next_same table (seen ++ header_of (Metadata value mask) ∷ []) is
next_same table seen (Goto to ∷ is) = ap (λ (rs : List (Bool × Code)). (not (is_next table to), refusal 3 2) ∷ rs) (next_same table (seen ++ header_of (Goto to) ∷ []) is)

text_same : (s : Instruction) → text_of (header_of s) ≡ canonical_instruction s
unfolding text_of canonical_instruction
text_same (Apply actions) = refl
text_same other = refl

texts_same : (is : List Instruction) → flat_map text_of (map header_of is) ≡ canonical_instructions is
texts_same [] = refl
texts_same (s ∷ is) = rw (text_same s, texts_same is) refl

-- ---- what follows the headers

abbrev one_outcome : Instruction → Option Code → Result Instruction Code
one_outcome i None = Ok i
one_outcome i (Some code) = Err code

body_told : (s : Instruction) → InstructionFits s → instruction_of_header (header_of s) ≡ one_outcome s (first_of (instruction_refusals s))
unfolding instruction_refusals
body_told (Apply actions) fits = ap (with_actions_read Apply) (actions_told actions fits) ∙ by_first (first_of (list_refusals actions))
  where
    by_first : (o : Option Code) → with_actions_read Apply (outcome actions o) ≡ one_outcome (Apply actions) o
    by_first None = refl
    by_first (Some code) = refl
body_told (Write actions) fits = ap (with_actions_read Write) (actions_told actions fits) ∙ by_first (first_of (list_refusals actions))
  where
    by_first : (o : Option Code) → with_actions_read Write (outcome actions o) ≡ one_outcome (Write actions) o
    by_first None = refl
    by_first (Some code) = refl
body_told other fits = refl

bodies_told : (is : List Instruction) → AllByRecursion InstructionFits is → bodies_of (map header_of is) ≡ outcome is (first_of (flat_map instruction_refusals is))
bodies_told [] fits = refl
bodies_told (s ∷ is) fits =
    let others = flat_map instruction_refusals is in
    ap (λ (r : Result Instruction Code). instruction_prepended r (bodies_of (map header_of is))) (body_told s fits.0)
    ∙ ap (instruction_prepended (one_outcome s (first_of (instruction_refusals s)))) (bodies_told is fits.1)
    ∙ by_first (first_of (instruction_refusals s)) (first_of others)
    ∙ ap (outcome (s ∷ is)) (sym (first_append (instruction_refusals s) others))
  where
    by_first : (o p : Option Code) → instruction_prepended (one_outcome s o) (outcome is p) ≡ outcome (s ∷ is) (or_else o p)
    by_first (Some code) p = refl
    by_first None None = refl
    by_first None (Some code) = refl

-- ---- instructions

kind_same : (s : Instruction) → kind_of (header_of s) ≡ type_of_instruction s
kind_same (Apply actions) = refl
kind_same other = refl

used_same : (n : ℕ) (is : List Instruction) → is_used kind_of n (map header_of is) ≡ is_used type_of_instruction n is
used_same n [] = refl
used_same n (s ∷ is) = rw (kind_same s, used_same n is) refl

distinct_same : (is : List Instruction) → is_distinct kind_of (map header_of is) ≡ is_distinct type_of_instruction is
distinct_same [] = refl
distinct_same (s ∷ is) = rw (kind_same s, used_same (type_of_instruction s) is, distinct_same is) refl

header_fits : (s : Instruction) → InstructionFits s → length (canonical_instruction s) < 65528 → HeaderFits (header_of s)
unfolding canonical_instruction
header_fits (Apply actions) fits few = let l = length-canonical actions in (omega arith, l.eights)
header_fits Clear fits few = tt
header_fits (Write actions) fits few = let l = length-canonical actions in (omega arith, l.eights)
header_fits (Metadata value mask) fits few = (omega (arith, fits.0), omega (arith, fits.1))
header_fits (Goto table) fits few = omega (arith, fits)

headers_fit : (is : List Instruction) → AllByRecursion InstructionFits is → length (canonical_instructions is) < 65528 → AllByRecursion HeaderFits (map header_of is)
headers_fit [] fits short = tt
headers_fit (s ∷ is) fits short =
    let parts = length-append (canonical_instruction s) (canonical_instructions is) in
    (header_fits s fits.0 (omega (arith, short, parts)), headers_fit is fits.1 (omega (arith, short, parts)))

pub instructions_told : (table : ℕ) (is : List Instruction) → AllByRecursion InstructionFits is → is_ascending run_place is ≡ true → length (canonical_instructions is) < 65528
    → instructions_in_bytes table (canonical_instructions is) ≡ outcome is (first_of (flat_map (goto_refusals table) is ++ flat_map instruction_refusals is))
unfolding instructions_in_bytes
instructions_told table is fits up short =
    let hs = map header_of is in
    let bytes = canonical_instructions is in
    let once : is_distinct kind_of hs ≡ true = distinct_same is ∙ sym (distinct_place is) ∙ rising_once is up in
    let texts = texts_same is in
    let nexts = flat_map (goto_refusals table) is in
    let bodies = flat_map instruction_refusals is in
    let headers : items_from (headers_of table) (length bytes) [] bytes ≡ outcome hs (first_of nexts) =
    ap (λ (x : List ℕ). items_from (headers_of table) (length x) [] x) (sym texts)
    ∙ walk (headers_of table) text_of (own_header table) (length (flat_map text_of hs)) [] hs (omega arith) (header_steps table [] hs (headers_fit is fits short) (all_new hs) once)
    ∙ ap (λ (rs : List (Bool × Code)). outcome hs (first_of rs)) (next_same table [] is) in
    ap (λ (r : Result (List Header) Code). then_ordered (then_bodies r)) headers ∙ by_headers (first_of nexts) ∙ ap (outcome is) (sym (first_append nexts bodies))
  where
    by_bodies : (o : Option Code) → then_ordered (outcome is o) ≡ outcome is o
    by_bodies (Some code) = refl
    by_bodies None = ap Ok (order_same is up)

    by_headers : (o : Option Code) → then_ordered (then_bodies (outcome (map header_of is) o)) ≡ outcome is (or_else o (first_of (flat_map instruction_refusals is)))
    by_headers (Some code) = refl
    by_headers None = ap then_ordered (bodies_told is fits) ∙ by_bodies (first_of (flat_map instruction_refusals is))
