-- Instructions that are written are read again.
use Rattle.std.proofs.Common.{◌≡◌, ℕ, ◌+◌, ◌-◌, ◌%◌, ◌^◌, ◌<◌, ◌≤◌, Bool, true, false, not, ltb, eqb, List, [], ◌∷◌, ◌++◌, length, take, drop, map, replicate, Some, None, refl, sym, ap, subst, ◌∙◌, arith}
use Rattle.std.{specs.Prelude.◌==◌, specs.Prelude.◌&&◌, specs.List.list_all, specs.List.flat_map, proofs.lemmas.Bool.le-ltb, proofs.lemmas.Bool.eq-eqb}
use Rattle.std.proofs.{lemmas.Bool.Decides.nat_tests, lemmas.Bool.Decides.eqb_tells, lemmas.List.length-append, lemmas.List.take_at, lemmas.List.Folds.list_any-append}
use Rattle.byteorder.specs.{Endian.big_bytes, Endian.big_number, Numbers.big_number-reads_back}
use Rattle.of_wire.specs.{Refusals.first_of, Items.AreItems, Numbered.is_used, Numbered.is_distinct}
use Rattle.of_wire.proofs.ItemsAgain.{Again, AllAgain, written_items}
use Rattle.of_actions.specs.declared.instruction.Instruction.TheVariants.{Apply, Clear, Write, Metadata, Goto}
use Rattle.of_actions.specs.InstructionLists.{type_of_instruction, run_place, is_served_body, are_kept, is_for, are_for}
use Rattle.of_actions.specs.Headers.{Header, goto, metadata, write, apply, clear, kind_of, is_known, is_size, is_next, goto_table_at, headers_of, header_refusals, header_at}
use Rattle.of_actions.specs.{declared.instruction.Instruction.Instruction, Beginnings.type_at, Beginnings.len_at, Rising.is_ascending, Instructions.AreBodies, Instructions.EncodesInstructions}
use Rattle.of_actions.specs.{CanonicalActions.canonical_actions, CanonicalInstructions.after_type, CanonicalInstructions.canonical_instruction, CanonicalInstructions.canonical_instructions}
use Rattle.of_actions.proofs.{ActionsAgain.canonical_encoded, ActionsAgain.canonical_short, Bodies.distinct_place, RunOrders.order_same, RunOrders.rising_once}

-- the header that an instruction is written with, and what that is written as
abbrev header_of : Instruction → Header
header_of (Goto table) = goto table
header_of (Metadata value mask) = metadata value mask
header_of (Write actions) = write (canonical_actions actions)
header_of (Apply actions) = apply (canonical_actions actions)
header_of Clear = clear

unfoldable text_of : Header → List ℕ
text_of (goto table) = 0 ∷ 1 ∷ 0 ∷ 8 ∷ table ∷ replicate 3 0
text_of (metadata value mask) = 0 ∷ 2 ∷ 0 ∷ 24 ∷ (replicate 4 0 ++ (big_bytes 8 value ++ big_bytes 8 mask))
text_of (write bytes) = 0 ∷ 3 ∷ after_type bytes
text_of (apply bytes) = 0 ∷ 4 ∷ after_type bytes
text_of clear = 0 ∷ 5 ∷ 0 ∷ 8 ∷ replicate 4 0

-- what a header that is written is like
record IsList (bytes : List ℕ) : Type 0 where
  short : length bytes ≤ 1536
  eights : length bytes % 8 ≡ 0

-- a type that is known and not refused as such
record IsServed (kind n : ℕ) : Type 0 where
  size : is_size kind n ≡ true
  meter : eqb kind 6 ≡ false
  experimenter : eqb kind 0xffff ≡ false
  known : is_known kind ≡ true

-- over a variable, where nothing has computed to cells yet
head_none : (table : ℕ) (seen : List Header) (rest : List ℕ) (n kind : ℕ) → len_at rest ≡ n → 8 ≤ n → (n % 8) ≡ 0 → n ≤ length rest → type_at rest ≡ kind → IsServed kind n → is_used kind_of kind seen ≡ false
    → ((kind == 1) && not (is_next table (goto_table_at rest))) ≡ false → first_of (header_refusals table seen rest) ≡ None
unfolding header_refusals
head_none table seen rest n kind len low eight whole type served unused next =
    let short : ltb (length rest) 4 ≡ false = le-ltb _ _ (omega arith) in
    let low' : ltb n 8 ≡ false = le-ltb _ _ low in
    let eight' : eqb (n % 8) 0 ≡ true = eq-eqb _ _ eight in
    let whole' : ltb (length rest) n ≡ false = le-ltb _ _ whole in
    let size = served.size in
    let meter = served.meter in
    let experimenter = served.experimenter in
    let known = served.known in
    rw (short, len, low', eight', whole', type, size, meter, experimenter, known, unused, next) refl

is_of : (kind n : ℕ) → is_size kind n ≡ true → eqb kind 6 ≡ false → eqb kind 0xffff ≡ false → is_known kind ≡ true → IsServed kind n
is_of kind n size meter experimenter known = record { size = size; meter = meter; experimenter = experimenter; known = known }

goto_again : (table to : ℕ) (seen : List Header) (x : List ℕ) → is_next table to ≡ true → is_used kind_of 1 seen ≡ false → Again (headers_of table) (text_of (goto to)) (goto to) seen x
unfolding text_of header_at
goto_again table to seen x next unused =
    let rest = text_of (goto to) ++ x in
    let next' : ((1 == 1) && not (is_next table (goto_table_at rest))) ≡ false = ap not next in
    record { some = omega arith; none = head_none table seen rest 8 1 refl (omega arith) refl (omega arith) refl (is_of 1 8 refl refl refl refl) unused next'; at = refl; size = refl }

clear_again : (table : ℕ) (seen : List Header) (x : List ℕ) → is_used kind_of 5 seen ≡ false → Again (headers_of table) (text_of clear) clear seen x
unfolding text_of header_at
clear_again table seen x unused =
    let rest = text_of clear ++ x in
    record { some = omega arith; none = head_none table seen rest 8 5 refl (omega arith) refl (omega arith) refl (is_of 5 8 refl refl refl refl) unused refl; at = refl; size = refl }

metadata_again : (table value mask : ℕ) (seen : List Header) (x : List ℕ) → value < 2 ^ 64 → mask < 2 ^ 64 → is_used kind_of 2 seen ≡ false → Again (headers_of table) (text_of (metadata value mask)) (metadata value mask) seen x
unfolding text_of header_at
metadata_again table value mask seen x fits mask_fits unused =
    let rest = text_of (metadata value mask) ++ x in
    let value_is : big_number 8 (drop 8 rest) ≡ value = big_number-reads_back 8 value (big_bytes 8 mask ++ x) (omega (arith, fits)) in
    let mask_is : big_number 8 (drop 16 rest) ≡ mask = big_number-reads_back 8 mask x (omega (arith, mask_fits)) in
    record {
      some = omega arith;
      none = head_none table seen rest 24 2 refl (omega arith) refl (omega arith) refl (is_of 2 24 refl refl refl refl) unused refl;
      at = ap (λ (v : ℕ). Some (metadata v (big_number 8 (drop 16 rest)))) value_is ∙ ap (λ (m : ℕ). Some (metadata value m)) mask_is;
      size = refl;
    }

-- ---- lists of actions

list_cut : (body x : List ℕ) (n : ℕ) → n ≡ 8 + length body → take (n - 8) (body ++ x) ≡ body
list_cut body x n e = take_at body x (n - 8) (omega arith)

write_again : (table : ℕ) (body : List ℕ) (seen : List Header) (x : List ℕ) → IsList body → is_used kind_of 3 seen ≡ false → Again (headers_of table) (text_of (write body)) (write body) seen x
unfolding text_of header_at
write_again table body seen x list unused =
    let n = 8 + length body in
    let short = list.short in
    let eights = list.eights in
    let rest = text_of (write body) ++ x in
    let len_is : len_at rest ≡ n = big_number-reads_back 2 n (replicate 4 0 ++ (body ++ x)) (omega arith) in
    let long : length rest ≡ n + length x = omega (arith, length-append body x) in
    let cut : take (len_at rest - 8) (body ++ x) ≡ body = list_cut body x (len_at rest) len_is in
    record {
      some = omega arith;
      none = head_none table seen rest n 3 len_is (omega arith) (omega arith) (omega arith) refl (is_of 3 n refl refl refl refl) unused refl;
      at = ap (λ (b : List ℕ). Some (write b)) cut;
      size = len_is ∙ omega arith;
    }

apply_again : (table : ℕ) (body : List ℕ) (seen : List Header) (x : List ℕ) → IsList body → is_used kind_of 4 seen ≡ false → Again (headers_of table) (text_of (apply body)) (apply body) seen x
unfolding text_of header_at
apply_again table body seen x list unused =
    let n = 8 + length body in
    let short = list.short in
    let eights = list.eights in
    let rest = text_of (apply body) ++ x in
    let len_is : len_at rest ≡ n = big_number-reads_back 2 n (replicate 4 0 ++ (body ++ x)) (omega arith) in
    let long : length rest ≡ n + length x = omega (arith, length-append body x) in
    let cut : take (len_at rest - 8) (body ++ x) ≡ body = list_cut body x (len_at rest) len_is in
    record {
      some = omega arith;
      none = head_none table seen rest n 4 len_is (omega arith) (omega arith) (omega arith) refl (is_of 4 n refl refl refl refl) unused refl;
      at = ap (λ (b : List ℕ). Some (apply b)) cut;
      size = len_is ∙ omega arith;
    }

-- ---- each instruction

record Fits (value mask : ℕ) : Type 0 where
  value_fits : value < 2 ^ 64
  mask_fits : mask < 2 ^ 64

metadata_fits : (value mask : ℕ) → is_served_body (Metadata value mask) ≡ true → Fits value mask
metadata_fits value mask served = record { value_fits = grind (arith, nat_tests); mask_fits = grind (arith, nat_tests) }

again : (table : ℕ) (i : Instruction) (seen : List Header) (x : List ℕ) → is_served_body i ≡ true → is_for table i ≡ true → is_used kind_of (type_of_instruction i) seen ≡ false → Again (headers_of table) (text_of (header_of i)) (header_of i) seen x
again table (Goto to) seen x served valid unused =
    let next : is_next table to ≡ true = rw (valid, served) refl in goto_again table to seen x next unused
again table (Metadata value mask) seen x served valid unused =
    let f = metadata_fits value mask served in metadata_again table value mask seen x f.value_fits f.mask_fits unused
again table (Write actions) seen x served valid unused =
    let l = canonical_short false actions served in write_again table (canonical_actions actions) seen x (record { short = l.short; eights = l.eights }) unused
again table (Apply actions) seen x served valid unused =
    let l = canonical_short false actions served in apply_again table (canonical_actions actions) seen x (record { short = l.short; eights = l.eights }) unused
again table Clear seen x served valid unused = clear_again table seen x unused

-- none of these is of the type of one before
abbrev are_new : List Header → List Instruction → Bool
are_new seen is = list_all (λ i. not (is_used kind_of (type_of_instruction i) seen)) is

new_more : (seen : List Header) (h : Header) (is : List Instruction) → are_new seen is ≡ true → is_used type_of_instruction (kind_of h) is ≡ false → are_new (seen ++ h ∷ []) is ≡ true
new_more seen h [] new unused = refl
new_more seen h (i ∷ is) new unused =
    grind (arith, nat_tests, new_more seen h is, list_any-append (λ y. eqb (kind_of y) (type_of_instruction i)) seen (h ∷ []), eqb_tells (kind_of h) (type_of_instruction i), eqb_tells (type_of_instruction i) (kind_of h))

kind_same : (i : Instruction) → kind_of (header_of i) ≡ type_of_instruction i
kind_same (Goto table) = refl
kind_same other = refl

all_again : (table : ℕ) (seen : List Header) (is : List Instruction) → list_all is_served_body is ≡ true → are_for table is ≡ true → are_new seen is ≡ true → is_distinct type_of_instruction is ≡ true → AllAgain (headers_of table) text_of seen (map header_of is)
all_again table seen [] served valid new once = tt
all_again table seen (i ∷ is) served valid new once =
    let this : is_served_body i ≡ true = grind (arith, nat_tests) in
    let others : list_all is_served_body is ≡ true = grind (arith, nat_tests) in
    let this_for : is_for table i ≡ true = grind (arith, nat_tests) in
    let others_for : are_for table is ≡ true = grind (arith, nat_tests) in
    let unused : is_used kind_of (type_of_instruction i) seen ≡ false = grind (arith, nat_tests) in
    let later : is_used type_of_instruction (kind_of (header_of i)) is ≡ false = rw (kind_same i) (grind (arith, nat_tests)) in
    let new' : are_new seen is ≡ true = grind (arith, nat_tests) in
    let once' : is_distinct type_of_instruction is ≡ true = grind (arith, nat_tests) in
    (λ x. again table i seen x this this_for unused, all_again table (seen ++ header_of i ∷ []) is others others_for (new_more seen (header_of i) is new' later) once')

text_same : (i : Instruction) → text_of (header_of i) ≡ canonical_instruction i
unfolding text_of canonical_instruction
text_same (Goto table) = refl
text_same other = refl

texts_same : (is : List Instruction) → flat_map text_of (map header_of is) ≡ canonical_instructions is
texts_same [] = refl
texts_same (i ∷ is) = rw (text_same i, texts_same is) refl

bodies : (is : List Instruction) → list_all is_served_body is ≡ true → AreBodies (map header_of is) is None
bodies [] served = refl
bodies (Goto table ∷ is) served = (refl, bodies is (grind (arith, nat_tests)))
bodies (Metadata value mask ∷ is) served = (refl, bodies is (grind (arith, nat_tests)))
bodies (Write actions ∷ is) served =
    (record { actions = actions; encoded = canonical_encoded false actions (grind (arith, nat_tests)); is = refl }, bodies is (grind (arith, nat_tests)))
bodies (Apply actions ∷ is) served =
    (record { actions = actions; encoded = canonical_encoded false actions (grind (arith, nat_tests)); is = refl }, bodies is (grind (arith, nat_tests)))
bodies (Clear ∷ is) served = (refl, bodies is (grind (arith, nat_tests)))

all_new : (is : List Instruction) → are_new [] is ≡ true
all_new [] = refl
all_new (i ∷ is) = all_new is

pub instructions_encoded : (table : ℕ) (is : List Instruction) → are_kept is ≡ true → are_for table is ≡ true → EncodesInstructions table (canonical_instructions is) is
instructions_encoded table is kept valid =
    let rising : is_ascending run_place is ≡ true = grind (arith, nat_tests) in
    let served : list_all is_served_body is ≡ true = grind (arith, nat_tests) in
    let once : is_distinct type_of_instruction is ≡ true = sym (distinct_place is) ∙ rising_once is rising in
    record {
      headers = map header_of is;
      whole = subst (λ (x : List ℕ). AreItems (headers_of table) [] x (map header_of is) None) (texts_same is) (written_items (headers_of table) text_of [] (map header_of is) (all_again table [] is served valid (all_new is) once));
      message = is;
      bodies = bodies is served;
      order = sym (order_same is rising);
    }
