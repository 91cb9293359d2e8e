-- Instructions that were computed from bytes are those that the bytes encode.
use Rattle.std.proofs.Common.{◌≡◌, ℕ, true, false, ltb, List, [], ◌∷◌, length, None, Result, Ok, Err, refl, sym, subst, arith}
use Rattle.std.{specs.Prelude.IsSome, proofs.lemmas.Bool.ltb-false, proofs.lemmas.Bool.not-false, proofs.lemmas.Bool.Decides.nat_tests}
use Rattle.of_wire.{specs.declared.code.Code.Code, specs.Items.TakesBytes, specs.Items.items_from, proofs.FirstLemmas.none_applies, proofs.FirstLemmas.first_false}
use Rattle.of_actions.specs.declared.instruction.Instruction.TheVariants.{Apply, Clear, Write, Metadata, Goto}
use Rattle.of_actions.specs.Headers.{Header, goto, metadata, write, apply, clear, is_known, headers_of, header_refusals, header_at}
use Rattle.of_actions.specs.InstructionReading.{with_actions_read, instruction_of_header, instruction_prepended, bodies_of, then_bodies, then_ordered, instructions_in_bytes}
use Rattle.of_actions.specs.{declared.action.Action.Action, declared.instruction.Instruction.Instruction, Actions.actions_said, Beginnings.type_at, Beginnings.len_at}
use Rattle.of_actions.specs.{Instructions.HasActions, Instructions.IsInstructionBody, Instructions.AreBodies, Instructions.EncodesInstructions, RunOrder.in_run_order}
use Rattle.of_laws.proofs.{Items.HasValues, Items.are_items, ActionTails.actions_found}

headers_take : (table : ℕ) → TakesBytes (headers_of table)
unfolding header_refusals
headers_take table seen bytes some none =
    let low : ltb (len_at bytes) 8 ≡ false = first_false _ _ (first_false _ _ (none_applies (header_refusals table seen bytes) none).1.0) in
    omega (arith, ltb-false (len_at bytes) 8 low)

some_header : (bytes : List ℕ) → is_known (type_at bytes) ≡ true → IsSome (header_at bytes)
unfolding header_at
some_header bytes known = grind (arith, nat_tests)

headers_have : (table : ℕ) → HasValues (headers_of table)
unfolding header_refusals
headers_have table seen bytes some none = some_header bytes (not-false _ (none_applies (header_refusals table seen bytes) none).1.1.1.1.1.0)

list_found : (bytes : List ℕ) (make : List Action → Instruction) (i : Instruction) (r : Result (List Action) Code) → actions_said false bytes ≡ r → with_actions_read make r ≡ Ok i → HasActions bytes make i
list_found bytes make i (Err code) is h = absurd cc
list_found bytes make i (Ok actions) is h = let same : make actions ≡ i = cc in record { actions = actions; encoded = actions_found false bytes actions is; is = sym same }

body_found : (h : Header) (i : Instruction) → instruction_of_header h ≡ Ok i → IsInstructionBody h i
body_found (goto table) i e = let same : Goto table ≡ i = cc in sym same
body_found (metadata value mask) i e = let same : Metadata value mask ≡ i = cc in sym same
body_found (write bytes) i e = list_found bytes Write i (actions_said false bytes) refl e
body_found (apply bytes) i e = list_found bytes Apply i (actions_said false bytes) refl e
body_found clear i e = let same : Clear ≡ i = cc in sym same

bodies_found : (hs : List Header) (is : List Instruction) → bodies_of hs ≡ Ok is → AreBodies hs is None
bodies_found [] [] e = refl
bodies_found [] (i ∷ is) e = absurd cc
bodies_found (h ∷ hs) is e = by_parts (instruction_of_header h) refl (bodies_of hs) refl is e (bodies_found hs)
  where
    by_parts : (r : Result Instruction Code) → instruction_of_header h ≡ r → (s : Result (List Instruction) Code) → bodies_of hs ≡ s → (all : List Instruction) → instruction_prepended r s ≡ Ok all
        → ((others : List Instruction) → bodies_of hs ≡ Ok others → AreBodies hs others None) → AreBodies (h ∷ hs) all None
    by_parts (Err code) is s are all f next = absurd cc
    by_parts (Ok i) is (Err code) are all f next = absurd cc
    by_parts (Ok i) is (Ok others) are all f next =
        let same : (i ∷ others) ≡ all = cc in
        subst (λ (x : List Instruction). AreBodies (h ∷ hs) x None) same (body_found h i is, next others are)

pub instructions_found : (table : ℕ) (bytes : List ℕ) (is : List Instruction) → instructions_in_bytes table bytes ≡ Ok is → EncodesInstructions table bytes is
unfolding instructions_in_bytes
instructions_found table bytes is e = by_headers (items_from (headers_of table) (length bytes) [] bytes) refl e
  where
    by_bodies : (hs : List Header) → items_from (headers_of table) (length bytes) [] bytes ≡ Ok hs → (r : Result (List Instruction) Code) → bodies_of hs ≡ r → then_ordered r ≡ Ok is → EncodesInstructions table bytes is
    by_bodies hs whole (Err code) bodies f = absurd cc
    by_bodies hs whole (Ok message) bodies f =
        let order : in_run_order message ≡ is = cc in
        record {
          headers = hs;
          whole = are_items (headers_of table) bytes hs (headers_take table) (headers_have table) whole;
          message = message;
          bodies = bodies_found hs message bodies;
          order = sym order;
        }

    by_headers : (r : Result (List Header) Code) → items_from (headers_of table) (length bytes) [] bytes ≡ r → then_ordered (then_bodies r) ≡ Ok is → EncodesInstructions table bytes is
    by_headers (Err code) whole f = absurd cc
    by_headers (Ok hs) whole f = by_bodies hs whole (bodies_of hs) refl f
