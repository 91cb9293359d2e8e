-- What the grammar of instructions says, computed.
use Rattle.std.proofs.Common.{◌≡◌, ℕ, false, List, [], ◌∷◌, length, Option, Some, None, Result, Ok, Err, refl, sym, ap, ◌∙◌, arith}
use Rattle.std.{specs.Prelude.IfOk, specs.Prelude.IfErr, proofs.lemmas.Bool.ltb-false}
use Rattle.of_wire.specs.{declared.code.Code.Code, declared.code.ReadError.ReadError, Failures.Fails, Failures.Reads, Items.TakesBytes, Items.items_from, Items.outcome}
use Rattle.of_wire.proofs.{ItemsRead.items_are, FirstLemmas.none_applies, FirstLemmas.first_false}
use Rattle.of_wire.specs.declared.code.ReadError.TheVariants as errors
use Rattle.of_actions.specs.Headers.{Header, goto, metadata, write, apply, clear, headers_of, header_refusals, AreHeaders}
use Rattle.of_actions.specs.Instructions.{HasActions, HasFault, IsInstructionBody, IsFault, AreBodies, EncodesInstructions, IsRefused}
use Rattle.of_actions.specs.InstructionReading.{with_actions_read, instruction_of_header, instruction_prepended, bodies_of, then_bodies, then_ordered, instructions_in_bytes}
use Rattle.of_actions.specs.{declared.action.Action.Action, declared.instruction.Instruction.Instruction}
use Rattle.of_actions.specs.{declared.instruction.Instruction.TheVariants.Apply, declared.instruction.Instruction.TheVariants.Write, Actions.actions_said, Beginnings.len_at}
use Rattle.of_actions.proofs.ActionsComputed.{actions_are}

headers_take : (table : ℕ) → TakesBytes (headers_of table)
unfolding header_refusals
headers_take table seen bytes some none =
    let low = first_false _ _ (first_false _ _ (none_applies (header_refusals table seen bytes) none).1.0) in
    omega (arith, ltb-false (len_at bytes) 8 low)

-- the actions of a body, computed
list_is : (bytes : List ℕ) (make : List Action → Instruction) (i : Instruction) → HasActions bytes make i → with_actions_read make (actions_said false bytes) ≡ Ok i
list_is bytes make i a = ap (with_actions_read make) (actions_are false bytes a.actions None a.encoded) ∙ ap Ok (sym a.is)

list_fault : (bytes : List ℕ) (make : List Action → Instruction) (code : Code) → HasFault bytes (Some code) → with_actions_read make (actions_said false bytes) ≡ Err code
list_fault bytes make code b = ap (with_actions_read make) (actions_are false bytes b.0 (Some code) b.1)

body_is : (h : Header) (i : Instruction) → IsInstructionBody h i → instruction_of_header h ≡ Ok i
body_is (goto table) i b = ap Ok (sym b)
body_is (metadata value mask) i b = ap Ok (sym b)
body_is (write bytes) i b = list_is bytes Write i b
body_is (apply bytes) i b = list_is bytes Apply i b
body_is clear i b = ap Ok (sym b)

fault_is : (h : Header) (code : Code) → IsFault h (Some code) → instruction_of_header h ≡ Err code
fault_is (goto table) code b = absurd b
fault_is (metadata value mask) code b = absurd b
fault_is (write bytes) code b = list_fault bytes Write code b
fault_is (apply bytes) code b = list_fault bytes Apply code b
fault_is clear code b = absurd b

no_end : (h : Header) → IsFault h None → ⊥
no_end (goto table) b = b
no_end (metadata value mask) b = b
no_end (write bytes) b = b
no_end (apply bytes) b = b
no_end clear b = b

in_front_of : (i : Instruction) (is : List Instruction) (fault : Option Code) → instruction_prepended (Ok i) (outcome is fault) ≡ outcome (i ∷ is) fault
in_front_of i is None = refl
in_front_of i is (Some code) = refl

bodies_are : (hs : List Header) (is : List Instruction) (fault : Option Code) → AreBodies hs is fault → bodies_of hs ≡ outcome is fault
bodies_are [] [] fault h = ap (outcome []) (sym h)
bodies_are [] (i ∷ is) fault h = absurd h
bodies_are (h ∷ hs) [] None b = absurd (no_end h b)
bodies_are (h ∷ hs) [] (Some code) b = ap (λ (r : Result Instruction Code). instruction_prepended r (bodies_of hs)) (fault_is h code b)
bodies_are (h ∷ hs) (i ∷ is) fault b =
    ap (λ (r : Result Instruction Code). instruction_prepended r (bodies_of hs)) (body_is h i b.0)
    ∙ (ap (instruction_prepended (Ok i)) (bodies_are hs is fault b.1) ∙ in_front_of i is fault)

headers_are : (table : ℕ) (bytes : List ℕ) (hs : List Header) (fault : Option Code) → AreHeaders table [] bytes hs fault → items_from (headers_of table) (length bytes) [] bytes ≡ outcome hs fault
headers_are table bytes hs fault h = items_are (headers_of table) (length bytes) [] bytes hs fault (headers_take table) (omega arith) h

encoded_computed : (table : ℕ) (bytes : List ℕ) (is : List Instruction) → EncodesInstructions table bytes is → instructions_in_bytes table bytes ≡ Ok is
unfolding instructions_in_bytes
encoded_computed table bytes is h =
    ap (λ (r : Result (List Header) Code). then_ordered (then_bodies r)) (headers_are table bytes h.headers None h.whole)
    ∙ (ap then_ordered (bodies_are h.headers h.message None h.bodies) ∙ ap Ok (sym h.order))

refused_computed : (table : ℕ) (bytes : List ℕ) (code : Code) → IsRefused table bytes code → instructions_in_bytes table bytes ≡ Err code
unfolding instructions_in_bytes
refused_computed table bytes code (IsRefused.header before h) = ap (λ (r : Result (List Header) Code). then_ordered (then_bodies r)) (headers_are table bytes before (Some code) h)
refused_computed table bytes code (IsRefused.body hs h before b) =
    ap (λ (r : Result (List Header) Code). then_ordered (then_bodies r)) (headers_are table bytes hs None h) ∙ ap then_ordered (bodies_are hs before (Some code) b)

error_computed : (table : ℕ) (bytes : List ℕ) (e : ReadError) → Fails (IsRefused table bytes) e → Fails (λ code. instructions_in_bytes table bytes ≡ Err code) e
error_computed table bytes errors.Memory h = tt
error_computed table bytes (errors.Refused code) h = refused_computed table bytes code h

pub is_computed : (table : ℕ) (bytes : List ℕ) (r : Result (List Instruction) ReadError) → IfOk r (λ list. EncodesInstructions table bytes list) → IfErr r (Fails (IsRefused table bytes)) → Reads r (instructions_in_bytes table bytes)
is_computed table bytes (Ok list) found refused = encoded_computed table bytes list found
is_computed table bytes (Err e) found refused = error_computed table bytes e refused
