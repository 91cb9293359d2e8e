-- A FLOW_MOD of a flow of a text is refused with the text's code.
use Rattle.std.proofs.Common.{◌≡◌, ℕ, ◌<◌, Bool, true, false, not, ltb, eqb, List, [], ◌∷◌, ◌++◌, length, drop, Option, Some, None, Result, Ok, Err, refl, sym, ◌∙◌, ap, append_assoc, arith, inl, inr}
use Rattle.std.{specs.Prelude.◌⊎◌, specs.Prelude.bit_and, specs.List.flat_map, proofs.lemmas.Bool.eq-eqb, proofs.lemmas.Bool.le-ltb, proofs.lemmas.Bool.lt-ltb, proofs.lemmas.Bool.ne_eqb}
use Rattle.std.proofs.{lemmas.List.drop_at, lemmas.List.length-append, lemmas.Nat.and_le_r}
use Rattle.of_wire.specs.{declared.code.Code.Code, Items.outcome, Refusals.first_of, Refusals.refusal}
use Rattle.of_formats.specs.Reading.{◌>>=◌, unless}
use Rattle.of_oxm.specs.{declared.match_field.MatchField.MatchField, Canonical.canonical, MatchReading.match_of}
use Rattle.of_actions.specs.{declared.instruction.Instruction.Instruction, CanonicalInstructions.canonical_instructions, FlowCheck.all_go_with}
use Rattle.of_actions.specs.InstructionReading as reading
use Rattle.of_messages.specs.Messages.{command_said, flow_mod_by, flow_mod_of, instructions_for, message_of}
use Rattle.of_messages.specs.{declared.message.FlowMod.FlowMod, declared.message.FlowModCommand.FlowModCommand, declared.message.FlowModCommand.TheVariants.Add}
use Rattle.of_messages.specs.Written.{flow_mod_bytes, flow_mod_numbers}
use Rattle.of_build.specs.Listing.{add_of}
use Rattle.of_text.specs.Refusals.{flow_refusals, goto_refusals, instruction_refusals, instructions_refusals, match_refusals, or_else}
use Rattle.of_text.{specs.Flows.Flow, proofs.RefusalLemmas.first_append}
use Rattle.of_laws.{specs.Refused.IsSaid, specs.Refused.match_outcome, specs.Refused.message_outcome, proofs.FlowAgain.Says, proofs.FlowAgain.body_is, proofs.FlowAgain.says}
use Rattle.of_laws.proofs.{Refusing.match_told, RefusingFlows.instructions_told, Heads.as_flow_mod}

says_flow : (xid : ℕ) (f : Flow) → IsSaid f → Says (add_of f) (flow_mod_bytes xid (add_of f))
says_flow xid f w =
    let head = w.head in
    says xid (add_of f) (head.2, (omega arith, (omega (arith, head.0), (omega arith, (head.3, (head.4, (head.1, (omega arith, (omega arith, (omega arith, (head.5, tt))))))))))) w.short

-- the table and the flags
unfoldable front : Flow → List (Bool × Code)
front f = (ltb 15 f.head.table, refusal 5 2) ∷ (not (eqb (bit_and f.head.flags 25) f.head.flags), refusal 5 7) ∷ []

flags_same : (n : ℕ) → (bit_and n 25 ≡ n) ⊎ (31 < n) → ltb 31 n ≡ not (eqb (bit_and n 25) n)
flags_same n (inl e) = le-ltb _ _ (omega (arith, e, and_le_r n 25)) ∙ sym (ap not (eq-eqb _ _ e))
flags_same n (inr over) = lt-ltb _ _ over ∙ sym (ap not (ne_eqb _ _ (λ e. omega (arith, e, over, and_le_r n 25))))

abbrev said_outcome : Option Code → Result FlowModCommand Code
said_outcome None = Ok Add
said_outcome (Some code) = Err code

front_same : (f : Flow) → IsSaid f → command_said 0 f.head.table f.head.flags ≡ said_outcome (first_of (front f))
unfolding front command_said
front_same f w = by_tests (ltb 15 f.head.table) (eqb (bit_and f.head.flags 25) f.head.flags) refl refl (flags_same f.head.flags w.flags)
  where
    by_tests : (t u : Bool) → ltb 15 f.head.table ≡ t → eqb (bit_and f.head.flags 25) f.head.flags ≡ u → ltb 31 f.head.flags ≡ not (eqb (bit_and f.head.flags 25) f.head.flags)
        → command_said 0 f.head.table f.head.flags ≡ said_outcome (first_of ((ltb 15 f.head.table, refusal 5 2) ∷ (not (eqb (bit_and f.head.flags 25) f.head.flags), refusal 5 7) ∷ []))
    by_tests true u over known flags = rw over refl
    by_tests false true under known flags = let fine : ltb 31 f.head.flags ≡ false = flags ∙ ap not known in rw (under, fine, known) refl
    by_tests false false under known flags = let high : ltb 31 f.head.flags ≡ true = flags ∙ ap not known in rw (under, high, known) refl

abbrev mod_outcome : FlowMod → Option Code → Result FlowMod Code
mod_outcome m None = Ok m
mod_outcome m (Some code) = Err code

-- ---- step by step, with the numbers of a flow

abbrev made : Flow → FlowModCommand → List MatchField → List Instruction → FlowMod
made f command fields instructions = record {
  cookie = f.head.cookie;
  cookie_mask = 0;
  table = f.head.table;
  command = command;
  idle_timeout = f.head.idle;
  hard_timeout = f.head.hard;
  priority = f.head.priority;
  buffer = 0xffffffff;
  out_port = 0xffffffff;
  out_group = 0xffffffff;
  flags = f.head.flags;
  fields = fields;
  instructions = instructions;
}

abbrev then_instructions : Flow → FlowModCommand → List MatchField → Result (List Instruction) Code → Result FlowMod Code
then_instructions f command fields r = r >>= λ is. unless ((not (all_go_with fields is), refusal 2 10) ∷ []) >>= λ fit. Ok (made f command fields is)

abbrev then_match : Flow → List ℕ → FlowModCommand → Result (List MatchField × ℕ) Code → Result FlowMod Code
then_match f rest command r = r >>= λ m. then_instructions f command m.0 (instructions_for command f.head.table (drop m.1 rest))

abbrev then_command : Flow → List ℕ → Result FlowModCommand Code → Result FlowMod Code
then_command f rest r = r >>= λ command. then_match f rest command (match_of rest)

-- the instructions, and the flow check
check_told : (f : Flow) (o : Option Code)
    → then_instructions f Add f.fields (outcome f.instructions o) ≡ mod_outcome (add_of f) (or_else o (first_of ((not (all_go_with f.fields f.instructions), refusal 2 10) ∷ [])))
check_told f (Some code) = refl
check_told f None = by_fit (all_go_with f.fields f.instructions)
  where
    by_fit : (t : Bool) → (unless ((not t, refusal 2 10) ∷ []) >>= λ fit. Ok (add_of f)) ≡ mod_outcome (add_of f) (first_of ((not t, refusal 2 10) ∷ []))
    by_fit true = refl
    by_fit false = refl

-- the bytes behind the numbers
abbrev rest_of : Flow → List ℕ
rest_of f = canonical f.fields ++ canonical_instructions f.instructions

instructions_there : (f : Flow) → IsSaid f
    → reading.instructions_in_bytes f.head.table (drop (length (canonical f.fields)) (rest_of f)) ≡ outcome f.instructions (first_of (flat_map (goto_refusals f.head.table) f.instructions ++ flat_map instruction_refusals f.instructions))
instructions_there f w =
    let parts = length-append (canonical f.fields) (canonical_instructions f.instructions) in
    ap (reading.instructions_in_bytes f.head.table) (drop_at (canonical f.fields) (canonical_instructions f.instructions) (length (canonical f.fields)) refl)
    ∙ instructions_told f.head.table f.instructions w.instructions w.in_order (omega (arith, parts, w.short))

-- the match, and what follows it
match_then : (f : Flow) → IsSaid f → (o : Option Code)
    → then_match f (rest_of f) Add (match_outcome f.fields o) ≡ mod_outcome (add_of f) (or_else o (first_of (instructions_refusals f.head.table f.fields f.instructions)))
unfolding instructions_refusals
match_then f w (Some code) = refl
match_then f w None =
    let nexts = flat_map (goto_refusals f.head.table) f.instructions in
    let bodies = flat_map instruction_refusals f.instructions in
    let check : List (Bool × Code) = (not (all_go_with f.fields f.instructions), refusal 2 10) ∷ [] in
    ap (then_instructions f Add f.fields) (instructions_there f w)
    ∙ check_told f (first_of (nexts ++ bodies))
    ∙ ap (mod_outcome (add_of f)) (sym (first_append (nexts ++ bodies) check) ∙ ap first_of (append_assoc nexts bodies check))

front_then : (f : Flow) → IsSaid f → (o : Option Code)
    → then_command f (rest_of f) (said_outcome o) ≡ mod_outcome (add_of f) (or_else o (first_of (match_refusals f.fields ++ instructions_refusals f.head.table f.fields f.instructions)))
front_then f w (Some code) = refl
front_then f w None =
    let behind = instructions_refusals f.head.table f.fields f.instructions in
    ap (then_match f (rest_of f) Add) (match_told f.fields (canonical_instructions f.instructions) w.fields w.ascending)
    ∙ match_then f w (first_of (match_refusals f.fields))
    ∙ ap (mod_outcome (add_of f)) (sym (first_append (match_refusals f.fields) behind))

mod_told : (f : Flow) (b : List ℕ) → Says (add_of f) b → IsSaid f → flow_mod_of b ≡ mod_outcome (add_of f) (first_of (flow_refusals f))
unfolding flow_refusals front
mod_told f b h w =
    ap (λ (ns : List ℕ). flow_mod_by ns (drop 48 b)) h.numbers_are
    ∙ ap (flow_mod_by (flow_mod_numbers (add_of f))) h.rest_is
    ∙ ap (then_command f (rest_of f)) (front_same f w)
    ∙ front_then f w (first_of (front f))
    ∙ ap (mod_outcome (add_of f)) (sym (first_append (front f) (match_refusals f.fields ++ instructions_refusals f.head.table f.fields f.instructions)))

as_message : (m : FlowMod) (o : Option Code) → as_flow_mod (mod_outcome m o) ≡ message_outcome m o
as_message m None = refl
as_message m (Some code) = refl

pub flow_told : (xid : ℕ) (f : Flow) → IsSaid f → message_of (flow_mod_bytes xid (add_of f)) ≡ message_outcome (add_of f) (first_of (flow_refusals f))
flow_told xid f w =
    let m = add_of f in
    let b = flow_mod_bytes xid m in
    let h = says_flow xid f w in
    body_is m b h ∙ ap as_flow_mod (mod_told f b h w) ∙ as_message m (first_of (flow_refusals f))
