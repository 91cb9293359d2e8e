-- A FLOW_MOD that is written, whatever its transaction id is: what it says, and that it is read again.
use Rattle.std.proofs.Common.{◌≡◌, ℕ, ◌+◌, ◌<◌, ◌≤◌, true, List, [], ◌++◌, length, drop, Ok, refl, sym, ◌∙◌, ap, arith}
use Rattle.std.proofs.{lemmas.Bool.le-ltb, lemmas.List.length-append}
use Rattle.byteorder.specs.Numbers.{big_number-reads_back}
use Rattle.of_formats.{specs.Structs.FitsStruct, specs.Structs.numbers, proofs.StructLaws.numbers_at, proofs.StructLaws.written_is_read}
use Rattle.of_formats.specs.Tables as tables
use Rattle.of_oxm.specs.{NormalForm.IsMatch, Canonical.canonical}
use Rattle.of_actions.specs.{CanonicalInstructions.canonical_instructions, InstructionLists.are_for, InstructionLists.are_kept}
use Rattle.of_messages.specs.{declared.message.FlowMod.FlowMod, declared.message.Message.TheVariants.FlowMod as IsFlowMod, Heads.header_length, Heads.type_of, Heads.version_of}
use Rattle.of_messages.specs.Messages.{flow_mod_by, flow_mod_of, message_of}
use Rattle.of_messages.specs.Written.{flow_mod_bytes, flow_mod_fixed_part, flow_mod_numbers, flow_mod_numbers as said_numbers}
use Rattle.of_laws.{specs.Grammar.IsValidFlowMod, specs.Grammar.MatchThenInstructions, specs.Grammar.deletes, proofs.Heads.as_flow_mod, proofs.Heads.body_by, proofs.Heads.flow_mod}
use Rattle.of_laws.proofs.{Only.of_kind, OnlyLarge.flow_mod_read, Refusing.canonical_least, WrittenRequests.command_same, WrittenRequests.tail_is, WrittenRequests.tail_short}

-- what a message says, over a variable, where nothing has computed to bytes yet
pub record Says (m : FlowMod) (b : List ℕ) : Type 0 where
  pub version : version_of b ≡ 4
  pub type : type_of b ≡ 14
  pub size : header_length b ≡ length b
  pub long : 56 ≤ length b
  pub numbers_are : numbers tables.flow_mod 8 b ≡ flow_mod_numbers m
  pub rest_is : drop 48 b ≡ canonical m.fields ++ canonical_instructions m.instructions

-- the numbers of a FLOW_MOD that is written are read again
again : (xid : ℕ) (m : FlowMod) → FitsStruct tables.flow_mod (flow_mod_numbers m) [] → numbers tables.flow_mod 8 (flow_mod_bytes xid m) ≡ flow_mod_numbers m
unfolding flow_mod_fixed_part
again xid m fits =
    sym (numbers_at tables.flow_mod 8 0 (flow_mod_bytes xid m))
    ∙ written_is_read tables.flow_mod (flow_mod_numbers m) [] (canonical m.fields ++ canonical_instructions m.instructions) fits

pub says : (xid : ℕ) (m : FlowMod) → FitsStruct tables.flow_mod (flow_mod_numbers m) [] → length (canonical m.fields ++ canonical_instructions m.instructions) < 65488 → Says m (flow_mod_bytes xid m)
unfolding flow_mod_fixed_part
says xid m fits short =
    let b = flow_mod_bytes xid m in
    let tail = canonical m.fields ++ canonical_instructions m.instructions in
    let body = flow_mod_fixed_part m ++ tail in
    let long : length b ≡ 48 + length tail = omega arith in
    let size : 8 + length body ≡ length b = omega arith in
    let parts = length-append (canonical m.fields) (canonical_instructions m.instructions) in
    let least = canonical_least m.fields in
    record {
      version = refl;
      type = refl;
      size = big_number-reads_back 2 (8 + length body) (drop 4 b) (omega (arith, short)) ∙ size;
      long = omega (arith, parts, least);
      numbers_are = again xid m fits;
      rest_is = refl;
    }

pub body_is : (m : FlowMod) (b : List ℕ) → Says m b → message_of b ≡ as_flow_mod (flow_mod_of b)
unfolding body_by
body_is m b h =
    let long = h.long in
    of_kind flow_mod b (omega (arith, long)) h.version h.type h.size (le-ltb _ _ long) refl

numbers_same : (m : FlowMod) → flow_mod_numbers m ≡ said_numbers m
numbers_same m = rw (command_same m.command) refl

mod_again : (m : FlowMod) (b : List ℕ) → Says m b → MatchThenInstructions m (canonical m.fields ++ canonical_instructions m.instructions) → IsValidFlowMod m → flow_mod_of b ≡ Ok m
mod_again m b h tail valid =
    ap (λ (ns : List ℕ). flow_mod_by ns (drop 48 b)) (h.numbers_are ∙ numbers_same m)
    ∙ ap (flow_mod_by (said_numbers m)) h.rest_is
    ∙ flow_mod_read m (canonical m.fields ++ canonical_instructions m.instructions) tail valid

pub flow_mod_again : (xid : ℕ) (m : FlowMod) → FitsStruct tables.flow_mod (flow_mod_numbers m) [] → IsValidFlowMod m → IsMatch m.fields → are_kept m.instructions ≡ true → are_for m.table m.instructions ≡ true
    → (deletes m.command ≡ true → m.instructions ≡ []) → message_of (flow_mod_bytes xid m) ≡ Ok (IsFlowMod m)
flow_mod_again xid m fits valid match kept fit none =
    let b = flow_mod_bytes xid m in
    let short = tail_short m match kept in
    let h = says xid m fits (omega (arith, short)) in
    body_is m b h ∙ ap as_flow_mod (mod_again m b h (tail_is m match kept fit none) valid)
