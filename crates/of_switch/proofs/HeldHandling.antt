-- Frames that are held, and the messages that name them.
use Rattle.std.proofs.Common.{◌≡◌, ℕ, ◌<◌, ◌==◌, Bool, true, false, cond, List, [], ◌∷◌, Option, Some, None, refl, sym, ap, ◌∙◌, arith}
use Rattle.std.{specs.List.list_any, specs.Prelude.nat_le, proofs.lemmas.Bool.Decides.nat_tests}
use Rattle.of_datapath.specs.Commands.{commanded, commanded_by, flow_of, packet_out_frame, has_flag, is_to_absent_group, packet_out_refusals, selector_of, unless_any, without_packet}
use Rattle.of_datapath.specs.{Buffers.Held, Buffers.HeldFrames, declared.control.AsyncConfig.AsyncConfig, declared.control.Control.Control, declared.effect.Effect.Effect, Control.heard_of}
use Rattle.of_datapath.specs.{Applying.without_used, Numbers.without_numbers, Datapath.Forwarded, Datapath.Forwarding, Datapath.through, Datapath.without_held}
use Rattle.of_groups.specs.declared.group.Group.{Group}
use Rattle.of_ports.specs.declared.port.Port.{Port}
use Rattle.of_wire.specs.Refusals.{first_of}
use Rattle.of_actions.specs.declared.action.Action.{Action}
use Rattle.of_machine.specs.Rows.{Lookup, acts, entering}
use Rattle.of_messages.specs.{declared.message.PacketOut.PacketOut, declared.message.FlowMod.FlowMod, declared.message.FlowModCommand.FlowModCommand}
use Rattle.of_messages.specs.declared.message.FlowModCommand.TheVariants.{Add, Modify, Delete}
use Rattle.of_messages.specs.Messages.{is_delete}
use Rattle.of_table.specs.Table.{Table, add_flow_fault, added, is_full, is_overlapped}
use Rattle.of_table.specs.Tables.{NumberedTables, Tables, table_at, tables_fault, tables_of, with_table}
use Rattle.of_table.specs.{Copied.NumberedCopy, Copied.swapped_in, Entries.table_of, declared.flow.Flow.Flow}
use Rattle.of_table.specs.declared.table_fault.TableFault.TheVariants.{BadTable, Overlap, Full}
use Rattle.of_table.proofs.CopiedLemmas.{restored, restored_modified}
use Rattle.of_switch.specs.Steps.{Done, after_command, after_packet_out, held_frame_begun, does, forwarded, with_tables}
use Rattle.of_switch.specs.State.{Core}

-- a held frame begins
pub begun_is : (id : ℕ) (k : Core) (h : Held) (found : Option Held) (heard : AsyncConfig) (bytes : List ℕ) (ingress : ℕ) (d : Forwarded) (effects : List Effect) (f : Forwarding)
    → found ≡ Some h → heard ≡ heard_of k.control → bytes ≡ h.frame → ingress ≡ h.ingress
    → through heard (entering bytes ingress) (Lookup 0 ∷ []) (without_held id k.forwarding) ≡ d → effects ≡ d.effects → f ≡ d.forwarding
    → held_frame_begun id found k ≡ does effects (record k { forwarding = f })
begun_is id k h found heard bytes ingress d effects f there hears whole port runs es fs =
    let run : through (heard_of k.control) (entering h.frame h.ingress) (Lookup 0 ∷ []) (without_held id k.forwarding) ≡ d =
    ap (λ (a : AsyncConfig). through a (entering h.frame h.ingress) (Lookup 0 ∷ []) (without_held id k.forwarding)) (sym hears)
    ∙ (ap (λ (bs : List ℕ). through heard (entering bs h.ingress) (Lookup 0 ∷ []) (without_held id k.forwarding)) (sym whole)
    ∙ (ap (λ (n : ℕ). through heard (entering bytes n) (Lookup 0 ∷ []) (without_held id k.forwarding)) (sym port) ∙ runs)) in
    rw there
    (ap (λ (x : Forwarded). forwarded x k) run
    ∙ (ap (λ (x : List Effect). does x (record k { forwarding = d.forwarding })) (sym es)
    ∙ ap (λ (x : Forwarding). does effects (record k { forwarding = x })) (sym fs)))

-- the selection of a MODIFY names its table
named : (m : FlowMod) (c : NumberedCopy) → m.table < 16 → c.table ≡ m.table → unless_any 255 m.table ≡ Some c.table
named m c low table = let other : (m.table == 255) ≡ false = grind (arith, nat_tests) in rw (other, table) refl

-- a table that exists is not refused
pub no_bad_table : (k : ℕ) (flow : Flow) (ts : Tables) → k < 16 → Some BadTable ≡ tables_fault k flow ts → ⊥
no_bad_table k flow ts low e =
    let inside : nat_le 16 k ≡ false = grind (arith, nat_tests) in
    let other : Some BadTable ≡ add_flow_fault flow (table_at k ts).flows = rw inside at e in
    by_tests (is_overlapped flow (table_at k ts).flows) (is_full flow (table_at k ts).flows) other
  where
    by_tests : (b c : Bool) → Some BadTable ≡ cond b (Some Overlap) (cond c (Some Full) None) → ⊥
    by_tests true c e = absurd cc
    by_tests false true e = absurd cc
    by_tests false false e = absurd cc

-- a copy of a table takes an ADD and a MODIFY back
command_restored : (command : FlowModCommand) (m : FlowMod) (c : NumberedCopy) (before after : NumberedTables) → is_delete command ≡ false → m.table < 16 → c.table ≡ m.table
    → table_of c.copy ≡ table_at m.table (tables_of before) → tables_of after ≡ commanded_by command m (tables_of before) → tables_of (swapped_in c after) ≡ tables_of before
command_restored Add m c before after put low table copy is =
    let old = table_at m.table (tables_of before) in
    let new : Table = record old { flows = added before.latest (flow_of m) old.flows } in
    let kept : table_of c.copy ≡ table_at c.table (tables_of before) = rw table copy in
    let added_is : tables_of after ≡ with_table c.table new (tables_of before) = rw table is in
    restored c new before after kept added_is
command_restored (Modify strict) m c before after put low table copy is = restored_modified c (selector_of m) m.instructions (has_flag m.flags 4) before after (named m c low table) (let kept : table_of c.copy ≡ table_at c.table (tables_of before) = rw table copy in kept) is
command_restored (Delete strict) m c before after put low table copy is = absurd cc

-- with the tables as they were, so is the switch
pub taken_back : (m : FlowMod) (c : NumberedCopy) (k k' : Core) (effects : List Effect) (dpid : ℕ) (control : Control) (before after swapped : NumberedTables) (gs : List Group) (ps : List Port) (b : HeldFrames)
    → tables_of before ≡ k.forwarding.tables → is_delete m.command ≡ false → m.table < 16 → c.table ≡ m.table → table_of c.copy ≡ table_at m.table (tables_of before)
    → after_command m k ≡ does effects k' → record { dpid = dpid; control = control; forwarding = without_numbers after gs ps b } ≡ k' → swapped ≡ swapped_in c after
    → record { dpid = dpid; control = control; forwarding = without_numbers swapped gs ps b } ≡ k
taken_back m c k k' effects dpid control before after swapped gs ps b here put low table copy does_is there is =
    let now : record { dpid = dpid; control = control; forwarding = without_numbers after gs ps b } ≡ with_tables (commanded m k.forwarding.tables) k = there ∙ ap (λ (d : Done). d.core) (sym does_is) in
    let tables : tables_of after ≡ commanded m (tables_of before) = ap (λ (x : Core). x.forwarding.tables) now ∙ ap (commanded m) (sym here) in
    let back : tables_of swapped ≡ k.forwarding.tables = ap tables_of is ∙ (command_restored m.command m c before after put low table copy tables ∙ here) in
    let its_dpid : dpid ≡ k.dpid = ap (λ (x : Core). x.dpid) now in
    let its_control : control ≡ k.control = ap (λ (x : Core). x.control) now in
    let its_groups : gs ≡ k.forwarding.groups = ap (λ (x : Core). x.forwarding.groups) now in
    let its_ports : ps ≡ k.forwarding.ports = ap (λ (x : Core). x.forwarding.ports) now in
    let its_held : b ≡ k.forwarding.held = ap (λ (x : Core). x.forwarding.held) now in
    λ i. record { dpid = its_dpid i; control = its_control i; forwarding = record { tables = back i; groups = its_groups i; ports = its_ports i; held = its_held i } }

-- the packet of a PACKET_OUT is sent
pub out_is : (m : PacketOut) (k : Core) (id : Option ℕ) (frame bytes : List ℕ) (heard : AsyncConfig) (actions : List Action) (d : Forwarded) (effects : List Effect) (f : Forwarding)
    → without_used id k.forwarding.held ≡ without_packet m.packet k.forwarding.held → packet_out_frame m.packet k.forwarding.held ≡ Some frame → heard ≡ heard_of k.control → bytes ≡ frame → actions ≡ m.actions
    → false ≡ list_any (is_to_absent_group k.forwarding.groups) actions
    → through heard (entering bytes m.in_port) (acts actions) (record k.forwarding { held = without_used id k.forwarding.held }) ≡ d → effects ≡ d.effects → f ≡ d.forwarding
    → (first_of (packet_out_refusals m k.forwarding.groups k.forwarding.held) ≡ None) × (after_packet_out m k ≡ does effects (record k { forwarding = f }))
out_is m k id frame bytes heard actions d effects f used there hears whole same known runs es fs =
    let none : list_any (is_to_absent_group k.forwarding.groups) m.actions ≡ false = ap (list_any (is_to_absent_group k.forwarding.groups)) (sym same) ∙ sym known in
    let left : Option ℕ → Forwarding = λ i. record k.forwarding { held = without_used i k.forwarding.held } in
    let run : through (heard_of k.control) (entering frame m.in_port) (acts m.actions) (record k.forwarding { held = without_packet m.packet k.forwarding.held }) ≡ d =
    ap (λ (b : HeldFrames). through (heard_of k.control) (entering frame m.in_port) (acts m.actions) (record k.forwarding { held = b })) (sym used)
    ∙ (ap (λ (a : AsyncConfig). through a (entering frame m.in_port) (acts m.actions) (left id)) (sym hears)
    ∙ (ap (λ (bs : List ℕ). through heard (entering bs m.in_port) (acts m.actions) (left id)) (sym whole)
    ∙ (ap (λ (as' : List Action). through heard (entering bytes m.in_port) (acts as') (left id)) (sym same) ∙ runs))) in (
      rw (there, none) refl,
      rw there
          (ap (λ (x : Forwarded). forwarded x k) run
          ∙ (ap (λ (x : List Effect). does x (record k { forwarding = d.forwarding })) (sym es)
          ∙ ap (λ (x : Forwarding). does effects (record k { forwarding = x })) (sym fs))),
    )
