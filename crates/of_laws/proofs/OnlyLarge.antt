-- What is in the places of a PACKET_OUT, a FLOW_MOD or a GROUP_MOD, and after them, it says.
use Rattle.std.proofs.Common.{◌≡◌, ◌≤◌, ◌<◌, ◌+◌, ◌-◌, ℕ, true, false, not, eqb, ltb, cond, List, [], ◌∷◌, ◌++◌, length, take, drop, Option, Some, None, Result, Ok, Err, refl, sym, ap, subst, ◌∙◌, arith, inl, inr}
use Rattle.std.proofs.lemmas.List.{length-append, length-drop, drop-drop, take_at, drop_at}
use Rattle.std.{specs.Prelude.slice_index, specs.Prelude.◌&&◌, specs.Prelude.is_none, proofs.lemmas.Bool.le-ltb, proofs.lemmas.Bool.Decides.nat_tests}
use Rattle.of_wire.specs.{declared.limits.TheConstants.OFPG_ALL, declared.code.Code.Code, Refusals.refusal}
use Rattle.byteorder.specs.Endian.{big_number}
use Rattle.of_headers.specs.Faults.{frame_fault}
use Rattle.of_oxm.specs.MatchReading.{match_of}
use Rattle.of_actions.{specs.Actions.actions_said, proofs.ActionsComputed.actions_are, proofs.Computed.is_computed}
use Rattle.of_groups.specs.declared.group.GroupKind.{GroupKind}
use Rattle.of_groups.specs.{declared.group.GroupKind.TheVariants.All, Groups.kind_number}
use Rattle.of_messages.specs.GroupMods.{command_of_group_mod as group_command_of, is_above, group_kind_of, group_of, delete_of, group_mod_of}
use Rattle.of_messages.specs.Messages.{command_of, command_said, is_bad_table, instructions_for, flow_mod_by, flow_mod_of, is_ingress, packet_in_data, packet_out_by, packet_out_of}
use Rattle.of_messages.specs.{declared.group_mod.GroupMod.GroupMod, declared.group_mod.NewGroup.NewGroup, declared.message.FlowMod.FlowMod, declared.message.FlowModCommand.FlowModCommand}
use Rattle.of_messages.specs.declared.message.FlowModCommand.TheVariants.{Add, Modify, Delete}
use Rattle.of_messages.specs.{declared.message.PacketData.PacketData, declared.message.PacketData.TheVariants.Buffered, declared.message.PacketData.TheVariants.Frame}
use Rattle.of_messages.specs.{declared.message.PacketOut.PacketOut, Buckets.buckets_said, Heads.actions_length, Written.command_number, Written.flow_mod_numbers}
use Rattle.of_messages.specs.declared.group_mod.GroupMod.TheVariants as group
use Rattle.of_formats.specs.{Reading.◌>>=◌, Structs.numbers}
use Rattle.of_formats.specs.Tables as tables
use Rattle.of_laws.specs.Grammar.{IsData, IsValidData, IsIngress, IsValidPacketOut, ActionsThenData, buffer_of, flow_mod_cells, deletes, HasInstructions, MatchThenInstructions, MayName, IsValidFlowMod, group_cells, group_mod_cells, GroupTail, IsValidNumber, IsValidGroupMod}
use Rattle.of_laws.proofs.Places.{Says, says, size, rest_is, size_is}
use Rattle.of_laws.{specs.Cells.StructCell, specs.Cells.u16_cell, specs.Cells.pad, specs.Requests.NamesTable, specs.Requests.or_all, proofs.BucketTails.buckets_only, proofs.MatchTails.match_only}

-- ---- PACKET_OUT

pub ingress : (port : ℕ) → IsIngress port → is_ingress port ≡ true
ingress port (inl both) = let low = both.0 in let high = both.1 in grind (arith, nat_tests)
ingress port (inr is) = rw is refl

pub no_fault : (frame : List ℕ) → 14 ≤ length frame → length frame ≤ 9216 → frame_fault frame ≡ None
no_fault frame low high =
    let short : ltb (length frame) 14 ≡ false = le-ltb _ _ low in
    let long : ltb 9216 (length frame) ≡ false = le-ltb _ _ high in
    rw (long, short) refl

data_only : (d : PacketData) (bytes : List ℕ) → IsData d bytes → IsValidData d → packet_in_data (buffer_of d) bytes ≡ Ok d
data_only (Buffered number) bytes is valid =
    let other : eqb number 0xffffffff ≡ false = grind (arith, nat_tests, valid) in
    rw other refl
data_only (Frame frame) bytes is valid =
    let fine : frame_fault bytes ≡ None = ap frame_fault is ∙ no_fault frame valid.0 valid.1 in
    ap (λ (o : Option _). cond (is_none o) (Ok (Frame bytes)) (Err (refusal 1 12))) fine ∙ ap (λ (x : List ℕ). Ok (Frame x)) is

-- the actions of a PACKET_OUT, and what follows them
abbrev pub actions_in : List ℕ → List ℕ
actions_in m = take (actions_length m) (drop 24 m)

abbrev pub frame_in : List ℕ → List ℕ
frame_in m = drop (actions_length m) (drop 24 m)

-- what the tail of a PACKET_OUT says
pub record Tailed (p : PacketOut) (m : List ℕ) : Type 0 where
  pub long : 24 + actions_length m ≤ length m
  pub said : actions_said true (actions_in m) ≡ Ok p.actions
  pub data_is : IsData p.packet (frame_in m)

pub tailed : (p : PacketOut) (m tail : List ℕ) → 16 ≤ length m → tail ≡ drop 16 m → ActionsThenData p tail → Tailed p m
tailed p m tail long there h =
    let cells : List StructCell = u16_cell (length h.actions) ∷ pad 6 ∷ [] in
    let s = says 16 cells m tail (h.actions ++ h.packet) there h.front in
    let len : actions_length m ≡ length h.actions = s.0 in
    let behind : h.actions ++ h.packet ≡ drop 24 m = rest_is cells tail (h.actions ++ h.packet) h.front ∙ ap (drop 8) there ∙ drop-drop 8 16 m in
    let total : length tail ≡ 8 + length (h.actions ++ h.packet) = size_is cells tail (h.actions ++ h.packet) h.front in
    let size : length tail ≡ length m - 16 = ap length there ∙ length-drop 16 m in
    let acts : actions_in m ≡ h.actions = ap (take (actions_length m)) (sym behind) ∙ take_at h.actions h.packet (actions_length m) (sym len) in
    let frame : frame_in m ≡ h.packet = ap (drop (actions_length m)) (sym behind) ∙ drop_at h.actions h.packet (actions_length m) (sym len) in
    record {
      long = omega (arith, length-append h.actions h.packet);
      said = ap (actions_said true) acts ∙ actions_are true h.actions p.actions None h.are;
      data_is = subst (λ (x : List ℕ). IsData p.packet x) (sym frame) h.is;
    }

pub packet_out_only : (p : PacketOut) (m : List ℕ) → big_number 4 (drop 8 m) ≡ buffer_of p.packet → big_number 4 (drop 12 m) ≡ p.in_port → Tailed p m → IsValidPacketOut p → packet_out_of m ≡ Ok p
packet_out_only p m buffer port t valid =
    let rest = drop 24 m in
    let len = actions_length m in
    let fine = ingress p.in_port valid.0 in
    let packet = data_only p.packet (frame_in m) t.data_is valid.1 in
    ap (λ (n : ℕ). packet_out_by (n ∷ big_number 4 (drop 12 m) ∷ len ∷ []) rest) buffer
    ∙ ap (λ (n : ℕ). packet_out_by (buffer_of p.packet ∷ n ∷ len ∷ []) rest) port
    ∙ rw (fine, t.said, packet) refl

-- ---- FLOW_MOD

command_again : (c : FlowModCommand) → command_of (command_number c) ≡ Some c
command_again Add = refl
command_again (Modify false) = refl
command_again (Modify true) = refl
command_again (Delete false) = refl
command_again (Delete true) = refl

adds : (t : ℕ) → t < 16 → ltb 15 t ≡ false
adds t lt = le-ltb _ _ (omega arith)

deleted : (t : ℕ) → NamesTable t → (ltb 15 t && not (eqb t 255)) ≡ false
deleted t (inl lt) = let low = adds t lt in rw low refl
deleted t (inr is) = rw is refl

table_fine : (c : FlowModCommand) (t : ℕ) → MayName (deletes c) t → is_bad_table t c ≡ false
table_fine (Delete strict) t h = deleted t h
table_fine other t h = let low = adds t h in rw low refl

command_read : (c : FlowModCommand) (table flags : ℕ) → MayName (deletes c) table → flags < 32 → command_said (command_number c) table flags ≡ Ok c
unfolding command_said
command_read c table flags may lt =
    let command = command_again c in
    let fine = table_fine c table may in
    let low : ltb 31 flags ≡ false = le-ltb _ _ (omega arith) in
    rw (command, fine, low) refl

instructions_only : (f : FlowMod) (c : FlowModCommand) (bytes : List ℕ) → HasInstructions f (deletes c) bytes → instructions_for c f.table bytes ≡ Ok f.instructions
instructions_only f (Delete strict) bytes h = ap Ok (sym h)
instructions_only f other bytes h = is_computed f.table bytes (Ok f.instructions) h tt

numbers_are : (f : FlowMod) (m : List ℕ) → Says 8 (flow_mod_cells f) m → numbers tables.flow_mod 8 m ≡ flow_mod_numbers f
numbers_are f m s =
    let a = s.1.1.1.1 in
    rw (s.0, s.1.0, s.1.1.0, s.1.1.1.0, a.0, a.1.0, a.1.1.0, a.1.1.1.0, a.1.1.1.1.0, a.1.1.1.1.1.0, a.1.1.1.1.1.1.0) refl

-- its numbers, and what follows them
pub flow_mod_read : (f : FlowMod) (rest : List ℕ) → MatchThenInstructions f rest → IsValidFlowMod f → flow_mod_by (flow_mod_numbers f) rest ≡ Ok f
flow_mod_read f rest h valid =
    let command = command_read f.command f.table f.flags valid.table valid.flags in
    let fields : match_of rest ≡ Ok (f.fields, length h.fields) = ap match_of h.whole ∙ match_only h.fields h.instructions f.fields h.encoded in
    let after : drop (length h.fields) rest ≡ h.instructions = ap (drop (length h.fields)) h.whole ∙ drop_at h.fields h.instructions (length h.fields) refl in
    let instructions : instructions_for f.command f.table (drop (length h.fields) rest) ≡ Ok f.instructions = ap (instructions_for f.command f.table) after ∙ instructions_only f f.command h.instructions h.are in
    rw (command, fields, instructions, valid.fit) refl

pub flow_mod_only : (f : FlowMod) (m tail : List ℕ) → tail ≡ drop 48 m → Says 8 (flow_mod_cells f) m → MatchThenInstructions f tail → IsValidFlowMod f → flow_mod_of m ≡ Ok f
flow_mod_only f m tail there s h valid =
    ap (λ (ns : List ℕ). flow_mod_by ns (drop 48 m)) (numbers_are f m s) ∙ ap (flow_mod_by (flow_mod_numbers f)) (sym there) ∙ flow_mod_read f tail h valid

-- ---- GROUP_MOD

pub kind_again : (k : GroupKind) → group_kind_of (kind_number k) ≡ Some k
unfolding group_kind_of
kind_again All = refl
kind_again other = refl

below : (number : ℕ) → number ≤ 0xffffff00 → is_above number ≡ false
below number most = le-ltb _ _ most

-- its command, its number, and the group that an ADD or a MODIFY asks for
abbrev pub command_in : List ℕ → ℕ
command_in m = big_number 2 (drop 8 m)

abbrev pub number_in : List ℕ → ℕ
number_in m = big_number 4 (drop 12 m)

abbrev pub group_in : List ℕ → Result NewGroup Code
group_in m = group_of (slice_index m 10) (number_in m) (drop 16 m)

abbrev pub as_add : Result NewGroup Code → Result GroupMod Code
as_add r = r >>= λ g. Ok (group.Add g)

abbrev pub as_modify : Result NewGroup Code → Result GroupMod Code
as_modify r = r >>= λ g. Ok (group.Modify g)

group_read : (g : NewGroup) (rest : List ℕ) → buckets_said rest ≡ Ok g.buckets → g.id ≤ 0xffffff00 → group_of (kind_number g.kind) g.id rest ≡ Ok g
group_read g rest buckets most =
    let low = below g.id most in
    let kind = kind_again g.kind in
    rw (low, kind, buckets) refl

group_only : (g : NewGroup) (command : ℕ) (m tail : List ℕ) → tail ≡ drop 16 m → Says 8 (group_cells command g) m → buckets_said tail ≡ Ok g.buckets → g.id ≤ 0xffffff00 → group_in m ≡ Ok g
group_only g command m tail there s buckets most =
    ap (λ (n : ℕ). group_of n (number_in m) (drop 16 m)) s.1.0
    ∙ ap (λ (n : ℕ). group_of (kind_number g.kind) n (drop 16 m)) s.1.1.0
    ∙ ap (group_of (kind_number g.kind) g.id) (sym there)
    ∙ group_read g tail buckets most

pub by_add : (m : List ℕ) → command_in m ≡ 0 → group_mod_of m ≡ as_add (group_in m)
unfolding group_command_of
by_add m e = rw e refl

pub by_modify : (m : List ℕ) → command_in m ≡ 1 → group_mod_of m ≡ as_modify (group_in m)
unfolding group_command_of
by_modify m e = rw e refl

pub by_delete : (m : List ℕ) → command_in m ≡ 2 → group_mod_of m ≡ delete_of (number_in m)
unfolding group_command_of
by_delete m e = rw e refl

delete_only : (which : Option ℕ) → IsValidNumber which → delete_of (or_all OFPG_ALL which) ≡ Ok (group.Delete which)
delete_only None valid = refl
delete_only (Some number) valid =
    let other : eqb number 0xfffffffc ≡ false = grind (arith, nat_tests) in
    let low = below number valid in
    rw (other, low) refl

pub group_size : (g : GroupMod) → size (group_mod_cells g) ≡ 8
group_size (group.Add g) = refl
group_size other = refl

pub group_mod_only : (g : GroupMod) (m tail : List ℕ) → tail ≡ drop 16 m → Says 8 (group_mod_cells g) m → GroupTail g tail → IsValidGroupMod g → group_mod_of m ≡ Ok g
group_mod_only (group.Add g) m tail there s h valid =
    by_add m s.0 ∙ ap as_add (group_only g 0 m tail there s (buckets_only g.buckets tail valid.1 h) valid.0)
group_mod_only (group.Modify g) m tail there s h valid =
    by_modify m s.0 ∙ ap as_modify (group_only g 1 m tail there s (buckets_only g.buckets tail valid.1 h) valid.0)
group_mod_only (group.Delete which) m tail there s h valid = by_delete m s.0 ∙ ap delete_of s.1.0 ∙ delete_only which valid
