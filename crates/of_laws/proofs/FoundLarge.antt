-- What was read as a PACKET_OUT, a FLOW_MOD or a GROUP_MOD is in its places, and after them.
use Rattle.std.proofs.Common.{◌≡◌, ◌≤◌, ◌<◌, ◌+◌, ℕ, zero, suc, Bool, true, false, not, eqb, ltb, cond, List, [], ◌∷◌, ◌++◌, length, take, drop, Some, None, Result, Ok, Err, refl, sym, ap, subst, ◌∙◌, arith, inl, inr}
use Rattle.std.specs.Prelude.{slice_index, ◌&&◌, ◌||◌, is_none}
use Rattle.std.proofs.{lemmas.Bool.eqb-true, lemmas.Bool.eqb-false, lemmas.Bool.ltb-false, lemmas.Bool.not-false, lemmas.Bool.Decides.nat_tests}
use Rattle.std.proofs.lemmas.List.{length-drop, length-take, take-append-drop}
use Rattle.of_wire.specs.{declared.limits.TheConstants.OFPG_ALL, declared.limits.TheConstants.OFPP_CONTROLLER, declared.code.Code.Code, Refusals.refusal}
use Rattle.of_wire.proofs.Numbers.{IsBytes, IsBytes-drop}
use Rattle.byteorder.specs.Endian.{big_number}
use Rattle.of_headers.specs.Faults.{frame_fault}
use Rattle.of_oxm.specs.{declared.match_field.MatchField.MatchField, MatchReading.match_of}
use Rattle.of_actions.specs.{declared.instruction.Instruction.Instruction, Actions.actions_said, FlowCheck.all_go_with, PortNumbers.is_number}
use Rattle.of_groups.specs.declared.group.GroupKind.{GroupKind}
use Rattle.of_groups.specs.{declared.group.GroupKind.TheVariants.All, Groups.kind_number}
use Rattle.of_messages.specs.GroupMods.{command_of_group_mod as group_command_of, is_above, group_kind_of, group_of, delete_of, group_mod_of}
use Rattle.of_messages.specs.Messages.{command_of, command_said, is_bad_table, instructions_for, flow_mod_of, is_ingress, packet_in_data, packet_out_of}
use Rattle.of_messages.specs.{declared.group_mod.GroupMod.GroupMod, declared.group_mod.NewGroup.NewGroup, declared.message.FlowMod.FlowMod, declared.message.FlowModCommand.FlowModCommand}
use Rattle.of_messages.specs.declared.message.FlowModCommand.TheVariants.{Add, Modify, Delete}
use Rattle.of_messages.specs.{declared.message.PacketData.PacketData, declared.message.PacketData.TheVariants.Buffered, declared.message.PacketData.TheVariants.Frame}
use Rattle.of_messages.specs.{declared.message.PacketOut.PacketOut, Buckets.buckets_said, Heads.actions_length, Written.command_number}
use Rattle.of_messages.specs.declared.group_mod.GroupMod.TheVariants as group
use Rattle.of_formats.{specs.Reading.known, proofs.Binding.bound, proofs.Binding.passed, proofs.Binding.is_known, proofs.Binding.same_ok}
use Rattle.of_laws.specs.Grammar.{IsData, IsValidData, IsIngress, IsValidPacketOut, ActionsThenData, buffer_of, flow_mod_cells, deletes, HasInstructions, MatchThenInstructions, MayName, IsValidFlowMod, group_mod_cells, GroupTail, IsValidGroup, IsValidGroupMod}
use Rattle.of_laws.proofs.OnlyLarge.{actions_in, frame_in, command_in, number_in, group_in, as_add, as_modify, by_add, by_modify, by_delete}
use Rattle.of_laws.{specs.Buckets.AreBuckets, specs.Cells.StructCell, specs.Cells.u16_cell, specs.Cells.u32_cell, specs.Cells.pad, specs.Requests.NamesTable, proofs.ActionTails.actions_found}
use Rattle.of_laws.proofs.{BucketTails.buckets_found, InstructionTails.instructions_found, MatchTails.match_found, Places.Says, Places.begins}

-- ---- PACKET_OUT

pub ingress : (port : ℕ) → is_ingress port ≡ true → IsIngress port
ingress port h = by_number (is_number port) refl h
  where
    by_number : (b : Bool) → is_number port ≡ b → (b || eqb port OFPP_CONTROLLER) ≡ true → IsIngress port
    by_number true is e = let low : 1 ≤ port = grind (arith, nat_tests) in let high : port ≤ 0xffffff00 = grind (arith, nat_tests) in inl (low, high)
    by_number false is e = inr (eqb-true port OFPP_CONTROLLER e)

record DataSays (d : PacketData) (buffer : ℕ) (bytes : List ℕ) : Type 0 where
  number : buffer ≡ buffer_of d
  is : IsData d bytes
  valid : IsValidData d

pub frame_fits : (frame : List ℕ) → is_none (frame_fault frame) ≡ true → (14 ≤ length frame) × (length frame ≤ 9216)
frame_fits frame h = (grind (arith, nat_tests), grind (arith, nat_tests))

data_found : (d : PacketData) (buffer : ℕ) (bytes : List ℕ) → packet_in_data buffer bytes ≡ Ok d → DataSays d buffer bytes
data_found d buffer bytes h = by_buffer (eqb buffer 0xffffffff) refl (is_none (frame_fault bytes)) refl h
  where
    by_buffer : (b : Bool) → eqb buffer 0xffffffff ≡ b → (fine : Bool) → is_none (frame_fault bytes) ≡ fine → cond {A = Result PacketData Code} b (cond fine (Ok (Frame bytes)) (Err (refusal 1 12))) (Ok (Buffered buffer)) ≡ Ok d → DataSays d buffer bytes
    by_buffer true is false fits e = absurd cc
    by_buffer true is true fits e =
        let same : Frame bytes ≡ d = cc in
        subst (λ (x : PacketData). DataSays x buffer bytes) same (record { number = eqb-true _ _ is; is = refl; valid = frame_fits bytes fits })
    by_buffer false is fine fits e =
        let same : Buffered buffer ≡ d = cc in
        subst (λ (x : PacketData). DataSays x buffer bytes) same (record { number = refl; is = tt; valid = eqb-false _ _ is })

pub record PacketOutSays (p : PacketOut) (m : List ℕ) : Type 0 where
  pub says : Says 8 (u32_cell (buffer_of p.packet) ∷ u32_cell p.in_port ∷ []) m
  pub behind : ActionsThenData p (drop 16 m)
  pub valid : IsValidPacketOut p

tail_found : (p : PacketOut) (m : List ℕ) → IsBytes m → 24 + actions_length m ≤ length m → actions_said true (actions_in m) ≡ Ok p.actions → IsData p.packet (frame_in m) → ActionsThenData p (drop 16 m)
tail_found p m fits long said is =
    let size : length (actions_in m) ≡ actions_length m = omega (arith, length-take (actions_length m) (drop 24 m), length-drop 24 m) in
    let cells : List StructCell = u16_cell (length (actions_in m)) ∷ pad 6 ∷ [] in
    let front = begins 16 cells m fits (omega arith) (sym size, tt) in
    let parts : drop 24 m ≡ actions_in m ++ frame_in m = sym (take-append-drop (actions_length m) (drop 24 m)) in
    record { actions = actions_in m; packet = frame_in m; front = rw (← parts) front; are = actions_found true (actions_in m) p.actions said; is = is }

pub packet_out_found : (p : PacketOut) (m : List ℕ) → IsBytes m → 24 + actions_length m ≤ length m → packet_out_of m ≡ Ok p → PacketOutSays p m
packet_out_found p m fits long h =
    let buffer = big_number 4 (drop 8 m) in
    let port = big_number 4 (drop 12 m) in
    let fine = passed ((not (is_ingress port), refusal 1 11) ∷ []) _ p h in
    let actions = bound (actions_said true (actions_in m)) _ p fine.1 in
    let packet = bound (packet_in_data buffer (frame_in m)) _ p actions.2 in
    let d = data_found packet.0 buffer (frame_in m) packet.1 in
    let made : PacketOut = record { in_port = port; actions = actions.0; packet = packet.0 } in
    subst (λ (x : PacketOut). PacketOutSays x m) (same_ok packet.2) (record {
      says = (d.number, (refl, tt));
      behind = tail_found made m fits long actions.1 d.is;
      valid = (ingress port (not-false _ fine.0.0), d.valid);
    })

-- ---- FLOW_MOD

command_known : (n : ℕ) (c : FlowModCommand) → command_of n ≡ Some c → n ≡ command_number c
command_known zero c h = let e : Add ≡ c = cc in ap command_number e
command_known (suc zero) c h = let e : Modify false ≡ c = cc in ap command_number e
command_known (suc (suc zero)) c h = let e : Modify true ≡ c = cc in ap command_number e
command_known (suc (suc (suc zero))) c h = let e : Delete false ≡ c = cc in ap command_number e
command_known (suc (suc (suc (suc zero)))) c h = let e : Delete true ≡ c = cc in ap command_number e
command_known (suc (suc (suc (suc (suc n))))) c h = absurd cc

low_table : (t : ℕ) (any : Bool) → (ltb 15 t && not (false && any)) ≡ false → t < 16
low_table t any h = by_low (ltb 15 t) refl h
  where
    by_low : (b : Bool) → ltb 15 t ≡ b → (b && true) ≡ false → t < 16
    by_low true is e = absurd cc
    by_low false is e = omega (arith, ltb-false 15 t is)

any_table : (t : ℕ) → (ltb 15 t && not (true && eqb t 255)) ≡ false → NamesTable t
any_table t h = by_low (ltb 15 t) refl h
  where
    by_low : (b : Bool) → ltb 15 t ≡ b → (b && not (eqb t 255)) ≡ false → NamesTable t
    by_low true is e = inr (eqb-true t 255 (not-false _ e))
    by_low false is e = inl (omega (arith, ltb-false 15 t is))

table_found : (c : FlowModCommand) (t : ℕ) → is_bad_table t c ≡ false → MayName (deletes c) t
table_found (Delete strict) t h = any_table t h
table_found other t h = low_table t (eqb t 255) h

instructions_for_found : (f : FlowMod) (c : FlowModCommand) (bytes : List ℕ) → instructions_for c f.table bytes ≡ Ok f.instructions → HasInstructions f (deletes c) bytes
instructions_for_found f (Delete strict) bytes h = sym (same_ok h)
instructions_for_found f other bytes h = instructions_found f.table bytes f.instructions h

pub record FlowModSays (f : FlowMod) (m : List ℕ) : Type 0 where
  pub says : Says 8 (flow_mod_cells f) m
  pub behind : MatchThenInstructions f (drop 48 m)
  pub valid : IsValidFlowMod f

-- what holds of a command, a table and flags that are not refused
record Commanded (c : FlowModCommand) (n table flags : ℕ) : Type 0 where
  is : n ≡ command_number c
  may : MayName (deletes c) table
  low : flags < 32

commanded : (c : FlowModCommand) (n table flags : ℕ) → command_said n table flags ≡ Ok c → Commanded c n table flags
unfolding command_said
commanded c n table flags h =
    let a = bound _ _ c h in
    let b = passed ((is_bad_table table a.0, refusal 5 2) ∷ (ltb 31 flags, refusal 5 7) ∷ []) (Ok a.0) c a.2 in
    let high = ltb-false 31 flags b.0.1.0 in
    subst (λ (x : FlowModCommand). Commanded x n table flags) (same_ok b.1)
    (record { is = command_known n a.0 (is_known (command_of n) (refusal 5 6) a.0 a.1); may = table_found a.0 table b.0.0; low = omega (arith, high) })

-- a FLOW_MOD with the numbers of these bytes
abbrev made_of : List ℕ → FlowModCommand → List MatchField → List Instruction → FlowMod
made_of m command fields instructions = record {
  cookie = big_number 8 (drop 8 m);
  cookie_mask = big_number 8 (drop 16 m);
  table = slice_index m 24;
  command = command;
  idle_timeout = big_number 2 (drop 26 m);
  hard_timeout = big_number 2 (drop 28 m);
  priority = big_number 2 (drop 30 m);
  buffer = big_number 4 (drop 32 m);
  out_port = big_number 4 (drop 36 m);
  out_group = big_number 4 (drop 40 m);
  flags = big_number 2 (drop 44 m);
  fields = fields;
  instructions = instructions;
}

pub flow_mod_found : (f : FlowMod) (m : List ℕ) → IsBytes m → flow_mod_of m ≡ Ok f → FlowModSays f m
flow_mod_found f m fits h =
    let rest = drop 48 m in
    let c = bound (command_said (slice_index m 25) (slice_index m 24) (big_number 2 (drop 44 m))) _ f h in
    let q = bound (match_of rest) _ f c.2 in
    let n = q.0.1 in
    let is = bound (instructions_for c.0 (slice_index m 24) (drop n rest)) _ f q.2 in
    let go = passed ((not (all_go_with q.0.0 is.0), refusal 2 10) ∷ []) _ f is.2 in
    let k = commanded c.0 (slice_index m 25) (slice_index m 24) (big_number 2 (drop 44 m)) c.1 in
    let made = made_of m c.0 q.0.0 is.0 in
    subst (λ (x : FlowMod). FlowModSays x m) (same_ok go.1) (record {
      says = (refl, (refl, (refl, (k.is, (refl, (refl, (refl, (refl, (refl, (refl, (refl, tt)))))))))));
      behind = record {
        fields = take n rest;
        instructions = drop n rest;
        whole = sym (take-append-drop n rest);
        encoded = match_found rest q.0.0 n (IsBytes-drop 48 m fits) q.1;
        are = instructions_for_found made c.0 (drop n rest) is.1;
      };
      valid = record { table = k.may; flags = k.low; fit = not-false _ go.0.0 };
    })

-- ---- GROUP_MOD

kind_known : (n : ℕ) (k : GroupKind) → group_kind_of n ≡ Some k → n ≡ kind_number k
unfolding group_kind_of
kind_known n All h = grind (arith, nat_tests)
kind_known n other h = grind (arith, nat_tests)

record GroupSays (g : NewGroup) (type id : ℕ) (rest : List ℕ) : Type 0 where
  kind : type ≡ kind_number g.kind
  number : id ≡ g.id
  behind : AreBuckets g.buckets rest
  valid : IsValidGroup g

group_found : (g : NewGroup) (type id : ℕ) (rest : List ℕ) → IsBytes rest → group_of type id rest ≡ Ok g → GroupSays g type id rest
group_found g type id rest fits h =
    let low = passed ((is_above id, refusal 6 1) ∷ []) _ g h in
    let kind = bound (known (group_kind_of type) (refusal 6 10)) _ g low.1 in
    let buckets = bound (buckets_said rest) _ g kind.2 in
    let found = buckets_found buckets.0 rest fits buckets.1 in
    subst (λ (x : NewGroup). GroupSays x type id rest) (same_ok buckets.2) (record {
      kind = kind_known type kind.0 (is_known (group_kind_of type) (refusal 6 10) kind.0 kind.1);
      number = refl;
      behind = found.are;
      valid = (ltb-false _ _ low.0.0, found.few);
    })

pub record GroupModSays (g : GroupMod) (m : List ℕ) : Type 0 where
  pub says : Says 8 (group_mod_cells g) m
  pub behind : GroupTail g (drop 16 m)
  pub valid : IsValidGroupMod g

by_none : (m : List ℕ) → eqb (command_in m) 0 ≡ false → eqb (command_in m) 1 ≡ false → eqb (command_in m) 2 ≡ false → group_mod_of m ≡ Err (refusal 6 11)
unfolding group_command_of
by_none m a b c = rw (a, b, c) refl

delete_found : (g : GroupMod) (m : List ℕ) → command_in m ≡ 2 → delete_of (number_in m) ≡ Ok g → GroupModSays g m
delete_found g m command h = by_number (eqb (number_in m) OFPG_ALL) refl (is_above (number_in m)) refl h
  where
    by_number : (a : Bool) → eqb (number_in m) OFPG_ALL ≡ a → (b : Bool) → is_above (number_in m) ≡ b → cond {A = Result GroupMod Code} a (Ok (group.Delete None)) (cond b (Err (refusal 6 1)) (Ok (group.Delete (Some (number_in m))))) ≡ Ok g → GroupModSays g m
    by_number true all b low e =
        let same : group.Delete None ≡ g = cc in
        subst (λ (x : GroupMod). GroupModSays x m) same (record { says = (command, (eqb-true _ _ all, tt)); behind = tt; valid = tt })
    by_number false all true low e = absurd cc
    by_number false all false low e =
        let same : group.Delete (Some (number_in m)) ≡ g = cc in
        subst (λ (x : GroupMod). GroupModSays x m) same (record { says = (command, (refl, tt)); behind = tt; valid = ltb-false _ _ low })

pub group_mod_found : (g : GroupMod) (m : List ℕ) → IsBytes m → group_mod_of m ≡ Ok g → GroupModSays g m
group_mod_found g m fits h = by_tests (eqb (command_in m) 0) refl (eqb (command_in m) 1) refl (eqb (command_in m) 2) refl
  where
    by_added : command_in m ≡ 0 → as_add (group_in m) ≡ Ok g → GroupModSays g m
    by_added command e =
        let x = bound (group_in m) _ g e in
        let s = group_found x.0 (slice_index m 10) (number_in m) (drop 16 m) (IsBytes-drop 16 m fits) x.1 in
        subst (λ (y : GroupMod). GroupModSays y m) (same_ok x.2) (record { says = (command, (s.kind, (s.number, tt))); behind = s.behind; valid = s.valid })

    by_modified : command_in m ≡ 1 → as_modify (group_in m) ≡ Ok g → GroupModSays g m
    by_modified command e =
        let x = bound (group_in m) _ g e in
        let s = group_found x.0 (slice_index m 10) (number_in m) (drop 16 m) (IsBytes-drop 16 m fits) x.1 in
        subst (λ (y : GroupMod). GroupModSays y m) (same_ok x.2) (record { says = (command, (s.kind, (s.number, tt))); behind = s.behind; valid = s.valid })

    by_tests : (a : Bool) → eqb (command_in m) 0 ≡ a → (b : Bool) → eqb (command_in m) 1 ≡ b → (c : Bool) → eqb (command_in m) 2 ≡ c → GroupModSays g m
    by_tests true is b other c third = let command = eqb-true _ _ is in by_added command (sym (by_add m command) ∙ h)
    by_tests false is true other c third = let command = eqb-true _ _ other in by_modified command (sym (by_modify m command) ∙ h)
    by_tests false is false other true third = let command = eqb-true _ _ third in delete_found g m command (sym (by_delete m command) ∙ h)
    by_tests false is false other false third = let both : ◌≡◌ {A = Result GroupMod Code} (Err (refusal 6 11)) (Ok g) = sym (by_none m is other third) ∙ h in absurd cc
