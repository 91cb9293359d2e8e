-- What is written of a PACKET_OUT, a FLOW_MOD, a GROUP_MOD and a MULTIPART_REQUEST encodes it.
use Rattle.std.proofs.Common.{◌≡◌, ℕ, ◌+◌, ◌^◌, ◌<◌, ◌≤◌, Bool, true, false, not, eqb, ltb, leb, List, [], ◌∷◌, ◌++◌, length, map, Option, Some, None, refl, sym, ap, subst, ◌∙◌, arith}
use Rattle.std.{specs.Prelude.◌&&◌, specs.Prelude.replicate, specs.Prelude.unwrap_or, specs.List.list_all, proofs.lemmas.Bool.eqb-true, proofs.lemmas.Bool.eqb-false}
use Rattle.std.proofs.{lemmas.Bool.Decides.nat_tests, lemmas.List.append-nil, lemmas.List.length-append}
use Rattle.of_wire.specs.declared.limits.TheConstants.{OFPG_ALL, OFPG_MAX, OFPP_ANY}
use Rattle.byteorder.specs.Endian.{big_bytes}
use Rattle.of_oxm.{specs.Canonical.canonical as canonical_match, specs.NormalForm.IsMatch, proofs.Written.canonical_short, proofs.Written.canonical_encodes}
use Rattle.of_actions.specs.{Actions.AreActions, CanonicalActions.canonical_actions, CanonicalInstructions.canonical_instructions, InstructionLists.are_for, InstructionLists.are_kept}
use Rattle.of_actions.specs.declared.instruction.Instruction.{Instruction}
use Rattle.of_groups.specs.{Buckets.are_fit, Buckets.fresh, Buckets.is_fit, declared.bucket.Bucket.Bucket}
use Rattle.of_messages.specs.{CanonicalGroups.canonical_buckets, CanonicalGroups.has_numbers, Messages.is_delete, Written.message_header, Written.message, Written.flow_mod_bytes}
use Rattle.of_messages.specs.{declared.group_mod.NewGroup.NewGroup, declared.message.FlowMod.FlowMod, declared.message.FlowModCommand.FlowModCommand}
use Rattle.of_messages.specs.declared.message.FlowModCommand.TheVariants.{Add}
use Rattle.of_messages.specs.declared.message.Message.TheVariants.{PacketOut as IsPacketOut, FlowMod as IsFlowMod, GroupMod as IsGroupMod, Multipart}
use Rattle.of_messages.specs.{declared.message.PacketData.PacketData, declared.message.PacketData.TheVariants.Buffered, declared.message.PacketData.TheVariants.Frame}
use Rattle.of_messages.specs.{declared.message.PacketOut.PacketOut, declared.multipart.FlowStatsRequest.FlowStatsRequest}
use Rattle.of_messages.specs.declared.multipart.MultipartRequest.TheVariants.{Flow, Aggregate, PortStats, Group}
use Rattle.of_messages.proofs.BucketsWritten.{buckets_short}
use Rattle.of_messages.specs.declared.group_mod.GroupMod.TheVariants as group
use Rattle.of_laws.specs.Cells.{u16_cell, u32_cell, even, pad, FitsCells, canonical_cells}
use Rattle.of_laws.specs.Grammar.{IsData, IsValidData, IsValidFlowMod, IsValidNumber, MayName, Encodes, buffer_of, deletes, flow_mod_cells, group_cells}
use Rattle.of_laws.specs.Sound.{counts_nothing, has_no_instructions, is_one, is_sound, is_sound_command, is_sound_group, is_sound_number, is_sound_packet}
use Rattle.of_laws.proofs.Written.{Parts, body, fields_written, six, three, whole_written}
use Rattle.of_laws.specs.{Buckets.AreBuckets, Requests.BeginsMatch, Requests.IsOne, Requests.flows_cells, Requests.or_all, Canonical.canonical_message, Canonical.packet_data_bytes}
use Rattle.of_laws.{specs.Written.IsWritten, proofs.FoundLarge.frame_fits, proofs.FoundLarge.ingress, proofs.FoundSmall.named, proofs.Writings.written}
use Rattle.of_laws.proofs.WrittenRequests.{beginning_is, buckets_encoded, flow_mod_encoded}

-- the first and the second of two tests
pub first : (a b : Bool) → (a && b) ≡ true → a ≡ true
first true b h = refl
first false b h = absurd cc

pub second : (a b : Bool) → (a && b) ≡ true → b ≡ true
second true b h = h
second false b h = absurd cc

pub within : (n k : ℕ) → leb n k ≡ true → n ≤ k
within n k h = grind (arith, nat_tests)

-- ---- PACKET_OUT

data_valid : (d : PacketData) → is_sound_packet d ≡ true → IsValidData d
data_valid (Buffered number) h = by_test (eqb number 0xffffffff) refl h
  where
    by_test : (b : Bool) → eqb number 0xffffffff ≡ b → not b ≡ true → IsValidData (Buffered number)
    by_test true is e = absurd cc
    by_test false is e = eqb-false _ _ is
data_valid (Frame frame) h = frame_fits frame h

data_is : (d : PacketData) → IsData d (packet_data_bytes d)
data_is (Buffered number) = tt
data_is (Frame frame) = refl

pub packet_out_parts : (m : PacketOut) (xid : ℕ) → xid < 256 ^ 4 → buffer_of m.packet < 256 ^ 4 → m.in_port < 256 ^ 4 → length (canonical_actions m.actions) ≤ 1536 → length (packet_data_bytes m.packet) ≤ 9216
    → AreActions true [] (canonical_actions m.actions) m.actions None → is_sound (IsPacketOut m) ≡ true → Parts (IsPacketOut m) xid (16 + length (canonical_actions m.actions) + length (packet_data_bytes m.packet))
packet_out_parts m xid x buffer port few short are sound =
    let actions = canonical_actions m.actions in
    let frame = packet_data_bytes m.packet in
    record {
      total = omega (arith, length-append actions frame);
      short = omega arith;
      xid_fits = x;
      fits = (buffer, (port, tt));
      behind = record { actions = actions; packet = frame; front = written (u16_cell (length actions) ∷ pad 6 ∷ []) (actions ++ frame) (omega arith, tt); are = are; is = data_is m.packet };
      valid = (ingress m.in_port (first _ _ sound), data_valid m.packet (second _ _ sound));
    }

pub packet_out_text : (m : PacketOut) (front s t u v w bytes actions frame : List ℕ) (buffer len : ℕ) → buffer ≡ buffer_of m.packet → len ≡ length actions → actions ≡ canonical_actions m.actions → frame ≡ packet_data_bytes m.packet
    → s ≡ front ++ big_bytes 4 buffer → t ≡ s ++ big_bytes 4 m.in_port → u ≡ t ++ big_bytes 2 len → v ≡ u ++ replicate 6 0 → w ≡ v ++ actions → bytes ≡ w ++ frame → bytes ≡ front ++ body (IsPacketOut m)
packet_out_text m front s t u v w bytes actions frame buffer len eb el ea ef p q r p' q' r' =
    let whole = six front s t u v w bytes (big_bytes 4 buffer) (big_bytes 4 m.in_port) (big_bytes 2 len) (replicate 6 0) actions frame p q r p' q' r' in
    whole
    ∙ ap (λ (n : ℕ). front ++ (big_bytes 4 n ++ (big_bytes 4 m.in_port ++ (big_bytes 2 len ++ (replicate 6 0 ++ (actions ++ frame)))))) eb
    ∙ ap (λ (n : ℕ). front ++ (big_bytes 4 (buffer_of m.packet) ++ (big_bytes 4 m.in_port ++ (big_bytes 2 n ++ (replicate 6 0 ++ (actions ++ frame)))))) el
    ∙ ap (λ (x : List ℕ). front ++ (big_bytes 4 (buffer_of m.packet) ++ (big_bytes 4 m.in_port ++ (big_bytes 2 (length x) ++ (replicate 6 0 ++ (x ++ frame)))))) ea
    ∙ ap (λ (x : List ℕ). front ++ (big_bytes 4 (buffer_of m.packet) ++ (big_bytes 4 m.in_port ++ (big_bytes 2 (length (canonical_actions m.actions)) ++ (replicate 6 0 ++ (canonical_actions m.actions ++ x)))))) ef

-- ---- FLOW_MOD

delete_same : (c : FlowModCommand) → is_delete c ≡ deletes c
delete_same Add = refl
delete_same other = refl

none_left : (is : List Instruction) → has_no_instructions is ≡ true → is ≡ []
none_left [] h = refl
none_left (i ∷ is) h = absurd cc

-- what holds of the table and the instructions
record Command (m : FlowMod) (delete : Bool) : Type 0 where
  table : MayName delete m.table
  fit : are_for m.table m.instructions ≡ true
  none : delete ≡ true → m.instructions ≡ []

command_sound : (m : FlowMod) (delete : Bool) → is_sound_command delete m ≡ true → Command m delete
command_sound m true h =
    let none = none_left m.instructions (second _ _ h) in
    record { table = named m.table (first _ _ h); fit = ap (are_for m.table) none; none = λ e. none }
command_sound m false h =
    let low : m.table < 16 = let t : ltb m.table 16 ≡ true = first _ _ h in grind (arith, nat_tests) in
    record { table = low; fit = second _ _ h; none = λ e. absurd cc }

low_flags : (n : ℕ) → ltb n 32 ≡ true → n < 32
low_flags n h = grind (arith, nat_tests)

pub flow_mod_written : (m : FlowMod) (xid : ℕ) (bytes : List ℕ) → xid < 256 ^ 4 → FitsCells (flow_mod_cells m) → IsMatch m.fields → are_kept m.instructions ≡ true → is_sound (IsFlowMod m) ≡ true → bytes ≡ flow_mod_bytes xid m → IsWritten xid (IsFlowMod m) bytes
unfolding canonical_message
flow_mod_written m xid bytes x fits match kept sound is =
    let tests : (is_sound_command (is_delete m.command) m && ltb m.flags 32) ≡ true = first _ _ sound in
    let command = command_sound m (deletes m.command) (ap (λ (b : Bool). is_sound_command b m) (sym (delete_same m.command)) ∙ first _ _ tests) in
    let low : ltb m.flags 32 ≡ true = second _ _ tests in
    let flags : m.flags < 32 = low_flags m.flags low in
    let valid : IsValidFlowMod m = record { table = command.table; flags = flags; fit = second _ _ sound } in
    let encoded = flow_mod_encoded xid m x fits valid match kept command.fit command.none in
    record { text = is ∙ ap (λ (b : List ℕ). message 14 xid b) (beginning_is m (canonical_match m.fields ++ canonical_instructions m.instructions)); encoded = subst (λ (b : List ℕ). Encodes xid (IsFlowMod m) b) (sym is) encoded }

-- ---- GROUP_MOD

fresh_again : (b : Bucket) (n k : ℕ) → n ≡ b.packets → k ≡ b.bytes → record { weight = b.weight; watch_port = b.watch_port; watch_group = b.watch_group; actions = b.actions; packets = n; bytes = k } ≡ b
fresh_again b n k p q = rw (p, q) refl

all_fresh : (bs : List Bucket) → list_all counts_nothing bs ≡ true → map fresh bs ≡ bs
all_fresh [] h = refl
all_fresh (b ∷ bs) h =
    let none : counts_nothing b ≡ true = first _ _ h in
    let this : fresh b ≡ b = fresh_again b 0 0 (sym (eqb-true _ _ (first _ _ none))) (sym (eqb-true _ _ (second _ _ none))) in
    ap (λ (x : Bucket). x ∷ map fresh bs) this ∙ ap (λ (x : List Bucket). b ∷ x) (all_fresh bs (second _ _ h))

-- what is written of a group, by the command
abbrev pub group_text : ℕ → ℕ → NewGroup → List ℕ
group_text command xid g = message_header 15 (8 + (8 + length (canonical_buckets g.buckets))) xid ++ (canonical_cells (group_cells command g) ++ canonical_buckets g.buckets)

-- what holds of it
pub record Grouped (g : NewGroup) : Type 0 where
  pub id : g.id ≤ OFPG_MAX
  pub few : length g.buckets ≤ 16
  pub short : length (canonical_buckets g.buckets) ≤ 24832
  pub are : AreBuckets g.buckets (canonical_buckets g.buckets)

pub grouped : (g : NewGroup) → list_all has_numbers g.buckets ≡ true → are_fit g.buckets ≡ true → is_sound_group g ≡ true → Grouped g
grouped g numbers fit sound =
    let all : list_all is_fit g.buckets ≡ true = second (leb (length g.buckets) 16) (list_all is_fit g.buckets) fit in
    let most : leb g.id OFPG_MAX ≡ true = first (leb g.id OFPG_MAX) (list_all counts_nothing g.buckets) sound in
    let count : leb (length g.buckets) 16 ≡ true = first (leb (length g.buckets) 16) (list_all is_fit g.buckets) fit in
    record {
      id = grind (arith, nat_tests);
      few = grind (arith, nat_tests);
      short = buckets_short g.buckets fit;
      are = subst (λ (bs : List Bucket). AreBuckets bs (canonical_buckets g.buckets)) (all_fresh g.buckets (second (leb g.id OFPG_MAX) (list_all counts_nothing g.buckets) sound)) (buckets_encoded g.buckets numbers all);
    }

pub add_written : (g : NewGroup) (xid : ℕ) (bytes : List ℕ) → xid < 256 ^ 4 → FitsCells (group_cells 0 g) → Grouped g → bytes ≡ group_text 0 xid g → IsWritten xid (IsGroupMod (group.Add g)) bytes
add_written g xid bytes x fits h is =
    let short = h.short in
    whole_written (IsGroupMod (group.Add g)) xid (8 + length (canonical_buckets g.buckets)) bytes is
    (record { total = refl; short = omega arith; xid_fits = x; fits = fits; behind = h.are; valid = (h.id, h.few) })

pub modify_written : (g : NewGroup) (xid : ℕ) (bytes : List ℕ) → xid < 256 ^ 4 → FitsCells (group_cells 1 g) → Grouped g → bytes ≡ group_text 1 xid g → IsWritten xid (IsGroupMod (group.Modify g)) bytes
modify_written g xid bytes x fits h is =
    let short = h.short in
    whole_written (IsGroupMod (group.Modify g)) xid (8 + length (canonical_buckets g.buckets)) bytes is
    (record { total = refl; short = omega arith; xid_fits = x; fits = fits; behind = h.are; valid = (h.id, h.few) })

-- ---- MULTIPART_REQUEST

flows_total : (r : FlowStatsRequest) → length (canonical_match r.fields) ≤ 1128 → 40 + length (canonical_match r.fields) ≤ 65527
flows_total r short = omega arith

begins_match : (r : FlowStatsRequest) → IsMatch r.fields → BeginsMatch r.fields (canonical_match r.fields)
begins_match r match = record { front = canonical_match r.fields; rest = []; whole = sym (append-nil (canonical_match r.fields)); encoded = canonical_encodes r.fields match }

-- what is written of a request for flows
abbrev pub flows_text : ℕ → ℕ → FlowStatsRequest → List ℕ
flows_text number xid r = message_header 18 (8 + (40 + length (canonical_match r.fields))) xid ++ (canonical_cells (u16_cell number ∷ even 2 ∷ pad 4 ∷ flows_cells r) ++ canonical_match r.fields)

pub flow_written : (r : FlowStatsRequest) (xid : ℕ) (bytes : List ℕ) → xid < 256 ^ 4 → FitsCells (flows_cells r) → IsMatch r.fields → is_sound (Multipart (Flow r)) ≡ true → bytes ≡ flows_text 1 xid r → IsWritten xid (Multipart (Flow r)) bytes
flow_written r xid bytes x fits match sound is =
    whole_written (Multipart (Flow r)) xid (40 + length (canonical_match r.fields)) bytes is
    (record { total = refl; short = flows_total r (canonical_short r.fields match.rising); xid_fits = x; fits = (omega arith, fits); behind = begins_match r match; valid = named r.table sound })

pub aggregate_written : (r : FlowStatsRequest) (xid : ℕ) (bytes : List ℕ) → xid < 256 ^ 4 → FitsCells (flows_cells r) → IsMatch r.fields → is_sound (Multipart (Aggregate r)) ≡ true → bytes ≡ flows_text 2 xid r → IsWritten xid (Multipart (Aggregate r)) bytes
aggregate_written r xid bytes x fits match sound is =
    whole_written (Multipart (Aggregate r)) xid (40 + length (canonical_match r.fields)) bytes is
    (record { total = refl; short = flows_total r (canonical_short r.fields match.rising); xid_fits = x; fits = (omega arith, fits); behind = begins_match r match; valid = named r.table sound })

-- of one, or of all
one_valid : (all : ℕ) (which : Option ℕ) → is_one all which ≡ true → IsOne all which
one_valid all None h = tt
one_valid all (Some number) h = by_test (eqb number all) refl h
  where
    by_test : (b : Bool) → eqb number all ≡ b → not b ≡ true → IsOne all (Some number)
    by_test true is e = absurd cc
    by_test false is e = eqb-false _ _ is

or_same : (all : ℕ) (which : Option ℕ) → unwrap_or which all ≡ or_all all which
or_same all None = refl
or_same all (Some number) = refl

abbrev pub asked_text : ℕ → ℕ → ℕ → List ℕ
asked_text number xid asked = message_header 18 24 xid ++ canonical_cells (u16_cell number ∷ even 2 ∷ pad 4 ∷ u32_cell asked ∷ pad 4 ∷ [])

pub port_written : (which : Option ℕ) (xid asked : ℕ) (bytes : List ℕ) → xid < 256 ^ 4 → asked < 256 ^ 4 → is_sound (Multipart (PortStats which)) ≡ true → asked ≡ unwrap_or which 0xffffffff → bytes ≡ asked_text 4 xid asked → IsWritten xid (Multipart (PortStats which)) bytes
port_written which xid asked bytes x fits sound e is =
    let same : asked ≡ or_all OFPP_ANY which = e ∙ or_same OFPP_ANY which in
    whole_written (Multipart (PortStats which)) xid 16 bytes (is ∙ ap (asked_text 4 xid) same)
    (record { total = refl; short = omega arith; xid_fits = x; fits = (omega arith, (omega (arith, same), tt)); behind = refl; valid = one_valid OFPP_ANY which sound })

pub group_written : (which : Option ℕ) (xid asked : ℕ) (bytes : List ℕ) → xid < 256 ^ 4 → asked < 256 ^ 4 → is_sound (Multipart (Group which)) ≡ true → asked ≡ unwrap_or which 0xfffffffc → bytes ≡ asked_text 6 xid asked → IsWritten xid (Multipart (Group which)) bytes
group_written which xid asked bytes x fits sound e is =
    let same : asked ≡ or_all OFPG_ALL which = e ∙ or_same OFPG_ALL which in
    whole_written (Multipart (Group which)) xid 16 bytes (is ∙ ap (asked_text 6 xid) same)
    (record { total = refl; short = omega arith; xid_fits = x; fits = (omega arith, (omega (arith, same), tt)); behind = refl; valid = one_valid OFPG_ALL which sound })

-- ---- DELETE of a group

number_valid : (which : Option ℕ) → is_sound_number which ≡ true → IsValidNumber which
number_valid None h = tt
number_valid (Some number) h = grind (arith, nat_tests)

pub delete_written : (which : Option ℕ) (xid number : ℕ) (front s t bytes : List ℕ) → xid < 256 ^ 4 → number < 256 ^ 4 → is_sound_number which ≡ true → number ≡ unwrap_or which 0xfffffffc → front ≡ message_header 15 16 xid
    → s ≡ front ++ big_bytes 2 2 → t ≡ s ++ big_bytes 2 0 → bytes ≡ t ++ big_bytes 4 number → IsWritten xid (IsGroupMod (group.Delete which)) bytes
delete_written which xid number front s t bytes x fits sound e head p q r =
    let same : number ≡ or_all OFPG_ALL which = e ∙ or_same OFPG_ALL which in
    let text = three front s t bytes (big_bytes 2 2) (big_bytes 2 0) (big_bytes 4 number) p q r in
    fields_written (IsGroupMod (group.Delete which)) xid 8 front bytes head (text ∙ ap (λ (n : ℕ). front ++ canonical_cells (u16_cell 2 ∷ pad 2 ∷ u32_cell n ∷ [])) same) refl
    (record { total = refl; short = omega arith; xid_fits = x; fits = (omega arith, (omega (arith, same), tt)); behind = tt; valid = number_valid which sound })
