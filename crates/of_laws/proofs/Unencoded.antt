-- What some bytes encode has numbers that are allowed.
use Rattle.std.proofs.Common.{◌≡◌, ℕ, ◌+◌, ◌^◌, ◌<◌, ◌≤◌, Bool, true, false, not, eqb, ltb, leb, List, [], ◌∷◌, length, Option, Some, None, refl, sym, ap, ◌∙◌, arith}
use Rattle.std.{specs.Prelude.◌&&◌, specs.Prelude.is_none, specs.List.list_all, proofs.lemmas.Bool.eq-eqb, proofs.lemmas.Bool.eqb-true, proofs.lemmas.Bool.lt-ltb}
use Rattle.std.proofs.lemmas.Bool.Decides.{nat_tests}
use Rattle.of_wire.specs.declared.limits.TheConstants.{OFPG_ALL, OFPG_MAX, OFPP_ANY}
use Rattle.of_groups.specs.declared.bucket.Bucket.{Bucket}
use Rattle.of_messages.specs.declared.message.Message.TheVariants.{EchoRequest, PacketOut as IsPacketOut, FlowMod as IsFlowMod, GroupMod as IsGroupMod, PortMod as IsPortMod, TableMod as IsTableMod, Multipart}
use Rattle.of_messages.specs.{Messages.is_delete, declared.group_mod.GroupMod.GroupMod, declared.message.FlowMod.FlowMod, declared.message.FlowModCommand.FlowModCommand}
use Rattle.of_messages.specs.declared.message.FlowModCommand.TheVariants.{Add, Delete as Deletes}
use Rattle.of_messages.specs.{declared.message.Message.Message, declared.message.PacketData.PacketData}
use Rattle.of_messages.specs.{declared.message.PacketData.TheVariants.Buffered, declared.message.PacketData.TheVariants.Frame, declared.multipart.MultipartRequest.MultipartRequest}
use Rattle.of_messages.specs.declared.multipart.MultipartRequest.TheVariants.{Flow, Aggregate, PortStats, Group}
use Rattle.of_messages.specs.declared.group_mod.GroupMod.TheVariants as group
use Rattle.of_laws.specs.Grammar.{HasInstructions, IsValidData, IsValidFlowMod, IsValidGroupMod, IsValidNumber, MayName, MatchThenInstructions, Encodes, GroupTail, deletes, fixed_part_cells}
use Rattle.of_laws.specs.Sound.{counts_nothing, has_no_instructions, is_one, is_sound, is_sound_command, is_sound_group_mod, is_sound_number, is_sound_packet, is_sound_request}
use Rattle.of_laws.{specs.Buckets.AreBuckets, specs.Requests.IsOne, specs.Requests.IsValidRequest, proofs.OnlyLarge.ingress, proofs.OnlyLarge.no_fault, proofs.OnlySmall.table_named}
use Rattle.of_laws.proofs.{InstructionStructs.encoded_for, Places.size_is}

and_true : (a b : Bool) → a ≡ true → b ≡ true → (a && b) ≡ true
and_true a b p q = rw (p, q) refl

low : (n : ℕ) → n < 16 → ltb n 16 ≡ true
low n h = lt-ltb n 16 h

-- ---- PACKET_OUT

other_number : (n k : ℕ) → ¬ (n ≡ k) → not (eqb n k) ≡ true
other_number n k h = by_test (eqb n k) refl
  where
    by_test : (b : Bool) → eqb n k ≡ b → not b ≡ true
    by_test true is = absurd (h (eqb-true n k is))
    by_test false is = refl

data_sound : (d : PacketData) → IsValidData d → is_sound_packet d ≡ true
data_sound (Buffered number) h = other_number number 0xffffffff h
data_sound (Frame frame) h = ap is_none (no_fault frame h.0 h.1)

-- ---- FLOW_MOD

command_sound : (m : FlowMod) (c : FlowModCommand) (bytes : List ℕ) → MayName (deletes c) m.table → HasInstructions m (deletes c) bytes → is_sound_command (is_delete c) m ≡ true
command_sound m (Deletes strict) bytes table h = and_true _ _ (table_named m.table table) (ap has_no_instructions h)
command_sound m other bytes table h = and_true _ _ (low m.table table) (encoded_for m.table bytes m.instructions h)

flow_mod_sound : (m : FlowMod) (tail : List ℕ) → MatchThenInstructions m tail → IsValidFlowMod m → is_sound (IsFlowMod m) ≡ true
flow_mod_sound m tail h valid = and_true _ _ (and_true _ _ (command_sound m m.command h.instructions valid.table h.are) (lt-ltb _ _ valid.flags)) valid.fit

-- ---- GROUP_MOD

buckets_sound : (bs : List Bucket) (bytes : List ℕ) → AreBuckets bs bytes → list_all counts_nothing bs ≡ true
buckets_sound [] bytes h = refl
buckets_sound (b ∷ bs) bytes h = and_true _ _ (and_true _ _ (eq-eqb _ _ h.1.packets) (eq-eqb _ _ h.1.bytes_used)) (buckets_sound bs h.0 h.2)

at_most : (n k : ℕ) → n ≤ k → leb n k ≡ true
at_most n k h = grind (arith, nat_tests)

number_sound : (which : Option ℕ) → IsValidNumber which → is_sound_number which ≡ true
number_sound None h = refl
number_sound (Some number) h = at_most number OFPG_MAX h

group_mod_sound : (g : GroupMod) (tail : List ℕ) → GroupTail g tail → IsValidGroupMod g → is_sound_group_mod g ≡ true
group_mod_sound (group.Add g) tail h valid = and_true _ _ (at_most g.id OFPG_MAX valid.0) (buckets_sound g.buckets tail h)
group_mod_sound (group.Modify g) tail h valid = and_true _ _ (at_most g.id OFPG_MAX valid.0) (buckets_sound g.buckets tail h)
group_mod_sound (group.Delete which) tail h valid = number_sound which valid

-- ---- MULTIPART_REQUEST

one_sound : (all : ℕ) (which : Option ℕ) → IsOne all which → is_one all which ≡ true
one_sound all None h = refl
one_sound all (Some number) h = other_number number all h

request_sound : (r : MultipartRequest) → IsValidRequest r → is_sound_request r ≡ true
request_sound (Flow r) h = table_named r.table h
request_sound (Aggregate r) h = table_named r.table h
request_sound (PortStats which) h = one_sound OFPP_ANY which h
request_sound (Group which) h = one_sound OFPG_ALL which h
request_sound other h = refl

-- ---- any message

echo_sound : (x : ℕ) (echoed bytes : List ℕ) → Encodes x (EchoRequest echoed) bytes → is_sound (EchoRequest echoed) ≡ true
echo_sound x echoed bytes s =
    let total : length bytes ≡ 8 + length s.tail = size_is (fixed_part_cells (EchoRequest echoed) (length bytes) x) bytes s.tail s.front in
    let same : length s.tail ≡ length echoed = ap length s.behind in
    let fits : length bytes < 256 ^ 2 = s.front.2.2.1.0 in
    at_most (length echoed) 65527 (omega arith)

sound_if_encoded : (m : Message) (x : ℕ) (bytes : List ℕ) → Encodes x m bytes → is_sound m ≡ true
sound_if_encoded (EchoRequest echoed) x bytes s = echo_sound x echoed bytes s
sound_if_encoded (IsPacketOut m) x bytes s = and_true _ _ (ingress m.in_port s.valid.0) (data_sound m.packet s.valid.1)
sound_if_encoded (IsFlowMod m) x bytes s = flow_mod_sound m s.tail s.behind s.valid
sound_if_encoded (IsGroupMod m) x bytes s = group_mod_sound m s.tail s.behind s.valid
sound_if_encoded (IsPortMod m) x bytes s = eq-eqb _ _ s.valid
sound_if_encoded (IsTableMod m) x bytes s = table_named m.table s.valid
sound_if_encoded (Multipart request) x bytes s = request_sound request s.valid
sound_if_encoded other x bytes s = refl

pub not_encoded : (m : Message) → is_sound m ≡ false → (x : ℕ) (bytes : List ℕ) → ¬ Encodes x m bytes
not_encoded m h x bytes s = let both : true ≡ false = sym (sound_if_encoded m x bytes s) ∙ h in absurd cc
