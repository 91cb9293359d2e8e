-- Messages are bytes: numbers below 256.
use Rattle.std.proofs.Common.{◌≡◌, ℕ, ◌+◌, ◌-◌, ◌<◌, suc, zero, true, false, List, [], ◌∷◌, ◌++◌, length, take, drop, Option, Some, None, arith}
use Rattle.std.{specs.Prelude.replicate, specs.List.AllByRecursion, specs.List.flat_map, specs.List.list_all, specs.Int.byte_at, proofs.Math.Nat.mod-lt, proofs.lemmas.Bool.Decides.nat_tests}
use Rattle.byteorder.specs.Endian.{big_bytes}
use Rattle.hex.specs.Hex.{IsBytes}
use Rattle.of_formats.specs.Structs.{Struct, written}
use Rattle.of_formats.specs.Structs as structs
use Rattle.of_formats.specs.Tables as tables
use Rattle.of_layers.{specs.declared.field.Field.Field, specs.Fields.bytes_of, proofs.Table.number_below, proofs.Table.bytes_most}
use Rattle.of_oxm.specs.{declared.match_field.MatchField.MatchField, MatchFieldWire.encoding, MatchGrammar.padded, Canonical.canonical, Canonical.written_len}
use Rattle.of_actions.specs.declared.argument.Argument.TheVariants.{Nothing, Byte, Tag, Word, Port, Field as FieldValue}
use Rattle.of_actions.specs.declared.instruction.Instruction.TheVariants.{Apply, Clear, Write, Metadata, Goto}
use Rattle.of_actions.specs.{declared.action.Action.Action, declared.argument.Argument.Argument, Rows.said, declared.instruction.Instruction.Instruction}
use Rattle.of_actions.specs.{Supported.is_allowed, Supported.is_supported, Supported.are_supported, InstructionLists.are_kept, InstructionLists.is_served_body, SetField.set_len}
use Rattle.of_actions.specs.CanonicalActions.{canonical_action, canonical_argument, canonical_actions, canonical_set_field}
use Rattle.of_actions.specs.CanonicalInstructions.{after_type, canonical_instruction, canonical_instructions}
use Rattle.of_groups.specs.{declared.bucket.Bucket.Bucket, declared.group.GroupKind.GroupKind}
use Rattle.of_groups.specs.declared.group.GroupKind.TheVariants.{All}
use Rattle.of_groups.specs.{Buckets.are_fit, Buckets.is_fit, Groups.kind_number}
use Rattle.of_text.proofs.TextLemmas.{all_both}
use Rattle.of_messages.specs.Written.{command_number, flow_mod_bytes, flow_mod_fixed_part, flow_mod_numbers, message}
use Rattle.of_messages.specs.{declared.message.FlowMod.FlowMod, declared.message.FlowModCommand.FlowModCommand}
use Rattle.of_messages.specs.declared.message.FlowModCommand.TheVariants.{Add, Modify, Delete}
use Rattle.of_messages.specs.declared.group_mod.NewGroup.{NewGroup}
use Rattle.of_messages.specs.CanonicalGroups.{canonical_bucket, canonical_buckets, group_add_bytes, group_add_fixed_part}

-- each is below 256
pub record Bytes (bytes : List ℕ) : Type 0 where
  pub each : AllByRecursion (λ (b : ℕ). b < 256) bytes

at_places : (bytes : List ℕ) → AllByRecursion (λ (b : ℕ). b < 256) bytes → IsBytes bytes
at_places [] h i = omega arith
at_places (b ∷ bs) h zero = h.0
at_places (b ∷ bs) h (suc i) = at_places bs h.1 i

pub are_bytes : (bytes : List ℕ) → Bytes bytes → IsBytes bytes
are_bytes bytes h = at_places bytes h.each

none : Bytes []
none = record { each = tt }

next : {b : ℕ} {bs : List ℕ} → b < 256 → Bytes bs → Bytes (b ∷ bs)
next h hs = record { each = (h, hs.each) }

both : {xs ys : List ℕ} → Bytes xs → Bytes ys → Bytes (xs ++ ys)
both {xs = xs} {ys = ys} a b = record { each = all_both (λ (b : ℕ). b < 256) xs ys a.each b.each }

byte : (i n : ℕ) → byte_at i n < 256
byte zero n = mod-lt n (omega arith)
byte (suc i) n = mod-lt _ (omega arith)

big : (n x : ℕ) → Bytes (big_bytes n x)
big zero x = none
big (suc n) x = next (byte n x) (big n x)

zeros : (n : ℕ) → Bytes (replicate n 0)
zeros zero = none
zeros (suc n) = next (omega arith) (zeros n)

each_bytes : {X : Type 0} (f : X → List ℕ) (xs : List X) → AllByRecursion (λ x. Bytes (f x)) xs → Bytes (flat_map f xs)
each_bytes f [] h = none
each_bytes f (x ∷ xs) h = both h.0 (each_bytes f xs h.1)

four : {a b c d : ℕ} {bs : List ℕ} → a < 256 → b < 256 → c < 256 → d < 256 → Bytes bs → Bytes (a ∷ b ∷ c ∷ d ∷ bs)
four i j k l h = next i (next j (next k (next l h)))

-- ---- structs

-- the fields of one byte are below 256; the others are as many bytes as they are wide, whatever the number
abbrev Small : Struct → List ℕ → Type 0
Small [] ns = Unit {0}
Small (structs.byte name ∷ s) [] = Unit {0}
Small (structs.byte name ∷ s) (n ∷ ns) = (n < 256) × Small s ns
Small (structs.number name w ∷ s) [] = Unit {0}
Small (structs.number name w ∷ s) (n ∷ ns) = Small s ns
Small (structs.plain name w ∷ s) ns = Unit {0}
Small (structs.pad w ∷ s) ns = Small s ns

struct_bytes : (s : Struct) (ns : List ℕ) → Small s ns → Bytes (written s ns)
struct_bytes [] ns h = none
struct_bytes (structs.byte name ∷ s) [] h = none
struct_bytes (structs.byte name ∷ s) (n ∷ ns) h = next h.0 (struct_bytes s ns h.1)
struct_bytes (structs.number name w ∷ s) [] h = none
struct_bytes (structs.number name w ∷ s) (n ∷ ns) h = both (big w n) (struct_bytes s ns h)
struct_bytes (structs.plain name w ∷ s) ns h = none
struct_bytes (structs.pad w ∷ s) ns h = both (zeros w) (struct_bytes s ns h)

-- ---- matches

encoding_by : (f : Field) (v : ℕ) (mask : Option ℕ) → let e : MatchField = record { field = f; value = v; mask = mask } in Bytes (encoding e)
unfolding encoding
encoding_by f v None =
    let number = number_below f in
    let size = bytes_most f in
    four (omega arith) (omega arith) (omega (arith, number)) (omega (arith, size)) (both (big (bytes_of f) v) none)
encoding_by f v (Some m) =
    let number = number_below f in
    let size = bytes_most f in
    four (omega arith) (omega arith) (omega (arith, number)) (omega (arith, size)) (both (big (bytes_of f) v) (big (bytes_of f) m))

all_encodings : (m : List MatchField) → AllByRecursion (λ e. Bytes (encoding e)) m
all_encodings [] = tt
all_encodings (e ∷ es) = (encoding_by e.field e.value e.mask, all_encodings es)

match_bytes : (m : List MatchField) → Bytes (canonical m)
unfolding canonical
match_bytes m = next (omega arith) (next (omega arith) (both (big 2 (written_len m)) (both (each_bytes encoding m (all_encodings m)) (zeros (padded (written_len m) - written_len m)))))

-- ---- actions

argument_bytes : (type : ℕ) (s : Argument) → is_allowed false s ≡ true → Bytes (canonical_argument type s)
unfolding canonical_set_field
argument_bytes type (FieldValue f v) h =
    let number = number_below f in
    let size = bytes_most f in
    four (omega arith) (omega arith) (omega arith) (omega (arith, size)) (four (omega arith) (omega arith) (omega (arith, number)) (omega (arith, size)) (both (big (bytes_of f) v) (zeros (set_len f - (8 + bytes_of f)))))
argument_bytes type Nothing h = struct_bytes tables.action_header (type ∷ 8 ∷ []) tt
argument_bytes type (Byte n) h = let low : n < 256 = grind (arith, nat_tests) in struct_bytes tables.action_nw_ttl (type ∷ 8 ∷ n ∷ []) (low, tt)
argument_bytes type (Tag n) h = struct_bytes tables.action_push (type ∷ 8 ∷ n ∷ []) tt
argument_bytes type (Word n) h = struct_bytes tables.action_group (type ∷ 8 ∷ n ∷ []) tt
argument_bytes type (Port port max_len) h = struct_bytes tables.action_output (type ∷ 16 ∷ port ∷ max_len ∷ []) tt

action_bytes : (a : Action) → is_supported false a ≡ true → Bytes (canonical_action a)
unfolding canonical_action is_supported
action_bytes a h = argument_bytes (said a).0.kind (said a).1 h

all_actions : (xs : List Action) → list_all (is_supported false) xs ≡ true → AllByRecursion (λ a. Bytes (canonical_action a)) xs
all_actions [] h = tt
all_actions (a ∷ xs) h = (action_bytes a (grind (arith, nat_tests)), all_actions xs (grind (arith, nat_tests)))

actions_bytes : (xs : List Action) → are_supported false xs ≡ true → Bytes (canonical_actions xs)
actions_bytes xs h = each_bytes canonical_action xs (all_actions xs (grind (arith, nat_tests)))

-- ---- instructions

after_bytes : (bytes : List ℕ) → Bytes bytes → Bytes (after_type bytes)
after_bytes bytes h = both (struct_bytes (drop 1 tables.instruction_actions) ((8 + length bytes) ∷ []) tt) h

instruction_bytes : (i : Instruction) → is_served_body i ≡ true → Bytes (canonical_instruction i)
unfolding canonical_instruction
instruction_bytes (Apply actions) h = both (struct_bytes (take 1 tables.instruction_actions) (4 ∷ []) tt) (after_bytes (canonical_actions actions) (actions_bytes actions h))
instruction_bytes Clear h = struct_bytes tables.instruction_actions (5 ∷ 8 ∷ []) tt
instruction_bytes (Write actions) h = both (struct_bytes (take 1 tables.instruction_actions) (3 ∷ []) tt) (after_bytes (canonical_actions actions) (actions_bytes actions h))
instruction_bytes (Metadata value mask) h = struct_bytes tables.instruction_write_metadata (2 ∷ 24 ∷ value ∷ mask ∷ []) tt
instruction_bytes (Goto table) h = let low : table < 16 = grind (arith, nat_tests) in struct_bytes tables.instruction_goto_table (1 ∷ 8 ∷ table ∷ []) (omega (arith, low), tt)

all_instructions : (is : List Instruction) → list_all is_served_body is ≡ true → AllByRecursion (λ i. Bytes (canonical_instruction i)) is
all_instructions [] h = tt
all_instructions (i ∷ is) h = (instruction_bytes i (grind (arith, nat_tests)), all_instructions is (grind (arith, nat_tests)))

instructions_bytes : (is : List Instruction) → are_kept is ≡ true → Bytes (canonical_instructions is)
instructions_bytes is h = each_bytes canonical_instruction is (all_instructions is (grind (arith, nat_tests)))

-- ---- messages

message_bytes : (kind xid : ℕ) (body : List ℕ) → kind < 256 → Bytes body → Bytes (message kind xid body)
message_bytes kind xid body k h = both (struct_bytes tables.header (4 ∷ kind ∷ (8 + length body) ∷ xid ∷ []) (omega arith, (k, tt))) h

command_byte : (c : FlowModCommand) → command_number c < 256
command_byte Add = omega arith
command_byte (Modify false) = omega arith
command_byte (Modify true) = omega arith
command_byte (Delete false) = omega arith
command_byte (Delete true) = omega arith

front_bytes : (m : FlowMod) → m.table < 256 → Bytes (flow_mod_fixed_part m)
unfolding flow_mod_fixed_part
front_bytes m table = struct_bytes tables.flow_mod (flow_mod_numbers m) (table, (command_byte m.command, tt))

pub flow_mod_are_bytes : (xid : ℕ) (m : FlowMod) → m.table < 256 → are_kept m.instructions ≡ true → IsBytes (flow_mod_bytes xid m)
flow_mod_are_bytes xid m table kept =
    are_bytes (flow_mod_bytes xid m) (message_bytes 14 xid (flow_mod_fixed_part m ++ (canonical m.fields ++ canonical_instructions m.instructions)) (omega arith) (both (front_bytes m table) (both (match_bytes m.fields) (instructions_bytes m.instructions kept))))

kind_byte : (kind : GroupKind) → kind_number kind < 256
kind_byte All = omega arith
kind_byte other = omega arith

group_front_bytes : (g : NewGroup) → Bytes (group_add_fixed_part g)
unfolding group_add_fixed_part
group_front_bytes g = struct_bytes tables.group_mod (0 ∷ kind_number g.kind ∷ g.id ∷ []) (kind_byte g.kind, tt)

bucket_bytes : (b : Bucket) → are_supported false b.actions ≡ true → Bytes (canonical_bucket b)
unfolding canonical_bucket
bucket_bytes b h =
    both (struct_bytes tables.bucket ((16 + length (canonical_actions b.actions)) ∷ b.weight ∷ b.watch_port ∷ b.watch_group ∷ []) tt) (actions_bytes b.actions h)

all_buckets : (bs : List Bucket) → list_all is_fit bs ≡ true → AllByRecursion (λ b. Bytes (canonical_bucket b)) bs
all_buckets [] h = tt
all_buckets (b ∷ bs) h = (bucket_bytes b (grind (arith, nat_tests)), all_buckets bs (grind (arith, nat_tests)))

pub group_add_are_bytes : (xid : ℕ) (g : NewGroup) → are_fit g.buckets ≡ true → IsBytes (group_add_bytes xid g)
group_add_are_bytes xid g fit =
    are_bytes (group_add_bytes xid g) (message_bytes 15 xid (group_add_fixed_part g ++ canonical_buckets g.buckets) (omega arith) (both (group_front_bytes g) (each_bytes canonical_bucket g.buckets (all_buckets g.buckets (grind (arith, nat_tests))))))
