-- A FLOW_MOD and a GROUP_MOD that are written are encoded.
use Rattle.std.proofs.Common.{◌≡◌, ℕ, ◌+◌, ◌^◌, ◌<◌, ◌≤◌, true, false, List, [], ◌∷◌, ◌++◌, length, map, refl, arith}
use Rattle.std.{specs.List.list_all, proofs.lemmas.Bool.Decides.nat_tests, proofs.lemmas.List.length-append, proofs.lemmas.List.length-map}
use Rattle.of_oxm.{specs.Canonical.canonical, specs.NormalForm.IsMatch, proofs.Written.canonical_short, proofs.Written.canonical_encodes}
use Rattle.of_actions.specs.{CanonicalActions.canonical_actions, CanonicalInstructions.canonical_instructions, InstructionLists.are_for, InstructionLists.are_kept, Supported.are_supported}
use Rattle.of_actions.proofs.{ActionsAgain.canonical_encoded, ActionsAgain.canonical_short as actions_short, InstructionLengths.instructions_short, InstructionsAgain.instructions_encoded}
use Rattle.of_groups.specs.{Buckets.are_fit, Buckets.fresh, Buckets.is_fit, declared.bucket.Bucket.Bucket, declared.group.GroupKind.GroupKind}
use Rattle.of_groups.specs.declared.group.GroupKind.TheVariants.{All}
use Rattle.of_groups.specs.Groups.{kind_number as number_of, kind_number}
use Rattle.of_messages.specs.CanonicalGroups.{as_written, canonical_bucket, canonical_buckets, group_add_bytes, group_add_fixed_part, has_numbers}
use Rattle.of_messages.specs.{Written.command_number as number_of_command, Written.flow_mod_bytes, Written.flow_mod_fixed_part, Written.command_number, declared.group_mod.NewGroup.NewGroup}
use Rattle.of_messages.specs.{declared.message.FlowMod.FlowMod, declared.message.FlowModCommand.FlowModCommand}
use Rattle.of_messages.specs.declared.message.FlowModCommand.TheVariants.{Add, Delete}
use Rattle.of_messages.{specs.declared.message.Message.TheVariants.FlowMod as IsFlowMod, specs.declared.message.Message.TheVariants.GroupMod as IsGroupMod, proofs.BucketsWritten.buckets_short}
use Rattle.of_messages.specs.declared.group_mod.GroupMod.TheVariants as group
use Rattle.of_laws.specs.Grammar.{HasInstructions, IsValidFlowMod, MatchThenInstructions, Encodes, deletes, flow_mod_cells, group_cells}
use Rattle.of_laws.{specs.Buckets.AreBuckets, specs.Buckets.bucket_cells, specs.Cells.FitsCells, proofs.Writings.fronted, proofs.Writings.encoding, proofs.Writings.written}

-- ---- FLOW_MOD

pub command_same : (c : FlowModCommand) → number_of_command c ≡ command_number c
command_same Add = refl
command_same other = refl

pub beginning_is : (m : FlowMod) (tail : List ℕ) → flow_mod_fixed_part m ++ tail ≡ encoding (flow_mod_cells m) ++ tail
unfolding flow_mod_fixed_part
beginning_is m tail = rw (command_same m.command) refl

length-front : (m : FlowMod) (tail : List ℕ) → length (flow_mod_fixed_part m ++ tail) ≡ 40 + length tail
unfolding flow_mod_fixed_part
length-front m tail = omega arith

-- the two DELETE commands have none
has_instructions : (m : FlowMod) (c : FlowModCommand) → are_kept m.instructions ≡ true → are_for m.table m.instructions ≡ true → (deletes c ≡ true → m.instructions ≡ []) → HasInstructions m (deletes c) (canonical_instructions m.instructions)
has_instructions m (Delete strict) kept fit none = none refl
has_instructions m other kept fit none = instructions_encoded m.table m.instructions kept fit

pub tail_is : (m : FlowMod) → IsMatch m.fields → are_kept m.instructions ≡ true → are_for m.table m.instructions ≡ true → (deletes m.command ≡ true → m.instructions ≡ []) → MatchThenInstructions m (canonical m.fields ++ canonical_instructions m.instructions)
tail_is m match kept fit none =
    record {
      fields = canonical m.fields;
      instructions = canonical_instructions m.instructions;
      whole = refl;
      encoded = canonical_encodes m.fields match;
      are = has_instructions m m.command kept fit none;
    }

pub tail_short : (m : FlowMod) → IsMatch m.fields → are_kept m.instructions ≡ true → length (canonical m.fields ++ canonical_instructions m.instructions) ≤ 4256
tail_short m match kept = omega (arith, length-append (canonical m.fields) (canonical_instructions m.instructions), canonical_short m.fields match.rising, instructions_short m.instructions kept)

pub flow_mod_encoded : (xid : ℕ) (m : FlowMod) → xid < 256 ^ 4 → FitsCells (flow_mod_cells m) → IsValidFlowMod m → IsMatch m.fields → are_kept m.instructions ≡ true → are_for m.table m.instructions ≡ true
    → (deletes m.command ≡ true → m.instructions ≡ []) → Encodes xid (IsFlowMod m) (flow_mod_bytes xid m)
flow_mod_encoded xid m x fits valid match kept fit none =
    let tail = canonical m.fields ++ canonical_instructions m.instructions in
    let short = tail_short m match kept in
    record {
      tail = tail;
      front = fronted 14 xid (flow_mod_cells m) (flow_mod_fixed_part m ++ tail) tail (beginning_is m tail) (omega arith) x fits (omega (arith, length-front m tail));
      behind = tail_is m match kept fit none;
      valid = valid;
    }

-- ---- GROUP_MOD

bucket_front : (b : Bucket) (rest : List ℕ) → canonical_bucket b ++ rest ≡ encoding (bucket_cells (16 + length (canonical_actions b.actions)) (fresh b)) ++ (canonical_actions b.actions ++ rest)
unfolding canonical_bucket
bucket_front b rest = refl

-- its numbers fit
bucket_fits : (b : Bucket) → has_numbers b ≡ true → length (canonical_actions b.actions) ≤ 1536 → FitsCells (bucket_cells (16 + length (canonical_actions b.actions)) (fresh b))
unfolding has_numbers
bucket_fits b h short =
    let weight : b.weight < 256 ^ 2 = grind (arith, nat_tests) in
    let port : b.watch_port < 256 ^ 4 = grind (arith, nat_tests) in
    let group : b.watch_group < 256 ^ 4 = grind (arith, nat_tests) in
    (omega (arith, short), (weight, (port, (group, tt))))

pub buckets_encoded : (bs : List Bucket) → list_all has_numbers bs ≡ true → list_all is_fit bs ≡ true → AreBuckets (map fresh bs) (canonical_buckets bs)
buckets_encoded [] numbers fit = refl
buckets_encoded (b ∷ bs) numbers fit =
    let this : has_numbers b ≡ true = grind (arith, nat_tests) in
    let others : list_all has_numbers bs ≡ true = grind (arith, nat_tests) in
    let served : are_supported false b.actions ≡ true = grind (arith, nat_tests) in
    let fit_others : list_all is_fit bs ≡ true = grind (arith, nat_tests) in
    let rest = canonical_buckets bs in
    let text = canonical_actions b.actions in
    let size = actions_short false b.actions served in
    let eights = size.eights in
    let cells = bucket_cells (16 + length text) (fresh b) in (
      rest,
      record {
        actions = text;
        front = rw (bucket_front b rest) (written cells (text ++ rest) (bucket_fits b this size.short));
        are = canonical_encoded false b.actions served;
        eights = omega arith;
        packets = refl;
        bytes_used = refl;
      },
      buckets_encoded bs others fit_others,
    )

pub kind_same : (k : GroupKind) → number_of k ≡ kind_number k
kind_same All = refl
kind_same other = refl

group_fixed_part : (g : NewGroup) (tail : List ℕ) → group_add_fixed_part g ++ tail ≡ encoding (group_cells 0 (as_written g)) ++ tail
unfolding group_add_fixed_part
group_fixed_part g tail = rw (kind_same g.kind) refl

length-group : (g : NewGroup) (tail : List ℕ) → length (group_add_fixed_part g ++ tail) ≡ 8 + length tail
unfolding group_add_fixed_part
length-group g tail = omega arith

pub kind_fits : (k : GroupKind) → kind_number k < 256
kind_fits All = omega arith
kind_fits other = omega arith

pub group_add_encoded : (xid : ℕ) (g : NewGroup) → xid < 256 ^ 4 → g.id ≤ 0xffffff00 → list_all has_numbers g.buckets ≡ true → are_fit g.buckets ≡ true → Encodes xid (IsGroupMod (group.Add (as_written g))) (group_add_bytes xid g)
group_add_encoded xid g x most numbers fit =
    let tail = canonical_buckets g.buckets in
    let few : length g.buckets ≤ 16 = grind (arith, nat_tests) in
    let all : list_all is_fit g.buckets ≡ true = grind (arith, nat_tests) in
    let short = buckets_short g.buckets fit in
    let fits : FitsCells (group_cells 0 (as_written g)) = (omega arith, (kind_fits g.kind, (omega arith, tt))) in
    record {
      tail = tail;
      front = fronted 15 xid (group_cells 0 (as_written g)) (group_add_fixed_part g ++ tail) tail (group_fixed_part g tail) (omega arith) x fits (omega (arith, length-group g tail));
      behind = buckets_encoded g.buckets numbers all;
      valid = (most, omega (arith, length-map g.buckets fresh));
    }
