-- A GROUP_MOD that is written is read again.
use Rattle.std.proofs.Common.{◌≡◌, ℕ, ◌+◌, ◌^◌, ◌<◌, ◌≤◌, true, false, ltb, eqb, List, ◌++◌, length, drop, Some, None, Ok, refl, ◌∙◌, arith}
use Rattle.std.{specs.Prelude.slice_index, specs.List.list_all, proofs.lemmas.Bool.le-ltb, proofs.lemmas.Bool.eq-eqb}
use Rattle.byteorder.specs.{Endian.big_number, Numbers.big_number-reads_back}
use Rattle.of_wire.specs.Refusals.{first_of}
use Rattle.of_groups.specs.declared.group.GroupKind.{GroupKind}
use Rattle.of_groups.specs.{declared.group.GroupKind.TheVariants.All, Buckets.are_fit}
use Rattle.of_groups.specs.Groups.{kind_number}
use Rattle.of_messages.specs.CanonicalGroups.{canonical_buckets, group_add_fixed_part, group_add_bytes, as_written, has_numbers}
use Rattle.of_messages.specs.{declared.message.Message.TheVariants.GroupMod as IsGroupMod, declared.group_mod.GroupMod.TheVariants.Add, declared.group_mod.NewGroup.NewGroup}
use Rattle.of_messages.specs.GroupMods.{command_of_group_mod, group_mod_of, group_of, group_kind_of}
use Rattle.of_messages.specs.{Heads.version_of, Heads.type_of, Heads.header_length, Heads.head_refusals, Messages.message_body, Messages.message_from, Messages.message_of}
use Rattle.of_messages.proofs.{BucketsWritten.buckets_short, BucketsAgain.buckets_again}
use Rattle.of_formats.specs.Messages.{message_row}

-- what a message says, over a variable, where nothing has computed to bytes yet
record Says (g : NewGroup) (m : List ℕ) : Type 0 where
  version : version_of m ≡ 4
  type : type_of m ≡ 15
  size : header_length m ≡ length m
  long : 16 ≤ length m
  command : big_number 2 (drop 8 m) ≡ 0
  kind : slice_index m 10 ≡ kind_number g.kind
  number : big_number 4 (drop 12 m) ≡ g.id
  buckets : drop 16 m ≡ canonical_buckets g.buckets

says : (xid : ℕ) (g : NewGroup) → g.id < 256 ^ 4 → length (canonical_buckets g.buckets) ≤ 24832 → Says g (group_add_bytes xid g)
unfolding group_add_fixed_part
says xid g number short =
    let m = group_add_bytes xid g in
    let body = group_add_fixed_part g ++ canonical_buckets g.buckets in
    let long : length m ≡ 16 + length (canonical_buckets g.buckets) = omega arith in
    let size : 8 + length body ≡ length m = omega arith in
    record {
      version = refl;
      type = refl;
      size = big_number-reads_back 2 (8 + length body) (drop 4 m) (omega arith) ∙ size;
      long = omega arith;
      command = refl;
      kind = refl;
      number = big_number-reads_back 4 g.id (drop 16 m) number;
      buckets = refl;
    }

head_passes : (g : NewGroup) (m : List ℕ) → Says g m → first_of (head_refusals m) ≡ None
unfolding message_row
head_passes g m h =
    let long = h.long in
    let eight : ltb (length m) 8 ≡ false = le-ltb _ _ (omega arith) in
    let sixteen : ltb (length m) 16 ≡ false = le-ltb _ _ long in
    let size : eqb (header_length m) (length m) ≡ true = eq-eqb _ _ h.size in
    rw (h.type, h.version, eight, sixteen, size) refl

kind_again : (kind : GroupKind) → group_kind_of (kind_number kind) ≡ Some kind
unfolding group_kind_of
kind_again All = refl
kind_again other = refl

group_again : (g : NewGroup) → g.id ≤ 0xffffff00 → list_all has_numbers g.buckets ≡ true → are_fit g.buckets ≡ true → group_of (kind_number g.kind) g.id (canonical_buckets g.buckets) ≡ Ok (as_written g)
group_again g most numbers fit =
    let below : ltb 0xffffff00 g.id ≡ false = le-ltb _ _ most in
    rw (below, kind_again g.kind, buckets_again g.buckets numbers fit) refl

mod_again : (g : NewGroup) (m : List ℕ) → Says g m → group_of (kind_number g.kind) g.id (canonical_buckets g.buckets) ≡ Ok (as_written g) → group_mod_of m ≡ Ok (Add (as_written g))
unfolding command_of_group_mod
mod_again g m h group = rw (h.command, h.kind, h.number, h.buckets, group) refl

body_again : (g : NewGroup) (m : List ℕ) → Says g m → first_of (head_refusals m) ≡ None → group_mod_of m ≡ Ok (Add (as_written g)) → message_of m ≡ Ok (IsGroupMod (Add (as_written g)))
unfolding message_from message_body
body_again g m h head body = rw (head, h.type, body) refl

pub group_add_again : (xid : ℕ) (g : NewGroup) → g.id ≤ 0xffffff00 → list_all has_numbers g.buckets ≡ true → are_fit g.buckets ≡ true → message_of (group_add_bytes xid g) ≡ Ok (IsGroupMod (Add (as_written g)))
group_add_again xid g most numbers fit =
    let m = group_add_bytes xid g in
    let h = says xid g (omega arith) (buckets_short g.buckets fit) in
    body_again g m h (head_passes g m h) (mod_again g m h (group_again g most numbers fit))
