use Rattle.std.proofs.Common.{◌≡◌, ◌+◌, ◌∙◌, ℕ, List, Ok, length, sym, subst, ap, arith}
use Rattle.of_messages.specs.{CanonicalGroups.as_written, CanonicalGroups.canonical_buckets, CanonicalGroups.group_add_bytes, Messages.message_of}
use Rattle.of_messages.{specs.declared.message.Message.TheVariants.GroupMod as IsGroupMod, specs.declared.group_mod.GroupMod.TheVariants.Add, proofs.BucketsWritten.group_add_is}
use Rattle.of_messages.proofs.GroupAgain.{group_add_again}
use Rattle.of_messages.proofs.group_mod_writing.write_group_mod.Goals as goal

pub returns-clause-canonical : goal.returns-clause-canonical
returns-clause-canonical c =
    let g = c.args.group.now in
    let size : c.len.result ≡ length (canonical_buckets g.buckets) = omega (arith, c.len.ensures, c.in_ok-buckets.buckets.ok, ap length c.in_ok-buckets.ensures.canonical) in
    c.new.ensures
    ∙ group_add_is c.args.xid (16 + c.len.result) g (canonical_buckets g.buckets) c.new-out.result.items c.extend_from_slice.new.self.items
    c.new-out.ensures.items c.in_ok-put_header.ensures c.in_ok-put_front.ensures
    (rw (c.deref.ensures.value, c.in_ok-buckets.ensures.canonical) at c.in_ok-extend_from_slice.ensures.items)
    (omega (arith, size))

pub returns-clause-read_again : goal.returns-clause-read_again
returns-clause-read_again c =
    let g = c.args.group.now in
    let size : c.len.result ≡ length (canonical_buckets g.buckets) = omega (arith, c.len.ensures, c.in_ok-buckets.buckets.ok, ap length c.in_ok-buckets.ensures.canonical) in
    let whole : c.new.result ≡ group_add_bytes c.args.xid g =
    c.new.ensures
    ∙ group_add_is c.args.xid (16 + c.len.result) g (canonical_buckets g.buckets) c.new-out.result.items c.extend_from_slice.new.self.items
    c.new-out.ensures.items c.in_ok-put_header.ensures c.in_ok-put_front.ensures
    (rw (c.deref.ensures.value, c.in_ok-buckets.ensures.canonical) at c.in_ok-extend_from_slice.ensures.items)
    (omega (arith, size)) in
    λ most. subst (λ (bytes : List ℕ). message_of bytes ≡ Ok (IsGroupMod (Add (as_written g)))) (sym whole) (group_add_again c.args.xid g most c.in_ok-buckets.ensures.numbers c.in_ok-buckets.ensures.fit)
