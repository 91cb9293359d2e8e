use Rattle.of_datapath.specs.{Datapath.world_of, Numbers.forwarding_of}
use Rattle.of_require.proofs.PacketLemmas.{sought_in_sets}
use Rattle.of_require.proofs.packets.seek_in_path.Goals as goal

pub divide_by_all-requires : goal.divide_by_all-requires
divide_by_all-requires g c = rw c.deref-2.ensures.value (rw c.in-Some.is at c.in_ok-lists.ensures.conditions)

pub returns : goal.returns
returns g c port places receives fits is_path has =
    let w = world_of (forwarding_of c.args.datapath.now) in
    let asked = rw (c.in-Some.is, c.deref.ensures.value) at c.in_ok-lists.ensures.known in
    let divided = rw c.deref-2.ensures.value at c.in_ok-sets.ensures in
    let sought = rw (c.deref-3.ensures.value, c.deref-4.ensures.value) at c.in_ok-sought.ensures in
    sought_in_sets w c.args.requirement.now c.args.fields.now c.args.steps c.args.path port places receives fits is_path has c.in-Some.lists.items c.in_ok-sets.sets.items asked divided c.in_ok-sought.sought sought
