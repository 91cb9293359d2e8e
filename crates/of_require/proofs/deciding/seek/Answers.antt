use Rattle.std.proofs.Common.{ap, sym}
use Rattle.of_datapath.specs.{Datapath.world_of, Numbers.forwarding_of}
use Rattle.of_require.{specs.Deciding.is_plain, proofs.PacketLemmas.classes_sought}
use Rattle.of_require.proofs.deciding.seek.Goals as goal

pub returns-in_ok-sought-in-Has : goal.returns-in_ok-sought-in-Has
returns-in_ok-sought-in-Has g c = λ port found receives fits are same.
    let w = world_of (forwarding_of c.args.datapath.now) in
    rw (sym same) (classes_sought w c.args.requirement.now c.in-Has.fields c.args.steps port c.in-Has.places c.in-Has.is receives fits found are c.in_ok-sought-in-Has.sought (rw same c.in_ok-sought-in-Has.ensures))

pub returns-in-LeavesBy : goal.returns-in-LeavesBy
returns-in-LeavesBy g c = c.sought_among.ensures (world_of (forwarding_of c.args.datapath.now)) c.args.steps (ap is_plain c.in-LeavesBy.is)

pub returns-in-LeavesOnlyBy : goal.returns-in-LeavesOnlyBy
returns-in-LeavesOnlyBy g c = c.sought_among-in-LeavesOnlyBy.ensures (world_of (forwarding_of c.args.datapath.now)) c.args.steps (ap is_plain c.in-LeavesOnlyBy.is)

pub returns-in-PassesTable : goal.returns-in-PassesTable
returns-in-PassesTable g c = c.sought_among-in-PassesTable.ensures (world_of (forwarding_of c.args.datapath.now)) c.args.steps (ap is_plain c.in-PassesTable.is)
