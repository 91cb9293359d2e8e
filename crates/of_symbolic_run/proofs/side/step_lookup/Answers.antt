use Rattle.of_datapath.specs.{Datapath.world_of, Numbers.forwarding_of}
use Rattle.of_symbolic_run.proofs.SideLemmas.{asks_unknown, has_table, no_table}
use Rattle.of_symbolic_run.proofs.side.step_lookup.Goals as goal

pub returns-then-table-ge-TABLES : goal.returns-then-table-ge-TABLES
returns-then-table-ge-TABLES g c = no_table c.args.frames.now.inner (world_of (forwarding_of c.args.datapath.now)) c.args.state.now c.args.table c.requires c.if-table-ge-TABLES.true

pub returns-in-Some : goal.returns-in-Some
returns-in-Some g c =
    let f = forwarding_of c.args.datapath.now in
    let some = rw c.in-Some.is at c.in_ok-cases.ensures.some in
    let next = rw c.in-Some.is at c.in_ok-cases.ensures.next in
    let is = has_table f c.args.table _ c.entries-entries.ensures.flows in
    (some (world_of f) is, next (world_of f) is)

pub returns-in-None : goal.returns-in-None
returns-in-None g c =
    let f = forwarding_of c.args.datapath.now in
    asks_unknown c.args.frames.now.inner f c.args.state.now c.args.table _ c.requires c.entries-entries.ensures.flows (rw c.in-None.is at c.in_ok-cases.ensures.none)
