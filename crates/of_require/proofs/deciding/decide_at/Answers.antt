use Rattle.std.proofs.Common.{◌∙◌, ℕ, ap, eqb, inl, inr, sym}
use Rattle.of_datapath.specs.{Datapath.world_of, Numbers.forwarding_of}
use Rattle.of_require.proofs.DecidingLemmas.{no_items, none_matched, none_shows, some_items, sought_frame, sought_none, sought_unknown}
use Rattle.of_require.{specs.Deciding.none_leaves, proofs.PortLemmas.none_received}
use Rattle.of_symbolic_run.proofs.ReceivedLemmas.{silent_port}
use Rattle.of_require.proofs.deciding.decide_at.Goals as goal

pub returns-then-not-receiving_port : goal.returns-then-not-receiving_port
returns-then-not-receiving_port g c =
    let w = world_of (forwarding_of c.args.datapath.now) in
    none_received w c.args.requirement.now c.args.port (silent_port w.ports c.port_list.result.now c.args.port c.receiving_port.result c.port_list.ensures c.receiving_port.ensures.1 c.if-not-receiving_port.true)

pub returns-in-Frame : goal.returns-in-Frame
returns-in-Frame g c =
    let are = rw c.deref.ensures.value at c.in_ok-classes.ensures in
    let receives = rw c.port_list.ensures at (c.receiving_port.ensures.0 c.if-not-receiving_port.false) in
    sought_frame _ c.args.requirement.now c.args.steps c.args.port c.in_ok-classes.field-0 c.ranges.port.fits are receives c.in_ok-sought.sought c.in-Frame.shown c.in-Frame.is c.in_ok-sought.ensures

pub returns-in-Undecided : goal.returns-in-Undecided
returns-in-Undecided g c =
    let are = rw c.deref.ensures.value at c.in_ok-classes.ensures in
    let receives = rw c.port_list.ensures at (c.receiving_port.ensures.0 c.if-not-receiving_port.false) in
    record { receives = receives; found = c.in_ok-classes.field-0; paths = are; some = inr (sought_unknown _ c.args.requirement.now c.args.steps c.args.port c.in_ok-classes.field-0 c.ranges.port.fits are receives c.in_ok-sought.sought c.in-Undecided.is c.in_ok-sought.ensures) }

pub returns-then-not-is_empty : goal.returns-then-not-is_empty
returns-then-not-is_empty g c =
    let are = rw c.deref.ensures.value at c.in_ok-classes.ensures in
    record { receives = rw c.port_list.ensures at (c.receiving_port.ensures.0 c.if-not-receiving_port.false); found = c.in_ok-classes.field-0; paths = are; some = inl (some_items c.in_ok-classes.field-0.undecided.items c.is_empty.result (c.is_empty.ensures ∙ ap (λ (n : ℕ). eqb n 0) c.in_ok-classes.field-0.undecided.ok.0) c.if-not-is_empty.true) }

pub returns-then-none_matches : goal.returns-then-none_matches
returns-then-none_matches g c =
    let w = world_of (forwarding_of c.args.datapath.now) in
    let found = c.in_ok-classes.field-0 in
    let are = rw c.deref.ensures.value at c.in_ok-classes.ensures in
    none_matched w c.args.requirement.now c.args.steps c.args.port found c.ranges.port.fits are
    (ap (none_leaves c.args.requirement.now) (sym c.deref-2.ensures.value) ∙ (sym c.none_leaves-none_matches.ensures ∙ c.if-none_matches.true))
    (no_items found.undecided.items c.is_empty.result (c.is_empty.ensures ∙ ap (λ (n : ℕ). eqb n 0) found.undecided.ok.0) c.if-not-is_empty.false)

pub returns : goal.returns
returns g c =
    let w = world_of (forwarding_of c.args.datapath.now) in
    let found = c.in_ok-classes.field-0 in
    let are = rw c.deref.ensures.value at c.in_ok-classes.ensures in
    let receives = rw c.port_list.ensures at (c.receiving_port.ensures.0 c.if-not-receiving_port.false) in
    none_shows w c.args.requirement.now c.args.steps c.args.port found c.ranges.port.fits are
    (sought_none w c.args.requirement.now c.args.steps c.args.port found c.ranges.port.fits are receives c.in_ok-sought.sought c.in-NoFrame.is c.in_ok-sought.ensures)
    (no_items found.undecided.items c.is_empty.result (c.is_empty.ensures ∙ ap (λ (n : ℕ). eqb n 0) found.undecided.ok.0) c.if-not-is_empty.false)
