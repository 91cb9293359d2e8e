use Rattle.std.proofs.{Common.ap, Common.sym, Common.◌∙◌, lemmas.Result.IfOk-weaker}
use Rattle.of_datapath.specs.{Datapath.world_of, Numbers.forwarding_of}
use Rattle.of_symbolic_run.{specs.States.answer_to_tasks, proofs.GroupLemmas.group_at, proofs.NextLemmas.done_next, proofs.NextLemmas.next_from, proofs.NextLemmas.states_from}
use Rattle.of_symbolic_run.proofs.SideLemmas.{cases_from, side_from}
use Rattle.of_symbolic_run.proofs.side.step_side.Goals as goal

pub returns-in-Done : goal.returns-in-Done
returns-in-Done g c =
    let w = world_of (forwarding_of c.args.datapath.now) in
    let told = rw c.in-Done.is at c.in_ok-advance_state.ensures.lines in
    let taken = rw c.in-Done.is at c.in_ok-advance_state.ensures.step in
    (λ frame port. c.in_ok-advance_state.ensures.at w frame port, done_next w c.args.state.now c.advance_state.new.state (sym c.in-Done.is ∙ c.in_ok-advance_state.ensures.answer) taken told)

pub returns-in_ok-step_group-in-Group : goal.returns-in_ok-step_group-in-Group
returns-in_ok-step_group-in-Group g c =
    let w = world_of (forwarding_of c.args.datapath.now) in
    let old = c.args.state.now in
    let between = c.advance_state.new.state in
    let same = rw c.in-Group.is at c.in_ok-advance_state.ensures.lines in
    let kept = rw c.in-Group.is at c.in_ok-advance_state.ensures.step in
    let answer = ap answer_to_tasks kept.0 ∙ sym c.in_ok-advance_state.ensures.answer ∙ c.in-Group.is in
    let next = c.in_ok-step_group-in-Group.ensures in (
      λ frame port at. group_at c.in-Group.group w frame port between c.step_group.new.state answer next (c.in_ok-advance_state.ensures.at w frame port at),
      λ some. next_from w old between kept.0 kept.1 same c.step_group.new.state next,
    )

pub returns-in_ok-divide_by_ttl-in-DecNwTtl : goal.returns-in_ok-divide_by_ttl-in-DecNwTtl
returns-in_ok-divide_by_ttl-in-DecNwTtl g c =
    let w = world_of (forwarding_of c.args.datapath.now) in
    let old = c.args.state.now in
    let between = c.advance_state.new.state in
    let same = rw c.in-DecNwTtl.is at c.in_ok-advance_state.ensures.lines in
    let kept = rw c.in-DecNwTtl.is at c.in_ok-advance_state.ensures.step in (
      cases_from w c.args.frames.now old between _ (λ frame port. c.in_ok-advance_state.ensures.at w frame port) (c.in_ok-divide_by_ttl-in-DecNwTtl.ensures.cases w),
      states_from w old between kept.0 kept.1 same _ (c.in_ok-divide_by_ttl-in-DecNwTtl.ensures.next w),
    )

pub returns-in-Lookup : goal.returns-in-Lookup
returns-in-Lookup g c =
    let w = world_of (forwarding_of c.args.datapath.now) in
    let same = rw c.in-Lookup.is at c.in_ok-advance_state.ensures.lines in
    let kept = rw c.in-Lookup.is at c.in_ok-advance_state.ensures.step in
    IfOk-weaker c.step_lookup.result _ _ (λ side. side_from w c.args.frames.now c.args.state.now c.advance_state.new.state side (λ frame port. c.in_ok-advance_state.ensures.at w frame port) kept.0 kept.1 same) c.step_lookup.ensures
