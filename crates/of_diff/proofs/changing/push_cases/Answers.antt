use Rattle.of_datapath.specs.{Datapath.world_of, Numbers.forwarding_of}
use Rattle.of_symbolic_run.proofs.SideLemmas.{has_table}
use Rattle.of_diff.proofs.changing.push_cases.Goals as goal

pub returns : goal.returns
returns g c known =
    let f = forwarding_of c.args.datapath.now in
    let is = has_table f c.args.table _ c.entries.ensures.flows in
    record {
      cases = c.in-Some.cases.items;
      more = c.in_ok-more.more.items;
      are = (rw c.in-Some.is at c.in_ok-cases.ensures.some) (world_of f) is;
      next = (rw c.in-Some.is at c.in_ok-cases.ensures.next) (world_of f) is;
      by = c.in_ok-more.ensures;
      added = c.in_ok-append.ensures.items;
    }
