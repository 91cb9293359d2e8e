use Rattle.of_shadowing.proofs.ListingLemmas.{added}
use Rattle.of_shadowing.proofs.listing.add_flow.Goals as goal

pub returns : goal.returns
returns c = added c.args.flows.now.items c.remove_same.new.flows.items c.push.new.self.items c.args.flow c.remove_same.ensures c.in_ok-push.ensures.items
