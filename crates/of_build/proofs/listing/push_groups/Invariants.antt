use Rattle.std.proofs.Common.{◌≡◌, eqb, drop}
use Rattle.of_groups.specs.Chains.{chain}
use Rattle.of_text.specs.{Groups.TextGroup, Groups.groups_at, Views.view_groups}
use Rattle.of_build.proofs.ListingLemmas.{Adding}
use Rattle.of_build.proofs.listing.push_groups.Given as goal

abbrev pub invariant-loop-group : goal.invariant-loop-group
invariant-loop-group l = record {
  place : l.place ≡ l.group-index;
  adding : Adding (λ (g : TextGroup). eqb (chain (groups_at 0 (view_groups l.groups)) g.head.id) l.wanted) l.xid (view_groups l.groups) (view_groups (drop l.group-index l.groups)) l.fn.out.items l.out.items l.next;
}
