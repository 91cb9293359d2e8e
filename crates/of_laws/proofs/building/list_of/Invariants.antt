use Rattle.std.proofs.Common.{◌≡◌, drop}
use Rattle.of_laws.specs.{Built.listed_messages, BuiltViews.IsSoundListed, BuiltViews.joined_with_later}
use Rattle.of_laws.proofs.building.list_of.Given as goal

abbrev pub invariant-loop-place : goal.invariant-loop-place
invariant-loop-place l = record {
  listed : joined_with_later l.all (listed_messages l.place l.all.least (drop l.place l.messages)) ≡ listed_messages 0 0 l.messages;
  sound : IsSoundListed l.all;
}
