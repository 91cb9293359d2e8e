use Rattle.std.{specs.List.list_all, proofs.Common.◌≡◌, proofs.Common.true, proofs.Common.false, proofs.Common.arith}
use Rattle.of_actions.specs.{Supported.is_supported, Rising.is_ascending}
use Rattle.of_action_set.{specs.Sets.rank, proofs.Kinded.put_few}
use Rattle.of_action_set.proofs.action_set.Stored.put_in_all.Goals as goal

pub put_in-requires : goal.put_in-requires
put_in-requires c = (omega arith, (rw c.in-All.is at c.requires.rising, put_few c.args.action c.in-All.all.items (rw c.in-All.is at c.requires.rising) (rw c.in-All.is at c.requires.served) c.requires.one))

pub put_in-requires-in-Few : goal.put_in-requires-in-Few
put_in-requires-in-Few c =
    let rising : is_ascending rank c.all_of-all.result.items ≡ true = rw c.all_of-all.ensures (rw c.in-Few.is at c.requires.rising) in
    let served : list_all (is_supported false) c.all_of-all.result.items ≡ true = rw c.all_of-all.ensures (rw c.in-Few.is at c.requires.served) in
    (omega arith, (rising, put_few c.args.action c.all_of-all.result.items rising served c.requires.one))
