use Rattle.of_history.proofs.TurnLemmas.{whole_row}
use Rattle.of_history.proofs.watching.Watching.tell_row.Goals as goal

pub returns-in-Connect-clause-said : goal.returns-in-Connect-clause-said
returns-in-Connect-clause-said g c =
    let whole = whole_row c.args.self.now.switch c.args.bytes.now c.args.row c.in-Connect.is in
    rw whole.turns (c.tell_single.ensures.said whole.event whole.is)
