use Rattle.of_history.proofs.watching.Watching.tell_single.Goals as goal

pub returns-clause-said : goal.returns-clause-said
returns-clause-said g c event is =
    rw (← c.in_ok-expired.ensures, ← c.deref.ensures.value, ← c.by_row.ensures c.args.bytes.now c.deref.result.now) (c.tell_whole.ensures.said event is)
