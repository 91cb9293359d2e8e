use Rattle.of_sockets.proofs.PauseLemmas.{doubled}
use Rattle.of_sockets.proofs.pauses.Pauses.next.Goals as goal

pub returns-clause-later : goal.returns-clause-later
returns-clause-later c = λ n. rw c.min-self.ensures (doubled c.args.self.now.next n)
