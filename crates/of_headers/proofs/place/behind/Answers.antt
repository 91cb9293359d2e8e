use Rattle.std.proofs.Common.{sym, ◌∙◌}
use Rattle.of_headers.proofs.LocateLemmas.{none_later, some_later}
use Rattle.of_headers.proofs.place.behind.Goals as goal

pub returns-in-None : goal.returns-in-None
returns-in-None c = λ n cs l e. none_later c.args.at n cs c.args.place c.in-None.is e

pub returns-in-Some : goal.returns-in-Some
returns-in-Some c = λ n cs l e. some_later c.args.at n cs c.in-Some.inner c.bits_at.result l (sym c.in-Some.is ∙ e) c.bits_at.ensures
