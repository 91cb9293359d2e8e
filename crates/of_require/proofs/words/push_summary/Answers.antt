use Rattle.of_require.specs.Words.{requirements_summary}
use Rattle.of_require.proofs.words.push_summary.Goals as goal

pub returns : goal.returns
unfolding requirements_summary
returns c =
    rw (c.plural.ensures, c.plural-2.ensures, c.plural-3.ensures, c.count-hold.ensures, c.count-fail.ensures, c.count-undecided.ensures) at c.put.ensures
