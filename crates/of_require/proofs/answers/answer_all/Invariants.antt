use Rattle.std.{specs.List.AllByRecursion, proofs.Common.◌≡◌, proofs.Common.◌++◌, proofs.Common.map}
use Rattle.of_datapath.specs.{Datapath.world_of, Numbers.forwarding_of}
use Rattle.of_require.specs.{declared.answers.Answer.Answer, Answers.IsFoundAbout}
use Rattle.of_require.proofs.answers.answer_all.Given as goal

abbrev pub invariant-loop-line : goal.invariant-loop-line
invariant-loop-line g l = record {
  lines : map (λ (a : Answer). a.line) l.answers.items ++ l.line-iterator.rest.items ≡ l.fn.lines.items;
  right : AllByRecursion (IsFoundAbout (world_of (forwarding_of l.datapath)) l.steps) l.answers.items;
}
