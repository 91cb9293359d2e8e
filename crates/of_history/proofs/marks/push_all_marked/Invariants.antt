use Rattle.std.proofs.Common.{◌≡◌, ◌++◌, ℕ, List, length}
use Rattle.std.specs.List.{flat_map}
use Rattle.of_text.specs.Lines.{ended, lines_of}
use Rattle.of_history.proofs.marks.push_all_marked.Given as goal

abbrev pub decreases-loop-rest : goal.decreases-loop-rest
decreases-loop-rest l = length l.rest

abbrev pub invariant-loop-rest : goal.invariant-loop-rest
invariant-loop-rest l = l.out.items ++ flat_map (λ (x : List ℕ). l.mark ++ ended x) (lines_of l.rest) ≡ l.fn.out.items ++ flat_map (λ (x : List ℕ). l.mark ++ ended x) (lines_of l.text)
