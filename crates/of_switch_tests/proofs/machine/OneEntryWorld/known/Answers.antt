use Rattle.std.proofs.Common.{◌≡◌, ◌≢◌, ◌==◌, ℕ, Bool, true, false, cond, List, [], ◌∷◌, refl, arith, Some, None}
use Rattle.std.{specs.Prelude.IsTrue, proofs.lemmas.Bool.Decides.nat_tests}
use Rattle.of_actions.specs.{declared.action.Action.TheVariants.Output, InstructionLists.are_kept, InstructionLists.are_for, Supported.is_supported, Supported.are_supported}
use Rattle.of_table.specs.declared.flow.Flow.{Flow}
use Rattle.of_switch_tests.proofs.machine.OneEntryWorld.known.Goals as goal

two_served : IsTrue (are_supported false (Output 2 0 ∷ []))
unfolding is_supported
two_served = refl

three_served : IsTrue (are_supported false (Output 3 0 ∷ []))
unfolding is_supported
three_served = refl

found : (f : Flow) (n : ℕ) (b : Bool) → cond b (Some 0) None ≡ Some n → cond b (Some f) None ≢ None
found f n true e = λ none. cc
found f n false e = absurd cc

kept : (f g : Flow) (b : Bool) → IsTrue (are_kept f.instructions) → cond b (Some f) None ≡ Some g → IsTrue (are_kept g.instructions)
kept f g true h e = let same : f ≡ g = cc in rw same at h
kept f g false h e = absurd cc

onward : (f g : Flow) (t : ℕ) (b : Bool) → (t == 0) ≡ b → IsTrue (are_for 0 f.instructions) → cond b (Some f) None ≡ Some g → IsTrue (are_for t g.instructions)
onward f g t true first h e = let same : f ≡ g = cc in let zero : t ≡ 0 = grind (arith, nat_tests) in rw (zero, ← same) h
onward f g t false first h e = absurd cc

two_places : (places : List ℕ) → Some (0 ∷ 1 ∷ []) ≡ Some places → 0 ∷ 1 ∷ [] ≡ places
two_places places e = cc

pub returns : goal.returns
returns c = record {
  found = λ t m n e. found c.args.self.now.flow n (t == 0) e;
  kept = λ t n f e. kept c.args.self.now.flow f (t == 0) c.as_slice-instructions.ensures.kept e;
  onward = λ t n f e. onward c.args.self.now.flow f t (t == 0) refl c.args.self.now.onward e;
  rising = c.args.self.now.rising;
  short = λ g. omega arith;
  chained = λ g places e. omega arith;
  few = λ g places e. rw (← two_places places e) (omega arith);
  buckets = λ g places e. rw (← two_places places e) (record { actions = Output 2 0 ∷ []; there = refl; served = two_served; below = (tt, tt) }, (record { actions = Output 3 0 ∷ []; there = refl; served = three_served; below = (tt, tt) }, tt));
}
