-- A packet before others.
use Rattle.std.proofs.Common.{◌≡◌, ℕ, ◌+◌, suc, zero, List, [], ◌∷◌, ◌++◌, refl, sym, ap, length, arith, length-append, append_assoc}
use Rattle.std.proofs.lemmas.List.{append-nil}
use Rattle.of_machine.specs.Rows.{Work, Task, task, Row, row}
use Rattle.of_machine.specs.Runs.{Machine, step, first_step, taken, after, starting, run_of, ahead_of}
use Rattle.of_machine.specs.{declared.data.Packet.Packet, declared.data.Item.Item, declared.data.Count.Count, declared.data.Step.Step, TheWorld.TheWorld, Sound.IsSound}
use Rattle.of_machine.{specs.Weights.IsFit, specs.Weights.task_weight, proofs.Whole.run_ends, proofs.Whole.run_unfolds}

abbrev machine : List Task → List Item → List Count → List Step → Machine
machine ts is cs ls = record { tasks = ts; items = is; counts = cs; lines = ls }

same_machine : (ts ts' : List Task) (is is' : List Item) (cs cs' : List Count) (ls ls' : List Step) → ts ≡ ts' → is ≡ is' → cs ≡ cs' → ls ≡ ls' → machine ts is cs ls ≡ machine ts' is' cs' ls'
same_machine ts ts' is is' cs cs' ls ls' a b c d = rw (a, b, c, d) refl

taken_ahead : (b x : Machine) (r : Row) (others : List Task) → taken (ahead_of b x) r (others ++ b.tasks) ≡ ahead_of b (taken x r others)
taken_ahead b x r others =
    same_machine _ _ _ _ _ _ _ _ (sym (append_assoc r.left others b.tasks)) (append_assoc b.items x.items r.items) (append_assoc b.counts x.counts r.counts) (append_assoc b.lines x.lines (r.line ∷ []))

module _ (w : TheWorld) (b : Machine) where
  -- some steps take the packets ahead of the others as far as k steps take them alone
  record Walked (m x : Machine) : Type 0 where
    steps : ℕ
    lines : length x.lines ≡ steps + length m.lines
    goes : after w steps (ahead_of b m) ≡ ahead_of b x

  stepped : (x y : Machine) (t : Task) (others : List Task) → x.tasks ≡ t ∷ others → y ≡ ahead_of b x → step w y ≡ ahead_of b (taken x (row w t.packet t.work) others)
  unfolding step
  stepped x y t others e same = rw (same, e) (taken_ahead b x (row w t.packet t.work) others)

  first_walked : (m x : Machine) (ts : List Task) → x.tasks ≡ ts → Walked m x → Walked m (first_step w x ts)
  unfolding after
  first_walked m x [] e h = h
  first_walked m x (t ∷ others) e h =
      let more = length-append x.lines ((row w t.packet t.work).line ∷ []) in
      let so_far = h.lines in
      record {
        steps = suc h.steps;
        lines = omega (arith, more, so_far);
        goes = stepped x (after w h.steps (ahead_of b m)) t others e h.goes;
      }

  walked : (k : ℕ) (m : Machine) → Walked m (after w k m)
  unfolding after step
  walked zero m = record { steps = 0; lines = omega arith; goes = refl }
  walked (suc k) m = first_walked m (after w k m) (after w k m).tasks refl (walked k m)

pub takes_turn : (w : TheWorld) (p : Packet) (work : List Work) (b : Machine) → IsSound w → IsFit (task p work) →
    after w (length (run_of w p work).lines) (record b { tasks = task p work ∷ b.tasks }) ≡ record (ahead_of b (run_of w p work)) { tasks = b.tasks }
takes_turn w p work b sound fit =
    let k = task_weight w (task p work) in
    let h = walked w b k (starting p work) in
    let so_far = h.lines in
    let steps : length (after w k (starting p work)).lines ≡ h.steps = omega (arith, so_far) in
    let begins : record b { tasks = task p work ∷ b.tasks } ≡ ahead_of b (starting p work) = same_machine _ _ _ _ _ _ _ _ refl (sym (append-nil b.items)) (sym (append-nil b.counts)) (sym (append-nil b.lines)) in
    let none : (after w k (starting p work)).tasks ≡ [] = rw (← run_unfolds w p work) (run_ends w sound p work fit) in
    rw (run_unfolds w p work, begins, steps, h.goes) (ap (λ (ts : List Task). record (ahead_of b (after w k (starting p work))) { tasks = ts ++ b.tasks }) none)
