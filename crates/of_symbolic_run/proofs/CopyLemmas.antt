-- A state with the same packets as another.
use Rattle.std.proofs.Common.{◌≡◌, ℕ, List, [], ◌∷◌, refl, ap}
use Rattle.of_machine.specs.Rows.{key_of}
use Rattle.of_symbolic_run.specs.{declared.state.SymbolicPacket.SymbolicPacket, declared.state.SymbolicTask.SymbolicTask, Cases.first_key}
use Rattle.of_symbolic_run.specs.States.{AreTaskCopies, answer_to_tasks, answer_to_works, packet_for}

pub same_answer : (ts copies : List SymbolicTask) → AreTaskCopies ts copies → answer_to_tasks copies ≡ answer_to_tasks ts
same_answer [] [] h = refl
same_answer [] (c ∷ copies) h = absurd h
same_answer (t ∷ ts) [] h = absurd h
same_answer (t ∷ ts) (c ∷ copies) h = ap answer_to_works h.0.1

pub same_key : (ts copies : List SymbolicTask) → AreTaskCopies ts copies → (frame : List ℕ) (port : ℕ) → first_key copies frame port ≡ first_key ts frame port
same_key [] [] h frame port = refl
same_key [] (c ∷ copies) h frame port = absurd h
same_key (t ∷ ts) [] h frame port = absurd h
same_key (t ∷ ts) (c ∷ copies) h frame port = ap (λ (p : SymbolicPacket). key_of (packet_for p frame port)) h.0.0
