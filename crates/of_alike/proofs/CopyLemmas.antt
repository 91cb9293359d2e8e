-- Packets with the same work.
use Rattle.std.proofs.Common.{◌≡◌, List, [], ◌∷◌, map, refl, sym, ap}
use Rattle.of_symbolic_run.specs.{declared.state.SymbolicPacket.SymbolicPacket, declared.state.SymbolicTask.SymbolicTask, declared.state.Work.Work, States.AreTaskCopies, States.IsTaskCopy}

-- a packet and its work
pub record TaskKey : Type 0 where
  pub packet : SymbolicPacket
  pub work : List Work

abbrev pub task_key : SymbolicTask → TaskKey
task_key t = record { packet = t.packet; work = t.work.items }

pub key_of_copy : (t copy : SymbolicTask) → IsTaskCopy t copy → task_key t ≡ task_key copy
key_of_copy t copy h = rw (h.0, h.1) refl

pub copies_of_keys : (ts copies : List SymbolicTask) → map task_key ts ≡ map task_key copies → AreTaskCopies ts copies
copies_of_keys [] [] e = tt
copies_of_keys [] (c ∷ cs) e = let h : [] ≡ task_key c ∷ map task_key cs = e in absurd cc
copies_of_keys (t ∷ ts) [] e = let h : task_key t ∷ map task_key ts ≡ [] = e in absurd cc
copies_of_keys (t ∷ ts) (c ∷ cs) e =
    let h : task_key t ∷ map task_key ts ≡ task_key c ∷ map task_key cs = e in
    let first : task_key t ≡ task_key c = cc in
    let others : map task_key ts ≡ map task_key cs = cc in
    ((ap (λ (k : TaskKey). k.packet) (sym first), ap (λ (k : TaskKey). k.work) (sym first)), copies_of_keys ts cs others)
