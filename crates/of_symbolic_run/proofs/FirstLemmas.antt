-- The first packet of a state, and of a copy.
use Rattle.std.proofs.Common.{◌≡◌, ◌<◌, ℕ, suc, List, [], ◌∷◌, length, get_or, drop, refl, ◌∙◌, ap, arith}
use Rattle.of_actions.specs.declared.action.Action.TheVariants as actions
use Rattle.of_symbolic_run.specs.declared.advance.Advance.TheVariants as advances
use Rattle.of_symbolic_run.specs.{declared.state.SymbolicTask.SymbolicTask, declared.state.Work.Work}
use Rattle.of_symbolic_run.specs.declared.state.Work.TheVariants.{Lookup, Do, RunSet, Act}
use Rattle.of_symbolic_run.specs.States.{AreTaskCopies, IsTaskCopy, answer_to_tasks, answer_to_works}

-- ---- the first work

pub is_lookup : (l : List Work) (table : ℕ) → answer_to_works l ≡ advances.Lookup table → l ≡ Lookup table ∷ drop 1 l
is_lookup [] table h = absurd cc
is_lookup (Lookup t ∷ l) table h = let same : t ≡ table = cc in ap (λ (x : ℕ). Lookup x ∷ l) same
is_lookup (Act (actions.Group group) ∷ l) table h = absurd cc
is_lookup (Act actions.DecNwTtl ∷ l) table h = absurd cc
is_lookup (Act other ∷ l) table h = absurd cc
is_lookup (other ∷ l) table h = absurd cc

pub is_decrement : (l : List Work) → answer_to_works l ≡ advances.DecNwTtl → l ≡ Act actions.DecNwTtl ∷ drop 1 l
is_decrement [] h = absurd cc
is_decrement (Lookup t ∷ l) h = absurd cc
is_decrement (Do i ∷ l) h = absurd cc
is_decrement (RunSet ∷ l) h = absurd cc
is_decrement (Act actions.DecNwTtl ∷ l) h = refl
is_decrement (Act other ∷ l) h = absurd cc

pub is_group : (l : List Work) (group : ℕ) → answer_to_works l ≡ advances.Group group → l ≡ Act (actions.Group group) ∷ drop 1 l
is_group [] group h = absurd cc
is_group (Lookup t ∷ l) group h = absurd cc
is_group (Do i ∷ l) group h = absurd cc
is_group (RunSet ∷ l) group h = absurd cc
is_group (Act (actions.Group g) ∷ l) group h = let same : g ≡ group = cc in ap (λ (x : ℕ). Act (actions.Group x) ∷ l) same
is_group (Act other ∷ l) group h = absurd cc

-- ---- the first packet

-- a list with a first packet, and a copy of it
pub record Firsts (ts copies : List SymbolicTask) : Type 0 where
  pub t : SymbolicTask
  pub rest : List SymbolicTask
  pub copy : SymbolicTask
  pub others : List SymbolicTask
  pub first : ts ≡ t ∷ rest
  pub copied : copies ≡ copy ∷ others
  pub same : IsTaskCopy t copy
  pub behind : AreTaskCopies rest others

pub firsts : (ts copies : List SymbolicTask) → AreTaskCopies ts copies → 0 < length ts → Firsts ts copies
firsts [] copies are some = absurd (omega (arith, some))
firsts (t ∷ ts) [] are some = absurd are
firsts (t ∷ ts) (c ∷ copies) are some = record { t = t; rest = ts; copy = c; others = copies; first = refl; copied = refl; same = are.0; behind = are.1 }

pub some_lookup : (ts : List SymbolicTask) (table : ℕ) → answer_to_tasks ts ≡ advances.Lookup table → 0 < length ts
some_lookup [] table h = absurd cc
some_lookup (t ∷ ts) table h = omega arith

pub some_decrement : (ts : List SymbolicTask) → answer_to_tasks ts ≡ advances.DecNwTtl → 0 < length ts
some_decrement [] h = absurd cc
some_decrement (t ∷ ts) h = omega arith

pub as_many : (ts copies : List SymbolicTask) → AreTaskCopies ts copies → length copies ≡ length ts
as_many [] [] are = refl
as_many [] (c ∷ copies) are = absurd are
as_many (t ∷ ts) [] are = absurd are
as_many (t ∷ ts) (c ∷ copies) are = ap suc (as_many ts copies are.1)

pub first_item : (ts : List SymbolicTask) (x t : SymbolicTask) (rest : List SymbolicTask) → x ≡ get_or ts 0 x → ts ≡ t ∷ rest → x ≡ t
first_item ts x t rest is first = is ∙ ap (λ (xs : List SymbolicTask). get_or xs 0 x) first
