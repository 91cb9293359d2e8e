-- A GROUP of the first packet, for each frame (OpenFlow 1.3.5, 5.6.1).
use Rattle.std.specs.Prelude.{◌≡◌, ℕ, List, [], ◌∷◌, Option, None, Some, false, IsTrue, map, unwrap_or, ⊤}
use Rattle.std.specs.{Borrow.Bor, List.list_all, Option.option_map}
use Rattle.of_actions.specs.{declared.action.Action.Action, Supported.is_supported}
use Rattle.of_machine.specs.TheWorld.{TheWorld}
use Rattle.of_symbolic_run.specs.{declared.state.SymbolicPacket.SymbolicPacket, declared.state.SymbolicTask.SymbolicTask, declared.state.Work.TheVariants.RunSet}

-- the actions of the buckets of a group of the world that run, if the group exists
abbrev pub IsGroupOf : TheWorld → ℕ → Option (List (List Action)) → Type 0
IsGroupOf w group buckets = option_map (map (λ place. unwrap_or (w.bucket group place) [])) (w.chosen group) ≡ buckets

abbrev pub lists_of : List (Bor (List Action)) → List (List Action)
lists_of buckets = map (λ (b : Bor (List Action)). b.now) buckets

abbrev pub bucket_lists : Option (Bor (List (Bor (List Action)))) → Option (List (List Action))
bucket_lists buckets = option_map (λ (b : Bor (List (Bor (List Action)))). lists_of b.now) buckets

-- each action is supported
abbrev pub AreServedLists : List (List Action) → Type 0
AreServedLists [] = ⊤
AreServedLists (l ∷ rest) = IsTrue (list_all (is_supported false) l) × AreServedLists rest

-- a copy of a packet with a bucket's actions as its action set, which runs
abbrev pub IsBucketTask : SymbolicPacket → List Action → SymbolicTask → Type 0
IsBucketTask p l t = (t.packet ≡ record p { written = l }) × (t.work.items ≡ RunSet ∷ [])

abbrev pub AreBucketTasks : SymbolicPacket → List (List Action) → List SymbolicTask → Type 0
AreBucketTasks p [] [] = ⊤
AreBucketTasks p [] (t ∷ tasks) = ⊥
AreBucketTasks p (l ∷ buckets) [] = ⊥
AreBucketTasks p (l ∷ buckets) (t ∷ tasks) = IsBucketTask p l t × AreBucketTasks p buckets tasks

-- one for each bucket that runs; none without the group
abbrev pub AreGroupTasks : SymbolicPacket → Option (List (List Action)) → List SymbolicTask → Type 0
AreGroupTasks p None tasks = tasks ≡ []
AreGroupTasks p (Some buckets) tasks = AreBucketTasks p buckets tasks
