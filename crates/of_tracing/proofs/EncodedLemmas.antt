-- What a frame's run does are actions of flows and of buckets.
use Rattle.std.proofs.Common.{◌≡◌, ◌==◌, ℕ, suc, zero, Bool, true, false, ◌&&◌, cond, List, [], ◌∷◌, ◌++◌, Option, Some, None, refl}
use Rattle.std.specs.{Prelude.IsTrue, Prelude.⊤, List.list_all}
use Rattle.of_wire.specs.declared.limits.TheConstants.{OFPP_TABLE}
use Rattle.of_layers.{specs.Reading.layers_of, proofs.TestLemmas.and_true}
use Rattle.of_headers.specs.{declared.headers.FrameFault.FrameFault, Faults.frame_fault}
use Rattle.of_rewrite.specs.{declared.frame.Ttl.Ttl, declared.frame.Ttl.TheVariants.Expired}
use Rattle.of_rewrite.specs.TimeToLive.{ttl_of, dec_ttl_result}
use Rattle.of_actions.specs.declared.instruction.Instruction.TheVariants.{Apply, Clear, Write, Metadata, Goto}
use Rattle.of_actions.specs.{declared.action.Action.Action, declared.action.Action.TheVariants.Output, declared.action.Action.TheVariants.Group, declared.action.Action.TheVariants.DecNwTtl}
use Rattle.of_actions.specs.{declared.instruction.Instruction.Instruction, Supported.is_supported, InstructionLists.is_served_body}
use Rattle.of_action_set.specs.Sets.{in_order}
use Rattle.of_table.specs.declared.flow.Flow.{Flow}
use Rattle.of_ports.specs.{declared.port.Port.Port, Ports.may_receive, Ports.port_at}
use Rattle.of_machine.specs.Rows.{Work, Lookup, Do, RunSet, Act, Task, task, Row, row, acts, works, key_of, lookup_row, entry_row, output_row, group_action_row, dec_ttl_row, copies, entering}
use Rattle.of_machine.specs.Runs.{Machine, step, first_step, after, starting, run_of}
use Rattle.of_machine.specs.{declared.data.Packet.Packet, declared.data.Step.Step, TheWorld.TheWorld, Sound.IsSound, Weights.IsSet, Weights.AllFit}
use Rattle.of_machine.proofs.{Promises.flow_served, Promises.list_served, Sets.run_set, Weighing.bounded, Whole.frame_fits, Whole.run_unfolds}
use Rattle.of_datapath.specs.{Datapath.Forwarding, Datapath.world_of, DryRun.steps_in, DryRun.arriving_steps, DryRun.taken_in_steps}
use Rattle.of_tracing.specs.Encoded.{is_encoded, are_encoded}

-- ---- work whose actions are those of flows

abbrev IsEncodedWork : Work → Type 0
IsEncodedWork (Do i) = IsTrue (is_served_body i)
IsEncodedWork (Act a) = IsTrue (is_supported false a)
IsEncodedWork other = ⊤

abbrev AllEncodedWork : List Work → Type 0
AllEncodedWork [] = ⊤
AllEncodedWork (x ∷ rest) = IsEncodedWork x × AllEncodedWork rest

abbrev AllEncodedTasks : List Task → Type 0
AllEncodedTasks [] = ⊤
AllEncodedTasks (t ∷ rest) = AllEncodedWork t.work × AllEncodedTasks rest

work_more : (xs ys : List Work) → AllEncodedWork xs → AllEncodedWork ys → AllEncodedWork (xs ++ ys)
work_more [] ys h k = k
work_more (x ∷ xs) ys h k = (h.0, work_more xs ys h.1 k)

tasks_more : (xs ys : List Task) → AllEncodedTasks xs → AllEncodedTasks ys → AllEncodedTasks (xs ++ ys)
tasks_more [] ys h k = k
tasks_more (x ∷ xs) ys h k = (h.0, tasks_more xs ys h.1 k)

acts_encoded : (l : List Action) → IsTrue (list_all (is_supported false) l) → AllEncodedWork (acts l)
acts_encoded [] h = tt
acts_encoded (a ∷ l) h = let both = and_true (is_supported false a) (list_all (is_supported false) l) h in (both.0, acts_encoded l both.1)

works_encoded : (l : List Instruction) → IsTrue (list_all is_served_body l) → AllEncodedWork (works l)
works_encoded [] h = (tt, tt)
works_encoded (Apply a ∷ l) h = let both = and_true (is_served_body (Apply a)) (list_all is_served_body l) h in (both.0, works_encoded l both.1)
works_encoded (Clear ∷ l) h = let both = and_true (is_served_body Clear) (list_all is_served_body l) h in (both.0, works_encoded l both.1)
works_encoded (Write a ∷ l) h = let both = and_true (is_served_body (Write a)) (list_all is_served_body l) h in (both.0, works_encoded l both.1)
works_encoded (Metadata v m ∷ l) h = let both = and_true (is_served_body (Metadata v m)) (list_all is_served_body l) h in (both.0, works_encoded l both.1)
works_encoded (Goto t ∷ l) h = let both = and_true (is_served_body (Goto t)) (list_all is_served_body l) h in (both.0, tt)

-- ---- one row

-- its line is encoded, and what is left is
abbrev IsEncodedRow : Row → Type 0
IsEncodedRow r = IsTrue (is_encoded r.line) × AllEncodedTasks r.left

dec_served : IsTrue (is_supported false DecNwTtl)
unfolding is_supported
dec_served = refl

module _ (w : TheWorld) (sound : IsSound w) (p : Packet) (rest : List Work) where
  entry_encoded : (t n : ℕ) (f : Option Flow) → w.flow t n ≡ f → IsEncodedRow (entry_row p t n f)
  entry_encoded t n None e = (refl, (tt, tt))
  entry_encoded t n (Some f) e = (refl, (works_encoded f.instructions (flow_served f.instructions (sound.kept t n f e)), tt))

  lookup_encoded : (t : ℕ) (found : Option ℕ) → IsEncodedRow (lookup_row w p t found)
  lookup_encoded t None = (refl, (tt, tt))
  lookup_encoded t (Some n) = entry_encoded t n (w.flow t n) refl

  output_encoded : (port max_len : ℕ) (tables : Bool) → (port == OFPP_TABLE) ≡ tables → IsTrue (is_supported false (Output port max_len)) → AllEncodedWork rest → IsEncodedRow (output_row w p rest (Output port max_len) port max_len)
  output_encoded port max_len true e h k = rw e (h, ((tt, tt), (k, tt)))
  output_encoded port max_len false e h k = rw e (h, (k, tt))

  aged_encoded : (answer : Ttl) → AllEncodedWork rest → IsEncodedRow (dec_ttl_row p rest answer)
  aged_encoded Expired k = (refl, (tt, tt))
  aged_encoded other k = (dec_served, (k, tt))

  copies_encoded : (group : ℕ) (places : List ℕ) → AllEncodedTasks (copies w group p places)
  copies_encoded group [] = tt
  copies_encoded group (k ∷ places) = ((tt, tt), copies_encoded group places)

  group_encoded : (group : ℕ) (chosen : Option (List ℕ)) → IsTrue (is_supported false (Group group)) → AllEncodedWork rest → IsEncodedRow (group_action_row w p rest group chosen)
  group_encoded group None h k = (h, (k, tt))
  group_encoded group (Some places) h k = (h, tasks_more (copies w group p places) (task p rest ∷ []) (copies_encoded group places) (k, tt))

  act_encoded : (a : Action) → IsTrue (is_supported false a) → AllEncodedWork rest → IsEncodedRow (row w p (Act a ∷ rest))
  act_encoded (Output port max_len) h k = output_encoded port max_len (port == OFPP_TABLE) refl h k
  act_encoded (Group group) h k = group_encoded group (w.chosen group) h k
  act_encoded DecNwTtl h k = aged_encoded (dec_ttl_result (ttl_of (layers_of p.frame))) k
  act_encoded other h k = (h, (k, tt))

  do_encoded : (i : Instruction) → IsTrue (is_served_body i) → AllEncodedWork rest → IsEncodedRow (row w p (Do i ∷ rest))
  do_encoded (Apply l) h k = (refl, (work_more (acts l) rest (acts_encoded l (list_served l h)) k, tt))
  do_encoded (Goto t) h k = (refl, ((tt, tt), tt))
  do_encoded other h k = (refl, (k, tt))

row_encoded : (w : TheWorld) → IsSound w → (p : Packet) (work : List Work) → IsSet p.action_set → AllEncodedWork work → IsEncodedRow (row w p work)
row_encoded w sound p [] set h = (refl, tt)
row_encoded w sound p (Lookup t ∷ rest) set h = lookup_encoded w sound p rest t (w.winner t (key_of p))
row_encoded w sound p (Do i ∷ rest) set h = do_encoded w sound p rest i h.0 h.1
row_encoded w sound p (RunSet ∷ rest) set h = (refl, (work_more (acts (in_order p.action_set)) rest (acts_encoded (in_order p.action_set) (run_set p.action_set set).served) h.1, tt))
row_encoded w sound p (Act a ∷ rest) set h = act_encoded w sound p rest a h.0 h.1

-- ---- runs

all_one_more : (xs : List Step) (s : Step) → IsTrue (are_encoded xs) → IsTrue (is_encoded s) → IsTrue (are_encoded (xs ++ s ∷ []))
all_one_more [] s h k = both_true k
  where
    both_true : {b : Bool} → b ≡ true → (b && true) ≡ true
    both_true e = rw e refl
all_one_more (x ∷ xs) s h k =
    let both = and_true (is_encoded x) (are_encoded xs) h in
    rw both.0 (all_one_more xs s both.1 k)

module _ (w : TheWorld) (sound : IsSound w) where
  first_encoded : (m : Machine) (ts : List Task) → AllFit ts → AllEncodedTasks ts → IsTrue (are_encoded m.lines) → AllEncodedTasks m.tasks → IsTrue (are_encoded (first_step w m ts).lines) × AllEncodedTasks (first_step w m ts).tasks
  first_encoded m [] fit h lines tasks = (lines, tasks)
  first_encoded m (t ∷ others) fit h lines tasks =
      let r = row_encoded w sound t.packet t.work fit.0.set h.0 in
      (all_one_more m.lines (row w t.packet t.work).line lines r.0, tasks_more (row w t.packet t.work).left others r.1 h.1)

  after_encoded : (k : ℕ) (m : Machine) → AllFit m.tasks → AllEncodedTasks m.tasks → IsTrue (are_encoded m.lines) → IsTrue (are_encoded (after w k m).lines) × AllEncodedTasks (after w k m).tasks
  unfolding after step
  after_encoded zero m fit h lines = (lines, h)
  after_encoded (suc k) m fit h lines =
      let ih = after_encoded k m fit h lines in
      first_encoded (after w k m) (after w k m).tasks (bounded w sound k m fit).0 ih.1 ih.0 ih.1

  pub run_encoded : (p : Packet) → p.action_set ≡ [] → IsTrue (are_encoded (run_of w p (Lookup 0 ∷ [])).lines)
  run_encoded p empty =
      rw (run_unfolds w p (Lookup 0 ∷ [])) (after_encoded _ (starting p (Lookup 0 ∷ [])) (frame_fits w sound p empty, tt) ((tt, tt), tt) refl).0

-- ---- a frame

module _ (f : Forwarding) (sound : IsSound (world_of f)) (number : ℕ) (bytes : List ℕ) where
  taken_encoded : (fault : Option FrameFault) → IsTrue (are_encoded (taken_in_steps number bytes f fault))
  taken_encoded (Some fault) = refl
  taken_encoded None = run_encoded (world_of f) sound (entering bytes number) refl

  up_encoded : (up : Bool) → IsTrue (are_encoded (cond up (taken_in_steps number bytes f (frame_fault bytes)) []))
  up_encoded true = taken_encoded (frame_fault bytes)
  up_encoded false = refl

  arriving_encoded : (port : Option Port) → IsTrue (are_encoded (arriving_steps number bytes f port))
  arriving_encoded None = refl
  arriving_encoded (Some p) = up_encoded (may_receive p)

  -- the steps of a frame
  pub steps_encoded : IsTrue (are_encoded (steps_in number bytes f))
  steps_encoded = arriving_encoded (port_at f.ports number)
