-- Runs where the entries of the tables have other numbers.
use Rattle.std.proofs.Common.{◌≡◌, ◌==◌, ℕ, suc, zero, Bool, true, false, List, [], ◌∷◌, ◌++◌, refl, sym, ◌∙◌, ap, length, Option, Some, None, map, cond}
use Rattle.std.{specs.Prelude.◌||◌, specs.Prelude.unwrap_or, specs.Option.option_map, proofs.lemmas.List.map-append}
use Rattle.of_wire.specs.declared.limits.TheConstants.{OFPP_ALL, OFPP_CONTROLLER, OFPP_FLOOD, OFPP_IN_PORT, OFPP_TABLE}
use Rattle.of_layers.specs.Reading.{layers_of}
use Rattle.of_rewrite.specs.{declared.frame.Ttl.Ttl, declared.frame.Ttl.TheVariants.Done}
use Rattle.of_rewrite.specs.TimeToLive.{ttl_of, dec_ttl_result}
use Rattle.of_actions.specs.declared.instruction.Instruction.TheVariants.{Apply, Clear, Write, Metadata, Goto}
use Rattle.of_actions.specs.declared.action.Action.{Action}
use Rattle.of_actions.specs.declared.action.Action.TheVariants.{Output, Group as ToGroup, DecNwTtl}
use Rattle.of_action_set.specs.Sets.{with_actions, in_order}
use Rattle.of_table.specs.declared.flow.Flow.{Flow}
use Rattle.of_ports.specs.{declared.port.Port.Port, Ports.may_send, Ports.port_at}
use Rattle.of_machine.specs.Rows.{Work, Act, Do, Lookup, RunSet, lookup_row, entry_row, act_row, output_row, output_to_table_row, dec_ttl_row, group_action_row, copies, bucket_copy, emission, to_port, emits, Emitted, key_of, Task, task, Row, row}
use Rattle.of_machine.specs.Runs.{Machine, taken, step, first_step, after, starting, run_of}
use Rattle.of_machine.specs.{declared.data.Packet.Packet, declared.data.Count.Count, declared.data.Count.TheVariants.Group, declared.data.Count.TheVariants.Bucket, declared.data.Step.Step}
use Rattle.of_machine.specs.{declared.data.Step.TheVariants.Act as DidAct, TheWorld.TheWorld, Weights.act_weight, Weights.acts_weight, Weights.work_weight, Weights.task_weight}
use Rattle.of_machine.{specs.Renumbering.IsRenumbered, specs.Renumbering.renumbered_machine, specs.Renumbering.renumbered_count, specs.Renumbering.renumbered_step, proofs.Ending.run_is_after}

module _ (number : ℕ → ℕ → ℕ) (w v : TheWorld) (h : IsRenumbered number w v) where
  -- the row with its numbers changed
  abbrev renumbered_row : Row → Row
  renumbered_row r = record r { line = renumbered_step number r.line; counts = map (renumbered_count number) r.counts }

  -- what is emitted names no entry
  abbrev same_counts : Emitted → Type 0
  same_counts e = map (renumbered_count number) e.counts ≡ e.counts

  sent_or_not : (b : Bool) (x y : Emitted) → same_counts x → same_counts y → same_counts (cond b x y)
  sent_or_not true x y here there = here
  sent_or_not false x y here there = there

  port_counts : (port : Option Port) (p : Packet) → same_counts (to_port port p)
  port_counts None p = refl
  port_counts (Some q) p = sent_or_not (may_send q) _ _ refl refl

  emission_counts : (ports : List Port) (p : Packet) (n max_len : ℕ) → same_counts (emission ports p n max_len)
  emission_counts ports p n max_len =
      sent_or_not (n == OFPP_IN_PORT) _ _ (port_counts (port_at ports p.ingress) p)
      (sent_or_not ((n == OFPP_FLOOD) || (n == OFPP_ALL)) _ _ refl
      (sent_or_not (n == OFPP_CONTROLLER) _ _ refl
      (sent_or_not (n == p.ingress) _ _ refl (port_counts (port_at ports n) p))))

  entry_is : (p : Packet) (t n : ℕ) (f : Option Flow) → entry_row p t (number t n) f ≡ renumbered_row (entry_row p t n f)
  entry_is p t n None = refl
  entry_is p t n (Some f) = refl

  lookup_is : (p : Packet) (t : ℕ) (found : Option ℕ) → w.winner t (key_of p) ≡ found → lookup_row v p t (option_map (number t) found) ≡ renumbered_row (lookup_row w p t found)
  lookup_is p t None e = refl
  lookup_is p t (Some n) e = ap (entry_row p t (number t n)) (h.flow t n (key_of p) e) ∙ entry_is p t n (w.flow t n)

  either_is : (b : Bool) (x y x' y' : Row) → x ≡ renumbered_row x' → y ≡ renumbered_row y' → cond b x y ≡ renumbered_row (cond b x' y')
  either_is true x y x' y' here there = here
  either_is false x y x' y' here there = there

  emits_is : (p : Packet) (rest : List Work) (a : Action) (port max_len : ℕ) → emits (DidAct a) (emission v.ports p port max_len) (task p rest ∷ []) ≡ renumbered_row (emits (DidAct a) (emission w.ports p port max_len) (task p rest ∷ []))
  emits_is p rest a port max_len =
      ap (λ (ports : List Port). emits (DidAct a) (emission ports p port max_len) (task p rest ∷ [])) h.ports
      ∙ ap (λ (cs : List Count). record (emits (DidAct a) (emission w.ports p port max_len) (task p rest ∷ [])) { counts = cs }) (sym (emission_counts w.ports p port max_len))

  output_is : (p : Packet) (rest : List Work) (a : Action) (port max_len : ℕ) → output_row v p rest a port max_len ≡ renumbered_row (output_row w p rest a port max_len)
  output_is p rest a port max_len = either_is (port == OFPP_TABLE) (output_to_table_row p rest a) _ (output_to_table_row p rest a) _ refl (emits_is p rest a port max_len)

  bucket_counts : (g bytes : ℕ) (ks : List ℕ) → map (renumbered_count number) (map (λ place. Bucket g place bytes) ks) ≡ map (λ place. Bucket g place bytes) ks
  bucket_counts g bytes [] = refl
  bucket_counts g bytes (k ∷ ks) = ap (λ (cs : List Count). Bucket g k bytes ∷ cs) (bucket_counts g bytes ks)

  copies_are : (g : ℕ) (p : Packet) (ks : List ℕ) → copies v g p ks ≡ copies w g p ks
  copies_are g p [] = refl
  copies_are g p (k ∷ ks) =
      ap (λ (o : Option (List Action)). task (record p { action_set = with_actions [] (unwrap_or o []) }) (RunSet ∷ []) ∷ copies v g p ks) (h.bucket g k)
      ∙ ap (λ (ts : List Task). task (bucket_copy w g p k) (RunSet ∷ []) ∷ ts) (copies_are g p ks)

  group_is : (p : Packet) (rest : List Work) (g : ℕ) (o : Option (List ℕ)) → group_action_row v p rest g o ≡ renumbered_row (group_action_row w p rest g o)
  group_is p rest g None = refl
  group_is p rest g (Some ks) =
      ap (λ (ts : List Task). record (group_action_row v p rest g (Some ks)) { left = ts ++ task p rest ∷ [] }) (copies_are g p ks)
      ∙ ap (λ (cs : List Count). record (group_action_row w p rest g (Some ks)) { counts = Group g (length p.frame) ∷ cs }) (sym (bucket_counts g (length p.frame) ks))

  aged_is : (p : Packet) (rest : List Work) (answer : Ttl) → dec_ttl_row p rest answer ≡ renumbered_row (dec_ttl_row p rest answer)
  aged_is p rest Done = refl
  aged_is p rest other = refl

  act_is : (p : Packet) (rest : List Work) (a : Action) → act_row v p rest a ≡ renumbered_row (act_row w p rest a)
  act_is p rest (Output port max_len) = output_is p rest (Output port max_len) port max_len
  act_is p rest (ToGroup g) = ap (group_action_row v p rest g) (h.chosen g) ∙ group_is p rest g (w.chosen g)
  act_is p rest DecNwTtl = aged_is p rest (dec_ttl_result (ttl_of (layers_of p.frame)))
  act_is p rest other = refl

  row_is : (p : Packet) (work : List Work) → row v p work ≡ renumbered_row (row w p work)
  row_is p [] = refl
  row_is p (Lookup t ∷ rest) = ap (lookup_row v p t) (h.winner t (key_of p)) ∙ lookup_is p t (w.winner t (key_of p)) refl
  row_is p (Do (Apply l) ∷ rest) = refl
  row_is p (Do Clear ∷ rest) = refl
  row_is p (Do (Write l) ∷ rest) = refl
  row_is p (Do (Metadata value mask) ∷ rest) = refl
  row_is p (Do (Goto t) ∷ rest) = refl
  row_is p (RunSet ∷ rest) = refl
  row_is p (Act a ∷ rest) = act_is p rest a

  taken_is : (m : Machine) (r : Row) (others : List Task) → taken (renumbered_machine number m) (renumbered_row r) others ≡ renumbered_machine number (taken m r others)
  taken_is m r others =
      ap (λ (cs : List Count). record (taken (renumbered_machine number m) (renumbered_row r) others) { counts = cs }) (sym (map-append (renumbered_count number) m.counts r.counts))
      ∙ ap (λ (ls : List Step). record (renumbered_machine number (taken m r others)) { lines = ls }) (sym (map-append (renumbered_step number) m.lines (r.line ∷ [])))

  first_is : (m : Machine) (ts : List Task) → first_step v (renumbered_machine number m) ts ≡ renumbered_machine number (first_step w m ts)
  first_is m [] = refl
  first_is m (t ∷ others) = ap (λ (r : Row). taken (renumbered_machine number m) r others) (row_is t.packet t.work) ∙ taken_is m (row w t.packet t.work) others

  after_is : (n : ℕ) (m : Machine) → after v n (renumbered_machine number m) ≡ renumbered_machine number (after w n m)
  unfolding after step
  after_is zero m = refl
  after_is (suc n) m = ap (step v) (after_is n m) ∙ first_is (after w n m) (after w n m).tasks

  -- a run has as many steps
  act_weighs : (a : Action) → act_weight v a ≡ act_weight w a
  act_weighs (ToGroup g) = rw (h.chain g) refl
  act_weighs other = refl

  acts_weigh : (l : List Action) → acts_weight v l ≡ acts_weight w l
  acts_weigh [] = refl
  acts_weigh (a ∷ l) = rw (act_weighs a, acts_weigh l) refl

  work_weighs : (s : List Action) (work : List Work) → work_weight v s work ≡ work_weight w s work
  work_weighs s [] = refl
  work_weighs s (Lookup t ∷ rest) = refl
  work_weighs s (Do (Apply l) ∷ rest) = rw (acts_weigh l, work_weighs s rest) refl
  work_weighs s (Do Clear ∷ rest) = rw (work_weighs [] rest) refl
  work_weighs s (Do (Write l) ∷ rest) = rw (work_weighs (with_actions s l) rest) refl
  work_weighs s (Do (Metadata value mask) ∷ rest) = rw (work_weighs s rest) refl
  work_weighs s (Do (Goto t) ∷ rest) = refl
  work_weighs s (RunSet ∷ rest) = rw (acts_weigh (in_order s), work_weighs [] rest) refl
  work_weighs s (Act a ∷ rest) = rw (act_weighs a, work_weighs s rest) refl

  pub run_is_renumbered : (p : Packet) (work : List Work) → run_of v p work ≡ renumbered_machine number (run_of w p work)
  run_is_renumbered p work =
      run_is_after v p work
      ∙ ap (λ (n : ℕ). after v n (starting p work)) (work_weighs p.action_set work)
      ∙ after_is (task_weight w (task p work)) (starting p work)
      ∙ ap (renumbered_machine number) (sym (run_is_after w p work))
