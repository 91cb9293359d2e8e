-- A run looks packets up at tables that GOTO_TABLE leads to.
use Rattle.std.proofs.Common.{◌≡◌, ℕ, suc, zero, ◌==◌, eqb, Bool, true, false, List, [], ◌∷◌, ◌++◌, Option, Some, None, refl, sym, subst, if◌then◌else◌}
use Rattle.std.specs.Prelude.{map, ◌&&◌, ◌||◌, slice_index_or, IfSome, ⊤}
use Rattle.std.{specs.List.AllByRecursion, specs.List.list_any, proofs.lemmas.Bool.eq-eqb, proofs.lemmas.Bool.eqb-true}
use Rattle.of_wire.specs.declared.limits.TheConstants.{OFPP_TABLE}
use Rattle.of_layers.specs.Reading.{layers_of}
use Rattle.of_rewrite.specs.{declared.frame.Ttl.Ttl, declared.frame.Ttl.TheVariants.Expired}
use Rattle.of_rewrite.specs.TimeToLive.{ttl_of, dec_ttl_result}
use Rattle.of_actions.specs.declared.action.Action.TheVariants.{Output, Group, DecNwTtl}
use Rattle.of_actions.specs.declared.instruction.Instruction.TheVariants.{Apply, Clear, Write, Metadata, Goto}
use Rattle.of_actions.specs.{declared.action.Action.Action, declared.instruction.Instruction.Instruction}
use Rattle.of_action_set.specs.Sets.{in_order}
use Rattle.of_table.specs.{declared.flow.Flow.Flow, Table.FlowEntry, Table.Table, Table.empty_table, Table.flow_at, Tables.table_at}
use Rattle.of_text.specs.Flows.{Flow as TextFlow, goes_to}
use Rattle.of_check.specs.{Tables.IsReached, Tables.is_way, Tables.leads_to_table, Reached.AtTables, Reached.looked_up}
use Rattle.of_machine.specs.Rows.{Work, Lookup, Do, RunSet, Act, Task, task, Row, row, acts, works, key_of, lookup_row, entry_row, do_row, act_row, group_action_row, dec_ttl_row, copies, Emitted, emits, output_to_table_row}
use Rattle.of_machine.specs.Runs.{Machine, step, first_step, or_end, until_none, starting, run_of}
use Rattle.of_machine.specs.{declared.data.Packet.Packet, declared.data.Step.Step, TheWorld.TheWorld}
use Rattle.of_datapath.specs.{Datapath.Forwarding, Datapath.world_of, Loading.configuration_of, Loading.entry_text, Loading.table_text, Loading.texts_from}

-- ---- work that goes on at such tables alone

abbrev InstructionIn : (ℕ → Type 0) → Instruction → Type 0
InstructionIn P (Goto t) = P t
InstructionIn P other = ⊤

abbrev WorkIn : (ℕ → Type 0) → List Work → Type 0
WorkIn P [] = ⊤
WorkIn P (Lookup t ∷ rest) = P t × WorkIn P rest
WorkIn P (Do i ∷ rest) = InstructionIn P i × WorkIn P rest
WorkIn P (RunSet ∷ rest) = WorkIn P rest
WorkIn P (Act a ∷ rest) = WorkIn P rest

abbrev AllIn : (ℕ → Type 0) → List Task → Type 0
AllIn P tasks = AllByRecursion (λ t. WorkIn P t.work) tasks

-- the first table is one of them, and the entries of each lead to others of them
record IsClosed (P : ℕ → Type 0) (w : TheWorld) : Type 0 where
  pub first : P 0
  pub onward : (t n : ℕ) (f : Flow) → P t → w.flow t n ≡ Some f → AllByRecursion (InstructionIn P) f.instructions

record RowIn (P : ℕ → Type 0) (r : Row) : Type 0 where
  pub left : AllIn P r.left
  pub line : IfSome (looked_up r.line) P

both : {A : Type 0} (P : A → Type 0) (xs ys : List A) → AllByRecursion P xs → AllByRecursion P ys → AllByRecursion P (xs ++ ys)
both P [] ys h k = k
both P (x ∷ xs) ys h k = (h.0, both P xs ys h.1 k)

works_in : (P : ℕ → Type 0) (is : List Instruction) → AllByRecursion (InstructionIn P) is → WorkIn P (works is)
works_in P [] h = tt
works_in P (Apply l ∷ rest) h = (tt, works_in P rest h.1)
works_in P (Clear ∷ rest) h = (tt, works_in P rest h.1)
works_in P (Write l ∷ rest) h = (tt, works_in P rest h.1)
works_in P (Metadata value mask ∷ rest) h = (tt, works_in P rest h.1)
works_in P (Goto t ∷ rest) h = (h.0, tt)

acts_in : (P : ℕ → Type 0) (l : List Action) (rest : List Work) → WorkIn P rest → WorkIn P (acts l ++ rest)
acts_in P [] rest h = h
acts_in P (a ∷ l) rest h = acts_in P l rest h

entry_in : (P : ℕ → Type 0) (w : TheWorld) → IsClosed P w → (p : Packet) (t n : ℕ) → P t → (o : Option Flow) → w.flow t n ≡ o → RowIn P (entry_row p t n o)
entry_in P w c p t n at None e = record { left = (tt, tt); line = at }
entry_in P w c p t n at (Some f) e = record { left = (works_in P f.instructions (c.onward t n f at e), tt); line = at }

lookup_in : (P : ℕ → Type 0) (w : TheWorld) → IsClosed P w → (p : Packet) (t : ℕ) → P t → (o : Option ℕ) → RowIn P (lookup_row w p t o)
lookup_in P w c p t at None = record { left = (tt, tt); line = at }
lookup_in P w c p t at (Some n) = entry_in P w c p t n at (w.flow t n) refl

do_in : (P : ℕ → Type 0) (p : Packet) (i : Instruction) (rest : List Work) → InstructionIn P i → WorkIn P rest → RowIn P (do_row p rest i)
do_in P p (Apply l) rest i h = record { left = (acts_in P l rest h, tt); line = tt }
do_in P p (Goto t) rest i h = record { left = ((i, tt), tt); line = tt }
do_in P p other rest i h = record { left = (h, tt); line = tt }

output_in : (P : ℕ → Type 0) → P 0 → (p : Packet) (rest : List Work) (a : Action) (e : Emitted) (line : Step) → IfSome (looked_up line) P → (b : Bool) → WorkIn P rest → RowIn P (if b then output_to_table_row p rest a else emits line e (task p rest ∷ []))
output_in P first p rest a e line l true h = record { left = ((first, tt), (h, tt)); line = tt }
output_in P first p rest a e line l false h = record { left = (h, tt); line = l }

copies_in : (P : ℕ → Type 0) (w : TheWorld) (g : ℕ) (p : Packet) (places : List ℕ) → AllIn P (copies w g p places)
copies_in P w g p [] = tt
copies_in P w g p (x ∷ xs) = (tt, copies_in P w g p xs)

group_in : (P : ℕ → Type 0) (w : TheWorld) (p : Packet) (rest : List Work) (g : ℕ) (o : Option (List ℕ)) → WorkIn P rest → RowIn P (group_action_row w p rest g o)
group_in P w p rest g None h = record { left = (h, tt); line = tt }
group_in P w p rest g (Some places) h = record { left = both (λ (t : Task). WorkIn P t.work) (copies w g p places) (task p rest ∷ []) (copies_in P w g p places) (h, tt); line = tt }

ttl_in : (P : ℕ → Type 0) (p : Packet) (rest : List Work) (t : Ttl) → WorkIn P rest → RowIn P (dec_ttl_row p rest t)
ttl_in P p rest Expired h = record { left = (tt, tt); line = tt }
ttl_in P p rest other h = record { left = (h, tt); line = tt }

act_in : (P : ℕ → Type 0) (w : TheWorld) → IsClosed P w → (p : Packet) (a : Action) (rest : List Work) → WorkIn P rest → RowIn P (act_row w p rest a)
act_in P w c p (Output port max_len) rest h = output_in P c.first p rest (Output port max_len) _ _ tt (port == OFPP_TABLE) h
act_in P w c p (Group g) rest h = group_in P w p rest g (w.chosen g) h
act_in P w c p DecNwTtl rest h = ttl_in P p rest (dec_ttl_result (ttl_of (layers_of p.frame))) h
act_in P w c p other rest h = record { left = (h, tt); line = tt }

row_in : (P : ℕ → Type 0) (w : TheWorld) → IsClosed P w → (p : Packet) (work : List Work) → WorkIn P work → RowIn P (row w p work)
row_in P w c p [] h = record { left = tt; line = tt }
row_in P w c p (Lookup t ∷ rest) h = lookup_in P w c p t h.0 (w.winner t (key_of p))
row_in P w c p (Do i ∷ rest) h = do_in P p i rest h.0 h.1
row_in P w c p (RunSet ∷ rest) h = record { left = (acts_in P (in_order p.action_set) rest h, tt); line = tt }
row_in P w c p (Act a ∷ rest) h = act_in P w c p a rest h

-- ---- the run

record MachineIn (P : ℕ → Type 0) (m : Machine) : Type 0 where
  pub tasks : AllIn P m.tasks
  pub lines : AtTables P m.lines

first_in : (P : ℕ → Type 0) (w : TheWorld) → IsClosed P w → (m : Machine) → MachineIn P m → (ts : List Task) → AllIn P ts → MachineIn P (first_step w m ts)
first_in P w c m h [] k = h
first_in P w c m h (t ∷ others) k =
    let r = row_in P w c t.packet t.work k.0 in
    record {
      tasks = both (λ (x : Task). WorkIn P x.work) (row w t.packet t.work).left others r.left k.1;
      lines = both (λ (x : Step). IfSome (looked_up x) P) m.lines ((row w t.packet t.work).line ∷ []) h.lines (r.line, tt);
    }

step_in : (P : ℕ → Type 0) (w : TheWorld) → IsClosed P w → (m : Machine) → MachineIn P m → MachineIn P (step w m)
unfolding step
step_in P w c m h = first_in P w c m h m.tasks h.tasks

until_in : (P : ℕ → Type 0) (w : TheWorld) → IsClosed P w → (n : ℕ) (m : Machine) → MachineIn P m → MachineIn P (until_none w n m)
unfolding until_none
until_in P w c zero m h = h
until_in P w c (suc n) m h = by_tasks m.tasks (until_in P w c n (step w m) (step_in P w c m h))
  where
    by_tasks : (ts : List Task) → MachineIn P (until_none w n (step w m)) → MachineIn P (or_end w (until_none w n) m ts)
    by_tasks [] k = h
    by_tasks (t ∷ ts) k = k

run_in : (P : ℕ → Type 0) (w : TheWorld) → IsClosed P w → (p : Packet) (work : List Work) → WorkIn P work → AtTables P (run_of w p work).lines
unfolding run_of
run_in P w c p work h = (until_in P w c _ (starting p work) (record { tasks = (h, tt); lines = tt })).lines

-- ---- the tables of a configuration

way_more : (tables : List (List TextFlow)) (from : ℕ) (way : List ℕ) (t u : ℕ) → is_way tables from way t ≡ true → leads_to_table tables t u ≡ true → is_way tables from (way ++ u ∷ []) u ≡ true
way_more tables from [] t u w l =
    let is : from ≡ t = eqb-true from t w in
    let here : leads_to_table tables from u ≡ true = subst (λ (x : ℕ). leads_to_table tables x u ≡ true) (sym is) l in
    let same : eqb u u ≡ true = eq-eqb u u refl in
    rw (here, same) refl
way_more tables from (x ∷ way) t u w l =
    let parts = and_parts (leads_to_table tables from x) (is_way tables x way t) w in
    rw (parts.0, way_more tables x way t u parts.1 l) refl
  where
    and_parts : (a b : Bool) → (a && b) ≡ true → (a ≡ true) × (b ≡ true)
    and_parts true b h = (refl, h)
    and_parts false b h = absurd cc

pub text_at : (k : ℕ) (ts : List Table) (i : ℕ) → (j : ℕ) × (slice_index_or (texts_from k ts) i [] ≡ table_text j (slice_index_or ts i empty_table))
text_at k [] i = (k, refl)
text_at k (t ∷ ts) zero = (k, refl)
text_at k (t ∷ ts) (suc i) = text_at (suc k) ts i

pub or_right : (a b : Bool) → b ≡ true → (a || b) ≡ true
or_right true b h = refl
or_right false b h = h

pub any_entry : (test : TextFlow → Bool) (j : ℕ) (flows : List FlowEntry) (n : ℕ) (f : Flow) → flow_at n flows ≡ Some f → ((e : FlowEntry) → e.flow ≡ f → test (entry_text j e) ≡ true) → list_any test (table_text j (record { lookups = 0; matched = 0; flows = flows })) ≡ true
any_entry test j [] n f at h = absurd cc
any_entry test j (e ∷ es) zero f at h = let is : Some e.flow ≡ Some f = at in rw (h e cc) refl
any_entry test j (e ∷ es) (suc n) f at h = or_right (test (entry_text j e)) (list_any test (map (entry_text j) es)) (any_entry test j es n f at h)

goes_on : (is : List Instruction) (P : ℕ → Type 0) → ((u : ℕ) → list_any (goes_to u) is ≡ true → P u) → AllByRecursion (InstructionIn P) is
goes_on [] P h = tt
goes_on (Apply l ∷ is) P h = (tt, goes_on is P h)
goes_on (Clear ∷ is) P h = (tt, goes_on is P h)
goes_on (Write l ∷ is) P h = (tt, goes_on is P h)
goes_on (Metadata value mask ∷ is) P h = (tt, goes_on is P h)
goes_on (Goto t ∷ is) P h =
    let same : eqb t t ≡ true = eq-eqb t t refl in
    (h t (rw same refl), goes_on is P (λ u k. h u (or_right (eqb t u) (list_any (goes_to u) is) k)))

closed : (f : Forwarding) → IsClosed (IsReached (configuration_of f).tables) (world_of f)
closed f = record {
  first = ([], refl);
  onward = λ t n flow reached at. goes_on flow.instructions (IsReached (configuration_of f).tables) (λ u to.
      let tables = (configuration_of f).tables in
      let text = text_at 0 f.tables.tables t in
      let some : list_any (λ x. list_any (goes_to u) x.instructions) (table_text text.0 (table_at t f.tables)) ≡ true =
      any_entry (λ x. list_any (goes_to u) x.instructions) text.0 (table_at t f.tables).flows n flow at (λ e is. subst (λ (x : Flow). list_any (goes_to u) x.instructions ≡ true) (sym is) to) in
      let on : leads_to_table tables t u ≡ true = subst (λ (x : List TextFlow). list_any (λ y. list_any (goes_to u) y.instructions) x ≡ true) (sym text.1) some in
      (reached.0 ++ u ∷ [], way_more tables 0 reached.0 t u reached.1 on));
}

pub frames_at : (f : Forwarding) (p : Packet) → AtTables (IsReached (configuration_of f).tables) (run_of (world_of f) p (Lookup 0 ∷ [])).lines
frames_at f p = run_in (IsReached (configuration_of f).tables) (world_of f) (closed f) p (Lookup 0 ∷ []) (([], refl), tt)

acts_alone : (P : ℕ → Type 0) (l : List Action) → WorkIn P (acts l)
acts_alone P [] = tt
acts_alone P (a ∷ l) = acts_alone P l

pub actions_at : (f : Forwarding) (p : Packet) (l : List Action) → AtTables (IsReached (configuration_of f).tables) (run_of (world_of f) p (acts l)).lines
actions_at f p l = run_in (IsReached (configuration_of f).tables) (world_of f) (closed f) p (acts l) (acts_alone (IsReached (configuration_of f).tables) l)

pub at_others : (P Q : ℕ → Type 0) → ((t : ℕ) → P t → Q t) → (lines : List Step) → AtTables P lines → AtTables Q lines
at_others P Q weaker [] h = tt
at_others P Q weaker (line ∷ lines) h = (by_line (looked_up line) h.0, at_others P Q weaker lines h.1)
  where
    by_line : (o : Option ℕ) → IfSome o P → IfSome o Q
    by_line None k = tt
    by_line (Some t) k = weaker t k
