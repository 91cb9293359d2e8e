-- Where two switches agree from a table on, packets with the same work that only comes to such tables have the same rest of their runs.
use Rattle.std.proofs.Common.{◌≡◌, ℕ, suc, zero, ◌≤◌, ◌==◌, Bool, true, false, List, [], ◌∷◌, ◌++◌, Option, Some, None, refl, sym, ◌∙◌, ap, subst, append_assoc, if◌then◌else◌}
use Rattle.std.specs.{Prelude.filter, Prelude.not, Prelude.nat_lt, Prelude.unwrap_or, List.AllByRecursion, List.list_any}
use Rattle.of_wire.specs.declared.limits.TheConstants.{OFPP_TABLE}
use Rattle.of_layers.specs.Reading.{layers_of}
use Rattle.of_rewrite.specs.{declared.frame.Ttl.Ttl, declared.frame.Ttl.TheVariants.Expired}
use Rattle.of_rewrite.specs.TimeToLive.{ttl_of, dec_ttl_result}
use Rattle.of_actions.specs.declared.action.Action.TheVariants.{Output, Group, DecNwTtl}
use Rattle.of_actions.specs.declared.instruction.Instruction.TheVariants.{Apply, Clear, Write, Metadata, Goto}
use Rattle.of_actions.specs.{declared.action.Action.Action, declared.instruction.Instruction.Instruction}
use Rattle.of_action_set.specs.Sets.{in_order, with_action, with_actions, is_group, is_output, rank}
use Rattle.of_table.specs.declared.flow.Flow.{Flow}
use Rattle.of_machine.specs.Rows.{Work, Lookup, Do, RunSet, Act, Task, task, Row, row, acts, works, key_of, lookup_row, entry_row, do_row, act_row, group_action_row, dec_ttl_row, copies, emits, output_to_table_row, emission}
use Rattle.of_machine.specs.{declared.data.Packet.Packet, declared.data.Item.Item, declared.data.Step.TheVariants.Act as DidAct, TheWorld.TheWorld}
use Rattle.of_machine.specs.Runs.{Machine, step, first_step, after}
use Rattle.of_alike.specs.Agreeing.{AgreeFrom, AllFrom, AreNoTable, AreSameFlows, InstructionFrom, IsNoTable, TaskFrom, WorkFrom}

-- entries lead to later tables, and no action of an entry or a bucket is an OUTPUT to TABLE
pub record IsOnward (n : ℕ) (w : TheWorld) : Type 0 where
  pub flow : (t place : ℕ) (f : Flow) → n ≤ t → w.flow t place ≡ Some f → AllByRecursion (InstructionFrom n) f.instructions
  pub bucket : (g : ℕ) (places : List ℕ) → w.chosen g ≡ Some places → AllByRecursion (λ place. AreNoTable (unwrap_or (w.bucket g place) [])) places

-- the rows leave the same packets and emit the same
pub record RowsAgree (n : ℕ) (r s : Row) : Type 0 where
  pub left : r.left ≡ s.left
  pub items : r.items ≡ s.items
  pub line : r.line ≡ s.line
  pub from : AllFrom n r.left

pub all_both : {A : Type 0} (P : A → Type 0) (xs ys : List A) → AllByRecursion P xs → AllByRecursion P ys → AllByRecursion P (xs ++ ys)
all_both P [] ys h k = k
all_both P (x ∷ xs) ys h k = (h.0, all_both P xs ys h.1 k)

all_filter : {A : Type 0} (P : A → Type 0) (t : A → Bool) (xs : List A) → AllByRecursion P xs → AllByRecursion P (filter t xs)
all_filter P t [] h = tt
all_filter P t (x ∷ xs) h = by_test (t x) (all_filter P t xs h.1)
  where
    by_test : (b : Bool) → AllByRecursion P (filter t xs) → AllByRecursion P (if b then x ∷ filter t xs else filter t xs)
    by_test true k = (h.0, k)
    by_test false k = k

acts_from : (n : ℕ) (l : List Action) (rest : List Work) → AreNoTable l → WorkFrom n rest → WorkFrom n (acts l ++ rest)
acts_from n [] rest h k = k
acts_from n (a ∷ l) rest h k = (h.0, acts_from n l rest h.1 k)

pub works_from : (n : ℕ) (is : List Instruction) → AllByRecursion (InstructionFrom n) is → WorkFrom n (works is)
works_from n [] h = (tt, tt)
works_from n (Apply l ∷ rest) h = (h.0, works_from n rest h.1)
works_from n (Clear ∷ rest) h = (tt, works_from n rest h.1)
works_from n (Write l ∷ rest) h = (h.0, works_from n rest h.1)
works_from n (Metadata value mask ∷ rest) h = (tt, works_from n rest h.1)
works_from n (Goto t ∷ rest) h = (h.0, tt)

set_with : (s : List Action) (a : Action) → AreNoTable s → IsNoTable a → AreNoTable (with_action s a)
set_with s a h k = all_both IsNoTable _ _ (all_filter IsNoTable (λ b. nat_lt (rank b) (rank a)) s h) (k, all_filter IsNoTable (λ b. nat_lt (rank a) (rank b)) s h)

pub set_with_all : (s l : List Action) → AreNoTable s → AreNoTable l → AreNoTable (with_actions s l)
set_with_all s [] h k = h
set_with_all s (a ∷ l) h k = set_with_all (with_action s a) l (set_with s a h k.0) k.1

set_runs : (s : List Action) → AreNoTable s → AreNoTable (in_order s)
set_runs s h = by_group (list_any is_group s)
  where
    by_group : (b : Bool) → AreNoTable (if b then filter (λ a. not (is_output a)) s else s)
    by_group true = all_filter IsNoTable (λ a. not (is_output a)) s h
    by_group false = h

module _ (n : ℕ) (w v : TheWorld) (agree : AgreeFrom n w v) (onward : IsOnward n w) where
  same_row : (r : Row) → AllFrom n r.left → RowsAgree n r r
  same_row r h = record { left = refl; items = refl; line = refl; from = h }

  entries_agree : (p : Packet) (t k : ℕ) → AreNoTable p.action_set → n ≤ t → (o q : Option Flow) → w.flow t k ≡ o → AreSameFlows o q → RowsAgree n (entry_row p t k o) (entry_row p t k q)
  entries_agree p t k set le None None e same = record { left = refl; items = refl; line = refl; from = (record { set = set; work = tt }, tt) }
  entries_agree p t k set le None (Some g) e same = absurd same
  entries_agree p t k set le (Some f) None e same = absurd same
  entries_agree p t k set le (Some f) (Some g) e same =
      record {
        left = rw (same.priority, same.fields, same.cookie, same.instructions) refl;
        items = refl;
        line = refl;
        from = (record { set = set; work = works_from n f.instructions (onward.flow t k f le e) }, tt);
      }

  lookups_agree : (p : Packet) (t : ℕ) → AreNoTable p.action_set → n ≤ t → (o : Option ℕ) → RowsAgree n (lookup_row w p t o) (lookup_row v p t o)
  lookups_agree p t set le None = record { left = refl; items = refl; line = refl; from = (record { set = set; work = tt }, tt) }
  lookups_agree p t set le (Some k) = entries_agree p t k set le (w.flow t k) (v.flow t k) refl (agree.flow t k le)

  instructions_agree : (p : Packet) (rest : List Work) (i : Instruction) → AreNoTable p.action_set → InstructionFrom n i → WorkFrom n rest → RowsAgree n (do_row p rest i) (do_row p rest i)
  instructions_agree p rest (Apply l) set h k = record { left = refl; items = refl; line = refl; from = (record { set = set; work = acts_from n l rest h k }, tt) }
  instructions_agree p rest Clear set h k = record { left = refl; items = refl; line = refl; from = (record { set = tt; work = k }, tt) }
  instructions_agree p rest (Write l) set h k = record { left = refl; items = refl; line = refl; from = (record { set = set_with_all p.action_set l set h; work = k }, tt) }
  instructions_agree p rest (Metadata value mask) set h k = record { left = refl; items = refl; line = refl; from = (record { set = set; work = k }, tt) }
  instructions_agree p rest (Goto t) set h k = record { left = refl; items = refl; line = refl; from = (record { set = set; work = (h, tt) }, tt) }

  ttl_agrees : (p : Packet) (rest : List Work) (t : Ttl) → AreNoTable p.action_set → WorkFrom n rest → RowsAgree n (dec_ttl_row p rest t) (dec_ttl_row p rest t)
  ttl_agrees p rest Expired set k = record { left = refl; items = refl; line = refl; from = (record { set = set; work = tt }, tt) }
  ttl_agrees p rest other set k = record { left = refl; items = refl; line = refl; from = (record { set = set; work = k }, tt) }

  outputs_agree : (p : Packet) (rest : List Work) (port max_len : ℕ) → AreNoTable p.action_set → (b : Bool) → b ≡ false → WorkFrom n rest →
      RowsAgree n (if b then output_to_table_row p rest (Output port max_len) else emits (DidAct (Output port max_len)) (emission w.ports p port max_len) (task p rest ∷ [])) (if b then output_to_table_row p rest (Output port max_len) else emits (DidAct (Output port max_len)) (emission v.ports p port max_len) (task p rest ∷ []))
  outputs_agree p rest port max_len set true e k = cc
  outputs_agree p rest port max_len set false e k = record { left = refl; items = agree.emits p port max_len; line = refl; from = (record { set = set; work = k }, tt) }

  copies_agree : (g : ℕ) (p : Packet) (places : List ℕ) → AllByRecursion (λ place. AreNoTable (unwrap_or (w.bucket g place) [])) places → (copies w g p places ≡ copies v g p places) × AllFrom n (copies w g p places)
  copies_agree g p [] h = (refl, tt)
  copies_agree g p (x ∷ xs) h =
      let others = copies_agree g p xs h.1 in
      (rw (agree.bucket g x, others.0) refl, (record { set = set_with_all [] (unwrap_or (w.bucket g x) []) tt h.0; work = (tt, tt) }, others.1))

  groups_agree : (p : Packet) (rest : List Work) (g : ℕ) → AreNoTable p.action_set → WorkFrom n rest → (o : Option (List ℕ)) → w.chosen g ≡ o → RowsAgree n (group_action_row w p rest g o) (group_action_row v p rest g o)
  groups_agree p rest g set k None e = record { left = refl; items = refl; line = refl; from = (record { set = set; work = k }, tt) }
  groups_agree p rest g set k (Some places) e =
      let each = copies_agree g p places (onward.bucket g places e) in
      record { left = ap (λ (l : List Task). l ++ task p rest ∷ []) each.0; items = refl; line = refl; from = all_both (TaskFrom n) _ _ each.1 (record { set = set; work = k }, tt) }

  acts_agree : (p : Packet) (rest : List Work) (a : Action) → AreNoTable p.action_set → IsNoTable a → WorkFrom n rest → RowsAgree n (act_row w p rest a) (act_row v p rest a)
  acts_agree p rest (Output port max_len) set h k = outputs_agree p rest port max_len set (port == OFPP_TABLE) h k
  acts_agree p rest (Group g) set h k = rw (← agree.chosen g) (groups_agree p rest g set k (w.chosen g) refl)
  acts_agree p rest DecNwTtl set h k = ttl_agrees p rest (dec_ttl_result (ttl_of (layers_of p.frame))) set k
  acts_agree p rest other set h k = record { left = refl; items = refl; line = refl; from = (record { set = set; work = k }, tt) }

  pub rows_agree : (p : Packet) (work : List Work) → AreNoTable p.action_set → WorkFrom n work → RowsAgree n (row w p work) (row v p work)
  rows_agree p [] set h = record { left = refl; items = refl; line = refl; from = tt }
  rows_agree p (Lookup t ∷ rest) set h = rw (← agree.winner t h.0 (key_of p)) (lookups_agree p t set h.0 (w.winner t (key_of p)))
  rows_agree p (Do i ∷ rest) set h = instructions_agree p rest i set h.0 h.1
  rows_agree p (RunSet ∷ rest) set h = record { left = refl; items = refl; line = refl; from = (record { set = tt; work = acts_from n (in_order p.action_set) rest (set_runs p.action_set set) h.1 }, tt) }
  rows_agree p (Act a ∷ rest) set h = acts_agree p rest a set h.0 h.1

  -- ---- steps

  -- both have the same packets, and have emitted the same after what they had emitted before
  pub record StepsAgree (m k : Machine) (a b : List Item) : Type 0 where
    pub tasks : m.tasks ≡ k.tasks
    pub from : AllFrom n m.tasks
    pub more : List Item
    pub first : m.items ≡ a ++ more
    pub second : k.items ≡ b ++ more

  first_agrees : (m k : Machine) (a b : List Item) (more : List Item) → m.items ≡ a ++ more → k.items ≡ b ++ more → (ts : List Task) → m.tasks ≡ ts → k.tasks ≡ ts → AllFrom n ts → StepsAgree (first_step w m ts) (first_step v k ts) a b
  first_agrees m k a b more e f [] te tf h = record { tasks = te ∙ sym tf; from = rw te h; more = more; first = e; second = f }
  first_agrees m k a b more e f (t ∷ others) te tf h =
      let r = rows_agree t.packet t.work h.0.set h.0.work in
      record {
        tasks = ap (λ (l : List Task). l ++ others) r.left;
        from = all_both (TaskFrom n) _ _ r.from h.1;
        more = more ++ (row w t.packet t.work).items;
        first = ap (λ (l : List Item). l ++ (row w t.packet t.work).items) e ∙ append_assoc a more _;
        second = rw (f, r.items) (append_assoc b more _);
      }

  step_agrees : (m k : Machine) (a b : List Item) → StepsAgree m k a b → StepsAgree (step w m) (step v k) a b
  unfolding step
  step_agrees m k a b s = subst (λ (ts : List Task). StepsAgree (first_step w m m.tasks) (first_step v k ts) a b) s.tasks (first_agrees m k a b s.more s.first s.second m.tasks refl (sym s.tasks) s.from)

  pub after_agrees : (i : ℕ) (m k : Machine) (a b : List Item) → StepsAgree m k a b → StepsAgree (after w i m) (after v i k) a b
  unfolding after
  after_agrees zero m k a b s = s
  after_agrees (suc i) m k a b s = step_agrees (after w i m) (after v i k) a b (after_agrees i m k a b s)
