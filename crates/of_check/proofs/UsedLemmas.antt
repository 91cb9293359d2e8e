-- After actions that are unseen the packet's action set holds none that may send: the sets of a run are tied to what the tables before write.
use Rattle.std.proofs.Common.{◌≡◌, ℕ, suc, zero, ◌+◌, ◌<◌, ◌≤◌, ◌==◌, Bool, true, false, List, [], ◌∷◌, ◌++◌, Option, Some, None, refl, sym, ap, subst, arith, inl, inr, if◌then◌else◌}
use Rattle.std.specs.Prelude.{take, not, filter, nat_lt, ◌&&◌, ◌||◌, ◌⊎◌, slice_index_or, ⊤}
use Rattle.std.{specs.List.AllByRecursion, specs.List.list_all, specs.List.list_any, proofs.lemmas.Bool.ltb-true}
use Rattle.of_wire.specs.declared.limits.TheConstants.{OFPP_TABLE}
use Rattle.of_layers.specs.Reading.{layers_of}
use Rattle.of_rewrite.specs.{declared.frame.Ttl.Ttl, declared.frame.Ttl.TheVariants.Done, declared.frame.Ttl.TheVariants.Expired, declared.frame.Ttl.TheVariants.Absent}
use Rattle.of_rewrite.specs.TimeToLive.{ttl_of, dec_ttl_result}
use Rattle.of_actions.specs.declared.action.Action.TheVariants.{Output, Group, DecNwTtl}
use Rattle.of_actions.specs.declared.instruction.Instruction.TheVariants.{Apply, Clear, Write, Metadata, Goto}
use Rattle.of_actions.specs.{declared.action.Action.Action, declared.instruction.Instruction.Instruction, InstructionLists.is_for, InstructionLists.is_served_body, InstructionLists.run_place}
use Rattle.of_actions.specs.Rising.{is_ascending}
use Rattle.of_action_set.specs.Sets.{in_order, is_group, is_output, rank, with_action, with_actions}
use Rattle.of_table.specs.{declared.flow.Flow.Flow, Tables.table_at}
use Rattle.of_text.specs.Flows.{Flow as TextFlow}
use Rattle.of_check.specs.Actions.{is_clear, is_goto, is_used_later, may_send_packet, some_writes_sending, writes_sending}
use Rattle.of_check.proofs.SilentLemmas.{acts_done, one_step, or_parts, set_ended, onward}
use Rattle.of_check.{specs.Tables.flows_at, specs.Unseen.ComesUnseen as Quietly, proofs.ReachedLemmas.any_entry, proofs.ReachedLemmas.or_right, proofs.ReachedLemmas.text_at}
use Rattle.of_machine.specs.Rows.{Work, Lookup, Do, RunSet, Act, Task, task, row, acts, works, fresh_packet, key_of, lookup_row, entry_row, do_row, act_row, group_action_row, dec_ttl_row, copies, Emitted, emits, entering, set_out, output_to_table_row}
use Rattle.of_machine.specs.Runs.{Machine, step, first_step, after, starting}
use Rattle.of_machine.specs.{declared.data.Packet.Packet, declared.data.Step.Step, TheWorld.TheWorld, Sound.IsSound}
use Rattle.of_datapath.specs.{Datapath.Forwarding, Datapath.world_of, Loading.configuration_of, Loading.table_text}

and_parts : (a b : Bool) → (a && b) ≡ true → (a ≡ true) × (b ≡ true)
and_parts true b h = (refl, h)
and_parts false b h = absurd cc

-- ---- sets that send nothing

abbrev Sends : List Action → Type 0
Sends set = list_any may_send_packet set ≡ true

silent_filter : (keep : Action → Bool) (xs : List Action) → list_any may_send_packet xs ≡ false → list_any may_send_packet (filter keep xs) ≡ false
silent_filter keep [] h = refl
silent_filter keep (x ∷ xs) h =
    let parts = or_parts (may_send_packet x) (list_any may_send_packet xs) h in
    by_test (keep x) parts.0 (silent_filter keep xs parts.1)
  where
    by_test : (b : Bool) → may_send_packet x ≡ false → list_any may_send_packet (filter keep xs) ≡ false → list_any may_send_packet (if b then x ∷ filter keep xs else filter keep xs) ≡ false
    by_test true k others = rw k others
    by_test false k others = others

silent_both : (xs ys : List Action) → list_any may_send_packet xs ≡ false → list_any may_send_packet ys ≡ false → list_any may_send_packet (xs ++ ys) ≡ false
silent_both [] ys h k = k
silent_both (x ∷ xs) ys h k = let parts = or_parts (may_send_packet x) (list_any may_send_packet xs) h in rw parts.0 (silent_both xs ys parts.1 k)

silent_with : (set : List Action) (a : Action) → list_any may_send_packet set ≡ false → may_send_packet a ≡ false → list_any may_send_packet (with_action set a) ≡ false
silent_with set a h k = silent_both (filter (λ b. nat_lt (rank b) (rank a)) set) (a ∷ filter (λ b. nat_lt (rank a) (rank b)) set) (silent_filter (λ b. nat_lt (rank b) (rank a)) set h) (rw k (silent_filter (λ b. nat_lt (rank a) (rank b)) set h))

silent_written : (set l : List Action) → list_any may_send_packet set ≡ false → list_any may_send_packet l ≡ false → list_any may_send_packet (with_actions set l) ≡ false
silent_written set [] h k = h
silent_written set (a ∷ l) h k = let parts = or_parts (may_send_packet a) (list_any may_send_packet l) k in silent_written (with_action set a) l (silent_with set a h parts.0) parts.1

silent_order : (set : List Action) → list_any may_send_packet set ≡ false → list_any may_send_packet (in_order set) ≡ false
silent_order set h = by_test (list_any is_group set)
  where
    by_test : (b : Bool) → list_any may_send_packet (if b then filter (λ a. not (is_output a)) set else set) ≡ false
    by_test true = silent_filter (λ a. not (is_output a)) set h
    by_test false = h

-- a set that sends after writing sent before, or what was written does
written_sends : (P : Type 0) (set l : List Action) → (Sends set → P) → (Sends l → P) → Sends (with_actions set l) → P
written_sends P set l a b h = by_tests (list_any may_send_packet set) refl (list_any may_send_packet l) refl
  where
    by_tests : (x : Bool) → list_any may_send_packet set ≡ x → (y : Bool) → list_any may_send_packet l ≡ y → P
    by_tests true e y k = a e
    by_tests false e true k = b k
    by_tests false e false k = let none = silent_written set l e k in absurd cc

-- ---- what the tables before a table write

abbrev Below : List (List TextFlow) → ℕ → Type 0
Below ts t = list_any some_writes_sending (take t ts) ≡ true

below_more : (ts : List (List TextFlow)) (a b : ℕ) → a ≤ b → Below ts a → Below ts b
below_more [] zero zero l h = h
below_more [] zero (suc b) l h = h
below_more [] (suc a) zero l h = h
below_more [] (suc a) (suc b) l h = h
below_more (x ∷ ts) zero b l h = absurd cc
below_more (x ∷ ts) (suc a) zero l h = absurd (omega (arith, l))
below_more (x ∷ ts) (suc a) (suc b) l h = by_test (some_writes_sending x) refl (below_more ts a b (omega (arith, l)))
  where
    by_test : (s : Bool) → some_writes_sending x ≡ s → (Below ts a → Below ts b) → (some_writes_sending x || list_any some_writes_sending (take b ts)) ≡ true
    by_test true e more = rw e refl
    by_test false e more = rw e (more (rw e at h))

below_own : (ts : List (List TextFlow)) (t : ℕ) → some_writes_sending (slice_index_or ts t []) ≡ true → Below ts (suc t)
below_own [] t h = absurd cc
below_own (x ∷ ts) zero h = rw h refl
below_own (x ∷ ts) (suc t) h = or_right (some_writes_sending x) (list_any some_writes_sending (take (suc t) ts)) (below_own ts t h)

-- ---- what the work of a packet does to its set, up to the next table

abbrev Next : List (List TextFlow) → List Action → List Work → Type 0
Next ts set [] = ⊤
Next ts set (Lookup t ∷ rest) = (Sends set → Below ts t) × (rest ≡ [])
Next ts set (RunSet ∷ rest) = rest ≡ []
Next ts set (Act a ∷ rest) = Next ts set rest
Next ts set (Do (Apply l) ∷ rest) = Next ts set rest
Next ts set (Do Clear ∷ rest) = Next ts [] rest
Next ts set (Do (Write l) ∷ rest) = Next ts (with_actions set l) rest
Next ts set (Do (Metadata value mask) ∷ rest) = Next ts set rest
Next ts set (Do (Goto u) ∷ rest) = Sends set → Below ts u

-- behind applied actions: what follows them is the rest of the entry, which has no APPLY_ACTIONS
abbrev Pending : List (List TextFlow) → List Action → ℕ → List Work → Type 0
Pending ts set t [] = ⊤
Pending ts set t (Act a ∷ rest) = Pending ts set t rest
Pending ts set t (Lookup u ∷ rest) = ⊤
Pending ts set t (RunSet ∷ rest) = Sends set → Below ts t
Pending ts set t (Do (Apply l) ∷ rest) = ⊥
Pending ts set t (Do i ∷ rest) = Sends set → Below ts t

abbrev Early : List (List TextFlow) → List Action → ℕ → List Work → Type 0
Early ts set t (Act a ∷ rest) = Pending ts set t rest
Early ts set t (Do (Apply l) ∷ rest) = Pending ts set t rest
Early ts set t other = ⊤

-- no action and no APPLY_ACTIONS comes behind another instruction
abbrev Late : List Work → Type 0
Late (Act a ∷ rest) = ⊥
Late (Do (Apply l) ∷ rest) = ⊥
Late other = ⊤

abbrev Kept : List Work → Type 0
Kept [] = ⊤
Kept (Do (Apply l) ∷ rest) = Kept rest
Kept (Do i ∷ rest) = Late rest × Kept rest
Kept (other ∷ rest) = Kept rest

record IsTied (ts : List (List TextFlow)) (p : Packet) (work : List Work) : Type 0 where
  pub next : Next ts p.action_set work
  pub early : Early ts p.action_set p.table work
  pub kept : Kept work

abbrev AllTied : List (List TextFlow) → List Task → Type 0
AllTied ts tasks = AllByRecursion (λ t. IsTied ts t.packet t.work) tasks

late_early : (ts : List (List TextFlow)) (set : List Action) (t : ℕ) (work : List Work) → Late work → Early ts set t work
late_early ts set t [] h = tt
late_early ts set t (Lookup u ∷ rest) h = tt
late_early ts set t (RunSet ∷ rest) h = tt
late_early ts set t (Act a ∷ rest) h = absurd h
late_early ts set t (Do (Apply l) ∷ rest) h = absurd h
late_early ts set t (Do Clear ∷ rest) h = tt
late_early ts set t (Do (Write l) ∷ rest) h = tt
late_early ts set t (Do (Metadata value mask) ∷ rest) h = tt
late_early ts set t (Do (Goto u) ∷ rest) h = tt

pending_early : (ts : List (List TextFlow)) (set : List Action) (t : ℕ) (work : List Work) → Pending ts set t work → Early ts set t work
pending_early ts set t [] h = tt
pending_early ts set t (Lookup u ∷ rest) h = tt
pending_early ts set t (RunSet ∷ rest) h = tt
pending_early ts set t (Act a ∷ rest) h = h
pending_early ts set t (Do (Apply l) ∷ rest) h = absurd h
pending_early ts set t (Do Clear ∷ rest) h = tt
pending_early ts set t (Do (Write l) ∷ rest) h = tt
pending_early ts set t (Do (Metadata value mask) ∷ rest) h = tt
pending_early ts set t (Do (Goto u) ∷ rest) h = tt

next_acts : (ts : List (List TextFlow)) (set l : List Action) (rest : List Work) → Next ts set rest → Next ts set (acts l ++ rest)
next_acts ts set [] rest h = h
next_acts ts set (a ∷ l) rest h = next_acts ts set l rest h

pending_acts : (ts : List (List TextFlow)) (set : List Action) (t : ℕ) (l : List Action) (rest : List Work) → Pending ts set t rest → Pending ts set t (acts l ++ rest)
pending_acts ts set t [] rest h = h
pending_acts ts set t (a ∷ l) rest h = pending_acts ts set t l rest h

kept_acts : (l : List Action) (rest : List Work) → Kept rest → Kept (acts l ++ rest)
kept_acts [] rest h = h
kept_acts (a ∷ l) rest h = kept_acts l rest h

-- only actions are left
alone : (ts : List (List TextFlow)) (p : Packet) (l : List Action) (rest : List Work) → rest ≡ [] → IsTied ts p (acts l ++ rest)
alone ts p l rest e = rw e (record {
  next = next_acts ts p.action_set l [] tt;
  early = pending_early ts p.action_set p.table (acts l ++ []) (pending_acts ts p.action_set p.table l [] tt);
  kept = kept_acts l [] tt;
})

-- ---- an entry

abbrev WritesBelow : List (List TextFlow) → ℕ → Instruction → Type 0
WritesBelow ts t (Write l) = Sends l → Below ts t
WritesBelow ts t other = ⊤

entry_next : (ts : List (List TextFlow)) (t : ℕ) (set : List Action) (is : List Instruction) → (Sends set → Below ts (t + 1)) → AllByRecursion (WritesBelow ts (t + 1)) is → list_all (is_for t) is ≡ true → Next ts set (works is)
entry_next ts t set [] h w up = refl
entry_next ts t set (Apply l ∷ is) h w up = entry_next ts t set is h w.1 up
entry_next ts t set (Clear ∷ is) h w up = entry_next ts t [] is (λ s. absurd cc) w.1 up
entry_next ts t set (Write l ∷ is) h w up = entry_next ts t (with_actions set l) is (written_sends (Below ts (t + 1)) set l h w.0) w.1 up
entry_next ts t set (Metadata value mask ∷ is) h w up = entry_next ts t set is h w.1 up
entry_next ts t set (Goto u ∷ is) h w up =
    let higher : t < u = ltb-true t u (and_parts (nat_lt t u) (list_all (is_for t) is) up).0 in
    λ s. below_more ts (t + 1) u (omega (arith, higher)) (h s)

-- instructions behind one of that place
abbrev After : ℕ → List Instruction → Type 0
After n is = list_all (λ i. nat_lt n (run_place i)) is ≡ true

entry_late : (n : ℕ) (is : List Instruction) → After n is → Late (works is)
entry_late n [] h = tt
entry_late n (Apply l ∷ is) h = absurd (let no : nat_lt n 0 ≡ true = (and_parts (nat_lt n 0) (list_all (λ i. nat_lt n (run_place i)) is) h).0 in let lt : n < 0 = ltb-true n 0 no in omega (arith, lt))
entry_late n (Clear ∷ is) h = tt
entry_late n (Write l ∷ is) h = tt
entry_late n (Metadata value mask ∷ is) h = tt
entry_late n (Goto u ∷ is) h = tt

entry_kept : (is : List Instruction) → is_ascending run_place is ≡ true → Kept (works is)
entry_kept [] h = tt
entry_kept (Apply l ∷ is) h = entry_kept is (and_parts (list_all (λ y. nat_lt 0 (run_place y)) is) (is_ascending run_place is) h).1
entry_kept (Clear ∷ is) h = let parts = and_parts (list_all (λ y. nat_lt 1 (run_place y)) is) (is_ascending run_place is) h in (entry_late 1 is parts.0, entry_kept is parts.1)
entry_kept (Write l ∷ is) h = let parts = and_parts (list_all (λ y. nat_lt 2 (run_place y)) is) (is_ascending run_place is) h in (entry_late 2 is parts.0, entry_kept is parts.1)
entry_kept (Metadata value mask ∷ is) h = let parts = and_parts (list_all (λ y. nat_lt 3 (run_place y)) is) (is_ascending run_place is) h in (entry_late 3 is parts.0, entry_kept is parts.1)
entry_kept (Goto u ∷ is) h = (tt, tt)

entry_pending : (ts : List (List TextFlow)) (set : List Action) (t : ℕ) (is : List Instruction) → (Sends set → Below ts t) → After 0 is → Pending ts set t (works is)
entry_pending ts set t [] h a = h
entry_pending ts set t (Apply l ∷ is) h a = absurd (let no : nat_lt 0 0 ≡ true = (and_parts (nat_lt 0 0) (list_all (λ i. nat_lt 0 (run_place i)) is) a).0 in let lt : 0 < 0 = ltb-true 0 0 no in omega (arith, lt))
entry_pending ts set t (Clear ∷ is) h a = h
entry_pending ts set t (Write l ∷ is) h a = h
entry_pending ts set t (Metadata value mask ∷ is) h a = h
entry_pending ts set t (Goto u ∷ is) h a = h

entry_early : (ts : List (List TextFlow)) (set : List Action) (t : ℕ) (is : List Instruction) → (Sends set → Below ts t) → is_ascending run_place is ≡ true → Early ts set t (works is)
entry_early ts set t [] h r = tt
entry_early ts set t (Apply l ∷ is) h r = entry_pending ts set t is h (and_parts (list_all (λ y. nat_lt 0 (run_place y)) is) (is_ascending run_place is) r).0
entry_early ts set t (Clear ∷ is) h r = tt
entry_early ts set t (Write l ∷ is) h r = tt
entry_early ts set t (Metadata value mask ∷ is) h r = tt
entry_early ts set t (Goto u ∷ is) h r = tt

-- what the entries of a world write is what the tables of its configuration write
writes_in : (P : Type 0) (is : List Instruction) → (list_any writes_sending is ≡ true → P) → (ts : List (List TextFlow)) (t : ℕ) → (P → Below ts t) → AllByRecursion (WritesBelow ts t) is
writes_in P [] h ts t on = tt
writes_in P (Apply l ∷ is) h ts t on = (tt, writes_in P is h ts t on)
writes_in P (Clear ∷ is) h ts t on = (tt, writes_in P is h ts t on)
writes_in P (Write l ∷ is) h ts t on = (
  λ s. on (h (rw s refl)),
  writes_in P is (λ k. h (or_right (list_any may_send_packet l) (list_any writes_sending is) k)) ts t on,
)
writes_in P (Metadata value mask ∷ is) h ts t on = (tt, writes_in P is h ts t on)
writes_in P (Goto u ∷ is) h ts t on = (tt, writes_in P is h ts t on)

entry_writes : (f : Forwarding) (t n : ℕ) (flow : Flow) → (world_of f).flow t n ≡ Some flow → AllByRecursion (WritesBelow (configuration_of f).tables (t + 1)) flow.instructions
entry_writes f t n flow at =
    let ts = (configuration_of f).tables in
    let text = text_at 0 f.tables.tables t in
    writes_in (some_writes_sending (flows_at ts t) ≡ true) flow.instructions (λ to.
    let some : list_any (λ x. list_any writes_sending x.instructions) (table_text text.0 (table_at t f.tables)) ≡ true =
    any_entry (λ x. list_any writes_sending x.instructions) text.0 (table_at t f.tables).flows n flow at (λ e is. subst (λ (x : Flow). list_any writes_sending x.instructions ≡ true) (sym is) to) in
    subst (λ (x : List TextFlow). list_any (λ y. list_any writes_sending y.instructions) x ≡ true) (sym text.1) some) ts (t + 1) (λ h. rw add-one (below_own ts t h))
  where
    add-one : t + 1 ≡ suc t
    add-one = omega arith

-- ---- the rows of the machine

entry_tied : (f : Forwarding) → IsSound (world_of f) → (p : Packet) (t n : ℕ) → (Sends p.action_set → Below (configuration_of f).tables t) → (o : Option Flow) → (world_of f).flow t n ≡ o → AllTied (configuration_of f).tables (entry_row p t n o).left
entry_tied f sound p t n h None e = (record { next = tt; early = tt; kept = tt }, tt)
entry_tied f sound p t n h (Some flow) e =
    let ts = (configuration_of f).tables in
    let rising = (and_parts (is_ascending run_place flow.instructions) (list_all is_served_body flow.instructions) (sound.kept t n flow e)).0 in (
      record {
        next = entry_next ts t p.action_set flow.instructions (λ s. below_more ts t (t + 1) (omega arith) (h s)) (entry_writes f t n flow e) (sound.onward t n flow e);
        early = entry_early ts p.action_set t flow.instructions h rising;
        kept = entry_kept flow.instructions rising;
      },
      tt,
    )

lookup_tied : (f : Forwarding) → IsSound (world_of f) → (p : Packet) (t : ℕ) → (Sends p.action_set → Below (configuration_of f).tables t) → (o : Option ℕ) → AllTied (configuration_of f).tables (lookup_row (world_of f) p t o).left
lookup_tied f sound p t h None = (record { next = tt; early = tt; kept = tt }, tt)
lookup_tied f sound p t h (Some n) = entry_tied f sound p t n h ((world_of f).flow t n) refl

do_tied : (ts : List (List TextFlow)) (p : Packet) (rest : List Work) (i : Instruction) → IsTied ts p (Do i ∷ rest) → AllTied ts (do_row p rest i).left
do_tied ts p rest (Apply l) h = (
  record {
    next = next_acts ts p.action_set l rest h.next;
    early = pending_early ts p.action_set p.table (acts l ++ rest) (pending_acts ts p.action_set p.table l rest h.early);
    kept = kept_acts l rest h.kept;
  },
  tt,
)
do_tied ts p rest Clear h = (record { next = h.next; early = late_early ts [] p.table rest h.kept.0; kept = h.kept.1 }, tt)
do_tied ts p rest (Write l) h = (record { next = h.next; early = late_early ts (with_actions p.action_set l) p.table rest h.kept.0; kept = h.kept.1 }, tt)
do_tied ts p rest (Metadata value mask) h = (record { next = h.next; early = late_early ts p.action_set p.table rest h.kept.0; kept = h.kept.1 }, tt)
do_tied ts p rest (Goto u) h = (record { next = (h.next, refl); early = tt; kept = tt }, tt)

-- a packet whose set is empty and that begins at the first table
anew : (ts : List (List TextFlow)) (p : Packet) → p.action_set ≡ [] → IsTied ts p (Lookup 0 ∷ [])
anew ts p e = record { next = ((λ s. let none : list_any may_send_packet p.action_set ≡ false = ap (λ (x : List Action). list_any may_send_packet x) e in absurd cc), refl); early = tt; kept = tt }

-- the rest of the work, where the set and the table stay
goes : (ts : List (List TextFlow)) (p : Packet) (rest : List Work) (a : Action) → IsTied ts p (Act a ∷ rest) → IsTied ts p rest
goes ts p rest a h = record { next = h.next; early = pending_early ts p.action_set p.table rest h.early; kept = h.kept }

output_tied : (ts : List (List TextFlow)) (p : Packet) (rest : List Work) (a : Action) (line : Step) (e : Emitted) (b : Bool) → IsTied ts p (Act a ∷ rest) → AllTied ts (if b then output_to_table_row p rest a else emits line e (task p rest ∷ [])).left
output_tied ts p rest a line e true h = (anew ts (fresh_packet p) refl, (goes ts p rest a h, tt))
output_tied ts p rest a line e false h = (goes ts p rest a h, tt)

tied_both : (ts : List (List TextFlow)) (xs ys : List Task) → AllTied ts xs → AllTied ts ys → AllTied ts (xs ++ ys)
tied_both ts [] ys h k = k
tied_both ts (x ∷ xs) ys h k = (h.0, tied_both ts xs ys h.1 k)

copies_tied : (ts : List (List TextFlow)) (w : TheWorld) (g : ℕ) (p : Packet) (places : List ℕ) → AllTied ts (copies w g p places)
copies_tied ts w g p [] = tt
copies_tied ts w g p (x ∷ xs) = (record { next = refl; early = tt; kept = tt }, copies_tied ts w g p xs)

group_tied : (ts : List (List TextFlow)) (w : TheWorld) (p : Packet) (rest : List Work) (g : ℕ) (o : Option (List ℕ)) → IsTied ts p (Act (Group g) ∷ rest) → AllTied ts (group_action_row w p rest g o).left
group_tied ts w p rest g None h = (goes ts p rest (Group g) h, tt)
group_tied ts w p rest g (Some places) h = tied_both ts (copies w g p places) (task p rest ∷ []) (copies_tied ts w g p places) (goes ts p rest (Group g) h, tt)

ttl_tied : (ts : List (List TextFlow)) (p : Packet) (rest : List Work) (t : Ttl) → IsTied ts p (Act DecNwTtl ∷ rest) → AllTied ts (dec_ttl_row p rest t).left
ttl_tied ts p rest Expired h = (record { next = tt; early = tt; kept = tt }, tt)
ttl_tied ts p rest Done h = (record { next = h.next; early = pending_early ts p.action_set p.table rest h.early; kept = h.kept }, tt)
ttl_tied ts p rest Absent h = (goes ts p rest DecNwTtl h, tt)

act_tied : (ts : List (List TextFlow)) (w : TheWorld) (p : Packet) (rest : List Work) (a : Action) → IsTied ts p (Act a ∷ rest) → AllTied ts (act_row w p rest a).left
act_tied ts w p rest (Output port max_len) h = output_tied ts p rest (Output port max_len) _ _ (port == OFPP_TABLE) h
act_tied ts w p rest (Group g) h = group_tied ts w p rest g (w.chosen g) h
act_tied ts w p rest DecNwTtl h = ttl_tied ts p rest (dec_ttl_result (ttl_of (layers_of p.frame))) h
act_tied ts w p rest other h = (record { next = h.next; early = pending_early ts p.action_set p.table rest h.early; kept = h.kept }, tt)

row_tied : (f : Forwarding) → IsSound (world_of f) → (p : Packet) (work : List Work) → IsTied (configuration_of f).tables p work → AllTied (configuration_of f).tables (row (world_of f) p work).left
row_tied f sound p [] h = tt
row_tied f sound p (Lookup t ∷ rest) h = lookup_tied f sound p t h.next.0 ((world_of f).winner t (key_of p))
row_tied f sound p (Do i ∷ rest) h = do_tied (configuration_of f).tables p rest i h
row_tied f sound p (RunSet ∷ rest) h = (alone (configuration_of f).tables (set_out p) (in_order p.action_set) rest h.next, tt)
row_tied f sound p (Act a ∷ rest) h = act_tied (configuration_of f).tables (world_of f) p rest a h

first_tied : (f : Forwarding) → IsSound (world_of f) → (m : Machine) → AllTied (configuration_of f).tables m.tasks → (tasks : List Task) → AllTied (configuration_of f).tables tasks → AllTied (configuration_of f).tables (first_step (world_of f) m tasks).tasks
first_tied f sound m h [] k = h
first_tied f sound m h (t ∷ others) k = tied_both (configuration_of f).tables (row (world_of f) t.packet t.work).left others (row_tied f sound t.packet t.work k.0) k.1

step_tied : (f : Forwarding) → IsSound (world_of f) → (m : Machine) → AllTied (configuration_of f).tables m.tasks → AllTied (configuration_of f).tables (step (world_of f) m).tasks
unfolding step
step_tied f sound m h = first_tied f sound m h m.tasks h

after_tied : (f : Forwarding) → IsSound (world_of f) → (k : ℕ) (m : Machine) → AllTied (configuration_of f).tables m.tasks → AllTied (configuration_of f).tables (after (world_of f) k m).tasks
unfolding after
after_tied f sound zero m h = h
after_tied f sound (suc k) m h = step_tied f sound (after (world_of f) k m) (after_tied f sound k m h)

-- ---- the end of an entry that is not used later

-- behind applied actions
works_pending : (ts : List (List TextFlow)) (set : List Action) (t : ℕ) (is : List Instruction) → Pending ts set t (works is) → Sends set → Below ts t
works_pending ts set t [] h = h
works_pending ts set t (Apply l ∷ is) h = absurd h
works_pending ts set t (Clear ∷ is) h = h
works_pending ts set t (Write l ∷ is) h = h
works_pending ts set t (Metadata value mask ∷ is) h = h
works_pending ts set t (Goto u ∷ is) h = h

acts_pending : (ts : List (List TextFlow)) (set : List Action) (t : ℕ) (l : List Action) (rest : List Work) → Pending ts set t (acts l ++ rest) → Pending ts set t rest
acts_pending ts set t [] rest h = h
acts_pending ts set t (a ∷ l) rest h = acts_pending ts set t l rest h

acts_kept : (l : List Action) (rest : List Work) → Kept (acts l ++ rest) → Kept rest
acts_kept [] rest h = h
acts_kept (a ∷ l) rest h = acts_kept l rest h

-- no APPLY_ACTIONS up to the GOTO_TABLE
abbrev NoApply : List Instruction → Type 0
NoApply [] = ⊤
NoApply (Apply l ∷ is) = ⊥
NoApply (Goto u ∷ is) = ⊤
NoApply (i ∷ is) = NoApply is

late_no_apply : (is : List Instruction) → Late (works is) → Kept (works is) → NoApply is
late_no_apply [] h k = tt
late_no_apply (Apply l ∷ is) h k = absurd h
late_no_apply (Clear ∷ is) h k = late_no_apply is k.0 k.1
late_no_apply (Write l ∷ is) h k = late_no_apply is k.0 k.1
late_no_apply (Metadata value mask ∷ is) h k = late_no_apply is k.0 k.1
late_no_apply (Goto u ∷ is) h k = tt

no_apply : (ts : List (List TextFlow)) (set : List Action) (t : ℕ) (is : List Instruction) → Pending ts set t (works is) → Kept (works is) → NoApply is
no_apply ts set t [] h k = tt
no_apply ts set t (Apply l ∷ is) h k = absurd h
no_apply ts set t (Clear ∷ is) h k = late_no_apply is k.0 k.1
no_apply ts set t (Write l ∷ is) h k = late_no_apply is k.0 k.1
no_apply ts set t (Metadata value mask ∷ is) h k = late_no_apply is k.0 k.1
no_apply ts set t (Goto u ∷ is) h k = tt

ends : (w : TheWorld) (m : Machine) (p : Packet) (is : List Instruction) (others : List Task) → NoApply is → list_any is_goto is ≡ false → list_any writes_sending is ≡ false
    → (list_any may_send_packet p.action_set ≡ false) ⊎ (list_any is_clear is ≡ true) → m.tasks ≡ task p (works is) ∷ others → Quietly w m others
ends w m p [] others n g s (inl silent) e = set_ended w m p others (silent_order p.action_set silent) e
ends w m p [] others n g s (inr clears) e = absurd cc
ends w m p (Apply l ∷ is) others n g s c e = absurd n
ends w m p (Clear ∷ is) others n g s c e =
    let first = one_step w m p (Do Clear ∷ works is) others (row w p (Do Clear ∷ works is)) e refl refl refl in
    onward w m _ _ first (ends w (after w first.steps m) (record p { action_set = [] }) is others n g s (inl refl) first.tasks_are)
ends w m p (Write l ∷ is) others n g s c e =
    let first = one_step w m p (Do (Write l) ∷ works is) others (row w p (Do (Write l) ∷ works is)) e refl refl refl in
    let parts = or_parts (list_any may_send_packet l) (list_any writes_sending is) s in
    onward w m _ _ first (ends w (after w first.steps m) (record p { action_set = with_actions p.action_set l }) is others n g parts.1 (written c parts.0) first.tasks_are)
  where
    written : (list_any may_send_packet p.action_set ≡ false) ⊎ (list_any is_clear is ≡ true) → list_any may_send_packet l ≡ false → (list_any may_send_packet (with_actions p.action_set l) ≡ false) ⊎ (list_any is_clear is ≡ true)
    written (inl silent) k = inl (silent_written p.action_set l silent k)
    written (inr clears) k = inr clears
ends w m p (Metadata value mask ∷ is) others n g s c e =
    let first = one_step w m p (Do (Metadata value mask) ∷ works is) others (row w p (Do (Metadata value mask) ∷ works is)) e refl refl refl in
    onward w m _ _ first (ends w (after w first.steps m) _ is others n g s c first.tasks_are)
ends w m p (Goto u ∷ is) others n g s c e = absurd cc

set_is : (clears below sends : Bool) → (not clears && below) ≡ false → (sends ≡ true → below ≡ true) → (sends ≡ false) ⊎ (clears ≡ true)
set_is true below sends h b = inr refl
set_is false below false h b = inl refl
set_is false below true h b = let yes : below ≡ true = b refl in absurd cc

pub unseen_later : (f : Forwarding) → IsSound (world_of f) → (frame : List ℕ) (port k : ℕ) (q : Packet) (a : Action) (l : List Action) (is : List Instruction) (others : List Task)
    → (after (world_of f) k (starting (entering frame port) (Lookup 0 ∷ []))).tasks ≡ task q (Act a ∷ acts l ++ works is) ∷ others → may_send_packet a ≡ false → list_any may_send_packet l ≡ false
    → is_used_later (configuration_of f).tables q.table is ≡ false → Quietly (world_of f) (after (world_of f) k (starting (entering frame port) (Lookup 0 ∷ []))) others
unseen_later f sound frame port k q a l is others e first later unused =
    let ts = (configuration_of f).tables in
    let w = world_of f in
    let m = after w k (starting (entering frame port) (Lookup 0 ∷ [])) in
    let all : AllTied ts m.tasks = after_tied f sound k (starting (entering frame port) (Lookup 0 ∷ [])) (anew ts (entering frame port) refl, tt) in
    let mine : AllTied ts (task q (Act a ∷ acts l ++ works is) ∷ others) = subst (λ (x : List Task). AllTied ts x) e all in
    let pending = acts_pending ts q.action_set q.table l (works is) mine.0.early in
    let none = no_apply ts q.action_set q.table is pending (acts_kept l (works is) mine.0.kept) in
    let one = or_parts (list_any is_goto is || list_any writes_sending is) (not (list_any is_clear is) && list_any some_writes_sending (take q.table ts)) unused in
    let two = or_parts (list_any is_goto is) (list_any writes_sending is) one.0 in
    let set = set_is (list_any is_clear is) (list_any some_writes_sending (take q.table ts)) (list_any may_send_packet q.action_set) one.1 (works_pending ts q.action_set q.table is pending) in
    let silent : list_any may_send_packet (a ∷ l) ≡ false = rw first later in
    let done = acts_done w (a ∷ l) q (works is) others m silent e in
    let same : (list_any may_send_packet done.packet.action_set ≡ false) ⊎ (list_any is_clear is ≡ true) = subst (λ (x : List Action). (list_any may_send_packet x ≡ false) ⊎ (list_any is_clear is ≡ true)) (sym done.same_set) set in
    onward w m _ _ done.comes (ends w (after w done.comes.steps m) done.packet is others none two.0 two.1 same done.comes.tasks_are)
