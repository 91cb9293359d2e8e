-- Each flow of a configuration is valid in its table.
use Rattle.std.proofs.Common.{◌≡◌, ℕ, ◌+◌, ◌^◌, ◌<◌, ◌≤◌, eqb, Bool, true, false, cond, List, [], ◌∷◌, ◌++◌, length, take, Option, Some, None, refl, sym, ◌∙◌, ap, subst, arith}
use Rattle.std.specs.Prelude.{map, not, ◌&&◌, nat_lt, nat_le, bit_and, is_some, IsSome, IfSome, slice_index_or}
use Rattle.std.proofs.lemmas.Bool.{and_parts, and_from, not-false, ne_eqb, ltb-false, leb-true, lt-ltb, le-leb, eqb-true}
use Rattle.std.{specs.List.AllByRecursion, specs.List.flat_map, specs.List.list_all, specs.Option.unwrap_or, proofs.Math.Nat.mod-eq_of_lt, proofs.lemmas.Nat.and_mask}
use Rattle.std.proofs.{lemmas.List.take_all, lemmas.List.length-append, lemmas.Bool.Decides.nat_tests}
use Rattle.of_wire.{specs.declared.code.Code.Code, specs.Refusals.first_of, specs.Refusals.refusal, proofs.FirstLemmas.none_applies}
use Rattle.of_layers.specs.Fields.{number_of, bit_count, ones_of, is_maskable, is_settable}
use Rattle.of_layers.{specs.declared.field.Field.Field, proofs.Table.ones_is}
use Rattle.of_oxm.specs.{declared.match_field.MatchField.MatchField, NormalForm.IsKept, NormalForm.IsKeptMask, NormalForm.IsAscending, NormalForm.IsMatch, Prerequisites.prerequisites_met}
use Rattle.of_actions.specs.declared.instruction.Instruction.TheVariants.{Apply, Clear, Write, Metadata, Goto}
use Rattle.of_actions.specs.{declared.action.Action.Action, declared.action.Action.TheVariants.Output, declared.action.Action.TheVariants.PushVlan, declared.action.Action.TheVariants.SetField}
use Rattle.of_actions.specs.{declared.instruction.Instruction.Instruction, PortNumbers.is_port, Headers.is_next, Supported.is_supported, Supported.are_supported, Rising.is_ascending}
use Rattle.of_actions.specs.{InstructionLists.is_served_body, InstructionLists.is_for, InstructionLists.are_for, InstructionLists.run_place, FlowCheck.all_go_with}
use Rattle.of_lines.specs.{declared.row.Row.Row, Rows.Fits, Rows.ActionFits, Rows.FieldFits, Rows.IsMask, Order.flow_next, Order.flow_standing, Reading.◌>>=◌}
use Rattle.of_lines.specs.declared.row.Row.TheVariants as rows
use Rattle.of_text.specs.Refusals.{text_field_refusals, text_action_refusals, list_refusals, instruction_refusals, goto_refusals, match_refusals, instructions_refusals, flow_refusals, table_refusals, or_else}
use Rattle.of_text.proofs.ConfigLemmas.{Stand, in_table, AllFor, all_for, IsWhole, kept_whole, parts_of, flows_stand}
use Rattle.of_text.specs.{Groups.TextGroup, Flows.Flow, Flows.instruction_rows, Kept.IsEntry, Kept.StandsBehind, Kept.AllStandBehind, First.flows_for, Configs.Configuration, Configs.IsConfig}
use Rattle.of_text.proofs.{RefusalLemmas.first_append, TextLemmas.all_front, TextLemmas.all_back, TextLemmas.flow_both, TextLemmas.some_front, KeptLemmas.actions_stand, FillLemmas.table_at}

-- ---- where none is refused

pub none_next : (r : Bool × Code) (rs : List (Bool × Code)) → first_of (r ∷ rs) ≡ None → (r.0 ≡ false) × (first_of rs ≡ None)
none_next r rs h = by_test r.0 h
  where
    by_test : (t : Bool) → cond t (Some r.1) (first_of rs) ≡ None → (t ≡ false) × (first_of rs ≡ None)
    by_test true e = absurd cc
    by_test false e = (refl, e)

pub none_both : (xs ys : List (Bool × Code)) → first_of (xs ++ ys) ≡ None → (first_of xs ≡ None) × (first_of ys ≡ None)
none_both xs ys h = by_first (first_of xs) (sym (first_append xs ys) ∙ h)
  where
    by_first : (o : Option Code) → or_else o (first_of ys) ≡ None → (o ≡ None) × (first_of ys ≡ None)
    by_first None e = (refl, e)
    by_first (Some code) e = absurd cc

pub none_each : {X : Type 0} (f : X → List (Bool × Code)) (xs : List X) → first_of (flat_map f xs) ≡ None → AllByRecursion (λ x. first_of (f x) ≡ None) xs
none_each f [] h = tt
none_each f (x ∷ xs) h = let parts = none_both (f x) (flat_map f xs) h in (parts.0, none_each f xs parts.1)

-- ---- matches

pub within : (f : Field) (mask : ℕ) → mask < ones_of f → bit_and mask (ones_of f) ≡ mask
within f mask h =
    let is = ones_is f in
    let small : mask < 2 ^ bit_count f = omega (arith, h, is) in
    ap (bit_and mask) is ∙ (and_mask mask (bit_count f) ∙ mod-eq_of_lt small)

pub and_true : (b : Bool) → (b && true) ≡ b
and_true true = refl
and_true false = refl

mask_kept : (f : Field) (v : ℕ) (mask : Option ℕ) → IfSome mask (IsMask f) → (is_some mask && not (is_maskable f) && not (eqb (bit_and (unwrap_or mask 0) (ones_of f)) (ones_of f))) ≡ false → (is_some mask && not (eqb (bit_and v (unwrap_or mask 0)) v)) ≡ false → IfSome mask (IsKeptMask f v)
mask_kept f v None k h i = tt
mask_kept f v (Some m) k h i =
    let partial : eqb (bit_and m (ones_of f)) (ones_of f) ≡ false = ne_eqb _ _ (λ e. omega (arith, e, within f m k.not_all, k.not_all)) in
    record { maskable = not-false _ (sym (and_true (not (is_maskable f))) ∙ (rw partial at h)); some = k.some; not_all = k.not_all; within = within f m k.not_all; covers = eqb-true _ _ (not-false _ i) }

field_kept : (e : MatchField) → FieldFits e → first_of (text_field_refusals e) ≡ None → IsKept e
field_kept e k h =
    let none = none_applies (text_field_refusals e) h in
    record { value = ltb-false (ones_of e.field) e.value none.1.0; mask = mask_kept e.field e.value e.mask k.1 none.0 none.1.1.0 }

fields_kept : (m : List MatchField) → AllByRecursion Fits (map rows.Match m) → AllByRecursion (λ e. first_of (text_field_refusals e) ≡ None) m → AllByRecursion IsKept m
fields_kept [] k h = tt
fields_kept (e ∷ es) k h = (field_kept e k.0 h.0, fields_kept es k.1 h.1)

some_bind : (t : Bool) (n : ℕ) (k : ℕ → Option ℕ) → IsSome (cond t (Some n) None >>= k) → (t ≡ true) × IsSome (k n)
some_bind true n k h = (refl, h)
some_bind false n k h = absurd cc

fields_rise : (p : ℕ) (m : List MatchField) (rest : List Row) → IsSome (flow_standing p (map rows.Match m ++ rest)) → AllByRecursion (λ e. p ≤ number_of e.field) m × IsAscending m
unfolding flow_next
fields_rise p [] rest h = (tt, tt)
fields_rise p (e ∷ es) rest h =
    let n = number_of e.field in
    let parts = some_bind (nat_le p n) (n + 1) (λ q. flow_standing q (map rows.Match es ++ rest)) h in
    let others = fields_rise (n + 1) es rest parts.1 in
    let low : p ≤ n = leb-true p n parts.0 in
    ((low, lower p n low es others.0), (above n es others.0, others.1))
  where
    lower : (p n : ℕ) → p ≤ n → (xs : List MatchField) → AllByRecursion (λ x. n + 1 ≤ number_of x.field) xs → AllByRecursion (λ x. p ≤ number_of x.field) xs
    lower p n l [] h = tt
    lower p n l (x ∷ xs) h = (let k : n + 1 ≤ number_of x.field = h.0 in omega (arith, k, l), lower p n l xs h.1)

    above : (n : ℕ) (xs : List MatchField) → AllByRecursion (λ x. n + 1 ≤ number_of x.field) xs → AllByRecursion (λ x. n < number_of x.field) xs
    above n [] h = tt
    above n (x ∷ xs) h = (let k : n + 1 ≤ number_of x.field = h.0 in omega (arith, k), above n xs h.1)

-- ---- instructions

instruction_after : (p : ℕ) (s : Instruction) (rest : List Row) → IsSome (flow_standing p (instruction_rows s ++ rest)) → (p ≤ 40 + run_place s) × IsSome (flow_standing (41 + run_place s) rest)
unfolding flow_next
instruction_after p (Apply xs) rest h =
    let parts = some_bind (nat_le p 40) 41 (λ q. flow_standing q (map rows.Do xs ++ rest)) h in
    (leb-true p 40 parts.0, subst IsSome (actions_stand 41 xs rest refl) parts.1)
instruction_after p Clear rest h = let parts = some_bind (nat_le p 41) 42 (λ q. flow_standing q rest) h in (leb-true p 41 parts.0, parts.1)
instruction_after p (Write xs) rest h =
    let parts = some_bind (nat_le p 42) 43 (λ q. flow_standing q (map rows.Do xs ++ rest)) h in
    (leb-true p 42 parts.0, subst IsSome (actions_stand 43 xs rest refl) parts.1)
instruction_after p (Metadata v m) rest h = let parts = some_bind (nat_le p 43) 44 (λ q. flow_standing q rest) h in (leb-true p 43 parts.0, parts.1)
instruction_after p (Goto t) rest h = let parts = some_bind (nat_le p 44) 45 (λ q. flow_standing q rest) h in (leb-true p 44 parts.0, parts.1)

instructions_rise : (p : ℕ) (ss : List Instruction) → IsSome (flow_standing p (flat_map instruction_rows ss)) → AllByRecursion (λ i. p ≤ 40 + run_place i) ss × (is_ascending run_place ss ≡ true)
instructions_rise p [] h = (tt, refl)
instructions_rise p (s ∷ ss) h =
    let n = run_place s in
    let parts = instruction_after p s (flat_map instruction_rows ss) h in
    let others = instructions_rise (41 + n) ss parts.1 in
    let low : p ≤ 40 + n = parts.0 in
    ((low, lower p n low ss others.0), and_from _ _ (above n ss others.0) others.1)
  where
    lower : (p n : ℕ) → p ≤ 40 + n → (xs : List Instruction) → AllByRecursion (λ i. 41 + n ≤ 40 + run_place i) xs → AllByRecursion (λ i. p ≤ 40 + run_place i) xs
    lower p n l [] h = tt
    lower p n l (x ∷ xs) h = (let k : 41 + n ≤ 40 + run_place x = h.0 in omega (arith, k, l), lower p n l xs h.1)

    above : (n : ℕ) (xs : List Instruction) → AllByRecursion (λ i. 41 + n ≤ 40 + run_place i) xs → list_all (λ y. nat_lt n (run_place y)) xs ≡ true
    above n [] h = refl
    above n (x ∷ xs) h = let k : 41 + n ≤ 40 + run_place x = h.0 in and_from _ _ (lt-ltb n (run_place x) (omega (arith, k))) (above n xs h.1)

-- an action that is not refused is supported
pub action_served : (a : Action) → ActionFits a → first_of (text_action_refusals a) ≡ None → is_supported false a ≡ true
unfolding is_supported
action_served (Output p m) k h = let none = none_applies (text_action_refusals (Output p m)) h in and_from (is_port false p) (nat_lt m 0x10000) (not-false _ none.0) (lt-ltb m 0x10000 k.1)
action_served (PushVlan t) k h = let none = none_applies (text_action_refusals (PushVlan t)) h in not-false _ none.0
action_served (SetField f v) k h =
    let none = none_applies (text_action_refusals (SetField f v)) h in
    and_from (is_settable f) (nat_le v (ones_of f)) (not-false _ none.0) (le-leb v (ones_of f) (ltb-false (ones_of f) v none.1.0))
action_served other k h = grind (arith, nat_tests)

each_served : (xs : List Action) → AllByRecursion Fits (map rows.Do xs) → AllByRecursion (λ a. first_of (text_action_refusals a) ≡ None) xs → list_all (is_supported false) xs ≡ true
each_served [] k h = refl
each_served (a ∷ xs) k h = and_from _ _ (action_served a k.0 h.0) (each_served xs k.1 h.1)

pub list_served : (xs : List Action) → AllByRecursion Fits (map rows.Do xs) → first_of (list_refusals xs) ≡ None → are_supported false xs ≡ true
unfolding list_refusals
list_served xs k h =
    let parts = none_both (flat_map text_action_refusals (take 64 xs)) _ h in
    let few : length xs ≤ 64 = ltb-false 64 (length xs) (none_next _ [] parts.1).0 in
    let all : first_of (flat_map text_action_refusals xs) ≡ None = ap (λ (ys : List Action). first_of (flat_map text_action_refusals ys)) (sym (take_all 64 xs few)) ∙ parts.0 in
    and_from (nat_le (length xs) 64) (list_all (is_supported false) xs) (le-leb (length xs) 64 few) (each_served xs k (none_each text_action_refusals xs all))

instruction_served : (table : ℕ) (s : Instruction) → AllByRecursion Fits (instruction_rows s) → first_of (instruction_refusals s) ≡ None → first_of (goto_refusals table s) ≡ None → (is_served_body s ≡ true) × (is_for table s ≡ true)
unfolding instruction_refusals
instruction_served table (Apply xs) k h g = (list_served xs k.1 h, refl)
instruction_served table Clear k h g = (refl, refl)
instruction_served table (Write xs) k h g = (list_served xs k.1 h, refl)
instruction_served table (Metadata v m) k h g = (and_from (nat_lt v (2 ^ 64)) (nat_lt m (2 ^ 64)) (lt-ltb v (2 ^ 64) k.0.0) (lt-ltb m (2 ^ 64) k.0.1), refl)
instruction_served table (Goto to) k h g =
    let next : is_next table to ≡ true = not-false _ (none_next _ [] g).0 in
    let parts = and_parts (nat_lt table to) (nat_lt to 16) next in
    (parts.1, parts.0)

instructions_served : (table : ℕ) (ss : List Instruction) → AllByRecursion Fits (flat_map instruction_rows ss) → AllByRecursion (λ s. first_of (instruction_refusals s) ≡ None) ss → AllByRecursion (λ s. first_of (goto_refusals table s) ≡ None) ss → (list_all is_served_body ss ≡ true) × (are_for table ss ≡ true)
instructions_served table [] k h g = (refl, refl)
instructions_served table (s ∷ ss) k h g =
    let one = instruction_served table s (all_front Fits (instruction_rows s) (flat_map instruction_rows ss) k) h.0 g.0 in
    let others = instructions_served table ss (all_back Fits (instruction_rows s) (flat_map instruction_rows ss) k) h.1 g.1 in
    (and_from _ _ one.0 others.0, and_from _ _ one.1 others.1)

-- ---- flows

match_is : (m : List MatchField) (rest : List Row) → AllByRecursion Fits (map rows.Match m) → IsSome (flow_standing 0 (map rows.Match m ++ rest)) → first_of (match_refusals m) ≡ None → IsMatch m
unfolding match_refusals
match_is m rest k o h =
    let parts = none_both (flat_map text_field_refusals m) _ h in
    record {
      each = fields_kept m k (none_each text_field_refusals m parts.0);
      rising = (fields_rise 0 m rest o).1;
      met = not-false (prerequisites_met m) (none_next _ [] parts.1).0;
    }

behind_fields : (m : List MatchField) (ss : List Instruction) → IsSome (flow_standing 0 (map rows.Match m ++ flat_map instruction_rows ss)) → is_ascending run_place ss ≡ true
behind_fields m ss o =
    let both = flow_both 0 (map rows.Match m) (flat_map instruction_rows ss) in
    let next = some_front (flow_standing 0 (map rows.Match m)) (λ q. flow_standing q (flat_map instruction_rows ss)) (subst IsSome both o) in
    (instructions_rise next.0 ss (rw next.1 at (subst IsSome both o))).1

flow_entry : (f : Flow) → IsWhole f → first_of (flow_refusals f) ≡ None → IsEntry f.head.table f
unfolding flow_refusals instructions_refusals
flow_entry f w h =
    let table = f.head.table in
    let instructions = flat_map instruction_rows f.instructions in
    let fits : AllByRecursion Fits (map rows.Match f.fields ++ instructions) = w.fits.1 in
    let check : List (Bool × Code) = (not (all_go_with f.fields f.instructions), refusal 2 10) ∷ [] in
    let behind : List (Bool × Code) = match_refusals f.fields ++ instructions_refusals table f.fields f.instructions in
    let flags : Bool × Code = (not (eqb (bit_and f.head.flags 25) f.head.flags), refusal 5 7) in
    let parts = none_both (match_refusals f.fields) (instructions_refusals table f.fields f.instructions) (none_next flags behind (none_next (nat_lt 15 table, refusal 5 2) (flags ∷ behind) h).1).1 in
    let gotos = none_both (flat_map (goto_refusals table) f.instructions) (flat_map instruction_refusals f.instructions ++ check) parts.1 in
    let lists = none_both (flat_map instruction_refusals f.instructions) check gotos.1 in
    let served = instructions_served table f.instructions (all_back Fits (map rows.Match f.fields) instructions fits) (none_each instruction_refusals f.instructions lists.0) (none_each (goto_refusals table) f.instructions gotos.0) in
    record {
      fields = match_is f.fields instructions (all_front Fits (map rows.Match f.fields) instructions fits) w.order parts.0;
      kept = and_from _ _ (behind_fields f.fields f.instructions w.order) served.0;
      leads_on = served.1;
      checked = not-false _ (none_next (not (all_go_with f.fields f.instructions), refusal 2 10) [] lists.1).0;
    }

table_entries : (gs : List TextGroup) (table : ℕ) (before fs : List Flow) → AllFor table fs → AllByRecursion IsWhole fs → Stand gs before fs → AllByRecursion (IsEntry table) fs
unfolding Stand
table_entries gs table before [] a w h = tt
table_entries gs table before (f ∷ fs) a w h =
    (subst (λ (t : ℕ). IsEntry t f) a.0 (flow_entry f w.0 (none_both (flow_refusals f) (table_refusals gs before f) h.0).0), table_entries gs table (before ++ f ∷ []) fs a.1 w.1 h.1)

pub config_entries : (c : Configuration) → IsConfig c → (table : ℕ) → table < 16 → AllByRecursion (IsEntry table) (slice_index_or c.tables table [])
config_entries c k table lt =
    let whole = kept_whole table k.flows (parts_of c.groups k.flows k.rows).whole in
    rw (k.filled, table_at k.flows table lt) (table_entries c.groups table [] (flows_for table k.flows) (all_for table k.flows) whole (in_table c.groups table [] k.flows (flows_stand c.groups k.flows k.stand)))

-- ---- beside the others of its table

fewer : (n : ℕ) → nat_le 4096 n ≡ false → n < 4096
fewer n h = grind (arith, nat_tests)

flow_stands : (gs : List TextGroup) (before : List Flow) (f : Flow) → first_of (flow_refusals f ++ table_refusals gs before f) ≡ None → StandsBehind gs before f
unfolding flow_refusals table_refusals
flow_stands gs before f h =
    let parts = none_both (flow_refusals f) (table_refusals gs before f) h in
    let behind : List (Bool × Code) = match_refusals f.fields ++ instructions_refusals f.head.table f.fields f.instructions in
    let flags : Bool × Code = (not (eqb (bit_and f.head.flags 25) f.head.flags), refusal 5 7) in
    let own = none_next flags behind (none_next (nat_lt 15 f.head.table, refusal 5 2) (flags ∷ behind) parts.0).1 in
    let beside = none_applies (table_refusals gs before f) parts.1 in
    record { flags = eqb-true _ _ (not-false _ own.0); groups_there = beside.0; unlike = beside.1.0; room = fewer (length before) beside.1.1.0 }

all_stand_behind : (gs : List TextGroup) (before fs : List Flow) → Stand gs before fs → AllStandBehind gs before fs
unfolding Stand
all_stand_behind gs before [] h = tt
all_stand_behind gs before (f ∷ fs) h = (flow_stands gs before f h.0, all_stand_behind gs (before ++ f ∷ []) fs h.1)

pub config_stands : (c : Configuration) → IsConfig c → (table : ℕ) → table < 16 → AllStandBehind c.groups [] (slice_index_or c.tables table [])
config_stands c k table lt = rw (k.filled, table_at k.flows table lt) (all_stand_behind c.groups [] (flows_for table k.flows) (in_table c.groups table [] k.flows (flows_stand c.groups k.flows k.stand)))

stand_few : (gs : List TextGroup) (before fs : List Flow) → length before ≤ 4096 → AllStandBehind gs before fs → length before + length fs ≤ 4096
stand_few gs before [] l h = omega (arith, l)
stand_few gs before (f ∷ fs) l h =
    let more = length-append before (f ∷ []) in
    let others = stand_few gs (before ++ f ∷ []) fs (omega (arith, more, h.0.room)) h.1 in
    omega (arith, more, others)

pub config_few : (c : Configuration) → IsConfig c → (table : ℕ) → table < 16 → length (slice_index_or c.tables table []) ≤ 4096
config_few c k table lt = let few = stand_few c.groups [] (slice_index_or c.tables table []) (omega arith) (config_stands c k table lt) in omega (arith, few)
