-- What the machine sees of the tables, by its numbers and by places.
use Rattle.std.proofs.Common.{◌≡◌, ◌≢◌, ℕ, zero, suc, ◌<◌, ◌≤◌, Bool, true, false, ◌&&◌, eqb, ltb, List, [], ◌∷◌, length, Option, Some, None, refl, sym, ap, ◌∙◌, arith, inl, inr}
use Rattle.std.{specs.Prelude.IsTrue, specs.Prelude.IfSome, specs.Option.option_map, specs.List.list_all, proofs.lemmas.List.length-map, proofs.lemmas.Bool.ltb-false, proofs.lemmas.Bool.cases_lt}
use Rattle.std.proofs.Math.ListN.{get_or-map}
use Rattle.of_table.specs.Entries.{Numbered, no_entries, entry_of, flows_of, entry_numbers, entry_number, place_of, is_entry_there, table_of}
use Rattle.of_table.specs.{declared.entry.Entry.Entry, Table.FlowEntry, Table.Table, Table.winner_place, Table.flow_at, Tables.NumberedTables, Tables.numbered_at, Tables.tables_of, Tables.table_at}
use Rattle.of_table.{specs.declared.flow.Flow.Flow, specs.Sound.AreSoundEntries, specs.Sound.are_instructions_fit, specs.Sound.is_entry_fit, proofs.TablesLemmas.get_or_past}
use Rattle.of_table.proofs.{PlaceLemmas.any-place, WinnerLemmas.winner_within}
use Rattle.of_layers.specs.declared.field.Field.{Field}
use Rattle.of_wire.{specs.Numbered.is_distinct, proofs.NumberedLemmas.distinct-map}
use Rattle.of_groups.{specs.declared.group.Group.Group, specs.Sound.AreSound as AreSoundGroups, proofs.ChainLaws.chain_at_most, proofs.WorldLemmas.groups_serve}
use Rattle.of_ports.specs.{declared.port.Port.Port, Ports.is_live_at, Ports.number_of_port}
use Rattle.of_actions.specs.{InstructionLists.are_kept, InstructionLists.are_for, Rising.is_ascending}
use Rattle.of_machine.specs.{Sound.IsSound, Renumbering.IsRenumbered}
use Rattle.of_datapath.specs.Numbers.{without_numbers, entries_at, entry_number_at, numbered_flow, numbered_world, place_in}
use Rattle.of_datapath.{specs.Datapath.world_of, specs.Buffers.none_held, proofs.GroupWorlds.are_buckets}
use Rattle.of_datapath.proofs.PlaceNumbers.{itself, number_at_place, place_of_number}

-- the number that a lookup returned is that of the winner's place
pub answer_is : (es : List Entry) (w r : Option ℕ) → w ≡ option_map (λ n. place_of n es) r → IfSome r (λ n. IsTrue (is_entry_there n es)) → r ≡ option_map (entry_number_at es) w
answer_is es w None e there = rw e refl
answer_is es w (Some n) e there = rw e (ap Some (sym (number_at_place n (entry_numbers es) there)))

-- where there is a winner there is an entry
place_within : (fields : Field → Option ℕ) (es : List Entry) (k : ℕ) → winner_place fields (flows_of es) ≡ Some k → k < length (entry_numbers es)
place_within fields es k h =
    let within = winner_within fields es k h in
    omega (arith, within, length-map es entry_number)

distinct_numbers : (es : List Entry) → is_distinct entry_number es ≡ true → is_distinct itself (entry_numbers es) ≡ true
distinct_numbers es h = distinct-map entry_number itself es ∙ h

same_place : (es : List Entry) (fields : Field → Option ℕ) (o : Option ℕ) → is_distinct entry_number es ≡ true → winner_place fields (flows_of es) ≡ o → o ≡ option_map (λ n. place_of n es) (option_map (entry_number_at es) o)
same_place es fields None distinct e = refl
same_place es fields (Some k) distinct e = ap Some (sym (place_of_number (entry_numbers es) k (distinct_numbers es distinct) (place_within fields es k e)))

-- the tables have distinct numbers, each
abbrev pub AreDistinct : NumberedTables → Type 0
AreDistinct n = (t : ℕ) → is_distinct entry_number (entries_at n t) ≡ true

-- a table without the numbers
pub table_is : (n : NumberedTables) (t : ℕ) → table_at t (tables_of n) ≡ table_of (numbered_at t n)
table_is n t = get_or-map table_of n.tables t no_entries

-- the two worlds are one but for the numbers
pub renumbered_world : (n : NumberedTables) (groups : List Group) (ports : List Port) → AreDistinct n → IsRenumbered (place_in n) (numbered_world n groups ports) (world_of (without_numbers n groups ports none_held))
renumbered_world n groups ports distinct = record {
  ports = refl;
  winner = λ t fields. ap (λ (x : Table). winner_place fields x.flows) (table_is n t) ∙ same_place (entries_at n t) fields (winner_place fields (flows_of (entries_at n t))) (distinct t) refl;
  flow = λ t number fields h. ap (λ (x : Table). flow_at (place_in n t number) x.flows) (table_is n t);
  chosen = λ g. refl;
  bucket = λ g place. refl;
  chain = λ g. refl;
}

-- an entry that exists has a flow
pub flow_some : (k : ℕ) (flows : List FlowEntry) → k < length flows → flow_at k flows ≡ None → ⊥
flow_some k [] lt e = absurd (omega (arith, lt))
flow_some zero (f ∷ flows) lt e = absurd cc
flow_some (suc k) (f ∷ flows) lt e = flow_some k flows (omega (arith, lt)) e

pub flow_none : (k : ℕ) (flows : List FlowEntry) → length flows ≤ k → flow_at k flows ≡ None
flow_none k [] le = slice_none k
  where
    slice_none : (k : ℕ) → flow_at k [] ≡ None
    slice_none zero = refl
    slice_none (suc k) = refl
flow_none zero (f ∷ flows) le = absurd (omega (arith, le))
flow_none (suc k) (f ∷ flows) le = flow_none k flows (omega (arith, le))

sound_by : (es : List Entry) (fields : Field → Option ℕ) (n : ℕ) (w : Option ℕ) → is_distinct entry_number es ≡ true → winner_place fields (flows_of es) ≡ w
    → option_map (entry_number_at es) w ≡ Some n → flow_at (place_of n es) (flows_of es) ≡ None → ⊥
sound_by es fields n None distinct e h none = absurd cc
sound_by es fields n (Some k) distinct e h none =
    let same : entry_number_at es k ≡ n = cc in
    let lt = place_within fields es k e in
    let at : place_of n es ≡ k = ap (λ (x : ℕ). place_of x es) (sym same) ∙ place_of_number (entry_numbers es) k (distinct_numbers es distinct) lt in
    flow_some k (flows_of es) (omega (arith, lt, length-map es entry_of, length-map es entry_number)) (ap (λ (x : ℕ). flow_at x (flows_of es)) (sym at) ∙ none)

-- a flow at a place has what each has
pub flow_fit : (k place : ℕ) (flows : List FlowEntry) (f : Flow) → list_all (is_entry_fit k) flows ≡ true → flow_at place flows ≡ Some f → are_instructions_fit k f.instructions ≡ true
flow_fit k place [] f h e = absurd (no_flow place e)
  where
    no_flow : (k : ℕ) → flow_at k [] ≡ Some f → ⊥
    no_flow zero e = absurd cc
    no_flow (suc k) e = absurd cc
flow_fit k zero (x ∷ flows) f h e =
    let same : x.flow ≡ f = cc in
    rw (← same) (grind arith)
flow_fit k (suc place) (x ∷ flows) f h e = flow_fit k place flows f (grind arith) e

pub both : (a b : Bool) → (a && b) ≡ true → (a ≡ true) × (b ≡ true)
both true b h = (refl, h)
both false b h = absurd cc

-- the instructions of an entry are valid in its table
abbrev pub AreFit : NumberedTables → Type 0
AreFit n = (t : ℕ) → AreSoundEntries t (table_at t (tables_of n)).flows

fit_here : (n : NumberedTables) (t number : ℕ) (f : Flow) → AreFit n → numbered_flow n t number ≡ Some f → (are_kept f.instructions ≡ true) × (are_for t f.instructions ≡ true)
fit_here n t number f fit e =
    let flows : list_all (is_entry_fit t) (flows_of (entries_at n t)) ≡ true = rw (table_is n t) at (fit t).fit in
    both (are_kept f.instructions) (are_for t f.instructions) (flow_fit t (place_of number (entries_at n t)) (flows_of (entries_at n t)) f flows e)

-- the invariants of a world: each winner is the number of an entry, its instructions are valid there, and so are the groups
pub sound_world : (n : NumberedTables) (groups : List Group) (ports : List Port) → AreDistinct n → AreFit n → AreSoundGroups groups → is_ascending number_of_port ports ≡ true → IsSound (numbered_world n groups ports)
sound_world n groups ports distinct fit sound rising = record {
  rising = rising;
  kept = λ t number f e. (fit_here n t number f fit e).0;
  onward = λ t number f e. (fit_here n t number f fit e).1;
  short = λ g. chain_at_most groups g sound.short;
  chained = λ g places e. (groups_serve groups (is_live_at ports) g places sound e).chained;
  few = λ g places e. (groups_serve groups (is_live_at ports) g places sound e).few;
  buckets = λ g places e. are_buckets (numbered_world n groups ports) groups (λ g. refl) (λ g place. refl) g places (groups_serve groups (is_live_at ports) g places sound e).buckets;
  found = λ t fields number h none. sound_by (entries_at n t) fields number (winner_place fields (flows_of (entries_at n t))) (distinct t) refl h none;
}

there_by : (es : List Entry) (n : ℕ) (there : Bool) → is_entry_there n es ≡ there → (flow_at (place_of n es) (flows_of es) ≡ None → ⊥) → is_entry_there n es ≡ true
there_by es n true e some = e
there_by es n false e some =
    let far : ltb (place_of n es) (length (entry_numbers es)) ≡ false = sym (any-place (λ m. eqb m n) (entry_numbers es)) ∙ e in
    absurd (some (flow_none (place_of n es) (flows_of es) (omega (arith, ltb-false _ _ far, length-map es entry_of, length-map es entry_number))))

-- a flow that exists has the number of an entry
pub is_there_by : (n : NumberedTables) (t number : ℕ) → numbered_flow n t number ≢ None → IsTrue (is_entry_there number (entries_at n t))
is_there_by n t number h = there_by (entries_at n t) number (is_entry_there number (entries_at n t)) refl h

-- and its table is one of the sixteen
pub is_table : (n : NumberedTables) (t number : ℕ) → length n.tables ≡ 16 → numbered_flow n t number ≢ None → t < 16
is_table n t number sixteen h = elim (cases_lt t 16) [
  | inl lt ↦ lt
  | inr le ↦ absurd (h (past (ap (λ (x : Numbered). x.entries) (get_or_past n.tables t no_entries (omega (arith, le, sixteen))))))
]
  where
    past : entries_at n t ≡ [] → numbered_flow n t number ≡ None
    past e = ap (λ (es : List Entry). flow_at (place_of number es) (flows_of es)) e ∙ flow_none (place_of number []) [] (omega arith)
