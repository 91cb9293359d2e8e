-- The tables seen by places.
use Rattle.std.proofs.Common.{Bor, ◌≡◌, ◌≢◌, ℕ, zero, suc, ◌+◌, ◌<◌, ◌≤◌, true, false, eqb, List, [], ◌∷◌, refl, length, Option, Some, None, sym, ap, ◌∙◌, arith, inl, inr}
use Rattle.std.{specs.Prelude.slice_get, specs.Prelude.map, specs.Option.option_map, specs.Option.option_copied, proofs.lemmas.List.length-map, proofs.lemmas.Option.slice_get-map}
use Rattle.std.proofs.lemmas.Bool.{cases_lt}
use Rattle.of_table.specs.Entries.{Numbered, no_entries, entry_of, flows_of, rows_of, place_of}
use Rattle.of_table.specs.{declared.entry.Entry.Entry, declared.flow.Flow.Flow, Table.FlowEntry, Table.Table, Table.winner_place, Table.flow_at}
use Rattle.of_table.{specs.Tables.NumberedTables, specs.Tables.tables_of, specs.Tables.table_at, specs.Sound.Key, specs.Sound.entry_key, specs.Sound.row_key, proofs.TablesLemmas.get_or_past}
use Rattle.of_table.proofs.WinnerLemmas.{winner_within}
use Rattle.of_layers.specs.declared.field.Field.{Field}
use Rattle.of_actions.specs.{InstructionLists.are_kept, InstructionLists.are_for, Rising.is_ascending}
use Rattle.of_groups.{specs.declared.group.Group.Group, specs.Sound.AreSound as AreSoundGroups, proofs.ChainLaws.chain_at_most, proofs.WorldLemmas.groups_serve}
use Rattle.of_ports.specs.{declared.port.Port.Port, Ports.is_live_at, Ports.number_of_port}
use Rattle.of_machine.specs.Sound.{IsSound}
use Rattle.of_datapath.proofs.Worlds.{AreFit, table_is, flow_some, flow_none, flow_fit, both}
use Rattle.of_datapath.specs.{Datapath.world_of, Datapath.winner_in, Datapath.flow_in, Buffers.none_held, Numbers.without_numbers, Numbers.entries_at}
use Rattle.of_datapath.proofs.GroupWorlds.{are_buckets}

module _ (n : NumberedTables) (groups : List Group) (ports : List Port) where
  -- the winner and the flow of a place, by the entries
  pub winner_is : (t : ℕ) (fields : Field → Option ℕ) → winner_in (without_numbers n groups ports none_held) t fields ≡ winner_place fields (flows_of (entries_at n t))
  winner_is t fields = ap (λ (x : Table). winner_place fields x.flows) (table_is n t)

  pub flow_is : (t place : ℕ) → flow_in (without_numbers n groups ports none_held) t place ≡ flow_at place (flows_of (entries_at n t))
  flow_is t place = ap (λ (x : Table). flow_at place x.flows) (table_is n t)

  there : (t : ℕ) (fields : Field → Option ℕ) (place : ℕ) → winner_in (without_numbers n groups ports none_held) t fields ≡ Some place → flow_in (without_numbers n groups ports none_held) t place ≢ None
  there t fields place h none =
      let es = entries_at n t in
      let within = winner_within fields es place (sym (winner_is t fields) ∙ h) in
      flow_some place (flows_of es) (omega (arith, within, length-map es entry_of)) (sym (flow_is t place) ∙ none)

  fit_here : AreFit n → (t place : ℕ) (f : Flow) → flow_in (without_numbers n groups ports none_held) t place ≡ Some f → (are_kept f.instructions ≡ true) × (are_for t f.instructions ≡ true)
  fit_here fit t place f e = both (are_kept f.instructions) (are_for t f.instructions) (flow_fit t place (table_at t (tables_of n)).flows f (fit t).fit e)

  -- the invariants of the world by places
  pub sound_by_places : AreFit n → AreSoundGroups groups → is_ascending number_of_port ports ≡ true → IsSound (world_of (without_numbers n groups ports none_held))
  sound_by_places fit sound rising = record {
    rising = rising;
    found = λ t fields place h. there t fields place h;
    kept = λ t place f e. (fit_here fit t place f e).0;
    onward = λ t place f e. (fit_here fit t place f e).1;
    short = λ g. chain_at_most groups g sound.short;
    chained = λ g places e. (groups_serve groups (is_live_at ports) g places sound e).chained;
    few = λ g places e. (groups_serve groups (is_live_at ports) g places sound e).few;
    buckets = λ g places e. are_buckets (world_of (without_numbers n groups ports none_held)) groups (λ g. refl) (λ g place. refl) g places (groups_serve groups (is_live_at ports) g places sound e).buckets;
  }

  -- a flow that exists is in one of the sixteen tables
  pub is_table_by_place : (t place : ℕ) → length n.tables ≡ 16 → flow_in (without_numbers n groups ports none_held) t place ≢ None → t < 16
  is_table_by_place t place sixteen h = elim (cases_lt t 16) [
    | inl lt ↦ lt
    | inr le ↦ absurd (h (flow_is t place ∙ past (ap (λ (x : Numbered). x.entries) (get_or_past n.tables t no_entries (omega (arith, le, sixteen))))))
  ]
    where
      past : entries_at n t ≡ [] → flow_at place (flows_of (entries_at n t)) ≡ None
      past e = ap (λ (es : List Entry). flow_at place (flows_of es)) e ∙ flow_none place [] (omega arith)

  -- beyond them no entry wins
  pub no_winner_by_place : (t : ℕ) (fields : Field → Option ℕ) → length n.tables ≤ t → winner_in (without_numbers n groups ports none_held) t fields ≡ None
  no_winner_by_place t fields le =
      winner_is t fields ∙ (ap (λ (x : Numbered). winner_place fields (flows_of x.entries)) (get_or_past n.tables t no_entries le))

-- the flow of the entry at a place
pub flow_of_entry : (es : List Entry) (place : ℕ) (found : Option Entry) → found ≡ slice_get es place → flow_at place (flows_of es) ≡ option_map (λ e. e.flow) found
flow_of_entry es place None e = ap (option_map (λ (x : FlowEntry). x.flow)) (slice_get-map entry_of es place ∙ ap (option_map entry_of) (sym e))
flow_of_entry es place (Some x) e = ap (option_map (λ (x : FlowEntry). x.flow)) (slice_get-map entry_of es place ∙ ap (option_map entry_of) (sym e))

by_places : (n : NumberedTables) (t place : ℕ) (found : Option Entry) → found ≡ slice_get (entries_at n t) place → option_map entry_of found ≡ slice_get (table_at t (tables_of n)).flows place
by_places n t place found e = ap (option_map entry_of) e ∙ (sym (slice_get-map entry_of (entries_at n t) place) ∙ sym (ap (λ (x : Table). slice_get x.flows place) (table_is n t)))

-- the entry at a place, without its number
pub entry_without : (n : NumberedTables) (t place : ℕ) (found : Option (Bor Entry)) → option_copied found ≡ slice_get (entries_at n t) place → option_map (λ e. entry_of e.now) found ≡ slice_get (table_at t (tables_of n)).flows place
entry_without n t place None e = by_places n t place None e
entry_without n t place (Some x) e = by_places n t place (Some x.now) e

none_there : (n : ℕ) → slice_get {X = Entry} [] n ≡ None
none_there zero = refl
none_there (suc n) = refl

-- one more entry that has another number
pub one_more : (number : ℕ) (xs ys : List Entry) (x : Entry) → xs ≡ x ∷ ys → eqb x.number number ≡ false → place_of number xs ≡ 1 + place_of number ys
one_more number xs ys x e other = rw (e, other) refl

-- a table has 4,096 entries at most
pub few_entries : (n : NumberedTables) (t : ℕ) → AreFit n → length (entries_at n t) ≤ 4096
few_entries n t fit =
    let few = (fit t).few in
    let same : length (table_at t (tables_of n)).flows ≡ length (entries_at n t) = ap (λ (x : Table). length x.flows) (table_is n t) ∙ length-map (entries_at n t) entry_of in
    omega (arith, few, same)

-- the rows of a classifier without their numbers
pub rows_without : (entries : List Entry) → map row_key (rows_of entries) ≡ map entry_key (flows_of entries)
rows_without [] = refl
rows_without (e ∷ es) = ap (λ (ks : List Key). entry_key (entry_of e) ∷ ks) (rows_without es)
