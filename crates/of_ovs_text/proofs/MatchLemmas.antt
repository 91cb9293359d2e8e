-- A flow that is not refused without its instructions has a match.
use Rattle.std.proofs.Common.{◌≡◌, ℕ, ◌<◌, ◌≤◌, eqb, Bool, true, List, [], ◌∷◌, ◌++◌, None, refl, sym, ◌∙◌, ap, subst, arith}
use Rattle.std.specs.Prelude.{map, not, nat_lt, bit_and, slice_index_or, IsSome}
use Rattle.std.{specs.List.AllByRecursion, specs.List.flat_map, proofs.lemmas.Bool.ltb-false, proofs.lemmas.Bool.Decides.nat_tests}
use Rattle.of_wire.specs.{declared.code.Code.Code, Refusals.refusal}
use Rattle.of_oxm.specs.NormalForm.{IsMatch}
use Rattle.of_lines.specs.declared.row.Row.TheVariants as rows
use Rattle.of_text.specs.{Rows.Fits, Order.flow_standing, Order.start_place, Flows.Flow, Flows.instruction_rows}
use Rattle.of_text.specs.{Refusals.flow_refusals, Refusals.instructions_refusals, Refusals.match_refusals, Refusals.table_refusals, First.flows_for, Kept.IsEntry}
use Rattle.of_text.specs.Configs.{Configuration, IsConfig, tables_of_flows}
use Rattle.of_text.proofs.{TextLemmas.all_front, TextLemmas.all_both, TextLemmas.flow_both, TextLemmas.some_front, ConfigLemmas.IsWhole, ConfigLemmas.rows_from, ConfigLemmas.both_stand}
use Rattle.of_text.proofs.{EntryLemmas.none_both, EntryLemmas.none_next, EntryLemmas.config_entries, FillLemmas.table_at}
use Rattle.of_ovs_lines.specs.Sound.{IsSoundFlow}
use Rattle.of_ovs_text.specs.MessageFlows.{lone_refusal, without_instructions}

-- in order without its instructions
bare_whole : (f : Flow) → IsSoundFlow f → IsWhole (without_instructions f)
bare_whole f s =
    let fields = map rows.Match f.fields in
    let instructions = flat_map instruction_rows f.instructions in
    let next = some_front (flow_standing 0 fields) (λ q. flow_standing q instructions) (subst IsSome (flow_both 0 fields instructions) s.order) in
    record {
      fits = (s.fits.0, all_both Fits fields [] (all_front Fits fields instructions s.fits.1) tt);
      order = rw (flow_both 0 fields [], next.1) refl;
    }

-- the only flow of a configuration without groups
alone : (f : Flow) → IsWhole f → lone_refusal f ≡ None → IsConfig (record { groups = []; tables = tables_of_flows (f ∷ []) })
alone f w h = record {
  flows = f ∷ [];
  rows = rows_from [] (f ∷ []) (record { fits = tt; place = start_place; order = refl; whole = (w, tt) });
  stand = both_stand [] (f ∷ []) refl (rw h refl);
  filled = refl;
}

small_table : (f : Flow) → lone_refusal f ≡ None → f.head.table < 16
unfolding flow_refusals
small_table f h =
    let flags : Bool × Code = (not (eqb (bit_and f.head.flags 25) f.head.flags), refusal 5 7) in
    let behind : List (Bool × Code) = match_refusals f.fields ++ instructions_refusals f.head.table f.fields f.instructions in
    let least : f.head.table ≤ 15 = ltb-false 15 f.head.table (none_next (nat_lt 15 f.head.table, refusal 5 2) (flags ∷ behind) (none_both (flow_refusals f) (table_refusals [] [] f) h).0).0 in
    omega (arith, least)

alone_for : (f : Flow) → flows_for f.head.table (f ∷ []) ≡ f ∷ []
alone_for f = rw (same f.head.table) refl
  where
    same : (n : ℕ) → eqb n n ≡ true
    same n = grind (arith, nat_tests)

bare_match : (f : Flow) → IsSoundFlow f → lone_refusal (without_instructions f) ≡ None → IsMatch f.fields
bare_match f s h =
    let b = without_instructions f in
    let c : Configuration = record { groups = []; tables = tables_of_flows (b ∷ []) } in
    let small = small_table b h in
    let entries : AllByRecursion (IsEntry b.head.table) (slice_index_or (tables_of_flows (b ∷ [])) b.head.table []) = config_entries c (alone b (bare_whole f s) h) b.head.table small in
    let one : AllByRecursion (IsEntry b.head.table) (b ∷ []) = subst (AllByRecursion (IsEntry b.head.table)) (table_at (b ∷ []) b.head.table small ∙ alone_for b) entries in
    one.0.fields

-- a flow that is another one without its instructions
pub match_of_bare : (b f : Flow) → b ≡ without_instructions f → IsSoundFlow f → lone_refusal b ≡ None → IsMatch b.fields
match_of_bare b f e s h = subst IsMatch (sym (ap (λ (x : Flow). x.fields) e)) (bare_match f s (ap lone_refusal (sym e) ∙ h))
