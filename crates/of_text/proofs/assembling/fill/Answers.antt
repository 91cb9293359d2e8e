use Rattle.std.proofs.Common.{◌≡◌, ◌∙◌, ◌<◌, ℕ, eqb, true, false, cond, List, [], length, ap, sym, subst, arith}
use Rattle.std.{specs.HashSet.contains, specs.Prelude.slice_index_or, specs.List.list_any, proofs.lemmas.List.length-map}
use Rattle.of_text.proofs.FillLemmas.{none_before, filling_start, filling_sixteen, filling_more, filling_stops, filling_done, none_left}
use Rattle.of_text.specs.{Flows.Flow, Refusals.has_same_match, Digests.ShowsRepeats, Configs.view_table, Configs.view_tables, Configs.with_flow_in_table}
use Rattle.of_text.{specs.Views.view, specs.Views.view_flows, specs.Views.view_group, specs.Views.view_groups, proofs.DigestLemmas.shows_none, proofs.DigestLemmas.shows_more}
use Rattle.of_text.proofs.assembling.fill.Goals as goal

pub refusal_behind-requires-clause-sixteen : goal.refusal_behind-requires-clause-sixteen
refusal_behind-requires-clause-sixteen c = ap length c.deref.ensures.value ∙ filling_sixteen _ _ _ _ c.loop-flow.invariant.filling

pub returns-in-Some-refusal_behind-clause-failed : goal.returns-in-Some-refusal_behind-clause-failed
returns-in-Some-refusal_behind-clause-failed c =
    filling_stops (view_groups c.args.groups.now) (view_flows c.args.flows.items) c.loop-flow.left.items c.pop.new.self.items c.loop-flow.tables.items c.in-Some.flow c.in-Some-refusal_behind.code _ c.loop-flow.invariant.filling c.in-Some.ensures.items
    (sym (rw c.deref.ensures.value at c.refusal_behind.ensures.refusal) ∙ c.in-Some-refusal_behind.is)
    (omega (arith, c.len-count.ensures, c.len.ensures, length-map c.args.flows.items view, length-map c.args.groups.now view_group))

pub put_flow-requires : goal.put_flow-requires
put_flow-requires c = omega (arith, c.in_default-refusal_behind.ensures.table, filling_sixteen _ _ _ _ c.loop-flow.invariant.filling)

pub refusal_behind-requires-clause-repeats : goal.refusal_behind-requires-clause-repeats
refusal_behind-requires-clause-repeats c new =
    subst (λ ts. list_any (has_same_match (view c.in-Some.flow)) (slice_index_or (view_tables ts) c.in-Some.flow.head.table []) ≡ false) (sym c.deref.ensures.value)
    (c.loop-flow.invariant.repeats (view c.in-Some.flow) (ap (λ (n : ℕ). contains eqb c.loop-flow.digests n) (sym c.digest-digest.ensures) ∙ (sym c.contains-may_repeat.ensures ∙ new)))

pub loop-flow-init : goal.loop-flow-init
loop-flow-init c = record {
  filling = filling_start (view_groups c.args.groups.now) c.args.flows.items c.reverse.new.self.items c.in_ok-tables.tables.items c.in_ok-tables.ensures c.reverse.ensures.items;
  repeats = shows_none c.new-digests.result (view_tables c.in_ok-tables.tables.items) (λ (t : ℕ). ap (λ (ts : List (List Flow)). slice_index_or ts t []) c.in_ok-tables.ensures ∙ none_before t);
}

pub loop-flow-preserved : goal.loop-flow-preserved
loop-flow-preserved c = record {
  filling =
      filling_more (view_groups c.args.groups.now) (view_flows c.args.flows.items) c.loop-flow.left.items c.pop.new.self.items c.loop-flow.tables.items c.put_flow.new.tables.items c.in-Some.flow c.loop-flow.invariant.filling c.in-Some.ensures.items
      (sym (rw c.deref.ensures.value at c.refusal_behind.ensures.refusal) ∙ c.in_default-refusal_behind.is)
      c.in_default-refusal_behind.ensures.table
      c.in_ok-put_flow.ensures;
  repeats =
      let small : c.in-Some.flow.head.table < length c.loop-flow.tables.items = omega (arith, c.in_default-refusal_behind.ensures.table, filling_sixteen _ _ _ _ c.loop-flow.invariant.filling) in
      let more : ShowsRepeats c.insert.new.self (with_flow_in_table (view c.in-Some.flow) (view_tables c.loop-flow.tables.items)) =
      shows_more c.loop-flow.digests c.insert.new.self (view c.in-Some.flow) (view_tables c.loop-flow.tables.items) c.loop-flow.invariant.repeats
      (omega (arith, small, length-map c.loop-flow.tables.items view_table))
      (subst (λ (n : ℕ). (q : ℕ) → contains eqb c.insert.new.self q ≡ cond (eqb n q) true (contains eqb c.loop-flow.digests q)) c.digest-digest.ensures c.in_ok-insert.ensures.updates.0) in
      subst (λ (ts : List (List Flow)). ShowsRepeats c.insert.new.self ts) (sym c.in_ok-put_flow.ensures) more;
}

pub returns-clause-filled : goal.returns-clause-filled
returns-clause-filled c = (filling_done (view_groups c.args.groups.now) (view_flows c.args.flows.items) c.loop-flow.left.items c.loop-flow.tables.items c.loop-flow.invariant.filling (none_left c.loop-flow.left (λ p. let some = c.in_default.ensures.variant.1 p in absurd cc))).0
