use Rattle.std.proofs.Common.{◌<◌, ◌∙◌, List, [], Option, length, ap, sym, arith}
use Rattle.std.specs.Prelude.{slice_index_or}
use Rattle.of_wire.specs.{declared.code.Code.Code, Refusals.first_of}
use Rattle.of_text.specs.{Flows.Flow, Refusals.flow_refusals, Refusals.table_refusals, Refusals.or_else, Configs.view_tables, Views.view, Views.view_flows, Views.view_groups}
use Rattle.of_text.proofs.{RefusalLemmas.first_append, FillLemmas.lent_table}
use Rattle.of_text.proofs.assembling.refusal_behind.Goals as goal

pub returns-in-Some-clause-refusal : goal.returns-in-Some-clause-refusal
returns-in-Some-clause-refusal c =
    let own = flow_refusals (view c.args.flow.now) in
    let beside = table_refusals (view_groups c.args.groups.now) (slice_index_or (view_tables c.args.tables.now) c.args.flow.now.head.table []) (view c.args.flow.now) in
    sym (first_append own beside ∙ ap (λ (x : Option Code). or_else x (first_of beside)) (sym c.flow_refusal.ensures.refusal ∙ c.in-Some.is))

pub returns-clause-refusal : goal.returns-clause-refusal
returns-clause-refusal c =
    let own = flow_refusals (view c.args.flow.now) in
    let beside = table_refusals (view_groups c.args.groups.now) (slice_index_or (view_tables c.args.tables.now) c.args.flow.now.head.table []) (view c.args.flow.now) in
    let lt : c.args.flow.now.head.table < length c.args.tables.now = omega (arith, c.in_default.ensures.table, c.requires.sixteen) in
    c.table_refusal.ensures
    ∙ (ap (λ (t : List Flow). first_of (table_refusals (view_groups c.args.groups.now) t (view c.args.flow.now))) (ap view_flows c.deref.ensures.value ∙ lent_table c.args.tables.now c.args.flow.now.head.table c.index-tables-from.result _ lt (rw c.from.ensures at c.index-tables-from.is))
    ∙ sym (first_append own beside ∙ ap (λ (x : Option Code). or_else x (first_of beside)) (sym c.flow_refusal.ensures.refusal ∙ c.in_default.is)))
