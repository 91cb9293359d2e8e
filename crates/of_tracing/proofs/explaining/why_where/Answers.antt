use Rattle.std.{specs.Option.option_copied, proofs.Common.◌∙◌, proofs.Common.sym, proofs.Common.ap, proofs.Common.List}
use Rattle.of_headers.specs.FieldMap.{value}
use Rattle.of_oxm.specs.declared.match_field.MatchField.{MatchField}
use Rattle.of_table.specs.{Tables.table_at, Entries.entry_of}
use Rattle.of_tracing.proofs.{WhyLemmas.difference, WhyLemmas.has_difference, WhyLemmas.lent_entry, WhyLemmas.no_difference, ReasonLemmas.differs_is, ReasonLemmas.stands_is}
use Rattle.of_tracing.proofs.explaining.why_where.Goals as goal

pub returns-in-Some-clause-explains : goal.returns-in-Some-clause-explains
returns-in-Some-clause-explains g c =
    let map = value c.args.key.now in
    has_difference (table_at c.args.table c.args.switch.now.core.forwarding.tables).flows map c.args.place (entry_of c.in_ok-entry.entry.now) c.in-Some.field.now c.get.result
    (lent_entry c.args.table c.args.place c.datapath.ensures c.in_ok-entry.ensures)
    (sym (c.in-Some.ensures ∙ ap (λ (m : List MatchField). difference m map) c.fields.ensures))
    c.get.ensures

pub why_matching-requires-clause-there : goal.why_matching-requires-clause-there
why_matching-requires-clause-there g c = lent_entry c.args.table c.args.place c.datapath.ensures c.in_ok-entry.ensures

pub returns-in-None-clause-explains : goal.returns-in-None-clause-explains
returns-in-None-clause-explains g c =
    let map = value c.args.key.now in
    c.why_matching.ensures.explains map
    (no_difference c.in_ok-entry.entry.now.flow.fields map
    (sym (ap (λ (m : List MatchField). difference m map) c.fields.ensures) ∙ (sym c.first_difference.ensures ∙ ap (option_copied {T = MatchField}) c.in-None.is)))
    c.requires.winner

pub returns-in-Some-clause-is : goal.returns-in-Some-clause-is
returns-in-Some-clause-is g c =
    let map = value c.args.key.now in
    differs_is (table_at c.args.table c.args.switch.now.core.forwarding.tables).flows map c.args.place (entry_of c.in_ok-entry.entry.now) c.in-Some.field.now c.get.result
    (lent_entry c.args.table c.args.place c.datapath.ensures c.in_ok-entry.ensures)
    (sym (c.in-Some.ensures ∙ ap (λ (m : List MatchField). difference m map) c.fields.ensures))
    c.get.ensures

pub returns-in-None-clause-is : goal.returns-in-None-clause-is
returns-in-None-clause-is g c =
    let map = value c.args.key.now in
    stands_is (table_at c.args.table c.args.switch.now.core.forwarding.tables).flows map c.args.place (entry_of c.in_ok-entry.entry.now) c.why_matching.result
    (lent_entry c.args.table c.args.place c.datapath.ensures c.in_ok-entry.ensures)
    (sym (ap (λ (m : List MatchField). difference m map) c.fields.ensures) ∙ (sym c.first_difference.ensures ∙ ap (option_copied {T = MatchField}) c.in-None.is))
    (c.why_matching.ensures.is map
    (no_difference c.in_ok-entry.entry.now.flow.fields map
    (sym (ap (λ (m : List MatchField). difference m map) c.fields.ensures) ∙ (sym c.first_difference.ensures ∙ ap (option_copied {T = MatchField}) c.in-None.is)))
    c.requires.winner)
