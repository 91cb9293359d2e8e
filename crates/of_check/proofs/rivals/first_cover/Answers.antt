use Rattle.std.proofs.Common.{◌≡◌, ◌∙◌, [], false, sym, subst, take_all}
use Rattle.std.{specs.Prelude.slice_get, specs.Prelude.slice_index_or, specs.List.All, specs.List.Contains, proofs.lemmas.List.Elements.All-more}
use Rattle.of_table.specs.{Entries.entry_of, Tables.table_at}
use Rattle.of_regions.specs.declared.rival.Rival.{Rival}
use Rattle.of_check.{specs.Verdicts.is_covering, proofs.OverlapLemmas.any_default, proofs.OverlapLemmas.none_covers, proofs.OverlapLemmas.rival_covers}
use Rattle.of_check.proofs.rivals.first_cover.Goals as goal

pub returns-then-covers_from-clause-found : goal.returns-then-covers_from-clause-found
returns-then-covers_from-clause-found g c =
    let flows = (table_at c.args.table c.args.switch.now.core.forwarding.tables).flows in
    let none : Rival = record { name = 0; fields = record { ref_ptr = (0, 0); now = [] } } in
    let k = c.loop-rival.rival-index in
    let q : Rival = slice_index_or c.args.rivals.now k none in
    let there : Contains c.args.rivals.now q = (k, c.loop-rival-test.true, any_default c.args.rivals.now k q none c.loop-rival-test.true) in
    rival_covers flows c.args.place (entry_of c.args.own.now) c.requires.there q.name (c.requires.are.each q there).0 (sym c.covers_from.ensures ∙ c.if-covers_from.true)

pub loop-rival-preserved : goal.loop-rival-preserved
loop-rival-preserved g c =
    let flows = (table_at c.args.table c.args.switch.now.core.forwarding.tables).flows in
    All-more (λ (r : Rival). is_covering (slice_get flows r.name) c.args.own.now.flow.fields ≡ false) c.args.rivals.now c.loop-rival.rival-index _ c.loop-rival-test.true c.loop-rival.invariant (sym c.covers_from.ensures ∙ c.if-covers_from.false)

pub returns-clause-none : goal.returns-clause-none
returns-clause-none g c =
    let flows = (table_at c.args.table c.args.switch.now.core.forwarding.tables).flows in
    none_covers flows c.args.place (entry_of c.args.own.now) c.requires.there c.args.rivals.now c.requires.is_match c.requires.are
    (subst (All (λ (r : Rival). is_covering (slice_get flows r.name) c.args.own.now.flow.fields ≡ false)) (take_all c.loop-rival.rival-index c.args.rivals.now c.loop-rival-test.false) c.loop-rival.invariant)
