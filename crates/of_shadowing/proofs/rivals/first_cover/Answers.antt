use Rattle.std.proofs.Common.{◌≡◌, ◌∙◌, [], false, sym, subst, take_all}
use Rattle.std.{specs.Prelude.slice_get, specs.Prelude.slice_index_or, specs.List.All, specs.List.Contains, proofs.lemmas.List.Elements.All-more}
use Rattle.of_regions.specs.declared.rival.Rival.{Rival}
use Rattle.of_check.proofs.OverlapLemmas.{any_default}
use Rattle.of_shadowing.{specs.Shadows.is_covering_flow, proofs.CoverLemmas.none_covers, proofs.CoverLemmas.rival_covers}
use Rattle.of_shadowing.proofs.rivals.first_cover.Goals as goal

pub returns-then-covers_own-clause-found : goal.returns-then-covers_own-clause-found
returns-then-covers_own-clause-found c =
    let none : Rival = record { name = 0; fields = record { ref_ptr = (0, 0); now = [] } } in
    let k = c.loop-rival.rival-index in
    let q : Rival = slice_index_or c.args.rivals.now k none in
    let there : Contains c.args.rivals.now q = (k, c.loop-rival-test.true, any_default c.args.rivals.now k q none c.loop-rival-test.true) in
    let r = c.requires.are.each q there in
    rival_covers c.args.flows.now c.args.place c.args.own.now c.requires.there q.name r.0 r.2 (sym c.covers_own.ensures ∙ c.if-covers_own.true)

pub loop-rival-preserved : goal.loop-rival-preserved
loop-rival-preserved c =
    All-more (λ (r : Rival). is_covering_flow (slice_get c.args.flows.now r.name) c.args.own.now.fields ≡ false) c.args.rivals.now c.loop-rival.rival-index _ c.loop-rival-test.true c.loop-rival.invariant (sym c.covers_own.ensures ∙ c.if-covers_own.false)

pub returns-clause-none : goal.returns-clause-none
returns-clause-none c =
    none_covers c.args.flows.now c.args.place c.args.own.now c.requires.there c.args.rivals.now c.requires.is_match c.requires.are
    (subst (All (λ (r : Rival). is_covering_flow (slice_get c.args.flows.now r.name) c.args.own.now.fields ≡ false)) (take_all c.loop-rival.rival-index c.args.rivals.now c.loop-rival-test.false) c.loop-rival.invariant)
