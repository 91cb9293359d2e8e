use Rattle.std.proofs.Common.{◌≡◌, ℕ, List, ◌∙◌, length, sym, ap, arith}
use Rattle.std.{specs.Prelude.map, proofs.lemmas.List.length-map}
use Rattle.of_groups.specs.{declared.group.Group.Group, Chains.chain}
use Rattle.of_text.{specs.Views.view_group, specs.Views.view_groups, proofs.JudgeLemmas.length_there, proofs.JudgeLemmas.length_codes, proofs.JudgeLemmas.judged_next}
use Rattle.of_text.proofs.group_refusals.refused_among.Goals as goal

pub index-requires : goal.index-requires
index-requires c = omega (arith, ap length c.in_ok-judged.ensures.there, length_there 0 (view_groups c.args.groups.now), length-map c.args.groups.now view_group, c.in_ok-judged.judged.there.ok)

lengths_as : (there : List Group) (lengths : List ℕ) → lengths ≡ map (λ (g : Group). chain there g.id) there → length lengths ≡ length there
lengths_as there lengths h = ap length h ∙ length-map there (λ (g : Group). chain there g.id)

pub index-requires-in-loop-place : goal.index-requires-in-loop-place
index-requires-in-loop-place c =
    let many = lengths_as c.in_ok-judged.judged.there.items c.in_ok-lengths.lengths.items (rw c.deref.ensures.value at c.in_ok-lengths.ensures) in
    omega (arith, many, ap length c.in_ok-judged.ensures.there, length_there 0 (view_groups c.args.groups.now), length-map c.args.groups.now view_group, c.in_ok-lengths.lengths.ok)

pub index-requires-in-loop-place-2 : goal.index-requires-in-loop-place-2
index-requires-in-loop-place-2 c = omega (arith, ap length c.in_ok-judged.ensures.codes, length_codes 0 (view_groups c.args.groups.now), length-map c.args.groups.now view_group, c.in_ok-judged.judged.codes.ok)

pub returns-in-Some : goal.returns-in-Some
returns-in-Some c =
    let next = judged_next (view_groups c.args.groups.now) c.in_ok-judged.judged.there.items c.in_ok-judged.judged.codes.items c.in_ok-lengths.lengths.items c.loop-place.place c.index.result.now c.index-in-loop-place-2.result.now c.index-in-loop-place.result.now c.naming_refusal-named.result c.first.result
    (omega (arith, length-map c.args.groups.now view_group, c.loop-place-test.true)) c.in_ok-judged.ensures.there c.in_ok-judged.ensures.codes (rw c.deref.ensures.value at c.in_ok-lengths.ensures)
    c.index.ensures c.index-in-loop-place-2.ensures c.index-in-loop-place.ensures (rw c.deref-in-loop-place.ensures.value at c.naming_refusal-named.ensures) c.first.ensures in
    sym (c.loop-place.invariant ∙ next.stops c.in-Some.code c.in-Some.is)

pub loop-place-preserved : goal.loop-place-preserved
loop-place-preserved c =
    let next = judged_next (view_groups c.args.groups.now) c.in_ok-judged.judged.there.items c.in_ok-judged.judged.codes.items c.in_ok-lengths.lengths.items c.loop-place.place c.index.result.now c.index-in-loop-place-2.result.now c.index-in-loop-place.result.now c.naming_refusal-named.result c.first.result
    (omega (arith, length-map c.args.groups.now view_group, c.loop-place-test.true)) c.in_ok-judged.ensures.there c.in_ok-judged.ensures.codes (rw c.deref.ensures.value at c.in_ok-lengths.ensures)
    c.index.ensures c.index-in-loop-place-2.ensures c.index-in-loop-place.ensures (rw c.deref-in-loop-place.ensures.value at c.naming_refusal-named.ensures) c.first.ensures in
    c.loop-place.invariant ∙ next.goes_on c.in_default.is
