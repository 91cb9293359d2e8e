use Rattle.std.proofs.Common.{◌≡◌, ◌∙◌, ◌≤◌, ℕ, ap, length}
use Rattle.std.{specs.Prelude.map, proofs.lemmas.List.take_all}
use Rattle.of_groups.{specs.declared.group.Group.Group, specs.Rounds.marks_of, proofs.MarkLemmas.length_at, proofs.MarkLemmas.length_is_chain}
use Rattle.of_groups.proofs.listed.chain_lengths.Goals as goal

pub returns : goal.returns
returns c =
    let groups = c.args.groups.now in
    let over : length groups ≤ c.loop-group.group-index = c.loop-group-test.false in
    let none : c.in_ok-there.there.items ≡ marks_of groups 0 = c.in_ok-there.ensures in
    let one : c.in_ok-one.one.items ≡ marks_of groups 1 = c.in_ok-one.ensures 0 (c.deref.ensures.value ∙ none) in
    let two : c.in_ok-two.two.items ≡ marks_of groups 2 = c.in_ok-two.ensures 1 (c.deref-2.ensures.value ∙ one) in
    let three : c.in_ok-three.three.items ≡ marks_of groups 3 = c.in_ok-three.ensures 2 (c.deref-3.ensures.value ∙ two) in
    let lengths : ℕ → ℕ = length_at groups c.in_ok-there.there.items c.in_ok-one.one.items c.in_ok-two.two.items c.in_ok-three.three.items in
    c.loop-group.invariant
    ∙ (ap (map (λ (g : Group). lengths g.id)) (take_all c.loop-group.group-index groups over)
    ∙ ap (λ (f : ℕ → ℕ). map (λ (g : Group). f g.id) groups) (length_is_chain groups _ _ _ _ none one two three))
