use Rattle.std.proofs.Common.{◌+◌, List, take, sym, ◌∙◌, ap, subst}
use Rattle.of_headers.specs.FieldMap.{value}
use Rattle.of_classifier.specs.{declared.Row.Row, Winner.winner_of, Winner.winner_number}
use Rattle.of_mask_groups.{specs.declared.group.Group.Group, specs.Grouping.AreGrouped, specs.Probing.probes_of, proofs.Members.in_take, proofs.Falling.falling-take}
use Rattle.of_mask_groups.proofs.Winning.{answer_winner, answer_probes}
use Rattle.of_mask_groups.proofs.mask_groups.MaskGroups.find.Goals as goal

pub returns-clause-winner : goal.returns-clause-winner
returns-clause-winner c =
    let s = c.self.inside.entries in
    let gs = c.deref.result.now in
    let found = c.probe_groups-best in
    let a : AreGrouped s gs = subst (λ (xs : List Group). AreGrouped s xs) (sym c.deref.ensures.value) c.self.invariant.1 in
    c.number_of.ensures
    ∙ answer_winner s gs (take found.result.1 gs) (value c.args.key.now) found.result.0 found.result.1 (c.self.inside.last + 1) a c.self.invariant.0 found.ensures.probed found.ensures.done
    ∙ ap (λ (rs : List Row). winner_number (winner_of rs (value c.args.key.now))) c.self.view_is

pub returns-clause-probes : goal.returns-clause-probes
returns-clause-probes c =
    let s = c.self.inside.entries in
    let gs = c.deref.result.now in
    let found = c.probe_groups-best in
    let a : AreGrouped s gs = subst (λ (xs : List Group). AreGrouped s xs) (sym c.deref.ensures.value) c.self.invariant.1 in
    answer_probes s gs (take found.result.1 gs) (value c.args.key.now) found.result.0 found.result.1 (c.self.inside.last + 1) a c.self.invariant.0 (falling-take gs found.result.1 a.falling) (λ g m. in_take g gs found.result.1 m) found.ensures.probed found.ensures.done
    ∙ ap (λ (rs : List Row). probes_of rs (value c.args.key.now)) c.self.view_is
