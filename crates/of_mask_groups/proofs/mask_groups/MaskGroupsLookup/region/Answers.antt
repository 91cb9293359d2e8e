use Rattle.std.proofs.Common.{◌≡◌, ◌+◌, List, take, sym, ◌∙◌, ap, subst}
use Rattle.of_layers.specs.declared.field.Field.{Field}
use Rattle.of_headers.specs.FieldMap.{value}
use Rattle.of_oxm.specs.Masks.{mask_at}
use Rattle.of_classifier.specs.{declared.Row.Row, Winner.winner_of, Winner.winner_number}
use Rattle.of_mask_groups.{specs.declared.group.Group.Group, specs.Grouping.AreGrouped, specs.Probed.groups_look, proofs.Members.in_take, proofs.Winning.answer_winner, proofs.Looking.answer_region}
use Rattle.of_mask_groups.proofs.mask_groups.MaskGroupsLookup.region.Goals as goal

pub returns-clause-answer : goal.returns-clause-answer
returns-clause-answer c =
    let s = c.self.inside.entries in
    let gs = c.deref.result.now in
    let found = c.probe_groups-best in
    let a : AreGrouped s gs = subst (λ (xs : List Group). AreGrouped s xs) (sym c.deref.ensures.value) c.self.invariant.1 in
    c.number_of.ensures
    ∙ answer_winner s gs (take found.result.1 gs) (value c.args.key.now) found.result.0 found.result.1 (c.self.inside.last + 1) a c.self.invariant.0 found.ensures.probed found.ensures.done
    ∙ ap (λ (rs : List Row). winner_number (winner_of rs (value c.args.key.now))) c.self.view_is

pub returns-clause-alike : goal.returns-clause-alike
returns-clause-alike c =
    let s = c.self.inside.entries in
    let gs = c.deref.result.now in
    let found = c.probe_groups-best in
    let a : AreGrouped s gs = subst (λ (xs : List Group). AreGrouped s xs) (sym c.deref.ensures.value) c.self.invariant.1 in
    let looks : (f : Field) → mask_at c.mask_of_groups.result f ≡ groups_look (take found.result.1 gs) f = rw (c.deref-2.ensures.value, ← c.deref.ensures.value) at c.mask_of_groups.ensures in
    (answer_region s gs (take found.result.1 gs) (value c.args.key.now) found.result.0 found.result.1 (c.self.inside.last + 1) (mask_at c.mask_of_groups.result) c.args.self.now c.self.view_is a c.self.invariant.0 (λ g m. in_take g gs found.result.1 m) found.ensures.probed found.ensures.done looks).alike

pub returns-clause-mask : goal.returns-clause-mask
returns-clause-mask c =
    let s = c.self.inside.entries in
    let gs = c.deref.result.now in
    let found = c.probe_groups-best in
    let a : AreGrouped s gs = subst (λ (xs : List Group). AreGrouped s xs) (sym c.deref.ensures.value) c.self.invariant.1 in
    let looks : (f : Field) → mask_at c.mask_of_groups.result f ≡ groups_look (take found.result.1 gs) f = rw (c.deref-2.ensures.value, ← c.deref.ensures.value) at c.mask_of_groups.ensures in
    (answer_region s gs (take found.result.1 gs) (value c.args.key.now) found.result.0 found.result.1 (c.self.inside.last + 1) (mask_at c.mask_of_groups.result) c.args.self.now c.self.view_is a c.self.invariant.0 (λ g m. in_take g gs found.result.1 m) found.ensures.probed found.ensures.done looks).looks
