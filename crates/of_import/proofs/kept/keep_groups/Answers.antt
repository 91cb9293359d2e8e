use Rattle.std.proofs.Common.{◌≡◌, ◌∙◌, refl, sym, ap, [], ℕ, length, arith}
use Rattle.std.specs.Prelude.{map}
use Rattle.of_text.specs.First.{first_refusal}
use Rattle.of_import.specs.{Kept.groups_in, Kept.kept_groups, KeptViews.view_kept_groups, KeptViews.view_refusal, ParsedLinesViews.view_group_line}
use Rattle.of_import.proofs.KeptLemmas.{all_kept, kept_stand, not_some}
use Rattle.of_import.proofs.kept.keep_groups.Goals as goal

pub returns-then-not-branch-clause-left : goal.returns-then-not-branch-clause-left
returns-then-not-branch-clause-left c = all_kept c.loop-left.left (length c.args.groups.now.items) (first_refusal (groups_in (map view_group_line c.loop-left.groups.items)) []) (view_kept_groups c.args.groups.now c.args.refused.now) (view_kept_groups c.loop-left.groups c.loop-left.refused) (view_kept_groups c.leave_first.new.groups c.leave_first.new.refused) refl (not_some (first_refusal (groups_in (map view_group_line c.loop-left.groups.items)) []) c.in_ok-leave_first.field-0 c.in_ok-leave_first.ensures.none c.if-not-branch.true) c.in_ok-leave_first.ensures.left c.loop-left.invariant.kept

pub returns-clause-none : goal.returns-clause-none
returns-clause-none c =
    let done : c.loop-left.left ≡ 0 = omega (arith, c.loop-left-test.false) in
    kept_stand c.args.groups.now.items (map view_refusal c.args.refused.now.items) (view_kept_groups c.loop-left.groups c.loop-left.refused) (sym (c.loop-left.invariant.kept ∙ ap (λ (n : ℕ). kept_groups n (view_kept_groups c.loop-left.groups c.loop-left.refused)) done))
