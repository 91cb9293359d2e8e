use Rattle.std.proofs.Common.{Some, None, sym, ◌∙◌, ap}
use Rattle.of_wire.specs.Refusals.{first_of}
use Rattle.of_text.proofs.JudgeLemmas.{told_code, kept_code, refused_counts, kept_counts, may_be_made}
use Rattle.of_text.specs.{Judging.kept_refusals, Views.view_group}
use Rattle.of_text.proofs.group_refusals.judge.Goals as goal

pub returns-in-Some-clause-code : goal.returns-in-Some-clause-code
returns-in-Some-clause-code c = told_code c.args.place (view_group c.args.group.now) c.in-Some.code (sym c.in-Some.is ∙ c.told_refusal.ensures)

pub returns-in-Some-clause-there : goal.returns-in-Some-clause-there
returns-in-Some-clause-there c =
    c.bare.ensures ∙ refused_counts c.args.place (view_group c.args.group.now) c.in-Some.code (told_code c.args.place (view_group c.args.group.now) c.in-Some.code (sym c.in-Some.is ∙ c.told_refusal.ensures))

pub to_group-requires : goal.to_group-requires
to_group-requires c = may_be_made (view_group c.args.group.now) c.requires (sym c.in_default.is ∙ c.told_refusal.ensures)

pub returns-in-Some-kept_refusal-clause-code : goal.returns-in-Some-kept_refusal-clause-code
returns-in-Some-kept_refusal-clause-code c =
    kept_code c.args.place (view_group c.args.group.now) (Some c.in-Some-kept_refusal.code) (sym c.in_default.is ∙ c.told_refusal.ensures)
    (sym c.in-Some-kept_refusal.is ∙ (c.kept_refusal.ensures ∙ ap (λ g. first_of (kept_refusals c.args.place g)) c.in_ok-made.ensures))

pub returns-in-Some-kept_refusal-clause-there : goal.returns-in-Some-kept_refusal-clause-there
returns-in-Some-kept_refusal-clause-there c =
    c.bare-in-Some-kept_refusal.ensures
    ∙ refused_counts c.args.place (view_group c.args.group.now) c.in-Some-kept_refusal.code
    (kept_code c.args.place (view_group c.args.group.now) (Some c.in-Some-kept_refusal.code) (sym c.in_default.is ∙ c.told_refusal.ensures)
    (sym c.in-Some-kept_refusal.is ∙ (c.kept_refusal.ensures ∙ ap (λ g. first_of (kept_refusals c.args.place g)) c.in_ok-made.ensures)))

pub returns-clause-code : goal.returns-clause-code
returns-clause-code c =
    kept_code c.args.place (view_group c.args.group.now) None (sym c.in_default.is ∙ c.told_refusal.ensures)
    (sym c.in_default-kept_refusal.is ∙ (c.kept_refusal.ensures ∙ ap (λ g. first_of (kept_refusals c.args.place g)) c.in_ok-made.ensures))

pub returns-clause-there : goal.returns-clause-there
returns-clause-there c =
    c.in_ok-made.ensures
    ∙ kept_counts c.args.place (view_group c.args.group.now)
    (kept_code c.args.place (view_group c.args.group.now) None (sym c.in_default.is ∙ c.told_refusal.ensures)
    (sym c.in_default-kept_refusal.is ∙ (c.kept_refusal.ensures ∙ ap (λ g. first_of (kept_refusals c.args.place g)) c.in_ok-made.ensures)))
