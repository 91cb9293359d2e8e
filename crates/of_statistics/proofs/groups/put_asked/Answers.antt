use Rattle.std.proofs.Common.{◌≡◌, ℕ, [], ◌∷◌, map, ap, sym, ◌∙◌}
use Rattle.std.specs.{Prelude.Option, Option.option_to_list}
use Rattle.of_table.specs.Tables.{tables_of}
use Rattle.of_statistics.{specs.Groups.asked_groups, specs.Groups.group_statistics_rows, specs.Groups.row_among, proofs.Cutting.row_put, proofs.Cutting.none_put}
use Rattle.of_statistics.proofs.groups.put_asked.Goals as goal

pub returns-in-Some-group : goal.returns-in-Some-group
returns-in-Some-group g c =
    let groups = c.args.groups.now in
    let ts = tables_of c.args.tables.now in
    let asked : asked_groups c.args.which groups ≡ c.in-Some-group.group.now ∷ [] = ap (λ (w : Option ℕ). asked_groups w groups) c.in-Some.is ∙ ap option_to_list (sym c.in-Some-group.ensures) in
    row_put c.put_group.result c.args.out.now c.put_group.new.out (row_among groups ts c.in-Some-group.group.now) (group_statistics_rows c.args.which groups ts) (ap (map (row_among groups ts)) asked) c.put_group.ensures

pub returns-in-None : goal.returns-in-None
returns-in-None g c =
    let groups = c.args.groups.now in
    let ts = tables_of c.args.tables.now in
    let asked : asked_groups c.args.which groups ≡ [] = ap (λ (w : Option ℕ). asked_groups w groups) c.in-Some.is ∙ ap option_to_list (sym c.in-None.ensures) in
    none_put c.args.out.now (group_statistics_rows c.args.which groups ts) (ap (map (row_among groups ts)) asked)
