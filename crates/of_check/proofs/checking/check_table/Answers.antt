use Rattle.std.proofs.Common.{◌≡◌, ◌+◌, suc, ◌++◌, ◌∷◌, [], ap, length, arith, rules, refl}
use Rattle.std.proofs.lemmas.Grind.{common_steps}
use Rattle.of_table.specs.Tables.{table_at}
use Rattle.of_check.{specs.Findings.entries_below, proofs.FindingLemmas.one_more, proofs.FindingLemmas.table_done, proofs.OutlineLemmas.as_many}
use Rattle.of_check.proofs.checking.check_table.Goals as goal

pub loop-place-preserved : goal.loop-place-preserved
loop-place-preserved g c =
    let ts = c.args.switch.now.core.forwarding.tables in
    let items : c.push.new.self.items ≡ c.loop-place.findings.items ++ record { table = c.args.table; place = c.loop-place.place; verdict = c.in_ok-verdict.verdict } ∷ [] = search rules in
    let next : c.loop-place.place + 1 ≡ suc c.loop-place.place = omega arith in
    λ h. rw items (one_more (entries_below c.args.table ts) c.args.table c.loop-place.place (c.loop-place.place + 1) ts c.args.steps c.loop-place.findings.items _ refl refl next (c.loop-place.invariant h) c.in_ok-verdict.ensures)

pub returns : goal.returns
returns g c =
    let ts = c.args.switch.now.core.forwarding.tables in
    let outlines = ap length c.in_ok-outlines.ensures in
    let entries = as_many (table_at c.args.table ts).flows in
    let all : c.loop-place.place ≡ length (table_at c.args.table ts).flows = grind (arith, common_steps) in
    λ h. table_done c.args.table c.loop-place.place ts c.args.steps c.loop-place.findings.items all (c.loop-place.invariant h)
