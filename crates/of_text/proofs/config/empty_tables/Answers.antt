use Rattle.std.proofs.Common.{◌≡◌, ℕ, ◌∙◌, [], ap, arith, vec_len}
use Rattle.std.specs.Prelude.{replicate}
use Rattle.of_text.specs.Configs.{tables_of_flows}
use Rattle.of_text.proofs.config.empty_tables.Goals as goal

pub returns : goal.returns
unfolding tables_of_flows
returns c =
    let full : vec_len c.loop-alloc.tables ≡ 16 = omega (arith, c.loop-alloc.invariant.most, c.loop-alloc-test.false, c.len.ensures) in
    c.loop-alloc.invariant.empty ∙ ap (λ (n : ℕ). replicate n []) full
