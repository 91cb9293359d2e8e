use Rattle.std.proofs.Common.{◌≡◌, ◌≢◌, ◌<◌, ℕ, true, false, subst, sym, ◌∙◌}
use Rattle.of_text.specs.Configs.{Configuration, IsConfig}
use Rattle.of_check.{specs.Tables.IsReached, specs.Tables.is_reached, proofs.ReachLemmas.reached_both}
use Rattle.of_check.proofs.ReachedLemmas.{actions_at, at_others, frames_at}
use Rattle.of_datapath.specs.Loading.{configuration_of}
use Rattle.of_check.proofs.laws.runs_stay_at_reached_tables.Goals as goal

-- another table than one that is not reached
other : (c : Configuration) (table : ℕ) → IsConfig c → table < 16 → is_reached c.tables table ≡ false → (t : ℕ) → IsReached c.tables t → t ≢ table
other c table k lt unreached t way same =
    let yes : is_reached c.tables table ≡ true = (reached_both c table k lt).1 (subst (λ (x : ℕ). IsReached c.tables x) same way) in
    let clash : true ≡ false = sym yes ∙ unreached in
    absurd cc

pub returns-clause-frames : goal.returns-clause-frames
returns-clause-frames c = frames_at

pub returns-clause-packet_outs : goal.returns-clause-packet_outs
returns-clause-packet_outs c = actions_at

pub returns-clause-unreachable : goal.returns-clause-unreachable
returns-clause-unreachable c = λ f p table k lt unreached. at_others (IsReached (configuration_of f).tables) (λ t. t ≢ table) (other (configuration_of f) table k lt unreached) _ (frames_at f p)

pub returns-clause-unreachable_by_packet_outs : goal.returns-clause-unreachable_by_packet_outs
returns-clause-unreachable_by_packet_outs c = λ f p actions table k lt unreached. at_others (IsReached (configuration_of f).tables) (λ t. t ≢ table) (other (configuration_of f) table k lt unreached) _ (actions_at f p actions)
