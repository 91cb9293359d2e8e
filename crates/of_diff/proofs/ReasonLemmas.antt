-- Why frames are undecided.
use Rattle.std.proofs.Common.{ℕ, [], ◌≡◌, ◌≢◌, inl, inr}
use Rattle.of_machine.specs.TheWorld.{TheWorld}
use Rattle.of_alike.specs.{declared.alike.Compared.Compared, Agreeing.AgreeFrom, Agreeing.GoOnAlike}
use Rattle.of_diff.specs.declared.difference.Why.{Why}
use Rattle.of_diff.specs.declared.difference.Why.TheVariants.{OtherActions, Search}
use Rattle.of_diff.specs.{declared.pair.Pair.Pair, Reasons.AreSettled, Reasons.IsReasonOfPair, Reasons.IsTriedReason}

pub settled_reason : (c : Compared) (w v : TheWorld) (steps : ℕ) (p : Pair) → AreSettled w v p → p.first.emitted.items ≢ p.second.emitted.items → (why : Why) → IsTriedReason c w v steps p.frames why → (taken : ℕ) → IsReasonOfPair c w v steps taken p why
settled_reason c w v steps p settled differ Search tried taken = (settled, tried)
settled_reason c w v steps p settled differ OtherActions tried taken = (settled, tried, differ)
settled_reason c w v steps p settled differ other tried taken = absurd tried

pub both_done : (w v : TheWorld) (p : Pair) → p.first.tasks.items ≡ [] → p.second.tasks.items ≡ [] → AreSettled w v p
both_done w v p first second = inl (first, second)

pub both_go_on : (w v : TheWorld) (n : ℕ) (p : Pair) → AgreeFrom n w v → GoOnAlike n p.first p.second → AreSettled w v p
both_go_on w v n p agree alike = inr (n, agree, alike)
