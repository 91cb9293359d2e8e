use Rattle.std.proofs.{Common.ℕ, Common.refl, lemmas.Result.IfOk-weaker}
use Rattle.of_datapath.specs.{Datapath.world_of, Numbers.forwarding_of}
use Rattle.of_machine.specs.TheWorld.{TheWorld}
use Rattle.of_diff.specs.{Shown.IsShown, Shown.TriedIs, SoFar.NextIs, declared.ending.Tried.TheVariants.Empty, declared.ending.Tried.TheVariants.Undecided}
use Rattle.of_diff.proofs.ReasonLemmas.{settled_reason}
use Rattle.of_alike.specs.declared.alike.Compared.{Compared}
use Rattle.of_diff.proofs.ending.try_pair.Goals as goal

pub returns-in-Shown : goal.returns-in-Shown
returns-in-Shown g c =
    let w = world_of (forwarding_of c.args.first.now) in
    let v = world_of (forwarding_of c.args.second.now) in
    let pair = c.args.pair in
    let shown : IsShown c.args.compared w v pair.frames c.in-Shown.shown = rw c.in-Shown.is at c.in_ok-shown.ensures in
    IfOk-weaker c.differs.result (λ next. (k : Compared) (x y : TheWorld) (n : ℕ) → IsShown k x y pair.frames c.in-Shown.shown → NextIs k x y n pair next) (NextIs c.args.compared w v c.args.steps pair)
    (λ next h. h c.args.compared w v c.args.steps shown) c.differs.ensures

pub returns-in-Empty : goal.returns-in-Empty
returns-in-Empty g c = λ holds frame port received within.
    let w = world_of (forwarding_of c.args.first.now) in
    let v = world_of (forwarding_of c.args.second.now) in
    let empty : TriedIs c.args.compared w v c.args.steps c.args.pair.frames Empty = rw c.in-Empty.is at c.in_ok-shown.ensures in
    absurd (empty frame port received.frame_is within)

pub returns : goal.returns
returns g c =
    let w = world_of (forwarding_of c.args.first.now) in
    let v = world_of (forwarding_of c.args.second.now) in
    let tried : TriedIs c.args.compared w v c.args.steps c.args.pair.frames (Undecided c.in-Undecided.why) = rw c.in-Undecided.is at c.in_ok-shown.ensures in
    c.not_decided.ensures c.args.compared w v c.args.steps c.args.pair refl (settled_reason c.args.compared w v c.args.steps c.args.pair c.requires.settled c.requires.differ c.in-Undecided.why tried)
