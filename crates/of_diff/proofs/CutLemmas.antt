-- Runs that go on alike.
use Rattle.std.proofs.Common.{ℕ, List, ◌++◌, refl, sym, ap, subst, ◌∙◌, map}
use Rattle.of_machine.specs.{declared.data.Item.Item, TheWorld.TheWorld, Rows.entering, Sound.IsSound}
use Rattle.of_symbolic_run.specs.{Received.IsReceivedAt, Received.items_at, FrameSets.InFrames, States.task_for}
use Rattle.of_alike.specs.{declared.alike.Compared.Compared, Agreeing.AgreeFrom, Agreeing.AllFrom, Agreeing.GoOnAlike, Alike.LeavesAlike, Alike.sent_by, Alike.to_controller, Emitting.LeaveAlike}
use Rattle.of_alike.{specs.SamePorts.SamePorts, proofs.AgreeingRuns.RestsAgree, proofs.AgreeingRuns.rests_agree, proofs.AlikeLemmas.sent_front, proofs.AlikeLemmas.told_front}
use Rattle.of_alike.proofs.EmissionLemmas.{receives_at}
use Rattle.of_diff.{specs.declared.pair.Pair.Pair, specs.Differences.IsTreatedAlike, specs.Pairs.AreStatesOfRuns, proofs.PairLemmas.same_tasks}

alike_before : (c : Compared) (a b x : List Item) → LeavesAlike c a b → LeavesAlike c (a ++ x) (b ++ x)
alike_before c a b x h = record {
  sent = λ q. sent_front q a x ∙ (ap (λ xs. xs ++ sent_by q x) (h.sent q) ∙ sym (sent_front q b x));
  told = λ e. told_front a x ∙ (ap (λ xs. xs ++ to_controller x) (h.told e) ∙ sym (told_front b x));
}

-- what was sent is alike, and so is what is still sent
pub rests_alike : (c : Compared) (a b a' b' : List Item) → LeavesAlike c a b → RestsAgree a b a' b' → LeavesAlike c a' b'
rests_alike c a b a' b' h r = rw (r.first, r.second) (alike_before c a b r.more h)

module _ (c : Compared) (w v : TheWorld) (n : ℕ) (sound : IsSound w) (sound' : IsSound v) (ports : SamePorts w.ports v.ports) (agree : AgreeFrom n w v) where
  pub go_on_treated_alike : (pair : Pair) → GoOnAlike n pair.first pair.second → LeaveAlike c w.ports pair.frames pair.first.emitted.items pair.second.emitted.items →
      AreStatesOfRuns w v pair → (frame : List ℕ) (port : ℕ) → IsReceivedAt w frame port → InFrames pair.frames frame port → IsTreatedAlike c w v frame port
  go_on_treated_alike pair go sent states frame port received within =
      let at = states.at frame port received.frame_is within in
      let same = same_tasks frame port pair.first.tasks.items pair.second.tasks.items go.same in
      let from : AllFrom n (map (task_for frame port) pair.first.tasks.items) = go.from frame port in
      let r = rests_agree n w v sound sound' agree (entering frame port) refl at.0.steps at.1.steps (at.0.tasks ∙ (sym same ∙ sym at.1.tasks)) (subst (AllFrom n) (sym at.0.tasks) from) in
      rests_alike c _ _ (items_at w frame port) (items_at v frame port) (rw (at.0.items, at.1.items) (sent v.ports ports frame port (receives_at w frame port received) within)) r
