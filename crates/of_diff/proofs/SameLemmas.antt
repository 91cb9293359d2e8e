-- Switches that do the same from table 0 on treat each frame alike.
use Rattle.std.proofs.Common.{◌≡◌, ℕ, List, [], Option, Some, None, inr, refl, subst, arith}
use Rattle.std.specs.{Prelude.IfSome, List.Contains}
use Rattle.of_machine.specs.{TheWorld.TheWorld, Rows.entering, Runs.after, Sound.IsSound}
use Rattle.of_symbolic_run.specs.Received.{items_at}
use Rattle.of_alike.{specs.declared.alike.Compared.Compared, specs.Agreeing.AgreeFrom, specs.Alike.LeavesAlike, specs.SamePorts.SamePorts, proofs.AgreeingRuns.rests_agree}
use Rattle.of_datapath.specs.Datapath.{Forwarding, world_of}
use Rattle.of_diff.specs.{Changing.IsAgreement, Comparing.AreDifferences, Differences.IsTreatedAlike, SameSwitches.AgreeInAll, declared.agreement.Agreement.Agreement}
use Rattle.of_diff.{specs.declared.difference.Differences.Differences, proofs.CutLemmas.rests_alike}

module _ (c : Compared) (w v : TheWorld) (sound : IsSound w) (sound' : IsSound v) (agree : AgreeFrom 0 w v) where
  nothing_sent : LeavesAlike c [] []
  nothing_sent = record { sent = λ q. refl; told = λ e. refl }

  all_alike : (frame : List ℕ) (port : ℕ) → IsTreatedAlike c w v frame port
  unfolding after
  all_alike frame port =
      rests_alike c [] [] (items_at w frame port) (items_at v frame port) nothing_sent
      (rests_agree 0 w v sound sound' agree (entering frame port) refl 0 0 refl (record { set = tt; work = (omega arith, tt) }, tt))

  pub nothing_differs : (steps : ℕ) (ds : Differences) → SamePorts w.ports v.ports → ds.found.items ≡ [] → ds.undecided.items ≡ [] → AreDifferences c w v steps ds
  nothing_differs steps ds ports none no_sets = record {
    ports = ports;
    real = λ d at. absurd (nothing d (rw none at at));
    undecided = λ u at. absurd (nothing u (rw no_sets at at));
    all = λ frame port received. inr (inr (all_alike frame port));
  }
    where
      nothing : {X : Type 0} (x : X) → Contains {X = X} [] x → ⊥
      nothing x h = absurd (omega (arith, h.1))

pub agree_from_first : (f g : Forwarding) (a : Option Agreement) → IfSome a (IsAgreement f g) → AgreeInAll a → AgreeFrom 0 (world_of f) (world_of g)
agree_from_first f g None is all = absurd all
agree_from_first f g (Some a) is all = subst (λ (n : ℕ). AgreeFrom n (world_of f) (world_of g)) all is.agree
