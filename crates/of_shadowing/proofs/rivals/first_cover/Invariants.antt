use Rattle.std.{specs.Prelude.slice_get, specs.List.All, proofs.Common.◌≡◌, proofs.Common.false, proofs.Common.take}
use Rattle.of_regions.specs.declared.rival.Rival.{Rival}
use Rattle.of_shadowing.specs.Shadows.{is_covering_flow}
use Rattle.of_shadowing.proofs.rivals.first_cover.Given as goal

abbrev pub invariant-loop-rival : goal.invariant-loop-rival
invariant-loop-rival l = All (λ (r : Rival). is_covering_flow (slice_get l.flows r.name) l.own.fields ≡ false) (take l.rival-index l.rivals)
