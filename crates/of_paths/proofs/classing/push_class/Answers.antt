use Rattle.std.proofs.Common.{◌∙◌, List, [], ◌∷◌, ◌++◌, refl, ap}
use Rattle.of_datapath.specs.{Datapath.world_of, Numbers.forwarding_of}
use Rattle.of_symbolic_run.proofs.ReceivedLemmas.{is_received}
use Rattle.of_paths.{specs.declared.path.Path.Path, proofs.FoundLemmas.puts_class}
use Rattle.of_paths.proofs.classing.push_class.Goals as goal

pub returns : goal.returns
returns g c steps =
    let w = (world_of (forwarding_of c.args.datapath.now)) in
    puts_class w steps c.args.path c.args.found.now _ _ c.in_ok-push-2.ensures.items refl (c.in_ok-push.ensures.items ∙ ap (λ (l : List Path). l ++ c.args.path ∷ []) c.new-paths.ensures.items)
    (is_received w c.args.frame.items c.args.in_port c.requires.frame_is c.requires.short c.requires.receives) c.requires.within (rw c.deref.ensures.value at c.in_ok-items.ensures.items) c.ranges.in_port.fits
