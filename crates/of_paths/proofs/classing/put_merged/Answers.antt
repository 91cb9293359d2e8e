use Rattle.std.proofs.Common.{refl}
use Rattle.of_datapath.specs.{Datapath.world_of, Numbers.forwarding_of}
use Rattle.of_symbolic_run.proofs.GroupedLemmas.{if_ok}
use Rattle.of_paths.{specs.declared.path.Merging.TheVariants.SameWay, proofs.FoundLemmas.puts_joined, proofs.WayLemmas.is_at_place, proofs.WayLemmas.is_inside}
use Rattle.of_paths.proofs.classing.put_merged.Goals as goal

pub returns-in_ok-push-in-Some : goal.returns-in_ok-push-in-Some
returns-in_ok-push-in-Some g c =
    let classes = c.args.found.now.classes.items in
    let x = c.index_mut.result.now in
    let way = rw (c.deref.ensures.value, c.deref-2.ensures.value) at c.in-Some.ensures.some in
    let lt = is_inside classes c.in-Some.place _ way in
    puts_joined (world_of (forwarding_of c.args.datapath.now)) c.args.steps c.args.path c.args.found.now _ c.in-Some.place x _ c.index_mut.ensures.value lt c.in_ok-push-in-Some.ensures.items refl refl refl refl refl (is_at_place classes c.in-Some.place x _ c.index_mut.ensures.value lt way)

pub returns-in-None : goal.returns-in-None
returns-in-None g c =
    let other = rw (c.deref.ensures.value, c.deref-2.ensures.value) at c.in-None.ensures.none in
    if_ok c.put_alone.result _ _ (λ puts. puts SameWay other) c.put_alone.ensures
