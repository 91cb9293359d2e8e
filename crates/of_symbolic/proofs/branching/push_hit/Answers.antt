use Rattle.std.proofs.Common.{◌≡◌, Option, Some, sym, subst}
use Rattle.std.{specs.Prelude.slice_get, specs.Prelude.IfSome, specs.Global.Vec, proofs.lemmas.Result.on_ok_weaker}
use Rattle.of_oxm.specs.declared.match_field.MatchField.{MatchField}
use Rattle.of_regions.specs.Conditions.{AreConditions}
use Rattle.of_symbolic.proofs.{BranchLemmas.hit_added, BranchLemmas.never_added, PartLemmas.at_index}
use Rattle.of_symbolic.proofs.branching.push_hit.Goals as goal

pub push_branch-requires-clause-own : goal.push_branch-requires-clause-own
push_branch-requires-clause-own c =
    let entries = c.args.entries.now in
    let p = c.index-entries-place.result in
    let kept : IfSome p.fields (λ (m : Vec MatchField). AreConditions m.items) = c.requires.each c.args.place p (at_index entries c.args.place p c.index-entries-place.is c.requires.place) in
    rw c.deref.ensures.value (subst (λ (o : Option (Vec MatchField)). IfSome o (λ (m : Vec MatchField). AreConditions m.items)) c.in-Some.is kept)

pub returns-in-None : goal.returns-in-None
returns-in-None c =
    let entries = c.args.entries.now in
    let p = c.index-entries-place.result in
    never_added c.args.part.now entries c.args.place p c.args.out.now.items (at_index entries c.args.place p c.index-entries-place.is c.requires.place) c.in-None.is

pub returns-in-Some : goal.returns-in-Some
returns-in-Some c =
    let entries = c.args.entries.now in
    let p = c.index-entries-place.result in
    let there : slice_get entries c.args.place ≡ Some p = at_index entries c.args.place p c.index-entries-place.is c.requires.place in
    on_ok_weaker c.push_branch.result (hit_added c.args.part.now entries c.args.place p c.in-Some.fields c.args.out.now.items c.push_branch.new.out.items there c.in-Some.is)
    (rw (sym c.deref.ensures.value) c.push_branch.ensures)
