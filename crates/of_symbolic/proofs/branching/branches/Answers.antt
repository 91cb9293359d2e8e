use Rattle.std.proofs.Common.{◌≡◌, ◌≤◌, ℕ, List, length, Option, None, Some, sym, subst, arith}
use Rattle.std.specs.{Prelude.IfSome, Global.Vec}
use Rattle.of_symbolic.specs.{declared.overlay.Overlay.Overlay, declared.pulled_entry.PulledEntry.PulledEntry, Branches.flows_listed, Branching.AddsHit, Branching.ArePulledEntries}
use Rattle.of_symbolic.proofs.{BranchLemmas.branches_done, BranchLemmas.branches_more, HitLemmas.branches_are, NearLemmas.near_branches, NearLemmas.near_kept, PulledLemmas.pulled_kept}
use Rattle.of_table.specs.Table.{FlowEntry}
use Rattle.of_symbolic.proofs.branching.branches.Goals as goal

-- what was pulled
own : (o : Overlay) (metadata : ℕ) (flows : List FlowEntry) (found : Option (Vec PulledEntry)) (pulled : Vec PulledEntry) → found ≡ Some pulled → IfSome found (λ (v : Vec PulledEntry). ArePulledEntries o metadata flows v.items) → ArePulledEntries o metadata flows pulled.items
own o metadata flows found pulled is h = subst (λ (x : Option (Vec PulledEntry)). IfSome x (λ (v : Vec PulledEntry). ArePulledEntries o metadata flows v.items)) is h

pub push_hit-requires-clause-each : goal.push_hit-requires-clause-each
push_hit-requires-clause-each c =
    let flows = flows_listed c.args.entries.now in
    let part = c.args.part.now in
    let are = own c.args.overlay.now c.args.metadata flows c.in_ok-pulled.field-0 c.in-Some.pulled c.in-Some.is c.in_ok-pulled.ensures.some in
    rw c.deref.ensures.value (near_kept part c.in-Some.pulled.items c.in_ok-pulled-2.pulled.items c.in_ok-pulled-2.ensures (pulled_kept c.args.overlay.now c.args.metadata flows c.in-Some.pulled.items are))

pub loop-place-preserved : goal.loop-place-preserved
loop-place-preserved c =
    branches_more c.args.part.now c.in_ok-pulled-2.pulled.items c.loop-place.place c.loop-place.out.items c.push_hit.new.out.items c.loop-place.invariant (rw (sym c.deref.ensures.value) c.in_ok-push_hit.ensures)

pub push_miss-requires-clause-each : goal.push_miss-requires-clause-each
push_miss-requires-clause-each c =
    let flows = flows_listed c.args.entries.now in
    let part = c.args.part.now in
    let are = own c.args.overlay.now c.args.metadata flows c.in_ok-pulled.field-0 c.in-Some.pulled c.in-Some.is c.in_ok-pulled.ensures.some in
    rw c.deref-2.ensures.value (near_kept part c.in-Some.pulled.items c.in_ok-pulled-2.pulled.items c.in_ok-pulled-2.ensures (pulled_kept c.args.overlay.now c.args.metadata flows c.in-Some.pulled.items are))

pub returns-clause-some : goal.returns-clause-some
returns-clause-some c =
    let flows = flows_listed c.args.entries.now in
    let part = c.args.part.now in
    let pulled = c.in-Some.pulled in
    let near = c.in_ok-pulled-2.pulled in
    let are = own c.args.overlay.now c.args.metadata flows c.in_ok-pulled.field-0 pulled c.in-Some.is c.in_ok-pulled.ensures.some in
    let most : length near.items ≤ c.loop-place.place = omega (arith, c.loop-place-test.false, c.len-place-end.ensures, near.ok.0) in
    let adds : AddsHit part near.items None c.loop-place.out.items c.push_miss.new.out.items = rw (sym c.deref-2.ensures.value) c.in_ok-push_miss.ensures in
    branches_are c.args.overlay.now c.args.metadata flows pulled.items part c.push_miss.new.out.items are
    (near_branches part pulled.items near.items c.push_miss.new.out.items c.in_ok-pulled-2.ensures
    (branches_done part near.items c.loop-place.place c.loop-place.out.items c.push_miss.new.out.items most c.loop-place.invariant adds))

pub returns-clause-conditions : goal.returns-clause-conditions
returns-clause-conditions c =
    let near = c.in_ok-pulled-2.pulled in
    let most : length near.items ≤ c.loop-place.place = omega (arith, c.loop-place-test.false, c.len-place-end.ensures, near.ok.0) in
    let adds : AddsHit c.args.part.now near.items None c.loop-place.out.items c.push_miss.new.out.items = rw (sym c.deref-2.ensures.value) c.in_ok-push_miss.ensures in
    let are = branches_done c.args.part.now near.items c.loop-place.place c.loop-place.out.items c.push_miss.new.out.items most c.loop-place.invariant adds in
    λ b there. (are.each b there).conditions
