use Rattle.std.proofs.Common.{◌≡◌, ◌+◌, ◌++◌, ◌∷◌, [], false, rules, drop, get_or, refl, ◌∙◌, ap}
use Rattle.std.{specs.Prelude.IsTrue, proofs.lemmas.List.drop_all}
use Rattle.std.proofs.lemmas.Result.{IfOk-weaker, err_from_is_err_and, on_ok_weaker, on_err_weaker}
use Rattle.of_actions.specs.{declared.action.Action.TheVariants.Output, Supported.is_supported}
use Rattle.of_action_set.specs.Sets.{in_order}
use Rattle.of_machine.proofs.Promises.{out_of_tables, all_at, below_at, bucket_at, bucket_served, bucket_below, order_below}
use Rattle.of_machine.proofs.Moving.{outputs, rewrites, ends, runs_set, passes_by, groups, acts_at, copies_at, copy_is, left_nil}
use Rattle.of_machine.{specs.declared.data.Packet.Packet, specs.Sound.IsBelow, specs.Sound.AllBelow, specs.Rows.acts, specs.Rows.task, specs.Rows.copies, proofs.Reaching.stays}
use Rattle.of_machine.proofs.machine.+machine.Goals as goal

pub act-returns-in_err-to_group-in-Group-clause-err : goal.act-returns-in_err-to_group-in-Group-clause-err
act-returns-in_err-to_group-in-Group-clause-err g t c =
    let p = err_from_is_err_and c.from_residual-in_err-to_group-in-Group.result c.from_residual-in_err-to_group-in-Group.ensures.1 in
    rw (p.1, c.in-Group.is) c.in_err-to_group-in-Group.ensures.err

pub act-returns-in_ok-step-in-Output-clause-ok : goal.act-returns-in_ok-step-in-Output-clause-ok
act-returns-in_ok-step-in-Output-clause-ok g t c =
    let out = out_of_tables c.in-Output.port c.in-Output.max_len (rw c.in-Output.is at c.requires.served) in
    λ rest others. rw c.in-Output.is (outputs (g.W.World.view c.args.world.now) g.S.StepLog.KEEPS c.args.packet.now rest others c.args.outcome.now (g.S.StepLog.list c.args.log.now) (g.S.StepLog.list c.step.new.self) c.emit.new.outcome c.in-Output.port c.in-Output.max_len out (rw c.ports.ensures at c.in_ok-emit-in-Output.ensures) c.in_ok-step-in-Output.ensures.ok)

pub act-returns-in-DecNwTtl-clause-err : goal.act-returns-in-DecNwTtl-clause-err
act-returns-in-DecNwTtl-clause-err g t c =
    rw c.in-DecNwTtl.is (on_err_weaker c.age.result (λ h. h (g.W.World.view c.args.world.now)) c.age.ensures.err)

pub act-returns-in_ok-step-in_default : goal.act-returns-in_ok-step-in_default
act-returns-in_ok-step-in_default g t c =
    record {
      ok = λ rest others. rewrites (g.W.World.view c.args.world.now) g.S.StepLog.KEEPS c.args.packet.now rest others c.args.outcome.now (g.S.StepLog.list c.args.log.now) (g.S.StepLog.list c.step-in_default.new.self) c.args.action c.in_default.not-Output c.in_default.not-Group c.in_default.not-DecNwTtl c.rewrite.new.self c.in_ok-rewrite-in_default.ensures c.in_ok-step-in_default.ensures.ok;
      err = tt;
    }

pub act_all-act-requires : goal.act_all-act-requires
act_all-act-requires g t c κs lives =
    let served : IsTrue (is_supported false (get_or c.args.actions.now c.loop-action.action-index (Output 0 0))) =
    all_at (is_supported false) c.args.actions.now c.loop-action.action-index (Output 0 0) c.requires.served c.loop-action-test.true in
    let below : IsBelow (g.W.World.view c.args.world.now) (c.args.levels + 1) (get_or c.args.actions.now c.loop-action.action-index (Output 0 0)) =
    below_at (g.W.World.view c.args.world.now) (c.args.levels + 1) c.args.actions.now c.loop-action.action-index (Output 0 0) c.requires.below c.loop-action-test.true in
    search rules

pub act_all-returns-in_err-act-clause-err : goal.act_all-returns-in_err-act-clause-err
act_all-returns-in_err-act-clause-err g t c =
    let p = err_from_is_err_and c.from_residual.result c.from_residual.ensures.1 in
    let l = c.args.actions.now in
    let i = c.loop-action.action-index in
    rw p.1 (λ rest others start h. c.in_err-act.ensures.err (acts (drop (i + 1) l) ++ rest) others start
    (rw (acts_at l i (Output 0 0) c.loop-action-test.true) at (c.loop-action.invariant rest others start h)))

pub run_buckets-bucket-requires : goal.run_buckets-bucket-requires
run_buckets-bucket-requires g t c =
    λ none. let b = bucket_at (g.W.World.view c.args.world.now) c.args.group c.args.places.now c.loop-place.place-index c.requires.there c.loop-place-test.true in
    let same = b.there in cc

pub run_buckets-write-requires : goal.run_buckets-write-requires
run_buckets-write-requires g t c =
    bucket_served (g.W.World.view c.args.world.now) c.args.group (get_or c.args.places.now c.loop-place.place-index 0) c.bucket.result.now (bucket_at (g.W.World.view c.args.world.now) c.args.group c.args.places.now c.loop-place.place-index c.requires.there c.loop-place-test.true) c.bucket.ensures

pub run_buckets-run_set-requires : goal.run_buckets-run_set-requires
run_buckets-run_set-requires g t c κs lives =
    let b = bucket_at (g.W.World.view c.args.world.now) c.args.group c.args.places.now c.loop-place.place-index c.requires.there c.loop-place-test.true in
    let empty : c.copy_without_actions-copy.result.action_set ≡ [] = ap (λ (p : Packet). p.action_set) c.copy_without_actions-copy.ensures in
    let below : AllBelow (g.W.World.view c.args.world.now) (c.args.levels + 1) c.write.new.self =
    rw c.write.ensures (bucket_below (g.W.World.view c.args.world.now) c.args.group (get_or c.args.places.now c.loop-place.place-index 0) (c.args.levels + 1) c.bucket.result.now c.copy_without_actions-copy.result.action_set b c.bucket.ensures c.requires.below empty) in
    search rules

pub run_buckets-returns-in_err-run_set-clause-err : goal.run_buckets-returns-in_err-run_set-clause-err
run_buckets-returns-in_err-run_set-clause-err g t c =
    let p = err_from_is_err_and c.from_residual.result c.from_residual.ensures.1 in
    let ks = c.args.places.now in
    let i = c.loop-place.place-index in
    let copied = copy_is (g.W.World.view c.args.world.now) c.args.group (get_or ks i 0) c.args.packet.now c.copy_without_actions-copy.result c.write.new.self c.bucket.result.now c.copy_without_actions-copy.ensures c.bucket.ensures c.write.ensures in
    rw p.1 (λ others start h. c.in_err-run_set.ensures.err [] (copies (g.W.World.view c.args.world.now) c.args.group c.args.packet.now (drop (i + 1) ks) ++ others) start
    (rw copied (rw (copies_at (g.W.World.view c.args.world.now) c.args.group c.args.packet.now ks i c.loop-place-test.true) at (c.loop-place.invariant others start h))))

pub run_buckets-loop-place-preserved : goal.run_buckets-loop-place-preserved
run_buckets-loop-place-preserved g t c =
    let ks = c.args.places.now in
    let i = c.loop-place.place-index in
    let copied = copy_is (g.W.World.view c.args.world.now) c.args.group (get_or ks i 0) c.args.packet.now c.copy_without_actions-copy.result c.write.new.self c.bucket.result.now c.copy_without_actions-copy.ensures c.bucket.ensures c.write.ensures in
    λ others start h. c.in_ok-run_set.ensures.ok (copies (g.W.World.view c.args.world.now) c.args.group c.args.packet.now (drop (i + 1) ks) ++ others) start
    (rw copied (rw (copies_at (g.W.World.view c.args.world.now) c.args.group c.args.packet.now ks i c.loop-place-test.true) at (c.loop-place.invariant others start h)))

pub run_buckets-returns-clause-ok : goal.run_buckets-returns-clause-ok
run_buckets-returns-clause-ok g t c =
    let gone : drop c.loop-place.place-index c.args.places.now ≡ [] = drop_all c.loop-place.place-index c.args.places.now c.loop-place-test.false in
    λ others start h. rw gone at (c.loop-place.invariant others start h)

pub run_set-returns-in_err-act_all-clause-err : goal.run_set-returns-in_err-act_all-clause-err
run_set-returns-in_err-act_all-clause-err g t c =
    let p = err_from_is_err_and c.from_residual-in_err-act_all.result c.from_residual-in_err-act_all.ensures.1 in
    rw p.1 (λ rest others start h. c.in_err-act_all.ensures.err rest others start (runs_set (g.W.World.view c.args.world.now) g.S.StepLog.KEEPS c.args.packet.now rest others c.args.outcome.now (g.S.StepLog.list c.args.log.now) (g.S.StepLog.list c.step.new.self) c.take-set.new.self c.in_order.result.now c.take-set.ensures.left (c.in_order.ensures.actions ∙ ap in_order c.take-set.ensures.taken) c.in_ok-step.ensures.ok start h))

pub run_set-returns-in_err-step-2-clause-err : goal.run_set-returns-in_err-step-2-clause-err
run_set-returns-in_err-step-2-clause-err g t c =
    let p = err_from_is_err_and c.from_residual-in_err-step-2.result c.from_residual-in_err-step-2.ensures.1 in
    rw p.1 (λ rest others start h. stays (g.W.World.view c.args.world.now) g.S.StepLog.KEEPS _ (g.S.StepLog.list c.step-2.new.self) c.in_err-step-2.ensures.err start
    (c.in_ok-act_all.ensures.ok rest others start (runs_set (g.W.World.view c.args.world.now) g.S.StepLog.KEEPS c.args.packet.now rest others c.args.outcome.now (g.S.StepLog.list c.args.log.now) (g.S.StepLog.list c.step.new.self) c.take-set.new.self c.in_order.result.now c.take-set.ensures.left (c.in_order.ensures.actions ∙ ap in_order c.take-set.ensures.taken) c.in_ok-step.ensures.ok start h)))

pub run_set-returns-clause-ok : goal.run_set-returns-clause-ok
run_set-returns-clause-ok g t c =
    λ others start h. ends (g.W.World.view c.args.world.now) g.S.StepLog.KEEPS c.act_all.new.packet [] others c.act_all.new.outcome (g.S.StepLog.list c.act_all.new.log) (g.S.StepLog.list c.step-2.new.self) c.in_ok-step-2.ensures.ok start
    (rw (left_nil c.in_ok-act_all.field-0) at (c.in_ok-act_all.ensures.ok [] others start (runs_set (g.W.World.view c.args.world.now) g.S.StepLog.KEEPS c.args.packet.now [] others c.args.outcome.now (g.S.StepLog.list c.args.log.now) (g.S.StepLog.list c.step.new.self) c.take-set.new.self c.in_order.result.now c.take-set.ensures.left (c.in_order.ensures.actions ∙ ap in_order c.take-set.ensures.taken) c.in_ok-step.ensures.ok start h)))

pub run_set-act_all-requires : goal.run_set-act_all-requires
run_set-act_all-requires g t c κs lives =
    let below : AllBelow (g.W.World.view c.args.world.now) (c.args.levels + 1) c.in_order.result.now =
    rw (c.in_order.ensures.actions, c.take-set.ensures.taken) (order_below (g.W.World.view c.args.world.now) (c.args.levels + 1) c.args.packet.now.action_set c.requires.below) in
    let served = c.in_order.ensures.served in
    search rules

pub to_group-returns-in-None-clause-ok : goal.to_group-returns-in-None-clause-ok
to_group-returns-in-None-clause-ok g t c =
    on_ok_weaker c.step.result (λ line rest others. passes_by (g.W.World.view c.args.world.now) g.S.StepLog.KEEPS c.args.packet.now rest others c.args.outcome.now (g.S.StepLog.list c.args.log.now) (g.S.StepLog.list c.step.new.self) c.args.group c.in-None.ensures line) c.step.ensures.ok

pub to_group-returns-in_ok-step-in-Some-clause-ok : goal.to_group-returns-in_ok-step-in-Some-clause-ok
to_group-returns-in_ok-step-in-Some-clause-ok g t c =
    let counts = rw (c.as_slice.ensures.places, c.len.ensures) at c.in_ok-count_uses-in-Some.ensures.counts in
    on_ok_weaker c.run_buckets.result (λ m rest others start h. m (task c.args.packet.now rest ∷ others) start (rw c.as_slice-in-Some.ensures.places (groups (g.W.World.view c.args.world.now) g.S.StepLog.KEEPS c.args.packet.now rest others c.args.outcome.now (g.S.StepLog.list c.args.log.now) (g.S.StepLog.list c.step-in-Some.new.self) c.count_uses.new.outcome c.args.group c.in-Some.places c.in-Some.ensures c.in_ok-count_uses-in-Some.ensures.items counts c.in_ok-step-in-Some.ensures.ok start h))) c.run_buckets.ensures.ok

pub to_group-returns-in_ok-step-in-Some-clause-err : goal.to_group-returns-in_ok-step-in-Some-clause-err
to_group-returns-in_ok-step-in-Some-clause-err g t c =
    let counts = rw (c.as_slice.ensures.places, c.len.ensures) at c.in_ok-count_uses-in-Some.ensures.counts in
    on_err_weaker c.run_buckets.result (λ m rest others start h. m (task c.args.packet.now rest ∷ others) start (rw c.as_slice-in-Some.ensures.places (groups (g.W.World.view c.args.world.now) g.S.StepLog.KEEPS c.args.packet.now rest others c.args.outcome.now (g.S.StepLog.list c.args.log.now) (g.S.StepLog.list c.step-in-Some.new.self) c.count_uses.new.outcome c.args.group c.in-Some.places c.in-Some.ensures c.in_ok-count_uses-in-Some.ensures.items counts c.in_ok-step-in-Some.ensures.ok start h))) c.run_buckets.ensures.err

pub act-returns-in_err-emit-in-Output-clause-err : goal.act-returns-in_err-emit-in-Output-clause-err
act-returns-in_err-emit-in-Output-clause-err g t c =
    let p = err_from_is_err_and c.from_residual.result c.from_residual.ensures.1 in
    rw p.1 (λ rest others. stays (g.W.World.view c.args.world.now) g.S.StepLog.KEEPS _ (g.S.StepLog.list c.args.log.now) refl)

pub act-returns-in_err-step-in-Output-clause-err : goal.act-returns-in_err-step-in-Output-clause-err
act-returns-in_err-step-in-Output-clause-err g t c =
    let p = err_from_is_err_and c.from_residual-in_err-step-in-Output.result c.from_residual-in_err-step-in-Output.ensures.1 in
    rw p.1 (λ rest others. stays (g.W.World.view c.args.world.now) g.S.StepLog.KEEPS _ (g.S.StepLog.list c.step.new.self) c.in_err-step-in-Output.ensures.err)

pub act-returns-in_err-rewrite-in_default : goal.act-returns-in_err-rewrite-in_default
act-returns-in_err-rewrite-in_default g t c =
    let p = err_from_is_err_and c.from_residual-in_err-rewrite-in_default.result c.from_residual-in_err-rewrite-in_default.ensures.1 in
    rw p.1 (record { ok = tt; err = λ rest others. stays (g.W.World.view c.args.world.now) g.S.StepLog.KEEPS _ (g.S.StepLog.list c.args.log.now) refl })

pub act-returns-in_err-step-in_default : goal.act-returns-in_err-step-in_default
act-returns-in_err-step-in_default g t c =
    let p = err_from_is_err_and c.from_residual-in_err-step-in_default.result c.from_residual-in_err-step-in_default.ensures.1 in
    rw p.1 (record { ok = tt; err = λ rest others. stays (g.W.World.view c.args.world.now) g.S.StepLog.KEEPS _ (g.S.StepLog.list c.step-in_default.new.self) c.in_err-step-in_default.ensures.err })

pub act-returns-in_ok-to_group-in-Group-clause-ok : goal.act-returns-in_ok-to_group-in-Group-clause-ok
act-returns-in_ok-to_group-in-Group-clause-ok g t c = rw c.in-Group.is c.in_ok-to_group-in-Group.ensures.ok

pub act-returns-in-DecNwTtl-clause-ok : goal.act-returns-in-DecNwTtl-clause-ok
act-returns-in-DecNwTtl-clause-ok g t c =
    rw c.in-DecNwTtl.is (IfOk-weaker c.age.result _ _ (λ going h. h (g.W.World.view c.args.world.now)) c.age.ensures.ok)

pub act_all-returns-in-Ended-clause-ok : goal.act_all-returns-in-Ended-clause-ok
act_all-returns-in-Ended-clause-ok g t c =
    let l = c.args.actions.now in
    let i = c.loop-action.action-index in
    λ rest others start h. rw c.in-Ended.is at (c.in_ok-act.ensures.ok (acts (drop (i + 1) l) ++ rest) others start
    (rw (acts_at l i (Output 0 0) c.loop-action-test.true) at (c.loop-action.invariant rest others start h)))

pub act_all-loop-action-preserved : goal.act_all-loop-action-preserved
act_all-loop-action-preserved g t c =
    let l = c.args.actions.now in
    let i = c.loop-action.action-index in
    λ rest others start h. rw c.in-Continues.is at (c.in_ok-act.ensures.ok (acts (drop (i + 1) l) ++ rest) others start
    (rw (acts_at l i (Output 0 0) c.loop-action-test.true) at (c.loop-action.invariant rest others start h)))

pub act_all-returns-clause-ok : goal.act_all-returns-clause-ok
act_all-returns-clause-ok g t c =
    let gone : drop c.loop-action.action-index c.args.actions.now ≡ [] = drop_all c.loop-action.action-index c.args.actions.now c.loop-action-test.false in
    λ rest others start h. rw gone at (c.loop-action.invariant rest others start h)

pub run_set-returns-in_err-step-clause-err : goal.run_set-returns-in_err-step-clause-err
run_set-returns-in_err-step-clause-err g t c =
    let p = err_from_is_err_and c.from_residual.result c.from_residual.ensures.1 in
    rw p.1 (λ rest others. stays (g.W.World.view c.args.world.now) g.S.StepLog.KEEPS _ (g.S.StepLog.list c.step.new.self) c.in_err-step.ensures.err)

pub to_group-returns-in_err-count_uses-in-Some-clause-err : goal.to_group-returns-in_err-count_uses-in-Some-clause-err
to_group-returns-in_err-count_uses-in-Some-clause-err g t c =
    let p = err_from_is_err_and c.from_residual.result c.from_residual.ensures.1 in
    rw p.1 (λ rest others. stays (g.W.World.view c.args.world.now) g.S.StepLog.KEEPS _ (g.S.StepLog.list c.args.log.now) refl)

pub to_group-returns-in_err-step-in-Some-clause-err : goal.to_group-returns-in_err-step-in-Some-clause-err
to_group-returns-in_err-step-in-Some-clause-err g t c =
    let p = err_from_is_err_and c.from_residual-in_err-step-in-Some.result c.from_residual-in_err-step-in-Some.ensures.1 in
    rw p.1 (λ rest others. stays (g.W.World.view c.args.world.now) g.S.StepLog.KEEPS _ (g.S.StepLog.list c.step-in-Some.new.self) c.in_err-step-in-Some.ensures.err)

pub to_group-returns-in-None-clause-err : goal.to_group-returns-in-None-clause-err
to_group-returns-in-None-clause-err g t c =
    on_err_weaker c.step.result (λ same rest others. stays (g.W.World.view c.args.world.now) g.S.StepLog.KEEPS _ (g.S.StepLog.list c.step.new.self) same) c.step.ensures.err
