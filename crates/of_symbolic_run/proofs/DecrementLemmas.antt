-- DEC_NW_TTL of the first packet.
use Rattle.std.proofs.Common.{◌≡◌, ◌⊎◌, inl, inr, ℕ, Bool, true, false, cond, not, List, [], ◌∷◌, ◌++◌, get_or, set, drop, Option, Some, None, refl, sym, ap, subst, ◌∙◌, arith}
use Rattle.std.{specs.Prelude.map, specs.List.Contains, proofs.lemmas.List.append-nil}
use Rattle.std.proofs.lemmas.List.Elements.{Contains-append_left, Contains-push, Contains-push_cases}
use Rattle.of_layers.specs.Reading.{layers_of}
use Rattle.of_rewrite.specs.{Frames.IsFrame, Frames.frame_ttl_decremented, TimeToLive.dec_ttl_result, TimeToLive.ttl_of}
use Rattle.of_actions.specs.declared.action.Action.TheVariants as actions
use Rattle.of_wire.specs.declared.reasons.PacketInReason.TheVariants as reasons
use Rattle.of_machine.specs.Rows.{Task, dec_ttl_row, packet_in_emitted, task}
use Rattle.of_machine.specs.{declared.data.Packet.Packet, declared.data.Item.Item, declared.data.Step.Step, declared.data.Step.TheVariants.Act as DidAct, declared.data.Step.TheVariants.TtlExpired}
use Rattle.of_machine.specs.TheWorld.{TheWorld}
use Rattle.of_machine.specs.Rows as rows
use Rattle.of_symbolic.{specs.Actions.AreRewriting, proofs.Rewriting.stays_frame}
use Rattle.of_symbolic_run.specs.declared.advance.Advance.TheVariants as advances
use Rattle.of_symbolic_run.specs.Decrementing.{AddsExpired, IsDecremented, IsExpiredCase, IsLimit, IsOneMoreRewrite, first_ttl}
use Rattle.of_symbolic_run.specs.States.{IsAt, IsStateCopy, answer_to_tasks, items_for, packet_for, task_for, work_for}
use Rattle.of_symbolic_run.proofs.NextLemmas.{copy_next, last_same, next_at, one_apart, two_apart}
use Rattle.of_symbolic_run.specs.{declared.dividing.Case.Case, declared.frame_set.FrameSet.FrameSet, declared.state.Emission.Emission, declared.state.Emission.TheVariants.InvalidTtl}
use Rattle.of_symbolic_run.specs.{declared.state.SymbolicPacket.SymbolicPacket, declared.state.SymbolicState.SymbolicState, declared.state.SymbolicTask.SymbolicTask}
use Rattle.of_symbolic_run.specs.{declared.state.Work.TheVariants.Act, Cases.AreCases, FrameSets.AreFramesOrNone, FrameSets.AreFramesThat, FrameSets.InFrames}
use Rattle.of_symbolic_run.specs.NextStates.{AreNextStates, IsNextState, IsNextStateIf, chosen_row}
use Rattle.of_symbolic_run.specs.TimesToLive.{expires, is_last, known_ttl, ttl_limit_of}
use Rattle.of_symbolic_run.proofs.{FirstLemmas.first_item, FirstLemmas.firsts, FirstLemmas.is_decrement, FirstLemmas.some_decrement, HeaderLemmas.none_decremented, TtlLemmas.last_is}
use Rattle.of_symbolic_run.proofs.StepLemmas.{frames_more, items_more}

-- ---- rows

last_row : (p : Packet) (rest : List rows.Work) (o : Option ℕ) → is_last o ≡ true → ((dec_ttl_row p rest (dec_ttl_result o)).left ≡ task p [] ∷ []) × ((dec_ttl_row p rest (dec_ttl_result o)).items ≡ (packet_in_emitted reasons.InvalidTtl None p).items) × ((dec_ttl_row p rest (dec_ttl_result o)).line ≡ TtlExpired)
last_row p rest None h = absurd cc
last_row p rest (Some t) h = rw h (refl, refl, refl)

alive_row : (p : Packet) (rest : List rows.Work) (o : Option ℕ) → is_last o ≡ false → (o ≡ None → frame_ttl_decremented p.frame ≡ p.frame) →
    ((dec_ttl_row p rest (dec_ttl_result o)).left ≡ task (record p { frame = frame_ttl_decremented p.frame }) rest ∷ []) × ((dec_ttl_row p rest (dec_ttl_result o)).items ≡ []) × ((dec_ttl_row p rest (dec_ttl_result o)).line ≡ DidAct actions.DecNwTtl)
alive_row p rest None h stays = (ap (λ (frame : List ℕ). task (record p { frame = frame }) rest ∷ []) (sym (stays refl)), refl, refl)
alive_row p rest (Some t) h stays = rw h (refl, refl, refl)

-- ---- states

first_work : (t : SymbolicTask) (rest ts : List SymbolicTask) → ts ≡ t ∷ rest → answer_to_tasks ts ≡ advances.DecNwTtl → t.work.items ≡ Act actions.DecNwTtl ∷ drop 1 t.work.items
first_work t rest ts first answer = is_decrement t.work.items (ap answer_to_tasks (sym first) ∙ answer)

-- a frame for which it expires takes that step, and so does one for which it does not
expired_at : (w : TheWorld) (frame : List ℕ) (port : ℕ) (old new : SymbolicState) → answer_to_tasks old.tasks.items ≡ advances.DecNwTtl → IsNextStateIf w None true old new → is_last (first_ttl old.tasks.items frame) ≡ true → IsAt w frame port old → IsAt w frame port new
expired_at w frame port old new answer h last =
    let p = packet_for h.t.packet frame port in
    let work = first_work h.t h.rest old.tasks.items h.first answer in
    let row_is = last_row p (map work_for (drop 1 h.t.work.items)) (ttl_of (layers_of p.frame)) (ap (λ (ts : List SymbolicTask). is_last (first_ttl ts frame)) (sym h.first) ∙ last) in
    next_at w frame port None true old new h (rw work row_is.0) (rw work row_is.1) (rw work row_is.2)

decremented_at : (w : TheWorld) (frame : List ℕ) (port : ℕ) (old new : SymbolicState) → answer_to_tasks old.tasks.items ≡ advances.DecNwTtl → (h : IsNextStateIf w None false old new) → AreRewriting h.t.packet.rewrites → IsFrame frame → is_last (first_ttl old.tasks.items frame) ≡ false → IsAt w frame port old → IsAt w frame port new
decremented_at w frame port old new answer h rewriting is_frame last =
    let p = packet_for h.t.packet frame port in
    let work = first_work h.t h.rest old.tasks.items h.first answer in
    let still : IsFrame p.frame = stays_frame h.t.packet.rewrites frame is_frame rewriting in
    let row_is = alive_row p (map work_for (drop 1 h.t.work.items)) (ttl_of (layers_of p.frame)) (ap (λ (ts : List SymbolicTask). is_last (first_ttl ts frame)) (sym h.first) ∙ last) (none_decremented p.frame still) in
    next_at w frame port None false old new h (rw work row_is.0) (rw work row_is.1) (rw work row_is.2)

pub expired_is : (old copy new : SymbolicState) (x y : SymbolicTask) (packet : SymbolicPacket) (t' : SymbolicTask) → answer_to_tasks old.tasks.items ≡ advances.DecNwTtl → IsStateCopy old copy → x ≡ get_or copy.tasks.items 0 x → y ≡ get_or copy.tasks.items 0 y → packet ≡ x.packet →
    t'.packet ≡ y.packet → t'.work.items ≡ [] → new.tasks.items ≡ set copy.tasks.items 0 t' → new.emitted.items ≡ copy.emitted.items ++ InvalidTtl packet ∷ [] → new.steps.items ≡ copy.steps.items ++ TtlExpired ∷ [] → IsDecremented true old new
expired_is old copy new x y packet t' answer copied is again own kept none tasks emitted steps = record {
  next = next;
  at = λ w frame port is_frame last. expired_at w frame port old new answer (next w) last;
}
  where
    next : (w : TheWorld) → IsNextStateIf w None true old new
    next w =
        let f = firsts old.tasks.items copy.tasks.items copied.0 (some_decrement old.tasks.items answer) in
        let same : x.packet ≡ f.t.packet = ap (λ (z : SymbolicTask). z.packet) (first_item copy.tasks.items x f.copy f.others is f.copied) ∙ f.same.0 in
        let same_again : y.packet ≡ f.t.packet = ap (λ (z : SymbolicTask). z.packet) (first_item copy.tasks.items y f.copy f.others again f.copied) ∙ f.same.0 in
        let work = first_work f.t f.rest old.tasks.items f.first answer in
        let left : (frame : List ℕ) (port : ℕ) → (chosen_row w None true frame port f.t).left ≡ task_for frame port t' ∷ [] = (λ frame port. rw (work, kept ∙ same_again, none) refl) in
        let sent : (frame : List ℕ) (port : ℕ) → (chosen_row w None true frame port f.t).items ≡ (packet_in_emitted reasons.InvalidTtl None (packet_for f.t.packet frame port)).items = (λ frame port. rw work refl) in
        let told : (frame : List ℕ) (port : ℕ) → (chosen_row w None true frame port f.t).line ≡ TtlExpired = (λ frame port. rw work refl) in
        let lines : (frame : List ℕ) (port : ℕ) → new.steps.items ≡ old.steps.items ++ (chosen_row w None true frame port f.t).line ∷ [] = (λ frame port. steps ∙ ap (λ (l : List Step). l ++ TtlExpired ∷ []) copied.2 ∙ ap (λ (s : Step). old.steps.items ++ s ∷ []) (sym (told frame port))) in
        let more : (frame : List ℕ) (port : ℕ) → items_for w.ports new.emitted.items frame port ≡ items_for w.ports old.emitted.items frame port ++ (chosen_row w None true frame port f.t).items =
        (λ frame port. ap (λ (es : List Emission). items_for w.ports es frame port) (emitted ∙ ap (λ (es : List Emission). es ++ InvalidTtl packet ∷ []) copied.1 ∙ ap (λ (q : SymbolicPacket). old.emitted.items ++ InvalidTtl q ∷ []) (own ∙ same))
        ∙ items_more f.t f.t [] w.ports old.emitted.items (InvalidTtl f.t.packet) frame port ∙ ap (λ (l : List Item). items_for w.ports old.emitted.items frame port ++ l) (sym (sent frame port))) in
        copy_next w None true old new f.t t' f.rest f.others f.first (tasks ∙ ap (λ (ts : List SymbolicTask). set ts 0 t') f.copied) f.behind left more lines

pub decremented_is : (old copy new : SymbolicState) (x t' : SymbolicTask) → answer_to_tasks old.tasks.items ≡ advances.DecNwTtl → IsStateCopy old copy → x ≡ get_or copy.tasks.items 0 x →
    IsOneMoreRewrite actions.DecNwTtl x t' → new.tasks.items ≡ set copy.tasks.items 0 t' → new.emitted.items ≡ copy.emitted.items → new.steps.items ≡ copy.steps.items ++ DidAct actions.DecNwTtl ∷ [] → IsDecremented false old new
decremented_is old copy new x t' answer copied is one tasks emitted steps = record {
  next = next;
  at = λ w frame port. decremented_at w frame port old new answer (next w) (rewriting (next w).t (next w).rest (next w).first);
}
  where
    rewriting : (t : SymbolicTask) (rest : List SymbolicTask) → old.tasks.items ≡ t ∷ rest → AreRewriting t.packet.rewrites
    rewriting t rest first =
        let f = firsts old.tasks.items copy.tasks.items copied.0 (some_decrement old.tasks.items answer) in
        let list : f.t ∷ f.rest ≡ t ∷ rest = sym f.first ∙ first in
        let item : f.t ≡ t = cc in
        let same : x.packet ≡ t.packet = ap (λ (y : SymbolicTask). y.packet) (first_item copy.tasks.items x f.copy f.others is f.copied) ∙ f.same.0 ∙ ap (λ (y : SymbolicTask). y.packet) item in
        subst (λ (q : SymbolicPacket). AreRewriting q.rewrites) same one.2

    next : (w : TheWorld) → IsNextStateIf w None false old new
    next w =
        let f = firsts old.tasks.items copy.tasks.items copied.0 (some_decrement old.tasks.items answer) in
        let item : x ≡ f.copy = first_item copy.tasks.items x f.copy f.others is f.copied in
        let same : x.packet ≡ f.t.packet = ap (λ (y : SymbolicTask). y.packet) item ∙ f.same.0 in
        let same_work : x.work.items ≡ f.t.work.items = ap (λ (y : SymbolicTask). y.work.items) item ∙ f.same.1 in
        let work = first_work f.t f.rest old.tasks.items f.first answer in
        let packet : t'.packet ≡ record f.t.packet { rewrites = f.t.packet.rewrites ++ actions.DecNwTtl ∷ [] } = one.0 ∙ ap (λ (q : SymbolicPacket). record q { rewrites = q.rewrites ++ actions.DecNwTtl ∷ [] }) same in
        let to : (frame : List ℕ) (port : ℕ) → task_for frame port t' ≡ task (record (packet_for f.t.packet frame port) { frame = frame_ttl_decremented (packet_for f.t.packet frame port).frame }) (map work_for (drop 1 f.t.work.items)) =
        (λ frame port. rw (packet, one.1, same_work, frames_more f.t.packet.rewrites actions.DecNwTtl frame) refl) in
        let left : (frame : List ℕ) (port : ℕ) → (chosen_row w None false frame port f.t).left ≡ task_for frame port t' ∷ [] = (λ frame port. rw work (ap (λ (y : Task). y ∷ []) (sym (to frame port)))) in
        let sent : (frame : List ℕ) (port : ℕ) → (chosen_row w None false frame port f.t).items ≡ [] = (λ frame port. rw work refl) in
        let told : (frame : List ℕ) (port : ℕ) → (chosen_row w None false frame port f.t).line ≡ DidAct actions.DecNwTtl = (λ frame port. rw work refl) in
        let lines : (frame : List ℕ) (port : ℕ) → new.steps.items ≡ old.steps.items ++ (chosen_row w None false frame port f.t).line ∷ [] = (λ frame port. steps ∙ ap (λ (l : List Step). l ++ DidAct actions.DecNwTtl ∷ []) copied.2 ∙ ap (λ (s : Step). old.steps.items ++ s ∷ []) (sym (told frame port))) in
        let more : (frame : List ℕ) (port : ℕ) → items_for w.ports new.emitted.items frame port ≡ items_for w.ports old.emitted.items frame port ++ (chosen_row w None false frame port f.t).items =
        (λ frame port. ap (λ (es : List Emission). items_for w.ports es frame port) (emitted ∙ copied.1) ∙ sym (append-nil (items_for w.ports old.emitted.items frame port)) ∙ ap (λ (l : List Item). items_for w.ports old.emitted.items frame port ++ l) (sym (sent frame port))) in
        copy_next w None false old new f.t t' f.rest f.others f.first (tasks ∙ ap (λ (ts : List SymbolicTask). set ts 0 t') f.copied) f.behind left more lines

-- what a next state told
told_line : (w : TheWorld) (b : Bool) (old new : SymbolicState) → answer_to_tasks old.tasks.items ≡ advances.DecNwTtl → IsNextStateIf w None b old new → new.steps.items ≡ old.steps.items ++ cond b TtlExpired (DidAct actions.DecNwTtl) ∷ []
told_line w b old new answer h = h.lines [] 0 ∙ ap (λ (s : Step). old.steps.items ++ s ∷ []) (by_test b)
  where
    by_test : (x : Bool) → (chosen_row w None x [] 0 h.t).line ≡ cond x TtlExpired (DidAct actions.DecNwTtl)
    by_test true = rw (first_work h.t h.rest old.tasks.items h.first answer) refl
    by_test false = rw (first_work h.t h.rest old.tasks.items h.first answer) refl

-- ---- cases

pub limit_is : (ts : List SymbolicTask) (x : SymbolicTask) (limit : Option ℕ) → answer_to_tasks ts ≡ advances.DecNwTtl → x ≡ get_or ts 0 x → AreRewriting x.packet.rewrites → limit ≡ ttl_limit_of (known_ttl x.packet.rewrites) → IsLimit ts limit
limit_is [] x limit answer is rewriting own frame is_frame = absurd cc
limit_is (t ∷ ts) x limit answer is rewriting own frame is_frame =
    subst (λ (y : SymbolicTask). is_last (first_ttl (y ∷ ts) frame) ≡ expires limit frame) (first_item (t ∷ ts) x t ts is refl) (last_is x.packet.rewrites frame is_frame rewriting ∙ ap (λ (o : Option ℕ). expires o frame) (sym own))

module _ (w : TheWorld) (frames : FrameSet) (state : SymbolicState) (limit : Option ℕ) (is_limit : IsLimit state.tasks.items limit) (alive : Case) (living : AreFramesThat (λ frame. not (expires limit frame)) frames alive.frames) (kept : IsDecremented false state alive.state) where
  not_last : (b : Bool) → not b ≡ true → b ≡ false
  not_last true h = absurd cc
  not_last false h = refl

  alive_at : (frame : List ℕ) (port : ℕ) → IsFrame frame → InFrames alive.frames frame port → IsAt w frame port state → IsAt w frame port alive.state
  alive_at frame port is h at = kept.at w frame port is (is_limit frame is ∙ not_last (expires limit frame) (living.tested frame port is h)) at

  only_alive : (cases : List Case) → cases ≡ [] ++ alive ∷ [] → AreFramesOrNone (expires limit) frames None → AreCases w frames state cases
  only_alive cases are none = record {
    within = λ c there frame port h. living.within frame port (subst (λ (x : Case). InFrames x.frames frame port) (one c there) h);
    all = λ frame port is h. (alive, subst (λ (l : List Case). Contains l alive) (sym are) (Contains-push [] alive), living.all frame port is h (ap not (none frame port is h)));
    at = λ c there frame port is h at. subst (λ (x : Case). IsAt w frame port x.state) (sym (one c there)) (alive_at frame port is (subst (λ (x : Case). InFrames x.frames frame port) (one c there) h) at);
  }
    where
      one : (c : Case) → Contains cases c → c ≡ alive
      one c there = elim (Contains-push_cases [] alive c (subst (λ (l : List Case). Contains l c) are there)) as (λ x. c ≡ alive) [
        | inl before ↦ absurd (no_item before)
        | inr same ↦ sym same
      ]
        where
          no_item : Contains [] c → ⊥
          no_item h = absurd (omega (arith, h.1))

  both : (dead : Case) (cases : List Case) → cases ≡ ([] ++ dead ∷ []) ++ alive ∷ [] → IsExpiredCase (expires limit) frames state dead → AreCases w frames state cases
  both dead cases are expired = record {
    within = λ c there frame port h. elim (which c there) as (λ x. InFrames frames frame port) [
      | inl same ↦ expired.frames_are.within frame port (subst (λ (x : Case). InFrames x.frames frame port) same h)
      | inr same ↦ living.within frame port (subst (λ (x : Case). InFrames x.frames frame port) same h)
    ];
    all = λ frame port is h. by_test frame port is h (expires limit frame) refl;
    at = λ c there frame port is h at. elim (which c there) as (λ x. IsAt w frame port c.state) [
      | inl same ↦ subst (λ (x : Case). IsAt w frame port x.state) (sym same) (dead_at frame port is (subst (λ (x : Case). InFrames x.frames frame port) same h) at)
      | inr same ↦ subst (λ (x : Case). IsAt w frame port x.state) (sym same) (alive_at frame port is (subst (λ (x : Case). InFrames x.frames frame port) same h) at)
    ];
  }
    where
      no_item : (c : Case) → Contains [] c → ⊥
      no_item c h = absurd (omega (arith, h.1))

      which : (c : Case) → Contains cases c → (c ≡ dead) ⊎ (c ≡ alive)
      which c there = elim (Contains-push_cases ([] ++ dead ∷ []) alive c (subst (λ (l : List Case). Contains l c) are there)) as (λ x. (c ≡ dead) ⊎ (c ≡ alive)) [
        | inl first ↦ elim (Contains-push_cases [] dead c first) as (λ x. (c ≡ dead) ⊎ (c ≡ alive)) [
          | inl before ↦ absurd (no_item c before)
          | inr same ↦ inl (sym same)
        ]
        | inr same ↦ inr (sym same)
      ]

      dead_at : (frame : List ℕ) (port : ℕ) → IsFrame frame → InFrames dead.frames frame port → IsAt w frame port state → IsAt w frame port dead.state
      dead_at frame port is h at = expired.state_is.at w frame port is (is_limit frame is ∙ expired.frames_are.tested frame port is h) at

      by_test : (frame : List ℕ) (port : ℕ) → IsFrame frame → InFrames frames frame port → (b : Bool) → expires limit frame ≡ b → (c : Case) × Contains cases c × InFrames c.frames frame port
      by_test frame port is h true test = (dead, subst (λ (l : List Case). Contains l dead) (sym are) (Contains-append_left ([] ++ dead ∷ []) (alive ∷ []) dead (Contains-push [] dead)), expired.frames_are.all frame port is h test)
      by_test frame port is h false test = (alive, subst (λ (l : List Case). Contains l alive) (sym are) (Contains-push ([] ++ dead ∷ []) alive), living.all frame port is h (ap not test))

  pub divided : (mid cases : List Case) → cases ≡ mid ++ alive ∷ [] → AddsExpired (expires limit) frames state [] mid → AreCases w frames state cases
  divided mid cases are (inl none) = only_alive cases (are ∙ ap (λ (l : List Case). l ++ alive ∷ []) none.0) none.1
  divided mid cases are (inr more) = both more.0 cases (are ∙ ap (λ (l : List Case). l ++ alive ∷ []) more.1) more.2

-- ---- the next states

module _ (w : TheWorld) (frames : FrameSet) (state : SymbolicState) (test : List ℕ → Bool) (answer : answer_to_tasks state.tasks.items ≡ advances.DecNwTtl) (alive : Case) (kept : IsDecremented false state alive.state) where
  next_alive : IsNextState w state alive.state
  next_alive = record { found = None; expires = false; follows = kept.next w }

  alone_next : AreNextStates w state (alive ∷ [])
  alone_next = record {
    each = λ c there. elim (Contains-push_cases [] alive c there) as (λ x. IsNextState w state c.state) [
      | inl before ↦ absurd (omega (arith, before.1))
      | inr same ↦ subst (λ (x : Case). IsNextState w state x.state) same next_alive
    ];
    apart = one_apart alive;
  }

  both_next : (dead : Case) → IsExpiredCase test frames state dead → AreNextStates w state (dead ∷ alive ∷ [])
  both_next dead expired = record {
    each = λ c there. elim (Contains-push_cases (dead ∷ []) alive c there) as (λ x. IsNextState w state c.state) [
      | inl first ↦ elim (Contains-push_cases [] dead c first) as (λ x. IsNextState w state c.state) [
        | inl before ↦ absurd (omega (arith, before.1))
        | inr same ↦ subst (λ (x : Case). IsNextState w state x.state) same (record { found = None; expires = true; follows = expired.state_is.next w })
      ]
      | inr same ↦ subst (λ (x : Case). IsNextState w state x.state) same next_alive
    ];
    apart = two_apart dead alive (λ same. other_lines (last_same state.steps.items TtlExpired (DidAct actions.DecNwTtl) (sym (told_line w true state dead.state answer (expired.state_is.next w)) ∙ same ∙ told_line w false state alive.state answer (kept.next w))));
  }
    where
      other_lines : TtlExpired ≡ DidAct actions.DecNwTtl → ⊥
      other_lines h = absurd cc

  pub divided_next : (mid cases : List Case) → cases ≡ mid ++ alive ∷ [] → AddsExpired test frames state [] mid → AreNextStates w state cases
  divided_next mid cases are (inl none) = subst (AreNextStates w state) (sym (are ∙ ap (λ (l : List Case). l ++ alive ∷ []) none.0)) alone_next
  divided_next mid cases are (inr more) = subst (AreNextStates w state) (sym (are ∙ ap (λ (l : List Case). l ++ alive ∷ []) more.1)) (both_next more.0 more.2)
