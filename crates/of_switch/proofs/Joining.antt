-- Bytes that come in two chunks do what they do in one.
use Rattle.std.proofs.Common.{◌≡◌, ℕ, ◌+◌, ◌<◌, ◌≤◌, suc, zero, Bool, true, false, List, [], ◌++◌, length, take, drop, Option, Some, None, refl, sym, ◌∙◌, ap, subst, arith, append_assoc, add-one}
use Rattle.std.proofs.{lemmas.List.take-append-le, lemmas.List.drop-append-le, lemmas.Option.same_Some}
use Rattle.of_wire.specs.Refusals.{refusal}
use Rattle.of_messages.specs.Written.{error_bytes}
use Rattle.of_session.specs.declared.session.Next.TheVariants.{Nothing, BadStream, NotHello, Opened, Read, Refused}
use Rattle.of_session.specs.{declared.session.Phase.Phase, declared.session.Phase.TheVariants.Open, declared.session.Next.Next, Session.Connection, Session.is_disconnected, Session.entered}
use Rattle.of_session.proofs.Nexts.{IsSizedIn, next_sized, IsSomething, next_more}
use Rattle.of_datapath.specs.declared.effect.Effect.{Effect}
use Rattle.of_switch.specs.Steps.{Outcome, Done, does, beside, gives, fed, handled, refused, failed_of, closing, coming, next_by, next_of}
use Rattle.of_switch.specs.Runs.{behind_effects, then_more, drain, drained, chunk_in, come}
use Rattle.of_switch.{specs.State.State, proofs.Draining.next_shorter}

same_by : (n m : ℕ) (s : State) (o : Option Outcome) → next_of s ≡ o → ((t : State) → length t.connection.pending < length s.connection.pending → drain n t ≡ drain m t) → then_more (drain n) s o ≡ then_more (drain m) s o
same_by n m s None e ih = refl
same_by n m s (Some o) e ih = ap (behind_effects o.effects) (ih o.state (next_shorter s o e))

-- enough turns are as good as more
pub drain_same : (n m : ℕ) (s : State) → length s.connection.pending < n → length s.connection.pending < m → drain n s ≡ drain m s
unfolding drain
drain_same zero m s a b = absurd (omega (arith, a))
drain_same (suc n) zero s a b = absurd (omega (arith, b))
drain_same (suc n) (suc m) s a b = same_by n m s (next_of s) refl (λ t less. drain_same n m t (omega (arith, less, a)) (omega (arith, less, b)))

pub come_open : (q : List ℕ) (s : State) → is_disconnected s.connection.phase ≡ false → come q s ≡ fed q s
come_open q s open_ = rw open_ refl

pub come_gone : (q : List ℕ) (s : State) → is_disconnected s.connection.phase ≡ true → come q s ≡ s
come_gone q s gone = rw gone refl

failed_fed : (size : ℕ) (q : List ℕ) (c : Connection) → size ≤ length c.pending → take 64 (take size (c.pending ++ q)) ≡ failed_of size c
failed_fed size q c h = ap (take 64) (take-append-le size c.pending q h)

-- what an event says of bytes that follow it
abbrev Follows : List ℕ → State → Next → Outcome → Type 0
Follows q s n o = next_by n (fed q s) ≡ Some (gives o.effects (come q o.state))

-- the message is taken from the start
taken_front : (size : ℕ) (q : List ℕ) (s : State) (phase : Phase) (d : List ℕ → Done) → size ≤ length s.connection.pending → is_disconnected phase ≡ false
    → beside (record { phase = phase; pending = drop size (s.connection.pending ++ q) }) (d (take 64 (take size (s.connection.pending ++ q))))
    ≡ gives (d (failed_of size s.connection)).effects (come q (record { connection = record { phase = phase; pending = drop size s.connection.pending }; core = (d (failed_of size s.connection)).core }))
taken_front size q s phase d h open_ =
    let t : State = record { connection = record { phase = phase; pending = drop size s.connection.pending }; core = (d (failed_of size s.connection)).core } in
    ap (λ (bytes : List ℕ). beside (record { phase = phase; pending = drop size (s.connection.pending ++ q) }) (d bytes)) (failed_fed size q s.connection h)
    ∙ (ap (λ (bytes : List ℕ). beside (record { phase = phase; pending = bytes }) (d (failed_of size s.connection))) (drop-append-le size s.connection.pending q h)
    ∙ ap (gives (d (failed_of size s.connection)).effects) (sym (come_open q t open_)))

more_by : (n : Next) (s : State) (q : List ℕ) (o : Outcome) → is_disconnected s.connection.phase ≡ false → IsSizedIn n s.connection.pending → next_by n s ≡ Some o → Follows q s n o
more_by Nothing s q o open_ sized h = absurd cc
more_by (BadStream xid) s q o open_ sized h =
    subst (Follows q s (BadStream xid)) (same_Some _ _ h)
    (ap (λ (bytes : List ℕ). Some (beside (entered (BadStream xid) s.connection) (closing (error_bytes xid (refusal 1 6) bytes) s.core))) (take-append-le 8 s.connection.pending q sized))
more_by (NotHello xid) s q o open_ sized h = subst (Follows q s (NotHello xid)) (same_Some _ _ h) refl
more_by (Opened size) s q o open_ sized h =
    subst (Follows q s (Opened size)) (same_Some _ _ h) (ap Some (taken_front size q s Open (λ failed. does [] s.core) sized.1 refl))
more_by (Refused xid size code) s q o open_ sized h =
    subst (Follows q s (Refused xid size code)) (same_Some _ _ h) (ap Some (taken_front size q s s.connection.phase (λ failed. refused xid code failed s.core) sized.1 open_))
more_by (Read xid size m) s q o open_ sized h =
    subst (Follows q s (Read xid size m)) (same_Some _ _ h) (ap Some (taken_front size q s s.connection.phase (λ failed. handled xid m failed s.core) sized.1 open_))

something : (n : Next) (s : State) (o : Outcome) → next_by n s ≡ Some o → IsSomething n
something Nothing s o h = absurd cc
something other s o h = tt

-- one message does the same whatever follows it
pub step_more : (s : State) (q : List ℕ) (o : Outcome) → is_disconnected s.connection.phase ≡ false → next_of s ≡ Some o → next_of (fed q s) ≡ Some (gives o.effects (come q o.state))
step_more s q o open_ h =
    let some = something (coming s) s o h in
    ap (λ (n : Next). next_by n (fed q s)) (next_more s.core.control.role s.connection q some)
    ∙ more_by (coming s) s q o open_ (next_sized s.core.control.role s.connection) h

-- without a connection nothing comes next
gone_by : (s : State) (t : Bool) → is_disconnected s.connection.phase ≡ t → t ≡ true → next_of s ≡ None
gone_by s true e h = rw e refl
gone_by s false e h = absurd cc

drain_gone : (n : ℕ) (s : State) → is_disconnected s.connection.phase ≡ true → drain n s ≡ gives [] s
unfolding drain
drain_gone zero s gone = refl
drain_gone (suc n) s gone = ap (then_more (drain n) s) (gone_by s true gone refl)

-- one message, and then what is left
pub drained_more : (s : State) (o : Outcome) → next_of s ≡ Some o → drained s ≡ behind_effects o.effects (drained o.state)
unfolding drain
drained_more s o h =
    let short = next_shorter s o h in
    let size = length s.connection.pending in
    let turns : drain (size + 1) s ≡ drain (suc size) s = ap (λ (k : ℕ). drain k s) (add-one size) in
    let step : drain (suc size) s ≡ behind_effects o.effects (drain size o.state) = ap (then_more (drain size) s) h in
    let one : drained s ≡ behind_effects o.effects (drain size o.state) = turns ∙ step in
    one ∙ ap (behind_effects o.effects) (drain_same (length s.connection.pending) (length o.state.connection.pending + 1) o.state (omega (arith, short)) (omega arith))

pub drained_none : (s : State) → next_of s ≡ None → drained s ≡ gives [] s
unfolding drain
drained_none s h = ap (λ (k : ℕ). drain k s) (add-one (length s.connection.pending)) ∙ ap (then_more (drain (length s.connection.pending)) s) h

pub drained_gone : (s : State) → is_disconnected s.connection.phase ≡ true → drained s ≡ gives [] s
drained_gone s gone = drain_gone (length s.connection.pending + 1) s gone

behind_behind : (a b : List Effect) (o : Outcome) → behind_effects a (behind_effects b o) ≡ behind_effects (a ++ b) o
behind_behind a b o = ap (λ (es : List Effect). gives es o.state) (sym (append_assoc a b o.effects))

-- what the bytes up to here give, and then what the bytes that follow give
abbrev Joins : List ℕ → State → Type 0
Joins q s = drained (come q s) ≡ behind_effects (drained s).effects (drained (come q (drained s).state))

join_gone : (q : List ℕ) (s : State) → is_disconnected s.connection.phase ≡ true → Joins q s
join_gone q s gone =
    let here : drained s ≡ gives [] s = drained_gone s gone in
    rw here refl

join_by : (q : List ℕ) (s : State) (o : Option Outcome) → is_disconnected s.connection.phase ≡ false → next_of s ≡ o → ((t : State) → length t.connection.pending < length s.connection.pending → Joins q t) → Joins q s
join_by q s None open_ e ih = let here : drained s ≡ gives [] s = drained_none s e in rw here refl
join_by q s (Some o) open_ e ih =
    let fed_first : drained (fed q s) ≡ behind_effects o.effects (drained (come q o.state)) = drained_more (fed q s) (gives o.effects (come q o.state)) (step_more s q o open_ e) in
    let first : drained s ≡ behind_effects o.effects (drained o.state) = drained_more s o e in
    let others : Joins q o.state = ih o.state (next_shorter s o e) in
    rw (come_open q s open_, first) (fed_first ∙ (ap (behind_effects o.effects) others ∙ behind_behind o.effects (drained o.state).effects (drained (come q (drained o.state).state))))

joins_phase : (q : List ℕ) (s : State) (t : Bool) → is_disconnected s.connection.phase ≡ t → ((u : State) → length u.connection.pending < length s.connection.pending → Joins q u) → Joins q s
joins_phase q s true e ih = join_gone q s e
joins_phase q s false e ih = join_by q s (next_of s) e refl ih

joins_within : (n : ℕ) (q : List ℕ) (s : State) → length s.connection.pending < n → Joins q s
joins_within zero q s h = absurd (omega (arith, h))
joins_within (suc n) q s h = joins_phase q s (is_disconnected s.connection.phase) refl (λ t less. joins_within n q t (omega (arith, less, h)))

pub joins : (q : List ℕ) (s : State) → Joins q s
joins q s = joins_within (length s.connection.pending + 1) q s (omega arith)

-- in two chunks or in one
pub two_chunks : (p q : List ℕ) (s : State) → is_disconnected s.connection.phase ≡ false → chunk_in (p ++ q) s ≡ behind_effects (chunk_in p s).effects (drained (come q (chunk_in p s).state))
two_chunks p q s open_ =
    let whole : fed (p ++ q) s ≡ come q (fed p s) = ap (λ (bytes : List ℕ). record s { connection = record { phase = s.connection.phase; pending = bytes } }) (sym (append_assoc s.connection.pending p q)) ∙ sym (come_open q (fed p s) open_) in
    ap drained whole ∙ joins q (fed p s)
