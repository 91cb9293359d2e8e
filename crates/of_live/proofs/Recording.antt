-- The events of turns, as one run.
use Rattle.std.proofs.Common.{◌≡◌, ◌∙◌, ℕ, List, [], ◌∷◌, ◌++◌, Bool, true, false, Option, Some, None as Nobody, Result, Ok, Err, ap, refl, sym, append_assoc}
use Rattle.std.{specs.Prelude.map, specs.Prelude.nat_lt, specs.Prelude.if◌then◌else◌, specs.List.flat_map, specs.List.AllByRecursion, proofs.lemmas.List.append-nil, proofs.lemmas.List.map-append}
use Rattle.std.proofs.lemmas.List.Concat.{flat_map-append}
use Rattle.of_live.specs.Live.{Live, begun, is_lost_first, loss, peers_of, received_datagram}
use Rattle.of_live.specs.Turns.{LiveTurn, LiveTurns, None, Then, turn_acts, closes, dropped_in, dropped_of, drops, live_effects, is_closed, is_written, logs, offered, passed, rows_text, sent_acts, sent_in, sent_to, after_live_turns, writes}
use Rattle.of_live.specs.{Header.Encapsulated, Header.carried, Header.sent_header, Inputs.Came, Inputs.Time, Inputs.Datagram, Peers.peer_of}
use Rattle.of_live.specs.{Hearing.Hearing, Hearing.events_of, Hearing.after_hearing, Hearing.heard_events, declared.network.Dropped.Dropped, declared.peers.Peer.Peer}
use Rattle.of_live.specs.{Acts.Act, Acts.Drops, Acts.Sends, Acts.Writes, Recorded.effects, Recorded.events, Recorded.log_of, Recorded.logged_rows}
use Rattle.of_live.proofs.{Doing.run_then, Messages.heard_state}
use Rattle.of_datapath.specs.declared.effect.Effect.{Effect}
use Rattle.of_datapath.specs.declared.effect.Effect.TheVariants as effect
use Rattle.of_switch.specs.Runs.{Report, Gives, IsRefused, Run, run, effects_in}
use Rattle.of_switch.specs.{declared.event.Event.Event, State.State, Steps.lost}
use Rattle.of_replay.specs.{Lexing.lines_of_file, Rows.rows_of_lines, Rows.events_in as row_events, WrittenRows.HasLine, WrittenRows.file_text, WrittenRows.row_text}
use Rattle.of_live.specs.declared.network.Dropped.TheVariants as dropped

-- A LOSS FIRST, which gives nothing

-- the switch after it
gone : Bool → Live → Live
gone x l = if x then record l { state = lost l.state; unheard = []; waiting = []; over = false } else l

lost_state : (x : Bool) (es : List Event) (l : Live) → (run (loss x ++ es) l.state).state ≡ (run es (gone x l).state).state
unfolding gone
lost_state true es l = refl
lost_state false es l = refl

lost_effects : (x : Bool) (es : List Event) (l : Live) → effects_in (run (loss x ++ es) l.state).reports ≡ effects_in (run es (gone x l).state).reports
unfolding gone
lost_effects true es l = refl
lost_effects false es l = refl

turn_state : (h : Hearing) (l : Live) → (run (events_of h l) l.state).state ≡ (after_hearing h l).state
unfolding gone
turn_state h l = lost_state (is_lost_first h.came l) (heard_events h (begun h.came l)) l ∙ sym (heard_state h l)

turn_effects : (h : Hearing) (l : Live) → effects_in (run (events_of h l) l.state).reports ≡ live_effects h l
unfolding gone
turn_effects h l = lost_effects (is_lost_first h.came l) (heard_events h (begun h.came l)) l

-- TURNS

effects_then : (xs ys : List Report) → effects_in (xs ++ ys) ≡ effects_in xs ++ effects_in ys
effects_then [] ys = refl
effects_then (Gives es ∷ xs) ys = ap (λ zs. es ++ zs) (effects_then xs ys) ∙ sym (append_assoc es (effects_in xs) (effects_in ys))
effects_then (IsRefused refusal ∷ xs) ys = effects_then xs ys

pub state_is : (l : Live) (ts : LiveTurns) → (after_live_turns l ts).state ≡ (run (events l ts) l.state).state
state_is l None = refl
state_is l (Then ts t) =
    sym (turn_state t.hearing (after_live_turns l ts))
    ∙ (ap (λ (s : State). (run (events_of t.hearing (after_live_turns l ts)) s).state) (state_is l ts)
    ∙ ap (λ (r : Run). r.state) (sym (run_then (events l ts) (events_of t.hearing (after_live_turns l ts)) l.state)))

pub effects_are : (l : Live) (ts : LiveTurns) → effects l ts ≡ effects_in (run (events l ts) l.state).reports
effects_are l None = refl
effects_are l (Then ts t) =
    let more = events_of t.hearing (after_live_turns l ts) in
    let first = run (events l ts) l.state in
    ap (λ (es : List Effect). es ++ live_effects t.hearing (after_live_turns l ts)) (effects_are l ts)
    ∙ (ap (λ (es : List Effect). effects_in first.reports ++ es)
    (sym (turn_effects t.hearing (after_live_turns l ts)) ∙ ap (λ (s : State). effects_in (run more s).reports) (state_is l ts))
    ∙ (sym (effects_then first.reports (run more first.state).reports)
    ∙ ap (λ (r : Run). effects_in r.reports) (sym (run_then (events l ts) more l.state))))

-- THE LOG

-- of other acts it has nothing
joined : (xs ys : List Act) → log_of (xs ++ ys) ≡ log_of xs ++ log_of ys
joined xs ys = flat_map-append logged_rows xs ys

none_more : (xs ys : List Act) → log_of ys ≡ [] → log_of (xs ++ ys) ≡ log_of xs
none_more xs ys e = joined xs ys ∙ (ap (λ bs. log_of xs ++ bs) e ∙ append-nil (log_of xs))

none_dropped : (r : Result Encapsulated Dropped) → log_of (dropped_in r) ≡ []
none_dropped (Ok d) = refl
none_dropped (Err why) = refl

none_drops : (came : Came) (l : Live) → log_of (dropped_of came l) ≡ []
none_drops (Datagram from bytes) l = none_dropped (received_datagram l from (carried bytes))
none_drops (Time now) l = refl
none_drops other l = refl

none_sent : (peers : List Peer) (e : Effect) → log_of (sent_in peers e) ≡ []
none_sent peers (effect.Sent port frame) = none_to port frame (peer_of port peers)
  where
    none_if : (port : ℕ) (frame : List ℕ) (p : Peer) (x : Bool) → log_of ((if x then Sends p.endpoint (sent_header port ++ frame) else Drops dropped.NoPeer) ∷ []) ≡ []
    none_if port frame p true = refl
    none_if port frame p false = refl

    none_to : (port : ℕ) (frame : List ℕ) (to : Option Peer) → log_of (sent_to port frame to ∷ []) ≡ []
    none_to port frame Nobody = refl
    none_to port frame (Some p) = none_if port frame p (nat_lt port 16777216)
none_sent peers (effect.Answer bytes) = refl
none_sent peers other = refl

none_sends : (peers : List Peer) (es : List Effect) → log_of (flat_map (sent_in peers) es) ≡ []
none_sends peers [] = refl
none_sends peers (e ∷ es) = joined (sent_in peers e) (flat_map (sent_in peers) es) ∙ (ap (λ bs. bs ++ log_of (flat_map (sent_in peers) es)) (none_sent peers e) ∙ none_sends peers es)

none_if_written : (x : Bool) (bytes : List ℕ) (taken : ℕ) (failed : Bool) → log_of (if x then Writes bytes taken failed ∷ [] else []) ≡ []
none_if_written true bytes taken failed = refl
none_if_written false bytes taken failed = refl

none_closed : (x : Bool) → log_of (closes x) ≡ []
none_closed true = refl
none_closed false = refl

logged : (es : List Event) → log_of (logs true es) ≡ rows_text es
logged [] = refl
logged (e ∷ es) = append-nil (rows_text (e ∷ es))

turn_rows : (t : LiveTurn) (l : Live) → log_of (turn_acts true t l) ≡ rows_text (events_of t.hearing l)
turn_rows t l =
    let front = drops t.hearing.came l ++ logs true (events_of t.hearing l) in
    none_more (front ++ sent_acts t.hearing l ++ writes t l) (closes (is_closed t l)) (none_closed (is_closed t l))
    ∙ (none_more (front ++ sent_acts t.hearing l) (writes t l) (none_if_written (is_written t.hearing l) (offered t.hearing l) t.taken t.failed)
    ∙ (none_more front (sent_acts t.hearing l) (none_sends (peers_of t.hearing.came (begun t.hearing.came l)) (live_effects t.hearing l))
    ∙ (joined (drops t.hearing.came l) (logs true (events_of t.hearing l))
    ∙ (ap (λ bs. bs ++ log_of (logs true (events_of t.hearing l))) (none_drops t.hearing.came (begun t.hearing.came l)) ∙ logged (events_of t.hearing l)))))

rows_then : (es fs : List Event) → rows_text (es ++ fs) ≡ rows_text es ++ rows_text fs
rows_then es fs =
    ap (flat_map (λ row. row_text row ++ 10 ∷ [])) (map-append Some es fs) ∙ flat_map-append (λ row. row_text row ++ 10 ∷ []) (map Some es) (map Some fs)

pub rows_are : (l : Live) (ts : LiveTurns) → log_of (passed true l ts) ≡ rows_text (events l ts)
rows_are l None = refl
rows_are l (Then ts t) =
    joined (passed true l ts) (turn_acts true t (after_live_turns l ts))
    ∙ (ap (λ bs. bs ++ log_of (turn_acts true t (after_live_turns l ts))) (rows_are l ts)
    ∙ (ap (λ bs. rows_text (events l ts) ++ bs) (turn_rows t (after_live_turns l ts))
    ∙ sym (rows_then (events l ts) (events_of t.hearing (after_live_turns l ts)))))

all_events : (es : List Event) → flat_map row_events (map Some es) ≡ es
all_events [] = refl
all_events (e ∷ es) = ap (λ (fs : List Event). e ∷ fs) (all_events es)

pub read_are : ((rows : List (Option Event)) → AllByRecursion HasLine rows → rows_of_lines (lines_of_file (file_text rows)) ≡ record { events = flat_map row_events rows; bad = Nobody })
    → (l : Live) (ts : LiveTurns) → AllByRecursion HasLine (map Some (events l ts)) → rows_of_lines (lines_of_file (log_of (passed true l ts))) ≡ record { events = events l ts; bad = Nobody }
read_are again l ts h =
    ap (λ bs. rows_of_lines (lines_of_file bs)) (rows_are l ts)
    ∙ (again (map Some (events l ts)) h ∙ ap (λ (es : List Event). record { events = es; bad = Nobody }) (all_events (events l ts)))
