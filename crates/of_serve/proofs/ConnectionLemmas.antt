-- What connections take: all that they are answered, or a prefix of that.
use Rattle.std.proofs.Common.{◌≡◌, ℕ, ◌+◌, Bool, true, false, List, [], ◌∷◌, ◌++◌, length, Option, Some, refl, ◌∙◌, ap, subst, append_assoc, arith}
use Rattle.std.{specs.Prelude.◌||◌, specs.Prelude.map, specs.Prelude.if◌then◌else◌, proofs.lemmas.List.append-nil}
use Rattle.of_session.specs.Session.{is_disconnected, alone}
use Rattle.of_switch.specs.{declared.event.Event.TheVariants.Lost, Steps.without_connection, State.State, declared.event.Event.Event}
use Rattle.of_serve.specs.declared.peers.Accepted.TheVariants as accepted
use Rattle.of_serve.specs.Turns.{Gathered, gathered, broken, Input, Accepts, Reads, IsServeInput, IsTaken, ServeState, ServeTurn, IsServeTurn, given_by_input, after_serve_turn, Cut, cut_events, TurnKnowledge as OfTurn, Time, All, IsTurnKnowledge, known_events, then_known, CutTurn, IsCutTurn, cut_given, AreServeTurns, ServeTurns, failures, after_serve_turns, then_in, took, breaks}
use Rattle.of_serve.specs.Connections.{ServedConnection, connections_begun, answered, connections, begun_known, cut_connections, broken_among, AllTookPrefixes}
use Rattle.of_serve.specs.{Told.onto, Told.then_onto, Turns.ServeTurns.None as NoTurns, Turns.ServeTurns.Then}

-- a loss leaves no connection
loses_by : (s : State) (b : Bool) → is_disconnected s.connection.phase ≡ b → is_disconnected (if b then s else (record { connection = alone; core = without_connection s.core })).connection.phase ≡ true
loses_by s true e = e
loses_by s false e = refl

lost_leaves : (g : Gathered) → is_disconnected (gathered (Lost ∷ []) g).state.connection.phase ≡ true
lost_leaves g = loses_by g.state (is_disconnected g.state.connection.phase) refl

-- a write fails only where there are answers
none_breaks : (taken : List ℕ) → IsTaken true taken [] → ⊥
none_breaks [] h = let none : h.0 ≡ [] = h.2 in absurd (omega (arith, h.1, ap (λ (x : List ℕ). length x) none))
none_breaks (x ∷ taken) h = let e : x ∷ (taken ++ h.0) ≡ [] = h.2 in cc

none_taken : (broke : Bool) (taken : List ℕ) → IsTaken broke taken [] → taken ≡ []
none_taken false taken h = h
none_taken true taken h = absurd (none_breaks taken h)

-- what was taken before, and then more: where a write failed before, there is nothing more
joined : (b c : Bool) (t u a d : List ℕ) → (b ≡ true → d ≡ []) → IsTaken b t a → IsTaken c u d → IsTaken (b || c) (t ++ u) (a ++ d)
joined false false t u a d nothing h k = ap (λ (x : List ℕ). x ++ u) h ∙ ap (λ (x : List ℕ). a ++ x) k
joined false true t u a d nothing h k = (k.0, k.1, append_assoc t u k.0 ∙ (ap (λ (x : List ℕ). x ++ (u ++ k.0)) h ∙ ap (λ (x : List ℕ). a ++ x) k.2))
joined true c t u a [] nothing h k =
    let none : u ≡ [] = none_taken c u k in
    (h.0, h.1, rw (none, append-nil t, append-nil a) h.2)
joined true c t u a (x ∷ d) nothing h k = let e : x ∷ d ≡ [] = nothing refl in cc

-- to the newest a write failed; or there is none, and the switch began without a connection
abbrev newest_broke : Bool → List ServedConnection → Bool
newest_broke apart [] = apart
newest_broke apart (c ∷ cs) = c.broke

-- a connection to which a write failed is closed
record Known (apart : Bool) (cs : List ServedConnection) (s : State) : Type 0 where
  fronts : AllTookPrefixes cs
  gone : newest_broke apart cs ≡ true → is_disconnected s.connection.phase ≡ true

fronts_of : (apart : Bool) (ds taken : List ℕ) (broke : Bool) (cs : List ServedConnection) → AllTookPrefixes cs → (newest_broke apart cs ≡ true → ds ≡ []) → IsTaken broke taken ds → AllTookPrefixes (answered ds taken broke cs)
fronts_of apart ds taken broke [] all nothing h = tt
fronts_of apart ds taken broke (c ∷ cs) all nothing h = (joined c.broke broke c.taken taken c.answered ds nothing all.0 h, all.1)

or_false : (b : Bool) → (b || false) ≡ true → b ≡ true
or_false true h = refl
or_false false h = h

gone_of : (apart : Bool) (ds taken : List ℕ) (broke : Bool) (cs : List ServedConnection) (g : Gathered) → (newest_broke apart cs ≡ true → is_disconnected g.state.connection.phase ≡ true)
    → newest_broke apart (answered ds taken broke cs) ≡ true → is_disconnected (gathered (broken broke) g).state.connection.phase ≡ true
gone_of apart ds taken true cs g nothing h = lost_leaves g
gone_of apart ds taken false [] g nothing h = nothing h
gone_of apart ds taken false (c ∷ cs) g nothing h = nothing (or_false c.broke h)

-- where a write failed before a turn, the turn has no answers, unless it begins a connection
no_answers : (apart : Bool) (input : Input) (s : ServeState) (cs : List ServedConnection) → IsServeInput input s.state → (newest_broke apart cs ≡ true → is_disconnected s.state.connection.phase ≡ true)
    → newest_broke apart (connections_begun input cs) ≡ true → (given_by_input input s).answers ≡ []
no_answers apart (Accepts accepted.Open) s cs is gone h = absurd (let e : false ≡ true = h in cc)
no_answers apart (Accepts accepted.Nothing) s cs is gone h = refl
no_answers apart (Accepts accepted.Fault) s cs is gone h = refl
no_answers apart (Reads now answer) s cs is gone h = let e : is_disconnected s.state.connection.phase ≡ true = gone h in absurd cc

still_gone : (apart : Bool) (input : Input) (s : ServeState) (cs : List ServedConnection) → IsServeInput input s.state → (newest_broke apart cs ≡ true → is_disconnected s.state.connection.phase ≡ true)
    → newest_broke apart (connections_begun input cs) ≡ true → is_disconnected (given_by_input input s).state.connection.phase ≡ true
still_gone apart (Accepts accepted.Open) s cs is gone h = absurd (let e : false ≡ true = h in cc)
still_gone apart (Accepts accepted.Nothing) s cs is gone h = gone h
still_gone apart (Accepts accepted.Fault) s cs is gone h = gone h
still_gone apart (Reads now answer) s cs is gone h = let e : is_disconnected s.state.connection.phase ≡ true = gone h in absurd cc

begun_fronts : (input : Input) (cs : List ServedConnection) → AllTookPrefixes cs → AllTookPrefixes (connections_begun input cs)
begun_fronts (Accepts accepted.Open) cs all = (refl, all)
begun_fronts (Accepts accepted.Nothing) cs all = all
begun_fronts (Accepts accepted.Fault) cs all = all
begun_fronts (Reads now answer) cs all = all

known_after : (apart : Bool) (t : ServeTurn) (s : ServeState) (cs : List ServedConnection) → IsServeTurn t s → Known apart cs s.state
    → Known apart (answered (given_by_input t.input s).answers t.taken t.broke (connections_begun t.input cs)) (after_serve_turn t s).state
known_after apart t s cs is k = record {
  fronts = fronts_of apart (given_by_input t.input s).answers t.taken t.broke (connections_begun t.input cs) (begun_fronts t.input cs k.fronts) (no_answers apart t.input s cs is.input k.gone) is.taken;
  gone = gone_of apart (given_by_input t.input s).answers t.taken t.broke (connections_begun t.input cs) (given_by_input t.input s) (still_gone apart t.input s cs is.input k.gone);
}

known : (apart : Bool) (s : ServeState) (ts : ServeTurns) → (apart ≡ true → is_disconnected s.state.connection.phase ≡ true) → AreServeTurns s ts → Known apart (connections s ts) (after_serve_turns s ts).state
known apart s NoTurns begins are = record { fronts = tt; gone = begins }
known apart s (Then ts t) begins are = known_after apart t (after_serve_turns s ts) (connections s ts) are.1 (known apart s ts begins are.0)

with_any : (s : ServeState) → false ≡ true → is_disconnected s.state.connection.phase ≡ true
with_any s e = absurd (let h : false ≡ true = e in cc)

pub fronts : (s : ServeState) (ts : ServeTurns) → AreServeTurns s ts → AllTookPrefixes (connections s ts)
fronts s ts are = (known false s ts (with_any s) are).fronts

-- HOW MANY WRITES FAILED

kept : (b : Bool) (n : ℕ) → (n + failures b) + 0 ≡ n + failures (b || false)
kept false n = omega arith
kept true n = omega arith

one_more : (ds taken : List ℕ) (b : Bool) (n : ℕ) → (b ≡ true → ds ≡ []) → IsTaken true taken ds → (n + failures b) + 1 ≡ n + failures (b || true)
one_more ds taken false n nothing h = omega arith
one_more ds taken true n nothing h = absurd (none_breaks taken (subst (λ (x : List ℕ). IsTaken true taken x) (nothing refl) h))

begun_broken : (input : Input) (cs : List ServedConnection) → broken_among cs ≡ broken_among (connections_begun input cs)
begun_broken (Accepts accepted.Open) cs = omega arith
begun_broken (Accepts accepted.Nothing) cs = refl
begun_broken (Accepts accepted.Fault) cs = refl
begun_broken (Reads now answer) cs = refl

begun_known_broken : (known : OfTurn) (cs : List ServedConnection) → broken_among cs ≡ broken_among (begun_known known cs)
begun_known_broken (Time now) cs = refl
begun_known_broken (All input) cs = begun_broken input cs

-- one more where a write of a turn failed, which has answers then
broken_more : (ds taken : List ℕ) (broke : Bool) (cs : List ServedConnection) → (newest_broke true cs ≡ true → ds ≡ []) → IsTaken broke taken ds
    → broken_among cs + failures broke ≡ broken_among (answered ds taken broke cs)
broken_more ds taken false [] nothing h = refl
broken_more ds taken true [] nothing h = absurd (none_breaks taken (subst (λ (x : List ℕ). IsTaken true taken x) (nothing refl) h))
broken_more ds taken false (c ∷ cs) nothing h = kept c.broke (broken_among cs)
broken_more ds taken true (c ∷ cs) nothing h = one_more ds taken c.broke (broken_among cs) nothing h

pub failed : (s : ServeState) (ts : ServeTurns) → is_disconnected s.state.connection.phase ≡ true → AreServeTurns s ts → breaks ts ≡ broken_among (connections s ts)
failed s NoTurns apart are = refl
failed s (Then ts t) apart are =
    let x = after_serve_turns s ts in
    let cs = connections s ts in
    ap (λ (n : ℕ). n + failures t.broke) (failed s ts apart are.0 ∙ begun_broken t.input cs)
    ∙ broken_more (given_by_input t.input x).answers t.taken t.broke (connections_begun t.input cs) (no_answers true t.input x cs are.1.input (known true s ts (λ e. apart) are.0).gone) are.1.taken

-- WITH A TURN THAT RUNNING OUT OF MEMORY CUT SHORT

some_event : (done others : List Event) (e : Event) → done ++ e ∷ others ≡ [] → ⊥
some_event [] others e h = let none : e ∷ others ≡ [] = h in cc
some_event (d ∷ done) others e h = let none : d ∷ (done ++ e ∷ others) ≡ [] = h in cc

no_cut_answers : (apart : Bool) (known : OfTurn) (c : Cut) (s : ServeState) (cs : List ServedConnection) → IsTurnKnowledge known s.state → cut_events c ≡ known_events known s.rows → (newest_broke apart cs ≡ true → is_disconnected s.state.connection.phase ≡ true)
    → newest_broke apart (begun_known known cs) ≡ true → (cut_given c s).answers ≡ []
no_cut_answers apart (Time now) c s cs is events gone h = let e : is_disconnected s.state.connection.phase ≡ true = gone h in absurd cc
no_cut_answers apart (All (Accepts accepted.Open)) c s cs is events gone h = absurd (let e : false ≡ true = h in cc)
no_cut_answers apart (All (Accepts accepted.Nothing)) c s cs is events gone h = absurd (some_event c.done c.others c.event events)
no_cut_answers apart (All (Accepts accepted.Fault)) c s cs is events gone h = absurd (some_event c.done c.others c.event events)
no_cut_answers apart (All (Reads now answer)) c s cs is events gone h = let e : is_disconnected s.state.connection.phase ≡ true = gone h in absurd cc

begun_known_fronts : (known : OfTurn) (cs : List ServedConnection) → AllTookPrefixes cs → AllTookPrefixes (begun_known known cs)
begun_known_fronts (Time now) cs all = all
begun_known_fronts (All input) cs all = begun_fronts input cs all

pub cut_prefixes : (s : ServeState) (ts : ServeTurns) (t : CutTurn) → AreServeTurns s ts → IsCutTurn t (after_serve_turns s ts) → AllTookPrefixes (cut_connections s ts t)
cut_prefixes s ts t are is =
    let k = known false s ts (with_any s) are in
    let cs = connections s ts in
    fronts_of false (cut_given t.cut (after_serve_turns s ts)).answers t.taken t.broke (begun_known t.known cs) (begun_known_fronts t.known cs k.fronts)
    (no_cut_answers false t.known t.cut (after_serve_turns s ts) cs is.known is.events k.gone) is.taken

pub cut_failed : (s : ServeState) (ts : ServeTurns) (t : CutTurn) → is_disconnected s.state.connection.phase ≡ true → AreServeTurns s ts → IsCutTurn t (after_serve_turns s ts)
    → breaks ts + failures t.broke ≡ broken_among (cut_connections s ts t)
cut_failed s ts t apart are is =
    let x = after_serve_turns s ts in
    let cs = connections s ts in
    ap (λ (n : ℕ). n + failures t.broke) (failed s ts apart are ∙ begun_known_broken t.known cs)
    ∙ broken_more (cut_given t.cut x).answers t.taken t.broke (begun_known t.known cs)
    (no_cut_answers true t.known t.cut x cs is.known is.events (known true s ts (λ e. apart) are).gone) is.taken

-- WHAT PEERS RECORD OF IT

abbrev taken_of : List ServedConnection → List (List ℕ)
taken_of cs = map (λ c. c.taken) cs

begun_taken : (input : Input) (cs : List ServedConnection) → then_in (Some (taken_of cs)) input ≡ Some (taken_of (connections_begun input cs))
begun_taken (Accepts accepted.Open) cs = refl
begun_taken (Accepts accepted.Nothing) cs = refl
begun_taken (Accepts accepted.Fault) cs = refl
begun_taken (Reads now answer) cs = refl

answered_taken : (ds taken : List ℕ) (broke : Bool) (cs : List ServedConnection) → onto taken (taken_of cs) ≡ taken_of (answered ds taken broke cs)
answered_taken ds taken broke [] = refl
answered_taken ds taken broke (c ∷ cs) = refl

pub taken : (s : ServeState) (ts : ServeTurns) → took (Some []) ts ≡ Some (map (λ c. c.taken) (connections s ts))
taken s NoTurns = refl
taken s (Then ts t) =
    ap (λ (known : Option (List (List ℕ))). then_onto (then_in known t.input) t.taken) (taken s ts)
    ∙ (ap (λ (known : Option (List (List ℕ))). then_onto known t.taken) (begun_taken t.input (connections s ts))
    ∙ ap Some (answered_taken (given_by_input t.input (after_serve_turns s ts)).answers t.taken t.broke (connections_begun t.input (connections s ts))))

begun_known_taken : (known : OfTurn) (cs : List ServedConnection) → then_known (Some (taken_of cs)) known ≡ Some (taken_of (begun_known known cs))
begun_known_taken (Time now) cs = refl
begun_known_taken (All input) cs = begun_taken input cs

pub cut_taken : (s : ServeState) (ts : ServeTurns) (t : CutTurn) → then_onto (then_known (took (Some []) ts) t.known) t.taken ≡ Some (map (λ c. c.taken) (cut_connections s ts t))
cut_taken s ts t =
    ap (λ (known : Option (List (List ℕ))). then_onto (then_known known t.known) t.taken) (taken s ts)
    ∙ (ap (λ (known : Option (List (List ℕ))). then_onto known t.taken) (begun_known_taken t.known (connections s ts))
    ∙ ap Some (answered_taken (cut_given t.cut (after_serve_turns s ts)).answers t.taken t.broke (begun_known t.known (connections s ts))))
