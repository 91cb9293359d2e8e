-- Steps of a turn, and turns one after the other.
use Rattle.std.proofs.Common.{◌≡◌, ◌⊎◌, inl, inr, ℕ, ◌+◌, ◌≤◌, Bool, true, false, List, [], ◌∷◌, ◌++◌, length, Option, Some, None, Result, Ok, Err, refl, sym, ◌∙◌, ap, subst, arith}
use Rattle.std.specs.Prelude.{OnOk, OnErr, not, ◌<◌, ◌↔◌}
use Rattle.std.{specs.declared.alloc.AllocError.AllocError, specs.Io.KnownBytes.Appends, specs.Io.KnownBytes.append_known, proofs.lemmas.List.append-nil}
use Rattle.of_session.specs.Session.{is_disconnected}
use Rattle.of_switch.specs.{declared.event.Event.Event, declared.event.Event.TheVariants.Connect, declared.event.Event.TheVariants.Moment, declared.event.Event.TheVariants.Lost, State.State}
use Rattle.of_switch.specs.Runs.{happened}
use Rattle.of_replay.specs.declared.event_file.Ended.TheVariants.{Done, BadRow, ReadFault, WriteFault, NoMemory}
use Rattle.of_replay.specs.{declared.event_file.Ended.Ended, declared.halt.Halt.Halt}
use Rattle.of_replay.specs.declared.halt.Halt.TheVariants.{Bad, Memory, Read as ReadHalt, Write}
use Rattle.of_replay.{specs.Told.Answer, specs.Transfer.WrotePrefix, specs.Stepping.ended_so, proofs.TellingLemmas.appends-none, proofs.TellingLemmas.appends-then}
use Rattle.of_serve.specs.declared.peers.Accepted.TheVariants as accepted
use Rattle.of_serve.specs.Told.{PeerCame, accept_came, Answered, then_told, then_begun, then_onto}
use Rattle.of_serve.specs.Turns.{Gathered, gather, gathered, nothing_pending, broken, given_by_input, cut_state, failures, due, left, heard, input_events, ServeState, standing, ServeTurn, IsTaken, IsServeTurn, Accepts, Reads, came_in, time_in, then_in, Time, All, known_came, known_times, then_known, CutTurn, cut_given, ServeTurns, after_serve_turns, turns_came, times, took, sent_lines}
use Rattle.of_serve.specs.Serves.{Tells, tells, CutShort, Passed, Serves}
use Rattle.of_serve.specs.Gathering.{CutIn, HandlesRead, TellsReads, CutsReads, Opens, OrMemory, Learns, Cuts, Inputs, IsAnswered, ServeGoesOn, TurnStops, StopsShort, StopsShorter, ServeGoes, Counts, CountsAcceptFailure, WriteFails, SoFar}
use Rattle.of_serve.{specs.Turns.ServeTurns.None as NoTurns, specs.Turns.ServeTurns.Then, proofs.CutLemmas.cut_later}
use Rattle.of_serve.proofs.TurnLemmas.{told-nil, told-told, gathered_more}

-- A READ

pub read_told : (result : Result (Unit {0}) AllocError) (g g1 g2 g3 : Gathered) (rows rest : List Event) (came came' : Option (List PeerCame)) (times times' : Option (List ℕ)) (now : ℕ)
    → g1 ≡ gather (happened (Moment now) g.state) g → g2 ≡ gathered (due now rows) g1 → rest ≡ left now rows → times' ≡ then_told times (now ∷ []) → HandlesRead result g2 g3 came came'
    → OnOk result (TellsReads g g3 rows rest came came' times times')
read_told (Ok u) g g1 g2 g3 rows rest came came' times times' now e1 e2 r t h = record {
  now = now;
  answer = h.answer;
  came_is = h.came_is;
  times_are = t;
  handled = h.handled ∙ (ap (gathered (heard h.answer)) (e2 ∙ ap (gathered (due now rows)) e1) ∙ sym (gathered_more (due now rows) (heard h.answer) (gather (happened (Moment now) g.state) g)));
  rest_is = r;
}
read_told (Err e) g g1 g2 g3 rows rest came came' times times' now e1 e2 r t h = tt

pub not_read : (g g' : Gathered) (rows : List Event) (came : Option (List PeerCame)) (times times' : Option (List ℕ)) (now : ℕ) → times' ≡ then_told times (now ∷ []) → CutIn (Moment now ∷ due now rows) g g'
    → CutsReads g g' rows came came times times'
not_read g g' rows came times times' now e c = record { now = now; times_are = e; cut = inl (refl, c) }

pub read_cuts : (result : Result (Unit {0}) AllocError) (g g1 g2 g3 : Gathered) (rows : List Event) (came came' : Option (List PeerCame)) (times times' : Option (List ℕ)) (now : ℕ)
    → g1 ≡ gather (happened (Moment now) g.state) g → g2 ≡ gathered (due now rows) g1 → times' ≡ then_told times (now ∷ []) → HandlesRead result g2 g3 came came'
    → OnErr result (CutsReads g g3 rows came came' times times')
read_cuts (Ok u) g g1 g2 g3 rows came came' times times' now e1 e2 t h = tt
read_cuts (Err e) g g1 g2 g3 rows came came' times times' now e1 e2 t h = record {
  now = now;
  times_are = t;
  cut = inr (h.answer, h.came_is, cut_later (Moment now ∷ due now rows) (heard h.answer) g g2 g3 (e2 ∙ ap (gathered (due now rows)) e1) h.cut);
}

-- AN ACCEPT THAT OPENED

pub opens : (done : Result (Unit {0}) AllocError) (result : Result (Unit {0}) Halt) (g g' : Gathered) (came came' : Option (List PeerCame)) (took took' : Option (List (List ℕ)))
    → OrMemory done result → came' ≡ then_told came (accept_came accepted.Open ∷ []) → took' ≡ then_begun took accepted.Open → OnOk done (g' ≡ gather (happened Connect g.state) g)
    → OnErr done (CutIn (Connect ∷ []) g g') → Opens result g g' came came' took took'
opens (Ok u) result g g' came came' took took' is e k ok err = subst (λ (x : Result (Unit {0}) Halt). Opens x g g' came came' took took') (sym is) (accepted.Open, e, k, ok)
opens (Err x) result g g' came came' took took' is e k ok err = subst (λ (x : Result (Unit {0}) Halt). Opens x g g' came came' took took') (sym is) (e, k, err)

-- THE INPUT OF A TURN

-- memory ran out in a turn with a connection
read_inputs : (g0 g g' : Gathered) (rows rest : List Event) (came came' : Option (List PeerCame)) (times times' : Option (List ℕ)) (took took' : Option (List (List ℕ))) (failed failed' : ℕ) (wrote : Option (List ℕ)) (now : ℕ)
    → g ≡ nothing_pending g0.state → is_disconnected g0.state.connection.phase ≡ false → times' ≡ then_told times (now ∷ []) → took' ≡ took → failed' ≡ failed
    → ((came' ≡ came) × CutIn (Moment now ∷ due now rows) g g') ⊎ ((answer : Answer) × (came' ≡ then_told came (Answered answer ∷ [])) × CutIn (input_events (Reads now answer) rows) g g')
    → Inputs (Err Memory) (standing g0.state rows) g' rest (tells came times took failed wrote) (tells came' times' took' failed' wrote)
read_inputs g0 g g' rows rest came came' times times' took took' failed failed' wrote now e stands t k f (inl c) = record {
  known = Time now;
  is_known = stands;
  cut = subst (λ (x : Gathered). CutIn (Moment now ∷ due now rows) x g') e c.1;
  came_is = c.0 ∙ sym (told-nil came);
  times_are = t;
  took_is = k;
  failed_is = f;
  wrote_is = refl;
}
read_inputs g0 g g' rows rest came came' times times' took took' failed failed' wrote now e stands t k f (inr c) = record {
  known = All (Reads now c.0);
  is_known = stands;
  cut = subst (λ (x : Gathered). CutIn (input_events (Reads now c.0) rows) x g') e c.2;
  came_is = c.1;
  times_are = t;
  took_is = k;
  failed_is = f;
  wrote_is = refl;
}

pub inputs_read : (done : Result (Unit {0}) AllocError) (result : Result (Unit {0}) Halt) (g0 g' : Gathered) (rows rest : List Event) (came came' : Option (List PeerCame)) (times times' : Option (List ℕ)) (took took' : Option (List (List ℕ))) (failed failed' : ℕ) (wrote : Option (List ℕ))
    → OrMemory done result → g0 ≡ nothing_pending g0.state → is_disconnected g0.state.connection.phase ≡ false
    → OnOk done (TellsReads g0 g' rows rest came came' times times') → OnErr done (CutsReads g0 g' rows came came' times times') → took' ≡ took → failed' ≡ failed
    → Inputs result (standing g0.state rows) g' rest (tells came times took failed wrote) (tells came' times' took' failed' wrote)
inputs_read (Ok u) result g0 g' rows rest came came' times times' took took' failed failed' wrote is empty stands t r k f =
    subst (λ (x : Result (Unit {0}) Halt). Inputs x (standing g0.state rows) g' rest (tells came times took failed wrote) (tells came' times' took' failed' wrote)) (sym is) (record {
      input = Reads t.now t.answer;
      is_input = stands;
      handled = t.handled ∙ ap (gathered (input_events (Reads t.now t.answer) rows)) empty;
      rest_is = t.rest_is;
      came_is = t.came_is;
      times_are = t.times_are;
      took_is = k;
      failed_is = f;
      wrote_is = refl;
    })
inputs_read (Err e) result g0 g' rows rest came came' times times' took took' failed failed' wrote is empty stands t r k f =
    subst (λ (x : Result (Unit {0}) Halt). Inputs x (standing g0.state rows) g' rest (tells came times took failed wrote) (tells came' times' took' failed' wrote)) (sym is)
    (read_inputs g0 g0 g' rows rest came came' times times' took took' failed failed' wrote r.now empty stands r.times_are k f r.cut)

pub inputs_accept : (result : Result (Unit {0}) Halt) (g0 g' : Gathered) (rows : List Event) (came came' : Option (List PeerCame)) (times : Option (List ℕ)) (took took' : Option (List (List ℕ))) (failed failed' : ℕ) (wrote : Option (List ℕ))
    → g0 ≡ nothing_pending g0.state → is_disconnected g0.state.connection.phase ≡ true → failed' ≡ failed → Opens result g0 g' came came' took took'
    → Inputs result (standing g0.state rows) g' rows (tells came times took failed wrote) (tells came' times took' failed' wrote)
inputs_accept (Ok u) g0 g' rows came came' times took took' failed failed' wrote empty stands f o = record {
  input = Accepts o.0;
  is_input = stands;
  handled = o.3 ∙ ap (gathered (input_events (Accepts o.0) rows)) empty;
  rest_is = refl;
  came_is = o.1;
  times_are = sym (told-nil times);
  took_is = o.2;
  failed_is = f;
  wrote_is = refl;
}
inputs_accept (Err (Bad n)) g0 g' rows came came' times took took' failed failed' wrote empty stands f o = o
inputs_accept (Err Memory) g0 g' rows came came' times took took' failed failed' wrote empty stands f o = record {
  known = All (Accepts accepted.Open);
  is_known = stands;
  cut = subst (λ (x : Gathered). CutIn (input_events (Accepts accepted.Open) rows) x g') empty o.2;
  came_is = o.0;
  times_are = sym (told-nil times);
  took_is = o.1;
  failed_is = f;
  wrote_is = refl;
}
inputs_accept (Err ReadHalt) g0 g' rows came came' times took took' failed failed' wrote empty stands f o = record { state_is = ap (λ (x : Gathered). x.state) (o.2 ∙ empty); came_is = o.0; times_are = refl; took_is = o.1; failed_is = f; wrote_is = refl }
inputs_accept (Err Write) g0 g' rows came came' times took took' failed failed' wrote empty stands f o = o

-- WHAT IT GIVES IS WRITTEN

pub answered_all : (g : Gathered) (bytes : List ℕ) (took took' : Option (List (List ℕ))) (failed failed' : ℕ) → bytes ≡ g.answers → took' ≡ then_onto took bytes → failed' ≡ failed + 0 → IsAnswered g g took took' failed failed'
answered_all g bytes took took' failed failed' e k f = record { taken = bytes; broke = false; is_taken = e; lost_is = refl; took_is = k; failed_is = f }

pub answered_lost : (g g' : Gathered) (bytes : List ℕ) (took took' : Option (List (List ℕ))) (failed failed' : ℕ) → bytes ≡ g.answers
    → (front : List ℕ) × (others : List ℕ) × (0 < length others) × (front ++ others ≡ bytes) × (took' ≡ then_onto took front) → g' ≡ gathered (Lost ∷ []) g → failed' ≡ failed + 1
    → IsAnswered g g' took took' failed failed'
answered_lost g g' bytes took took' failed failed' e k lost f = record { taken = k.0; broke = true; is_taken = (k.1, k.2, k.3 ∙ e); lost_is = lost; took_is = k.4; failed_is = f }

-- the loss of a connection sends no frame
lost_lines : (broke : Bool) (g : Gathered) → (gathered (broken broke) g).lines ≡ g.lines
lost_lines true g = append-nil g.lines
lost_lines false g = refl

same_lines : (g g' : Gathered) (took took' : Option (List (List ℕ))) (failed failed' : ℕ) → IsAnswered g g' took took' failed failed' → g'.lines ≡ g.lines
same_lines g g' took took' failed failed' a = ap (λ (x : Gathered). x.lines) a.lost_is ∙ lost_lines a.broke g

is_turn : (s : ServeState) (g g' : Gathered) (rest : List Event) (old now : Tells) (took took' : Option (List (List ℕ))) (failed failed' : ℕ) (l : Learns s g rest old now) (a : IsAnswered g g' took took' failed failed')
    → IsServeTurn (record { input = l.input; taken = a.taken; broke = a.broke }) s
is_turn s g g' rest old now took took' failed failed' l a = record {
  input = l.is_input;
  taken = subst (λ (x : Gathered). IsTaken a.broke a.taken x.answers) l.handled a.is_taken;
}

appends_same : (old old' : Option (List ℕ)) (text text' : List ℕ) (new : Option (List ℕ)) → old ≡ old' → text ≡ text' → Appends old new text → Appends old' new text'
appends_same old old' text text' new e t a = subst (λ (x : Option (List ℕ)). Appends x new text') e (subst (Appends old new) t a)

goes_on : (s : ServeState) (g g1 g2 : Gathered) (rest : List Event) (old : Tells) (came came' : Option (List PeerCame)) (times : Option (List ℕ)) (took took' : Option (List (List ℕ))) (failed failed' : ℕ) (wrote wrote' : Option (List ℕ))
    → Learns s g rest old (tells came times took failed wrote) → came' ≡ came → IsAnswered g g1 took took' failed failed' → Appends wrote wrote' g1.lines → g2 ≡ nothing_pending g1.state
    → ServeGoesOn s g2 rest old (tells came' times took' failed' wrote')
goes_on s g g1 g2 rest old came came' times took took' failed failed' wrote wrote' l e a w cleared = record {
  turn = record { input = l.input; taken = a.taken; broke = a.broke };
  is_turn = is_turn s g g1 rest old (tells came times took failed wrote) took took' failed failed' l a;
  handed = cleared ∙ ap (λ (x : Gathered). nothing_pending x.state) (a.lost_is ∙ ap (gathered (broken a.broke)) l.handled);
  rest_is = l.rest_is;
  came_is = e ∙ l.came_is;
  times_are = l.times_are;
  took_is = a.took_is ∙ ap (λ (x : Option (List (List ℕ))). then_onto x a.taken) l.took_is;
  failed_is = a.failed_is ∙ ap (λ (n : ℕ). n + failures a.broke) l.failed_is;
  wrote_is = appends_same wrote old.wrote g1.lines (given_by_input l.input s).lines wrote' l.wrote_is (same_lines g g1 took took' failed failed' a ∙ ap (λ (x : Gathered). x.lines) l.handled) w;
}

front_same : (old old' : Option (List ℕ)) (text text' : List ℕ) (new : Option (List ℕ)) → old ≡ old' → text ≡ text' → WrotePrefix old text new → WrotePrefix old' text' new
front_same old old' text text' new e t w = (w.0, w.1, w.2 ∙ t, subst (λ (x : Option (List ℕ)). Appends x new w.0) e w.3)

stops : (s : ServeState) (g g1 : Gathered) (rest : List Event) (old : Tells) (came came' : Option (List PeerCame)) (times : Option (List ℕ)) (took took' : Option (List (List ℕ))) (failed failed' : ℕ) (wrote wrote' : Option (List ℕ))
    → Learns s g rest old (tells came times took failed wrote) → came' ≡ came → IsAnswered g g1 took took' failed failed' → WrotePrefix wrote g1.lines wrote' → TurnStops s g1.state old (tells came' times took' failed' wrote')
stops s g g1 rest old came came' times took took' failed failed' wrote wrote' l e a w = record {
  turn = record { input = l.input; taken = a.taken; broke = a.broke };
  is_turn = is_turn s g g1 rest old (tells came times took failed wrote) took took' failed failed' l a;
  state_is = ap (λ (x : Gathered). x.state) (a.lost_is ∙ ap (gathered (broken a.broke)) l.handled);
  came_is = e ∙ l.came_is;
  times_are = l.times_are;
  took_is = a.took_is ∙ ap (λ (x : Option (List (List ℕ))). then_onto x a.taken) l.took_is;
  failed_is = a.failed_is ∙ ap (λ (n : ℕ). n + failures a.broke) l.failed_is;
  wrote_is = front_same wrote old.wrote g1.lines (given_by_input l.input s).lines wrote' l.wrote_is (same_lines g g1 took took' failed failed' a ∙ ap (λ (x : Gathered). x.lines) l.handled) w;
}

-- A TURN THAT RUNNING OUT OF MEMORY CUT SHORT

lost_state : (broke : Bool) (g : Gathered) (u : State) → g.state ≡ u → (gathered (broken broke) g).state ≡ (gathered (broken broke) (nothing_pending u)).state
lost_state true g u e = ap (λ (x : State). (happened Lost x).state) e
lost_state false g u e = e

cut_turn : (s : ServeState) (g g1 : Gathered) (old : Tells) (came came' : Option (List PeerCame)) (times : Option (List ℕ)) (took took' : Option (List (List ℕ))) (failed failed' : ℕ) (wrote wrote' : Option (List ℕ))
    (c : Cuts s g old (tells came times took failed wrote)) (a : IsAnswered g g1 took took' failed failed') → came' ≡ came
    → CutShort (record { known = c.known; cut = c.cut.cut; taken = a.taken; broke = a.broke }) s NoTurns g1.state old (tells came' times took' failed' wrote')
cut_turn s g g1 old came came' times took took' failed failed' wrote wrote' c a e = record {
  is = record {
    known = c.is_known;
    events = c.cut.events_are;
    taken = subst (λ (x : List ℕ). IsTaken a.broke a.taken x) c.cut.answers_are a.is_taken;
  };
  came_is = e ∙ c.came_is;
  times_are = c.times_are;
  took_is = a.took_is ∙ ap (λ (x : Option (List (List ℕ))). then_onto x a.taken) c.took_is;
  failed_is = omega (arith, a.failed_is, c.failed_is);
  state_is = ap (λ (x : Gathered). x.state) a.lost_is ∙ lost_state a.broke g (cut_state c.cut.cut (nothing_pending s.state)) c.cut.state_is;
}

stops_short : (s : ServeState) (g g1 : Gathered) (old : Tells) (came came' : Option (List PeerCame)) (times : Option (List ℕ)) (took took' : Option (List (List ℕ))) (failed failed' : ℕ) (wrote wrote' : Option (List ℕ))
    → Cuts s g old (tells came times took failed wrote) → came' ≡ came → IsAnswered g g1 took took' failed failed' → Appends wrote wrote' g1.lines → StopsShort s g1.state old (tells came' times took' failed' wrote')
stops_short s g g1 old came came' times took took' failed failed' wrote wrote' c e a w = (
  record { known = c.known; cut = c.cut.cut; taken = a.taken; broke = a.broke },
  cut_turn s g g1 old came came' times took took' failed failed' wrote wrote' c a e,
  appends_same wrote old.wrote g1.lines (cut_given c.cut.cut s).lines wrote' c.wrote_is (same_lines g g1 took took' failed failed' a ∙ c.cut.lines_are) w,
)

stops_shorter : (s : ServeState) (g g1 : Gathered) (old : Tells) (came came' : Option (List PeerCame)) (times : Option (List ℕ)) (took took' : Option (List (List ℕ))) (failed failed' : ℕ) (wrote wrote' : Option (List ℕ))
    → Cuts s g old (tells came times took failed wrote) → came' ≡ came → IsAnswered g g1 took took' failed failed' → WrotePrefix wrote g1.lines wrote' → StopsShorter s g1.state old (tells came' times took' failed' wrote')
stops_shorter s g g1 old came came' times took took' failed failed' wrote wrote' c e a w = (
  record { known = c.known; cut = c.cut.cut; taken = a.taken; broke = a.broke },
  cut_turn s g g1 old came came' times took took' failed failed' wrote wrote' c a e,
  front_same wrote old.wrote g1.lines (cut_given c.cut.cut s).lines wrote' c.wrote_is (same_lines g g1 took took' failed failed' a ∙ c.cut.lines_are) w,
)

-- A WHOLE TURN

abbrev pub NotRead : Result (Unit {0}) Halt → Type 0
NotRead r = r ≡ Err ReadHalt → ⊥

pub turn_goes : (r : Result (Unit {0}) Halt) (s : ServeState) (g g1 g2 : Gathered) (rest : List Event) (old : Tells) (came came' : Option (List PeerCame)) (times : Option (List ℕ)) (took took' : Option (List (List ℕ))) (failed failed' : ℕ) (wrote wrote' : Option (List ℕ))
    → NotRead r → Inputs r s g rest old (tells came times took failed wrote) → came' ≡ came → IsAnswered g g1 took took' failed failed' → Appends wrote wrote' g1.lines → g2 ≡ nothing_pending g1.state
    → ServeGoes r s g2 rest old (tells came' times took' failed' wrote')
turn_goes (Ok u) s g g1 g2 rest old came came' times took took' failed failed' wrote wrote' not i e a w cleared = goes_on s g g1 g2 rest old came came' times took took' failed failed' wrote wrote' i e a w cleared
turn_goes (Err (Bad n)) s g g1 g2 rest old came came' times took took' failed failed' wrote wrote' not i e a w cleared = i
turn_goes (Err Memory) s g g1 g2 rest old came came' times took took' failed failed' wrote wrote' not i e a w cleared = subst (λ (x : Gathered). StopsShort s x.state old (tells came' times took' failed' wrote')) (sym cleared) (stops_short s g g1 old came came' times took took' failed failed' wrote wrote' i e a w)
turn_goes (Err ReadHalt) s g g1 g2 rest old came came' times took took' failed failed' wrote wrote' not i e a w cleared = absurd (not refl)
turn_goes (Err Write) s g g1 g2 rest old came came' times took took' failed failed' wrote wrote' not i e a w cleared = absurd i

pub turn_stops : (r : Result (Unit {0}) Halt) (s : ServeState) (g g1 : Gathered) (rest rest' : List Event) (old : Tells) (came came' : Option (List PeerCame)) (times : Option (List ℕ)) (took took' : Option (List (List ℕ))) (failed failed' : ℕ) (wrote wrote' : Option (List ℕ))
    → NotRead r → Inputs r s g rest old (tells came times took failed wrote) → came' ≡ came → IsAnswered g g1 took took' failed failed' → WrotePrefix wrote g1.lines wrote'
    → ServeGoes (Err Write) s g1 rest' old (tells came' times took' failed' wrote')
turn_stops (Ok u) s g g1 rest rest' old came came' times took took' failed failed' wrote wrote' not i e a w = inl (stops s g g1 rest old came came' times took took' failed failed' wrote wrote' i e a w)
turn_stops (Err (Bad n)) s g g1 rest rest' old came came' times took took' failed failed' wrote wrote' not i e a w = absurd i
turn_stops (Err Memory) s g g1 rest rest' old came came' times took took' failed failed' wrote wrote' not i e a w = inr (stops_shorter s g g1 old came came' times took took' failed failed' wrote wrote' i e a w)
turn_stops (Err ReadHalt) s g g1 rest rest' old came came' times took took' failed failed' wrote wrote' not i e a w = absurd (not refl)
turn_stops (Err Write) s g g1 rest rest' old came came' times took took' failed failed' wrote wrote' not i e a w = absurd i

pub turn_writes : (r : Result (Unit {0}) Halt) (s : ServeState) (g : Gathered) (rest : List Event) (old new : Tells) (failures : ℕ) → Inputs r s g rest old new → failures ≡ 0 → WriteFails r failures
turn_writes (Ok u) s g rest old new failures i e = e
turn_writes (Err (Bad n)) s g rest old new failures i e = i
turn_writes (Err Memory) s g rest old new failures i e = e
turn_writes (Err ReadHalt) s g rest old new failures i e = e
turn_writes (Err Write) s g rest old new failures i e = absurd i

pub stands : (b c : Bool) → c ≡ not b → c ≡ true → b ≡ false
stands true c e t = sym t ∙ e
stands false c e t = refl

pub stands_not : (b c : Bool) → c ≡ not b → c ≡ false → b ≡ true
stands_not true c e t = refl
stands_not false c e t = sym t ∙ e

-- TURNS

pub is_empty : (g : Gathered) (s : State) → g ≡ nothing_pending s → g ≡ nothing_pending g.state
is_empty g s e = e ∙ ap (λ (x : Gathered). nothing_pending x.state) (sym e)

pub so_far_begun : (n : ℕ) (s : ServeState) (g : Gathered) (rest : List Event) (t : Tells) → n ≡ 0 → g ≡ nothing_pending s.state → rest ≡ s.rows → SoFar n s g rest t t
so_far_begun n s g rest t zero e r = record {
  ts = NoTurns;
  are = tt;
  count_is = sym zero;
  handed = e;
  rest_is = r;
  came_is = sym (told-nil t.came);
  times_are = sym (told-nil t.times);
  took_is = refl;
  failed_is = omega arith;
  wrote_is = appends-none t.wrote;
}

stands_same : (s x : ServeState) (g : Gathered) (rest : List Event) → g ≡ nothing_pending x.state → rest ≡ x.rows → standing g.state rest ≡ x
stands_same s x g rest e r = ap (λ (y : Gathered). standing y.state rest) e ∙ ap (standing x.state) r

told_more : {A : Type 0} → (old now new : Option (List A)) (a b : List A) → now ≡ then_told old a → new ≡ then_told now b → new ≡ then_told old (a ++ b)
told_more old now new a b e f = f ∙ (ap (λ (x : Option (List _)). then_told x b) e ∙ told-told old a b)

took_more : (old now new : Option (List (List ℕ))) (ts : ServeTurns) (t : ServeTurn) → now ≡ took old ts → new ≡ then_onto (then_in now t.input) t.taken → new ≡ took old (Then ts t)
took_more old now new ts t e f = f ∙ ap (λ (x : Option (List (List ℕ))). then_onto (then_in x t.input) t.taken) e

pub so_far_more : (n n' : ℕ) (s : ServeState) (g g' : Gathered) (rest rest' : List Event) (old now new : Tells) → SoFar n s g rest old now → ServeGoesOn (standing g.state rest) g' rest' now new → n' ≡ n + 1 → SoFar n' s g' rest' old new
so_far_more n n' s g g' rest rest' old now new f go e =
    let x = after_serve_turns s f.ts in
    let t : ServeGoesOn x g' rest' now new = subst (λ (y : ServeState). ServeGoesOn y g' rest' now new) (stands_same s x g rest f.handed f.rest_is) go in
    record {
      ts = Then f.ts t.turn;
      are = (f.are, t.is_turn);
      count_is = ap (λ (k : ℕ). k + 1) f.count_is ∙ sym e;
      handed = t.handed;
      rest_is = t.rest_is;
      came_is = told_more old.came now.came new.came (turns_came f.ts) (came_in t.turn.input) f.came_is t.came_is;
      times_are = told_more old.times now.times new.times (times f.ts) (time_in t.turn.input) f.times_are t.times_are;
      took_is = took_more old.took now.took new.took f.ts t.turn f.took_is t.took_is;
      failed_is = omega (arith, f.failed_is, t.failed_is);
      wrote_is = appends-then old.wrote now.wrote new.wrote (sent_lines s f.ts) (given_by_input t.turn.input x).lines f.wrote_is t.wrote_is;
    }

-- HOW SERVING ENDS

passed : (n : ℕ) (s : ServeState) (g : Gathered) (rest : List Event) (old new : Tells) (f : SoFar n s g rest old new) → Passed s f.ts g.state old new
passed n s g rest old new f = record {
  times_are = f.times_are;
  took_is = f.took_is;
  failed_is = f.failed_is;
  state_is = ap (λ (x : Gathered). x.state) f.handed;
}

pub serves_all : (n turns : ℕ) (s : ServeState) (g : Gathered) (rest : List Event) (old new : Tells) → SoFar n s g rest old new → n ≡ turns → Serves (ended_so (Ok tt)) turns s g.state old new
serves_all n turns s g rest old new f e = record {
  ts = f.ts;
  are = f.are;
  ends = (f.count_is ∙ e, f.came_is, passed n s g rest old new f, f.wrote_is);
}

cut_behind : (n : ℕ) (s : ServeState) (g : Gathered) (rest : List Event) (state : State) (old now new : Tells) (t : CutTurn) (f : SoFar n s g rest old now)
    → CutShort t (after_serve_turns s f.ts) NoTurns state now new → CutShort t s f.ts state old new
cut_behind n s g rest state old now new t f c = record {
  is = c.is;
  came_is = told_more old.came now.came new.came (turns_came f.ts) (known_came t.known) f.came_is c.came_is;
  times_are = told_more old.times now.times new.times (times f.ts) (known_times t.known) f.times_are c.times_are;
  took_is = c.took_is ∙ ap (λ (x : Option (List (List ℕ))). then_onto (then_known x t.known) t.taken) f.took_is;
  failed_is = omega (arith, f.failed_is, c.failed_is);
  state_is = c.state_is;
}

until_memory : (n turns : ℕ) (s : ServeState) (g : Gathered) (rest : List Event) (state : State) (old now new : Tells) (f : SoFar n s g rest old now) → n < turns
    → StopsShort (after_serve_turns s f.ts) state now new → Serves NoMemory turns s state old new
until_memory n turns s g rest state old now new f lt go =
    let lines = (cut_given go.0.cut (after_serve_turns s f.ts)).lines in
    record {
      ts = f.ts;
      are = f.are;
      ends = inl (
        go.0,
        omega (arith, lt, f.count_is),
        cut_behind n s g rest state old now new go.0 f go.1,
        appends-then old.wrote now.wrote new.wrote (sent_lines s f.ts) lines f.wrote_is go.2,
      );
    }

front_behind : (old now new : Option (List ℕ)) (a b : List ℕ) → Appends old now a → WrotePrefix now b new → WrotePrefix (append_known old a) b new
front_behind None now new a b e w = (w.0, w.1, w.2, tt)
front_behind (Some x) None new a b e w = absurd e
front_behind (Some x) (Some y) new a b e w = (w.0, w.1, w.2, subst (λ (k : List ℕ). Appends (Some k) new w.0) e w.3)

until_write : (n turns : ℕ) (s : ServeState) (g : Gathered) (rest : List Event) (state : State) (old now new : Tells) (f : SoFar n s g rest old now) → n < turns
    → TurnStops (after_serve_turns s f.ts) state now new ⊎ StopsShorter (after_serve_turns s f.ts) state now new → Serves WriteFault turns s state old new
until_write n turns s g rest state old now new f lt (inl t) = record {
  ts = Then f.ts t.turn;
  are = (f.are, t.is_turn);
  ends = inl (
    omega (arith, lt, f.count_is),
    told_more old.came now.came new.came (turns_came f.ts) (came_in t.turn.input) f.came_is t.came_is,
    record {
      times_are = told_more old.times now.times new.times (times f.ts) (time_in t.turn.input) f.times_are t.times_are;
      took_is = took_more old.took now.took new.took f.ts t.turn f.took_is t.took_is;
      failed_is = omega (arith, f.failed_is, t.failed_is);
      state_is = t.state_is;
    },
    record {
      before = f.ts;
      last = t.turn;
      turns_are = refl;
      wrote_is = front_behind old.wrote now.wrote new.wrote (sent_lines s f.ts) (given_by_input t.turn.input (after_serve_turns s f.ts)).lines f.wrote_is t.wrote_is;
    },
  );
}
until_write n turns s g rest state old now new f lt (inr go) = record {
  ts = f.ts;
  are = f.are;
  ends = inr (
    go.0,
    omega (arith, lt, f.count_is),
    cut_behind n s g rest state old now new go.0 f go.1,
    front_behind old.wrote now.wrote new.wrote (sent_lines s f.ts) (cut_given go.0.cut (after_serve_turns s f.ts)).lines f.wrote_is go.2,
  );
}

pub serves_until : (h : Halt) (n turns : ℕ) (s : ServeState) (g g' : Gathered) (rest rest' : List Event) (old now new : Tells) → SoFar n s g rest old now → n < turns → ServeGoes (Err h) (standing g.state rest) g' rest' now new
    → Serves (ended_so (Err h)) turns s g'.state old new
serves_until (Bad k) n turns s g g' rest rest' old now new f lt go = absurd go
serves_until Memory n turns s g g' rest rest' old now new f lt go =
    until_memory n turns s g rest g'.state old now new f lt (subst (λ (y : ServeState). StopsShort y g'.state now new) (stands_same s (after_serve_turns s f.ts) g rest f.handed f.rest_is) go)
serves_until ReadHalt n turns s g g' rest rest' old now new f lt go = record {
  ts = f.ts;
  are = f.are;
  ends = (
    omega (arith, lt, f.count_is),
    told_more old.came now.came new.came (turns_came f.ts) (accept_came accepted.Fault ∷ []) f.came_is go.came_is,
    record {
      times_are = go.times_are ∙ f.times_are;
      took_is = go.took_is ∙ f.took_is;
      failed_is = go.failed_is ∙ f.failed_is;
      state_is = go.state_is ∙ ap (λ (x : Gathered). x.state) f.handed;
    },
    subst (λ (k : Option (List ℕ)). Appends old.wrote k (sent_lines s f.ts)) (sym go.wrote_is) f.wrote_is,
  );
}
serves_until Write n turns s g g' rest rest' old now new f lt go =
    until_write n turns s g rest g'.state old now new f lt (subst (λ (y : ServeState). TurnStops y g'.state now new ⊎ StopsShorter y g'.state now new) (stands_same s (after_serve_turns s f.ts) g rest f.handed f.rest_is) go)

pub serves_nothing : (turns : ℕ) (s : ServeState) (t : Tells) → Serves NoMemory turns s s.state t t
serves_nothing turns s t = record { ts = NoTurns; are = tt; ends = inr (refl, refl, refl) }

pub counts_on : (h : Halt) (n n' turns counter : ℕ) → n ≡ counter → counter < turns → Counts (Err h) n n' → n' ≤ turns
counts_on (Bad k) n n' turns counter e lt c = absurd c
counts_on ReadHalt n n' turns counter e lt c = omega (arith, e, lt, c)
counts_on other n n' turns counter e lt c = omega (arith, e, lt, c.1)

pub fails_from : (h : Halt) (n n' : ℕ) → n ≡ 0 → CountsAcceptFailure (Err h) n n' → CountsAcceptFailure (Err h) 0 n'
fails_from h n n' e f = subst (λ (k : ℕ). CountsAcceptFailure (Err h) k n') e f

pub read_faults : (r : Result (Unit {0}) Halt) (n : ℕ) → CountsAcceptFailure r 0 n → (ended_so r ≡ ReadFault) ↔ (0 < n)
read_faults (Ok u) n f = (λ e. let h : Done ≡ ReadFault = e in cc, λ lt. absurd (omega (arith, lt, f)))
read_faults (Err (Bad k)) n f = absurd f
read_faults (Err Memory) n f = (λ e. let h : NoMemory ≡ ReadFault = e in cc, λ lt. absurd (omega (arith, lt, f)))
read_faults (Err ReadHalt) n f = (λ e. omega (arith, f), λ lt. refl)
read_faults (Err Write) n f = (λ e. let h : WriteFault ≡ ReadFault = e in cc, λ lt. absurd (omega (arith, lt, f)))

pub write_faults : (r : Result (Unit {0}) Halt) (n : ℕ) → WriteFails r n → (ended_so r ≡ WriteFault) ↔ (0 < n)
write_faults (Ok u) n f = (λ e. let h : Done ≡ WriteFault = e in cc, λ lt. absurd (omega (arith, lt, f)))
write_faults (Err (Bad k)) n f = absurd f
write_faults (Err Memory) n f = (λ e. let h : NoMemory ≡ WriteFault = e in cc, λ lt. absurd (omega (arith, lt, f)))
write_faults (Err ReadHalt) n f = (λ e. let h : ReadFault ≡ WriteFault = e in cc, λ lt. absurd (omega (arith, lt, f)))
write_faults (Err Write) n f = (λ e. f, λ lt. refl)

pub done_counts : (r : Result (Unit {0}) Halt) (n turns : ℕ) → OnOk r (n ≡ turns) → ended_so r ≡ Done → n ≡ turns
done_counts (Ok u) n turns e d = e
done_counts (Err (Bad k)) n turns e d = let h : BadRow k ≡ Done = d in cc
done_counts (Err Memory) n turns e d = let h : NoMemory ≡ Done = d in cc
done_counts (Err ReadHalt) n turns e d = let h : ReadFault ≡ Done = d in cc
done_counts (Err Write) n turns e d = let h : WriteFault ≡ Done = d in cc

pub serves_from : (e e' : Ended) (turns : ℕ) (g : Gathered) (rest rows : List Event) (begun state state' : State) (old new : Tells) → e' ≡ e → g ≡ nothing_pending begun → rest ≡ rows → state' ≡ state
    → Serves e turns (standing g.state rest) state old new → Serves e' turns (standing begun rows) state' old new
serves_from e e' turns g rest rows begun state state' old new is same r ends serves =
    let s : standing g.state rest ≡ standing begun rows = ap (λ (y : Gathered). standing y.state rest) same ∙ ap (standing begun) r in
    subst (λ (x : State). Serves e' turns (standing begun rows) x old new) (sym ends)
    (subst (λ (x : ServeState). Serves e' turns x state old new) s (subst (λ (x : Ended). Serves x turns (standing g.state rest) state old new) (sym is) serves))
