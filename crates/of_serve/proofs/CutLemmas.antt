-- Where memory ran out in a list of events: what those before it gave, and the messages of a chunk that were handled.
use Rattle.std.proofs.Common.{◌≡◌, ◌⊎◌, inl, inr, ℕ, suc, zero, Bool, true, false, if◌then◌else◌, List, [], ◌∷◌, ◌++◌, drop, Option, Some, None, Result, Ok, Err, refl, sym, ◌∙◌, ap, subst, append_assoc}
use Rattle.std.{specs.Prelude.OnErr, specs.Prelude.slice_get, specs.List.flat_map, specs.declared.alloc.AllocError.AllocError, proofs.lemmas.List.append-nil, proofs.lemmas.Grind.flat_map-append}
use Rattle.of_session.specs.Session.{is_disconnected}
use Rattle.of_datapath.specs.declared.effect.Effect.{Effect}
use Rattle.of_switch.specs.declared.event.Event.TheVariants.{Chunk}
use Rattle.of_switch.specs.Runs.{Report, IsInterrupted, StopsWithin, behind_effects, then_more, drain, drained, come, happened, run, unless_refusal}
use Rattle.of_switch.specs.{declared.event.Event.Event, declared.switch_error.SwitchError.SwitchError}
use Rattle.of_switch.specs.{declared.switch_error.SwitchError.TheVariants.NoMemory, declared.switch_error.SwitchError.TheVariants.NotConnected, State.State}
use Rattle.of_switch.specs.{Steps.Outcome, Steps.gives, Steps.fed, Steps.next_of, Calls.Call, Calls.first_error}
use Rattle.of_switch.proofs.Draining.{Left, left_none, left_more, left_all}
use Rattle.of_serve.specs.Turns.{Gathered, gather, gathered, answer_in, line_in, partly, events_of_row, due, waits}
use Rattle.of_serve.specs.Gathering.{CutIn, HandlesNext, HandlesAll, HandlesSome, LosesNext, is_one_step}
use Rattle.of_serve.proofs.TurnLemmas.{gathered_more, due_acts}

-- MESSAGES

drain_none : (s : State) → drain 0 s ≡ gives [] s
unfolding drain
drain_none s = refl

more_by : (n : ℕ) (s t : State) (effects : List Effect) (o : Outcome) (first : Option Outcome) → next_of s ≡ first → next_of t ≡ Some o
    → ((u : State) (es : List Effect) → drain n u ≡ gives es t → drain (suc n) u ≡ gives (es ++ o.effects) o.state)
    → then_more (drain n) s first ≡ gives effects t → then_more (drain (suc n)) s first ≡ gives (effects ++ o.effects) o.state
more_by n s t effects o None f h ih e =
    let same : s ≡ t = ap (λ (x : Outcome). x.state) e in
    let none : next_of t ≡ None = ap next_of (sym same) ∙ f in
    absurd cc
more_by n s t effects o (Some p) f h ih e =
    let inner = drain n p.state in
    let at : inner.state ≡ t = ap (λ (x : Outcome). x.state) e in
    let es : p.effects ++ inner.effects ≡ effects = ap (λ (x : Outcome). x.effects) e in
    let next : drain (suc n) p.state ≡ gives (inner.effects ++ o.effects) o.state = ih p.state inner.effects (ap (gives inner.effects) at) in
    ap (behind_effects p.effects) next
    ∙ ap (λ (xs : List Effect). gives xs o.state) (sym (append_assoc p.effects inner.effects o.effects) ∙ ap (λ (xs : List Effect). xs ++ o.effects) es)

-- one message more
drain_more : (n : ℕ) (s t : State) (effects : List Effect) (o : Outcome) → next_of t ≡ Some o → drain n s ≡ gives effects t → drain (suc n) s ≡ gives (effects ++ o.effects) o.state
unfolding drain
drain_more zero s t effects o h e =
    let same : s ≡ t = ap (λ (x : Outcome). x.state) e in
    let none : [] ≡ effects = ap (λ (x : Outcome). x.effects) e in
    ap (then_more (drain 0) s) (ap next_of same ∙ h)
    ∙ (ap (λ (es : List Effect). gives es o.state) (append-nil o.effects) ∙ ap (λ (es : List Effect). gives (es ++ o.effects) o.state) none)
drain_more (suc n) s t effects o h e = more_by n s t effects o (next_of s) refl h (λ u es k. drain_more n u t es o h k) e

abbrev pub holding : State → List ℕ → List ℕ → Gathered
holding s answers lines = record { state = s; answers = answers; lines = lines }

-- so many messages were handled, with these effects
pub record HandledSoFar (first g : Gathered) : Type 0 where
  pub effects : List Effect
  pub messages : ℕ
  pub left : Left first.state g.state effects
  pub drained_is : drain messages first.state ≡ gives effects g.state
  pub answers_are : g.answers ≡ first.answers ++ flat_map answer_in effects
  pub lines_are : g.lines ≡ first.lines ++ flat_map line_in effects

pub handled_begun : (g : Gathered) → HandledSoFar g g
handled_begun g = record {
  effects = [];
  messages = 0;
  left = left_none g.state;
  drained_is = drain_none g.state;
  answers_are = sym (append-nil g.answers);
  lines_are = sym (append-nil g.lines);
}

text_more : (f : Effect → List ℕ) (old now new : List ℕ) (es fs : List Effect) → now ≡ old ++ flat_map f es → new ≡ now ++ flat_map f fs → new ≡ old ++ flat_map f (es ++ fs)
text_more f old now new es fs e k =
    k ∙ (ap (λ (x : List ℕ). x ++ flat_map f fs) e ∙ (append_assoc old (flat_map f es) (flat_map f fs) ∙ ap (λ (x : List ℕ). old ++ x) (sym (flat_map-append f es fs))))

pub handled_more : (first g g' : Gathered) → HandlesNext true g g' → HandledSoFar first g → HandledSoFar first g'
handled_more first g g' h so =
    let o = h.0 in
    let state : g'.state ≡ o.state = ap (λ (x : Gathered). x.state) h.2 in
    record {
      effects = so.effects ++ o.effects;
      messages = suc so.messages;
      left = subst (λ (x : State). Left first.state x (so.effects ++ o.effects)) (sym state) (left_more first.state g.state so.effects o h.1 so.left);
      drained_is = drain_more so.messages first.state g.state so.effects o h.1 so.drained_is ∙ ap (gives (so.effects ++ o.effects)) (sym state);
      answers_are = text_more answer_in first.answers g.answers g'.answers so.effects o.effects so.answers_are (ap (λ (x : Gathered). x.answers) h.2);
      lines_are = text_more line_in first.lines g.lines g'.lines so.effects o.effects so.lines_are (ap (λ (x : Gathered). x.lines) h.2);
    }

pub handled_all : (first g g' : Gathered) → HandlesNext false g g' → HandledSoFar first g → HandlesAll first g'
handled_all first g g' h so =
    let told : drained first.state ≡ gives so.effects g.state = left_all first.state g.state so.effects h.0 so.left in
    let is : g ≡ gather (unless_refusal None first.state (gives so.effects g.state)) first =
    ap (λ (x : List ℕ). holding g.state x g.lines) so.answers_are ∙ ap (λ (x : List ℕ). holding g.state (first.answers ++ flat_map answer_in so.effects) x) so.lines_are in
    h.1 ∙ (is ∙ ap (λ (o : Outcome). gather (unless_refusal None first.state o) first) (sym told))

some_handled : (first g g' : Gathered) (untold : Bool) → g'.answers ≡ g.answers → g'.lines ≡ g.lines → (so : HandledSoFar first g)
    → g'.state ≡ (drain (if untold then suc so.messages else so.messages) first.state).state → HandlesSome first g'
some_handled first g g' untold answers lines so e = record {
  messages = so.messages;
  untold = untold;
  state_is = e;
  answers_are = answers ∙ (so.answers_are ∙ ap (λ (o : Outcome). first.answers ++ flat_map answer_in o.effects) (sym so.drained_is));
  lines_are = lines ∙ (so.lines_are ∙ ap (λ (o : Outcome). first.lines ++ flat_map line_in o.effects) (sym so.drained_is));
}

loses_next : (first g g' : Gathered) → g'.answers ≡ g.answers → g'.lines ≡ g.lines → HandledSoFar first g
    → (g'.state ≡ g.state) ⊎ ((o : Outcome) × (next_of g.state ≡ Some o) × (g'.state ≡ o.state)) → HandlesSome first g'
loses_next first g g' answers lines so (inl e) = some_handled first g g' false answers lines so (e ∙ ap (λ (o : Outcome). o.state) (sym so.drained_is))
loses_next first g g' answers lines so (inr h) =
    some_handled first g g' true answers lines so
    (h.2 ∙ ap (λ (o : Outcome). o.state) (sym (drain_more so.messages first.state g.state so.effects h.0 h.1 so.drained_is)))

pub handled_some : (first g g' : Gathered) → LosesNext g g' → HandledSoFar first g → HandlesSome first g'
handled_some first g g' h so = loses_next first g g' h.0 h.1 so h.2

pub next_handled : (g g' : Gathered) (s : State) (effects pushed : List Effect) → next_of g.state ≡ Some (gives effects s) → pushed ≡ effects → g'.state ≡ s
    → g'.answers ≡ g.answers ++ flat_map answer_in pushed → g'.lines ≡ g.lines ++ flat_map line_in pushed → HandlesNext true g g'
next_handled g g' s effects pushed h e state answers lines = (
  gives effects s,
  h,
  ap (λ (x : State). holding x g'.answers g'.lines) state
      ∙ (ap (λ (x : List ℕ). holding s x g'.lines) (answers ∙ ap (λ (x : List Effect). g.answers ++ flat_map answer_in x) e)
      ∙ ap (λ (x : List ℕ). holding s (g.answers ++ flat_map answer_in effects) x) (lines ∙ ap (λ (x : List Effect). g.lines ++ flat_map line_in x) e)),
)

-- EVENTS

-- in the first of them, whose first step was not done, or nothing of it is told
cut_now : (e : Event) (others : List Event) (g g' : Gathered) (untold : Bool) → g'.answers ≡ g.answers → g'.lines ≡ g.lines
    → g'.state ≡ (partly (if untold then 1 else 0) e g.state).state → CutIn (e ∷ others) g g'
cut_now e others g g' untold answers lines state = record {
  cut = record { done = []; event = e; steps = 0; untold = untold; others = others };
  events_are = refl;
  answers_are = answers ∙ sym (append-nil g.answers);
  lines_are = lines ∙ sym (append-nil g.lines);
  state_is = state;
}

-- nothing of them was done
pub cut_begun : (e : Event) (others : List Event) (g g' : Gathered) → g' ≡ g → CutIn (e ∷ others) g g'
cut_begun e others g g' same =
    cut_now e others g g' false (ap (λ (x : Gathered). x.answers) same) (ap (λ (x : Gathered). x.lines) same) (ap (λ (x : Gathered). x.state) same)

-- after events that were done
pub cut_later : (es fs : List Event) (g h g' : Gathered) → h ≡ gathered es g → CutIn fs h g' → CutIn (es ++ fs) g g'
cut_later es fs g h g' e c =
    let same : gathered c.cut.done h ≡ gathered (es ++ c.cut.done) g = ap (gathered c.cut.done) e ∙ sym (gathered_more es c.cut.done g) in
    let given = ap (λ (x : Gathered). gather (unless_refusal None x.state (partly c.cut.steps c.cut.event x.state)) x) same in
    record {
      cut = record { done = es ++ c.cut.done; event = c.cut.event; steps = c.cut.steps; untold = c.cut.untold; others = c.cut.others };
      events_are = append_assoc es c.cut.done (c.cut.event ∷ c.cut.others) ∙ ap (λ (x : List Event). es ++ x) c.events_are;
      answers_are = c.answers_are ∙ ap (λ (x : Gathered). x.answers) given;
      lines_are = c.lines_are ∙ ap (λ (x : Gathered). x.lines) given;
      state_is = c.state_is ∙ ap (λ (x : Gathered). (partly (if c.cut.untold then suc c.cut.steps else c.cut.steps) c.cut.event x.state).state) same;
    }

-- before others
pub cut_before : (es fs : List Event) (g g' : Gathered) → CutIn es g g' → CutIn (es ++ fs) g g'
cut_before es fs g g' c = record {
  cut = record { done = c.cut.done; event = c.cut.event; steps = c.cut.steps; untold = c.cut.untold; others = c.cut.others ++ fs };
  events_are = sym (append_assoc c.cut.done (c.cut.event ∷ c.cut.others) fs) ∙ ap (λ (x : List Event). x ++ fs) c.events_are;
  answers_are = c.answers_are;
  lines_are = c.lines_are;
  state_is = c.state_is;
}

-- A CHUNK

come_fed : (chunk : List ℕ) (s : State) → is_disconnected s.connection.phase ≡ false → come chunk s ≡ fed chunk s
come_fed chunk s e = ap (λ (b : Bool). if b then s else fed chunk s) e

abbrev pub Lacks : Result (Unit {0}) SwitchError → Type 0
Lacks result = result ≡ Err NoMemory

abbrev Feeds : Bool → List ℕ → Result (Unit {0}) SwitchError → State → State → Type 0
Feeds b chunk r s t = Call (first_error ((b, NotConnected) ∷ [])) (λ (u : Unit {0}) (new : State). new ≡ fed chunk s) s r t

feed_fails : (b : Bool) (chunk : List ℕ) (e : SwitchError) (s t : State) → Feeds b chunk (Err e) s t → t ≡ s
feed_fails true chunk e s t call = call.1
feed_fails false chunk e s t call = call.1

pub not_fed : (chunk : List ℕ) (e : SwitchError) (g g' : Gathered) → Feeds (is_disconnected g.state.connection.phase) chunk (Err e) g.state g'.state
    → g' ≡ holding g'.state g.answers g.lines → CutIn (Chunk chunk ∷ []) g g'
not_fed chunk e g g' call same = cut_begun (Chunk chunk) [] g g' (same ∙ ap (λ (s : State). holding s g.answers g.lines) (feed_fails (is_disconnected g.state.connection.phase) chunk e g.state g'.state call))

stands_by : (b : Bool) (chunk : List ℕ) (s t : State) → Feeds b chunk (Ok tt) s t → b ≡ false
stands_by false chunk s t call = refl
stands_by true chunk s t call = let e : Ok tt ≡ Err NotConnected = call.0 in absurd cc

-- bytes that are received come over a connection
stands : (chunk : List ℕ) (s t : State) → Feeds (is_disconnected s.connection.phase) chunk (Ok tt) s t → is_disconnected s.connection.phase ≡ false
stands chunk s t call = stands_by (is_disconnected s.connection.phase) chunk s t call

fed_by : (b : Bool) (chunk : List ℕ) (s t : State) → b ≡ false → Feeds b chunk (Ok tt) s t → t ≡ fed chunk s
fed_by false chunk s t e call = call
fed_by true chunk s t e call = absurd (let e' : true ≡ false = e in cc)

some_text : (f : Effect → List ℕ) (n : ℕ) (old now new : List ℕ) (s t : State) → now ≡ old → s ≡ t → new ≡ now ++ flat_map f (drain n s).effects → new ≡ old ++ flat_map f (drain n t).effects
some_text f n old now new s t e same h = h ∙ (ap (λ (x : List ℕ). x ++ flat_map f (drain n s).effects) e ∙ ap (λ (x : State). old ++ flat_map f (drain n x).effects) same)

chunk_state : (untold : Bool) (n : ℕ) (chunk : List ℕ) (s t : State) → t ≡ come chunk s
    → (drain (if untold then suc n else n) t).state ≡ (partly (if untold then suc (suc n) else suc n) (Chunk chunk) s).state
chunk_state true n chunk s t e = ap (λ (x : State). (drain (suc n) x).state) e
chunk_state false n chunk s t e = ap (λ (x : State). (drain n x).state) e

pub take_cut : (chunk : List ℕ) (r : Result (Unit {0}) SwitchError) (g g1 g' : Gathered) → Feeds (is_disconnected g.state.connection.phase) chunk (Ok tt) g.state g1.state
    → (g1.answers ≡ g.answers) × (g1.lines ≡ g.lines) → OnErr r (HandlesSome g1 g') → Lacks r → CutIn (Chunk chunk ∷ []) g g'
take_cut chunk (Ok u) g g1 g' call same some e = let e' : Ok u ≡ Err NoMemory = e in absurd cc
take_cut chunk (Err x) g g1 g' call same some e =
    let is = stands chunk g.state g1.state call in
    let at : g1.state ≡ come chunk g.state = fed_by (is_disconnected g.state.connection.phase) chunk g.state g1.state is call ∙ sym (come_fed chunk g.state is) in
    record {
      cut = record { done = []; event = Chunk chunk; steps = suc some.messages; untold = some.untold; others = [] };
      events_are = refl;
      state_is = some.state_is ∙ chunk_state some.untold some.messages chunk g.state g1.state at;
      answers_are = some_text answer_in some.messages g.answers g1.answers g'.answers g1.state (come chunk g.state) same.0 at some.answers_are;
      lines_are = some_text line_in some.messages g.lines g1.lines g'.lines g1.state (come chunk g.state) same.1 at some.lines_are;
    }

-- ROWS THAT ARE DUE

pub record DueSoFar (now : ℕ) (all rows : List Event) (first g : Gathered) : Type 0 where
  pub done : List Event
  pub due_is : due now all ≡ done ++ due now rows
  pub handled : g ≡ gathered done first

pub due_begun : (now : ℕ) (rows : List Event) (g : Gathered) → DueSoFar now rows rows g g
due_begun now rows g = record { done = []; due_is = refl; handled = refl }

pub due_more : (now : ℕ) (row : Event) (all rows : List Event) (first g g' : Gathered) → Some row ≡ slice_get rows 0 → waits now row ≡ false → DueSoFar now all rows first g → g' ≡ gathered (events_of_row row) g
    → DueSoFar now all (drop 1 rows) first g'
due_more now row all rows first g g' e t so h = record {
  done = so.done ++ events_of_row row;
  due_is = so.due_is ∙ (ap (λ (x : List Event). so.done ++ x) (due_acts now row rows e t) ∙ sym (append_assoc so.done (events_of_row row) (due now (drop 1 rows))));
  handled = h ∙ (ap (gathered (events_of_row row)) so.handled ∙ sym (gathered_more so.done (events_of_row row) first));
}

pub due_cut : (now : ℕ) (row : Event) (all rows : List Event) (first g g' : Gathered) → Some row ≡ slice_get rows 0 → waits now row ≡ false → DueSoFar now all rows first g → CutIn (events_of_row row) g g'
    → CutIn (due now all) first g'
due_cut now row all rows first g g' e t so c =
    let rest = due now (drop 1 rows) in
    let is : due now all ≡ so.done ++ (events_of_row row ++ rest) = so.due_is ∙ ap (λ (x : List Event). so.done ++ x) (due_acts now row rows e t) in
    subst (λ (x : List Event). CutIn x first g') (sym is) (cut_later so.done (events_of_row row ++ rest) first g g' so.handled (cut_before (events_of_row row) rest g g' c))

-- WHERE A CALL FAILED

pub on_err : {A E : Type 0} (r : Result A E) (P : Type 0) → P → OnErr r P
on_err (Ok u) P p = tt
on_err (Err e) P p = p

-- AN EVENT OF ONE STEP

whole_step : (e : Event) (s : State) → is_one_step e ≡ true → (partly 1 e s).state ≡ (happened e s).state
whole_step (Chunk bytes) s is = absurd cc
whole_step other s is = refl

stopped_in : (first : List Event) (e event : Event) (others : List Event) (s t : State) (more : List Report) → e ∷ [] ≡ first ++ event ∷ others → IsInterrupted event (run first s).state t more
    → is_one_step e ≡ true → t ≡ s
stopped_in [] e event others s t more is (inl same) one = same.0
stopped_in [] e event others s t more is (inr broken) one = absurd (cc broken.chunk)
stopped_in (x ∷ []) e event others s t more is h one = absurd cc
stopped_in (x ∷ (y ∷ xs)) e event others s t more is h one = absurd cc

pub stopped : (e : Event) (s t : State) (old reports : List Report) → StopsWithin (e ∷ []) s t old reports → is_one_step e ≡ true → t ≡ s
stopped e s t old reports h one = stopped_in h.first e h.event h.others s t h.more h.events_are h.interrupted one

-- it happened, and there was no memory for what it gave
pub lost_behind : (e : Event) (r : Result (Unit {0}) AllocError) (g0 g g' : Gathered) (t : State) → g ≡ g0 → is_one_step e ≡ true → t ≡ (happened e g.state).state
    → g'.state ≡ t → OnErr r ((g'.answers ≡ g.answers) × (g'.lines ≡ g.lines)) → OnErr r (CutIn (e ∷ []) g0 g')
lost_behind e (Ok u) g0 g g' t view one ran state same = tt
lost_behind e (Err x) g0 g g' t view one ran state same =
    subst (λ (y : Gathered). CutIn (e ∷ []) y g') view (cut_now e [] g g' true same.0 same.1 (state ∙ (ran ∙ sym (whole_step e g.state one))))

-- the next message was handled, and there was no memory for what it gave
pub lost_next : (g g' : Gathered) (s : State) (effects : List Effect) → next_of g.state ≡ Some (gives effects s) → g'.state ≡ s → (g'.answers ≡ g.answers) × (g'.lines ≡ g.lines) → LosesNext g g'
lost_next g g' s effects h state same = (same.0, same.1, inr (gives effects s, h, state))
