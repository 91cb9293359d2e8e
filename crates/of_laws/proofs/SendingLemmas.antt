-- Commands that a switch is sent, one by one.
use Rattle.std.proofs.Common.{◌≡◌, ℕ, suc, ◌+◌, ◌<◌, leb, eqb, true, false, List, [], ◌∷◌, length, get_or, drop, ◌⊎◌, inl, inr, Option, Some, None, Result, Ok, Err, refl, sym, ◌∙◌, ap, subst, arith, add-one, drop-cons}
use Rattle.std.{specs.Prelude.◌&&◌, specs.Prelude.◌||◌, specs.Option.option_map, proofs.lemmas.Bool.and_parts, proofs.lemmas.Bool.eqb-true, proofs.lemmas.Bool.leb-true}
use Rattle.std.proofs.lemmas.List.{append-nil, drop_all}
use Rattle.smallvec.specs.SmallVec.{SmallVec}
use Rattle.of_wire.specs.declared.code.Code.{Code}
use Rattle.of_messages.specs.{declared.message.Message.Message, Heads.type_of, Hellos.version_by, Hellos.elements_of, Messages.message_from}
use Rattle.of_formats.specs.declared.messages.TheConstants.{FLOW_MOD, GROUP_MOD}
use Rattle.of_session.specs.{declared.session.Phase.TheVariants.Open, declared.session.Next.Next, Stream.IsWholeMessage, Stream.Whole, Stream.beginning_of, Stream.length_of, Session.read_as}
use Rattle.of_session.proofs.Fronts.{message_front}
use Rattle.of_text.specs.Configs.{Configuration}
use Rattle.of_build.specs.Building.{hello}
use Rattle.of_datapath.specs.{declared.effect.Effect.Effect, declared.effect.Effect.TheVariants.Answer}
use Rattle.of_switch.specs.Steps.{Outcome, coming, connected, fed, gives, next_by, next_of}
use Rattle.of_switch.specs.{declared.switch_error.SwitchError.SwitchError, State.Core, State.State, State.new_core, State.start, Calls.Call, Calls.connect_refusal, Calls.feed_refusal}
use Rattle.of_switch.{specs.Runs.behind_effects, specs.Runs.drain, specs.Runs.chunk_in, proofs.Joining.drained_more, proofs.Joining.drained_none}
use Rattle.of_laws.specs.Sending.{IsReady, error_code_in, config_by, config_from, error_in, greeted, is_command, code_or_else}
use Rattle.of_laws.specs.declared.fault.ConfigFault.{ConfigFault}
use Rattle.of_laws.specs.declared.fault.ConfigFault.TheVariants.{NoMemory, NotACommand, Refused}

-- ---- an open connection

-- on which nothing waits
abbrev pub ready : Core → State
ready k = record { connection = record { phase = Open; pending = [] }; core = k }

-- on which these bytes alone were received
abbrev pub having : List ℕ → Core → State
having m k = record { connection = record { phase = Open; pending = m }; core = k }

pub greeted_is : greeted ≡ ready (new_core 1)
unfolding greeted drain version_by elements_of
greeted_is = refl

pub hello_opens : next_of (fed hello (connected (start 1)).state) ≡ Some (gives [] (ready (new_core 1)))
unfolding version_by elements_of
hello_opens = refl

-- it is the one of its core
pub is_ready : (s : State) → IsReady s → s ≡ ready s.core
is_ready s h = λ i. record { connection = h i; core = s.core }

-- ---- a command is one message

pub is_message : (m : List ℕ) → is_command m ≡ true → IsWholeMessage m
is_message m h =
    let rest = eqb (length_of m) (length m) && (eqb (type_of m) GROUP_MOD || eqb (type_of m) FLOW_MOD) in
    let outer = and_parts (leb 8 (length m)) rest h in
    let inner = and_parts (eqb (length_of m) (length m)) (eqb (type_of m) GROUP_MOD || eqb (type_of m) FLOW_MOD) outer.1 in
    record { header = leb-true 8 (length m) outer.0; whole = eqb-true (length_of m) (length m) inner.0 }

-- it is handled, and then nothing is left
record IsHandled (m : List ℕ) (k : Core) : Type 0 where
  outcome : Outcome
  next : next_of (having m k) ≡ Some outcome
  after : IsReady outcome.state

pub read_whole : (m : List ℕ) (k : Core) → IsWholeMessage m → coming (having m k) ≡ read_as m (message_from k.control.role m)
read_whole m k one =
    let whole : beginning_of m ≡ Whole m [] = ap beginning_of (sym (append-nil m)) ∙ message_front m [] one in
    rw whole refl

pub none_left : (m : List ℕ) → drop (length m) m ≡ []
none_left m = drop_all (length m) m (omega arith)

handled_by : (m : List ℕ) (k : Core) (r : Result Message Code) → coming (having m k) ≡ read_as m r → IsHandled m k
handled_by m k (Ok message) e = record {
  outcome = _;
  next = ap (λ (n : Next). next_by n (having m k)) e;
  after = ap (λ (bytes : List ℕ). record { phase = Open; pending = bytes }) (none_left m);
}
handled_by m k (Err code) e = record {
  outcome = _;
  next = ap (λ (n : Next). next_by n (having m k)) e;
  after = ap (λ (bytes : List ℕ). record { phase = Open; pending = bytes }) (none_left m);
}

is_handled : (m : List ℕ) (k : Core) → is_command m ≡ true → IsHandled m k
is_handled m k h = let one = is_message m h in handled_by m k (message_from k.control.role m) (read_whole m k one)

waits_for_none : (s : State) → IsReady s → next_of s ≡ None
waits_for_none s h = ap next_of (is_ready s h)

-- what one call of `next` gives is what the whole chunk gives
pub whole_chunk : (m : List ℕ) (k : Core) (o : Outcome) → next_of (having m k) ≡ Some o → IsReady o.state → chunk_in m (ready k) ≡ o
whole_chunk m k o e after =
    drained_more (having m k) o e
    ∙ (ap (behind_effects o.effects) (drained_none o.state (waits_for_none o.state after))
    ∙ ap (λ (es : List Effect). gives es o.state) (append-nil o.effects))

pub record IsSent (m : List ℕ) (s t : State) (effects : List Effect) : Type 0 where
  pub whole : chunk_in m s ≡ gives effects t
  pub after : IsReady t

same_some : (o p : Outcome) → Some o ≡ Some p → o ≡ p
same_some o p h = cc

pub sent_is : (m : List ℕ) (s between t : State) (effects : List Effect) → is_command m ≡ true → IsReady s → between ≡ fed m s → next_of between ≡ Some (gives effects t) → IsSent m s t effects
sent_is m s between t effects one h f e =
    let here : s ≡ ready s.core = is_ready s h in
    let at : between ≡ having m s.core = f ∙ ap (fed m) here in
    let is = is_handled m s.core one in
    let same : is.outcome ≡ gives effects t = same_some is.outcome (gives effects t) (sym is.next ∙ (ap next_of (sym at) ∙ e)) in
    record {
      whole = ap (chunk_in m) here ∙ (whole_chunk m s.core is.outcome is.next is.after ∙ same);
      after = subst (λ (o : Outcome). IsReady o.state) same is.after;
    }

-- ---- ERRORs among effects

pub error_next : (es : List Effect) (i : ℕ) (e : Effect) → i < length es → e ≡ get_or es i e → error_in (drop i es) ≡ error_in (e ∷ drop (i + 1) es)
error_next es i e lt is =
    ap error_in (drop-cons es i e lt ∙ ap (λ (x : Effect). x ∷ drop (suc i) es) (sym is))
    ∙ ap (λ (n : ℕ). error_in (e ∷ drop n es)) (sym (add-one i))

pub error_here : (es : List Effect) (i : ℕ) (e : Effect) (m : List ℕ) (code : Code) → i < length es → e ≡ get_or es i e → e ≡ Answer m → error_code_in m ≡ Some code → error_in (drop i es) ≡ error_in es → Some code ≡ error_in es
error_here es i e m code lt is answer found same =
    let rest = error_in (drop (i + 1) es) in
    sym (sym same
    ∙ (error_next es i e lt is
    ∙ (ap (λ (x : Effect). error_in (x ∷ drop (i + 1) es)) answer
    ∙ ap (λ (o : Option Code). code_or_else o rest) found)))

-- ---- connecting

-- the switch after each call
pub greets : (a b c d : State) (more : SmallVec Effect) (found : Option (SmallVec Effect)) → a ≡ start 1
    → Call (connect_refusal a) (λ (effects : SmallVec Effect) (new : State). connected a ≡ gives effects.items new) a (Ok more) b
    → Call (feed_refusal b) (λ (u : Unit {0}) (new : State). new ≡ fed hello b) b (Ok tt) c
    → next_of c ≡ option_map (λ (effects : SmallVec Effect). gives effects.items d) found → d ≡ ready (new_core 1)
greets a b c d more found is connects feeds next =
    let second : b ≡ (connected (start 1)).state = joined (connect_refusal a) (ap connect_refusal is) connects in
    let third : c ≡ fed hello (connected (start 1)).state = received (feed_refusal b) (ap feed_refusal second) feeds ∙ ap (fed hello) second in
    opened found (sym hello_opens ∙ (ap next_of (sym third) ∙ next))
  where
    joined : (r : Option SwitchError) → r ≡ None → Call r (λ (effects : SmallVec Effect) (new : State). connected a ≡ gives effects.items new) a (Ok more) b → b ≡ (connected (start 1)).state
    joined (Some e) none called = absurd cc
    joined None none called = ap (λ (o : Outcome). o.state) (sym called) ∙ ap (λ (s : State). (connected s).state) is

    received : (r : Option SwitchError) → r ≡ None → Call r (λ (u : Unit {0}) (new : State). new ≡ fed hello b) b (Ok tt) c → c ≡ fed hello b
    received (Some e) none called = absurd cc
    received None none called = called

    opened : (o : Option (SmallVec Effect)) → Some (gives [] (ready (new_core 1))) ≡ option_map (λ (effects : SmallVec Effect). gives effects.items d) o → d ≡ ready (new_core 1)
    opened None h = absurd cc
    opened (Some effects) h = ap (λ (o : Outcome). o.state) (sym (same_some (gives [] (ready (new_core 1))) (gives effects.items d) h))

-- bytes that a switch on which nothing waits receives
pub receives : (m : List ℕ) (s t : State) → IsReady s → Call (feed_refusal s) (λ (u : Unit {0}) (new : State). new ≡ fed m s) s (Ok tt) t → t ≡ fed m s
receives m s t h called = by_refusal (feed_refusal s) (ap feed_refusal (is_ready s h)) called
  where
    by_refusal : (r : Option SwitchError) → r ≡ None → Call r (λ (u : Unit {0}) (new : State). new ≡ fed m s) s (Ok tt) t → t ≡ fed m s
    by_refusal (Some e) none called = absurd cc
    by_refusal None none called = called

-- ---- a message in its place

-- what follows an accepted message, one that is refused, and one that is no command
pub goes_on : (place : ℕ) (m : List ℕ) (s t : State) (later : List (List ℕ)) → is_command m ≡ true → None ≡ error_in (chunk_in m s).effects → t ≡ (chunk_in m s).state → config_from place (m ∷ later) s ≡ config_from (place + 1) later t
goes_on place m s t later one none is =
    rw (one, sym none) (ap (config_from (place + 1) later) (sym is))

pub refused_here : (place : ℕ) (m : List ℕ) (s : State) (later : List (List ℕ)) (code : Code) → is_command m ≡ true → Some code ≡ error_in (chunk_in m s).effects → config_from place (m ∷ later) s ≡ Err (Refused place code)
refused_here place m s later code one some = rw (one, sym some) refl

pub none_here : (place : ℕ) (m : List ℕ) (s : State) (later : List (List ℕ)) → is_command m ≡ false → config_from place (m ∷ later) s ≡ Err (NotACommand place)
none_here place m s later other = rw other refl

-- the messages that are left give what all give
pub next_message : (ms : List (List ℕ)) (i place : ℕ) (m : List ℕ) (s : State) (o : Result Configuration ConfigFault) → i < length ms → m ≡ get_or ms i m → config_from place (drop i ms) s ≡ o → config_from place (m ∷ drop (i + 1) ms) s ≡ o
next_message ms i place m s o lt is h =
    let parts : drop i ms ≡ m ∷ drop (i + 1) ms = drop-cons ms i m lt ∙ (ap (λ (x : List ℕ). x ∷ drop (suc i) ms) (sym is) ∙ ap (λ (n : ℕ). m ∷ drop n ms) (sym (add-one i))) in
    ap (λ (xs : List (List ℕ)). config_from place xs s) (sym parts) ∙ h

pub failed_here : (ms : List (List ℕ)) (i place : ℕ) (m n : List ℕ) (s : State) (fault : ConfigFault) → i < length ms → m ≡ get_or ms i m → n ≡ m → config_from place (drop i ms) s ≡ config_by ms
    → (fault ≡ NoMemory) ⊎ ((later : List (List ℕ)) → config_from place (n ∷ later) s ≡ Err fault) → (fault ≡ NoMemory) ⊎ (config_by ms ≡ Err fault)
failed_here ms i place m n s fault lt is same left (inl none) = inl none
failed_here ms i place m n s fault lt is same left (inr why) =
    inr (sym (next_message ms i place m s (config_by ms) lt is left) ∙ (ap (λ (x : List ℕ). config_from place (x ∷ drop (i + 1) ms) s) (sym same) ∙ why (drop (i + 1) ms)))
