-- A chunk that is one message.
use Rattle.std.proofs.Common.{◌≡◌, ℕ, List, [], ◌∷◌, ◌++◌, length, take, drop, Some, None, Ok, refl, sym, ◌∙◌, ap, arith}
use Rattle.std.{specs.Prelude.replicate, proofs.lemmas.List.append-nil, proofs.lemmas.List.drop_all}
use Rattle.of_wire.specs.Refusals.{first_of}
use Rattle.of_messages.specs.{declared.message.Message.Message, declared.role.Role.TheVariants.Equal, Heads.xid_of, Hellos.version_by, Hellos.elements_of, Messages.message_of, Written.hello_bytes}
use Rattle.of_session.specs.{declared.session.Phase.TheVariants.Open, declared.session.Next.Next, declared.session.Next.TheVariants.Read, Stream.Whole, Stream.IsWholeMessage, Stream.beginning_of}
use Rattle.of_session.{specs.Session.greeting, proofs.Fronts.message_front}
use Rattle.of_build.specs.Building.{hello}
use Rattle.of_datapath.specs.declared.effect.Effect.TheVariants.{Answer}
use Rattle.of_switch.specs.Steps.{Outcome, Done, beside, coming, does, done, gives, handled, next_by, next_of, state_refusals}
use Rattle.of_switch.specs.Runs.{Happened, Gives, Run, drain, drained, happened, run}
use Rattle.of_switch.specs.{declared.event.Event.Event, declared.event.Event.TheVariants.Connect, declared.event.Event.TheVariants.Chunk, State.Core, State.State, State.new_core, State.start}
use Rattle.of_switch.proofs.{Handling.handled_done, Joining.drained_more, Joining.drained_none}

-- an open connection on which nothing waits
abbrev pub ready : Core → State
ready k = record { connection = record { phase = Open; pending = [] }; core = k }

-- the message was received
abbrev having : List ℕ → Core → State
having m k = record { connection = record { phase = Open; pending = m }; core = k }

next_read : (m : List ℕ) (k : Core) (message : Message) → IsWholeMessage m → k.control.role ≡ Equal → message_of m ≡ Ok message → coming (having m k) ≡ Read (xid_of m) (length m) message
next_read m k message one role is =
    let whole : beginning_of m ≡ Whole m [] = ap beginning_of (sym (append-nil m)) ∙ message_front m [] one in
    rw (whole, role, is) refl

none_waits : (k : Core) → next_of (ready k) ≡ None
none_waits k = refl

all_taken : (m : List ℕ) (k : Core) → beside (record { phase = Open; pending = drop (length m) m }) (does [] k) ≡ gives [] (ready k)
all_taken m k = ap (λ (x : List ℕ). gives [] (record { connection = record { phase = Open; pending = x }; core = k })) (drop_all (length m) m (omega arith))

-- THE MESSAGE is handled, and then nothing is left
pub handles : (m : List ℕ) (k k' : Core) (message : Message) → IsWholeMessage m → k.control.role ≡ Equal → message_of m ≡ Ok message
    → first_of (state_refusals message k) ≡ None → done (xid_of m) message k ≡ does [] k'
    → happened (Chunk m) (ready k) ≡ record { report = Gives []; state = ready k' }
handles m k k' message one role is none does_it =
    let next = next_read m k message one role is in
    let failed = take 64 (take (length m) m) in
    let core : handled (xid_of m) message failed k ≡ does [] k' = handled_done (xid_of m) message failed k k' [] (none, does_it) in
    let here : next_of (having m k) ≡ Some (gives [] (ready k')) =
    ap (λ (n : Next). next_by n (having m k)) next
    ∙ (ap (λ (d : Done). Some (beside (record { phase = Open; pending = drop (length m) m }) d)) core ∙ ap Some (all_taken m k')) in
    let all : drained (having m k) ≡ gives [] (ready k') = drained_more (having m k) (gives [] (ready k')) here ∙ ap (λ (o : Outcome). gives ([] ++ o.effects) o.state) (drained_none (ready k') (none_waits k')) in
    ap (λ (o : Outcome). record { report = Gives o.effects; state = o.state }) all

-- ---- connecting

connects : (dpid : ℕ) → happened Connect (start dpid) ≡ record { report = Gives (Answer hello_bytes ∷ []); state = record { connection = greeting; core = new_core dpid } }
connects dpid = refl

pub greets : (k : Core) → happened (Chunk hello) (record { connection = greeting; core = k }) ≡ record { report = Gives []; state = ready k }
unfolding drain version_by elements_of
greets k = refl

-- ---- one event after the other

-- the events give nothing, and lead from a state to another
abbrev pub Leads : List Event → State → State → Type 0
Leads es s t = run es s ≡ record { reports = replicate (length es) (Gives []); state = t }

pub leads_first : (e : Event) (es : List Event) (s t u : State) → happened e s ≡ record { report = Gives []; state = t } → Leads es t u → Leads (e ∷ es) s u
leads_first e es s t u first others =
    ap (λ (h : Happened). record { reports = h.report ∷ (run es h.state).reports; state = (run es h.state).state }) first
    ∙ ap (λ (r : Run). record { reports = Gives [] ∷ r.reports; state = r.state }) others
