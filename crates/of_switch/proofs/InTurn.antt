-- A chunk handles the messages that its bytes and those before it are, one after the other.
use Rattle.std.proofs.Common.{◌≡◌, ℕ, ◌⊎◌, inl, inr, Bool, true, false, cond, List, [], ◌∷◌, ◌++◌, length, take, drop, Option, Some, None, refl, sym, ◌∙◌, ap, subst, arith, append_assoc}
use Rattle.std.{specs.Prelude.Result, specs.Prelude.Ok, specs.Prelude.Err, specs.Prelude.unwrap_or, proofs.lemmas.List.append-nil, proofs.lemmas.List.drop_all}
use Rattle.of_session.specs.declared.session.Next.TheVariants.{Nothing, BadStream, NotHello, Opened, Read, Refused}
use Rattle.of_session.specs.Stream.{First, Whole, Bad, Partial, beginning_of, IsWholeMessage, IsMalformed, IsPartial, concat, AreMessages, Splits}
use Rattle.of_session.specs.Session.{is_disconnected, is_first_hello, read_as, judged, next_by_beginning as next_at, IsNextSized}
use Rattle.of_session.specs.{declared.session.Phase.Phase, declared.session.Phase.TheVariants.Open}
use Rattle.of_session.{specs.declared.session.Next.Next, proofs.Fronts.message_front, proofs.Fronts.malformed_front, proofs.Fronts.partial_front}
use Rattle.of_messages.specs.{declared.message.Message.Message, declared.role.Role.Role, Heads.xid_of, Messages.message_from}
use Rattle.of_wire.specs.declared.code.Code.{Code}
use Rattle.of_datapath.specs.declared.effect.Effect.{Effect}
use Rattle.of_switch.specs.Steps.{Outcome, gives, fed, coming, next_by, next_of}
use Rattle.of_switch.specs.Runs.{behind_effects, drained, chunk_in, come, holding, handled_alone, handled_in_turn}
use Rattle.of_switch.proofs.Joining.{come_open, come_gone, step_more, drained_more, drained_none, drained_gone}
use Rattle.of_switch.specs.State.{State}

greeted_size : (m : List ℕ) (t : Bool) → IsNextSized (cond t (Opened (length m)) (NotHello (xid_of m))) (length m)
greeted_size m true = refl
greeted_size m false = tt

read_size : (m : List ℕ) (r : Result Message Code) → IsNextSized (read_as m r) (length m)
read_size m (Ok message) = refl
read_size m (Err code) = refl

judged_size : (role : Role) (phase : Phase) (m : List ℕ) → IsNextSized (judged role phase m) (length m)
judged_size role Open m = read_size m (message_from role m)
judged_size role other m = greeted_size m (is_first_hello m)

-- the outcome of a message that came alone, which leaves nothing
abbrev Alone : Next → State → Type 0
Alone n s = (o : Outcome) × (next_by n s ≡ Some o) × (o.state.connection.pending ≡ [])

nothing_more : (size : ℕ) (m : List ℕ) → size ≡ length m → drop size m ≡ []
nothing_more size m e = drop_all size m (omega (arith, e))

alone_by : (n : Next) (m : List ℕ) (s : State) → IsNextSized n (length m) → Alone n (holding m s)
alone_by (NotHello xid) m s h = (_, refl, refl)
alone_by (Opened size) m s h = (_, refl, nothing_more size m h)
alone_by (Read xid size message) m s h = (_, refl, nothing_more size m h)
alone_by (Refused xid size code) m s h = (_, refl, nothing_more size m h)
alone_by other m s h = absurd h

-- what comes next of bytes that a connection has alone
next_held : (f : First) (bytes : List ℕ) (s : State) → is_disconnected s.connection.phase ≡ false → beginning_of bytes ≡ f → coming (holding bytes s) ≡ next_at s.core.control.role (holding bytes s).connection f
next_held f bytes s open_ e = rw open_ (ap (next_at s.core.control.role (holding bytes s).connection) e)

alone_message : (m : List ℕ) (s : State) → IsWholeMessage m → is_disconnected s.connection.phase ≡ false → Alone (coming (holding m s)) (holding m s)
alone_message m s is open_ =
    let front : beginning_of m ≡ Whole m [] = ap beginning_of (sym (append-nil m)) ∙ message_front m [] is in
    subst (λ (n : Next). Alone n (holding m s)) (sym (next_held (Whole m []) m s open_ front)) (alone_by (judged s.core.control.role s.connection.phase m) m s (judged_size s.core.control.role s.connection.phase m))

-- what is left is handled where its header is malformed, or waits
abbrev Ends : List ℕ → State → Type 0
Ends rest s = drained (holding rest s) ≡ gives (handled_alone rest s).effects (handled_alone rest s).state

ends_some : (rest : List ℕ) (s : State) (o : Outcome) → next_of (holding rest s) ≡ Some o → is_disconnected o.state.connection.phase ≡ true → Ends rest s
ends_some rest s o e gone =
    let last : drained o.state ≡ gives [] o.state = drained_gone o.state gone in
    drained_more (holding rest s) o e ∙ (ap (behind_effects o.effects) last ∙ rw (e, append-nil o.effects) refl)

ends_none : (rest : List ℕ) (s : State) → next_of (holding rest s) ≡ None → Ends rest s
ends_none rest s e = drained_none (holding rest s) e ∙ rw e refl

rest_ends : (rest : List ℕ) (s : State) → IsMalformed rest ⊎ IsPartial rest → is_disconnected s.connection.phase ≡ false → Ends rest s
rest_ends rest s (inl bad) open_ =
    let next : coming (holding rest s) ≡ BadStream (xid_of (take 8 rest)) = next_held Bad rest s open_ (malformed_front rest bad) in
    ends_some rest s _ (ap (λ (n : Next). next_by n (holding rest s)) next) refl
rest_ends rest s (inr part) open_ =
    let next : coming (holding rest s) ≡ Nothing = next_held Partial rest s open_ (partial_front rest part) in
    ends_none rest s (ap (λ (n : Next). next_by n (holding rest s)) next)

-- the messages and the rest, one after the other
abbrev InTurn : List (List ℕ) → List ℕ → State → Type 0
InTurn ms rest s = drained (holding (concat ms ++ rest) s) ≡ handled_in_turn (ms ++ rest ∷ []) s

closed_or : (t : Bool) (s : State) → cond t (gives [] s) (gives [] s) ≡ gives [] s
closed_or true s = refl
closed_or false s = refl

last_in_turn : (rest : List ℕ) (s : State) → IsMalformed rest ⊎ IsPartial rest → is_disconnected s.connection.phase ≡ false → InTurn [] rest s
last_in_turn rest s ends open_ =
    let first = handled_alone rest s in
    let closed : cond (is_disconnected first.state.connection.phase) (gives [] first.state) (gives [] first.state) ≡ gives [] first.state = closed_or (is_disconnected first.state.connection.phase) first.state in
    rest_ends rest s ends open_ ∙ sym (ap (behind_effects first.effects) closed ∙ ap (λ (es : List Effect). gives es first.state) (append-nil first.effects))

-- after a message that came alone
abbrev Then : List (List ℕ) → List ℕ → State → Bool → Type 0
Then ms rest t gone = drained (come (concat ms ++ rest) t) ≡ cond gone (gives [] t) (handled_in_turn (ms ++ rest ∷ []) t)

then_by : (ms : List (List ℕ)) (rest : List ℕ) (t : State) (gone : Bool) → is_disconnected t.connection.phase ≡ gone → t.connection.pending ≡ []
    → (is_disconnected t.connection.phase ≡ false → InTurn ms rest t) → Then ms rest t gone
then_by ms rest t true e empty ih = ap drained (come_gone (concat ms ++ rest) t e) ∙ drained_gone t e
then_by ms rest t false e empty ih =
    let all = concat ms ++ rest in
    let held : fed all t ≡ holding all t = ap (λ (p : List ℕ). record t { connection = record t.connection { pending = p ++ all } }) empty in
    ap drained (come_open all t e ∙ held) ∙ ih e

in_turn : (ms : List (List ℕ)) (rest : List ℕ) (s : State) → AreMessages ms → IsMalformed rest ⊎ IsPartial rest → is_disconnected s.connection.phase ≡ false → InTurn ms rest s
in_turn [] rest s each ends open_ = last_in_turn rest s ends open_
in_turn (m ∷ ms) rest s each ends open_ =
    let more = concat ms ++ rest in
    let h = alone_message m s each.0 open_ in
    let o = h.0 in
    let first : handled_alone m s ≡ o = ap (λ (x : Option Outcome). unwrap_or x (gives [] (holding m s))) h.1 in
    let step : next_of (fed more (holding m s)) ≡ Some (gives o.effects (come more o.state)) = step_more (holding m s) more o open_ h.1 in
    let one : drained (fed more (holding m s)) ≡ behind_effects o.effects (drained (come more o.state)) = drained_more (fed more (holding m s)) (gives o.effects (come more o.state)) step in
    let others : Then ms rest o.state (is_disconnected o.state.connection.phase) = then_by ms rest o.state (is_disconnected o.state.connection.phase) refl h.2 (λ open'. in_turn ms rest o.state each.1 ends open') in
    ap (λ (bytes : List ℕ). drained (holding bytes s)) (append_assoc m (concat ms) rest)
    ∙ (one ∙ (ap (behind_effects o.effects) others
    ∙ ap (λ (f : Outcome). behind_effects f.effects (cond (is_disconnected f.state.connection.phase) (gives [] f.state) (handled_in_turn (ms ++ rest ∷ []) f.state))) (sym first)))

pub chunk_in_turn : (chunk : List ℕ) (s : State) (messages : List (List ℕ)) (rest : List ℕ) → is_disconnected s.connection.phase ≡ false
    → Splits (s.connection.pending ++ chunk) messages rest → chunk_in chunk s ≡ handled_in_turn (messages ++ rest ∷ []) s
chunk_in_turn chunk s messages rest open_ splits =
    ap (λ (bytes : List ℕ). drained (holding bytes s)) splits.whole ∙ in_turn messages rest s splits.each splits.ends open_
