-- A message that is handled: done, or refused.
use Rattle.std.proofs.Common.{◌≡◌, ℕ, List, [], ◌∷◌, Option, Some, None, ◌∙◌, ap, sym, refl}
use Rattle.of_wire.specs.{declared.code.Code.Code, Refusals.first_of}
use Rattle.of_messages.specs.{declared.message.Message.Message, Written.error_bytes}
use Rattle.of_session.specs.declared.session.Next.TheVariants.{Read, Refused}
use Rattle.of_session.specs.{declared.session.Next.Next, Session.message_taken}
use Rattle.of_datapath.specs.{declared.effect.Effect.Effect, declared.effect.Effect.TheVariants.Answer}
use Rattle.of_switch.specs.Steps.{does, done, state_refusals, refused, unless_refused, handled, gives, failed_of, coming, next_by, IsRefusedWith}
use Rattle.of_switch.specs.State.{Core, State}

handled_by : (xid : ℕ) (m : Message) (failed : List ℕ) (k : Core) (o : Option Code) → first_of (state_refusals m k) ≡ o → handled xid m failed k ≡ unless_refused o xid failed k (done xid m k)
unfolding handled
handled_by xid m failed k o e = ap (λ (r : Option Code). unless_refused r xid failed k (done xid m k)) e

pub handled_done : (xid : ℕ) (m : Message) (failed : List ℕ) (k k' : Core) (effects : List Effect) → (first_of (state_refusals m k) ≡ None) × (done xid m k ≡ does effects k') → handled xid m failed k ≡ does effects k'
handled_done xid m failed k k' effects h = handled_by xid m failed k None h.0 ∙ h.1

pub handled_refused : (xid : ℕ) (m : Message) (failed : List ℕ) (k : Core) (code : Code) → first_of (state_refusals m k) ≡ Some code → handled xid m failed k ≡ refused xid code failed k
handled_refused xid m failed k code h = handled_by xid m failed k (Some code) h

-- the ERROR is all that a refused message does
abbrev Answers : Next → State → ℕ → ℕ → Code → Type 0
Answers n s xid size code = next_by n s ≡ Some (gives (Answer (error_bytes xid code (failed_of size s.connection)) ∷ []) (record s { connection = message_taken size s.connection }))

refused_by : (n : Next) (s : State) (xid size : ℕ) (code : Code) → IsRefusedWith n s.core xid size code → Answers n s xid size code
refused_by (Refused x n c) s xid size code h = rw (h.0, h.1, h.2) refl
refused_by (Read x n m) s xid size code h = rw (h.0, h.1, handled_refused xid m (failed_of size s.connection) s.core code h.2) refl
refused_by other s xid size code h = absurd h

pub refused_alone : (s : State) (xid size : ℕ) (code : Code) → IsRefusedWith (coming s) s.core xid size code → Answers (coming s) s xid size code
refused_alone s xid size code h = refused_by (coming s) s xid size code h

-- an ERROR was made of the refusal
pub handled_answered : (xid : ℕ) (m : Message) (failed : List ℕ) (k k' : Core) (code : Code) (effects : List Effect) → (first_of (state_refusals m k) ≡ Some code) × (k' ≡ k)
    → effects ≡ Answer (error_bytes xid code failed) ∷ [] → handled xid m failed k ≡ does effects k'
handled_answered xid m failed k k' code effects h e =
    handled_refused xid m failed k code h.0
    ∙ (ap (λ (es : List Effect). does es k) (sym e) ∙ ap (λ (c : Core). does effects c) (sym h.1))
