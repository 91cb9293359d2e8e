-- Messages, until there is none.
use Rattle.std.proofs.Common.{◌≡◌, ℕ, ◌+◌, ◌<◌, ◌≤◌, suc, zero, List, [], ◌++◌, length, drop, Option, Some, None, refl, sym, ◌∙◌, ap, subst, arith, append_assoc, length-drop}
use Rattle.std.proofs.{lemmas.List.append-nil, lemmas.Option.same_Some}
use Rattle.of_session.specs.declared.session.Next.TheVariants.{Nothing, Opened, Read, Refused}
use Rattle.of_session.{specs.declared.session.Next.Next, proofs.Nexts.IsSizedIn, proofs.Nexts.next_sized}
use Rattle.of_datapath.specs.declared.effect.Effect.{Effect}
use Rattle.of_switch.specs.Steps.{Outcome, gives, coming, next_by, next_of}
use Rattle.of_switch.specs.{State.State, Runs.behind_effects, Runs.then_more, Runs.drain, Runs.drained}

-- as many bytes as an outcome leaves
abbrev left : Outcome → ℕ
left o = length o.state.connection.pending

-- what comes first leaves so many of the bytes
taken_short : (size : ℕ) (s : State) (o p : Outcome) → p ≡ o → left p ≡ length (drop size s.connection.pending) → 8 ≤ size → size ≤ length s.connection.pending → left o < length s.connection.pending
taken_short size s o p same e low high =
    let less : left p < length s.connection.pending = omega (arith, length-drop size s.connection.pending, e, low, high) in
    subst (λ (x : Outcome). left x < length s.connection.pending) same less

closed_short : (s : State) (o p : Outcome) → p ≡ o → left p ≡ 0 → 8 ≤ length s.connection.pending → left o < length s.connection.pending
closed_short s o p same e some =
    let less : left p < length s.connection.pending = omega (arith, e, some) in
    subst (λ (x : Outcome). left x < length s.connection.pending) same less

shorter_by : (n : Next) (s : State) (o : Outcome) → IsSizedIn n s.connection.pending → next_by n s ≡ Some o → left o < length s.connection.pending
shorter_by Nothing s o sized h = absurd cc
shorter_by (Opened size) s o sized h = taken_short size s o _ (same_Some _ _ h) refl sized.0 sized.1
shorter_by (Refused xid size code) s o sized h = taken_short size s o _ (same_Some _ _ h) refl sized.0 sized.1
shorter_by (Read xid size m) s o sized h = taken_short size s o _ (same_Some _ _ h) refl sized.0 sized.1
shorter_by other s o sized h = closed_short s o _ (same_Some _ _ h) refl sized

-- a message has some bytes
pub next_shorter : (s : State) (o : Outcome) → next_of s ≡ Some o → length o.state.connection.pending < length s.connection.pending
next_shorter s o h = shorter_by (coming s) s o (next_sized s.core.control.role s.connection) h

-- what is left is drained with enough turns, after these effects
pub record Left (first s : State) (effects : List Effect) : Type 0 where
  pub turns : ℕ
  pub enough : length s.connection.pending < turns
  pub told : drained first ≡ behind_effects effects (drain turns s)

pub left_none : (s : State) → Left s s []
left_none s = record { turns = length s.connection.pending + 1; enough = omega arith; told = refl }

pub left_more : (first s : State) (effects : List Effect) (o : Outcome) → next_of s ≡ Some o → Left first s effects → Left first o.state (effects ++ o.effects)
unfolding drain
left_more first s effects o h left = by_turns left.turns left.enough left.told
  where
    by_turns : (n : ℕ) → length s.connection.pending < n → drained first ≡ behind_effects effects (drain n s) → Left first o.state (effects ++ o.effects)
    by_turns zero lt told = absurd (omega arith)
    by_turns (suc n) lt told =
        let short = next_shorter s o h in
        record {
          turns = n;
          enough = omega arith;
          told = told ∙ (rw h refl ∙ ap (λ es. gives es (drain n o.state).state) (sym (append_assoc effects o.effects (drain n o.state).effects)));
        }

pub left_all : (first s : State) (effects : List Effect) → next_of s ≡ None → Left first s effects → drained first ≡ gives effects s
unfolding drain
left_all first s effects h left = by_turns left.turns left.enough left.told
  where
    by_turns : (n : ℕ) → length s.connection.pending < n → drained first ≡ behind_effects effects (drain n s) → drained first ≡ gives effects s
    by_turns zero lt told = absurd (omega arith)
    by_turns (suc n) lt told = told ∙ (rw h (ap (λ es. gives es s) (append-nil effects)))

-- with enough turns nothing is left to handle
ends_by : (n : ℕ) (s : State) (o : Option Outcome) → next_of s ≡ o → ((t : State) → length t.connection.pending < length s.connection.pending → next_of (drain n t).state ≡ None) → next_of (then_more (drain n) s o).state ≡ None
ends_by n s None e ih = e
ends_by n s (Some o) e ih = ih o.state (next_shorter s o e)

drain_ends : (n : ℕ) (s : State) → length s.connection.pending < n → next_of (drain n s).state ≡ None
unfolding drain
drain_ends zero s h = absurd (omega (arith, h))
drain_ends (suc n) s h = ends_by n s (next_of s) refl (λ t less. drain_ends n t (omega (arith, less, h)))

pub drained_ends : (s : State) → next_of (drained s).state ≡ None
drained_ends s = drain_ends (length s.connection.pending + 1) s (omega arith)
