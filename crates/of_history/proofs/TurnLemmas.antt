-- Turns, one after the other.
use Rattle.std.proofs.Common.{◌≡◌, ℕ, ◌+◌, ◌<◌, suc, zero, Bool, true, false, cond, List, [], ◌∷◌, ◌++◌, length, Option, Some, None, Result, Ok, Err, refl, sym, ◌∙◌, ap, ◌⊎◌, inl, inr, arith, append_assoc}
use Rattle.std.{specs.Prelude.OnOk, specs.Str.bytes_eq, proofs.lemmas.List.append-nil, proofs.lemmas.Slice.Eq.bytes_eq-Decides}
use Rattle.of_datapath.specs.Datapath.{Forwarding}
use Rattle.of_switch.specs.declared.event.Event.TheVariants.{Connect, Lost, Chunk, Frame, Moment, Ports}
use Rattle.of_switch.specs.Steps.{Outcome, connected, fed, frame_in, gives, lost, moment_in, next_of, port_changed}
use Rattle.of_switch.specs.Runs.{chunk_in, drain, drained, happened, then_more, unless_refusal}
use Rattle.of_switch.specs.{declared.event.Event.Event, declared.switch_error.SwitchError.SwitchError, State.State, Calls.Call, Calls.connect_refusal, Calls.feed_refusal, Calls.port_refusal}
use Rattle.of_switch.{specs.declared.port_change.PortChange.PortChange, proofs.Draining.next_shorter}
use Rattle.of_replay.specs.{declared.rows.Row.Row, Rows.with_bytes, RowTexts.row_happened}
use Rattle.of_replay.specs.declared.rows.Row.TheVariants as rows
use Rattle.of_history.specs.Turns.{Turn, after_turns, all_message_turns, chunk_turns, first_handled, message_turns, row_turns, turn_and, turn_of}
use Rattle.of_history.specs.Changes.{ChangeText, after_rows, told_change, row_expiring, rows_told_last, told_last, turns_told}
use Rattle.of_history.specs.Causes.{Cause, Message}

-- ---- where turns lead

messages_by : (n : ℕ) (base s : State) (o : Option Outcome) → base.core ≡ s.core → ((base t : State) → base.core ≡ t.core → (after_turns base (message_turns n t)).core ≡ (drain n t).state.core) →
    (after_turns base (turn_and (message_turns n) s o)).core ≡ (then_more (drain n) s o).state.core
messages_by n base s None e ih = e
messages_by n base s (Some o) e ih = ih o.state o.state refl

messages_last : (n : ℕ) (base s : State) → base.core ≡ s.core → (after_turns base (message_turns n s)).core ≡ (drain n s).state.core
unfolding drain message_turns
messages_last zero base s e = e
messages_last (suc n) base s e = messages_by n base s (next_of s) e (messages_last n)

whole_last : (r : Option SwitchError) (s : State) (o : Outcome) → (after_turns s (turn_of (unless_refusal r s o).report (unless_refusal r s o).state)).core.forwarding ≡ (unless_refusal r s o).state.core.forwarding
whole_last None s o = refl
whole_last (Some refusal) s o = refl

chunk_last : (r : Option SwitchError) (bytes : List ℕ) (s : State) → (after_turns s (chunk_turns bytes s r)).core.forwarding ≡ (unless_refusal r s (chunk_in bytes s)).state.core.forwarding
chunk_last None bytes s = ap (λ (k : _). k.forwarding) (messages_last (length (fed bytes s).connection.pending + 1) s (fed bytes s) refl)
chunk_last (Some refusal) bytes s = refl

pub row_last : (s : State) (row : Option Event) → (after_turns s (row_turns s row)).core.forwarding ≡ (row_happened s row).state.core.forwarding
row_last s None = refl
row_last s (Some Connect) = whole_last (connect_refusal s) s (connected s)
row_last s (Some Lost) = whole_last None s (gives [] (lost s))
row_last s (Some (Chunk bytes)) = chunk_last (feed_refusal s) bytes s
row_last s (Some (Frame port frame)) = whole_last None s (frame_in port frame s)
row_last s (Some (Moment nanos)) = whole_last None s (moment_in nanos s)
row_last s (Some (Ports change)) = whole_last (port_refusal change s) s (port_changed change s)

-- ---- what was told last

told_now : (b : Bool) (told old new : List ℕ) → bytes_eq old new ≡ b → told ≡ old → cond b told new ≡ new
told_now true told old new is e = e ∙ (bytes_eq-Decides old new).0 is
told_now false told old new is e = refl

module _ (seen : Forwarding → List ℕ) where
  turns_last : (told : List ℕ) (s : State) (ts : List Turn) → told ≡ seen s.core.forwarding → told_last seen told s ts ≡ seen (after_turns s ts).core.forwarding
  turns_last told s [] e = e
  turns_last told s (t ∷ ts) e = turns_last (cond (bytes_eq (seen s.core.forwarding) (seen t.after.core.forwarding)) told (seen t.after.core.forwarding)) t.after ts (told_now (bytes_eq (seen s.core.forwarding) (seen t.after.core.forwarding)) told (seen s.core.forwarding) (seen t.after.core.forwarding) refl e)

  rows_last : (told : List ℕ) (s : State) (rows : List (Option Event)) → told ≡ seen s.core.forwarding → rows_told_last seen told s rows ≡ seen (after_rows s rows).core.forwarding
  rows_last told s [] e = e
  rows_last told s (row ∷ rows) e = rows_last (told_last seen told s (row_turns s row)) (row_happened s row).state rows (turns_last told s (row_turns s row) e ∙ ap seen (row_last s row))

  pub told_between : (s : State) (ts : List Turn) → told_last seen (seen s.core.forwarding) s ts ≡ seen (after_turns s ts).core.forwarding
  told_between s ts = turns_last (seen s.core.forwarding) s ts refl

  pub rows_between : (s : State) (rows : List (Option Event)) → rows_told_last seen (seen s.core.forwarding) s rows ≡ seen (after_rows s rows).core.forwarding
  rows_between s rows = rows_last (seen s.core.forwarding) s rows refl

-- ---- turns as they are told

-- those so far were told, and enough of them are left
pub record Telling (text : ChangeText) (seen : Forwarding → List ℕ) (row : Cause) (first s : State) (k : ℕ) (before out : List ℕ) : Type 0 where
  pub turns : ℕ
  pub enough : length s.connection.pending < turns
  pub told : before ++ turns_told text seen row 1 first (all_message_turns first) ≡ out ++ turns_told text seen row (k + 1) s (message_turns turns s)
  pub leads : (drained first).state ≡ (drain turns s).state

module _ (text : ChangeText) (seen : Forwarding → List ℕ) (row : Cause) where
  pub telling_none : (s : State) (out : List ℕ) → Telling text seen row s s 0 out out
  telling_none s out = record { turns = length s.connection.pending + 1; enough = omega arith; told = refl; leads = refl }

  pub telling_more : (first s : State) (o : Outcome) (k next : ℕ) (message before out new old fresh : List ℕ) → next_of s ≡ Some o → next ≡ k + 1 →
      message ≡ first_handled s.connection.pending → old ≡ seen s.core.forwarding → fresh ≡ seen o.state.core.forwarding →
      new ≡ out ++ told_change text (record row { by = Message next message }) old fresh → Telling text seen row first s k before out → Telling text seen row first o.state next before new
  unfolding drain message_turns
  telling_more first s o k next message before out new old fresh h j m p q e t = by_turns t.turns t.enough t.told t.leads
    where
      by_turns : (turns : ℕ) → length s.connection.pending < turns → before ++ turns_told text seen row 1 first (all_message_turns first) ≡ out ++ turns_told text seen row (k + 1) s (message_turns turns s) →
          (drained first).state ≡ (drain turns s).state → Telling text seen row first o.state next before new
      by_turns zero lt told leads = absurd (omega arith)
      by_turns (suc turns) lt told leads =
          let short = next_shorter s o h in
          record {
            turns = turns;
            enough = omega arith;
            told = told ∙ (rw (h, e, j, m, p, q) (sym (append_assoc out _ _)));
            leads = leads ∙ rw h refl;
          }

  pub telling_all : (first s : State) (k : ℕ) (before out : List ℕ) → next_of s ≡ None → Telling text seen row first s k before out →
      (out ≡ before ++ turns_told text seen row 1 first (all_message_turns first)) × (s ≡ (drained first).state)
  unfolding drain message_turns
  telling_all first s k before out h t = by_turns t.turns t.enough t.told t.leads
    where
      by_turns : (turns : ℕ) → length s.connection.pending < turns → before ++ turns_told text seen row 1 first (all_message_turns first) ≡ out ++ turns_told text seen row (k + 1) s (message_turns turns s) →
          (drained first).state ≡ (drain turns s).state → (out ≡ before ++ turns_told text seen row 1 first (all_message_turns first)) × (s ≡ (drained first).state)
      by_turns zero lt told leads = absurd (omega arith)
      by_turns (suc turns) lt told leads = (sym (told ∙ rw h (append-nil out)), sym (leads ∙ rw h refl))

-- ---- bytes that were received

-- a row whose bytes are received first
pub turns_beside : (text : ChangeText) (seen : Forwarding → List ℕ) (row : Cause) (k : ℕ) (s t : State) (ts : List Turn) → s.core ≡ t.core → turns_told text seen row k s ts ≡ turns_told text seen row k t ts
turns_beside text seen row k s t [] e = refl
turns_beside text seen row k s t (x ∷ ts) e = rw e refl

fed_as : (r : Option SwitchError) (u : Unit {0}) (bytes : List ℕ) (s t : State) → Call r (λ _ new. new ≡ fed bytes s) s (Ok u) t → (r ≡ None) × (t ≡ fed bytes s)
fed_as None u bytes s t h = (refl, h)
fed_as (Some e) u bytes s t h = let no = h.0 in absurd cc

pub chunk_told : {E : Type 0} (text : ChangeText) (seen : Forwarding → List ℕ) (row : Cause) (r : Option SwitchError) (u : Unit {0}) (bytes : List ℕ) (s t : State) (result : Result (Unit {0}) E) (out new : List ℕ) →
    Call r (λ _ new. new ≡ fed bytes s) s (Ok u) t → OnOk result (new ≡ out ++ turns_told text seen row 1 t (all_message_turns t)) →
    OnOk result (new ≡ out ++ turns_told text seen row 1 s (chunk_turns bytes s r))
chunk_told text seen row r u bytes s t (Err e) out new fed_so said = tt
chunk_told text seen row r u bytes s t (Ok x) out new fed_so said =
    let same = fed_as r u bytes s t fed_so in
    rw same.0 (said ∙ ap (λ (ts : List ℕ). out ++ ts) (rw same.1 (turns_beside text seen row 1 (fed bytes s) s (all_message_turns (fed bytes s)) refl)))

-- ---- a row that is one turn

pub record IsWhole (s : State) (row : Option Event) : Type 0 where
  pub event : Event
  pub is : row ≡ Some event
  pub turns : row_turns s row ≡ turn_of (happened event s).report (happened event s).state

pub whole_row : (s : State) (bytes : List ℕ) (r : Row) → (r ≡ rows.Connect) ⊎ ((r ≡ rows.Lost) ⊎ (((x : ℕ) × (r ≡ rows.Frame x)) ⊎ (((x : ℕ) × (r ≡ rows.Moment x)) ⊎ ((x : PortChange) × (r ≡ rows.Ports x))))) → IsWhole s (with_bytes bytes r)
whole_row s bytes r (inl e) = rw e (record { event = Connect; is = refl; turns = refl })
whole_row s bytes r (inr (inl e)) = rw e (record { event = Lost; is = refl; turns = refl })
whole_row s bytes r (inr (inr (inl e))) = rw e.1 (record { event = Frame e.0 bytes; is = refl; turns = refl })
whole_row s bytes r (inr (inr (inr (inl e)))) = rw e.1 (record { event = Moment e.0; is = refl; turns = refl })
whole_row s bytes r (inr (inr (inr (inr e)))) = rw e.1 (record { event = Ports e.0; is = refl; turns = refl })

-- a row in which nothing expires
pub quiet_row : (expiring : ℕ → Forwarding → List ℕ) (s : State) (bytes : List ℕ) (r : Row) →
    (r ≡ rows.Passed) ⊎ ((r ≡ rows.Connect) ⊎ ((r ≡ rows.Lost) ⊎ ((r ≡ rows.Chunk) ⊎ (((x : ℕ) × (r ≡ rows.Frame x)) ⊎ ((x : PortChange) × (r ≡ rows.Ports x)))))) → [] ≡ row_expiring expiring s (with_bytes bytes r)
quiet_row expiring s bytes r (inl e) = rw e refl
quiet_row expiring s bytes r (inr (inl e)) = rw e refl
quiet_row expiring s bytes r (inr (inr (inl e))) = rw e refl
quiet_row expiring s bytes r (inr (inr (inr (inl e)))) = rw e refl
quiet_row expiring s bytes r (inr (inr (inr (inr (inl e))))) = rw e.1 refl
quiet_row expiring s bytes r (inr (inr (inr (inr (inr e))))) = rw e.1 refl
