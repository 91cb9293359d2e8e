-- What each row moves.
use Rattle.std.proofs.Common.{◌≡◌, ◌≢◌, ◌==◌, ℕ, ◌+◌, ◌<◌, suc, Bool, true, false, List, [], ◌∷◌, ◌++◌, refl, sym, ◌∙◌, ap, subst, length, get_or, drop, Some, None, append_assoc, add-one, drop-cons, ◌⊎◌, inl, inr}
use Rattle.std.{specs.Prelude.map, specs.Prelude.IsTrue, proofs.lemmas.List.append-nil}
use Rattle.of_wire.specs.{declared.limits.TheConstants.OFPP_TABLE, declared.reasons.PacketInReason.TheVariants.InvalidTtl}
use Rattle.of_layers.specs.Reading.{layers_of}
use Rattle.of_rewrite.specs.{declared.frame.Ttl.Ttl, declared.frame.Ttl.TheVariants.Done, declared.frame.Ttl.TheVariants.Expired, declared.frame.Ttl.TheVariants.Absent}
use Rattle.of_rewrite.specs.{TimeToLive.ttl_of, TimeToLive.dec_ttl_result, Frames.IsFrame, Frames.frame_ttl_decremented}
use Rattle.of_actions.specs.declared.instruction.Instruction.TheVariants.{Apply, Clear, Write, Metadata, Goto}
use Rattle.of_actions.specs.declared.action.Action.{Action}
use Rattle.of_actions.specs.declared.action.Action.TheVariants.{Output, Group as ToGroup, DecNwTtl}
use Rattle.of_actions.specs.declared.instruction.Instruction.{Instruction}
use Rattle.of_action_set.specs.Sets.{with_actions, in_order}
use Rattle.of_table.specs.declared.flow.Flow.{Flow}
use Rattle.of_machine.specs.declared.data.Step.TheVariants.{Miss, Entry, Apply as DidApply, Clear as DidClear, Write as DidWrite, Metadata as DidMetadata, Goto as DidGoto, Set as DidSet, Act as DidAct, TtlExpired, End}
use Rattle.of_machine.specs.Rows.{Work, Lookup, Do, RunSet, Act, lookup_row, entry_row, miss_row, at_entry, works, key_of, Task, task, Row, row, act_row, output_row, output_to_table_row, rewritten, dec_ttl_row, group_action_row, goes_on, emits, emission, packet_in_emitted, fresh_packet, bucket_copy, copies, with_metadata, acts, set_out}
use Rattle.of_machine.specs.declared.data.Packet.{Packet}
use Rattle.of_machine.specs.declared.data.Count.TheVariants.{Lookup as CountLookup, Matched, Group as CountGroup, Bucket}
use Rattle.of_machine.specs.{declared.data.Step.Step, declared.data.Outcome.Outcome, declared.machine.Going.Going}
use Rattle.of_machine.specs.{declared.machine.Going.TheVariants.Continues, declared.machine.Going.TheVariants.Ended, Gained.Gains, Outside.is_to_tables, TheWorld.TheWorld}
use Rattle.of_machine.{specs.Runs.point, specs.Runs.Moves, specs.Runs.left_of, proofs.Aged.aged_same, proofs.Reaching.one}

module _ (w : TheWorld) (keeps : Bool) (p : Packet) (rest : List Work) (others : List Task) (o : Outcome) (told told' : List Step) where
  -- a row that is known
  pub by_row : (o' : Outcome) (work : List Work) (r : Row) → row w p work ≡ r →
      o'.items.items ≡ o.items.items ++ r.items → o'.counts.items ≡ o.counts.items ++ r.counts →
      (keeps ≡ true → told' ≡ told ++ r.line ∷ []) →
      Moves w keeps (point (task p work ∷ others) o told) (point (r.left ++ others) o' told')
  by_row o' work r e =
      subst (λ (x : Row). o'.items.items ≡ o.items.items ++ x.items → o'.counts.items ≡ o.counts.items ++ x.counts → (keeps ≡ true → told' ≡ told ++ x.line ∷ []) → Moves w keeps (point (task p work ∷ others) o told) (point (x.left ++ others) o' told')) e
      (one w keeps p work others o o' told told')

  -- a row that gives nothing but its line
  pub quiet : (work : List Work) (line : Step) (p' : Packet) (next : List Work) → row w p work ≡ goes_on line p' next →
      (keeps ≡ true → told' ≡ told ++ line ∷ []) →
      Moves w keeps (point (task p work ∷ others) o told) (point (task p' next ∷ others) o told')
  quiet work line p' next e = by_row o work (goes_on line p' next) e (sym (append-nil o.items.items)) (sym (append-nil o.counts.items))

  -- the packet's end
  pub ends : (keeps ≡ true → told' ≡ told ++ End ∷ []) → Moves w keeps (point (task p [] ∷ others) o told) (point others o told')
  ends = by_row o [] (row w p []) refl (sym (append-nil o.items.items)) (sym (append-nil o.counts.items))

  -- ---- actions

  output_is : (a : Action) (port max_len : ℕ) → (port == OFPP_TABLE) ≡ false → output_row w p rest a port max_len ≡ emits (DidAct a) (emission w.ports p port max_len) (task p rest ∷ [])
  output_is a port max_len e = rw e refl

  pub outputs : (o' : Outcome) (port max_len : ℕ) → (port == OFPP_TABLE) ≡ false → Gains o (emission w.ports p port max_len) o' → (keeps ≡ true → told' ≡ told ++ DidAct (Output port max_len) ∷ []) →
      Moves w keeps (point (task p (Act (Output port max_len) ∷ rest) ∷ others) o told) (point (task p rest ∷ others) o' told')
  outputs o' port max_len out gains =
      by_row o' (Act (Output port max_len) ∷ rest) (emits (DidAct (Output port max_len)) (emission w.ports p port max_len) (task p rest ∷ [])) (output_is (Output port max_len) port max_len out) gains.items gains.counts

  tables_is : (a : Action) → IsTrue (is_to_tables a) → act_row w p rest a ≡ output_to_table_row p rest a
  tables_is (Output port max_len) e = rw e refl
  tables_is other e = cc

  pub dispatches : (a : Action) → IsTrue (is_to_tables a) → (keeps ≡ true → told' ≡ told ++ DidAct a ∷ []) →
      Moves w keeps (point (task p (Act a ∷ rest) ∷ others) o told) (point (task (fresh_packet p) (Lookup 0 ∷ []) ∷ task p rest ∷ others) o told')
  dispatches a e = by_row o (Act a ∷ rest) (output_to_table_row p rest a) (tables_is a e) (sym (append-nil o.items.items)) (sym (append-nil o.counts.items))

  -- neither an output nor a group nor a decrement of the TTL
  pub rewrites : (a : Action) → ((port max_len : ℕ) → a ≢ Output port max_len) → ((g : ℕ) → a ≢ ToGroup g) → a ≢ DecNwTtl → (frame : List ℕ) → frame ≡ rewritten a p.frame → (keeps ≡ true → told' ≡ told ++ DidAct a ∷ []) →
      Moves w keeps (point (task p (Act a ∷ rest) ∷ others) o told) (point (task (record p { frame = frame }) rest ∷ others) o told')
  rewrites (Output port max_len) not_output not_group not_dec frame e = absurd (not_output port max_len refl)
  rewrites (ToGroup g) not_output not_group not_dec frame e = absurd (not_group g refl)
  rewrites DecNwTtl not_output not_group not_dec frame e = absurd (not_dec refl)
  rewrites other not_output not_group not_dec frame e = rw e (quiet (Act other ∷ rest) (DidAct other) (record p { frame = rewritten other p.frame }) rest refl)

  aged_is : (answer : Ttl) → answer ≡ dec_ttl_result (ttl_of (layers_of p.frame)) → act_row w p rest DecNwTtl ≡ dec_ttl_row p rest answer
  aged_is answer e = rw (← e) refl

  pub expires : (o' : Outcome) (frame : List ℕ) (answer : Ttl) → answer ≡ Expired → answer ≡ dec_ttl_result (ttl_of (layers_of p.frame)) → IsFrame p.frame → frame ≡ frame_ttl_decremented p.frame → Gains o (packet_in_emitted InvalidTtl None (record p { frame = frame })) o' → (keeps ≡ true → told' ≡ told ++ TtlExpired ∷ []) →
      Moves w keeps (point (task p (Act DecNwTtl ∷ rest) ∷ others) o told) (point (task (record p { frame = frame }) [] ∷ others) o' told')
  expires o' frame answer is e known same =
      let expired : Expired ≡ dec_ttl_result (ttl_of (layers_of p.frame)) = sym is ∙ e in
      let kept : frame ≡ p.frame = same ∙ aged_same p.frame known (λ done. let x = expired in cc) in
      rw kept (λ gains. by_row o' (Act DecNwTtl ∷ rest) (dec_ttl_row p rest Expired) (aged_is Expired expired) gains.items gains.counts)

  pub ages : (frame : List ℕ) (answer : Ttl) → (answer ≡ Done) ⊎ (answer ≡ Absent) → answer ≡ dec_ttl_result (ttl_of (layers_of p.frame)) → IsFrame p.frame → frame ≡ frame_ttl_decremented p.frame → (keeps ≡ true → told' ≡ told ++ DidAct DecNwTtl ∷ []) →
      Moves w keeps (point (task p (Act DecNwTtl ∷ rest) ∷ others) o told) (point (task (record p { frame = frame }) rest ∷ others) o told')
  ages frame answer (inl done) e known same =
      rw same (quiet (Act DecNwTtl ∷ rest) (DidAct DecNwTtl) (record p { frame = frame_ttl_decremented p.frame }) rest (aged_is Done (sym done ∙ e)))
  ages frame answer (inr absent) e known same =
      let none : Absent ≡ dec_ttl_result (ttl_of (layers_of p.frame)) = sym absent ∙ e in
      let kept : frame ≡ p.frame = same ∙ aged_same p.frame known (λ done. let x = none in cc) in
      rw kept (quiet (Act DecNwTtl ∷ rest) (DidAct DecNwTtl) p rest (aged_is Absent none))

  no_group : (g : ℕ) → None ≡ w.chosen g → group_action_row w p rest g (w.chosen g) ≡ goes_on (DidAct (ToGroup g)) p rest
  no_group g e = rw (← e) refl

  pub passes_by : (g : ℕ) → None ≡ w.chosen g → (keeps ≡ true → told' ≡ told ++ DidAct (ToGroup g) ∷ []) →
      Moves w keeps (point (task p (Act (ToGroup g) ∷ rest) ∷ others) o told) (point (task p rest ∷ others) o told')
  passes_by g e = quiet (Act (ToGroup g) ∷ rest) (DidAct (ToGroup g)) p rest (no_group g e)

  group_is : (g : ℕ) (places : List ℕ) → Some places ≡ w.chosen g → group_action_row w p rest g (w.chosen g) ≡ group_action_row w p rest g (Some places)
  group_is g places e = rw (← e) refl

  pub groups : (o' : Outcome) (g : ℕ) (places : List ℕ) → Some places ≡ w.chosen g →
      o'.items.items ≡ o.items.items → o'.counts.items ≡ o.counts.items ++ (CountGroup g (length p.frame) ∷ map (λ place. Bucket g place (length p.frame)) places) →
      (keeps ≡ true → told' ≡ told ++ DidAct (ToGroup g) ∷ []) →
      Moves w keeps (point (task p (Act (ToGroup g) ∷ rest) ∷ others) o told) (point (copies w g p places ++ task p rest ∷ others) o' told')
  groups o' g places e items counts line =
      subst (λ (ts : List Task). Moves w keeps (point (task p (Act (ToGroup g) ∷ rest) ∷ others) o told) (point ts o' told')) (append_assoc (copies w g p places) (task p rest ∷ []) others)
      (by_row o' (Act (ToGroup g) ∷ rest) (group_action_row w p rest g (Some places)) (group_is g places e) (items ∙ sym (append-nil o.items.items)) counts line)

  -- ---- instructions

  pub runs_set : (set l : List Action) → set ≡ [] → l ≡ in_order p.action_set → (keeps ≡ true → told' ≡ told ++ DidSet ∷ []) →
      Moves w keeps (point (task p (RunSet ∷ rest) ∷ others) o told) (point (task (record (set_out p) { action_set = set }) (acts l ++ rest) ∷ others) o told')
  runs_set set l empty e = rw (empty, e) (quiet (RunSet ∷ rest) DidSet (set_out p) (acts (in_order p.action_set) ++ rest) refl)

  pub applies : (l : List Action) → (keeps ≡ true → told' ≡ told ++ DidApply ∷ []) →
      Moves w keeps (point (task p (Do (Apply l) ∷ rest) ∷ others) o told) (point (task p (acts l ++ rest) ∷ others) o told')
  applies l = quiet (Do (Apply l) ∷ rest) DidApply p (acts l ++ rest) refl

  pub clears : (set : List Action) → set ≡ [] → (keeps ≡ true → told' ≡ told ++ DidClear ∷ []) →
      Moves w keeps (point (task p (Do Clear ∷ rest) ∷ others) o told) (point (task (record p { action_set = set }) rest ∷ others) o told')
  clears set e = rw e (quiet (Do Clear ∷ rest) DidClear (record p { action_set = [] }) rest refl)

  pub writes : (l set : List Action) → set ≡ with_actions p.action_set l → (keeps ≡ true → told' ≡ told ++ DidWrite ∷ []) →
      Moves w keeps (point (task p (Do (Write l) ∷ rest) ∷ others) o told) (point (task (record p { action_set = set }) rest ∷ others) o told')
  writes l set e = rw e (quiet (Do (Write l) ∷ rest) DidWrite (record p { action_set = with_actions p.action_set l }) rest refl)

  pub marks : (value mask : ℕ) → (keeps ≡ true → told' ≡ told ++ DidMetadata value mask ∷ []) →
      Moves w keeps (point (task p (Do (Metadata value mask) ∷ rest) ∷ others) o told) (point (task (record p { metadata = with_metadata value mask p.metadata }) rest ∷ others) o told')
  marks value mask = quiet (Do (Metadata value mask) ∷ rest) (DidMetadata value mask) (record p { metadata = with_metadata value mask p.metadata }) rest refl

  pub jumps : (t : ℕ) → (keeps ≡ true → told' ≡ told ++ DidGoto t ∷ []) →
      Moves w keeps (point (task p (Do (Goto t) ∷ rest) ∷ others) o told) (point (task p (Lookup t ∷ []) ∷ others) o told')
  jumps t = quiet (Do (Goto t) ∷ rest) (DidGoto t) p (Lookup t ∷ []) refl

  -- ---- tables

  missed : (t : ℕ) → w.winner t (key_of p) ≡ None → lookup_row w p t (w.winner t (key_of p)) ≡ miss_row p t
  missed t e = rw e refl

  pub misses : (o' : Outcome) (t : ℕ) → w.winner t (key_of p) ≡ None → o'.items.items ≡ o.items.items → o'.counts.items ≡ o.counts.items ++ CountLookup t ∷ [] → (keeps ≡ true → told' ≡ told ++ Miss t ∷ []) →
      Moves w keeps (point (task p (Lookup t ∷ rest) ∷ others) o told) (point (task p [] ∷ others) o' told')
  misses o' t e items counts = by_row o' (Lookup t ∷ rest) (miss_row p t) (missed t e) (items ∙ sym (append-nil o.items.items)) counts

  entered : (t n : ℕ) (f : Flow) → w.winner t (key_of p) ≡ Some n → w.flow t n ≡ Some f → lookup_row w p t (w.winner t (key_of p)) ≡ entry_row p t n (Some f)
  entered t n f e there = rw (e, there) refl

  pub enters : (o' : Outcome) (t n : ℕ) (f : Flow) → w.winner t (key_of p) ≡ Some n → w.flow t n ≡ Some f → o'.items.items ≡ o.items.items → o'.counts.items ≡ o.counts.items ++ (CountLookup t ∷ Matched t n (length p.frame) ∷ []) → (keeps ≡ true → told' ≡ told ++ Entry t n ∷ []) →
      Moves w keeps (point (task p (Lookup t ∷ rest) ∷ others) o told) (point (task (at_entry t f p) (works f.instructions) ∷ others) o' told')
  enters o' t n f e there items counts = by_row o' (Lookup t ∷ rest) (entry_row p t n (Some f)) (entered t n f e there) (items ∙ sym (append-nil o.items.items)) counts

-- the rest of a list of actions
pub acts_at : (l : List Action) (i : ℕ) (d : Action) → i < length l → acts (drop i l) ≡ Act (get_or l i d) ∷ acts (drop (i + 1) l)
acts_at l i d lt = rw (add-one, drop-cons l i d) refl

-- the rest of a list of instructions
pub instructions_at : (l : List Instruction) (i : ℕ) (x : Instruction) → x ≡ get_or l i x → i < length l → drop i l ≡ x ∷ drop (i + 1) l
instructions_at l i x e lt = rw (add-one, drop-cons l i x) (ap (λ (y : Instruction). y ∷ drop (suc i) l) (sym e))

pub copies_at : (w : TheWorld) (g : ℕ) (p : Packet) (ks : List ℕ) (i : ℕ) → i < length ks → copies w g p (drop i ks) ≡ task (bucket_copy w g p (get_or ks i 0)) (RunSet ∷ []) ∷ copies w g p (drop (i + 1) ks)
copies_at w g p ks i lt = rw (add-one, drop-cons ks i 0) refl

-- the copy that the code makes
pub copy_is : (w : TheWorld) (g k : ℕ) (p q : Packet) (set l : List Action) → q ≡ record p { action_set = [] } → w.bucket g k ≡ Some l → set ≡ with_actions q.action_set l → record q { action_set = set } ≡ bucket_copy w g p k
copy_is w g k p q set l same there written = rw (written, same, there) refl

pub fresh_is : (p q : Packet) → q ≡ record p { action_set = [] } → record q { metadata = 0 } ≡ fresh_packet p
fresh_is p q same = rw same refl

pub left_nil : (going : Going) → left_of going [] ≡ []
left_nil Continues = refl
left_nil Ended = refl
