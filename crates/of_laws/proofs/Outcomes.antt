-- What a switch makes of each command, and how the sending of messages ends.
use Rattle.std.proofs.Common.{◌≡◌, ℕ, ◌+◌, eqb, Bool, true, false, cond, List, [], ◌∷◌, ◌++◌, length, take, drop, ◌⊎◌, inl, inr, Option, Some, None, Result, Ok, Err, refl, sym, ◌∙◌, ap, subst, arith}
use Rattle.std.specs.Prelude.{◌&&◌, ◌||◌, filter, map, slice_index_or}
use Rattle.std.proofs.{lemmas.Bool.and_parts, lemmas.Bool.eqb-true, lemmas.Bool.le-leb, lemmas.List.append-nil, lemmas.List.take_all}
use Rattle.byteorder.specs.{Endian.big_bytes, Endian.big_number, Numbers.big_from-take}
use Rattle.of_wire.{specs.declared.code.Code.Code, specs.Refusals.first_of, proofs.Numbers.IsBytes-big_bytes, proofs.Numbers.big_bytes-big_number, proofs.Numbers.take_number}
use Rattle.of_datapath.specs.Commands.{command_notices, frame_named, is_notice_admitted, notice_effect, notice_effects}
use Rattle.of_datapath.specs.{Buffers.Held, Buffers.given_since, Buffers.is_id, Buffers.none_held, declared.control.AsyncConfig.AsyncConfig, Control.heard_of, declared.effect.Effect.Effect}
use Rattle.of_datapath.specs.declared.effect.Effect.TheVariants.{Answer}
use Rattle.of_messages.specs.Messages.{message_body, flow_mod_of, is_delete, message_by, message_from}
use Rattle.of_messages.specs.declared.group_mod.GroupMod.{GroupMod}
use Rattle.of_messages.specs.declared.group_mod.GroupMod.TheVariants.{Delete}
use Rattle.of_messages.specs.{declared.message.FlowMod.FlowMod, declared.message.Message.Message}
use Rattle.of_messages.specs.{declared.message.Message.TheVariants.FlowMod as IsFlowMod, declared.message.Message.TheVariants.GroupMod as IsGroupMod, declared.role.Role.Role}
use Rattle.of_messages.specs.{Heads.head_refusals, Heads.role_refusals, Heads.type_of, Heads.xid_of, GroupMods.group_mod_of, Written.error_bytes, Written.message}
use Rattle.of_table.specs.{declared.selection.Cause.TheVariants.Group, Selecting.Notice, Tables.notices_in}
use Rattle.of_formats.specs.{Reading.◌>>=◌, declared.messages.TheConstants.FLOW_MOD, declared.messages.TheConstants.GROUP_MOD}
use Rattle.of_session.specs.{declared.session.Phase.TheVariants.Open, declared.session.Next.Next, Stream.length_of, Session.read_as}
use Rattle.of_switch.specs.Steps.{Done, Outcome, after_command, after_flow_mod, after_group_mod, held_frame_begun, does, done, gives, handled, next_by, next_of, refused, state_refusals, then_does, unless_refused as unless_code}
use Rattle.of_switch.specs.{State.Core, State.State, Runs.chunk_in, Loading.config_of}
use Rattle.of_text.specs.Configs.{Configuration}
use Rattle.of_laws.specs.Sending.{IsReady, error_code_in, config_by, config_from, error_in, greeted, is_command, code_or_else, later_unless_refused}
use Rattle.of_laws.proofs.SendingLemmas.{greeted_is, having, is_message, is_ready, none_left, read_whole, ready, whole_chunk}
use Rattle.of_laws.specs.declared.fault.ConfigFault.TheVariants.{NoMemory, NotACommand, Refused}
use Rattle.of_laws.specs.Outcomes.{ComesTo, TakesMessages}

-- ---- an ERROR, read again

number_twice : (n : ℕ) (rest : List ℕ) → big_bytes 2 (big_number 2 (big_bytes 2 n ++ rest)) ≡ big_bytes 2 n
number_twice n rest =
    let front : big_number 2 (big_bytes 2 n ++ rest) ≡ big_number 2 (big_bytes 2 n) = sym (big_from-take 0 2 2 (big_bytes 2 n ++ rest) (omega arith)) ∙ ap (big_number 2) (take_number 2 n rest) in
    ap (big_bytes 2) front ∙ big_bytes-big_number 2 (big_bytes 2 n) (omega arith) (IsBytes-big_bytes 2 n)

-- the code that its bytes have
abbrev code_again : Code → List ℕ → Code
code_again code failed = record { kind = big_number 2 (big_bytes 2 code.kind ++ (big_bytes 2 code.code ++ failed)); code = big_number 2 (big_bytes 2 code.code ++ failed) }

error_told : (xid : ℕ) (code : Code) (failed : List ℕ) → error_code_in (error_bytes xid code failed) ≡ Some (code_again code failed)
error_told xid code failed = rw (le-leb 12 (length (error_bytes xid code failed)) (omega arith)) refl

same_error : (xid : ℕ) (code other : Code) (failed : List ℕ) → code_again other failed ≡ code → error_bytes xid other failed ≡ error_bytes xid code failed
same_error xid code other failed e =
    let kind : big_bytes 2 other.kind ≡ big_bytes 2 code.kind = sym (number_twice other.kind (big_bytes 2 other.code ++ failed)) ∙ ap (λ (c : Code). big_bytes 2 c.kind) e in
    let low : big_bytes 2 other.code ≡ big_bytes 2 code.code = sym (number_twice other.code failed) ∙ ap (λ (c : Code). big_bytes 2 c.code) e in
    ap (λ (b : List ℕ). message 1 xid (b ++ (big_bytes 2 other.code ++ failed))) kind ∙ ap (λ (b : List ℕ). message 1 xid (big_bytes 2 code.kind ++ (b ++ failed))) low

-- ---- what a command does

-- no ERROR, and no frame is held
record SaysNoError (d : Done) : Type 0 where
  none : error_in d.effects ≡ None
  held_none : d.core.forwarding.held ≡ none_held

no_error_among : (now : ℕ) (ns : List Notice) → error_in (map (notice_effect now) ns) ≡ None
no_error_among now [] = refl
no_error_among now (n ∷ ns) = no_error_among now ns

silent : (heard : AsyncConfig) (now : ℕ) (ns : List Notice) → error_in (notice_effects heard now ns) ≡ None
silent heard now ns = no_error_among now (filter (is_notice_admitted heard) ns)

none_named : (m : FlowMod) → frame_named m none_held ≡ None
none_named m = by_tests (is_delete m.command) (is_id m.buffer)
  where
    by_tests : (b c : Bool) → cond {A = Option Held} b None (cond c (slice_index_or [] (given_since m.buffer none_held) None) None) ≡ None
    by_tests true c = refl
    by_tests false true = refl
    by_tests false false = refl

flow_mod_says : (m : FlowMod) (k : Core) → k.forwarding.held ≡ none_held → SaysNoError (after_flow_mod m k)
flow_mod_says m k none =
    let first = after_command m k in
    let no_frame : frame_named m k.forwarding.held ≡ None = ap (frame_named m) none ∙ none_named m in
    let is : after_flow_mod m k ≡ does (first.effects ++ []) first.core = ap (λ (h : Option Held). then_does first (held_frame_begun m.buffer h)) no_frame in
    let quiet : error_in (first.effects ++ []) ≡ None = ap error_in (append-nil first.effects) ∙ silent (heard_of k.control) k.forwarding.tables.latest (command_notices m k.forwarding.tables) in
    subst SaysNoError (sym is) (record { none = quiet; held_none = none })

group_mod_says : (m : GroupMod) (k : Core) → k.forwarding.held ≡ none_held → SaysNoError (after_group_mod m k)
group_mod_says (Delete which) k none = record { none = silent (heard_of k.control) k.forwarding.tables.latest (notices_in (Group which) k.forwarding.tables); held_none = none }
group_mod_says other k none = record { none = refl; held_none = none }

-- ---- a command that is read is a FLOW_MOD or a GROUP_MOD

read_by_body : (role : Role) (m : List ℕ) (said : Message) → message_from role m ≡ Ok said → message_body m ≡ Ok said
unfolding message_from
read_by_body role m said e = by_refusal (first_of (head_refusals m ++ role_refusals role m)) e
  where
    by_refusal : (r : Option Code) → message_by m r ≡ Ok said → message_body m ≡ Ok said
    by_refusal (Some code) h = absurd cc
    by_refusal None h = h

flow_mod_said : (m : List ℕ) (said : Message) (k : Core) → type_of m ≡ 14 → message_body m ≡ Ok said → k.forwarding.held ≡ none_held → SaysNoError (done (xid_of m) said k)
unfolding message_body
flow_mod_said m said k type e none =
    let body : (flow_mod_of m >>= λ v. Ok (IsFlowMod v)) ≡ Ok said = sym (rw type refl) ∙ e in
    by_reading (flow_mod_of m) body
  where
    by_reading : (r : Result FlowMod Code) → (r >>= λ v. Ok (IsFlowMod v)) ≡ Ok said → SaysNoError (done (xid_of m) said k)
    by_reading (Ok v) h = let is : IsFlowMod v ≡ said = cc in subst (λ (x : Message). SaysNoError (done (xid_of m) x k)) is (flow_mod_says v k none)
    by_reading (Err code) h = absurd cc

group_mod_said : (m : List ℕ) (said : Message) (k : Core) → type_of m ≡ 15 → message_body m ≡ Ok said → k.forwarding.held ≡ none_held → SaysNoError (done (xid_of m) said k)
unfolding message_body
group_mod_said m said k type e none =
    let body : (group_mod_of m >>= λ v. Ok (IsGroupMod v)) ≡ Ok said = sym (rw type refl) ∙ e in
    by_reading (group_mod_of m) body
  where
    by_reading : (r : Result GroupMod Code) → (r >>= λ v. Ok (IsGroupMod v)) ≡ Ok said → SaysNoError (done (xid_of m) said k)
    by_reading (Ok v) h = let is : IsGroupMod v ≡ said = cc in subst (λ (x : Message). SaysNoError (done (xid_of m) x k)) is (group_mod_says v k none)
    by_reading (Err code) h = absurd cc

-- its type is one of the two
type_is : (m : List ℕ) → is_command m ≡ true → (type_of m ≡ 15) ⊎ (type_of m ≡ 14)
type_is m h =
    let types = eqb (type_of m) GROUP_MOD || eqb (type_of m) FLOW_MOD in
    let outer = and_parts _ (eqb (length_of m) (length m) && types) h in
    let inner = and_parts (eqb (length_of m) (length m)) types outer.1 in
    by_test (eqb (type_of m) GROUP_MOD) (eqb (type_of m) FLOW_MOD) refl refl inner.1
  where
    by_test : (b c : Bool) → eqb (type_of m) GROUP_MOD ≡ b → eqb (type_of m) FLOW_MOD ≡ c → (b || c) ≡ true → (type_of m ≡ 15) ⊎ (type_of m ≡ 14)
    by_test true c d e i = inl (eqb-true (type_of m) 15 d)
    by_test false true d e i = inr (eqb-true (type_of m) 14 e)
    by_test false false d e i = absurd cc

done_says : (m : List ℕ) (said : Message) (k : Core) → is_command m ≡ true → message_from k.control.role m ≡ Ok said → k.forwarding.held ≡ none_held → SaysNoError (done (xid_of m) said k)
done_says m said k one e none = by_type (type_is m one)
  where
    by_type : (type_of m ≡ 15) ⊎ (type_of m ≡ 14) → SaysNoError (done (xid_of m) said k)
    by_type (inl group) = group_mod_said m said k group (read_by_body k.control.role m said e) none
    by_type (inr flow) = flow_mod_said m said k flow (read_by_body k.control.role m said e) none

-- ---- its outcome

-- a switch on which nothing waits, and which holds no frame
pub record IsQuiet (s : State) : Type 0 where
  pub open_ : IsReady s
  pub held_none : s.core.forwarding.held ≡ none_held

abbrev answer_to : List ℕ → Code → Effect
answer_to m code = Answer (error_bytes (xid_of m) code (take 64 m))

-- it is answered by an ERROR and changes nothing, or it is not
abbrev IsAnswered : List ℕ → State → Outcome → Type 0
IsAnswered m s o = ((code : Code) × (o ≡ gives (answer_to m code ∷ []) s)) ⊎ ((error_in o.effects ≡ None) × IsQuiet o.state)

abbrev outcome_of : List ℕ → Done → Outcome
outcome_of m d = gives d.effects (record { connection = record { phase = Open; pending = drop (length m) m }; core = d.core })

chunk_is : (m : List ℕ) (k : Core) (d : Done) → next_of (having m k) ≡ Some (outcome_of m d) → chunk_in m (ready k) ≡ gives d.effects (ready d.core)
chunk_is m k d e =
    whole_chunk m k (outcome_of m d) e (ap (λ (bytes : List ℕ). record { phase = Open; pending = bytes }) (none_left m))
    ∙ ap (λ (bytes : List ℕ). gives d.effects (record { connection = record { phase = Open; pending = bytes }; core = d.core })) (none_left m)

take_whole : (m : List ℕ) → take (length m) m ≡ m
take_whole m = take_all (length m) m (omega arith)

is_refused : (m : List ℕ) (k : Core) (code : Code) → next_of (having m k) ≡ Some (outcome_of m (refused (xid_of m) code (take 64 (take (length m) m)) k)) → IsAnswered m (ready k) (chunk_in m (ready k))
is_refused m k code e =
    inl (code, chunk_is m k (refused (xid_of m) code (take 64 (take (length m) m)) k) e ∙ ap (λ (bytes : List ℕ). gives (Answer (error_bytes (xid_of m) code (take 64 bytes)) ∷ []) (ready k)) (take_whole m))

is_done : (m : List ℕ) (k : Core) (d : Done) → next_of (having m k) ≡ Some (outcome_of m d) → SaysNoError d → IsAnswered m (ready k) (chunk_in m (ready k))
is_done m k d e says = inr (subst (λ (o : Outcome). (error_in o.effects ≡ None) × IsQuiet o.state) (sym (chunk_is m k d e)) (says.none, record { open_ = refl; held_none = says.held_none }))

answered_by : (m : List ℕ) (k : Core) (r : Result Message Code) → is_command m ≡ true → k.forwarding.held ≡ none_held → message_from k.control.role m ≡ r → next_of (having m k) ≡ next_by (read_as m r) (having m k) → IsAnswered m (ready k) (chunk_in m (ready k))
unfolding handled
answered_by m k (Err code) one none said e = is_refused m k code e
answered_by m k (Ok message) one none said e = by_state (first_of (state_refusals message k)) refl
  where
    by_state : (o : Option Code) → first_of (state_refusals message k) ≡ o → IsAnswered m (ready k) (chunk_in m (ready k))
    by_state (Some code) f = is_refused m k code (e ∙ ap (λ (o : Option Code). Some (outcome_of m (unless_code o (xid_of m) (take 64 (take (length m) m)) k (done (xid_of m) message k)))) f)
    by_state None f = is_done m k (done (xid_of m) message k) (e ∙ ap (λ (o : Option Code). Some (outcome_of m (unless_code o (xid_of m) (take 64 (take (length m) m)) k (done (xid_of m) message k)))) f) (done_says m message k one said none)

answered : (m : List ℕ) (s : State) → IsQuiet s → is_command m ≡ true → IsAnswered m s (chunk_in m s)
answered m s q one =
    subst (λ (t : State). IsAnswered m t (chunk_in m t)) (sym (is_ready s q.open_))
    (answered_by m s.core (message_from s.core.control.role m) one q.held_none refl (ap (λ (n : Next). next_by n (having m s.core)) (read_whole m s.core (is_message m one))))

-- the one ERROR is the one that is found
refused_so : (m : List ℕ) (s : State) (code : Code) → IsQuiet s → is_command m ≡ true → error_in (chunk_in m s).effects ≡ Some code → chunk_in m s ≡ gives (answer_to m code ∷ []) s
refused_so m s code q one e = by_outcome (answered m s q one)
  where
    by_outcome : IsAnswered m s (chunk_in m s) → chunk_in m s ≡ gives (answer_to m code ∷ []) s
    by_outcome (inl a) =
        let told : code_or_else (error_code_in (error_bytes (xid_of m) a.0 (take 64 m))) None ≡ Some code = ap (λ (o : Outcome). error_in o.effects) (sym a.1) ∙ e in
        let again : Some (code_again a.0 (take 64 m)) ≡ Some code = ap (λ (o : Option Code). code_or_else o None) (sym (error_told (xid_of m) a.0 (take 64 m))) ∙ told in
        let is : code_again a.0 (take 64 m) ≡ code = cc in
        a.1 ∙ ap (λ (bytes : List ℕ). gives (Answer bytes ∷ []) s) (same_error (xid_of m) code a.0 (take 64 m) is)
    by_outcome (inr a) = absurd (let both : None ≡ Some code = sym a.0 ∙ e in cc)

stays_quiet : (m : List ℕ) (s : State) → IsQuiet s → is_command m ≡ true → error_in (chunk_in m s).effects ≡ None → IsQuiet (chunk_in m s).state
stays_quiet m s q one e = by_outcome (answered m s q one)
  where
    by_outcome : IsAnswered m s (chunk_in m s) → IsQuiet (chunk_in m s).state
    by_outcome (inl a) =
        let told : code_or_else (error_code_in (error_bytes (xid_of m) a.0 (take 64 m))) None ≡ None = ap (λ (o : Outcome). error_in o.effects) (sym a.1) ∙ e in
        absurd (let again : Some (code_again a.0 (take 64 m)) ≡ None = ap (λ (o : Option Code). code_or_else o None) (sym (error_told (xid_of m) a.0 (take 64 m))) ∙ told in cc)
    by_outcome (inr a) = a.1

-- ---- one after the other

-- a message comes to a switch that has taken those before it, from this one on
record Comes (from : ℕ) (first : State) (messages : List (List ℕ)) (place : ℕ) (m : List ℕ) (s : State) : Type 0 where
  before : List (List ℕ)
  later : List (List ℕ)
  parted : messages ≡ before ++ m ∷ later
  place_is : from + length before ≡ place
  taken : TakesMessages before first s
  quiet : IsQuiet s

comes_here : (from : ℕ) (s : State) (m : List ℕ) (ms : List (List ℕ)) (place : ℕ) → from ≡ place → IsQuiet s → Comes from s (m ∷ ms) place m s
comes_here from s m ms place e q = record { before = []; later = ms; parted = refl; place_is = omega (arith, e); taken = refl; quiet = q }

comes_later : (from : ℕ) (s : State) (n : List ℕ) (ms : List (List ℕ)) (place : ℕ) (m : List ℕ) (t : State) → is_command n ≡ true → error_in (chunk_in n s).effects ≡ None → Comes (from + 1) (chunk_in n s).state ms place m t → Comes from s (n ∷ ms) place m t
comes_later from s n ms place m t one none c = record {
  before = n ∷ c.before;
  later = c.later;
  parted = ap (λ (x : List (List ℕ)). n ∷ x) c.parted;
  place_is = omega (arith, c.place_is);
  taken = (one, none, c.taken);
  quiet = c.quiet;
}

all_taken : (ms : List (List ℕ)) (place : ℕ) (s : State) (c : Configuration) → config_from place ms s ≡ Ok c → (t : State) × TakesMessages ms s t × (config_of t ≡ c)
all_taken [] place s c e = (s, refl, cc)
all_taken (m ∷ ms) place s c e = by_tests (is_command m) (error_in (chunk_in m s).effects) refl refl e (all_taken ms (place + 1) (chunk_in m s).state c)
  where
    by_tests : (b : Bool) (r : Option Code) → is_command m ≡ b → error_in (chunk_in m s).effects ≡ r → cond b (later_unless_refused r place (config_from (place + 1) ms (chunk_in m s).state)) (Err (NotACommand place)) ≡ Ok c
        → (config_from (place + 1) ms (chunk_in m s).state ≡ Ok c → (t : State) × TakesMessages ms (chunk_in m s).state t × (config_of t ≡ c)) → (t : State) × TakesMessages (m ∷ ms) s t × (config_of t ≡ c)
    by_tests false r p q h next = absurd cc
    by_tests true (Some code) p q h next = absurd cc
    by_tests true None p q h next = let others = next h in (others.0, (p, q, others.1), others.2)

abbrev IsRefusedAt : ℕ → State → List (List ℕ) → ℕ → Code → Type 0
IsRefusedAt from first ms place code = (m : List ℕ) × (s : State) × Comes from first ms place m s × (is_command m ≡ true) × (error_in (chunk_in m s).effects ≡ Some code)

first_refused : (ms : List (List ℕ)) (from place : ℕ) (code : Code) (s : State) → IsQuiet s → config_from from ms s ≡ Err (Refused place code) → IsRefusedAt from s ms place code
first_refused [] from place code s quiet e = absurd cc
first_refused (m ∷ ms) from place code s quiet e = by_tests (is_command m) (error_in (chunk_in m s).effects) refl refl e (first_refused ms (from + 1) place code (chunk_in m s).state)
  where
    by_tests : (b : Bool) (r : Option Code) → is_command m ≡ b → error_in (chunk_in m s).effects ≡ r → cond b (later_unless_refused r from (config_from (from + 1) ms (chunk_in m s).state)) (Err (NotACommand from)) ≡ Err (Refused place code)
        → (IsQuiet (chunk_in m s).state → config_from (from + 1) ms (chunk_in m s).state ≡ Err (Refused place code) → IsRefusedAt (from + 1) (chunk_in m s).state ms place code) → IsRefusedAt from s (m ∷ ms) place code
    by_tests false r p q h next = absurd cc
    by_tests true (Some other) p q h next =
        let here : from ≡ place = cc in
        let same : other ≡ code = cc in
        (m, s, comes_here from s m ms place here quiet, p, q ∙ ap Some same)
    by_tests true None p q h next =
        let others = next (stays_quiet m s quiet p q) h in
        (others.0, others.1, comes_later from s m ms place others.0 others.1 p q others.2, others.3, others.4)

abbrev IsNoneAt : ℕ → State → List (List ℕ) → ℕ → Type 0
IsNoneAt from first ms place = (m : List ℕ) × (s : State) × Comes from first ms place m s × (is_command m ≡ false)

first_other : (ms : List (List ℕ)) (from place : ℕ) (s : State) → IsQuiet s → config_from from ms s ≡ Err (NotACommand place) → IsNoneAt from s ms place
first_other [] from place s quiet e = absurd cc
first_other (m ∷ ms) from place s quiet e = by_tests (is_command m) (error_in (chunk_in m s).effects) refl refl e (first_other ms (from + 1) place (chunk_in m s).state)
  where
    by_tests : (b : Bool) (r : Option Code) → is_command m ≡ b → error_in (chunk_in m s).effects ≡ r → cond b (later_unless_refused r from (config_from (from + 1) ms (chunk_in m s).state)) (Err (NotACommand from)) ≡ Err (NotACommand place)
        → (IsQuiet (chunk_in m s).state → config_from (from + 1) ms (chunk_in m s).state ≡ Err (NotACommand place) → IsNoneAt (from + 1) (chunk_in m s).state ms place) → IsNoneAt from s (m ∷ ms) place
    by_tests false r p q h next = let here : from ≡ place = cc in (m, s, comes_here from s m ms place here quiet, p)
    by_tests true (Some other) p q h next = absurd cc
    by_tests true None p q h next =
        let others = next (stays_quiet m s quiet p q) h in
        (others.0, others.1, comes_later from s m ms place others.0 others.1 p q others.2, others.3)

memory_is_there : (ms : List (List ℕ)) (place : ℕ) (s : State) → config_from place ms s ≡ Err NoMemory → ⊥
memory_is_there [] place s e = absurd cc
memory_is_there (m ∷ ms) place s e = by_tests (is_command m) (error_in (chunk_in m s).effects) e (memory_is_there ms (place + 1) (chunk_in m s).state)
  where
    by_tests : (b : Bool) (r : Option Code) → cond b (later_unless_refused r place (config_from (place + 1) ms (chunk_in m s).state)) (Err (NotACommand place)) ≡ Err NoMemory → (config_from (place + 1) ms (chunk_in m s).state ≡ Err NoMemory → ⊥) → ⊥
    by_tests false r h next = absurd cc
    by_tests true (Some code) h next = absurd cc
    by_tests true None h next = next h

-- ---- from a new switch on

greeted_quiet : IsQuiet greeted
greeted_quiet = subst IsQuiet (sym greeted_is) (record { open_ = refl; held_none = refl })

comes_to : (ms : List (List ℕ)) (place : ℕ) (m : List ℕ) (s : State) → Comes 0 greeted ms place m s → ComesTo ms place m s
comes_to ms place m s c = record { before = c.before; later = c.later; parted = c.parted; place_is = omega (arith, c.place_is); taken = c.taken }

pub given : (ms : List (List ℕ)) (c : Configuration) → config_by ms ≡ Ok c → (s : State) × TakesMessages ms greeted s × (config_of s ≡ c)
unfolding config_by
given ms c e = all_taken ms 0 greeted c e

pub refused_at : (ms : List (List ℕ)) (place : ℕ) (code : Code) → config_by ms ≡ Err (Refused place code)
    → (m : List ℕ) × (s : State) × ComesTo ms place m s × (is_command m ≡ true) × (chunk_in m s ≡ gives (Answer (error_bytes (xid_of m) code (take 64 m)) ∷ []) s)
unfolding config_by
refused_at ms place code e =
    let r = first_refused ms 0 place code greeted greeted_quiet e in
    (r.0, r.1, comes_to ms place r.0 r.1 r.2, r.3, refused_so r.0 r.1 code r.2.quiet r.3 r.4)

pub no_command_at : (ms : List (List ℕ)) (place : ℕ) → config_by ms ≡ Err (NotACommand place) → (m : List ℕ) × (s : State) × ComesTo ms place m s × (is_command m ≡ false)
unfolding config_by
no_command_at ms place e =
    let r = first_other ms 0 place greeted greeted_quiet e in
    (r.0, r.1, comes_to ms place r.0 r.1 r.2, r.3)

pub never_memory : (ms : List (List ℕ)) → config_by ms ≡ Err NoMemory → ⊥
unfolding config_by
never_memory ms e = memory_is_there ms 0 greeted e
