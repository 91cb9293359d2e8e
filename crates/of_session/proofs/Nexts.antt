-- What comes next in a connection: its size, and that it stays where more bytes are received.
use Rattle.std.proofs.Common.{◌≡◌, ℕ, ◌≤◌, Bool, true, false, cond, List, ◌++◌, length, take, Result, Ok, Err, sym, ◌∙◌, ap, arith, append_assoc, length-append}
use Rattle.std.proofs.lemmas.List.{take-append-drop, take-append-le, length-take}
use Rattle.of_wire.specs.declared.code.Code.{Code}
use Rattle.of_messages.specs.{declared.message.Message.Message, declared.role.Role.Role, Heads.xid_of, Messages.message_from}
use Rattle.of_session.specs.declared.session.Next.TheVariants.{Nothing, BadStream, NotHello, Opened, Read, Refused}
use Rattle.of_session.specs.Stream.{First, Whole, Bad, Partial, beginning_of, length_of, IsWholeMessage}
use Rattle.of_session.specs.Session.{Connection, is_disconnected, with_received, is_first_hello, read_as, judged, next_by_beginning, next_of_connection}
use Rattle.of_session.proofs.Fronts.{Looks, looks, length_of-append, message_front, malformed_front}
use Rattle.of_session.specs.{declared.session.Phase.Phase, declared.session.Phase.TheVariants.Open}
use Rattle.of_session.{specs.declared.session.Next.Next, proofs.Splitting.front_message}

-- a message that comes next has a header and was received whole; so was a malformed header
abbrev pub IsSizedIn : Next → List ℕ → Type 0
IsSizedIn Nothing bytes = Unit {0}
IsSizedIn (Opened size) bytes = (8 ≤ size) × (size ≤ length bytes)
IsSizedIn (Read xid size message) bytes = (8 ≤ size) × (size ≤ length bytes)
IsSizedIn (Refused xid size code) bytes = (8 ≤ size) × (size ≤ length bytes)
IsSizedIn other bytes = 8 ≤ length bytes

greeted_by : (m bytes : List ℕ) (t : Bool) → 8 ≤ length m → length m ≤ length bytes → IsSizedIn (cond t (Opened (length m)) (NotHello (xid_of m))) bytes
greeted_by m bytes true low high = (low, high)
greeted_by m bytes false low high = omega (arith, low, high)

read_by : (m bytes : List ℕ) (r : Result Message Code) → 8 ≤ length m → length m ≤ length bytes → IsSizedIn (read_as m r) bytes
read_by m bytes (Ok message) low high = (low, high)
read_by m bytes (Err code) low high = (low, high)

judged_sized : (role : Role) (phase : Phase) (m bytes : List ℕ) → 8 ≤ length m → length m ≤ length bytes → IsSizedIn (judged role phase m) bytes
judged_sized role Open m bytes low high = read_by m bytes (message_from role m) low high
judged_sized role other m bytes low high = greeted_by m bytes (is_first_hello m) low high

by_front : (role : Role) (c : Connection) (f : First) → Looks c.pending f → IsSizedIn (next_by_beginning role c f) c.pending
by_front role c Partial look = tt
by_front role c Bad look = look.0
by_front role c (Whole m rest) look =
    let size : length m ≡ length_of c.pending = rw look.2 (omega (arith, length-take (length_of c.pending) c.pending, look.1)) in
    judged_sized role c.phase m c.pending (omega (arith, size, look.0)) (omega (arith, size, look.1))

by_phase : (role : Role) (c : Connection) (t : Bool) → IsSizedIn (cond t Nothing (next_by_beginning role c (beginning_of c.pending))) c.pending
by_phase role c true = tt
by_phase role c false = by_front role c (beginning_of c.pending) (looks c.pending)

pub next_sized : (role : Role) (c : Connection) → IsSizedIn (next_of_connection role c) c.pending
next_sized role c = by_phase role c (is_disconnected c.phase)

-- something comes next
abbrev pub IsSomething : Next → Type 0
IsSomething Nothing = ⊥
IsSomething other = Unit {0}

front_more : (role : Role) (c : Connection) (q : List ℕ) (f : First) → Looks c.pending f → IsSomething (next_by_beginning role c f) → next_by_beginning role (with_received q c) (beginning_of (c.pending ++ q)) ≡ next_by_beginning role c f
front_more role c q Partial look some = absurd some
front_more role c q Bad look some =
    let bad : beginning_of (c.pending ++ q) ≡ Bad = malformed_front (c.pending ++ q) (record { header = omega (arith, length-append c.pending q, look.0); short = rw (length_of-append c.pending q look.0) look.1 }) in
    let front : take 8 (c.pending ++ q) ≡ take 8 c.pending = take-append-le 8 c.pending q look.0 in
    ap (next_by_beginning role (with_received q c)) bad ∙ ap (λ (h : List ℕ). BadStream (xid_of h)) front
front_more role c q (Whole m rest) look some =
    let is : IsWholeMessage m = rw look.2 (front_message c.pending look.0 look.1) in
    let joined : m ++ rest ≡ c.pending = rw (look.2, look.3) (take-append-drop (length_of c.pending) c.pending) in
    let all : c.pending ++ q ≡ m ++ (rest ++ q) = ap (λ (x : List ℕ). x ++ q) (sym joined) ∙ append_assoc m rest q in
    ap (λ (f : First). next_by_beginning role (with_received q c) f) (ap beginning_of all ∙ message_front m (rest ++ q) is)

more_by : (role : Role) (c : Connection) (q : List ℕ) (t : Bool) → IsSomething (cond t Nothing (next_by_beginning role c (beginning_of c.pending))) → cond t Nothing (next_by_beginning role (with_received q c) (beginning_of (c.pending ++ q))) ≡ cond t Nothing (next_by_beginning role c (beginning_of c.pending))
more_by role c q true some = absurd some
more_by role c q false some = front_more role c q (beginning_of c.pending) (looks c.pending) some

-- more bytes change nothing of what comes next
pub next_more : (role : Role) (c : Connection) (q : List ℕ) → IsSomething (next_of_connection role c) → next_of_connection role (with_received q c) ≡ next_of_connection role c
next_more role c q some = more_by role c q (is_disconnected c.phase) some
