-- Messages of both sides: those of a controller, those of this switch, and among these its replies to multipart requests.
use Rattle.std.specs.Prelude.{ℕ, ⊤, Bool, List}
use Rattle.of_messages.specs.declared.message.Message.{Message}
use Rattle.of_messages.specs.declared.message.Message.TheVariants.{Hello, Error, EchoReply}
use Rattle.of_laws.specs.Told.{Told, EncodesSwitchMessage, hello, error, echo_reply}
use Rattle.of_laws.specs.{Grammar.Encodes, Replied.Reply, Replied.EncodesReply}

-- the bytes, all of them, encode a message with this transaction id
pub data EncodesAny (xid : ℕ) (bytes : List ℕ) : Type 0 where
  controller : (m : Message) → Encodes xid m bytes → EncodesAny xid bytes
  told : (t : Told) → EncodesSwitchMessage xid t bytes → EncodesAny xid bytes
  reply : (more : Bool) (r : Reply) → EncodesReply xid more r bytes → EncodesAny xid bytes

-- the kinds that both sides send: HELLO, ERROR and ECHO_REPLY (7.4.4, 7.5.1 and 7.5.3)
abbrev pub AreAlike : Message → Told → Type 0
AreAlike Hello (hello bitmap) = ⊤
AreAlike Error (error code failed) = ⊤
AreAlike EchoReply (echo_reply echoed) = ⊤
AreAlike m t = ⊥
