-- THE PORT NUMBERS of a switch, and conditions on the numbers of no port that receives (OpenFlow 1.3.5, 4.1 and 7.2.1).
use Rattle.std.specs.Prelude.{◌≡◌, ◌⊎◌, ℕ, ◌==◌, ◌&&◌, Bool, true, false, List, [], ◌∷◌, Option, Some, None, bit_and, find}
use Rattle.std.specs.{List.Contains, Option.option_map, Global.Vec}
use Rattle.of_layers.specs.{declared.field.Field.Field, declared.field.Field.TheVariants.InPort}
use Rattle.of_oxm.specs.{declared.match_field.MatchField.MatchField, Relations.bits_looked_at, Relations.matches_map}
use Rattle.of_regions.specs.Conditions.{AreConditions}
use Rattle.of_ports.specs.{declared.port.Port.Port, Ports.may_receive, Ports.number_of_port, Ports.port_at}

-- there is a port of the number, and it receives
pub record IsReceivingPort (ports : List Port) (number : ℕ) : Type 0 where
  pub port : Port
  pub there : port_at ports number ≡ Some port
  pub receives : may_receive port ≡ true

-- the condition that a packet came in by this port (7.2.3.7)
abbrev pub came_in_by : ℕ → MatchField
came_in_by port = record { field = InPort; value = port; mask = None }

-- ---- numbers of no port that receives

-- one condition on IN_PORT, which no packet meets that comes in by one of the ports that receive
pub record IsAbsence (ports : List Port) (fields : List MatchField) : Type 0 where
  pub condition : MatchField
  pub alone : fields ≡ condition ∷ []
  pub ingress : condition.field ≡ InPort
  pub conditions : AreConditions fields
  pub absent : (q : Port) → Contains ports q → may_receive q ≡ true → (packet : Field → Option ℕ) → packet InPort ≡ Some q.number → matches_map fields packet ≡ false

abbrev pub AreAbsences : List Port → List (Vec MatchField) → Type 0
AreAbsences ports lists = (m : Vec MatchField) → Contains lists m → IsAbsence ports m.items

-- one of the ports has the number, and it receives
pub record HasReceiver (ports : List Port) (number : ℕ) : Type 0 where
  pub port : Port
  pub listed : Contains ports port
  pub receives : may_receive port ≡ true
  pub own : port.number ≡ number

-- each packet that came in by a port of this number meets one of the conditions
abbrev pub IsNamedNumber : List (Vec MatchField) → ℕ → Type 0
IsNamedNumber lists number = (m : Vec MatchField) × Contains lists m × ((packet : Field → Option ℕ) → packet InPort ≡ Some number → matches_map m.items packet ≡ true)

-- a port of the number receives, or the conditions name it
abbrev pub IsReceiverOrNamed : List Port → List (Vec MatchField) → ℕ → Type 0
IsReceiverOrNamed ports lists number = HasReceiver ports number ⊎ IsNamedNumber lists number

-- the number has the bits of another under a mask
abbrev pub agrees_under : ℕ → ℕ → ℕ → Bool
agrees_under mask number other = bit_and other mask == bit_and number mask

-- the number of the first port that receives and whose number has these bits
abbrev pub receiver_under : ℕ → ℕ → List Port → Option ℕ
receiver_under mask number ports = option_map number_of_port (find (λ q. may_receive q && agrees_under mask number q.number) ports)

-- the condition that IN_PORT has the bits of a number under a mask
pub record IsConditionOf (number mask : ℕ) (e : MatchField) : Type 0 where
  pub ingress : e.field ≡ InPort
  pub looks : bits_looked_at e ≡ mask
  pub value : e.value ≡ bit_and number mask
