-- WHAT LEAVES A SWITCH for a frame, and whether two switches send the same (OpenFlow 1.3.5, 5.1).
use Rattle.std.specs.Prelude.{◌≡◌, ℕ, ◌==◌, Bool, true, false, List, [], ◌∷◌, filter, if◌then◌else◌}
use Rattle.of_machine.specs.{declared.data.Item.Item, declared.data.Item.TheVariants.PacketIn, declared.data.Item.TheVariants.Sent, declared.data.ToController.ToController}
use Rattle.of_alike.specs.{declared.alike.Compared.Compared, declared.alike.Compared.TheVariants.All, declared.alike.Where.Where}
use Rattle.of_alike.specs.declared.alike.Where.TheVariants.{Controller, Port as ByPort}

-- ---- what leaves

-- the frames that leave by a port, in order
abbrev pub sent_by : ℕ → List Item → List (List ℕ)
sent_by q [] = []
sent_by q (Sent port frame ∷ items) = if port == q then frame ∷ sent_by q items else sent_by q items
sent_by q (PacketIn p ∷ items) = sent_by q items

-- the packets to the controller, in order
abbrev pub to_controller : List Item → List ToController
to_controller [] = []
to_controller (Sent port frame ∷ items) = to_controller items
to_controller (PacketIn p ∷ items) = p ∷ to_controller items

-- By each port the same frames leave in the same order, and the controller gets the same packets in the same order, if these are compared. Between ports there is no order.
pub record LeavesAlike (c : Compared) (a b : List Item) : Type 0 where
  pub sent : (q : ℕ) → sent_by q a ≡ sent_by q b
  pub told : c ≡ All → to_controller a ≡ to_controller b

-- ---- at one place

-- the same leaves there
abbrev pub IsAlikeAt : Where → List Item → List Item → Type 0
IsAlikeAt (ByPort q) a b = sent_by q a ≡ sent_by q b
IsAlikeAt Controller a b = to_controller a ≡ to_controller b

-- something else leaves there, which is compared
abbrev pub DiffersAt : Compared → Where → List Item → List Item → Type 0
DiffersAt c (ByPort q) a b = ¬ (sent_by q a ≡ sent_by q b)
DiffersAt c Controller a b = (c ≡ All) × (¬ (to_controller a ≡ to_controller b))

-- the item leaves there
abbrev pub leaves_at : Where → Item → Bool
leaves_at (ByPort q) (Sent port frame) = port == q
leaves_at (ByPort q) (PacketIn p) = false
leaves_at Controller (Sent port frame) = false
leaves_at Controller (PacketIn p) = true

-- the items that do, in order
abbrev pub leaving : Where → List Item → List Item
leaving at items = filter (leaves_at at) items
