-- WHERE FRAMES GO: out of a port, or to the controller (OpenFlow 1.3.5, 5.12).
use Rattle.std.specs.Prelude.{◌==◌, Bool, true, false, List, length}
use Rattle.std.specs.List.{list_any}
use Rattle.of_machine.specs.{declared.data.Item.Item, declared.data.Item.TheVariants.PacketIn, declared.data.Item.TheVariants.Sent}
use Rattle.of_paths.specs.declared.destination.Destination.{Destination}
use Rattle.of_paths.specs.declared.destination.Destination.TheVariants.{Controller, Nothing, Port}

-- the item leaves by the port, or goes to the controller
abbrev pub leaves_to : Destination → Item → Bool
leaves_to (Port port) (Sent number frame) = number == port
leaves_to (Port port) (PacketIn p) = false
leaves_to Controller (Sent number frame) = false
leaves_to Controller (PacketIn p) = true
leaves_to Nothing item = false

-- one of the items does; or nothing leaves
abbrev pub lead_to : Destination → List Item → Bool
lead_to (Port port) items = list_any (leaves_to (Port port)) items
lead_to Controller items = list_any (leaves_to Controller) items
lead_to Nothing items = length items == 0

-- the place to which an item goes
abbrev pub place_of_item : Item → Destination
place_of_item (Sent number frame) = Port number
place_of_item (PacketIn p) = Controller
