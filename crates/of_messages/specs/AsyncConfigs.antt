-- Which messages of the switch a controller is sent (OpenFlow 1.3.5, 7.3.10): for each kind a mask of reasons while it is master or equal, and one while it is a slave.
use Rattle.std.specs.Prelude.{ℕ, List, [], ◌∷◌}
use Rattle.of_messages.specs.{declared.async_masks.RoleMasks.RoleMasks, declared.async_masks.AsyncMasks.AsyncMasks}
use Rattle.of_formats.specs.Structs.{numbers}
use Rattle.of_formats.specs.Tables as tables

abbrev pub masks : ℕ → ℕ → RoleMasks
masks master slave = record { master = master; slave = slave }

abbrev pub async_masks_by : List ℕ → AsyncMasks
async_masks_by (p ∷ p' ∷ s ∷ s' ∷ r ∷ r' ∷ []) = record { packet_in = masks p p'; port_status = masks s s'; flow_removed = masks r r' }
async_masks_by other = record { packet_in = masks 0 0; port_status = masks 0 0; flow_removed = masks 0 0 }

abbrev pub async_masks_of : List ℕ → AsyncMasks
async_masks_of m = async_masks_by (numbers tables.async_config 8 m)
