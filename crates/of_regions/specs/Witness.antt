-- PACKETS OF A REGION that a switch may receive.
use Rattle.std.specs.Prelude.{◌≡◌, ℕ, ◌≤◌, ◌<◌, ◌^◌, ◌⊎◌, List, length, Option, Some, IfSome}
use Rattle.of_wire.specs.declared.limits.TheConstants.{OFPP_CONTROLLER, OFPP_MAX}
use Rattle.of_layers.specs.{declared.field.Field.Field, declared.field.Field.TheVariants.InPort, declared.field.Field.TheVariants.Metadata, Reading.layers_of}
use Rattle.of_headers.specs.FieldMap.{field_map, seen, value}
use Rattle.of_oxm.specs.Masks.{mask_at}
use Rattle.of_rewrite.specs.Frames.{IsFrame}
use Rattle.of_regions.specs.{declared.region.Region.Region, declared.witness.Packet.Packet, Regions.InRegion}

-- a port that a switch may have, or CONTROLLER, which a PACKET_OUT may give as that of its frame (OpenFlow 1.3.5, 7.2.1 and 7.3.7)
abbrev pub IsIngressPort : ℕ → Type 0
IsIngressPort port = ((1 ≤ port) × (port ≤ OFPP_MAX)) ⊎ (port ≡ OFPP_CONTROLLER)

-- a number that a field of a packet of the region may have
abbrev pub MayBe : Region → Field → ℕ → Type 0
MayBe r f v = seen (mask_at r.masks f) (Some v) ≡ value r.known f

-- a frame with one VLAN tag at most, and so short that each switch receives it, also with a tag more
pub record IsShortFrame (frame : List ℕ) : Type 0 where
  pub tags : length (layers_of frame).tags ≤ 1
  pub bytes : length frame ≤ 1500

-- a frame that is in the region with each port and each metadata that may be
pub record IsFrameIn (r : Region) (frame : List ℕ) : Type 0 where
  pub frame_is : IsFrame frame
  pub short : IsShortFrame frame
  pub within : (port metadata : ℕ) → MayBe r InPort port → MayBe r Metadata metadata → InRegion r (field_map (layers_of frame) port metadata)

-- ---- packets

-- the fields that a lookup compares
abbrev pub fields_in : Packet → Field → Option ℕ
fields_in p = field_map (layers_of p.frame.items) p.in_port p.metadata

-- a packet that a switch may receive: its frame has at most 9,216 bytes
pub record IsReceived (p : Packet) : Type 0 where
  pub frame_is : IsFrame p.frame.items
  pub short : length p.frame.items ≤ 9216
  pub ingress : IsIngressPort p.in_port
  pub metadata_fits : p.metadata < 2 ^ 64

-- no packet of the region comes in by a port that a switch may have
abbrev pub HasNoIngress : Region → Type 0
HasNoIngress r = (map : Field → Option ℕ) → InRegion r map → IfSome (map InPort) (λ port. ¬ (IsIngressPort port))
