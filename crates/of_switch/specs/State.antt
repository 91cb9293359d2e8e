-- The abstract switch.
use Rattle.std.specs.Prelude.{ℕ}
use Rattle.of_session.specs.Session.{Connection, alone}
use Rattle.of_datapath.specs.{declared.control.Control.Control, Control.new_control, Datapath.Forwarding, Datapath.idle}

-- what messages, frames and moments act on: they neither read nor write the connection
pub record Core : Type 0 where
  -- the switch's datapath_id (OpenFlow 1.3.5, 7.3.1)
  pub dpid : ℕ
  -- what the controller has set
  pub control : Control
  pub forwarding : Forwarding

pub record State : Type 0 where
  pub connection : Connection
  pub core : Core

-- without flows, groups and ports
abbrev pub new_core : ℕ → Core
new_core dpid = record { dpid = dpid; control = new_control; forwarding = idle }

-- a new switch: no connection, no flow, no group, no port
abbrev pub start : ℕ → State
start dpid = record { connection = alone; core = new_core dpid }
