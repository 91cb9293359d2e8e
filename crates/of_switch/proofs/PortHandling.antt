-- The refusals of a PORT_MOD, by the port that is found.
use Rattle.std.proofs.Common.{◌≡◌, true, false, not, List, Some, None, refl}
use Rattle.std.specs.Str.{bytes_eq}
use Rattle.of_wire.specs.Refusals.{refusal, first_of}
use Rattle.of_messages.specs.declared.port_mod.PortMod.{PortMod}
use Rattle.of_ports.specs.{declared.port.Port.Port, Ports.port_at}
use Rattle.of_switch.specs.PortMods.{port_mod_refusals}

pub refused_absent : (m : PortMod) (ports : List Port) → port_at ports m.port ≡ None → first_of (port_mod_refusals m ports) ≡ Some (refusal 7 0)
refused_absent m ports e = rw e refl

pub refused_other : (m : PortMod) (ports : List Port) (p : Port) → port_at ports m.port ≡ Some p → not (bytes_eq p.hw m.hw) ≡ true → first_of (port_mod_refusals m ports) ≡ Some (refusal 7 1)
refused_other m ports p e differ = rw (e, differ) refl

pub not_refused : (m : PortMod) (ports : List Port) (p : Port) → port_at ports m.port ≡ Some p → not (bytes_eq p.hw m.hw) ≡ false → first_of (port_mod_refusals m ports) ≡ None
not_refused m ports p e same = rw (e, same) refl
