use Rattle.std.proofs.Common.{◌≡◌, ◌∙◌, sym, ap, refl, Some, true, false, not}
use Rattle.std.specs.{Option.option_copied, Str.bytes_eq}
use Rattle.of_ports.specs.Ports.{port_at}
use Rattle.of_switch.proofs.PortHandling.{refused_absent, refused_other, not_refused}
use Rattle.of_switch.proofs.switch_core.Core.port_mod.Goals as goal

pub returns-in_default : goal.returns-in_default
returns-in_default g c = rw (← c.self.view_is) (refused_absent c.args.port_mod c.self.inside.datapath.ports (sym c.port.ensures ∙ ap option_copied c.in_default.is), refl)

pub returns-then-ne : goal.returns-then-ne
returns-then-ne g c =
    let found : port_at c.self.inside.datapath.ports c.args.port_mod.port ≡ Some c.in-Some.port.now = sym c.port.ensures ∙ ap option_copied c.in-Some.is in
    let differ : not (bytes_eq c.in-Some.port.now.hw c.args.port_mod.hw) ≡ true = sym c.ne.ensures ∙ c.if-ne.true in
    rw (← c.self.view_is) (refused_other c.args.port_mod c.self.inside.datapath.ports c.in-Some.port.now found differ, refl)

pub returns : goal.returns
returns g c =
    let found : port_at c.self.inside.datapath.ports c.args.port_mod.port ≡ Some c.in-Some.port.now = sym c.port.ensures ∙ ap option_copied c.in-Some.is in
    let same : not (bytes_eq c.in-Some.port.now.hw c.args.port_mod.hw) ≡ false = sym c.ne.ensures ∙ c.if-ne.false in
    rw (← c.self.view_is) (not_refused c.args.port_mod c.self.inside.datapath.ports c.in-Some.port.now found same, rw (found, c.in_ok-effects.ensures, c.heard_open.ensures, c.configure.ensures, c.with-config.ensures) refl)
