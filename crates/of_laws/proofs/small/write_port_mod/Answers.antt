use Rattle.std.proofs.{Common.refl, Common.◌∙◌, Common.arith, lemmas.Bool.eqb-true}
use Rattle.of_messages.specs.declared.message.Message.TheVariants.{PortMod as IsPortMod}
use Rattle.of_laws.proofs.Written.{fields_written}
use Rattle.of_laws.proofs.small.write_port_mod.Goals as goal

pub returns : goal.returns
returns c =
    fields_written (IsPortMod c.args.m) c.args.xid 32 _ _ c.in_ok-out.ensures (c.new.ensures ∙ c.in_ok-put_port_mod.ensures.text) refl
    (record { total = refl; short = omega arith; xid_fits = omega arith; fits = c.put_port_mod.ensures.fits; behind = refl; valid = eqb-true _ _ c.requires })
