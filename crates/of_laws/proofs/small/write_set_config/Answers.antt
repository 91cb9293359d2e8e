use Rattle.std.proofs.Common.{refl, ◌∙◌, arith}
use Rattle.of_messages.specs.declared.message.Message.TheVariants.{SetConfig}
use Rattle.of_laws.proofs.Written.{fields_written}
use Rattle.of_laws.proofs.small.write_set_config.Goals as goal

pub returns : goal.returns
returns c =
    fields_written (SetConfig c.args.config) c.args.xid 4 _ _ c.in_ok-out.ensures (c.new.ensures ∙ c.in_ok-put_set_config.ensures.text) refl
    (record { total = refl; short = omega arith; xid_fits = omega arith; fits = c.put_set_config.ensures.fits; behind = refl; valid = tt })
