use Rattle.std.proofs.Common.{refl, ◌∙◌, arith}
use Rattle.of_messages.specs.declared.message.Message.TheVariants.{TableMod as IsTableMod}
use Rattle.of_laws.proofs.{FoundSmall.named, Written.fields_written}
use Rattle.of_laws.proofs.small.write_table_mod.Goals as goal

pub returns : goal.returns
returns c =
    fields_written (IsTableMod c.args.m) c.args.xid 8 _ _ c.in_ok-out.ensures (c.new.ensures ∙ c.in_ok-put_table_mod.ensures.text) refl
    (record { total = refl; short = omega arith; xid_fits = omega arith; fits = c.put_table_mod.ensures.fits; behind = refl; valid = named c.args.m.table c.requires })
