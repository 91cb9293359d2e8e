use Rattle.std.proofs.Common.{◌∙◌, arith}
use Rattle.of_laws.proofs.WrittenLarge.{delete_written}
use Rattle.of_laws.proofs.group_mod.write_delete.Goals as goal

pub returns : goal.returns
returns c =
    delete_written c.args.which c.args.xid c.unwrap_or.result _ _ _ _ (omega arith) (omega arith) c.requires c.unwrap_or.ensures c.in_ok-out.ensures
    c.in_ok-put_u16.ensures c.in_ok-put_u16-2.ensures (c.new.ensures ∙ c.in_ok-put_u32.ensures)
