use Rattle.std.proofs.Common.{[], ◌∷◌, ◌++◌, arith}
use Rattle.byteorder.specs.Endian.{big_bytes}
use Rattle.of_laws.proofs.Written.{on_ok, three, two}
use Rattle.of_laws.proofs.multipart.put_outputs.Goals as goal

pub returns-clause-text : goal.returns-clause-text
returns-clause-text c =
    let r = c.args.r.now in
    on_ok _ _ c.put_u32-3.result c.put_u32-3.ensures (λ last.
    two _ _ _ (r.table ∷ 0 ∷ 0 ∷ 0 ∷ []) (big_bytes 4 r.out_port ++ (big_bytes 4 r.out_group ++ big_bytes 4 0)) c.in_ok-put_table.ensures.text
    (three _ _ _ _ (big_bytes 4 r.out_port) (big_bytes 4 r.out_group) (big_bytes 4 0) c.in_ok-put_u32.ensures c.in_ok-put_u32-2.ensures last))

pub returns-clause-fits : goal.returns-clause-fits
returns-clause-fits c = on_ok _ _ c.put_u32-3.result c.put_u32-3.ensures (λ last. (c.put_table.ensures.fits, (omega arith, (omega arith, tt))))
