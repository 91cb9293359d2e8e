use Rattle.std.proofs.Common.{◌++◌}
use Rattle.byteorder.specs.Endian.{big_bytes}
use Rattle.of_laws.proofs.Written.{on_ok, six, two}
use Rattle.of_laws.proofs.small.put_port_mod.Goals as goal

pub returns-clause-text : goal.returns-clause-text
returns-clause-text c =
    let p = c.args.m in
    on_ok _ _ c.put_u64.result c.put_u64.ensures (λ last.
    two _ _ _ (big_bytes 4 p.port) (big_bytes 4 0 ++ (p.hw ++ (big_bytes 2 0 ++ (big_bytes 4 p.config ++ (big_bytes 4 p.mask ++ big_bytes 8 0))))) c.in_ok-put_u32.ensures
    (six _ _ _ _ _ _ _ (big_bytes 4 0) p.hw (big_bytes 2 0) (big_bytes 4 p.config) (big_bytes 4 p.mask) (big_bytes 8 0)
    c.in_ok-put_u32-2.ensures c.in_ok-extend_from_slice.ensures.items c.in_ok-put_u16.ensures c.in_ok-put_u32-3.ensures c.in_ok-put_u32-4.ensures last))
