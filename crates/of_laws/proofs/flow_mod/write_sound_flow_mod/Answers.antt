use Rattle.std.proofs.Common.{◌≡◌, true, arith}
use Rattle.of_actions.specs.InstructionLists.{are_kept}
use Rattle.of_laws.proofs.{Written.if_ok, WrittenLarge.flow_mod_written}
use Rattle.of_laws.proofs.flow_mod.write_sound_flow_mod.Goals as goal

pub returns : goal.returns
returns c =
    let m = c.args.m.now in
    let kept : are_kept m.instructions ≡ true = c.as_slice-instructions.ensures.kept in
    if_ok _ _ c.write_flow_mod.result c.write_flow_mod.ensures (λ bytes is. flow_mod_written m c.args.xid bytes (omega arith) c.known.ensures c.known-2.ensures kept c.requires is)
