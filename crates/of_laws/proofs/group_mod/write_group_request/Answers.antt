use Rattle.std.proofs.Common.{◌≡◌, true, arith}
use Rattle.of_laws.{specs.Sound.is_sound_group, proofs.Written.both, proofs.Written.if_ok_with, proofs.WrittenLarge.add_written, proofs.WrittenLarge.grouped, proofs.WrittenLarge.modify_written}
use Rattle.of_laws.proofs.group_mod.write_group_request.Goals as goal

pub returns-in-Add : goal.returns-in-Add
returns-in-Add c =
    let w = c.write_group.ensures in
    let g = c.in-Add.group in
    let sound : is_sound_group g ≡ true = rw c.in-Add.is at c.requires in
    rw c.in-Add.is (if_ok_with _ _ _ c.write_group.result w.text (both _ _ _ w.fits (both _ _ _ w.numbers w.fit)) (λ bytes text known. add_written g c.args.xid bytes (omega arith) known.0 (grouped g known.1.0 known.1.1 sound) text))

pub returns-in-Modify : goal.returns-in-Modify
returns-in-Modify c =
    let w = c.write_group-in-Modify.ensures in
    let g = c.in-Modify.group in
    let sound : is_sound_group g ≡ true = rw c.in-Modify.is at c.requires in
    rw c.in-Modify.is (if_ok_with _ _ _ c.write_group-in-Modify.result w.text (both _ _ _ w.fits (both _ _ _ w.numbers w.fit)) (λ bytes text known. modify_written g c.args.xid bytes (omega arith) known.0 (grouped g known.1.0 known.1.1 sound) text))
