use Rattle.std.proofs.Common.{◌≡◌, true, refl, arith}
use Rattle.of_messages.specs.declared.multipart.MultipartRequest.TheVariants.{Description, Flow, Aggregate, Table, PortStats, Group, GroupDescription, GroupFeatures, PortDescription}
use Rattle.of_messages.specs.declared.message.Message.TheVariants.{Multipart}
use Rattle.of_laws.{specs.Sound.is_sound, proofs.Written.Parts, proofs.Written.if_ok, proofs.Written.if_ok_with, proofs.Written.whole_written}
use Rattle.of_laws.proofs.WrittenLarge.{aggregate_written, flow_written, group_written, port_written}
use Rattle.of_laws.proofs.multipart.write_multipart.Goals as goal

pub returns-in-Description : goal.returns-in-Description
returns-in-Description c =
    let parts : Parts (Multipart Description) c.args.xid 8 = record { total = refl; short = omega arith; xid_fits = omega arith; fits = (omega arith, tt); behind = refl; valid = tt } in
    rw c.in-Description.is (if_ok _ _ c.write_bare.result c.write_bare.ensures (λ bytes is. whole_written (Multipart Description) c.args.xid 8 bytes is parts))

pub returns-in-Table : goal.returns-in-Table
returns-in-Table c =
    let parts : Parts (Multipart Table) c.args.xid 8 = record { total = refl; short = omega arith; xid_fits = omega arith; fits = (omega arith, tt); behind = refl; valid = tt } in
    rw c.in-Table.is (if_ok _ _ c.write_bare-in-Table.result c.write_bare-in-Table.ensures (λ bytes is. whole_written (Multipart Table) c.args.xid 8 bytes is parts))

pub returns-in-GroupDescription : goal.returns-in-GroupDescription
returns-in-GroupDescription c =
    let parts : Parts (Multipart GroupDescription) c.args.xid 8 = record { total = refl; short = omega arith; xid_fits = omega arith; fits = (omega arith, tt); behind = refl; valid = tt } in
    rw c.in-GroupDescription.is (if_ok _ _ c.write_bare-in-GroupDescription.result c.write_bare-in-GroupDescription.ensures (λ bytes is. whole_written (Multipart GroupDescription) c.args.xid 8 bytes is parts))

pub returns-in-GroupFeatures : goal.returns-in-GroupFeatures
returns-in-GroupFeatures c =
    let parts : Parts (Multipart GroupFeatures) c.args.xid 8 = record { total = refl; short = omega arith; xid_fits = omega arith; fits = (omega arith, tt); behind = refl; valid = tt } in
    rw c.in-GroupFeatures.is (if_ok _ _ c.write_bare-in-GroupFeatures.result c.write_bare-in-GroupFeatures.ensures (λ bytes is. whole_written (Multipart GroupFeatures) c.args.xid 8 bytes is parts))

pub returns-in-PortDescription : goal.returns-in-PortDescription
returns-in-PortDescription c =
    let parts : Parts (Multipart PortDescription) c.args.xid 8 = record { total = refl; short = omega arith; xid_fits = omega arith; fits = (omega arith, tt); behind = refl; valid = tt } in
    rw c.in-PortDescription.is (if_ok _ _ c.write_bare-in-PortDescription.result c.write_bare-in-PortDescription.ensures (λ bytes is. whole_written (Multipart PortDescription) c.args.xid 8 bytes is parts))

pub returns-in-Flow : goal.returns-in-Flow
returns-in-Flow c =
    let w = c.write_flows.ensures in
    let r = c.in-Flow.r in
    let sound : is_sound (Multipart (Flow r)) ≡ true = rw c.in-Flow.is at c.requires in
    rw c.in-Flow.is (if_ok_with _ _ _ c.write_flows.result w.text w.fits (λ bytes text fits. flow_written r c.args.xid bytes (omega arith) fits w.fields sound text))

pub returns-in-Aggregate : goal.returns-in-Aggregate
returns-in-Aggregate c =
    let w = c.write_flows-in-Aggregate.ensures in
    let r = c.in-Aggregate.r in
    let sound : is_sound (Multipart (Aggregate r)) ≡ true = rw c.in-Aggregate.is at c.requires in
    rw c.in-Aggregate.is (if_ok_with _ _ _ c.write_flows-in-Aggregate.result w.text w.fits (λ bytes text fits. aggregate_written r c.args.xid bytes (omega arith) fits w.fields sound text))

pub returns-in-PortStats : goal.returns-in-PortStats
returns-in-PortStats c =
    let w = c.write_asked.ensures in
    let which = c.in-PortStats.port in
    let sound : is_sound (Multipart (PortStats which)) ≡ true = rw c.in-PortStats.is at c.requires in
    rw c.in-PortStats.is (if_ok _ _ c.write_asked.result w.text (λ bytes text. port_written which c.args.xid c.unwrap_or.result bytes (omega arith) w.fits sound c.unwrap_or.ensures text))

pub returns-in-Group : goal.returns-in-Group
returns-in-Group c =
    let w = c.write_asked-in-Group.ensures in
    let which = c.in-Group.group in
    let sound : is_sound (Multipart (Group which)) ≡ true = rw c.in-Group.is at c.requires in
    rw c.in-Group.is (if_ok _ _ c.write_asked-in-Group.result w.text (λ bytes text. group_written which c.args.xid c.unwrap_or-in-Group.result bytes (omega arith) w.fits sound c.unwrap_or-in-Group.ensures text))
