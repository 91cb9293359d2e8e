use Rattle.std.proofs.Common.{refl, ◌∙◌, arith}
use Rattle.of_messages.specs.declared.message.Message.TheVariants.{SetAsync}
use Rattle.of_laws.{specs.Cells.canonical_cells, specs.Written.masks_cells, proofs.Written.fields_written, proofs.Written.three}
use Rattle.of_laws.proofs.small.write_set_async.Goals as goal

pub returns : goal.returns
returns c =
    let m = c.args.masks in
    let fields = three _ _ _ _ (canonical_cells (masks_cells m.packet_in)) (canonical_cells (masks_cells m.port_status)) (canonical_cells (masks_cells m.flow_removed)) c.in_ok-put_masks.ensures.text c.in_ok-put_masks-2.ensures.text c.in_ok-put_masks-3.ensures.text in
    let a = c.put_masks.ensures.fits in
    let b = c.put_masks-2.ensures.fits in
    let d = c.put_masks-3.ensures.fits in
    fields_written (SetAsync m) c.args.xid 24 _ _ c.in_ok-out.ensures (c.new.ensures ∙ fields) refl
    (record { total = refl; short = omega arith; xid_fits = omega arith; fits = (a.0, (a.1.0, (b.0, (b.1.0, (d.0, (d.1.0, tt)))))); behind = refl; valid = tt })
