use Rattle.std.{specs.Prelude.replicate, proofs.Common.◌-◌, proofs.Common.length, proofs.Common.arith, proofs.lemmas.List.take-replicate}
use Rattle.of_statistics.proofs.Parts.{put_last, two_parts}
use Rattle.of_statistics.proofs.description.put_padded.Goals as goal

pub returns : goal.returns
returns c =
    let left = c.args.size - length c.args.text.now in
    two_parts c.extend_from_slice-2.result c.args.out.now.items c.extend_from_slice-2.new.self.items c.args.text.now (replicate left 0) c.in_ok-extend_from_slice.ensures.items
    (put_last c.extend_from_slice-2.result _ c.extend_from_slice-2.new.self.items _ (replicate left 0) c.extend_from_slice-2.ensures.items (take-replicate left 256 0 (omega (arith, c.requires.fits))))
