use Rattle.std.{specs.Int.trailing_zeros, specs.Int.w128, proofs.lemmas.Nat.Bits.bit_at-trailing_zeros}
use Rattle.of_regions.proofs.DividingLemmas.{bit_of, shifted}
use Rattle.of_regions.proofs.dividing.lowest.Goals as goal

pub returns : goal.returns
returns c =
    let low = bit_at-trailing_zeros w128 c.args.bits c.requires c.ranges.bits.fits in
    bit_of c.args.bits _ (trailing_zeros w128 c.args.bits) (shifted (trailing_zeros w128 c.args.bits) low.0) low.1
