use Rattle.std.proofs.Common.{◌∙◌}
use Rattle.of_headers.specs.FieldMap.{value, seen}
use Rattle.of_oxm.specs.Masks.{mask_at}
use Rattle.of_cache.{specs.Regions.meets_seen, proofs.Meeting.keys_tell}
use Rattle.of_cache.proofs.cause.meets.Goals as goal

pub returns : goal.returns
unfolding meets_seen
returns c =
    let mask = c.args.mask.now in
    let key = c.args.key.now in
    let region = c.args.region.now in
    c.eq.ensures ∙ keys_tell c.masked.result c.masked-2.result (λ f. seen (mask_at region.mask f) (value key f)) (λ f. seen (mask_at mask f) (value region.key f)) c.masked.ensures c.masked-2.ensures
