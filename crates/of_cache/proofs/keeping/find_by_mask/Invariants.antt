-- the rows are as they were, and no row of the masks before holds the key
use Rattle.std.proofs.Common.{◌≡◌, take}
use Rattle.of_headers.specs.FieldMap.{value}
use Rattle.of_cache.proofs.Splitting.{NoneUnder}
use Rattle.of_cache.proofs.keeping.find_by_mask.Given as goal

abbrev pub invariant-loop-mask : goal.invariant-loop-mask
invariant-loop-mask l = record {
  same : l.rows ≡ l.fn.rows;
  none : NoneUnder (take l.mask-index l.masks) l.rows.entries (value l.key);
}
