use Rattle.std.proofs.Common.{◌≡◌, ◌+◌, ◌≤◌, length}
use Rattle.of_text.specs.Lines.{lines_of}
use Rattle.of_shadowing.specs.{Listings.listing_from, Listings.listing_of, ListingViews.view_listing}
use Rattle.of_shadowing.proofs.listing.read_listing.Given as goal

abbrev pub decreases-loop-rest : goal.decreases-loop-rest
decreases-loop-rest l = length l.rest

abbrev pub invariant-loop-rest : goal.invariant-loop-rest
invariant-loop-rest l = record {
  read : listing_of (lines_of l.file) ≡ listing_from l.number (view_listing l.listing) (lines_of l.rest);
  count : l.number + length l.rest ≤ length l.file;
}
