use Rattle.std.proofs.Common.{◌∙◌, ◌+◌, ap, sym, ◌<◌, length, arith}
use Rattle.of_text.specs.Lines.{lines_of}
use Rattle.of_ovs_words.proofs.WordLemmas.{some_bytes, no_bytes}
use Rattle.of_shadowing.specs.{Listings.listing_from, Listings.listing_of, Listings.with_listed, ListingViews.view_listing}
use Rattle.of_shadowing.proofs.ListingLemmas.{listing_end, listing_step}
use Rattle.of_shadowing.proofs.listing.read_listing.Goals as goal

pub loop-rest-init : goal.loop-rest-init
unfolding listing_of
loop-rest-init c = record {
  read = ap (λ t. listing_from 0 t (lines_of c.args.file.now)) (sym c.new-listing.ensures);
  count = omega arith;
}

pub loop-rest-preserved : goal.loop-rest-preserved
loop-rest-preserved c =
    let some : 0 < length c.loop-rest.rest.now = some_bytes c.loop-rest.rest.now c.is_empty.result c.is_empty.ensures c.loop-rest-test.true in
    let told = c.in_ok-add.ensures ∙ ap (λ x. with_listed (c.loop-rest.number + 1) x (view_listing c.loop-rest.listing)) c.in_ok-listed.ensures in
    record {
      read = c.loop-rest.invariant.read ∙ listing_step c.loop-rest.number (view_listing c.loop-rest.listing) (view_listing c.add.new.self) c.loop-rest.rest.now c.cut.result.0.now c.cut.result.1.now some c.cut.ensures.first c.cut.ensures.rest told;
      count = omega (arith, some, c.loop-rest.invariant.count, c.cut.ensures.shorter);
    }

pub returns : goal.returns
returns c =
    let none = no_bytes c.loop-rest.rest.now c.is_empty.result c.is_empty.ensures c.loop-rest-test.false in
    sym (c.loop-rest.invariant.read ∙ rw none (listing_end c.loop-rest.number (view_listing c.loop-rest.listing)))
