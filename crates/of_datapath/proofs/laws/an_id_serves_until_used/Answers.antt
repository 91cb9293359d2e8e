use Rattle.std.proofs.Common.{slice_set}
use Rattle.of_datapath.{specs.Buffers.given_since, proofs.Circle.still_held, proofs.Circle.still_none, proofs.Circle.gone, proofs.Circle.emptied}
use Rattle.of_datapath.proofs.laws.an_id_serves_until_used.Goals as goal

pub returns-clause-kept : goal.returns-clause-kept
returns-clause-kept c id hs b n i few = rw i (still_held id hs b n i few)

pub returns-clause-once : goal.returns-clause-once
returns-clause-once c id hs b n i few = rw i (still_none id hs (record b { places = slice_set b.places (given_since id b) _ }) n i few (emptied b.places (given_since id b)))

pub returns-clause-given_up : goal.returns-clause-given_up
returns-clause-given_up c id hs b n i short many few = rw i (gone id hs b n i short many few)
