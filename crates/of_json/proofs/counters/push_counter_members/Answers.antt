use Rattle.std.proofs.Common.{rules}
use Rattle.of_json.{specs.Strings.counter_member, proofs.ListingLemmas.listed_words}
use Rattle.of_json.proofs.counters.push_counter_members.Goals as goal

pub returns : goal.returns
returns c = rw (← listed_words counter_member c.args.words.now) (c.push_listed.ensures (λ w. counter_member w.items) (λ out word r left k. search rules))
