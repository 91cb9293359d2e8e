use Rattle.std.proofs.Common.{◌≡◌, ◌++◌, length, Ok}
use Rattle.of_ovs_words.specs.{Outcomes.◌>>=◌, Words.words_from}
use Rattle.of_require.specs.{Reading.place_named, Refusals.each_said}
use Rattle.of_require.proofs.reading.places_in.Given as goal

abbrev pub decreases-loop-rest : goal.decreases-loop-rest
decreases-loop-rest l = length l.rest

abbrev pub invariant-loop-rest : goal.invariant-loop-rest
invariant-loop-rest l = each_said place_named (words_from 0 l.text) ≡ (each_said place_named (words_from 0 l.rest) >>= λ others. Ok (l.places.items ++ others))
