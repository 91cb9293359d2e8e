use Rattle.std.proofs.Common.{[]}
use Rattle.of_cache.proofs.Histories.{as_the_list, no_matches, none_right}
use Rattle.of_cache.proofs.laws.any_history_answers_as_the_list.Goals as goal

pub returns : goal.returns
returns c = λ looked capacity calls answers decide fine h. as_the_list looked capacity decide calls [] [] answers fine no_matches none_right h
