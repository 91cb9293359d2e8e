use Rattle.of_oxm.proofs.Covering.{matched_covers}
use Rattle.of_oxm.proofs.relations.matched_is_covered.Goals as goal

pub returns : goal.returns
returns c = λ d m fine_d fine_m h. matched_covers d m fine_d.each fine_m h
