use Rattle.of_rewrite.proofs.{Changes.without_word, Changes.off_again, Righting.right_again, Righting.never_wrong}
use Rattle.of_rewrite.proofs.laws.stays_right.Goals as goal

pub returns : goal.returns
returns c = record { kept = λ c old new h w l. right_again c old new h w l; staying = without_word; off = off_again; udp = never_wrong }
