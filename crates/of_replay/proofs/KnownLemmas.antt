-- What readers have left and writers hold, where that is known.
use Rattle.std.proofs.Common.{ℕ, List, Option, Some, None, ◌∙◌}
use Rattle.std.specs.Io.KnownBytes.{Keeps}

-- calls that are made again kept all
pub kept_again : (a b c : Option (List ℕ)) → Keeps a b → Keeps b c → Keeps a c
kept_again None b c p q = tt
kept_again (Some x) None c p q = absurd p
kept_again (Some x) (Some y) None p q = absurd q
kept_again (Some x) (Some y) (Some z) p q = q ∙ p
