-- What is kept of groups while they are checked. No public clause cites this module.
use Rattle.std.specs.Prelude.{ℕ, ◌+◌, ◌∷◌, nat_le, nat_lt, Bool, List, [], Option}
use Rattle.of_wire.specs.declared.limits.TheConstants.{OFPG_MAX}
use Rattle.of_wire.specs.declared.codes.TheConstants.{OFPGMFC_BAD_WATCH, OFPGMFC_INVALID_GROUP, OFPGMFC_OUT_OF_GROUPS}
use Rattle.of_wire.specs.{declared.code.Code.Code, Refusals.first_of}
use Rattle.of_groups.specs.{declared.group.Group.Group, Faults.is_bad_watch, Faults.is_not_one}
use Rattle.of_text.specs.{Groups.TextGroup, Refusals.buckets_refusals, Refusals.group_refusals}

-- what the message alone decides
abbrev pub told_refusals : TextGroup → List (Bool × Code)
told_refusals g = (nat_lt OFPG_MAX g.head.id, OFPGMFC_INVALID_GROUP) ∷ buckets_refusals g.buckets

-- what is checked of the group after so many others
abbrev pub kept_refusals : ℕ → Group → List (Bool × Code)
kept_refusals place g = (is_bad_watch g.kind g.buckets, OFPGMFC_BAD_WATCH) ∷ (is_not_one g.kind g.buckets, OFPGMFC_INVALID_GROUP) ∷ (nat_le 256 place, OFPGMFC_OUT_OF_GROUPS) ∷ []

abbrev pub codes_from : ℕ → List TextGroup → List (Option Code)
codes_from place [] = []
codes_from place (g ∷ groups) = first_of (group_refusals place g) ∷ codes_from (place + 1) groups
