-- ACTIONS THAT REWRITE FRAMES (OpenFlow 1.3.5, 5.12).
use Rattle.std.specs.Prelude.{Bool, true, false}
use Rattle.of_actions.specs.declared.action.Action.TheVariants.{Output, Group, DecNwTtl}
use Rattle.of_actions.specs.declared.action.Action.{Action}

-- all except OUTPUT and GROUP
abbrev pub rewrites_frames : Action → Bool
rewrites_frames (Output port max_len) = false
rewrites_frames (Group group) = false
rewrites_frames other = true

-- an action that rewrites each frame in the same way: its TTL decides what DEC_NW_TTL does
abbrev pub rewrites_alike : Action → Bool
rewrites_alike DecNwTtl = false
rewrites_alike other = rewrites_frames other
