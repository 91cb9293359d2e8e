-- WHAT IS KNOWN OF THE FIELDS OF PACKETS OF ONE SHAPE (OpenFlow 1.3.5, 7.2.3.7 and 7.2.3.8).
use Rattle.std.specs.Prelude.{◌≡◌, ℕ, ◌==◌, ◌&&◌, nat_le, Bool, true, false, Option, Some, None, bit_and}
use Rattle.of_layers.specs.{declared.field.Field.Field, declared.field.Field.TheVariants.VlanVid, declared.field.Field.TheVariants.VlanPcp, Fields.ones_of}
use Rattle.of_frames.specs.{declared.shape.Shape.Shape, declared.shape.Tagging.Tagging, declared.shape.Rule.Rule}
use Rattle.of_frames.specs.{declared.shape.Rule.TheVariants.Free, declared.shape.Rule.TheVariants.Absent, declared.shape.Rule.TheVariants.Under, Rules.of_shape, Rules.of_tagging}

-- ---- what the shape says about a field; about those of a tag what the tagging says, if it is known

abbrev pub tag_rule : Option Tagging → Field → Rule
tag_rule None f = Free
tag_rule (Some t) f = of_tagging t f

abbrev pub rule_in : Shape → Option Tagging → Field → Rule
rule_in s t VlanVid = tag_rule t VlanVid
rule_in s t VlanPcp = tag_rule t VlanPcp
rule_in s t f = of_shape s f

-- ---- what is known of a field that obeys a rule: whether it is there, and its bits under a mask, among them those of the rule

abbrev pub are_known : ℕ → ℕ → ℕ → ℕ → ℕ → Bool
are_known ones bits said mask known = (bit_and mask ones == mask && bit_and mask bits == bits) && (bit_and known mask == known && bit_and known bits == said)

abbrev pub is_known_by : ℕ → Rule → Option ℕ → Option ℕ → Bool
is_known_by ones Free None None = true
is_known_by ones Absent (Some mask) None = nat_le mask ones
is_known_by ones (Under bits said) (Some mask) (Some known) = are_known ones bits said mask known
is_known_by ones rule mask known = false

abbrev pub AllKnown : Shape → Option Tagging → (Field → Option ℕ) → (Field → Option ℕ) → Type 0
AllKnown s t mask known = (f : Field) → is_known_by (ones_of f) (rule_in s t f) (mask f) (known f) ≡ true
