use Rattle.std.proofs.Common.{◌∙◌, ap, List, ◌∷◌, [], ◌++◌}
use Rattle.of_text.specs.declared.group.GroupText.{GroupText}
use Rattle.of_ovs_text.proofs.InstructionLemmas.{lone_rows}
use Rattle.of_ovs_text.proofs.group.refusal_of.Goals as goal

pub of_items-requires : goal.of_items-requires
of_items-requires c = lone_rows c.args.group c.push.new.self.items c.new.result.items
    (c.in_ok-push.ensures.items ∙ ap (λ (gs : List GroupText). gs ++ c.args.group ∷ []) c.new-groups.ensures.items) c.new.ensures.items c.requires
