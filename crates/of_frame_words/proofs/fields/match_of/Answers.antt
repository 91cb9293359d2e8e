use Rattle.std.{specs.List.list_all, proofs.Common.◌∙◌, proofs.Common.ap}
use Rattle.of_oxm.specs.Prerequisites.{prerequisites_met}
use Rattle.of_frame_words.{specs.Fields.is_kept, specs.Fields.rises_by_number, proofs.FieldLemmas.tested_match}
use Rattle.of_frame_words.proofs.fields.match_of.Goals as goal

pub new-requires : goal.new-requires
new-requires c =
    tested_match c.args.fields.items c.are_kept.result c.is_ascending.result c.prerequisites_met.result
    (c.are_kept.ensures ∙ ap (list_all is_kept) c.deref.ensures.value)
    (c.is_ascending.ensures ∙ ap rises_by_number c.deref-then-are_kept.ensures.value)
    (c.prerequisites_met.ensures ∙ ap prerequisites_met c.deref-then-is_ascending.ensures.value)
    c.if-are_kept.true c.if-is_ascending.true c.if-prerequisites_met.true
