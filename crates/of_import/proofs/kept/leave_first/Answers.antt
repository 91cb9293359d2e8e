use Rattle.std.proofs.Common.{◌∙◌, sym, ap, subst, [], List}
use Rattle.std.specs.Prelude.{map, slice_index_or}
use Rattle.of_import.specs.{declared.parsed_lines.GroupLine.GroupLine, Kept.groups_in, ParsedLinesViews.AreSoundGroups, ParsedLinesViews.view_group_line}
use Rattle.of_import.proofs.KeptLemmas.{after_some, still_sound}
use Rattle.of_text.specs.First.{first_refusal}
use Rattle.of_import.proofs.kept.leave_first.Goals as goal

pub returns-in_ok-push-in-Some-clause-left : goal.returns-in_ok-push-in-Some-clause-left
returns-in_ok-push-in-Some-clause-left c = after_some (first_refusal (groups_in (map view_group_line c.args.groups.now.items)) []) c.in-Some.place c.in_ok-line-in-Some.line c.in_ok-id-in-Some.id c.in-Some.code c.args.groups.now.items c.remove_id.new.groups.items c.args.refused.now.items c.push.new.self.items
    (sym c.in-Some.is ∙ (c.in_ok-place.ensures ∙ ap (λ (gs : List GroupLine). first_refusal (groups_in (map view_group_line gs)) []) c.deref.ensures.value))
    (c.in_ok-line-in-Some.ensures ∙ ap (λ (gs : List GroupLine). slice_index_or (map (λ g. g.line) gs) c.in-Some.place 0) c.deref-in-Some.ensures.value)
    (c.in_ok-id-in-Some.ensures ∙ ap (λ (gs : List GroupLine). slice_index_or (map (λ g. g.group.head.id) gs) c.in-Some.place 0) c.deref-in-Some-2.ensures.value)
    c.remove_id.ensures c.in_ok-push-in-Some.ensures.items

pub returns-in_ok-push-in-Some-clause-sound : goal.returns-in_ok-push-in-Some-clause-sound
returns-in_ok-push-in-Some-clause-sound c = subst AreSoundGroups (sym c.remove_id.ensures) (still_sound c.in_ok-id-in-Some.id c.args.groups.now.items c.requires)
