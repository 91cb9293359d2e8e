use Rattle.std.proofs.Common.{◌≡◌, ◌∙◌, false, sym, true}
use Rattle.std.specs.List.{list_any}
use Rattle.of_symbolic.specs.InnerTags.{description_of}
use Rattle.of_symbolic_run.{specs.FrameSets.is_about_metadata, proofs.MetadataLemmas.same_conditions}
use Rattle.of_diff_report.proofs.region.are_true_of.Goals as goal
use Rattle.of_diff_report.proofs.region.are_true_of.Goals.{then-not-any_about_metadata, else-not-any_about_metadata}

pub returns-in-Ok : goal.returns-in-Ok
returns-in-Ok c = elim c.if-not-any_about_metadata.branch [
  | then-not-any_about_metadata w ↦
      (λ matched. (
      let all = rw (w.deref-then-not-any_about_metadata.ensures.value, w.deref-then-not-any_about_metadata-2.ensures.value) at (w.all_match.ensures (sym w.result-is ∙ matched)) in
      let none : list_any is_about_metadata c.in-Ok.fields.items ≡ false = rw c.deref.ensures.value at (sym c.any_about_metadata.ensures ∙ w.if-not-any_about_metadata.true) in
      let told = c.args.frames.now.inner in
      (c.in-Ok.fields.items, c.in-Ok.ensures.read, λ frame port h. sym (same_conditions told c.in-Ok.fields.items frame port (λ e. none)) ∙ all (description_of told frame port) h.part.0)
      ))
  | else-not-any_about_metadata w ↦ (λ matched. absurd (let some = w.if-not-any_about_metadata.false in let none = sym w.result-is ∙ matched in cc))
]
