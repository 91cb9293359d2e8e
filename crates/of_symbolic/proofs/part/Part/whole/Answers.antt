use Rattle.std.proofs.Common.{◌≡◌, ◌++◌, ◌∷◌, Bool, List, [], ap, sym, subst, false, true, ◌∙◌}
use Rattle.of_regions.specs.{declared.region.Region.Region, Narrowing.AreNarrowed, Searching.IsStart}
use Rattle.of_symbolic.specs.{declared.part.Part.Part, InnerTags.inner_tag_asked, Parts.IsWholePart}
use Rattle.of_symbolic.proofs.WholeLemmas.{asked_conditions, no_metadata, whole_is, whole_told}
use Rattle.of_symbolic.proofs.part.Part.whole.Goals.{then-inner+in_ok-regions, else-inner}
use Rattle.of_symbolic.proofs.part.Part.whole.Goals as goal

pub narrowed-requires : goal.narrowed-requires
narrowed-requires c = rw c.inner_tagged.ensures asked_conditions

pub returns-clause-whole : goal.returns-clause-whole
returns-clause-whole c =
    let start = c.in_ok-start.start.items in
    let begins : IsStart [] start = rw (sym c.of_all.ensures) c.in_ok-start.ensures in
    let plain : AreNarrowed (no_metadata ∷ []) start c.in_ok-plain.plain.items = rw (sym c.deref-2.ensures.value) c.in_ok-plain.ensures in
    let part : Part = record { regions = c.extend_from_slice.new.self; lacks = c.new.result } in
    let more : part.regions.items ≡ c.if-inner.regions.items ++ c.in_ok-plain.plain.items = rw (sym c.deref-3.ensures.value) c.in_ok-extend_from_slice.ensures.items in
    elim c.if-inner.branch [
      | then-inner+in_ok-regions w ↦
          let below : AreNarrowed inner_tag_asked start w.in_ok-regions.regions.items = rw (sym w.deref.ensures.value, sym w.inner_tagged.ensures) w.in_ok-regions.ensures in
          let regions = more ∙ ap (λ (rs : List Region). rs ++ c.in_ok-plain.plain.items) (ap (λ v. v.items) w.regions-is) in
          subst (λ (b : Bool). IsWholePart b part) (sym w.if-inner.true) (whole_told start begins part c.in_ok-plain.plain.items w.in_ok-regions.regions.items plain below regions c.new.ensures.items)
      | else-inner w ↦
          let regions : part.regions.items ≡ c.in_ok-plain.plain.items = more ∙ ap (λ (rs : List Region). rs ++ c.in_ok-plain.plain.items) (ap (λ v. v.items) w.regions-is ∙ c.new-regions.ensures.items) in
          subst (λ (b : Bool). IsWholePart b part) (sym w.if-inner.false) (whole_is start begins part (subst (AreNarrowed (no_metadata ∷ []) start) (sym regions) plain) c.new.ensures.items)
    ]
