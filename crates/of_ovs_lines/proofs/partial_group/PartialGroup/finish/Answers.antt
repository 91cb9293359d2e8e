use Rattle.std.proofs.Common.{◌≡◌, ◌∙◌, sym, true, ap}
use Rattle.std.specs.{Prelude.map, List.list_all}
use Rattle.of_text.specs.Views.{view_bucket}
use Rattle.of_ovs_lines.{specs.PartialGroups.bucket_fits, proofs.SoundLemmas.buckets_sound}
use Rattle.of_ovs_lines.proofs.partial_group.PartialGroup.finish.Goals as goal

pub returns-in-Some-Some-clause-fits : goal.returns-in-Some-Some-clause-fits
returns-in-Some-Some-clause-fits c =
    let fit : list_all bucket_fits (map view_bucket c.close.new.self.buckets.items) ≡ true = ap (λ bs. list_all bucket_fits (map view_bucket bs)) (sym c.deref.ensures.value) ∙ (sym c.buckets_fit.ensures ∙ c.if-not-buckets_fit.false) in
    (c.known_id.ensures, buckets_sound (map view_bucket c.close.new.self.buckets.items) fit)
