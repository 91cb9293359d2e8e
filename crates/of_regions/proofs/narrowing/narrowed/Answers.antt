use Rattle.std.proofs.Common.{◌+◌, ◌<◌, ℕ, List, get_or, length, take, ◌≡◌, subst}
use Rattle.std.proofs.lemmas.List.{take_more}
use Rattle.of_oxm.specs.declared.match_field.MatchField.{MatchField}
use Rattle.of_regions.{specs.declared.region.Region.Region, specs.Narrowing.AreNarrowed, specs.Narrowing.IsNarrowedBy, proofs.NarrowingLemmas.one_more_narrowed}
use Rattle.of_regions.proofs.narrowing.narrowed.Goals as goal

one_after : (fields : List MatchField) (regions : List Region) (i : ℕ) (r : Region) (out new : List Region) → r ≡ get_or regions i r → i < length regions → AreNarrowed fields (take i regions) out → IsNarrowedBy fields r out new → AreNarrowed fields (take (i + 1) regions) new
one_after fields regions i r out new is lt are more = rw (take_more regions i r lt) (one_more_narrowed fields (take i regions) out new (get_or regions i r) are (subst (λ (x : Region). IsNarrowedBy fields x out new) is more))

pub loop-region-preserved : goal.loop-region-preserved
loop-region-preserved c =
    one_after c.args.fields.now c.args.regions.now c.loop-region.region-index c.region-item.result c.loop-region.out.items c.push_narrowed.new.out.items c.region-item.is c.loop-region-test.true c.loop-region.invariant c.in_ok-push_narrowed.ensures
