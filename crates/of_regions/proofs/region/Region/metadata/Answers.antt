use Rattle.std.proofs.Common.{◌≡◌, ◌≤◌, ℕ, Option, Some, None, sym, subst, ◌∙◌, arith}
use Rattle.std.specs.Prelude.{IfSome}
use Rattle.of_headers.specs.FieldMap.{value}
use Rattle.of_oxm.specs.Masks.{mask_at}
use Rattle.of_regions.proofs.WitnessLemmas.{metadata_known, metadata_small}
use Rattle.of_regions.proofs.region.Region.metadata.Goals as goal

pub overflow_cast-result : goal.overflow_cast-result
overflow_cast-result c =
    let r = c.args.self.now in
    let small : IfSome (Some c.in-Some.known) (λ n. n ≤ 0xffffffffffffffff) = subst (λ (o : Option ℕ). IfSome o (λ n. n ≤ 0xffffffffffffffff)) (sym c.get.ensures ∙ c.in-Some.is) (metadata_small r.shape (mask_at r.masks) (value r.known) r.tagging r.each) in
    omega (arith, small)

pub unreachable-requires : goal.unreachable-requires
unreachable-requires c =
    let r = c.args.self.now in
    let both = metadata_known r.shape (mask_at r.masks) (value r.known) r.tagging r.each in
    let none : Some both.value ≡ None = sym both.known_is ∙ (sym c.get.ensures ∙ c.in-None.is) in
    cc
