use Rattle.std.{specs.Option.option_copied, proofs.Common.◌∙◌, proofs.Common.List, proofs.Common.ℕ, proofs.Common.ap}
use Rattle.of_shadowing.{specs.Conditions.need_of_word, specs.Listings.why_of, proofs.ListingLemmas.no_fault, proofs.ListingLemmas.some_fault}
use Rattle.of_shadowing.proofs.listing.unmet_fault.Goals as goal

pub returns-in-None : goal.returns-in-None
returns-in-None c = no_fault c.args.fields.now c.args.conditions.now (option_copied c.first_unmet.result) c.first_unmet.ensures (ap option_copied c.in-None.is)

pub returns-in_ok-to_vec-in-Some : goal.returns-in_ok-to_vec-in-Some
returns-in_ok-to_vec-in-Some c =
    some_fault c.args.fields.now c.args.conditions.now (option_copied c.first_unmet.result) c.in-Some.word.now c.in_ok-to_vec-in-Some.field-0 c.why_of.result c.first_unmet.ensures (ap option_copied c.in-Some.is)
    (c.in_ok-to_vec-in-Some.ensures.items_if_clones_equal (λ x y e. e) ∙ c.deref-in-Some.ensures.value)
    (c.why_of.ensures ∙ ap (λ (x : List ℕ). (why_of (need_of_word x) x).why) c.deref.ensures.value)
