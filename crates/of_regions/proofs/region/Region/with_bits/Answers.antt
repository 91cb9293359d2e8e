use Rattle.std.proofs.Common.{◌≡◌, sym, ap, ◌∙◌}
use Rattle.std.specs.Prelude.{bit_and}
use Rattle.of_oxm.specs.Relations.{bits_looked_at}
use Rattle.of_regions.proofs.NarrowingLemmas.{more_known, narrowed_all, narrowed_within, none_agrees}
use Rattle.of_regions.proofs.region.Region.with_bits.Goals as goal

pub learned-requires : goal.learned-requires
learned-requires c =
    let e = c.args.e.now in
    let same : bit_and e.value c.args.mask ≡ bit_and c.args.known (bits_looked_at e) = c.if-e-mask.true ∙ ap (bit_and c.args.known) c.bits_of-bits.ensures in
    rw c.bits_of-bits.ensures (more_known c.args.self c.args.self e c.args.mask c.args.known c.requires.condition c.requires.mask c.requires.known same)

pub returns-then-e-mask-clause-within : goal.returns-then-e-mask-clause-within
returns-then-e-mask-clause-within c =
    let e = c.args.e.now in
    let same : bit_and e.value c.args.mask ≡ bit_and c.args.known (bits_looked_at e) = c.if-e-mask.true ∙ ap (bit_and c.args.known) c.bits_of-bits.ensures in
    narrowed_within c.args.self c.learned.result e c.args.mask c.args.known c.requires.condition c.requires.mask c.requires.known same (rw c.bits_of-bits.ensures at c.learned.ensures.masks) c.learned.ensures.known

pub returns-then-e-mask-clause-all : goal.returns-then-e-mask-clause-all
returns-then-e-mask-clause-all c =
    let e = c.args.e.now in
    let same : bit_and e.value c.args.mask ≡ bit_and c.args.known (bits_looked_at e) = c.if-e-mask.true ∙ ap (bit_and c.args.known) c.bits_of-bits.ensures in
    narrowed_all c.args.self c.learned.result e c.args.mask c.args.known c.requires.condition c.requires.mask c.requires.known same (rw c.bits_of-bits.ensures at c.learned.ensures.masks) c.learned.ensures.known

pub returns-clause-all : goal.returns-clause-all
returns-clause-all c map h a =
    let e = c.args.e.now in
    none_agrees c.args.self e c.args.mask c.args.known c.requires.condition c.requires.mask c.requires.known (λ same. c.if-e-mask.false (same ∙ ap (bit_and c.args.known) (sym c.bits_of-bits.ensures))) map h a
