use Rattle.std.proofs.{Common.sym, lemmas.Result.IfOk-weaker}
use Rattle.of_regions.specs.Searching.{IsFoundBySearch}
use Rattle.of_symbolic.{specs.Parts.FindsInPart, specs.Parts.HaveConditions, proofs.FindLemmas.finds, proofs.FindLemmas.rivals_kept}
use Rattle.of_symbolic.proofs.part.Part.find.Goals as goal

pub search_among-requires : goal.search_among-requires
search_among-requires c =
    let are : HaveConditions c.args.self.now.lacks.items c.in_ok-rivals.rivals.items = rw (sym c.deref.ensures.value) c.in_ok-rivals.ensures in
    rw c.deref-3.ensures.value (rivals_kept c.args.self.now.lacks.items c.in_ok-rivals.rivals.items are c.requires)

pub returns : goal.returns
returns c =
    let part = c.args.self.now in
    let rivals = c.in_ok-rivals.rivals.items in
    let are : HaveConditions part.lacks.items rivals = rw (sym c.deref.ensures.value) c.in_ok-rivals.ensures in
    IfOk-weaker c.search_among.result (IsFoundBySearch part.regions.items rivals c.args.steps) (FindsInPart part c.args.steps) (finds part rivals are c.args.steps)
    (rw (sym c.deref-2.ensures.value, sym c.deref-3.ensures.value) c.search_among.ensures)
