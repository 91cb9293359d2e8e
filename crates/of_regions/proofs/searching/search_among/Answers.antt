use Rattle.std.proofs.Common.{◌≡◌, ◌∙◌, ◌+◌, ℕ, [], ◌∷◌, ◌++◌, Option, None, refl, sym, ap, subst, arith}
use Rattle.std.{specs.Prelude.IfNone, proofs.lemmas.Grind.common_steps}
use Rattle.of_regions.specs.Searching.{AreSteps, IsState, IsStep, regions_in}
use Rattle.of_regions.proofs.SearchLemmas.{begun, found_at_end, last_passed, one_more, regions_begun}
use Rattle.of_regions.specs.declared.witness.Packet.{Packet}
use Rattle.of_regions.proofs.searching.search_among.Goals as goal

pub loop-turn-init : goal.loop-turn-init
loop-turn-init c =
    let start = c.args.regions.now in
    record {
      state = rw (c.in_ok-search.ensures.rests, c.in_ok-search.ensures.none.0, c.in_ok-search.ensures.none.1) (begun start c.args.rivals.now);
      steps = ap regions_in c.in_ok-search.ensures.rests ∙ regions_begun start;
    }

pub returns-in_default : goal.returns-in_default
returns-in_default c =
    let empty : c.pop.new.self.items ≡ [] = (let none = c.in_default.ensures.cases in grind (arith, common_steps)) in
    let same : c.loop-turn.search.rests.items ≡ c.pop.new.self.items = c.in_default.ensures.items ∙ rw empty refl in
    c.ended.ensures.found c.args.regions.now c.args.rivals.now c.args.steps (rw (sym same) c.loop-turn.invariant.state) empty

pub step-requires-clause-passed : goal.step-requires-clause-passed
step-requires-clause-passed c =
    last_passed c.args.regions.now c.args.rivals.now c.pop.new.self.items c.in-Some.rest c.loop-turn.search.names.items c.loop-turn.search.unreceived (rw (sym c.in-Some.ensures.items) c.loop-turn.invariant.state)

pub loop-turn-preserved : goal.loop-turn-preserved
loop-turn-preserved c =
    let start = c.args.regions.now in
    let rivals = c.args.rivals.now in
    let old : IsState start rivals (c.pop.new.self.items ++ c.in-Some.rest ∷ []) c.loop-turn.search.names.items c.loop-turn.search.unreceived = rw (sym c.in-Some.ensures.items) c.loop-turn.invariant.state in
    let none : c.in_ok-packet.field-0 ≡ None = c.in_default-2.is in
    record {
      state = subst (λ (o : Option Packet). IfNone o (IsState start rivals c.step.new.search.rests.items c.step.new.search.names.items c.step.new.search.unreceived)) none (c.in_ok-packet.ensures.state start old);
      steps = one_more start rivals c.loop-turn.turn (regions_in (c.pop.new.self.items ++ c.in-Some.rest ∷ [])) (regions_in c.step.new.search.rests.items) (rw (sym c.in-Some.ensures.items) c.loop-turn.invariant.steps)
          (subst (λ (o : Option Packet). IfNone o (IsStep start rivals (regions_in (c.pop.new.self.items ++ c.in-Some.rest ∷ [])) (regions_in c.step.new.search.rests.items))) none (c.in_ok-packet.ensures.step start old));
    }

pub returns : goal.returns
returns c =
    let start = c.args.regions.now in
    let turn_is : c.loop-turn.turn ≡ c.args.steps = omega (arith, c.loop-turn-test.false, c.loop-turn.auto.turn-end) in
    found_at_end start c.args.rivals.now c.args.steps c.ended-2.result c.loop-turn.search.rests.items c.loop-turn.search.names.items c.loop-turn.search.unreceived c.loop-turn.invariant.state
    (subst (λ (n : ℕ). AreSteps start c.args.rivals.now n (regions_in c.loop-turn.search.rests.items)) turn_is c.loop-turn.invariant.steps)
    c.ended-2.ensures.left (c.ended-2.ensures.found start c.args.rivals.now c.args.steps)
