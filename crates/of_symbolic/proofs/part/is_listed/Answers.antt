use Rattle.std.proofs.Common.{◌≡◌, ◌∙◌, false, refl, sym, take, take_all, true}
use Rattle.of_symbolic.{specs.Parts.IsListed, proofs.PartLemmas.contains_index, proofs.PartLemmas.one_unlisted}
use Rattle.of_symbolic.proofs.part.is_listed.Goals as goal

pub returns-then-same_fields : goal.returns-then-same_fields
returns-then-same_fields c =
    let lacks = c.args.lacks.now in
    let own = c.index-lacks-index.result in
    let listed : IsListed lacks c.args.fields.now = (own, contains_index lacks c.loop-index.index own c.index-lacks-index.is c.loop-index-test.true, sym c.deref.ensures.value ∙ c.same_fields.ensures.same.0 c.if-same_fields.true) in
    (λ yes. listed, λ x. refl)

pub loop-index-preserved : goal.loop-index-preserved
loop-index-preserved c =
    one_unlisted c.args.lacks.now c.loop-index.index c.index-lacks-index.result c.args.fields.now c.index-lacks-index.is c.loop-index-test.true
    (λ same. (let yes : c.same_fields.result ≡ true = c.same_fields.ensures.same.1 (c.deref.ensures.value ∙ same) in let no = c.if-same_fields.false in absurd cc)) c.loop-index.invariant

pub returns : goal.returns
returns c =
    let all : take c.loop-index.index c.args.lacks.now ≡ c.args.lacks.now = take_all c.loop-index.index c.args.lacks.now c.loop-index-test.false in
    let none = c.loop-index.invariant in
    (λ yes. absurd (let e : false ≡ true = yes in cc), λ listed. absurd (none (listed.0, (rw all listed.1), listed.2)))
