use Rattle.std.proofs.lemmas.Result.{IfOk-weaker}
use Rattle.of_symbolic.{specs.Branching.IsPartBehind, specs.Parts.IsUnmatchedPart, proofs.BranchLemmas.behind_matched}
use Rattle.of_symbolic.proofs.part.Part.behind.Goals as goal

pub returns-in-Some : goal.returns-in-Some
returns-in-Some c =
    let m = c.in-Some.fields in
    let old = c.args.self in
    IfOk-weaker c.unmatched.result (IsUnmatchedPart m.items old) (IsPartBehind c.args.entry.now c.args.place c.args.of old)
    (λ new. behind_matched c.args.entry.now m c.args.place c.args.of old new c.in-Some.is (c.is_ahead.ensures.0 c.if-is_ahead.true)) c.unmatched.ensures
