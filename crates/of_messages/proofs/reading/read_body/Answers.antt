use Rattle.std.proofs.Common.{rules, tests}
use Rattle.of_messages.{specs.Heads.type_of, proofs.OtherTypes.IsNone, proofs.OtherTypes.types, proofs.OtherTypes.no_body}
use Rattle.of_messages.proofs.reading.read_body.Goals as goal

pub returns-in_default-clause-reads : goal.returns-in_default-clause-reads
returns-in_default-clause-reads c =
    let other : IsNone (type_of c.args.message.now) types = search (rules, tests) in
    no_body c.args.message.now other
