use Rattle.std.{specs.List.list_all, proofs.Common.◌≡◌, proofs.Common.true, proofs.lemmas.Result.err_from_is_err_and}
use Rattle.of_wire.specs.Numbered.{is_distinct}
use Rattle.of_actions.{specs.Headers.kind_of, specs.Unread.leads_on, proofs.ReaderLaws.fails_weaker, proofs.Bodies.places_once, proofs.Bodies.bodies_for}
use Rattle.of_actions.proofs.{RunOrders.order_kept, RunOrders.order_for, InstructionLaws.header_refused, InstructionLaws.body_refused}
use Rattle.of_actions.proofs.instruction_reading.parse_instructions.Goals as goal

pub returns-in_err-headers-clause-refused : goal.returns-in_err-headers-clause-refused
returns-in_err-headers-clause-refused c =
    let p = err_from_is_err_and c.from_residual.result c.from_residual.ensures.1 in
    rw (p.1, p.2) (fails_weaker _ _ (header_refused c.args.table c.args.bytes.now) c.in_err-headers.field-0.0 c.in_err-headers.ensures.refused)

pub returns-in_err-message-clause-refused : goal.returns-in_err-message-clause-refused
returns-in_err-message-clause-refused c =
    let p = err_from_is_err_and c.from_residual-in_err-message.result c.from_residual-in_err-message.ensures.1 in
    rw (p.1, p.2) (fails_weaker _ _ (body_refused c.args.table c.args.bytes.now c.in_ok-headers.headers.items c.deref.result.now c.in_ok-headers.ensures.found c.deref.ensures) c.in_err-message.field-0.0 c.in_err-message.ensures.refused)

pub invariant_of-result : goal.invariant_of-result
invariant_of-result c =
    let once : is_distinct kind_of c.deref.result.now ≡ true = rw c.deref.ensures c.in_ok-headers.ensures.once in
    order_kept c.in_ok-message.message.items c.in_ok-instructions.instructions.items (places_once c.deref.result.now c.in_ok-message.message.items c.in_ok-message.ensures.found once) c.in_ok-message.ensures.served c.in_ok-instructions.ensures

pub returns-clause-valid : goal.returns-clause-valid
returns-clause-valid c =
    let on : list_all (leads_on c.args.table) c.deref.result.now ≡ true = rw c.deref.ensures c.in_ok-headers.ensures.leads_on in
    order_for c.args.table c.in_ok-message.message.items c.in_ok-instructions.instructions.items (bodies_for c.args.table c.deref.result.now c.in_ok-message.message.items c.in_ok-message.ensures.found on) c.in_ok-instructions.ensures
