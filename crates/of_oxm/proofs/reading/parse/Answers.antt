use Rattle.std.proofs.Common.{ℕ, ◌-◌, take, drop, ◌∙◌, ap, sym, arith}
use Rattle.std.proofs.lemmas.Result.{err_from_is_err_and}
use Rattle.of_oxm.{specs.Prerequisites.prerequisites_met, proofs.Whole.field_refused, proofs.Whole.need_refused, proofs.Whole.whole_encoded, proofs.Whole.is_match}
use Rattle.of_oxm.proofs.Computed.{head_computed, fault_computed, need_computed, found_computed}
use Rattle.of_oxm.proofs.reading.parse.Goals as goal

pub returns-in_err-read-clause-refused : goal.returns-in_err-read-clause-refused
returns-in_err-read-clause-refused c =
    let p = err_from_is_err_and c.from_residual.result c.from_residual.ensures.1 in
    let body = c.fields_of-body.ensures ∙ ap (λ (n : ℕ). take (n - 4) (drop 4 c.args.bytes.now)) c.in-Ok.ensures.len in
    rw (p.1, p.2) (field_refused c.args.bytes.now c.fields_of-body.result.now c.in_err-read.field-0.0 c.in-Ok.ensures.none body c.in_err-read.ensures.refused)

pub returns-then-not-prerequisites_met-clause-refused : goal.returns-then-not-prerequisites_met-clause-refused
returns-then-not-prerequisites_met-clause-refused c =
    let body = c.fields_of-body.ensures ∙ ap (λ (n : ℕ). take (n - 4) (drop 4 c.args.bytes.now)) c.in-Ok.ensures.len in
    let met = ap prerequisites_met (sym c.deref.ensures.value) ∙ sym c.prerequisites_met.ensures ∙ c.if-not-prerequisites_met.true in
    need_refused c.args.bytes.now c.fields_of-body.result.now c.in_ok-read.read.items c.in_ok-fields.fields.items c.in-Ok.ensures.none body c.in_ok-read.ensures.found c.in_ok-fields.ensures met

pub invariant_of-result : goal.invariant_of-result
invariant_of-result c =
    let met = ap prerequisites_met (sym c.deref.ensures.value) ∙ sym c.prerequisites_met.ensures ∙ c.if-not-prerequisites_met.false in
    is_match c.fields_of-body.result.now c.in_ok-read.read.items c.in_ok-fields.fields.items c.in_ok-read.ensures.found c.in_ok-fields.ensures met

pub returns-clause-found : goal.returns-clause-found
returns-clause-found c =
    let body = c.fields_of-body.ensures ∙ ap (λ (n : ℕ). take (n - 4) (drop 4 c.args.bytes.now)) c.in-Ok.ensures.len in
    let met = ap prerequisites_met (sym c.deref.ensures.value) ∙ sym c.prerequisites_met.ensures ∙ c.if-not-prerequisites_met.false in
    whole_encoded c.args.bytes.now c.fields_of-body.result.now c.in-Ok.len c.in_ok-read.read.items c.in_ok-fields.fields.items (λ i. omega (arith, c.type_inv.bytes i)) c.in-Ok.ensures.none c.in-Ok.ensures.len body c.in_ok-read.ensures.found c.in_ok-fields.ensures met

pub returns-in_err-read-clause-reads : goal.returns-in_err-read-clause-reads
returns-in_err-read-clause-reads c =
    let p = err_from_is_err_and c.from_residual.result c.from_residual.ensures.1 in
    let body = c.fields_of-body.ensures ∙ ap (λ (n : ℕ). take (n - 4) (drop 4 c.args.bytes.now)) c.in-Ok.ensures.len in
    rw (p.1, p.2) (fault_computed c.args.bytes.now c.fields_of-body.result.now c.in_err-read.field-0.0 c.in-Ok.ensures.none body c.in_err-read.ensures.refused)

pub returns-then-not-prerequisites_met-clause-reads : goal.returns-then-not-prerequisites_met-clause-reads
returns-then-not-prerequisites_met-clause-reads c =
    let body = c.fields_of-body.ensures ∙ ap (λ (n : ℕ). take (n - 4) (drop 4 c.args.bytes.now)) c.in-Ok.ensures.len in
    let met = ap prerequisites_met (sym c.deref.ensures.value) ∙ sym c.prerequisites_met.ensures ∙ c.if-not-prerequisites_met.true in
    need_computed c.args.bytes.now c.fields_of-body.result.now c.in_ok-read.read.items c.in_ok-fields.fields.items c.in-Ok.ensures.none body c.in_ok-read.ensures.found c.in_ok-fields.ensures met

pub returns-clause-reads : goal.returns-clause-reads
returns-clause-reads c =
    let body = c.fields_of-body.ensures ∙ ap (λ (n : ℕ). take (n - 4) (drop 4 c.args.bytes.now)) c.in-Ok.ensures.len in
    let met = ap prerequisites_met (sym c.deref.ensures.value) ∙ sym c.prerequisites_met.ensures ∙ c.if-not-prerequisites_met.false in
    found_computed c.args.bytes.now c.fields_of-body.result.now c.in-Ok.len c.in_ok-read.read.items c.in_ok-fields.fields.items c.in-Ok.ensures.none c.in-Ok.ensures.len body c.in_ok-read.ensures.found c.in_ok-fields.ensures met

pub returns-in-Err-clause-reads : goal.returns-in-Err-clause-reads
returns-in-Err-clause-reads c = head_computed c.args.bytes.now c.in-Err.code c.in-Err.ensures.first
