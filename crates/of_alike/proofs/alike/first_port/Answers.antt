use Rattle.std.{specs.List.Contains, proofs.Common.◌≡◌, proofs.Common.ℕ, proofs.Common.List, proofs.Common.subst}
use Rattle.of_alike.{specs.Alike.sent_by, proofs.AlikeLemmas.all_ports, proofs.AlikeLemmas.if_none}
use Rattle.of_alike.proofs.alike.first_port.Goals as goal

pub returns-clause-none : goal.returns-clause-none
returns-clause-none c =
    let a = c.args.a.now in
    let b = c.args.b.now in
    let some = c.push_ports.new.ports.items in
    let all = c.push_ports-2.new.ports.items in
    if_none c.first_other.result ((q : ℕ) → Contains c.deref.result.now q → sent_by q a ≡ sent_by q b) ((q : ℕ) → sent_by q a ≡ sent_by q b)
    (λ same. all_ports some all a b c.in_ok-push_ports.ensures.all c.in_ok-push_ports-2.ensures.kept c.in_ok-push_ports-2.ensures.all
    (subst (λ (ports : List ℕ). (q : ℕ) → Contains ports q → sent_by q a ≡ sent_by q b) c.deref.ensures.value same))
    c.first_other.ensures.none
