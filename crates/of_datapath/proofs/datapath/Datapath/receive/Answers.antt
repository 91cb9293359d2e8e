use Rattle.std.proofs.Common.{◌≡◌, ◌∙◌, ℕ, List, ap, refl, [], ◌∷◌, length}
use Rattle.std.{specs.Prelude.Some, specs.Prelude.None, proofs.lemmas.Result.IfOk-weaker}
use Rattle.of_machine.specs.Rows.{entering, Lookup}
use Rattle.of_ports.specs.declared.counters.PortCount.TheVariants.{Received}
use Rattle.of_datapath.{specs.Numbers.contents_of, specs.Numbers.forwarding_of, specs.declared.reception.Reception.Reception, specs.Datapath.count_port, proofs.Forwarding.went}
use Rattle.of_datapath.proofs.datapath.Datapath.receive.Goals as goal

pub returns-clause-ok : goal.returns-clause-ok
returns-clause-ok g c =
    let now = c.args.self.now in
    let mid = c.run.new.world in
    let f = forwarding_of now in
    let bytes = c.args.bytes.now in
    let reception : Reception = record { port = c.args.number; what = Received (length bytes) } in
    let whole : c.new.result ≡ bytes = c.new.ensures in
    IfOk-weaker c.apply.result _ _
    (λ effects told. went c.args.heard (entering bytes c.args.number) c.new-packet.result (Lookup 0 ∷ []) now.tables now.groups now.ports now.held (contents_of mid)
    c.in_ok-outcome.outcome.items.items c.in_ok-outcome.outcome.counts.items effects.items (Some reception) None (count_port c.args.number (Received (length bytes)) f) _
    c.known.ensures.distinct (c.new-packet.ensures ∙ ap (λ (b : List ℕ). entering b c.args.number) whole) c.in_ok-outcome.ensures.items c.in_ok-outcome.ensures.counts c.run.ensures.content refl (λ frames. refl) told.0 told.1)
    c.apply.ensures.ok
