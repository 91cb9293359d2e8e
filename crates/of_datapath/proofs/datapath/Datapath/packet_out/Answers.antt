use Rattle.std.proofs.Common.{◌≡◌, ◌∙◌, ℕ, List, ap, refl, sym}
use Rattle.std.{specs.Prelude.None, proofs.lemmas.Result.IfOk-weaker}
use Rattle.of_machine.specs.Rows.{entering, acts}
use Rattle.of_datapath.{specs.Numbers.contents_of, specs.Numbers.forwarding_of, specs.Applying.without_used, proofs.Forwarding.went, proofs.Forwarding.without_used_next}
use Rattle.of_datapath.proofs.datapath.Datapath.packet_out.Goals as goal

pub returns-clause-ok : goal.returns-clause-ok
returns-clause-ok g c =
    let now = c.args.self.now in
    let mid = c.run_actions.new.world in
    let f = forwarding_of now in
    let before = record f { held = without_used c.args.used now.held } in
    let bytes = c.args.bytes.now in
    let whole : c.new.result ≡ bytes = c.new.ensures in
    IfOk-weaker c.apply.result _ _
    (λ effects told. went c.args.heard (entering bytes c.args.in_port) c.new-packet.result (acts c.args.actions.now) now.tables now.groups now.ports now.held (contents_of mid)
    c.in_ok-outcome.outcome.items.items c.in_ok-outcome.outcome.counts.items effects.items None c.args.used before _
    c.known.ensures.distinct (c.new-packet.ensures ∙ ap (λ (b : List ℕ). entering b c.args.in_port) whole) c.in_ok-outcome.ensures.items c.in_ok-outcome.ensures.counts c.run_actions.ensures.content (sym (without_used_next c.args.used now.held)) (λ frames. refl) told.0 told.1)
    c.apply.ensures.ok
