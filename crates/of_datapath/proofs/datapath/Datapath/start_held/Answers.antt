use Rattle.std.proofs.Common.{◌≡◌, ◌∙◌, ℕ, List, ap, refl, sym, [], ◌∷◌}
use Rattle.std.{specs.Prelude.Some, specs.Prelude.None, proofs.lemmas.Result.IfOk-weaker}
use Rattle.of_machine.specs.Rows.{entering, Lookup}
use Rattle.of_datapath.{specs.Numbers.contents_of, specs.Numbers.forwarding_of, specs.Datapath.without_held, proofs.Forwarding.went, proofs.Forwarding.used_next}
use Rattle.of_datapath.proofs.datapath.Datapath.start_held.Goals as goal

pub returns-clause-ok : goal.returns-clause-ok
returns-clause-ok g c =
    let now = c.args.self.now in
    let mid = c.run.new.world in
    let f = forwarding_of now in
    let bytes = c.args.bytes.now in
    let whole : c.new.result ≡ bytes = c.new.ensures in
    IfOk-weaker c.apply.result _ _
    (λ effects told. went c.args.heard (entering bytes c.args.ingress) c.new-packet.result (Lookup 0 ∷ []) now.tables now.groups now.ports now.held (contents_of mid)
    c.in_ok-outcome.outcome.items.items c.in_ok-outcome.outcome.counts.items effects.items None (Some c.args.id) (without_held c.args.id f) _
    c.known.ensures.distinct (c.new-packet.ensures ∙ ap (λ (b : List ℕ). entering b c.args.ingress) whole) c.in_ok-outcome.ensures.items c.in_ok-outcome.ensures.counts c.run.ensures.content (sym (used_next c.args.id now.held)) (λ frames. refl) told.0 told.1)
    c.apply.ensures.ok
