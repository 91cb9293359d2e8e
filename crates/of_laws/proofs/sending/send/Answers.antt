use Rattle.std.{specs.Option.option_map, proofs.Common.Option, proofs.Common.sym, proofs.Common.◌∙◌, proofs.Common.ap}
use Rattle.smallvec.specs.SmallVec.{SmallVec}
use Rattle.of_datapath.specs.declared.effect.Effect.{Effect}
use Rattle.of_switch.specs.Steps.{Outcome, gives}
use Rattle.of_laws.{specs.Sending.error_in, proofs.SendingLemmas.IsSent, proofs.SendingLemmas.receives, proofs.SendingLemmas.sent_is}
use Rattle.of_laws.proofs.sending.send.Goals as goal

sent : (c : goal.Joined-effects) → IsSent c.args.command.now c.args.switch.now c.next.new.self c.in-Some.effects.items
sent c =
    let between = receives c.args.command.now c.args.switch.now c.feed.new.self c.requires.ready c.in_ok-feed.ensures in
    sent_is c.args.command.now c.args.switch.now c.feed.new.self c.next.new.self c.in-Some.effects.items c.requires.command c.requires.ready between
    (c.in_ok-effects.ensures.0 ∙ ap (λ (o : Option (SmallVec Effect)). option_map (λ (effects : SmallVec Effect). gives effects.items c.next.new.self) o) c.in-Some.is)

pub returns-clause-code : goal.returns-clause-code
returns-clause-code c = c.error_among.ensures ∙ (ap error_in c.deref.ensures ∙ ap (λ (o : Outcome). error_in o.effects) (sym (sent c).whole))

pub returns-clause-state : goal.returns-clause-state
returns-clause-state c = ap (λ (o : Outcome). o.state) (sym (sent c).whole)

pub returns-clause-ready : goal.returns-clause-ready
returns-clause-ready c = (sent c).after
