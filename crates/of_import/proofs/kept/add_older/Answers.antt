use Rattle.std.{specs.List.list_any, proofs.Common.◌∙◌, proofs.Common.sym, proofs.Common.ap, proofs.Common.List}
use Rattle.of_text.specs.Views.{view}
use Rattle.of_import.{specs.declared.parsed_lines.FlowLine.FlowLine, specs.Kept.replaces, proofs.DigestLemmas.digests_more, proofs.KeptLemmas.older_kept, proofs.KeptLemmas.older_put}
use Rattle.of_import.proofs.kept.add_older.Goals as goal

pub returns-in_ok-push-clause-added : goal.returns-in_ok-push-clause-added
returns-in_ok-push-clause-added c = older_put c.args.later.now.items c.push.new.self.items c.args.it (ap (λ (fs : List FlowLine). list_any (λ g. replaces (view g.flow) (view c.args.it.flow)) fs) (sym c.deref.ensures.value) ∙ (sym c.has_younger.ensures ∙ c.if-not-has_younger.true)) c.in_ok-push.ensures.items

pub returns-else-not-has_younger-clause-added : goal.returns-else-not-has_younger-clause-added
returns-else-not-has_younger-clause-added c = older_kept c.args.later.now.items c.args.it (ap (λ (fs : List FlowLine). list_any (λ g. replaces (view g.flow) (view c.args.it.flow)) fs) (sym c.deref.ensures.value) ∙ (sym c.has_younger.ensures ∙ c.if-not-has_younger.false))

pub returns-in_ok-push-clause-digests : goal.returns-in_ok-push-clause-digests
returns-in_ok-push-clause-digests c = digests_more c.args.later.now.items c.push.new.self.items c.args.it c.args.places.now c.put_digest.new.places c.digest-key.result c.len.result c.requires.digests c.in_ok-put_digest.ensures c.digest-key.ensures c.in_ok-push.ensures.items
