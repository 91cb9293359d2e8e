use Rattle.of_import_report.proofs.KeywordLemmas.{added, kept}
use Rattle.of_import_report.proofs.keywords.add_keyword.Goals as goal

pub returns-then-is_among : goal.returns-then-is_among
returns-then-is_among c = kept c.args.names.now.items c.deref.result.now c.args.fault.now c.keyword-name.result.now c.is_among.result c.keyword-name.ensures c.deref.ensures.value c.is_among.ensures c.if-is_among.true

pub returns : goal.returns
returns c = added c.args.names.now.items c.push.new.self.items c.deref.result.now c.args.fault.now c.in_ok-copy_name.field-0 c.keyword-name.result.now c.is_among.result c.keyword-name.ensures c.deref.ensures.value c.is_among.ensures c.if-is_among.false c.in_ok-push.ensures.items c.in_ok-copy_name.ensures
