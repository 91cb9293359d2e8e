use Rattle.of_text.specs.Lines.{lines_of}
use Rattle.of_import_report.proofs.AnswerLemmas.{imported, not_imported}
use Rattle.of_import_report.proofs.answer.import_as_json.Goals as goal

pub returns-in-Ok-clause-answer : goal.returns-in-Ok-clause-answer
returns-in-Ok-clause-answer c = imported c.answer_on.result (lines_of c.args.text.now) c.args.mode c.in-Ok.done c.in-Ok.ensures.found c.answer_on.ensures.json c.answer_on.ensures.left

pub returns-in-Err-clause-answer : goal.returns-in-Err-clause-answer
returns-in-Err-clause-answer c = not_imported c.answer_without.result (lines_of c.args.text.now) c.args.mode c.in-Err.error c.in-Err.ensures.failed c.answer_without.ensures.json c.answer_without.ensures.left c.answer_without.ensures.memory
