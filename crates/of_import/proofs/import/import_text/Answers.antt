use Rattle.of_text.specs.Lines.{lines_of}
use Rattle.of_import.{specs.KeptViews.view_kept, proofs.ImportLemmas.made_text, proofs.ImportLemmas.refusal_stops}
use Rattle.of_import.proofs.import.import_text.Goals as goal

pub returns-in-Ok-clause-found : goal.returns-in-Ok-clause-found
returns-in-Ok-clause-found c = made_text (lines_of c.args.text.now) c.args.mode c.in_ok-begun.begun.kept _ _ _ _ _ _ c.in_ok-begun.ensures.begun c.in-Ok.ensures.text c.in-Ok.ensures.refused

pub returns-in-Err-clause-failed : goal.returns-in-Err-clause-failed
returns-in-Err-clause-failed c = refusal_stops (lines_of c.args.text.now) c.args.mode (view_kept c.in_ok-begun.begun.kept) c.in-Err.error c.in_ok-begun.ensures.begun.kept_is c.in-Err.ensures.failed
