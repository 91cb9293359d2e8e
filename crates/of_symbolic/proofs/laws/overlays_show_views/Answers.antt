use Rattle.of_symbolic.proofs.{Overlaying.fields_shown, Popping.only_pops, Popping.popped_back, Showing.overlay_shows}
use Rattle.of_symbolic.proofs.laws.overlays_show_views.Goals as goal

pub returns-clause-view : goal.returns-clause-view
returns-clause-view c = overlay_shows

pub returns-clause-fields : goal.returns-clause-fields
returns-clause-fields c = fields_shown

pub returns-clause-tag : goal.returns-clause-tag
returns-clause-tag c = only_pops

pub returns-clause-back : goal.returns-clause-back
returns-clause-back c = popped_back
