use Rattle.std.{specs.Prelude.map, specs.List.AllByRecursion, proofs.Common.refl, proofs.Common.subst, proofs.Common.sym}
use Rattle.of_import.proofs.KeptLemmas.{older_start, older_more, older_done, sifting_next, all_reversed, no_more}
use Rattle.of_import.{specs.ParsedLinesViews.FlowIsSound, specs.ParsedLinesViews.view_flow_line, proofs.DigestLemmas.no_digests}
use Rattle.of_import.proofs.kept.youngest.Goals as goal

pub loop-it-init : goal.loop-it-init
loop-it-init c = record { older = older_start c.args.flows.items c.args.flows.items c.new-later.result.items refl c.new-later.ensures.items c.requires; digests = no_digests c.new-places.result c.new-later.result.items c.new-places.ensures.empty c.new-later.ensures.items }

pub add_older-requires-clause-flow : goal.add_older-requires-clause-flow
add_older-requires-clause-flow c = sifting_next c.loop-it.left.items c.pop.new.self.items c.in-Some.it c.loop-it.invariant.older.to_come c.in-Some.ensures.items

pub loop-it-preserved : goal.loop-it-preserved
loop-it-preserved c = record { older = older_more (map view_flow_line c.args.flows.items) c.loop-it.left.items c.pop.new.self.items c.loop-it.later.items c.add_older.new.later.items c.in-Some.it c.loop-it.invariant.older c.in-Some.ensures.items c.in_ok-add_older.ensures.added c.in_ok-add_older.ensures.sound; digests = c.in_ok-add_older.ensures.digests }

pub returns-clause-kept : goal.returns-clause-kept
returns-clause-kept c = older_done (map view_flow_line c.args.flows.items) c.loop-it.left.items c.loop-it.later.items c.reverse.new.self.items c.loop-it.invariant.older (no_more c.loop-it.left (λ p. let some = c.in_default.ensures.variant.1 p in absurd cc)) c.reverse.ensures.items

pub returns-clause-sound : goal.returns-clause-sound
returns-clause-sound c = subst (AllByRecursion FlowIsSound) (sym c.reverse.ensures.items) (all_reversed FlowIsSound c.loop-it.later.items c.loop-it.invariant.older.sound)
