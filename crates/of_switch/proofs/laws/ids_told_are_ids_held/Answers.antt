use Rattle.of_datapath.proofs.HeldIds.{told, found, whole, ids, distinct, next_is}
use Rattle.of_datapath.specs.Told.{given_items}
use Rattle.of_switch.proofs.laws.ids_told_are_ids_held.Goals as goal

pub returns-clause-told : goal.returns-clause-told
returns-clause-told c = λ heard ports b items first rest p split e. told heard ports b items first rest p split e

pub returns-clause-held : goal.returns-clause-held
returns-clause-held c = λ heard ports b items first rest p n split e few. found heard ports b items first rest p split n e few

pub returns-clause-whole : goal.returns-clause-whole
returns-clause-whole c = λ heard ports b items first rest p split e. whole heard ports b items first rest p split e

pub returns-clause-ids : goal.returns-clause-ids
returns-clause-ids c = λ heard b first n. ids heard b first n

pub returns-clause-distinct : goal.returns-clause-distinct
returns-clause-distinct c = λ heard b first more p n e few. distinct heard b first more p n e few

pub returns-clause-next : goal.returns-clause-next
returns-clause-next c = λ heard ports b items. next_is heard b (given_items heard ports items)
