use Rattle.of_symbolic_run.proofs.GroupedLemmas.{if_ok}
use Rattle.of_paths.specs.declared.path.Merging.TheVariants.{Each}
use Rattle.of_paths.proofs.classing.put_path.Goals as goal

pub returns-in-SameWay : goal.returns-in-SameWay
returns-in-SameWay g c = rw c.in-SameWay.is c.put_merged.ensures

pub returns-in-Each : goal.returns-in-Each
returns-in-Each g c = rw c.in-Each.is (if_ok c.put_alone.result _ _ (λ puts. puts Each tt) c.put_alone.ensures)
