use Rattle.std.proofs.Common.{◌∙◌, sym, ap, eqb, ℕ}
use Rattle.std.specs.{Prelude.is_some, List.list_any}
use Rattle.of_text.specs.Views.{view}
use Rattle.of_import.{specs.Digests.digests_of, proofs.DigestLemmas.none_same}
use Rattle.of_import.proofs.kept.has_younger.Goals as goal

pub returns-in-None : goal.returns-in-None
returns-in-None c = sym (none_same c.args.later.now (view c.args.flow.now) (ap (λ (n : ℕ). list_any (eqb n) (digests_of c.args.later.now)) (sym c.requires.key) ∙ (sym (c.requires.digests c.args.key) ∙ ap is_some (sym c.place_of.ensures ∙ c.in-None.is))))
