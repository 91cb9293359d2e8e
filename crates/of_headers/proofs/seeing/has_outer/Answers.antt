use Rattle.std.proofs.Common.{refl, inl}
use Rattle.of_headers.{specs.Seeing.AreSeen, proofs.SeenLemmas.lacks}
use Rattle.of_headers.proofs.seeing.has_outer.Goals as goal

pub returns-then-mask-eq0 : goal.returns-then-mask-eq0
unfolding AreSeen
returns-then-mask-eq0 c = λ _. (inl (lacks _ _ 0 c.if-mask-eq0.true refl), (inl (lacks _ _ 2 c.if-mask-eq0.true refl), (inl (lacks _ _ 3 c.if-mask-eq0.true refl), (inl (lacks _ _ 4 c.if-mask-eq0.true refl), (inl (lacks _ _ 6 c.if-mask-eq0.true refl), (inl (lacks _ _ 7 c.if-mask-eq0.true refl), tt))))))
