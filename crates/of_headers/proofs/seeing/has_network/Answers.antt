use Rattle.std.proofs.Common.{refl, inl}
use Rattle.of_headers.{specs.Seeing.AreSeen, proofs.SeenLemmas.lacks}
use Rattle.of_headers.proofs.seeing.has_network.Goals as goal

pub returns-then-mask-eq0 : goal.returns-then-mask-eq0
unfolding AreSeen
returns-then-mask-eq0 c = λ _. (inl (lacks _ _ 5 c.if-mask-eq0.true refl), (inl (lacks _ _ 8 c.if-mask-eq0.true refl), (inl (lacks _ _ 9 c.if-mask-eq0.true refl), (inl (lacks _ _ 10 c.if-mask-eq0.true refl), (inl (lacks _ _ 11 c.if-mask-eq0.true refl), (inl (lacks _ _ 12 c.if-mask-eq0.true refl), tt))))))
