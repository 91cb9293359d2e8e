use Rattle.std.proofs.Common.{refl, inl}
use Rattle.of_headers.{specs.Seeing.AreSeen, proofs.SeenLemmas.lacks}
use Rattle.of_headers.proofs.seeing.has_ports.Goals as goal

pub returns-then-mask-eq0 : goal.returns-then-mask-eq0
unfolding AreSeen
returns-then-mask-eq0 c = λ _. (inl (lacks _ _ 13 c.if-mask-eq0.true refl), (inl (lacks _ _ 14 c.if-mask-eq0.true refl), (inl (lacks _ _ 15 c.if-mask-eq0.true refl), (inl (lacks _ _ 16 c.if-mask-eq0.true refl), tt))))
