use Rattle.std.proofs.Common.{refl, inl}
use Rattle.of_headers.{specs.Seeing.AreSeen, proofs.SeenLemmas.lacks}
use Rattle.of_headers.proofs.seeing.has_others.Goals as goal

pub returns-then-mask-eq0 : goal.returns-then-mask-eq0
unfolding AreSeen
returns-then-mask-eq0 c = λ _. (inl (lacks _ _ 19 c.if-mask-eq0.true refl), (inl (lacks _ _ 20 c.if-mask-eq0.true refl), (inl (lacks _ _ 21 c.if-mask-eq0.true refl), (inl (lacks _ _ 22 c.if-mask-eq0.true refl), (inl (lacks _ _ 23 c.if-mask-eq0.true refl), (inl (lacks _ _ 24 c.if-mask-eq0.true refl), (inl (lacks _ _ 25 c.if-mask-eq0.true refl), (inl (lacks _ _ 26 c.if-mask-eq0.true refl), (inl (lacks _ _ 27 c.if-mask-eq0.true refl), (inl (lacks _ _ 28 c.if-mask-eq0.true refl), (inl (lacks _ _ 29 c.if-mask-eq0.true refl), (inl (lacks _ _ 30 c.if-mask-eq0.true refl), tt))))))))))))
