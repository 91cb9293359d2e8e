-- `ofswitch_end` meets its contract: a walk of its MIR by hand. The switch is read out of memory, which leaves room.
use Rattle.of_c.proofs.Walking.{[], ◌∷◌, ◌++◌, refl, ap, proved, full_share, id⊢, ftrue, Val, vunit, tables, ‵, raw, ◌⊛◌, some, later, prop, at_ret, ◌$◌, ◌∵◌, !, qed, done, move, drop, use1, use2, split, join, feq_i, feq_l, pick, await, regoal, suffices, group, enter, of_opd, unit_lit, stop, no_more, and_then, first, blocks, exec, returns, alloc_all, pass_all, free_all, look_at, get, through, sets, sets_last, lands_as, env, WpFn, unit, yes, Ptr, RawPtr, block_ptr, lies_at, in_a_block, rawptr_vals, rawptr_Tells, plain, nothing, only, calls_at, triple_of, framed, Stays, walk_of, stay_dropped, Goes-dropped, ends_at, on_entry, Ty, fat, froom, part_out, lone, ensured, load, look, well_typed}
use Rattle.of_c.{specs.contracts.live.Live.the_row as L, proofs.living.ofswitch_end.Statement.statement, proofs.live.end.Met.met}
use Rattle.of_c.specs.contracts.living.ofswitch_end as f
use Rattle.of_c.proofs.living.ofswitch_end.Code as code
use Rattle.of_c.specs.contracts.live.end as g

abbrev stayed : Stays f.ended.signature.params f.ended.kept
stayed = (stay_dropped _ yes, tt)

pub ofswitch_end_spec : {M : Type 1} → statement M
ofswitch_end_spec 𝓤 𝓛 𝓜 𝓡 wired =
    let c = f.clauses 𝓛 𝓜.mem 𝓡.returns in let W = walk_of 𝓛 f.ended stayed c in let 𝓣 = tables 𝓤 𝓛.H 𝓜 𝓡 𝓡.env in let τ : Ty = lone L.mir in
    proved 𝓛 f.ended stayed c 𝓜 𝓡 (Goes-dropped 𝓛 0 (plain (λ _. RawPtr)) yes (λ κs x w. refl), tt)
    f.Key.name code.function (code.unfolded 𝓤 𝓛.H 𝓜 𝓡 wired)
    (λ κs. (rawptr_vals, tt)) (λ κs. (rawptr_Tells, tt)) (λ κs qs bounds a live are.
    let y : Ptr → W.Ghost = λ p. ((κs, qs, bounds, (p, tt), (rawptr_vals p, tt)), live) in
    qed 𝓛 (raw (on_entry 𝓛 f.signature κs qs a (y a.0).0.4) ∷ ‵ (lies_at L full_share a.0 live) ∷ []) ∵ drop ! $
    in_a_block ! a.0 (λ p. lies_at L full_share p live) (id⊢ 𝓤 _) (λ b o e.
    let x = y (block_ptr b o) in let Post = W.post x in
    regoal ! (λ p. prop (WpFn 𝓤 𝓛.H 𝓣.C 𝓣.Λ code.function (rawptr_vals p ++ []) (W.post (y p)))) e refl $
    use1 𝓛 (some (λ (v : Val). ‵ (fat full_share τ b o v) ⊛ ‵ (L.own_val live (v ∷ [])))) (part_out 𝓛 L refl full_share live b o) $ pick ! (λ w. split ! $ well_typed ! (λ ok.
    enter ! _ _ _ _ _ $ alloc_all ! (λ l. pass_all ! refl ((tt, tt), tt) $
    -- [the cell; the switch]
    sets ! (of_opd ! (get ! refl)) refl (tt, tt) $
    first ! $ blocks ! $ sets_last ! (of_opd ! (load ! (through ! refl (stop !)) (look ! 0 refl))) refl ok $
    exec ! 𝓣.C 𝓣.Λ (env code.Mir.locals l) code.Mir.t-3 (at_ret _ Post) $
    sets ! (of_opd ! (get ! refl)) refl ok $ sets ! (of_opd ! (get ! refl)) refl ok $
    use1 𝓛 (‵ (froom τ b o)) (𝓛.laws.at_room τ b o w) $
    let G = triple_of 𝓛 g.signature (g.spec 𝓛 𝓜.mem 𝓡.returns) in
    let z : G.Ghost = ((κs, qs, bounds, (live, tt), (w ∷ [], tt)), tt) in
    move ! (1 ∷ []) $ nothing ! $ move ! (1 ∷ 0 ∷ []) $ join ! $ nothing ! $ join ! $ nothing ! $ move ! (1 ∷ 0 ∷ []) $ use2 𝓛 (raw (G.pre z)) (id⊢ 𝓤 _) $
    calls_at ! (framed 𝓤 𝓛.H 𝓜 (tables 𝓤 𝓛.H 𝓜 𝓡 𝓡.env)) G (met 𝓤 𝓛 𝓜 𝓡 (code.calls-of_c::live::end 𝓡.env wired)) z
    (and_then ! (get ! refl) (no_more !)) (λ v.
    use1 𝓛 (later (some (λ (r : Unit {0}). (‵ ftrue ⊛ ‵ (unit.own_val r (v ∷ []))) ⊛ raw (ensured 𝓛 g.ended (g.clauses 𝓛 𝓜.mem 𝓡.returns) z.0.0 z.0.3 tt r)))) (id⊢ 𝓤 _) $
    await ! tt $ pick ! (λ r. split ! $ split ! $ drop ! $ feq_l ! (λ is_unit. drop ! $
    lands_as ! (ap only is_unit) refl (tt, tt) $ sets ! (of_opd ! (unit_lit !)) refl (tt, tt) $ returns ! (look_at ! 0 refl) $ free_all ! refl $
    suffices ! _ (ends_at 𝓛 f.ended stayed c x vunit tt (tt, tt) (tt, tt)) $
    feq_i ! _ (vunit ∷ []) _ refl $ nothing ! $ nothing ! $ join ! $ nothing ! $ group ! 3 $ done !))))))))
