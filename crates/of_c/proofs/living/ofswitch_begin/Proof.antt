-- `ofswitch_begin` meets its contract: a walk of its MIR by hand. A new switch is written into the room.
use Rattle.of_c.proofs.Walking.{[], ◌∷◌, ◌++◌, refl, proved, full_share, id⊢, sep, ftrue, Val, vunit, vstruct, vcons, vnil, sem, fact, tables, ‵, raw, ◌⊛◌, some, later, prop, at_ret, ◌$◌, ◌∵◌, !, qed, done, move, drop, use1, use2, split, join, feq_i, pick, await, regoal, suffices, frame, group, show, enter, of_opd, unit_lit, stop, no_more, and_then, first, blocks, exec, returns, alloc_all, pass_all, free_all, look_at, get, through, sets, lands_as, env, WpFn, u64, w64, yes, Ptr, RawPtr, block_ptr, lies_at, in_a_block, rawptr_vals, rawptr_Tells, uint_vals, uint_Tells, plain, nothing, heard, calls_at, lasts, triple_of, framed, Stays, walk_of, says, stay_dropped, Goes-dropped, ends_at, part_in, room_at, Is, shows, peeks, tells, assigns_last, init}
use Rattle.of_c.{specs.Living.IsNew, specs.contracts.live.Live.the_row as L, proofs.live.Live.TheLaws.the_row_laws, proofs.living.ofswitch_begin.Statement.statement, proofs.live.Live.new.Met.met}
use Rattle.std.specs.contracts.alloc.Global as H
use Rattle.std.proofs.alloc.Global.TheLaws as H'
use Rattle.of_c.specs.contracts.living.ofswitch_begin as f
use Rattle.of_c.proofs.living.ofswitch_begin.Code as code
use Rattle.of_c.specs.contracts.live.Live.new as g

abbrev stayed : Stays f.ended.signature.params f.ended.kept
stayed = (stay_dropped _ yes, (stay_dropped _ yes, (stay_dropped _ yes, tt)))

-- the handle of the heap, which takes no bytes
abbrev heap : Val
heap = vstruct (vcons (vstruct (vcons vunit vnil)) vnil)

pub ofswitch_begin_spec : {M : Type 1} → statement M
ofswitch_begin_spec 𝓤 𝓛 𝓜 𝓡 wired =
    let c = f.clauses 𝓛 𝓜.mem 𝓡.returns in let W = walk_of 𝓛 f.ended stayed c in let 𝓣 = tables 𝓤 𝓛.H 𝓜 𝓡 𝓡.env in
    proved 𝓛 f.ended stayed c 𝓜 𝓡
    (Goes-dropped 𝓛 0 (plain (λ _. H.the_row)) yes (λ κs x w. refl), (Goes-dropped 𝓛 0 (plain (λ _. u64)) yes (λ κs x w. refl), (Goes-dropped 𝓛 0 (plain (λ _. RawPtr)) yes (λ κs x w. refl), tt)))
    f.Key.name code.function (code.unfolded 𝓤 𝓛.H 𝓜 𝓡 wired)
    (λ κs. ((λ _. heap ∷ []), (uint_vals w64, (rawptr_vals, tt)))) (λ κs. (tells H.the_type H'.the_laws, (uint_Tells w64, (rawptr_Tells, tt)))) (λ κs qs bounds a _ are.
    let n = a.1.0 in
    let y : Ptr → W.Ghost = λ p. ((κs, qs, bounds, (a.0, (n, (p, tt))), (heap ∷ [], (uint_vals w64 n, (rawptr_vals p, tt)))), tt) in
    qed 𝓛 ((‵ ftrue ⊛ (‵ (H.the_row.own_val a.0 (heap ∷ [])) ⊛ (‵ (u64.own_val n (uint_vals w64 n)) ⊛ (‵ (RawPtr.own_val a.1.1.0 (rawptr_vals a.1.1.0)) ⊛ ‵ ftrue)))) ∷ ‵ (room_at L a.1.1.0) ∷ []) ∵
    split ! $ drop ! $ split ! $ move ! (1 ∷ []) $ split ! $ move ! (1 ∷ []) $ drop ! $ move ! (2 ∷ []) $
    in_a_block ! a.1.1.0 (λ p. room_at L p) (id⊢ 𝓤 _) (λ b o e.
    let x = y (block_ptr b o) in let Post = W.post x in
    regoal ! (λ p. prop (WpFn 𝓤 𝓛.H 𝓣.C 𝓣.Λ code.function ((heap ∷ []) ++ (uint_vals w64 n ++ (rawptr_vals p ++ []))) (W.post (y p)))) e refl $
    enter ! _ _ _ _ _ $ alloc_all ! (λ l. pass_all ! refl ((tt, ((tt, tt), tt)), ((tt, record { fits = are.1.0.1 }), ((tt, tt), tt))) $
    -- [the room; what the number owns; what the handle of the heap owns]
    let G = triple_of 𝓛 g.signature (g.spec 𝓛 𝓜.mem 𝓡.returns) in
    let z : G.Ghost = ((κs, qs, bounds, (a.0, (n, tt)), (heap ∷ [], (uint_vals w64 n, tt))), tt) in
    move ! (1 ∷ []) $ nothing ! $ move ! (1 ∷ 0 ∷ []) $ join ! $ move ! (2 ∷ 0 ∷ []) $ join ! $ nothing ! $ join ! $ nothing ! $ move ! (1 ∷ 0 ∷ []) $ use2 𝓛 (raw (G.pre z)) (id⊢ 𝓤 _) $
    calls_at ! (framed 𝓤 𝓛.H 𝓜 (tables 𝓤 𝓛.H 𝓜 𝓡 𝓡.env)) G (met 𝓤 𝓛 𝓜 𝓡 (code.calls-of_c::live::Live::new 𝓡.env wired)) z
    (and_then ! (get ! refl) (and_then ! (get ! refl) (no_more !))) (λ v.
    use1 𝓛 (later (some (λ (r : L.Denot). (‵ ftrue ⊛ ‵ (L.own_val r (v ∷ []))) ⊛
    some (λ (ws : Unit {0} × (Unit {0} × Unit {0})). ‵ (lasts g.ended z.0.0 z.0.3 ws) ⊛ raw (fact 𝓤 (IsNew n r)))))) (id⊢ 𝓤 _) $
    await ! tt $ pick ! (λ r. split ! $ split ! $ drop ! $ move ! (1 ∷ []) $ pick ! (λ _. split ! $ drop ! $ heard ! _ (λ so.
    -- [the switch; the room]
    peeks ! L (Is L) (shows 𝓛 L) r (v ∷ []) (λ is. let ok = ((the_row_laws.lawful 𝓛).typed r (v ∷ []) is).0 in
    lands_as ! refl refl ok $ sets ! (of_opd ! (get ! refl)) refl (tt, tt) $
    first ! $ blocks ! $ sets ! (of_opd ! (get ! refl)) refl ok $ assigns_last ! (of_opd ! (get ! refl)) (through ! refl (stop !)) (init ! 1 refl ok) $
    exec ! 𝓣.C 𝓣.Λ (env code.Mir.locals l) code.Mir.t-4 (at_ret _ Post) $
    sets ! (of_opd ! (unit_lit !)) refl (tt, tt) $ returns ! (look_at ! 0 refl) $ free_all ! refl $
    move ! (1 ∷ 0 ∷ []) $ use2 𝓛 (‵ (lies_at L full_share (block_ptr b o) r)) (part_in 𝓛 L refl full_share r b o v) $
    suffices ! _ (ends_at 𝓛 f.ended stayed c x vunit tt (tt, (tt, (tt, tt))) (tt, (tt, (tt, tt)))) $
    feq_i ! _ (vunit ∷ []) _ refl $ nothing ! $ nothing ! $ join ! $ nothing ! $ join ! $ nothing ! $ join ! $ nothing ! $ group ! 3 $ frame ! $
    show ! (λ (live : L.Denot). sep 𝓤 (sem 𝓛 (lies_at L full_share (block_ptr b o) live)) (fact 𝓤 (IsNew n live))) r $ says ! so $ done !))))))))
