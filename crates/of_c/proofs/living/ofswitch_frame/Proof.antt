-- `ofswitch_frame` meets its contract: a walk of its MIR by hand. The switch is lent for a lifetime that is made for the call of `frame_in`, and comes back once that is ended.
use Rattle.of_c.proofs.Walking.{ℕ, List, [], ◌∷◌, ◌++◌, refl, ap, MutBor, proved, full_share, id⊢, sep, ftrue, flft, flent, named, Val, vunit, vptr, sem, fact, tables, ‵, raw, ◌⊛◌, some, later, prop, at_ret, ◌$◌, ◌∵◌, !, qed, done, move, drop, use1, use2, use3, split, join, fsplit, fjoin, feq_i, feq_l, pick, await, regoal, suffices, frame, group, show, enter, of_opd, unit_lit, addr, from, hop, stop, fld, no_more, and_then, first, blocks, exec, returns, alloc_all, pass_all, free_all, look_at, look_in_at, get, get_in, through, sets, sets_last, lands_as, env, whole, sub, agg, lft_new, lft_end, Body, WpFn, u8, unit, SliceRefOf, yes, lends_ref, ref_back, mem, Ptr, RawPtr, block_ptr, lies_at, in_a_block, rawptr_vals, rawptr_Tells, MutRef, mut_vals, mut_Tells, MutSlice, ShrSlice, shr_slice_vals, shr_slice_Tells, mut_slice_vals, mut_slice_Tells, plain, nothing, heard, only, calls_at, lasts, triple_of, framed, Stays, walk_of, says, stay_dropped, gave_ref, gave_slice, Goes-dropped, Goes-gave_ref, Goes-gave_slice, ends_at, u32, w32, uint_vals, uint_Tells}
use Rattle.of_c.{specs.Answers.Gives, specs.Living.IsLiveStep, specs.contracts.live.Live.the_row as L, specs.contracts.answer.Answer.the_row as A, proofs.living.ofswitch_frame.Statement.statement}
use Rattle.of_c.proofs.live.frame_in.Met.{met}
use Rattle.std.specs.Prelude.{Some}
use Rattle.of_switch.specs.declared.event.Event.TheVariants.{Frame}
use Rattle.of_c.specs.contracts.living.ofswitch_frame as f
use Rattle.of_c.proofs.living.ofswitch_frame.Code as code
use Rattle.of_c.specs.contracts.live.frame_in as g

abbrev stayed : Stays f.ended.signature.params f.ended.kept
stayed = (stay_dropped _ yes, (stay_dropped _ yes, (stay_dropped _ yes, (gave_slice (1 ∷ []) tt (plain (λ _. u8)), (gave_ref (2 ∷ []) tt (plain (λ _. A)), tt)))))

pub ofswitch_frame_spec : {M : Type 1} → statement M
ofswitch_frame_spec 𝓤 𝓛 𝓜 𝓡 wired =
    let c = f.clauses 𝓛 𝓜.mem 𝓡.returns in let W = walk_of 𝓛 f.ended stayed c in let 𝓣 = tables 𝓤 𝓛.H 𝓜 𝓡 𝓡.env in
    proved 𝓛 f.ended stayed c 𝓜 𝓡
    (Goes-dropped 𝓛 3 (plain (λ _. RawPtr)) yes (λ κs x w. refl), (Goes-dropped 𝓛 3 (plain (λ _. u32)) yes (λ κs x w. refl), (Goes-dropped 𝓛 3 (SliceRefOf (0 ∷ []) tt (plain (λ _. u8)) (λ _. tt)) yes (λ κs x w. refl), (Goes-gave_slice 𝓛 3 1 tt (plain (λ _. u8)), (Goes-gave_ref 𝓛 3 2 tt (plain (λ _. A)), tt)))))
    f.Key.name code.function (code.unfolded 𝓤 𝓛.H 𝓜 𝓡 wired)
    (λ κs. (rawptr_vals, (uint_vals w32, (shr_slice_vals, (mut_slice_vals, (mut_vals, tt))))))
    (λ κs. (rawptr_Tells, (uint_Tells w32, (shr_slice_Tells (named 0) κs.0 u8, (mut_slice_Tells (named 1) κs.1.0 u8, (mut_Tells (named 2) κs.1.1.0 A, tt)))))) (λ κs qs bounds a live are.
    let port = a.1.0 in let frame' = a.1.1.0 in let text = a.1.1.1.0 in let answer = a.1.1.1.1.0 in
    let vs : List Val × (List Val × (List Val × (List Val × Unit {0}))) = (uint_vals w32 port, (shr_slice_vals frame', (mut_slice_vals text, (mut_vals answer, tt)))) in
    let y : Ptr → W.Ghost = λ p. ((κs, qs, bounds, (p, a.1), (rawptr_vals p, vs)), live) in
    let ts = ‵ (flft κs.0 qs.0) ⊛ (‵ (flft κs.1.0 qs.1.0) ⊛ (‵ (flft κs.1.1.0 qs.1.1.0) ⊛ ‵ ftrue)) in
    let more = ‵ (u32.own_val port vs.0) ⊛ (‵ ((ShrSlice (named 0) κs.0 u8).own_val frame' vs.1.0) ⊛ (‵ ((MutSlice (named 1) κs.1.0 u8).own_val text vs.1.1.0) ⊛ (‵ ((MutRef (named 2) κs.1.1.0 A).own_val answer vs.1.1.1.0) ⊛ ‵ ftrue))) in
    qed 𝓛 ((ts ⊛ (‵ (RawPtr.own_val a.0 (rawptr_vals a.0)) ⊛ more)) ∷ ‵ (lies_at L full_share a.0 live) ∷ []) ∵
    split ! $ move ! (1 ∷ []) $ split ! $ drop ! $ move ! (2 ∷ []) $
    -- [the switch; the other parameters; their tokens]
    in_a_block ! a.0 (λ p. lies_at L full_share p live) (id⊢ 𝓤 _) (λ b o e.
    let x = y (block_ptr b o) in let Post = W.post x in
    regoal ! (λ p. prop (WpFn 𝓤 𝓛.H 𝓣.C 𝓣.Λ code.function (rawptr_vals p ++ (vs.0 ++ (vs.1.0 ++ (vs.1.1.0 ++ (vs.1.1.1.0 ++ []))))) (W.post (y p)))) e refl $
    enter ! _ _ _ _ _ $ alloc_all ! (λ l. pass_all ! refl ((tt, tt), ((tt, record { fits = are.1.0.1 }), ((tt, (tt, (record { fits = are.1.1.0.0.1.0 }, tt))), ((tt, (tt, (record { fits = are.1.1.1.0.0.1.0 }, tt))), ((tt, tt), tt))))) $
    -- let live = unsafe { &mut *(at as *mut Live) };
    first ! $ blocks ! $ sets ! (of_opd ! (get ! refl)) refl (tt, tt) $ sets_last ! (addr ! (through ! refl (stop !))) refl (tt, tt) $
    exec ! 𝓣.C 𝓣.Λ (env code.Mir.locals l) code.Mir.t-2 (at_ret _ Post) $
    sets ! (of_opd ! (get ! refl)) refl (tt, tt) $
    -- the arguments: the references once more
    sets ! (addr ! (through ! refl (stop !))) refl (tt, tt) $
    sets ! (addr ! (from ! (fld ! refl (hop ! (look_in_at ! 4 (sub ! 0 refl (whole !))) (stop !))))) refl (tt, tt) $
    sets ! (agg ! (and_then ! (get ! refl) (and_then ! (get_in ! (fld ! refl (stop !)) (sub ! 1 refl (whole !))) (no_more !)))) refl (tt, (tt, (record { fits = are.1.1.1.0.0.1.0 }, tt))) $
    sets ! (addr ! (through ! refl (stop !))) refl (tt, tt) $
    -- the switch is lent
    lft_new ! tt (λ α. let κ = α ∷ [] in move ! (1 ∷ []) $
    use1 𝓛 (later (some (λ (γ : ℕ). ‵ ((MutRef (named 0) κ L).own_val (record { ref_ptr = (b, o); ghost_name = γ; now = live }) (vptr b o ∷ [])) ⊛ ‵ (flent κ (Body (mem L) b o γ)))))
    (lends_ref 𝓛 L (named 0) κ live b o) $ await ! tt $ pick ! (λ γ. split ! $
    -- [the loan; what the lender keeps; the token of the loan; the other parameters; their tokens]
    let loan : MutBor L.Denot = record { ref_ptr = (b, o); ghost_name = γ; now = live } in
    let G = triple_of 𝓛 g.signature (g.spec 𝓛 𝓜.mem 𝓡.returns) in
    let z : G.Ghost = (((κ, κs), (full_share, qs), bounds, (loan, a.1), (vptr b o ∷ [], vs)), tt) in
    move ! (0 ∷ 3 ∷ []) $ join ! $ move ! (2 ∷ 3 ∷ []) $ join ! $ join ! $ nothing ! $ move ! (1 ∷ 0 ∷ []) $ use2 𝓛 (raw (G.pre z)) (id⊢ 𝓤 _) $
    calls_at ! (framed 𝓤 𝓛.H 𝓜 (tables 𝓤 𝓛.H 𝓜 𝓡 𝓡.env)) G (met 𝓤 𝓛 𝓜 𝓡 (code.calls-of_c::live::frame_in 𝓡.env wired)) z
    (and_then ! (get ! refl) (and_then ! (get ! refl) (and_then ! (get ! refl) (and_then ! (get ! refl) (and_then ! (get ! refl) (no_more !)))))) (λ v.
    use1 𝓛 (later (some (λ (r : Unit {0}). ((‵ (flft κ full_share) ⊛ ts) ⊛ ‵ (unit.own_val r (v ∷ []))) ⊛
    some (λ (ws : L.Denot × (Unit {0} × (Unit {0} × (List ℕ × (A.Denot × Unit {0}))))). ‵ (lasts g.ended z.0.0 z.0.3 ws) ⊛ raw (fact 𝓤 (Gives (IsLiveStep (Some (Frame port frame'.now)) live ws.0) ws.1.1.1.1.0 text.now ws.1.1.1.0)))))) (id⊢ 𝓤 _) $
    await ! tt $ pick ! (λ r. split ! $ split ! $ split ! $ lft_end ! tt $ move ! (2 ∷ []) $ feq_l ! (λ is_unit. lands_as ! (ap only is_unit) refl (tt, tt) $
    move ! (2 ∷ []) $ pick ! (λ ws. split ! $ move ! (1 ∷ []) $ heard ! _ (λ so. fsplit ! $ fsplit ! $
    -- [the loan's last value; its borrow; the other last values; the loan is over; the tokens; what the lender keeps]
    move ! (3 ∷ 5 ∷ 0 ∷ []) $ use3 𝓛 (later (‵ (lies_at L full_share (block_ptr b o) ws.0))) (ref_back 𝓛 L κ γ ws.0 b o) $ await ! tt $
    move ! (1 ∷ []) $ drop ! $ move ! (1 ∷ []) $ fsplit ! $ drop ! $ fsplit ! $ drop ! $
    fsplit ! $ fsplit ! $ fsplit ! $ move ! (1 ∷ []) $ feq_l ! (λ same. fjoin ! $ move ! (1 ∷ []) $ fsplit ! $
    -- [what is left of the answer; nothing; of the text; the switch; the tokens]
    sets ! (of_opd ! (unit_lit !)) refl (tt, tt) $ returns ! (look_at ! 0 refl) $ free_all ! refl $
    suffices ! _ (ends_at 𝓛 f.ended stayed c x vunit tt (tt, (tt, (tt, (ws.1.1.1.0, (ws.1.1.1.1.0, tt))))) (tt, (tt, (tt, (same, (tt, tt)))))) $
    join ! $ move ! (1 ∷ []) $ join ! $ nothing ! $ join ! $ nothing ! $ join ! $ nothing ! $ join ! $
    feq_i ! _ (vunit ∷ []) _ refl $ move ! (3 ∷ 1 ∷ 0 ∷ []) $ group ! 3 $ frame ! $
    show ! (λ (after : L.Denot). sep 𝓤 (sem 𝓛 (lies_at L full_share (block_ptr b o) after)) (fact 𝓤 (Gives (IsLiveStep (Some (Frame port frame'.now)) live after) ws.1.1.1.1.0 text.now ws.1.1.1.0))) ws.0 $ says ! so $ done !)))))))))))
