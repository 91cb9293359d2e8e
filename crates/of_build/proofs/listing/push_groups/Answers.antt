use Rattle.std.proofs.Common.{◌≡◌, ◌+◌, ℕ, eqb, length, get_or, refl, ap, arith}
use Rattle.std.proofs.lemmas.List.{length-map}
use Rattle.of_text.{specs.Groups.groups_at, specs.Views.view_group, specs.Views.view_groups, proofs.SoundLemmas.fit_next, proofs.WriteLemmas.next_group}
use Rattle.of_build.proofs.ListingLemmas.{next_length, adding_start, adding_more}
use Rattle.of_build.proofs.listing.push_groups.Goals as goal

pub loop-group-init : goal.loop-group-init
loop-group-init c = record { place = refl; adding = adding_start _ c.args.xid (view_groups c.args.groups.now) _ c.requires.fit }

pub push_group-requires : goal.push_group-requires
push_group-requires c =
    let l = c.loop-group in
    let next = next_group c.args.groups.now l.group-index c.group-item.result (omega arith) c.group-item.is in
    record {
      fit = (fit_next 0 c.args.groups.now l.group-index c.group-item.result (omega arith) c.group-item.is l.invariant.adding.fit).0;
      few = omega (arith, l.invariant.adding.most, ap length next, c.requires.few, length-map c.args.groups.now view_group);
    }

pub loop-group-preserved : goal.loop-group-preserved
loop-group-preserved c =
    let l = c.loop-group in
    let next = next_group c.args.groups.now l.group-index c.group-item.result (omega arith) c.group-item.is in
    let here : get_or c.args.lengths.now l.place 0 ≡ get_or c.args.lengths.now l.group-index 0 = ap (λ (m : ℕ). get_or c.args.lengths.now m 0) l.invariant.place in
    let long = next_length (groups_at 0 (view_groups c.args.groups.now)) c.args.groups.now c.args.lengths.now l.group-index (get_or c.args.lengths.now l.place 0) 0 c.group-item.result (omega arith) c.group-item.is here c.requires.lengths in
    record {
      place = ap (λ (m : ℕ). m + 1) l.invariant.place;
      adding =
          adding_more _ c.args.xid (view_groups c.args.groups.now) _ _ _ _ _ _ _ (view_group c.group-item.result) (eqb (get_or c.args.lengths.now l.place 0) c.args.wanted) next (ap (λ (n : ℕ). eqb n c.args.wanted) long)
          (fit_next 0 c.args.groups.now l.group-index c.group-item.result (omega arith) c.group-item.is l.invariant.adding.fit).1
          c.in_ok-next.ensures.messages c.in_ok-next.ensures.next l.invariant.adding;
    }
