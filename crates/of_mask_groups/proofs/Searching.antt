-- The walk over the groups: the best so far, and the winner at its end.
use Rattle.std.proofs.Common.{◌≡◌, ℕ, ◌+◌, ◌<◌, ◌≤◌, true, false, Option, Some, None, List, [], length, get_or, take, take_all, refl, sym, ◌∙◌, ap, subst, arith, ⊎_elim}
use Rattle.std.{specs.List.Contains, proofs.lemmas.List.length-take-le, proofs.lemmas.Bool.Decides.nat_tests}
use Rattle.slab.specs.Slab.{Slab, get}
use Rattle.of_layers.specs.declared.field.Field.{Field}
use Rattle.of_headers.specs.{FieldMap.value, FieldMap.seen, declared.key.FieldKey.FieldKey}
use Rattle.of_oxm.{specs.Relations.matches_map, specs.Masks.mask_at, proofs.Seen.matched_exactly}
use Rattle.of_mask_groups.specs.{declared.entry.Entry.Entry, declared.found.Found.Found, declared.group.Group.Group, Cells.key_digest, Cells.cell_at}
use Rattle.of_mask_groups.specs.{Covering.found_of, Covering.IsFound, Covering.IsBestOf, Covering.is_above_best, Grouping.LooksLike, Grouping.AsksFor, Grouping.IsInCell, Grouping.AreGrouped}
use Rattle.of_mask_groups.{specs.Probed.AreProbed, proofs.Members.not_in_nil, proofs.Members.in_take_more, proofs.Members.at_place, proofs.Falling.one_group, proofs.Falling.before_at}

pub none_probed : (entries : Slab Entry) (key : Field → Option ℕ) → AreProbed entries key [] None 0
none_probed entries key = record { sound = λ f e. absurd cc; covers = λ n e g h m c l. absurd (not_in_nil g c); above = λ f g e c. absurd cc; count = refl }

same_entry : (o : Option Entry) (d e : Entry) → o ≡ Some d → o ≡ Some e → d ≡ e
same_entry o d e h k = cc

asks_for_seen : (entries : Slab Entry) (key : Field → Option ℕ) (g : Group) (k : FieldKey) (n : ℕ) (e : Entry) (groups : List Group) → AreGrouped entries groups → ((f : Field) → value k f ≡ seen (mask_at g.mask f) (key f)) → get entries n ≡ Some e → LooksLike g e → matches_map e.fields key ≡ true → AsksFor k e
asks_for_seen entries key g k n e groups fine masked h l m = record {
  values = λ f. masked f ∙ ap (λ (o : Option ℕ). seen o (key f)) (l.bits f) ∙ (matched_exactly e.fields key (fine.normal n e h)).0 m f;
}

not_above : (best : Option Found) (p : ℕ) (f : Found) → is_above_best best p ≡ false → best ≡ Some f → f.priority ≤ p
not_above None p f t e = absurd cc
not_above (Some x) p f t e = let s : x.priority ≡ f.priority = (let y : x ≡ f = cc in ap (λ (z : Found). z.priority) y) in grind (arith, nat_tests)

pub one_more_group : (entries : Slab Entry) (groups : List Group) (key : Field → Option ℕ) (i : ℕ) (g : Group) (best new : Option Found) (probes next : ℕ) (k : FieldKey) →
    AreGrouped entries groups → i < length groups → g ≡ get_or groups i g → is_above_best best g.best ≡ false →
    ((f : Field) → value k f ≡ seen (mask_at g.mask f) (key f)) → IsBestOf entries key best (cell_at g.cells (key_digest g.secret k)) new → next ≡ probes + 1 →
    AreProbed entries key (take i groups) best probes → AreProbed entries key (take (i + 1) groups) new next
one_more_group entries groups key i g best new probes next k fine lt at stays masked is counted old =
    let in_groups : Contains groups g = subst (λ z. Contains groups z) (sym at) (at_place groups i g lt) in
    let group = (fine.each g in_groups).index in
    let priority_of : (f : Found) (c : IsInCell entries g (key_digest g.secret k) f.number) → IsFound entries f → f.priority ≤ g.best
    = λ f c h. (let s : h.entry ≡ c.entry = same_entry (get entries f.number) h.entry c.entry h.stands c.stands in
    let p : f.priority ≡ h.entry.priority = ap (λ (z : Found). z.priority) h.is in
    let q : h.entry.priority ≡ c.entry.priority = ap (λ (z : Entry). z.priority) s in
    omega (arith, group.settled.above c.entry.priority f.number c.ranked)) in
    let within : (f : Found) → new ≡ Some f → f.priority ≤ g.best
    = λ f e. ⊎_elim (λ o. not_above best g.best f stays o) (λ r. priority_of f (group.cells (key_digest g.secret k) f.number r.0) r.1.found) (is.sound f e) in
    record {
      sound = λ f e. ⊎_elim (λ o. old.sound f o) (λ r. r.1) (is.sound f e);
      covers = λ n e h stands m c l. ⊎_elim
          (λ a. is.keeps (found_of n e) (old.covers n e h stands m a l))
          (λ b.
          let lg : LooksLike g e = subst (λ z. LooksLike z e) (sym b ∙ sym at) l in
          let x = fine.complete n e stands in
          let s : x.group ≡ g = one_group groups x.group g e fine.falling x.there in_groups x.within.looks lg in
          is.covers n e (subst (λ (z : Group). Contains (cell_at z.cells (key_digest z.secret k)) n) s (x.within.cell k (asks_for_seen entries key g k n e groups fine masked stands lg m))) stands m)
          (in_take_more h groups i g lt c);
      above = λ f h e c. ⊎_elim
          (λ a. let w = within f e in let b : g.best ≤ h.best = subst (λ (z : Group). z.best ≤ h.best) (sym at) (before_at groups i g h fine.falling lt a) in omega arith)
          (λ b. let w = within f e in let s : g.best ≡ h.best = ap (λ (z : Group). z.best) (at ∙ b) in omega arith)
          (in_take_more h groups i g lt c);
      count = (let m : i + 1 ≤ length groups = omega arith in omega (arith, old.count, length-take-le i groups, length-take-le (i + 1) groups));
    }

-- ---- the end

-- as many groups as were probed are those that were probed
pub first_probes : (groups : List Group) (i probes : ℕ) → i < length groups → probes ≡ length (take i groups) → take i groups ≡ take probes groups
first_probes groups i probes lt count = ap (λ (k : ℕ). take k groups) (sym (count ∙ length-take-le i groups (omega arith)))

pub all_probes : (groups : List Group) (i probes : ℕ) → length groups ≤ i → probes ≡ length (take i groups) → take i groups ≡ take probes groups
all_probes groups i probes le count =
    let all : take i groups ≡ groups = take_all i groups le in
    all ∙ sym (take_all probes groups (omega (arith, count, ap length all)))
