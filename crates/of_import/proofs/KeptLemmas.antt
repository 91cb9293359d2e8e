-- What is kept.
use Rattle.std.proofs.Common.{◌≡◌, ℕ, zero, suc, ◌+◌, eqb, not, Bool, true, false, cond, List, [], ◌∷◌, ◌++◌, length, Option, Some, None, refl, sym, ap, subst, append_assoc, ◌∙◌, ◌<◌, vec_len, arith}
use Rattle.std.specs.Prelude.{◌≤◌, map, filter, filter_map, reverse, is_some, slice_index_or}
use Rattle.std.proofs.lemmas.List.{append-nil, length-map, map-append, reverse-append, reverse-reverse}
use Rattle.std.{specs.List.AllByRecursion, specs.List.fold, specs.List.list_any, specs.Option.option_map, specs.Option.option_map_or, specs.Global.Vec, proofs.lemmas.Bool.eq-eqb}
use Rattle.of_wire.specs.{declared.code.Code.Code, Refusals.first_of}
use Rattle.of_action_set.proofs.Ranked.{length-filter_le, rising-filter}
use Rattle.of_groups.specs.declared.group.Group.{Group}
use Rattle.of_text.specs.{declared.group.GroupText.GroupText, First.first_refusal, First.refused_from, First.refused_group, First.refusals_behind, Flows.Flow, Groups.TextGroup}
use Rattle.of_text.specs.{Refusals.all_there, Refusals.group_refusals, Refusals.naming_refusals, Views.view, Views.view_group, Views.view_groups}
use Rattle.of_text.proofs.ConfigLemmas.{groups_stand}
use Rattle.of_import.specs.Kept.{KeptGroups, accepted, after_refusal, groups_in, id_at, kept_groups, group_line_at, refusal_alone, refused_flows, replaces, with_older, without_group, youngest}
use Rattle.of_import.specs.ParsedLinesViews.{AreSoundGroups, FlowIsSound, GroupFits, id_of, view_flow_line, view_group_line}
use Rattle.of_import.specs.{declared.parsed_lines.FlowLine.FlowLine, declared.parsed_lines.GroupLine.GroupLine, declared.kept.LineRefusal.LineRefusal, KeptViews.view_refusal, ParsedLines.FlowAt}
use Rattle.of_import.proofs.ParsedLinesLemmas.{all_filtered, all_more, any_mapped, filter_mapped}
use Rattle.of_ovs_lines.proofs.SoundLemmas.{all_back, all_front}

-- the groups of lines
pub group_texts : (gs : List GroupLine) → map (λ g. view_group g.group) gs ≡ groups_in (map view_group_line gs)
group_texts [] = refl
group_texts (g ∷ gs) = ap (λ xs. view_group g.group ∷ xs) (group_texts gs)

-- copies of them
pub copied : (slice copies : List GroupText) (gs : List GroupLine) → slice ≡ copies → map view_group copies ≡ map (λ g. view_group g.group) gs → view_groups slice ≡ groups_in (map view_group_line gs)
copied slice copies gs s e = ap view_groups s ∙ (e ∙ group_texts gs)

-- if none is refused, no step leaves any out
pub none_left : (n : ℕ) (k : KeptGroups) → first_refusal (groups_in k.groups) [] ≡ None → kept_groups n k ≡ k
none_left zero k e = refl
none_left (suc n) k e = ap (λ r. kept_groups n (after_refusal r k)) e ∙ none_left n k e

-- ---- after as many steps as there are groups, none is refused

refused_within : (there : List Group) (place : ℕ) (gs : List TextGroup) (r : ℕ × Code) → refused_group there place gs ≡ Some r → r.0 < place + length gs
refused_within there place [] r e = absurd cc
refused_within there place (g ∷ gs) r e = by_code (refused_within there (place + 1) gs r) (first_of (group_refusals place g ++ naming_refusals there g)) e
  where
    by_code : (refused_group there (place + 1) gs ≡ Some r → r.0 < place + 1 + length gs) → (o : Option Code) → option_map_or (λ code. Some (place, code)) o (refused_group there (place + 1) gs) ≡ Some r → r.0 < place + suc (length gs)
    by_code others None e = omega (arith, others e)
    by_code others (Some code) e = let same : (place, code) ≡ r = cc in let here : place ≡ r.0 = ap (λ (p : ℕ × Code). p.0) same in omega (arith, here)

-- the place of the first refusal is that of a group
place_within : (gs : List (ℕ × TextGroup)) (r : ℕ × Code) → first_refusal (groups_in gs) [] ≡ Some r → r.0 < length gs
place_within gs r e = omega (arith, refused_within (all_there (groups_in gs)) 0 (groups_in gs) r (of_group (refused_group (all_there (groups_in gs)) 0 (groups_in gs)) e), length-map gs (λ (g : ℕ × TextGroup). g.1))
  where
    of_group : (o : Option (ℕ × Code)) → option_map_or Some o None ≡ Some r → o ≡ Some r
    of_group None h = absurd cc
    of_group (Some x) h = h

fewer : (id place : ℕ) (gs : List (ℕ × TextGroup)) → place < length gs → id_at place gs ≡ id → length (without_group id gs) < length gs
fewer id place [] l e = absurd (omega (arith, l))
fewer id zero (g ∷ gs) l e = let here : eqb g.1.head.id id ≡ true = eq-eqb g.1.head.id id e in let most : length (without_group id gs) ≤ length gs = length-filter_le (λ h. not (eqb h.1.head.id id)) gs in rw here (omega (arith, most))
fewer id (suc place) (g ∷ gs) l e = by_test (fewer id place gs (omega (arith, l)) e) (not (eqb g.1.head.id id))
  where
    by_test : length (without_group id gs) < length gs → (b : Bool) → length (cond b (g ∷ without_group id gs) (without_group id gs)) < suc (length gs)
    by_test others true = omega (arith, others)
    by_test others false = omega (arith, others)

left_stand : (n : ℕ) (k : KeptGroups) → length k.groups ≤ n → first_refusal (groups_in (kept_groups n k).groups) [] ≡ None
left_stand zero k h = by_groups k.groups h
  where
    by_groups : (gs : List (ℕ × TextGroup)) → length gs ≤ 0 → first_refusal (groups_in gs) [] ≡ None
    by_groups [] h = refl
    by_groups (g ∷ gs) h = absurd (omega (arith, h))
left_stand (suc n) k h = by_refusal (left_stand n) (first_refusal (groups_in k.groups) []) refl
  where
    by_refusal : ((m : KeptGroups) → length m.groups ≤ n → first_refusal (groups_in (kept_groups n m).groups) [] ≡ None) → (o : Option (ℕ × Code)) → first_refusal (groups_in k.groups) [] ≡ o → first_refusal (groups_in (kept_groups n (after_refusal o k)).groups) [] ≡ None
    by_refusal others None e = ap (λ (m : KeptGroups). first_refusal (groups_in m.groups) []) (none_left n k e) ∙ e
    by_refusal others (Some r) e = others (after_refusal (Some r) k) (omega (arith, h, fewer (id_at r.0 k.groups) r.0 k.groups (place_within k.groups r e) refl))

pub kept_stand : (gs : List GroupLine) (rs : List (ℕ × Code)) (now : KeptGroups) → now ≡ kept_groups (length gs) (record { groups = map view_group_line gs; refused = rs }) → first_refusal (groups_in now.groups) [] ≡ None
kept_stand gs rs now e = ap (λ (k : KeptGroups). first_refusal (groups_in k.groups) []) e ∙ left_stand (length gs) (record { groups = map view_group_line gs; refused = rs }) (omega (arith, length-map gs view_group_line))

-- ---- a flow beside groups of which none is refused

pub alone : (gs : List TextGroup) (f : Flow) → first_refusal gs [] ≡ None → refusal_alone gs f ≡ first_of (refusals_behind gs [] f)
unfolding refusal_alone
alone gs f h = ap (λ (o : Option (ℕ × Code)). option_map (λ r. r.1) (option_map_or Some o (refused_from gs [] (f ∷ [])))) (groups_stand gs [] h) ∙ by_code (first_of (refusals_behind gs [] f))
  where
    by_code : (o : Option Code) → option_map (λ (r : ℕ × Code). r.1) (option_map_or (λ code. Some (length gs + 0, code)) o None) ≡ o
    by_code None = refl
    by_code (Some code) = refl

filter_both : {X : Type 0} (q : X → Bool) (xs ys : List X) → filter q (xs ++ ys) ≡ filter q xs ++ filter q ys
filter_both q [] ys = refl
filter_both q (x ∷ xs) ys = by_test (filter_both q xs ys) (q x) refl
  where
    by_test : filter q (xs ++ ys) ≡ filter q xs ++ filter q ys → (b : Bool) → q x ≡ b → cond (q x) (x ∷ filter q (xs ++ ys)) (filter q (xs ++ ys)) ≡ cond (q x) (x ∷ filter q xs) (filter q xs) ++ filter q ys
    by_test others true e = rw e (ap (λ zs. x ∷ zs) others)
    by_test others false e = rw e others

pub accepted_both : (gs : List TextGroup) (xs ys : List FlowAt) → accepted gs (xs ++ ys) ≡ accepted gs xs ++ accepted gs ys
accepted_both gs xs ys = filter_both _ xs ys

found_both : {X Y : Type 0} (p : X → Option Y) (xs ys : List X) → filter_map p (xs ++ ys) ≡ filter_map p xs ++ filter_map p ys
found_both p [] ys = refl
found_both p (x ∷ xs) ys = by_value (found_both p xs ys) (p x) refl
  where
    by_value : filter_map p (xs ++ ys) ≡ filter_map p xs ++ filter_map p ys → (o : Option _) → p x ≡ o → filter_map p (x ∷ (xs ++ ys)) ≡ filter_map p (x ∷ xs) ++ filter_map p ys
    by_value others None e = rw e others
    by_value others (Some y) e = rw e (ap (λ zs. y ∷ zs) others)

pub refused_both : (gs : List TextGroup) (xs ys : List FlowAt) → refused_flows gs (xs ++ ys) ≡ refused_flows gs xs ++ refused_flows gs ys
refused_both gs xs ys = found_both _ xs ys

pub counted_mapped : {X Y : Type 0} (v : X → Y) (q : Y → Bool) (xs : List X) → length (filter q (map v xs)) ≡ length (filter (λ x. q (v x)) xs)
counted_mapped v q [] = refl
counted_mapped v q (x ∷ xs) = by_test (counted_mapped v q xs) (q (v x)) refl
  where
    by_test : length (filter q (map v xs)) ≡ length (filter (λ x. q (v x)) xs) → (b : Bool) → q (v x) ≡ b → length (cond (q (v x)) (v x ∷ filter q (map v xs)) (filter q (map v xs))) ≡ length (cond (q (v x)) (x ∷ filter (λ x. q (v x)) xs) (filter (λ x. q (v x)) xs))
    by_test others true e = rw e (ap suc others)
    by_test others false e = rw e others

-- ---- a group that is left out

pub left_out : (id : ℕ) (gs : List GroupLine) → map view_group_line (filter (λ g. not (eqb (id_of g) id)) gs) ≡ without_group id (map view_group_line gs)
left_out id gs = filter_mapped view_group_line (λ h. not (eqb h.1.head.id id)) gs

pub still_sound : (id : ℕ) (gs : List GroupLine) → AreSoundGroups gs → AreSoundGroups (filter (λ g. not (eqb (id_of g) id)) gs)
still_sound id gs h = record { rising = rising-filter id_of (λ (g : GroupLine). not (eqb (id_of g) id)) gs h.rising; each = all_filtered GroupFits (λ (g : GroupLine). not (eqb (id_of g) id)) gs h.each }

abbrev kept_from : List (ℕ × TextGroup) → List (ℕ × Code) → KeptGroups
kept_from gs rs = record { groups = gs; refused = rs }

made : (g h : List (ℕ × TextGroup)) (r s : List (ℕ × Code)) → g ≡ h → r ≡ s → kept_from g r ≡ kept_from h s
made g h r s p q = rw (p, q) refl

lines_are : (gs : List GroupLine) → map (λ g. g.line) gs ≡ map (λ g. g.0) (map view_group_line gs)
lines_are [] = refl
lines_are (g ∷ gs) = ap (λ (xs : List ℕ). g.line ∷ xs) (lines_are gs)

ids_are : (gs : List GroupLine) → map (λ g. g.group.head.id) gs ≡ map (λ g. g.1.head.id) (map view_group_line gs)
ids_are [] = refl
ids_are (g ∷ gs) = ap (λ (xs : List ℕ). g.group.head.id ∷ xs) (ids_are gs)

pub after_some : (o : Option (ℕ × Code)) (place line id : ℕ) (code : Code) (gs kept : List GroupLine) (rs all : List LineRefusal) → Some (place, code) ≡ o → line ≡ slice_index_or (map (λ g. g.line) gs) place 0 → id ≡ slice_index_or (map (λ g. g.group.head.id) gs) place 0 → kept ≡ filter (λ g. not (eqb (id_of g) id)) gs → all ≡ rs ++ record { line = line; code = code } ∷ [] → kept_from (map view_group_line kept) (map view_refusal all) ≡ after_refusal o (kept_from (map view_group_line gs) (map view_refusal rs))
after_some o place line id code gs kept rs all e l i k a =
    let l2 : line ≡ group_line_at place (map view_group_line gs) = l ∙ ap (λ (xs : List ℕ). slice_index_or xs place 0) (lines_are gs) in
    let i2 : id ≡ id_at place (map view_group_line gs) = i ∙ ap (λ (xs : List ℕ). slice_index_or xs place 0) (ids_are gs) in
    let groups : map view_group_line kept ≡ without_group (id_at place (map view_group_line gs)) (map view_group_line gs) = ap (map view_group_line) k ∙ (left_out id gs ∙ ap (λ (n : ℕ). without_group n (map view_group_line gs)) i2) in
    let refused : map view_refusal all ≡ map view_refusal rs ++ (group_line_at place (map view_group_line gs), code) ∷ [] = ap (map view_refusal) a ∙ (map-append view_refusal rs (record { line = line; code = code } ∷ []) ∙ ap (λ (n : ℕ). map view_refusal rs ++ (n, code) ∷ []) l2) in
    made _ _ _ _ groups refused ∙ ap (λ (r : Option (ℕ × Code)). after_refusal r (kept_from (map view_group_line gs) (map view_refusal rs))) e

-- no group is refused
pub not_some : {A : Type 0} (o : Option A) (b : Bool) → b ≡ is_some o → b ≡ false → o ≡ None
not_some None b e h = refl
not_some (Some x) b e h = absurd cc

pub all_kept : (n m : ℕ) (o : Option (ℕ × Code)) (first old new : KeptGroups) → o ≡ first_refusal (groups_in old.groups) [] → o ≡ None → new ≡ after_refusal o old → kept_groups m first ≡ kept_groups n old → new ≡ kept_groups m first
all_kept n m o first old new f e a i = a ∙ (ap (λ (r : Option (ℕ × Code)). after_refusal r old) e ∙ sym (i ∙ none_left n old (sym f ∙ e)))

pub refusals_same : (a b : List TextGroup) (f g : List Flow) → a ≡ b → f ≡ g → first_refusal a f ≡ first_refusal b g
refusals_same a b f g p q = rw (p, q) refl

-- ---- flows, from the first on

pub all_reversed : {X : Type 0} (P : X → Type 0) (xs : List X) → AllByRecursion P xs → AllByRecursion P (reverse xs)
all_reversed P [] h = tt
all_reversed P (x ∷ xs) h = rw (reverse-append (x ∷ []) xs) (all_more P (reverse xs) x (all_reversed P xs h.1) h.0)

next_left : (left : List FlowLine) (x : FlowLine) → map view_flow_line (reverse (left ++ x ∷ [])) ≡ view_flow_line x ∷ map view_flow_line (reverse left)
next_left left x = ap (map view_flow_line) (reverse-append left (x ∷ []))

pub record Sifting (gs : List TextGroup) (all : List FlowAt) (was : List (ℕ × Code)) (left kept : List FlowLine) (now : List (ℕ × Code)) : Type 0 where
  pub accepted : map view_flow_line kept ++ accepted gs (map view_flow_line (reverse left)) ≡ accepted gs all
  pub refused : now ++ refused_flows gs (map view_flow_line (reverse left)) ≡ was ++ refused_flows gs all
  pub to_come : AllByRecursion FlowIsSound left
  pub sound : AllByRecursion FlowIsSound kept

pub sifting_start : (gs : List TextGroup) (flows left kept : List FlowLine) (was : List (ℕ × Code)) → left ≡ reverse flows → kept ≡ [] → AllByRecursion FlowIsSound flows → Sifting gs (map view_flow_line flows) was left kept was
sifting_start gs flows left kept was l k h =
    let back : reverse left ≡ flows = ap reverse l ∙ reverse-reverse flows in
    record {
      accepted = rw (k, back) refl;
      refused = rw back refl;
      to_come = rw l (all_reversed FlowIsSound flows h);
      sound = rw k tt;
    }

pub sifting_more : (gs : List TextGroup) (all : List FlowAt) (was : List (ℕ × Code)) (old left kept more : List FlowLine) (now next : List (ℕ × Code)) (x : FlowLine) → Sifting gs all was old kept now → old ≡ left ++ x ∷ [] → map view_flow_line more ≡ map view_flow_line kept ++ accepted gs (view_flow_line x ∷ []) → next ≡ now ++ refused_flows gs (view_flow_line x ∷ []) → AllByRecursion FlowIsSound more → Sifting gs all was left more next
sifting_more gs all was old left kept more now next x s e a r m =
    let come : map view_flow_line (reverse old) ≡ (view_flow_line x ∷ []) ++ map view_flow_line (reverse left) = ap (λ (fs : List FlowLine). map view_flow_line (reverse fs)) e ∙ next_left left x in
    let there : AllByRecursion FlowIsSound (left ++ x ∷ []) = subst (AllByRecursion FlowIsSound) e s.to_come in
    record {
      accepted = rw a (append_assoc (map view_flow_line kept) (accepted gs (view_flow_line x ∷ [])) (accepted gs (map view_flow_line (reverse left))) ∙ (ap (λ (fs : List FlowAt). map view_flow_line kept ++ fs) (sym (ap (accepted gs) come ∙ accepted_both gs (view_flow_line x ∷ []) (map view_flow_line (reverse left)))) ∙ s.accepted));
      refused = rw r (append_assoc now (refused_flows gs (view_flow_line x ∷ [])) (refused_flows gs (map view_flow_line (reverse left))) ∙ (ap (λ (cs : List (ℕ × Code)). now ++ cs) (sym (ap (refused_flows gs) come ∙ refused_both gs (view_flow_line x ∷ []) (map view_flow_line (reverse left)))) ∙ s.refused));
      to_come = all_front FlowIsSound left (x ∷ []) there;
      sound = m;
    }

pub sifting_next : (old left : List FlowLine) (x : FlowLine) → AllByRecursion FlowIsSound old → old ≡ left ++ x ∷ [] → FlowIsSound x
sifting_next old left x h e = (all_back FlowIsSound left (x ∷ []) (subst (AllByRecursion FlowIsSound) e h)).0

pub sifting_done : (gs : List TextGroup) (all : List FlowAt) (was : List (ℕ × Code)) (left kept : List FlowLine) (now : List (ℕ × Code)) → Sifting gs all was left kept now → left ≡ [] → (map view_flow_line kept ≡ accepted gs all) × (now ≡ was ++ refused_flows gs all)
sifting_done gs all was left kept now s e = (
  sym (append-nil (map view_flow_line kept)) ∙ (ap (λ (fs : List FlowLine). map view_flow_line kept ++ accepted gs (map view_flow_line (reverse fs))) (sym e) ∙ s.accepted),
  sym (append-nil now) ∙ (ap (λ (fs : List FlowLine). now ++ refused_flows gs (map view_flow_line (reverse fs))) (sym e) ∙ s.refused),
)

-- ---- flows, from the last one back

pub map_reverse : {X Y : Type 0} (f : X → Y) (xs : List X) → map f (reverse xs) ≡ reverse (map f xs)
map_reverse f [] = refl
map_reverse f (x ∷ xs) = ap (map f) (reverse-append (x ∷ []) xs) ∙ (map-append f (reverse xs) (x ∷ []) ∙ (ap (λ ys. ys ++ f x ∷ []) (map_reverse f xs) ∙ sym (reverse-append (f x ∷ []) (map f xs))))

pub record Older (all : List FlowAt) (left later : List FlowLine) : Type 0 where
  pub folded : fold with_older (map view_flow_line later) (map view_flow_line (reverse left)) ≡ fold with_older [] (reverse all)
  pub to_come : AllByRecursion FlowIsSound left
  pub sound : AllByRecursion FlowIsSound later

pub older_start : (flows left later : List FlowLine) → left ≡ flows → later ≡ [] → AllByRecursion FlowIsSound flows → Older (map view_flow_line flows) left later
older_start flows left later l k h = record {
  folded = rw (k, l) (ap (fold with_older []) (map_reverse view_flow_line flows));
  to_come = rw l h;
  sound = rw k tt;
}

pub older_more : (all : List FlowAt) (old left later more : List FlowLine) (x : FlowLine) → Older all old later → old ≡ left ++ x ∷ [] → map view_flow_line more ≡ with_older (map view_flow_line later) (view_flow_line x) → AllByRecursion FlowIsSound more → Older all left more
older_more all old left later more x s e a m =
    let come : map view_flow_line (reverse old) ≡ view_flow_line x ∷ map view_flow_line (reverse left) = ap (λ (fs : List FlowLine). map view_flow_line (reverse fs)) e ∙ next_left left x in
    record {
      folded = rw a (ap (fold with_older (map view_flow_line later)) (sym come) ∙ s.folded);
      to_come = all_front FlowIsSound left (x ∷ []) (subst (AllByRecursion FlowIsSound) e s.to_come);
      sound = m;
    }

pub older_done : (all : List FlowAt) (left later kept : List FlowLine) → Older all left later → left ≡ [] → kept ≡ reverse later → map view_flow_line kept ≡ youngest all
unfolding youngest
older_done all left later kept s e k = ap (map view_flow_line) k ∙ (map_reverse view_flow_line later ∙ ap reverse (ap (λ (fs : List FlowLine). fold with_older (map view_flow_line later) (map view_flow_line (reverse fs))) (sym e) ∙ s.folded))

pub no_more : (v : Vec FlowLine) → (0 < vec_len v → ⊥) → v.items ≡ []
no_more v h = by_items v.items (λ p. h (omega (arith, p, v.ok)))
  where
    by_items : (xs : List FlowLine) → (0 < length xs → ⊥) → xs ≡ []
    by_items [] h = refl
    by_items (x ∷ xs) h = absurd (h (omega arith))

-- a flow before those after it
pub older_kept : (later : List FlowLine) (x : FlowLine) → list_any (λ g. replaces (view g.flow) (view x.flow)) later ≡ true → map view_flow_line later ≡ with_older (map view_flow_line later) (view_flow_line x)
older_kept later x h = let any : list_any (λ g. replaces g.flow (view x.flow)) (map view_flow_line later) ≡ true = any_mapped view_flow_line (λ g. replaces g.flow (view x.flow)) later ∙ h in sym (rw any refl)

pub older_put : (later more : List FlowLine) (x : FlowLine) → list_any (λ g. replaces (view g.flow) (view x.flow)) later ≡ false → more ≡ later ++ x ∷ [] → map view_flow_line more ≡ with_older (map view_flow_line later) (view_flow_line x)
older_put later more x h e = let any : list_any (λ g. replaces g.flow (view x.flow)) (map view_flow_line later) ≡ false = any_mapped view_flow_line (λ g. replaces g.flow (view x.flow)) later ∙ h in ap (map view_flow_line) e ∙ (map-append view_flow_line later (x ∷ []) ∙ sym (rw any refl))

pub texts_of_lines : (gs : List GroupLine) → map view_group (map (λ g. g.group) gs) ≡ map (λ g. view_group g.group) gs
texts_of_lines [] = refl
texts_of_lines (g ∷ gs) = ap (λ xs. view_group g.group ∷ xs) (texts_of_lines gs)
