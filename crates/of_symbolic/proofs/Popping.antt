-- Tags that are popped.
use Rattle.std.proofs.Common.{◌≡◌, ℕ, Bool, false, List, [], ◌∷◌, ◌++◌, Some, None, refl, sym, ap, ◌∙◌}
use Rattle.std.{specs.List.fold, proofs.lemmas.List.Sums.fold-append}
use Rattle.of_actions.specs.declared.action.Action.{Action}
use Rattle.of_actions.specs.declared.action.Action.TheVariants as actions
use Rattle.of_symbolic.specs.{declared.overlay.Overlay.Overlay, declared.overlay.PushedTag.PushedTag, declared.overlay.ReceivedTag.ReceivedTag, Overlays.IsOverlay, Overlays.value_by}
use Rattle.of_symbolic.specs.Tags.{Tags, PopsOwn, no_tags, tags_by}

-- ---- the tag of the frame that came in

-- the same from any tags on
record PopsFrom (told : Bool) (k : Tags) (l : List Action) : Type 0 where
  pub before : List Action
  pub after : List Action
  pub is : l ≡ before ++ actions.PopVlan ∷ after
  pub none : (fold (λ j a. tags_by told a j) k before).pushed ≡ []

later : (told : Bool) (k : Tags) (a : Action) (l : List Action) → PopsFrom told (tags_by told a k) l → PopsFrom told k (a ∷ l)
later told k a l h = record { before = a ∷ h.before; after = h.after; is = ap (λ (x : List Action). a ∷ x) h.is; none = h.none }

pops_from : (told : Bool) (l : List Action) (ps : List PushedTag) (own : ReceivedTag) → (fold (λ j a. tags_by told a j) (record { pushed = ps; own = Some own }) l).own ≡ None → PopsFrom told (record { pushed = ps; own = Some own }) l
pops_from told [] ps own h = absurd cc
pops_from told (actions.PopVlan ∷ l) [] own h = record { before = []; after = l; is = refl; none = refl }
pops_from told (actions.PopVlan ∷ l) (p ∷ ps) own h = later told _ actions.PopVlan l (pops_from told l ps own h)
pops_from told (actions.SetField f n ∷ l) [] own h = later told _ (actions.SetField f n) l (pops_from told l [] _ h)
pops_from told (other ∷ l) ps own h = later told _ other l (pops_from told l _ own h)

pub only_pops : (o : Overlay) (l : List Action) → IsOverlay o l → o.own ≡ None → PopsOwn o.inner l
only_pops o l h none =
    let from : PopsFrom o.inner no_tags l = pops_from o.inner l [] (record { vid = None; pcp = None; inner = false }) (sym (ap (λ (k : Tags). k.own) h.tags) ∙ none) in
    record { before = from.before; after = from.after; is = from.is; none = from.none }

-- ---- a tag that was pushed

pub popped_back : (o : Overlay) (l : List Action) (type : ℕ) → IsOverlay o l → IsOverlay o (l ++ actions.PushVlan type ∷ actions.PopVlan ∷ [])
popped_back o l type h = record {
  set = λ f. h.set f ∙ sym (fold-append (λ old a. value_by a f old) None l (actions.PushVlan type ∷ actions.PopVlan ∷ []));
  tags = h.tags ∙ sym (fold-append (λ k a. tags_by o.inner a k) no_tags l (actions.PushVlan type ∷ actions.PopVlan ∷ []));
}
