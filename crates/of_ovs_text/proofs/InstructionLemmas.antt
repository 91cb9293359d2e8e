-- Actions that an instruction may not have, groups that a GROUP_MOD can say, and the lines of one.
use Rattle.std.proofs.Common.{◌≡◌, Bool, true, false, List, [], ◌∷◌, length, refl, sym, ◌∙◌, ap}
use Rattle.std.{specs.Prelude.map, specs.Prelude.nat_le, specs.Prelude.◌&&◌, specs.List.AllByRecursion, specs.List.list_all, proofs.lemmas.List.length-map}
use Rattle.of_actions.{specs.declared.action.Action.Action, specs.Supported.are_supported, proofs.ActionLists.served_wider}
use Rattle.of_groups.specs.Buckets.{are_fit, is_fit}
use Rattle.of_text.specs.{declared.flow.FlowText.FlowText, declared.group.BucketText.BucketText, declared.group.GroupText.GroupText, Flows.text_rows, Groups.bucket_of, Groups.group_rows, Rows.Fits}
use Rattle.of_text.specs.{Texts.AreRows, Views.view_bucket, Views.view_flows, Views.view_group, Views.view_groups}
use Rattle.of_import.proofs.RowLemmas.{parsed_rows}

-- what no PACKET_OUT may have, no instruction may have
pub supported_nowhere : (xs : List Action) → are_supported true xs ≡ false → are_supported false xs ≡ false
supported_nowhere xs h = by_test (are_supported false xs) refl
  where
    by_test : (b : Bool) → are_supported false xs ≡ b → b ≡ false
    by_test false e = refl
    by_test true e = sym (served_wider false xs e) ∙ h

all_fit : (bs : List BucketText) → list_all is_fit (map bucket_of (map view_bucket bs)) ≡ list_all (λ (b : BucketText). are_supported false b.actions.items) bs
all_fit [] = refl
all_fit (b ∷ bs) = ap (λ (t : Bool). are_supported false b.actions.items && t) (all_fit bs)

pub fit_so : (bs : List BucketText) → are_fit (map bucket_of (map view_bucket bs)) ≡ (nat_le (length bs) 16 && list_all (λ (b : BucketText). are_supported false b.actions.items) bs)
fit_so bs = rw (length-map (map view_bucket bs) bucket_of, length-map bs view_bucket, all_fit bs) refl

-- the lines of a group alone
pub lone_rows : (g : GroupText) (gs : List GroupText) (fs : List FlowText) → gs ≡ g ∷ [] → fs ≡ [] → AllByRecursion Fits (group_rows (view_group g)) → AreRows (text_rows (view_groups gs) (view_flows fs))
lone_rows g gs fs e none h = parsed_rows (record { line = 0; group = g } ∷ []) [] (view_groups gs) (view_flows fs) (record { rising = refl; each = (h, tt) }) tt (ap view_groups e) (ap view_flows none)
