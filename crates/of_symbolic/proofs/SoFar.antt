-- What the fields of a match ask, one after the other.
use Rattle.std.proofs.Common.{◌≡◌, ℕ, zero, suc, ◌+◌, ◌<◌, ◌≤◌, Bool, true, false, List, [], ◌∷◌, ◌++◌, length, drop, get_or, take, take_all, refl, sym, ap, subst, ◌∙◌, arith}
use Rattle.std.specs.Prelude.{IfSome, Option, not, slice_get, ◌^◌, ◌&&◌, ◌||◌}
use Rattle.std.{specs.List.AllByRecursion, specs.List.list_all, specs.List.list_any, proofs.lemmas.List.take_more}
use Rattle.of_layers.specs.{declared.field.Field.Field, declared.field.Field.TheVariants.VlanVid, declared.field.Field.TheVariants.VlanPcp}
use Rattle.of_oxm.specs.{declared.match_field.MatchField.MatchField, NormalForm.IsKept, Relations.agrees, Relations.matches_map}
use Rattle.of_rewrite.specs.Views.{View, fields_seen, outermost}
use Rattle.of_actions.specs.declared.action.Action.{Action}
use Rattle.of_symbolic.proofs.Tagged.{and_parts, untagged_false, untagged_unmatched, vid_if_asked, vids_agree}
use Rattle.of_symbolic.specs.declared.asking.Asked.{Asked}
use Rattle.of_symbolic.specs.declared.asking.Asked.TheVariants.{Never, Open, Nothing, Asks}
use Rattle.of_symbolic.specs.{declared.overlay.Overlay.Overlay, Actions.view_of_actions, Asking.asked_of_frame, Asking.asks_tag, Asking.asks_vid, InnerTags.description_of_view}
use Rattle.of_symbolic.{specs.Overlays.IsOverlay, specs.Overlays.HasVids, specs.Tags.is_inner, specs.Tags.tags_from, specs.Pulling.is_unknown_at, specs.Pulling.is_unknown_in, proofs.Holding.Holds}
use Rattle.of_symbolic.proofs.{InnerLemmas.at_holds, InnerLemmas.at_kept, InnerLemmas.has_own_tag, Keeping.KeptIfAsked, Keeping.kept_vid, Keeping.open_unknown}
use Rattle.of_symbolic.proofs.{Showing.inner_if_told, Showing.overlay_shows, Vids.all_small, Vids.first_small, Vids.rest_small}
use Rattle.of_regions.specs.Conditions.{AreConditions, IsCondition}

-- ---- one field

own_small : (inner : Bool) (v : View) → HasVids v → IfSome (outermost (tags_from inner v.tags)) (λ t. t.vid < 2 ^ 12)
own_small false v h = first_small v.tags h
own_small true v h = first_small (drop 1 v.tags) (rest_small v.tags h)

-- where the match asks for a tag of the frame, what its VLAN_PCP asks is so of the frames with that tag
pub one_holds : (o : Overlay) (metadata : ℕ) (tagged : Bool) (e : MatchField) → IsKept e → (l : List Action) → IsOverlay o l → (v : View) (port : ℕ) → HasVids v → (e.field ≡ VlanPcp → tagged ≡ true → has_own_tag o v ≡ true) →
    Holds (asked_of_frame o metadata tagged e) (agrees e (fields_seen (view_of_actions l v) port metadata e.field)) (description_of_view o.inner v port)
one_holds o metadata tagged e k l h v port small there =
    at_holds o tagged e v (view_of_actions l v) port metadata (overlay_shows o l v h) k (kept_vid e k) (first_small (view_of_actions l v).tags (all_small l v small)) (own_small (is_inner o.own) v small) (inner_if_told o l h) there e.field refl

one_as : (a : Asked) (o : Overlay) (metadata : ℕ) (tagged : Bool) (e : MatchField) → IsKept e → asked_of_frame o metadata tagged e ≡ a → (l : List Action) → IsOverlay o l → (v : View) (port : ℕ) → HasVids v
    → (e.field ≡ VlanPcp → tagged ≡ true → has_own_tag o v ≡ true) → Holds a (agrees e (fields_seen (view_of_actions l v) port metadata e.field)) (description_of_view o.inner v port)
one_as a o metadata tagged e k is l h v port small there =
    subst (λ (x : Asked). Holds x (agrees e (fields_seen (view_of_actions l v) port metadata e.field)) (description_of_view o.inner v port)) is (one_holds o metadata tagged e k l h v port small there)

-- a field that asks for a VID is not about the PCP
no_pcp : (e : MatchField) (A : Type 0) → asks_vid e ≡ true → e.field ≡ VlanPcp → A
no_pcp e A asks at = absurd (let odd : VlanVid ≡ VlanPcp = sym (vid_if_asked e e.field refl asks) ∙ at in cc)

-- ---- lists

pub all_more : {A : Type 0} (p : A → Bool) (xs : List A) (x : A) → list_all p (xs ++ x ∷ []) ≡ (list_all p xs && p x)
all_more p [] x = and_true (p x)
  where
    and_true : (b : Bool) → (b && true) ≡ b
    and_true true = refl
    and_true false = refl
all_more p (y ∷ ys) x = ap (λ (b : Bool). p y && b) (all_more p ys x) ∙ associated (p y) (list_all p ys) (p x)
  where
    associated : (a b c : Bool) → (a && (b && c)) ≡ ((a && b) && c)
    associated true b c = refl
    associated false b c = refl

pub any_more : {A : Type 0} (p : A → Bool) (xs : List A) (x : A) → list_any p (xs ++ x ∷ []) ≡ (list_any p xs || p x)
any_more p [] x = or_false (p x)
  where
    or_false : (b : Bool) → (b || false) ≡ b
    or_false true = refl
    or_false false = refl
any_more p (y ∷ ys) x = ap (λ (b : Bool). p y || b) (any_more p ys x) ∙ associated (p y) (list_any p ys) (p x)
  where
    associated : (a b c : Bool) → (a || (b || c)) ≡ ((a || b) || c)
    associated true b c = refl
    associated false b c = refl

kept_more : {A : Type 0} (P : A → Type 0) (xs : List A) (x : A) → AllByRecursion P xs → P x → AllByRecursion P (xs ++ x ∷ [])
kept_more P [] x h k = (k, tt)
kept_more P (y ∷ ys) x h k = (h.0, kept_more P ys x h.1 k)

-- ---- the fields so far

-- The first fields of a match ask what is listed, unless one of them is open. Where the match asks for a tag of the frame, that is so of the frames with that tag; and of each frame the VIDs that it asks for agree if what is listed does.
pub record SoFar (o : Overlay) (metadata : ℕ) (tagged : Bool) (m : List MatchField) (open_so_far : Bool) (fields : List MatchField) : Type 0 where
  pub unknown : open_so_far ≡ true → list_any (λ e. is_unknown_at o tagged e e.field) m ≡ true
  pub same : open_so_far ≡ false → (l : List Action) → IsOverlay o l → (v : View) (port : ℕ) → HasVids v → (tagged ≡ true → has_own_tag o v ≡ true)
      → matches_map m (fields_seen (view_of_actions l v) port metadata) ≡ matches_map fields (description_of_view o.inner v port)
  pub vids : open_so_far ≡ false → (l : List Action) → IsOverlay o l → (v : View) (port : ℕ) → HasVids v → matches_map fields (description_of_view o.inner v port) ≡ true → vids_agree m (fields_seen (view_of_actions l v) port metadata) ≡ true
  pub kept : AreConditions fields

pub none_so_far : (o : Overlay) (metadata : ℕ) (tagged : Bool) → SoFar o metadata tagged [] false []
none_so_far o metadata tagged = record { unknown = λ e. absurd cc; same = λ e l h v port s there. refl; vids = λ e l h v port s all. refl; kept = tt }

or_left : (a b : Bool) → a ≡ true → (a || b) ≡ true
or_left true b e = refl
or_left false b e = absurd cc

or_right : (a b : Bool) → b ≡ true → (a || b) ≡ true
or_right true b e = refl
or_right false b e = e

still_unknown : (o : Overlay) (tagged : Bool) (m : List MatchField) (e : MatchField) → list_any (λ x. is_unknown_at o tagged x x.field) m ≡ true → list_any (λ x. is_unknown_at o tagged x x.field) (m ++ e ∷ []) ≡ true
still_unknown o tagged m e h = any_more (λ x. is_unknown_at o tagged x x.field) m e ∙ or_left _ _ h

pub open_more : (o : Overlay) (metadata : ℕ) (tagged : Bool) (m : List MatchField) (e : MatchField) (t : Bool) (fields : List MatchField) → asked_of_frame o metadata tagged e ≡ Open → SoFar o metadata tagged m t fields
    → SoFar o metadata tagged (m ++ e ∷ []) true fields
open_more o metadata tagged m e t fields is h = record {
  unknown = λ k. any_more (λ x. is_unknown_at o tagged x x.field) m e ∙ or_right _ _ (open_unknown o metadata tagged e e.field is);
  same = λ k. absurd cc;
  vids = λ k. absurd cc;
  kept = h.kept;
}

and_same : (a b c : Bool) → a ≡ c → b ≡ true → (a && b) ≡ c
and_same true b c e f = f ∙ e
and_same false b c e f = e

-- one more of the VIDs that the match asks for agrees
vids_more : (m : List MatchField) (e : MatchField) (map : Field → Option ℕ) → vids_agree m map ≡ true → (asks_vid e ≡ true → agrees e (map e.field) ≡ true) → vids_agree (m ++ e ∷ []) map ≡ true
vids_more m e map h f = all_more (λ x. not (asks_vid x) || agrees x (map x.field)) m e ∙ and_same _ _ _ h (if_asked (asks_vid e) (agrees e (map e.field)) f)
  where
    if_asked : (a b : Bool) → (a ≡ true → b ≡ true) → (not a || b) ≡ true
    if_asked true b f = f refl
    if_asked false b f = refl

pub nothing_more : (o : Overlay) (metadata : ℕ) (tagged : Bool) (m : List MatchField) (e : MatchField) (t : Bool) (fields : List MatchField) → IsKept e → asked_of_frame o metadata tagged e ≡ Nothing → SoFar o metadata tagged m t fields
    → SoFar o metadata tagged (m ++ e ∷ []) t fields
nothing_more o metadata tagged m e t fields k is h = record {
  unknown = λ u. still_unknown o tagged m e (h.unknown u);
  same = λ u l g v port s there.
      let map = fields_seen (view_of_actions l v) port metadata in
      all_more (λ x. agrees x (map x.field)) m e ∙ and_same _ _ _ (h.same u l g v port s there) (one_as Nothing o metadata tagged e k is l g v port s (λ at. there));
  vids = λ u l g v port s all. vids_more m e (fields_seen (view_of_actions l v) port metadata) (h.vids u l g v port s all) (λ asks. one_as Nothing o metadata tagged e k is l g v port s (no_pcp e _ asks));
  kept = h.kept;
}

pub field_more : (o : Overlay) (metadata : ℕ) (tagged : Bool) (m : List MatchField) (e x : MatchField) (t : Bool) (fields : List MatchField) → IsKept e → asked_of_frame o metadata tagged e ≡ Asks x → SoFar o metadata tagged m t fields
    → SoFar o metadata tagged (m ++ e ∷ []) t (fields ++ x ∷ [])
field_more o metadata tagged m e x t fields k is h = record {
  unknown = λ u. still_unknown o tagged m e (h.unknown u);
  same = λ u l g v port s there.
      let map = fields_seen (view_of_actions l v) port metadata in
      let own = description_of_view o.inner v port in
      all_more (λ y. agrees y (map y.field)) m e ∙ both_same _ _ _ _ (h.same u l g v port s there) (one_as (Asks x) o metadata tagged e k is l g v port s (λ at. there)) ∙ sym (all_more (λ y. agrees y (own y.field)) fields x);
  vids = λ u l g v port s all.
      let own = description_of_view o.inner v port in
      let both = and_parts (matches_map fields own) (agrees x (own x.field)) (sym (all_more (λ y. agrees y (own y.field)) fields x) ∙ all) in
      vids_more m e (fields_seen (view_of_actions l v) port metadata) (h.vids u l g v port s both.0) (λ asks. one_as (Asks x) o metadata tagged e k is l g v port s (no_pcp e _ asks) ∙ both.1);
  kept = kept_more IsCondition fields x h.kept (subst KeptIfAsked is (at_kept o metadata tagged e k e.field refl));
}
  where
    both_same : (a b c d : Bool) → a ≡ c → b ≡ d → (a && b) ≡ (c && d)
    both_same a b c d e f = λ j. e j && f j

-- ---- all fields

-- the frame has the tag if the match asks for it; or it has none, and the match asks for it
by_own_tag : (o : Overlay) (tagged : Bool) (v : View) (A : Type 0) → ((tagged ≡ true → has_own_tag o v ≡ true) → A) → (tagged ≡ true → has_own_tag o v ≡ false → A) → A
by_own_tag o false v A there none = there (λ t. absurd cc)
by_own_tag o true v A there none = by_test (has_own_tag o v) refl
  where
    by_test : (b : Bool) → has_own_tag o v ≡ b → A
    by_test true e = there (λ t. e)
    by_test false e = none refl e

pub all_same : (o : Overlay) (metadata : ℕ) (tagged : Bool) (m : List MatchField) (t : Bool) (fields : List MatchField) → tagged ≡ asks_tag (slice_get o.pushed.items 0) m → t ≡ false → SoFar o metadata tagged m t fields
    → (l : List Action) → IsOverlay o l → (v : View) (port : ℕ) → HasVids v → matches_map m (fields_seen (view_of_actions l v) port metadata) ≡ matches_map fields (description_of_view o.inner v port)
all_same o metadata tagged m t fields asks closed h l g v port s =
    by_own_tag o tagged v _ (h.same closed l g v port s) (λ u none.
    let asked : asks_tag (slice_get o.pushed.items 0) m ≡ true = sym asks ∙ u in
    untagged_false o m asked l g v port metadata none ∙ sym (untagged_unmatched o m asked l g v port metadata none (matches_map fields (description_of_view o.inner v port)) (h.vids closed l g v port s)))

pub all_unknown : (o : Overlay) (metadata : ℕ) (tagged : Bool) (m : List MatchField) (t : Bool) (fields : List MatchField) → tagged ≡ asks_tag (slice_get o.pushed.items 0) m → t ≡ true
    → SoFar o metadata tagged m t fields → is_unknown_in o m ≡ true
all_unknown o metadata tagged m t fields asks is h = subst (λ (x : Bool). list_any (λ e. is_unknown_at o x e e.field) m ≡ true) asks (h.unknown is)

-- ---- a field that never agrees

pub one_kept : (m : List MatchField) (i : ℕ) (d : MatchField) → AllByRecursion IsKept m → i < length m → IsKept (get_or m i d)
one_kept [] i d h lt = absurd (omega arith)
one_kept (e ∷ m) zero d h lt = h.0
one_kept (e ∷ m) (suc i) d h lt = one_kept m i d h.1 (omega arith)

one_false : (p : MatchField → Bool) (m : List MatchField) (i : ℕ) (d : MatchField) → i < length m → p (get_or m i d) ≡ false → list_all p m ≡ false
one_false p [] i d lt e = absurd (omega arith)
one_false p (x ∷ xs) zero d lt e = ap (λ (b : Bool). b && list_all p xs) e
one_false p (x ∷ xs) (suc i) d lt e = and_false (p x) (list_all p xs) (one_false p xs i d (omega arith) e)
  where
    and_false : (a b : Bool) → b ≡ false → (a && b) ≡ false
    and_false true b e = e
    and_false false b e = refl

pub never_matches : (o : Overlay) (metadata : ℕ) (tagged : Bool) (m : List MatchField) (i : ℕ) (d : MatchField) → tagged ≡ asks_tag (slice_get o.pushed.items 0) m → AllByRecursion IsKept m
    → i < length m → asked_of_frame o metadata tagged (get_or m i d) ≡ Never → (l : List Action) → IsOverlay o l → (v : View) (port : ℕ) → HasVids v → matches_map m (fields_seen (view_of_actions l v) port metadata) ≡ false
never_matches o metadata tagged m i d asks k lt is l h v port s =
    let e = get_or m i d in
    let map = fields_seen (view_of_actions l v) port metadata in
    by_own_tag o tagged v _ (λ there. one_false (λ x. agrees x (map x.field)) m i d lt (one_as Never o metadata tagged e (one_kept m i d k lt) is l h v port s (λ at. there)))
    (λ u none. untagged_false o m (sym asks ∙ u) l h v port metadata none)

-- ---- the loop

-- the first fields, and one more
pub next_so_far : (o : Overlay) (metadata : ℕ) (tagged : Bool) (m s : List MatchField) (i : ℕ) (d : MatchField) (t u : Bool) (xs ys : List MatchField) → s ≡ m → i < length s → u ≡ t → ys ≡ xs →
    SoFar o metadata tagged (take i m ++ get_or s i d ∷ []) t xs → SoFar o metadata tagged (take (i + 1) m) u ys
next_so_far o metadata tagged m s i d t u xs ys e lt same_test same_fields h =
    let more : take (i + 1) m ≡ take i m ++ get_or s i d ∷ [] = subst (λ (x : List MatchField). take (i + 1) x ≡ take i x ++ get_or s i d ∷ []) e (take_more s i d lt) in
    let a : SoFar o metadata tagged (take (i + 1) m) t xs = subst (λ (x : List MatchField). SoFar o metadata tagged x t xs) (sym more) h in
    let b : SoFar o metadata tagged (take (i + 1) m) u xs = subst (λ (x : Bool). SoFar o metadata tagged (take (i + 1) m) x xs) (sym same_test) a in
    subst (λ (x : List MatchField). SoFar o metadata tagged (take (i + 1) m) u x) (sym same_fields) b

pub kept_at : (m s : List MatchField) (i : ℕ) (d : MatchField) → s ≡ m → AllByRecursion IsKept m → i < length s → IsKept (get_or s i d)
kept_at m s i d e h lt = one_kept s i d (subst (AllByRecursion IsKept) (sym e) h) lt

pub never_at : (o : Overlay) (metadata : ℕ) (tagged : Bool) (m s : List MatchField) (i : ℕ) (d : MatchField) → tagged ≡ asks_tag (slice_get o.pushed.items 0) m → s ≡ m → AllByRecursion IsKept m
    → i < length s → asked_of_frame o metadata tagged (get_or s i d) ≡ Never → (l : List Action) → IsOverlay o l → (v : View) (port : ℕ) → HasVids v → matches_map m (fields_seen (view_of_actions l v) port metadata) ≡ false
never_at o metadata tagged m s i d asks e k lt is =
    never_matches o metadata tagged m i d asks k (subst (λ (x : List MatchField). i < length x) e lt) (subst (λ (x : List MatchField). asked_of_frame o metadata tagged (get_or x i d) ≡ Never) e is)

pub all_taken : (m s : List MatchField) (i : ℕ) → s ≡ m → length s ≤ i → take i m ≡ m
all_taken m s i e h = take_all i m (omega (arith, h, ap length e))
