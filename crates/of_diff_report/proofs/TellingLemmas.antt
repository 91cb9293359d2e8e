-- Differences that are told one after the other.
use Rattle.std.proofs.Common.{◌≡◌, ◌∙◌, ◌<◌, ◌+◌, ℕ, false, true, List, [], ◌∷◌, length, get_or, set, take, Some, ap, refl, sym, subst, inl, inr}
use Rattle.std.{specs.Prelude.slice_get, specs.List.Contains, proofs.lemmas.Option.slice_get-get_or, proofs.lemmas.Option.slice_get_within}
use Rattle.of_datapath.specs.Datapath.{Forwarding}
use Rattle.of_symbolic.proofs.PartLemmas.{first_or_next}
use Rattle.of_diff.specs.declared.difference.Difference.{Difference}
use Rattle.of_diff_report.specs.Telling.{IsJoined, IsTold, PutsTold, PutsAllTold, is_of_kind, joined}
use Rattle.of_diff_report.specs.declared.telling.Told.{Told}

-- none of these is of the kind
abbrev pub AreOthers : Told → List Told → Type 0
AreOthers t told = (b : Told) → Contains told b → is_of_kind b t ≡ false

pub one_other : (t : Told) (told : List Told) (i : ℕ) (b : Told) → b ≡ get_or told i b → i < length told → is_of_kind b t ≡ false → AreOthers t (take i told) → AreOthers t (take (i + 1) told)
one_other t told i b is lt other old x there = elim (first_or_next told i b x is lt there) as (λ w. is_of_kind x t ≡ false) [
  | inl first ↦ old x first
  | inr same ↦ subst (λ (y : Told). is_of_kind y t ≡ false) same other
]

-- one more
pub tell_more : (f g : Forwarding) (found rest : List Difference) (d : Difference) (old new end : List Told) (t : Told) → found ≡ d ∷ rest → IsTold f g d t → PutsTold d t old new → PutsAllTold f g rest new end → PutsAllTold f g found old end
tell_more f g found rest d old new end t is told tells others = subst (λ (ds : List Difference). PutsAllTold f g ds old end) (sym is) (t, new, told, tells, others)

pub told_last : (f g : Forwarding) (found : List Difference) (told : List Told) → found ≡ [] → PutsAllTold f g found told told
told_last f g found told is = subst (λ (ds : List Difference). PutsAllTold f g ds told told) (sym is) refl

-- told with the one at a place
pub told_at : (d : Difference) (t : Told) (old : List Told) (i : ℕ) (x y : Told) → x ≡ get_or old i x → (b : Told) × (slice_get old i ≡ Some b) × (is_of_kind b t ≡ true) → IsJoined x d y → PutsTold d t old (set old i y)
told_at d t old i x y is some h =
    let lt = slice_get_within old i some.0 some.1 in
    let two : Some x ≡ Some some.0 = ap Some is ∙ (sym (slice_get-get_or old i x lt) ∙ some.1) in
    let same : x ≡ some.0 = cc in
    joined i some.0 y some.1 some.2 (subst (λ (z : Told). IsJoined z d y) same h) refl
