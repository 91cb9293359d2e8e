-- Items one after the other.
use Rattle.std.proofs.Common.{◌≡◌, ℕ, ◌<◌, true, false, List, [], ◌∷◌, ◌++◌, length, drop, Option, Some, None, refl, sym, ap, subst, ◌∙◌, arith}
use Rattle.std.proofs.lemmas.List.{append_assoc, append-nil}
use Rattle.of_wire.specs.{declared.code.Code.Code, Refusals.first_of, Items.Items, Items.IsItemsEnd, Items.AreItems}

-- whatever stands for the rest completes the whole
pub record Going {V : Type 0} (kind : Items V) (bytes : List ℕ) (seen : List V) (rest : List ℕ) : Type 0 where
  pub completes : (more : List V) (fault : Option Code) → AreItems kind seen rest more fault → AreItems kind [] bytes (seen ++ more) fault

pub goes_on : {V : Type 0} (kind : Items V) (bytes rest after : List ℕ) (seen given new : List V) (v : V) (size : ℕ) → Going kind bytes seen rest → 0 < length rest → given ≡ seen → first_of (kind.refusals given rest) ≡ None
    → kind.value_at rest ≡ Some v → after ≡ drop size rest → size ≡ kind.size_at rest → new ≡ seen ++ v ∷ [] → Going kind bytes new after
goes_on {V} kind bytes rest after seen given new v size going some given_is none at after_is size_is new_is =
    let here : first_of (kind.refusals seen rest) ≡ None = subst (λ (s : List V). first_of (kind.refusals s rest) ≡ None) given_is none in
    let cut : after ≡ drop (kind.size_at rest) rest = after_is ∙ ap (λ (n : ℕ). drop n rest) size_is in
    let next : Going kind bytes (seen ++ v ∷ []) (drop (kind.size_at rest) rest) = record {
      completes = λ more fault h. subst (λ (x : List V). AreItems kind [] bytes x fault) (sym (append_assoc seen (v ∷ []) more)) (going.completes (v ∷ more) fault (some, here, at, h));
    } in
    subst (λ (x : List V). Going kind bytes x after) (sym new_is) (subst (λ (x : List ℕ). Going kind bytes (seen ++ v ∷ []) x) (sym cut) next)

pub stops : {V : Type 0} (kind : Items V) (bytes rest : List ℕ) (seen given : List V) (code : Code) → Going kind bytes seen rest → 0 < length rest → given ≡ seen → first_of (kind.refusals given rest) ≡ Some code
    → (before : List V) × AreItems kind [] bytes before (Some code)
stops kind bytes [] seen given code going some given_is h = absurd (omega arith)
stops {V} kind bytes (b ∷ bs) seen given code going some given_is h =
    (seen ++ [], going.completes [] (Some code) (subst (λ (s : List V). first_of (kind.refusals s (b ∷ bs)) ≡ Some code) given_is h, refl))

pub is_done : {V : Type 0} (kind : Items V) (bytes rest : List ℕ) (seen : List V) → Going kind bytes seen rest → length rest ≡ 0 → AreItems kind [] bytes seen None
is_done {V} kind bytes [] seen going e = subst (λ (x : List V). AreItems kind [] bytes x None) (append-nil seen) (going.completes [] None refl)
is_done kind bytes (b ∷ bs) seen going e = absurd (omega arith)

end_not_more : {V : Type 0} (kind : Items V) (seen : List V) (bytes : List ℕ) (o : Option Code) → 0 < length bytes → first_of (kind.refusals seen bytes) ≡ None → IsItemsEnd kind seen bytes o → ⊥
end_not_more kind seen [] o some none ended = omega arith
end_not_more kind seen (b ∷ bs) None some none ended = let h : false ≡ true = ended.1 in cc
end_not_more kind seen (b ∷ bs) (Some c) some none ended = cc

end_same : {V : Type 0} (kind : Items V) (seen : List V) (x : List ℕ) (o p : Option Code) → IsItemsEnd kind seen x o → IsItemsEnd kind seen x p → o ≡ p
end_same kind seen [] o p a b = a ∙ sym b
end_same kind seen (x ∷ xs) o p a b = sym a.0 ∙ b.0

-- no bytes are two lists of items, or have two codes, or both
pub one_walk : {V : Type 0} (kind : Items V) (seen : List V) (bytes : List ℕ) (xs ys : List V) (o p : Option Code) → AreItems kind seen bytes xs o → AreItems kind seen bytes ys p → (xs ≡ ys) × (o ≡ p)
one_walk kind seen bytes [] [] o p a b = (refl, end_same kind seen bytes o p a b)
one_walk kind seen bytes [] (y ∷ ys) o p a b = absurd (end_not_more kind seen bytes o b.0 b.1 a)
one_walk kind seen bytes (x ∷ xs) [] o p a b = absurd (end_not_more kind seen bytes p a.0 a.1 b)
one_walk {V} kind seen bytes (x ∷ xs) (y ∷ ys) o p a b =
    let head : x ≡ y = let h : Some x ≡ Some y = sym a.2 ∙ b.2 in cc in
    let b' : AreItems kind (seen ++ x ∷ []) (drop (kind.size_at bytes) bytes) ys p = subst (λ (k : V). AreItems kind (seen ++ k ∷ []) (drop (kind.size_at bytes) bytes) ys p) (sym head) b.3 in
    let others = one_walk kind (seen ++ x ∷ []) (drop (kind.size_at bytes) bytes) xs ys o p a.3 b' in
    (let rest = others.0 in cc, others.1)
