-- Entries after some that were replaced.
use Rattle.std.proofs.Common.{◌≡◌, ℕ, zero, suc, ◌+◌, ◌-◌, ◌<◌, ◌≤◌, List, [], ◌∷◌, ◌++◌, length, get_or, take, drop, refl, sym, ap, ◌∙◌, arith}
use Rattle.std.proofs.lemmas.List.{length-drop, length-take-le, length-append, drop-drop, drop-append-le, get_or-drop, drop_at, drop_all, take_all, append-nil}
use Rattle.std.specs.Prelude.{remove}

-- one that comes after them
pub at_behind : {X : Type 0} (xs : List X) (r k : ℕ) (x : X) → x ≡ get_or xs (r + k) x → x ≡ get_or (drop r xs) k x
at_behind xs r k x is = is ∙ sym (get_or-drop r xs k x)

-- and first of them
pub at_first : {X : Type 0} (xs : List X) (r : ℕ) (x : X) → x ≡ get_or xs r x → x ≡ get_or (drop r xs) 0 x
at_first xs r x is =
    let same : r ≡ r + 0 = omega arith in
    at_behind xs r 0 x (is ∙ ap (λ (n : ℕ). get_or xs n x) same)

-- the first of them is replaced, too, and one comes last
pub one_replaced : {X : Type 0} (xs : List X) (r : ℕ) (x : X) → r < length xs → drop (r + 1) (xs ++ x ∷ []) ≡ remove (drop r xs) 0 ++ x ∷ []
one_replaced {X} xs r x lt = drop-append-le (r + 1) xs (x ∷ []) (omega arith) ∙ ap (λ (ys : List X). ys ++ x ∷ []) (sym (drop-drop 1 r xs))

-- the others, after the replaced ones were turned to the end and cut off
pub settled : {X : Type 0} (xs : List X) (r : ℕ) → r ≤ length xs → take (length xs - r) (drop r xs ++ take r xs) ≡ drop r xs
settled xs r le = take_front (drop r xs) (take r xs) (length xs - r) (length-drop r xs)
  where
    take_front : {Y : Type 0} (ys zs : List Y) (n : ℕ) → length ys ≡ n → take n (ys ++ zs) ≡ ys
    take_front [] zs zero h = refl
    take_front [] zs (suc n) h = absurd (omega (arith, h))
    take_front (y ∷ ys) zs zero h = absurd (omega (arith, h))
    take_front {Y} (y ∷ ys) zs (suc n) h = ap (λ (ws : List Y). y ∷ ws) (take_front ys zs n (omega (arith, h)))

-- one more comes last
pub one_behind : {X : Type 0} (xs ys zs : List X) (r : ℕ) (x : X) → r ≤ length xs → ys ≡ xs → zs ≡ ys ++ x ∷ [] → drop r zs ≡ drop r xs ++ x ∷ []
one_behind {X} xs ys zs r x le same last = ap (drop r) (last ∙ ap (λ (ws : List X). ws ++ x ∷ []) same) ∙ drop-append-le r xs (x ∷ []) le

pub one_longer : {X : Type 0} (xs ys zs : List X) (x : X) → ys ≡ xs → zs ≡ ys ++ x ∷ [] → length zs ≡ length xs + 1
one_longer {X} xs ys zs x same last = ap length (last ∙ ap (λ (ws : List X). ws ++ x ∷ []) same) ∙ length-append xs (x ∷ [])

-- one that comes after them is removed
pub one_gone : {X : Type 0} (xs : List X) (r k n : ℕ) → n ≡ r + k → n < length xs → drop r (remove xs n) ≡ remove (drop r xs) k
one_gone {X} xs zero k n is lt = let same : n ≡ k = omega (arith, is) in ap (remove xs) same
one_gone [] (suc r) k n is lt = absurd (omega (arith, lt))
one_gone (x ∷ xs) (suc r) k zero is lt = absurd (omega (arith, is))
one_gone (x ∷ xs) (suc r) k (suc n) is lt = one_gone xs r k n (omega (arith, is)) (omega (arith, lt))

-- a whole list is written over another
pub written : {X : Type 0} (xs ys : List X) (len : ℕ) → length xs ≡ len → length ys ≡ len → take len (xs ++ drop (length xs) ys) ≡ xs
written {X} xs ys len same long =
    let none : drop (length xs) ys ≡ [] = drop_all (length xs) ys (omega arith) in
    ap (λ (zs : List X). take len (xs ++ zs)) none ∙ ap (take len) (append-nil xs) ∙ take_all len xs (omega arith)

-- those after them are written anew
pub written_behind : {X : Type 0} (xs ys zs : List X) (r len : ℕ) → xs ≡ zs → length zs ≡ len → r ≤ len → length ys ≡ len - r →
    (drop r (take len ((take r xs ++ (ys ++ drop (length xs - r) (drop r xs))) ++ drop (length (take r xs ++ (ys ++ drop (length xs - r) (drop r xs)))) zs)) ≡ ys)
    × (r ≤ length (take len ((take r xs ++ (ys ++ drop (length xs - r) (drop r xs))) ++ drop (length (take r xs ++ (ys ++ drop (length xs - r) (drop r xs)))) zs)))
written_behind {X} xs ys zs r len same long le short =
    let all : length xs ≡ len = ap length same ∙ long in
    let rest : drop (length xs - r) (drop r xs) ≡ [] = (let few : length (drop r xs) ≡ length xs - r = length-drop r xs in drop_all (length xs - r) (drop r xs) (omega (arith, few))) in
    let front : length (take r xs) ≡ r = length-take-le r xs (omega (arith, all, le)) in
    let new : take r xs ++ (ys ++ drop (length xs - r) (drop r xs)) ≡ take r xs ++ ys = ap (λ (ws : List X). take r xs ++ (ys ++ ws)) rest ∙ ap (λ (ws : List X). take r xs ++ ws) (append-nil ys) in
    let size : length (take r xs ++ ys) ≡ len = (let sum : length (take r xs ++ ys) ≡ length (take r xs) + length ys = length-append (take r xs) ys in omega (arith, sum, front, short, le)) in
    let whole : take len ((take r xs ++ (ys ++ drop (length xs - r) (drop r xs))) ++ drop (length (take r xs ++ (ys ++ drop (length xs - r) (drop r xs)))) zs) ≡ take r xs ++ ys =
    ap (λ (ws : List X). take len (ws ++ drop (length ws) zs)) new ∙ written (take r xs ++ ys) zs len size long in
    (ap (drop r) whole ∙ drop_at (take r xs) ys r front, (let n = ap (λ (ws : List X). length ws) whole in omega (arith, n, size, le)))
