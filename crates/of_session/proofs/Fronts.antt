-- How bytes begin.
use Rattle.std.proofs.Common.{◌≡◌, ℕ, ◌+◌, ◌*◌, ◌<◌, ◌≤◌, ◌⊎◌, inl, inr, Bool, true, false, cond, ltb, List, ◌++◌, length, take, drop, get_or, refl, ◌∙◌, ap, arith, length-append}
use Rattle.std.{specs.Prelude.nat_lt, proofs.Math.ListN.get_or-append, proofs.lemmas.Bool.le-ltb, proofs.lemmas.Bool.lt-ltb, proofs.lemmas.Bool.Decides.nat_tests}
use Rattle.std.proofs.lemmas.List.{take_at, drop_at}
use Rattle.of_session.specs.Stream.{First, Whole, Bad, Partial, beginning_of, length_of, IsWholeMessage, IsMalformed, IsPartial}

-- what each beginning says of the bytes
abbrev pub Looks : List ℕ → First → Type 0
Looks bytes (Whole m rest) = (8 ≤ length_of bytes) × (length_of bytes ≤ length bytes) × (m ≡ take (length_of bytes) bytes) × (rest ≡ drop (length_of bytes) bytes)
Looks bytes Bad = (8 ≤ length bytes) × (length_of bytes < 8)
Looks bytes Partial = (length bytes < 8) ⊎ ((8 ≤ length_of bytes) × (length bytes < length_of bytes))

looks_by : (bytes : List ℕ) (a b c : Bool) → nat_lt (length bytes) 8 ≡ a → nat_lt (length_of bytes) 8 ≡ b → nat_lt (length bytes) (length_of bytes) ≡ c → Looks bytes (cond a Partial (cond b Bad (cond c Partial (Whole (take (length_of bytes) bytes) (drop (length_of bytes) bytes)))))
looks_by bytes true b c p q r = inl (grind (arith, nat_tests))
looks_by bytes false true c p q r = (grind (arith, nat_tests), grind (arith, nat_tests))
looks_by bytes false false true p q r = inr (grind (arith, nat_tests), grind (arith, nat_tests))
looks_by bytes false false false p q r = (grind (arith, nat_tests), grind (arith, nat_tests), refl, refl)

pub looks : (bytes : List ℕ) → Looks bytes (beginning_of bytes)
looks bytes = looks_by bytes _ _ _ refl refl refl

-- a header's length, whatever follows the header
pub length_of-append : (a b : List ℕ) → 8 ≤ length a → length_of (a ++ b) ≡ length_of a
length_of-append a b h =
    let two : get_or (a ++ b) 2 0 ≡ get_or a 2 0 = get_or-append a b 0 2 (omega (arith, h)) in
    let three : get_or (a ++ b) 3 0 ≡ get_or a 3 0 = get_or-append a b 0 3 (omega (arith, h)) in
    ap (λ (x : ℕ). 256 * x + get_or (a ++ b) 3 0) two ∙ ap (λ (x : ℕ). 256 * get_or a 2 0 + x) three

pub message_front : (m x : List ℕ) → IsWholeMessage m → beginning_of (m ++ x) ≡ Whole m x
message_front m x h =
    let size : length_of (m ++ x) ≡ length m = length_of-append m x h.header ∙ h.whole in
    let all : length (m ++ x) ≡ length m + length x = length-append m x in
    let one : ltb (length (m ++ x)) 8 ≡ false = le-ltb _ _ (omega (arith, h.header, all)) in
    let two : ltb (length m) 8 ≡ false = le-ltb _ _ h.header in
    let three : ltb (length (m ++ x)) (length m) ≡ false = le-ltb _ _ (omega (arith, all)) in
    let front : take (length m) (m ++ x) ≡ m = take_at m x (length m) refl in
    let back : drop (length m) (m ++ x) ≡ x = drop_at m x (length m) refl in
    rw (size, one, two, three, front, back) refl

pub malformed_front : (r : List ℕ) → IsMalformed r → beginning_of r ≡ Bad
malformed_front r h =
    let one : ltb (length r) 8 ≡ false = le-ltb _ _ h.header in
    let two : ltb (length_of r) 8 ≡ true = lt-ltb _ _ h.short in
    rw (one, two) refl

pub partial_front : (r : List ℕ) → IsPartial r → beginning_of r ≡ Partial
partial_front r h = by_shorter h.shorter
  where
    long : (t : Bool) → ltb (length r) 8 ≡ t → 8 ≤ length_of r → length r < length_of r → beginning_of r ≡ Partial
    long true e low less = rw e refl
    long false e low less =
        let two : ltb (length_of r) 8 ≡ false = le-ltb _ _ low in
        let three : ltb (length r) (length_of r) ≡ true = lt-ltb _ _ less in
        rw (e, two, three) refl

    by_shorter : (length r < 8) ⊎ ((8 ≤ length_of r) × (length r < length_of r)) → beginning_of r ≡ Partial
    by_shorter (inl short) = let one : ltb (length r) 8 ≡ true = lt-ltb _ _ short in rw one refl
    by_shorter (inr less) = long (ltb (length r) 8) refl less.0 less.1
