-- Ids in their circle, and the places of those that were given last.
use Rattle.std.proofs.Common.{if◌then◌else◌, ◌≡◌, ℕ, suc, ◌+◌, ◌-◌, ◌%◌, ◌<◌, ◌≤◌, true, false, List, [], ◌∷◌, ◌++◌, length, take, get_or, set, slice_get, Option, Some, None, sym, ap, ◌∙◌, arith, get_or-set_same, refl, nat_lt, Bool}
use Rattle.std.proofs.lemmas.List.{get_or-take, length-take, get_or_past, length-set, set_past}
use Rattle.std.proofs.{lemmas.Bool.Decides.nat_tests, lemmas.Option.slice_get-get_or, lemmas.Option.get_or_from_slice_get}
use Rattle.of_datapath.specs.Buffers.{Held, HeldFrames, id_following, given_since, held, hold, hold_all, is_id, last_id, most_held, used}

-- one more id was given since
one_later : (id next : ℕ) → is_id next ≡ true → is_id id ≡ true
    → (next + (last_id - 1) - id) % last_id + 1 < last_id
    → (id_following next + (last_id - 1) - id) % last_id ≡ suc ((next + (last_id - 1) - id) % last_id)
one_later id next n i few = grind (arith, nat_tests)

pub next_is_id : (next : ℕ) → is_id next ≡ true → is_id (id_following next) ≡ true
next_is_id next n = grind (arith, nat_tests)

-- the next id is one, however many frames are held
pub all_is_id : (hs : List Held) (b : HeldFrames) → is_id b.next ≡ true → is_id (hold_all hs b).next ≡ true
all_is_id [] b n = n
all_is_id (h ∷ hs) b n = all_is_id hs (hold h b) (next_is_id b.next n)

pub hold_all-append : (xs ys : List Held) (b : HeldFrames) → hold_all (xs ++ ys) b ≡ hold_all ys (hold_all xs b)
hold_all-append [] ys b = refl
hold_all-append (x ∷ xs) ys b = hold_all-append xs ys (hold x b)

-- none was given after the last one
none_since : (next : ℕ) → is_id next ≡ true → (id_following next + (last_id - 1) - next) % last_id ≡ 0
none_since next n = grind (arith, nat_tests)

pub held_since : (h : Held) (b : HeldFrames) → is_id b.next ≡ true → given_since b.next (hold h b) ≡ 0
held_since h b n = none_since b.next n

-- as many as frames were held
pub all_since : (id : ℕ) (hs : List Held) (b : HeldFrames) → is_id b.next ≡ true → is_id id ≡ true → given_since id b + length hs < last_id → given_since id (hold_all hs b) ≡ given_since id b + length hs
all_since id [] b n i few = omega arith
all_since id (h ∷ hs) b n i few =
    let later : given_since id (hold h b) ≡ suc (given_since id b) = one_later id b.next n i (omega (arith, few)) in
    let ih = all_since id hs (hold h b) (next_is_id b.next n) i (omega (arith, few, later)) in
    omega (arith, ih, later)

-- an id is the next one again only once they have gone round
far_since : (id : ℕ) → is_id id ≡ true → (id + (last_id - 1) - id) % last_id ≡ last_id - 1
far_since id i = grind (arith, nat_tests)

place_later : (h : Held) (ps : List (Option Held)) (k : ℕ) → suc k < most_held → get_or (take most_held (Some h ∷ ps)) (suc k) None ≡ get_or ps k None
place_later h ps k few = get_or-take most_held (Some h ∷ ps) (suc k) None few

pub few_places : (h : Held) (ps : List (Option Held)) → length (take most_held (Some h ∷ ps)) ≤ most_held
few_places h ps = rw length-take (grind (arith, nat_tests))

-- what is empty stays empty, also past the end
none_later : (h : Held) (ps : List (Option Held)) (k : ℕ) → get_or ps k None ≡ None → get_or (take most_held (Some h ∷ ps)) (suc k) None ≡ None
none_later h ps k e = by (nat_lt (suc k) most_held) refl
  where
    by : (b : Bool) → nat_lt (suc k) most_held ≡ b → get_or (take most_held (Some h ∷ ps)) (suc k) None ≡ None
    by true t = place_later h ps k (grind (arith, nat_tests)) ∙ e
    by false t = get_or_past (take most_held (Some h ∷ ps)) (suc k) None (let few = few_places h ps in grind (arith, nat_tests))

pub still_held : (id : ℕ) (hs : List Held) (b : HeldFrames) → is_id b.next ≡ true → is_id id ≡ true → given_since id b + length hs < most_held → get_or (hold_all hs b).places (given_since id (hold_all hs b)) None ≡ get_or b.places (given_since id b) None
still_held id [] b n i few = refl
still_held id (h ∷ hs) b n i few =
    let later : given_since id (hold h b) ≡ suc (given_since id b) = one_later id b.next n i (omega (arith, few)) in
    still_held id hs (hold h b) (next_is_id b.next n) i (omega (arith, few, later))
    ∙ (ap (λ (k : ℕ). get_or (take most_held (Some h ∷ b.places)) k None) later
    ∙ place_later h b.places (given_since id b) (omega (arith, few)))

pub still_none : (id : ℕ) (hs : List Held) (b : HeldFrames) → is_id b.next ≡ true → is_id id ≡ true → given_since id b + length hs < last_id → get_or b.places (given_since id b) None ≡ None → get_or (hold_all hs b).places (given_since id (hold_all hs b)) None ≡ None
still_none id [] b n i few e = e
still_none id (h ∷ hs) b n i few e =
    let later : given_since id (hold h b) ≡ suc (given_since id b) = one_later id b.next n i (omega (arith, few)) in
    still_none id hs (hold h b) (next_is_id b.next n) i (omega (arith, few, later))
    (ap (λ (k : ℕ). get_or (take most_held (Some h ∷ b.places)) k None) later ∙ none_later h b.places (given_since id b) e)

pub gone : (id : ℕ) (hs : List Held) (b : HeldFrames) → is_id b.next ≡ true → is_id id ≡ true → length b.places ≤ most_held → most_held ≤ given_since id b + length hs → given_since id b + length hs < last_id → get_or (hold_all hs b).places (given_since id (hold_all hs b)) None ≡ None
gone id [] b n i short many few = get_or_past b.places (given_since id b) None (omega (arith, short, many))
gone id (h ∷ hs) b n i short many few =
    let later : given_since id (hold h b) ≡ suc (given_since id b) = one_later id b.next n i (omega (arith, few)) in
    gone id hs (hold h b) (next_is_id b.next n) i (few_places h b.places) (omega (arith, many, later)) (omega (arith, few, later))

-- the place of a used id is empty
pub emptied : (ps : List (Option Held)) (k : ℕ) → get_or (set ps k None) k None ≡ None
emptied ps k = by (nat_lt k (length ps)) refl
  where
    by : (b : Bool) → nat_lt k (length ps) ≡ b → get_or (set ps k None) k None ≡ None
    by true t = get_or-set_same ps k None None (grind (arith, nat_tests))
    by false t = get_or_past (set ps k None) k None (rw length-set (grind (arith, nat_tests)))

-- a list by its places, as the ring has them
pub none_there : (ps : List (Option Held)) (k : ℕ) → None ≡ slice_get ps k → length ps ≤ k
none_there ps k e = by (nat_lt k (length ps)) refl
  where
    by : (b : Bool) → nat_lt k (length ps) ≡ b → length ps ≤ k
    by true t =
        let lt : k < length ps = grind (arith, nat_tests) in
        let there : slice_get ps k ≡ Some (get_or ps k None) = slice_get-get_or ps k None lt in
        absurd cc
    by false t = grind (arith, nat_tests)

pub held_there : (id k : ℕ) (b : HeldFrames) (ps : List (Option Held)) (x : Option Held) → Some k ≡ (if is_id id then Some (given_since id b) else None) → Some x ≡ slice_get ps k → ps ≡ b.places → x ≡ held id b
held_there id k b ps x since e same = by (is_id id) since
  where
    by : (t : Bool) → Some k ≡ (if t then Some (given_since id b) else None) → x ≡ (if t then get_or b.places (given_since id b) None else None)
    by true s =
        let at : k ≡ given_since id b = cc in
        sym (get_or_from_slice_get ps k x None (sym e)) ∙ (ap (λ (i : ℕ). get_or ps i None) at ∙ ap (λ (qs : List (Option Held)). get_or qs (given_since id b) None) same)
    by false s = absurd cc

pub held_past : (id k : ℕ) (b : HeldFrames) (ps : List (Option Held)) → Some k ≡ (if is_id id then Some (given_since id b) else None) → None ≡ slice_get ps k → ps ≡ b.places → None ≡ held id b
held_past id k b ps since e same = by (is_id id) since
  where
    by : (t : Bool) → Some k ≡ (if t then Some (given_since id b) else None) → None ≡ (if t then get_or b.places (given_since id b) None else None)
    by true s =
        let at : k ≡ given_since id b = cc in
        sym (get_or_past ps k None (none_there ps k e)) ∙ (ap (λ (i : ℕ). get_or ps i None) at ∙ ap (λ (qs : List (Option Held)). get_or qs (given_since id b) None) same)
    by false s = refl

pub used_past : (id k : ℕ) (b : HeldFrames) (ps : List (Option Held)) → Some k ≡ (if is_id id then Some (given_since id b) else None) → None ≡ slice_get ps k → ps ≡ b.places → b ≡ used id b
used_past id k b ps since e same = by (is_id id) since
  where
    by : (t : Bool) → Some k ≡ (if t then Some (given_since id b) else None) → b ≡ (if t then record b { places = set b.places (given_since id b) None } else b)
    by true s =
        let at : k ≡ given_since id b = cc in
        let many : length b.places ≤ k = rw (← same) (none_there ps k e) in
        ap (λ (qs : List (Option Held)). record b { places = qs }) (sym (set_past b.places (given_since id b) None (omega (arith, many, at))))
    by false s = refl

-- THE ID OF A FRAME: the next one as it is held
pub held_under : (first rest : List Held) (h : Held) (b : HeldFrames) → is_id b.next ≡ true → length rest < most_held → held (hold_all first b).next (hold_all (first ++ h ∷ rest) b) ≡ Some h
held_under first rest h b n few =
    let c = hold_all first b in
    let i : is_id c.next ≡ true = all_is_id first b n in
    let now : given_since c.next (hold h c) ≡ 0 = held_since h c i in
    let kept = still_held c.next rest (hold h c) (next_is_id c.next i) i (omega (arith, now, few)) in
    let there : get_or (hold h c).places (given_since c.next (hold h c)) None ≡ Some h = ap (λ (k : ℕ). get_or (hold h c).places k None) now in
    ap (held c.next) (hold_all-append first (h ∷ rest) b) ∙ rw i (kept ∙ there)

pub others_under : (first more : List Held) (h : Held) (b : HeldFrames) → is_id b.next ≡ true → length more + 1 < last_id → (hold_all (first ++ h ∷ more) b).next ≡ (hold_all first b).next → ⊥
others_under first more h b n few same =
    let c = hold_all first b in
    let i : is_id c.next ≡ true = all_is_id first b n in
    let now : given_since c.next (hold h c) ≡ 0 = held_since h c i in
    let later = all_since c.next more (hold h c) (next_is_id c.next i) i (omega (arith, now, few)) in
    let again : (hold_all more (hold h c)).next ≡ c.next = ap (λ (x : HeldFrames). x.next) (sym (hold_all-append first (h ∷ more) b)) ∙ same in
    let far : given_since c.next (hold_all more (hold h c)) ≡ last_id - 1 = ap (λ (next : ℕ). (next + (last_id - 1) - c.next) % last_id) again ∙ far_since c.next i in
    omega (arith, now, later, far, few)
