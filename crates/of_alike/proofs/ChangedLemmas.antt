-- Marks on the entries of two tables.
use Rattle.std.proofs.Common.{◌≡◌, ℕ, ◌+◌, ◌<◌, ◌≤◌, Bool, true, false, cond, List, [], ◌∷◌, ◌++◌, length, drop, map, refl, sym, ap, ◌∙◌, arith, append-nil, length-append, length-drop}
use Rattle.std.{specs.Borrow.Bor, proofs.lemmas.List.drop-map, proofs.lemmas.List.map-append}
use Rattle.of_table.specs.{declared.entry.Entry.Entry, Entries.entry_of, Entries.flows_of, Table.FlowEntry}
use Rattle.of_alike.specs.SameTables.{IsMove, SameTables, first_marks, says_of, second_marks, without_marked}
use Rattle.of_alike.specs.{declared.tables.Move.Move, declared.tables.Move.TheVariants.Both, declared.tables.Move.TheVariants.First, declared.tables.Move.TheVariants.Second}

abbrev pub pointed : List (Bor Entry) → List Entry
pointed refs = map (λ (x : Bor Entry). x.now) refs

-- the entries that have marks so far
pub record AreMarkedSoFar (fs gs : List FlowEntry) (first second : List Bool) : Type 0 where
  pub first_fits : length first ≤ length fs
  pub second_fits : length second ≤ length gs
  pub others : SameTables (without_marked fs first) (without_marked gs second)

no_marks : (fs : List FlowEntry) → without_marked fs [] ≡ []
no_marks [] = refl
no_marks (e ∷ fs) = refl

pub none_marked : (fs gs : List FlowEntry) → AreMarkedSoFar fs gs [] []
none_marked fs gs = record { first_fits = omega arith; second_fits = omega arith; others = ap (map says_of) (no_marks fs ∙ sym (no_marks gs)) }

-- one more mark
one_marked : (b : Bool) (fs : List FlowEntry) (marks : List Bool) (e : FlowEntry) (rest : List FlowEntry) → drop (length marks) fs ≡ e ∷ rest → without_marked fs (marks ++ b ∷ []) ≡ without_marked fs marks ++ cond b [] (e ∷ [])
one_marked b [] [] e rest at = absurd cc
one_marked b [] (m ∷ marks) e rest at = absurd cc
one_marked true (f ∷ fs) [] e rest at = no_marks fs
one_marked false (f ∷ fs) [] e rest at = let same : f ≡ e = cc in rw (no_marks fs, same) refl
one_marked b (f ∷ fs) (true ∷ marks) e rest at = one_marked b fs marks e rest at
one_marked b (f ∷ fs) (false ∷ marks) e rest at = ap (λ xs. f ∷ xs) (one_marked b fs marks e rest at)

passed_marked : (fs : List FlowEntry) (marks : List Bool) (e : FlowEntry) (rest : List FlowEntry) → drop (length marks) fs ≡ e ∷ rest → without_marked fs (marks ++ true ∷ []) ≡ without_marked fs marks
passed_marked fs marks e rest at = one_marked true fs marks e rest at ∙ append-nil (without_marked fs marks)

within : (fs : List FlowEntry) (n : ℕ) (e : FlowEntry) (rest : List FlowEntry) → drop n fs ≡ e ∷ rest → n < length fs
within fs n e rest at = omega (arith, length-drop n fs, ap length at)

one_longer : (marks : List Bool) (b : Bool) → length (marks ++ b ∷ []) ≡ length marks + 1
one_longer marks b = length-append marks (b ∷ [])

module _ (fs gs : List FlowEntry) (first second : List Bool) (so_far : AreMarkedSoFar fs gs first second) where
  both_passed : (x y : FlowEntry) (xs ys : List FlowEntry) → drop (length first) fs ≡ x ∷ xs → drop (length second) gs ≡ y ∷ ys → says_of x ≡ says_of y → AreMarkedSoFar fs gs (first ++ false ∷ []) (second ++ false ∷ [])
  both_passed x y xs ys at there same = record {
    first_fits = omega (arith, within fs (length first) x xs at, one_longer first false);
    second_fits = omega (arith, within gs (length second) y ys there, one_longer second false);
    others = rw (one_marked false fs first x xs at, one_marked false gs second y ys there, map-append says_of (without_marked fs first) (x ∷ []), map-append says_of (without_marked gs second) (y ∷ [])) (let e = so_far.others in cc);
  }

  first_passed : (x : FlowEntry) (xs : List FlowEntry) → drop (length first) fs ≡ x ∷ xs → AreMarkedSoFar fs gs (first ++ true ∷ []) second
  first_passed x xs at = record {
    first_fits = omega (arith, within fs (length first) x xs at, one_longer first true);
    second_fits = so_far.second_fits;
    others = ap (map says_of) (passed_marked fs first x xs at) ∙ so_far.others;
  }

  second_passed : (y : FlowEntry) (ys : List FlowEntry) → drop (length second) gs ≡ y ∷ ys → AreMarkedSoFar fs gs first (second ++ true ∷ [])
  second_passed y ys there = record {
    first_fits = so_far.first_fits;
    second_fits = omega (arith, within gs (length second) y ys there, one_longer second true);
    others = so_far.others ∙ ap (map says_of) (sym (passed_marked gs second y ys there));
  }

  one_passed : (next : Move) (es others : List Entry) → drop (length first) fs ≡ flows_of es → drop (length second) gs ≡ flows_of others → IsMove next es others → AreMarkedSoFar fs gs (first ++ first_marks next) (second ++ second_marks next)
  one_passed Both [] others at there same = absurd same
  one_passed Both (e ∷ es) [] at there same = absurd same
  one_passed Both (e ∷ es) (f ∷ others) at there same = both_passed (entry_of e) (entry_of f) (flows_of es) (flows_of others) at there same
  one_passed First [] others at there some = absurd (omega (arith, some))
  one_passed First (e ∷ es) others at there some = rw (append-nil second) (first_passed (entry_of e) (flows_of es) at)
  one_passed Second es [] at there some = absurd (omega (arith, some))
  one_passed Second es (f ∷ others) at there some = rw (append-nil first) (second_passed (entry_of f) (flows_of others) there)

pub marked_more : (a b : List (Bor Entry)) (first second first' second' : List Bool) (next : Move) → AreMarkedSoFar (flows_of (pointed a)) (flows_of (pointed b)) first second → IsMove next (pointed (drop (length first) a)) (pointed (drop (length second) b))
    → first' ≡ first ++ first_marks next → second' ≡ second ++ second_marks next → AreMarkedSoFar (flows_of (pointed a)) (flows_of (pointed b)) first' second'
marked_more a b first second first' second' next so_far move is also =
    rw (is, also) (one_passed (flows_of (pointed a)) (flows_of (pointed b)) first second so_far next (pointed (drop (length first) a)) (pointed (drop (length second) b)) (left a (length first)) (left b (length second)) move)
  where
    left : (refs : List (Bor Entry)) (n : ℕ) → drop n (flows_of (pointed refs)) ≡ flows_of (pointed (drop n refs))
    left refs n = drop-map entry_of n (pointed refs) ∙ ap flows_of (drop-map (λ (x : Bor Entry). x.now) n refs)
