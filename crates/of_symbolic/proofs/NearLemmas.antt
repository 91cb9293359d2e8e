-- Entries near a part.
use Rattle.std.proofs.Common.{◌≡◌, ℕ, zero, suc, false, List, [], ◌∷◌, ◌++◌, length, Option, Some, None, refl, sym, ap, subst, ◌∙◌, arith}
use Rattle.std.specs.{Prelude.slice_get, Global.Vec}
use Rattle.of_layers.specs.declared.field.Field.{Field}
use Rattle.of_oxm.specs.{declared.match_field.MatchField.MatchField, Relations.matches_map}
use Rattle.of_regions.specs.Searching.{InSome}
use Rattle.of_symbolic.specs.Branching.{AllHaveConditions, AreNearEntries, IsAhead, IsHitOrMiss, IsNearEntry, NoEntryAhead, is_agreed}
use Rattle.of_symbolic.specs.{declared.branching.Branch.Branch, declared.branching.Rank.Rank, declared.part.Part.Part, declared.pulled_entry.PulledEntry.PulledEntry, Parts.InPart}
use Rattle.of_symbolic.proofs.BranchLemmas.{AreHitBranches}

pub far_away : (part : Part) (p q : PulledEntry) → ((fields : Field → Option ℕ) → InPart part fields → is_agreed p.fields fields ≡ false) → q.priority ≡ p.priority → q.fields ≡ None → IsNearEntry part p q
far_away part p q far priority none = record {
  priority = priority;
  agreed = λ fields h. ap (λ (o : Option (Vec MatchField)). is_agreed o fields) none ∙ sym (far fields h);
  conditions = λ c. rw none tt;
}

pub apart_far : (part : Part) (o : Option (Vec MatchField)) (m : Vec MatchField) → o ≡ Some m → ((fields : Field → Option ℕ) → InSome part.regions.items fields → matches_map m.items fields ≡ false) → (fields : Field → Option ℕ) → InPart part fields → is_agreed o fields ≡ false
apart_far part o m is apart fields h = ap (λ (x : Option (Vec MatchField)). is_agreed x fields) is ∙ apart fields h.0

pub near_more : (part : Part) (ps qs : List PulledEntry) (p q : PulledEntry) → AreNearEntries part ps qs → IsNearEntry part p q → AreNearEntries part (ps ++ p ∷ []) (qs ++ q ∷ [])
near_more part [] [] p q are one = (one, tt)
near_more part [] (y ∷ qs) p q are one = absurd are
near_more part (x ∷ ps) [] p q are one = absurd are
near_more part (x ∷ ps) (y ∷ qs) p q are one = (are.0, near_more part ps qs p q are.1 one)

-- ---- by place

record Near (part : Part) (k : ℕ) (ps : List PulledEntry) (q : PulledEntry) : Type 0 where
  entry : PulledEntry
  there : slice_get ps k ≡ Some entry
  near : IsNearEntry part entry q

near_at : (part : Part) (ps qs : List PulledEntry) → AreNearEntries part ps qs → (k : ℕ) (q : PulledEntry) → slice_get qs k ≡ Some q → Near part k ps q
near_at part [] [] are k q at = absurd cc
near_at part [] (y ∷ qs) are k q at = absurd are
near_at part (x ∷ ps) [] are k q at = absurd are
near_at part (x ∷ ps) (y ∷ qs) are zero q at = record { entry = x; there = refl; near = subst (IsNearEntry part x) (let same : y ≡ q = cc in same) are.0 }
near_at part (x ∷ ps) (y ∷ qs) are (suc k) q at = let n = near_at part ps qs are.1 k q at in record { entry = n.entry; there = n.there; near = n.near }

record Old (part : Part) (k : ℕ) (qs : List PulledEntry) (p : PulledEntry) : Type 0 where
  entry : PulledEntry
  there : slice_get qs k ≡ Some entry
  near : IsNearEntry part p entry

old_at : (part : Part) (ps qs : List PulledEntry) → AreNearEntries part ps qs → (k : ℕ) (p : PulledEntry) → slice_get ps k ≡ Some p → Old part k qs p
old_at part [] [] are k p at = absurd cc
old_at part [] (y ∷ qs) are k p at = absurd are
old_at part (x ∷ ps) [] are k p at = absurd are
old_at part (x ∷ ps) (y ∷ qs) are zero p at = record { entry = y; there = refl; near = subst (λ (z : PulledEntry). IsNearEntry part z y) (let same : x ≡ p = cc in same) are.0 }
old_at part (x ∷ ps) (y ∷ qs) are (suc k) p at = let n = old_at part ps qs are.1 k p at in record { entry = n.entry; there = n.there; near = n.near }

same_length : (part : Part) (ps qs : List PulledEntry) → AreNearEntries part ps qs → length qs ≡ length ps
same_length part [] [] are = refl
same_length part [] (y ∷ qs) are = absurd are
same_length part (x ∷ ps) [] are = absurd are
same_length part (x ∷ ps) (y ∷ qs) are = ap suc (same_length part ps qs are.1)

pub near_kept : (part : Part) (ps qs : List PulledEntry) → AreNearEntries part ps qs → AllHaveConditions ps → AllHaveConditions qs
near_kept part ps qs are each k q at = let n = near_at part ps qs are k q at in n.near.conditions (each k n.entry n.there)

-- ---- which one wins

module _ (part : Part) (ps qs : List PulledEntry) (are : AreNearEntries part ps qs) (fields : Field → Option ℕ) (h : InPart part fields) where
  ahead_of : (of : Option Rank) → NoEntryAhead qs of fields → NoEntryAhead ps of fields
  ahead_of of none k p lt at ahead =
      let n = old_at part ps qs are k p at in
      let long = same_length part ps qs are in
      sym (n.near.agreed fields h) ∙ none k n.entry (omega (arith, lt, long)) n.there (subst (λ (priority : ℕ). IsAhead priority k of) (sym n.near.priority) ahead)

  ahead_near : (of : Option Rank) → NoEntryAhead ps of fields → NoEntryAhead qs of fields
  ahead_near of none k q lt at ahead =
      let n = near_at part ps qs are k q at in
      let long = same_length part ps qs are in
      n.near.agreed fields h ∙ none k n.entry (omega (arith, lt, long)) n.there (subst (λ (priority : ℕ). IsAhead priority k of) n.near.priority ahead)

  hit_of : (w : Option ℕ) → IsHitOrMiss qs w fields → IsHitOrMiss ps w fields
  hit_of None hit = ahead_of None hit
  hit_of (Some k) hit =
      let n = near_at part ps qs are k hit.entry hit.there in
      record {
        entry = n.entry;
        there = n.there;
        matches = sym (n.near.agreed fields h) ∙ hit.matches;
        first = subst (λ (priority : ℕ). NoEntryAhead ps (Some (record { priority = priority; place = k })) fields) n.near.priority (ahead_of (Some (record { priority = hit.entry.priority; place = k })) hit.first);
      }

  hit_near : (w : Option ℕ) → IsHitOrMiss ps w fields → IsHitOrMiss qs w fields
  hit_near None hit = ahead_near None hit
  hit_near (Some k) hit =
      let n = old_at part ps qs are k hit.entry hit.there in
      record {
        entry = n.entry;
        there = n.there;
        matches = n.near.agreed fields h ∙ hit.matches;
        first = subst (λ (priority : ℕ). NoEntryAhead qs (Some (record { priority = priority; place = k })) fields) (sym n.near.priority) (ahead_near (Some (record { priority = hit.entry.priority; place = k })) hit.first);
      }

-- the branches of the entries near a part are those of the entries
pub near_branches : (part : Part) (ps qs : List PulledEntry) (branches : List Branch) → AreNearEntries part ps qs → AreHitBranches part qs branches → AreHitBranches part ps branches
near_branches part ps qs branches are hits = record {
  each = λ b c. (let own = hits.each b c in record {
    entry = own.entry;
    within = λ fields h. (let o = own.within fields h in (o.0, hit_of part ps qs are fields o.0 b.entry o.1));
    conditions = own.conditions;
  });
  once = hits.once;
  all = λ w fields t h hit. hits.all w fields t h (hit_near part ps qs are fields h w hit);
}
