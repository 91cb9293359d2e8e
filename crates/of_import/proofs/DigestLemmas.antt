-- Flows that replace each other have the same digest.
use Rattle.std.proofs.Common.{◌≡◌, ℕ, eqb, Bool, true, false, cond, List, [], ◌∷◌, ◌++◌, Option, Some, None, refl, sym, ap, ◌∙◌}
use Rattle.std.specs.{Prelude.◌||◌, Prelude.◌&&◌, Prelude.is_some, Prelude.slice_get, HashMap.HashMap, HashMap.get, List.list_any, Map.lookup, Option.option_map_or}
use Rattle.std.proofs.{lemmas.Bool.eqb-true, lemmas.Bool.eq-eqb, lemmas.List.map-append, lemmas.List.Folds.list_any-append, lemmas.Map.Keys.any_passes_from_place}
use Rattle.of_oxm.specs.SameMatch.{is_same_match}
use Rattle.of_text.{specs.Flows.Flow, specs.Digests.flow_digest, specs.Views.view, proofs.DigestLemmas.digest_same, proofs.DigestLemmas.equal_fields}
use Rattle.of_import.specs.{declared.parsed_lines.FlowLine.FlowLine, Digests.digests_of, Digests.HasDigests, Digests.PutsDigest, Kept.replaces}
use Rattle.of_ovs_lines.proofs.SoundLemmas.{and_parts}

same_digest : (a b : Flow) → replaces a b ≡ true → flow_digest a ≡ flow_digest b
same_digest a b h =
    let outer = and_parts (eqb b.head.table a.head.table) (eqb b.head.priority a.head.priority && is_same_match b.fields a.fields) h in
    let inner = and_parts (eqb b.head.priority a.head.priority) (is_same_match b.fields a.fields) outer.1 in
    digest_same a b (eqb-true b.head.table a.head.table outer.0) (eqb-true b.head.priority a.head.priority inner.0) (equal_fields b.fields a.fields inner.1)

apart : (a b : Flow) (t : Bool) → replaces a b ≡ t → eqb (flow_digest b) (flow_digest a) ≡ false → replaces a b ≡ false
apart a b false r e = r
apart a b true r e = let same : eqb (flow_digest b) (flow_digest a) ≡ true = eq-eqb (flow_digest b) (flow_digest a) (sym (same_digest a b r)) in absurd cc

or_parts : (a b : Bool) → (a || b) ≡ false → (a ≡ false) × (b ≡ false)
or_parts true b h = absurd cc
or_parts false b h = (refl, h)

-- if no flow has its digest, none replaces it
pub none_same : (fs : List FlowLine) (f : Flow) → list_any (eqb (flow_digest f)) (digests_of fs) ≡ false → list_any (λ g. replaces (view g.flow) f) fs ≡ false
none_same [] f h = refl
none_same (g ∷ fs) f h =
    let parts = or_parts (eqb (flow_digest f) (flow_digest (view g.flow))) (list_any (eqb (flow_digest f)) (digests_of fs)) h in
    rw (apart (view g.flow) f (replaces (view g.flow) f) refl parts.0, none_same fs f parts.1) refl

-- ---- the set of digests

flip : (a b : ℕ) → eqb a b ≡ eqb b a
flip a b = by_test (eqb a b) (eqb b a) refl refl
  where
    by_test : (t u : Bool) → eqb a b ≡ t → eqb b a ≡ u → eqb a b ≡ eqb b a
    by_test true u e f = e ∙ sym (eq-eqb b a (sym (eqb-true a b e)))
    by_test false true e f = eq-eqb a b (sym (eqb-true b a f)) ∙ sym f
    by_test false false e f = e ∙ sym f

either : (t u : Bool) → cond t true u ≡ (u || (t || false))
either true true = refl
either true false = refl
either false true = refl
either false false = refl

put : (ds : List ℕ) (d q : ℕ) → cond (eqb d q) true (list_any (eqb q) ds) ≡ list_any (eqb q) (ds ++ d ∷ [])
put ds d q = either (eqb d q) (list_any (eqb q) ds) ∙ (ap (λ (t : Bool). list_any (eqb q) ds || (t || false)) (flip d q) ∙ sym (list_any-append (eqb q) ds (d ∷ [])))

some_put : (t : Bool) (place : ℕ) (o : Option ℕ) → is_some (cond t (Some place) o) ≡ cond t true (is_some o)
some_put true place o = refl
some_put false place o = refl

pub digests_more : {S : Type 0} (later more : List FlowLine) (x : FlowLine) (old new : HashMap ℕ ℕ S) (d place : ℕ) → HasDigests (digests_of later) old → PutsDigest old new d place → d ≡ flow_digest (view x.flow) → more ≡ later ++ x ∷ [] → HasDigests (digests_of more) new
digests_more later more x old new d place h p e m q =
    let all : digests_of later ++ d ∷ [] ≡ digests_of more = ap (λ (n : ℕ). digests_of later ++ n ∷ []) e ∙ sym (ap digests_of m ∙ map-append (λ (f : FlowLine). flow_digest (view f.flow)) later (x ∷ [])) in
    ap is_some (p q) ∙ (some_put (eqb d q) place (get eqb old q) ∙ (ap (λ (t : Bool). cond (eqb d q) true t) (h q) ∙ (put (digests_of later) d q ∙ ap (λ (ds : List ℕ). list_any (eqb q) ds) all)))

pub no_digests : {S : Type 0} (places : HashMap ℕ ℕ S) (later : List FlowLine) → places.entries ≡ [] → later ≡ [] → HasDigests (digests_of later) places
no_digests places later e k q = ap (λ (es : List (ℕ × ℕ)). is_some (lookup (eqb q) es)) e ∙ sym (ap (λ (fs : List FlowLine). list_any (eqb q) (digests_of fs)) k)

-- ---- a place

pub any_at : {X : Type 0} (test : X → Bool) (xs : List X) (i : ℕ) → option_map_or test (slice_get xs i) false ≡ true → list_any test xs ≡ true
any_at test xs i h = by_item (slice_get xs i) refl h
  where
    by_item : (o : Option _) → slice_get xs i ≡ o → option_map_or test o false ≡ true → list_any test xs ≡ true
    by_item None e k = absurd cc
    by_item (Some x) e k = any_passes_from_place test xs i x e k
