-- The frames of a set for which DEC_NW_TTL expires, and the others.
use Rattle.std.proofs.Common.{◌≡◌, ◌≤◌, ◌<◌, ◌+◌, ℕ, Bool, true, false, List, [], ◌∷◌, Option, Some, None, refl, sym, ap, subst, ◌∙◌, arith}
use Rattle.std.{specs.Prelude.not, specs.Prelude.nat_le, specs.Prelude.is_some, specs.Prelude.IfSome, proofs.lemmas.Bool.le-leb, proofs.lemmas.Bool.lt-leb, proofs.lemmas.Bool.Decides.nat_tests}
use Rattle.of_layers.specs.{declared.field.Field.TheVariants.IpDscp, Layers.cells, Looking.look, Reading.layers_of}
use Rattle.of_oxm.specs.{declared.match_field.MatchField.MatchField, Relations.matches_map}
use Rattle.of_rewrite.specs.{Frames.IsFrame, TimeToLive.ttl_of}
use Rattle.of_symbolic.{specs.declared.part.Part.Part, specs.InnerTags.description_of, specs.Parts.InPart, proofs.VidBits.and_zero}
use Rattle.of_symbolic_run.specs.{declared.frame_set.FrameSet.FrameSet, FrameSets.AreFramesMatching, FrameSets.AreFramesThat, FrameSets.AreFramesWithout, FrameSets.InFrames}
use Rattle.of_symbolic_run.{specs.TimesToLive.expires, specs.TimesToLive.higher_of, specs.TimesToLive.is_up_to, specs.TimesToLive.lower_of, proofs.HeaderLemmas.ttl_or_none}

abbrev pub has_ttl : MatchField
has_ttl = record { field = IpDscp; value = 0; mask = Some 0 }

-- a frame has a TTL exactly if the condition matches it
there : (o : Option ℕ) → matches_map (has_ttl ∷ []) (λ f. o) ≡ is_some o
there None = refl
there (Some v) = rw (and_zero v) refl

pub ttl_matches : (told : Bool) (frame : List ℕ) (port : ℕ) → IsFrame frame → matches_map (has_ttl ∷ []) (description_of told frame port) ≡ is_some (ttl_of (layers_of frame))
ttl_matches told frame port h = there (look IpDscp (cells (layers_of frame))) ∙ ttl_or_none frame h

-- ---- ranges

up_to_some : (limit : ℕ) (o : Option ℕ) → is_up_to (Some limit) o ≡ true → is_some o ≡ true
up_to_some limit None h = absurd cc
up_to_some limit (Some t) h = refl

low_range : (low high limit : ℕ) (o : Option ℕ) → IfSome o (λ t. (low ≤ t) × (t ≤ lower_of high limit)) → IfSome o (λ t. (low ≤ t) × (t ≤ high))
low_range low high limit None h = tt
low_range low high limit (Some t) h = (h.0, (let le = h.1 in grind (arith, nat_tests)))

low_tested : (low high limit : ℕ) (o : Option ℕ) → is_some o ≡ true → IfSome o (λ t. (low ≤ t) × (t ≤ lower_of high limit)) → is_up_to (Some limit) o ≡ true
low_tested low high limit None some h = absurd cc
low_tested low high limit (Some t) some h = let le = h.1 in let most : t ≤ limit = grind (arith, nat_tests) in le-leb t limit most

low_within : (low high limit : ℕ) (o : Option ℕ) → is_up_to (Some limit) o ≡ true → IfSome o (λ t. (low ≤ t) × (t ≤ high)) → IfSome o (λ t. (low ≤ t) × (t ≤ lower_of high limit))
low_within low high limit None test h = absurd cc
low_within low high limit (Some t) test h = (h.0, (let le = h.1 in grind (arith, nat_tests)))

high_range : (low high limit : ℕ) (o : Option ℕ) → IfSome o (λ t. (higher_of low (limit + 1) ≤ t) × (t ≤ high)) → IfSome o (λ t. (low ≤ t) × (t ≤ high))
high_range low high limit None h = tt
high_range low high limit (Some t) h = ((let le = h.0 in grind (arith, nat_tests)), h.1)

high_tested : (low high limit : ℕ) (o : Option ℕ) → IfSome o (λ t. (higher_of low (limit + 1) ≤ t) × (t ≤ high)) → not (is_up_to (Some limit) o) ≡ true
high_tested low high limit None h = refl
high_tested low high limit (Some t) h = let le = h.0 in let more : limit < t = grind (arith, nat_tests) in ap not (lt-leb t limit more)

high_within : (low high limit : ℕ) (o : Option ℕ) → not (is_up_to (Some limit) o) ≡ true → IfSome o (λ t. (low ≤ t) × (t ≤ high)) → IfSome o (λ t. (higher_of low (limit + 1) ≤ t) × (t ≤ high))
high_within low high limit None test h = tt
high_within low high limit (Some t) test h = ((let le = h.0 in grind (arith, nat_tests)), h.1)

none_tested : (limit : ℕ) (o : Option ℕ) → is_some o ≡ false → not (is_up_to (Some limit) o) ≡ true
none_tested limit None h = refl
none_tested limit (Some t) h = absurd cc

none_left : (low high limit : ℕ) (o : Option ℕ) → high ≤ limit → not (is_up_to (Some limit) o) ≡ true → IfSome o (λ t. (low ≤ t) × (t ≤ high)) → is_some o ≡ false
none_left low high limit None le test h = refl
none_left low high limit (Some t) le test h = let yes_up : nat_le t limit ≡ true = le-leb t limit (omega (arith, le, h.1)) in absurd (let false_true : not true ≡ true = ap not (sym yes_up) ∙ test in cc)

-- ---- sets

module _ (s : FrameSet) where
  in_set : (t : FrameSet) (frame : List ℕ) (port : ℕ) → t.part ≡ s.part → t.inner ≡ s.inner → InPart s.part (description_of s.inner frame port) → InPart t.part (description_of t.inner frame port)
  in_set t frame port same told h = subst (λ (b : Bool). InPart t.part (description_of b frame port)) (sym told) (subst (λ (p : Part). InPart p (description_of s.inner frame port)) (sym same) h)

  of_set : (t : FrameSet) (frame : List ℕ) (port : ℕ) → t.part ≡ s.part → t.inner ≡ s.inner → InPart t.part (description_of t.inner frame port) → InPart s.part (description_of s.inner frame port)
  of_set t frame port same told h = subst (λ (p : Part). InPart p (description_of s.inner frame port)) same (subst (λ (b : Bool). InPart t.part (description_of b frame port)) told h)

pub expiring_is : (limit : ℕ) (s those new : FrameSet) → AreFramesMatching (has_ttl ∷ []) s those → new.part ≡ those.part → new.inner ≡ those.inner → new.ttl_from ≡ those.ttl_from → new.ttl_to ≡ lower_of those.ttl_to limit → AreFramesThat (expires (Some limit)) s new
expiring_is limit s those new are part told least most = record {
  inner = told ∙ are.inner;
  within = λ frame port h. (are.within frame port (before frame port h)).0;
  tested = λ frame port is h.
      let some : is_some (ttl_of (layers_of frame)) ≡ true = sym (ttl_matches s.inner frame port is) ∙ (are.within frame port (before frame port h)).1 in
      low_tested those.ttl_from those.ttl_to limit (ttl_of (layers_of frame)) some (rw (sym least, sym most) h.ttl);
  all = λ frame port is h test.
      let some : matches_map (has_ttl ∷ []) (description_of s.inner frame port) ≡ true = ttl_matches s.inner frame port is ∙ up_to_some limit (ttl_of (layers_of frame)) test in
      let in_those = are.all frame port is h some in
      record {
        part = in_set those new frame port part told in_those.part;
        ttl = rw (least, most) (low_within those.ttl_from those.ttl_to limit (ttl_of (layers_of frame)) test in_those.ttl);
      };
}
  where
    before : (frame : List ℕ) (port : ℕ) → InFrames new frame port → InFrames those frame port
    before frame port h = record { part = of_set those new frame port part told h.part; ttl = low_range those.ttl_from those.ttl_to limit (ttl_of (layers_of frame)) (rw (sym least, sym most) h.ttl) }

pub outliving_all : (limit : Option ℕ) (s all : FrameSet) → limit ≡ None → AreFramesMatching [] s all → AreFramesThat (λ frame. not (expires limit frame)) s all
outliving_all limit s all none are = record {
  inner = are.inner;
  within = λ frame port h. (are.within frame port h).0;
  tested = λ frame port is h. ap (λ (o : Option ℕ). not (expires o frame)) none ∙ never (ttl_of (layers_of frame));
  all = λ frame port is h test. are.all frame port is h refl;
}
  where
    never : (o : Option ℕ) → not (is_up_to None o) ≡ true
    never None = refl
    never (Some t) = refl

pub outliving_above : (limit : ℕ) (s all new : FrameSet) → AreFramesMatching [] s all → new.part ≡ all.part → new.inner ≡ all.inner → new.ttl_from ≡ higher_of all.ttl_from (limit + 1) → new.ttl_to ≡ all.ttl_to → AreFramesThat (λ frame. not (expires (Some limit) frame)) s new
outliving_above limit s all new are part told least most = record {
  inner = told ∙ are.inner;
  within = λ frame port h. (are.within frame port (record { part = of_set all new frame port part told h.part; ttl = high_range all.ttl_from all.ttl_to limit (ttl_of (layers_of frame)) (rw (sym least, sym most) h.ttl) })).0;
  tested = λ frame port is h. high_tested all.ttl_from all.ttl_to limit (ttl_of (layers_of frame)) (rw (sym least, sym most) h.ttl);
  all = λ frame port is h test.
      let i = are.all frame port is h refl in
      record {
        part = in_set all new frame port part told i.part;
        ttl = rw (least, most) (high_within all.ttl_from all.ttl_to limit (ttl_of (layers_of frame)) test i.ttl);
      };
}

pub outliving_without : (limit : ℕ) (s all new : FrameSet) → all.ttl_to ≤ limit → AreFramesMatching [] s all → AreFramesWithout (has_ttl ∷ []) all new → AreFramesThat (λ frame. not (expires (Some limit) frame)) s new
outliving_without limit s all new le are less = record {
  inner = less.inner ∙ are.inner;
  within = λ frame port h. (are.within frame port (less.within frame port h).0).0;
  tested = λ frame port is h. none_tested limit (ttl_of (layers_of frame)) (sym (ttl_matches all.inner frame port is) ∙ (less.within frame port h).1);
  all = λ frame port is h test.
      let i = are.all frame port is h refl in
      less.all frame port i (ttl_matches all.inner frame port is ∙ none_left all.ttl_from all.ttl_to limit (ttl_of (layers_of frame)) le test i.ttl);
}
