-- Sets of frames, divided by whether conditions match.
use Rattle.std.proofs.Common.{◌≡◌, ◌∙◌, ◌<◌, ◌+◌, ◌∷◌, ◌++◌, ℕ, zero, suc, length, get_or, take, Bool, true, false, List, [], ap, refl, sym, subst, arith, inl, inr}
use Rattle.std.{specs.Global.Vec, specs.List.Contains, proofs.lemmas.List.append-nil, proofs.lemmas.List.Elements.Contains-push_cases}
use Rattle.of_oxm.specs.{declared.match_field.MatchField.MatchField, Relations.matches_map}
use Rattle.of_rewrite.specs.Frames.{IsFrame}
use Rattle.of_regions.specs.Conditions.{AreConditions}
use Rattle.of_symbolic.specs.{declared.pulling.Pulled.TheVariants.Never, declared.pulling.Pulled.TheVariants.When, Parts.AreListsOfConditions, InnerTags.description_of}
use Rattle.of_symbolic_run.specs.{declared.state.Emission.Emission, declared.frame_set.FrameSet.FrameSet, FrameSets.AreFramesMatching, FrameSets.AreFramesWithout, FrameSets.InFrames}
use Rattle.of_require.specs.{Deciding.AreDivided, Deciding.AreDividedByAll, Deciding.InSomeSet, Packets.AreAsked, Packets.IsAskedBy, Packets.IsPartBy, Packets.IsPartByAll}
use Rattle.of_require.proofs.{DecidingLemmas.none_in, DecidingLemmas.only_in, ListLemmas.at_end, ListLemmas.before_end, ListLemmas.each_more, ListLemmas.taken_item}

module _ (m : List MatchField) where
  pub divided_none : AreDivided m [] []
  divided_none = record { within = λ s there. absurd (none_in s there); all = λ frame port is there. absurd (none_in there.0 there.1) }

  module _ (sets divided : List FrameSet) (set matching without : FrameSet) (of : AreDivided m sets divided) (are : AreFramesMatching m set matching) (lack : AreFramesWithout m set without) where
    abbrev IsPart : FrameSet → Type 0
    IsPart s = (o : FrameSet) × Contains (sets ++ set ∷ []) o × IsPartBy m o s

    old_part : (s : FrameSet) → Contains divided s → IsPart s
    old_part s there = let h = of.within s there in (h.0, before_end sets set h.0 h.1, h.2)

    within_more : (s : FrameSet) → Contains ((divided ++ matching ∷ []) ++ without ∷ []) s → IsPart s
    within_more =
        each_more IsPart (divided ++ matching ∷ []) without
        (each_more IsPart divided matching old_part (set, at_end sets set, inl are))
        (set, at_end sets set, inr lack)

    in_own : (frame : List ℕ) (port : ℕ) → IsFrame frame → InFrames set frame port → InSomeSet ((divided ++ matching ∷ []) ++ without ∷ []) frame port
    in_own frame port is there = by_test (matches_map m (description_of set.inner frame port)) refl
      where
        by_test : (t : Bool) → matches_map m (description_of set.inner frame port) ≡ t → InSomeSet ((divided ++ matching ∷ []) ++ without ∷ []) frame port
        by_test true e = (matching, before_end (divided ++ matching ∷ []) without matching (at_end divided matching), are.all frame port is there e)
        by_test false e = (without, at_end (divided ++ matching ∷ []) without, lack.all frame port there e)

    in_old : (frame : List ℕ) (port : ℕ) → IsFrame frame → InSomeSet sets frame port → InSomeSet ((divided ++ matching ∷ []) ++ without ∷ []) frame port
    in_old frame port is there = let h = of.all frame port is there in (h.0, before_end (divided ++ matching ∷ []) without h.0 (before_end divided matching h.0 h.1), h.2)

    pub divided_more : AreDivided m (sets ++ set ∷ []) ((divided ++ matching ∷ []) ++ without ∷ [])
    divided_more = record {
      within = within_more;
      all = λ frame port is there. elim (Contains-push_cases sets set there.0 there.1) as (λ x. InSomeSet ((divided ++ matching ∷ []) ++ without ∷ []) frame port) [
        | inl before ↦ in_old frame port is (there.0, before, there.2)
        | inr same ↦ in_own frame port is (subst (λ (s : FrameSet). InFrames s frame port) (sym same) there.2)
      ];
    }

-- ---- by one more list of conditions

pub by_none : (frames : FrameSet) → AreDividedByAll [] frames (frames ∷ [])
by_none frames = record { within = λ s there. only_in frames s there; all = λ frame port is h. (frames, (0, omega arith, refl), h) }

part_more : (lists : List (Vec MatchField)) (m : Vec MatchField) (frames old new : FrameSet) → IsPartByAll lists frames old → IsPartBy m.items old new → IsPartByAll (lists ++ m ∷ []) frames new
part_more [] m frames old new is part = (new, subst (λ (s : FrameSet). IsPartBy m.items s new) is part, refl)
part_more (x ∷ lists) m frames old new (between, first, rest) part = (between, first, part_more lists m between old new rest part)

pub by_one_more : (lists : List (Vec MatchField)) (m : Vec MatchField) (frames : FrameSet) (sets new : List FrameSet) → AreDividedByAll lists frames sets → AreDivided m.items sets new → AreDividedByAll (lists ++ m ∷ []) frames new
by_one_more lists m frames sets new old one = record {
  within = λ s there. (let from = one.within s there in part_more lists m frames from.0 s (old.within from.0 from.1) from.2);
  all = λ frame port is h. one.all frame port is (old.all frame port is h);
}

-- ---- what is so of the frames of a part

abbrev pub AreAllIn : FrameSet → FrameSet → Type 0
AreAllIn s old = (frame : List ℕ) (port : ℕ) → InFrames s frame port → InFrames old frame port

-- the conditions match the descriptions of all frames of the set, or of none
abbrev pub AreMatchedAlike : Bool → List MatchField → FrameSet → Type 0
AreMatchedAlike told m s = (f g : List ℕ) (p q : ℕ) → InFrames s f p → InFrames s g q → matches_map m (description_of told f p) ≡ matches_map m (description_of told g q)

one_told : (m : List MatchField) (old new : FrameSet) → IsPartBy m old new → new.inner ≡ old.inner
one_told m old new (inl are) = are.inner
one_told m old new (inr lack) = lack.inner

one_within : (m : List MatchField) (old new : FrameSet) → IsPartBy m old new → AreAllIn new old
one_within m old new (inl are) frame port h = (are.within frame port h).0
one_within m old new (inr lack) frame port h = (lack.within frame port h).0

one_way : (m : List MatchField) (old new : FrameSet) → IsPartBy m old new → AreMatchedAlike old.inner m new
one_way m old new (inl are) f g p q in_f in_g = (are.within f p in_f).1 ∙ sym (are.within g q in_g).1
one_way m old new (inr lack) f g p q in_f in_g = (lack.within f p in_f).1 ∙ sym (lack.within g q in_g).1

pub part_within : (lists : List (Vec MatchField)) (old new : FrameSet) → IsPartByAll lists old new → AreAllIn new old
part_within [] old new is frame port h = subst (λ (s : FrameSet). InFrames s frame port) is h
part_within (m ∷ lists) old new (between, first, rest) frame port h = one_within m.items old between first frame port (part_within lists between new rest frame port h)

pub part_ways : (lists : List (Vec MatchField)) (old new : FrameSet) → IsPartByAll lists old new → (m : Vec MatchField) → Contains lists m → AreMatchedAlike old.inner m.items new
part_ways [] old new is m there = absurd (none_in m there)
part_ways (x ∷ lists) old new (between, first, rest) m (zero, lt, same) =
    let ways = subst (λ (y : Vec MatchField). AreMatchedAlike old.inner y.items between) same (one_way x.items old between first) in
    let within = part_within lists between new rest in
    λ f g p q in_f in_g. ways f g p q (within f p in_f) (within g q in_g)
part_ways (x ∷ lists) old new (between, first, rest) m (suc k, lt, same) = subst (λ (b : Bool). AreMatchedAlike b m.items new) (one_told x.items old between first) (part_ways lists between new rest m (k, omega (arith, lt), same))

-- ---- what one more packet asks

asked_append : (told : Bool) (fields : List MatchField) (es new : List Emission) (lists own : List (Vec MatchField)) → AreAsked told fields es lists → AreAsked told fields new own → AreAsked told fields (es ++ new) (lists ++ own)
asked_append told fields [] new lists own is more = subst (λ (l : List (Vec MatchField)). AreAsked told fields new (l ++ own)) (sym is) more
asked_append told fields (e ∷ es) new lists own (inl (never, rest)) more = inl (never, asked_append told fields es new lists own rest more)
asked_append told fields (e ∷ es) new lists own (inr (m, others, is, asked, rest)) more =
    inr (m, others ++ own, ap (λ (l : List (Vec MatchField)). l ++ own) is, asked, asked_append told fields es new others own rest more)

module _ (told : Bool) (fields : List MatchField) (emitted : List Emission) (i : ℕ) (e : Emission) (lists : List (Vec MatchField)) (lt : i < length emitted) (is : e ≡ get_or emitted i e) (old : AreAsked told fields (take i emitted) lists) where
  asked_next : (own : List (Vec MatchField)) → AreAsked told fields (e ∷ []) own → AreAsked told fields (take (i + 1) emitted) (lists ++ own)
  asked_next own more = subst (λ (es : List Emission). AreAsked told fields es (lists ++ own)) (sym (taken_item emitted i e lt is)) (asked_append told fields (take i emitted) (e ∷ []) lists own old more)

  pub asked_never : IsAskedBy told fields e Never → AreAsked told fields (take (i + 1) emitted) lists
  asked_never own = subst (AreAsked told fields (take (i + 1) emitted)) (append-nil lists) (asked_next [] (inl (own, refl)))

  pub asked_more : (m : Vec MatchField) → IsAskedBy told fields e (When m) → AreAsked told fields (take (i + 1) emitted) (lists ++ m ∷ [])
  asked_more m own = asked_next (m ∷ []) (inr (m, [], refl, own, refl))

pub conditions_more : (lists : List (Vec MatchField)) (m : Vec MatchField) → AreListsOfConditions lists → AreConditions m.items → AreListsOfConditions (lists ++ m ∷ [])
conditions_more lists m old own = each_more (λ (x : Vec MatchField). AreConditions x.items) lists m old own
