-- The verdict on a requirement is right.
use Rattle.std.proofs.Common.{◌≡◌, ℕ, Bool, true, false, List, refl, sym, subst, ap}
use Rattle.std.specs.Prelude.{⊤}
use Rattle.of_machine.specs.TheWorld.{TheWorld}
use Rattle.of_require.specs.Decisions.{IsDeciding, IsDecision, IsRight, NoneDecides, decides_so, verdict_by, verdict_by_frame, verdict_by_none}
use Rattle.of_require.specs.declared.deciding.Decision.{Decision}
use Rattle.of_require.specs.declared.deciding.Decision.TheVariants.{Frame, NoFrame, NoneMatches, Undecided}
use Rattle.of_require.specs.declared.requirement.Quantifier.{Quantifier}
use Rattle.of_require.specs.declared.requirement.Quantifier.TheVariants.{AtLeastOne, Each, No}
use Rattle.of_require.specs.{declared.requirement.Requirement.Requirement, Requirements.IsAbout, Requirements.IsMet, Requirements.IsMetBy, Requirements.does_at}
use Rattle.of_require.proofs.DecidingLemmas.{no_match}

both_ways : (b : Bool) → b ≡ true → b ≡ false → ⊥
both_ways true h k = cc
both_ways false h k = cc

not_true : (b : Bool) → decides_so Each b ≡ true → b ≡ false
not_true true h = absurd cc
not_true false h = refl

module _ (w : TheWorld) (r : Requirement) (steps : ℕ) where
  deciding : (q : Quantifier) → r.quantifier ≡ q → (frame : List ℕ) (port : ℕ) → IsAbout w r frame port → decides_so q (does_at w r frame port) ≡ true → IsDeciding w r frame port
  deciding q is frame port about h = record { about = about; decides = subst (λ (x : Quantifier). decides_so x (does_at w r frame port) ≡ true) (sym is) h }

  decided : (q : Quantifier) → r.quantifier ≡ q → (frame : List ℕ) (port : ℕ) → IsDeciding w r frame port → decides_so q (does_at w r frame port) ≡ true
  decided q is frame port d = subst (λ (x : Quantifier). decides_so x (does_at w r frame port) ≡ true) is d.decides

  met_by : (q : Quantifier) → r.quantifier ≡ q → IsMetBy q w r → IsMet w r
  met_by q is h = subst (λ (x : Quantifier). IsMetBy x w r) (sym is) h

  met_as : (q : Quantifier) → r.quantifier ≡ q → IsMet w r → IsMetBy q w r
  met_as q is h = subst (λ (x : Quantifier). IsMetBy x w r) is h

  by_frame : (q : Quantifier) → r.quantifier ≡ q → (frame : List ℕ) (port : ℕ) → IsDeciding w r frame port → IsRight w r (verdict_by_frame q)
  by_frame AtLeastOne is frame port d = met_by AtLeastOne is (frame, port, d.about, decided AtLeastOne is frame port d)
  by_frame No is frame port d = λ met. both_ways _ (decided No is frame port d) (met_as No is met frame port d.about)
  by_frame Each is frame port d = λ met. both_ways _ (met_as Each is met frame port d.about) (not_true _ (decided Each is frame port d))

  by_none : (q : Quantifier) → r.quantifier ≡ q → NoneDecides w r (λ port. ⊤) → IsRight w r (verdict_by_none q)
  by_none AtLeastOne is none = λ met. (let h = met_as AtLeastOne is met in none h.0 h.1 tt (deciding AtLeastOne is h.0 h.1 h.2 h.3))
  by_none No is none = met_by No is (λ frame port about. by_test frame port about (does_at w r frame port) refl)
    where
      by_test : (frame : List ℕ) (port : ℕ) → IsAbout w r frame port → (b : Bool) → does_at w r frame port ≡ b → does_at w r frame port ≡ false
      by_test frame port about true e = absurd (none frame port tt (deciding No is frame port about e))
      by_test frame port about false e = e
  by_none Each is none = met_by Each is (λ frame port about. by_test frame port about (does_at w r frame port) refl)
    where
      by_test : (frame : List ℕ) (port : ℕ) → IsAbout w r frame port → (b : Bool) → does_at w r frame port ≡ b → does_at w r frame port ≡ true
      by_test frame port about true e = e
      by_test frame port about false e = absurd (none frame port tt (deciding Each is frame port about (ap (decides_so Each) e)))

  pub right : (d : Decision) → IsDecision w r steps d → IsRight w r (verdict_by r.quantifier d)
  right (Frame shown) h = by_frame r.quantifier refl shown.frame.items shown.in_port h.0
  right NoFrame h = by_none r.quantifier refl h
  right NoneMatches h = by_none r.quantifier refl (no_match w r (λ port. ⊤) h)
  right (Undecided port) h = tt
