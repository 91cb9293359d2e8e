use Rattle.std.proofs.Common.{◌≡◌, ◌∙◌, ◌++◌, ◌∷◌, List, ℕ, true, ap, eqb, refl, subst, sym}
use Rattle.std.{specs.List.Contains, proofs.lemmas.List.append-nil}
use Rattle.of_datapath.specs.{Datapath.world_of, Numbers.forwarding_of}
use Rattle.of_paths.specs.declared.path.PathClass.{PathClass}
use Rattle.of_require.{specs.Deciding.IsSoughtInClass, proofs.DecidingLemmas.in_middle, proofs.DecidingLemmas.no_items, proofs.DecidingLemmas.one_more, proofs.ListLemmas.at_end}
use Rattle.of_require.proofs.PacketLemmas.{one_without}
use Rattle.of_require.proofs.deciding.seek_packets.Goals as goal

pub loop-class-preserved-in-NoFrame : goal.loop-class-preserved-in-NoFrame
loop-class-preserved-in-NoFrame g c = record {
  parts = one_more c.loop-class.yielded c.in-Some.class c.next.new.self.rest.items ∙ (ap (λ (l : List PathClass). c.loop-class.yielded ++ l) (sym c.in-Some.ensures.steps.0) ∙ c.loop-class.invariant.parts);
  sought = one_without (IsSoughtInClass (world_of (forwarding_of c.args.datapath.now)) c.args.requirement.now c.args.fields.now c.args.steps) c.loop-class.yielded c.in-Some.class c.loop-class.is_known c.loop-class.invariant.sought (rw c.in-NoFrame.is at c.in_ok-seek_in_class.ensures);
}

pub loop-class-preserved : goal.loop-class-preserved
loop-class-preserved g c = record {
  parts = one_more c.loop-class.yielded c.in-Some.class c.next.new.self.rest.items ∙ (ap (λ (l : List PathClass). c.loop-class.yielded ++ l) (sym c.in-Some.ensures.steps.0) ∙ c.loop-class.invariant.parts);
  sought = (c.in-Some.class, at_end c.loop-class.yielded c.in-Some.class, rw c.in-Undecided.is at c.in_ok-seek_in_class.ensures);
}

pub returns-in-Frame : goal.returns-in-Frame
returns-in-Frame g c =
    let own = rw c.in-Frame.is at c.in_ok-seek_in_class.ensures in
    let parts : c.loop-class.yielded ++ c.in-Some.class ∷ c.next.new.self.rest.items ≡ c.args.classes.items = ap (λ (l : List PathClass). c.loop-class.yielded ++ l) (sym c.in-Some.ensures.steps.0) ∙ c.loop-class.invariant.parts in
    (c.in-Some.class, subst (λ (l : List PathClass). Contains l c.in-Some.class) parts (in_middle c.loop-class.yielded c.in-Some.class c.next.new.self.rest.items), own)

pub returns : goal.returns
returns g c =
    let rest = c.loop-class.class-iterator.rest in
    let none = no_items rest.items true (ap (λ (n : ℕ). eqb n 0) (sym c.in-None.ensures.steps.0 ∙ rest.ok.0)) refl in
    let all : c.loop-class.yielded ≡ c.args.classes.items = sym (append-nil c.loop-class.yielded) ∙ (ap (λ (l : List PathClass). c.loop-class.yielded ++ l) (sym none) ∙ c.loop-class.invariant.parts) in
    rw (c.sought_so_far.ensures, sym all) c.loop-class.invariant.sought
