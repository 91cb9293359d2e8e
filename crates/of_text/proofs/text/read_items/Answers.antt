use Rattle.std.proofs.Common.{◌≡◌, ℕ, List, ◌∙◌, refl}
use Rattle.of_text.specs.{declared.text.TextError.TextError, declared.text.TextError.TheVariants.Memory, declared.text.TextError.TheVariants.Syntax, Groups.TextGroup, Flows.Flow}
use Rattle.of_text.{specs.Texts.EncodeItems, specs.Texts.TextFails, proofs.TextLemmas.gathered_encodes, proofs.TextLemmas.no_fault, proofs.TextLemmas.one_list}
use Rattle.of_lines.specs.Lines.{lines_of}
use Rattle.of_text.proofs.text.read_items.Goals as goal

only_memory : (lines : List (List ℕ)) (groups : List TextGroup) (flows : List Flow) (e : TextError) → EncodeItems lines groups flows → TextFails lines e → e ≡ Memory
only_memory lines groups flows Memory s f = refl
only_memory lines groups flows (Syntax n) s f = absurd (no_fault lines groups flows n s f)

pub returns-in-Err-clause-only : goal.returns-in-Err-clause-only
returns-in-Err-clause-only c = λ groups flows s. only_memory (lines_of c.args.text.now) groups flows c.in-Err.e s c.in-Err.ensures.failed

same_encoded : (lines : List (List ℕ)) (gs hs : List TextGroup) (a b : List Flow) → gs ≡ hs → a ≡ b → EncodeItems lines hs b → EncodeItems lines gs a
same_encoded lines gs hs a b g f s = rw (g, f) s

pub returns-in_ok-items_of-in-Ok-clause-found : goal.returns-in_ok-items_of-in-Ok-clause-found
returns-in_ok-items_of-in-Ok-clause-found c =
    same_encoded (lines_of c.args.text.now) _ _ _ _ c.in_ok-items_of-in-Ok.ensures.groups c.in_ok-items_of-in-Ok.ensures.flows (gathered_encodes (lines_of c.args.text.now) c.in-Ok.rows.items c.in-Ok.ensures.found)

pub returns-in_ok-items_of-in-Ok-clause-only : goal.returns-in_ok-items_of-in-Ok-clause-only
returns-in_ok-items_of-in-Ok-clause-only c = λ groups flows s.
    let one = one_list (lines_of c.args.text.now) _ groups _ flows (gathered_encodes (lines_of c.args.text.now) c.in-Ok.rows.items c.in-Ok.ensures.found) s in
    (c.in_ok-items_of-in-Ok.ensures.groups ∙ one.0, c.in_ok-items_of-in-Ok.ensures.flows ∙ one.1)
